use Rattle.std.proofs.Common.{◌∙◌}
use Rattle.uuid.specs.Text.{parsed}
use Rattle.script_commands.proofs.OptionLemmas.{ok_is_option}
use Rattle.script_commands.proofs.ServerLemmas.{server_is, server_is_none}
use Rattle.script_commands.proofs.word.read_server.Goals as goal

pub returns-then-text-ne36 : goal.returns-then-text-ne36
returns-then-text-ne36 c = server_is_none c.args.text.now c.if-text-ne36.true

pub returns : goal.returns
returns c =
    server_is c.args.text.now c.ok.result c.if-text-ne36.false
    (c.ok.ensures.value ∙ ok_is_option c.try_parse_ascii.result (parsed c.args.text.now) c.try_parse_ascii.ensures.ok c.try_parse_ascii.ensures.bytes)

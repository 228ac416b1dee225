use Rattle.shard_script.proofs.ScriptLemmas.{gives_fits}
use Rattle.shard_script.proofs.script.read_text.Goals as goal

pub returns-clause-fits : goal.returns-clause-fits
returns-clause-fits c = gives_fits c.args.text.now _ c.read_whole.result c.read_whole.ensures

use Rattle.std.proofs.Common.{◌≡◌, IfOk}
use Rattle.shard_top.specs.Texts.{fault_text}
use Rattle.shard_script.proofs.ScriptLemmas.{lines_read}
use Rattle.shard_top.proofs.TopLemmas.{gave_up_text, gives_line, said_line}
use Rattle.shard_top.proofs.top.run_reading.Goals as goal

pub returns-in-Err-OutOfMemory-clause-answers : goal.returns-in-Err-OutOfMemory-clause-answers
returns-in-Err-OutOfMemory-clause-answers g c = gave_up_text c.args.asked c.args.text.now _ _ _ _ _ c.ended.ensures.status c.ended.ensures.empty c.ended.ensures.unnoted

pub returns-in-Ok-clause-within : goal.returns-in-Ok-clause-within
returns-in-Ok-clause-within g c = λ well. (lines_read c.args.text.now c.in-Ok.script c.in-Ok.ensures.exact).0

pub returns-in-Err-Line-clause-answers : goal.returns-in-Err-Line-clause-answers
returns-in-Err-Line-clause-answers g c =
    let text : IfOk c.fault_text.result (λ t. t.items ≡ fault_text c.in-Err-Line.line c.in-Err-Line.fault) = rw c.in-Err-Line.field-0-is at c.fault_text.ensures in
    rw c.ended-in-Err-Line.ensures.status
    (said_line c.args.asked c.args.text.now c.in-Err-Line.line c.in-Err-Line.fault _ c.say-status.result _ _ _ _ c.fault_text.result
    (gives_line c.in-Err-Line.field-0 _ _ c.in-Err-Line.line c.in-Err-Line.fault c.in-Err-Line.field-0-is c.in-Err-Line.ensures.exact) c.ended-in-Err-Line.ensures.empty c.ended-in-Err-Line.ensures.unnoted
    text c.say-status.ensures.said c.say-status.ensures.part)

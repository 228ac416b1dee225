use Rattle.std.proofs.Common.{◌≡◌, Err}
use Rattle.std.specs.Result.{IsErrOf}
use Rattle.shard_calls.specs.declared.halt.Halt.{Halt}
use Rattle.shard_calls.specs.declared.halt.Halt.TheVariants as halts
use Rattle.shard_top.proofs.TurnLemmas.{plain_notes, plain_noted_full}
use Rattle.shard_top.proofs.playing.note_or_stop.Goals as goal

full_by : (x : Halt) → x ≡ halts.Full → IsErrOf {T = Unit {0}} (Err x) halts.Full
full_by x is = cc

pub returns-in-Ok-clause-turn : goal.returns-in-Ok-clause-turn
returns-in-Ok-clause-turn c = λ lines before h closed is.
    plain_notes lines c.args.shard.now c.note.new.shard before c.args.leaving c.args.refused.now c.args.player.now c.in-Ok.ensures.ok c.in-Ok.ensures.room h closed is

pub returns-in-Err-Full-clause-turn : goal.returns-in-Err-Full-clause-turn
returns-in-Err-Full-clause-turn c = λ lines before h closed is.
    plain_noted_full lines c.args.shard.now c.note.new.shard before c.args.leaving c.args.refused.now c.args.player.now c.in-Err-Full.ensures.err
    (c.in-Err-Full.ensures.full (full_by c.in-Err-Full.field-0 c.in-Err-Full.field-0-is)) h closed is

use Rattle.std.proofs.Common.{◌≡◌, Bool}
use Rattle.std.proofs.lemmas.Result.{IfOk-weaker}
use Rattle.shard_calls.specs.Causes.{emergency_is_refused}
use Rattle.causes.specs.Watching.{forced_refuses}
use Rattle.causes.proofs.WatchLemmas.{forced_cause}
use Rattle.causes.proofs.watching.forced_refuses.Goals as goal

pub returns-in-None : goal.returns-in-None
returns-in-None c =
    IfOk-weaker c.is_refused.result
    (λ (b : Bool). b ≡ emergency_is_refused c.args.group.now c.forced.result c.args.span.now c.args.refusal.now)
    (λ (b : Bool). b ≡ forced_refuses c.args.group.now c.args.span.now c.args.refusal.now c.args.undone.now)
    (λ b e. forced_cause c.args.group.now c.forced.result c.args.span.now c.args.refusal.now c.args.undone.now b c.forced.ensures c.in-None.is e)
    c.is_refused.ensures

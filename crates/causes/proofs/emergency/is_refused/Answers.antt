use Rattle.std.proofs.Common.{◌≡◌, ◌∙◌, ◌||◌, Bool}
use Rattle.std.proofs.lemmas.Result.{IfOk-weaker}
use Rattle.shard_calls.specs.Causes.{calls_of, emergency_is_refused}
use Rattle.shard_calls.specs.declared.span.Kind.TheVariants as kinds
use Rattle.causes.specs.Emergency.{refuses_early, refuses_by_stops, refuses_late}
use Rattle.causes.proofs.EmergencyLemmas.{whole}
use Rattle.causes.proofs.emergency.is_refused.Goals as goal

pub returns : goal.returns
returns c =
    IfOk-weaker c.any_refuses.result
    (λ (b : Bool). b ≡ (refuses_early c.args.group.now c.args.options.now c.args.span.now c.args.refusal.now
    || refuses_by_stops c.args.group.now c.args.options.now (calls_of kinds.Stop c.args.span.now) c.args.span.now c.args.refusal.now || refuses_late c.args.span.now c.args.refusal.now))
    (λ (b : Bool). b ≡ emergency_is_refused c.args.group.now c.args.options.now c.args.span.now c.args.refusal.now)
    (λ b e. e ∙ whole c.args.group.now c.args.options.now c.args.span.now c.args.refusal.now) c.any_refuses.ensures

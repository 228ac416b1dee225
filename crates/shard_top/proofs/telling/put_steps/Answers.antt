use Rattle.std.specs.Prelude.{⊤}
use Rattle.shard_top.proofs.TellingLemmas.{step_item, one_put, line_failed}
use Rattle.shard_top.proofs.telling.put_steps.Goals as goal

pub returns-in-Err : goal.returns-in-Err
returns-in-Err g c =
    let left = step_item c.args.commands.now c.args.steps.now c.loop-step.step-index c.step-item.result c.loop-step-test.true c.step-item.is in
    line_failed ⊤ ⊤ c.in-Err.fault _ _ _ _ _ _ _ _ _ _ c.loop-step.invariant left c.in-Err.ensures

pub loop-step-preserved : goal.loop-step-preserved
loop-step-preserved g c =
    let left = step_item c.args.commands.now c.args.steps.now c.loop-step.step-index c.step-item.result c.loop-step-test.true c.step-item.is in
    let whole = c.in_default.ensures in
    one_put _ _ _ _ _ _ _ _ _ _ c.loop-step.invariant left whole.0 whole.1

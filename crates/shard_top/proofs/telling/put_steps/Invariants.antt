use Rattle.std.proofs.Common.{drop}
use Rattle.history_text.specs.Histories.{step_lines}
use Rattle.shard_top.proofs.TellingLemmas.{Putting}
use Rattle.shard_top.proofs.telling.put_steps.Given as goal

abbrev pub invariant-loop-step : goal.invariant-loop-step
invariant-loop-step g l =
    Putting (g.O.Sink.taken l.fn.sink) (g.O.Sink.taken l.sink) (g.O.Sink.faults l.fn.sink) (g.O.Sink.faults l.sink) (step_lines l.commands (drop l.step-index l.steps)) (step_lines l.commands l.steps)

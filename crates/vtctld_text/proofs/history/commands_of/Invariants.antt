use Rattle.std.proofs.Common.{◌≡◌, take}
use Rattle.vtctld_text.specs.Texts.{commands_of}
use Rattle.vtctld_text.proofs.history.commands_of.Given as goal

abbrev pub invariant-loop-step : goal.invariant-loop-step
invariant-loop-step l = l.commands.items ≡ commands_of (take l.step-index l.steps)

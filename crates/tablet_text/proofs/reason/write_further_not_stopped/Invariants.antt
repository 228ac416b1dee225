use Rattle.std.proofs.Common.{◌≡◌, ◌++◌, take}
use Rattle.tablet_text.specs.Refusals.{further_text, not_stopped_text}
use Rattle.tablet_text.proofs.reason.write_further_not_stopped.Given as goal

abbrev pub invariant-loop-tablet : goal.invariant-loop-tablet
invariant-loop-tablet l = l.into.items ≡ l.fn.into.items ++ further_text not_stopped_text (take l.tablet-index l.tablets)

use Rattle.std.proofs.Common.{◌≡◌, ◌++◌, take}
use Rattle.history_text.specs.Declarations.{tablet_lines}
use Rattle.history_text.proofs.declaration.append_tablets.Given as goal

abbrev pub invariant-loop-tablet : goal.invariant-loop-tablet
invariant-loop-tablet l = l.into.items ≡ l.fn.into.items ++ tablet_lines (take l.tablet-index l.tablets)

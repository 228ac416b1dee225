use Rattle.std.proofs.Common.{◌≡◌}
use Rattle.turns.specs.Turns.{OnlyOthers}
use Rattle.turns.proofs.looking.give_up_one.Given as goal

abbrev pub invariant-loop-at : goal.invariant-loop-at
invariant-loop-at g l = record {
  only : OnlyOthers l.number (g.F.Floor.shown l.fn.floor) (g.F.Floor.shown l.floor);
  group : g.F.Floor.group l.floor ≡ g.F.Floor.group l.fn.floor;
  same : l.span.items ≡ l.fn.span.items;
}

use Rattle.std.proofs.Common.{◌≡◌, length}
use Rattle.turns.specs.Turns.{Looks}
use Rattle.turns.proofs.looking.look.Given as goal

abbrev pub invariant-loop-at : goal.invariant-loop-at
invariant-loop-at g l = record {
  looks : Looks l.number (g.F.Floor.shown l.fn.floor) (g.F.Floor.shown l.floor) l.span.items l.at;
  group : g.F.Floor.group l.floor ≡ g.F.Floor.group l.fn.floor;
  same_length : length l.span.items ≡ length l.fn.span.items;
}

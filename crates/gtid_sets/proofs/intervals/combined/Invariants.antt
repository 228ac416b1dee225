use Rattle.std.proofs.Common.{◌≡◌, ◌+◌, ◌∷◌, length}
use Rattle.gtid_sets.specs.declared.gtid.Gtid.{Gtid}
use Rattle.gtid_sets.specs.Intervals.{Ordered, StartsBy, Behind, start, within, takes}
use Rattle.gtid_sets.proofs.WalkLemmas.{Left}
use Rattle.gtid_sets.proofs.intervals.combined.Given as goal

abbrev pub invariant-loop-y : goal.invariant-loop-y
invariant-loop-y l = record {
  in_order : Ordered l.all.items;
  left : Ordered (l.x ∷ l.left);
  right : Ordered l.right;
  behind_left : StartsBy (start l.x) l.all.items;
  behind_right : Behind l.all.items l.right;
  members : (g : Gtid) → Left l.taken l.all.items (l.x ∷ l.left) l.right g ≡ takes l.taken (within l.a g) (within l.b g);
}

abbrev pub decreases-loop-y : goal.decreases-loop-y
decreases-loop-y l = length l.left + length l.right

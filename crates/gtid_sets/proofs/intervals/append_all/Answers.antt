use Rattle.std.proofs.Common.{◌≡◌, ◌∙◌, ◌∷◌, ◌||◌, ap, sym, subst}
use Rattle.gtid_sets.specs.Intervals.{StartsRise, holds, within}
use Rattle.gtid_sets.proofs.BoolLemmas.{or_assoc}
use Rattle.gtid_sets.proofs.AppendLemmas.{rise_rest, behind_rise}
use Rattle.gtid_sets.proofs.intervals.append_all.Goals as goal

pub loop-next-preserved : goal.loop-next-preserved
loop-next-preserved c =
    let split : c.loop-next.left.now ≡ c.in-Some.next.now ∷ c.in-Some.rest.now = c.in-Some.ensures.cases.0 in
    let rise : StartsRise (c.in-Some.next.now ∷ c.in-Some.rest.now) = subst StartsRise split c.loop-next.invariant.rise in
    record {
      in_order = c.in_ok-append_some.ensures.in_order;
      rise = rise_rest c.in-Some.next.now c.in-Some.rest.now rise;
      behind = behind_rise c.append_some.new.intervals.items c.in-Some.next.now c.in-Some.rest.now rise c.in_ok-append_some.ensures.behind;
      members = λ g. ap (λ b. b || within c.in-Some.rest.now g) (c.in_ok-append_some.ensures.members g)
          ∙ sym (or_assoc (within c.loop-next.intervals.items g) (holds c.in-Some.next.now g) (within c.in-Some.rest.now g))
          ∙ ap (λ xs. within c.loop-next.intervals.items g || within xs g) (sym split) ∙ c.loop-next.invariant.members g;
    }

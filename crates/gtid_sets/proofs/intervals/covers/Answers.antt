use Rattle.std.proofs.Common.{◌≡◌, ◌∙◌, ◌∷◌, [], sym, subst}
use Rattle.gtid_sets.specs.Intervals.{Ordered}
use Rattle.gtid_sets.proofs.LookLemmas.{is_empty}
use Rattle.gtid_sets.proofs.CoverLemmas.{HasAll, all_contained, all_fewer, all_more, all_without, not_all, none_left}
use Rattle.gtid_sets.proofs.intervals.covers.Goals as goal

pub returns-in_default-split_first : goal.returns-in_default-split_first
returns-in_default-split_first c =
    let right : c.loop-wanted.right.now ≡ c.in-Some.wanted.now ∷ c.in-Some.later.now = c.in-Some.ensures.cases.0 in
    let none : c.loop-wanted.left.now ≡ [] = is_empty c.loop-wanted.left.now c.in_default-split_first.ensures.cases in (
      λ h. absurd (cc),
      λ all. absurd (none_left c.in-Some.later.now c.in-Some.wanted.now (subst Ordered right c.loop-wanted.invariant.right)
          (subst (λ xs. HasAll xs (c.in-Some.wanted.now ∷ c.in-Some.later.now)) none (subst (HasAll c.loop-wanted.left.now) right (c.loop-wanted.invariant.part all)))),
    )

pub loop-wanted-preserved-then-contains : goal.loop-wanted-preserved-then-contains
loop-wanted-preserved-then-contains c =
    let right : c.loop-wanted.right.now ≡ c.in-Some.wanted.now ∷ c.in-Some.later.now = c.in-Some.ensures.cases.0 in
    let left : c.loop-wanted.left.now ≡ c.in-Some-split_first.held.now ∷ c.in-Some-split_first.rest.now = c.in-Some-split_first.ensures.cases.0 in
    let order : Ordered (c.in-Some.wanted.now ∷ c.in-Some.later.now) = subst Ordered right c.loop-wanted.invariant.right in
    record {
      left = c.loop-wanted.invariant.left;
      right = order.1.1;
      whole = λ all. c.loop-wanted.invariant.whole
          (subst (λ xs. HasAll xs c.loop-wanted.right.now) (sym left) (subst (HasAll (c.in-Some-split_first.held.now ∷ c.in-Some-split_first.rest.now)) (sym right)
          (all_contained c.in-Some-split_first.rest.now c.in-Some.later.now c.in-Some-split_first.held.now c.in-Some.wanted.now (sym c.contains.ensures ∙ c.if-contains.true) (subst (λ xs. HasAll xs c.in-Some.later.now) left all))));
      part = λ all. all_fewer c.loop-wanted.left.now c.in-Some.later.now c.in-Some.wanted.now (subst (HasAll c.loop-wanted.left.now) right (c.loop-wanted.invariant.part all));
    }

pub loop-wanted-preserved : goal.loop-wanted-preserved
loop-wanted-preserved c =
    let right : c.loop-wanted.right.now ≡ c.in-Some.wanted.now ∷ c.in-Some.later.now = c.in-Some.ensures.cases.0 in
    let left : c.loop-wanted.left.now ≡ c.in-Some-split_first.held.now ∷ c.in-Some-split_first.rest.now = c.in-Some-split_first.ensures.cases.0 in
    let order : Ordered (c.in-Some.wanted.now ∷ c.in-Some.later.now) = subst Ordered right c.loop-wanted.invariant.right in
    let own : Ordered (c.in-Some-split_first.held.now ∷ c.in-Some-split_first.rest.now) = subst Ordered left c.loop-wanted.invariant.left in
    record {
      left = own.1.1;
      right = c.loop-wanted.invariant.right;
      whole = λ all. c.loop-wanted.invariant.whole (subst (λ xs. HasAll xs c.loop-wanted.right.now) (sym left) (all_more c.in-Some-split_first.rest.now c.loop-wanted.right.now c.in-Some-split_first.held.now all));
      part = λ all. subst (HasAll c.in-Some-split_first.rest.now) (sym right)
          (all_without c.in-Some-split_first.rest.now c.in-Some.later.now c.in-Some-split_first.held.now c.in-Some.wanted.now order (sym c.stands_before.ensures ∙ c.if-stands_before.true)
          (subst (λ xs. HasAll xs (c.in-Some.wanted.now ∷ c.in-Some.later.now)) left (subst (HasAll c.loop-wanted.left.now) right (c.loop-wanted.invariant.part all))));
    }

pub returns-else-stands_before : goal.returns-else-stands_before
returns-else-stands_before c =
    let right : c.loop-wanted.right.now ≡ c.in-Some.wanted.now ∷ c.in-Some.later.now = c.in-Some.ensures.cases.0 in
    let left : c.loop-wanted.left.now ≡ c.in-Some-split_first.held.now ∷ c.in-Some-split_first.rest.now = c.in-Some-split_first.ensures.cases.0 in (
      λ h. absurd (cc),
      λ all. absurd (not_all c.in-Some-split_first.rest.now c.in-Some.later.now c.in-Some-split_first.held.now c.in-Some.wanted.now (subst Ordered left c.loop-wanted.invariant.left) (subst Ordered right c.loop-wanted.invariant.right)
          (sym c.contains.ensures ∙ c.if-contains.false) (sym c.stands_before.ensures ∙ c.if-stands_before.false)
          (subst (λ xs. HasAll xs (c.in-Some.wanted.now ∷ c.in-Some.later.now)) left (subst (HasAll c.loop-wanted.left.now) right (c.loop-wanted.invariant.part all)))),
    )

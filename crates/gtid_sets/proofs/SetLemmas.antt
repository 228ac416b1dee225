-- What lists of intervals in order say of the sets that they stand for.
use Rattle.std.proofs.Common.{◌≡◌, ◌↔◌, Bool, true, not, ◌&&◌, ◌||◌, IsTrue, List, [], refl, ap, sym, ◌∙◌}
use Rattle.std.specs.Cmp.{both_ways}
use Rattle.std.specs.Bool.{Decides}
use Rattle.std.specs.Cmp.Lexicographic.{pointwise}
use Rattle.std.proofs.lemmas.Slice.Eq.{slice_eq-Decides}
use Rattle.gtid_sets.specs.declared.gtid.Gtid.{Gtid}
use Rattle.gtid_sets.specs.declared.interval.Interval.{Interval}
use Rattle.gtid_sets.specs.Gtid.{gtid_eq}
use Rattle.gtid_sets.specs.Position.{Position, nothing, with_gtid, has, union, minus, covers}
use Rattle.gtid_sets.specs.StoredPosition.{position_eq}
use Rattle.gtid_sets.specs.Intervals.{within, HasWith, Ordered, listed, position_of}
use Rattle.gtid_sets.proofs.PositionLemmas.{has-with_gtid, has-union, has-minus, same_members, covers-has, covers-from_has, position_eq-Decides}
use Rattle.gtid_sets.proofs.ListedLemmas.{has_position_of}
use Rattle.gtid_sets.proofs.SameLemmas.{same_intervals, interval_eq, interval_eq-Decides}

pub set_of_none : position_of [] ≡ nothing
unfolding position_of listed
set_of_none = refl

-- a set with the members of a list
pub set_of : (p : Position) (xs : List Interval) → ((g : Gtid) → has p g ≡ within xs g) → p ≡ position_of xs
set_of p xs same = same_members p (position_of xs) (λ g. same g ∙ sym (has_position_of xs g))

-- a list with the members of a set
pub has_of : (p : Position) (xs : List Interval) → position_of xs ≡ p → (g : Gtid) → within xs g ≡ has p g
has_of p xs e g = sym (has_position_of xs g) ∙ ap (λ r. has r g) e

pub set_with : (p : Position) (g : Gtid) (xs ys : List Interval) → position_of xs ≡ p → HasWith g xs ys → position_of ys ≡ with_gtid p g
set_with p g xs ys e more =
    same_members (position_of ys) (with_gtid p g) (λ q. has_position_of ys q ∙ more q ∙ ap (λ b. gtid_eq q g || b) (has_of p xs e q) ∙ sym (has-with_gtid p g q))

pub set_union : (p q : Position) (xs ys zs : List Interval) → position_of xs ≡ p → position_of ys ≡ q → ((g : Gtid) → within zs g ≡ (within xs g || within ys g)) → position_of zs ≡ union p q
set_union p q xs ys zs e f all =
    same_members (position_of zs) (union p q) (λ g. has_position_of zs g ∙ all g ∙ ap (λ b. b || within ys g) (has_of p xs e g) ∙ ap (λ b. has p g || b) (has_of q ys f g) ∙ sym (has-union p q g))

pub set_minus : (p q : Position) (xs ys zs : List Interval) → position_of xs ≡ p → position_of ys ≡ q → ((g : Gtid) → within zs g ≡ (within xs g && not (within ys g))) → position_of zs ≡ minus p q
set_minus p q xs ys zs e f all =
    same_members (position_of zs) (minus p q) (λ g. has_position_of zs g ∙ all g ∙ ap (λ b. b && not (within ys g)) (has_of p xs e g) ∙ ap (λ b. has p g && not b) (has_of q ys f g) ∙ sym (has-minus p q g))

pub set_covers : (p q : Position) (xs ys : List Interval) (r : Bool) → position_of xs ≡ p → position_of ys ≡ q → (IsTrue r ↔ ((g : Gtid) → within ys g ≡ true → within xs g ≡ true)) → r ≡ covers p q
set_covers p q xs ys r e f it =
    both_ways r (covers p q) (λ h. covers-from_has p q (λ g m. sym (has_of p xs e g) ∙ it.0 h g (has_of q ys f g ∙ m))) (λ h. it.1 (λ g m. has_of p xs e g ∙ covers-has p q g h (sym (has_of q ys f g) ∙ m)))

-- sets are one where their lists are
pub set_eq : (p q : Position) (xs ys : List Interval) (r : Bool) → position_of xs ≡ p → position_of ys ≡ q → Ordered xs → Ordered ys → r ≡ pointwise interval_eq xs ys → r ≡ position_eq p q
set_eq p q xs ys r e f h k it =
    let lists : Decides r (xs ≡ ys) = slice_eq-Decides interval_eq-Decides xs ys r it in
    let sets : Decides (position_eq p q) (p ≡ q) = position_eq-Decides p q in
    both_ways r (position_eq p q) (λ t. sets.1 (sym e ∙ ap position_of (lists.0 t) ∙ f))
    (λ t. lists.1 (same_intervals xs ys h k (λ g. has_of p xs e g ∙ ap (λ s. has s g) (sets.0 t) ∙ sym (has_of q ys f g))))

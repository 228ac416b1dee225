-- What the tests on aliases say.
use Rattle.std.proofs.Common.{◌≡◌, Bool, true, false, refl, subst, nat_eq, ◌&&◌}
use Rattle.std.specs.Bool.{Decides}
use Rattle.std.specs.Str.{bytes_eq}
use Rattle.shard_names.specs.declared.alias.Alias.{Alias}
use Rattle.shard_names.specs.Tablets.{alias_eq}
use Rattle.std.proofs.lemmas.Slice.Eq.{bytes_eq-Decides}
use Rattle.std.proofs.lemmas.Bool.Decides.{Decides-eqb}

pub both_left : (a b : Bool) → (a && b) ≡ true → a ≡ true
both_left true b h = refl
both_left false b h = h

pub both_right : (a b : Bool) → (a && b) ≡ true → b ≡ true
both_right true b h = h
both_right false b h = absurd (cc)

pub both : (a b : Bool) → a ≡ true → b ≡ true → (a && b) ≡ true
both a b p q = rw (p, q) refl

pub alias_eq_is : (a b : Alias) → alias_eq a b ≡ true → a ≡ b
alias_eq_is a b h =
    let cells : a.cell ≡ b.cell = (bytes_eq-Decides a.cell b.cell).0 (both_left (bytes_eq a.cell b.cell) (nat_eq a.uid b.uid) h) in
    let uids : a.uid ≡ b.uid = (Decides-eqb a.uid b.uid).0 (both_right (bytes_eq a.cell b.cell) (nat_eq a.uid b.uid) h) in
    λ i. record { cell = cells i; uid = uids i }

pub alias_eq_itself : (a : Alias) → alias_eq a a ≡ true
alias_eq_itself a = both (bytes_eq a.cell a.cell) (nat_eq a.uid a.uid) ((bytes_eq-Decides a.cell a.cell).1 refl) ((Decides-eqb a.uid a.uid).1 refl)

-- the test decides whether two aliases are one
pub alias_eq-Decides : (a b : Alias) → Decides (alias_eq a b) (a ≡ b)
alias_eq-Decides a b = ((λ h. alias_eq_is a b h), (λ e. subst (λ (c : Alias). alias_eq a c ≡ true) e (alias_eq_itself a)))

-- What the tests on two transactions say.
use Rattle.std.proofs.Common.{◌≡◌, ℕ, true, false, List, refl, ap, subst, nat_eq}
use Rattle.std.specs.Bool.{Decides}
use Rattle.std.specs.Str.{bytes_eq}
use Rattle.std.specs.Ordering.{nat_cmp}
use Rattle.std.specs.Cmp.Lexicographic.{slice_cmp}
use Rattle.std.specs.declared.cmp.Ordering.TheVariants.{Less, Equal}
use Rattle.std.proofs.lemmas.Cmp.{tied_itself}
use Rattle.std.proofs.lemmas.Slice.Eq.{bytes_eq-Decides}
use Rattle.std.proofs.lemmas.Bool.Decides.{Decides-eqb}
use Rattle.std.proofs.lemmas.Map.Lookups.{exact_pairs, exact_bytes, exact_unsigned}
use Rattle.shard_names.proofs.TabletLemmas.{both_left, both_right, both}
use Rattle.gtid_sets.specs.declared.gtid.Gtid.{Gtid}
use Rattle.gtid_sets.specs.Gtid.{gtid_cmp, gtid_eq}
use Rattle.gtid_sets.specs.GtidOrder.{gtid_total}

-- transactions that compare as equal are one
pub same_gtid : (a b : Gtid) → gtid_cmp a b ≡ Equal → a ≡ b
same_gtid a b e =
    ap (λ (p : List ℕ × ℕ). record { server = p.0; number = p.1 }) (exact_pairs (slice_cmp nat_cmp) nat_cmp exact_bytes exact_unsigned (a.server, a.number) (b.server, b.number) e)

pub gtid_eq_itself : (a : Gtid) → gtid_eq a a ≡ true
gtid_eq_itself a = both (bytes_eq a.server a.server) (nat_eq a.number a.number) ((bytes_eq-Decides a.server a.server).1 refl) ((Decides-eqb a.number a.number).1 refl)

pub gtid_eq_is : (a b : Gtid) → gtid_eq a b ≡ true → a ≡ b
gtid_eq_is a b h =
    let servers : a.server ≡ b.server = (bytes_eq-Decides a.server b.server).0 (both_left (bytes_eq a.server b.server) (nat_eq a.number b.number) h) in
    let numbers : a.number ≡ b.number = (Decides-eqb a.number b.number).0 (both_right (bytes_eq a.server b.server) (nat_eq a.number b.number) h) in
    λ i. record { server = servers i; number = numbers i }

-- the test decides whether two transactions are one
pub gtid_eq-Decides : (a b : Gtid) → Decides (gtid_eq a b) (a ≡ b)
gtid_eq-Decides a b = ((λ h. gtid_eq_is a b h), (λ e. subst (λ (c : Gtid). gtid_eq a c ≡ true) e (gtid_eq_itself a)))

-- one below the other is another
pub below_differs : (a b : Gtid) → gtid_cmp a b ≡ Less → gtid_eq a b ≡ false
below_differs a b low =
    elim (gtid_eq a b) as (λ r. gtid_eq a b ≡ r → r ≡ false) [
      | true ↦ λ e. let tied : gtid_cmp a b ≡ Equal = subst (λ (c : Gtid). gtid_cmp a c ≡ Equal) (gtid_eq_is a b e) (tied_itself gtid_total a) in cc
      | false ↦ λ e. refl
    ] refl

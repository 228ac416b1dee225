-- A count of ackers by place is the count of ackers in the set.
use Rattle.std.proofs.Common.{◌≡◌, ℕ, suc, ◌≤◌, Bool, true, false, ◌&&◌, ◌||◌, refl, sym, ap, subst, ◌∙◌, arith, List, [], ◌∷◌, cond, length, nat_le, IsTrue, get_or, Option, Some, None, IfSome, ◌↔◌}
use Rattle.std.specs.List.{filter, zip, All}
use Rattle.std.specs.Cmp.{IsTotalOrder}
use Rattle.std.specs.Ordering.{ordering_reverse}
use Rattle.std.specs.declared.cmp.Ordering.{Ordering}
use Rattle.std.specs.declared.cmp.Ordering.TheVariants.{Less}
use Rattle.std.proofs.lemmas.Bool.Decides.{nat_tests}
use Rattle.std.proofs.lemmas.Cmp.{then_total, on_total, nat_list_cmp_total, nat_cmp_total}
use Rattle.std.proofs.lemmas.List.Elements.{All-head, All-tail}
use Rattle.shard_names.specs.declared.alias.Alias.{Alias}
use Rattle.shard_names.specs.declared.tablet.Tablet.{Tablet}
use Rattle.shard_names.specs.Tablets.{alias_eq, alias_cmp, AliasesRise}
use Rattle.shard_names.proofs.TabletLemmas.{alias_eq_is, alias_eq_itself}
use Rattle.durability.proofs.CountingLemmas.{test_is_accepted}
use Rattle.durability.specs.Rules.{Rules, IsLawful}
use Rattle.durability.specs.Sets.{ackers_in, is_accepted}
use Rattle.replication.specs.Acks.{Acked, aliases_of, acked_of}
use Rattle.replication.specs.Told.{holders, Told}
use Rattle.replication.proofs.AckLemmas.{not_equal}

alias_total : IsTotalOrder alias_cmp
alias_total = then_total (on_total (λ (a : Alias). a.cell) nat_list_cmp_total) (on_total (λ (a : Alias). a.uid) nat_cmp_total)

not_below_itself : (a : Alias) → alias_cmp a a ≡ Less → ⊥
not_below_itself a less =
    let turned : Less ≡ ordering_reverse Less = subst (λ (o : Ordering). o ≡ ordering_reverse o) less (alias_total.antisymm a a) in
    absurd (cc)

pub above_differs : (a b : Alias) → alias_cmp a b ≡ Less → alias_eq b a ≡ false
above_differs a b less = not_equal b a (λ same. not_below_itself a (subst (λ (c : Alias). alias_cmp a c ≡ Less) same less))

-- two tests that agree on each tablet
pub filter_same : (p q : Tablet → Bool) (ts : List Tablet) → All (λ t. p t ≡ q t) ts → filter p ts ≡ filter q ts
filter_same p q [] all = refl
filter_same p q (t ∷ ts) all =
    let here : p t ≡ q t = All-head (λ u. p u ≡ q u) t ts all in
    let rest : filter p ts ≡ filter q ts = filter_same p q ts (All-tail (λ u. p u ≡ q u) t ts all) in
    rw (here, rest) refl

-- the ackers whose index, which stands at their place, is at least this one
abbrev pub counted : (Tablet → Bool) → ℕ → List Tablet → List ℕ → ℕ
counted acker index ts is = length (filter (λ (p : Tablet × ℕ). acker p.0 && nat_le index p.1) (zip ts is))

-- and by alias
abbrev acknowledges : (Tablet → Bool) → ℕ → Acked → Tablet → Bool
acknowledges acker index acked t = acker t && nat_le index (acked t.alias)

one_more : (b c : Bool) (p : Tablet × ℕ) (t : Tablet) (m : List (Tablet × ℕ)) (n : List Tablet) → b ≡ c → length m ≡ length n
    → length (cond b (p ∷ m) m) ≡ length (cond c (t ∷ n) n)
one_more true c p t m n e same = subst (λ (d : Bool). length (p ∷ m) ≡ length (cond d (t ∷ n) n)) e (ap (λ (k : ℕ). suc k) same)
one_more false c p t m n e same = subst (λ (d : Bool). length m ≡ length (cond d (t ∷ n) n)) e same

-- the first of them
at_first : (acker : Tablet → Bool) (index : ℕ) (t : Tablet) (ts : List Tablet) (i : ℕ) (is : List ℕ)
    → (acker t && nat_le index i) ≡ acknowledges acker index (acked_of (aliases_of (t ∷ ts)) (i ∷ is)) t
at_first acker index t ts i is = rw (alias_eq_itself t.alias) refl

-- those after it
after_first : (acker : Tablet → Bool) (index : ℕ) (t u : Tablet) (ts : List Tablet) (i : ℕ) (is : List ℕ) → alias_cmp t.alias u.alias ≡ Less
    → acknowledges acker index (acked_of (aliases_of ts) is) u ≡ acknowledges acker index (acked_of (aliases_of (t ∷ ts)) (i ∷ is)) u
after_first acker index t u ts i is less = rw (above_differs t.alias u.alias less) refl

by_place : (acker : Tablet → Bool) (index : ℕ) (ts : List Tablet) (is : List ℕ) → length is ≡ length ts → AliasesRise ts
    → counted acker index ts is ≡ length (filter (acknowledges acker index (acked_of (aliases_of ts) is)) ts)
by_place acker index [] is same rise = refl
by_place acker index (t ∷ ts) [] same rise = absurd (omega arith)
by_place acker index (t ∷ ts) (i ∷ is) same rise =
    let rest : filter (acknowledges acker index (acked_of (aliases_of ts) is)) ts ≡ filter (acknowledges acker index (acked_of (aliases_of (t ∷ ts)) (i ∷ is))) ts =
    filter_same _ _ ts (λ k d within. after_first acker index t (get_or ts k d) ts i is (rise.0 k d within)) in
    one_more _ _ (t, i) t _ _ (at_first acker index t ts i is)
    (by_place acker index ts is (omega arith) rise.1 ∙ ap (λ (us : List Tablet). length us) rest)

no_own : (acker own has : Bool) → (acker ≡ true → own ≡ true → ⊥) → (acker && has) ≡ (acker && (own || has))
no_own true true has apart = absurd (apart refl refl)
no_own true false has apart = refl
no_own false own has apart = refl

-- a lawful policy does not count the primary itself
primary_aside : (rules : Rules) (ts : List Tablet) (primary : Tablet) (acked : Acked) (index : ℕ) → IsLawful rules
    → length (filter (acknowledges (rules.is_acker primary) index acked) ts) ≡ ackers_in rules ts primary (holders acked primary.alias index)
primary_aside rules ts primary acked index lawful =
    ap (λ (us : List Tablet). length us)
    (filter_same _ _ ts (λ k d within. no_own (rules.is_acker primary (get_or ts k d)) (alias_eq (get_or ts k d).alias primary.alias) (nat_le index (acked (get_or ts k d).alias))
    (λ acker own. lawful.no_own_acker primary (get_or ts k d) acker (sym (alias_eq_is _ _ own)))))

pub counted_is : (rules : Rules) (ts : List Tablet) (primary : Tablet) (is : List ℕ) (index : ℕ) → IsLawful rules → length is ≡ length ts → AliasesRise ts
    → counted (rules.is_acker primary) index ts is ≡ ackers_in rules ts primary (holders (acked_of (aliases_of ts) is) primary.alias index)
counted_is rules ts primary is index lawful same rise =
    by_place (rules.is_acker primary) index ts is same rise ∙ primary_aside rules ts primary (acked_of (aliases_of ts) is) index lawful

pub own_holds : (acked : Acked) (primary : Alias) (index : ℕ) → holders acked primary index primary ≡ true
own_holds acked primary index = rw (alias_eq_itself primary) refl

le_of_test : (m n : ℕ) → nat_le m n ≡ true → m ≤ n
le_of_test m n e = grind (arith, nat_tests)

test_of_le : (m n : ℕ) → m ≤ n → nat_le m n ≡ true
test_of_le m n h = grind (arith, nat_tests)

pub told_by_count : (rules : Rules) (ts : List Tablet) (primary : Tablet) (is : List ℕ) (index : ℕ) → IsLawful rules → length is ≡ length ts → AliasesRise ts
    → IsTrue (nat_le (rules.acks primary) (counted (rules.is_acker primary) index ts is)) ↔ Told rules ts primary (acked_of (aliases_of ts) is) index
told_by_count rules ts primary is index lawful same rise =
    let count = counted_is rules ts primary is index lawful same rise in (
      (λ enough. record {
        primary_in = own_holds (acked_of (aliases_of ts) is) primary.alias index;
        enough = subst (λ (n : ℕ). rules.acks primary ≤ n) count (le_of_test _ _ enough);
      }),
      (λ told. test_of_le _ _ (subst (λ (n : ℕ). rules.acks primary ≤ n) (sym count) told.enough)),
    )

-- for the tablet that a search found
pub found_told : (rules : Rules) (ts : List Tablet) (o : Option Tablet) (primary : Tablet) (xs : List Alias) (is js : List ℕ) (index : ℕ) (r : Bool)
    → o ≡ Some primary → IsLawful rules → length is ≡ length xs → xs ≡ aliases_of ts → AliasesRise ts
    → js ≡ is → r ≡ nat_le (rules.acks primary) (counted (rules.is_acker primary) index ts js)
    → IfSome o (λ t. IsTrue r ↔ Told rules ts t (acked_of xs is) index)
found_told rules ts o primary xs is js index r found lawful same these rise read e =
    let told = told_by_count rules ts primary is index lawful (same ∙ ap (λ (ys : List Alias). length ys) these ∙ length_of ts) rise in
    subst (λ (p : Option Tablet). IfSome p (λ t. IsTrue r ↔ Told rules ts t (acked_of xs is) index)) (sym found)
    (subst (λ (ys : List Alias). IsTrue r ↔ Told rules ts primary (acked_of ys is) index) (sym these)
    (subst (λ (b : Bool). IsTrue b ↔ Told rules ts primary (acked_of (aliases_of ts) is) index) (sym (e ∙ ap (λ (ks : List ℕ). nat_le (rules.acks primary) (counted (rules.is_acker primary) index ts ks)) read)) told)) where
      length_of : (us : List Tablet) → length (aliases_of us) ≡ length us
      length_of [] = refl
      length_of (u ∷ us) = ap (λ (k : ℕ). suc k) (length_of us)

same_bool : (a b : Bool) → (IsTrue a ↔ IsTrue b) → a ≡ b
same_bool true b h = sym (h.0 refl)
same_bool false true h = h.1 refl
same_bool false false h = refl

-- that it is told is the test
pub told_tested : (rules : Rules) (ts : List Tablet) (o : Option Tablet) (acked : Acked) (index : ℕ) (r : Bool) → IfSome o (λ t. IsTrue r ↔ Told rules ts t acked index)
    → IfSome o (λ t. r ≡ is_accepted rules ts t (holders acked t.alias index))
told_tested rules ts None acked index r told = tt
told_tested rules ts (Some t) acked index r told =
    let test = test_is_accepted rules ts t (holders acked t.alias index) in
    same_bool r (is_accepted rules ts t (holders acked t.alias index)) (λ is. test.1 (told.0 is), λ is. told.1 (test.0 is))

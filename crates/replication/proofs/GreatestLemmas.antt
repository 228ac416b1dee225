-- A tablet's index is the greatest that it acknowledged.
use Rattle.std.proofs.Common.{◌≡◌, ℕ, suc, ◌≤◌, ◌<◌, max, Bool, true, false, refl, sym, subst, arith, List, [], ◌∷◌, cond, nat_le}
use Rattle.std.specs.List.{All, Contains}
use Rattle.std.proofs.lemmas.Bool.Decides.{nat_tests}
use Rattle.std.proofs.lemmas.List.Elements.{All-nil, All-cons}
use Rattle.shard_names.specs.declared.alias.Alias.{Alias}
use Rattle.shard_names.specs.Tablets.{alias_eq}
use Rattle.shard_names.proofs.TabletLemmas.{alias_eq_is, alias_eq_itself}
use Rattle.replication.specs.Acks.{after_acks}
use Rattle.replication.specs.Laws.{KeepsGreatest}

-- ---- no less than each

up_to_max : (m n : ℕ) → m ≤ max m n
up_to_max m n = omega arith

at_own : (k : Alias × ℕ) (a : Alias) (r : ℕ) → k.0 ≡ a → k.1 ≤ cond (alias_eq a k.0) (max k.1 r) r
at_own k a r same =
    let here : alias_eq a k.0 ≡ true = subst (λ (b : Alias). alias_eq b k.0 ≡ true) same (alias_eq_itself k.0) in
    rw here (up_to_max k.1 r)

never_less : (b : Bool) (m r i : ℕ) → i ≤ r → i ≤ cond b (max m r) r
never_less true m r i le = omega arith
never_less false m r i le = le

at_most : (acks : List (Alias × ℕ)) (a : Alias) → All (λ k. k.0 ≡ a → k.1 ≤ after_acks acks a) acks
at_most [] a = All-nil (λ (k : Alias × ℕ). k.0 ≡ a → k.1 ≤ 0)
at_most (k ∷ rest) a =
    All-cons (λ (j : Alias × ℕ). j.0 ≡ a → j.1 ≤ after_acks (k ∷ rest) a) k rest (at_own k a (after_acks rest a))
    (λ n d within same. never_less (alias_eq a k.0) k.1 (after_acks rest a) _ (at_most rest a n d within same))

-- ---- one of them

later : (k : Alias × ℕ) (rest : List (Alias × ℕ)) (x : Alias × ℕ) → Contains rest x → Contains (k ∷ rest) x
later k rest x (n, within, here) = (suc n, omega (arith, within), here)

by_max : (k : Alias × ℕ) (rest : List (Alias × ℕ)) (a : Alias) → alias_eq a k.0 ≡ true → (r : ℕ) → (0 < r → Contains rest (a, r))
    → (t : Bool) → nat_le r k.1 ≡ t → Contains (k ∷ rest) (a, max k.1 r)
by_max k rest a is r more true le =
    let e : k.1 ≡ max k.1 r = left_max k.1 r le in (0, omega arith, (λ i. (sym (alias_eq_is a k.0 is) i, e i))) where
      left_max : (m n : ℕ) → nat_le n m ≡ true → m ≡ max m n
      left_max m n h = grind (arith, nat_tests)
by_max k rest a is r more false above =
    later k rest (a, max k.1 r) (subst (λ (n : ℕ). Contains rest (a, n)) (right_max k.1 r above) (more (some k.1 r above))) where
      right_max : (m n : ℕ) → nat_le n m ≡ false → n ≡ max m n
      right_max m n h = grind (arith, nat_tests)

      some : (m n : ℕ) → nat_le n m ≡ false → 0 < n
      some m n h = grind (arith, nat_tests)

by_test : (k : Alias × ℕ) (rest : List (Alias × ℕ)) (a : Alias) (b : Bool) → alias_eq a k.0 ≡ b → (r : ℕ) → (0 < r → Contains rest (a, r))
    → 0 < cond b (max k.1 r) r → Contains (k ∷ rest) (a, cond b (max k.1 r) r)
by_test k rest a true is r more some = by_max k rest a is r more (nat_le r k.1) refl
by_test k rest a false is r more some = later k rest (a, r) (more some)

is_one : (acks : List (Alias × ℕ)) (a : Alias) → 0 < after_acks acks a → Contains acks (a, after_acks acks a)
is_one [] a some = absurd (omega arith)
is_one (k ∷ rest) a some = by_test k rest a (alias_eq a k.0) refl (after_acks rest a) (is_one rest a) some

pub keeps_greatest : KeepsGreatest
keeps_greatest acks a = (at_most acks a, is_one acks a)

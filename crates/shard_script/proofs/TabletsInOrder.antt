-- A tablet in its place among others.
use Rattle.std.proofs.Common.{◌≡◌, ℕ, suc, ◌+◌, ◌≤◌, List, [], ◌∷◌, Bool, true, false, not, cond, ◌||◌, Some, None, length, refl, sym, ap, subst, ◌⊎◌, inl, inr, ◌∙◌, arith}
use Rattle.std.specs.Prelude.{All, unwrap_or, nat_lt}
use Rattle.std.specs.List.{list_any, insert, position_or_len}
use Rattle.std.specs.Str.{bytes_eq}
use Rattle.std.specs.Cmp.{IsTotalOrder}
use Rattle.std.specs.Cmp.Lexicographic.{slice_cmp}
use Rattle.std.specs.Ordering.{is_lt, nat_cmp, ordering_then, ordering_reverse}
use Rattle.std.specs.declared.cmp.Ordering.{Ordering}
use Rattle.std.specs.declared.cmp.Ordering.TheVariants.{Less, Equal, Greater}
use Rattle.std.proofs.lemmas.Bool.{false≢true}
use Rattle.std.proofs.lemmas.Bool.Decides.{nat_tests}
use Rattle.std.proofs.lemmas.Cmp.{then_total, on_total, nat_list_cmp_total, nat_cmp_total}
use Rattle.std.proofs.lemmas.List.Elements.{All-nil, All-cons, All-head, All-tail}
use Rattle.std.specs.List.Sorted.{IsPermutation}
use Rattle.std.proofs.lemmas.List.Sorted.{IsPermutation-insert}
use Rattle.std.proofs.lemmas.List.Sums.{prefix_len-le-length}
use Rattle.std.proofs.lemmas.Map.Lookups.{exact_bytes, exact_unsigned}
use Rattle.std.proofs.lemmas.Slice.Eq.{bytes_eq-Decides}
use Rattle.shard_names.specs.declared.alias.Alias.{Alias}
use Rattle.shard_names.specs.declared.tablet.Tablet.{Tablet as TabletData}
use Rattle.shard_names.specs.Tablets.{alias_eq, alias_cmp, AliasesRise, ServersDiffer}
use Rattle.shard_names.proofs.TabletLemmas.{alias_eq_itself}
use Rattle.shard_script.specs.Script.{has_alias, has_server, is_below, in_place, place_among}

-- ---- the order of aliases

alias_total : IsTotalOrder alias_cmp
alias_total = then_total (on_total (λ (a : Alias). a.cell) nat_list_cmp_total) (on_total (λ (a : Alias). a.uid) nat_cmp_total)

both_equal : (a b : Ordering) → ordering_then a b ≡ Equal → (a ≡ Equal) × (b ≡ Equal)
both_equal Less b h = absurd (cc)
both_equal Equal b h = (refl, h)
both_equal Greater b h = absurd (cc)

pub equal_is : (a b : Alias) → alias_cmp a b ≡ Equal → a ≡ b
equal_is a b h =
    let parts = both_equal (slice_cmp nat_cmp a.cell b.cell) (nat_cmp a.uid b.uid) h in
    let cells : a.cell ≡ b.cell = exact_bytes a.cell b.cell parts.0 in
    let uids : a.uid ≡ b.uid = exact_unsigned a.uid b.uid parts.1 in
    λ i. record { cell = cells i; uid = uids i }

pub below_less : (a b : Alias) → is_below a b ≡ true → alias_cmp a b ≡ Less
below_less a b h = by_order (alias_cmp a b) refl h
  where
    by_order : (o : Ordering) → alias_cmp a b ≡ o → is_lt o ≡ true → alias_cmp a b ≡ Less
    by_order Less is lt = is
    by_order Equal is lt = absurd (false≢true lt)
    by_order Greater is lt = absurd (false≢true lt)

-- one that is neither another's equal nor below it is above it
pub above_less : (a b : Alias) → is_below a b ≡ false → alias_eq b a ≡ false → alias_cmp b a ≡ Less
above_less a b not_below differ = by_order (alias_cmp a b) refl not_below
  where
    by_order : (o : Ordering) → alias_cmp a b ≡ o → is_lt o ≡ false → alias_cmp b a ≡ Less
    by_order Less is lt = absurd (false≢true (sym lt))
    by_order Equal is lt =
        let same : b ≡ a = sym (equal_is a b is) in
        absurd (false≢true (sym differ ∙ subst (λ (c : Alias). alias_eq b c ≡ true) same (alias_eq_itself b)))
    by_order Greater is lt = alias_total.antisymm b a ∙ ap (λ (o : Ordering). ordering_reverse o) is

-- ---- a tablet in its place

pub or_false : (a b : Bool) → (a || b) ≡ false → (a ≡ false) × (b ≡ false)
or_false true b h = absurd (false≢true (sym h))
or_false false b h = (refl, h)

pub length-in_place : (t : TabletData) (ts : List TabletData) → length (in_place t ts) ≡ suc (length ts)
length-in_place t [] = refl
length-in_place t (u ∷ us) = by_test (is_below t.alias u.alias) (length-in_place t us)
  where
    by_test : (b : Bool) → length (in_place t us) ≡ suc (length us) → length (cond b (t ∷ u ∷ us) (u ∷ in_place t us)) ≡ suc (suc (length us))
    by_test true rest = refl
    by_test false rest = ap (λ (n : ℕ). suc n) rest

pub All-in_place : (P : TabletData → Type 0) (t : TabletData) (ts : List TabletData) → P t → All P ts → All P (in_place t ts)
All-in_place P t [] one all = All-cons P t [] one all
All-in_place P t (u ∷ us) one all = by_test (is_below t.alias u.alias) (All-in_place P t us one (All-tail P u us all))
  where
    by_test : (b : Bool) → All P (in_place t us) → All P (cond b (t ∷ u ∷ us) (u ∷ in_place t us))
    by_test true rest = All-cons P t (u ∷ us) one all
    by_test false rest = All-cons P u (in_place t us) (All-head P u us all) rest

pub All-map : {X : Type 0} (P Q : X → Type 0) (xs : List X) → ((x : X) → P x → Q x) → All P xs → All Q xs
All-map P Q [] f all = All-nil Q
All-map P Q (x ∷ xs) f all = All-cons Q x xs (f x (All-head P x xs all)) (All-map P Q xs f (All-tail P x xs all))

pub rises-in_place : (t : TabletData) (ts : List TabletData) → AliasesRise ts → has_alias ts t.alias ≡ false → AliasesRise (in_place t ts)
rises-in_place t [] rise differ = (All-nil (λ u. alias_cmp t.alias u.alias ≡ Less), tt)
rises-in_place t (u ∷ us) rise differ = by_test (is_below t.alias u.alias) refl (rises-in_place t us rise.1)
  where
    by_test : (b : Bool) → is_below t.alias u.alias ≡ b → (has_alias us t.alias ≡ false → AliasesRise (in_place t us)) → AliasesRise (cond b (t ∷ u ∷ us) (u ∷ in_place t us))
    by_test true is rest =
        let first : alias_cmp t.alias u.alias ≡ Less = below_less t.alias u.alias is in
        let others : All (λ v. alias_cmp t.alias v.alias ≡ Less) us = All-map (λ v. alias_cmp u.alias v.alias ≡ Less) (λ v. alias_cmp t.alias v.alias ≡ Less) us (λ v h. alias_total.trans t.alias u.alias v.alias first h) rise.0 in
        (All-cons (λ v. alias_cmp t.alias v.alias ≡ Less) u us first others, rise)
    by_test false is rest =
        let tests = or_false (alias_eq u.alias t.alias) (has_alias us t.alias) differ in
        (All-in_place (λ v. alias_cmp u.alias v.alias ≡ Less) t us (above_less t.alias u.alias is tests.0) rise.0, rest tests.1)

-- no server is this one
none_is : (t : TabletData) (ts : List TabletData) → has_server ts t.server ≡ false → All (λ u. bytes_eq t.server u.server ≡ true → ⊥) ts
none_is t [] differ = All-nil (λ u. bytes_eq t.server u.server ≡ true → ⊥)
none_is t (u ∷ us) differ =
    let tests = or_false (bytes_eq u.server t.server) (has_server us t.server) differ in
    All-cons (λ v. bytes_eq t.server v.server ≡ true → ⊥) u us
    (λ same. let turned : u.server ≡ t.server = sym ((bytes_eq-Decides t.server u.server).0 same) in false≢true (sym tests.0 ∙ (bytes_eq-Decides u.server t.server).1 turned))
    (none_is t us tests.1)

pub apart-in_place : (t : TabletData) (ts : List TabletData) → ServersDiffer ts → has_server ts t.server ≡ false → ServersDiffer (in_place t ts)
apart-in_place t [] apart differ = (All-nil (λ u. bytes_eq t.server u.server ≡ true → ⊥), tt)
apart-in_place t (u ∷ us) apart differ = by_test (is_below t.alias u.alias) (apart-in_place t us apart.1)
  where
    by_test : (b : Bool) → (has_server us t.server ≡ false → ServersDiffer (in_place t us)) → ServersDiffer (cond b (t ∷ u ∷ us) (u ∷ in_place t us))
    by_test true rest = (none_is t (u ∷ us) differ, apart)
    by_test false rest =
        let tests = or_false (bytes_eq u.server t.server) (has_server us t.server) differ in
        (All-in_place (λ v. bytes_eq u.server v.server ≡ true → ⊥) t us (λ same. false≢true (sym tests.0 ∙ same)) apart.0, rest tests.1)

-- ---- the place

by_place : (a n : ℕ) → a ≤ n → unwrap_or (cond (nat_lt a n) (Some a) None) n ≡ a
by_place a n le = by_test (nat_lt a n) refl
  where
    by_test : (b : Bool) → nat_lt a n ≡ b → unwrap_or (cond b (Some a) None) n ≡ a
    by_test true is = refl
    by_test false is = let least : n ≤ a = grind (arith, nat_tests) in omega arith

-- an insertion at that place
insert_is : (t : TabletData) (ts : List TabletData) → in_place t ts ≡ insert ts (position_or_len (λ u. is_below t.alias u.alias) ts) t
insert_is t [] = refl
insert_is t (u ∷ us) = by_test (is_below t.alias u.alias) (insert_is t us)
  where
    by_test : (b : Bool) → in_place t us ≡ insert us (position_or_len (λ v. is_below t.alias v.alias) us) t → cond b (t ∷ u ∷ us) (u ∷ in_place t us) ≡ insert (u ∷ us) (cond (not b) (1 + position_or_len (λ v. is_below t.alias v.alias) us) 0) t
    by_test true rest = refl
    by_test false rest =
        let more : 1 + position_or_len (λ v. is_below t.alias v.alias) us ≡ suc (position_or_len (λ v. is_below t.alias v.alias) us) = omega arith in
        ap (λ (vs : List TabletData). u ∷ vs) rest ∙ ap (λ (n : ℕ). insert (u ∷ us) n t) (sym more)

pub inserted : (t : TabletData) (ts us : List TabletData) (place : ℕ) → us ≡ ts → place ≡ place_among ts t.alias → insert us place t ≡ in_place t ts
inserted t ts us place same is =
    let at : place ≡ position_or_len (λ u. is_below t.alias u.alias) ts =
    is ∙ by_place (position_or_len (λ u. is_below t.alias u.alias) ts) (length ts) (prefix_len-le-length (λ u. not (is_below t.alias u.alias)) ts) in
    ap (λ (vs : List TabletData). insert vs place t) same ∙ ap (λ (n : ℕ). insert ts n t) at ∙ sym (insert_is t ts)

-- ---- the same tablets in another order

or_swap : (a b c : Bool) → (a || (b || c)) ≡ (b || (a || c))
or_swap true true c = refl
or_swap true false c = refl
or_swap false b c = refl

pub any-in_place : (p : TabletData → Bool) (t : TabletData) (ts : List TabletData) → list_any p (in_place t ts) ≡ (p t || list_any p ts)
any-in_place p t [] = refl
any-in_place p t (u ∷ us) = by_test (is_below t.alias u.alias) (any-in_place p t us)
  where
    by_test : (b : Bool) → list_any p (in_place t us) ≡ (p t || list_any p us) → list_any p (cond b (t ∷ u ∷ us) (u ∷ in_place t us)) ≡ (p t || (p u || list_any p us))
    by_test true rest = refl
    by_test false rest = ap (λ (b : Bool). p u || b) rest ∙ or_swap (p u) (p t) (list_any p us)

pub permuted-in_place : (t : TabletData) (ts : List TabletData) → IsPermutation (t ∷ ts) (in_place t ts)
permuted-in_place t ts =
    subst (λ (us : List TabletData). IsPermutation (t ∷ ts) us) (sym (insert_is t ts)) (IsPermutation-insert ts (position_or_len (λ u. is_below t.alias u.alias) ts) t)

-- not below itself
not_itself : (a : Alias) → alias_cmp a a ≡ Less → ⊥
not_itself a h =
    let turned : alias_cmp a a ≡ Greater = alias_total.antisymm a a ∙ ap (λ (o : Ordering). ordering_reverse o) h in
    let e : Less ≡ Greater = sym h ∙ turned in cc

-- a tablet, or one above it
IsFrom : TabletData → TabletData → Type 0
IsFrom x t = (t ≡ x) ⊎ (alias_cmp x.alias t.alias ≡ Less)

all_from : (x : TabletData) (xs : List TabletData) → All (λ u. alias_cmp x.alias u.alias ≡ Less) xs → All (IsFrom x) (x ∷ xs)
unfolding IsFrom
all_from x xs above = All-cons (IsFrom x) x xs (inl refl) (All-map (λ u. alias_cmp x.alias u.alias ≡ Less) (IsFrom x) xs (λ u h. inr h) above)

same_first : (x y : TabletData) → IsFrom x y → IsFrom y x → x ≡ y
unfolding IsFrom
same_first x y (inl is) other = sym is
same_first x y (inr less) (inl is) = is
same_first x y (inr less) (inr more) = absurd (not_itself x.alias (alias_total.trans x.alias y.alias x.alias less more))

-- what is behind the first
behind : (x : TabletData) (xs ys : List TabletData) → All (λ u. alias_cmp x.alias u.alias ≡ Less) ys → ((P : TabletData → Type 0) → All P (x ∷ xs) → All P (x ∷ ys)) → (P : TabletData → Type 0) → All P xs → All P ys
behind x xs ys above all P these =
    let Q : TabletData → Type 0 = λ t. alias_cmp x.alias t.alias ≡ Less → P t in
    let first : Q x = λ less. absurd (not_itself x.alias less) in
    let given : All Q (x ∷ xs) = All-cons Q x xs first (All-map P Q xs (λ t h less. h) these) in
    let got : All Q ys = All-tail Q x ys (all Q given) in
    λ k d lt. got k d lt (above k d lt)

-- lists of the same tablets that rise are one
pub rises_once : (xs ys : List TabletData) → AliasesRise xs → AliasesRise ys → ((P : TabletData → Type 0) → All P xs → All P ys) → ((P : TabletData → Type 0) → All P ys → All P xs) → xs ≡ ys
rises_once [] [] rx ry to from = refl
rises_once [] (y ∷ ys) rx ry to from = absurd (All-head (λ t. ⊥) y ys (to (λ t. ⊥) (All-nil (λ t. ⊥))))
rises_once (x ∷ xs) [] rx ry to from = absurd (All-head (λ t. ⊥) x xs (from (λ t. ⊥) (All-nil (λ t. ⊥))))
rises_once (x ∷ xs) (y ∷ ys) rx ry to from =
    let same : x ≡ y = same_first x y (All-head (IsFrom x) y ys (to (IsFrom x) (all_from x xs rx.0))) (All-head (IsFrom y) x xs (from (IsFrom y) (all_from y ys ry.0))) in
    let above : All (λ u. alias_cmp x.alias u.alias ≡ Less) ys = subst (λ (t : TabletData). All (λ u. alias_cmp t.alias u.alias ≡ Less) ys) (sym same) ry.0 in
    let to_one : (P : TabletData → Type 0) → All P (x ∷ xs) → All P (x ∷ ys) = λ P h. subst (λ (t : TabletData). All P (t ∷ ys)) (sym same) (to P h) in
    let from_one : (P : TabletData → Type 0) → All P (x ∷ ys) → All P (x ∷ xs) = λ P h. from P (subst (λ (t : TabletData). All P (t ∷ ys)) same h) in
    let rest : xs ≡ ys = rises_once xs ys rx.1 ry.1 (behind x xs ys above to_one) (behind x ys xs rx.0 from_one) in
    λ i. same i ∷ rest i

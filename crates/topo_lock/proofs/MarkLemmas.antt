-- Marks in alias order, with one more among them, and how many of them there can be.
use Rattle.std.proofs.Common.{◌≡◌, ℕ, suc, ◌+◌, ◌<◌, ◌≤◌, Bool, true, false, ◌||◌, cond, List, [], ◌∷◌, length, Some}
use Rattle.std.proofs.Common.{refl, sym, ap, subst, ◌∙◌, ◌⊎◌, inl, inr, arith}
use Rattle.std.specs.Prelude.{All}
use Rattle.std.specs.Option.{is_some}
use Rattle.std.specs.List.{AllByRecursion, list_all, insert, prefix_len}
use Rattle.std.specs.Cmp.{IsTotalOrder}
use Rattle.std.specs.Cmp.Lexicographic.{slice_cmp}
use Rattle.std.specs.Ordering.{is_gt, nat_cmp, ordering_then, ordering_reverse}
use Rattle.std.specs.declared.cmp.Ordering.{Ordering}
use Rattle.std.specs.declared.cmp.Ordering.TheVariants.{Less, Equal, Greater}
use Rattle.std.proofs.lemmas.Bool.{false≢true}
use Rattle.std.proofs.lemmas.Cmp.{then_total, on_total, nat_list_cmp_total, nat_cmp_total}
use Rattle.std.proofs.lemmas.List.Elements.{All-head, All-tail}
use Rattle.std.proofs.lemmas.List.Sums.{prefix_len-le-length}
use Rattle.std.proofs.lemmas.Map.Lookups.{exact_bytes, exact_unsigned}
use Rattle.shard_names.specs.declared.alias.Alias.{Alias}
use Rattle.shard_names.specs.declared.tablet.Tablet.{Tablet}
use Rattle.shard_names.specs.Tablets.{alias_eq, alias_cmp, is_among, is_declared, tablet_of, AliasesRise}
use Rattle.shard_names.proofs.TabletLemmas.{alias_eq_is, alias_eq_itself, both, both_left, both_right}
use Rattle.topo_lock.specs.Topology.{marked, marked_by}
use Rattle.topo_lock.specs.Laws.{MarksRise, EachMarkOnce}

-- ---- the order of aliases

pub alias_total : IsTotalOrder alias_cmp
alias_total = then_total (on_total (λ (a : Alias). a.cell) nat_list_cmp_total) (on_total (λ (a : Alias). a.uid) nat_cmp_total)

both_equal : (o p : Ordering) → ordering_then o p ≡ Equal → (o ≡ Equal) × (p ≡ Equal)
both_equal Less p h = absurd (cc)
both_equal Equal p h = (refl, h)
both_equal Greater p h = absurd (cc)

-- equal aliases are one
pub equal_is : (a b : Alias) → alias_cmp a b ≡ Equal → a ≡ b
equal_is a b h =
    let parts = both_equal (slice_cmp nat_cmp a.cell b.cell) (nat_cmp a.uid b.uid) h in
    let cells : a.cell ≡ b.cell = exact_bytes a.cell b.cell parts.0 in
    let uids : a.uid ≡ b.uid = exact_unsigned a.uid b.uid parts.1 in
    λ i. record { cell = cells i; uid = uids i }

pub greater_less : (a b : Alias) → alias_cmp a b ≡ Greater → alias_cmp b a ≡ Less
greater_less a b h = alias_total.antisymm b a ∙ ap (λ (o : Ordering). ordering_reverse o) h

-- none is below itself
pub not_below_itself : (a : Alias) → alias_cmp a a ≡ Less → ⊥
not_below_itself a h =
    let turned : alias_cmp a a ≡ Greater = alias_total.antisymm a a ∙ ap (λ (o : Ordering). ordering_reverse o) h in
    let e : Less ≡ Greater = sym h ∙ turned in absurd (cc)

-- whichever way the order says that they differ
pub below_differs : (a b : Alias) → alias_cmp a b ≡ Less → alias_eq a b ≡ false
below_differs a b less = by_test (alias_eq a b) refl
  where
    by_test : (t : Bool) → alias_eq a b ≡ t → t ≡ false
    by_test false is = refl
    by_test true is = absurd (not_below_itself a (subst (λ (c : Alias). alias_cmp a c ≡ Less) (sym (alias_eq_is a b is)) less))

pub above_differs : (a b : Alias) → alias_cmp a b ≡ Less → alias_eq b a ≡ false
above_differs a b less = by_test (alias_eq b a) refl
  where
    by_test : (t : Bool) → alias_eq b a ≡ t → t ≡ false
    by_test false is = refl
    by_test true is = absurd (not_below_itself a (subst (λ (c : Alias). alias_cmp a c ≡ Less) (alias_eq_is b a is) less))

-- ---- what holds of each mark

all_map : (P Q : Alias → Type 0) (ms : List Alias) → ((b : Alias) → P b → Q b) → AllByRecursion P ms → AllByRecursion Q ms
all_map P Q [] f all = tt
all_map P Q (a ∷ ms) f all = (f a all.0, all_map P Q ms f all.1)

each_marked : (P : Alias → Type 0) (ms : List Alias) (a : Alias) → P a → AllByRecursion P ms → AllByRecursion P (marked ms a)
each_marked P [] a here all = (here, tt)
each_marked P (b ∷ bs) a here all = by_order (alias_cmp a b) (each_marked P bs a here all.1)
  where
    by_order : (o : Ordering) → AllByRecursion P (marked bs a) → AllByRecursion P (marked_by o a b bs (marked bs a))
    by_order Less rest = (here, all)
    by_order Equal rest = all
    by_order Greater rest = (all.0, rest)

-- what the marks pass, and the new one, they pass with the new one
pub marked_all : (p : Alias → Bool) (ms : List Alias) (a : Alias) → p a ≡ true → list_all p ms ≡ true → list_all p (marked ms a) ≡ true
marked_all p [] a here all = both (p a) true here refl
marked_all p (b ∷ bs) a here all = by_order (alias_cmp a b) (marked_all p bs a here (both_right (p b) (list_all p bs) all))
  where
    by_order : (o : Ordering) → list_all p (marked bs a) ≡ true → list_all p (marked_by o a b bs (marked bs a)) ≡ true
    by_order Less rest = both (p a) (list_all p (b ∷ bs)) here all
    by_order Equal rest = all
    by_order Greater rest = both (p b) (list_all p (marked bs a)) (both_left (p b) (list_all p bs) all) rest

-- who is among the marks: the new one and those before
or_swap : (a b c : Bool) → (a || (b || c)) ≡ (b || (a || c))
or_swap true true c = refl
or_swap true false c = refl
or_swap false b c = refl

or_twice : (a c : Bool) → (a || c) ≡ (a || (a || c))
or_twice true c = refl
or_twice false c = refl

pub among_marked : (ms : List Alias) (a x : Alias) → is_among (marked ms a) x ≡ (alias_eq x a || is_among ms x)
among_marked [] a x = refl
among_marked (b ∷ bs) a x = by_order (alias_cmp a b) refl (among_marked bs a x)
  where
    by_order : (o : Ordering) → alias_cmp a b ≡ o → is_among (marked bs a) x ≡ (alias_eq x a || is_among bs x)
        → is_among (marked_by o a b bs (marked bs a)) x ≡ (alias_eq x a || (alias_eq x b || is_among bs x))
    by_order Less is rest = refl
    by_order Equal is rest =
        subst (λ (c : Alias). (alias_eq x b || is_among bs x) ≡ (alias_eq x c || (alias_eq x b || is_among bs x))) (sym (equal_is a b is))
        (or_twice (alias_eq x b) (is_among bs x))
    by_order Greater is rest = ap (λ (c : Bool). alias_eq x b || c) rest ∙ or_swap (alias_eq x b) (alias_eq x a) (is_among bs x)

-- a mark stays
pub among_stays : (ms : List Alias) (a x : Alias) → is_among ms x ≡ true → is_among (marked ms a) x ≡ true
among_stays ms a x h = among_marked ms a x ∙ ap (λ (c : Bool). alias_eq x a || c) h ∙ or_true (alias_eq x a)
  where
    or_true : (c : Bool) → (c || true) ≡ true
    or_true true = refl
    or_true false = refl

-- ---- the order of the marks

-- each of these is above this alias
abbrev AllAbove : Alias → List Alias → Type 0
AllAbove a bs = AllByRecursion (λ b. alias_cmp a b ≡ Less) bs

above_all : (a b : Alias) (bs : List Alias) → alias_cmp a b ≡ Less → AllAbove b bs → AllAbove a bs
above_all a b bs less rise = all_map (λ c. alias_cmp b c ≡ Less) (λ c. alias_cmp a c ≡ Less) bs (λ c h. alias_total.trans a b c less h) rise

-- marks in alias order stay in it with one more
pub marked_rises : (ms : List Alias) (a : Alias) → MarksRise ms → MarksRise (marked ms a)
marked_rises [] a rise = (tt, tt)
marked_rises (b ∷ bs) a rise = by_order (alias_cmp a b) refl (marked_rises bs a rise.1)
  where
    by_order : (o : Ordering) → alias_cmp a b ≡ o → MarksRise (marked bs a) → MarksRise (marked_by o a b bs (marked bs a))
    by_order Less is rest = ((is, above_all a b bs is rise.0), rise)
    by_order Equal is rest = rise
    by_order Greater is rest = (each_marked (λ c. alias_cmp b c ≡ Less) bs a (greater_less a b is) rise.0, rest)

-- what is below each mark is none of them
not_among_above : (a : Alias) (bs : List Alias) → AllAbove a bs → is_among bs a ≡ false
not_among_above a [] all = refl
not_among_above a (b ∷ bs) all = rw (below_differs a b all.0) (not_among_above a bs all.1)

-- marks in alias order stand once
pub each_once : (ms : List Alias) → MarksRise ms → EachMarkOnce ms
each_once [] rise = tt
each_once (a ∷ ms) rise = (not_among_above a ms rise.0, each_once ms rise.1)

-- a mark that is there already changes nothing
pub marked_same : (ms : List Alias) (a : Alias) → MarksRise ms → is_among ms a ≡ true → marked ms a ≡ ms
marked_same [] a rise among = absurd (false≢true among)
marked_same (b ∷ bs) a rise among = by_order (alias_cmp a b) refl (marked_same bs a rise.1)
  where
    by_order : (o : Ordering) → alias_cmp a b ≡ o → (is_among bs a ≡ true → marked bs a ≡ bs) → marked_by o a b bs (marked bs a) ≡ (b ∷ bs)
    by_order Less is rest =
        let none : is_among (b ∷ bs) a ≡ false = not_among_above a (b ∷ bs) (is, above_all a b bs is rise.0) in
        absurd (false≢true (sym none ∙ among))
    by_order Equal is rest = refl
    by_order Greater is rest =
        let other : alias_eq a b ≡ false = above_differs b a (greater_less a b is) in
        let later : is_among bs a ≡ true = sym (ap (λ (c : Bool). c || is_among bs a) other) ∙ among in
        ap (λ (cs : List Alias). b ∷ cs) (rest later)

-- ---- a new mark, by its place

pub place_fits : (ms : List Alias) (a : Alias) → prefix_len (λ b. is_gt (alias_cmp a b)) ms ≤ length ms
place_fits ms a = prefix_len-le-length (λ b. is_gt (alias_cmp a b)) ms

or_false : (b c : Bool) → (b || c) ≡ false → (b ≡ false) × (c ≡ false)
or_false true c h = absurd (false≢true (sym h))
or_false false c h = (refl, h)

pub inserted : (ms : List Alias) (a : Alias) → is_among ms a ≡ false → insert ms (prefix_len (λ b. is_gt (alias_cmp a b)) ms) a ≡ marked ms a
inserted [] a new = refl
inserted (b ∷ bs) a new = by_order (alias_cmp a b) refl (inserted bs a (or_false (alias_eq a b) (is_among bs a) new).1)
  where
    by_order : (o : Ordering) → alias_cmp a b ≡ o → insert bs (prefix_len (λ b. is_gt (alias_cmp a b)) bs) a ≡ marked bs a
        → insert (b ∷ bs) (cond (is_gt o) (1 + prefix_len (λ b. is_gt (alias_cmp a b)) bs) 0) a ≡ marked_by o a b bs (marked bs a)
    by_order Less is rest = refl
    by_order Equal is rest =
        let same : alias_eq a b ≡ true = subst (λ (c : Alias). alias_eq a c ≡ true) (equal_is a b is) (alias_eq_itself a) in
        absurd (false≢true (sym (or_false (alias_eq a b) (is_among bs a) new).0 ∙ same))
    by_order Greater is rest =
        let more : 1 + prefix_len (λ b. is_gt (alias_cmp a b)) bs ≡ suc (prefix_len (λ b. is_gt (alias_cmp a b)) bs) = omega arith in
        ap (λ (n : ℕ). insert (b ∷ bs) n a) more ∙ ap (λ (cs : List Alias). b ∷ cs) rest

-- ---- how many marks there are

-- a new mark is one more
pub length_marked : (ms : List Alias) (a : Alias) → is_among ms a ≡ false → length (marked ms a) ≡ suc (length ms)
length_marked [] a new = refl
length_marked (b ∷ bs) a new = by_order (alias_cmp a b) refl (length_marked bs a (or_false (alias_eq a b) (is_among bs a) new).1)
  where
    by_order : (o : Ordering) → alias_cmp a b ≡ o → length (marked bs a) ≡ suc (length bs)
        → length (marked_by o a b bs (marked bs a)) ≡ suc (suc (length bs))
    by_order Less is rest = refl
    by_order Equal is rest =
        let same : alias_eq a b ≡ true = subst (λ (c : Alias). alias_eq a c ≡ true) (equal_is a b is) (alias_eq_itself a) in
        absurd (false≢true (sym (or_false (alias_eq a b) (is_among bs a) new).0 ∙ same))
    by_order Greater is rest = ap (λ (n : ℕ). suc n) rest

-- what is declared, and not by the first tablet, is declared by a later one
declared_later : (t : Tablet) (ts : List Tablet) (b : Alias) → alias_eq t.alias b ≡ false → is_declared (t ∷ ts) b ≡ true → is_declared ts b ≡ true
declared_later t ts b other is = sym (ap (λ (c : Bool). is_some (cond c (Some t) (tablet_of ts b))) other) ∙ is

-- what is declared by later tablets is above the first
declared_above : (t : Tablet) (ts : List Tablet) (b : Alias) → All (λ u. alias_cmp t.alias u.alias ≡ Less) ts → is_declared ts b ≡ true
    → alias_cmp t.alias b ≡ Less
declared_above t [] b above is = absurd (false≢true is)
declared_above t (u ∷ us) b above is =
    by_test (alias_eq u.alias b) refl (λ later. declared_above t us b (All-tail (λ v. alias_cmp t.alias v.alias ≡ Less) u us above) later)
  where
    by_test : (c : Bool) → alias_eq u.alias b ≡ c → (is_declared us b ≡ true → alias_cmp t.alias b ≡ Less) → alias_cmp t.alias b ≡ Less
    by_test true same rest =
        subst (λ (c : Alias). alias_cmp t.alias c ≡ Less) (alias_eq_is u.alias b same) (All-head (λ v. alias_cmp t.alias v.alias ≡ Less) u us above)
    by_test false other rest = rest (declared_later u us b other is)

-- whether each of these is declared
abbrev all_declared : List Tablet → List Alias → Bool
all_declared ts ms = list_all (is_declared ts) ms

-- marks above the first tablet are declared by later ones
all_later : (t : Tablet) (ts : List Tablet) (ms : List Alias) → AllAbove t.alias ms → all_declared (t ∷ ts) ms ≡ true → all_declared ts ms ≡ true
all_later t ts [] above all = refl
all_later t ts (a ∷ ms) above all =
    both (is_declared ts a) (all_declared ts ms)
    (declared_later t ts a (below_differs t.alias a above.0) (both_left (is_declared (t ∷ ts) a) (all_declared (t ∷ ts) ms) all))
    (all_later t ts ms above.1 (both_right (is_declared (t ∷ ts) a) (all_declared (t ∷ ts) ms) all))

-- marks of declared tablets are no more than the tablets
pub marks_fit : (ms : List Alias) (ts : List Tablet) → AliasesRise ts → MarksRise ms → list_all (is_declared ts) ms ≡ true → length ms ≤ length ts
marks_fit [] ts order rise all = omega arith
marks_fit (a ∷ ms) [] order rise all = absurd (false≢true (both_left false (all_declared [] ms) all))
marks_fit (a ∷ ms) (t ∷ ts) order rise all = by_test (alias_eq t.alias a) refl (marks_fit ms ts order.1 rise.1) (marks_fit (a ∷ ms) ts order.1 rise)
  where
    by_test : (c : Bool) → alias_eq t.alias a ≡ c → (all_declared ts ms ≡ true → length ms ≤ length ts)
        → (all_declared ts (a ∷ ms) ≡ true → suc (length ms) ≤ length ts) → suc (length ms) ≤ suc (length ts)
    by_test true same without with_it =
        let above : AllAbove t.alias ms = subst (λ (c : Alias). AllAbove c ms) (sym (alias_eq_is t.alias a same)) rise.0 in
        let fits = without (all_later t ts ms above (both_right (is_declared (t ∷ ts) a) (all_declared (t ∷ ts) ms) all)) in
        omega (arith, fits)
    by_test false other without with_it =
        let later : is_declared ts a ≡ true = declared_later t ts a other (both_left (is_declared (t ∷ ts) a) (all_declared (t ∷ ts) ms) all) in
        let first : alias_cmp t.alias a ≡ Less = declared_above t ts a order.0 later in
        let fits = with_it (all_later t ts (a ∷ ms) (first, above_all t.alias a ms first rise.0) all) in
        omega (arith, fits)

-- where a declared tablet has no mark, there is room for its mark
pub marks_have_room : (ms : List Alias) (ts : List Tablet) (a : Alias) → AliasesRise ts → MarksRise ms → list_all (is_declared ts) ms ≡ true
    → is_declared ts a ≡ true → is_among ms a ≡ false → length ms < length ts
marks_have_room ms ts a order rise all declared new =
    let still : list_all (is_declared ts) (marked ms a) ≡ true = marked_all (is_declared ts) ms a declared all in
    let fits : length (marked ms a) ≤ length ts = marks_fit (marked ms a) ts order (marked_rises ms a rise) still in
    let more : length (marked ms a) ≡ suc (length ms) = length_marked ms a new in
    omega (arith, fits, more)

-- so a declared tablet can be marked
pub mark_has_room : (ms : List Alias) (ts : List Tablet) (a : Alias) → AliasesRise ts → MarksRise ms → list_all (is_declared ts) ms ≡ true
    → is_declared ts a ≡ true → (is_among ms a ≡ true) ⊎ (length ms < length ts)
mark_has_room ms ts a order rise all declared = by_test (is_among ms a) refl
  where
    by_test : (b : Bool) → is_among ms a ≡ b → (is_among ms a ≡ true) ⊎ (length ms < length ts)
    by_test true there = inl there
    by_test false new = inr (marks_have_room ms ts a order rise all declared new)

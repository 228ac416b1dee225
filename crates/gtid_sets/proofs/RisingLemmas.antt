-- Lists in order as sets.
use Rattle.std.proofs.Common.{◌≡◌, Bool, true, false, ◌&&◌, ◌||◌, cond, T, List, [], ◌∷◌, ◌++◌, length, ◌+◌, arith, refl, ap, sym, subst, ◌∙◌}
use Rattle.std.specs.List.{list_any, filter}
use Rattle.std.specs.Ordering.{is_lt, match_ordering}
use Rattle.std.specs.declared.cmp.Ordering.{Ordering}
use Rattle.std.specs.declared.cmp.Ordering.TheVariants.{Less, Equal, Greater}
use Rattle.gtid_sets.specs.declared.gtid.Gtid.{Gtid}
use Rattle.gtid_sets.specs.Gtid.{gtid_cmp, gtid_eq}
use Rattle.gtid_sets.specs.GtidOrder.{gtid_total}
use Rattle.gtid_sets.specs.Rising.{rises, put, rises-put, T_both, T_left, T_right, is_below, is_above}
use Rattle.gtid_sets.specs.Position.{of_gtids}
use Rattle.gtid_sets.proofs.BoolLemmas.{or_left, or_right, or_assoc, or_swap, and_false}
use Rattle.gtid_sets.proofs.GtidLemmas.{same_gtid, gtid_eq_itself, gtid_eq_is, below_differs}

-- whether a list has a transaction
abbrev pub member : List Gtid → Gtid → Bool
member xs g = list_any (gtid_eq g) xs

-- a transaction is below each of a list
abbrev pub Under : Gtid → List Gtid → Type 0
Under x [] = Unit {0}
Under x (y ∷ ys) = (gtid_cmp x y ≡ Less) × Under x ys

pub under_further : (x y : Gtid) (zs : List Gtid) → gtid_cmp x y ≡ Less → Under y zs → Under x zs
under_further x y [] low h = tt
under_further x y (z ∷ zs) low h = (gtid_total.trans x y z low h.0, under_further x y zs low h.1)

is_low : (o : Ordering) → T (is_lt o) → o ≡ Less
is_low Less h = refl
is_low Equal h = absurd h
is_low Greater h = absurd h

-- ---- the first of a list in order, and the others
pub rises_tail : (x : Gtid) (xs : List Gtid) → T (rises (x ∷ xs)) → T (rises xs)
rises_tail x [] h = tt
rises_tail x (y ∷ ys) h = T_right (is_lt (gtid_cmp x y)) (rises (y ∷ ys)) h

pub rises_head : (x : Gtid) (xs : List Gtid) → T (rises (x ∷ xs)) → Under x xs
rises_head x [] h = tt
rises_head x (y ∷ ys) h =
    let low : gtid_cmp x y ≡ Less = is_low (gtid_cmp x y) (T_left (is_lt (gtid_cmp x y)) (rises (y ∷ ys)) h) in
    (low, under_further x y ys low (rises_head y ys (rises_tail x (y ∷ ys) h)))

pub rises_cons : (x : Gtid) (xs : List Gtid) → Under x xs → T (rises xs) → T (rises (x ∷ xs))
rises_cons x [] low h = tt
rises_cons x (y ∷ ys) low h = T_both (is_lt (gtid_cmp x y)) (rises (y ∷ ys)) (is_below (gtid_cmp x y) low.0) h

-- ---- members
pub under_member : (x g : Gtid) (ys : List Gtid) → Under x ys → member ys g ≡ true → gtid_cmp x g ≡ Less
under_member x g [] low h = absurd (cc)
under_member x g (y ∷ ys) low h =
    elim (gtid_eq g y) as (λ r. gtid_eq g y ≡ r → (r || member ys g) ≡ true → gtid_cmp x g ≡ Less) [
      | true ↦ λ e _. subst (λ (z : Gtid). gtid_cmp x z ≡ Less) (sym (gtid_eq_is g y e)) low.0
      | false ↦ λ e m. under_member x g ys low.1 m
    ] refl h

pub under_from_members : (x : Gtid) (ys : List Gtid) → ((g : Gtid) → member ys g ≡ true → gtid_cmp x g ≡ Less) → Under x ys
under_from_members x [] each = tt
under_from_members x (y ∷ ys) each =
    (each y (or_left (gtid_eq y y) (member ys y) (gtid_eq_itself y)), under_from_members x ys (λ g m. each g (or_right (gtid_eq g y) (member ys g) m)))

pub not_member : (x : Gtid) (ys : List Gtid) → Under x ys → member ys x ≡ false
not_member x [] low = refl
not_member x (y ∷ ys) low = rw (below_differs x y low.0, not_member x ys low.1) refl

pub member_append : (g : Gtid) (xs ys : List Gtid) → member (xs ++ ys) g ≡ (member xs g || member ys g)
member_append g [] ys = refl
member_append g (x ∷ xs) ys = rw (member_append g xs ys) (or_assoc (gtid_eq g x) (member xs g) (member ys g))

-- ---- two lists in order that have the same members are one
pub same_list : (xs ys : List Gtid) → T (rises xs) → T (rises ys) → ((g : Gtid) → member xs g ≡ member ys g) → xs ≡ ys
same_list [] [] h k same = refl
same_list [] (y ∷ ys) h k same =
    let one : (gtid_eq y y || member ys y) ≡ true = or_left (gtid_eq y y) (member ys y) (gtid_eq_itself y) in
    let none : false ≡ (gtid_eq y y || member ys y) = same y in absurd (cc)
same_list (x ∷ xs) [] h k same =
    let one : (gtid_eq x x || member xs x) ≡ true = or_left (gtid_eq x x) (member xs x) (gtid_eq_itself x) in
    let none : (gtid_eq x x || member xs x) ≡ false = same x in absurd (cc)
same_list (x ∷ xs) (y ∷ ys) h k same =
    elim (gtid_cmp x y) as (λ o. gtid_cmp x y ≡ o → x ∷ xs ≡ y ∷ ys) [
      | Less ↦ λ e.
          let one : (gtid_eq x x || member xs x) ≡ true = or_left (gtid_eq x x) (member xs x) (gtid_eq_itself x) in
          let none : member (y ∷ ys) x ≡ false = not_member x (y ∷ ys) (e, under_further x y ys e (rises_head y ys k)) in
          let both : (gtid_eq x x || member xs x) ≡ member (y ∷ ys) x = same x in absurd (cc)
      | Equal ↦ λ e. cons_same x y (same_gtid x y e) xs ys (same_list xs ys (rises_tail x xs h) (rises_tail y ys k) (λ g. rest x y (same_gtid x y e) g xs ys (rises_head x xs h) (rises_head y ys k) (same g)))
      | Greater ↦ λ e.
          let low : gtid_cmp y x ≡ Less = is_above x y e in
          let one : (gtid_eq y y || member ys y) ≡ true = or_left (gtid_eq y y) (member ys y) (gtid_eq_itself y) in
          let none : member (x ∷ xs) y ≡ false = not_member y (x ∷ xs) (low, under_further y x xs low (rises_head x xs h)) in
          let both : member (x ∷ xs) y ≡ (gtid_eq y y || member ys y) = same y in absurd (cc)
    ] refl
  where
    cons_same : (x y : Gtid) → x ≡ y → (xs ys : List Gtid) → xs ≡ ys → x ∷ xs ≡ y ∷ ys
    cons_same x y e xs ys f = cc

    rest : (x y : Gtid) → x ≡ y → (g : Gtid) (xs ys : List Gtid) → Under x xs → Under y ys → (gtid_eq g x || member xs g) ≡ (gtid_eq g y || member ys g) → member xs g ≡ member ys g
    rest x y one g xs ys low high both =
        elim (gtid_eq g x) as (λ r. gtid_eq g x ≡ r → (r || member xs g) ≡ (gtid_eq g y || member ys g) → member xs g ≡ member ys g) [
          | true ↦ λ e _.
              let here : g ≡ x = gtid_eq_is g x e in
              let left : member xs x ≡ false = not_member x xs low in
              let right : member ys y ≡ false = not_member y ys high in
              let at_g : member xs g ≡ member xs x = ap (member xs) here in
              let at_y : member ys g ≡ member ys y = ap (member ys) (here ∙ one) in
              at_g ∙ left ∙ sym right ∙ sym at_y
          | false ↦ λ e m. let off : gtid_eq g y ≡ false = subst (λ (z : Gtid). gtid_eq g z ≡ false) one e in m ∙ (rw off refl)
        ] refl both

-- ---- the set of a list
pub member_put : (g q : Gtid) (xs : List Gtid) → member (put g xs) q ≡ (gtid_eq q g || member xs q)
member_put g q [] = refl
member_put g q (x ∷ xs) =
    elim (gtid_cmp g x) as (λ o. gtid_cmp g x ≡ o → member (match_ordering o (g ∷ x ∷ xs) (x ∷ xs) (x ∷ put g xs)) q ≡ (gtid_eq q g || (gtid_eq q x || member xs q))) [
      | Less ↦ λ e. refl
      | Equal ↦ λ e. rw (same_gtid g x e) (again (gtid_eq q x) (member xs q))
      | Greater ↦ λ e. rw (member_put g q xs) (or_swap (gtid_eq q x) (gtid_eq q g) (member xs q))
    ] refl
  where
    again : (a b : Bool) → (a || b) ≡ (a || (a || b))
    again true b = refl
    again false b = refl

pub member_of_gtids : (gs : List Gtid) (q : Gtid) → member (of_gtids gs).gtids q ≡ member gs q
member_of_gtids [] q = refl
member_of_gtids (g ∷ gs) q = member_put g q (of_gtids gs).gtids ∙ ap (λ b. gtid_eq q g || b) (member_of_gtids gs q)

-- the set of a list in order is that list
pub of_rising : (gs : List Gtid) → T (rises gs) → (of_gtids gs).gtids ≡ gs
of_rising gs h = same_list (of_gtids gs).gtids gs (of_gtids gs).in_order h (member_of_gtids gs)

-- ---- what a filter keeps
pub member_filter : (f : Gtid → Bool) (g : Gtid) (xs : List Gtid) → member (filter f xs) g ≡ (member xs g && f g)
member_filter f g [] = refl
member_filter f g (x ∷ xs) =
    elim (gtid_eq g x) as (λ r. gtid_eq g x ≡ r → member (cond (f x) (x ∷ filter f xs) (filter f xs)) g ≡ ((r || member xs g) && f g)) [
      | true ↦ λ e. rw (← (gtid_eq_is g x e)) (at (f g) (member_filter f g xs) refl)
      | false ↦ λ e. off x e (f x) ∙ member_filter f g xs
    ] refl
  where
    at : (b : Bool) → member (filter f xs) g ≡ (member xs g && f g) → f g ≡ b → member (cond b (g ∷ filter f xs) (filter f xs)) g ≡ b
    at true m e = or_left (gtid_eq g g) (member (filter f xs) g) (gtid_eq_itself g)
    at false m e = m ∙ (rw e (and_false (member xs g)))

    off : (y : Gtid) → gtid_eq g y ≡ false → (b : Bool) → member (cond b (y ∷ filter f xs) (filter f xs)) g ≡ member (filter f xs) g
    off y e true = rw e refl
    off y e false = refl

-- ---- one more
-- what is there is not put again
pub put_found : (xs : List Gtid) (g : Gtid) → T (rises xs) → member xs g ≡ true → put g xs ≡ xs
put_found xs g h there = same_list (put g xs) xs (rises-put g xs h) h (λ q. member_put g q xs ∙ known q)
  where
    known : (q : Gtid) → (gtid_eq q g || member xs q) ≡ member xs q
    known q = elim (gtid_eq q g) as (λ b. gtid_eq q g ≡ b → (b || member xs q) ≡ member xs q) [
      | true ↦ λ e. sym (ap (member xs) (gtid_eq_is q g e) ∙ there)
      | false ↦ λ e. refl
    ] refl

-- what is missing makes one more
pub length_put : (xs : List Gtid) (g : Gtid) → member xs g ≡ false → length (put g xs) ≡ length xs + 1
length_put [] g none = refl
length_put (x ∷ xs) g none =
    elim (gtid_cmp g x) as (λ o. gtid_cmp g x ≡ o → length (match_ordering o (g ∷ x ∷ xs) (x ∷ xs) (x ∷ put g xs)) ≡ length (x ∷ xs) + 1) [
      | Less ↦ λ e. omega arith
      | Equal ↦ λ e. let here : gtid_eq g x ≡ true = subst (λ (z : Gtid). gtid_eq g z ≡ true) (same_gtid g x e) (gtid_eq_itself g) in
          let some : (gtid_eq g x || member xs g) ≡ true = or_left (gtid_eq g x) (member xs g) here in absurd (cc)
      | Greater ↦ λ e. let more : length (put g xs) ≡ length xs + 1 = length_put xs g (rest (gtid_eq g x) (member xs g) none) in omega arith
    ] refl
  where
    rest : (a b : Bool) → (a || b) ≡ false → b ≡ false
    rest true b h = absurd (cc)
    rest false b h = h

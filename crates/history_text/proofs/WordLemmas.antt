-- The words of a text.
use Rattle.std.proofs.Common.{◌≡◌, ℕ, ◌<◌, ◌==◌, Bool, true, false, cond, not, ◌&&◌, refl, sym, ap, ◌∙◌, arith, List, [], ◌∷◌, ◌++◌, length}
use Rattle.std.specs.Prelude.{codes}
use Rattle.std.specs.List.{list_all, slice_split, onto_first}
use Rattle.std.proofs.lemmas.Bool.{false≢true}
use Rattle.std.proofs.lemmas.Bool.Decides.{nat_tests}
use Rattle.std.proofs.lemmas.List.{append_assoc, append-nil}
use Rattle.std.proofs.lemmas.List.Splits.{length-slice_split, slice_split-cons_yes}
use Rattle.history_text.specs.Laws.{is_other, Without}

-- the parts between bytes c
abbrev pub parts_at : ℕ → List ℕ → List (List ℕ)
parts_at c text = slice_split (λ b. b == c) text

some_part : (c : ℕ) (xs : List ℕ) → 0 < length (parts_at c xs)
some_part c xs = let long = length-slice_split (λ b. b == c) xs in omega (arith, long)

onto_first_append : (x : ℕ) (ps qs : List (List ℕ)) → 0 < length ps → onto_first x (ps ++ qs) ≡ onto_first x ps ++ qs
onto_first_append x [] qs h = absurd (omega (arith, h))
onto_first_append x (p ∷ ps) qs h = refl

pub parted : (c : ℕ) (xs ys : List ℕ) → parts_at c (xs ++ c ∷ ys) ≡ parts_at c xs ++ parts_at c ys
parted c [] ys = slice_split-cons_yes (λ b. b == c) c ys (grind (arith, nat_tests))
parted c (x ∷ xs) ys = by_test (x == c) (parted c xs ys)
  where
    by_test : (t : Bool) → parts_at c (xs ++ c ∷ ys) ≡ parts_at c xs ++ parts_at c ys
        → cond t ([] ∷ parts_at c (xs ++ c ∷ ys)) (onto_first x (parts_at c (xs ++ c ∷ ys))) ≡ cond t ([] ∷ parts_at c xs) (onto_first x (parts_at c xs)) ++ parts_at c ys
    by_test true h = ap (λ (t : List (List ℕ)). [] ∷ t) h
    by_test false h = ap (onto_first x) h ∙ onto_first_append x (parts_at c xs) (parts_at c ys) (some_part c xs)

one_part : (c : ℕ) (xs : List ℕ) → list_all (is_other c) xs ≡ true → parts_at c xs ≡ xs ∷ []
one_part c [] h = refl
one_part c (x ∷ xs) h = by_test (x == c) h (one_part c xs)
  where
    by_test : (t : Bool) → (not t && list_all (is_other c) xs) ≡ true → (list_all (is_other c) xs ≡ true → parts_at c xs ≡ xs ∷ [])
        → cond t ([] ∷ parts_at c xs) (onto_first x (parts_at c xs)) ≡ (x ∷ xs) ∷ []
    by_test true h more = absurd (false≢true h)
    by_test false h more = ap (onto_first x) (more h)

pub whole : {c : ℕ} {text : List ℕ} → Without c text → parts_at c text ≡ text ∷ []
whole {c} {text} h = one_part c text h.all_other

-- ---- words between blanks

pub record HasWords (text : List ℕ) (words : List (List ℕ)) : Type 0 where
  pub are : parts_at 32 text ≡ words

pub said : (text : List ℕ) → list_all (is_other 32) text ≡ true → HasWords text (text ∷ [])
said text h = record { are = one_part 32 text h }

pub one : {text : List ℕ} → Without 32 text → HasWords text (text ∷ [])
one h = record { are = whole h }

infixl 10 ◌▹◌
-- one text behind another and a blank
pub ◌▹◌ : {a b : List ℕ} {vs ws : List (List ℕ)} → HasWords a vs → HasWords b ws → HasWords (a ++ codes " " ++ b) (vs ++ ws)
◌▹◌ {a} {b} {vs} {ws} first next =
    record { are = ap (parts_at 32) (append_assoc a (codes " ") b) ∙ parted 32 a b ∙ ap (λ (t : List (List ℕ)). t ++ parts_at 32 b) first.are ∙ ap (λ (t : List (List ℕ)). vs ++ t) next.are }

-- what a text adds to the words before it
pub record AddsWords (text : List ℕ) (words : List (List ℕ)) : Type 0 where
  pub are : (front : List ℕ) → parts_at 32 (front ++ text) ≡ parts_at 32 front ++ words

pub adds_none : AddsWords [] []
adds_none = record { are = λ front. ap (parts_at 32) (append-nil front) ∙ sym (append-nil (parts_at 32 front)) }

pub adds : {text : List ℕ} {ws : List (List ℕ)} → HasWords text ws → AddsWords (32 ∷ text) ws
adds {text} {ws} h = record { are = λ front. parted 32 front text ∙ ap (λ (t : List (List ℕ)). parts_at 32 front ++ t) h.are }

infixl 10 ◌▸◌
pub ◌▸◌ : {a b : List ℕ} {vs ws : List (List ℕ)} → AddsWords a vs → AddsWords b ws → AddsWords (a ++ b) (vs ++ ws)
◌▸◌ {a} {b} {vs} {ws} first next =
    record {
      are = λ front. ap (parts_at 32) (sym (append_assoc front a b)) ∙ next.are (front ++ a)
          ∙ ap (λ (t : List (List ℕ)). t ++ ws) (first.are front) ∙ append_assoc (parts_at 32 front) vs ws;
    }

pub followed : {a b : List ℕ} {vs ws : List (List ℕ)} → HasWords a vs → AddsWords b ws → HasWords (a ++ b) (vs ++ ws)
followed {a} {b} {vs} {ws} first next = record { are = next.are a ∙ ap (λ (t : List (List ℕ)). t ++ ws) first.are }

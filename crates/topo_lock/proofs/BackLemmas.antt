-- The intent of a term, looked for from the last intent on.
use Rattle.std.proofs.Common.{◌≡◌, ℕ, ◌<◌, ◌≤◌, Bool, true, false, ◌==◌, List, [], ◌∷◌, ◌++◌, reverse, Option, Some, None, refl, ap, ◌∙◌, cond, nat_le, arith}
use Rattle.std.specs.Option.{option_or}
use Rattle.std.specs.List.{find, AllByRecursion}
use Rattle.std.proofs.lemmas.Bool.Decides.{nat_tests}
use Rattle.std.proofs.lemmas.List.{reverse-append}
use Rattle.std.proofs.lemmas.List.Folds.{find-append}
use Rattle.shard_base.specs.Options.{only_if}
use Rattle.topo_lock.specs.declared.intent.Intent.{Intent}
use Rattle.topo_lock.specs.Laws.{TermsRise}
use Rattle.topo_lock.specs.State.{if_of_term}

reverse_cons : {A : Type 0} (x : A) (xs : List A) → reverse (x ∷ xs) ≡ reverse xs ++ x ∷ []
reverse_cons x xs = reverse-append (x ∷ []) xs

none_within : (u v : ℕ) (is : List Intent) → u ≤ v → AllByRecursion (λ i. v < i.term) is → find (λ i. nat_le i.term u) (reverse is) ≡ None
none_within u v [] le above = refl
none_within u v (i ∷ is) le above =
    let first : v < i.term = above.0 in
    let over : nat_le i.term u ≡ false = grind (arith, nat_tests) in
    ap (λ (js : List Intent). find (λ i. nat_le i.term u) js) (reverse_cons i is)
    ∙ find-append (λ i. nat_le i.term u) (reverse is) (i ∷ [])
    ∙ ap (λ (o : Option Intent). option_or o (cond (nat_le i.term u) (Some i) None)) (none_within u v is le above.1)
    ∙ ap (λ (b : Bool). cond b (Some i) None) over

later_first : (u : ℕ) (i : Intent) (o found : Option Intent) (b : Bool) → nat_le i.term u ≡ b → (i.term == u) ≡ false → if_of_term u o ≡ found
    → if_of_term u (option_or o (cond b (Some i) None)) ≡ found
later_first u i (Some j) found b is other e = e
later_first u i None found true is other e = ap (λ (c : Bool). only_if c i) other ∙ e
later_first u i None found false is other e = e

by_head : (u : ℕ) (i : Intent) (is : List Intent) (b : Bool) → (i.term == u) ≡ b → AllByRecursion (λ j. i.term < j.term) is
    → if_of_term u (find (λ i. nat_le i.term u) (reverse is)) ≡ find (λ i. i.term == u) is
    → if_of_term u (option_or (find (λ i. nat_le i.term u) (reverse is)) (cond (nat_le i.term u) (Some i) None)) ≡ cond b (Some i) (find (λ i. i.term == u) is)
by_head u i is true this above rest =
    let same : u ≤ i.term = grind (arith, nat_tests) in
    let within : nat_le i.term u ≡ true = grind (arith, nat_tests) in
    ap (λ (o : Option Intent). if_of_term u (option_or o (cond (nat_le i.term u) (Some i) None))) (none_within u i.term is same above)
    ∙ ap (λ (b : Bool). if_of_term u (cond b (Some i) None)) within
    ∙ ap (λ (b : Bool). only_if b i) this
by_head u i is false this above rest = later_first u i (find (λ i. nat_le i.term u) (reverse is)) (find (λ i. i.term == u) is) (nat_le i.term u) refl this rest

-- where the terms rise, the first of no later term from the end on is that of the term, if there is one
pub find_back : (u : ℕ) (is : List Intent) → TermsRise is → if_of_term u (find (λ i. nat_le i.term u) (reverse is)) ≡ find (λ i. i.term == u) is
find_back u [] rise = refl
find_back u (i ∷ is) rise =
    ap (λ (js : List Intent). if_of_term u (find (λ i. nat_le i.term u) js)) (reverse_cons i is)
    ∙ ap (if_of_term u) (find-append (λ i. nat_le i.term u) (reverse is) (i ∷ []))
    ∙ by_head u i is (i.term == u) refl rise.0 (find_back u is rise.1)

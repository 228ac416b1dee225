-- What a replica needs of the entries that are left of its source's log.
use Rattle.std.proofs.Common.{◌≡◌, ℕ, zero, suc, ◌+◌, ◌-◌, ◌<◌, ◌≤◌, Bool, true, false, not, ◌||◌, List, [], ◌∷◌, drop, length, get_or, Option, Some, None, ap, sym, ◌∙◌, cond, arith}
use Rattle.gtid_sets.specs.declared.entry.Entry.{Entry}
use Rattle.gtid_sets.specs.Logs.{holds}
use Rattle.shard_calls.specs.Messages.{has_come_to, needed_from}
use Rattle.arrivals.specs.Feeding.{needed_of}
use Rattle.arrivals.proofs.WalkLemmas.{all_dropped}

first_left : {A : Type 0} (xs : List A) (k : ℕ) (x : A) → k < length xs → x ≡ get_or xs k x → drop k xs ≡ x ∷ drop (suc k) xs
first_left [] k x less e = absurd (omega arith)
first_left {A} (y ∷ xs) zero x less e = ap (λ (z : A). z ∷ xs) (sym e)
first_left (y ∷ xs) (suc k) x less e = first_left xs k x (omega (arith, less)) e

pub from_start : (source : List Entry) (row : Option ℕ) (held : List Entry) (n start i : ℕ) → start ≡ n - 1 → i ≡ n
    → needed_of source row held n ≡ needed_from i row held (drop start source)
from_start source row held n start i here e =
    ap (λ (j : ℕ). needed_from j row held (drop (n - 1) source)) (sym e)
    ∙ ap (λ (k : ℕ). needed_from i row held (drop k source)) (sym here)

-- the first entry that is left is needed
pub needed_here : (source held : List Entry) (row : Option ℕ) (i at : ℕ) (e : Entry) → at < length source → e ≡ get_or source at e
    → (not (holds held e.gtid) || has_come_to row i) ≡ true → needed_from i row held (drop at source) ≡ Some (record { index = i; entry = e })
needed_here source held row i at e less is h =
    ap (λ (es : List Entry). needed_from i row held es) (first_left source at e less is)
    ∙ ap (λ (t : Bool). cond t (Some (record { index = i; entry = e })) (needed_from (i + 1) row held (drop (suc at) source))) h

-- it is not
pub not_needed : (source held : List Entry) (row : Option ℕ) (i j at next : ℕ) (e : Entry) → at < length source → e ≡ get_or source at e
    → (not (holds held e.gtid) || has_come_to row i) ≡ false → j ≡ i + 1 → next ≡ at + 1
    → needed_from i row held (drop at source) ≡ needed_from j row held (drop next source)
not_needed source held row i j at next e less is h index place =
    let following : suc at ≡ next = omega (arith, place) in
    ap (λ (es : List Entry). needed_from i row held es) (first_left source at e less is)
    ∙ ap (λ (t : Bool). cond t (Some (record { index = i; entry = e })) (needed_from (i + 1) row held (drop (suc at) source))) h
    ∙ ap (λ (k : ℕ). needed_from k row held (drop (suc at) source)) (sym index)
    ∙ ap (λ (k : ℕ). needed_from j row held (drop k source)) following

pub nothing_needed : (source held : List Entry) (row : Option ℕ) (i at : ℕ) → length source ≤ at → needed_from i row held (drop at source) ≡ None
nothing_needed source held row i at long = ap (λ (es : List Entry). needed_from i row held es) (all_dropped source at long)

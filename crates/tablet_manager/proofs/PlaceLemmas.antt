-- Where the newest row of a log stands.
use Rattle.std.proofs.Common.{◌≡◌, ℕ, ◌+◌, ◌<◌, ◌≤◌, max, Bool, true, false, refl, ap, sym, ◌∙◌, arith, List, [], ◌∷◌, ◌++◌, cond, nat_lt, ◌==◌, length, Option, Some, None, unwrap_or}
use Rattle.std.specs.Option.{option_or, option_map}
use Rattle.std.specs.List.{position_from}
use Rattle.std.proofs.lemmas.Bool.Decides.{nat_tests}
use Rattle.std.proofs.lemmas.Iterator.Adapters.{position_from-zero}
use Rattle.shard_names.specs.declared.alias.Alias.{Alias}
use Rattle.gtid_sets.specs.declared.gtid.Gtid.{Gtid}
use Rattle.gtid_sets.specs.declared.entry.Entry.{Entry}
use Rattle.gtid_sets.specs.declared.entry.Kind.{Kind}
use Rattle.gtid_sets.specs.declared.entry.Kind.TheVariants as kind
use Rattle.gtid_sets.specs.Logs.{row_or_zero, row_term, is_row_of, newest_row, place_of_row}
use Rattle.shard_calls.proofs.LogLemmas.{newest-push}
use Rattle.tablet_manager.specs.Rows.{place_after}
use Rattle.tablet_manager.proofs.RowLemmas.{not_row}

-- ---- the first that passes, counted from any number on

shift_one : (t : Bool) (i : ℕ) (o p : Option ℕ) → option_map (λ k. k + 1) o ≡ p → option_map (λ k. k + 1) (cond t (Some i) o) ≡ cond t (Some (i + 1)) p
shift_one true i o p e = refl
shift_one false i o p e = e

shifted : {A : Type 0} (test : A → Bool) (i : ℕ) (xs : List A) → option_map (λ k. k + 1) (position_from test i xs) ≡ position_from test (i + 1) xs
shifted test i [] = refl
shifted test i (x ∷ xs) = shift_one (test x) i (position_from test (i + 1) xs) (position_from test (i + 1 + 1) xs) (shifted test (i + 1) xs)

pub place_is : (log : List Entry) (n : ℕ) → place_of_row log n ≡ position_from (is_row_of n) 1 log
place_is log n = ap (λ (o : Option ℕ). option_map (λ k. k + 1) o) (position_from-zero (is_row_of n) log) ∙ shifted (is_row_of n) 0 log

push_one : (t : Bool) (i : ℕ) (o p more : Option ℕ) → o ≡ option_or p more → cond t (Some i) o ≡ option_or (cond t (Some i) p) more
push_one true i o p more e = refl
push_one false i o p more e = e

-- one more member
pub first-push : {A : Type 0} (test : A → Bool) (i k : ℕ) (xs : List A) (x : A) → k ≡ i + length xs
    → position_from test i (xs ++ x ∷ []) ≡ option_or (position_from test i xs) (cond (test x) (Some k) None)
first-push test i k [] x e = ap (λ (j : ℕ). cond (test x) (Some j) None) (let same : i ≡ k = omega (arith, e) in same)
first-push test i k (y ∷ xs) x e =
    push_one (test y) i (position_from test (i + 1) (xs ++ x ∷ [])) (position_from test (i + 1) xs) (cond (test x) (Some k) None) (first-push test (i + 1) k xs x (omega (arith, e)))

-- ---- rows

none_above : (i : ℕ) (log : List Entry) (term : ℕ) → newest_row log < term → position_from (is_row_of term) i log ≡ None
none_above i [] term above = refl
none_above i (e ∷ log) term above =
    let first : is_row_of term e ≡ false = not_row e term (let low : row_or_zero e < term = grind arith in low) in
    rw first (none_above (i + 1) log term (let low : newest_row log < term = grind arith in low))

place_of_pushed : (log : List Entry) (e : Entry) (n : ℕ) → place_of_row (log ++ e ∷ []) n ≡ option_or (place_of_row log n) (cond (is_row_of n e) (Some (length log + 1)) None)
place_of_pushed log e n =
    place_is (log ++ e ∷ []) n
    ∙ first-push (is_row_of n) 1 (length log + 1) log e (omega arith)
    ∙ ap (λ (o : Option ℕ). option_or o (cond (is_row_of n e) (Some (length log + 1)) None)) (sym (place_is log n))

nothing_more : (o : Option ℕ) → option_or o None ≡ o
nothing_more None = refl
nothing_more (Some k) = refl

or_first : (o : Option ℕ) (t : Bool) (k : ℕ) → option_or o (cond t (Some k) None) ≡ cond t (Some (unwrap_or o k)) o
or_first None true k = refl
or_first None false k = refl
or_first (Some j) true k = refl
or_first (Some j) false k = refl

-- the place in the row of the greater of two terms
abbrev pub place_with : List Entry → Entry → ℕ → Option ℕ
place_with log e n = option_or (place_of_row log n) (cond (is_row_of n e) (Some (length log + 1)) None)

row_placed : (log : List Entry) (g : Gtid) (t : ℕ) (a : Alias) (c : Bool) → nat_lt (newest_row log) t ≡ c
    → place_with log (record { gtid = g; kind = kind.Row t a }) (max (newest_row log) t)
    ≡ cond c (Some (length log + 1)) (cond (t == newest_row log) (Some (unwrap_or (place_of_row log (newest_row log)) (length log + 1))) (place_of_row log (newest_row log)))
row_placed log g t a true is =
    let above : newest_row log < t = grind (arith, nat_tests) in
    let most : max (newest_row log) t ≡ t = omega arith in
    let itself : (t == t) ≡ true = grind (arith, nat_tests) in
    ap (λ (m : ℕ). place_with log (record { gtid = g; kind = kind.Row t a }) m) most
    ∙ ap (λ (o : Option ℕ). option_or o (cond (t == t) (Some (length log + 1)) None)) (place_is log t ∙ none_above 1 log t above)
    ∙ ap (λ (b : Bool). cond b (Some (length log + 1)) None) itself
row_placed log g t a false is =
    let low : t ≤ newest_row log = grind (arith, nat_tests) in
    let most : max (newest_row log) t ≡ newest_row log = omega arith in
    ap (λ (m : ℕ). place_with log (record { gtid = g; kind = kind.Row t a }) m) most
    ∙ or_first (place_of_row log (newest_row log)) (t == newest_row log) (length log + 1)

by_kind : (log : List Entry) (g : Gtid) (k : Kind)
    → place_with log (record { gtid = g; kind = k }) (max (newest_row log) (unwrap_or (row_term k) 0)) ≡ place_after (newest_row log) (place_of_row log (newest_row log)) (length log) k
by_kind log g (kind.Write term client number) =
    ap (λ (m : ℕ). place_with log (record { gtid = g; kind = kind.Write term client number }) m) (let most : max (newest_row log) 0 ≡ newest_row log = omega arith in most)
    ∙ nothing_more (place_of_row log (newest_row log))
by_kind log g (kind.Row term alias) = row_placed log g term alias _ refl
by_kind log g kind.Local =
    ap (λ (m : ℕ). place_with log (record { gtid = g; kind = kind.Local }) m) (let most : max (newest_row log) 0 ≡ newest_row log = omega arith in most)
    ∙ nothing_more (place_of_row log (newest_row log))

-- the newest row of a log with one more entry
pub place-push : (log : List Entry) (e : Entry)
    → place_of_row (log ++ e ∷ []) (newest_row (log ++ e ∷ [])) ≡ place_after (newest_row log) (place_of_row log (newest_row log)) (length log) e.kind
place-push log e =
    place_of_pushed log e (newest_row (log ++ e ∷ []))
    ∙ ap (λ (m : ℕ). place_with log e m) (newest-push log e)
    ∙ by_kind log e.gtid e.kind

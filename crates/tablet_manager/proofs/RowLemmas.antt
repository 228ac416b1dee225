-- What is kept of the rows of a log beside it.
use Rattle.std.proofs.Common.{◌≡◌, ℕ, ◌≤◌, ◌<◌, max, Bool, true, false, refl, ap, sym, subst, ◌∙◌, arith, List, [], ◌∷◌, ◌++◌, cond, ◌||◌, ◌&&◌, nat_lt, nat_eq, ◌==◌, Option, Some, None, unwrap_or}
use Rattle.std.specs.List.{list_any}
use Rattle.std.proofs.lemmas.Bool.Decides.{nat_tests}
use Rattle.shard_names.specs.declared.alias.Alias.{Alias}
use Rattle.shard_names.specs.Tablets.{alias_eq}
use Rattle.gtid_sets.specs.declared.gtid.Gtid.{Gtid}
use Rattle.gtid_sets.specs.declared.entry.Entry.{Entry}
use Rattle.gtid_sets.specs.declared.entry.Kind.{Kind}
use Rattle.gtid_sets.specs.declared.entry.Kind.TheVariants as kind
use Rattle.gtid_sets.specs.Logs.{row_term, before_rows, rows_of, row_or_zero, is_row_of, has_row, newest_row, is_own_row, is_named, newest_row_names}
use Rattle.shard_calls.proofs.LogLemmas.{newest-push, any-push}
use Rattle.tablet_manager.specs.Managed.{names_after}

-- ---- the terms of the rows

before_append : (o : Option ℕ) (xs ys : List ℕ) → before_rows o (xs ++ ys) ≡ before_rows o xs ++ ys
before_append None xs ys = refl
before_append (Some t) xs ys = refl

pub rows-push : (log : List Entry) (e : Entry) → rows_of (log ++ e ∷ []) ≡ rows_of log ++ rows_of (e ∷ [])
rows-push [] e = refl
rows-push (x ∷ log) e = ap (λ (ts : List ℕ). before_rows (row_term x.kind) ts) (rows-push log e) ∙ before_append (row_term x.kind) (rows_of log) (rows_of (e ∷ []))

any_before : (o : Option ℕ) (ts : List ℕ) (term : ℕ) → list_any (λ t. nat_eq t term) (before_rows o ts) ≡ ((elim o as (λ _. Bool) [ Some t ↦ t == term | None ↦ false ]) || list_any (λ t. nat_eq t term) ts)
any_before None ts term = refl
any_before (Some t) ts term = refl

pub any_rows : (log : List Entry) (term : ℕ) → list_any (λ t. nat_eq t term) (rows_of log) ≡ has_row log term
any_rows [] term = refl
any_rows (e ∷ log) term = any_before (row_term e.kind) (rows_of log) term ∙ ap (λ (b : Bool). is_row_of term e || b) (any_rows log term)

-- the test of one entry's row, by its term
by_term : (o : Option ℕ) (term : ℕ) → unwrap_or o 0 < term → (elim o as (λ _. Bool) [ Some t ↦ t == term | None ↦ false ]) ≡ false
by_term None term above = refl
by_term (Some t) term above = grind (arith, nat_tests)

pub not_row : (e : Entry) (term : ℕ) → row_or_zero e < term → is_row_of term e ≡ false
not_row e term above = by_term (row_term e.kind) term above

-- no row is of a later term than the newest
pub no_row_above : (log : List Entry) (term : ℕ) → newest_row log < term → has_row log term ≡ false
no_row_above [] term above = refl
no_row_above (e ∷ log) term above =
    let first : is_row_of term e ≡ false = not_row e term (let low : row_or_zero e < term = grind arith in low) in
    rw first (no_row_above log term (let low : newest_row log < term = grind arith in low))

and_false : (a b : Bool) → a ≡ false → (a && b) ≡ false
and_false true b h = absurd (cc)
and_false false b h = refl

none_named_above : (log : List Entry) (a : Alias) (term : ℕ) → newest_row log < term → list_any (is_own_row a term) log ≡ false
none_named_above [] a term above = refl
none_named_above (e ∷ log) a term above =
    let first : is_own_row a term e ≡ false = and_false (is_row_of term e) (is_named a e.kind) (not_row e term (let low : row_or_zero e < term = grind arith in low)) in
    rw first (none_named_above log a term (let low : newest_row log < term = grind arith in low))

-- ---- whose the newest row is

-- whether the log names the alias in the row of n
abbrev named_by : List Entry → Alias → ℕ → Bool
named_by log a n = nat_lt 0 n && list_any (is_own_row a n) log

-- and with one more entry
abbrev named_with : List Entry → Alias → Entry → ℕ → Bool
named_with log a e n = nat_lt 0 n && (is_own_row a n e || list_any (is_own_row a n) log)

spread : (p c b l : Bool) → (p && ((c && b) || l)) ≡ ((p && c && b) || (p && l))
spread true c b l = refl
spread false c b l = refl

or_false : (b : Bool) → (b || false) ≡ b
or_false true = refl
or_false false = refl

nothing_first : (p c b l : Bool) → c ≡ false → ((p && c && b) || l) ≡ l
nothing_first true true b l h = absurd (cc)
nothing_first true false b l h = refl
nothing_first false c b l h = refl

at_newest : (t n : ℕ) (b l c : Bool) → (t == n) ≡ c → (nat_lt 0 n && (((t == n) && b) || l)) ≡ ((nat_lt 0 t && (t == n) && b) || (nat_lt 0 n && l))
at_newest t n b l true is =
    let same : t ≡ n = grind (arith, nat_tests) in
    subst (λ (m : ℕ). (nat_lt 0 m && (((t == m) && b) || l)) ≡ ((nat_lt 0 t && (t == m) && b) || (nat_lt 0 m && l))) same (spread (nat_lt 0 t) (t == t) b l)
at_newest t n b l false is =
    ap (λ (c : Bool). nat_lt 0 n && ((c && b) || l)) is ∙ sym (nothing_first (nat_lt 0 t) (t == n) b (nat_lt 0 n && l) is)

above_newest : (t n : ℕ) (b l : Bool) → n < t → l ≡ false → (nat_lt 0 t && (((t == t) && b) || l)) ≡ b
above_newest t n b l above none =
    let some : nat_lt 0 t ≡ true = grind (arith, nat_tests) in
    let same : (t == t) ≡ true = grind (arith, nat_tests) in
    rw (some, same, none) (or_false b)

row_named : (log : List Entry) (a b : Alias) (g : Gtid) (t : ℕ) (c : Bool) → nat_lt (newest_row log) t ≡ c
    → named_with log a (record { gtid = g; kind = kind.Row t b }) (max (newest_row log) t)
    ≡ cond c (alias_eq b a) ((nat_lt 0 t && (t == newest_row log) && alias_eq b a) || named_by log a (newest_row log))
row_named log a b g t true is =
    let above : newest_row log < t = grind (arith, nat_tests) in
    let most : max (newest_row log) t ≡ t = omega arith in
    ap (λ (m : ℕ). named_with log a (record { gtid = g; kind = kind.Row t b }) m) most
    ∙ above_newest t (newest_row log) (alias_eq b a) (list_any (is_own_row a t) log) above (none_named_above log a t above)
row_named log a b g t false is =
    let low : t ≤ newest_row log = grind (arith, nat_tests) in
    let most : max (newest_row log) t ≡ newest_row log = omega arith in
    ap (λ (m : ℕ). named_with log a (record { gtid = g; kind = kind.Row t b }) m) most
    ∙ at_newest t (newest_row log) (alias_eq b a) (list_any (is_own_row a (newest_row log)) log) _ refl

by_kind : (log : List Entry) (a : Alias) (g : Gtid) (k : Kind)
    → named_with log a (record { gtid = g; kind = k }) (max (newest_row log) (unwrap_or (row_term k) 0)) ≡ names_after (newest_row log) (named_by log a (newest_row log)) a k
by_kind log a g (kind.Write term client number) = ap (named_by log a) (let most : max (newest_row log) 0 ≡ newest_row log = omega arith in most)
by_kind log a g (kind.Row term alias) = row_named log a alias g term _ refl
by_kind log a g kind.Local = ap (named_by log a) (let most : max (newest_row log) 0 ≡ newest_row log = omega arith in most)

pub names-push : (log : List Entry) (e : Entry) (a : Alias) → newest_row_names (log ++ e ∷ []) a ≡ names_after (newest_row log) (newest_row_names log a) a e.kind
names-push log e a =
    ap (λ (m : ℕ). nat_lt 0 m && list_any (is_own_row a m) (log ++ e ∷ [])) (newest-push log e)
    ∙ ap (λ (b : Bool). nat_lt 0 (max (newest_row log) (row_or_zero e)) && b) (any-push (is_own_row a (max (newest_row log) (row_or_zero e))) log e)
    ∙ by_kind log a e.gtid e.kind

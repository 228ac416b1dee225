-- What one more entry adds to a log.
use Rattle.std.proofs.Common.{◌≡◌, ℕ, max, Bool, refl, ap, sym, ◌∙◌, arith, List, [], ◌∷◌, ◌++◌, map, ◌||◌}
use Rattle.std.specs.List.{list_any}
use Rattle.gtid_sets.specs.declared.gtid.Gtid.{Gtid}
use Rattle.gtid_sets.specs.declared.entry.Entry.{Entry}
use Rattle.gtid_sets.specs.Gtid.{gtid_eq}
use Rattle.gtid_sets.specs.Position.{with_gtid, has, greatest}
use Rattle.gtid_sets.proofs.PositionLemmas.{has-with_gtid, has-of_gtids, same_members}
use Rattle.gtid_sets.specs.Logs.{gtids_of, position_of, holds, row_or_zero, is_row_of, has_row, newest_row}

-- ---- the greatest of something over the entries
pub greatest-push : (f : Entry → ℕ) (log : List Entry) (e : Entry) → greatest (map f (log ++ e ∷ [])) ≡ max (greatest (map f log)) (f e)
greatest-push f [] e = omega arith
greatest-push f (x ∷ log) e = grind (arith, greatest-push f log e)

-- ---- transactions

pub gtids-push : (log : List Entry) (e : Entry) → gtids_of (log ++ e ∷ []) ≡ gtids_of log ++ e.gtid ∷ []
gtids-push [] e = refl
gtids-push (x ∷ log) e = ap (λ (gs : List Gtid). x.gtid ∷ gs) (gtids-push log e)

pub any-push : {A : Type 0} (p : A → Bool) (xs : List A) (x : A) → list_any p (xs ++ x ∷ []) ≡ (p x || list_any p xs)
any-push p [] x = refl
any-push p (y ∷ xs) x = grind (arith, any-push p xs x)

pub has-position : (log : List Entry) (g : Gtid) → has (position_of log) g ≡ holds log g
has-position log g = has-of_gtids (gtids_of log) g

-- the position of a log with one more entry has its transaction too
pub position-push : (log : List Entry) (e : Entry) → position_of (log ++ e ∷ []) ≡ with_gtid (position_of log) e.gtid
position-push log e = same_members (position_of (log ++ e ∷ [])) (with_gtid (position_of log) e.gtid) (λ g.
    has-position (log ++ e ∷ []) g
    ∙ ap (λ (gs : List Gtid). list_any (gtid_eq g) gs) (gtids-push log e)
    ∙ any-push (gtid_eq g) (gtids_of log) e.gtid
    ∙ ap (λ (b : Bool). gtid_eq g e.gtid || b) (sym (has-position log g))
    ∙ sym (has-with_gtid (position_of log) e.gtid g))

-- ---- rows

pub newest-push : (log : List Entry) (e : Entry) → newest_row (log ++ e ∷ []) ≡ max (newest_row log) (row_or_zero e)
newest-push log e = greatest-push row_or_zero log e

pub has_row-push : (log : List Entry) (e : Entry) (term : ℕ) → has_row (log ++ e ∷ []) term ≡ (is_row_of term e || has_row log term)
has_row-push log e term = any-push (is_row_of term) log e

-- Logs: lists of entries, as the MySQL 8.0 manual has a server's binary log, of which each transaction has its GTID. The first entry
-- of a primary in its term is the row of that term, as Vitess writes one into its reparent journal.
use Rattle.std.specs.Prelude.{ℕ, ◌+◌, Bool, false, ◌&&◌, ◌==◌, nat_lt, List, [], ◌∷◌, ◌++◌, map, Option, Some, None, option_map, unwrap_or, position, if◌then◌else◌}
use Rattle.std.specs.List.{list_any}
use Rattle.std.specs.Str.{bytes_eq}
use Rattle.shard_names.specs.declared.alias.Alias.{Alias}
use Rattle.shard_names.specs.declared.tablet.Tablet.{Tablet}
use Rattle.shard_names.specs.Tablets.{alias_eq}
use Rattle.gtid_sets.specs.declared.gtid.Gtid.{Gtid}
use Rattle.gtid_sets.specs.declared.entry.Entry.{Entry}
use Rattle.gtid_sets.specs.declared.entry.Kind.{Kind}
use Rattle.gtid_sets.specs.declared.entry.Kind.TheVariants as kind
use Rattle.gtid_sets.specs.Gtid.{gtid_eq}
use Rattle.gtid_sets.specs.Position.{Position, of_gtids, greatest}

-- ---- transactions

abbrev pub gtids_of : List Entry → List Gtid
gtids_of log = map (λ e. e.gtid) log

-- the position of a log is the set of its transactions
abbrev pub position_of : List Entry → Position
position_of log = of_gtids (gtids_of log)

-- whether the log has the transaction
abbrev pub holds : List Entry → Gtid → Bool
holds log g = list_any (gtid_eq g) (gtids_of log)

-- the log with the entry at its end, unless it has the transaction
abbrev pub with_entry : List Entry → Entry → List Entry
with_entry log e = if holds log e.gtid then log else log ++ e ∷ []

-- ---- a server's own transactions

-- an entry's number, if the server wrote it, and else 0
abbrev pub own_number : List ℕ → Entry → ℕ
own_number server e = if bytes_eq e.gtid.server server then e.gtid.number else 0

-- the greatest number of a server in the log, or 0
abbrev pub greatest_number : List ℕ → List Entry → ℕ
greatest_number server log = greatest (map (own_number server) log)

-- the transaction that a server writes next
abbrev pub next_gtid : List ℕ → List Entry → Gtid
next_gtid server log = record { server = server; number = greatest_number server log + 1 }

-- the log with one more entry of a tablet's own
abbrev pub with_own : Tablet → Kind → List Entry → List Entry
with_own me k log = log ++ record { gtid = next_gtid me.server log; kind = k } ∷ []

-- ---- the rows of terms

-- the term of a row
abbrev pub row_term : Kind → Option ℕ
row_term (kind.Write term client number) = None
row_term (kind.Row term alias) = Some term
row_term kind.Local = None

-- the term before others, if there is one
abbrev pub before_rows : Option ℕ → List ℕ → List ℕ
before_rows None terms = terms
before_rows (Some term) terms = term ∷ terms

-- the terms of the rows, in the order of the log
abbrev pub rows_of : List Entry → List ℕ
rows_of [] = []
rows_of (e ∷ log) = before_rows (row_term e.kind) (rows_of log)

abbrev pub is_row_of : ℕ → Entry → Bool
is_row_of term e = elim (row_term e.kind) [ Some t ↦ t == term | None ↦ false ]

abbrev pub has_row : List Entry → ℕ → Bool
has_row log term = list_any (is_row_of term) log

-- the index of the row of a term, counted from 1
abbrev pub place_of_row : List Entry → ℕ → Option ℕ
place_of_row log term = option_map (λ k. k + 1) (position (is_row_of term) log)

-- the term of a row, and 0 of any other entry
abbrev pub row_or_zero : Entry → ℕ
row_or_zero e = unwrap_or (row_term e.kind) 0

-- the greatest term of a row in the log, or 0
abbrev pub newest_row : List Entry → ℕ
newest_row log = greatest (map row_or_zero log)

-- whether a row names this alias
abbrev pub is_named : Alias → Kind → Bool
is_named a (kind.Write term client number) = false
is_named a (kind.Row term alias) = alias_eq alias a
is_named a kind.Local = false

-- whether an entry is the row of the term and names this alias
abbrev pub is_own_row : Alias → ℕ → Entry → Bool
is_own_row a term e = is_row_of term e && is_named a e.kind

-- whether there is a newest row and it names this alias
abbrev pub newest_row_names : List Entry → Alias → Bool
newest_row_names log a = nat_lt 0 (newest_row log) && list_any (is_own_row a (newest_row log)) log

-- Transactions: their text and their order, as the MySQL 8.0 manual has them.
use Rattle.std.specs.Prelude.{ℕ, List, ◌∷◌, ◌++◌, Bool, ◌&&◌, nat_eq}
use Rattle.std.specs.Str.{bytes_eq}
use Rattle.std.specs.Fmt.{decimal}
use Rattle.std.specs.Ordering.{ordering_then, nat_cmp}
use Rattle.std.specs.Cmp.Lexicographic.{slice_cmp}
use Rattle.std.specs.declared.cmp.Ordering.{Ordering}
use Rattle.uuid.specs.Text.{hyphenated_text, lower}
use Rattle.gtid_sets.specs.declared.gtid.Gtid.{Gtid}

-- the server, a colon and the number
abbrev pub gtid_text : Gtid → List ℕ
gtid_text g = hyphenated_text lower g.server ++ 58 ∷ decimal g.number

-- by server, and then by number
abbrev pub gtid_cmp : Gtid → Gtid → Ordering
gtid_cmp a b = ordering_then (slice_cmp nat_cmp a.server b.server) (nat_cmp a.number b.number)

-- whether two transactions are one
abbrev pub gtid_eq : Gtid → Gtid → Bool
gtid_eq a b = bytes_eq a.server b.server && nat_eq a.number b.number

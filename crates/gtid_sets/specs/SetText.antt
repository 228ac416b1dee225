-- The text of a position, as the MySQL 8.0 manual has that of a GTID set ("GTID Format and Storage"): for each server its UUID and
-- the intervals of its numbers, `n` or `n-m`, each after a colon; the servers in order, joined by commas. It has no white space,
-- and intervals that touch are one.
use Rattle.std.specs.Prelude.{ℕ, ◌+◌, ◌==◌, List, [], ◌∷◌, ◌++◌, map, codes, if◌then◌else◌}
use Rattle.std.specs.List.{flat_map, join_with_byte}
use Rattle.std.specs.Fmt.{decimal}
use Rattle.std.specs.Str.{bytes_eq}
use Rattle.uuid.specs.Text.{hyphenated_text, lower}
use Rattle.gtid_sets.specs.declared.gtid.Gtid.{Gtid}
use Rattle.gtid_sets.specs.Position.{Position}

-- ---- the numbers of one server
-- numbers without a gap, from the first to the last
pub record Run : Type 0 where
  pub first : ℕ
  pub last : ℕ

-- one number more, below the others
abbrev pub onto_runs : ℕ → List Run → List Run
onto_runs n [] = record { first = n; last = n } ∷ []
onto_runs n (r ∷ rs) = if n + 1 == r.first then record { first = n; last = r.last } ∷ rs else record { first = n; last = n } ∷ r ∷ rs

-- the longest runs in numbers that rise
abbrev pub runs : List ℕ → List Run
runs [] = []
runs (n ∷ ns) = onto_runs n (runs ns)

-- a colon and the interval
abbrev pub run_text : Run → List ℕ
run_text r = 58 ∷ decimal r.first ++ (if r.first == r.last then [] else 45 ∷ decimal r.last)

-- ---- all servers
-- the numbers of one server
pub record Part : Type 0 where
  pub server : List ℕ
  pub numbers : List ℕ

-- one transaction more, below the others
abbrev pub onto_parts : Gtid → List Part → List Part
onto_parts g [] = record { server = g.server; numbers = g.number ∷ [] } ∷ []
onto_parts g (p ∷ ps) = if bytes_eq g.server p.server
    then record { server = g.server; numbers = g.number ∷ p.numbers } ∷ ps
    else record { server = g.server; numbers = g.number ∷ [] } ∷ p ∷ ps

-- the parts of transactions in order, one for each server
abbrev pub parts : List Gtid → List Part
parts [] = []
parts (g ∷ gs) = onto_parts g (parts gs)

abbrev pub part_text : Part → List ℕ
part_text p = hyphenated_text lower p.server ++ flat_map run_text (runs p.numbers)

-- the text of transactions in order
abbrev pub gtids_text : List Gtid → List ℕ
gtids_text gs = join_with_byte 44 (map part_text (parts gs))

abbrev pub set_text : Position → List ℕ
set_text p = gtids_text p.gtids

-- a position as Vitess writes it
abbrev pub position_text : Position → List ℕ
position_text p = codes "MySQL56/" ++ set_text p

-- What one interval adds to the text of its set, by the server before it (MySQL 8.0 manual, GTID Format and Storage).
use Rattle.std.specs.Prelude.{ℕ, ◌==◌, List, [], ◌∷◌, ◌++◌, Option, Some, None, if◌then◌else◌}
use Rattle.std.specs.Fmt.{decimal}
use Rattle.std.specs.Str.{bytes_eq}
use Rattle.gtid_sets.specs.declared.gtid.Gtid.{Gtid}
use Rattle.gtid_sets.specs.declared.interval.Interval.{Interval}
use Rattle.gtid_sets.specs.Gtid.{gtid_text}
use Rattle.gtid_sets.specs.Intervals.{start}

-- a colon and the number behind those of the same server, else the server too
abbrev pub first_text : Option (List ℕ) → Gtid → List ℕ
first_text None g = gtid_text g
first_text (Some server) g = if bytes_eq server g.server then 58 ∷ decimal g.number else 44 ∷ gtid_text g

-- a dash and the last number, unless that is the first
abbrev pub last_text : Interval → List ℕ
last_text x = if x.first == x.last then [] else 45 ∷ decimal x.last

-- intervals in order, behind those of a server
abbrev pub intervals_text : Option (List ℕ) → List Interval → List ℕ
intervals_text before [] = []
intervals_text before (x ∷ xs) = first_text before (start x) ++ (last_text x ++ intervals_text (Some x.server) xs)

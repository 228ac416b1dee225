-- Intervals of transactions, as the MySQL 8.0 manual writes a GTID set ("GTID Format and Storage"): a server and its numbers from
-- the first to the last.
use Rattle.std.specs.Prelude.{◌≡◌, ◌⊎◌, ℕ, zero, suc, ◌+◌, ◌-◌, ◌≤◌, Bool, true, false, ◌&&◌, ◌||◌, not, List, [], ◌∷◌, ◌++◌, Option, Some, None, min, max, nat_lt, nat_le, if◌then◌else◌}
use Rattle.std.specs.List.{list_any}
use Rattle.std.specs.Str.{bytes_eq}
use Rattle.std.specs.Ordering.{nat_cmp, match_ordering}
use Rattle.std.specs.Cmp.Lexicographic.{slice_cmp}
use Rattle.std.specs.declared.cmp.Ordering.TheVariants.{Less}
use Rattle.gtid_sets.specs.declared.gtid.Gtid.{Gtid}
use Rattle.gtid_sets.specs.declared.interval.Interval.{Interval}
use Rattle.gtid_sets.specs.declared.intervals.Taken.{Taken}
use Rattle.gtid_sets.specs.declared.intervals.Taken.TheVariants.{Either, FirstAlone}
use Rattle.gtid_sets.specs.Gtid.{gtid_cmp, gtid_eq}
use Rattle.gtid_sets.specs.Position.{Position, of_gtids}

-- ---- one interval
-- its first transaction
abbrev pub start : Interval → Gtid
start x = record { server = x.server; number = x.first }

-- the one behind its last
abbrev pub past : Interval → Gtid
past x = record { server = x.server; number = x.last + 1 }

-- how many transactions it has
abbrev pub size : Interval → ℕ
size x = x.last + 1 - x.first

-- whether a transaction is one of them
abbrev pub holds : Interval → Gtid → Bool
holds x g = bytes_eq g.server x.server && (nat_le x.first g.number && nat_le g.number x.last)

-- the interval of one transaction
abbrev pub alone : Gtid → Interval
alone g = record { server = g.server; first = g.number; last = g.number }

-- the transactions of a server from a number on
abbrev pub numbered : List ℕ → ℕ → ℕ → List Gtid
numbered server n zero = []
numbered server n (suc more) = record { server = server; number = n } ∷ numbered server (n + 1) more

-- ---- lists of them
-- whether a transaction is in one of them
abbrev pub within : List Interval → Gtid → Bool
within xs g = list_any (λ x. holds x g) xs

-- each of a list is of a greater server, or begins above the number behind the interval's last
abbrev pub Beyond : Interval → List Interval → Type 0
Beyond x [] = Unit {0}
Beyond x (y ∷ ys) = (gtid_cmp (past x) (start y) ≡ Less) × Beyond x ys

-- each of a list begins at a transaction or below it
abbrev pub StartsBy : Gtid → List Interval → Type 0
StartsBy g [] = Unit {0}
StartsBy g (x ∷ xs) = ((gtid_cmp (start x) g ≡ Less) ⊎ (start x ≡ g)) × StartsBy g xs

-- each begins where the one before it does, or above
abbrev pub StartsRise : List Interval → Type 0
StartsRise [] = Unit {0}
StartsRise (x ∷ []) = Unit {0}
StartsRise (x ∷ y ∷ ys) = ((gtid_cmp (start x) (start y) ≡ Less) ⊎ (start x ≡ start y)) × StartsRise (y ∷ ys)

-- so does each of the first list at the first of the second
abbrev pub Behind : List Interval → List Interval → Type 0
Behind xs [] = Unit {0}
Behind xs (y ∷ ys) = StartsBy (start y) xs

-- none is empty, and they are in order with a gap between those of one server
abbrev pub Ordered : List Interval → Type 0
Ordered [] = Unit {0}
Ordered (x ∷ xs) = (x.first ≤ x.last) × (Beyond x xs × Ordered xs)

-- lists in order that have the same members are one, so each set has one list
abbrev pub OneListEach : Type 0
OneListEach = (xs ys : List Interval) → Ordered xs → Ordered ys → ((g : Gtid) → within xs g ≡ within ys g) → xs ≡ ys

-- the second list has what the first has, and one transaction
abbrev pub HasWith : Gtid → List Interval → List Interval → Type 0
HasWith g xs ys = (q : Gtid) → within ys q ≡ (gtid_eq q g || within xs q)

-- whether a transaction is taken of two lists, by whether the first has it and whether the second has it
abbrev pub takes : Taken → Bool → Bool → Bool
takes Either a b = a || b
takes FirstAlone a b = a && not b

-- their transactions, one after another
unfoldable pub listed : List Interval → List Gtid
listed [] = []
listed (x ∷ xs) = numbered x.server x.first (size x) ++ listed xs

-- the set that they stand for
unfoldable pub position_of : List Interval → Position
position_of xs = of_gtids (listed xs)

-- how many transactions they have
abbrev pub total : List Interval → ℕ
total [] = 0
total (x ∷ xs) = size x + total xs

-- ---- where one stands beside another
-- whether it ends below a transaction and does not touch it
abbrev pub ends_below : Gtid → Interval → Bool
ends_below g x = match_ordering (slice_cmp nat_cmp x.server g.server) true (nat_lt (x.last + 1) g.number) false

-- whether it has a transaction or is next to it
abbrev pub touches : Gtid → Interval → Bool
touches g x = bytes_eq g.server x.server && (nat_le x.first (g.number + 1) && nat_le g.number (x.last + 1))

-- whether it has all of another
abbrev pub contains : Interval → Interval → Bool
contains x y = bytes_eq y.server x.server && (nat_le x.first y.first && nat_le y.last x.last)

-- whether all of it stands below all of another
abbrev pub stands_before : Interval → Interval → Bool
stands_before x y = match_ordering (slice_cmp nat_cmp x.server y.server) true (nat_lt x.last y.first) false

-- its part below another
abbrev pub below : Interval → Interval → Option Interval
below x y = match_ordering (slice_cmp nat_cmp x.server y.server) (Some x)
    (if nat_lt x.first y.first then Some (record { server = x.server; first = x.first; last = min x.last (y.first - 1) }) else None) None

-- its part above another
abbrev pub above : Interval → Interval → Option Interval
above x y = match_ordering (slice_cmp nat_cmp x.server y.server) None
    (if nat_lt y.last x.last then Some (record { server = x.server; first = max x.first (y.last + 1); last = x.last }) else None) (Some x)

-- it and a transaction of its server
abbrev pub wide : Gtid → Interval → Interval
wide g x = record { server = x.server; first = min x.first g.number; last = max x.last g.number }

-- it and all up to the last of another
abbrev pub joined : Interval → Interval → Interval
joined x y = record { server = x.server; first = x.first; last = max x.last y.last }

-- Positions: finite sets of transactions, as the MySQL 8.0 manual has GTID sets. A set is kept as the list of its transactions in
-- order, so that each set has one list.
use Rattle.std.specs.Prelude.{ℕ, Bool, not, T, List, [], ◌∷◌, ◌++◌, length, filter, map, max}
use Rattle.std.specs.List.{list_any, list_all}
use Rattle.std.specs.Str.{bytes_eq}
use Rattle.gtid_sets.specs.declared.gtid.Gtid.{Gtid}
use Rattle.gtid_sets.specs.Gtid.{gtid_eq}
use Rattle.gtid_sets.specs.Rising.{rises, put, rises-put}

pub record Position : Type 0 where
  pub gtids : List Gtid
  pub in_order : T (rises gtids)

-- the empty set
abbrev pub nothing : Position
nothing = record { gtids = []; in_order = tt }

-- the set and one transaction more
abbrev pub with_gtid : Position → Gtid → Position
with_gtid p g = record { gtids = put g p.gtids; in_order = rises-put g p.gtids p.in_order }

-- the set of these transactions
abbrev pub of_gtids : List Gtid → Position
of_gtids [] = nothing
of_gtids (g ∷ gs) = with_gtid (of_gtids gs) g

-- whether a transaction is in the set
abbrev pub has : Position → Gtid → Bool
has p g = list_any (gtid_eq g) p.gtids

-- how many there are
abbrev pub count : Position → ℕ
count p = length p.gtids

-- what is in p or in q
abbrev pub union : Position → Position → Position
union p q = of_gtids (p.gtids ++ q.gtids)

-- what is in p and not in q
abbrev pub minus : Position → Position → Position
minus p q = of_gtids (filter (λ g. not (has q g)) p.gtids)

-- whether p has all of q
abbrev pub covers : Position → Position → Bool
covers p q = list_all (has p) q.gtids

-- the greatest of these numbers, or 0
abbrev pub greatest : List ℕ → ℕ
greatest [] = 0
greatest (n ∷ ns) = max n (greatest ns)

-- the greatest number of a server in the set, or 0
abbrev pub greatest_of : List ℕ → Position → ℕ
greatest_of server p = greatest (map (λ g. g.number) (filter (λ g. bytes_eq g.server server) p.gtids))

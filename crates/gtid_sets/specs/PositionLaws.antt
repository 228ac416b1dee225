-- What positions promise as finite sets, as the GTID sets of the MySQL manual are.
use Rattle.std.specs.Prelude.{◌≡◌, ◌≤◌, ◌↔◌, ◌⊎◌, ℕ, true, false, not, ◌&&◌, ◌||◌, ◌+◌, if◌then◌else◌, List}
use Rattle.std.specs.List.{list_any}
use Rattle.gtid_sets.specs.declared.gtid.Gtid.{Gtid}
use Rattle.gtid_sets.specs.Gtid.{gtid_eq}
use Rattle.gtid_sets.specs.Position.{Position, nothing, with_gtid, of_gtids, has, union, minus, covers, count, greatest_of}

-- ---- members
abbrev pub NothingHasNone : Type 0
NothingHasNone = (g : Gtid) → has nothing g ≡ false

abbrev pub WithGtidHas : Type 0
WithGtidHas = (p : Position) (g q : Gtid) → has (with_gtid p g) q ≡ (gtid_eq q g || has p q)

abbrev pub OfGtidsHas : Type 0
OfGtidsHas = (gs : List Gtid) (g : Gtid) → has (of_gtids gs) g ≡ list_any (gtid_eq g) gs

abbrev pub UnionHas : Type 0
UnionHas = (p q : Position) (g : Gtid) → has (union p q) g ≡ (has p g || has q g)

abbrev pub MinusHas : Type 0
MinusHas = (p q : Position) (g : Gtid) → has (minus p q) g ≡ (has p g && not (has q g))

-- the test decides whether two transactions are one
abbrev pub TestIsEquality : Type 0
TestIsEquality = (a b : Gtid) → (gtid_eq a b ≡ true) ↔ (a ≡ b)

-- positions with the same members are one
abbrev pub SameMembersAreOne : Type 0
SameMembersAreOne = (p q : Position) → ((g : Gtid) → has p g ≡ has q g) → p ≡ q

-- each is counted once
abbrev pub CountWithGtid : Type 0
CountWithGtid = (p : Position) (g : Gtid) → count (with_gtid p g) ≡ (if has p g then count p else count p + 1)

-- ---- covers
abbrev pub CoversIsInclusion : Type 0
CoversIsInclusion = (p q : Position) → (covers p q ≡ true) ↔ ((g : Gtid) → has q g ≡ true → has p g ≡ true)

-- it is a partial order
pub record CoversIsAnOrder : Type 0 where
  pub itself : (p : Position) → covers p p ≡ true
  pub further : (p q r : Position) → covers p q ≡ true → covers q r ≡ true → covers p r ≡ true
  pub both : (p q : Position) → covers p q ≡ true → covers q p ≡ true → p ≡ q

-- nothing is left exactly where all is covered
abbrev pub MinusOfCovered : Type 0
MinusOfCovered = (p q : Position) → (minus p q ≡ nothing) ↔ (covers q p ≡ true)

-- ---- the greatest number of a server
abbrev pub GreatestIsThere : Type 0
GreatestIsThere = (server : List ℕ) (p : Position) → (greatest_of server p ≡ 0) ⊎ (has p (record { server = server; number = greatest_of server p }) ≡ true)

abbrev pub NoneIsGreater : Type 0
NoneIsGreater = (p : Position) (g : Gtid) → has p g ≡ true → g.number ≤ greatest_of g.server p

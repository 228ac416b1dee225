-- What tablets have beyond their new primary: errant transactions, as Vitess calls them (Vitess manual).
use Rattle.std.specs.Prelude.{List, [], ◌∷◌, if◌then◌else◌}
use Rattle.std.specs.List.{flat_map}
use Rattle.gtid_sets.specs.declared.held.Held.{Held}
use Rattle.gtid_sets.specs.Position.{Position, covers, minus}
use Rattle.errant.specs.declared.excess.Excess.{Excess}

abbrev pub excess_of : Position → Held → List Excess
excess_of primary h = if covers primary h.position then [] else record { alias = h.alias; extra = minus h.position primary } ∷ []

-- of each tablet whose position exceeds the primary's the excess, in order
abbrev pub errant_of : Position → List Held → List Excess
errant_of primary helds = flat_map (excess_of primary) helds

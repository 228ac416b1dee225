-- Of two tablets that are apart: how results name them.
use Rattle.std.specs.Prelude.{ℕ, ◌==◌, List, filter, Option, None, option_map, if◌then◌else◌}
use Rattle.std.specs.Borrow.{Bor}
use Rattle.std.specs.List.{find}
use Rattle.shard_names.specs.declared.alias.Alias.{Alias}
use Rattle.gtid_sets.specs.declared.held.Held.{Held}
use Rattle.gtid_sets.specs.Winner.{is_apart, apart_with}

-- the two tablets that are referred to
abbrev pub pair_of : Option (Bor Held × Bor Held) → Option (Held × Held)
pair_of r = option_map (λ two. (two.0.now, two.1.now)) r

-- a tablet and the first of these that is apart from it, of those with a newest row of this term
abbrev pub apart_if : ℕ → Held → List Held → Option (Held × Held)
apart_if newest h hs = if h.newest == newest then apart_with h (find (is_apart h) (filter (λ x. x.newest == newest) hs)) None else None

-- their aliases
abbrev pub aliases_of : Option (Held × Held) → Option (Alias × Alias)
aliases_of two = option_map (λ x. (x.0.alias, x.1.alias)) two

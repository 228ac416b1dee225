-- What single deeds stopped, so that the tablets that stopped are tested where they stand.
use Rattle.std.specs.Prelude.{Bool, List, Option, Some, None}
use Rattle.std.specs.List.{list_any}
use Rattle.shard_names.specs.declared.alias.Alias.{Alias}
use Rattle.shard_names.specs.Tablets.{alias_eq, is_among}
use Rattle.gtid_sets.specs.declared.held.Held.{Held}
use Rattle.gtid_sets.specs.Position.{Position, covers, nothing}
use Rattle.shard_calls.specs.declared.span.Deed.{Deed}
use Rattle.shard_calls.specs.Rescuing.{held_in, reached_by, position_of}

-- the tablet is one that the deed stopped
abbrev pub reaches : Alias → Deed → Bool
reaches a d = is_among (reached_by (held_in d)) a

abbrev pub is_held_by : Alias → Held → Bool
is_held_by a h = alias_eq h.alias a

-- the deed stopped a tablet of this alias
abbrev pub stops : Alias → Deed → Bool
stops a d = list_any (is_held_by a) (held_in d)

-- what the tablet has, if the deed stopped it, is all of the position
abbrev pub covers_by : Alias → Position → Deed → Bool
covers_by a p d = covers (position_of (held_in d) a) p

abbrev pub covers_found : Alias → Position → Option Deed → Bool
covers_found a p None = covers nothing p
covers_found a p (Some d) = covers_by a p d

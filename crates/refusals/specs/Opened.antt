-- Definitions of the crates below, opened for the functions that compute them.
use Rattle.std.specs.Prelude.{ℕ, Bool, List, Option}
use Rattle.gtid_sets.specs.declared.held.Held.{Held}
use Rattle.shard_names.specs.declared.alias.Alias.{Alias}
use Rattle.shard_names.specs.declared.tablet.Tablet.{Tablet}
use Rattle.shard_calls.specs.declared.command.EmergencyOptions.{EmergencyOptions}
use Rattle.shard_calls.specs.declared.event.Seen.{Seen}
use Rattle.shard_calls.specs.declared.group.Group.{Group}
use Rattle.shard_calls.specs.declared.refusal.Reason.{Reason}
use Rattle.shard_calls.specs.declared.span.Deed.{Deed}
use Rattle.shard_calls.specs.Choosing.{reason_to_follow, reason_among}
use Rattle.shard_calls.specs.Rescuing.{reason_to_rescue, fitness}
use Rattle.durability.specs.Rules.{Rules}
use Rattle.durability.specs.Sets.{TabletSet}
use Rattle.durability.specs.Counting.{is_unrevoked}

unfoldable pub follows : Group → Bool → Seen → Alias → Tablet → Option Reason
unfolding reason_to_follow
follows g allowed seen old t = reason_to_follow g allowed seen old t

unfoldable pub among : Group → Bool → Seen → Alias → List Deed → Tablet → Option Reason
unfolding reason_among
among g allowed seen old done t = reason_among g allowed seen old done t

unfoldable pub rescues : Group → EmergencyOptions → Seen → List Deed → Tablet → Option Reason
unfolding reason_to_rescue
rescues g o seen done t = reason_to_rescue g o seen done t

unfoldable pub fit : Group → Seen → List Held → Held → Tablet → ℕ
unfolding fitness
fit g seen hs w t = fitness g seen hs w t

unfoldable pub unrevoked : Rules → List Tablet → TabletSet → Tablet → Bool
unfolding is_unrevoked
unrevoked rules tablets reached t = is_unrevoked rules tablets reached t

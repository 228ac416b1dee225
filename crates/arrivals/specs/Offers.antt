-- Who may be offered an entry, as a look over the tablets finds it: a source sends its binary log from the place on that a replica has come to, so
-- who waits behind the end of the longest log is offered nothing (MySQL 8.0 manual, Replication).
use Rattle.std.specs.Prelude.{ℕ, Bool, true, false, ◌&&◌, nat_le, List, map, length, Option, Some, is_some, if◌then◌else◌}
use Rattle.std.specs.List.{find}
use Rattle.shard_base.specs.Options.{◌>>=◌}
use Rattle.shard_names.specs.declared.alias.Alias.{Alias}
use Rattle.gtid_sets.specs.Position.{greatest}
use Rattle.shard_calls.specs.declared.stand.Stand.{Stand}
use Rattle.shard_calls.specs.declared.stand.Stand.TheVariants as stands
use Rattle.shard_calls.specs.Messages.{offer_to}
use Rattle.tablet_manager.specs.Managed.{Managed}
use Rattle.shard_state.specs.State.{Data, seen}

-- whether a tablet that stands so sends its log to the replicas of some term
abbrev pub sends : Stand → Bool
sends stands.Down = false
sends stands.Stopped = false
sends (stands.Primary t) = true
sends (stands.Demoted t by) = true
sends (stands.Replica source t next) = false
sends (stands.Feeder t) = true

-- how many entries its log has, if it sends it
abbrev pub sent_by : Managed → ℕ
sent_by m = if sends m.stand then length m.log.entries else 0

-- the length of the longest log that is sent
abbrev pub most_sent : List Managed → ℕ
most_sent managers = greatest (map sent_by managers)

-- whether a tablet that stands so waits for an entry that a log of this length has
abbrev pub waits_within : ℕ → Stand → Bool
waits_within most stands.Down = false
waits_within most stands.Stopped = false
waits_within most (stands.Primary t) = false
waits_within most (stands.Demoted t by) = false
waits_within most (stands.Replica source t next) = nat_le next most
waits_within most (stands.Feeder t) = false

-- it waits for such an entry, and may be offered one
abbrev pub is_offered : Data → ℕ → Managed → Bool
is_offered d most m = waits_within most m.stand && is_some (offer_to (seen d) m.me.alias)

-- the alias of the first of these that is
abbrev pub first_offered : Data → ℕ → List Managed → Option Alias
first_offered d most managers = find (is_offered d most) managers >>= (λ m. Some m.me.alias)

-- Tests on what a tablet does. Vitess's tablet manager makes a MySQL server a primary, demotes it, stops it or points it at a source.
use Rattle.std.specs.Prelude.{ℕ, Bool, true, false, ◌&&◌, ◌==◌, Option, Some, None}
use Rattle.shard_names.specs.declared.alias.Alias.{Alias}
use Rattle.shard_names.specs.Tablets.{alias_eq}
use Rattle.shard_calls.specs.declared.stand.Stand.{Stand}
use Rattle.shard_calls.specs.declared.stand.Stand.TheVariants as stand
use Rattle.shard_calls.specs.declared.stand.Standing.{Standing}
use Rattle.shard_calls.specs.declared.stand.Standing.TheVariants as standing

abbrev pub is_down : Stand → Bool
is_down stand.Down = true
is_down stand.Stopped = false
is_down (stand.Primary t) = false
is_down (stand.Demoted t by) = false
is_down (stand.Replica source t next) = false
is_down (stand.Feeder t) = false

-- the term in which it is the primary
abbrev pub primary_term : Stand → Option ℕ
primary_term stand.Down = None
primary_term stand.Stopped = None
primary_term (stand.Primary t) = Some t
primary_term (stand.Demoted t by) = None
primary_term (stand.Replica source t next) = None
primary_term (stand.Feeder t) = None

abbrev pub is_primary : Stand → Bool
is_primary stand.Down = false
is_primary stand.Stopped = false
is_primary (stand.Primary t) = true
is_primary (stand.Demoted t by) = false
is_primary (stand.Replica source t next) = false
is_primary (stand.Feeder t) = false

abbrev pub is_primary_of : Stand → ℕ → Bool
is_primary_of stand.Down term = false
is_primary_of stand.Stopped term = false
is_primary_of (stand.Primary t) term = t == term
is_primary_of (stand.Demoted t by) term = false
is_primary_of (stand.Replica source t next) term = false
is_primary_of (stand.Feeder t) term = false

abbrev pub is_replica_in : Stand → ℕ → Bool
is_replica_in stand.Down term = false
is_replica_in stand.Stopped term = false
is_replica_in (stand.Primary t) term = false
is_replica_in (stand.Demoted t by) term = false
is_replica_in (stand.Replica source t next) term = t == term
is_replica_in (stand.Feeder t) term = false

abbrev pub is_feeder_in : Stand → ℕ → Bool
is_feeder_in stand.Down term = false
is_feeder_in stand.Stopped term = false
is_feeder_in (stand.Primary t) term = false
is_feeder_in (stand.Demoted t by) term = false
is_feeder_in (stand.Replica source t next) term = false
is_feeder_in (stand.Feeder t) term = t == term

abbrev pub is_feeder : Stand → Bool
is_feeder stand.Down = false
is_feeder stand.Stopped = false
is_feeder (stand.Primary t) = false
is_feeder (stand.Demoted t by) = false
is_feeder (stand.Replica source t next) = false
is_feeder (stand.Feeder t) = true

abbrev pub is_stopped : Stand → Bool
is_stopped stand.Down = false
is_stopped stand.Stopped = true
is_stopped (stand.Primary t) = false
is_stopped (stand.Demoted t by) = false
is_stopped (stand.Replica source t next) = false
is_stopped (stand.Feeder t) = false

-- whether it takes the entry behind `after` from this source in this term
abbrev pub takes_from : Stand → Alias → ℕ → ℕ → Bool
takes_from stand.Down from term after = false
takes_from stand.Stopped from term after = false
takes_from (stand.Primary t) from term after = false
takes_from (stand.Demoted t by) from term after = false
takes_from (stand.Replica source t next) from term after = alias_eq source from && (t == term) && (next == after)
takes_from (stand.Feeder t) from term after = false

-- a replica that waits for this entry now
abbrev pub waits_for : Stand → ℕ → Stand
waits_for stand.Down next = stand.Down
waits_for stand.Stopped next = stand.Stopped
waits_for (stand.Primary t) next = stand.Primary t
waits_for (stand.Demoted t by) next = stand.Demoted t by
waits_for (stand.Replica source t before) next = stand.Replica source t next
waits_for (stand.Feeder t) next = stand.Feeder t

-- the stand without the entry that a replica waits for
abbrev pub standing_of : Stand → Standing
standing_of stand.Down = standing.Down
standing_of stand.Stopped = standing.Stopped
standing_of (stand.Primary t) = standing.Primary t
standing_of (stand.Demoted t by) = standing.Demoted t by
standing_of (stand.Replica source t next) = standing.Replica source t
standing_of (stand.Feeder t) = standing.Feeder t

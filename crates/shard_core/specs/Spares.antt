-- What a step reads of the shard's record (Vitess manual, topology service), once more: the step keeps it, and the caller gets it.
use Rattle.std.specs.Prelude.{◌≡◌, ℕ, Option, Some, None, if◌then◌else◌, ⊤}
use Rattle.topo_lock.specs.Topology.{Topology, is_held_in}
use Rattle.shard_calls.specs.declared.event.Event.{Event}
use Rattle.shard_calls.specs.declared.event.Event.TheVariants as events
use Rattle.shard_calls.specs.declared.event.Reply.{Reply}
use Rattle.shard_calls.specs.declared.event.Reply.TheVariants as replies
use Rattle.shard_calls.specs.declared.event.Seen.{Seen}
use Rattle.shard_calls.specs.Locks.{by_term, seen_of}
use Rattle.shard_calls.specs.World.{World, term_of}

-- what is seen by one who holds the lock in the term
abbrev pub read_in : Topology → ℕ → Option Seen
read_in topo t = if is_held_in topo t then Some (seen_of topo) else None

abbrev pub read_by : World → Option ℕ → Option Seen
read_by w term = by_term term None (read_in w.topo)

-- what the event reads
abbrev pub spare_of : World → Event → Option Seen
spare_of w (events.Read c) = read_by w (term_of w c)
spare_of w _ = None

-- what the reply says that was read is at hand
abbrev pub IsSpare : Reply → Option Seen → Type 0
IsSpare (replies.Read seen) spare = spare ≡ Some seen
IsSpare _ spare = ⊤

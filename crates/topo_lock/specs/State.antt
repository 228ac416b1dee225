-- A topology together with the room that is reserved for it.
use Rattle.std.specs.Prelude.{ℕ, ◌-◌, ◌==◌, Option, if◌then◌else◌}
use Rattle.shard_base.specs.Options.{◌>>=◌, only_if}
use Rattle.topo_lock.specs.declared.intent.Intent.{Intent}
use Rattle.topo_lock.specs.Topology.{Topology, adds_intent}

-- the topology, and for how many more intents and how many drained marks there is room
pub record TopoState : Type 0 where
  pub topology : Topology
  pub spare : ℕ
  pub marks : ℕ

-- a new intent takes one of the places
abbrev pub spare_after_intend : TopoState → ℕ → ℕ
spare_after_intend s term = if adds_intent s.topology term then s.spare - 1 else s.spare

-- the intent, if it is of the term
abbrev pub if_of_term : ℕ → Option Intent → Option Intent
if_of_term term intent = intent >>= (λ i. only_if (i.term == term) i)

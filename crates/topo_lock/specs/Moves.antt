-- What a step may do to a topology. After the lock with terms of Sougoumarane's "Consensus algorithms at scale".
use Rattle.std.specs.Prelude.{ℕ}
use Rattle.shard_names.specs.declared.alias.Alias.{Alias}
use Rattle.topo_lock.specs.declared.lock.Holder.{Holder}
use Rattle.topo_lock.specs.Topology.{Topology, after_take, after_intend, after_record, after_drain, after_release, after_lapse}

-- one step: one of the rows that change the topology, or nothing
pub data TopoMove : Topology → Topology → Type 0 where
  Takes : {t : Topology} (holder : Holder) → TopoMove t (after_take t holder)
  Intends : {t : Topology} (term : ℕ) (alias : Alias) → TopoMove t (after_intend t term alias)
  Records : {t : Topology} (term moment : ℕ) → TopoMove t (after_record t term moment)
  Drains : {t : Topology} (term : ℕ) (alias : Alias) → TopoMove t (after_drain t term alias)
  Releases : {t : Topology} (term : ℕ) → TopoMove t (after_release t term)
  Lapses : {t : Topology} → TopoMove t (after_lapse t)
  Stays : {t : Topology} → TopoMove t t

-- any number of steps
pub data TopoMoves : Topology → Topology → Type 0 where
  Rests : {t : Topology} → TopoMoves t t
  Goes : {s t u : Topology} → TopoMoves s t → TopoMove t u → TopoMoves s u

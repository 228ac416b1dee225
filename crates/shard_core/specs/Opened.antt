-- Managers of tablets to which nothing has happened.
use Rattle.std.specs.Prelude.{◌≡◌, ℕ, List, take}
use Rattle.std.specs.List.{AllByRecursion}
use Rattle.shard_calls.specs.declared.group.Group.{Group}
use Rattle.shard_calls.specs.Tablets.{opened}
use Rattle.tablet_manager.specs.Managed.{Managed, state_of}
use Rattle.shard_state.specs.State.{tablets_of}

-- nothing has happened to it, and it knows this of its shard
pub record IsOpened (g : Group) (m : Managed) : Type 0 where
  pub group : m.group ≡ g
  pub state : state_of m ≡ opened

-- the managers of the first n of the shard's tablets, each of which knows the shard
pub record AreOpened (g : Group) (n : ℕ) (managers : List Managed) : Type 0 where
  pub tablets : tablets_of managers ≡ take n g.tablets
  pub each : AllByRecursion (IsOpened g) managers

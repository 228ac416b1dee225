-- What it is to change one of the managers.
use Rattle.std.specs.Prelude.{◌≡◌, ℕ, ◌-◌, true, List, Some, length, take}
use Rattle.std.specs.List.{AllByRecursion}
use Rattle.shard_names.specs.declared.alias.Alias.{Alias}
use Rattle.shard_names.specs.declared.tablet.Tablet.{Tablet}
use Rattle.shard_names.specs.Tablets.{tablet_of, is_declared}
use Rattle.shard_calls.specs.declared.group.Group.{Group}
use Rattle.shard_calls.specs.declared.state.CommandState.{CommandState}
use Rattle.shard_calls.specs.Tablets.{TabletState}
use Rattle.shard_calls.specs.World.{at_tablet}
use Rattle.tablet_manager.specs.Managed.{Managed}
use Rattle.shard_state.specs.State.{tablets_of, groups_in, state_at}

-- each tablet knows this of its shard
abbrev pub AreOf : Group → List Managed → Type 0
AreOf g managers = AllByRecursion (λ x. x ≡ g) (groups_in managers)

-- each tablet knows of the one with this alias
abbrev pub KnowAlias : Alias → List Managed → Type 0
KnowAlias a managers = AllByRecursion (λ x. is_declared x.tablets a ≡ true) (groups_in managers)

-- the tablet of this alias is in a new state, and nothing else changes
pub record Changes (old new : List Managed) (a : Alias) (s : TabletState) : Type 0 where
  pub tablets : tablets_of new ≡ tablets_of old
  pub groups : groups_in new ≡ groups_in old
  pub states : state_at new ≡ at_tablet (state_at old) a s

-- the tablet becomes what a definition says of it
abbrev pub Becomes : List Managed → List Managed → Alias → (Tablet → TabletState → TabletState) → Type 0
Becomes old new a f = (me : Tablet) → tablet_of (tablets_of old) a ≡ Some me → Changes old new a (f me (state_at old a))

-- it has not done what it did last
abbrev pub without_act : CommandState → CommandState
without_act s = record s { acts = take (length s.acts - 1) s.acts }

-- What a shard keeps, and the world that it stands for: the tablets as a list of managers, the messages as the post has them, the rest as it is.
use Rattle.std.specs.Prelude.{◌≡◌, ℕ, List, [], ◌∷◌, map, if◌then◌else◌}
use Rattle.std.specs.List.{AllByRecursion}
use Rattle.shard_names.specs.Tablets.{alias_eq}
use Rattle.shard_names.specs.declared.alias.Alias.{Alias}
use Rattle.shard_names.specs.declared.tablet.Tablet.{Tablet}
use Rattle.durability.specs.declared.policy.Durability.{Durability}
use Rattle.topo_lock.specs.Topology.{Topology}
use Rattle.shard_calls.specs.declared.event.Link.{Link}
use Rattle.shard_calls.specs.declared.event.Step.{Step}
use Rattle.shard_calls.specs.declared.post.Message.{Message}
use Rattle.shard_calls.specs.declared.state.ActorState.{ActorState}
use Rattle.shard_calls.specs.declared.state.CommandState.{CommandState}
use Rattle.shard_calls.specs.declared.group.Group.{Group}
use Rattle.shard_calls.specs.Tablets.{TabletState, opened}
use Rattle.shard_calls.specs.World.{Config, World, group_of}
use Rattle.tablet_manager.specs.Managed.{Managed, state_of}
use Rattle.shard_state.specs.declared.fields.Fields.{Fields}

abbrev pub tablets_of : List Managed → List Tablet
tablets_of managers = map (λ m. m.me) managers

-- the states of the tablets, by their aliases
abbrev pub state_at : List Managed → Alias → TabletState
state_at [] a = opened
state_at (m ∷ ms) a = if alias_eq m.me.alias a then state_of m else state_at ms a

-- the fields, with the vectors as their lists
pub record Data : Type 0 where
  pub managers : List Managed
  pub policy : Durability
  pub moment : ℕ
  pub topo : Topology
  -- for how many marks of drained tablets there is room
  pub marks : ℕ
  -- the aliases that the post knows
  pub aliases : List Alias
  pub messages : List Message
  pub clock : ℕ
  pub cuts : List Link
  pub actors : List ActorState
  pub commands : List CommandState

abbrev pub data_of : Fields → Data
data_of f = record {
  managers = f.managers.items;
  policy = f.policy;
  moment = f.moment;
  topo = f.topo.topology;
  marks = f.topo.marks;
  aliases = f.post.aliases;
  messages = f.post.messages;
  clock = f.clock;
  cuts = f.cuts.items;
  actors = f.actors.items;
  commands = f.commands.items;
}

-- the configuration that is kept
abbrev pub config_in : Data → Config
config_in d = record { tablets = tablets_of d.managers; policy = d.policy; moment = d.moment }

-- the tablets and the policy of it
abbrev pub group_in : Data → Group
group_in d = group_of (config_in d)

-- what each manager knows of its shard
abbrev pub groups_in : List Managed → List Group
groups_in managers = map (λ m. m.group) managers

-- each manager knows the shard as it is kept
abbrev pub AreOfGroup : Data → Type 0
AreOfGroup d = AllByRecursion (λ g. g ≡ group_in d) (groups_in d.managers)

-- the world that the fields stand for, with these steps past
abbrev pub world_seen : Data → List Step → World
world_seen d steps = record {
  group = group_in d;
  tablets = state_at d.managers;
  topo = d.topo;
  post = d.messages;
  clock = d.clock;
  cuts = d.cuts;
  actors = d.actors;
  commands = d.commands;
  past = steps;
}

-- the same with no step past: no condition, no reply and no change reads them
abbrev pub seen : Data → World
seen d = world_seen d []

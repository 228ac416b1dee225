-- Messages that their receivers can take: between declared tablets, and calls that can be made of their tablet. Marks of declared tablets, for which
-- there is room. And tablets that know their shard.
use Rattle.std.specs.Prelude.{◌≡◌, ◌<◌, ◌≤◌, ◌⊎◌, ℕ, true, false, Some, length, map, ⊤}
use Rattle.std.specs.List.{list_all}
use Rattle.shard_names.specs.declared.alias.Alias.{Alias}
use Rattle.shard_names.specs.Tablets.{alias_eq, is_among, is_declared, AliasesRise}
use Rattle.topo_lock.specs.Laws.{MarksRise}
use Rattle.shard_calls.specs.declared.call.Call.{Call}
use Rattle.shard_calls.specs.declared.call.Call.TheVariants as calls
use Rattle.shard_calls.specs.declared.post.Content.{Content}
use Rattle.shard_calls.specs.declared.post.Content.TheVariants as contents
use Rattle.shard_calls.specs.declared.post.Message.{Message}
use Rattle.shard_calls.specs.declared.stand.Stand.{Stand}
use Rattle.shard_calls.specs.declared.stand.Stand.TheVariants as stands
use Rattle.shard_calls.specs.World.{Config, World, numbered}
use Rattle.shard_state.specs.State.{Data, tablets_of, AreOfGroup}

-- a tablet replicates from another, in a term that is not above that of the call
abbrev pub FitsCall : Alias → ℕ → Call → Type 0
FitsCall to term calls.Status = ⊤
FitsCall to term calls.Stop = ⊤
FitsCall to term calls.Demote = ⊤
FitsCall to term (calls.Promote p) = ⊤
FitsCall to term (calls.SetSource source t p) = (alias_eq source to ≡ false) × (t ≤ term)
FitsCall to term calls.Feed = ⊤
FitsCall to term (calls.WaitFor p until) = ⊤
FitsCall to term (calls.WaitTold until) = ⊤

-- the source that a call names is declared
abbrev pub NamesSource : Config → Call → Type 0
NamesSource config calls.Status = ⊤
NamesSource config calls.Stop = ⊤
NamesSource config calls.Demote = ⊤
NamesSource config (calls.Promote p) = ⊤
NamesSource config (calls.SetSource source t p) = is_declared config.tablets source ≡ true
NamesSource config calls.Feed = ⊤
NamesSource config (calls.WaitFor p until) = ⊤
NamesSource config (calls.WaitTold until) = ⊤

abbrev pub IsSoundContent : Config → Content → Type 0
IsSoundContent config (contents.Asks command term to call) = (is_declared config.tablets to ≡ true) × (FitsCall to term call × NamesSource config call)
IsSoundContent config (contents.Answers command asked from says) = is_declared config.tablets from ≡ true
IsSoundContent config (contents.Feeds from to term after index e) = (is_declared config.tablets from ≡ true) × (is_declared config.tablets to ≡ true)
IsSoundContent config (contents.Acks from to term index) = (is_declared config.tablets from ≡ true) × (is_declared config.tablets to ≡ true)

-- a replica's source is declared, and it waits for an entry
abbrev pub HasSource : Config → Stand → Type 0
HasSource config stands.Down = ⊤
HasSource config stands.Stopped = ⊤
HasSource config (stands.Primary t) = ⊤
HasSource config (stands.Demoted t by) = ⊤
HasSource config (stands.Replica source t next) = (is_declared config.tablets source ≡ true) × (1 ≤ next)
HasSource config (stands.Feeder t) = ⊤

pub record AreSound (config : Config) (w : World) : Type 0 where
  pub post : (k : ℕ) (m : Message) → numbered w.post k ≡ Some m → IsSoundContent config m.content
  pub sources : (a : Alias) → HasSource config (w.tablets a).stand
  -- the marks are of declared tablets, in alias order
  pub marks : list_all (is_declared config.tablets) w.topo.drained ≡ true
  pub rise : MarksRise w.topo.drained

-- a tablet is marked, or there is room for one mark more
abbrev pub HasRoomForMark : Data → Alias → Type 0
HasRoomForMark d a = (is_among d.topo.drained a ≡ true) ⊎ (length d.topo.drained < d.marks)

-- the post knows the tablets, which are in alias order, there is room for a mark of each, and each tablet knows the shard as it is kept
pub record Fits (d : Data) : Type 0 where
  pub aliases : d.aliases ≡ map (λ t. t.alias) (tablets_of d.managers)
  pub order : AliasesRise (tablets_of d.managers)
  pub marks : d.marks ≡ length (tablets_of d.managers)
  pub group : AreOfGroup d

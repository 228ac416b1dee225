-- That a command keeps the shard's lock, and what it then has. After the shard lock of PlannedReparentShard (Vitess manual) and the terms of
-- Sougoumarane's "Consensus algorithms at scale": who has the last term is refused nothing for an older one.
use Rattle.std.specs.Prelude.{◌≡◌, ◌<◌, ◌≤◌, ℕ, Bool, true, false, ◌==◌, List, Some, slice_get}
use Rattle.shard_names.specs.declared.alias.Alias.{Alias}
use Rattle.shard_names.specs.declared.tablet.Tablet.{Tablet}
use Rattle.topo_lock.specs.declared.lock.Holder.{Holder}
use Rattle.topo_lock.specs.Topology.{is_held_in}
use Rattle.topo_lock.specs.Laws.{TermsWithin}
use Rattle.shard_calls.specs.declared.answer.Answer.TheVariants as says
use Rattle.shard_calls.specs.declared.call.Call.{Call}
use Rattle.shard_calls.specs.declared.event.Event.{Event}
use Rattle.shard_calls.specs.declared.event.Event.TheVariants as events
use Rattle.shard_calls.specs.declared.event.Reply.TheVariants as replies
use Rattle.shard_calls.specs.declared.event.Step.{Step}
use Rattle.shard_calls.specs.declared.group.Group.{Group}
use Rattle.shard_calls.specs.declared.post.Content.TheVariants as contents
use Rattle.shard_calls.specs.Tablets.{answer_to}
use Rattle.shard_calls.specs.World.{Config, World, numbered, term_in}
use Rattle.shard_calls.specs.Promotions.{world_at}
use Rattle.shard_laws.specs.TightMoves.{IsPosted}

-- ---- the lock is kept

-- with step i the command takes the lock, in this term
abbrev pub TakesAt : List Step → ℕ → ℕ → ℕ → Type 0
TakesAt steps i c u = slice_get steps i ≡ Some (record { event = events.Take c; reply = replies.Term u })

-- the event frees the lock of the command: it lapses, or the command frees it
abbrev pub frees : ℕ → Event → Bool
frees c events.Lapse = true
frees c (events.Release d) = d == c
frees c _ = false

-- With step i the command takes the lock in the term, and it keeps it up to step j: between the two the lock does not lapse, and the command does not
-- free it. Where step j is the command's Release, its lock is kept as long as it wants it.
pub record IsKept (steps : List Step) (c u i j : ℕ) : Type 0 where
  pub taken : TakesAt steps i c u
  pub later : i < j
  pub kept : (k : ℕ) (s : Step) → i < k → k < j → slice_get steps k ≡ Some s → frees c s.event ≡ false

-- ---- what it then has

-- the command has the lock, in this term
pub record HasLock (w : World) (c u : ℕ) : Type 0 where
  -- the lock is held in the term, by the command
  pub held : is_held_in w.topo u ≡ true
  pub holder : Holder
  pub holder_is : w.topo.holder ≡ Some holder
  pub by : holder.command ≡ c
  -- which alone took the term, and no command took a later one
  pub own : term_in (numbered w.commands c) ≡ Some u
  pub alone : (d : ℕ) → term_in (numbered w.commands d) ≡ Some u → d ≡ c
  pub last : (d v : ℕ) → term_in (numbered w.commands d) ≡ Some v → v ≤ u
  -- so no intent and no call is of a later term, and no tablet has heard of one or promised one
  pub intents : TermsWithin u w.topo.intents
  pub calls : (k d v : ℕ) (a : Alias) (call : Call) → IsPosted w.post k (contents.Asks d v a call) → v ≤ u
  pub seen : (a : Alias) → (w.tablets a).seen ≤ u
  pub promised : (a : Alias) → (w.tablets a).promised ≤ u

-- the event asks the topology something for the command
abbrev pub asks_topology : ℕ → Event → Bool
asks_topology c (events.Read d) = d == c
asks_topology c (events.Intend d a) = d == c
asks_topology c (events.Record d a) = d == c
asks_topology c (events.Drain d a) = d == c
asks_topology c _ = false

pub record IsHeldBetween (config : Config) (steps : List Step) (c u i j : ℕ) : Type 0 where
  pub has : (k : ℕ) → i < k → k ≤ j → HasLock (world_at config steps k) c u
  -- nobody takes the lock meanwhile
  pub untaken : (k d v : ℕ) → i < k → k < j → TakesAt steps k d v → ⊥
  -- the topology never says that the command has lost the lock
  pub unlost : (k t : ℕ) (e : Event) → i < k → k < j → asks_topology c e ≡ true
      → slice_get steps k ≡ Some (record { event = e; reply = replies.Lost t }) → ⊥
  -- no tablet refuses a call of the term as stale, and what a tablet has promised ahead of one is no later term
  pub fresh : (k t : ℕ) (a : Alias) (g : Group) (me : Tablet) (call : Call) → i < k → k ≤ j
      → answer_to g me u call ((world_at config steps k).tablets a) ≡ says.StaleTerm t → ⊥
  pub ahead : (k t : ℕ) (a : Alias) (g : Group) (me : Tablet) (call : Call) → i < k → k ≤ j
      → answer_to g me u call ((world_at config steps k).tablets a) ≡ says.PromisedAhead t → t ≤ u

-- while a command keeps the lock it has it
abbrev pub KeptLockIsHeld : Config → List Step → Type 0
KeptLockIsHeld config steps = (c u i j : ℕ) → IsKept steps c u i j → IsHeldBetween config steps c u i j

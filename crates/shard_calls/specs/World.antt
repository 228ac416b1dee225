-- The world of one shard: what stands at a moment. Tablets, the shard's lock and its record are those of Vitess (Vitess manual), logs of
-- numbered transactions those of MySQL (MySQL 8.0 manual, "GTID Format and Storage"), terms, intents and messages that may be late, lost or
-- repeated those of Sougoumarane's "Consensus algorithms at scale".
use Rattle.std.specs.Prelude.{ℕ, zero, suc, ◌+◌, Bool, true, false, not, List, [], ◌∷◌, ◌++◌, Option, Some, None, if◌then◌else◌, slice_get, codes, position, length, unwrap_or}
use Rattle.std.specs.Str.{bytes_eq}
use Rattle.shard_base.specs.Options.{◌>>=◌, only_if}
use Rattle.shard_names.specs.Tablets.{AreTablets, alias_eq, tablet_of}
use Rattle.shard_names.specs.declared.alias.Alias.{Alias}
use Rattle.shard_names.specs.declared.tablet.Tablet.{Tablet}
use Rattle.durability.specs.declared.policy.Durability.{Durability}
use Rattle.durability.specs.Rules.{is_eligible}
use Rattle.durability.specs.Policies.{rules_of}
use Rattle.topo_lock.specs.Topology.{Topology, fresh}
use Rattle.shard_calls.specs.declared.event.Link.{Link}
use Rattle.shard_calls.specs.declared.event.Step.{Step}
use Rattle.shard_calls.specs.declared.post.Content.{Content}
use Rattle.shard_calls.specs.declared.post.Message.{Message}
use Rattle.shard_calls.specs.declared.post.Settled.{Settled}
use Rattle.shard_calls.specs.declared.state.Act.{Act}
use Rattle.shard_calls.specs.declared.state.ActorState.{ActorState}
use Rattle.shard_calls.specs.declared.state.CommandState.{CommandState}
use Rattle.shard_calls.specs.declared.group.Group.{Group}
use Rattle.shard_calls.specs.Tablets.{TabletState, opened}

-- what does not change: the tablets, in alias order, the durability policy, and the moment at which the clock begins, in milliseconds since the
-- start of 1970
pub record Config : Type 0 where
  pub tablets : List Tablet
  pub policy : Durability
  pub moment : ℕ

abbrev pub group_of : Config → Group
group_of config = record { tablets = config.tablets; policy = config.policy }

-- the tablets are those of one shard
pub record IsConfig (config : Config) : Type 0 where
  pub tablets : AreTablets config.tablets

abbrev pub may_be_promoted : Durability → Option Tablet → Bool
may_be_promoted policy None = false
may_be_promoted policy (Some t) = is_eligible (rules_of policy) t

-- declared, and the policy's rule for it is not must_not
abbrev pub is_eligible_alias : Config → Alias → Bool
is_eligible_alias config a = may_be_promoted config.policy (tablet_of config.tablets a)

pub record World : Type 0 where
  -- which never changes
  pub group : Group
  pub tablets : Alias → TabletState
  -- the lock, the intents and the record
  pub topo : Topology
  -- all messages ever sent, in order, with what became of each
  pub post : List Message
  -- in milliseconds since the start of 1970
  pub clock : ℕ
  -- the links that are cut
  pub cuts : List Link
  -- in the order in which they first gave a command, but `main`, who is the first
  pub actors : List ActorState
  -- in the order in which they began
  pub commands : List CommandState
  pub past : List Step

-- an actor who has given no command yet
abbrev pub idle_actor : List ℕ → ActorState
idle_actor name = record { name = name; pending = None; writes = 0 }

-- the actor who needs no name
abbrev pub main_name : List ℕ
main_name = codes "main"

-- empty logs, and nothing used, sent, cut, begun or past
abbrev pub opening : Config → World
opening config = record {
  group = group_of config;
  tablets = λ a. opened;
  topo = fresh;
  post = [];
  clock = config.moment;
  cuts = [];
  actors = idle_actor main_name ∷ [];
  commands = [];
  past = [];
}

-- ---- lists of which one member changes

-- the list, with the member at this place changed
abbrev pub changed : {A : Type 0} → List A → ℕ → (A → A) → List A
changed [] k f = []
changed (x ∷ xs) zero f = f x ∷ xs
changed (x ∷ xs) (suc k) f = x ∷ changed xs k f

-- the member of a number, counted from 1
abbrev pub numbered : {A : Type 0} → List A → ℕ → Option A
numbered xs zero = None
numbered xs (suc k) = slice_get xs k

-- the list, with the member of a number changed
abbrev pub changed_at : {A : Type 0} → List A → ℕ → (A → A) → List A
changed_at xs zero f = xs
changed_at xs (suc k) f = changed xs k f

-- ---- parts of the world that change alone

-- the tablets, with this one in a new state
abbrev pub at_tablet : (Alias → TabletState) → Alias → TabletState → Alias → TabletState
at_tablet states a s b = if alias_eq a b then s else states b

abbrev pub on_tablet : World → Alias → TabletState → World
on_tablet w a s = record w { tablets = at_tablet w.tablets a s }

abbrev pub on_topo : World → Topology → World
on_topo w t = record w { topo = t }

abbrev pub on_command : World → ℕ → (CommandState → CommandState) → World
on_command w c f = record w { commands = changed_at w.commands c f }

abbrev pub on_message : World → ℕ → (Message → Message) → World
on_message w k f = record w { post = changed_at w.post k f }

-- the command has done this
abbrev pub with_act : Act → CommandState → CommandState
with_act act s = record s { acts = s.acts ++ act ∷ [] }

-- ---- the post

-- the number of the message that is sent next
abbrev pub next_message : World → ℕ
next_message w = length w.post + 1

-- a message is sent
abbrev pub sends : World → Content → World
sends w c = record w { post = w.post ++ record { content = c; sent = w.clock; arrived = None; lost = false; settled = None } ∷ [] }

-- it has come to its receiver: the first time counts
abbrev pub arrives : ℕ → Message → Message
arrives now m = record m { arrived = Some (unwrap_or m.arrived now) }

-- it never comes any more
abbrev pub vanishes : Message → Message
vanishes m = record m { lost = true }

-- a call is settled: the first time counts
abbrev pub settles : Settled → Message → Message
settles x m = record m { settled = Some (unwrap_or m.settled x) }

-- ---- actors and commands

-- the place of the actor with this name, if there is one
abbrev pub place_of : List ActorState → List ℕ → Option ℕ
place_of actors name = position (λ a. bytes_eq a.name name) actors

-- the command that the actor at a place has open
abbrev pub open_at : List ActorState → Option ℕ → Option ℕ
open_at actors None = None
open_at actors (Some k) = slice_get actors k >>= (λ a. a.pending)

-- the command that an actor has open
abbrev pub open_of : List ActorState → List ℕ → Option ℕ
open_of actors name = open_at actors (place_of actors name)

-- the command of a number, if it has begun and not ended
abbrev pub if_open : Option CommandState → Option CommandState
if_open s = s >>= (λ x. only_if (not x.ended) x)

abbrev pub open_command : World → ℕ → Option CommandState
open_command w c = if_open (numbered w.commands c)

-- the term in which an open command took the lock
abbrev pub term_in : Option CommandState → Option ℕ
term_in s = s >>= (λ x. x.term)

abbrev pub term_of : World → ℕ → Option ℕ
term_of w c = term_in (open_command w c)

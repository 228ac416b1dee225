-- What holds of every history, step by step: the laws of the tablets and of the topology hold of each, and a term promotes once, as it was
-- intended. After Sougoumarane's "Consensus algorithms at scale".
use Rattle.std.specs.Prelude.{◌≡◌, ◌≤◌, ◌<◌, ℕ, true, List, Some, slice_get, take}
use Rattle.shard_base.specs.Lists.{IsFront}
use Rattle.shard_names.specs.declared.alias.Alias.{Alias}
use Rattle.shard_names.specs.declared.tablet.Tablet.{Tablet}
use Rattle.shard_names.specs.Tablets.{tablet_of}
use Rattle.gtid_sets.specs.declared.entry.Entry.{Entry}
use Rattle.gtid_sets.specs.declared.entry.Kind.TheVariants as kinds
use Rattle.topo_lock.specs.Moves.{TopoMove}
use Rattle.topo_lock.specs.Laws.{EachTermOnce}
use Rattle.durability.specs.Policies.{rules_of}
use Rattle.durability.specs.Sets.{TabletSet, Accepted}
use Rattle.shard_calls.specs.declared.answer.Answer.TheVariants as says
use Rattle.shard_calls.specs.declared.call.Call.TheVariants as calls
use Rattle.shard_calls.specs.declared.event.Event.TheVariants as events
use Rattle.shard_calls.specs.declared.event.Reply.TheVariants as replies
use Rattle.shard_calls.specs.declared.event.Step.{Step}
use Rattle.shard_calls.specs.declared.post.Content.TheVariants as contents
use Rattle.shard_calls.specs.declared.post.Message.{Message}
use Rattle.shard_calls.specs.Stands.{is_primary_of}
use Rattle.gtid_sets.specs.Logs.{holds}
use Rattle.shard_calls.specs.Tablets.{answer_to}
use Rattle.shard_calls.specs.Moves.{TabletMove}
use Rattle.shard_calls.specs.Laws.{IsSound}
use Rattle.shard_calls.specs.World.{Config, IsConfig, opening, numbered}
use Rattle.shard_calls.specs.Table.{after, world_after, IsRun}
use Rattle.shard_calls.specs.Promotions.{world_at, IsTold}

-- a law of histories
abbrev pub OfEveryRun : (Config → List Step → Type 0) → Type 0
OfEveryRun Law = (config : Config) (steps : List Step) → IsRun config steps → Law config steps

-- each step changes each tablet by one move
abbrev pub TabletsMove : Config → List Step → Type 0
TabletsMove config steps = (i : ℕ) (s : Step) (a : Alias) → slice_get steps i ≡ Some s
    → TabletMove ((world_at config steps i).tablets a) ((after config (world_at config steps i) s.event).tablets a)

-- each step changes the topology by one move
abbrev pub TopologyMoves : Config → List Step → Type 0
TopologyMoves config steps =
    (i : ℕ) (s : Step) → slice_get steps i ≡ Some s → TopoMove (world_at config steps i).topo (after config (world_at config steps i) s.event).topo

-- the rows in a tablet's log are of terms that it promised, and it stands as it promised
abbrev pub TabletsAreSound : Config → List Step → Type 0
TabletsAreSound config steps = (a : Alias) → IsSound ((world_after config (opening config) steps).tablets a)

-- the topology's term never falls
abbrev pub TermNeverFalls : Config → List Step → Type 0
TermNeverFalls config steps = (i j : ℕ) → i ≤ j → (world_at config steps i).topo.term ≤ (world_at config steps j).topo.term

-- each term intends one tablet at most
abbrev pub OneIntent : Config → List Step → Type 0
OneIntent config steps = EachTermOnce (world_after config (opening config) steps).topo.intents

-- entries are added at the end of a log, and none is taken away or changed
abbrev pub LogsOnlyGrow : Config → List Step → Type 0
LogsOnlyGrow config steps = (i j : ℕ) (a : Alias) → i ≤ j → IsFront ((world_at config steps i).tablets a).log ((world_at config steps j).tablets a).log

-- ---- over the tablets of one shard

-- a law of histories of a shard, whose servers differ
abbrev pub OfEveryShard : (Config → List Step → Type 0) → Type 0
OfEveryShard Law = (config : Config) (steps : List Step) → IsConfig config → IsRun config steps → Law config steps

-- the tablet's log after these steps
abbrev pub log_after : Config → List Step → Alias → List Entry
log_after config steps a = ((world_after config (opening config) steps).tablets a).log

-- what two logs have of one transaction is one entry
abbrev pub OneEntry : Config → List Step → Type 0
OneEntry config steps = (a b : Alias) (n k : ℕ) (e f : Entry)
    → slice_get (log_after config steps a) n ≡ Some e → slice_get (log_after config steps b) k ≡ Some f → e.gtid ≡ f.gtid → e ≡ f

-- the entry stands in the log
abbrev pub IsIn : List Entry → Entry → Type 0
IsIn log e = (n : ℕ) × (slice_get log n ≡ Some e)

-- the log has the first n entries of the other one
abbrev pub HasFirst : List Entry → List Entry → ℕ → Type 0
HasFirst log source n = (i : ℕ) (e : Entry) → i < n → slice_get source i ≡ Some e → IsIn log e

-- What stands before the row of a term, in any log, has all that stands before this row in the log of the tablet that it names: all that this
-- tablet had when it was promoted.
abbrev pub LogsAreClosed : Config → List Step → Type 0
LogsAreClosed config steps = (a c : Alias) (n k term : ℕ) (row : Entry) → slice_get (log_after config steps a) n ≡ Some row → row.kind ≡ kinds.Row term c
    → slice_get (log_after config steps c) k ≡ Some row → HasFirst (take n (log_after config steps a)) (log_after config steps c) k

-- an acknowledgement of an index says that its sender has so many entries of its receiver's log
abbrev pub AcksAreHeld : Config → List Step → Type 0
AcksAreHeld config steps = (k : ℕ) (m : Message) (from to : Alias) (term index : ℕ)
    → numbered (world_after config (opening config) steps).post k ≡ Some m → m.content ≡ contents.Acks from to term index
    → HasFirst (log_after config steps from) (log_after config steps to) index

-- a tablet has so many entries of a primary as the primary noted
abbrev pub NotedIsHeld : Config → List Step → Type 0
NotedIsHeld config steps = (primary a : Alias)
    → HasFirst (log_after config steps a) (log_after config steps primary) (((world_after config (opening config) steps).tablets primary).acked a)

-- ---- what is told, and what is not

-- the tablets whose logs have the entry's transaction after so many steps
abbrev pub having : Config → List Step → ℕ → Entry → TabletSet
having config steps j e a = holds ((world_at config steps j).tablets a).log e.gtid

-- at step i a declared tablet stands as the primary of the term, and from then on the policy accepts for it the tablets that have the entry
pub record IsAcceptedFrom (config : Config) (steps : List Step) (i : ℕ) (e : Entry) (t : ℕ) : Type 0 where
  pub primary : Tablet
  pub declared : tablet_of config.tablets primary.alias ≡ Some primary
  pub stands : is_primary_of ((world_at config steps i).tablets primary.alias).stand t ≡ true
  pub accepted : (j : ℕ) → i ≤ j → Accepted (rules_of config.policy) config.tablets primary (having config steps j e)

-- what is told in a term is held by as many tablets as the policy asks of the term's primary
abbrev pub ToldIsAccepted : Config → List Step → Type 0
ToldIsAccepted config steps = (i : ℕ) (e : Entry) (t : ℕ) → IsTold config steps i e t → IsAcceptedFrom config steps i e t

-- step i delivers to this tablet a call of this term that waits, until a moment, for the row of the term to be told
pub record AsksTold (config : Config) (steps : List Step) (i t until : ℕ) (me : Tablet) : Type 0 where
  pub message : ℕ
  pub reply : ℕ
  pub command : ℕ
  pub here : slice_get steps i ≡ Some (record { event = events.Deliver message; reply = replies.Message reply })
  pub asks : Message
  pub at : numbered (world_at config steps i).post message ≡ Some asks
  pub carries : asks.content ≡ contents.Asks command t me.alias (calls.WaitTold until)
  pub declared : tablet_of config.tablets me.alias ≡ Some me

-- a tablet says that the row is not told only once the moment has come
abbrev pub NotToldIsLate : Config → List Step → Type 0
NotToldIsLate config steps = (i t until : ℕ) (me : Tablet) → AsksTold config steps i t until me
    → answer_to (world_at config steps i).group me t (calls.WaitTold until) ((world_at config steps i).tablets me.alias) ≡ says.NotTold
    → until ≤ (world_at config steps i).clock

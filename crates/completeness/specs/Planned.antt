-- When a PlannedReparentShard (Vitess manual) that ended has promoted a tablet, or found that it had nothing to do: where nothing hinders it. Each
-- premise is said of the steps of the history and of the worlds between them.
use Rattle.std.specs.Prelude.{◌≡◌, ◌⊎◌, ℕ, ◌<◌, true, List, Some, None, slice_get}
use Rattle.shard_names.specs.declared.alias.Alias.{Alias}
use Rattle.shard_names.specs.declared.tablet.Tablet.{Tablet}
use Rattle.shard_names.specs.Tablets.{tablet_of}
use Rattle.gtid_sets.specs.Logs.{position_of}
use Rattle.gtid_sets.specs.Position.{Position, covers}
use Rattle.topo_lock.specs.declared.intent.Intent.{Intent}
use Rattle.shard_calls.specs.declared.answer.Answer.TheVariants as says
use Rattle.shard_calls.specs.declared.call.Call.{Call}
use Rattle.shard_calls.specs.declared.call.Call.TheVariants as calls
use Rattle.shard_calls.specs.declared.command.PlannedOptions.{PlannedOptions}
use Rattle.shard_calls.specs.declared.ending.CommandAnswer.{CommandAnswer}
use Rattle.shard_calls.specs.declared.ending.CommandAnswer.TheVariants as answers
use Rattle.shard_calls.specs.declared.ending.NotJoined.{NotJoined}
use Rattle.shard_calls.specs.declared.event.Event.TheVariants as events
use Rattle.shard_calls.specs.declared.event.Reply.TheVariants as replies
use Rattle.shard_calls.specs.declared.event.Seen.{Seen}
use Rattle.shard_calls.specs.declared.event.Step.{Step}
use Rattle.shard_calls.specs.declared.group.Group.{Group}
use Rattle.shard_calls.specs.declared.post.Content.TheVariants as contents
use Rattle.shard_calls.specs.declared.refusal.Refusal.TheVariants as refusals
use Rattle.shard_calls.specs.declared.span.Asked.{Asked}
use Rattle.shard_calls.specs.declared.span.Deed.{Deed}
use Rattle.shard_calls.specs.declared.span.Deed.TheVariants as deeds
use Rattle.shard_calls.specs.declared.span.Kind.TheVariants as kinds
use Rattle.shard_calls.specs.declared.span.Outcome.TheVariants as outcomes
use Rattle.shard_calls.specs.declared.stand.Stand.TheVariants as stands
use Rattle.shard_calls.specs.declared.state.CommandState.{CommandState}
use Rattle.shard_calls.specs.declared.why.Why.{Why}
use Rattle.shard_calls.specs.Choosing.{candidates, reason_among, reason_of_tablet}
use Rattle.shard_calls.specs.Commands.{planned_options}
use Rattle.shard_calls.specs.Promotions.{world_at}
use Rattle.shard_calls.specs.Refusals.{refusal_by_seen, refusal_of_crossing, refusal_of_planned}
use Rattle.shard_calls.specs.Spans.{span_of}
use Rattle.shard_calls.specs.Tablets.{answer_to}
use Rattle.shard_calls.specs.World.{Config, World, group_of, numbered}
use Rattle.shard_laws.specs.TightMoves.{IsPosted}
use Rattle.courses.specs.Sound.{AreCalled, IsIn}
use Rattle.completeness.specs.Following.{KeepsToCourse}
use Rattle.completeness.specs.Kept.{IsKept}

-- ---- what the premises speak of

-- the command read this of the topology
abbrev pub HasRead : List Step → ℕ → Seen → Type 0
HasRead steps c seen = (k : ℕ) × (slice_get steps k ≡ Some (record { event = events.Read c; reply = replies.Read seen }))

-- with step k this call of the command comes to the tablet
pub record ComesTo (config : Config) (steps : List Step) (c u k : ℕ) (me : Tablet) (call : Call) : Type 0 where
  pub message : ℕ
  pub reply : ℕ
  pub here : slice_get steps k ≡ Some (record { event = events.Deliver message; reply = replies.Message reply })
  pub posted : IsPosted (world_at config steps k).post message (contents.Asks c u me.alias call)
  pub declared : tablet_of config.tablets me.alias ≡ Some me

-- the tablet's answer is that it is demoted, and its newest row is that of the intent's term
abbrev pub AnswersDemoted : Config → List Step → ℕ → ℕ → Tablet → Intent → Type 0
AnswersDemoted config steps u k me i = (p : Position)
    × (answer_to (world_at config steps k).group me u calls.Demote ((world_at config steps k).tablets me.alias) ≡ says.Demoted i.term p)

-- what the tablet has the source has too, or the tablet replicates from it in the term already
abbrev pub CanJoin : World → Alias → Alias → ℕ → Position → Type 0
CanJoin w a source t p =
    (covers p (position_of (w.tablets a).log) ≡ true) ⊎ ((next : ℕ) × ((w.tablets a).stand ≡ stands.Replica source t next))

-- a declared tablet that nothing keeps from being the first primary
abbrev pub FirstIsLeft : Group → PlannedOptions → Seen → Type 0
FirstIsLeft g o seen = (n : ℕ) × ((t : Tablet) × ((slice_get g.tablets n ≡ Some t) × (reason_of_tablet g seen o.avoid t ≡ None)))

-- a declared tablet that nothing keeps from following the old primary, by what those said that were asked
abbrev pub FollowerIsLeft : Group → PlannedOptions → Seen → Alias → List Deed → Type 0
FollowerIsLeft g o seen old done =
    (n : ℕ) × ((t : Tablet) × ((slice_get g.tablets n ≡ Some t) × (reason_among g o.allow_cross_cell seen old done t ≡ None)))

-- the tablet was called to be demoted, to be promoted, or to catch up: it is the old primary or the one that is to follow
pub data IsConcerned (steps : List Step) (c : ℕ) (a : Alias) : Type 0 where
  IsDemoted : (k message : ℕ) → slice_get steps k ≡ Some (record { event = events.Send c a calls.Demote; reply = replies.Message message })
      → IsConcerned steps c a
  CatchesUp : (seen : Seen) (i : Intent) (k message : ℕ) (p : Position) → HasRead steps c seen → seen.intent ≡ Some i
      → slice_get steps k ≡ Some (record { event = events.Send c a (calls.SetSource i.alias i.term p); reply = replies.Message message })
      → IsConcerned steps c a
  IsPromoted : (k message : ℕ) (p : Position)
      → slice_get steps k ≡ Some (record { event = events.Send c a (calls.Promote p); reply = replies.Message message }) → IsConcerned steps c a

-- ---- the premises

-- Step j is the command's End. Two premises are needed besides: that it keeps to its course, as want of memory alone lets it not, and that it makes a
-- Release, without which it is not said until when the lock is to be kept.
pub record NothingHinders (config : Config) (steps : List Step) (c j : ℕ) (o : PlannedOptions) : Type 0 where
  pub state : CommandState
  pub here : numbered (world_at config steps j).commands c ≡ Some state
  pub planned : planned_options state.command ≡ Some o
  pub keeps : KeepsToCourse config steps c
  pub freed : ℕ
  pub frees : slice_get steps freed ≡ Some (record { event = events.Release c; reply = replies.Ok })
  pub before_end : freed < j
  -- its options meet no refusal: its tablets are declared, the new primary may be it, another primary is not expected, nothing crosses cells
  pub options : refusal_of_planned (group_of config) o ≡ None
  pub seen : (seen : Seen) → HasRead steps c seen → refusal_by_seen o.expected o.new_primary seen ≡ None
  pub crossing : (seen : Seen) (i : Intent) (a : Alias) → HasRead steps c seen → seen.intent ≡ Some i → o.new_primary ≡ Some a
      → refusal_of_crossing o.allow_cross_cell i.alias a ≡ None
  -- its lock is kept
  pub term : ℕ
  pub taken : ℕ
  pub kept : IsKept steps c term taken freed
  -- a new primary is given, or a tablet without a reason is left
  pub first : (seen : Seen) → HasRead steps c seen → seen.intent ≡ None → o.new_primary ≡ None → FirstIsLeft (group_of config) o seen
  pub follower : (seen : Seen) (i : Intent) (done : List Deed) → HasRead steps c seen → seen.intent ≡ Some i → o.new_primary ≡ None
      → AreCalled (span_of (world_at config steps freed) c) (candidates (group_of config) o.allow_cross_cell seen i.alias) kinds.Status done
      → FollowerIsLeft (group_of config) o seen i.alias done
  -- the tablet of the last intent answers Demoted, with the intent's term as newest row
  pub demoted : (seen : Seen) (i : Intent) (k : ℕ) (me : Tablet) → HasRead steps c seen → seen.intent ≡ Some i
      → ComesTo config steps c term k me calls.Demote → AnswersDemoted config steps term k me i
  -- the one that is to follow has no more than that, or follows already, when it takes its SetSource
  pub joins : (seen : Seen) (i : Intent) (k : ℕ) (me : Tablet) (p : Position) → HasRead steps c seen → seen.intent ≡ Some i
      → ComesTo config steps c term k me (calls.SetSource i.alias i.term p) → CanJoin (world_at config steps k) me.alias i.alias i.term p
  -- each call to these two is settled by an answer
  pub settled : (x : Asked) (why : Why) → IsIn (span_of (world_at config steps freed) c) (deeds.Asked x) → IsConcerned steps c x.alias
      → x.outcome ≡ Some (outcomes.GivenUp why) → ⊥
  -- and neither goes down while the lock is held
  pub up : (k keep : ℕ) (s : Step) (a : Alias) → taken < k → k < freed → slice_get steps k ≡ Some s → IsConcerned steps c a
      → s.event ≡ events.Crash a keep → ⊥
  -- no WaitFor or WaitTold comes at its moment or later
  pub in_time_for : (k until : ℕ) (me : Tablet) (p : Position) → ComesTo config steps c term k me (calls.WaitFor p until)
      → (world_at config steps k).clock < until
  pub in_time_told : (k until : ℕ) (me : Tablet) → ComesTo config steps c term k me (calls.WaitTold until)
      → (world_at config steps k).clock < until

-- ---- what then comes of it

-- a tablet is promoted, there is nothing to do, or memory is wanting
pub data Completes : CommandAnswer → Type 0 where
  Promotes : (a : Alias) (t : ℕ) (left : List NotJoined) → Completes (answers.Promoted a t left)
  HasNothingToDo : (a : Alias) → Completes (answers.NothingToDo a)
  WantsMemory : Completes (answers.Refused refusals.OutOfMemory None)

-- a PlannedReparentShard that nothing hinders completes
abbrev pub PlannedCompletes : Config → List Step → Type 0
PlannedCompletes config steps = (c j : ℕ) (o : PlannedOptions) (said : CommandAnswer)
    → slice_get steps j ≡ Some (record { event = events.End c said; reply = replies.Ok }) → NothingHinders config steps c j o → Completes said

-- When an EmergencyReparentShard (Vitess manual) that ended has promoted a tablet: where nothing hinders it. Each premise is said of the steps of the
-- history and of the worlds between them. After Sougoumarane's "Consensus algorithms at scale": who stopped enough tablets can always go on.
use Rattle.std.specs.Prelude.{◌≡◌, ℕ, ◌<◌, List, Some, None, slice_get}
use Rattle.shard_names.specs.declared.alias.Alias.{Alias}
use Rattle.shard_names.specs.declared.tablet.Tablet.{Tablet}
use Rattle.gtid_sets.specs.Position.{Position}
use Rattle.gtid_sets.specs.declared.held.Held.{Held}
use Rattle.gtid_sets.specs.Winner.{winner}
use Rattle.shard_calls.specs.declared.call.Call.{Call}
use Rattle.shard_calls.specs.declared.call.Call.TheVariants as calls
use Rattle.shard_calls.specs.declared.command.EmergencyOptions.{EmergencyOptions}
use Rattle.shard_calls.specs.declared.ending.CommandAnswer.{CommandAnswer}
use Rattle.shard_calls.specs.declared.event.Event.TheVariants as events
use Rattle.shard_calls.specs.declared.event.Reply.TheVariants as replies
use Rattle.shard_calls.specs.declared.event.Seen.{Seen}
use Rattle.shard_calls.specs.declared.event.Step.{Step}
use Rattle.shard_calls.specs.declared.group.Group.{Group}
use Rattle.shard_calls.specs.declared.span.Asked.{Asked}
use Rattle.shard_calls.specs.declared.span.Deed.{Deed}
use Rattle.shard_calls.specs.declared.span.Deed.TheVariants as deeds
use Rattle.shard_calls.specs.declared.span.Kind.TheVariants as kinds
use Rattle.shard_calls.specs.declared.span.Outcome.TheVariants as outcomes
use Rattle.shard_calls.specs.declared.state.CommandState.{CommandState}
use Rattle.shard_calls.specs.declared.why.Why.{Why}
use Rattle.shard_calls.specs.Commands.{emergency_options}
use Rattle.shard_calls.specs.Promotions.{world_at}
use Rattle.shard_calls.specs.Refusals.{refusal_by_seen, refusal_of_emergency}
use Rattle.shard_calls.specs.Rescuing.{first_unrevoked, heeded, helds, reached_by, reason_to_rescue, refusal_of_given}
use Rattle.shard_calls.specs.Spans.{span_of}
use Rattle.shard_calls.specs.World.{Config, group_of, numbered}
use Rattle.courses.specs.Sound.{AreCalled, IsIn}
use Rattle.completeness.specs.Following.{KeepsToCourse}
use Rattle.completeness.specs.Kept.{IsKept}
use Rattle.completeness.specs.Planned.{CanJoin, ComesTo, Completes, HasRead}

-- ---- what the premises speak of

-- along what the command did up to this step, these are its Stops, each settled
abbrev pub HasStopped : Config → List Step → ℕ → ℕ → EmergencyOptions → List Deed → Type 0
HasStopped config steps k c o done = AreCalled (span_of (world_at config steps k) c) (heeded (group_of config) o.ignored) kinds.Stop done

-- a declared tablet that nothing keeps from taking over
abbrev pub RescuerIsLeft : Group → EmergencyOptions → Seen → List Deed → Type 0
RescuerIsLeft g o seen done = (n : ℕ) × ((t : Tablet) × ((slice_get g.tablets n ≡ Some t) × (reason_to_rescue g o seen done t ≡ None)))

-- the command sent this call to the tablet
abbrev pub HasSent : List Step → ℕ → Alias → Call → Type 0
HasSent steps c a call = (k : ℕ) × ((message : ℕ) × (slice_get steps k ≡ Some (record { event = events.Send c a call; reply = replies.Message message })))

-- the tablet is to feed another, to be fed, or to be promoted: it is the winner, or takes over
pub data IsConcerned (steps : List Step) (c : ℕ) (a : Alias) : Type 0 where
  Feeds : HasSent steps c a calls.Feed → IsConcerned steps c a
  IsFed : (w : Alias) (u : ℕ) (p : Position) → HasSent steps c w calls.Feed → HasSent steps c a (calls.SetSource w u p) → IsConcerned steps c a
  IsPromoted : (p : Position) → HasSent steps c a (calls.Promote p) → IsConcerned steps c a

-- ---- the premises

-- Step j is the command's End. Two premises are needed besides: that it keeps to its course, as want of memory alone lets it not, and that it makes a
-- Release, without which it is not said until when the lock is to be kept.
pub record NothingHinders (config : Config) (steps : List Step) (c j : ℕ) (o : EmergencyOptions) : Type 0 where
  pub state : CommandState
  pub here : numbered (world_at config steps j).commands c ≡ Some state
  pub emergency : emergency_options state.command ≡ Some o
  pub keeps : KeepsToCourse config steps c
  pub freed : ℕ
  pub frees : slice_get steps freed ≡ Some (record { event = events.Release c; reply = replies.Ok })
  pub before_end : freed < j
  -- its options meet no refusal: its tablets are declared, the new primary may be it, another primary is not expected
  pub options : refusal_of_emergency (group_of config) o ≡ None
  pub seen : (seen : Seen) → HasRead steps c seen → refusal_by_seen o.expected o.new_primary seen ≡ None
  -- its lock is kept
  pub term : ℕ
  pub taken : ℕ
  pub kept : IsKept steps c term taken freed
  -- those that stopped revoke every older primary, and one of them is ahead of all
  pub revokes : (done : List Deed) → HasStopped config steps freed c o done → first_unrevoked (group_of config) (reached_by (helds done)) ≡ None
  pub ahead : (done : List Deed) → HasStopped config steps freed c o done → (w : Held) × (winner (helds done) ≡ Some w)
  -- a given new primary stopped, is in a cell that is allowed, and those that stopped can establish it; or a tablet without a reason is left
  pub given : (seen : Seen) (done : List Deed) (a : Alias) → HasRead steps c seen → HasStopped config steps freed c o done → o.new_primary ≡ Some a
      → refusal_of_given (group_of config) o seen done a ≡ None
  pub left : (seen : Seen) (done : List Deed) → HasRead steps c seen → HasStopped config steps freed c o done → o.new_primary ≡ None
      → RescuerIsLeft (group_of config) o seen done
  -- the one that takes over has no more than the winner had, when it takes its SetSource; where it has all of that, it gets none
  pub joins : (done : List Deed) (w : Held) (k : ℕ) (me : Tablet) → HasStopped config steps freed c o done → winner (helds done) ≡ Some w
      → ComesTo config steps c term k me (calls.SetSource w.alias term w.position) → CanJoin (world_at config steps k) me.alias w.alias term w.position
  -- each later call to these two is settled by an answer
  pub settled : (x : Asked) (why : Why) → IsIn (span_of (world_at config steps freed) c) (deeds.Asked x) → IsConcerned steps c x.alias
      → x.outcome ≡ Some (outcomes.GivenUp why) → ⊥
  -- and neither goes down while the lock is held once a call of the command came to it, of which its Stop is the first
  pub up : (k came keep : ℕ) (s : Step) (me : Tablet) (call : Call) → ComesTo config steps c term came me call → came < k → k < freed
      → slice_get steps k ≡ Some s → IsConcerned steps c me.alias → s.event ≡ events.Crash me.alias keep → ⊥
  -- no WaitFor or WaitTold comes at its moment or later
  pub in_time_for : (k until : ℕ) (me : Tablet) (p : Position) → ComesTo config steps c term k me (calls.WaitFor p until)
      → (world_at config steps k).clock < until
  pub in_time_told : (k until : ℕ) (me : Tablet) → ComesTo config steps c term k me (calls.WaitTold until)
      → (world_at config steps k).clock < until

-- an EmergencyReparentShard that nothing hinders completes: a tablet is promoted, or memory is wanting
abbrev pub EmergencyCompletes : Config → List Step → Type 0
EmergencyCompletes config steps = (c j : ℕ) (o : EmergencyOptions) (said : CommandAnswer)
    → slice_get steps j ≡ Some (record { event = events.End c said; reply = replies.Ok }) → NothingHinders config steps c j o → Completes said

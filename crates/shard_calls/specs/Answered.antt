-- What the answers of a history rest on, read off its steps. After the answers of PlannedReparentShard (Vitess manual).
use Rattle.std.specs.Prelude.{◌≡◌, ℕ, true, false, ◌==◌, List, Option, Some, None, Ok, Err, if◌then◌else◌, slice_get, filter_map, [], ◌∷◌}
use Rattle.shard_names.specs.declared.alias.Alias.{Alias}
use Rattle.shard_calls.specs.declared.ending.CommandAnswer.{CommandAnswer}
use Rattle.shard_calls.specs.declared.event.Event.{Event}
use Rattle.shard_calls.specs.declared.event.Event.TheVariants as events
use Rattle.shard_calls.specs.declared.event.Reply.{Reply}
use Rattle.shard_calls.specs.declared.event.Reply.TheVariants as replies
use Rattle.shard_calls.specs.declared.event.Step.{Step}
use Rattle.shard_calls.specs.declared.state.Act.{Act}
use Rattle.shard_calls.specs.declared.state.Act.TheVariants as acts
use Rattle.shard_calls.specs.declared.state.CommandState.{CommandState}
use Rattle.shard_calls.specs.World.{Config, opening, numbered, open_command, World}
use Rattle.shard_calls.specs.Causes.{has_cause}
use Rattle.shard_calls.specs.Table.{world_after, after}
use Rattle.shard_calls.specs.Promotions.{world_at}
use Rattle.shard_base.specs.Options.{◌>>=◌}
use Rattle.shard_calls.specs.declared.post.Content.{Content}
use Rattle.shard_calls.specs.declared.post.Message.{Message}
use Rattle.shard_calls.specs.declared.post.Settled.{Settled}
use Rattle.shard_calls.specs.declared.post.Content.TheVariants as contents
use Rattle.shard_calls.specs.declared.post.Settled.TheVariants as settleds

-- ---- the acts of a command, as its steps show them

abbrev pub taken_by_reply : Reply → Option Act
taken_by_reply (replies.Term term) = Some (acts.Took (Ok term))
taken_by_reply (replies.Taken term by) = Some (acts.Took (Err (record { term = term; actor = by })))
taken_by_reply _ = None

abbrev pub read_by_reply : Reply → Option Act
read_by_reply (replies.Read seen) = Some (acts.Read (Ok seen))
read_by_reply (replies.Lost term) = Some (acts.Read (Err term))
read_by_reply _ = None

abbrev pub intended_by_reply : Alias → Reply → Option Act
intended_by_reply a replies.Ok = Some (acts.Intended a (Ok tt))
intended_by_reply a (replies.Lost term) = Some (acts.Intended a (Err term))
intended_by_reply a _ = None

abbrev pub recorded_by_reply : Alias → Reply → Option Act
recorded_by_reply a replies.Ok = Some (acts.Recorded a (Ok tt))
recorded_by_reply a (replies.Lost term) = Some (acts.Recorded a (Err term))
recorded_by_reply a _ = None

abbrev pub drained_by_reply : Alias → Reply → Option Act
drained_by_reply a replies.Ok = Some (acts.Drained a (Ok tt))
drained_by_reply a (replies.Lost term) = Some (acts.Drained a (Err term))
drained_by_reply a _ = None

abbrev pub sent_by_reply : Reply → Option Act
sent_by_reply (replies.Message k) = Some (acts.Sent k)
sent_by_reply _ = None

abbrev pub written_by_reply : Alias → Reply → Option Act
written_by_reply a (replies.Wrote g) = Some (acts.Wrote a (Ok g))
written_by_reply a (replies.NotPrimary at) = Some (acts.Wrote a (Err at))
written_by_reply a _ = None

abbrev pub told_by_reply : Reply → Option Act
told_by_reply replies.Told = Some (acts.Told true)
told_by_reply replies.Gone = Some (acts.Told false)
told_by_reply _ = None

abbrev pub if_own : ℕ → ℕ → Option Act → Option Act
if_own d c act = if d == c then act else None

-- what command c did with this event, as its reply shows it
abbrev pub act_of : ℕ → Event → Reply → Option Act
act_of c (events.Begin name command) r = None
act_of c (events.Take d) r = if_own d c (taken_by_reply r)
act_of c (events.Read d) r = if_own d c (read_by_reply r)
act_of c (events.Intend d a) r = if_own d c (intended_by_reply a r)
act_of c (events.Record d a) r = if_own d c (recorded_by_reply a r)
act_of c (events.Drain d a) r = if_own d c (drained_by_reply a r)
act_of c (events.Release d) r = None
act_of c events.Lapse r = None
act_of c (events.Send d a call) r = if_own d c (sent_by_reply r)
act_of c (events.Deliver k) r = None
act_of c (events.GiveUp d k) r = None
act_of c (events.Offer a) r = None
act_of c (events.Write d a) r = if_own d c (written_by_reply a r)
act_of c (events.Tell d) r = if_own d c (told_by_reply r)
act_of c (events.Local a) r = None
act_of c (events.Crash a keep) r = None
act_of c (events.Restart a) r = None
act_of c (events.Cut x y) r = None
act_of c (events.Mend x y) r = None
act_of c (events.Lose k) r = None
act_of c (events.Tick ms) r = None
act_of c (events.End d x) r = None

abbrev pub acts_of : ℕ → List Step → List Act
acts_of c steps = filter_map (λ s. act_of c s.event s.reply) steps

-- ---- what settled a call, as the steps show it

abbrev pub if_call : ℕ → ℕ → Settled → Option Settled
if_call j k x = if j == k then Some x else None

abbrev pub settled_by_answer : ℕ → ℕ → Content → Option Settled
settled_by_answer j k (contents.Asks command term to call) = None
settled_by_answer j k (contents.Answers command asked from says) = if_call asked k (settleds.Answered j)
settled_by_answer j k (contents.Feeds from to term after index e) = None
settled_by_answer j k (contents.Acks from to term index) = None

abbrev pub given_up_by_reply : Reply → Option Settled
given_up_by_reply (replies.GaveUp why) = Some (settleds.GaveUp why)
given_up_by_reply _ = None

-- whether this event settles call k, as its reply shows it: it delivers an answer to it, or gives it up
abbrev pub settles_call : World → ℕ → Event → Reply → Option Settled
settles_call w k (events.Begin name command) r = None
settles_call w k (events.Take c) r = None
settles_call w k (events.Read c) r = None
settles_call w k (events.Intend c a) r = None
settles_call w k (events.Record c a) r = None
settles_call w k (events.Drain c a) r = None
settles_call w k (events.Release c) r = None
settles_call w k events.Lapse r = None
settles_call w k (events.Send c a call) r = None
settles_call w k (events.Deliver j) r = numbered w.post j >>= (λ m. settled_by_answer j k m.content)
settles_call w k (events.GiveUp c j) r = given_up_by_reply r >>= (λ x. if_call j k x)
settles_call w k (events.Offer a) r = None
settles_call w k (events.Write c a) r = None
settles_call w k (events.Tell c) r = None
settles_call w k (events.Local a) r = None
settles_call w k (events.Crash a keep) r = None
settles_call w k (events.Restart a) r = None
settles_call w k (events.Cut x y) r = None
settles_call w k (events.Mend x y) r = None
settles_call w k (events.Lose j) r = None
settles_call w k (events.Tick ms) r = None
settles_call w k (events.End c x) r = None

abbrev pub first_of : Option Settled → Option Settled → Option Settled
first_of None y = y
first_of (Some x) y = Some x

-- the first of these steps that settles call k
abbrev pub first_settling : Config → World → ℕ → List Step → Option Settled
first_settling config w k [] = None
first_settling config w k (s ∷ ss) = first_of (settles_call w k s.event s.reply) (first_settling config (after config w s.event) k ss)

-- ---- what holds of every history

-- what a command keeps of what it did is what its steps show
abbrev pub ActsAreSteps : Config → List Step → Type 0
ActsAreSteps config steps =
    (c : ℕ) (s : CommandState) → numbered (world_after config (opening config) steps).commands c ≡ Some s → s.acts ≡ acts_of c steps

-- what settled a call, as the post keeps it, is what first settled it in the steps
abbrev pub OutcomesAreSteps : Config → List Step → Type 0
OutcomesAreSteps config steps = (k : ℕ) (m : Message) → numbered (world_after config (opening config) steps).post k ≡ Some m
    → m.settled ≡ first_settling config (opening config) k steps

-- each command that ends is open, and its answer has its cause
abbrev pub AnswersHaveCauses : Config → List Step → Type 0
AnswersHaveCauses config steps = (i c : ℕ) (x : CommandAnswer) → slice_get steps i ≡ Some (record { event = events.End c x; reply = replies.Ok })
    → has_cause config (world_at config steps i) (open_command (world_at config steps i) c) x ≡ true

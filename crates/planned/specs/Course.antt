-- What a command may do next, and how it leaves that has run out of memory: by the walk of its course along what it did. Commands are those of
-- vtctldclient and VTOrc (Vitess manual).
use Rattle.std.specs.Prelude.{◌≡◌, ℕ, ◌+◌, ◌<◌, ◌&&◌, List, [], ◌∷◌, Option, Some, None, is_none, is_some, filter_map, if◌then◌else◌}
use Rattle.shard_base.specs.Options.{only_if}
use Rattle.shard_calls.specs.declared.call.Call.{Call}
use Rattle.shard_calls.specs.declared.call.Call.TheVariants as calls
use Rattle.shard_calls.specs.declared.ending.CommandAnswer.TheVariants as answers
use Rattle.shard_calls.specs.declared.refusal.Refusal.TheVariants as refusals
use Rattle.shard_calls.specs.declared.event.Event.{Event}
use Rattle.shard_calls.specs.declared.event.Event.TheVariants as events
use Rattle.shard_calls.specs.declared.span.Deed.{Deed}
use Rattle.shard_calls.specs.declared.span.Deed.TheVariants as deeds
use Rattle.shard_calls.specs.declared.state.CommandState.{CommandState}
use Rattle.shard_calls.specs.Commands.{timeout_of}
use Rattle.shard_calls.specs.Deliveries.{end_of_time}
use Rattle.shard_calls.specs.Messages.{why_given_up}
use Rattle.shard_calls.specs.Spans.{span_in}
use Rattle.shard_calls.specs.Table.{meets}
use Rattle.shard_calls.specs.World.{Config, World, group_of, open_command}
use Rattle.shard_calls.specs.Writes.{tell_of}
use Rattle.courses.specs.declared.demands.Demand.{Demand}
use Rattle.courses.specs.declared.demands.Demand.TheVariants as demands
use Rattle.courses.specs.declared.want.Want.{Want}
use Rattle.courses.specs.declared.want.Want.TheVariants as wants
use Rattle.courses.specs.Course.{demand}
use Rattle.recovery_loop.specs.Course.{course_of}
use Rattle.planned.specs.Leaving.{leaving, refusing}

-- ---- what it does

-- a call that waits until a moment waits so long from now on
abbrev pub timed : ℕ → Call → Call
timed now calls.Status = calls.Status
timed now calls.Stop = calls.Stop
timed now calls.Demote = calls.Demote
timed now (calls.Promote p) = calls.Promote p
timed now (calls.SetSource source t p) = calls.SetSource source t p
timed now calls.Feed = calls.Feed
timed now (calls.WaitFor p timeout) = calls.WaitFor p (now + timeout)
timed now (calls.WaitTold timeout) = calls.WaitTold (now + timeout)

abbrev pub event_of : World → ℕ → Want → Event
event_of w c wants.Take = events.Take c
event_of w c wants.Read = events.Read c
event_of w c (wants.Intend a) = events.Intend c a
event_of w c (wants.Record a) = events.Record c a
event_of w c (wants.Drain a) = events.Drain c a
event_of w c (wants.Ask a call) = events.Send c a (timed w.clock call)
event_of w c (wants.Write a) = events.Write c a
event_of w c wants.Tell = events.Tell c

-- a command that cannot do this leaves, as for want of memory
abbrev pub if_met : Config → World → ℕ → CommandState → Event → Event
if_met config w c s e = if meets config w e then e else refusing c s refusals.OutOfMemory

-- it looks whether what it wrote counts as committed, once that can be said
abbrev pub tells : World → ℕ → List Event
tells w c = if is_some (tell_of w c) then events.Tell c ∷ [] else []

abbrev pub does : Config → World → ℕ → CommandState → Want → List Event
does config w c s wants.Take = if_met config w c s (event_of w c wants.Take) ∷ []
does config w c s wants.Read = if_met config w c s (event_of w c wants.Read) ∷ []
does config w c s (wants.Intend a) = if_met config w c s (event_of w c (wants.Intend a)) ∷ []
does config w c s (wants.Record a) = if_met config w c s (event_of w c (wants.Record a)) ∷ []
does config w c s (wants.Drain a) = if_met config w c s (event_of w c (wants.Drain a)) ∷ []
does config w c s (wants.Ask a call) = if_met config w c s (event_of w c (wants.Ask a call)) ∷ []
does config w c s (wants.Write a) = if_met config w c s (event_of w c (wants.Write a)) ∷ []
does config w c s wants.Tell = tells w c

-- ---- what it waits for

-- a call that is out and may be given up
abbrev pub give_up_of : World → ℕ → Deed → Option Event
give_up_of w c (deeds.Took reply) = None
give_up_of w c (deeds.Read reply) = None
give_up_of w c (deeds.Intended a reply) = None
give_up_of w c (deeds.Recorded a reply) = None
give_up_of w c (deeds.Drained a reply) = None
give_up_of w c (deeds.Asked x) = only_if (is_none x.outcome && is_some (why_given_up w c x.message)) (events.GiveUp c x.message)
give_up_of w c (deeds.Wrote a reply) = None
give_up_of w c (deeds.Told committed) = None

-- each such call, in the order in which they were sent
abbrev pub give_ups : World → ℕ → List Deed → List Event
give_ups w c span = filter_map (give_up_of w c) span

-- ---- what it may do

abbrev pub may_by : Config → World → ℕ → CommandState → Demand → List Event
may_by config w c s (demands.Does want) = does config w c s want
may_by config w c s demands.Awaits = give_ups w c (span_in w.post s)
may_by config w c s (demands.Leaves x) = if_met config w c s (leaving c s x) ∷ []

-- what its course demands
abbrev pub demand_of : Config → World → CommandState → Demand
demand_of config w s = demand (course_of (group_of config) s.command s.opening) (span_in w.post s)

abbrev pub state_next : Config → World → ℕ → Option CommandState → List Event
state_next config w c None = []
state_next config w c (Some s) = may_by config w c s (demand_of config w s)

-- What an open command may do next. It is one event, or, while it waits for calls, the giving up of any that may be given up, in the order in
-- which they were sent.
abbrev pub may : Config → World → ℕ → List Event
may config w c = state_next config w c (open_command w c)

abbrev pub first_of : {A : Type 0} → List A → Option A
first_of [] = None
first_of (x ∷ xs) = Some x

-- what it does next, if it has anything to do
abbrev pub next : Config → World → ℕ → Option Event
next config w c = first_of (may config w c)

-- what an open command waits for now it waits for until a moment before the year 10000
abbrev pub WaitsInTime : World → ℕ → Type 0
WaitsInTime w c = (s : CommandState) → open_command w c ≡ Some s → w.clock + timeout_of s.command < end_of_time

-- ---- want of memory

abbrev pub leaves_by : ℕ → Option CommandState → Event
leaves_by c None = events.End c (answers.Refused refusals.OutOfMemory None)
leaves_by c (Some s) = refusing c s refusals.OutOfMemory

-- how an open command leaves that has run out of memory
abbrev pub leaves : World → ℕ → Event
leaves w c = leaves_by c (open_command w c)

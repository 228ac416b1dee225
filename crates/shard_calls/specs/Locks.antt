-- The lock, the intents, the record and the marks, as a command uses them. After the shard lock of Vitess's topology service (Vitess manual) and the terms of
-- Sougoumarane's "Consensus algorithms at scale".
use Rattle.std.specs.Prelude.{ℕ, Bool, true, false, not, ◌||◌, Option, Some, None, Result, Ok, Err, is_none, if◌then◌else◌}
use Rattle.shard_names.specs.declared.alias.Alias.{Alias}
use Rattle.topo_lock.specs.Topology.{Topology, is_held_in, last_intent, answer_take, after_take, answer_intend, after_intend, answer_record, after_record, answer_drain, after_drain, after_release}
use Rattle.topo_lock.specs.declared.lock.LockTaken.{LockTaken}
use Rattle.topo_lock.specs.declared.lock.TopoFault.{TopoFault}
use Rattle.topo_lock.specs.declared.lock.TopoFault.TheVariants as faults
use Rattle.shard_calls.specs.declared.event.Seen.{Seen}
use Rattle.shard_calls.specs.declared.event.Reply.{Reply}
use Rattle.shard_calls.specs.declared.event.Reply.TheVariants as replies
use Rattle.shard_calls.specs.declared.state.Act.{Act}
use Rattle.shard_calls.specs.declared.state.Act.TheVariants as acts
use Rattle.shard_calls.specs.declared.state.CommandState.{CommandState}
use Rattle.shard_calls.specs.World.{World, on_topo, on_command, with_act, open_command}
use Rattle.shard_calls.specs.Evidence.{is_alias_of}

-- ---- Take: the next term, unless the lock is held

abbrev pub took_nothing : Option CommandState → Bool
took_nothing None = false
took_nothing (Some s) = is_none s.term

abbrev pub taken_reply : Result ℕ LockTaken → Reply
taken_reply (Ok t) = replies.Term t
taken_reply (Err held) = replies.Taken held.term held.actor

abbrev pub term_after : Result ℕ LockTaken → Option ℕ → Option ℕ
term_after (Ok t) term = Some t
term_after (Err held) term = term

abbrev pub with_taken : Result ℕ LockTaken → CommandState → CommandState
with_taken taken s = with_act (acts.Took taken) (record s { term = term_after taken s.term })

abbrev pub takes_by : World → ℕ → Option CommandState → World
takes_by w c None = w
takes_by w c (Some s) = on_command (on_topo w (after_take w.topo (record { command = c; actor = s.actor }))) c (with_taken (answer_take w.topo))

abbrev pub takes : World → ℕ → World
takes w c = takes_by w c (open_command w c)

-- ---- Read, Intend, Record, Drain and Release, each of a command that took the lock

-- of the term in which the command took the lock
abbrev pub by_term : {A : Type 0} → Option ℕ → A → (ℕ → A) → A
by_term None none some = none
by_term (Some t) none some = some t

-- what stands in the topology
abbrev pub seen_of : Topology → Seen
seen_of topo = record { recorded = topo.recorded; intent = last_intent topo; drained = topo.drained }

abbrev pub read_reply : Topology → ℕ → Reply
read_reply topo t = if is_held_in topo t then replies.Read (seen_of topo) else replies.Lost topo.term

abbrev pub read_act : Topology → ℕ → Act
read_act topo t = if is_held_in topo t then acts.Read (Ok (seen_of topo)) else acts.Read (Err topo.term)

abbrev pub reads : World → ℕ → ℕ → World
reads w c t = on_command w c (with_act (read_act w.topo t))

abbrev pub topo_reply : Result (Unit {0}) TopoFault → Reply
topo_reply (Ok u) = replies.Ok
topo_reply (Err (faults.LockLost current)) = replies.Lost current
topo_reply (Err (faults.IntentStands a)) = replies.Stands a

-- what it keeps of the answer to its Intend, where its term intends no other tablet
abbrev pub intended_act : Alias → Result (Unit {0}) TopoFault → Option Act
intended_act a (Ok u) = Some (acts.Intended a (Ok tt))
intended_act a (Err (faults.LockLost current)) = Some (acts.Intended a (Err current))
intended_act a (Err (faults.IntentStands b)) = None

abbrev pub with_act_if : Option Act → CommandState → CommandState
with_act_if None s = s
with_act_if (Some act) s = with_act act s

abbrev pub with_intended : Alias → Result (Unit {0}) TopoFault → CommandState → CommandState
with_intended a answer = with_act_if (intended_act a answer)

abbrev pub intends_in : World → ℕ → Alias → ℕ → World
intends_in w c a t = on_command (on_topo w (after_intend w.topo t a)) c (with_intended a (answer_intend w.topo t a))

-- where the lock is held in the term, the last intent names the tablet
abbrev pub may_record : Topology → Alias → ℕ → Bool
may_record topo a t = not (is_held_in topo t) || is_alias_of (last_intent topo) a

abbrev pub recorded_act : Alias → Result (Unit {0}) TopoFault → Option Act
recorded_act a (Ok u) = Some (acts.Recorded a (Ok tt))
recorded_act a (Err (faults.LockLost current)) = Some (acts.Recorded a (Err current))
recorded_act a (Err (faults.IntentStands b)) = None

abbrev pub with_recorded : Alias → Result (Unit {0}) TopoFault → CommandState → CommandState
with_recorded a answer = with_act_if (recorded_act a answer)

abbrev pub records_in : World → ℕ → Alias → ℕ → World
records_in w c a t = on_command (on_topo w (after_record w.topo t w.clock)) c (with_recorded a (answer_record w.topo t))

abbrev pub drained_act : Alias → Result (Unit {0}) TopoFault → Option Act
drained_act a (Ok u) = Some (acts.Drained a (Ok tt))
drained_act a (Err (faults.LockLost current)) = Some (acts.Drained a (Err current))
drained_act a (Err (faults.IntentStands b)) = None

abbrev pub with_drained : Alias → Result (Unit {0}) TopoFault → CommandState → CommandState
with_drained a answer = with_act_if (drained_act a answer)

abbrev pub drains_in : World → ℕ → Alias → ℕ → World
drains_in w c a t = on_command (on_topo w (after_drain w.topo t a)) c (with_drained a (answer_drain w.topo t))

-- it has made its Release
abbrev pub as_released : CommandState → CommandState
as_released s = record s { released = true }

abbrev pub releases_in : World → ℕ → ℕ → World
releases_in w c t = on_command (on_topo w (after_release w.topo t)) c as_released

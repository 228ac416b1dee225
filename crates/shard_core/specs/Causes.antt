-- Of which answers the cause is told without memory. Commands are those of vtctldclient (Vitess manual).
use Rattle.std.specs.Prelude.{Bool, true, false, List, Option, Some, None}
use Rattle.shard_calls.specs.declared.command.EmergencyOptions.{EmergencyOptions}
use Rattle.shard_calls.specs.declared.command.PlannedOptions.{PlannedOptions}
use Rattle.shard_calls.specs.declared.ending.CommandAnswer.{CommandAnswer}
use Rattle.shard_calls.specs.declared.ending.CommandAnswer.TheVariants as answers
use Rattle.shard_calls.specs.declared.event.Event.{Event}
use Rattle.shard_calls.specs.declared.event.Event.TheVariants as events
use Rattle.shard_calls.specs.declared.group.Group.{Group}
use Rattle.shard_calls.specs.declared.span.Deed.{Deed}
use Rattle.shard_calls.specs.declared.state.CommandState.{CommandState}
use Rattle.shard_calls.specs.Causes.{has_no_other_cause, has_planned_cause, has_emergency_cause}

-- of a command with such options
abbrev pub planned_cause : Group → Option PlannedOptions → CommandState → List Deed → CommandAnswer → Bool
planned_cause g None s span answer = false
planned_cause g (Some o) s span answer = has_planned_cause g o s span answer

abbrev pub emergency_cause : Group → Option EmergencyOptions → CommandState → List Deed → CommandAnswer → Bool
emergency_cause g None s span answer = false
emergency_cause g (Some o) s span answer = has_emergency_cause g o s span answer

-- it says that memory ran out, and that nothing was tried to undo
abbrev pub is_out_of_memory : CommandAnswer → Bool
is_out_of_memory (answers.Refused refusal undone) = has_no_other_cause refusal undone
is_out_of_memory _ = false

-- whether the condition of the event's row holds is told without memory
abbrev pub is_told_at_once : Event → Bool
is_told_at_once (events.Begin name command) = true
is_told_at_once (events.Take c) = true
is_told_at_once (events.Read c) = true
is_told_at_once (events.Intend c a) = true
is_told_at_once (events.Record c a) = true
is_told_at_once (events.Drain c a) = true
is_told_at_once (events.Release c) = true
is_told_at_once events.Lapse = true
is_told_at_once (events.Send c a call) = true
is_told_at_once (events.Deliver k) = true
is_told_at_once (events.GiveUp c k) = true
is_told_at_once (events.Offer r) = true
is_told_at_once (events.Write c a) = true
is_told_at_once (events.Tell c) = true
is_told_at_once (events.Local a) = true
is_told_at_once (events.Crash a keep) = true
is_told_at_once (events.Restart a) = true
is_told_at_once (events.Cut x y) = true
is_told_at_once (events.Mend x y) = true
is_told_at_once (events.Lose k) = true
is_told_at_once (events.Tick ms) = true
is_told_at_once (events.End c x) = is_out_of_memory x

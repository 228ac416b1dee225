-- How a command leaves: with an answer or a refusal, and without the lock. After the shard lock of PlannedReparentShard (Vitess manual).
use Rattle.std.specs.Prelude.{ℕ, Bool, not, ◌&&◌, Option, Some, None, is_some, if◌then◌else◌}
use Rattle.shard_calls.specs.declared.ending.CommandAnswer.{CommandAnswer}
use Rattle.shard_calls.specs.declared.ending.CommandAnswer.TheVariants as answers
use Rattle.shard_calls.specs.declared.refusal.Refusal.{Refusal}
use Rattle.shard_calls.specs.declared.event.Event.{Event}
use Rattle.shard_calls.specs.declared.event.Event.TheVariants as events
use Rattle.shard_calls.specs.declared.state.CommandState.{CommandState}

-- whether it took the lock, and has made no Release
abbrev pub owes_release : CommandState → Bool
owes_release s = is_some s.term && not s.released

-- with this answer: it frees the lock once, if it took it, and ends
abbrev pub leaving : ℕ → CommandState → CommandAnswer → Event
leaving c s x = if owes_release s then events.Release c else events.End c x

-- with this refusal, and no undo of anything
abbrev pub refusing : ℕ → CommandState → Refusal → Event
refusing c s refusal = leaving c s (answers.Refused refusal None)

-- the second, where the first is none
abbrev pub or_else : {A : Type 0} → Option A → Option A → Option A
or_else None other = other
or_else (Some x) other = Some x

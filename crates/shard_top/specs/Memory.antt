-- What want of memory leaves in a history: a command that was refused for it.
use Rattle.std.specs.Prelude.{◌≡◌, Bool, false, List, [], ◌∷◌, ⊤}
use Rattle.shard_calls.specs.Causes.{is_want_of_memory}
use Rattle.shard_calls.specs.declared.ending.CommandAnswer.{CommandAnswer}
use Rattle.shard_calls.specs.declared.ending.CommandAnswer.TheVariants as answers
use Rattle.shard_calls.specs.declared.event.Event.{Event}
use Rattle.shard_calls.specs.declared.event.Event.TheVariants as events
use Rattle.shard_calls.specs.declared.event.Note.{Note}
use Rattle.shard_calls.specs.declared.event.Step.{Step}
use Rattle.shard_script.specs.declared.script.Script.{Script}
use Rattle.shard_top.specs.declared.player.Stop.{Stop}
use Rattle.shard_top.specs.Played.{Made, steps_of, notes_of, IsRunOf}

-- Whether this is a refusal for want of memory. A vtorc that lacks memory is refused as a whole, and has no other line.
abbrev pub is_lacking : CommandAnswer → Bool
is_lacking (answers.Promoted a term left) = false
is_lacking (answers.NothingToDo a) = false
is_lacking (answers.Recorded term) = false
is_lacking (answers.Refused refusal tried) = is_want_of_memory refusal
is_lacking (answers.Vtorc findings rest) = false
is_lacking (answers.Committed g a term) = false
is_lacking (answers.NotPrimary a stand) = false
is_lacking answers.NoPrimaryRecorded = false
is_lacking (answers.Unknown g a term) = false
is_lacking (answers.Shown a stand position) = false
is_lacking (answers.Shard shard recorded) = false
is_lacking (answers.Tablets rows) = false

-- whether a command ends so
abbrev pub ends_lacking : Event → Bool
ends_lacking (events.Begin name command) = false
ends_lacking (events.Take c) = false
ends_lacking (events.Read c) = false
ends_lacking (events.Intend c a) = false
ends_lacking (events.Record c a) = false
ends_lacking (events.Drain c a) = false
ends_lacking (events.Release c) = false
ends_lacking events.Lapse = false
ends_lacking (events.Send c a call) = false
ends_lacking (events.Deliver k) = false
ends_lacking (events.GiveUp c k) = false
ends_lacking (events.Offer a) = false
ends_lacking (events.Write c a) = false
ends_lacking (events.Tell c) = false
ends_lacking (events.Local a) = false
ends_lacking (events.Crash a keep) = false
ends_lacking (events.Restart a) = false
ends_lacking (events.Cut x y) = false
ends_lacking (events.Mend x y) = false
ends_lacking (events.Lose k) = false
ends_lacking (events.Tick ms) = false
ends_lacking (events.End c answer) = is_lacking answer

-- no command was refused for want of memory
abbrev pub NoneLacked : List Step → Type 0
NoneLacked [] = ⊤
NoneLacked (s ∷ steps) = (ends_lacking s.event ≡ false) × NoneLacked steps

-- where no memory is wanted the script plays these steps and notes, to this stop
pub record HasRunPlainly (s : Script) (steps : List Step) (notes : List Note) (stop : Stop) : Type 0 where
  pub made : List Made
  pub run : IsRunOf s [] made stop
  pub of_steps : steps_of made ≡ steps
  pub of_notes : notes_of made ≡ notes

-- What becomes of the lines of a script that are one event by themselves: each is a step of the history, in the script's order, or it was refused
-- and has its note.
use Rattle.std.specs.Prelude.{◌≡◌, ◌⊎◌, List, [], ◌∷◌, ◌++◌, Bool, true, false, ⊤}
use Rattle.shard_calls.specs.declared.event.Event.{Event}
use Rattle.shard_calls.specs.declared.event.Event.TheVariants as events
use Rattle.shard_calls.specs.declared.event.Note.{Note}
use Rattle.shard_calls.specs.declared.event.Step.{Step}
use Rattle.shard_script.specs.declared.script.Action.{Action}
use Rattle.shard_script.specs.declared.script.Action.TheVariants as actions
use Rattle.vtctld_text.specs.Notes.{action_text}
use Rattle.vtctld_text.specs.declared.note.RefusedAction.{RefusedAction}
use Rattle.vtctld_text.specs.declared.note.RefusedAction.TheVariants as refusals

-- whether such an event comes of a line alone: no command makes it, and it does not come of itself, as a message does
abbrev pub comes_of_line : Event → Bool
comes_of_line events.Lapse = true
comes_of_line (events.Local a) = true
comes_of_line (events.Crash a keep) = true
comes_of_line (events.Restart a) = true
comes_of_line (events.Cut x y) = true
comes_of_line (events.Mend x y) = true
comes_of_line (events.Lose k) = true
comes_of_line (events.Tick ms) = true
comes_of_line _ = false

-- none of these steps comes of a line alone
abbrev pub NoneOfLine : List Step → Type 0
NoneOfLine [] = ⊤
NoneOfLine (s ∷ steps) = (comes_of_line s.event ≡ false) × NoneOfLine steps

-- The event stands among these steps, and no other that comes of a line alone stands before it; so it goes on behind it.
pub record IsDone (e : Event) (steps : List Step) (notes : List Note) (GoesOn : List Step → List Note → Type 0) : Type 0 where
  pub before : List Step
  pub step : Step
  pub behind : List Step
  pub split : steps ≡ before ++ step ∷ behind
  pub none_before : NoneOfLine before
  pub event : step.event ≡ e
  pub goes_on : GoesOn behind notes

-- the first of these notes says that this was refused, and so it goes on behind it
pub record IsNoted (refused : RefusedAction) (steps : List Step) (notes : List Note) (GoesOn : List Step → List Note → Type 0) : Type 0 where
  pub note : Note
  pub behind : List Note
  pub split : notes ≡ note ∷ behind
  pub line : note.line ≡ action_text refused
  pub goes_on : GoesOn steps behind

-- What became of one line, and of those behind it. A message that is to come once more may come of itself too, so its event may stand anywhere
-- between those of the lines around it.
abbrev pub LineBecame : Action → List Step → List Note → (List Step → List Note → Type 0) → Type 0
LineBecame (actions.Local a) steps notes GoesOn = IsDone (events.Local a) steps notes GoesOn ⊎ IsNoted (refusals.IsDown a) steps notes GoesOn
LineBecame (actions.Crash a keep) steps notes GoesOn = IsDone (events.Crash a keep) steps notes GoesOn
LineBecame (actions.Restart a) steps notes GoesOn = IsDone (events.Restart a) steps notes GoesOn ⊎ IsNoted (refusals.IsUp a) steps notes GoesOn
LineBecame (actions.Cut x y) steps notes GoesOn = IsDone (events.Cut x y) steps notes GoesOn
LineBecame (actions.Mend x y) steps notes GoesOn = IsDone (events.Mend x y) steps notes GoesOn
LineBecame (actions.Lose k) steps notes GoesOn = IsDone (events.Lose k) steps notes GoesOn ⊎ IsNoted (refusals.NoMessage k) steps notes GoesOn
LineBecame (actions.Repeat k) steps notes GoesOn = IsDone (events.Deliver k) steps notes GoesOn ⊎ IsNoted (refusals.NotDeliverable k) steps notes GoesOn
LineBecame actions.Lapse steps notes GoesOn = IsDone events.Lapse steps notes GoesOn
LineBecame (actions.Tick ms) steps notes GoesOn = IsDone (events.Tick ms) steps notes GoesOn
LineBecame _ steps notes GoesOn = GoesOn steps notes

-- these lines became these steps and notes: no step that comes of a line alone is left, and no note
abbrev pub Became : List Action → List Step → List Note → Type 0
Became [] steps notes = NoneOfLine steps × (notes ≡ [])
Became (x ∷ xs) steps notes = LineBecame x steps notes (Became xs)

-- a front of these lines became these steps and notes
pub record FrontBecame (lines : List Action) (steps : List Step) (notes : List Note) : Type 0 where
  pub done : List Action
  pub rest : List Action
  pub split : lines ≡ done ++ rest
  pub became : Became done steps notes

-- The notes of a script's actions that were refused, and where their lines stand among the answers. The texts are vtshard's own.
use Rattle.std.specs.Prelude.{◌≡◌, ℕ, ◌≤◌, List, [], ◌++◌, Bool, ◌==◌, nat_lt, ◌||◌, not, All, length, filter, codes}
use Rattle.std.specs.Fmt.{decimal}
use Rattle.std.specs.List.{flat_map, enumerate_from}
use Rattle.std.specs.List.Sorted.{IsNonDecreasingBy}
use Rattle.shard_names.specs.Alias.{alias_text}
use Rattle.shard_names.specs.declared.alias.Alias.{Alias}
use Rattle.shard_calls.specs.declared.event.Note.{Note}
use Rattle.shard_calls.specs.declared.event.Step.{Step}
use Rattle.vtctld_text.specs.declared.begun.Begun.{Begun}
use Rattle.vtctld_text.specs.declared.note.RefusedAction.{RefusedAction}
use Rattle.vtctld_text.specs.declared.note.RefusedAction.TheVariants.{NoMessage, NotDeliverable, IsUp, IsDown}
use Rattle.tablet_text.specs.Stands.{line}
use Rattle.vtctld_text.specs.Texts.{commands_of, event_text, text_of, has_refusal}

-- ---- one action that was refused

unfoldable pub no_message_text : ℕ → List ℕ
no_message_text k = codes "lose: no message " ++ decimal k

unfoldable pub not_deliverable_text : ℕ → List ℕ
not_deliverable_text k = codes "repeat: message " ++ decimal k ++ codes " cannot be delivered"

unfoldable pub is_up_text : Alias → List ℕ
is_up_text a = codes "restart: " ++ alias_text a ++ codes " is up"

unfoldable pub is_down_text : Alias → List ℕ
is_down_text a = codes "local: " ++ alias_text a ++ codes " is down"

-- an action is no command: its line carries no actor's name
abbrev pub action_text : RefusedAction → List ℕ
action_text (NoMessage k) = no_message_text k
action_text (NotDeliverable k) = not_deliverable_text k
action_text (IsUp a) = is_up_text a
action_text (IsDown a) = is_down_text a

-- ---- the notes of a history

-- the notes that so many steps stood before, as they are listed
abbrev pub notes_at : List Note → ℕ → List Note
notes_at notes place = filter (λ n. n.place == place) notes

-- a line for each of these notes
abbrev pub note_lines : List Note → List ℕ
note_lines notes = flat_map (λ n. line n.line) notes

-- The text of a step, and the lines of the notes right behind it. The number is that of the steps up to it and with it.
abbrev pub noted_text : List Begun → List Note → ℕ × Step → List ℕ
noted_text commands notes p = event_text commands p.1.event ++ note_lines (notes_at notes p.0)

-- the notes that no step stood before, and then the text of each step with the notes that stand right behind it, where the commands are these
abbrev pub texts_with : List Begun → List Step → List Note → List ℕ
texts_with commands steps notes = note_lines (notes_at notes 0) ++ flat_map (noted_text commands notes) (enumerate_from 1 steps)

-- the text of a history with its notes
abbrev pub text_with : List Step → List Note → List ℕ
text_with steps notes = texts_with (commands_of steps) steps notes

-- the places never fall, and none is above the number of steps
pub record AreInPlace (steps : List Step) (notes : List Note) : Type 0 where
  pub never_fall : IsNonDecreasingBy (λ n. n.place) notes
  pub within : All (λ n. n.place ≤ length steps) notes

-- an action that was refused counts as a refused command
abbrev pub has_refusal_with : List Step → List Note → Bool
has_refusal_with steps notes = has_refusal steps || not (length notes == 0)

-- how many of the notes stand before this place
abbrev pub count_before : List Note → ℕ → ℕ
count_before notes place = length (filter (λ n. nat_lt n.place place) notes)

-- ---- laws

abbrev pub WithoutNotesIsTextOf : Type 0
WithoutNotesIsTextOf = (steps : List Step) → text_with steps [] ≡ text_of steps

-- the notes whose lines are printed, from the first line on, are all of them
abbrev pub EachNoteIsPrintedOnce : Type 0
EachNoteIsPrintedOnce = (steps : List Step) (notes : List Note) → AreInPlace steps notes
    → notes_at notes 0 ++ flat_map (λ p. notes_at notes p.0) (enumerate_from 1 steps) ≡ notes

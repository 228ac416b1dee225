-- How the player stands between two events, and what one turn of it does.
use Rattle.std.specs.Prelude.{◌≡◌, ◌≤◌, ◌<◌, ℕ, ◌+◌, Bool, true, false, List, [], ◌∷◌, ◌++◌, length, Option, Some, None, is_some, ⊤}
use Rattle.shard_base.specs.Options.{◌>>=◌, only_if}
use Rattle.shard_calls.specs.World.{World, opening, numbered, open_command}
use Rattle.shard_core.specs.Kept.{Kept, world_of}
use Rattle.shard_calls.specs.declared.event.Step.{Step}
use Rattle.shard_calls.specs.declared.state.CommandState.{CommandState}
use Rattle.shard_script.specs.declared.script.Action.{Action}
use Rattle.shard_script.specs.declared.script.Script.{Script}
use Rattle.shard_calls.specs.declared.event.Note.{Note}
use Rattle.vtctld_text.specs.Notes.{action_text}
use Rattle.vtctld_text.specs.declared.note.RefusedAction.{RefusedAction}
use Rattle.shard_top.specs.declared.player.Player.{Player}
use Rattle.shard_top.specs.declared.player.Stop.{Stop}
use Rattle.shard_top.specs.declared.playing.Turn.{Turn}
use Rattle.shard_top.specs.declared.playing.Turn.TheVariants as turns
use Rattle.shard_top.specs.Played.{Want, Made, steps_of, notes_of, Plays, player_after, first_player, move, stop_by, IsOfNone, IsRunOf, IsCutOff}

-- ---- wants of memory so far

abbrev pub is_ended : Option CommandState → Bool
is_ended None = false
is_ended (Some s) = s.ended

-- the commands of these wants have ended
abbrev pub HaveEnded : World → List Want → Type 0
HaveEnded w [] = ⊤
HaveEnded w (m ∷ ms) = (is_ended (numbered w.commands m.command) ≡ true) × HaveEnded w ms

-- the last want, of the command that last ran out of memory, if one did
abbrev pub last_of : Option ℕ → ℕ → ℕ → List Want
last_of None at noted = []
last_of (Some c) at noted = record { command = c; steps = at; notes = noted } ∷ []

abbrev pub HasBegun : World → Option ℕ → Type 0
HasBegun w None = ⊤
HasBegun w (Some c) = is_some (numbered w.commands c) ≡ true

-- that command, while it is open
abbrev pub still_open : World → Option ℕ → Option ℕ
still_open w leaving = leaving >>= (λ c. only_if (is_some (open_command w c)) c)

-- ---- how the player stands

-- the shard with one more note, which stands behind its steps
abbrev pub with_note : Kept → RefusedAction → Kept
with_note k refused = record { config = k.config; steps = k.steps; notes = k.notes ++ record { place = length k.steps; line = action_text refused } ∷ [] }

-- The steps and the notes are a front of what these lines play with some wants of memory, and the player stands behind them. All wanting
-- commands have ended, but perhaps the last one, which leaves.
pub record Playing (lines : List Action) (k : Kept) (p : Player) (leaving : Option ℕ) : Type 0 where
  pub made : List Made
  pub past_wants : List Want
  pub at : ℕ
  pub noted : ℕ
  pub played : Plays k.config (past_wants ++ last_of leaving at noted) lines (opening k.config) first_player made
  pub player : player_after k.config (past_wants ++ last_of leaving at noted) lines (opening k.config) first_player made ≡ p
  pub of_steps : steps_of made ≡ k.steps
  pub of_notes : notes_of made ≡ k.notes
  pub counted : p.noted ≡ length k.notes
  pub each_line_once : p.noted ≤ p.line
  pub within : p.line ≤ length lines
  pub ended : HaveEnded (world_of k) past_wants
  pub begun : HasBegun (world_of k) leaving
  pub come : at ≤ length k.steps
  pub come_noted : noted ≤ length k.notes
  pub few : length k.steps ≤ 1000000
  pub few_notes : length k.notes ≤ 1000000

-- the steps and the notes are what these lines play with some wants of memory, to this stop
pub record IsStopped (lines : List Action) (k : Kept) (stop : Stop) : Type 0 where
  pub made : List Made
  pub wants : List Want
  pub played : Plays k.config wants lines (opening k.config) first_player made
  pub of_steps : steps_of made ≡ k.steps
  pub of_notes : notes_of made ≡ k.notes
  pub stopped :
      stop_by (length k.steps) (length k.notes) (move k.config wants lines (world_of k) (player_after k.config wants lines (opening k.config) first_player made)) ≡ Some stop
  pub few : length k.steps ≤ 1000000
  pub few_notes : length k.notes ≤ 1000000

-- The steps and the notes are a front of what these lines play with some wants of memory. Memory ran out in what comes next, which no
-- command makes.
pub record IsCut (lines : List Action) (k : Kept) : Type 0 where
  pub made : List Made
  pub wants : List Want
  pub played : Plays k.config wants lines (opening k.config) first_player made
  pub of_steps : steps_of made ≡ k.steps
  pub of_notes : notes_of made ≡ k.notes
  pub of_none : IsOfNone (move k.config wants lines (world_of k) (player_after k.config wants lines (opening k.config) first_player made))
  pub few : length k.steps ≤ 1000000
  pub few_notes : length k.notes ≤ 1000000

-- one turn: one step or one note more, or none and a stop
abbrev pub IsTurn : List Action → Kept → Kept → Turn → Type 0
IsTurn lines old new (turns.On p leaving) =
    Playing lines new p leaving × (length old.steps + length old.notes < length new.steps + length new.notes) × (new.config ≡ old.config)
IsTurn lines old new (turns.Stops stop) = IsStopped lines new stop × (new.config ≡ old.config)

-- ---- a script that was played

-- with some wants of memory the script plays these steps and notes, to this stop
pub record HasRun (s : Script) (steps : List Step) (notes : List Note) (stop : Stop) : Type 0 where
  pub wants : List Want
  pub made : List Made
  pub run : IsRunOf s wants made stop
  pub of_steps : steps_of made ≡ steps
  pub of_notes : notes_of made ≡ notes

-- with some wants of memory it plays these steps and notes, and memory ran out in what comes after them
pub record WasCutOff (s : Script) (steps : List Step) (notes : List Note) : Type 0 where
  pub wants : List Want
  pub made : List Made
  pub cut : IsCutOff s wants made
  pub of_steps : steps_of made ≡ steps
  pub of_notes : notes_of made ≡ notes

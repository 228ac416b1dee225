-- The one run that a script asks for: its lines in order, each with what it sets going, event by event, and the notes of lines that were
-- refused.
use Rattle.std.specs.Prelude.{◌≡◌, ◌≤◌, ℕ, ◌+◌, ◌-◌, ◌==◌, ◌&&◌, true, nat_le, List, [], ◌∷◌, length, drop, Option, Some, None, is_some, option_map, unwrap_or, if◌then◌else◌, ⊤}
use Rattle.std.specs.List.{find}
use Rattle.shard_base.specs.Options.{◌>>=◌}
use Rattle.shard_calls.specs.World.{Config, World, opening, main_name, numbered, open_of, open_command}
use Rattle.shard_calls.specs.Table.{meets, step_of, after, world_after}
use Rattle.shard_calls.specs.declared.command.Command.{Command}
use Rattle.shard_calls.specs.declared.event.Event.{Event}
use Rattle.shard_calls.specs.declared.event.Event.TheVariants as events
use Rattle.shard_calls.specs.declared.event.Step.{Step}
use Rattle.shard_calls.specs.declared.state.CommandState.{CommandState}
use Rattle.shard_script.specs.declared.script.Action.{Action}
use Rattle.shard_script.specs.declared.script.Action.TheVariants as actions
use Rattle.shard_script.specs.declared.script.Script.{Script}
use Rattle.arrivals.specs.Arrivals.{next_due, next_offered}
use Rattle.planned.specs.Course.{next, leaves}
use Rattle.planned.specs.Follows.{maker_of}
use Rattle.planned.specs.Leaving.{or_else}
use Rattle.shard_calls.specs.declared.event.Note.{Note}
use Rattle.vtctld_text.specs.Notes.{action_text}
use Rattle.vtctld_text.specs.declared.note.RefusedAction.{RefusedAction}
use Rattle.vtctld_text.specs.declared.note.RefusedAction.TheVariants as refusals
use Rattle.shard_top.specs.declared.player.Task.{Task}
use Rattle.shard_top.specs.declared.player.Task.TheVariants as tasks
use Rattle.shard_top.specs.declared.player.Player.{Player}
use Rattle.shard_top.specs.declared.player.Go.{Go}
use Rattle.shard_top.specs.declared.player.Go.TheVariants as goes
use Rattle.shard_top.specs.declared.player.Start.{Start}
use Rattle.shard_top.specs.declared.player.Start.TheVariants as starts_as
use Rattle.shard_top.specs.declared.player.Move.{Move}
use Rattle.shard_top.specs.declared.player.Move.TheVariants as moves
use Rattle.shard_top.specs.declared.player.Stop.{Stop}
use Rattle.shard_top.specs.declared.player.Stop.TheVariants as stops

-- ---- a pump

-- the least message that may come to its receiver
abbrev pub delivery : World → Option Event
delivery w = option_map (λ k. events.Deliver k) (next_due w)

-- an entry for the first tablet that may be offered one
abbrev pub offer : Config → World → Option Event
offer config w = option_map (λ a. events.Offer a) (next_offered config w)

-- what comes of itself: a message comes, or else an entry is offered
abbrev pub arrival : Config → World → Option Event
arrival config w = or_else (delivery w) (offer config w)

-- what a pump of a command makes: what the command does next, or else what comes of itself
abbrev pub pump : Config → World → ℕ → Option Event
pump config w c = or_else (next config w c) (arrival config w)

-- ---- what a task does next

-- an event that a line asks for, with the task that it sets; where its row's condition does not hold it is left out
abbrev pub asked : Config → World → Event → Task → Go
asked config w e task = if meets config w e then goes.Makes e task else goes.Finished

-- `main` gives the command so many times
abbrev pub gives : Config → World → Command → ℕ → Go
gives config w command count =
    if count == 0 then goes.Finished else asked config w (events.Begin main_name command) (tasks.Gives (length w.commands + 1) (count - 1))

-- by at most so many pumps
abbrev pub turned : ℕ → ℕ → Option Event → Go
turned c left None = goes.Finished
turned c left (Some e) = if left == 0 then goes.Finished else goes.Makes e (tasks.Turns c (left - 1))

-- until it has ended, with this task meanwhile
abbrev pub finished : CommandState → Task → Option Event → Go
finished s task None = goes.Blocked s.actor
finished s task (Some e) = goes.Makes e task

abbrev pub turns_on : Config → World → ℕ → ℕ → Option CommandState → Go
turns_on config w c left None = goes.Finished
turns_on config w c left (Some s) = turned c left (pump config w c)

abbrev pub finishes_on : Config → World → ℕ → Option CommandState → Go
finishes_on config w c None = goes.Finished
finishes_on config w c (Some s) = finished s (tasks.Finishes c) (pump config w c)

-- the command that a line lets `main` give
abbrev pub command_of : Action → Option Command
command_of (actions.Play command count) = Some command
command_of (actions.Start name command) = None
command_of (actions.Turn name pumps) = None
command_of (actions.Finish name) = None
command_of actions.Settle = None
command_of (actions.Local a) = None
command_of (actions.Crash a keep) = None
command_of (actions.Restart a) = None
command_of (actions.Cut x y) = None
command_of (actions.Mend x y) = None
command_of (actions.Lose k) = None
command_of (actions.Repeat k) = None
command_of actions.Lapse = None
command_of (actions.Tick ms) = None

-- the command of the line before a player's place: places count from 0, and so the line before is the one of this number, from 1
abbrev pub played_at : List Action → ℕ → Option Command
played_at lines line = numbered lines line >>= command_of

-- it is given once more, so many times
abbrev pub gives_by : Config → World → Option Command → ℕ → Go
gives_by config w None again = goes.Finished
gives_by config w (Some command) again = gives config w command again

abbrev pub gives_on : Config → World → ℕ → Option Command → ℕ → Option CommandState → Go
gives_on config w c given again None = gives_by config w given again
gives_on config w c given again (Some s) = finished s (tasks.Gives c again) (pump config w c)

-- until nothing comes of itself any more
abbrev pub settles : Option Event → Go
settles None = goes.Finished
settles (Some e) = goes.Makes e tasks.Settles

-- how the task goes on of a player at this place of the lines
abbrev pub go_on : Config → World → List Action → ℕ → Task → Go
go_on config w lines line tasks.Free = goes.Finished
go_on config w lines line (tasks.Turns c left) = turns_on config w c left (open_command w c)
go_on config w lines line (tasks.Finishes c) = finishes_on config w c (open_command w c)
go_on config w lines line (tasks.Gives c again) = gives_on config w c (played_at lines line) again (open_command w c)
go_on config w lines line tasks.Settles = settles (arrival config w)

-- ---- what a line does first

abbrev pub turn_of : Config → World → ℕ → Option ℕ → Go
turn_of config w pumps None = goes.Finished
turn_of config w pumps (Some c) = turns_on config w c pumps (open_command w c)

abbrev pub finish_of : Config → World → Option ℕ → Go
finish_of config w None = goes.Finished
finish_of config w (Some c) = finishes_on config w c (open_command w c)

-- an event that a line asks for; where its row's condition does not hold the line is refused, and that is noted
abbrev pub unless_refused : Config → World → Event → RefusedAction → Start
unless_refused config w e refused = if meets config w e then starts_as.Goes (goes.Makes e tasks.Free) else starts_as.Notes refused

abbrev pub starts : Config → World → Action → Start
starts config w (actions.Play command count) = starts_as.Goes (gives config w command count)
starts config w (actions.Start name command) = starts_as.Goes (asked config w (events.Begin name command) tasks.Free)
starts config w (actions.Turn name pumps) = starts_as.Goes (turn_of config w pumps (open_of w.actors name))
starts config w (actions.Finish name) = starts_as.Goes (finish_of config w (open_of w.actors name))
starts config w actions.Settle = starts_as.Goes (settles (arrival config w))
starts config w (actions.Local a) = unless_refused config w (events.Local a) (refusals.IsDown a)
starts config w (actions.Crash a keep) = starts_as.Goes (asked config w (events.Crash a keep) tasks.Free)
starts config w (actions.Restart a) = unless_refused config w (events.Restart a) (refusals.IsUp a)
starts config w (actions.Cut x y) = starts_as.Goes (asked config w (events.Cut x y) tasks.Free)
starts config w (actions.Mend x y) = starts_as.Goes (asked config w (events.Mend x y) tasks.Free)
starts config w (actions.Lose k) = unless_refused config w (events.Lose k) (refusals.NoMessage k)
starts config w (actions.Repeat k) = unless_refused config w (events.Deliver k) (refusals.NotDeliverable k)
starts config w actions.Lapse = starts_as.Goes (asked config w events.Lapse tasks.Free)
starts config w (actions.Tick ms) = starts_as.Goes (asked config w (events.Tick ms) tasks.Free)

-- ---- moves

-- the line at this place, behind so many notes, does this; or else there is the rest
abbrev pub first_of : ℕ → ℕ → Start → Move → Move
first_of noted at (starts_as.Goes (goes.Makes e task)) rest = moves.Makes e (record { task = task; line = at + 1; noted = noted })
first_of noted at (starts_as.Goes (goes.Blocked name)) rest = moves.Blocked name
first_of noted at (starts_as.Goes goes.Finished) rest = rest
first_of noted at (starts_as.Notes refused) rest = moves.Notes refused (record { task = tasks.Free; line = at + 1; noted = noted + 1 })

-- the first of these lines that does anything: the first of them has this place
abbrev pub start_at : Config → World → ℕ → ℕ → List Action → Move
start_at config w noted at [] = moves.Over
start_at config w noted at (line ∷ lines) = first_of noted at (starts config w line) (start_at config w noted (at + 1) lines)

-- the task goes on, or else the lines from the player's place
abbrev pub move_on : Config → World → List Action → Player → Go → Move
move_on config w lines p (goes.Makes e task) = moves.Makes e (record { task = task; line = p.line; noted = p.noted })
move_on config w lines p (goes.Blocked name) = moves.Blocked name
move_on config w lines p goes.Finished = start_at config w p.noted p.line (drop p.line lines)

-- what a player does next with memory
abbrev pub plain_move : Config → World → List Action → Player → Move
plain_move config w lines p = move_on config w lines p (go_on config w lines p.line p.task)

-- ---- what no command makes

-- whether no command makes what this makes: a line's own event, or a message that comes
abbrev pub IsGoOfNone : Go → Type 0
IsGoOfNone (goes.Makes e task) = maker_of e ≡ None
IsGoOfNone (goes.Blocked name) = ⊥
IsGoOfNone goes.Finished = ⊥

abbrev pub IsStartOfNone : Start → Type 0
IsStartOfNone (starts_as.Goes go) = IsGoOfNone go
IsStartOfNone (starts_as.Notes refused) = ⊤

-- or a note
abbrev pub IsOfNone : Move → Type 0
IsOfNone (moves.Makes e q) = maker_of e ≡ None
IsOfNone (moves.Notes refused q) = ⊤
IsOfNone (moves.Blocked name) = ⊥
IsOfNone moves.Over = ⊥

-- Memory ran out for this command, which is open; or for nobody, where no command makes what comes next.
abbrev pub Lacks : World → Type 0 → Option ℕ → Type 0
Lacks w OfNone None = OfNone
Lacks w OfNone (Some c) = is_some (open_command w c) ≡ true

-- ---- want of memory

-- this command runs out of memory once so many steps are past and so many notes are made
pub record Want : Type 0 where
  pub command : ℕ
  pub steps : ℕ
  pub notes : ℕ

-- the first of these wants that has come, of a command that is open
abbrev pub wanted : World → ℕ → List Want → Option Want
wanted w noted wants = find (λ m. nat_le m.steps (length w.past) && nat_le m.notes noted && is_some (open_command w m.command)) wants

-- the command leaves, and the script goes on as after its end
abbrev pub wanting : Config → World → List Action → Player → Option Want → Move
wanting config w lines p None = plain_move config w lines p
wanting config w lines p (Some m) = moves.Makes (leaves w m.command) p

-- what a player does next, with these wants of memory
abbrev pub move : Config → List Want → List Action → World → Player → Move
move config wants lines w p = wanting config w lines p (wanted w p.noted wants)

-- ---- what is made

-- a step, or the note of a line that was refused
pub data Made : Type 0 where
  Stepped : (step : Step) → Made
  Noted : (refused : RefusedAction) → Made

abbrev pub steps_of : List Made → List Step
steps_of [] = []
steps_of (Stepped s ∷ made) = s ∷ steps_of made
steps_of (Noted refused ∷ made) = steps_of made

-- the notes, each with the number of steps before it, where so many stood before these
abbrev pub notes_from : ℕ → List Made → List Note
notes_from place [] = []
notes_from place (Stepped s ∷ made) = notes_from (place + 1) made
notes_from place (Noted refused ∷ made) = record { place = place; line = action_text refused } ∷ notes_from place made

abbrev pub notes_of : List Made → List Note
notes_of made = notes_from 0 made

-- ---- the played run

-- this is what the move makes, and so it goes on: in this world, with this player
abbrev pub IsMade : Config → World → Move → Made → (World → Player → Type 0) → Type 0
IsMade config w (moves.Makes e q) (Stepped s) Later = (s ≡ step_of config w e) × Later (after config w e) q
IsMade config w (moves.Makes e q) (Noted refused) Later = ⊥
IsMade config w (moves.Notes refused q) (Stepped s) Later = ⊥
IsMade config w (moves.Notes refused q) (Noted x) Later = (x ≡ refused) × Later w q
IsMade config w (moves.Blocked name) m Later = ⊥
IsMade config w moves.Over m Later = ⊥

-- this is what the player makes, one after the other
abbrev pub Plays : Config → List Want → List Action → World → Player → List Made → Type 0
Plays config wants lines w p [] = ⊤
Plays config wants lines w p (m ∷ made) = IsMade config w (move config wants lines w p) m (λ v q. Plays config wants lines v q made)

-- the world after the move, and the player
abbrev pub world_by : Config → World → Move → World
world_by config w (moves.Makes e q) = after config w e
world_by config w (moves.Notes refused q) = w
world_by config w (moves.Blocked name) = w
world_by config w moves.Over = w

abbrev pub player_by : Player → Move → Player
player_by p (moves.Makes e q) = q
player_by p (moves.Notes refused q) = q
player_by p (moves.Blocked name) = p
player_by p moves.Over = p

-- the player after so much is made
abbrev pub player_after : Config → List Want → List Action → World → Player → List Made → Player
player_after config wants lines w p [] = p
player_after config wants lines w p (m ∷ made) =
    player_after config wants lines (world_by config w (move config wants lines w p)) (player_by p (move config wants lines w p)) made

-- why no more is made after so many steps and notes, if so: all is done, a command is blocked, or the history has all the steps or all the
-- notes that it may have, and one more is to come
abbrev pub stop_by : ℕ → ℕ → Move → Option Stop
stop_by steps noted moves.Over = Some stops.Over
stop_by steps noted (moves.Blocked name) = Some (stops.Blocked name)
stop_by steps noted (moves.Notes refused q) = if noted == 1000000 then Some stops.Full else None
stop_by steps noted (moves.Makes e q) = if steps == 1000000 then Some stops.Full else None

-- ---- a script

-- 2024-01-01T00:00:00Z, in milliseconds since the start of 1970
unfoldable pub first_moment : ℕ
first_moment = 1704067200000

-- the moment at which the clock begins: the one that is declared, if one is
abbrev pub begins_at : Script → ℕ
begins_at s = unwrap_or s.clock first_moment

-- the configuration that a script declares
abbrev pub config_of : Script → Config
config_of s = record { tablets = s.tablets; policy = s.policy; moment = begins_at s }

-- before the first line
abbrev pub first_player : Player
first_player = record { task = tasks.Free; line = 0; noted = 0 }

-- this is a front of what the script plays
abbrev pub IsPlayed : Script → List Want → List Made → Type 0
IsPlayed s wants made = Plays (config_of s) wants s.actions (opening (config_of s)) first_player made

-- the world after this
abbrev pub world_played : Script → List Made → World
world_played s made = world_after (config_of s) (opening (config_of s)) (steps_of made)

-- the move that comes after this
abbrev pub move_after : Script → List Want → List Made → Move
move_after s wants made =
    move (config_of s) wants s.actions (world_played s made) (player_after (config_of s) wants s.actions (opening (config_of s)) first_player made)

-- the run that the script plays, to this stop: it has no more steps and notes than a history may have
pub record IsRunOf (s : Script) (wants : List Want) (made : List Made) (stop : Stop) : Type 0 where
  pub played : IsPlayed s wants made
  pub stopped : stop_by (length (steps_of made)) (length (notes_of made)) (move_after s wants made) ≡ Some stop
  pub few : length (steps_of made) ≤ 1000000
  pub few_notes : length (notes_of made) ≤ 1000000

-- Memory ran out in what comes after this, which no command makes: so nobody can be refused for it.
pub record IsCutOff (s : Script) (wants : List Want) (made : List Made) : Type 0 where
  pub played : IsPlayed s wants made
  pub of_none : IsOfNone (move_after s wants made)
  pub few : length (steps_of made) ≤ 1000000
  pub few_notes : length (notes_of made) ≤ 1000000

-- Begin and End: how an actor comes to a command, and leaves it. Commands are those of vtctldclient (Vitess manual).
use Rattle.std.specs.Prelude.{ℕ, ◌+◌, Bool, true, false, List, [], ◌∷◌, ◌++◌, Option, Some, None, nat_le, length, slice_get}
use Rattle.shard_base.specs.Options.{◌>>=◌}
use Rattle.shard_names.specs.Tablets.{is_declared}
use Rattle.shard_calls.specs.declared.command.Command.{Command}
use Rattle.shard_calls.specs.declared.command.Command.TheVariants as commands
use Rattle.shard_calls.specs.declared.state.ActorState.{ActorState}
use Rattle.shard_calls.specs.declared.state.CommandState.{CommandState}
use Rattle.shard_calls.specs.declared.state.Shown.{Shown}
use Rattle.gtid_sets.specs.Logs.{position_of}
use Rattle.shard_calls.specs.Tablets.{TabletState}
use Rattle.shard_calls.specs.Locks.{seen_of}
use Rattle.shard_calls.specs.Commands.{timeout_of}
use Rattle.shard_calls.specs.World.{Config, World, on_command, idle_actor, changed, place_of, open_command}

-- ---- Begin: by an actor who has no open command, at declared tablets

abbrev pub writes_by : Command → ℕ
writes_by (commands.Write to) = 1
writes_by _ = 0

-- it waits a day for an answer at most
abbrev pub is_in_time : Command → Bool
is_in_time command = nat_le (timeout_of command) 86400000

-- a tablet that a command writes at or shows is declared
abbrev pub names_declared : Config → Command → Bool
names_declared config (commands.Write (Some a)) = is_declared config.tablets a
names_declared config (commands.Show a) = is_declared config.tablets a
names_declared config _ = true

abbrev pub client_at : List ActorState → Option ℕ → ℕ
client_at actors None = length actors
client_at actors (Some k) = k

-- the client of an actor: its place, or the next one
abbrev pub client_of : List ActorState → List ℕ → ℕ
client_of actors name = client_at actors (place_of actors name)

abbrev pub joined_at : List ActorState → List ℕ → Option ℕ → List ActorState
joined_at actors name None = actors ++ idle_actor name ∷ []
joined_at actors name (Some k) = actors

-- the actors, with this one among them
abbrev pub with_actor : List ActorState → List ℕ → List ActorState
with_actor actors name = joined_at actors name (place_of actors name)

-- the actor has the command of this number open
abbrev pub opens : ℕ → Command → ActorState → ActorState
opens n command a = record a { pending = Some n; writes = a.writes + writes_by command }

abbrev pub writes_at_place : Option ActorState → Command → ℕ
writes_at_place None command = writes_by command
writes_at_place (Some a) command = a.writes + writes_by command

-- how many writes the actor has begun with this command
abbrev pub number_of : List ActorState → List ℕ → Command → ℕ
number_of actors name command = writes_at_place (place_of actors name >>= (λ k. slice_get actors k)) command

-- how a tablet stands, and the position of its log
abbrev pub shown_of : TabletState → Shown
shown_of s = record { stand = s.stand; position = position_of s.log }

abbrev pub shown_by : World → Command → Option Shown
shown_by w (commands.Show a) = Some (shown_of (w.tablets a))
shown_by w _ = None

abbrev pub begun_state : World → List ℕ → Command → CommandState
begun_state w name command = record {
  command = command;
  actor = name;
  client = client_of w.actors name;
  number = number_of w.actors name command;
  opening = record { seen = seen_of w.topo; shown = shown_by w command };
  term = None;
  released = false;
  ended = false;
  wrote = None;
  acts = [];
}

abbrev pub begins : World → List ℕ → Command → World
begins w name command = record w {
  actors = changed (with_actor w.actors name) (client_of w.actors name) (opens (length w.commands + 1) command);
  commands = w.commands ++ begun_state w name command ∷ [];
}

-- ---- End

-- the actor has no open command any more
abbrev pub closes : ActorState → ActorState
closes a = record a { pending = None }

abbrev pub ends_by : World → ℕ → Option CommandState → World
ends_by w c None = w
ends_by w c (Some s) = record (on_command w c (λ x. record x { ended = true })) { actors = changed w.actors s.client closes }

abbrev pub ends : World → ℕ → World
ends w c = ends_by w c (open_command w c)

-- What the actors of a script are to do: the commands of each, in order; and the commands that it begins in a history. Commands are those of
-- vtctldclient (Vitess manual).
use Rattle.std.specs.Prelude.{ℕ, zero, suc, List, [], ◌∷◌, ◌++◌, if◌then◌else◌}
use Rattle.std.specs.Str.{bytes_eq}
use Rattle.shard_calls.specs.World.{main_name}
use Rattle.shard_calls.specs.declared.command.Command.{Command}
use Rattle.shard_calls.specs.declared.event.Event.{Event}
use Rattle.shard_calls.specs.declared.event.Event.TheVariants as events
use Rattle.shard_calls.specs.declared.event.Step.{Step}
use Rattle.shard_script.specs.declared.script.Action.{Action}
use Rattle.shard_script.specs.declared.script.Action.TheVariants as actions
use Rattle.shard_script.specs.declared.script.Script.{Script}

-- the command so many times
abbrev pub times : ℕ → Command → List Command
times zero command = []
times (suc n) command = command ∷ times n command

-- these commands, where the actor is the one who gives them
abbrev pub given_by : List ℕ → List Command → List ℕ → List Command
given_by name commands actor = if bytes_eq name actor then commands else []

-- the commands that an action gives an actor: `main` one so many times, a started actor its one command
abbrev pub asks_for : Action → List ℕ → List Command
asks_for (actions.Play command n) actor = given_by main_name (times n command) actor
asks_for (actions.Start name command) actor = given_by name (command ∷ []) actor
asks_for (actions.Turn name pumps) actor = []
asks_for (actions.Finish name) actor = []
asks_for actions.Settle actor = []
asks_for (actions.Local a) actor = []
asks_for (actions.Crash a keep) actor = []
asks_for (actions.Restart a) actor = []
asks_for (actions.Cut x y) actor = []
asks_for (actions.Mend x y) actor = []
asks_for (actions.Lose message) actor = []
asks_for (actions.Repeat message) actor = []
asks_for actions.Lapse actor = []
asks_for (actions.Tick ms) actor = []

-- the commands that actions give an actor, in order
abbrev pub asked_of : List Action → List ℕ → List Command
asked_of [] actor = []
asked_of (x ∷ xs) actor = asks_for x actor ++ asked_of xs actor

-- the commands of an actor, in order
abbrev pub program : Script → List ℕ → List Command
program s actor = asked_of s.actions actor

-- the command that an actor begins by an event, if it begins one
abbrev pub begun_by : Event → List ℕ → List Command
begun_by (events.Begin name command) actor = given_by name (command ∷ []) actor
begun_by (events.Take c) actor = []
begun_by (events.Read c) actor = []
begun_by (events.Intend c a) actor = []
begun_by (events.Record c a) actor = []
begun_by (events.Drain c a) actor = []
begun_by (events.Release c) actor = []
begun_by events.Lapse actor = []
begun_by (events.Send c a call) actor = []
begun_by (events.Deliver k) actor = []
begun_by (events.GiveUp c k) actor = []
begun_by (events.Offer a) actor = []
begun_by (events.Write c a) actor = []
begun_by (events.Tell c) actor = []
begun_by (events.Local a) actor = []
begun_by (events.Crash a keep) actor = []
begun_by (events.Restart a) actor = []
begun_by (events.Cut x y) actor = []
begun_by (events.Mend x y) actor = []
begun_by (events.Lose k) actor = []
begun_by (events.Tick ms) actor = []
begun_by (events.End c answer) actor = []

-- the commands that an actor begins in a history, in order
abbrev pub own : List Step → List ℕ → List Command
own [] actor = []
own (s ∷ steps) actor = begun_by s.event actor ++ own steps actor

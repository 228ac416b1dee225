-- The tablets that lines name, and the ends of links.
use Rattle.std.specs.Prelude.{◌≡◌, List, [], ◌∷◌, ◌++◌, Bool, true, false, Some, None, All}
use Rattle.std.specs.List.{Any}
use Rattle.shard_names.specs.declared.alias.Alias.{Alias}
use Rattle.shard_names.specs.declared.tablet.Tablet.{Tablet as TabletData}
use Rattle.shard_calls.specs.declared.command.Command.{Command}
use Rattle.shard_calls.specs.declared.command.Command.TheVariants.{Planned, Emergency, External, Vtorc, Write, Show, GetShard, GetTablets}
use Rattle.shard_calls.specs.declared.event.Side.{Side}
use Rattle.shard_calls.specs.declared.event.Side.TheVariants as sides
use Rattle.shard_script.specs.declared.script.Action.{Action}
use Rattle.shard_script.specs.declared.script.Action.TheVariants as actions

-- where a command writes, or what it shows: a reparent's tablets need not be declared
abbrev pub aliases_in : Command → List Alias
aliases_in (Planned shard given avoid expected timeout allow_cross_cell) = []
aliases_in (Emergency shard given ignored expected timeout prevent_cross_cell) = []
aliases_in (External a) = []
aliases_in Vtorc = []
aliases_in (Write None) = []
aliases_in (Write (Some a)) = a ∷ []
aliases_in (Show a) = a ∷ []
aliases_in (GetShard shard) = []
aliases_in (GetTablets shard) = []

-- the tablet at an end of a link
abbrev pub aliases_at : Side → List Alias
aliases_at sides.Control = []
aliases_at (sides.Tablet a) = a ∷ []

-- the tablets of an action that have to be declared
abbrev pub aliases_of : Action → List Alias
aliases_of (actions.Play command n) = aliases_in command
aliases_of (actions.Start name command) = aliases_in command
aliases_of (actions.Turn name pumps) = []
aliases_of (actions.Finish name) = []
aliases_of actions.Settle = []
aliases_of (actions.Local a) = a ∷ []
aliases_of (actions.Crash a keep) = a ∷ []
aliases_of (actions.Restart a) = a ∷ []
aliases_of (actions.Cut x y) = aliases_at x ++ aliases_at y
aliases_of (actions.Mend x y) = aliases_at x ++ aliases_at y
aliases_of (actions.Lose message) = []
aliases_of (actions.Repeat message) = []
aliases_of actions.Lapse = []
aliases_of (actions.Tick ms) = []

-- some tablet has this alias
abbrev pub IsDeclared : List TabletData → Alias → Type 0
IsDeclared tablets a = Any (λ t. t.alias ≡ a) tablets

-- an action names declared tablets alone, but for a reparent's
abbrev pub NamesDeclared : List TabletData → Action → Type 0
NamesDeclared tablets x = All (IsDeclared tablets) (aliases_of x)

-- a link's ends: two tablets, or a tablet and the commands' end
abbrev pub are_ends : Side → Side → Bool
are_ends sides.Control sides.Control = false
are_ends sides.Control (sides.Tablet b) = true
are_ends (sides.Tablet a) sides.Control = true
are_ends (sides.Tablet a) (sides.Tablet b) = true

-- The commands of a line: those of vtctldclient, a look by VTOrc (Vitess manual), and a client's writes.
use Rattle.std.specs.Prelude.{ℕ, List, [], ◌∷◌, ◌==◌, Bool, ◌&&◌, not, Option, Some, None, is_none, if◌then◌else◌, length, slice_index_or, codes}
use Rattle.std.specs.Result.{result_ok}
use Rattle.std.specs.Str.{bytes_eq}
use Rattle.shard_base.specs.Options.{◌>>=◌}
use Rattle.shard_names.specs.Alias.{alias_reading}
use Rattle.shard_names.specs.ShardName.{shard_name_reading}
use Rattle.shard_calls.specs.declared.command.Command.{Command}
use Rattle.shard_calls.specs.declared.command.Command.TheVariants as commands
use Rattle.script_commands.specs.declared.command.Given.{Given}
use Rattle.script_commands.specs.declared.options.Options.{Options}
use Rattle.script_commands.specs.Numbers.{number_within}
use Rattle.script_commands.specs.Options.{options_of}

-- a command that is given once
abbrev pub once : Command → Given
once command = record { command = command; count = 1 }

-- ---- reparents

-- no option waits for its value, and none is of an emergency reparent alone
abbrev pub fit_planned : Options → Bool
fit_planned o = is_none o.pending && (length o.ignored == 0) && not o.prevent_cross_cell

-- no option waits for its value, and none is of a planned reparent alone
abbrev pub fit_emergency : Options → Bool
fit_emergency o = is_none o.pending && is_none o.avoid && not o.allow_cross_cell

-- the planned reparent with these options
unfoldable pub planned_of : Options → Option Command
planned_of o =
    if fit_planned o then o.shard >>= (λ n. Some (commands.Planned n o.new_primary o.avoid o.expected o.timeout o.allow_cross_cell)) else None

-- the emergency reparent with these options
unfoldable pub emergency_of : Options → Option Command
emergency_of o =
    if fit_emergency o then o.shard >>= (λ n. Some (commands.Emergency n o.new_primary o.ignored o.expected o.timeout o.prevent_cross_cell)) else None

-- `PlannedReparentShard`, and these words behind it
unfoldable pub planned_command : List (List ℕ) → Option Given
planned_command words = do
  o ← options_of words
  c ← planned_of o
  Some (once c)

-- `EmergencyReparentShard`, and these words behind it
unfoldable pub emergency_command : List (List ℕ) → Option Given
emergency_command words = do
  o ← options_of words
  c ← emergency_of o
  Some (once c)

-- ---- the others

-- `write N`
unfoldable pub write_command : List ℕ → Option Given
write_command count = number_within 1 10000 count >>= (λ n. Some (record { command = commands.Write None; count = n }))

-- the words of `write N to ALIAS` behind the first
unfoldable pub write_to_command : List ℕ → List ℕ → List ℕ → Option Given
write_to_command count to alias = if bytes_eq to (codes "to")
    then (do
      n ← number_within 1 10000 count
      a ← result_ok (alias_reading alias)
      Some (record { command = commands.Write (Some a); count = n })) else None

-- `show ALIAS`
unfoldable pub show_command : List ℕ → Option Given
show_command alias = result_ok (alias_reading alias) >>= (λ a. Some (once (commands.Show a)))

-- `TabletExternallyReparented ALIAS`
unfoldable pub external_command : List ℕ → Option Given
external_command alias = result_ok (alias_reading alias) >>= (λ a. Some (once (commands.External a)))

-- `GetShard K/S`
unfoldable pub get_shard_command : List ℕ → Option Given
get_shard_command name = shard_name_reading name >>= (λ n. Some (once (commands.GetShard n)))

-- `GetTablets K/S`
unfoldable pub get_tablets_command : List ℕ → Option Given
get_tablets_command name = shard_name_reading name >>= (λ n. Some (once (commands.GetTablets n)))

abbrev pub word : List (List ℕ) → ℕ → List ℕ
word words k = slice_index_or words k []

-- a command that is one word
abbrev pub command_of_one : List ℕ → Option Given
command_of_one head = if bytes_eq head (codes "vtorc") then Some (once commands.Vtorc) else None

abbrev pub command_of_two : List ℕ → List ℕ → Option Given
command_of_two head a =
    if bytes_eq head (codes "write") then write_command a
    else if bytes_eq head (codes "show") then show_command a
    else if bytes_eq head (codes "TabletExternallyReparented") then external_command a
    else if bytes_eq head (codes "GetShard") then get_shard_command a
    else if bytes_eq head (codes "GetTablets") then get_tablets_command a
    else None

abbrev pub command_of_four : List ℕ → List ℕ → List ℕ → List ℕ → Option Given
command_of_four head a b c = if bytes_eq head (codes "write") then write_to_command a b c else None

-- a command of so many words behind the first
abbrev pub short_command : List ℕ → List (List ℕ) → Option Given
short_command head words =
    if length words == 0 then command_of_one head
    else if length words == 1 then command_of_two head (word words 0)
    else if length words == 3 then command_of_four head (word words 0) (word words 1) (word words 2)
    else None

-- the command that words spell
abbrev pub command_of : List (List ℕ) → Option Given
command_of [] = None
command_of (head ∷ words) =
    if bytes_eq head (codes "PlannedReparentShard") then planned_command words
    else if bytes_eq head (codes "EmergencyReparentShard") then emergency_command words
    else short_command head words

-- The words of a command, as a script has them. The commands and their options are those of vtctldclient (Vitess manual); a list of tablets is
-- one word.
use Rattle.std.specs.Prelude.{ℕ, List, [], ◌∷◌, ◌++◌, Bool, Option, Some, None, if◌then◌else◌, codes}
use Rattle.std.specs.Fmt.{decimal}
use Rattle.std.specs.List.{flat_map}
use Rattle.shard_names.specs.Alias.{alias_text}
use Rattle.shard_names.specs.declared.alias.Alias.{Alias}
use Rattle.shard_calls.specs.declared.command.Command.{Command}
use Rattle.shard_calls.specs.declared.command.Command.TheVariants as commands
use Rattle.vtctld_text.specs.Texts.{command_text}

-- ---- lists of tablets

unfoldable pub further_alias : Alias → List ℕ
further_alias a = codes "," ++ alias_text a

abbrev pub further_aliases : List Alias → List ℕ
further_aliases aliases = flat_map further_alias aliases

-- aliases with commas between them
abbrev pub aliases_text : List Alias → List ℕ
aliases_text [] = []
aliases_text (a ∷ aliases) = alias_text a ++ further_aliases aliases

-- ---- options

-- an option with a tablet, where one is given
abbrev pub with_alias : List ℕ → Option Alias → List ℕ
with_alias option None = []
with_alias option (Some a) = option ++ alias_text a

-- an option without a value, where it is given
abbrev pub with_flag : List ℕ → Bool → List ℕ
with_flag option given = if given then option else []

unfoldable pub timeout_text : ℕ → List ℕ
timeout_text ms = codes " --wait-replicas-timeout " ++ decimal ms ++ codes "ms"

abbrev pub with_timeout : Option ℕ → List ℕ
with_timeout None = []
with_timeout (Some ms) = timeout_text ms

unfoldable pub ignored_text : List Alias → List ℕ
ignored_text aliases = codes " --ignore-replicas " ++ aliases_text aliases

-- in the order and with the repeats in which they were given
abbrev pub with_ignored : List Alias → List ℕ
with_ignored [] = []
with_ignored (a ∷ aliases) = ignored_text (a ∷ aliases)

-- whom the shard is to have as its primary, and whom it has
unfoldable pub planned_options_text : Option Alias → Option Alias → Option Alias → Option ℕ → Bool → List ℕ
planned_options_text new_primary avoid expected timeout allow_cross_cell =
    with_alias (codes " --new-primary ") new_primary
    ++ with_alias (codes " --avoid-primary ") avoid
    ++ with_alias (codes " --expected-primary ") expected
    ++ with_timeout timeout
    ++ with_flag (codes " --allow-cross-cell-promotion") allow_cross_cell

unfoldable pub emergency_options_text : Option Alias → List Alias → Option Alias → Option ℕ → Bool → List ℕ
emergency_options_text new_primary ignored expected timeout prevent_cross_cell =
    with_alias (codes " --new-primary ") new_primary
    ++ with_ignored ignored
    ++ with_alias (codes " --expected-primary ") expected
    ++ with_timeout timeout
    ++ with_flag (codes " --prevent-cross-cell-promotion") prevent_cross_cell

-- a history has one command for each write
unfoldable pub write_options_text : Option Alias → List ℕ
write_options_text to = codes " 1" ++ with_alias (codes " to ") to

-- what stands behind the command's word and the shard or the tablet that it was given
abbrev pub options_text : Command → List ℕ
options_text (commands.Planned shard new_primary avoid expected timeout allow_cross_cell) =
    planned_options_text new_primary avoid expected timeout allow_cross_cell
options_text (commands.Emergency shard new_primary ignored expected timeout prevent_cross_cell) =
    emergency_options_text new_primary ignored expected timeout prevent_cross_cell
options_text (commands.External a) = []
options_text commands.Vtorc = []
options_text (commands.Write to) = write_options_text to
options_text (commands.Show a) = []
options_text (commands.GetShard shard) = []
options_text (commands.GetTablets shard) = []

-- the whole command
unfoldable pub order_text : Command → List ℕ
order_text command = command_text command ++ options_text command

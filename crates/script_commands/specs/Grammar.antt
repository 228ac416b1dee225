-- The grammar of a command: which words give it.
use Rattle.std.specs.Prelude.{◌≡◌, ◌↔◌, ℕ, ◌<◌, ◌≤◌, List, [], ◌∷◌, true, Option, Some, None, Ok, length, codes}
use Rattle.std.specs.Char.{is_ascii_digit}
use Rattle.std.specs.List.{list_all}
use Rattle.std.specs.Str.Parse.{digits_value}
use Rattle.shard_names.specs.Alias.{alias_reading}
use Rattle.shard_names.specs.ShardName.{shard_name_reading}
use Rattle.shard_names.specs.declared.alias.Alias.{Alias}
use Rattle.shard_names.specs.declared.shard_name.ShardName.{ShardName}
use Rattle.shard_calls.specs.declared.command.Command.{Command}
use Rattle.shard_calls.specs.declared.command.Command.TheVariants as commands
use Rattle.script_commands.specs.declared.command.Given.{Given}
use Rattle.script_commands.specs.declared.options.Options.{Options}
use Rattle.script_commands.specs.Options.{options_of}
use Rattle.script_commands.specs.Commands.{planned_of, emergency_of, command_of}

-- a number in decimal digits
pub record IsNumber (digits : List ℕ) (n : ℕ) : Type 0 where
  pub some_digit : 0 < length digits
  pub are_digits : list_all is_ascii_digit digits ≡ true
  pub value : digits_value 10 digits ≡ n

-- a unit and its milliseconds
pub data IsUnit (text : List ℕ) (milliseconds : ℕ) : Type 0 where
  is_millisecond : text ≡ codes "ms" → milliseconds ≡ 1 → IsUnit text milliseconds
  is_second : text ≡ codes "s" → milliseconds ≡ 1000 → IsUnit text milliseconds
  is_minute : text ≡ codes "m" → milliseconds ≡ 60000 → IsUnit text milliseconds

-- a word, and behind it the options and the shard's name that this command is made of
pub record IsReparent (head : List ℕ) (made : Options → Option Command) (words : List (List ℕ)) (command : Command) : Type 0 where
  pub further : List (List ℕ)
  pub options : Options
  pub words_are : words ≡ head ∷ further
  pub options_are : options_of further ≡ Some options
  pub command_is : made options ≡ Some command

-- `write N`: N from 1 to 10,000
pub record IsWrite (words : List (List ℕ)) (count : ℕ) : Type 0 where
  pub digits : List ℕ
  pub words_are : words ≡ codes "write" ∷ digits ∷ []
  pub number : IsNumber digits count
  pub from_one : 1 ≤ count
  pub to_ten_thousand : count ≤ 10000

-- `write N to ALIAS`: N from 1 to 10,000
pub record IsWriteTo (words : List (List ℕ)) (alias : Alias) (count : ℕ) : Type 0 where
  pub digits : List ℕ
  pub alias_text : List ℕ
  pub words_are : words ≡ codes "write" ∷ digits ∷ codes "to" ∷ alias_text ∷ []
  pub number : IsNumber digits count
  pub from_one : 1 ≤ count
  pub to_ten_thousand : count ≤ 10000
  pub alias_is : alias_reading alias_text ≡ Ok alias

-- a word and ALIAS
pub record IsOfTablet (head : List ℕ) (words : List (List ℕ)) (alias : Alias) : Type 0 where
  pub alias_text : List ℕ
  pub words_are : words ≡ head ∷ alias_text ∷ []
  pub alias_is : alias_reading alias_text ≡ Ok alias

-- a word and K/S
pub record IsOfName (head : List ℕ) (words : List (List ℕ)) (name : ShardName) : Type 0 where
  pub name_text : List ℕ
  pub words_are : words ≡ head ∷ name_text ∷ []
  pub name_is : shard_name_reading name_text ≡ Some name

-- the words of a command that is given so many times
abbrev pub IsCommand : List (List ℕ) → Command → ℕ → Type 0
IsCommand words (commands.Planned name given avoid expected timeout allow_cross_cell) n =
    IsReparent (codes "PlannedReparentShard") planned_of words (commands.Planned name given avoid expected timeout allow_cross_cell) × (n ≡ 1)
IsCommand words (commands.Emergency name given ignored expected timeout prevent_cross_cell) n =
    IsReparent (codes "EmergencyReparentShard") emergency_of words (commands.Emergency name given ignored expected timeout prevent_cross_cell) × (n ≡ 1)
IsCommand words (commands.External a) n = IsOfTablet (codes "TabletExternallyReparented") words a × (n ≡ 1)
IsCommand words commands.Vtorc n = (words ≡ codes "vtorc" ∷ []) × (n ≡ 1)
IsCommand words (commands.Write None) n = IsWrite words n
IsCommand words (commands.Write (Some a)) n = IsWriteTo words a n
IsCommand words (commands.Show a) n = IsOfTablet (codes "show") words a × (n ≡ 1)
IsCommand words (commands.GetShard name) n = IsOfName (codes "GetShard") words name × (n ≡ 1)
IsCommand words (commands.GetTablets name) n = IsOfName (codes "GetTablets") words name × (n ≡ 1)

-- the reader answers what the grammar has
abbrev pub CommandsAsSpelled : Type 0
CommandsAsSpelled = (words : List (List ℕ)) (g : Given) → (command_of words ≡ Some g) ↔ IsCommand words g.command g.count

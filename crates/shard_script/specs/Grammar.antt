-- The grammar of a script: what each line says, and which lines make a script. The words of a line are parted by spaces and tabs.
use Rattle.std.specs.Prelude.{◌≡◌, ◌≢◌, ◌↔◌, ◌⊎◌, ℕ, ◌+◌, ◌-◌, ◌*◌, ◌^◌, ◌<◌, ◌≤◌, List, [], ◌∷◌, ◌++◌, true, Option, Some, None, Ok, Err, length, take, filter, not, All, codes, ⊤}
use Rattle.std.specs.Char.{is_ascii_digit}
use Rattle.std.specs.List.{list_all, AllZip}
use Rattle.std.specs.List.Sorted.{IsPermutation}
use Rattle.std.specs.Str.Parse.{digits_value}
use Rattle.shard_names.specs.Alias.{alias_reading}
use Rattle.shard_names.specs.ShardName.{shard_name_reading}
use Rattle.shard_names.specs.declared.alias.Alias.{Alias}
use Rattle.shard_names.specs.declared.shard_name.ShardName.{ShardName}
use Rattle.shard_names.specs.declared.tablet.Tablet.{Tablet as TabletData}
use Rattle.shard_names.specs.declared.tablet.TabletType.{TabletType}
use Rattle.shard_names.specs.declared.tablet.TabletType.TheVariants.{Replica, Rdonly, Spare}
use Rattle.shard_names.specs.Tablets.{AliasesRise, ServersDiffer}
use Rattle.durability.specs.declared.policy.Durability.{Durability}
use Rattle.durability.specs.Policies.{policy_name}
use Rattle.shard_calls.specs.declared.command.Command.{Command}
use Rattle.shard_calls.specs.declared.command.Command.TheVariants.{Planned, Emergency, External, Vtorc, Write, Show, GetShard, GetTablets}
use Rattle.shard_calls.specs.declared.event.Side.{Side}
use Rattle.shard_calls.specs.declared.event.Side.TheVariants as sides
use Rattle.shard_script.specs.declared.line.Line.{Line}
use Rattle.shard_script.specs.declared.line.Line.TheVariants.{Shard, Tablet, Clock, Act}
use Rattle.shard_script.specs.declared.script.Action.{Action}
use Rattle.shard_script.specs.declared.script.Action.TheVariants as actions
use Rattle.shard_script.specs.declared.script.Script.{Script}
use Rattle.script_commands.specs.Grammar.{IsNumber, IsUnit, IsOfTablet, IsCommand}
use Rattle.shard_script.specs.Names.{started, NamesDiffer, AreKnown}
use Rattle.shard_script.specs.Aliases.{NamesDeclared, are_ends}
use Rattle.shard_script.specs.Lines.{words_of, is_plain, say_nothing}
use Rattle.script_commands.specs.Moments.{moment_reading}
use Rattle.script_commands.specs.Words.{IsName, server_reading}
use Rattle.shard_script.specs.Script.{empty_script, lines_of, ended_lines, first_bytes, reading}

-- `shard K/S POLICY`: one of the five, by its name
pub record IsShardLine (line : List ℕ) (name : ShardName) (policy : Durability) : Type 0 where
  pub name_text : List ℕ
  pub words : words_of line ≡ codes "shard" ∷ name_text ∷ policy_name policy ∷ []
  pub name_is : shard_name_reading name_text ≡ Some name

-- `replica`, `rdonly` or `spare`
abbrev pub IsTypeWord : List ℕ → TabletType → Type 0
IsTypeWord text Replica = text ≡ codes "replica"
IsTypeWord text Rdonly = text ≡ codes "rdonly"
IsTypeWord text Spare = text ≡ codes "spare"

-- `tablet ALIAS TYPE UUID`
pub record IsTabletLine (line : List ℕ) (tablet : TabletData) : Type 0 where
  pub alias_text : List ℕ
  pub type_text : List ℕ
  pub server_text : List ℕ
  pub words : words_of line ≡ codes "tablet" ∷ alias_text ∷ type_text ∷ server_text ∷ []
  pub alias_is : alias_reading alias_text ≡ Ok tablet.alias
  pub type_is : IsTypeWord type_text tablet.kind
  pub server_is : server_reading server_text ≡ Some tablet.server

-- `clock MOMENT`: milliseconds since the start of 1970
pub record IsClockLine (line : List ℕ) (moment : ℕ) : Type 0 where
  pub moment_text : List ℕ
  pub words : words_of line ≡ codes "clock" ∷ moment_text ∷ []
  pub moment_is : moment_reading moment_text ≡ Some moment

-- `start NAME COMMAND`: a command that is given once
pub record IsStartLine (line name : List ℕ) (command : Command) : Type 0 where
  pub command_words : List (List ℕ)
  pub words : words_of line ≡ codes "start" ∷ name ∷ command_words
  pub is_name : IsName name
  pub once : IsCommand command_words command 1

-- `turn NAME K`: K from 1 to 1,000,000
pub record IsTurnLine (line name : List ℕ) (pumps : ℕ) : Type 0 where
  pub digits : List ℕ
  pub words : words_of line ≡ codes "turn" ∷ name ∷ digits ∷ []
  pub is_name : IsName name
  pub number : IsNumber digits pumps
  pub from_one : 1 ≤ pumps
  pub to_million : pumps ≤ 1000000

-- `finish NAME`
pub record IsFinishLine (line name : List ℕ) : Type 0 where
  pub words : words_of line ≡ codes "finish" ∷ name ∷ []
  pub is_name : IsName name

-- `settle`
abbrev pub IsSettleLine : List ℕ → Type 0
IsSettleLine line = words_of line ≡ codes "settle" ∷ []

-- `lapse`
abbrev pub IsLapseLine : List ℕ → Type 0
IsLapseLine line = words_of line ≡ codes "lapse" ∷ []

-- `tick DURATION`: 1 to 9 digits and a unit, at most a day in all
pub record IsTickLine (line : List ℕ) (milliseconds : ℕ) : Type 0 where
  pub digits : List ℕ
  pub unit_text : List ℕ
  pub words : words_of line ≡ codes "tick" ∷ (digits ++ unit_text) ∷ []
  pub count : ℕ
  pub number : IsNumber digits count
  pub few_digits : length digits ≤ 9
  pub unit : ℕ
  pub is_unit : IsUnit unit_text unit
  pub value : count * unit ≡ milliseconds
  pub to_a_day : milliseconds ≤ 86400000

-- `crash ALIAS keep N`: a number of 64 bits
pub record IsCrashLine (line : List ℕ) (alias : Alias) (keep : ℕ) : Type 0 where
  pub alias_text : List ℕ
  pub digits : List ℕ
  pub words : words_of line ≡ codes "crash" ∷ alias_text ∷ codes "keep" ∷ digits ∷ []
  pub alias_is : alias_reading alias_text ≡ Ok alias
  pub number : IsNumber digits keep
  pub small : keep < 2 ^ 64

-- `control` or ALIAS
abbrev pub IsSide : List ℕ → Side → Type 0
IsSide text sides.Control = text ≡ codes "control"
IsSide text (sides.Tablet a) = alias_reading text ≡ Ok a

-- a word and the two ends of a link
pub record IsLinkLine (head line : List ℕ) (x y : Side) : Type 0 where
  pub x_text : List ℕ
  pub y_text : List ℕ
  pub words : words_of line ≡ head ∷ x_text ∷ y_text ∷ []
  pub x_is : IsSide x_text x
  pub y_is : IsSide y_text y
  pub ends : are_ends x y ≡ true

-- a word and a message's number, of 64 bits
pub record IsMessageLine (head line : List ℕ) (message : ℕ) : Type 0 where
  pub digits : List ℕ
  pub words : words_of line ≡ head ∷ digits ∷ []
  pub number : IsNumber digits message
  pub small : message < 2 ^ 64

-- a line that asks for an action
abbrev pub IsActionLine : List ℕ → Action → Type 0
IsActionLine line (actions.Play command n) = IsCommand (words_of line) command n
IsActionLine line (actions.Start name command) = IsStartLine line name command
IsActionLine line (actions.Turn name pumps) = IsTurnLine line name pumps
IsActionLine line (actions.Finish name) = IsFinishLine line name
IsActionLine line actions.Settle = IsSettleLine line
IsActionLine line (actions.Local a) = IsOfTablet (codes "local") (words_of line) a
IsActionLine line (actions.Crash a keep) = IsCrashLine line a keep
IsActionLine line (actions.Restart a) = IsOfTablet (codes "restart") (words_of line) a
IsActionLine line (actions.Cut x y) = IsLinkLine (codes "cut") line x y
IsActionLine line (actions.Mend x y) = IsLinkLine (codes "mend") line x y
IsActionLine line (actions.Lose message) = IsMessageLine (codes "lose") line message
IsActionLine line (actions.Repeat message) = IsMessageLine (codes "repeat") line message
IsActionLine line actions.Lapse = IsLapseLine line
IsActionLine line (actions.Tick ms) = IsTickLine line ms

-- what a line says
abbrev pub Says : List ℕ → Line → Type 0
Says line (Shard name policy) = IsShardLine line name policy
Says line (Tablet t) = IsTabletLine line t
Says line (Clock moment) = IsClockLine line moment
Says line (Act action) = IsActionLine line action

-- ---- a whole script

-- no alias is declared twice
abbrev pub AliasesDiffer : List TabletData → Type 0
AliasesDiffer [] = ⊤
AliasesDiffer (t ∷ ts) = All (λ u. t.alias ≢ u.alias) ts × AliasesDiffer ts

-- a command of a shard is of this one
abbrev pub IsCommandOf : ShardName → Command → Type 0
IsCommandOf name (Planned n given avoid expected timeout allow_cross_cell) = n ≡ name
IsCommandOf name (Emergency n given ignored expected timeout prevent_cross_cell) = n ≡ name
IsCommandOf name (External a) = ⊤
IsCommandOf name Vtorc = ⊤
IsCommandOf name (Write to) = ⊤
IsCommandOf name (Show a) = ⊤
IsCommandOf name (GetShard n) = n ≡ name
IsCommandOf name (GetTablets n) = n ≡ name

abbrev pub IsOfShard : ShardName → Action → Type 0
IsOfShard name (actions.Play command n) = IsCommandOf name command
IsOfShard name (actions.Start starter command) = IsCommandOf name command
IsOfShard name (actions.Turn starter pumps) = ⊤
IsOfShard name (actions.Finish starter) = ⊤
IsOfShard name actions.Settle = ⊤
IsOfShard name (actions.Local a) = ⊤
IsOfShard name (actions.Crash a keep) = ⊤
IsOfShard name (actions.Restart a) = ⊤
IsOfShard name (actions.Cut x y) = ⊤
IsOfShard name (actions.Mend x y) = ⊤
IsOfShard name (actions.Lose message) = ⊤
IsOfShard name (actions.Repeat message) = ⊤
IsOfShard name actions.Lapse = ⊤
IsOfShard name (actions.Tick ms) = ⊤

-- a line that declares the first of these tablets, behind which come these lines
pub record DeclaresTablet (line : List ℕ) (tablets : List TabletData) (Behind : List TabletData → Type 0) : Type 0 where
  pub tablet : TabletData
  pub others : List TabletData
  pub tablets_are : tablets ≡ tablet ∷ others
  pub says : IsTabletLine line tablet
  pub behind : Behind others

-- a line that declares this clock, behind which come lines that declare none
pub record DeclaresClock (line : List ℕ) (clock : Option ℕ) (Behind : Type 0) : Type 0 where
  pub moment : ℕ
  pub clock_is : clock ≡ Some moment
  pub says : IsClockLine line moment
  pub behind : Behind

-- lines that declare these tablets in order, and among them the clock, if one does
abbrev pub AreDeclarations : List (List ℕ) → List TabletData → Option ℕ → Type 0
AreDeclarations [] tablets clock = (tablets ≡ []) × (clock ≡ None)
AreDeclarations (l ∷ ls) tablets clock =
    DeclaresTablet l tablets (λ others. AreDeclarations ls others clock) ⊎ DeclaresClock l clock (AreDeclarations ls tablets None)

-- the lines of a script: first the shard, then its tablets and its clock, then what is done to it
pub record IsShardScript (lines : List (List ℕ)) (s : Script) : Type 0 where
  pub first : List ℕ
  pub declaration_lines : List (List ℕ)
  pub action_lines : List (List ℕ)
  pub split : lines ≡ first ∷ (declaration_lines ++ action_lines)
  -- each line says its part
  pub name : ShardName
  pub declared : List TabletData
  pub says_shard : IsShardLine first name s.policy
  pub are_declarations : AreDeclarations declaration_lines declared s.clock
  pub say_actions : AllZip IsActionLine action_lines s.actions
  -- the script has the declared tablets in alias order
  pub shard : s.shard ≡ Some name
  pub tablets : IsPermutation declared s.tablets
  pub in_order : AliasesRise s.tablets
  -- at most 32 tablets that all differ, and commands of this shard alone
  pub few_tablets : length declared ≤ 32
  pub aliases_differ : AliasesDiffer declared
  pub servers_differ : ServersDiffer declared
  pub of_shard : All (IsOfShard name) s.actions
  -- where an action names a tablet, but for those of a reparent, it is declared
  pub are_declared : All (NamesDeclared s.tablets) s.actions
  -- the names that are started, in order: at most 16 that all differ, and `turn` and `finish` behind the start of their name
  pub names : s.names ≡ started s.actions
  pub few_names : length s.names ≤ 16
  pub names_differ : NamesDiffer s.names
  pub known : AreKnown [] s.actions

-- lines that make a script: none at all, or those of a shard
pub data IsScript (lines : List (List ℕ)) (s : Script) : Type 0 where
  is_empty : lines ≡ [] → s ≡ empty_script → IsScript lines s
  is_shard_script : IsShardScript lines s → IsScript lines s

-- without the lines that say nothing: those without a word, and comments, whose first word begins with `#`
abbrev pub told_lines : List (List ℕ) → List (List ℕ)
told_lines lines = filter (λ l. not (say_nothing (words_of l))) lines

-- a line of at most 1,024 bytes, all of them printable ASCII or tabs
abbrev pub HasScriptBytes : List ℕ → Type 0
HasScriptBytes line = is_plain line ≡ true

-- at most 20,000 lines, of which those that say something make a script
pub record Spell (lines : List (List ℕ)) (s : Script) : Type 0 where
  pub few_lines : length lines ≤ 20000
  pub script_bytes : All HasScriptBytes lines
  pub script : IsScript (told_lines lines) s

-- a text of at most 1,048,576 bytes whose lines make a script
pub record Spells (text : List ℕ) (s : Script) : Type 0 where
  pub few_bytes : length text ≤ 1048576
  pub lines : Spell (lines_of text) s

-- ---- the first fault

-- the lines before this one make a script, and with it they make none
pub record IsFirstFault (lines : List (List ℕ)) (place : ℕ) : Type 0 where
  pub counted : 0 < place
  pub within : place ≤ length lines
  pub so_far : Script
  pub before : Spell (take (place - 1) lines) so_far
  pub here : (s : Script) → Spell (take place lines) s → ⊥

-- The first line with a fault. In a text of more than 1,048,576 bytes whose ended lines within these make a script it is the line behind them.
pub data HasFault (text : List ℕ) (place : ℕ) : Type 0 where
  in_short : length text ≤ 1048576 → IsFirstFault (lines_of text) place → HasFault text place
  in_long : 1048576 < length text → IsFirstFault (ended_lines (first_bytes text)) place → HasFault text place
  too_long : (s : Script) → 1048576 < length text → Spell (ended_lines (first_bytes text)) s → place ≡ length (ended_lines (first_bytes text)) + 1 → HasFault text place

-- the reader answers what the grammar has
abbrev pub ReadsAsSpelled : Type 0
ReadsAsSpelled = (text : List ℕ) (s : Script) → (reading text ≡ Ok s) ↔ Spells text s

abbrev pub FaultsAsSpelled : Type 0
FaultsAsSpelled = (text : List ℕ) (place : ℕ) → (reading text ≡ Err place) ↔ HasFault text place

-- A script, and the fold over its lines that reads it. Its commands are those of vtctldclient (Vitess manual).
use Rattle.std.specs.Prelude.{◌≡◌, ℕ, ◌+◌, ◌-◌, ◌<◌, ◌≤◌, List, [], ◌∷◌, ◌++◌, Bool, true, false, ◌&&◌, not, ◌==◌, nat_lt, nat_le, Option, Some, None, is_some, is_none, Result, Ok, Err, if◌then◌else◌, length, take, slice_index_or, position, unwrap_or, All, ⊤}
use Rattle.std.specs.List.{list_any, list_all}
use Rattle.std.specs.Str.{bytes_eq}
use Rattle.std.specs.Ordering.{is_lt}
use Rattle.shard_names.specs.Tablets.{alias_eq, alias_cmp, AreTablets}
use Rattle.shard_names.specs.declared.alias.Alias.{Alias}
use Rattle.shard_names.specs.declared.shard_name.ShardName.{ShardName}
use Rattle.shard_names.specs.declared.tablet.Tablet.{Tablet as TabletData}
use Rattle.durability.specs.declared.policy.Durability.TheVariants as policies
use Rattle.shard_calls.specs.declared.command.Command.{Command}
use Rattle.shard_calls.specs.declared.command.Command.TheVariants.{Planned, Emergency, External, Vtorc, Write, Show, GetShard, GetTablets}
use Rattle.shard_calls.specs.Begins.{is_in_time}
use Rattle.shard_script.specs.declared.line.Line.{Line}
use Rattle.shard_script.specs.declared.line.Line.TheVariants.{Shard, Tablet, Clock, Act}
use Rattle.shard_script.specs.declared.script.Action.{Action}
use Rattle.shard_script.specs.declared.script.Action.TheVariants as actions
use Rattle.shard_script.specs.declared.script.Script.{Script}
use Rattle.shard_script.specs.Names.{has_name, started_by, started, NamesDiffer, AreKnown}
use Rattle.shard_script.specs.Aliases.{aliases_of, NamesDeclared, are_ends}
use Rattle.script_commands.specs.Options.{parts_of}
use Rattle.shard_script.specs.Lines.{words_of, is_plain, say_nothing, line_of_words}
use Rattle.script_commands.specs.Words.{IsName}

-- whether a tablet has this alias
abbrev pub has_alias : List TabletData → Alias → Bool
has_alias tablets a = list_any (λ t. alias_eq t.alias a) tablets

-- whether a tablet has this server
abbrev pub has_server : List TabletData → List ℕ → Bool
has_server tablets server = list_any (λ t. bytes_eq t.server server) tablets

abbrev pub shard_eq : ShardName → ShardName → Bool
shard_eq a b = bytes_eq a.keyspace b.keyspace && bytes_eq a.shard b.shard

-- whether this is the declared name
abbrev pub is_shard : Option ShardName → ShardName → Bool
is_shard None name = false
is_shard (Some s) name = shard_eq s name

-- whether an alias comes before another
abbrev pub is_below : Alias → Alias → Bool
is_below a b = is_lt (alias_cmp a b)

-- the place of the first tablet above the alias, or the end
abbrev pub place_among : List TabletData → Alias → ℕ
place_among tablets a = unwrap_or (position (λ t. is_below a t.alias) tablets) (length tablets)

-- the tablets with one more, before the first that is above it
abbrev pub in_place : TabletData → List TabletData → List TabletData
in_place t [] = t ∷ []
in_place t (u ∷ us) = if is_below t.alias u.alias then t ∷ u ∷ us else u ∷ in_place t us

-- a tablet stands behind the shard and before the actions, as one of at most 32 that all differ
abbrev pub admits_tablet : Script → TabletData → Bool
admits_tablet s t =
    is_some s.shard && (length s.actions == 0) && nat_lt (length s.tablets) 32 && not (has_alias s.tablets t.alias) && not (has_server s.tablets t.server)

-- a clock stands behind the shard and before the actions, once
abbrev pub admits_clock : Script → Bool
admits_clock s = is_some s.shard && (length s.actions == 0) && is_none s.clock

-- a command of a shard is of the declared one
abbrev pub admits_command : Script → Command → Bool
admits_command s (Planned name given avoid expected timeout allow_cross_cell) = is_shard s.shard name
admits_command s (Emergency name given ignored expected timeout prevent_cross_cell) = is_shard s.shard name
admits_command s (External a) = true
admits_command s Vtorc = true
admits_command s (Write to) = true
admits_command s (Show a) = true
admits_command s (GetShard name) = is_shard s.shard name
admits_command s (GetTablets name) = is_shard s.shard name

-- a name is started once, as one of at most 16
abbrev pub admits_name : Script → List ℕ → Bool
admits_name s name = nat_lt (length s.names) 16 && not (has_name s.names name)

-- whether the tablets that an action names are among these
abbrev pub all_declared : List TabletData → Action → Bool
all_declared tablets x = list_all (has_alias tablets) (aliases_of x)

-- whether an action may stand behind the shard and the actions so far
abbrev pub admits_action : Script → Action → Bool
admits_action s (actions.Play command n) = admits_command s command
admits_action s (actions.Start name command) = admits_command s command && admits_name s name
admits_action s (actions.Turn name pumps) = has_name s.names name
admits_action s (actions.Finish name) = has_name s.names name
admits_action s actions.Settle = true
admits_action s (actions.Local a) = true
admits_action s (actions.Crash a keep) = true
admits_action s (actions.Restart a) = true
admits_action s (actions.Cut x y) = true
admits_action s (actions.Mend x y) = true
admits_action s (actions.Lose message) = true
admits_action s (actions.Repeat message) = true
admits_action s actions.Lapse = true
admits_action s (actions.Tick ms) = true

-- whether a line may stand behind the script so far
abbrev pub admits : Script → Line → Bool
admits s (Shard name policy) = is_none s.shard
admits s (Tablet t) = admits_tablet s t
admits s (Clock moment) = admits_clock s
admits s (Act action) = is_some s.shard && admits_action s action && all_declared s.tablets action

abbrev pub with_line : Script → Line → Script
with_line s (Shard name p) = record s { shard = Some name; policy = p }
with_line s (Tablet t) = record s { tablets = in_place t s.tablets }
with_line s (Clock moment) = record s { clock = Some moment }
with_line s (Act action) = record s { names = s.names ++ started_by action; actions = s.actions ++ action ∷ [] }

abbrev pub empty_script : Script
empty_script = record { shard = None; policy = policies.None; clock = None; tablets = []; names = []; actions = [] }

-- the script with the line that words spell, if it may stand there
unfoldable pub with_words : Script → List (List ℕ) → Option Script
with_words s words = elim (line_of_words words) [ None ↦ None | Some line ↦ if admits s line then Some (with_line s line) else None ]

-- The script with one more line, if it may stand there. A line that says nothing leaves the script as it is.
unfoldable pub with_bytes : Script → List ℕ → Option Script
with_bytes s bytes =
    if not (is_plain bytes) then None
    else if say_nothing (words_of bytes) then Some s
    else with_words s (words_of bytes)

-- The script with more lines, of which the first has this place; or the place of the first line that may not stand there. At most 20,000 lines may.
abbrev pub read_on : ℕ → Script → List (List ℕ) → Result Script ℕ
read_on place s [] = Ok s
read_on place s (l ∷ ls) =
    if nat_lt 20000 place then Err place
    else elim (with_bytes s l) [ None ↦ Err place | Some t ↦ read_on (place + 1) t ls ]

-- the script that lines spell
abbrev pub read_lines : List (List ℕ) → Result Script ℕ
read_lines lines = read_on 1 empty_script lines

abbrev pub without_empty_end : List (List ℕ) → List (List ℕ)
without_empty_end parts =
    if length (slice_index_or parts (length parts - 1) []) == 0 then take (length parts - 1) parts else parts

-- what stands between newlines: the last may be lacking
abbrev pub all_parts : List ℕ → List (List ℕ)
all_parts text = without_empty_end (parts_of 10 text)

-- what stands before newlines
abbrev pub ended_parts : List ℕ → List (List ℕ)
ended_parts text = take (length (parts_of 10 text) - 1) (parts_of 10 text)

-- whether a newline comes first
abbrev pub begins_newline : List ℕ → Bool
begins_newline [] = false
begins_newline (b ∷ bs) = b == 10

-- a byte that others stand behind, unless it is a carriage return before a newline
abbrev pub kept_byte : ℕ → List ℕ → List ℕ
kept_byte b bs = if (b == 13) && begins_newline bs then [] else b ∷ []

-- a text without the carriage returns that stand before newlines
abbrev pub without_returns : List ℕ → List ℕ
without_returns [] = []
without_returns (b ∷ bs) = kept_byte b bs ++ without_returns bs

-- The lines of a text: the last may lack its newline. A carriage return before a newline is dropped.
abbrev pub lines_of : List ℕ → List (List ℕ)
lines_of text = all_parts (without_returns text)

-- the lines of a text that have their newline
abbrev pub ended_lines : List ℕ → List (List ℕ)
ended_lines text = ended_parts (without_returns text)

-- as many bytes as a script may have
unfoldable pub first_bytes : List ℕ → List ℕ
first_bytes text = take 1048576 text

-- the first fault of lines, or else one on the line behind them
abbrev pub fault_behind : List (List ℕ) → Result Script ℕ → Result Script ℕ
fault_behind lines (Err place) = Err place
fault_behind lines (Ok s) = Err (length lines + 1)

-- The script that a text spells, or the first line with a fault. In a text of more than 1,048,576 bytes that is at the latest the line with the next byte.
unfoldable pub reading : List ℕ → Result Script ℕ
reading text =
    if nat_le (length text) 1048576 then read_lines (lines_of text)
    else fault_behind (ended_lines (first_bytes text)) (read_lines (ended_lines (first_bytes text)))

-- the bytes of a script, and one more where there are too many
unfoldable pub front : List ℕ → List ℕ
front bytes = take 1048577 bytes

-- the first bytes of a text, one more than a script may have, decide how it is read
abbrev pub FrontDecides : Type 0
FrontDecides = (text : List ℕ) → reading text ≡ reading (front text)

-- A command of a shard is of the declared one. Each is given once, but for a write, which is given 1 to 10,000 times. A turn is of 1 to 1,000,000 events, and
-- at most a day goes by. A link has two ends of which one is a tablet.
abbrev pub FitsShard : Option ShardName → Action → Type 0
FitsShard shard (actions.Play (Planned name given avoid expected timeout allow_cross_cell) n) = (shard ≡ Some name) × (n ≡ 1)
FitsShard shard (actions.Play (Emergency name given ignored expected timeout prevent_cross_cell) n) = (shard ≡ Some name) × (n ≡ 1)
FitsShard shard (actions.Play (External a) n) = n ≡ 1
FitsShard shard (actions.Play Vtorc n) = n ≡ 1
FitsShard shard (actions.Play (Write to) n) = (1 ≤ n) × (n ≤ 10000)
FitsShard shard (actions.Play (Show a) n) = n ≡ 1
FitsShard shard (actions.Play (GetShard name) n) = (shard ≡ Some name) × (n ≡ 1)
FitsShard shard (actions.Play (GetTablets name) n) = (shard ≡ Some name) × (n ≡ 1)
FitsShard shard (actions.Start starter (Planned name given avoid expected timeout allow_cross_cell)) = shard ≡ Some name
FitsShard shard (actions.Start starter (Emergency name given ignored expected timeout prevent_cross_cell)) = shard ≡ Some name
FitsShard shard (actions.Start starter (External a)) = ⊤
FitsShard shard (actions.Start starter Vtorc) = ⊤
FitsShard shard (actions.Start starter (Write to)) = ⊤
FitsShard shard (actions.Start starter (Show a)) = ⊤
FitsShard shard (actions.Start starter (GetShard name)) = shard ≡ Some name
FitsShard shard (actions.Start starter (GetTablets name)) = shard ≡ Some name
FitsShard shard (actions.Turn name pumps) = (1 ≤ pumps) × (pumps ≤ 1000000)
FitsShard shard (actions.Finish name) = ⊤
FitsShard shard actions.Settle = ⊤
FitsShard shard (actions.Local a) = ⊤
FitsShard shard (actions.Crash a keep) = ⊤
FitsShard shard (actions.Restart a) = ⊤
FitsShard shard (actions.Cut x y) = are_ends x y ≡ true
FitsShard shard (actions.Mend x y) = are_ends x y ≡ true
FitsShard shard (actions.Lose message) = ⊤
FitsShard shard (actions.Repeat message) = ⊤
FitsShard shard actions.Lapse = ⊤
FitsShard shard (actions.Tick ms) = ms ≤ 86400000

-- its command waits a day for an answer at most
abbrev pub IsInTime : Action → Type 0
IsInTime (actions.Play command n) = is_in_time command ≡ true
IsInTime (actions.Start starter command) = is_in_time command ≡ true
IsInTime (actions.Turn name pumps) = ⊤
IsInTime (actions.Finish name) = ⊤
IsInTime actions.Settle = ⊤
IsInTime (actions.Local a) = ⊤
IsInTime (actions.Crash a keep) = ⊤
IsInTime (actions.Restart a) = ⊤
IsInTime (actions.Cut x y) = ⊤
IsInTime (actions.Mend x y) = ⊤
IsInTime (actions.Lose message) = ⊤
IsInTime (actions.Repeat message) = ⊤
IsInTime actions.Lapse = ⊤
IsInTime (actions.Tick ms) = ⊤

-- what every script that is read keeps to
pub record Fits (s : Script) : Type 0 where
  pub tablets : AreTablets s.tablets
  pub few_tablets : length s.tablets ≤ 32
  pub named : s.shard ≡ None → (s.tablets ≡ []) × (s.actions ≡ [])
  pub unnamed : s.shard ≡ None → s.policy ≡ policies.None
  -- the clock begins before the year 9001
  pub clock : (m : ℕ) → s.clock ≡ Some m → m < 221876928000000
  pub actions : All (FitsShard s.shard) s.actions
  pub in_time : All IsInTime s.actions
  pub few_actions : length s.actions ≤ 20000
  -- where an action names a tablet that has to be declared, it is
  pub declared : All (NamesDeclared s.tablets) s.actions
  -- the names are those that the actions start, at most 16 that differ
  pub starts : s.names ≡ started s.actions
  pub are_names : All IsName s.names
  pub few_names : length s.names ≤ 16
  pub names_differ : NamesDiffer s.names
  -- each that is turned or finished was started before
  pub known : AreKnown [] s.actions

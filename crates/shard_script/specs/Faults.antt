-- What is wrong with a line behind the lines before it, and the fault of a whole text. The numbers of faults are vtshard's own.
use Rattle.std.specs.Prelude.{◌≡◌, ℕ, ◌+◌, List, [], ◌∷◌, Bool, false, ◌&&◌, ◌||◌, not, ◌==◌, nat_lt, nat_le, Option, Some, None, is_some, is_none, Result, Ok, Err, if◌then◌else◌, length, codes, unwrap_or, ⊤}
use Rattle.std.specs.List.{list_all}
use Rattle.std.specs.Result.{result_ok}
use Rattle.std.specs.Str.{bytes_eq}
use Rattle.shard_names.specs.Alias.{alias_reading}
use Rattle.script_commands.specs.Words.{name_reading, server_reading}
use Rattle.script_faults.specs.declared.fault.Fault.{Fault}
use Rattle.script_faults.specs.declared.fault.Fault.TheVariants.{Limit, Unknown, Late, Twice, Undeclared}
use Rattle.script_faults.specs.Faults.{earlier, unless}
use Rattle.script_faults.specs.Lines.{line_fault as words_fault}
use Rattle.shard_script.specs.declared.script.Script.{Script}
use Rattle.shard_script.specs.declared.script.ScriptFault.{ScriptFault}
use Rattle.shard_script.specs.declared.script.ScriptFault.TheVariants as faults
use Rattle.shard_script.specs.Names.{has_name}
use Rattle.shard_script.specs.Lines.{words_of, is_short, is_script_byte, say_nothing}
use Rattle.shard_script.specs.Script.{has_alias, has_server, with_bytes, empty_script, lines_of, ended_lines, first_bytes, front}

-- ---- one line

-- of its bytes
abbrev pub bytes_fault : List ℕ → Option Fault
bytes_fault bytes = earlier (unless (is_short bytes) Limit) (unless (list_all is_script_byte bytes) Unknown)

abbrev pub is_declaration : List ℕ → Bool
is_declaration head = bytes_eq head (codes "shard") || bytes_eq head (codes "tablet") || bytes_eq head (codes "clock")

-- a declaration stands before the first action
abbrev pub late_fault : Script → List ℕ → Option Fault
late_fault s head = unless (not (is_declaration head && not (length s.actions == 0))) Late

-- whether a text is the alias of a declared tablet
abbrev pub is_alias_of : Script → List ℕ → Bool
is_alias_of s text = elim (result_ok (alias_reading text)) [ None ↦ false | Some a ↦ has_alias s.tablets a ]

-- whether a text is the server of a declared tablet
abbrev pub is_server_of : Script → List ℕ → Bool
is_server_of s text = elim (server_reading text) [ None ↦ false | Some u ↦ has_server s.tablets u ]

-- of the words of a tablet behind the first: no tablet has the alias or the server
abbrev pub same_tablet_fault : Script → List (List ℕ) → Option Fault
same_tablet_fault s [] = None
same_tablet_fault s (alias ∷ []) = None
same_tablet_fault s (alias ∷ kind ∷ []) = None
same_tablet_fault s (alias ∷ kind ∷ server ∷ words) = unless (not (is_alias_of s alias || is_server_of s server)) Twice

-- there are at most 32 tablets
abbrev pub tablet_fault : Script → List (List ℕ) → Option Fault
tablet_fault s words = earlier (unless (nat_lt (length s.tablets) 32) Limit) (same_tablet_fault s words)

-- a name is started once, and at most 16 are
abbrev pub name_fault : Script → List ℕ → Option Fault
name_fault s name = if has_name s.names name then Some Twice else unless (nat_lt (length s.names) 16) Limit

-- of the words behind `start`
abbrev pub started_fault : Script → List (List ℕ) → Option Fault
started_fault s [] = None
started_fault s (name ∷ words) = elim (name_reading name) [ None ↦ None | Some n ↦ name_fault s n ]

-- of what stands before it: what is declared or started twice, or too often
abbrev pub known_fault : Script → List ℕ → List (List ℕ) → Option Fault
known_fault s head words =
    if bytes_eq head (codes "shard") then unless (is_none s.shard) Twice
    else if bytes_eq head (codes "clock") then unless (is_none s.clock) Twice
    else if bytes_eq head (codes "tablet") then tablet_fault s words
    else if bytes_eq head (codes "start") then started_fault s words
    else None

abbrev pub place_fault : Script → List (List ℕ) → Option Fault
place_fault s [] = None
place_fault s (head ∷ words) = earlier (late_fault s head) (known_fault s head words)

-- a line that says something, by its words
abbrev pub told_fault : Script → List (List ℕ) → Option Fault
told_fault s words = if say_nothing words then None else earlier (words_fault words) (place_fault s words)

-- The fault of a line that may not stand behind the script so far: the first in order. Where it has none of the others, something is not declared.
unfoldable pub fault_of : Script → List ℕ → Fault
fault_of s bytes = unwrap_or (earlier (bytes_fault bytes) (told_fault s (words_of bytes))) Undeclared

-- ---- the fault of the first line that may not stand there

-- behind the last line the text is too long
abbrev pub fault_on : ℕ → Script → List (List ℕ) → Fault
fault_on place s [] = Limit
fault_on place s (l ∷ ls) =
    if nat_lt 20000 place then Limit
    else elim (with_bytes s l) [ None ↦ fault_of s l | Some t ↦ fault_on (place + 1) t ls ]

abbrev pub fault_in : List (List ℕ) → Fault
fault_in lines = fault_on 1 empty_script lines

-- the fault of a text that is no script
unfoldable pub first_fault : List ℕ → Fault
first_fault text =
    if nat_le (length text) 1048576 then fault_in (lines_of text) else fault_in (ended_lines (first_bytes text))

abbrev pub FrontDecidesFault : Type 0
FrontDecidesFault = (text : List ℕ) → first_fault text ≡ first_fault (front text)

-- ---- what the reader answers

-- the script with one more line, or the same as before where there is none
abbrev pub IsAdded : Script → Result Script Script → Option Script → Type 0
IsAdded before (Ok s) o = o ≡ Some s
IsAdded before (Err same) o = (o ≡ None) × (same ≡ before)

-- the script with one more line, or the fault where there is none
abbrev pub IsRead : Result Script Fault → Option Script → Fault → Type 0
IsRead (Ok s) o f = o ≡ Some s
IsRead (Err fault) o f = (o ≡ None) × (fault ≡ f)

-- one line that has this place
abbrev pub line_reading : ℕ → Script → List ℕ → Result Script ℕ
line_reading place s l = if nat_lt 20000 place then Err place else elim (with_bytes s l) [ None ↦ Err place | Some t ↦ Ok t ]

abbrev pub line_fault : ℕ → Script → List ℕ → Fault
line_fault place s l = if nat_lt 20000 place then Limit else fault_of s l

-- what a reader returned is this, or the place and the fault are these, unless memory ran out
abbrev pub Gives : Result Script ScriptFault → Result Script ℕ → Fault → Type 0
Gives (Ok s) r f = r ≡ Ok s
Gives (Err (faults.Line place fault)) r f = (r ≡ Err place) × (fault ≡ f)
Gives (Err faults.OutOfMemory) r f = ⊤

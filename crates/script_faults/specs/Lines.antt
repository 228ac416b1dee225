-- What is wrong with the words of a line, whatever lines stand before it.
use Rattle.std.specs.Prelude.{ℕ, List, [], ◌∷◌, Bool, ◌&&◌, ◌||◌, nat_le, Option, Some, None, if◌then◌else◌, length, codes}
use Rattle.std.specs.Str.{bytes_eq}
use Rattle.script_faults.specs.declared.fault.Fault.{Fault}
use Rattle.script_faults.specs.declared.fault.Fault.TheVariants.{Unknown, OtherMode, Malformed, BadAlias}
use Rattle.script_faults.specs.declared.slot.Slot.TheVariants as slots
use Rattle.script_faults.specs.Faults.{earlier}
use Rattle.script_faults.specs.Slots.{slot_fault, words_fault}
use Rattle.script_faults.specs.Options.{planned_fault, emergency_fault}

-- ---- commands

-- `write N`, or `write N to ALIAS`, with the most that N may be
abbrev pub write_fault : ℕ → List (List ℕ) → Option Fault
write_fault most words =
    if nat_le (length words) 1 then words_fault (slots.Writes most ∷ []) words
    else words_fault (slots.Writes most ∷ slots.To ∷ slots.Tablet ∷ []) words

-- whether the word is that of a command of one tablet, or of the shard
abbrev pub names_tablet : List ℕ → Bool
names_tablet head = bytes_eq head (codes "show") || bytes_eq head (codes "TabletExternallyReparented")

abbrev pub names_shard : List ℕ → Bool
names_shard head = bytes_eq head (codes "GetShard") || bytes_eq head (codes "GetTablets")

abbrev pub short_command_fault : List ℕ → List (List ℕ) → Option Fault
short_command_fault head words =
    if names_tablet head then words_fault (slots.Tablet ∷ []) words
    else if names_shard head then words_fault (slots.Shard ∷ []) words
    else if bytes_eq head (codes "vtorc") then words_fault [] words
    else Some Unknown

-- of a command with these words behind its first, and with the most writes that it may ask for
abbrev pub command_fault : ℕ → List ℕ → List (List ℕ) → Option Fault
command_fault most head words =
    if bytes_eq head (codes "PlannedReparentShard") then planned_fault words
    else if bytes_eq head (codes "EmergencyReparentShard") then emergency_fault words
    else if bytes_eq head (codes "write") then write_fault most words
    else short_command_fault head words

-- ---- lines

-- a command that is given once, for which a word is lacking if there is none
abbrev pub given_once_fault : List (List ℕ) → Option Fault
given_once_fault [] = Some Malformed
given_once_fault (head ∷ words) = command_fault 1 head words

-- of the words behind `start`
abbrev pub start_fault : List (List ℕ) → Option Fault
start_fault [] = Some Malformed
start_fault (name ∷ words) = earlier (slot_fault slots.Actor name) (given_once_fault words)

-- a link has an end that is a tablet
abbrev pub ends_fault : List (List ℕ) → Option Fault
ends_fault [] = None
ends_fault (x ∷ []) = None
ends_fault (x ∷ y ∷ words) = if bytes_eq x (codes "control") && bytes_eq y (codes "control") then Some BadAlias else None

-- of the words behind `cut` and `mend`
abbrev pub link_fault : List (List ℕ) → Option Fault
link_fault words = earlier (words_fault (slots.Side ∷ slots.Side ∷ []) words) (ends_fault words)

abbrev pub is_link : List ℕ → Bool
is_link head = bytes_eq head (codes "cut") || bytes_eq head (codes "mend")

-- such lines stand in the blocks of several threads, and in histories
abbrev pub is_of_other_mode : List ℕ → Bool
is_of_other_mode head = bytes_eq head (codes "actor") || bytes_eq head (codes "end") || bytes_eq head (codes "history")

abbrev pub declaration_fault : List ℕ → List (List ℕ) → Option Fault
declaration_fault head words =
    if bytes_eq head (codes "shard") then words_fault (slots.Shard ∷ slots.Policy ∷ []) words
    else if bytes_eq head (codes "tablet") then words_fault (slots.Tablet ∷ slots.Kind ∷ slots.Server ∷ []) words
    else if bytes_eq head (codes "clock") then words_fault (slots.Moment ∷ []) words
    else if is_of_other_mode head then Some OtherMode
    else command_fault 10000 head words

abbrev pub message_fault : List ℕ → List (List ℕ) → Option Fault
message_fault head words =
    if bytes_eq head (codes "lose") || bytes_eq head (codes "repeat") then words_fault (slots.Number ∷ []) words
    else if bytes_eq head (codes "lapse") || bytes_eq head (codes "settle") then words_fault [] words
    else if bytes_eq head (codes "tick") then words_fault (slots.Duration ∷ []) words
    else declaration_fault head words

abbrev pub head_fault : List ℕ → List (List ℕ) → Option Fault
head_fault head words =
    if bytes_eq head (codes "start") then start_fault words
    else if bytes_eq head (codes "turn") then words_fault (slots.Actor ∷ slots.Pumps ∷ []) words
    else if bytes_eq head (codes "finish") then words_fault (slots.Actor ∷ []) words
    else if bytes_eq head (codes "local") || bytes_eq head (codes "restart") then words_fault (slots.Tablet ∷ []) words
    else if bytes_eq head (codes "crash") then words_fault (slots.Tablet ∷ slots.Keep ∷ slots.Number ∷ []) words
    else if is_link head then link_fault words
    else message_fault head words

-- of the words of a line
abbrev pub line_fault : List (List ℕ) → Option Fault
line_fault [] = None
line_fault (head ∷ words) = head_fault head words

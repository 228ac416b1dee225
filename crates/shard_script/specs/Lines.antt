-- The lines of a script, one by one: words parted by spaces and tabs, with the names and UUIDs of the Vitess manual's commands.
use Rattle.std.specs.Prelude.{ℕ, List, [], ◌∷◌, ◌==◌, Bool, true, false, ◌&&◌, ◌||◌, not, nat_le, filter, Option, Some, None, if◌then◌else◌, length, slice_index_or, find, codes}
use Rattle.std.specs.List.{slice_split, list_all}
use Rattle.std.specs.Result.{result_ok}
use Rattle.std.specs.Str.{bytes_eq}
use Rattle.uuid.specs.Text.{parsed}
use Rattle.shard_base.specs.Options.{◌>>=◌, only_if}
use Rattle.shard_names.specs.Alias.{alias_reading}
use Rattle.shard_names.specs.ShardName.{shard_name_reading}
use Rattle.shard_names.specs.declared.tablet.TabletType.{TabletType}
use Rattle.shard_names.specs.declared.tablet.TabletType.TheVariants.{Replica, Rdonly, Spare}
use Rattle.durability.specs.declared.policy.Durability.{Durability}
use Rattle.durability.specs.declared.policy.Durability.TheVariants as policies
use Rattle.durability.specs.Policies.{policy_name}
use Rattle.shard_calls.specs.declared.event.Link.{Link}
use Rattle.shard_calls.specs.declared.event.Side.{Side}
use Rattle.shard_calls.specs.declared.event.Side.TheVariants as sides
use Rattle.script_commands.specs.declared.command.Given.{Given}
use Rattle.shard_script.specs.declared.line.Line.{Line}
use Rattle.shard_script.specs.declared.line.Line.TheVariants.{Shard, Tablet, Clock, Act}
use Rattle.shard_script.specs.declared.script.Action.TheVariants.{Play, Start, Turn, Finish, Settle, Local, Crash, Restart, Cut, Mend, Lose, Repeat, Lapse, Tick}
use Rattle.script_commands.specs.Moments.{moment_reading}
use Rattle.script_commands.specs.Numbers.{number_reading, number_within, duration_reading}
use Rattle.script_commands.specs.Words.{name_reading, server_reading, kind_reading, policy_reading, side_reading}
use Rattle.shard_script.specs.Aliases.{are_ends}
use Rattle.script_commands.specs.Commands.{word, command_of}

-- a space or a tab
abbrev pub is_blank : ℕ → Bool
is_blank b = (b == 32) || (b == 9)

-- the parts between single blanks
abbrev pub blank_parts : List ℕ → List (List ℕ)
blank_parts bytes = slice_split is_blank bytes

-- the words of a line, which are parted by blanks
abbrev pub words_of : List ℕ → List (List ℕ)
words_of bytes = filter (λ w. not (length w == 0)) (blank_parts bytes)

-- printable ASCII, or a tab
abbrev pub is_script_byte : ℕ → Bool
is_script_byte b = (nat_le 32 b && nat_le b 126) || (b == 9)

-- at most 1,024 bytes
abbrev pub is_short : List ℕ → Bool
is_short line = nat_le (length line) 1024

-- and all of them printable ASCII or tabs
abbrev pub is_plain : List ℕ → Bool
is_plain line = is_short line && list_all is_script_byte line

-- a comment's first word begins with `#`
abbrev pub begins_comment : List ℕ → Bool
begins_comment [] = false
begins_comment (b ∷ bs) = b == 35

-- whether words say nothing: there are none, or they are a comment
abbrev pub say_nothing : List (List ℕ) → Bool
say_nothing [] = true
say_nothing (w ∷ ws) = begins_comment w

-- `shard K/S POLICY`
unfoldable pub shard_line : List ℕ → List ℕ → Option Line
shard_line name policy = do
  n ← shard_name_reading name
  p ← policy_reading policy
  Some (Shard n p)

-- `tablet ALIAS TYPE UUID`
unfoldable pub tablet_line : List ℕ → List ℕ → List ℕ → Option Line
tablet_line alias kind server = do
  a ← result_ok (alias_reading alias)
  k ← kind_reading kind
  s ← server_reading server
  Some (Tablet (record { alias = a; server = s; kind = k }))

-- `clock MOMENT`
unfoldable pub clock_line : List ℕ → Option Line
clock_line moment = moment_reading moment >>= (λ m. Some (Clock m))

-- COMMAND
unfoldable pub play_line : Option Given → Option Line
play_line given = given >>= (λ g. Some (Act (Play g.command g.count)))

-- `start NAME COMMAND`
unfoldable pub start_line : List ℕ → Option Given → Option Line
start_line name given = do
  n ← name_reading name
  g ← given
  only_if (g.count == 1) (Act (Start n g.command))

-- `turn NAME K`
unfoldable pub turn_line : List ℕ → List ℕ → Option Line
turn_line name pumps = do
  n ← name_reading name
  k ← number_within 1 1000000 pumps
  Some (Act (Turn n k))

-- `finish NAME`
unfoldable pub finish_line : List ℕ → Option Line
finish_line name = name_reading name >>= (λ n. Some (Act (Finish n)))

-- `tick DURATION`
unfoldable pub tick_line : List ℕ → Option Line
tick_line duration = duration_reading duration >>= (λ n. Some (Act (Tick n)))

-- `local ALIAS`
unfoldable pub local_line : List ℕ → Option Line
local_line alias = result_ok (alias_reading alias) >>= (λ a. Some (Act (Local a)))

-- `crash ALIAS keep N`
unfoldable pub crash_line : List ℕ → List ℕ → List ℕ → Option Line
crash_line alias keep count = if bytes_eq keep (codes "keep")
    then (do
      a ← result_ok (alias_reading alias)
      n ← number_reading count
      Some (Act (Crash a n))) else None

-- `restart ALIAS`
unfoldable pub restart_line : List ℕ → Option Line
restart_line alias = result_ok (alias_reading alias) >>= (λ a. Some (Act (Restart a)))

-- two ends of a link
unfoldable pub link_reading : List ℕ → List ℕ → Option Link
link_reading a b = do
  x ← side_reading a
  y ← side_reading b
  only_if (are_ends x y) (record { x = x; y = y })

-- `cut A B`
unfoldable pub cut_line : List ℕ → List ℕ → Option Line
cut_line a b = link_reading a b >>= (λ l. Some (Act (Cut l.x l.y)))

-- `mend A B`
unfoldable pub mend_line : List ℕ → List ℕ → Option Line
mend_line a b = link_reading a b >>= (λ l. Some (Act (Mend l.x l.y)))

-- `lose K`
unfoldable pub lose_line : List ℕ → Option Line
lose_line message = number_reading message >>= (λ k. Some (Act (Lose k)))

-- `repeat K`
unfoldable pub repeat_line : List ℕ → Option Line
repeat_line message = number_reading message >>= (λ k. Some (Act (Repeat k)))

-- ---- by the first word, and by the number of words

abbrev pub one_word : List ℕ → Option Line
one_word head =
    if bytes_eq head (codes "lapse") then Some (Act Lapse)
    else if bytes_eq head (codes "settle") then Some (Act Settle)
    else None

-- what is done to a tablet or a message
abbrev pub tablet_or_message : List ℕ → List ℕ → Option Line
tablet_or_message head a =
    if bytes_eq head (codes "local") then local_line a
    else if bytes_eq head (codes "restart") then restart_line a
    else if bytes_eq head (codes "lose") then lose_line a
    else if bytes_eq head (codes "repeat") then repeat_line a
    else None

abbrev pub two_words : List ℕ → List ℕ → Option Line
two_words head a =
    if bytes_eq head (codes "clock") then clock_line a
    else if bytes_eq head (codes "finish") then finish_line a
    else if bytes_eq head (codes "tick") then tick_line a
    else tablet_or_message head a

abbrev pub three_words : List ℕ → List ℕ → List ℕ → Option Line
three_words head a b =
    if bytes_eq head (codes "shard") then shard_line a b
    else if bytes_eq head (codes "turn") then turn_line a b
    else if bytes_eq head (codes "cut") then cut_line a b
    else if bytes_eq head (codes "mend") then mend_line a b
    else None

abbrev pub four_words : List ℕ → List ℕ → List ℕ → List ℕ → Option Line
four_words head a b c =
    if bytes_eq head (codes "tablet") then tablet_line a b c
    else if bytes_eq head (codes "crash") then crash_line a b c
    else None

-- a line that gives no command
abbrev pub plain_line : List ℕ → List (List ℕ) → Option Line
plain_line head words =
    if length words == 0 then one_word head
    else if length words == 1 then two_words head (word words 0)
    else if length words == 2 then three_words head (word words 0) (word words 1)
    else if length words == 3 then four_words head (word words 0) (word words 1) (word words 2)
    else None

-- whether a command begins with this word
abbrev pub begins_command : List ℕ → Bool
begins_command head =
    bytes_eq head (codes "PlannedReparentShard") || bytes_eq head (codes "EmergencyReparentShard") || bytes_eq head (codes "TabletExternallyReparented")
    || bytes_eq head (codes "vtorc") || bytes_eq head (codes "write") || bytes_eq head (codes "show") || bytes_eq head (codes "GetShard") || bytes_eq head (codes "GetTablets")

-- `start` and these words behind it: a name, and a command
abbrev pub started_line : List (List ℕ) → Option Line
started_line [] = None
started_line (name ∷ words) = start_line name (command_of words)

unfoldable pub line_of_words : List (List ℕ) → Option Line
line_of_words [] = None
line_of_words (head ∷ words) =
    if bytes_eq head (codes "start") then started_line words
    else if begins_command head then play_line (command_of (head ∷ words))
    else plain_line head words

-- the line that bytes spell
abbrev pub line_of : List ℕ → Option Line
line_of bytes = line_of_words (words_of bytes)

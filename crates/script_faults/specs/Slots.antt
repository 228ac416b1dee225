-- What may stand at a place of a line, and what is wrong with a word that stands there.
use Rattle.std.specs.Prelude.{ℕ, List, [], ◌∷◌, ◌&&◌, nat_le, Option, Some, None, is_some, if◌then◌else◌, codes}
use Rattle.std.specs.Result.{result_ok}
use Rattle.std.specs.Str.{bytes_eq}
use Rattle.shard_names.specs.Alias.{alias_reading}
use Rattle.shard_names.specs.ShardName.{shard_name_reading}
use Rattle.script_commands.specs.Moments.{is_moment, moment_reading}
use Rattle.script_commands.specs.Numbers.{number_reading, number_within, is_duration, duration_reading}
use Rattle.script_commands.specs.Words.{name_reading, server_reading, kind_reading, policy_reading, side_reading}
use Rattle.script_faults.specs.declared.fault.Fault.{Fault}
use Rattle.script_faults.specs.declared.fault.Fault.TheVariants.{Limit, Unknown, Malformed, BadAlias, UnknownPolicy, BadServer, BadTime}
use Rattle.script_faults.specs.declared.slot.Slot.{Slot}
use Rattle.script_faults.specs.declared.slot.Slot.TheVariants as slots
use Rattle.script_faults.specs.Faults.{earlier, unless}

-- a duration that is read has no fault; one that is only too long passes a limit
abbrev pub duration_fault : List ℕ → Option Fault
duration_fault text =
    if is_some (duration_reading text) then None else if is_duration text then Some Limit else Some BadTime

-- a moment that a clock may begin with has no fault; one in other years passes a limit
abbrev pub moment_fault : List ℕ → Option Fault
moment_fault text = if is_some (moment_reading text) then None else if is_moment text then Some Limit else Some BadTime

-- a count of writes is from 1 to the most, and above 10,000 it passes a limit
abbrev pub count_fault : ℕ → ℕ → Option Fault
count_fault most n = if nat_le n 10000 then unless (nat_le 1 n && nat_le n most) Malformed else Some Limit

unfoldable pub writes_fault : ℕ → List ℕ → Option Fault
writes_fault most text = elim (number_reading text) [ None ↦ Some Malformed | Some n ↦ count_fault most n ]

abbrev pub slot_fault : Slot → List ℕ → Option Fault
slot_fault slots.Shard text = unless (is_some (shard_name_reading text)) Malformed
slot_fault slots.Policy text = unless (is_some (policy_reading text)) UnknownPolicy
slot_fault slots.Tablet text = unless (is_some (result_ok (alias_reading text))) BadAlias
slot_fault slots.Kind text = unless (is_some (kind_reading text)) Unknown
slot_fault slots.Server text = unless (is_some (server_reading text)) BadServer
slot_fault slots.Moment text = moment_fault text
slot_fault slots.Actor text = unless (is_some (name_reading text)) Malformed
slot_fault slots.Pumps text = unless (is_some (number_within 1 1000000 text)) Malformed
slot_fault slots.Number text = unless (is_some (number_reading text)) Malformed
slot_fault (slots.Writes most) text = writes_fault most text
slot_fault slots.Duration text = duration_fault text
slot_fault slots.Side text = unless (is_some (side_reading text)) BadAlias
slot_fault slots.Keep text = unless (bytes_eq text (codes "keep")) Unknown
slot_fault slots.To text = unless (bytes_eq text (codes "to")) Unknown

-- The fault of words, each at its place. A word too few or too many is malformed.
abbrev pub words_fault : List Slot → List (List ℕ) → Option Fault
words_fault [] [] = None
words_fault [] (w ∷ ws) = Some Malformed
words_fault (p ∷ ps) [] = Some Malformed
words_fault (p ∷ ps) (w ∷ ws) = earlier (slot_fault p w) (words_fault ps ws)

-- What is wrong with the words behind a reparent's name: its options and the shard, as vtctldclient (Vitess manual) has them. Every word is looked at,
-- also behind one with a fault.
use Rattle.std.specs.Prelude.{ℕ, ◌+◌, List, [], ◌∷◌, ◌==◌, Bool, true, false, ◌&&◌, ◌||◌, not, Option, Some, None, is_some, is_none, if◌then◌else◌, take, drop, codes}
use Rattle.std.specs.List.{list_all}
use Rattle.std.specs.Result.{result_ok}
use Rattle.std.specs.Str.{bytes_eq}
use Rattle.shard_names.specs.Alias.{alias_reading}
use Rattle.shard_names.specs.ShardName.{shard_name_reading}
use Rattle.script_commands.specs.declared.options.Key.{Key}
use Rattle.script_commands.specs.declared.options.Key.TheVariants.{NewPrimary, Avoid, Ignored, Expected, Timeout}
use Rattle.script_commands.specs.Options.{parts_of, begins_dash, begins_short, key_reading, equals_place}
use Rattle.script_faults.specs.declared.fault.Fault.{Fault}
use Rattle.script_faults.specs.declared.fault.Fault.TheVariants.{Malformed, BadAlias}
use Rattle.script_faults.specs.declared.options.Marks.{Marks}
use Rattle.script_faults.specs.declared.slot.Slot.TheVariants as slots
use Rattle.script_faults.specs.Faults.{earlier, unless}
use Rattle.script_faults.specs.Slots.{slot_fault}

-- no word is looked at yet
abbrev pub no_marks : Marks
no_marks = record {
  fault = None;
  pending = None;
  ended = false;
  shard = false;
  new_primary = false;
  avoid = false;
  ignored = false;
  expected = false;
  timeout = false;
  allow_cross_cell = false;
  prevent_cross_cell = false;
}

-- with one more fault, if there is one
abbrev pub noted : Marks → Option Fault → Marks
noted m fault = record m { fault = earlier m.fault fault }

-- ---- values

-- whether the option is given
abbrev pub is_given : Marks → Key → Bool
is_given m NewPrimary = m.new_primary
is_given m Avoid = m.avoid
is_given m Ignored = m.ignored
is_given m Expected = m.expected
is_given m Timeout = m.timeout

-- the option is given, and none waits for its value
abbrev pub given : Marks → Key → Marks
given m NewPrimary = record m { pending = None; new_primary = true }
given m Avoid = record m { pending = None; avoid = true }
given m Ignored = record m { pending = None; ignored = true }
given m Expected = record m { pending = None; expected = true }
given m Timeout = record m { pending = None; timeout = true }

-- aliases with commas between them
abbrev pub are_aliases : List ℕ → Bool
are_aliases text = list_all (λ part. is_some (result_ok (alias_reading part))) (parts_of 44 text)

abbrev pub aliases_fault : List ℕ → Option Fault
aliases_fault text = unless (are_aliases text) BadAlias

abbrev pub value_fault : Key → List ℕ → Option Fault
value_fault NewPrimary text = slot_fault slots.Tablet text
value_fault Avoid text = slot_fault slots.Tablet text
value_fault Ignored text = aliases_fault text
value_fault Expected text = slot_fault slots.Tablet text
value_fault Timeout text = slot_fault slots.Duration text

-- a value does not begin with a dash, and its option is given once
abbrev pub given_fault : Marks → Key → List ℕ → Option Fault
given_fault m key text = earlier (unless (not (begins_dash text) && not (is_given m key)) Malformed) (value_fault key text)

unfoldable pub with_value : Marks → Key → List ℕ → Marks
with_value m key text = given (noted m (given_fault m key text)) key

-- ---- words

-- the shard's name
unfoldable pub with_shard : Marks → List ℕ → Marks
with_shard m word = record (noted m (unless (is_some (shard_name_reading word) && not m.shard) Malformed)) { shard = true }

abbrev pub with_allowed : Marks → Marks
with_allowed m = record (noted m (unless (not m.allow_cross_cell) Malformed)) { allow_cross_cell = true }

abbrev pub with_prevented : Marks → Marks
with_prevented m = record (noted m (unless (not m.prevent_cross_cell) Malformed)) { prevent_cross_cell = true }

-- an option whose value is the next word
abbrev pub waiting : Marks → Option Key → Marks
waiting m None = noted m (Some Malformed)
waiting m (Some key) = record m { pending = Some key }

-- an option without `=`
abbrev pub with_name : Marks → List ℕ → Marks
with_name m word =
    if bytes_eq word (codes "--allow-cross-cell-promotion") then with_allowed m
    else if bytes_eq word (codes "--prevent-cross-cell-promotion") then with_prevented m
    else waiting m (key_reading word)

-- `--x=v`, of which this is the place of the `=`
unfoldable pub with_pair : Marks → List ℕ → ℕ → Marks
with_pair m word place =
    elim (key_reading (take place word)) [ None ↦ noted m (Some Malformed) | Some key ↦ with_value m key (drop (place + 1) word) ]

-- what stands behind `-i`: nothing, `=` and the value, or the value
abbrev pub with_short : Marks → List ℕ → Marks
with_short m [] = record m { pending = Some Ignored }
with_short m (b ∷ bs) = if b == 61 then with_value m Ignored bs else with_value m Ignored (b ∷ bs)

abbrev pub with_option_at : Marks → List ℕ → Option ℕ → Marks
with_option_at m word None = with_name m word
with_option_at m word (Some place) = with_pair m word place

-- `--`, behind which no word is an option, or an option
unfoldable pub with_option : Marks → List ℕ → Marks
with_option m word =
    if bytes_eq word (codes "--") then record m { ended = true }
    else if begins_short word then with_short m (drop 2 word)
    else with_option_at m word (equals_place word)

-- a word that is no value
abbrev pub with_free_word : Marks → List ℕ → Marks
with_free_word m word = if m.ended || not (begins_dash word) then with_shard m word else with_option m word

-- the value of this option, if one waits for it
abbrev pub with_word_for : Marks → List ℕ → Option Key → Marks
with_word_for m word None = with_free_word m word
with_word_for m word (Some key) = with_value m key word

abbrev pub with_word : Marks → List ℕ → Marks
with_word m word = with_word_for m word m.pending

abbrev pub with_words : Marks → List (List ℕ) → Marks
with_words m [] = m
with_words m (word ∷ words) = with_words (with_word m word) words

-- no option waits for its value, and the shard is named
abbrev pub is_whole : Marks → Bool
is_whole m = is_none m.pending && m.shard

-- and none is of an emergency reparent alone
abbrev pub marks_planned_fault : Marks → Option Fault
marks_planned_fault m = earlier m.fault (unless (is_whole m && not m.ignored && not m.prevent_cross_cell) Malformed)

-- and none is of a planned reparent alone
abbrev pub marks_emergency_fault : Marks → Option Fault
marks_emergency_fault m = earlier m.fault (unless (is_whole m && not m.avoid && not m.allow_cross_cell) Malformed)

-- of the words behind `PlannedReparentShard`
abbrev pub planned_fault : List (List ℕ) → Option Fault
planned_fault words = marks_planned_fault (with_words no_marks words)

-- of the words behind `EmergencyReparentShard`
abbrev pub emergency_fault : List (List ℕ) → Option Fault
emergency_fault words = marks_emergency_fault (with_words no_marks words)

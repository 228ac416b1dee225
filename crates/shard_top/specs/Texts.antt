-- What is printed: what is told of a history, why a run stops, and what is said of words, scripts and sources that fail. The texts are vtshard's own.
use Rattle.std.specs.Prelude.{ℕ, List, [], ◌++◌, if◌then◌else◌, codes}
use Rattle.std.specs.Fmt.{decimal}
use Rattle.script_faults.specs.declared.fault.Fault.{Fault}
use Rattle.script_faults.specs.Faults.{code}
use Rattle.shard_calls.specs.declared.event.Step.{Step}
use Rattle.tablet_text.specs.Stands.{line}
use Rattle.vtctld_text.specs.Notes.{has_refusal_with, text_with}
use Rattle.vtctld_text.specs.Summary.{summary_text}
use Rattle.shard_calls.specs.declared.event.Note.{Note}
use Rattle.history_text.specs.Histories.{opening_text, step_lines}
use Rattle.vtctld_text.specs.Texts.{commands_of}
use Rattle.shard_script.specs.declared.script.Script.{Script}
use Rattle.shard_top.specs.Played.{begins_at}
use Rattle.shard_top.specs.declared.player.Stop.{Stop}
use Rattle.shard_top.specs.declared.player.Stop.TheVariants as stops
use Rattle.shard_top.specs.declared.words.Asked.{Asked}
use Rattle.shard_top.specs.declared.words.Asked.TheVariants as asks

-- ---- a history

-- what is told of the history of a script: all answers, or what is declared and a line for each step, or of a rehearsal the one line
abbrev pub told_of : Asked → Script → List Step → List Note → List ℕ
told_of asks.Step s steps notes = text_with steps notes
told_of asks.History s steps notes = opening_text s.shard s.policy s.tablets (begins_at s) ++ step_lines (commands_of steps) steps
told_of (asks.Gen rounds) s steps notes = summary_text rounds steps

-- ---- how a run stops

-- the command of this actor has nothing to do and has not ended
unfoldable pub blocked_text : List ℕ → List ℕ
blocked_text name = line (codes "blocked: " ++ name)

-- a further event, or a further note, would be more than a history has
unfoldable pub full_text : List ℕ
full_text = line (codes "too many events")

-- what is said of it, behind the answers
abbrev pub stop_text : Stop → List ℕ
stop_text stops.Over = []
stop_text (stops.Blocked name) = blocked_text name
stop_text stops.Full = full_text

-- the status of a history that was played to this stop
abbrev pub status_of : Stop → List Step → List Note → ℕ
status_of stops.Over steps notes = if has_refusal_with steps notes then 1 else 0
status_of (stops.Blocked name) steps notes = 7
status_of stops.Full steps notes = 8

-- ---- faults

unfoldable pub usage_text : List ℕ → List ℕ
usage_text word = line (codes "usage fault: " ++ word)

unfoldable pub fault_text : ℕ → Fault → List ℕ
fault_text place fault = line (codes "script fault: line " ++ decimal place ++ codes " code " ++ decimal (code fault))

unfoldable pub read_fault_text : List ℕ
read_fault_text = line (codes "read fault")

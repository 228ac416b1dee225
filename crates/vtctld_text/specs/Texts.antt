-- What is printed of a history: the answer of each command that ended. A command is named as for vtctldclient (Vitess manual), and a
-- transaction is printed as MySQL prints a GTID (MySQL 8.0 manual); the texts of the answers are vtshard's own.
use Rattle.std.specs.Prelude.{ℕ, List, [], ◌∷◌, ◌++◌, Bool, true, false, Option, Some, None, if◌then◌else◌, codes}
use Rattle.std.specs.Fmt.{decimal}
use Rattle.std.specs.List.{flat_map, list_any}
use Rattle.std.specs.Str.{bytes_eq}
use Rattle.shard_names.specs.Alias.{alias_text}
use Rattle.shard_names.specs.declared.alias.Alias.{Alias}
use Rattle.shard_names.specs.ShardName.{shard_name_text}
use Rattle.shard_names.specs.declared.shard_name.ShardName.{ShardName}
use Rattle.gtid_sets.specs.Gtid.{gtid_text}
use Rattle.gtid_sets.specs.Position.{Position}
use Rattle.gtid_sets.specs.SetText.{position_text}
use Rattle.gtid_sets.specs.declared.gtid.Gtid.{Gtid}
use Rattle.shard_calls.specs.declared.command.Command.{Command}
use Rattle.shard_calls.specs.declared.command.Command.TheVariants as commands
use Rattle.shard_calls.specs.declared.ending.CommandAnswer.{CommandAnswer}
use Rattle.shard_calls.specs.declared.ending.CommandAnswer.TheVariants as answers
use Rattle.shard_calls.specs.declared.analysis.Finding.{Finding}
use Rattle.shard_calls.specs.declared.ending.Left.{Left}
use Rattle.shard_calls.specs.declared.ending.NotJoined.{NotJoined}
use Rattle.shard_calls.specs.declared.ending.Rest.{Rest}
use Rattle.shard_calls.specs.declared.ending.Rest.TheVariants as rests
use Rattle.shard_calls.specs.declared.refusal.Refusal.{Refusal}
use Rattle.shard_calls.specs.declared.event.Event.{Event}
use Rattle.shard_calls.specs.declared.event.Event.TheVariants as events
use Rattle.shard_calls.specs.declared.event.Step.{Step}
use Rattle.shard_calls.specs.declared.stand.Standing.{Standing}
use Rattle.shard_calls.specs.World.{main_name, numbered}
use Rattle.vtctld_text.specs.declared.begun.Begun.{Begun}
use Rattle.tablet_text.specs.Stands.{line, in_term_text, stands_text, standing_text, left_text, not_joined_text}
use Rattle.tablet_text.specs.Refusals.{refusal_text, is_out_of_memory}
use Rattle.tablet_text.specs.Json.{shard_json, tablets_json}
use Rattle.vtctld_text.specs.Findings.{finding_text, first_found_text, found_behind}

-- ---- commands

-- the actor who gave the command, unless it is `main`
unfoldable pub prefix_text : List ℕ → List ℕ
prefix_text actor = if bytes_eq actor main_name then [] else codes "[" ++ actor ++ codes "] "

unfoldable pub planned_text : ShardName → List ℕ
planned_text shard = codes "PlannedReparentShard " ++ shard_name_text shard

unfoldable pub emergency_text : ShardName → List ℕ
emergency_text shard = codes "EmergencyReparentShard " ++ shard_name_text shard

unfoldable pub get_shard_text : ShardName → List ℕ
get_shard_text shard = codes "GetShard " ++ shard_name_text shard

unfoldable pub get_tablets_text : ShardName → List ℕ
get_tablets_text shard = codes "GetTablets " ++ shard_name_text shard

unfoldable pub external_text : Alias → List ℕ
external_text a = codes "TabletExternallyReparented " ++ alias_text a

unfoldable pub show_text : Alias → List ℕ
show_text a = codes "show " ++ alias_text a

-- the command's word, and the shard or the tablet that it was given; options are left out
abbrev pub command_text : Command → List ℕ
command_text (commands.Planned shard new_primary avoid expected timeout allow_cross_cell) = planned_text shard
command_text (commands.Emergency shard new_primary ignored expected timeout prevent_cross_cell) = emergency_text shard
command_text (commands.External a) = external_text a
command_text commands.Vtorc = codes "vtorc"
command_text (commands.Write to) = codes "write"
command_text (commands.Show a) = show_text a
command_text (commands.GetShard shard) = get_shard_text shard
command_text (commands.GetTablets shard) = get_tablets_text shard

-- what each line of an answer begins with
abbrev pub begin_text : Option Begun → List ℕ
begin_text None = []
begin_text (Some b) = prefix_text b.actor

-- what the first line of an answer begins with
unfoldable pub head_text : Option Begun → List ℕ
head_text None = []
head_text (Some b) = prefix_text b.actor ++ command_text b.command

-- ---- answers

unfoldable pub promoted_text : Alias → ℕ → List ℕ
promoted_text a term = codes "promoted " ++ in_term_text a term

unfoldable pub nothing_to_do_text : Alias → List ℕ
nothing_to_do_text a = codes "nothing to do, primary is " ++ alias_text a

unfoldable pub recorded_text : ℕ → List ℕ
recorded_text term = codes "recorded in term " ++ decimal term

-- whether the old primary got its place back, where that was tried
abbrev pub undo_text : Option Bool → List ℕ
undo_text None = []
undo_text (Some true) = codes "; undone"
undo_text (Some false) = codes "; not undone"

-- a command that runs out of memory tries nothing more, and its text says nothing of it
unfoldable pub refused_text : Refusal → Option Bool → List ℕ
refused_text refusal tried = codes "refused " ++ refusal_text refusal ++ (if is_out_of_memory refusal then [] else undo_text tried)

-- a transaction, and where and when it was written
unfoldable pub written_text : Gtid → Alias → ℕ → List ℕ
written_text g a term = gtid_text g ++ codes " on " ++ in_term_text a term

unfoldable pub committed_text : Gtid → Alias → ℕ → List ℕ
committed_text g a term = codes "committed " ++ written_text g a term

unfoldable pub not_primary_text : Alias → Standing → List ℕ
not_primary_text a stand = codes "not primary: " ++ stands_text a stand

unfoldable pub unknown_text : Gtid → Alias → ℕ → List ℕ
unknown_text g a term = codes "unknown " ++ written_text g a term

-- the tablet's alias stands in the command's text
unfoldable pub shown_text : Standing → Position → List ℕ
shown_text stand position = standing_text stand ++ codes ", position " ++ position_text position

-- what the first line of an answer says; that of a vtorc says what is amiss first
abbrev pub said_text : CommandAnswer → List ℕ
said_text (answers.Promoted a term left) = promoted_text a term
said_text (answers.NothingToDo a) = nothing_to_do_text a
said_text (answers.Recorded term) = recorded_text term
said_text (answers.Refused refusal tried) = refused_text refusal tried
said_text (answers.Vtorc findings rest) = first_found_text findings
said_text (answers.Committed g a term) = committed_text g a term
said_text (answers.NotPrimary a stand) = not_primary_text a stand
said_text answers.NoPrimaryRecorded = codes "no primary recorded"
said_text (answers.Unknown g a term) = unknown_text g a term
said_text (answers.Shown a stand position) = shown_text stand position
said_text (answers.Shard shard recorded) = shard_json shard recorded
said_text (answers.Tablets rows) = tablets_json rows

-- whether an answer is JSON, which is printed without the command
abbrev pub is_json : CommandAnswer → Bool
is_json (answers.Promoted a term left) = false
is_json (answers.NothingToDo a) = false
is_json (answers.Recorded term) = false
is_json (answers.Refused refusal tried) = false
is_json (answers.Vtorc findings rest) = false
is_json (answers.Committed g a term) = false
is_json (answers.NotPrimary a stand) = false
is_json answers.NoPrimaryRecorded = false
is_json (answers.Unknown g a term) = false
is_json (answers.Shown a stand position) = false
is_json (answers.Shard shard recorded) = true
is_json (answers.Tablets rows) = true

-- what stands before what a command says
abbrev pub says_text : Option Begun → List ℕ
says_text begun = head_text begun ++ codes ": "

-- what stands before what an answer says
abbrev pub lead_text : Option Begun → CommandAnswer → List ℕ
lead_text begun x = if is_json x then begin_text begun else says_text begun

unfoldable pub first_line : Option Begun → CommandAnswer → List ℕ
first_line begun x = line (lead_text begun x ++ said_text x)

-- a line for each of these tablets
abbrev pub left_lines : List ℕ → List NotJoined → List ℕ
left_lines begin left = flat_map (λ n. line (begin ++ not_joined_text n)) left

-- ---- what a vtorc did about what it found

unfoldable pub joined_text : Alias → Alias → List ℕ
joined_text a to = codes "joined " ++ alias_text a ++ codes " to " ++ alias_text to

-- the tablet was left as it was, and why
unfoldable pub left_alone_text : Alias → Left → List ℕ
left_alone_text a left = codes "left " ++ alias_text a ++ codes ": " ++ left_text left

unfoldable pub drained_text : Alias → List ℕ
drained_text a = codes "drained " ++ alias_text a

abbrev pub done_text : Rest → List ℕ
done_text (rests.Promoted a term left) = promoted_text a term
done_text (rests.Refused refusal tried) = refused_text refusal tried
done_text (rests.Joined a to) = joined_text a to
done_text (rests.Left a left) = left_alone_text a left
done_text (rests.Drained a) = drained_text a

-- the tablets that did not join a primary that it promoted
abbrev pub left_by : Rest → List NotJoined
left_by (rests.Promoted a term left) = left
left_by (rests.Refused refusal tried) = []
left_by (rests.Joined a to) = []
left_by (rests.Left a left) = []
left_by (rests.Drained a) = []

unfoldable pub finding_line : Option Begun → Finding → List ℕ
finding_line begun f = line (says_text begun ++ finding_text f)

-- a line, and behind it one for each tablet that did not join
unfoldable pub done_lines : Option Begun → Rest → List ℕ
done_lines begun r = line (says_text begun ++ done_text r) ++ left_lines (begin_text begun) (left_by r)

-- ---- a whole answer

-- What stands behind the first line: behind a promotion a line for each tablet that did not join; behind what a vtorc found first what else it
-- found, a line each, and then what it did about it.
abbrev pub further_lines : Option Begun → CommandAnswer → List ℕ
further_lines begun (answers.Promoted a term left) = left_lines (begin_text begun) left
further_lines begun (answers.NothingToDo a) = []
further_lines begun (answers.Recorded term) = []
further_lines begun (answers.Refused refusal tried) = []
further_lines begun (answers.Vtorc findings rest) = flat_map (finding_line begun) (found_behind findings) ++ flat_map (done_lines begun) rest
further_lines begun (answers.Committed g a term) = []
further_lines begun (answers.NotPrimary a stand) = []
further_lines begun answers.NoPrimaryRecorded = []
further_lines begun (answers.Unknown g a term) = []
further_lines begun (answers.Shown a stand position) = []
further_lines begun (answers.Shard shard recorded) = []
further_lines begun (answers.Tablets rows) = []

abbrev pub answer_text : Option Begun → CommandAnswer → List ℕ
answer_text begun x = first_line begun x ++ further_lines begun x

-- ---- a history

-- the commands that begin, in order
abbrev pub begun_by : Event → List Begun
begun_by (events.Begin name command) = record { actor = name; command = command } ∷ []
begun_by (events.Take c) = []
begun_by (events.Read c) = []
begun_by (events.Intend c a) = []
begun_by (events.Record c a) = []
begun_by (events.Drain c a) = []
begun_by (events.Release c) = []
begun_by events.Lapse = []
begun_by (events.Send c a call) = []
begun_by (events.Deliver k) = []
begun_by (events.GiveUp c k) = []
begun_by (events.Offer a) = []
begun_by (events.Write c a) = []
begun_by (events.Tell c) = []
begun_by (events.Local a) = []
begun_by (events.Crash a keep) = []
begun_by (events.Restart a) = []
begun_by (events.Cut x y) = []
begun_by (events.Mend x y) = []
begun_by (events.Lose k) = []
begun_by (events.Tick ms) = []
begun_by (events.End c x) = []

abbrev pub commands_of : List Step → List Begun
commands_of steps = flat_map (λ s. begun_by s.event) steps

-- of an End, the text of its answer to the command of that number
abbrev pub event_text : List Begun → Event → List ℕ
event_text commands (events.Begin name command) = []
event_text commands (events.Take c) = []
event_text commands (events.Read c) = []
event_text commands (events.Intend c a) = []
event_text commands (events.Record c a) = []
event_text commands (events.Drain c a) = []
event_text commands (events.Release c) = []
event_text commands events.Lapse = []
event_text commands (events.Send c a call) = []
event_text commands (events.Deliver k) = []
event_text commands (events.GiveUp c k) = []
event_text commands (events.Offer a) = []
event_text commands (events.Write c a) = []
event_text commands (events.Tell c) = []
event_text commands (events.Local a) = []
event_text commands (events.Crash a keep) = []
event_text commands (events.Restart a) = []
event_text commands (events.Cut x y) = []
event_text commands (events.Mend x y) = []
event_text commands (events.Lose k) = []
event_text commands (events.Tick ms) = []
event_text commands (events.End c x) = answer_text (numbered commands c) x

abbrev pub text_of : List Step → List ℕ
text_of steps = flat_map (λ s. event_text (commands_of steps) s.event) steps

-- whether what a vtorc did counts as refused: it was refused, or left a tablet as it was
abbrev pub is_setback : Rest → Bool
is_setback (rests.Promoted a term left) = false
is_setback (rests.Refused refusal tried) = true
is_setback (rests.Joined a to) = false
is_setback (rests.Left a left) = true
is_setback (rests.Drained a) = false

-- Whether an answer counts as refused: a refused reparent, a vtorc with a line of that kind, and a write that is not committed. What is shown
-- never is.
abbrev pub is_refused : CommandAnswer → Bool
is_refused (answers.Promoted a term left) = false
is_refused (answers.NothingToDo a) = false
is_refused (answers.Recorded term) = false
is_refused (answers.Refused refusal tried) = true
is_refused (answers.Vtorc findings rest) = list_any is_setback rest
is_refused (answers.Committed g a term) = false
is_refused (answers.NotPrimary a stand) = true
is_refused answers.NoPrimaryRecorded = true
is_refused (answers.Unknown g a term) = true
is_refused (answers.Shown a stand position) = false
is_refused (answers.Shard shard recorded) = false
is_refused (answers.Tablets rows) = false

abbrev pub refuses : Event → Bool
refuses (events.Begin name command) = false
refuses (events.Take c) = false
refuses (events.Read c) = false
refuses (events.Intend c a) = false
refuses (events.Record c a) = false
refuses (events.Drain c a) = false
refuses (events.Release c) = false
refuses events.Lapse = false
refuses (events.Send c a call) = false
refuses (events.Deliver k) = false
refuses (events.GiveUp c k) = false
refuses (events.Offer a) = false
refuses (events.Write c a) = false
refuses (events.Tell c) = false
refuses (events.Local a) = false
refuses (events.Crash a keep) = false
refuses (events.Restart a) = false
refuses (events.Cut x y) = false
refuses (events.Mend x y) = false
refuses (events.Lose k) = false
refuses (events.Tick ms) = false
refuses (events.End c x) = is_refused x

-- whether a command that ended was refused
abbrev pub has_refusal : List Step → Bool
has_refusal steps = list_any (λ s. refuses s.event) steps

-- The cause of an answer: what has to hold where a command ends with it, read off what it did and what its calls came to. Several may hold at once.
-- After the answers of PlannedReparentShard, EmergencyReparentShard and TabletExternallyReparented (Vitess manual); that a write whose primary was
-- replaced is neither committed nor refused is after Sougoumarane's "Consensus algorithms at scale".
use Rattle.std.specs.Prelude.{ℕ, Bool, true, false, not, ◌&&◌, ◌||◌, ◌==◌, List, [], ◌∷◌, map, filter, Option, Some, None, is_none, Result, Ok, Err, if◌then◌else◌}
use Rattle.std.specs.List.{list_any, flat_map}
use Rattle.std.specs.Str.{bytes_eq}
use Rattle.shard_base.specs.Options.{◌>>=◌}
use Rattle.shard_names.specs.declared.alias.Alias.{Alias}
use Rattle.shard_names.specs.declared.shard_name.ShardName.{ShardName}
use Rattle.shard_names.specs.declared.tablet.Tablet.{Tablet}
use Rattle.shard_names.specs.declared.tablet.TabletType.{TabletType}
use Rattle.shard_names.specs.declared.tablet.TabletType.TheVariants as types
use Rattle.shard_names.specs.Tablets.{alias_eq, is_among}
use Rattle.gtid_sets.specs.Gtid.{gtid_eq}
use Rattle.gtid_sets.specs.declared.gtid.Gtid.{Gtid}
use Rattle.gtid_sets.specs.Position.{Position, covers}
use Rattle.topo_lock.specs.declared.intent.Intent.{Intent}
use Rattle.topo_lock.specs.declared.intent.Record.{Record}
use Rattle.shard_calls.specs.declared.answer.Answer.{Answer}
use Rattle.shard_calls.specs.declared.answer.Answer.TheVariants as says
use Rattle.shard_calls.specs.declared.command.Command.{Command}
use Rattle.shard_calls.specs.declared.command.Command.TheVariants as commands
use Rattle.shard_calls.specs.declared.analysis.Finding.{Finding}
use Rattle.shard_calls.specs.declared.analysis.Status.{Status}
use Rattle.shard_calls.specs.declared.command.EmergencyOptions.{EmergencyOptions}
use Rattle.shard_calls.specs.declared.command.PlannedOptions.{PlannedOptions}
use Rattle.shard_calls.specs.declared.ending.CommandAnswer.{CommandAnswer}
use Rattle.shard_calls.specs.declared.ending.CommandAnswer.TheVariants as answers
use Rattle.shard_calls.specs.declared.ending.Left.{Left}
use Rattle.shard_calls.specs.declared.ending.Left.TheVariants as lefts
use Rattle.shard_calls.specs.declared.ending.NotJoined.{NotJoined}
use Rattle.shard_calls.specs.declared.ending.Rest.{Rest}
use Rattle.shard_calls.specs.declared.ending.Rest.TheVariants as lines
use Rattle.shard_calls.specs.declared.ending.ShownType.{ShownType}
use Rattle.shard_calls.specs.declared.ending.ShownType.TheVariants as shown_types
use Rattle.shard_calls.specs.declared.ending.TabletRow.{TabletRow}
use Rattle.shard_calls.specs.declared.event.Seen.{Seen}
use Rattle.shard_calls.specs.declared.group.Group.{Group}
use Rattle.shard_calls.specs.declared.refusal.Bar.{Bar}
use Rattle.shard_calls.specs.declared.refusal.Bar.TheVariants as bars
use Rattle.shard_calls.specs.declared.refusal.NotStopped.{NotStopped}
use Rattle.shard_calls.specs.declared.refusal.Reason.{Reason}
use Rattle.shard_calls.specs.declared.refusal.Reason.TheVariants as reasons
use Rattle.shard_calls.specs.declared.refusal.Refusal.{Refusal}
use Rattle.shard_calls.specs.declared.refusal.Refusal.TheVariants as refusals
use Rattle.shard_calls.specs.declared.refusal.Rejected.{Rejected}
use Rattle.shard_calls.specs.declared.refusal.Unacked.{Unacked}
use Rattle.shard_calls.specs.declared.refusal.Unacked.TheVariants as unackeds
use Rattle.shard_calls.specs.declared.refusal.Unreached.{Unreached}
use Rattle.shard_calls.specs.declared.refusal.Unreached.TheVariants as unreacheds
use Rattle.shard_calls.specs.declared.span.Asked.{Asked}
use Rattle.shard_calls.specs.declared.span.Deed.{Deed}
use Rattle.shard_calls.specs.declared.span.Deed.TheVariants as deeds
use Rattle.shard_calls.specs.declared.span.Kind.{Kind}
use Rattle.shard_calls.specs.declared.span.Kind.TheVariants as kinds
use Rattle.shard_calls.specs.declared.span.Outcome.{Outcome}
use Rattle.shard_calls.specs.declared.span.Outcome.TheVariants.{Answered, GivenUp}
use Rattle.shard_calls.specs.declared.stand.Standing.{Standing}
use Rattle.shard_calls.specs.declared.stand.Standing.TheVariants as standings
use Rattle.shard_calls.specs.declared.state.Act.{Act}
use Rattle.shard_calls.specs.declared.state.Act.TheVariants as acts
use Rattle.shard_calls.specs.declared.state.CommandState.{CommandState}
use Rattle.shard_calls.specs.declared.state.Shown.{Shown}
use Rattle.shard_calls.specs.declared.state.Wrote.{Wrote}
use Rattle.shard_calls.specs.declared.why.Why.{Why}
use Rattle.shard_calls.specs.declared.why.Why.TheVariants as whys
use Rattle.shard_calls.specs.Analysis.{Statuses, analysed, finds, is_orphaned, is_urgent, problems}
use Rattle.shard_calls.specs.Choosing.{are_settled, candidates, first_of, follower, outcome_of}
use Rattle.shard_calls.specs.Commands.{planned_with, emergency_with}
use Rattle.shard_calls.specs.Kinds.{kind_eq}
use Rattle.shard_calls.specs.Refusals.{refusal_after, refusal_by_demoted, refusal_by_seen, refusal_by_topology, refusal_of_crossing, refusal_of_emergency, refusal_of_planned, refusal_of_undeclared, term_of_promoted}
use Rattle.shard_calls.specs.Rescuing.{heeded, refusal_of_unrevoked, rescuer, stale_in, winner_of}
use Rattle.shard_calls.specs.Same.{findings_eq, lines_eq, not_joined_eq, position_eq, record_or_none_eq, refusal_eq, rows_eq, shard_name_eq, standing_eq}
use Rattle.shard_calls.specs.Spans.{span_in}
use Rattle.shard_calls.specs.Stands.{is_primary_of, standing_of}
use Rattle.shard_calls.specs.World.{Config, World, group_of}

-- whether it is this one, if there is one
abbrev pub is_this : Refusal → Option Refusal → Bool
is_this r None = false
is_this r (Some x) = refusal_eq x r

abbrev pub is_err_of : {A : Type 0} → Refusal → Result A Refusal → Bool
is_err_of r (Ok x) = false
is_err_of r (Err x) = refusal_eq x r

abbrev pub is_some_of : Option ℕ → ℕ → Bool
is_some_of None n = false
is_some_of (Some m) n = m == n

-- ---- what refuses a reparent

-- the refusal by a call of such a kind
abbrev pub refusal_of_asked : (Kind → Bool) → Asked → Option Refusal
refusal_of_asked needed x = if needed x.kind then x.outcome >>= refusal_after x else None

abbrev pub refusal_by_call : (Kind → Bool) → Deed → Option Refusal
refusal_by_call needed (deeds.Asked x) = refusal_of_asked needed x
refusal_by_call needed _ = None

-- such a call refuses the command so
abbrev pub call_refuses : (Kind → Bool) → Refusal → List Deed → Bool
call_refuses needed r span = list_any (λ d. is_this r (refusal_by_call needed d)) span

abbrev pub topology_refuses : Refusal → List Deed → Bool
topology_refuses r span = list_any (λ d. is_this r (refusal_by_topology d)) span

-- what was read of the topology passes this
abbrev pub read_passes : (Seen → Bool) → Deed → Bool
read_passes test (deeds.Read (Ok seen)) = test seen
read_passes test _ = false

abbrev pub any_read : (Seen → Bool) → List Deed → Bool
any_read test span = list_any (read_passes test) span

abbrev pub is_call : Kind → Deed → Bool
is_call kind (deeds.Asked x) = kind_eq x.kind kind
is_call kind _ = false

-- the calls of one kind
abbrev pub calls_of : Kind → List Deed → List Deed
calls_of kind span = filter (is_call kind) span

-- what such a call of the tablet was answered passes this
abbrev pub outcome_passes : (Answer → Bool) → Option Outcome → Bool
outcome_passes test (Some (Answered answer)) = test answer
outcome_passes test _ = false

abbrev pub answer_passes : Kind → Alias → (Answer → Bool) → Deed → Bool
answer_passes kind a test (deeds.Asked x) = kind_eq x.kind kind && alias_eq x.alias a && outcome_passes test x.outcome
answer_passes kind a test _ = false

abbrev pub any_answer : Kind → Alias → (Answer → Bool) → List Deed → Bool
any_answer kind a test span = list_any (answer_passes kind a test) span

abbrev pub is_intended : Deed → Bool
is_intended (deeds.Intended a reply) = true
is_intended _ = false

-- what was done before this
abbrev pub before_first : (Deed → Bool) → List Deed → List Deed
before_first test [] = []
before_first test (d ∷ ds) = if test d then [] else d ∷ before_first test ds

-- ---- of a PlannedReparentShard

-- the calls for want of which it is refused before anything is undone
abbrev pub is_needed_by_planned : Kind → Bool
is_needed_by_planned kinds.Status = false
is_needed_by_planned kinds.Stop = false
is_needed_by_planned kinds.Demote = true
is_needed_by_planned kinds.Promote = true
is_needed_by_planned kinds.SetSource = false
is_needed_by_planned kinds.Feed = false
is_needed_by_planned kinds.WaitFor = false
is_needed_by_planned kinds.WaitTold = true

-- those by which a tablet catches up with the old primary
abbrev pub is_of_catching_up : Kind → Bool
is_of_catching_up kinds.Status = false
is_of_catching_up kinds.Stop = false
is_of_catching_up kinds.Demote = false
is_of_catching_up kinds.Promote = false
is_of_catching_up kinds.SetSource = true
is_of_catching_up kinds.Feed = false
is_of_catching_up kinds.WaitFor = true
is_of_catching_up kinds.WaitTold = false

-- the first tablet that it intended is this one, after it had told a tablet to replicate
abbrev pub intends_first : Alias → List Deed → Bool
intends_first a [] = false
intends_first a (deeds.Intended b reply ∷ ds) = alias_eq b a
intends_first a (d ∷ ds) = intends_first a ds

-- it tried to give the place back to the old primary
abbrev pub undoes : Alias → List Deed → Bool
undoes old span = list_any (is_call kinds.SetSource) (before_first is_intended span) && intends_first old span

abbrev pub is_undo_of : Option Intent → List Deed → Bool
is_undo_of None span = false
is_undo_of (Some i) span = undoes i.alias span

-- whether the old primary was promoted again
abbrev pub is_promoted_answer : Answer → Bool
is_promoted_answer (says.Promoted p) = true
is_promoted_answer _ = false

abbrev pub is_promoted_again : Alias → List Deed → Bool
is_promoted_again old span = any_answer kinds.Promote old is_promoted_answer span

-- by what it was told that was demoted
abbrev pub demoted_refuses : Intent → Refusal → Answer → Bool
demoted_refuses i r answer = is_this r (refusal_by_demoted i answer)

-- no tablet can follow the primary, by what all said that were asked, or the given one may not
abbrev pub following_refuses : Group → PlannedOptions → Refusal → List Deed → Seen → Intent → Option Alias → Bool
following_refuses g o r span seen i (Some c) = is_this r (refusal_of_crossing o.allow_cross_cell i.alias c)
following_refuses g o r span seen i None =
    are_settled (candidates g o.allow_cross_cell seen i.alias) (calls_of kinds.Status span)
    && is_err_of r (follower g o.allow_cross_cell seen i.alias (calls_of kinds.Status span))

abbrev pub intent_refuses : Group → PlannedOptions → Refusal → List Deed → Seen → Option Intent → Bool
intent_refuses g o r span seen None = is_none o.new_primary && is_err_of r (first_of g seen o.avoid)
intent_refuses g o r span seen (Some i) = following_refuses g o r span seen i o.new_primary || any_answer kinds.Demote i.alias (demoted_refuses i r) span

abbrev pub planned_seen_refuses : Group → PlannedOptions → Refusal → List Deed → Seen → Bool
planned_seen_refuses g o r span seen = is_this r (refusal_by_seen o.expected o.new_primary seen) || intent_refuses g o r span seen seen.intent

-- where nothing was undone
abbrev pub planned_refuses : Group → PlannedOptions → List Deed → Refusal → Bool
planned_refuses g o span r =
    is_this r (refusal_of_planned g o) || topology_refuses r span || any_read (planned_seen_refuses g o r span) span || call_refuses is_needed_by_planned r span

abbrev pub same_answer : Bool → Bool → Bool
same_answer b c = if b then c else not c

-- where it was tried to promote the old primary again
abbrev pub undo_refuses : List Deed → Refusal → Bool → Seen → Bool
undo_refuses span r undone seen = elim seen.intent [
  | None ↦ false
  | Some i ↦ undoes i.alias span && same_answer (is_promoted_again i.alias span) undone && call_refuses is_of_catching_up r (before_first is_intended span)
]

abbrev pub planned_is_refused : Group → PlannedOptions → List Deed → Refusal → Option Bool → Bool
planned_is_refused g o span r None = not (any_read (λ seen. is_undo_of seen.intent span) span) && planned_refuses g o span r
planned_is_refused g o span r (Some undone) = any_read (undo_refuses span r undone) span

-- another tablet is to be avoided than the primary
abbrev pub is_idle : Option Alias → Alias → Bool
is_idle None old = false
is_idle (Some a) old = not (alias_eq a old)

abbrev pub is_last_intended : Alias → Option Intent → Bool
is_last_intended a None = false
is_last_intended a (Some i) = alias_eq i.alias a

-- ---- of an EmergencyReparentShard

abbrev pub is_needed_by_emergency : Kind → Bool
is_needed_by_emergency kinds.Status = false
is_needed_by_emergency kinds.Stop = false
is_needed_by_emergency kinds.Demote = false
is_needed_by_emergency kinds.Promote = true
is_needed_by_emergency kinds.SetSource = false
is_needed_by_emergency kinds.Feed = true
is_needed_by_emergency kinds.WaitFor = true
is_needed_by_emergency kinds.WaitTold = true

abbrev pub is_set_source_kind : Kind → Bool
is_set_source_kind kind = kind_eq kind kinds.SetSource

abbrev pub stale_refuses : Refusal → List Deed → Bool
stale_refuses r stops = list_any (λ d. is_this r (stale_in d)) stops

abbrev pub rescue_refuses : Group → EmergencyOptions → Refusal → List Deed → Seen → Bool
rescue_refuses g o r stops seen = elim (winner_of g o seen stops) [
  | Err x ↦ refusal_eq x r
  | Ok w ↦ is_err_of r (rescuer g o seen stops w o.new_primary)
]

-- by all that were to be stopped
abbrev pub stops_refuse : Group → EmergencyOptions → Refusal → List Deed → List Deed → Bool
stops_refuse g o r stops span =
    are_settled (heeded g o.ignored) stops && (is_this r (refusal_of_unrevoked g o.ignored stops) || any_read (rescue_refuses g o r stops) span)

abbrev pub emergency_is_refused : Group → EmergencyOptions → List Deed → Refusal → Bool
emergency_is_refused g o span r =
    is_this r (refusal_of_emergency g o) || topology_refuses r span
    || any_read (λ seen. is_this r (refusal_by_seen o.expected o.new_primary seen)) span
    || stale_refuses r (calls_of kinds.Stop span) || stops_refuse g o r (calls_of kinds.Stop span) span
    || call_refuses is_set_source_kind r (before_first is_intended span) || call_refuses is_needed_by_emergency r span

-- ---- of a TabletExternallyReparented

abbrev pub is_status_kind : Kind → Bool
is_status_kind kind = kind_eq kind kinds.Status

abbrev pub is_not_promoted : Alias → Option Intent → Refusal → Answer → Bool
is_not_promoted a i r (says.Status seen promised stand newest p) = is_err_of r (term_of_promoted a newest i stand)
is_not_promoted a i r _ = false

abbrev pub external_is_refused : Group → Alias → List Deed → Refusal → Bool
external_is_refused g a span r =
    is_this r (refusal_of_undeclared g (Some a)) || topology_refuses r span || call_refuses is_status_kind r span
    || any_read (λ seen. any_answer kinds.Status a (is_not_promoted a seen.intent r) span) span

abbrev pub is_ok_of : ℕ → Result ℕ Refusal → Bool
is_ok_of t (Ok u) = u == t
is_ok_of t (Err r) = false

abbrev pub stands_promoted : Alias → Option Intent → ℕ → Answer → Bool
stands_promoted a i t (says.Status seen promised stand newest p) = is_ok_of t (term_of_promoted a newest i stand)
stands_promoted a i t _ = false

-- ---- of a promotion

abbrev pub is_told_answer : Answer → Bool
is_told_answer says.Told = true
is_told_answer _ = false

-- such a call of this term to this tablet was answered so
abbrev pub said_in : ℕ → Kind → Alias → (Answer → Bool) → Deed → Bool
said_in t kind a test (deeds.Asked x) = kind_eq x.kind kind && alias_eq x.alias a && (x.term == t) && outcome_passes test x.outcome
said_in t kind a test _ = false

abbrev pub any_said_in : ℕ → Kind → Alias → (Answer → Bool) → List Deed → Bool
any_said_in t kind a test span = list_any (said_in t kind a test) span

-- why a tablet that was asked to replicate does not
abbrev pub left_by : Outcome → Option Left
left_by (GivenUp why) = Some (lefts.GivenUp why)
left_by (Answered (says.Errant extra)) = Some (lefts.Errant extra)
left_by (Answered (says.StaleTerm seen)) = Some (lefts.StaleTerm seen)
left_by (Answered (says.PromisedAhead promised)) = Some (lefts.PromisedAhead promised)
left_by (Answered says.Joined) = None
left_by (Answered (says.Kept stand)) = None
left_by (Answered (says.Status seen promised stand newest p)) = None
left_by (Answered (says.Stopped newest p)) = None
left_by (Answered (says.Demoted newest p)) = None
left_by (Answered (says.Promoted p)) = None
left_by (Answered says.Feeding) = None
left_by (Answered says.Holds) = None
left_by (Answered says.Told) = None
left_by (Answered says.NotTold) = None
left_by (Answered (says.NotCaughtUp missing)) = None
left_by (Answered (says.NotStanding newest)) = None

abbrev pub entry_of : Alias → Option Left → List NotJoined
entry_of a None = []
entry_of a (Some left) = record { alias = a; left = left } ∷ []

abbrev pub entry_by : Alias → Option Outcome → List NotJoined
entry_by a None = []
entry_by a (Some o) = entry_of a (left_by o)

-- who did not join, by a call
abbrev pub not_joined : Deed → List NotJoined
not_joined (deeds.Asked x) = entry_by x.alias x.outcome
not_joined _ = []

-- the tablet was recorded
abbrev pub records_it : Alias → Deed → Bool
records_it a (deeds.Recorded b (Ok x)) = alias_eq b a
records_it a _ = false

-- after one of these the tablet was recorded, exactly these did not join
abbrev pub leaves_out : Alias → List NotJoined → List Deed → Bool
leaves_out a left [] = false
leaves_out a left (d ∷ later) = (records_it a d && not_joined_eq left (flat_map not_joined (calls_of kinds.SetSource later))) || leaves_out a left later

-- The tablet's promotion, in the term that the command took, was answered so and counts as committed, the command recorded it, and exactly these
-- did not join.
abbrev pub is_promoted : CommandState → List Deed → Alias → ℕ → List NotJoined → Bool
is_promoted s span a t left =
    is_some_of s.term t && any_said_in t kinds.Promote a is_promoted_answer span && any_said_in t kinds.WaitTold a is_told_answer span && leaves_out a left span

-- ---- of a vtorc

-- how a tablet stands that answered its Status
abbrev pub status_in : Option Outcome → Option Status
status_in (Some (Answered (says.Status seen promised stand newest p))) = Some (record { stand = stand; position = p })
status_in _ = None

-- what each tablet answered to the first of these calls of it
abbrev pub statuses : List Deed → Statuses
statuses done a = status_in (outcome_of done a)

-- what is amiss with each tablet, by the record and the marks right after it began, and by what the tablets answered
abbrev pub findings_of : Group → Seen → List Deed → List Finding
findings_of g seen done = analysed g seen.recorded seen.drained (statuses done)

abbrev pub joined_or_left : Alias → Alias → Option Left → Rest
joined_or_left p a None = lines.Joined a p
joined_or_left p a (Some left) = lines.Left a left

-- what came of the SetSource of a tablet
abbrev pub line_of_call : Alias → Alias → Option Outcome → List Rest
line_of_call p a None = []
line_of_call p a (Some o) = joined_or_left p a (left_by o) ∷ []

-- what came of a repair beside the primary p
abbrev pub line_of : Alias → Deed → List Rest
line_of p (deeds.Took (Err held)) = lines.Refused (refusals.LockTaken held.term held.actor) None ∷ []
line_of p (deeds.Drained a (Ok x)) = lines.Drained a ∷ []
line_of p (deeds.Drained a (Err t)) = lines.Refused (refusals.LockLost t) None ∷ []
line_of p (deeds.Asked x) = if is_set_source_kind x.kind then line_of_call p x.alias x.outcome else []
line_of p _ = []

abbrev pub lines_beside : Option Record → List Deed → List Rest
lines_beside None span = []
lines_beside (Some r) span = flat_map (line_of r.alias) span

abbrev pub is_taking : Deed → Bool
is_taking (deeds.Took reply) = true
is_taking _ = false

-- what was done from here on
abbrev pub from_first : (Deed → Bool) → List Deed → List Deed
from_first test [] = []
from_first test (d ∷ ds) = if test d then d ∷ ds else from_first test ds

-- the reparent inside a vtorc has no options
abbrev pub plain : PlannedOptions
plain = planned_with None None None None false

abbrev pub forced : EmergencyOptions
forced = emergency_with None [] None None false

-- the reparent promoted a tablet, or was refused so
abbrev pub is_line_of_reparent : (Refusal → Option Bool → Bool) → CommandState → List Deed → List Rest → Bool
is_line_of_reparent refused s span (lines.Promoted a t left ∷ []) = is_promoted s span a t left
is_line_of_reparent refused s span (lines.Refused r undone ∷ []) = refused r undone
is_line_of_reparent refused s span _ = false

-- what was done about these findings
abbrev pub are_lines_of : Group → Seen → CommandState → List Deed → List Finding → List Rest → Bool
are_lines_of g seen s span findings rest =
    if finds is_orphaned findings then is_line_of_reparent (planned_is_refused g plain (from_first is_taking span)) s span rest
    else if finds is_urgent findings
    then is_line_of_reparent (λ r undone. is_none undone && emergency_is_refused g forced span r) s span rest
    else lines_eq rest (lines_beside seen.recorded span)

-- each tablet was asked how it stands; what is found is what is amiss by what they answered, and this was done about it
abbrev pub is_watched : Group → CommandState → List Deed → List Finding → List Rest → Bool
is_watched g s span findings rest =
    are_settled (map (λ t. t.alias) g.tablets) (calls_of kinds.Status span)
    && findings_eq findings (problems (findings_of g s.opening.seen (calls_of kinds.Status span)))
    && are_lines_of g s.opening.seen s span (findings_of g s.opening.seen (calls_of kinds.Status span)) rest

-- ---- of a write and of a look at the shard

abbrev pub wrote_this : Option Wrote → Gtid → Alias → ℕ → Bool
wrote_this None g a t = false
wrote_this (Some x) g a t = gtid_eq x.gtid g && alias_eq x.alias a && (x.term == t)

abbrev pub is_told_act : Act → Bool
is_told_act (acts.Told committed) = committed
is_told_act _ = false

abbrev pub says_not_primary : Alias → Standing → Act → Bool
says_not_primary a at (acts.Wrote b (Err stand)) = alias_eq b a && standing_eq stand at
says_not_primary a at _ = false

abbrev pub showed : Option Shown → Standing → Position → Bool
showed None at p = false
showed (Some x) at p = standing_eq (standing_of x.stand) at && position_eq x.position p

abbrev pub declared_type : TabletType → ShownType
declared_type types.Replica = shown_types.Replica
declared_type types.Rdonly = shown_types.Rdonly
declared_type types.Spare = shown_types.Spare

abbrev pub is_recorded_as : Alias → Option Record → Bool
is_recorded_as a None = false
is_recorded_as a (Some x) = alias_eq x.alias a

-- the primary by the record, or else by the marks, or else by the declared type
abbrev pub shown_type : Seen → Tablet → ShownType
shown_type seen t =
    if is_recorded_as t.alias seen.recorded then shown_types.Primary
    else if is_among seen.drained t.alias then shown_types.Drained
    else declared_type t.kind

abbrev pub row_of : Seen → Tablet → TabletRow
row_of seen t = record { alias = t.alias; server = t.server; kind = shown_type seen t }

-- ---- the causes

-- want of memory needs no other cause
abbrev pub is_want_of_memory : Refusal → Bool
is_want_of_memory refusals.OutOfMemory = true
is_want_of_memory _ = false

-- a command that tried no undo has run out of memory
abbrev pub has_no_other_cause : Refusal → Option Bool → Bool
has_no_other_cause refusal undone = is_none undone && is_want_of_memory refusal

abbrev pub has_planned_cause : Group → PlannedOptions → CommandState → List Deed → CommandAnswer → Bool
has_planned_cause g o s span (answers.Promoted a t left) = is_promoted s span a t left
has_planned_cause g o s span (answers.NothingToDo a) = is_idle o.avoid a && any_read (λ seen. is_last_intended a seen.intent) span
has_planned_cause g o s span (answers.Refused refusal undone) = has_no_other_cause refusal undone || planned_is_refused g o span refusal undone
has_planned_cause g o s span _ = false

abbrev pub has_emergency_cause : Group → EmergencyOptions → CommandState → List Deed → CommandAnswer → Bool
has_emergency_cause g o s span (answers.Promoted a t left) = is_promoted s span a t left
has_emergency_cause g o s span (answers.Refused refusal undone) = is_none undone && (is_want_of_memory refusal || emergency_is_refused g o span refusal)
has_emergency_cause g o s span _ = false

abbrev pub has_external_cause : Group → Alias → List Deed → CommandAnswer → Bool
has_external_cause g a span (answers.Recorded t) =
    any_read (λ seen. any_answer kinds.Status a (stands_promoted a seen.intent t) span) span && list_any (records_it a) span
has_external_cause g a span (answers.Refused refusal undone) = is_none undone && (is_want_of_memory refusal || external_is_refused g a span refusal)
has_external_cause g a span _ = false

-- of a vtorc
abbrev pub has_vtorc_cause : Group → CommandState → List Deed → CommandAnswer → Bool
has_vtorc_cause g s span (answers.Vtorc findings rest) = is_watched g s span findings rest
has_vtorc_cause g s span (answers.Refused refusal undone) = has_no_other_cause refusal undone
has_vtorc_cause g s span _ = false

-- Of a write. What it wrote is committed once that was told; where it never was, and the tablet is no longer the primary of that term, nobody knows.
abbrev pub has_write_cause : World → Option Alias → CommandState → CommandAnswer → Bool
has_write_cause w to s (answers.Committed g a t) = wrote_this s.wrote g a t && list_any is_told_act s.acts
has_write_cause w to s (answers.NotPrimary a at) = list_any (says_not_primary a at) s.acts
has_write_cause w to s answers.NoPrimaryRecorded = is_none to && is_none s.opening.seen.recorded
has_write_cause w to s (answers.Unknown g a t) =
    wrote_this s.wrote g a t && not (list_any is_told_act s.acts) && not (is_primary_of (w.tablets a).stand t)
has_write_cause w to s (answers.Refused refusal undone) = has_no_other_cause refusal undone
has_write_cause w to s _ = false

-- of a show of this tablet
abbrev pub has_show_cause : Alias → CommandState → CommandAnswer → Bool
has_show_cause shown s (answers.Shown a at p) = alias_eq shown a && showed s.opening.shown at p
has_show_cause shown s (answers.Refused refusal undone) = has_no_other_cause refusal undone
has_show_cause shown s _ = false

-- of a GetShard
abbrev pub has_shard_cause : ShardName → CommandState → CommandAnswer → Bool
has_shard_cause shard s (answers.Shard other recorded) = shard_name_eq other shard && record_or_none_eq recorded s.opening.seen.recorded
has_shard_cause shard s (answers.Refused refusal undone) = has_no_other_cause refusal undone
has_shard_cause shard s _ = false

-- of a GetTablets
abbrev pub has_tablets_cause : Group → CommandState → CommandAnswer → Bool
has_tablets_cause g s (answers.Tablets rows) = rows_eq rows (map (row_of s.opening.seen) g.tablets)
has_tablets_cause g s (answers.Refused refusal undone) = has_no_other_cause refusal undone
has_tablets_cause g s _ = false

abbrev pub has_command_cause : Config → World → CommandState → Command → CommandAnswer → Bool
has_command_cause config w s (commands.Planned shard new_primary avoid expected timeout crossing) answer =
    has_planned_cause (group_of config) (planned_with new_primary avoid expected timeout crossing) s (span_in w.post s) answer
has_command_cause config w s (commands.Emergency shard new_primary ignored expected timeout preventing) answer =
    has_emergency_cause (group_of config) (emergency_with new_primary ignored expected timeout preventing) s (span_in w.post s) answer
has_command_cause config w s (commands.External a) answer = has_external_cause (group_of config) a (span_in w.post s) answer
has_command_cause config w s commands.Vtorc answer = has_vtorc_cause (group_of config) s (span_in w.post s) answer
has_command_cause config w s (commands.Write to) answer = has_write_cause w to s answer
has_command_cause config w s (commands.Show a) answer = has_show_cause a s answer
has_command_cause config w s (commands.GetShard shard) answer = has_shard_cause shard s answer
has_command_cause config w s (commands.GetTablets shard) answer = has_tablets_cause (group_of config) s answer

-- the open command may end with this answer
abbrev pub has_cause : Config → World → Option CommandState → CommandAnswer → Bool
has_cause config w None answer = false
has_cause config w (Some s) answer = has_command_cause config w s s.command answer

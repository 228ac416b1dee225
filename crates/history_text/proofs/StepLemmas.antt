-- Each step has one line.
use Rattle.std.proofs.Common.{ℕ, ◌==◌, Bool, not, refl, ap, List, [], ◌∷◌, Option, Some, None}
use Rattle.std.specs.Prelude.{codes, option_map}
use Rattle.shard_names.specs.ShardName.{shard_name_text}
use Rattle.shard_names.specs.declared.alias.Alias.{Alias}
use Rattle.shard_names.specs.declared.shard_name.ShardName.{ShardName}
use Rattle.gtid_sets.specs.declared.gtid.Gtid.{Gtid}
use Rattle.gtid_sets.specs.Position.{Position, count}
use Rattle.gtid_sets.specs.SetText.{set_text}
use Rattle.topo_lock.specs.declared.intent.Intent.{Intent}
use Rattle.topo_lock.specs.declared.intent.Record.{Record}
use Rattle.shard_calls.specs.declared.call.Call.{Call}
use Rattle.shard_calls.specs.declared.call.Call.TheVariants as calls
use Rattle.shard_calls.specs.declared.command.Command.{Command}
use Rattle.shard_calls.specs.declared.command.Command.TheVariants as commands
use Rattle.shard_calls.specs.declared.ending.CommandAnswer.{CommandAnswer}
use Rattle.shard_calls.specs.declared.event.Event.{Event}
use Rattle.shard_calls.specs.declared.event.Event.TheVariants as events
use Rattle.shard_calls.specs.declared.event.Reply.{Reply}
use Rattle.shard_calls.specs.declared.event.Reply.TheVariants as replies
use Rattle.shard_calls.specs.declared.event.Seen.{Seen}
use Rattle.shard_calls.specs.declared.event.Side.{Side}
use Rattle.shard_calls.specs.declared.event.Side.TheVariants as sides
use Rattle.shard_calls.specs.declared.stand.Standing.{Standing}
use Rattle.shard_calls.specs.declared.stand.Standing.TheVariants as standings
use Rattle.shard_calls.specs.declared.why.Why.{Why}
use Rattle.shard_calls.specs.declared.why.Why.TheVariants as whys
use Rattle.shard_calls.specs.World.{numbered}
use Rattle.tablet_text.specs.Stands.{since_text, primary_text, demoted_text, in_term_text, replica_text, feeder_text, standing_text, timed_out_text, why_text}
use Rattle.vtctld_text.specs.declared.begun.Begun.{Begun}
use Rattle.vtctld_text.specs.Texts.{planned_text, emergency_text, get_shard_text, get_tablets_text, external_text, show_text, command_text, answer_text}
use Rattle.history_text.specs.Orders.{further_alias, further_aliases, aliases_text, with_alias, with_flag, timeout_text, with_timeout, ignored_text, with_ignored, planned_options_text, emergency_options_text, write_options_text, options_text, order_text}
use Rattle.history_text.specs.Events.{numbered_text, tablet_event_text, command_event_text, shown_set, promote_text, set_source_text, wait_for_text, wait_told_text, call_text, begin_event_text, send_text, give_up_text, crash_text, side_text, link_text, happening_text}
use Rattle.history_text.specs.Replies.{record_text, recorded_text, intent_text, intended_text, drained_text, seen_text, taken_text, wrote_text, stand_text, reply_text}
use Rattle.history_text.specs.Histories.{but_last, barred, in_one_line, unsigned, ending_text, outcome_text, step_line}
use Rattle.history_text.specs.Laws.{InLine, NamesAlias, NamesOption, NamesAliases, NamesShard, NamesCommand, NamesCall, NamesSide, NamesEvent, NamesRecorded, NamesIntended, NamesStanding, NamesReply, StepIsOneLine}
use Rattle.history_text.proofs.LineLemmas.{chosen, word, ◌⊹◌, onto, each_in_line, decimal_in_line, alias_in_line, shard_in_line, moment_in_line, gtid_in_line, set_in_line}

-- ---- commands

further_one : (a : Alias) → NamesAlias a → InLine (further_alias a)
unfolding further_alias
further_one a h = word (codes ",") refl ⊹ alias_in_line a h

further_in_line : (aliases : List Alias) → NamesAliases aliases → InLine (further_aliases aliases)
further_in_line [] h = word [] refl
further_in_line (a ∷ aliases) h = further_one a h.0 ⊹ further_in_line aliases h.1

aliases_in_line : (aliases : List Alias) → NamesAliases aliases → InLine (aliases_text aliases)
aliases_in_line [] h = word [] refl
aliases_in_line (a ∷ aliases) h = alias_in_line a h.0 ⊹ further_in_line aliases h.1

option_in_line : {option : List ℕ} (o : Option Alias) → InLine option → NamesOption o → InLine (with_alias option o)
option_in_line None one two = word [] refl
option_in_line (Some a) one two = one ⊹ alias_in_line a two

flag_in_line : {option : List ℕ} (given : Bool) → InLine option → InLine (with_flag option given)
flag_in_line {option} given h = chosen InLine given option [] (λ t. h) (λ t. word [] refl)

timeout_one : (ms : ℕ) → InLine (timeout_text ms)
unfolding timeout_text
timeout_one ms = word (codes " --wait-replicas-timeout ") refl ⊹ decimal_in_line ms ⊹ word (codes "ms") refl

timeout_in_line : (timeout : Option ℕ) → InLine (with_timeout timeout)
timeout_in_line None = word [] refl
timeout_in_line (Some ms) = timeout_one ms

ignored_one : (aliases : List Alias) → NamesAliases aliases → InLine (ignored_text aliases)
unfolding ignored_text
ignored_one aliases h = word (codes " --ignore-replicas ") refl ⊹ aliases_in_line aliases h

ignored_in_line : (aliases : List Alias) → NamesAliases aliases → InLine (with_ignored aliases)
ignored_in_line [] h = word [] refl
ignored_in_line (a ∷ aliases) h = ignored_one (a ∷ aliases) h

planned_in_line : (n a e : Option Alias) (t : Option ℕ) (given : Bool) → NamesOption n → NamesOption a → NamesOption e → InLine (planned_options_text n a e t given)
unfolding planned_options_text
planned_in_line n a e t given one two three =
    option_in_line n (word (codes " --new-primary ") refl) one
    ⊹ option_in_line a (word (codes " --avoid-primary ") refl) two
    ⊹ option_in_line e (word (codes " --expected-primary ") refl) three
    ⊹ timeout_in_line t
    ⊹ flag_in_line given (word (codes " --allow-cross-cell-promotion") refl)

emergency_in_line : (n : Option Alias) (ignored : List Alias) (e : Option Alias) (t : Option ℕ) (given : Bool)
    → NamesOption n → NamesAliases ignored → NamesOption e → InLine (emergency_options_text n ignored e t given)
unfolding emergency_options_text
emergency_in_line n ignored e t given one two three =
    option_in_line n (word (codes " --new-primary ") refl) one
    ⊹ ignored_in_line ignored two
    ⊹ option_in_line e (word (codes " --expected-primary ") refl) three
    ⊹ timeout_in_line t
    ⊹ flag_in_line given (word (codes " --prevent-cross-cell-promotion") refl)

write_in_line : (to : Option Alias) → NamesOption to → InLine (write_options_text to)
unfolding write_options_text
write_in_line to h = word (codes " 1") refl ⊹ option_in_line to (word (codes " to ") refl) h

name_in_line : (shard : ShardName) → NamesShard shard → InLine (shard_name_text shard)
name_in_line shard h = shard_in_line shard h.0 h.1

planned_head : (shard : ShardName) → NamesShard shard → InLine (planned_text shard)
unfolding planned_text
planned_head shard h = word (codes "PlannedReparentShard ") refl ⊹ name_in_line shard h

emergency_head : (shard : ShardName) → NamesShard shard → InLine (emergency_text shard)
unfolding emergency_text
emergency_head shard h = word (codes "EmergencyReparentShard ") refl ⊹ name_in_line shard h

get_shard_head : (shard : ShardName) → NamesShard shard → InLine (get_shard_text shard)
unfolding get_shard_text
get_shard_head shard h = word (codes "GetShard ") refl ⊹ name_in_line shard h

get_tablets_head : (shard : ShardName) → NamesShard shard → InLine (get_tablets_text shard)
unfolding get_tablets_text
get_tablets_head shard h = word (codes "GetTablets ") refl ⊹ name_in_line shard h

external_head : (a : Alias) → NamesAlias a → InLine (external_text a)
unfolding external_text
external_head a h = word (codes "TabletExternallyReparented ") refl ⊹ alias_in_line a h

show_head : (a : Alias) → NamesAlias a → InLine (show_text a)
unfolding show_text
show_head a h = word (codes "show ") refl ⊹ alias_in_line a h

command_in_line : (command : Command) → NamesCommand command → InLine (command_text command)
command_in_line (commands.Planned shard n a e t given) h = planned_head shard h.0
command_in_line (commands.Emergency shard n ignored e t given) h = emergency_head shard h.0
command_in_line (commands.External a) h = external_head a h
command_in_line commands.Vtorc h = word (codes "vtorc") refl
command_in_line (commands.Write to) h = word (codes "write") refl
command_in_line (commands.Show a) h = show_head a h
command_in_line (commands.GetShard shard) h = get_shard_head shard h
command_in_line (commands.GetTablets shard) h = get_tablets_head shard h

options_in_line : (command : Command) → NamesCommand command → InLine (options_text command)
options_in_line (commands.Planned shard n a e t given) h = planned_in_line n a e t given h.1 h.2 h.3
options_in_line (commands.Emergency shard n ignored e t given) h = emergency_in_line n ignored e t given h.1 h.2 h.3
options_in_line (commands.External a) h = word [] refl
options_in_line commands.Vtorc h = word [] refl
options_in_line (commands.Write to) h = write_in_line to h
options_in_line (commands.Show a) h = word [] refl
options_in_line (commands.GetShard shard) h = word [] refl
options_in_line (commands.GetTablets shard) h = word [] refl

order_in_line : (command : Command) → NamesCommand command → InLine (order_text command)
unfolding order_text
order_in_line command h = command_in_line command h ⊹ options_in_line command h

-- ---- events

numbered_in_line : {text : List ℕ} (n : ℕ) → InLine text → InLine (numbered_text text n)
unfolding numbered_text
numbered_in_line n h = h ⊹ decimal_in_line n

tablet_in_line : {text : List ℕ} (a : Alias) → InLine text → NamesAlias a → InLine (tablet_event_text text a)
unfolding tablet_event_text
tablet_in_line a one two = one ⊹ alias_in_line a two

of_command_in_line : {text : List ℕ} (c : ℕ) (a : Alias) → InLine text → NamesAlias a → InLine (command_event_text text c a)
unfolding command_event_text
of_command_in_line c a one two = one ⊹ decimal_in_line c ⊹ word (codes " ") refl ⊹ alias_in_line a two

shown_in_line : (p : Position) → InLine (shown_set p)
shown_in_line p = chosen InLine (count p == 0) (codes "-") (set_text p) (λ t. word (codes "-") refl) (λ t. set_in_line p)

promote_in_line : (p : Position) → InLine (promote_text p)
unfolding promote_text
promote_in_line p = word (codes "promote ") refl ⊹ shown_in_line p

source_in_line : (source : Alias) (stand : ℕ) (p : Position) → NamesAlias source → InLine (set_source_text source stand p)
unfolding set_source_text
source_in_line source stand p h =
    word (codes "setsource ") refl ⊹ alias_in_line source h ⊹ word (codes " ") refl ⊹ decimal_in_line stand ⊹ word (codes " ") refl ⊹ shown_in_line p

wait_for_in_line : (p : Position) (until : ℕ) → InLine (wait_for_text p until)
unfolding wait_for_text
wait_for_in_line p until = word (codes "waitfor ") refl ⊹ shown_in_line p ⊹ word (codes " ") refl ⊹ moment_in_line until

wait_told_in_line : (until : ℕ) → InLine (wait_told_text until)
unfolding wait_told_text
wait_told_in_line until = word (codes "waittold ") refl ⊹ moment_in_line until

call_in_line : (call : Call) → NamesCall call → InLine (call_text call)
call_in_line calls.Status h = word (codes "status") refl
call_in_line calls.Stop h = word (codes "stop") refl
call_in_line calls.Demote h = word (codes "demote") refl
call_in_line (calls.Promote p) h = promote_in_line p
call_in_line (calls.SetSource source stand p) h = source_in_line source stand p h
call_in_line calls.Feed h = word (codes "feed") refl
call_in_line (calls.WaitFor p until) h = wait_for_in_line p until
call_in_line (calls.WaitTold until) h = wait_told_in_line until

begin_in_line : (actor : List ℕ) (command : Command) → InLine actor → NamesCommand command → InLine (begin_event_text actor command)
unfolding begin_event_text
begin_in_line actor command one two = word (codes "begin ") refl ⊹ one ⊹ word (codes " ") refl ⊹ order_in_line command two

send_in_line : (c : ℕ) (a : Alias) (call : Call) → NamesAlias a → NamesCall call → InLine (send_text c a call)
unfolding send_text
send_in_line c a call one two = of_command_in_line c a (word (codes "send ") refl) one ⊹ word (codes " ") refl ⊹ call_in_line call two

give_up_in_line : (c k : ℕ) → InLine (give_up_text c k)
unfolding give_up_text
give_up_in_line c k = word (codes "giveup ") refl ⊹ decimal_in_line c ⊹ word (codes " ") refl ⊹ decimal_in_line k

crash_in_line : (a : Alias) (keep : ℕ) → NamesAlias a → InLine (crash_text a keep)
unfolding crash_text
crash_in_line a keep h = word (codes "crash ") refl ⊹ alias_in_line a h ⊹ word (codes " ") refl ⊹ decimal_in_line keep

side_in_line : (x : Side) → NamesSide x → InLine (side_text x)
side_in_line sides.Control h = word (codes "control") refl
side_in_line (sides.Tablet a) h = alias_in_line a h

link_in_line : {text : List ℕ} (x y : Side) → InLine text → NamesSide x → NamesSide y → InLine (link_text text x y)
unfolding link_text
link_in_line x y one two three = one ⊹ side_in_line x two ⊹ word (codes " ") refl ⊹ side_in_line y three

event_in_line : (e : Event) → NamesEvent e → InLine (happening_text e)
event_in_line (events.Begin actor command) h = begin_in_line actor command h.0 h.1
event_in_line (events.Take c) h = numbered_in_line c (word (codes "take ") refl)
event_in_line (events.Read c) h = numbered_in_line c (word (codes "read ") refl)
event_in_line (events.Intend c a) h = of_command_in_line c a (word (codes "intend ") refl) h
event_in_line (events.Record c a) h = of_command_in_line c a (word (codes "record ") refl) h
event_in_line (events.Drain c a) h = of_command_in_line c a (word (codes "drain ") refl) h
event_in_line (events.Release c) h = numbered_in_line c (word (codes "release ") refl)
event_in_line events.Lapse h = word (codes "lapse") refl
event_in_line (events.Send c a call) h = send_in_line c a call h.0 h.1
event_in_line (events.Deliver k) h = numbered_in_line k (word (codes "deliver ") refl)
event_in_line (events.GiveUp c k) h = give_up_in_line c k
event_in_line (events.Offer a) h = tablet_in_line a (word (codes "offer ") refl) h
event_in_line (events.Write c a) h = of_command_in_line c a (word (codes "write ") refl) h
event_in_line (events.Tell c) h = numbered_in_line c (word (codes "tell ") refl)
event_in_line (events.Local a) h = tablet_in_line a (word (codes "local ") refl) h
event_in_line (events.Crash a keep) h = crash_in_line a keep h
event_in_line (events.Restart a) h = tablet_in_line a (word (codes "restart ") refl) h
event_in_line (events.Cut x y) h = link_in_line x y (word (codes "cut ") refl) h.0 h.1
event_in_line (events.Mend x y) h = link_in_line x y (word (codes "mend ") refl) h.0 h.1
event_in_line (events.Lose k) h = numbered_in_line k (word (codes "lose ") refl)
event_in_line (events.Tick ms) h = numbered_in_line ms (word (codes "tick ") refl)
event_in_line (events.End c x) h = numbered_in_line c (word (codes "end ") refl)

-- ---- replies

record_one : (r : Record) → NamesAlias r.alias → InLine (record_text r)
unfolding record_text
record_one r h = alias_in_line r.alias h ⊹ word (codes ",") refl ⊹ decimal_in_line r.term ⊹ word (codes ",") refl ⊹ moment_in_line r.moment

recorded_in_line : (o : Option Record) → NamesRecorded o → InLine (recorded_text o)
recorded_in_line None h = word (codes "-") refl
recorded_in_line (Some r) h = record_one r h

intent_one : (i : Intent) → NamesAlias i.alias → InLine (intent_text i)
unfolding intent_text
intent_one i h = decimal_in_line i.term ⊹ word (codes ",") refl ⊹ alias_in_line i.alias h

intended_in_line : (o : Option Intent) → NamesIntended o → InLine (intended_text o)
intended_in_line None h = word (codes "-") refl
intended_in_line (Some i) h = intent_one i h

drained_in_line : (aliases : List Alias) → NamesAliases aliases → InLine (drained_text aliases)
drained_in_line [] h = word (codes "-") refl
drained_in_line (a ∷ aliases) h = aliases_in_line (a ∷ aliases) h

seen_in_line : (seen : Seen) → NamesRecorded seen.recorded → NamesIntended seen.intent → NamesAliases seen.drained → InLine (seen_text seen)
unfolding seen_text
seen_in_line seen one two three =
    word (codes "record ") refl ⊹ recorded_in_line seen.recorded one ⊹ word (codes " intent ") refl ⊹ intended_in_line seen.intent two
    ⊹ word (codes " drained ") refl ⊹ drained_in_line seen.drained three

taken_in_line : (term : ℕ) (actor : List ℕ) → InLine actor → InLine (taken_text term actor)
unfolding taken_text
taken_in_line term actor h = word (codes "taken ") refl ⊹ decimal_in_line term ⊹ word (codes " ") refl ⊹ h

wrote_in_line : (g : Gtid) → InLine (wrote_text g)
unfolding wrote_text
wrote_in_line g = word (codes "wrote ") refl ⊹ gtid_in_line g

since_in_line : (since now : ℕ) → InLine (since_text since now)
unfolding since_text
since_in_line since now = word (codes "since ") refl ⊹ moment_in_line since ⊹ word (codes " at ") refl ⊹ moment_in_line now

timed_out_in_line : (since now : ℕ) → InLine (timed_out_text since now)
unfolding timed_out_text
timed_out_in_line since now = word (codes "timed out ") refl ⊹ since_in_line since now

why_in_line : (why : Why) → InLine (why_text why)
why_in_line whys.Down = word (codes "down") refl
why_in_line whys.Cut = word (codes "cut") refl
why_in_line whys.Lost = word (codes "lost") refl
why_in_line (whys.TimedOut since now) = timed_out_in_line since now

primary_in_line : (term : ℕ) → InLine (primary_text term)
unfolding primary_text
primary_in_line term = word (codes "primary of term ") refl ⊹ decimal_in_line term

demoted_in_line : (term by : ℕ) → InLine (demoted_text term by)
unfolding demoted_text
demoted_in_line term by = word (codes "demoted from term ") refl ⊹ decimal_in_line term ⊹ word (codes " by term ") refl ⊹ decimal_in_line by

in_term_in_line : (source : Alias) (term : ℕ) → NamesAlias source → InLine (in_term_text source term)
unfolding in_term_text
in_term_in_line source term h = alias_in_line source h ⊹ word (codes " in term ") refl ⊹ decimal_in_line term

replica_in_line : (source : Alias) (term : ℕ) → NamesAlias source → InLine (replica_text source term)
unfolding replica_text
replica_in_line source term h = word (codes "replica of ") refl ⊹ in_term_in_line source term h

feeder_in_line : (term : ℕ) → InLine (feeder_text term)
unfolding feeder_text
feeder_in_line term = word (codes "feeder in term ") refl ⊹ decimal_in_line term

standing_in_line : (stand : Standing) → NamesStanding stand → InLine (standing_text stand)
standing_in_line standings.Down h = word (codes "down") refl
standing_in_line standings.Stopped h = word (codes "stopped") refl
standing_in_line (standings.Primary term) h = primary_in_line term
standing_in_line (standings.Demoted term by) h = demoted_in_line term by
standing_in_line (standings.Replica source term) h = replica_in_line source term h
standing_in_line (standings.Feeder term) h = feeder_in_line term

stand_in_line : (stand : Standing) → NamesStanding stand → InLine (stand_text stand)
unfolding stand_text
stand_in_line stand h = word (codes "stand ") refl ⊹ standing_in_line stand h

reply_in_line : (r : Reply) → NamesReply r → InLine (reply_text r)
reply_in_line (replies.Begun c) h = numbered_in_line c (word (codes "command ") refl)
reply_in_line (replies.Term term) h = numbered_in_line term (word (codes "term ") refl)
reply_in_line (replies.Taken term actor) h = taken_in_line term actor h
reply_in_line (replies.Read seen) h = seen_in_line seen h.0 h.1 h.2
reply_in_line (replies.Lost term) h = numbered_in_line term (word (codes "lost ") refl)
reply_in_line (replies.Stands a) h = tablet_in_line a (word (codes "stands ") refl) h
reply_in_line (replies.Message k) h = numbered_in_line k (word (codes "message ") refl)
reply_in_line (replies.GaveUp why) h = why_in_line why
reply_in_line (replies.Wrote g) h = wrote_in_line g
reply_in_line (replies.NotPrimary stand) h = stand_in_line stand h
reply_in_line replies.Told h = word (codes "told") refl
reply_in_line replies.Gone h = word (codes "gone") refl
reply_in_line replies.Ok h = word (codes "ok") refl

-- ---- steps

barred_in_line : (b : ℕ) → InLine (barred b)
barred_in_line b = chosen InLine (b == 10) (codes " | ") (b ∷ []) (λ t. word (codes " | ") refl) (λ t. onto b (ap not t) (word [] refl))

ending_in_line : (begun : Option Begun) (x : CommandAnswer) → InLine (ending_text begun x)
unfolding ending_text in_one_line
ending_in_line begun x = each_in_line barred barred_in_line (but_last (answer_text (option_map unsigned begun) x))

outcome_in_line : (commands : List Begun) (e : Event) (r : Reply) → NamesReply r → InLine (outcome_text commands e r)
outcome_in_line commands (events.Begin actor command) r h = reply_in_line r h
outcome_in_line commands (events.Take c) r h = reply_in_line r h
outcome_in_line commands (events.Read c) r h = reply_in_line r h
outcome_in_line commands (events.Intend c a) r h = reply_in_line r h
outcome_in_line commands (events.Record c a) r h = reply_in_line r h
outcome_in_line commands (events.Drain c a) r h = reply_in_line r h
outcome_in_line commands (events.Release c) r h = reply_in_line r h
outcome_in_line commands events.Lapse r h = reply_in_line r h
outcome_in_line commands (events.Send c a call) r h = reply_in_line r h
outcome_in_line commands (events.Deliver k) r h = reply_in_line r h
outcome_in_line commands (events.GiveUp c k) r h = reply_in_line r h
outcome_in_line commands (events.Offer a) r h = reply_in_line r h
outcome_in_line commands (events.Write c a) r h = reply_in_line r h
outcome_in_line commands (events.Tell c) r h = reply_in_line r h
outcome_in_line commands (events.Local a) r h = reply_in_line r h
outcome_in_line commands (events.Crash a keep) r h = reply_in_line r h
outcome_in_line commands (events.Restart a) r h = reply_in_line r h
outcome_in_line commands (events.Cut x y) r h = reply_in_line r h
outcome_in_line commands (events.Mend x y) r h = reply_in_line r h
outcome_in_line commands (events.Lose k) r h = reply_in_line r h
outcome_in_line commands (events.Tick ms) r h = reply_in_line r h
outcome_in_line commands (events.End c x) r h = ending_in_line (numbered commands c) x

pub step_is_one_line : StepIsOneLine
unfolding step_line
step_is_one_line commands s h = event_in_line s.event h.0 ⊹ word (codes " = ") refl ⊹ outcome_in_line commands s.event s.reply h.1

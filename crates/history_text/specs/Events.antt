-- The text of an event in a history: a word for what happened, and what it happened to. A set of transactions prints as MySQL prints a GTID set
-- (MySQL 8.0 manual); the words are vtshard's own.
use Rattle.std.specs.Prelude.{ℕ, ◌==◌, List, ◌++◌, if◌then◌else◌, codes}
use Rattle.std.specs.Fmt.{decimal}
use Rattle.shard_names.specs.Alias.{alias_text}
use Rattle.shard_names.specs.declared.alias.Alias.{Alias}
use Rattle.gtid_sets.specs.Position.{Position, count}
use Rattle.gtid_sets.specs.SetText.{set_text}
use Rattle.shard_calls.specs.declared.call.Call.{Call}
use Rattle.shard_calls.specs.declared.call.Call.TheVariants as calls
use Rattle.shard_calls.specs.declared.command.Command.{Command}
use Rattle.shard_calls.specs.declared.event.Event.{Event}
use Rattle.shard_calls.specs.declared.event.Event.TheVariants as events
use Rattle.shard_calls.specs.declared.event.Side.{Side}
use Rattle.shard_calls.specs.declared.event.Side.TheVariants as sides
use Rattle.tablet_text.specs.Moments.{moment_text}
use Rattle.history_text.specs.Orders.{order_text}

-- ---- parts of events

-- the word, and a number
unfoldable pub numbered_text : List ℕ → ℕ → List ℕ
numbered_text word n = word ++ decimal n

-- the word, and a tablet
unfoldable pub tablet_event_text : List ℕ → Alias → List ℕ
tablet_event_text word a = word ++ alias_text a

-- the word, a command, and a tablet
unfoldable pub command_event_text : List ℕ → ℕ → Alias → List ℕ
command_event_text word c a = word ++ decimal c ++ codes " " ++ alias_text a

-- the empty set is a dash
abbrev pub shown_set : Position → List ℕ
shown_set p = if count p == 0 then codes "-" else set_text p

-- ---- calls

unfoldable pub promote_text : Position → List ℕ
promote_text p = codes "promote " ++ shown_set p

unfoldable pub set_source_text : Alias → ℕ → Position → List ℕ
set_source_text source stand p = codes "setsource " ++ alias_text source ++ codes " " ++ decimal stand ++ codes " " ++ shown_set p

unfoldable pub wait_for_text : Position → ℕ → List ℕ
wait_for_text p until = codes "waitfor " ++ shown_set p ++ codes " " ++ moment_text until

unfoldable pub wait_told_text : ℕ → List ℕ
wait_told_text until = codes "waittold " ++ moment_text until

abbrev pub call_text : Call → List ℕ
call_text calls.Status = codes "status"
call_text calls.Stop = codes "stop"
call_text calls.Demote = codes "demote"
call_text (calls.Promote p) = promote_text p
call_text (calls.SetSource source stand p) = set_source_text source stand p
call_text calls.Feed = codes "feed"
call_text (calls.WaitFor p until) = wait_for_text p until
call_text (calls.WaitTold until) = wait_told_text until

-- ---- events

-- the actor, and the whole command
unfoldable pub begin_event_text : List ℕ → Command → List ℕ
begin_event_text actor command = codes "begin " ++ actor ++ codes " " ++ order_text command

unfoldable pub send_text : ℕ → Alias → Call → List ℕ
send_text c a call = command_event_text (codes "send ") c a ++ codes " " ++ call_text call

-- the command, and the message of its call
unfoldable pub give_up_text : ℕ → ℕ → List ℕ
give_up_text c k = codes "giveup " ++ decimal c ++ codes " " ++ decimal k

-- the tablet, and how many bytes stay of what it has not synced
unfoldable pub crash_text : Alias → ℕ → List ℕ
crash_text a keep = codes "crash " ++ alias_text a ++ codes " " ++ decimal keep

abbrev pub side_text : Side → List ℕ
side_text sides.Control = codes "control"
side_text (sides.Tablet a) = alias_text a

-- the word, and the ends of a link as they were given
unfoldable pub link_text : List ℕ → Side → Side → List ℕ
link_text word x y = word ++ side_text x ++ codes " " ++ side_text y

abbrev pub happening_text : Event → List ℕ
happening_text (events.Begin actor command) = begin_event_text actor command
happening_text (events.Take c) = numbered_text (codes "take ") c
happening_text (events.Read c) = numbered_text (codes "read ") c
happening_text (events.Intend c a) = command_event_text (codes "intend ") c a
happening_text (events.Record c a) = command_event_text (codes "record ") c a
happening_text (events.Drain c a) = command_event_text (codes "drain ") c a
happening_text (events.Release c) = numbered_text (codes "release ") c
happening_text events.Lapse = codes "lapse"
happening_text (events.Send c a call) = send_text c a call
happening_text (events.Deliver k) = numbered_text (codes "deliver ") k
happening_text (events.GiveUp c k) = give_up_text c k
happening_text (events.Offer a) = tablet_event_text (codes "offer ") a
happening_text (events.Write c a) = command_event_text (codes "write ") c a
happening_text (events.Tell c) = numbered_text (codes "tell ") c
happening_text (events.Local a) = tablet_event_text (codes "local ") a
happening_text (events.Crash a keep) = crash_text a keep
happening_text (events.Restart a) = tablet_event_text (codes "restart ") a
happening_text (events.Cut x y) = link_text (codes "cut ") x y
happening_text (events.Mend x y) = link_text (codes "mend ") x y
happening_text (events.Lose k) = numbered_text (codes "lose ") k
happening_text (events.Tick ms) = numbered_text (codes "tick ") ms
happening_text (events.End c x) = numbered_text (codes "end ") c

-- Calls and answers, entries and acknowledgements: what sending, delivering, giving up and offering do. After Vitess's tablet manager
-- (Vitess manual) and replication (MySQL 8.0 manual).
use Rattle.std.specs.Prelude.{ℕ, Bool, true, false, not, ◌&&◌, nat_le, nat_lt, Option, Some, None, unwrap_or}
use Rattle.shard_names.specs.Tablets.{alias_eq, is_declared, tablet_of}
use Rattle.shard_names.specs.declared.alias.Alias.{Alias}
use Rattle.shard_names.specs.declared.tablet.Tablet.{Tablet}
use Rattle.gtid_sets.specs.declared.entry.Entry.{Entry}
use Rattle.shard_calls.specs.declared.call.Call.{Call}
use Rattle.shard_calls.specs.declared.call.Call.TheVariants as calls
use Rattle.shard_calls.specs.declared.event.Reply.{Reply}
use Rattle.shard_calls.specs.declared.event.Reply.TheVariants as replies
use Rattle.shard_calls.specs.declared.outcome.Accepted.{Accepted}
use Rattle.shard_calls.specs.declared.outcome.Accepted.TheVariants as accepteds
use Rattle.shard_calls.specs.declared.post.Content.{Content}
use Rattle.shard_calls.specs.declared.post.Content.TheVariants as contents
use Rattle.shard_calls.specs.declared.post.Message.{Message}
use Rattle.shard_calls.specs.declared.post.Settled.TheVariants as settleds
use Rattle.shard_calls.specs.declared.state.Act.TheVariants as acts
use Rattle.shard_calls.specs.declared.state.CommandState.{CommandState}
use Rattle.shard_calls.specs.declared.why.Why.{Why}
use Rattle.shard_calls.specs.Tablets.{TabletState, Verdict, after_call, answer_to, accepts, after_ack}
use Rattle.shard_calls.specs.World.{Config, World, on_tablet, on_command, on_message, with_act, sends, next_message, arrives, settles, term_of}
use Rattle.shard_calls.specs.Grounds.{has_evidence}
use Rattle.shard_calls.specs.Locks.{by_term}

-- ---- Send: a call, which has to have its grounds

-- the instant at which the year 10000 begins
abbrev pub end_of_time : ℕ
end_of_time = 253402300800000

-- what a call to this tablet needs in a term
abbrev pub may_ask_in : Config → World → ℕ → Alias → Call → ℕ → Bool
may_ask_in config w c a calls.Status u = true
may_ask_in config w c a calls.Stop u = true
may_ask_in config w c a calls.Demote u = true
may_ask_in config w c a (calls.Promote p) u = has_evidence config w c u a p
may_ask_in config w c a (calls.SetSource source t p) u = is_declared config.tablets source && not (alias_eq source a) && nat_le t u
may_ask_in config w c a calls.Feed u = true
may_ask_in config w c a (calls.WaitFor p until) u = nat_lt until end_of_time
may_ask_in config w c a (calls.WaitTold until) u = nat_lt until end_of_time

-- a Status needs no term
abbrev pub asks_status : Call → Bool
asks_status calls.Status = true
asks_status calls.Stop = false
asks_status calls.Demote = false
asks_status (calls.Promote p) = false
asks_status (calls.SetSource source t p) = false
asks_status calls.Feed = false
asks_status (calls.WaitFor p until) = false
asks_status (calls.WaitTold until) = false

abbrev pub may_send : Config → World → ℕ → Alias → Call → Option CommandState → Bool
may_send config w c a call None = false
may_send config w c a call (Some s) = by_term s.term (asks_status call) (may_ask_in config w c a call)

-- the call goes out in the command's term, or in term 0 if it has none
abbrev pub call_of : World → ℕ → Alias → Call → Content
call_of w c a call = contents.Asks c (unwrap_or (term_of w c) 0) a call

abbrev pub asks : World → ℕ → Alias → Call → World
asks w c a call = sends (on_command w c (with_act (acts.Sent (next_message w)))) (call_of w c a call)

-- ---- Deliver: what the message does at its receiver

abbrev pub if_declared : {A : Type 0} → Option Tablet → A → (Tablet → A) → A
if_declared None none some = none
if_declared (Some me) none some = some me

-- what the tablet of an alias does
abbrev pub by_tablet : {A : Type 0} → Config → Alias → A → (Tablet → A) → A
by_tablet config a none some = if_declared (tablet_of config.tablets a) none some

-- the tablet answers
abbrev pub asked : World → ℕ → ℕ → ℕ → Alias → Call → Tablet → World
asked w k c u a call me =
    sends (on_tablet w a (after_call w.group me u call (w.tablets a))) (contents.Answers c k a (answer_to w.group me u call (w.tablets a)))

-- the replica acknowledges what it takes
abbrev pub fed : World → Alias → Alias → ℕ → ℕ → TabletState → Accepted → World
fed w from to term index s accepteds.Taken = sends (on_tablet w to s) (contents.Acks to from term index)
fed w from to term index s accepteds.Ignored = w

-- what the replica makes of an entry
abbrev pub feed_verdict : World → Alias → Alias → ℕ → ℕ → ℕ → Entry → Verdict Accepted
feed_verdict w from to term after index e = accepts from term after index e (w.tablets to)

abbrev pub after_arrival : Config → World → ℕ → Content → World
after_arrival config w k (contents.Asks c u a call) = by_tablet config a w (asked w k c u a call)
after_arrival config w k (contents.Answers c call a says) = on_message w call (settles (settleds.Answered k))
after_arrival config w k (contents.Feeds from to term after index e) =
    fed w from to term index (feed_verdict w from to term after index e).state (feed_verdict w from to term after index e).says
after_arrival config w k (contents.Acks from to term index) = on_tablet w to (after_ack from term index (w.tablets to))

abbrev pub after_delivery : Config → World → ℕ → Option Message → World
after_delivery config w k None = w
after_delivery config w k (Some m) = after_arrival config (on_message w k (arrives w.clock)) k m.content

abbrev pub fed_reply : World → Accepted → Reply
fed_reply w accepteds.Taken = replies.Message (next_message w)
fed_reply w accepteds.Ignored = replies.Ok

abbrev pub arrival_reply : World → Content → Reply
arrival_reply w (contents.Asks c u a call) = replies.Message (next_message w)
arrival_reply w (contents.Answers c call a says) = replies.Ok
arrival_reply w (contents.Feeds from to term after index e) = fed_reply w (feed_verdict w from to term after index e).says
arrival_reply w (contents.Acks from to term index) = replies.Ok

abbrev pub delivery_reply : World → Option Message → Reply
delivery_reply w None = replies.Ok
delivery_reply w (Some m) = arrival_reply w m.content

-- ---- GiveUp and Offer

abbrev pub gives_up : World → ℕ → Option Why → World
gives_up w k None = w
gives_up w k (Some why) = on_message w k (settles (settleds.GaveUp why))

abbrev pub why_reply : Option Why → Reply
why_reply None = replies.Ok
why_reply (Some why) = replies.GaveUp why

abbrev pub offers : World → Option Content → World
offers w None = w
offers w (Some content) = sends w content

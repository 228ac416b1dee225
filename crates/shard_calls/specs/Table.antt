-- The step table, in three columns: for each event its condition, its reply and the world that it leaves. After
-- PlannedReparentShard, the shard lock and replication (Vitess manual, MySQL 8.0 manual); that the lock has terms, that a term says whom it
-- promotes before it does, and that messages may be late, lost or repeated, is after Sougoumarane's "Consensus algorithms at scale".
use Rattle.std.specs.Prelude.{◌≡◌, ℕ, ◌+◌, Bool, true, false, not, ◌&&◌, nat_le, nat_lt, List, [], ◌∷◌, ◌++◌, is_none, is_some, length, unwrap_or, IsTrue, ⊤}
use Rattle.shard_names.specs.Tablets.{is_declared}
use Rattle.topo_lock.specs.Topology.{answer_take, answer_intend, answer_record, answer_drain, after_lapse}
use Rattle.shard_calls.specs.declared.event.Event.{Event}
use Rattle.shard_calls.specs.declared.event.Event.TheVariants as events
use Rattle.shard_calls.specs.declared.event.Reply.{Reply}
use Rattle.shard_calls.specs.declared.event.Reply.TheVariants as replies
use Rattle.shard_calls.specs.declared.event.Side.{Side}
use Rattle.shard_calls.specs.declared.event.Side.TheVariants as sides
use Rattle.shard_calls.specs.declared.event.Step.{Step}
use Rattle.shard_calls.specs.Stands.{is_down}
use Rattle.shard_calls.specs.Tablets.{writes_local, after_crash, restarts}
use Rattle.shard_calls.specs.World.{Config, World, opening, on_tablet, on_topo, on_message, next_message, vanishes, numbered, open_of, open_command, term_of, is_eligible_alias}
use Rattle.shard_calls.specs.Messages.{with_cut, without_cut, is_deliverable, why_given_up, offer_to}
use Rattle.shard_calls.specs.Causes.{has_cause}
use Rattle.shard_calls.specs.Locks.{took_nothing, taken_reply, takes, by_term, read_reply, reads, topo_reply, intends_in, may_record, records_in, drains_in, releases_in}
use Rattle.shard_calls.specs.Begins.{is_in_time, names_declared, begins, ends}
use Rattle.shard_calls.specs.Deliveries.{may_send, asks, by_tablet, after_delivery, delivery_reply, gives_up, why_reply, offers}
use Rattle.shard_calls.specs.Writes.{may_write, writes_in, written_reply, write_reply, tell_of, tells}

-- ---- Cut and Mend: not of control with itself

abbrev pub is_side : Config → Side → Bool
is_side config sides.Control = true
is_side config (sides.Tablet a) = is_declared config.tablets a

abbrev pub is_control : Side → Bool
is_control sides.Control = true
is_control (sides.Tablet a) = false

abbrev pub is_link : Config → Side → Side → Bool
is_link config x y = is_side config x && is_side config y && not (is_control x && is_control y)

-- ---- Tick: at most a day, and not past the year 9998

abbrev pub may_tick : World → ℕ → Bool
may_tick w ms = nat_le ms 86400000 && nat_lt (w.clock + ms) 253370764800000

-- ---- the three columns

-- the condition of the event's row
abbrev pub meets : Config → World → Event → Bool
meets config w (events.Begin name command) = is_none (open_of w.actors name) && is_in_time command && names_declared config command
meets config w (events.Take c) = took_nothing (open_command w c)
meets config w (events.Read c) = is_some (term_of w c)
meets config w (events.Intend c a) = is_some (term_of w c) && is_eligible_alias config a
meets config w (events.Record c a) = is_declared config.tablets a && by_term (term_of w c) false (may_record w.topo a)
meets config w (events.Drain c a) = is_declared config.tablets a && is_some (term_of w c)
meets config w (events.Release c) = is_some (term_of w c)
meets config w events.Lapse = true
meets config w (events.Send c a call) = is_declared config.tablets a && may_send config w c a call (open_command w c)
meets config w (events.Deliver k) = is_deliverable w k
meets config w (events.GiveUp c k) = is_some (why_given_up w c k)
meets config w (events.Offer r) = is_declared config.tablets r && is_some (offer_to w r)
meets config w (events.Write c a) = is_declared config.tablets a && may_write (open_command w c)
meets config w (events.Tell c) = is_some (tell_of w c)
meets config w (events.Local a) = is_declared config.tablets a && not (is_down (w.tablets a).stand)
meets config w (events.Crash a keep) = is_declared config.tablets a
meets config w (events.Restart a) = is_declared config.tablets a && is_down (w.tablets a).stand
meets config w (events.Cut x y) = is_link config x y
meets config w (events.Mend x y) = is_link config x y
meets config w (events.Lose k) = is_some (numbered w.post k)
meets config w (events.Tick ms) = may_tick w ms
meets config w (events.End c x) = has_cause config w (open_command w c) x

abbrev pub Met : Config → World → Event → Type 0
Met config w e = IsTrue (meets config w e)

-- the reply
abbrev pub answer : Config → World → Event → Reply
answer config w (events.Begin name command) = replies.Begun (length w.commands + 1)
answer config w (events.Take c) = taken_reply (answer_take w.topo)
answer config w (events.Read c) = by_term (term_of w c) replies.Ok (read_reply w.topo)
answer config w (events.Intend c a) = by_term (term_of w c) replies.Ok (λ t. topo_reply (answer_intend w.topo t a))
answer config w (events.Record c a) = by_term (term_of w c) replies.Ok (λ t. topo_reply (answer_record w.topo t))
answer config w (events.Drain c a) = by_term (term_of w c) replies.Ok (λ t. topo_reply (answer_drain w.topo t))
answer config w (events.Release c) = replies.Ok
answer config w events.Lapse = replies.Ok
answer config w (events.Send c a call) = replies.Message (next_message w)
answer config w (events.Deliver k) = delivery_reply w (numbered w.post k)
answer config w (events.GiveUp c k) = why_reply (why_given_up w c k)
answer config w (events.Offer r) = replies.Message (next_message w)
answer config w (events.Write c a) = write_reply config w a (open_command w c)
answer config w (events.Tell c) = unwrap_or (tell_of w c) replies.Ok
answer config w (events.Local a) = by_tablet config a replies.Ok (λ me. written_reply (writes_local me (w.tablets a)).says)
answer config w (events.Crash a keep) = replies.Ok
answer config w (events.Restart a) = replies.Ok
answer config w (events.Cut x y) = replies.Ok
answer config w (events.Mend x y) = replies.Ok
answer config w (events.Lose k) = replies.Ok
answer config w (events.Tick ms) = replies.Ok
answer config w (events.End c x) = replies.Ok

-- what the row changes
abbrev pub change : Config → World → Event → World
change config w (events.Begin name command) = begins w name command
change config w (events.Take c) = takes w c
change config w (events.Read c) = by_term (term_of w c) w (reads w c)
change config w (events.Intend c a) = by_term (term_of w c) w (intends_in w c a)
change config w (events.Record c a) = by_term (term_of w c) w (records_in w c a)
change config w (events.Drain c a) = by_term (term_of w c) w (drains_in w c a)
change config w (events.Release c) = by_term (term_of w c) w (releases_in w c)
change config w events.Lapse = on_topo w (after_lapse w.topo)
change config w (events.Send c a call) = asks w c a call
change config w (events.Deliver k) = after_delivery config w k (numbered w.post k)
change config w (events.GiveUp c k) = gives_up w k (why_given_up w c k)
change config w (events.Offer r) = offers w (offer_to w r)
change config w (events.Write c a) = writes_in config w c a (open_command w c)
change config w (events.Tell c) = tells w c (tell_of w c)
change config w (events.Local a) = by_tablet config a w (λ me. on_tablet w a (writes_local me (w.tablets a)).state)
change config w (events.Crash a keep) = on_tablet w a (after_crash (w.tablets a))
change config w (events.Restart a) = on_tablet w a (restarts (w.tablets a)).state
change config w (events.Cut x y) = record w { cuts = with_cut w.cuts (record { x = x; y = y }) }
change config w (events.Mend x y) = record w { cuts = without_cut w.cuts (record { x = x; y = y }) }
change config w (events.Lose k) = on_message w k vanishes
change config w (events.Tick ms) = record w { clock = w.clock + ms }
change config w (events.End c x) = ends w c

-- the number of the event's row
abbrev pub row_number : Event → ℕ
row_number (events.Begin name command) = 1
row_number (events.Take c) = 2
row_number (events.Read c) = 3
row_number (events.Intend c a) = 4
row_number (events.Record c a) = 5
row_number (events.Drain c a) = 6
row_number (events.Release c) = 7
row_number events.Lapse = 8
row_number (events.Send c a call) = 9
row_number (events.Deliver k) = 10
row_number (events.GiveUp c k) = 11
row_number (events.Offer r) = 12
row_number (events.Write c a) = 13
row_number (events.Tell c) = 14
row_number (events.Local a) = 15
row_number (events.Crash a keep) = 16
row_number (events.Restart a) = 17
row_number (events.Cut x y) = 18
row_number (events.Mend x y) = 18
row_number (events.Lose k) = 19
row_number (events.Tick ms) = 20
row_number (events.End c x) = 22

-- ---- steps and runs

-- the event with the reply of its row
abbrev pub step_of : Config → World → Event → Step
step_of config w e = record { event = e; reply = answer config w e }

-- the world after an event
abbrev pub after : Config → World → Event → World
after config w e = record (change config w e) { past = w.past ++ step_of config w e ∷ [] }

-- a step: its row's condition holds, and its reply is that of its row
pub record IsStep (config : Config) (w : World) (s : Step) : Type 0 where
  pub met : Met config w s.event
  pub answered : s.reply ≡ answer config w s.event

-- the world after these steps
abbrev pub world_after : Config → World → List Step → World
world_after config w [] = w
world_after config w (s ∷ ss) = world_after config (after config w s.event) ss

-- the steps are a run from this world
abbrev pub IsRunFrom : Config → World → List Step → Type 0
IsRunFrom config w [] = ⊤
IsRunFrom config w (s ∷ ss) = IsStep config w s × IsRunFrom config (after config w s.event) ss

-- a run of the shard machine: from the world in which nothing has happened
abbrev pub IsRun : Config → List Step → Type 0
IsRun config steps = IsRunFrom config (opening config) steps

-- What a row replies that was read is what its event reads.
use Rattle.std.proofs.Common.{ℕ, Bool, true, false, cond, Option, Some, None, Result, Ok, Err, unwrap_or, refl}
use Rattle.shard_base.specs.Options.{◌>>=◌, only_if}
use Rattle.shard_names.specs.declared.alias.Alias.{Alias}
use Rattle.shard_names.specs.declared.tablet.Tablet.{Tablet}
use Rattle.shard_names.specs.Tablets.{tablet_of}
use Rattle.topo_lock.specs.Topology.{Topology, is_held_in, answer_take, answer_intend, answer_record, answer_drain}
use Rattle.topo_lock.specs.declared.lock.LockTaken.{LockTaken}
use Rattle.topo_lock.specs.declared.lock.TopoFault.{TopoFault}
use Rattle.topo_lock.specs.declared.lock.TopoFault.TheVariants as faults
use Rattle.shard_calls.specs.declared.event.Event.{Event}
use Rattle.shard_calls.specs.declared.event.Event.TheVariants as events
use Rattle.shard_calls.specs.declared.event.Reply.{Reply}
use Rattle.shard_calls.specs.declared.event.Reply.TheVariants as replies
use Rattle.shard_calls.specs.declared.outcome.Accepted.{Accepted}
use Rattle.shard_calls.specs.declared.outcome.Accepted.TheVariants as accepteds
use Rattle.shard_calls.specs.declared.outcome.Written.{Written}
use Rattle.shard_calls.specs.declared.outcome.Written.TheVariants as writtens
use Rattle.shard_calls.specs.declared.post.Content.{Content}
use Rattle.shard_calls.specs.declared.post.Content.TheVariants as contents
use Rattle.shard_calls.specs.declared.post.Message.{Message}
use Rattle.shard_calls.specs.declared.state.CommandState.{CommandState}
use Rattle.shard_calls.specs.declared.state.Wrote.{Wrote}
use Rattle.shard_calls.specs.declared.why.Why.{Why}
use Rattle.shard_calls.specs.Stands.{is_primary_of}
use Rattle.shard_calls.specs.Tablets.{writes_local}
use Rattle.shard_calls.specs.World.{Config, World, numbered, open_command, term_of}
use Rattle.shard_calls.specs.Locks.{by_term, seen_of, taken_reply, read_reply, topo_reply}
use Rattle.shard_calls.specs.Messages.{is_told_at, why_given_up}
use Rattle.shard_calls.specs.Deliveries.{if_declared, feed_verdict, fed_reply, arrival_reply, delivery_reply, why_reply}
use Rattle.shard_calls.specs.Writes.{written_reply, write_verdict, write_reply, tell_reply}
use Rattle.shard_calls.specs.Table.{answer}
use Rattle.shard_core.specs.Spares.{read_by, spare_of, IsSpare}

-- a reply to an event that reads nothing
abbrev ReadsNothing : Reply → Type 0
ReadsNothing r = IsSpare r None

read_held : (topo : Topology) (b : Bool) → IsSpare (cond b (replies.Read (seen_of topo)) (replies.Lost topo.term)) (cond b (Some (seen_of topo)) None)
read_held topo true = refl
read_held topo false = tt

read_spare : (w : World) (o : Option ℕ) → IsSpare (by_term o replies.Ok (read_reply w.topo)) (read_by w o)
read_spare w None = tt
read_spare w (Some t) = read_held w.topo (is_held_in w.topo t)

taken_nothing : (r : Result ℕ LockTaken) → ReadsNothing (taken_reply r)
taken_nothing (Ok t) = tt
taken_nothing (Err held) = tt

topo_nothing : (r : Result (Unit {0}) TopoFault) → ReadsNothing (topo_reply r)
topo_nothing (Ok u) = tt
topo_nothing (Err (faults.LockLost current)) = tt
topo_nothing (Err (faults.IntentStands a)) = tt

term_nothing : (o : Option ℕ) (f : ℕ → Reply) → ((t : ℕ) → ReadsNothing (f t)) → ReadsNothing (by_term o replies.Ok f)
term_nothing None f each = tt
term_nothing (Some t) f each = each t

tablet_nothing : (o : Option Tablet) (f : Tablet → Reply) → ((me : Tablet) → ReadsNothing (f me)) → ReadsNothing (if_declared o replies.Ok f)
tablet_nothing None f each = tt
tablet_nothing (Some me) f each = each me

fed_nothing : (w : World) (x : Accepted) → ReadsNothing (fed_reply w x)
fed_nothing w accepteds.Taken = tt
fed_nothing w accepteds.Ignored = tt

arrival_nothing : (w : World) (c : Content) → ReadsNothing (arrival_reply w c)
arrival_nothing w (contents.Asks command u a call) = tt
arrival_nothing w (contents.Answers command call a says) = tt
arrival_nothing w (contents.Feeds from to term before index e) = fed_nothing w (feed_verdict w from to term before index e).says
arrival_nothing w (contents.Acks from to term index) = tt

delivery_nothing : (w : World) (o : Option Message) → ReadsNothing (delivery_reply w o)
delivery_nothing w None = tt
delivery_nothing w (Some m) = arrival_nothing w m.content

why_nothing : (o : Option Why) → ReadsNothing (why_reply o)
why_nothing None = tt
why_nothing (Some why) = tt

written_nothing : (x : Written) → ReadsNothing (written_reply x)
written_nothing (writtens.Entry g) = tt
written_nothing (writtens.NotPrimary at) = tt

write_nothing : (config : Config) (w : World) (a : Alias) (o : Option CommandState) → ReadsNothing (write_reply config w a o)
write_nothing config w a None = tt
write_nothing config w a (Some s) = tablet_nothing (tablet_of config.tablets a) _ (λ me. written_nothing (write_verdict w a s me).says)

told_by : (counts primary : Bool) → ReadsNothing (unwrap_or (cond primary (only_if counts replies.Told) (Some replies.Gone)) replies.Ok)
told_by true true = tt
told_by false true = tt
told_by counts false = tt

told_wrote : (w : World) (o : Option Wrote) → ReadsNothing (unwrap_or (o >>= (λ x. tell_reply w x)) replies.Ok)
told_wrote w None = tt
told_wrote w (Some x) = told_by (is_told_at w x.alias x.index) (is_primary_of (w.tablets x.alias).stand x.term)

told_nothing : (w : World) (o : Option CommandState) → ReadsNothing (unwrap_or (o >>= (λ s. s.wrote >>= (λ x. tell_reply w x))) replies.Ok)
told_nothing w None = tt
told_nothing w (Some s) = told_wrote w s.wrote

pub spare_fits : (config : Config) (w : World) (e : Event) → IsSpare (answer config w e) (spare_of w e)
spare_fits config w (events.Begin name command) = tt
spare_fits config w (events.Take c) = taken_nothing (answer_take w.topo)
spare_fits config w (events.Read c) = read_spare w (term_of w c)
spare_fits config w (events.Intend c a) = term_nothing (term_of w c) _ (λ t. topo_nothing (answer_intend w.topo t a))
spare_fits config w (events.Record c a) = term_nothing (term_of w c) _ (λ t. topo_nothing (answer_record w.topo t))
spare_fits config w (events.Drain c a) = term_nothing (term_of w c) _ (λ t. topo_nothing (answer_drain w.topo t))
spare_fits config w (events.Release c) = tt
spare_fits config w events.Lapse = tt
spare_fits config w (events.Send c a call) = tt
spare_fits config w (events.Deliver k) = delivery_nothing w (numbered w.post k)
spare_fits config w (events.GiveUp c k) = why_nothing (why_given_up w c k)
spare_fits config w (events.Offer r) = tt
spare_fits config w (events.Write c a) = write_nothing config w a (open_command w c)
spare_fits config w (events.Tell c) = told_nothing w (numbered w.commands c)
spare_fits config w (events.Local a) = tablet_nothing (tablet_of config.tablets a) _ (λ me. written_nothing (writes_local me (w.tablets a)).says)
spare_fits config w (events.Crash a keep) = tt
spare_fits config w (events.Restart a) = tt
spare_fits config w (events.Cut x y) = tt
spare_fits config w (events.Mend x y) = tt
spare_fits config w (events.Lose k) = tt
spare_fits config w (events.Tick ms) = tt
spare_fits config w (events.End c x) = tt

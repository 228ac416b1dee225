-- The marks of drained tablets over a history.
use Rattle.std.proofs.Common.{◌≡◌, ◌≤◌, ◌<◌, ℕ, suc, Bool, true, false, ◌||◌, ap, sym, subst, ◌∙◌, arith, cond, Option, Some, None, Ok, Err, is_some}
use Rattle.std.proofs.lemmas.Bool.{false≢true}
use Rattle.std.specs.List.{slice_get}
use Rattle.shard_names.specs.declared.alias.Alias.{Alias}
use Rattle.shard_names.specs.Tablets.{is_among, is_declared}
use Rattle.shard_names.proofs.TabletLemmas.{both_right, alias_eq_itself}
use Rattle.topo_lock.specs.Topology.{Topology, is_held_in, answer_drain, marked}
use Rattle.topo_lock.specs.declared.lock.TopoFault.TheVariants as faults
use Rattle.topo_lock.proofs.MarkLemmas.{among_marked}
use Rattle.topo_lock.proofs.MoveLemmas.{marks_stay_over_steps}
use Rattle.shard_calls.specs.declared.event.Event.TheVariants as events
use Rattle.shard_calls.specs.declared.event.Reply.TheVariants as replies
use Rattle.shard_calls.specs.World.{World, opening, term_of}
use Rattle.shard_calls.specs.Locks.{by_term, topo_reply, drains_in}
use Rattle.shard_calls.specs.Table.{after, IsStep}
use Rattle.shard_calls.specs.Promotions.{world_at}
use Rattle.shard_calls.specs.RunLaws.{OfEveryRun}
use Rattle.shard_calls.proofs.RunLemmas.{later_at, next_world, step_along}
use Rattle.shard_laws.specs.Marks.{MarksStay}

now_among : (t : Topology) (a : Alias) → is_among (marked t.drained a) a ≡ true
now_among t a = among_marked t.drained a a ∙ ap (λ (b : Bool). b || is_among t.drained a) (alias_eq_itself a)

-- under the lock the tablet is marked
marks_now : (t : Topology) (a : Alias) (b : Bool) → topo_reply (cond b (Ok tt) (Err (faults.LockLost t.term))) ≡ replies.Ok
    → is_among (cond b (record t { drained = marked t.drained a }) t).drained a ≡ true
marks_now t a true is = now_among t a
marks_now t a false is = absurd (let wrong : replies.Lost t.term ≡ replies.Ok = is in cc)

drained_now : (w : World) (c : ℕ) (a : Alias) (o : Option ℕ) → is_some o ≡ true → by_term o replies.Ok (λ t. topo_reply (answer_drain w.topo t)) ≡ replies.Ok
    → is_among (by_term o w (drains_in w c a)).topo.drained a ≡ true
drained_now w c a None took is = absurd (false≢true took)
drained_now w c a (Some t) took is = marks_now w.topo a (is_held_in w.topo t) is

pub marks_stay : OfEveryRun MarksStay
marks_stay config ss run = record { drains = drained; stays = stays }
  where
    stays : (i j : ℕ) (a : Alias) → i ≤ j → is_among (world_at config ss i).topo.drained a ≡ true → is_among (world_at config ss j).topo.drained a ≡ true
    stays i j a le there = marks_stay_over_steps (world_at config ss i).topo (world_at config ss j).topo a (later_at config ss i j run le).topo there

    drained : (i j c : ℕ) (a : Alias) → slice_get ss i ≡ Some (record { event = events.Drain c a; reply = replies.Ok }) → i < j
        → is_among (world_at config ss j).topo.drained a ≡ true
    drained i j c a here less =
        let w : World = world_at config ss i in
        let step : IsStep config w (record { event = events.Drain c a; reply = replies.Ok }) = step_along config (opening config) ss i _ run here in
        let now : is_among (after config w (events.Drain c a)).topo.drained a ≡ true =
        drained_now w c a (term_of w c) (both_right (is_declared config.tablets a) (is_some (term_of w c)) step.met) (sym step.answered) in
        stays (suc i) j a (omega (arith, less)) (subst (λ (v : World). is_among v.topo.drained a ≡ true) (sym (next_world config (opening config) ss i _ here)) now)

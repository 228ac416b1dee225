use Rattle.std.proofs.Common.{◌≡◌, List, length, ap, sym, arith}
use Rattle.shard_calls.specs.declared.event.Note.{Note}
use Rattle.shard_calls.specs.declared.state.CommandState.{CommandState}
use Rattle.shard_state.specs.State.{tablets_of}
use Rattle.shard_core.specs.Room.{owed_of}
use Rattle.shard_core.proofs.NoteLemmas.{no_notes}
use Rattle.shard_core.proofs.OpeningLemmas.{leads_opening, tablets_opened}
use Rattle.shard_core.proofs.shard.Shard.new.Goals as goal

pub invariant_of-result : goal.invariant_of-result
invariant_of-result c = record {
  leads = rw (c.in_ok-topo.ensures, c.in_ok-post.ensures, c.in_ok-actors.ensures, c.new-3.ensures.items, c.new-4.ensures.items, c.new-5.ensures.items)
      (leads_opening (record { tablets = c.args.tablets.now; policy = c.args.policy }) c.args.moment c.in_ok-managers.managers.items c.requires.tablets c.requires.begins c.in_ok-managers.ensures);
  owed = sym (ap (λ (cs : List CommandState). owed_of cs) c.new-4.ensures.items);
  room = omega (arith, c.new-5.ensures.len);
  notes = rw c.new-6.ensures.items (no_notes _);
  few_notes = omega (arith, ap (λ (ns : List Note). length ns) c.new-6.ensures.items);
}

pub returns : goal.returns
returns c =
    let tablets : tablets_of c.in_ok-managers.managers.items ≡ c.args.tablets.now =
    tablets_opened (record { tablets = c.args.tablets.now; policy = c.args.policy }) c.in_ok-managers.managers.items c.in_ok-managers.ensures in
    let none = c.new-5.ensures.items in
    let unnoted = c.new-6.ensures.items in
    λ i. record { config = record { tablets = tablets i; policy = c.args.policy; moment = c.args.moment }; steps = none i; notes = unnoted i }

use Rattle.std.proofs.Common.{◌≡◌, true, ap, sym, subst, ◌∙◌, arith}
use Rattle.std.proofs.lemmas.Bool.{false≢true}
use Rattle.shard_calls.specs.Table.{meets}
use Rattle.shard_calls.specs.World.{World}
use Rattle.shard_state.specs.State.{data_of, seen, config_in}
use Rattle.shard_core.specs.Kept.{Kept, Makes, kept_of, world_of}
use Rattle.shard_core.specs.Room.{has_room_kept}
use Rattle.shard_core.proofs.NoteLemmas.{one_step}
use Rattle.shard_core.proofs.RoomLemmas.{owed_within, owed_becomes, room_of_kept, same_room}
use Rattle.shard_core.proofs.RunLemmas.{met_there}
use Rattle.shard_core.proofs.shard.Shard.apply.Goals as goal

pub make-requires-clause-owed : goal.make-requires-clause-owed
make-requires-clause-owed c =
    let kept_data = data_of c.self.inside.fields in
    let few = c.self.invariant.leads.few.commands in
    let room = c.self.invariant.leads.room in
    let within =
    owed_within (seen kept_data) c.self.inside.fields.commands.items c.self.inside.owed c.owed_after-owed.result c.args.event c.self.invariant.owed (omega (arith, few, room)) c.owed_after-owed.ensures in
    omega (arith, within)

pub invariant_of-self : goal.invariant_of-self
invariant_of-self c =
    let found = rw c.in-Ok-Some.field-0-is at c.in-Ok-Some.ensures.found in
    record {
      leads = c.in-Ok.ensures.leads;
      owed = owed_becomes (data_of c.self.inside.fields) (data_of c.make.new.fields) c.args.event _ c.self.inside.owed c.owed_after-owed.result
          (sym (met_there (data_of c.self.inside.fields) c.self.inside.history.steps.items c.args.event c.self.invariant.leads) ∙ found.0) c.in-Ok.ensures.made c.self.invariant.owed c.owed_after-owed.ensures;
      room = c.in-Ok.ensures.room;
      notes = rw ((c.in-Ok.ensures.step c.self.inside.history.notes.items).steps) (one_step c.self.inside.history.steps.items _ c.self.inside.history.notes.items c.self.invariant.notes);
      few_notes = c.self.invariant.few_notes;
    }

pub returns-in-Ok-clause-made : goal.returns-in-Ok-clause-made
returns-in-Ok-clause-made c =
    subst (λ (k : Kept). Makes k (kept_of (data_of c.make.new.fields) c.make.new.steps.items c.self.inside.history.notes.items) c.args.event) c.self.view_is
    (c.in-Ok.ensures.step c.self.inside.history.notes.items)

pub returns-in-Err-make-clause-kept : goal.returns-in-Err-make-clause-kept
returns-in-Err-make-clause-kept c kept err =
    let found = rw c.in-Ok-Some.field-0-is at c.in-Ok-Some.ensures.found in
    let kept_data = data_of c.self.inside.fields in
    let world = sym (ap (λ (k : Kept). world_of k) c.self.view_is) ∙ sym c.self.invariant.leads.world in
    let here : has_room_kept (seen kept_data) c.args.event ≡ true =
    sym (same_room kept_data c.self.inside.history.steps.items c.args.event) ∙ sym (ap (λ (w : World). has_room_kept w c.args.event) world) ∙ kept in
    let met : meets (config_in kept_data) (seen kept_data) c.args.event ≡ true =
    sym (met_there kept_data c.self.inside.history.steps.items c.args.event c.self.invariant.leads) ∙ found.0 in
    false≢true (c.in-Err-make.ensures.kept here
    (room_of_kept kept_data c.args.event c.self.inside.owed c.owed_after-owed.result _ _ met here c.self.invariant.owed c.owed_after-owed.ensures c.self.invariant.room))

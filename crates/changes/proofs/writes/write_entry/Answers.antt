use Rattle.std.proofs.Common.{ℕ, ◌+◌, refl, ap, sym, arith}
use Rattle.shard_names.proofs.TabletLemmas.{both_left}
use Rattle.shard_names.specs.Tablets.{is_declared}
use Rattle.shard_calls.specs.World.{open_command}
use Rattle.shard_calls.specs.Writes.{may_write}
use Rattle.shard_state.specs.State.{data_of, seen, config_in, tablets_of, state_at}
use Rattle.changes.proofs.DeliverLemmas.{the_tablet}
use Rattle.changes.proofs.FewLemmas.{few_numbers}
use Rattle.changes.proofs.WriteLemmas.{entered, entered_reply, forgotten, noted}
use Rattle.changes.proofs.writes.write_entry.Goals as goal

pub next_gtid-gtid-requires-clause-numbered : goal.next_gtid-gtid-requires-clause-numbered
next_gtid-gtid-requires-clause-numbered c =
    rw c.deref-3.ensures.value (λ server. omega (arith, few_numbers 1048576 (seen (data_of c.args.fields.now)) c.args.alias.now c.requires.few server))

pub write_at-requires-clause-numbered : goal.write_at-requires-clause-numbered
write_at-requires-clause-numbered c = λ server. omega (arith, few_numbers 1048576 (seen (data_of c.args.fields.now)) c.args.alias.now c.requires.few server)

pub returns-in-Ok-clause-made : goal.returns-in-Ok-clause-made
returns-in-Ok-clause-made c =
    let d = data_of c.args.fields.now in
    let declared = both_left (is_declared (tablets_of c.args.fields.now.managers.items) c.args.alias.now) (may_write (open_command (seen d) c.args.command)) c.requires.met in
    let me = the_tablet (tablets_of c.args.fields.now.managers.items) c.args.alias.now declared in
    let begun = rw (c.deref.ensures.value, c.in-Some.is) at c.open_command.ensures in
    let count = rw c.deref-2.ensures.value at c.count_at.ensures in
    let next = rw c.deref-3.ensures.value at c.next_gtid-gtid.ensures in
    let changes = c.in-Ok.ensures.state me.0 me.1 in
    let tablets = changes.tablets in
    let commands = noted c.args.fields.now.commands.items c.act.new.commands.items c.note_entry.new.commands.items c.args.command c.wrote_act-new.result _ _ c.wrote_act-new.ensures c.in_ok-act.ensures.ok c.note_entry.ensures in
    record {
      config = λ i. record { tablets = tablets i; policy = c.args.fields.now.policy; moment = c.args.fields.now.moment };
      aliases = refl;
      marks = refl;
      groups = changes.groups;
      world = entered (config_in d) (seen d) c.args.command c.args.alias.now c.in-Some.state.now me.0 c.args.term _ c.next_gtid-gtid.result
          (record { tablets = tablets_of c.write_at.new.managers.items; policy = c.args.fields.now.policy }) (state_at c.write_at.new.managers.items) c.note_entry.new.commands.items (sym begun) me.1
          c.requires.primary (ap (λ (n : ℕ). n + 1) count) (next me.0 me.1) (λ i. record { tablets = tablets i; policy = c.args.fields.now.policy }) changes.states commands;
      reply = entered_reply (config_in d) (seen d) c.args.command c.args.alias.now c.in-Some.state.now me.0 c.args.term c.next_gtid-gtid.result (sym begun) me.1 c.requires.primary (next me.0 me.1);
    }

pub returns-in-Err-clause-err : goal.returns-in-Err-clause-err
returns-in-Err-clause-err c =
    let managers = c.in-Err.ensures.err in
    let commands = forgotten c.args.fields.now.commands.items c.act.new.commands.items c.forget.new.commands.items c.args.command c.wrote_act-new.result c.in_ok-act.ensures.ok c.forget.ensures in
    λ i. record (data_of c.args.fields.now) { managers = managers i; commands = commands i }

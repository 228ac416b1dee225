use Rattle.std.proofs.Common.{◌≡◌, ◌∙◌, ap, sym, subst, List, Some}
use Rattle.shard_names.specs.declared.tablet.Tablet.{Tablet}
use Rattle.shard_names.specs.Tablets.{AreTablets, tablet_of}
use Rattle.replication.specs.Acks.{aliases_of}
use Rattle.gtid_sets.specs.Logs.{greatest_number, newest_row_names}
use Rattle.tablet_manager.specs.LogState.{LogState}
use Rattle.tablet_manager.proofs.ManagedLemmas.{one_of}
use Rattle.tablet_manager.proofs.manager.Manager.new.Goals as goal

pub invariant_of-result : goal.invariant_of-result
invariant_of-result c =
    let same = sym c.in_ok-known.ensures.items in
    record {
      shard = subst (λ (ts : List Tablet). AreTablets ts) same c.requires.shard;
      declared = subst (λ (ts : List Tablet). tablet_of ts c.args.me.alias ≡ Some c.args.me) same (one_of c.args.tablets.now c.args.me c.requires.shard.in_order c.requires.among);
      aliases = c.in_ok-acks.ensures.aliases ∙ ap (λ (ts : List Tablet). aliases_of ts) same;
      newest = ap (λ (l : LogState). newest_row_names l.entries c.args.me.alias) (sym c.new-2.ensures);
      number = ap (λ (l : LogState). greatest_number c.args.me.server l.entries) (sym c.new-2.ensures);
    }

use Rattle.std.proofs.Common.{◌≡◌, ◌∙◌, ap, sym}
use Rattle.replication.specs.Acks.{Acks, aliases_of}
use Rattle.shard_names.specs.Tablets.{tablet_of}
use Rattle.replication.proofs.ToldLemmas.{found_told, told_tested}
use Rattle.replication.proofs.acks.AckTable.is_told.Goals as goal

pub returns-clause-told : goal.returns-clause-told
returns-clause-told g c =
    let these : c.self.inside.aliases.items ≡ aliases_of c.args.tablets.now = ap (λ (k : Acks). k.aliases) c.self.view_is ∙ c.requires.made_for in
    rw (← c.self.view_is) (found_told (g.P.Policy.rules c.args.policy.now) c.args.tablets.now _ c.in-Some.tablet.now
    c.self.inside.aliases.items c.self.inside.indexes.items c.as_slice.result.now c.args.index c.are_enough.result
    (sym c.in-Some.ensures) (g.met.P.Policy.lawful c.args.policy.now) c.self.invariant these c.requires.shard.in_order c.as_slice.ensures.value c.are_enough.ensures)

pub returns-clause-tested : goal.returns-clause-tested
returns-clause-tested g c =
    told_tested (g.P.Policy.rules c.args.policy.now) c.args.tablets.now (tablet_of c.args.tablets.now c.args.primary.now) _ c.args.index c.are_enough.result
    (returns-clause-told g c)

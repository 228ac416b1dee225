use Rattle.std.proofs.Common.{◌≡◌, ◌∙◌, ap}
use Rattle.gtid_sets.specs.Intervals.{HasWith, position_of}
use Rattle.gtid_sets.proofs.LookLemmas.{on_ok_map, on_err_map}
use Rattle.gtid_sets.proofs.SetLemmas.{set_with}
use Rattle.gtid_sets.proofs.gtid_set.GtidSet.add.Goals as goal

pub returns-clause-ok : goal.returns-clause-ok
returns-clause-ok c =
    on_ok_map c.put.result (HasWith c.args.gtid c.self.inside.intervals.items c.put.new.intervals.items) _
    (λ more. set_with c.args.self.now c.args.gtid c.self.inside.intervals.items c.put.new.intervals.items c.self.view_is more) c.put.ensures.members

pub returns-clause-err : goal.returns-clause-err
returns-clause-err c =
    on_err_map c.put.result (c.put.new.intervals.items ≡ c.self.inside.intervals.items) _ (λ e. ap position_of e ∙ c.self.view_is) c.put.ensures.err

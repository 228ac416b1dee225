use Rattle.std.proofs.Common.{inl, ap, sym, subst, ◌∙◌}
use Rattle.std.specs.Option.{option_to_list}
use Rattle.gtid_sets.specs.Intervals.{start, StartsBy}
use Rattle.gtid_sets.proofs.LookLemmas.{on_ok_map}
use Rattle.gtid_sets.proofs.IntervalLemmas.{starts_further}
use Rattle.gtid_sets.proofs.CutLemmas.{Lower, lower_part}
use Rattle.gtid_sets.proofs.intervals.append_below.Goals as goal
use Rattle.gtid_sets.proofs.intervals.append_below.Goals.{In-Some}

part : (c : In-Some) → Lower c.args.x.now c.args.y.now c.in-Some.part
part c = lower_part c.args.x.now c.args.y.now c.in-Some.part c.requires.some (ap option_to_list (sym c.below.ensures ∙ c.in-Some.is))

pub returns-in-Some-clause-behind_other : goal.returns-in-Some-clause-behind_other
returns-in-Some-clause-behind_other c =
    let its : Lower c.args.x.now c.args.y.now c.in-Some.part = part (goal.at.returns-in-Some-clause-behind_other c).In-Some in
    on_ok_map c.append.result _ _
    (λ by. starts_further (start c.args.x.now) (start c.args.y.now) c.append.new.intervals.items (inl its.under)
    (subst (λ g. StartsBy g c.append.new.intervals.items) its.starts by)) c.append.ensures.behind

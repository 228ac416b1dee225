use Rattle.std.proofs.Common.{◌≡◌, ◌∙◌, ◌∷◌, [], ap, sym, subst}
use Rattle.std.specs.Option.{option_to_list}
use Rattle.gtid_sets.specs.Intervals.{Ordered, Behind, start}
use Rattle.gtid_sets.proofs.LookLemmas.{is_empty}
use Rattle.gtid_sets.proofs.IntervalLemmas.{starts_further}
use Rattle.gtid_sets.proofs.AppendLemmas.{ordered_rises, behind_next}
use Rattle.gtid_sets.proofs.CutLemmas.{above_list, Upper, upper_part, upper_ordered}
use Rattle.gtid_sets.proofs.WalkLemmas.{Left, step_other, step_its}
use Rattle.gtid_sets.proofs.intervals.combined.Goals as goal
use Rattle.gtid_sets.proofs.intervals.combined.Goals.{In-None, In-Some-split_first}

split : (c : In-Some-split_first) → c.loop-y.right.now ≡ c.in-Some-split_first.y.now ∷ c.in-Some-split_first.later.now
split c = c.in-Some-split_first.ensures.cases.0

ordered : (c : In-Some-split_first) → Ordered (c.in-Some-split_first.y.now ∷ c.in-Some-split_first.later.now)
ordered c = subst Ordered (split c) c.loop-y.invariant.right

pub loop-y-preserved-in-Some-above : goal.loop-y-preserved-in-Some-above
loop-y-preserved-in-Some-above c =
    let step : In-Some-split_first = (goal.at.loop-y-preserved-in-Some-above c).In-Some-split_first in
    let part : above_list c.loop-y.x c.in-Some-split_first.y.now ≡ c.in-Some-above.part ∷ [] =
    ap option_to_list (sym c.above.ensures ∙ c.in-Some-above.is) in
    let its : Upper c.loop-y.x c.in-Some-split_first.y.now c.in-Some-above.part =
    upper_part c.loop-y.x c.in-Some-split_first.y.now c.in-Some-above.part c.loop-y.invariant.left.0 (ordered step).0 part in
    let taken = c.in_ok-append_taken-in-Some-above.ensures in
    record {
      in_order = taken.in_order;
      left = upper_ordered c.loop-y.x c.in-Some-split_first.y.now c.in-Some-above.part c.loop-y.left.now its c.loop-y.invariant.left;
      right = (ordered step).1.1;
      behind_left =
          starts_further (start c.in-Some-split_first.y.now) (start c.in-Some-above.part) c.append_taken.new.intervals.items
          its.over taken.behind;
      behind_right =
          behind_next c.append_taken.new.intervals.items c.in-Some-split_first.later.now c.in-Some-split_first.y.now
          (ordered step) taken.behind;
      members = λ g.
          step_other c.args.taken c.loop-y.all.items c.append_below.new.intervals.items c.append_taken.new.intervals.items
          c.loop-y.left.now c.in-Some-split_first.later.now c.loop-y.x c.in-Some-split_first.y.now c.in-Some-above.part g
          c.loop-y.invariant.left (ordered step) part its (c.in_ok-append_below.ensures.members g) (taken.members g)
          ∙ ap (λ rs. Left c.args.taken c.loop-y.all.items (c.loop-y.x ∷ c.loop-y.left.now) rs g) (sym (split step))
          ∙ c.loop-y.invariant.members g;
    }

members : (c : In-None) (g : _)
    → Left c.args.taken c.append_below.new.intervals.items c.loop-y.left.now c.loop-y.right.now g
    ≡ Left c.args.taken c.loop-y.all.items (c.loop-y.x ∷ c.loop-y.left.now) c.loop-y.right.now g
members c g =
    let right : c.loop-y.right.now ≡ c.in-Some-split_first.y.now ∷ c.in-Some-split_first.later.now = c.in-Some-split_first.ensures.cases.0 in
    let order : Ordered (c.in-Some-split_first.y.now ∷ c.in-Some-split_first.later.now) = subst Ordered right c.loop-y.invariant.right in
    ap (λ rs. Left c.args.taken c.append_below.new.intervals.items c.loop-y.left.now rs g) right
    ∙ step_its c.args.taken c.loop-y.all.items c.append_below.new.intervals.items
    c.loop-y.left.now c.in-Some-split_first.later.now c.loop-y.x c.in-Some-split_first.y.now g order
    (ap option_to_list (sym c.above.ensures ∙ c.in-None.is)) (c.in_ok-append_below.ensures.members g)
    ∙ ap (λ rs. Left c.args.taken c.loop-y.all.items (c.loop-y.x ∷ c.loop-y.left.now) rs g) (sym right)

pub returns-in_default-split_first-2-clause-members : goal.returns-in_default-split_first-2-clause-members
returns-in_default-split_first-2-clause-members c = λ g.
    let none : c.loop-y.left.now ≡ [] = is_empty c.loop-y.left.now c.in_default-split_first-2.ensures.cases in
    c.in_ok-append_second-in-None.ensures.members g
    ∙ ap (λ ls. Left c.args.taken c.append_below.new.intervals.items ls c.loop-y.right.now g) (sym none)
    ∙ members (goal.at.returns-in_default-split_first-2-clause-members c).In-None g ∙ c.loop-y.invariant.members g

pub loop-y-preserved : goal.loop-y-preserved
loop-y-preserved c =
    let left : c.loop-y.left.now ≡ c.in-Some-split_first-2.next.now ∷ c.in-Some-split_first-2.others.now = c.in-Some-split_first-2.ensures.cases.0 in
    let order : Ordered (c.loop-y.x ∷ (c.in-Some-split_first-2.next.now ∷ c.in-Some-split_first-2.others.now)) =
    subst (λ ls. Ordered (c.loop-y.x ∷ ls)) left c.loop-y.invariant.left in
    let below = c.in_ok-append_below.ensures in
    record {
      in_order = below.in_order;
      left = order.1.1;
      right = c.loop-y.invariant.right;
      behind_left =
          behind_next c.append_below.new.intervals.items (c.in-Some-split_first-2.next.now ∷ c.in-Some-split_first-2.others.now) c.loop-y.x
          order below.behind;
      behind_right =
          subst (Behind c.append_below.new.intervals.items) (sym c.in-Some-split_first.ensures.cases.0) below.behind_other;
      members = λ g.
          ap (λ ls. Left c.args.taken c.append_below.new.intervals.items ls c.loop-y.right.now g) (sym left)
          ∙ members (goal.at.loop-y-preserved c).In-None g ∙ c.loop-y.invariant.members g;
    }

pub append_all-requires-clause-rise : goal.append_all-requires-clause-rise
append_all-requires-clause-rise c = ordered_rises c.loop-y.left.now c.loop-y.invariant.left.1.1

pub append_all-requires-clause-behind : goal.append_all-requires-clause-behind
append_all-requires-clause-behind c =
    behind_next c.append.new.intervals.items c.loop-y.left.now c.loop-y.x c.loop-y.invariant.left c.in_ok-append.ensures.behind

use Rattle.std.proofs.Common.{◌<◌, ◌∙◌, length, arith}
use Rattle.std.proofs.lemmas.List.{length-set}
use Rattle.turns.proofs.LookLemmas.{look_step}
use Rattle.turns.proofs.looking.look.Goals as goal

pub loop-at-preserved : goal.loop-at-preserved
loop-at-preserved g c =
    let short : c.loop-at.at < length c.loop-at.span.items = omega arith in
    record {
      looks =
          look_step c.args.number (g.F.Floor.shown c.args.floor.now) (g.F.Floor.shown c.loop-at.floor) (g.F.Floor.shown c.look_at.new.floor) c.loop-at.span.items c.loop-at.at
          c.index_mut.result.now c.look_at.new.deed short c.index_mut.ensures.value c.in_ok-look_at.ensures.looked c.loop-at.invariant.looks;
      group = c.look_at.ensures.group ∙ c.loop-at.invariant.group;
      same_length = length-set c.loop-at.span.items c.loop-at.at c.look_at.new.deed ∙ c.loop-at.invariant.same_length;
    }

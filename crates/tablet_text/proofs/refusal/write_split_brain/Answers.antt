use Rattle.std.specs.Prelude.{codes}
use Rattle.tablet_text.specs.Refusals.{has_text, split_brain_text}
use Rattle.tablet_text.proofs.TextLemmas.{four_pieces}
use Rattle.tablet_text.proofs.refusal.write_split_brain.Goals as goal

pub returns : goal.returns
unfolding split_brain_text
returns c =
    four_pieces c.write_has-2.result c.args.into.now.items c.extend_from_slice.new.self.items c.write_has.new.into.items c.extend_from_slice-2.new.self.items c.write_has-2.new.into.items
    (codes "14 SplitBrain: ") (has_text c.args.a.now c.args.has_a.now) (codes " and ") (has_text c.args.b.now c.args.has_b.now)
    c.in_ok-extend_from_slice.ensures.items c.in_ok-write_has.ensures c.in_ok-extend_from_slice-2.ensures.items c.write_has-2.ensures

use Rattle.std.specs.Prelude.{codes}
use Rattle.tablet_text.specs.Refusals.{lacks_text, not_caught_up_text}
use Rattle.tablet_text.specs.Stands.{since_text}
use Rattle.tablet_text.proofs.TextLemmas.{four_pieces}
use Rattle.tablet_text.proofs.refusal.write_not_caught_up.Goals as goal

pub returns : goal.returns
unfolding not_caught_up_text
returns c =
    four_pieces c.write_since.result c.args.into.now.items c.extend_from_slice.new.self.items c.write_lacks.new.into.items c.extend_from_slice-2.new.self.items c.write_since.new.into.items
    (codes "10 NotCaughtUp: ") (lacks_text c.args.alias.now c.args.missing.now) (codes " ") (since_text c.args.since c.args.now)
    c.in_ok-extend_from_slice.ensures.items c.in_ok-write_lacks.ensures c.in_ok-extend_from_slice-2.ensures.items c.write_since.ensures

use Rattle.std.specs.Prelude.{codes}
use Rattle.std.specs.Fmt.{decimal}
use Rattle.tablet_text.specs.Stands.{feeder_text}
use Rattle.tablet_text.proofs.TextLemmas.{piece_behind}
use Rattle.tablet_text.proofs.stand.write_feeder.Goals as goal

pub returns : goal.returns
unfolding feeder_text
returns c =
    piece_behind c.write_number.result c.args.into.now.items c.extend_from_slice.new.self.items c.write_number.new.into.items (codes "feeder in term ") (decimal c.args.term)
    c.in_ok-extend_from_slice.ensures.items c.write_number.ensures

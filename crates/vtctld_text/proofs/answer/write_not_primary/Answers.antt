use Rattle.std.specs.Prelude.{codes}
use Rattle.tablet_text.specs.Stands.{stands_text}
use Rattle.vtctld_text.specs.Texts.{not_primary_text}
use Rattle.tablet_text.proofs.TextLemmas.{piece_behind}
use Rattle.vtctld_text.proofs.answer.write_not_primary.Goals as goal

pub returns : goal.returns
unfolding not_primary_text
returns c =
    piece_behind c.write_stands.result c.args.into.now.items c.extend_from_slice.new.self.items c.write_stands.new.into.items (codes "not primary: ") (stands_text c.args.alias.now c.args.stand.now)
    c.in_ok-extend_from_slice.ensures.items c.write_stands.ensures

use Rattle.std.specs.Prelude.{codes}
use Rattle.std.specs.Fmt.{decimal}
use Rattle.vtctld_text.specs.Notes.{not_deliverable_text}
use Rattle.tablet_text.proofs.TextLemmas.{three_pieces}
use Rattle.vtctld_text.proofs.note.write_not_deliverable.Goals as goal

pub returns : goal.returns
unfolding not_deliverable_text
returns c =
    three_pieces c.args.into.now.items c.extend_from_slice.new.self.items c.write_number.new.into.items c.extend_from_slice-2.new.self.items
    (codes "repeat: message ") (decimal c.args.message) (codes " cannot be delivered")
    c.in_ok-extend_from_slice.ensures.items c.in_ok-write_number.ensures c.in_ok-extend_from_slice-2.ensures.items

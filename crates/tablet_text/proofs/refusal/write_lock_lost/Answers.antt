use Rattle.std.specs.Prelude.{codes}
use Rattle.std.specs.Fmt.{decimal}
use Rattle.tablet_text.specs.Refusals.{lock_lost_text}
use Rattle.tablet_text.proofs.TextLemmas.{piece_behind}
use Rattle.tablet_text.proofs.refusal.write_lock_lost.Goals as goal

pub returns : goal.returns
unfolding lock_lost_text
returns c =
    piece_behind c.write_number.result c.args.into.now.items c.extend_from_slice.new.self.items c.write_number.new.into.items (codes "2 LockLost: topology is at term ") (decimal c.args.term)
    c.in_ok-extend_from_slice.ensures.items c.write_number.ensures

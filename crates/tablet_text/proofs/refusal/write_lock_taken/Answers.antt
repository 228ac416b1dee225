use Rattle.std.specs.Prelude.{codes}
use Rattle.std.specs.Fmt.{decimal}
use Rattle.tablet_text.specs.Refusals.{lock_taken_text}
use Rattle.tablet_text.proofs.TextLemmas.{pieces_behind}
use Rattle.tablet_text.proofs.refusal.write_lock_taken.Goals as goal

pub returns : goal.returns
unfolding lock_taken_text
returns c =
    pieces_behind c.args.into.now.items c.extend_from_slice.new.self.items c.write_number.new.into.items c.extend_from_slice-2.new.self.items c.extend_from_slice-3.new.self.items
    (codes "1 LockTaken: term ") (decimal c.args.term) (codes " by ") c.args.by.now
    c.in_ok-extend_from_slice.ensures.items c.in_ok-write_number.ensures c.in_ok-extend_from_slice-2.ensures.items c.in_ok-extend_from_slice-3.ensures.items

use Rattle.std.specs.Prelude.{codes}
use Rattle.tablet_text.specs.Stands.{in_term_text}
use Rattle.tablet_text.specs.Refusals.{reparent_pending_text}
use Rattle.tablet_text.proofs.TextLemmas.{piece_behind}
use Rattle.tablet_text.proofs.refusal.write_reparent_pending.Goals as goal

pub returns : goal.returns
unfolding reparent_pending_text
returns c =
    piece_behind c.write_in_term.result c.args.into.now.items c.extend_from_slice.new.self.items c.write_in_term.new.into.items (codes "7 ReparentPending: ") (in_term_text c.args.alias.now c.args.term)
    c.in_ok-extend_from_slice.ensures.items c.write_in_term.ensures

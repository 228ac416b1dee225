use Rattle.std.proofs.Common.{ℕ, List, ◌++◌, ap, ◌∙◌}
use Rattle.std.specs.Prelude.{codes}
use Rattle.shard_names.specs.Alias.{alias_text}
use Rattle.tablet_text.specs.Refusals.{cross_cell_text}
use Rattle.tablet_text.proofs.TextLemmas.{pieces_behind}
use Rattle.tablet_text.proofs.refusal.write_cross_cell.Goals as goal

pub returns : goal.returns
unfolding cross_cell_text
returns c =
    pieces_behind c.args.into.now.items c.extend_from_slice.new.self.items c.write.new.into.items c.extend_from_slice-2.new.self.items c.extend_from_slice-3.new.self.items
    (codes "15 CrossCell: ") (alias_text c.args.alias.now) (codes " is in ") c.args.alias.now.cell
    c.in_ok-extend_from_slice.ensures.items c.in_ok-write.ensures.ok c.in_ok-extend_from_slice-2.ensures.items (c.in_ok-extend_from_slice-3.ensures.items ∙ ap (λ (t : List ℕ). c.extend_from_slice-2.new.self.items ++ t) c.as_slice.ensures)

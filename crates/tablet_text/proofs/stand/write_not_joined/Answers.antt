use Rattle.std.specs.Prelude.{codes}
use Rattle.shard_names.specs.Alias.{alias_text}
use Rattle.tablet_text.specs.Stands.{not_joined_text, left_text}
use Rattle.tablet_text.proofs.TextLemmas.{four_pieces}
use Rattle.tablet_text.proofs.stand.write_not_joined.Goals as goal

pub returns : goal.returns
unfolding not_joined_text
returns c =
    four_pieces c.write_left.result c.args.into.now.items c.extend_from_slice.new.self.items c.write.new.into.items c.extend_from_slice-2.new.self.items c.write_left.new.into.items
    (codes "  not joined ") (alias_text c.args.not_joined.now.alias) (codes ": ") (left_text c.args.not_joined.now.left)
    c.in_ok-extend_from_slice.ensures.items c.in_ok-write.ensures.ok c.in_ok-extend_from_slice-2.ensures.items c.write_left.ensures

use Rattle.std.specs.Prelude.{codes}
use Rattle.shard_names.specs.Alias.{alias_text}
use Rattle.vtctld_text.specs.Texts.{external_text}
use Rattle.tablet_text.proofs.TextLemmas.{piece_behind}
use Rattle.vtctld_text.proofs.answer.write_external.Goals as goal

pub returns : goal.returns
unfolding external_text
returns c =
    piece_behind c.write.result c.args.into.now.items c.extend_from_slice.new.self.items c.write.new.into.items (codes "TabletExternallyReparented ") (alias_text c.args.alias.now)
    c.in_ok-extend_from_slice.ensures.items c.write.ensures.ok

use Rattle.std.specs.Prelude.{codes}
use Rattle.shard_names.specs.Alias.{alias_text}
use Rattle.tablet_text.specs.Refusals.{ackers_text, cannot_establish_text}
use Rattle.tablet_text.proofs.TextLemmas.{four_pieces}
use Rattle.tablet_text.proofs.refusal.write_cannot_establish.Goals as goal

pub returns : goal.returns
unfolding cannot_establish_text
returns c =
    four_pieces c.write_ackers.result c.args.into.now.items c.extend_from_slice.new.self.items c.write.new.into.items c.extend_from_slice-2.new.self.items c.write_ackers.new.into.items
    (codes "13 CannotEstablish: ") (alias_text c.args.alias.now) (codes " has ") (ackers_text c.args.have c.args.need)
    c.in_ok-extend_from_slice.ensures.items c.in_ok-write.ensures.ok c.in_ok-extend_from_slice-2.ensures.items c.write_ackers.ensures

use Rattle.std.specs.Prelude.{codes}
use Rattle.shard_names.specs.Alias.{alias_text}
use Rattle.tablet_text.specs.Refusals.{not_stopped_text, listed_text, not_revoked_text}
use Rattle.tablet_text.proofs.TextLemmas.{four_pieces}
use Rattle.tablet_text.proofs.refusal.write_not_revoked.Goals as goal

pub returns : goal.returns
unfolding not_revoked_text
returns c =
    four_pieces c.write_all_not_stopped.result c.args.into.now.items c.extend_from_slice.new.self.items c.write.new.into.items c.extend_from_slice-2.new.self.items c.write_all_not_stopped.new.into.items
    (codes "12 NotRevoked: ") (alias_text c.args.alias.now) (codes " may still commit; unreached ") (listed_text not_stopped_text c.args.unreached.now)
    c.in_ok-extend_from_slice.ensures.items c.in_ok-write.ensures.ok c.in_ok-extend_from_slice-2.ensures.items c.write_all_not_stopped.ensures

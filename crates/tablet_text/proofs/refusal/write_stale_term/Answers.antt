use Rattle.std.specs.Prelude.{codes}
use Rattle.shard_names.specs.Alias.{alias_text}
use Rattle.tablet_text.specs.Refusals.{stale_term_text}
use Rattle.tablet_text.specs.Stands.{has_seen_text}
use Rattle.tablet_text.proofs.TextLemmas.{four_pieces}
use Rattle.tablet_text.proofs.refusal.write_stale_term.Goals as goal

pub returns : goal.returns
unfolding stale_term_text
returns c =
    four_pieces c.write_has_seen.result c.args.into.now.items c.extend_from_slice.new.self.items c.write.new.into.items c.extend_from_slice-2.new.self.items c.write_has_seen.new.into.items
    (codes "11 StaleTerm: ") (alias_text c.args.alias.now) (codes " ") (has_seen_text c.args.seen)
    c.in_ok-extend_from_slice.ensures.items c.in_ok-write.ensures.ok c.in_ok-extend_from_slice-2.ensures.items c.write_has_seen.ensures

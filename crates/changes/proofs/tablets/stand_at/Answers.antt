use Rattle.std.proofs.Common.{ap, ◌∙◌}
use Rattle.shard_calls.specs.Tablets.{TabletState}
use Rattle.shard_state.proofs.PlaceLemmas.{nothing_declared}
use Rattle.changes.proofs.PlaceLemmas.{state_is}
use Rattle.changes.proofs.tablets.stand_at.Goals as goal

pub unreachable-requires : goal.unreachable-requires
unreachable-requires c = nothing_declared c.args.managers.now c.args.alias.now c.in-None.ensures c.requires.declared

pub returns : goal.returns
returns c =
    c.stand.ensures
    ∙ ap (λ (s : TabletState). s.stand) (state_is c.args.managers.now c.args.alias.now c.in-Some.at c.index-managers-at.result c.in-Some.ensures.1 c.index-managers-at.is)

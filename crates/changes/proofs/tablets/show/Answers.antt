use Rattle.std.proofs.Common.{ap, ◌∙◌}
use Rattle.gtid_sets.specs.Logs.{position_of}
use Rattle.shard_calls.specs.Tablets.{TabletState}
use Rattle.tablet_manager.specs.LogState.{LogState}
use Rattle.shard_state.proofs.PlaceLemmas.{nothing_declared}
use Rattle.changes.proofs.PlaceLemmas.{state_is}
use Rattle.changes.proofs.tablets.show.Goals as goal

pub unreachable-requires : goal.unreachable-requires
unreachable-requires c = nothing_declared c.args.managers.now c.args.alias.now c.in-None.ensures c.requires.declared

pub returns : goal.returns
returns c =
    let same = state_is c.args.managers.now c.args.alias.now c.in-Some.at c.index-managers-at.result c.in-Some.ensures.1 c.index-managers-at.is in
    let stand = c.stand.ensures ∙ ap (λ (s : TabletState). s.stand) same in
    let position = c.in_ok-position-in-Some.ensures ∙ c.held.ensures ∙ ap (λ (l : LogState). position_of l.entries) c.log.ensures
    ∙ ap (λ (s : TabletState). position_of s.log) same in
    λ i. record { stand = stand i; position = position i }

use Rattle.std.proofs.Common.{◌+◌, arith}
use Rattle.gtid_sets.specs.Logs.{next_gtid}
use Rattle.shard_state.proofs.PlaceLemmas.{nothing_declared}
use Rattle.changes.proofs.PlaceLemmas.{few_here, said_here}
use Rattle.changes.proofs.tablets.next_gtid.Goals as goal

pub overflow_add-result : goal.overflow_add-result
overflow_add-result c =
    omega (arith, c.last_number.ensures, few_here 9223372036854775805 c.args.managers.now c.args.alias.now c.in-Some.at c.index-managers-at.result c.in-Some.ensures.1 c.index-managers-at.is c.requires.numbered)

pub unreachable-requires : goal.unreachable-requires
unreachable-requires c = nothing_declared c.args.managers.now c.args.alias.now c.in-None.ensures c.requires.declared

pub returns : goal.returns
returns c =
    λ me is. said_here c.args.managers.now c.args.alias.now c.in-Some.at c.index-managers-at.result (λ who s. next_gtid who.server s.log) _ me c.in-Some.ensures.1 c.index-managers-at.is
    (λ i. record { server = (c.me.ensures i).server; number = c.last_number.ensures i + 1 }) is

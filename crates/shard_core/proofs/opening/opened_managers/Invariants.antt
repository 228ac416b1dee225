use Rattle.shard_core.specs.Opened.{AreOpened}
use Rattle.shard_core.proofs.opening.opened_managers.Given as goal

abbrev pub invariant-loop-at : goal.invariant-loop-at
invariant-loop-at l = AreOpened (record { tablets = l.tablets; policy = l.policy }) l.at l.managers.items

use Rattle.std.proofs.Common.{◌∙◌, ap}
use Rattle.gtid_sets.specs.Position.{Position, has}
use Rattle.shard_calls.proofs.LogLemmas.{has-position}
use Rattle.arrivals.proofs.feeding.holds.Goals as goal

pub returns : goal.returns
returns c = c.contains.ensures ∙ ap (λ (p : Position). has p c.args.gtid) c.held.ensures ∙ has-position c.args.log.now.entries c.args.gtid

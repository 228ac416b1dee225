use Rattle.std.proofs.Common.{arith}
use Rattle.shard_state.specs.State.{data_of, seen}
use Rattle.changes.proofs.FewLemmas.{few_numbers}
use Rattle.changes.proofs.writes.write_local.Goals as goal

pub write_local_at-requires-clause-numbered : goal.write_local_at-requires-clause-numbered
write_local_at-requires-clause-numbered c = λ server. omega (arith, few_numbers 1048576 (seen (data_of c.args.fields.now)) c.args.alias.now c.requires.few server)

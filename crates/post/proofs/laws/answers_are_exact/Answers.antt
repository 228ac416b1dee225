use Rattle.std.proofs.Common.{arith}
use Rattle.shard_calls.specs.declared.post.Message.{Message}
use Rattle.shard_calls.specs.Messages.{answers_call}
use Rattle.post.proofs.MemberLemmas.{is_exact, rise}
use Rattle.post.proofs.laws.answers_are_exact.Goals as goal

pub returns-clause-exact : goal.returns-clause-exact
returns-clause-exact c = λ messages call k. is_exact (λ (m : Message). answers_call call m.content) messages k

pub returns-clause-rising : goal.returns-clause-rising
returns-clause-rising c = λ messages call. rise 0 1 (λ (m : Message). answers_call call m.content) messages (omega arith)

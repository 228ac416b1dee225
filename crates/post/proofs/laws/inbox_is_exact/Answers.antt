use Rattle.std.proofs.Common.{arith}
use Rattle.post.specs.Waiting.{waits_for}
use Rattle.post.proofs.MemberLemmas.{is_exact, rise}
use Rattle.post.proofs.laws.inbox_is_exact.Goals as goal

pub returns-clause-exact : goal.returns-clause-exact
returns-clause-exact c = λ messages to k. is_exact (waits_for to) messages k

pub returns-clause-rising : goal.returns-clause-rising
returns-clause-rising c = λ messages to. rise 0 1 (waits_for to) messages (omega arith)

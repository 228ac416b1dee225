use Rattle.std.proofs.Common.{arith}
use Rattle.post.specs.Waiting.{waits}
use Rattle.post.proofs.MemberLemmas.{is_exact, rise}
use Rattle.post.proofs.laws.waiting_is_exact.Goals as goal

pub returns-clause-exact : goal.returns-clause-exact
returns-clause-exact c = λ aliases messages from to k. is_exact (waits aliases from to) messages k

pub returns-clause-rising : goal.returns-clause-rising
returns-clause-rising c = λ aliases messages from to. rise 0 1 (waits aliases from to) messages (omega arith)

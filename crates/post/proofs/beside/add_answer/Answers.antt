use Rattle.std.proofs.lemmas.Result.{on_ok_weaker}
use Rattle.post.specs.Kept.{with_number}
use Rattle.post.proofs.ChangeLemmas.{set_there, out_at}
use Rattle.post.proofs.beside.add_answer.Goals as goal

pub returns-in-Some-clause-ok : goal.returns-in-Some-clause-ok
returns-in-Some-clause-ok c =
    on_ok_weaker c.push.result
    (λ new. set_there c.args.answers.now c.args.call c.in-Some.at (with_number c.args.number) c.index-answers-at.result c.push.new.self c.in-Some.ensures.0 c.in-Some.ensures.1 new)
    c.push.ensures.ok

pub returns-in-None-clause-ok : goal.returns-in-None-clause-ok
returns-in-None-clause-ok c = out_at c.args.answers.now c.args.call (with_number c.args.number) c.in-None.ensures

use Rattle.std.proofs.lemmas.Result.{on_ok_weaker}
use Rattle.post.specs.Kept.{with_number}
use Rattle.post.proofs.ChangeLemmas.{set_one}
use Rattle.post.proofs.beside.join_queue.Goals as goal

pub returns-clause-ok : goal.returns-clause-ok
returns-clause-ok c =
    on_ok_weaker c.push.result
    (λ new. set_one c.args.queues.now.items c.args.at (with_number c.args.number) c.index_mut.result.now c.push.new.self c.requires c.index_mut.ensures.value new)
    c.push.ensures.ok

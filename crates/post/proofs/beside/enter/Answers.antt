use Rattle.std.proofs.Common.{◌∙◌, ap, ℕ, List, arith, length}
use Rattle.shard_calls.specs.World.{changed}
use Rattle.post.specs.Kept.{with_number, without_last}
use Rattle.post.proofs.ChangeLemmas.{length_changed, changed_back, last_forgotten}
use Rattle.post.proofs.beside.enter.Goals as goal

pub forget_last-requires : goal.forget_last-requires
forget_last-requires c = omega (arith, c.requires, ap length c.in_ok-join_queue.ensures.ok, length_changed c.args.queues.now.items c.args.at (with_number c.args.number))

pub returns-in-Err-clause-err_queues : goal.returns-in-Err-clause-err_queues
returns-in-Err-clause-err_queues c =
    c.forget_last.ensures
    ∙ ap (λ (qs : List (List ℕ)). changed qs c.args.at without_last) c.in_ok-join_queue.ensures.ok
    ∙ changed_back c.args.queues.now.items c.args.at (with_number c.args.number) without_last (last_forgotten c.args.number)

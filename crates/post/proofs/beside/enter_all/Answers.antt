use Rattle.std.proofs.Common.{◌∙◌, ap, ℕ, List, arith, length}
use Rattle.shard_calls.specs.World.{changed}
use Rattle.post.specs.Kept.{with_number, without_last}
use Rattle.post.proofs.ChangeLemmas.{length_changed, changed_back, last_forgotten}
use Rattle.post.proofs.beside.enter_all.Goals as goal

pub forget_last-requires : goal.forget_last-requires
forget_last-requires c = omega (arith, c.requires.inbox, ap length c.in_ok-join_queue.ensures.ok, length_changed c.args.inboxes.now.items c.args.to (with_number c.args.number))

pub returns-in-Err-clause-err_inboxes : goal.returns-in-Err-clause-err_inboxes
returns-in-Err-clause-err_inboxes c =
    c.forget_last.ensures
    ∙ ap (λ (qs : List (List ℕ)). changed qs c.args.to without_last) c.in_ok-join_queue.ensures.ok
    ∙ changed_back c.args.inboxes.now.items c.args.to (with_number c.args.number) without_last (last_forgotten c.args.number)

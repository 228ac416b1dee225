use Rattle.std.proofs.Common.{◌≡◌, ◌∙◌, ◌+◌, ap, ℕ, length, arith}
use Rattle.shard_calls.specs.World.{changed}
use Rattle.post.specs.Kept.{with_number}
use Rattle.post.proofs.WayLemmas.{has_joined}
use Rattle.post.proofs.beside.add.Goals as goal

pub returns-clause-ok_inboxes : goal.returns-clause-ok_inboxes
returns-clause-ok_inboxes c =
    let next : c.len.result + 1 ≡ length c.args.messages.now.items + 1 = omega (arith, c.len.ensures, c.args.messages.now.ok.0) in
    has_joined c.args.inboxes.now.items c.make_room.new.inboxes.items c.enter_all.new.inboxes.items c.args.to (length c.args.messages.now.items + 1)
    c.in_ok-make_room.ensures.same c.in_ok-make_room.ensures.room
    (c.in_ok-enter_all.ensures.ok_inboxes ∙ ap (λ (n : ℕ). changed c.make_room.new.inboxes.items c.args.to (with_number n)) next)

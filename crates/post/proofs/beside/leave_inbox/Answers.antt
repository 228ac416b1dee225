use Rattle.std.proofs.Common.{◌≤◌, length, arith}
use Rattle.post.specs.Kept.{taken_out}
use Rattle.post.proofs.ChangeLemmas.{changed_far}
use Rattle.post.proofs.beside.leave_inbox.Goals as goal

pub returns-else-to-len : goal.returns-else-to-len
returns-else-to-len c =
    let far : length c.args.inboxes.now.items ≤ c.args.to = omega (arith, c.len.ensures, c.if-to-len.false) in
    changed_far c.args.inboxes.now.items c.args.to (taken_out c.args.number) far

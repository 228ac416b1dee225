use Rattle.std.proofs.Common.{sym, subst}
use Rattle.post.specs.Posted.{Posted}
use Rattle.post.specs.Directions.{IsPlace}
use Rattle.post.proofs.KeptLemmas.{waiting_read}
use Rattle.post.proofs.messages.Post.waiting.Goals as goal

pub returns : goal.returns
returns c =
    let a = c.self.inside in
    let from : IsPlace a.aliases.items c.args.from = subst (λ (p : Posted). IsPlace p.aliases c.args.from) (sym c.self.view_is) c.requires.from in
    let to : IsPlace a.aliases.items c.args.to = subst (λ (p : Posted). IsPlace p.aliases c.args.to) (sym c.self.view_is) c.requires.to in
    rw (← c.self.view_is) (waiting_read a.aliases.items a.messages.items a.queues.items a.answers.items c.args.from c.args.to c.direction.result c.index.result.now c.self.invariant.0 from to
    c.direction.ensures c.index.ensures)

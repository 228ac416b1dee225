use Rattle.std.proofs.Common.{arith, rules}
use Rattle.post.specs.Posted.{answers_now}
use Rattle.post.proofs.ChangeLemmas.{set_at, out_in}
use Rattle.post.proofs.change.answer_at.Goals as goal

pub returns-in-Some : goal.returns-in-Some
returns-in-Some c =
    set_at c.args.messages.now.items c.args.number c.in-Some.at (answers_now c.args.answer) c.index_mut.result.now c.answer_one.new.message (grind (arith, rules, c.in-Some.ensures.0, c.len.ensures)) c.in-Some.ensures.1
    c.index_mut.ensures.value c.answer_one.ensures

pub returns-in_default : goal.returns-in_default
returns-in_default c = out_in c.args.messages.now.items c.len.result c.args.number (answers_now c.args.answer) (grind (arith, rules, c.len.ensures)) c.in_default.ensures

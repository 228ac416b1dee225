use Rattle.post.specs.Kept.{without_last}
use Rattle.post.proofs.ChangeLemmas.{set_there, out_at}
use Rattle.post.proofs.beside.pop_answer.Goals as goal

pub returns-in-Some : goal.returns-in-Some
returns-in-Some c =
    set_there c.args.answers.now c.args.call c.in-Some.at without_last c.index-answers-at.result c.pop_number.new.numbers c.in-Some.ensures.0 c.in-Some.ensures.1 c.pop_number.ensures

pub returns-in_default : goal.returns-in_default
returns-in_default c = out_at c.args.answers.now c.args.call without_last c.in_default.ensures

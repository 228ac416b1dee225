use Rattle.planned.proofs.FollowLemmas as follows
use Rattle.planned.proofs.laws.commands_keep_to_courses.Goals as goal

pub returns-clause-next : goal.returns-clause-next
returns-clause-next c = follows.next_keeps

pub returns-clause-leaving : goal.returns-clause-leaving
returns-clause-leaving c = follows.leaving_keeps

pub returns-clause-others : goal.returns-clause-others
returns-clause-others c = follows.others_keep

use Rattle.planned.proofs.FollowLemmas as follows
use Rattle.planned.proofs.laws.courses_are_own.Goals as goal

pub returns-clause-may : goal.returns-clause-may
returns-clause-may c = follows.may_is_own

pub returns-clause-leaving : goal.returns-clause-leaving
returns-clause-leaving c = follows.leaving_is_own

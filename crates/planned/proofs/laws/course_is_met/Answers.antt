use Rattle.planned.proofs.FollowLemmas as follows
use Rattle.planned.proofs.laws.course_is_met.Goals as goal

pub returns : goal.returns
returns c = follows.course_is_met

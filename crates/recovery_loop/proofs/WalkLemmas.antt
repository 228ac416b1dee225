-- Walks whose refusals are values, and what each tablet said.
use Rattle.std.proofs.Common.{◌≡◌, refl, sym, ap, ◌∙◌, cond, List, [], Option, Some, None, Result}
use Rattle.shard_names.specs.declared.alias.Alias.{Alias}
use Rattle.shard_calls.specs.declared.analysis.Finding.{Finding}
use Rattle.shard_calls.specs.declared.analysis.TabletStatus.{TabletStatus}
use Rattle.shard_calls.specs.declared.ending.CommandAnswer.{CommandAnswer}
use Rattle.shard_calls.specs.declared.event.Seen.{Seen}
use Rattle.shard_calls.specs.declared.group.Group.{Group}
use Rattle.shard_calls.specs.declared.span.Deed.{Deed}
use Rattle.shard_calls.specs.Analysis.{Statuses, analysed, finds, is_orphaned, is_to_repair, is_urgent, said_in}
use Rattle.shard_calls.specs.Causes.{findings_of, forced, plain, statuses}
use Rattle.shard_calls.specs.Refusals.{recorded_alias}
use Rattle.courses.specs.declared.want.Exit.{Exit}
use Rattle.courses.specs.Walks.{Walked, walked, Walks, gives, trying}
use Rattle.courses.specs.Planned.{planned_course}
use Rattle.courses.specs.Emergency.{emergency_course}
use Rattle.courses.proofs.WalkLemmas.{walks_tried}
use Rattle.recovery_loop.specs.Watch.{watched, heals, acts_on, repairs_beside}
use Rattle.recovery_loop.specs.Said.{acts_said, repairs_said}

pub tried_walks : {A : Type 0} (r : Result A Exit) (rest : List Deed) (w : Walked A) → Walks r rest w
    → Walks (trying r) rest (walked (trying w.came) w.rest)
tried_walks r rest w walks = walks_tried r rest w walks

pub tried_is : {A : Type 0} (r : Result A Exit) (rest : List Deed) (w : Walked A) → walked r rest ≡ w
    → Walks (trying r) rest (walked (trying w.came) w.rest)
tried_is r rest w same fed = ap (λ v. walked (trying v.came) v.rest) same

beside_same : (p : Option Alias) (findings : List Finding) (done : List Deed)
    → repairs_said p findings (statuses done) ≡ repairs_beside p findings done
beside_same None findings done = refl
beside_same (Some p) findings done = refl

acts_at : (g : Group) (seen : Seen) (done : List Deed) (findings : List Finding)
    → acts_said g seen (statuses done) findings ≡ acts_on g seen done findings
unfolding acts_on
acts_at g seen done findings =
    ap (λ m. cond (finds is_orphaned findings) (heals findings (planned_course g plain))
    (cond (finds is_urgent findings) (heals findings (emergency_course g forced)) (cond (finds is_to_repair findings) m (gives (watched findings [])))))
    (beside_same (recorded_alias seen.recorded) findings done)

said_same : (g : Group) (seen : Seen) (done : List Deed) (said : Statuses) → said ≡ statuses done
    → acts_said g seen said (analysed g seen.recorded seen.drained said) ≡ acts_on g seen done (findings_of g seen done)
said_same g seen done said same =
    ap (λ s. acts_said g seen s (analysed g seen.recorded seen.drained s)) same ∙ acts_at g seen done (findings_of g seen done)

acts_same : (g : Group) (seen : Seen) (done : List Deed) (said : Statuses) (findings : List Finding) (r : Result CommandAnswer Exit) (rest before : List Deed)
    → said ≡ statuses done → findings ≡ analysed g seen.recorded seen.drained said → Walks r rest (acts_said g seen said findings before)
    → Walks r rest (acts_on g seen done (findings_of g seen done) before)
acts_same g seen done said findings r rest before same are walks fed =
    walks fed ∙ ap (λ fs. acts_said g seen said fs before) are ∙ ap (λ m. m before) (said_same g seen done said same)

-- the list of what was said is lent twice, and the marks and the findings once
pub acts_found : (g : Group) (seen : Seen) (done : List Deed) (list first second : List TabletStatus) (marks : List Alias) (found lent : List Finding)
    → (r : Result CommandAnswer Exit) (rest before : List Deed) → said_in list ≡ statuses done → first ≡ list → second ≡ list → marks ≡ seen.drained
    → found ≡ analysed g seen.recorded marks (said_in first) → lent ≡ found → Walks r rest (acts_said g seen (said_in second) lent before)
    → Walks r rest (acts_on g seen done (findings_of g seen done) before)
acts_found g seen done list first second marks found lent r rest before same is_first is_second are_marks is_found is_lent walks =
    acts_same g seen done (said_in second) lent r rest before (ap said_in is_second ∙ same)
    (is_lent ∙ is_found ∙ ap (λ ms. analysed g seen.recorded ms (said_in first)) are_marks
    ∙ ap (λ ss. analysed g seen.recorded seen.drained (said_in ss)) (is_first ∙ sym is_second)) walks

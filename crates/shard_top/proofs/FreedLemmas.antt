-- A command that ends has freed the lock, if it took it.
use Rattle.std.proofs.Common.{◌≡◌, ℕ, zero, suc, List, [], ◌∷◌, Bool, true, false, cond, ◌&&◌, Option, Some, None, is_none, is_some, refl, ap, sym, subst, ◌∙◌}
use Rattle.std.specs.List.{slice_get, cons_option, AllByRecursion}
use Rattle.shard_base.specs.Options.{only_if}
use Rattle.shard_calls.specs.declared.ending.CommandAnswer.{CommandAnswer}
use Rattle.shard_calls.specs.declared.ending.CommandAnswer.TheVariants as answers
use Rattle.shard_calls.specs.declared.refusal.Refusal.TheVariants as refusals
use Rattle.shard_calls.specs.declared.event.Event.{Event}
use Rattle.shard_calls.specs.declared.event.Event.TheVariants as events
use Rattle.shard_calls.specs.declared.event.Step.{Step}
use Rattle.shard_calls.specs.declared.span.Deed.{Deed}
use Rattle.shard_calls.specs.declared.span.Deed.TheVariants as deeds
use Rattle.shard_calls.specs.declared.state.CommandState.{CommandState}
use Rattle.shard_calls.specs.Messages.{why_given_up}
use Rattle.shard_calls.specs.Spans.{span_in}
use Rattle.shard_calls.specs.Writes.{tell_of}
use Rattle.shard_calls.specs.World.{Config, World, open_command}
use Rattle.shard_calls.specs.Table.{meets, after}
use Rattle.courses.specs.declared.demands.Demand.{Demand}
use Rattle.courses.specs.declared.demands.Demand.TheVariants as demands
use Rattle.courses.specs.declared.want.Want.{Want}
use Rattle.courses.specs.declared.want.Want.TheVariants as wants
use Rattle.planned.specs.Leaving.{owes_release, leaving, refusing}
use Rattle.planned.specs.Course.{event_of, if_met, tells, does, give_up_of, give_ups, may_by, demand_of, state_next, leaves_by}
use Rattle.planned.specs.Follows.{maker_of, IsOfCourse, Goes, Leaves, KeepsToCourse, FollowCourses}
use Rattle.shard_top.specs.Courses.{HasFreed, EndFree}

-- by this event this command ends only if it owes no release
abbrev Freed : ℕ → CommandState → Event → Type 0
Freed c s e = (x : CommandAnswer) → e ≡ events.End c x → owes_release s ≡ false

abbrev AllFreed : ℕ → CommandState → List Event → Type 0
AllFreed c s es = AllByRecursion (Freed c s) es

leaving_freed : (c : ℕ) (s : CommandState) (x : CommandAnswer) → Freed c s (leaving c s x)
leaving_freed c s x = of_test (owes_release s) refl
  where
    of_test : (b : Bool) → owes_release s ≡ b → Freed c s (cond b (events.Release c) (events.End c x))
    of_test true is y h = absurd (let never : ◌≡◌ {A = Event} (events.Release c) (events.End c y) = h in cc)
    of_test false is y h = is

if_met_freed : (config : Config) (w : World) (c : ℕ) (s : CommandState) (e : Event) → Freed c s e → AllFreed c s (if_met config w c s e ∷ [])
if_met_freed config w c s e freed = (of_test (meets config w e), tt)
  where
    of_test : (b : Bool) → Freed c s (cond b e (refusing c s refusals.OutOfMemory))
    of_test true = freed
    of_test false = leaving_freed c s (answers.Refused refusals.OutOfMemory None)

tells_freed : (w : World) (c : ℕ) (s : CommandState) → AllFreed c s (tells w c)
tells_freed w c s = of_test (is_some (tell_of w c))
  where
    of_test : (b : Bool) → AllFreed c s (cond b (events.Tell c ∷ []) [])
    of_test true = ((λ x h. absurd (let never : ◌≡◌ {A = Event} (events.Tell c) (events.End c x) = h in cc)), tt)
    of_test false = tt

wanted_freed : (w : World) (c : ℕ) (s : CommandState) (want : Want) → Freed c s (event_of w c want)
wanted_freed w c s wants.Take x h = absurd (let never : ◌≡◌ {A = Event} (events.Take c) (events.End c x) = h in cc)
wanted_freed w c s wants.Read x h = absurd (let never : ◌≡◌ {A = Event} (events.Read c) (events.End c x) = h in cc)
wanted_freed w c s (wants.Intend a) x h = absurd (let never : ◌≡◌ {A = Event} (events.Intend c a) (events.End c x) = h in cc)
wanted_freed w c s (wants.Record a) x h = absurd (let never : ◌≡◌ {A = Event} (events.Record c a) (events.End c x) = h in cc)
wanted_freed w c s (wants.Drain a) x h = absurd (let never : ◌≡◌ {A = Event} (events.Drain c a) (events.End c x) = h in cc)
wanted_freed w c s (wants.Ask a call) x h = absurd (let never : ◌≡◌ {A = Event} (event_of w c (wants.Ask a call)) (events.End c x) = h in cc)
wanted_freed w c s (wants.Write a) x h = absurd (let never : ◌≡◌ {A = Event} (events.Write c a) (events.End c x) = h in cc)
wanted_freed w c s wants.Tell x h = absurd (let never : ◌≡◌ {A = Event} (events.Tell c) (events.End c x) = h in cc)

does_freed : (config : Config) (w : World) (c : ℕ) (s : CommandState) (want : Want) → AllFreed c s (does config w c s want)
does_freed config w c s wants.Take = if_met_freed config w c s (event_of w c wants.Take) (wanted_freed w c s wants.Take)
does_freed config w c s wants.Read = if_met_freed config w c s (event_of w c wants.Read) (wanted_freed w c s wants.Read)
does_freed config w c s (wants.Intend a) = if_met_freed config w c s (event_of w c (wants.Intend a)) (wanted_freed w c s (wants.Intend a))
does_freed config w c s (wants.Record a) = if_met_freed config w c s (event_of w c (wants.Record a)) (wanted_freed w c s (wants.Record a))
does_freed config w c s (wants.Drain a) = if_met_freed config w c s (event_of w c (wants.Drain a)) (wanted_freed w c s (wants.Drain a))
does_freed config w c s (wants.Ask a call) = if_met_freed config w c s (event_of w c (wants.Ask a call)) (wanted_freed w c s (wants.Ask a call))
does_freed config w c s (wants.Write a) = if_met_freed config w c s (event_of w c (wants.Write a)) (wanted_freed w c s (wants.Write a))
does_freed config w c s wants.Tell = tells_freed w c s

given_up_freed : (c k : ℕ) (s : CommandState) (b : Bool) (es : List Event) → AllFreed c s es → AllFreed c s (cons_option (only_if b (events.GiveUp c k)) es)
given_up_freed c k s true es h = ((λ x is. absurd (let never : ◌≡◌ {A = Event} (events.GiveUp c k) (events.End c x) = is in cc)), h)
given_up_freed c k s false es h = h

give_up_freed : (w : World) (c : ℕ) (s : CommandState) (d : Deed) (es : List Event) → AllFreed c s es → AllFreed c s (cons_option (give_up_of w c d) es)
give_up_freed w c s (deeds.Asked x) es h = given_up_freed c x.message s (is_none x.outcome && is_some (why_given_up w c x.message)) es h
give_up_freed w c s _ es h = h

give_ups_freed : (w : World) (c : ℕ) (s : CommandState) (span : List Deed) → AllFreed c s (give_ups w c span)
give_ups_freed w c s [] = tt
give_ups_freed w c s (d ∷ later) = give_up_freed w c s d (give_ups w c later) (give_ups_freed w c s later)

may_by_freed : (config : Config) (w : World) (c : ℕ) (s : CommandState) (demand : Demand) → AllFreed c s (may_by config w c s demand)
may_by_freed config w c s (demands.Does want) = does_freed config w c s want
may_by_freed config w c s demands.Awaits = give_ups_freed w c s (span_in w.post s)
may_by_freed config w c s (demands.Leaves x) = if_met_freed config w c s (leaving c s x) (leaving_freed c s x)

one_of : (c : ℕ) (s : CommandState) (es : List Event) (n : ℕ) (e : Event) → AllFreed c s es → slice_get es n ≡ Some e → Freed c s e
one_of c s [] n e all h = absurd (let none : ◌≡◌ {A = Option Event} None (Some e) = h in cc)
one_of c s (y ∷ es) zero e all h = subst (λ (v : Event). Freed c s v) (let same : y ≡ e = (let some : ◌≡◌ {A = Option Event} (Some y) (Some e) = h in cc) in same) all.0
one_of c s (y ∷ es) (suc n) e all h = one_of c s es n e all.1 h

course_freed : (config : Config) (w : World) (c : ℕ) (s : CommandState) (e : Event) → open_command w c ≡ Some s → IsOfCourse config w c e → Freed c s e
course_freed config w c s e opened (Goes n is) =
    one_of c s (may_by config w c s (demand_of config w s)) n e (may_by_freed config w c s (demand_of config w s))
    (subst (λ (o : Option CommandState). slice_get (state_next config w c o) n ≡ Some e) opened is)
course_freed config w c s e opened (Leaves t found is) =
    subst (λ (v : Event). Freed c s v) (sym (is ∙ ap (λ (o : Option CommandState). leaves_by c o) opened)) (leaving_freed c s (answers.Refused refusals.OutOfMemory None))

step_freed : (config : Config) (w : World) (e : Event) → KeepsToCourse config w e → HasFreed w e
step_freed config w e keeps c answer s is opened = course_freed config w c s e opened (keeps c (ap (λ (v : Event). maker_of v) is)) answer is

pub end_free : (config : Config) (w : World) (steps : List Step) → FollowCourses config w steps → EndFree config w steps
end_free config w [] h = tt
end_free config w (s ∷ steps) h = (step_freed config w s.event h.0, end_free config (after config w s.event) steps h.1)

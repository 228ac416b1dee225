-- The events of a course are those of its command, and their rows' conditions are met.
use Rattle.std.proofs.Common.{◌≡◌, ℕ, zero, suc, List, [], ◌∷◌, Bool, true, false, Option, Some, None, cond, ◌&&◌, is_none, is_some, refl, sym, subst, ◌∙◌}
use Rattle.std.specs.List.{slice_get, cons_option, AllByRecursion}
use Rattle.shard_base.specs.Options.{only_if}
use Rattle.shard_calls.specs.declared.ending.CommandAnswer.{CommandAnswer}
use Rattle.shard_calls.specs.declared.ending.CommandAnswer.TheVariants as answers
use Rattle.shard_calls.specs.declared.refusal.Refusal.TheVariants as refusals
use Rattle.shard_calls.specs.declared.event.Event.{Event}
use Rattle.shard_calls.specs.declared.event.Event.TheVariants as events
use Rattle.shard_calls.specs.declared.span.Deed.{Deed}
use Rattle.shard_calls.specs.declared.span.Deed.TheVariants as deeds
use Rattle.shard_calls.specs.declared.state.CommandState.{CommandState}
use Rattle.shard_calls.specs.Messages.{why_given_up}
use Rattle.shard_calls.specs.Spans.{span_in}
use Rattle.shard_calls.specs.Writes.{tell_of}
use Rattle.shard_calls.specs.World.{Config, World, opening, open_command}
use Rattle.shard_calls.specs.Table.{Met, meets, world_after}
use Rattle.courses.specs.declared.demands.Demand.{Demand}
use Rattle.courses.specs.declared.demands.Demand.TheVariants as demands
use Rattle.courses.specs.declared.want.Want.{Want}
use Rattle.courses.specs.declared.want.Want.TheVariants as wants
use Rattle.planned.specs.Leaving.{owes_release, leaving, refusing}
use Rattle.planned.specs.Course.{event_of, if_met, tells, does, give_up_of, give_ups, may_by, demand_of, state_next, may, first_of, leaves, leaves_by}
use Rattle.planned.specs.Laws.{OfEveryWorld}
use Rattle.planned.specs.Follows.{maker_of, IsOfCourse, Goes, Leaves, MayIsOwn, LeavingIsOwn, CourseIsMet, NextKeeps, LeavingKeeps, OthersKeep}
use Rattle.planned.proofs.NextLemmas.{AllMet, refusing_met, may_met}

-- ---- whose events they are

abbrev AllOwn : ℕ → List Event → Type 0
AllOwn c es = AllByRecursion (λ e. maker_of e ≡ Some c) es

leaving_own : (c : ℕ) (s : CommandState) (x : CommandAnswer) → maker_of (leaving c s x) ≡ Some c
leaving_own c s x = of_test (owes_release s)
  where
    of_test : (b : Bool) → maker_of (cond b (events.Release c) (events.End c x)) ≡ Some c
    of_test true = refl
    of_test false = refl

if_met_own : (config : Config) (w : World) (c : ℕ) (s : CommandState) (e : Event) → maker_of e ≡ Some c → AllOwn c (if_met config w c s e ∷ [])
if_met_own config w c s e own = (of_test (meets config w e), tt)
  where
    of_test : (b : Bool) → maker_of (cond b e (refusing c s refusals.OutOfMemory)) ≡ Some c
    of_test true = own
    of_test false = leaving_own c s (answers.Refused refusals.OutOfMemory None)

tells_own : (w : World) (c : ℕ) → AllOwn c (tells w c)
tells_own w c = of_test (is_some (tell_of w c))
  where
    of_test : (b : Bool) → AllOwn c (cond b (events.Tell c ∷ []) [])
    of_test true = (refl, tt)
    of_test false = tt

does_own : (config : Config) (w : World) (c : ℕ) (s : CommandState) (want : Want) → AllOwn c (does config w c s want)
does_own config w c s wants.Take = if_met_own config w c s (event_of w c wants.Take) refl
does_own config w c s wants.Read = if_met_own config w c s (event_of w c wants.Read) refl
does_own config w c s (wants.Intend a) = if_met_own config w c s (event_of w c (wants.Intend a)) refl
does_own config w c s (wants.Record a) = if_met_own config w c s (event_of w c (wants.Record a)) refl
does_own config w c s (wants.Drain a) = if_met_own config w c s (event_of w c (wants.Drain a)) refl
does_own config w c s (wants.Ask a call) = if_met_own config w c s (event_of w c (wants.Ask a call)) refl
does_own config w c s (wants.Write a) = if_met_own config w c s (event_of w c (wants.Write a)) refl
does_own config w c s wants.Tell = tells_own w c

given_up_own : (c k : ℕ) (b : Bool) (es : List Event) → AllOwn c es → AllOwn c (cons_option (only_if b (events.GiveUp c k)) es)
given_up_own c k true es h = (refl, h)
given_up_own c k false es h = h

give_up_own : (w : World) (c : ℕ) (d : Deed) (es : List Event) → AllOwn c es → AllOwn c (cons_option (give_up_of w c d) es)
give_up_own w c (deeds.Took reply) es h = h
give_up_own w c (deeds.Read reply) es h = h
give_up_own w c (deeds.Intended a reply) es h = h
give_up_own w c (deeds.Recorded a reply) es h = h
give_up_own w c (deeds.Drained a reply) es h = h
give_up_own w c (deeds.Asked x) es h = given_up_own c x.message (is_none x.outcome && is_some (why_given_up w c x.message)) es h
give_up_own w c (deeds.Wrote a reply) es h = h
give_up_own w c (deeds.Told committed) es h = h

give_ups_own : (w : World) (c : ℕ) (span : List Deed) → AllOwn c (give_ups w c span)
give_ups_own w c [] = tt
give_ups_own w c (d ∷ later) = give_up_own w c d (give_ups w c later) (give_ups_own w c later)

may_by_own : (config : Config) (w : World) (c : ℕ) (s : CommandState) (demand : Demand) → AllOwn c (may_by config w c s demand)
may_by_own config w c s (demands.Does want) = does_own config w c s want
may_by_own config w c s demands.Awaits = give_ups_own w c (span_in w.post s)
may_by_own config w c s (demands.Leaves x) = if_met_own config w c s (leaving c s x) (leaving_own c s x)

state_own : (config : Config) (w : World) (c : ℕ) (o : Option CommandState) → AllOwn c (state_next config w c o)
state_own config w c None = tt
state_own config w c (Some s) = may_by_own config w c s (demand_of config w s)

pub may_is_own : MayIsOwn
may_is_own config w c = state_own config w c (open_command w c)

leaves_by_own : (c : ℕ) (o : Option CommandState) → maker_of (leaves_by c o) ≡ Some c
leaves_by_own c None = refl
leaves_by_own c (Some s) = leaving_own c s (answers.Refused refusals.OutOfMemory None)

pub leaving_is_own : LeavingIsOwn
leaving_is_own w c = leaves_by_own c (open_command w c)

-- ---- that they are met

leaves_met : (config : Config) (w : World) (c : ℕ) (s : CommandState) → open_command w c ≡ Some s → Met config w (leaves w c)
leaves_met config w c s found =
    subst (λ (o : Option CommandState). Met config w (leaves_by c o)) (sym found)
    (refusing_met config w c s found)

get_all : {A : Type 0} (P : A → Type 0) (xs : List A) (n : ℕ) (x : A) → AllByRecursion P xs → slice_get xs n ≡ Some x → P x
get_all {A} P [] n x all h = absurd (let none : ◌≡◌ {A = Option A} None (Some x) = h in cc)
get_all {A} P (y ∷ xs) zero x all h = subst P (let same : y ≡ x = (let some : ◌≡◌ {A = Option A} (Some y) (Some x) = h in cc) in same) all.0
get_all P (y ∷ xs) (suc n) x all h = get_all P xs n x all.1 h

course_met : (config : Config) (w : World) (c : ℕ) (e : Event) → AllMet config w (may config w c) → IsOfCourse config w c e → Met config w e
course_met config w c e all (Goes n is) = get_all (λ x. Met config w x) (may config w c) n e all is
course_met config w c e all (Leaves s found is) = subst (λ (x : Event). Met config w x) (sym is) (leaves_met config w c s found)

pub course_is_met : OfEveryWorld CourseIsMet
course_is_met config steps time run c e of_course = let w : World = world_after config (opening config) steps in course_met config w c e (may_met config w c) of_course

-- ---- that commands keep to their courses

one_maker : (c d : ℕ) → ◌≡◌ {A = Option ℕ} (Some c) (Some d) → c ≡ d
one_maker c d h = cc

first_goes : (c : ℕ) (es : List Event) (e : Event) → AllOwn c es → first_of es ≡ Some e → (slice_get es 0 ≡ Some e) × (maker_of e ≡ Some c)
first_goes c [] e all h = absurd (let none : ◌≡◌ {A = Option Event} None (Some e) = h in cc)
first_goes c (x ∷ es) e all h = (h, get_all (λ v. maker_of v ≡ Some c) (x ∷ es) 0 e all h)

pub next_keeps : NextKeeps
next_keeps config w c e h d made =
    let first = first_goes c (may config w c) e (may_is_own config w c) h in
    subst (λ (n : ℕ). IsOfCourse config w n e) (one_maker c d (sym first.1 ∙ made)) (Goes 0 first.0)

pub leaving_keeps : LeavingKeeps
leaving_keeps config w c s found d made =
    subst (λ (n : ℕ). IsOfCourse config w n (leaves w c)) (one_maker c d (sym (leaving_is_own w c) ∙ made)) (Leaves s found refl)

pub others_keep : OthersKeep
others_keep config w e none c made = absurd (let never : ◌≡◌ {A = Option ℕ} None (Some c) = sym none ∙ made in cc)

-- An emergency whose course leaves: it makes nothing but its Release and its End from then on, and these change no tablet.
use Rattle.std.proofs.Common.{◌≡◌, ◌⊎◌, inl, inr, refl, ap, sym, subst, ◌∙◌, arith, ℕ, zero, suc, ◌≤◌, ◌<◌, Bool, true, false, not, ◌==◌, nat_lt, cond, List, [], ◌∷◌, take, Option, Some, None, Result, Ok, Err}
use Rattle.std.proofs.lemmas.Bool.{false≢true}
use Rattle.std.proofs.lemmas.Bool.Decides.{nat_tests}
use Rattle.std.specs.List.{slice_get, filter_map, cons_option}
use Rattle.shard_names.specs.declared.alias.Alias.{Alias}
use Rattle.shard_calls.specs.declared.call.Call.{Call}
use Rattle.shard_calls.specs.declared.command.Command.{Command}
use Rattle.shard_calls.specs.declared.command.Command.TheVariants as commands
use Rattle.shard_calls.specs.declared.command.EmergencyOptions.{EmergencyOptions}
use Rattle.shard_calls.specs.declared.ending.CommandAnswer.{CommandAnswer}
use Rattle.shard_calls.specs.declared.ending.CommandAnswer.TheVariants as answers
use Rattle.shard_calls.specs.declared.event.Event.{Event}
use Rattle.shard_calls.specs.declared.event.Event.TheVariants as events
use Rattle.shard_calls.specs.declared.event.Reply.{Reply}
use Rattle.shard_calls.specs.declared.event.Step.{Step}
use Rattle.shard_calls.specs.declared.post.Message.{Message}
use Rattle.shard_calls.specs.declared.refusal.Refusal.TheVariants as refusals
use Rattle.shard_calls.specs.declared.span.Deed.{Deed}
use Rattle.shard_calls.specs.declared.state.Act.{Act}
use Rattle.shard_calls.specs.declared.state.CommandState.{CommandState}
use Rattle.shard_calls.specs.declared.group.Group.{Group}
use Rattle.shard_calls.specs.declared.state.Opening.{Opening}
use Rattle.shard_calls.specs.declared.state.Wrote.{Wrote}
use Rattle.shard_calls.specs.Commands.{emergency_options, emergency_with}
use Rattle.shard_calls.specs.Answered.{act_of}
use Rattle.shard_calls.specs.Begins.{ends_by}
use Rattle.shard_calls.specs.Locks.{by_term, releases_in}
use Rattle.shard_calls.specs.Spans.{deed_of, span_in, term_wrote}
use Rattle.shard_calls.specs.Table.{after, meets, world_after, IsRun, IsStep}
use Rattle.shard_calls.specs.World.{Config, World, opening, group_of, if_open, numbered, open_command, term_of}
use Rattle.shard_calls.specs.Promotions.{world_at}
use Rattle.shard_calls.proofs.PostLemmas.{post_by, post_end}
use Rattle.shard_calls.proofs.RunLemmas.{next_world}
use Rattle.shard_calls.proofs.SettleLemmas.{post_stays}
use Rattle.shard_laws.proofs.CommandLemmas.{Goes, WritesNow, NextIs, AtEnd, BySteps, change_of, forward, next_is}
use Rattle.shard_laws.proofs.RowLemmas.{posted_later}
use Rattle.courses.specs.declared.demands.Demand.{Demand}
use Rattle.courses.specs.declared.demands.Demand.TheVariants as demands
use Rattle.courses.specs.declared.want.Exit.{Exit}
use Rattle.courses.specs.declared.want.Exit.TheVariants as exits
use Rattle.courses.specs.Course.{demand, demand_by}
use Rattle.courses.specs.Emergency.{emergency_course}
use Rattle.courses.specs.Walks.{Course, Walked}
use Rattle.recovery_loop.specs.Course.{course_of}
use Rattle.planned.specs.Course.{demand_of, if_met, leaves_by, may_by, state_next}
use Rattle.planned.specs.Follows.{maker_of, FollowCourses, IsOfCourse, Goes as GoesOn, Leaves, KeepsToCourse}
use Rattle.planned.specs.Leaving.{leaving, owes_release}
use Rattle.completeness.specs.Refused.{IsLeaving, Frees, Ends, IsDecided, UndoesNothing}
use Rattle.completeness.proofs.CallLemmas.{acts_so_far, send_posts, was_sent}
use Rattle.completeness.proofs.FirmLemmas.{post_firm}
use Rattle.completeness.proofs.LaterLemmas.{Kept, Later, Stays, is_left}
use Rattle.completeness.proofs.RescueStays.{Any, emergency_stays}
use Rattle.completeness.proofs.SpanLater.{AllPosted, later_span}

-- ---- a course that leaves does so still where more is known

abbrev IsLeft : Demand → Type 0
IsLeft d = (x : CommandAnswer) × (d ≡ demands.Leaves x)

left_demand : (r : Result CommandAnswer Exit) → is_left r ≡ true → IsLeft (demand_by r)
left_demand (Ok x) left = absurd (false≢true left)
left_demand (Err (exits.Does want)) left = absurd (false≢true left)
left_demand (Err exits.Waits) left = absurd (false≢true left)
left_demand (Err (exits.Refused r)) left = (answers.Refused r None, refl)
left_demand (Err exits.Strays) left = (answers.Refused refusals.OutOfMemory None, refl)
left_demand (Err exits.OutOfMemory) left = (answers.Refused refusals.OutOfMemory None, refl)

by_came : (r : Result CommandAnswer Exit) (rest : List Deed) (w : Walked CommandAnswer) → Kept Any r rest w → IsLeft (demand_by r) → IsLeft (demand_by w.came)
by_came (Ok x) rest w kept is = (kept.value, ap (λ (r : Result CommandAnswer Exit). demand_by r) kept.came)
by_came (Err (exits.Does want)) rest w kept is = absurd (let wrong : demands.Does want ≡ demands.Leaves is.0 = is.1 in cc)
by_came (Err exits.Waits) rest w kept is = absurd (let wrong : demands.Awaits ≡ demands.Leaves is.0 = is.1 in cc)
by_came (Err (exits.Refused r)) rest w kept is = left_demand w.came (kept refl)
by_came (Err exits.Strays) rest w kept is = left_demand w.came (kept refl)
by_came (Err exits.OutOfMemory) rest w kept is = left_demand w.came (kept refl)

left_later : (course : Course CommandAnswer) (old new : List Deed) → Stays Any course course → Later old new → IsLeft (demand course old) → IsLeft (demand course new)
left_later course old new stays later is = by_came (course old).came (course old).rest (course new) (stays old new later) is

-- ---- what is then of the course

pub leaving_by : (c : ℕ) (s : CommandState) (x : CommandAnswer) → IsLeaving c (leaving c s x)
leaving_by c s x = of_test (owes_release s)
  where
    of_test : (b : Bool) → IsLeaving c (cond b (events.Release c) (events.End c x))
    of_test true = Frees
    of_test false = Ends x

-- it leaves so, or where it cannot, for want of memory
met_or_not : (config : Config) (w : World) (c : ℕ) (s : CommandState) (x : CommandAnswer) → IsLeaving c (if_met config w c s (leaving c s x))
met_or_not config w c s x = of_test (meets config w (leaving c s x))
  where
    of_test : (b : Bool) → IsLeaving c (cond b (leaving c s x) (leaving c s (answers.Refused refusals.OutOfMemory None)))
    of_test true = leaving_by c s x
    of_test false = leaving_by c s (answers.Refused refusals.OutOfMemory None)

pub only_one : (x e : Event) (n : ℕ) → slice_get (x ∷ []) n ≡ Some e → x ≡ e
only_one x e zero h = let some : Some x ≡ Some e = h in cc
only_one x e (suc n) h = absurd (let wrong : None ≡ Some e = h in cc)

pub leaves_for : (c : ℕ) (o : Option CommandState) → IsLeaving c (leaves_by c o)
leaves_for c None = Ends (answers.Refused refusals.OutOfMemory None)
leaves_for c (Some s) = leaving_by c s (answers.Refused refusals.OutOfMemory None)

pub may_leave : (config : Config) (w : World) (c n : ℕ) (s : CommandState) (e : Event) (d : Demand) → IsLeft d → slice_get (may_by config w c s d) n ≡ Some e → IsLeaving c e
may_leave config w c n s e d left at =
    let only : slice_get (if_met config w c s (leaving c s left.0) ∷ []) n ≡ Some e = subst (λ (x : Demand). slice_get (may_by config w c s x) n ≡ Some e) left.1 at in
    subst (λ (x : Event). IsLeaving c x) (only_one (if_met config w c s (leaving c s left.0)) e n only) (met_or_not config w c s left.0)

-- ---- whose event it is

abbrev pub own_in : ℕ → Option ℕ → Bool
own_in c None = false
own_in c (Some d) = d == c

pub own_is : (c : ℕ) (o : Option ℕ) → own_in c o ≡ true → o ≡ Some c
own_is c None h = absurd (false≢true h)
own_is c (Some d) h = ap (λ (n : ℕ). Some n) (let same : d ≡ c = grind (arith, nat_tests) in same)

not_own : (b : Bool) (o : Option Act) → b ≡ false → cond b o None ≡ None
not_own b o h = ap (λ (t : Bool). cond t o None) h

pub no_act : (c : ℕ) (e : Event) (r : Reply) → own_in c (maker_of e) ≡ false → act_of c e r ≡ None
no_act c (events.Take d) r h = not_own (d == c) _ h
no_act c (events.Read d) r h = not_own (d == c) _ h
no_act c (events.Intend d a) r h = not_own (d == c) _ h
no_act c (events.Record d a) r h = not_own (d == c) _ h
no_act c (events.Drain d a) r h = not_own (d == c) _ h
no_act c (events.Send d a call) r h = not_own (d == c) _ h
no_act c (events.Write d a) r h = not_own (d == c) _ h
no_act c (events.Tell d) r h = not_own (d == c) _ h
no_act c _ r h = refl

pub leaving_act : (c : ℕ) (e : Event) (r : Reply) → IsLeaving c e → act_of c e r ≡ None
leaving_act c _ r Frees = refl
leaving_act c _ r (Ends x) = refl

-- ---- what the command did stays while it makes nothing

take_none : {A B : Type 0} (f : A → Option B) (xs : List A) (k : ℕ) (x : A) → slice_get xs k ≡ Some x → f x ≡ None → filter_map f (take (suc k) xs) ≡ filter_map f (take k xs)
take_none f [] k x at none = absurd (let wrong : None ≡ Some x = at in cc)
take_none f (y ∷ xs) zero x at none =
    let same : y ≡ x = (let some : Some y ≡ Some x = at in cc) in ap (λ o. cons_option o []) (ap f same ∙ none)
take_none f (y ∷ xs) (suc k) x at none = ap (λ l. cons_option (f y) l) (take_none f xs k x at none)

acts_stay : (config : Config) (ss : List Step) (c k : ℕ) (s t : CommandState) (step : Step) → IsRun config ss → slice_get ss k ≡ Some step
    → act_of c step.event step.reply ≡ None → numbered (world_at config ss k).commands c ≡ Some s → numbered (world_at config ss (suc k)).commands c ≡ Some t → t.acts ≡ s.acts
acts_stay config ss c k s t step run here none old new =
    acts_so_far config ss (suc k) c t run new ∙ take_none (λ (x : Step). act_of c x.event x.reply) ss k step here none ∙ sym (acts_so_far config ss k c s run old)

-- each call that it sent is in the post
pub all_posted : (config : Config) (ss : List Step) (c k : ℕ) (s : CommandState) → IsRun config ss → numbered (world_at config ss k).commands c ≡ Some s
    → AllPosted (world_at config ss k).post s.acts
all_posted config ss c k s run here n sent =
    let was = was_sent config ss k c n s run here sent in
    let posts = send_posts config ss was.place c n was.alias was.call run was.here in
    let there = posted_later config ss n _ (suc was.place) k run (let less = was.earlier in omega (arith, less)) posts.1 in
    (there.message, there.at)

-- ---- step by step

pub open_is : (o : Option CommandState) (s : CommandState) → if_open o ≡ Some s → o ≡ Some s
open_is None s h = absurd (let wrong : None ≡ Some s = h in cc)
open_is (Some t) s h = of_test t.ended h
  where
    of_test : (b : Bool) → cond (not b) (Some t) None ≡ Some s → Some t ≡ Some s
    of_test true k = absurd (let wrong : None ≡ Some s = k in cc)
    of_test false k = k

leaves_so : (config : Config) (w : World) (c : ℕ) (s : CommandState) (e : Event) → numbered w.commands c ≡ Some s → IsLeft (demand_of config w s) → IsOfCourse config w c e
    → IsLeaving c e
leaves_so config w c s e here left (GoesOn n at) = of_open (open_command w c) refl at
  where
    of_open : (o : Option CommandState) → open_command w c ≡ o → slice_get (state_next config w c o) n ≡ Some e → IsLeaving c e
    of_open None is k = absurd (let wrong : None ≡ Some e = k in cc)
    of_open (Some t) is k =
        let same : t ≡ s = (let both : Some t ≡ Some s = sym (open_is (numbered w.commands c) t is) ∙ here in cc) in
        may_leave config w c n t e (demand_of config w t) (subst (λ (x : CommandState). IsLeft (demand_of config w x)) (sym same) left) k
leaves_so config w c s e here left (Leaves t is so) = subst (λ (x : Event). IsLeaving c x) (sym so) (leaves_for c (open_command w c))

-- every step of a history is of its command's course
abbrev pub FollowsAt : Config → List Step → Type 0
FollowsAt config ss = (k : ℕ) (step : Step) → slice_get ss k ≡ Some step → KeepsToCourse config (world_at config ss k) step.event

pub follows_at : (config : Config) (w : World) (ss : List Step) (k : ℕ) (step : Step) → FollowCourses config w ss → slice_get ss k ≡ Some step
    → KeepsToCourse config (world_after config w (take k ss)) step.event
follows_at config w [] k step follows at = absurd (let wrong : None ≡ Some step = at in cc)
follows_at config w (s ∷ ss) zero step follows at =
    let same : s ≡ step = (let some : Some s ≡ Some step = at in cc) in subst (λ (x : Step). KeepsToCourse config w x.event) same follows.0
follows_at config w (s ∷ ss) (suc k) step follows at = follows_at config (after config w s.event) ss k step follows.1 at

-- at this step the command is there, with this course, which leaves
record StillLeft (config : Config) (ss : List Step) (c : ℕ) (course : Course CommandAnswer) (k : ℕ) : Type 0 where
  state : CommandState
  here : numbered (world_at config ss k).commands c ≡ Some state
  is_course : course_of (group_of config) state.command state.opening ≡ course
  left : IsLeft (demand course (span_in (world_at config ss k).post state))

-- so what it makes is a Release or an End
leaves_here : (config : Config) (ss : List Step) (c k : ℕ) (course : Course CommandAnswer) (step : Step) → FollowsAt config ss → StillLeft config ss c course k
    → slice_get ss k ≡ Some step → maker_of step.event ≡ Some c → IsLeaving c step.event
leaves_here config ss c k course step follows is here own =
    leaves_so config (world_at config ss k) c is.state step.event is.here
    (subst (λ (x : Course CommandAnswer). IsLeft (demand x (span_in (world_at config ss k).post is.state))) (sym is.is_course) is.left)
    (follows k step here c own)

-- whatever happens with this step, the command does nothing more
does_nothing : (config : Config) (ss : List Step) (c k : ℕ) (course : Course CommandAnswer) (step : Step) → FollowsAt config ss → StillLeft config ss c course k
    → slice_get ss k ≡ Some step → act_of c step.event step.reply ≡ None
does_nothing config ss c k course step follows is here = of_test (own_in c (maker_of step.event)) refl
  where
    of_test : (b : Bool) → own_in c (maker_of step.event) ≡ b → act_of c step.event step.reply ≡ None
    of_test true own =
        leaving_act c step.event step.reply (leaves_here config ss c k course step follows is here (own_is c (maker_of step.event) own))
    of_test false other = no_act c step.event step.reply other

-- and writes nothing
not_write : (c : ℕ) (e : Event) (a : Alias) → e ≡ events.Write c a → IsLeaving c e → ⊥
not_write c _ a is Frees = let wrong : events.Release c ≡ events.Write c a = is in cc
not_write c _ a is (Ends x) = let wrong : events.End c x ≡ events.Write c a = is in cc

wrote_stays : (config : Config) (ss : List Step) (c k : ℕ) (course : Course CommandAnswer) (step : Step) (t : CommandState) → FollowsAt config ss
    → (is : StillLeft config ss c course k) → slice_get ss k ≡ Some step → Goes config (world_at config ss k) step.event c is.state t → t.wrote ≡ is.state.wrote
wrote_stays config ss c k course step t follows is here goes = of_cases goes.wrote
  where
    of_cases : (t.wrote ≡ is.state.wrote) ⊎ WritesNow config (world_at config ss k) step.event c is.state t → t.wrote ≡ is.state.wrote
    of_cases (inl same) = same
    of_cases (inr now) =
        absurd (not_write c step.event now.wrote.alias now.event
        (leaves_here config ss c k course step follows is here (ap (λ (e : Event). maker_of e) now.event)))

-- the next world
next_left : (config : Config) (ss : List Step) (c k : ℕ) (course : Course CommandAnswer) → IsRun config ss → Stays Any course course → FollowsAt config ss
    → StillLeft config ss c course k → StillLeft config ss c course (suc k)
next_left config ss c k course run stays follows is = of_next (world_at config ss (suc k)) refl (next_is config ss k run)
  where
    w : World
    w = world_at config ss k

    moved : (step : Step) → slice_get ss k ≡ Some step → IsStep config w step → (t : CommandState) → numbered (world_at config ss (suc k)).commands c ≡ Some t
        → Goes config w step.event c is.state t → (world_at config ss (suc k)).post ≡ (after config w step.event).post → StillLeft config ss c course (suc k)
    moved step here met t there goes post =
        let done : t.acts ≡ is.state.acts =
        acts_stay config ss c k is.state t step run here (does_nothing config ss c k course step follows is here) is.here there in
        let term : term_wrote t.wrote ≡ term_wrote is.state.wrote = ap (λ (o : Option Wrote). term_wrote o) (wrote_stays config ss c k course step t follows is here goes) in
        let later : Later (span_in w.post is.state) (filter_map (deed_of (after config w step.event).post (term_wrote is.state.wrote)) is.state.acts) =
        later_span w.post (after config w step.event).post (term_wrote is.state.wrote) is.state.acts (post_stays config w step.event) (post_firm config w step.event)
        (all_posted config ss c k is.state run is.here) in
        let same : span_in (world_at config ss (suc k)).post t ≡ filter_map (deed_of (after config w step.event).post (term_wrote is.state.wrote)) is.state.acts =
        ap (λ (p : List Message). filter_map (deed_of p (term_wrote t.wrote)) t.acts) post
        ∙ ap (λ (u : ℕ). filter_map (deed_of (after config w step.event).post u) t.acts) term
        ∙ ap (λ (l : List Act). filter_map (deed_of (after config w step.event).post (term_wrote is.state.wrote)) l) done in
        record {
          state = t;
          here = there;
          is_course = ap (λ (x : Command). course_of (group_of config) x t.opening) goes.same_command
              ∙ ap (λ (x : Opening). course_of (group_of config) is.state.command x) goes.same_opening ∙ is.is_course;
          left = subst (λ (l : List Deed). IsLeft (demand course l)) (sym same) (left_later course (span_in w.post is.state) _ stays later is.left);
        }

    of_next : (v : World) → world_at config ss (suc k) ≡ v → NextIs config ss k v → StillLeft config ss c course (suc k)
    of_next v named (AtEnd past) =
        let same : w ≡ world_at config ss (suc k) = past ∙ sym named in
        record {
          state = is.state;
          here = subst (λ (x : World). numbered x.commands c ≡ Some is.state) same is.here;
          is_course = is.is_course;
          left = subst (λ (x : World). IsLeft (demand course (span_in x.post is.state))) same is.left;
        }
    of_next v named (BySteps step here met becomes) =
        let same : after config w step.event ≡ world_at config ss (suc k) = becomes ∙ sym named in
        let goes = forward config w step.event (after config w step.event).commands c is.state (change_of config w step.event met.met) is.here in
        moved step here met goes.0 (subst (λ (x : World). numbered x.commands c ≡ Some goes.0) same goes.1) goes.2 (ap (λ (x : World). x.post) (sym same))

still_left : (config : Config) (ss : List Step) (c r : ℕ) (course : Course CommandAnswer) → IsRun config ss → Stays Any course course → FollowsAt config ss
    → StillLeft config ss c course r → (k : ℕ) → r ≤ k → StillLeft config ss c course k
still_left config ss c r course run stays follows is zero le = subst (λ (n : ℕ). StillLeft config ss c course n) (let same : r ≡ 0 = omega (arith, le) in same) is
still_left config ss c r course run stays follows is (suc k) le = of_test (nat_lt k r) refl (λ l. still_left config ss c r course run stays follows is k l)
  where
    of_test : (b : Bool) → nat_lt k r ≡ b → (r ≤ k → StillLeft config ss c course k) → StillLeft config ss c course (suc k)
    of_test true e rest = subst (λ (n : ℕ). StillLeft config ss c course n) (let l : k < r = grind (arith, nat_tests) in let same : r ≡ suc k = omega (arith, l, le) in same) is
    of_test false e rest = next_left config ss c k course run stays follows (rest (let l : r ≤ k = grind (arith, nat_tests) in l))

-- ---- a Release and an End

tablets_by : (w : World) (c : ℕ) (o : Option ℕ) (a : Alias) → (by_term o w (releases_in w c)).tablets a ≡ w.tablets a
tablets_by w c None a = refl
tablets_by w c (Some t) a = refl

tablets_end : (w : World) (c : ℕ) (o : Option CommandState) (a : Alias) → (ends_by w c o).tablets a ≡ w.tablets a
tablets_end w c None a = refl
tablets_end w c (Some s) a = refl

leaving_tablets : (config : Config) (w : World) (c : ℕ) (e : Event) (a : Alias) → IsLeaving c e → (after config w e).tablets a ≡ w.tablets a
leaving_tablets config w c _ a Frees = tablets_by w c (term_of w c) a
leaving_tablets config w c _ a (Ends x) = tablets_end w c (open_command w c) a

leaving_post : (config : Config) (w : World) (c : ℕ) (e : Event) → IsLeaving c e → (after config w e).post ≡ w.post
leaving_post config w c _ Frees = post_by w (releases_in w c) (term_of w c) (λ t. refl)
leaving_post config w c _ (Ends x) = post_end w c (open_command w c)

not_send : (c : ℕ) (e : Event) (a : Alias) (call : Call) → e ≡ events.Send c a call → IsLeaving c e → ⊥
not_send c _ a call is Frees = let wrong : events.Release c ≡ events.Send c a call = is in cc
not_send c _ a call is (Ends x) = let wrong : events.End c x ≡ events.Send c a call = is in cc

-- an emergency's course is that of its options
pub course_is : (g : Group) (command : Command) (opened : Opening) (o : EmergencyOptions) → emergency_options command ≡ Some o → course_of g command opened ≡ emergency_course g o
unfolding course_of
course_is g (commands.Emergency shard new_primary ignored expected timeout preventing) opened o is =
    ap (λ (x : EmergencyOptions). emergency_course g x) (let some : Some (emergency_with new_primary ignored expected timeout preventing) ≡ Some o = is in cc)
course_is g _ opened o is = absurd (let wrong : None ≡ Some o = is in cc)

pub undoes_nothing : (config : Config) (ss : List Step) → IsRun config ss → FollowCourses config (opening config) ss → (c r : ℕ) → IsDecided config (world_at config ss r) c
    → UndoesNothing config ss c r
undoes_nothing config ss run follow c r is = record {
  only_leaves = λ k s le here own. leaves k s le here own;
  sends_nothing = λ k s a call le here sends. not_send c s.event a call sends (leaves k s le here (ap (λ (e : Event). maker_of e) sends));
  tablets_stay = λ k s a le here own.
      ap (λ (x : World). x.tablets a) (next_world config (opening config) ss k s here)
      ∙ leaving_tablets config (world_at config ss k) c s.event a (leaves k s le here own);
  post_stays = λ k s le here own.
      ap (λ (x : World). x.post) (next_world config (opening config) ss k s here) ∙ leaving_post config (world_at config ss k) c s.event (leaves k s le here own);
}
  where
    course : Course CommandAnswer
    course = emergency_course (group_of config) is.options

    follows : FollowsAt config ss
    follows = λ k step here. follows_at config (opening config) ss k step follow here

    own_course : course_of (group_of config) is.state.command is.state.opening ≡ course
    own_course = course_is (group_of config) is.state.command is.state.opening is.options is.emergency

    first : StillLeft config ss c course r
    first = record {
      state = is.state;
      here = is.here;
      is_course = own_course;
      left = (is.answer, ap (λ (x : Course CommandAnswer). demand x (span_in (world_at config ss r).post is.state)) (sym own_course) ∙ is.leaves);
    }

    leaves : (k : ℕ) (s : Step) → r ≤ k → slice_get ss k ≡ Some s → maker_of s.event ≡ Some c → IsLeaving c s.event
    leaves k s le here own =
        leaves_here config ss c k course s follows (still_left config ss c r course run (emergency_stays (group_of config) is.options) follows first k le) here own

-- Each deed of a command was demanded by its course when it was done: along what the command had done then, by what its calls had come to then. Courses
-- are those of vtctldclient (Vitess manual).
use Rattle.std.proofs.Common.{◌≡◌, ◌⊎◌, inl, inr, refl, ap, sym, subst, ◌∙◌, arith, ℕ, zero, suc, ◌≤◌, ◌<◌, Bool, true, false, ◌&&◌, cond, is_none, is_some, List, [], ◌∷◌, ◌++◌, take, length, Option, Some, None, Result, Ok, Err}
use Rattle.std.proofs.lemmas.Bool.{false≢true}
use Rattle.std.specs.List.{slice_get, filter_map, cons_option}
use Rattle.shard_base.specs.Options.{only_if}
use Rattle.shard_names.specs.Tablets.{is_declared}
use Rattle.shard_names.proofs.TabletLemmas.{both_left, both_right}
use Rattle.shard_calls.specs.declared.command.Command.{Command}
use Rattle.shard_calls.specs.declared.ending.CommandAnswer.{CommandAnswer}
use Rattle.shard_calls.specs.declared.ending.CommandAnswer.TheVariants as answers
use Rattle.shard_calls.specs.declared.event.Event.{Event}
use Rattle.shard_calls.specs.declared.event.Event.TheVariants as events
use Rattle.shard_calls.specs.declared.event.Reply.{Reply}
use Rattle.shard_calls.specs.declared.event.Step.{Step}
use Rattle.shard_calls.specs.declared.post.Message.{Message}
use Rattle.shard_calls.specs.declared.refusal.Refusal.TheVariants as refusals
use Rattle.shard_calls.specs.declared.span.Deed.{Deed}
use Rattle.shard_calls.specs.declared.span.Deed.TheVariants as deeds
use Rattle.shard_calls.specs.declared.state.Act.{Act}
use Rattle.shard_calls.specs.declared.state.CommandState.{CommandState}
use Rattle.shard_calls.specs.declared.state.Opening.{Opening}
use Rattle.shard_calls.specs.declared.state.Wrote.{Wrote}
use Rattle.shard_calls.specs.Answered.{act_of, acts_of}
use Rattle.shard_calls.specs.Messages.{why_given_up}
use Rattle.shard_calls.specs.Spans.{deed_of, span_in, term_wrote}
use Rattle.shard_calls.specs.Table.{after, meets, Met, IsRun}
use Rattle.shard_calls.specs.World.{Config, World, group_of, numbered, open_command}
use Rattle.shard_calls.specs.Writes.{is_write, may_write, tell_of}
use Rattle.shard_calls.specs.Promotions.{world_at}
use Rattle.shard_calls.proofs.SettleLemmas.{Stay, post_stays}
use Rattle.shard_laws.proofs.CommandLemmas.{WritesNow, NextIs, AtEnd, BySteps, change_of, forward, next_is}
use Rattle.shard_laws.proofs.TraceLemmas.{climb}
use Rattle.courses.specs.declared.demands.Demand.{Demand}
use Rattle.courses.specs.declared.demands.Demand.TheVariants as demands
use Rattle.courses.specs.declared.want.Exit.{Exit}
use Rattle.courses.specs.declared.want.Exit.TheVariants as exits
use Rattle.courses.specs.declared.want.Want.{Want}
use Rattle.courses.specs.declared.want.Want.TheVariants as wants
use Rattle.courses.specs.Course.{demand, demand_by}
use Rattle.courses.specs.Sound.{IsIn}
use Rattle.courses.specs.Walks.{Course}
use Rattle.recovery_loop.specs.Course.{course_of}
use Rattle.planned.specs.Course.{demand_of, does, event_of, give_up_of, if_met, may_by, state_next}
use Rattle.planned.specs.Follows.{maker_of, IsOfCourse, Goes as GoesOn, Leaves}
use Rattle.planned.specs.Leaving.{refusing}
use Rattle.completeness.specs.Refused.{IsLeaving}
use Rattle.completeness.proofs.CallLemmas.{acts_so_far}
use Rattle.completeness.proofs.DecidedLemmas.{FollowsAt, all_posted, leaves_for, leaving_act, leaving_by, may_leave, no_act, only_one, open_is, own_in, own_is}
use Rattle.completeness.proofs.FirmLemmas.{Firm, post_firm}
use Rattle.completeness.proofs.GoingLemmas.{IsFirst, IsHeeded, Only, Passes}
use Rattle.completeness.proofs.LaterLemmas.{Later}
use Rattle.completeness.proofs.ReadLemmas.{came}
use Rattle.completeness.proofs.SpanLater.{later_span}

-- ---- a deed and the step that did it

-- With this step the command did this, as it was demanded, when it had done so much. The deed is as it is seen in the world behind step j, where the
-- command is in this state.
pub record MadeAt (config : Config) (ss : List Step) (c j : ℕ) (s : CommandState) (want : Want) (d : Deed) (past : List Deed) : Type 0 where
  pub place : ℕ
  pub earlier : place < j
  pub step : Step
  pub at : slice_get ss place ≡ Some step
  pub event : step.event ≡ event_of (world_at config ss place) c want
  pub act : Act
  pub did : act_of c step.event step.reply ≡ Some act
  pub deed : deed_of (world_at config ss j).post (term_wrote s.wrote) act ≡ Some d
  pub stands : IsIn (span_in (world_at config ss j).post s) d
  pub state : CommandState
  pub here : numbered (world_at config ss place).commands c ≡ Some state
  pub past_is : span_in (world_at config ss place).post state ≡ past

-- ---- lists

record Split {A B : Type 0} (f : A → Option B) (xs : List A) (front : List B) (y : B) : Type 0 where
  before : List A
  it : A
  after : List A
  split : xs ≡ before ++ it ∷ after
  gives : f it ≡ Some y
  fronts : filter_map f before ≡ front

pub nothing_split : {B : Type 0} (front more : List B) (y : B) → [] ≡ front ++ y ∷ more → ⊥
nothing_split [] more y h = let wrong : [] ≡ y ∷ more = h in cc
nothing_split (z ∷ front) more y h = let wrong : [] ≡ z ∷ (front ++ y ∷ more) = h in cc

split_map : {A B : Type 0} (f : A → Option B) (xs : List A) (front more : List B) (y : B) → filter_map f xs ≡ front ++ y ∷ more → Split f xs front y
split_map f [] front more y h = absurd (nothing_split front more y h)
split_map {A} {B} f (x ∷ xs) front more y h = of_option (f x) refl front h (λ left k. split_map f xs left more y k)
  where
    of_option : (o : Option B) → f x ≡ o → (front : List B) → cons_option o (filter_map f xs) ≡ front ++ y ∷ more
        → ((left : List B) → filter_map f xs ≡ left ++ y ∷ more → Split f xs left y) → Split f (x ∷ xs) front y
    of_option None is front h further =
        let rest = further front h in
        record {
          before = x ∷ rest.before;
          it = rest.it;
          after = rest.after;
          split = ap (λ (l : List A). x ∷ l) rest.split;
          gives = rest.gives;
          fronts = ap (λ (o : Option B). cons_option o (filter_map f rest.before)) is ∙ rest.fronts;
        }
    of_option (Some z) is [] h further =
        let same : z ≡ y = (let both : z ∷ filter_map f xs ≡ y ∷ more = h in cc) in
        record { before = []; it = x; after = xs; split = refl; gives = is ∙ ap (λ (v : B). Some v) same; fronts = refl }
    of_option (Some z) is (v ∷ front) h further =
        let same : z ≡ v = (let both : z ∷ filter_map f xs ≡ v ∷ (front ++ y ∷ more) = h in cc) in
        let tail : filter_map f xs ≡ front ++ y ∷ more = (let both : z ∷ filter_map f xs ≡ v ∷ (front ++ y ∷ more) = h in cc) in
        let rest = further front tail in
        record {
          before = x ∷ rest.before;
          it = rest.it;
          after = rest.after;
          split = ap (λ (l : List A). x ∷ l) rest.split;
          gives = rest.gives;
          fronts = ap (λ (o : Option B). cons_option o (filter_map f rest.before)) is ∙ ap (λ (l : List B). z ∷ l) rest.fronts ∙ ap (λ (w : B). w ∷ front) same;
        }

record IsPlace {A : Type 0} (xs before : List A) (x : A) (n : ℕ) : Type 0 where
  at : slice_get xs (length before) ≡ Some x
  front : take (length before) xs ≡ before
  within : length before < n

place_of : {A : Type 0} (xs before after : List A) (x : A) (n : ℕ) → take n xs ≡ before ++ x ∷ after → IsPlace xs before x n
place_of [] before after x zero h = absurd (nothing_split before after x h)
place_of [] before after x (suc n) h = absurd (nothing_split before after x h)
place_of (y ∷ xs) before after x zero h = absurd (nothing_split before after x h)
place_of {A} (y ∷ xs) [] after x (suc n) h =
    let same : y ≡ x = (let both : y ∷ take n xs ≡ x ∷ after = h in cc) in
    record { at = ap (λ (v : A). Some v) same; front = refl; within = omega arith }
place_of {A} (y ∷ xs) (z ∷ before) after x (suc n) h =
    let same : y ≡ z = (let both : y ∷ take n xs ≡ z ∷ (before ++ x ∷ after) = h in cc) in
    let tail : take n xs ≡ before ++ x ∷ after = (let both : y ∷ take n xs ≡ z ∷ (before ++ x ∷ after) = h in cc) in
    let rest = place_of xs before after x n tail in
    let less = rest.within in
    record {
      at = rest.at;
      front = ap (λ (l : List A). y ∷ l) rest.front ∙ ap (λ (v : A). v ∷ before) same;
      within = omega (arith, less);
    }

-- ---- the command since then

-- it is the same command, which has written nothing since if it is no write, and no message was forgotten
pub record Since (w v : World) (c : ℕ) (t : CommandState) : Type 0 where
  pub state : CommandState
  pub here : numbered v.commands c ≡ Some state
  pub same_command : state.command ≡ t.command
  pub same_opening : state.opening ≡ t.opening
  pub same_wrote : is_write t.command ≡ false → state.wrote ≡ t.wrote
  pub stays : Stay w.post v.post
  pub firm : Firm w.post v.post

stay_further : (old middle new : List Message) → Stay old middle → Stay middle new → Stay old new
stay_further old middle new p q k m at =
    let there = p k m at in
    let then = q k there.0 there.1 in (then.0, then.1, then.2 ∙ there.2)

not_writing : (w : World) (c : ℕ) (t : CommandState) → numbered w.commands c ≡ Some t → is_write t.command ≡ false → may_write (open_command w c) ≡ true → ⊥
not_writing w c t here not_write may = of_open (open_command w c) refl may
  where
    of_open : (o : Option CommandState) → open_command w c ≡ o → may_write o ≡ true → ⊥
    of_open None is k = false≢true k
    of_open (Some u) is k =
        let same : u ≡ t = (let both : Some u ≡ Some t = sym (open_is (numbered w.commands c) u is) ∙ here in cc) in
        false≢true (sym not_write ∙ ap (λ (x : CommandState). is_write x.command) (sym same) ∙ both_left (is_write u.command) (is_none u.wrote) k)

since_step : (config : Config) (w : World) (c : ℕ) (e : Event) (t : CommandState) → Met config w e → numbered w.commands c ≡ Some t → Since w (after config w e) c t
since_step config w c e t met here =
    let goes = forward config w e (after config w e).commands c t (change_of config w e met) here in
    record {
      state = goes.0;
      here = goes.1;
      same_command = goes.2.same_command;
      same_opening = goes.2.same_opening;
      same_wrote = λ not_write. of_cases goes.0 not_write goes.2.wrote;
      stays = post_stays config w e;
      firm = post_firm config w e;
    }
  where
    of_cases : (u : CommandState) → is_write t.command ≡ false → (u.wrote ≡ t.wrote) ⊎ WritesNow config w e c t u → u.wrote ≡ t.wrote
    of_cases u not_write (inl same) = same
    of_cases u not_write (inr now) =
        absurd (not_writing w c t here not_write
        (both_right (is_declared config.tablets now.wrote.alias) (may_write (open_command w c)) (subst (λ (x : Event). Met config w x) now.event met)))

abbrev Lasts : ℕ → World → World → Type 0
Lasts c w v = (t : CommandState) → numbered w.commands c ≡ Some t → Since w v c t

pub since : (config : Config) (ss : List Step) (c i j : ℕ) (t : CommandState) → IsRun config ss → i ≤ j → numbered (world_at config ss i).commands c ≡ Some t
    → Since (world_at config ss i) (world_at config ss j) c t
since config ss c i j t run le here = climb (world_at config ss) (Lasts c) itself (λ k w rest. next k w rest) i j le t here
  where
    itself : (w : World) → Lasts c w w
    itself w u at = record {
      state = u;
      here = at;
      same_command = refl;
      same_opening = refl;
      same_wrote = λ not_write. refl;
      stays = λ k m is. (m, is, refl);
      firm = λ k x is. is;
    }

    further : (w v x : World) (u : CommandState) → (first : Since w v c u) → Since v x c first.state → Since w x c u
    further w v x u first then = record {
      state = then.state;
      here = then.here;
      same_command = then.same_command ∙ first.same_command;
      same_opening = then.same_opening ∙ first.same_opening;
      same_wrote = λ not_write. then.same_wrote (ap (λ (y : Command). is_write y) first.same_command ∙ not_write) ∙ first.same_wrote not_write;
      stays = stay_further w.post v.post x.post first.stays then.stays;
      firm = λ k y is. then.firm k y (first.firm k y is);
    }

    next : (k : ℕ) (w : World) → Lasts c w (world_at config ss k) → Lasts c w (world_at config ss (suc k))
    next k w rest u at = of_next (world_at config ss (suc k)) (next_is config ss k run)
      where
        of_next : (v : World) → NextIs config ss k v → Since w v c u
        of_next v (AtEnd is) = subst (λ (x : World). Since w x c u) is (rest u at)
        of_next v (BySteps e here step is) =
            let first = rest u at in
            subst (λ (x : World). Since w x c u) is
            (further w (world_at config ss k) (after config (world_at config ss k) e.event) u first
            (since_step config (world_at config ss k) c e.event first.state step.met first.here))

-- ---- what it does is what its course demands

abbrev pub Acts : ℕ → Event → Reply → Type 0
Acts c e r = (act : Act) × (act_of c e r ≡ Some act)

no_leave : (c : ℕ) (e : Event) (r : Reply) → Acts c e r → IsLeaving c e → ⊥
no_leave c e r acts leaves = let wrong : None ≡ Some acts.0 = sym (leaving_act c e r leaves) ∙ acts.1 in cc

met_so : (config : Config) (w : World) (c : ℕ) (t : CommandState) (e f : Event) (r : Reply) (n : ℕ) → Acts c f r → slice_get (if_met config w c t e ∷ []) n ≡ Some f → f ≡ e
met_so config w c t e f r n acts at = of_test (meets config w e) (only_one (if_met config w c t e) f n at)
  where
    of_test : (b : Bool) → cond b e (refusing c t refusals.OutOfMemory) ≡ f → f ≡ e
    of_test true is = sym is
    of_test false is = absurd (no_leave c f r acts (subst (λ (x : Event). IsLeaving c x) is (leaving_by c t (answers.Refused refusals.OutOfMemory None))))

does_so : (config : Config) (w : World) (c n : ℕ) (t : CommandState) (want : Want) (f : Event) (r : Reply) → Acts c f r → slice_get (does config w c t want) n ≡ Some f
    → f ≡ event_of w c want
does_so config w c n t wants.Take f r acts at = met_so config w c t (event_of w c wants.Take) f r n acts at
does_so config w c n t wants.Read f r acts at = met_so config w c t (event_of w c wants.Read) f r n acts at
does_so config w c n t (wants.Intend a) f r acts at = met_so config w c t (event_of w c (wants.Intend a)) f r n acts at
does_so config w c n t (wants.Record a) f r acts at = met_so config w c t (event_of w c (wants.Record a)) f r n acts at
does_so config w c n t (wants.Drain a) f r acts at = met_so config w c t (event_of w c (wants.Drain a)) f r n acts at
does_so config w c n t (wants.Ask a call) f r acts at = met_so config w c t (event_of w c (wants.Ask a call)) f r n acts at
does_so config w c n t (wants.Write a) f r acts at = met_so config w c t (event_of w c (wants.Write a)) f r n acts at
does_so config w c n t wants.Tell f r acts at = of_option (tell_of w c) at
  where
    of_option : (o : Option Reply) → slice_get (cond (is_some o) (events.Tell c ∷ []) []) n ≡ Some f → f ≡ events.Tell c
    of_option None h = absurd (let wrong : None ≡ Some f = h in cc)
    of_option (Some x) h = sym (only_one (events.Tell c) f n h)

no_give_up : (w : World) (c : ℕ) (d : Deed) (f : Event) (r : Reply) → give_up_of w c d ≡ Some f → Acts c f r → ⊥
no_give_up w c (deeds.Asked x) f r is acts = of_test (is_none x.outcome && is_some (why_given_up w c x.message)) is
  where
    of_test : (b : Bool) → only_if b (events.GiveUp c x.message) ≡ Some f → ⊥
    of_test false h = let wrong : None ≡ Some f = h in cc
    of_test true h =
        let same : events.GiveUp c x.message ≡ f = (let both : Some (events.GiveUp c x.message) ≡ Some f = h in cc) in
        let wrong : None ≡ Some acts.0 = ap (λ (e : Event). act_of c e r) same ∙ acts.1 in cc
no_give_up w c (deeds.Took reply) f r is acts = let wrong : None ≡ Some f = is in cc
no_give_up w c (deeds.Read reply) f r is acts = let wrong : None ≡ Some f = is in cc
no_give_up w c (deeds.Intended a reply) f r is acts = let wrong : None ≡ Some f = is in cc
no_give_up w c (deeds.Recorded a reply) f r is acts = let wrong : None ≡ Some f = is in cc
no_give_up w c (deeds.Drained a reply) f r is acts = let wrong : None ≡ Some f = is in cc
no_give_up w c (deeds.Wrote a reply) f r is acts = let wrong : None ≡ Some f = is in cc
no_give_up w c (deeds.Told committed) f r is acts = let wrong : None ≡ Some f = is in cc

-- the command is in this state, its course demands this, and the event does it
pub record IsDone (config : Config) (w : World) (c : ℕ) (e : Event) : Type 0 where
  pub state : CommandState
  pub is_open : open_command w c ≡ Some state
  pub want : Want
  pub demands_it : demand_of config w state ≡ demands.Does want
  pub event : e ≡ event_of w c want

pub is_done : (config : Config) (w : World) (c : ℕ) (e : Event) (r : Reply) → Acts c e r → IsOfCourse config w c e → IsDone config w c e
is_done config w c e r acts (Leaves t is so) = absurd (no_leave c e r acts (subst (λ (x : Event). IsLeaving c x) (sym so) (leaves_for c (open_command w c))))
is_done config w c e r acts (GoesOn n at) = of_open (open_command w c) refl at
  where
    of_demand : (t : CommandState) → open_command w c ≡ Some t → (d : Demand) → demand_of config w t ≡ d → slice_get (may_by config w c t d) n ≡ Some e → IsDone config w c e
    of_demand t is (demands.Does want) demanded k =
        record { state = t; is_open = is; want = want; demands_it = demanded; event = does_so config w c n t want e r acts k }
    of_demand t is demands.Awaits demanded k =
        let given = came (give_up_of w c) (span_in w.post t) n e k in absurd (no_give_up w c given.it e r given.gives acts)
    of_demand t is (demands.Leaves x) demanded k = absurd (no_leave c e r acts (may_leave config w c n t e (demands.Leaves x) (x, refl) k))

    of_open : (o : Option CommandState) → open_command w c ≡ o → slice_get (state_next config w c o) n ≡ Some e → IsDone config w c e
    of_open None is k = absurd (let wrong : None ≡ Some e = k in cc)
    of_open (Some t) is k = of_demand t is (demand_of config w t) refl k

passes_so : (r : Result CommandAnswer Exit) (want : Want) → demand_by r ≡ demands.Does want → Passes r want
passes_so (Ok x) want is = tt
passes_so (Err (exits.Does other)) want is = let both : demands.Does other ≡ demands.Does want = is in cc
passes_so (Err (exits.Refused r)) want is = tt
passes_so (Err exits.Waits) want is = let wrong : demands.Awaits ≡ demands.Does want = is in cc
passes_so (Err exits.Strays) want is = let wrong : demands.Leaves _ ≡ demands.Does want = is in cc
passes_so (Err exits.OutOfMemory) want is = let wrong : demands.Leaves _ ≡ demands.Does want = is in cc

-- ---- every deed

pub own_acts : (c : ℕ) (e : Event) (r : Reply) → Acts c e r → (b : Bool) → own_in c (maker_of e) ≡ b → maker_of e ≡ Some c
own_acts c e r acts true own = own_is c (maker_of e) own
own_acts c e r acts false other = absurd (let wrong : None ≡ Some acts.0 = sym (no_act c e r other) ∙ acts.1 in cc)

pub same_course : (config : Config) (w v : World) (c : ℕ) (t s : CommandState) (course : Course CommandAnswer) → Since w v c t → numbered v.commands c ≡ Some s
    → course_of (group_of config) s.command s.opening ≡ course → course_of (group_of config) t.command t.opening ≡ course
same_course config w v c t s course after here is_course =
    let same : after.state ≡ s = (let both : Some after.state ≡ Some s = sym after.here ∙ here in cc) in
    ap (λ (x : Command). course_of (group_of config) x t.opening) (sym after.same_command ∙ ap (λ (x : CommandState). x.command) same)
    ∙ ap (λ (x : Opening). course_of (group_of config) s.command x) (sym after.same_opening ∙ ap (λ (x : CommandState). x.opening) same) ∙ is_course

pub all_made : (config : Config) (ss : List Step) (c j : ℕ) (s : CommandState) (course : Course CommandAnswer) → IsRun config ss → FollowsAt config ss
    → numbered (world_at config ss j).commands c ≡ Some s → is_write s.command ≡ false → course_of (group_of config) s.command s.opening ≡ course
    → IsHeeded (MadeAt config ss c j s) (Only IsFirst course) (span_in (world_at config ss j).post s)
all_made config ss c j s course run follows here not_write is_course done more d split =
    let post : List Message = (world_at config ss j).post in
    let deed = split_map (deed_of post (term_wrote s.wrote)) s.acts done more d split in
    let acts : acts_of c (take j ss) ≡ deed.before ++ deed.it ∷ deed.after = sym (acts_so_far config ss j c s run here) ∙ deed.split in
    let step = split_map (λ (x : Step). act_of c x.event x.reply) (take j ss) deed.before deed.after deed.it acts in
    let place = place_of ss step.before step.after step.it j step.split in
    let less = place.within in
    let k : ℕ = length step.before in
    let w : World = world_at config ss k in
    let own = own_acts c step.it.event step.it.reply (deed.it, step.gives) (own_in c (maker_of step.it.event)) refl in
    let does = is_done config w c step.it.event step.it.reply (deed.it, step.gives) (follows k step.it place.at c own) in
    let then : numbered w.commands c ≡ Some does.state = open_is (numbered w.commands c) does.state does.is_open in
    let acts_then : does.state.acts ≡ deed.before =
    acts_so_far config ss k c does.state run then ∙ ap (λ (l : List Step). acts_of c l) place.front ∙ step.fronts in
    let after = since config ss c k j does.state run (omega (arith, less)) then in
    let same : after.state ≡ s = (let both : Some after.state ≡ Some s = sym after.here ∙ here in cc) in
    let wrote : term_wrote does.state.wrote ≡ term_wrote s.wrote =
    ap (λ (o : Option Wrote). term_wrote o)
    (sym (after.same_wrote (ap (λ (x : Command). is_write x) (sym after.same_command ∙ ap (λ (x : CommandState). x.command) same) ∙ not_write)) ∙ ap (λ (x : CommandState). x.wrote) same) in
    let later : Later (span_in w.post does.state) done =
    subst (λ (l : List Deed). Later (span_in w.post does.state) l)
    (ap (λ (u : ℕ). filter_map (deed_of post u) does.state.acts) wrote ∙ ap (λ (l : List Act). filter_map (deed_of post (term_wrote s.wrote)) l) acts_then ∙ deed.fronts)
    (later_span w.post post (term_wrote does.state.wrote) does.state.acts after.stays after.firm (all_posted config ss c k does.state run then)) in
    let own_course = same_course config w (world_at config ss j) c does.state s course after here is_course in
    record {
      before = [];
      along = span_in w.post does.state;
      course = course;
      want = does.want;
      version = (refl, refl);
      later = later;
      made = record {
        place = k;
        earlier = less;
        step = step.it;
        at = place.at;
        event = does.event;
        act = deed.it;
        did = step.gives;
        deed = deed.gives;
        stands = record { before = done; after = more; split = split };
        state = does.state;
        here = then;
        past_is = refl;
      };
      passes = passes_so (course (span_in w.post does.state)).came does.want
          (ap (λ (x : Course CommandAnswer). demand x (span_in w.post does.state)) (sym own_course) ∙ does.demands_it);
    }

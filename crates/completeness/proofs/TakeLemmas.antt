-- A command that takes the lock, and keeps to its course, takes it with the first thing that it does: no Take of its is refused before. The lock is that of
-- PlannedReparentShard (Vitess manual).
use Rattle.std.proofs.Common.{◌≡◌, refl, ap, sym, subst, ◌∙◌, arith, ℕ, zero, suc, ◌<◌, Bool, true, false, nat_lt, cond, ◌==◌, List, [], ◌∷◌, ◌++◌, take, Option, Some, None, Result, Ok, Err}
use Rattle.std.proofs.lemmas.Bool.Decides.{nat_tests}
use Rattle.std.specs.List.{slice_get, filter_map, cons_option}
use Rattle.topo_lock.specs.declared.lock.LockTaken.{LockTaken}
use Rattle.shard_calls.specs.declared.command.Command.{Command}
use Rattle.shard_calls.specs.declared.ending.CommandAnswer.{CommandAnswer}
use Rattle.shard_calls.specs.declared.event.Event.{Event}
use Rattle.shard_calls.specs.declared.event.Event.TheVariants as events
use Rattle.shard_calls.specs.declared.event.Reply.TheVariants as replies
use Rattle.shard_calls.specs.declared.event.Step.{Step}
use Rattle.shard_calls.specs.declared.post.Message.{Message}
use Rattle.shard_calls.specs.declared.span.Asked.{Asked}
use Rattle.shard_calls.specs.declared.span.Deed.{Deed}
use Rattle.shard_calls.specs.declared.span.Deed.TheVariants as deeds
use Rattle.shard_calls.specs.declared.state.Act.{Act}
use Rattle.shard_calls.specs.declared.state.Act.TheVariants as acts
use Rattle.shard_calls.specs.declared.state.CommandState.{CommandState}
use Rattle.shard_calls.specs.declared.state.Wrote.{Wrote}
use Rattle.shard_calls.specs.declared.event.Reply.{Reply}
use Rattle.topo_lock.specs.Topology.{answer_take}
use Rattle.shard_calls.specs.Answered.{act_of, acts_of, taken_by_reply}
use Rattle.shard_calls.specs.Table.{after, answer, Met}
use Rattle.shard_calls.proofs.RunLemmas.{next_world, step_along}
use Rattle.completeness.proofs.KeptLemmas.{has_lock, taken_now}
use Rattle.completeness.proofs.TermLemmas.{TermIs, takes_term}
use Rattle.courses.specs.declared.want.Want.TheVariants as wants
use Rattle.shard_calls.specs.Spans.{asked_by, deed_if_asked, deed_of, span_in, term_wrote, written_in}
use Rattle.shard_calls.specs.Writes.{is_write}
use Rattle.shard_calls.specs.World.{Config, World, group_of, numbered, opening}
use Rattle.shard_calls.specs.Promotions.{world_at}
use Rattle.shard_base.specs.Options.{◌>>=◌}
use Rattle.courses.specs.declared.demands.Demand.TheVariants as demands
use Rattle.courses.specs.declared.want.Want.{Want}
use Rattle.courses.specs.Course.{demand}
use Rattle.courses.specs.Walks.{Course}
use Rattle.recovery_loop.specs.Course.{course_of}
use Rattle.planned.specs.Follows.{maker_of}
use Rattle.completeness.proofs.CallLemmas.{acts_so_far, term_later}
use Rattle.completeness.proofs.DecidedLemmas.{FollowsAt, all_posted, open_is, own_in}
use Rattle.completeness.proofs.LaterLemmas.{Later, Nothing, More}
use Rattle.completeness.proofs.MadeCalls.{Keeper, Made}
use Rattle.completeness.proofs.MadeLemmas.{is_done, nothing_split, own_acts, same_course, since}
use Rattle.completeness.proofs.SpanLater.{later_span}

-- ---- lists

split_at : {A B : Type 0} (f : A → Option B) (xs : List A) (n k : ℕ) (x : A) (y : B) → slice_get xs k ≡ Some x → k < n → f x ≡ Some y
    → (rest : List B) × (filter_map f (take n xs) ≡ filter_map f (take k xs) ++ y ∷ rest)
split_at f [] n k x y at less gives = absurd (let wrong : None ≡ Some x = at in cc)
split_at f (z ∷ xs) zero k x y at less gives = absurd (omega (arith, less))
split_at {A} {B} f (z ∷ xs) (suc n) zero x y at less gives =
    let same : z ≡ x = (let both : Some z ≡ Some x = at in cc) in
    (filter_map f (take n xs), ap (λ (o : Option B). cons_option o (filter_map f (take n xs))) (ap f same ∙ gives))
split_at {A} {B} f (z ∷ xs) (suc n) (suc k) x y at less gives =
    let rest = split_at f xs n k x y at (omega (arith, less)) gives in of_option (f z) rest.0 rest.1
  where
    of_option : (o : Option B) (rest : List B) → filter_map f (take n xs) ≡ filter_map f (take k xs) ++ y ∷ rest
        → (left : List B) × (cons_option o (filter_map f (take n xs)) ≡ cons_option o (filter_map f (take k xs)) ++ y ∷ left)
    of_option None rest is = (rest, is)
    of_option (Some v) rest is = (rest, ap (λ (l : List B). v ∷ l) is)

map_front : {A B : Type 0} (f : A → Option B) (xs ys : List A) (x : A) (y : B) → f x ≡ Some y → (rest : List B) × (filter_map f (xs ++ x ∷ ys) ≡ filter_map f xs ++ y ∷ rest)
map_front {A} {B} f [] ys x y gives = (filter_map f ys, ap (λ (o : Option B). cons_option o (filter_map f ys)) gives)
map_front {A} {B} f (z ∷ xs) ys x y gives = let rest = map_front f xs ys x y gives in of_option (f z) rest.0 rest.1
  where
    of_option : (o : Option B) (rest : List B) → filter_map f (xs ++ x ∷ ys) ≡ filter_map f xs ++ y ∷ rest
        → (left : List B) × (cons_option o (filter_map f (xs ++ x ∷ ys)) ≡ cons_option o (filter_map f xs) ++ y ∷ left)
    of_option None rest is = (rest, is)
    of_option (Some v) rest is = (rest, ap (λ (l : List B). v ∷ l) is)

-- ---- the act of a Take

pub took_act : (post : List Message) (u : ℕ) (act : Act) (reply : Result ℕ LockTaken) → deed_of post u act ≡ Some (deeds.Took reply) → act ≡ acts.Took reply
took_act post u (acts.Took other) reply h =
    let same : other ≡ reply = (let both : Some (deeds.Took other) ≡ Some (deeds.Took reply) = h in cc) in ap (λ (r : Result ℕ LockTaken). acts.Took r) same
took_act post u (acts.Read other) reply h = absurd (let wrong : Some (deeds.Read other) ≡ Some (deeds.Took reply) = h in cc)
took_act post u (acts.Intended a other) reply h = absurd (let wrong : Some (deeds.Intended a other) ≡ Some (deeds.Took reply) = h in cc)
took_act post u (acts.Recorded a other) reply h = absurd (let wrong : Some (deeds.Recorded a other) ≡ Some (deeds.Took reply) = h in cc)
took_act post u (acts.Drained a other) reply h = absurd (let wrong : Some (deeds.Drained a other) ≡ Some (deeds.Took reply) = h in cc)
took_act post u (acts.Sent k) reply h = absurd (asked_is (numbered post k >>= (λ m. asked_by post k m m.content)) h)
  where
    asked_is : (o : Option Asked) → deed_if_asked o ≡ Some (deeds.Took reply) → ⊥
    asked_is None wrong = let bad : None ≡ Some (deeds.Took reply) = wrong in cc
    asked_is (Some x) wrong = let bad : Some (deeds.Asked x) ≡ Some (deeds.Took reply) = wrong in cc
took_act post u (acts.Wrote a other) reply h = absurd (let wrong : Some (deeds.Wrote a (written_in u other)) ≡ Some (deeds.Took reply) = h in cc)
took_act post u (acts.Told committed) reply h = absurd (let wrong : Some (deeds.Told committed) ≡ Some (deeds.Took reply) = h in cc)

-- ---- the first Take

-- a course that a refused Take ends
abbrev pub EndsIfTaken : Course CommandAnswer → Type 0
EndsIfTaken course = (held : LockTaken) (rest : List Deed) (want : Want) → demand course (deeds.Took (Err held) ∷ rest) ≡ demands.Does want → ⊥

its_act : (c u : ℕ) → act_of c (events.Take c) (replies.Term u) ≡ Some (acts.Took (Ok u))
its_act c u = ap (λ (b : Bool). cond b (Some (acts.Took (Ok u))) None) (itself c)
  where
    itself : (n : ℕ) → (n == n) ≡ true
    itself n = grind (arith, nat_tests)

pub not_taken_first : (config : Config) (ss : List Step) (c j : ℕ) (keeper : Keeper config ss c j) (course : Course CommandAnswer) (want : Want) (held : LockTaken)
    → FollowsAt config ss → is_write keeper.state.command ≡ false → course_of (group_of config) keeper.state.command keeper.state.opening ≡ course → EndsIfTaken course
    → Made config ss c j keeper want (deeds.Took (Err held)) [] → ⊥
not_taken_first config ss c j keeper course want held follows not_write is_course ends made =
    of_order (nat_lt made.place keeper.taken) (nat_lt keeper.taken made.place) refl refl
  where
    i : ℕ
    i = keeper.taken

    k : ℕ
    k = made.place

    takes : Step
    takes = record { event = events.Take c; reply = replies.Term keeper.term }

    act_is : made.act ≡ acts.Took (Err held)
    act_is = took_act (world_at config ss j).post (term_wrote keeper.state.wrote) made.act (Err held) made.deed

    did : act_of c made.step.event made.step.reply ≡ Some (acts.Took (Err held))
    did = made.did ∙ ap (λ (a : Act). Some a) act_is

    at_once : k ≡ i → ⊥
    at_once same =
        let one : made.step ≡ takes = (let both : Some made.step ≡ Some takes = sym made.at ∙ ap (λ (n : ℕ). slice_get ss n) same ∙ keeper.kept.taken in cc) in
        let wrong : Some (acts.Took (Ok keeper.term)) ≡ Some (acts.Took (Err held)) =
        sym (its_act c keeper.term) ∙ ap (λ (s : Step). act_of c s.event s.reply) (sym one) ∙ did in cc

    -- it had done something by then
    later_than : i < k → ⊥
    later_than less =
        let parts = split_at (λ (x : Step). act_of c x.event x.reply) ss k i takes (acts.Took (Ok keeper.term)) keeper.kept.taken less (its_act c keeper.term) in
        let done = map_front (deed_of (world_at config ss k).post (term_wrote made.state.wrote)) (acts_of c (take i ss)) parts.0 (acts.Took (Ok keeper.term)) (deeds.Took (Ok keeper.term)) refl in
        nothing_split (filter_map (deed_of (world_at config ss k).post (term_wrote made.state.wrote)) (acts_of c (take i ss))) done.0 (deeds.Took (Ok keeper.term))
        (sym made.past_is ∙ ap (λ (l : List Act). filter_map (deed_of (world_at config ss k).post (term_wrote made.state.wrote)) l)
        (acts_so_far config ss k c made.state keeper.run made.here ∙ parts.1) ∙ done.1)

    -- the course was refused when it took the lock
    earlier_than : k < i → ⊥
    earlier_than less =
        let w : World = world_at config ss i in
        let own = own_acts c (events.Take c) (replies.Term keeper.term) (acts.Took (Ok keeper.term), its_act c keeper.term) (own_in c (maker_of (events.Take c))) refl in
        let does = is_done config w c (events.Take c) (replies.Term keeper.term) (acts.Took (Ok keeper.term), its_act c keeper.term) (follows i takes keeper.kept.taken c own) in
        let then = open_is (numbered w.commands c) does.state does.is_open in
        let within = keeper.kept.later in
        let after = since config ss c i j does.state keeper.run (omega (arith, within)) then in
        let own_course = same_course config w (world_at config ss j) c does.state keeper.state course after keeper.here is_course in
        let between = since config ss c k i made.state keeper.run (omega (arith, less)) made.here in
        let same : between.state ≡ does.state = (let both : Some between.state ≡ Some does.state = sym between.here ∙ then in cc) in
        let whole = since config ss c k j made.state keeper.run (omega (arith, less, within)) made.here in
        let last : whole.state ≡ keeper.state = (let both : Some whole.state ≡ Some keeper.state = sym whole.here ∙ keeper.here in cc) in
        let no_write : is_write made.state.command ≡ false =
        ap (λ (x : Command). is_write x) (sym whole.same_command ∙ ap (λ (x : CommandState). x.command) last) ∙ not_write in
        let wrote : term_wrote does.state.wrote ≡ term_wrote made.state.wrote =
        ap (λ (o : Option Wrote). term_wrote o) (ap (λ (x : CommandState). x.wrote) (sym same) ∙ between.same_wrote no_write) in
        let parts = split_at (λ (x : Step). act_of c x.event x.reply) ss i k made.step (acts.Took (Err held)) made.at less did in
        let f : Act → Option Deed = deed_of w.post (term_wrote made.state.wrote) in
        let done = map_front f (acts_of c (take k ss)) parts.0 (acts.Took (Err held)) (deeds.Took (Err held)) refl in
        let later : Later (span_in (world_at config ss k).post made.state) (filter_map f made.state.acts) =
        later_span (world_at config ss k).post w.post (term_wrote made.state.wrote) made.state.acts between.stays between.firm
        (all_posted config ss c k made.state keeper.run made.here) in
        let nothing : filter_map f made.state.acts ≡ [] = nothing_later (span_in (world_at config ss k).post made.state) (filter_map f made.state.acts) later made.past_is in
        let first : span_in w.post does.state ≡ deeds.Took (Err held) ∷ done.0 =
        ap (λ (u : ℕ). filter_map (deed_of w.post u) does.state.acts) wrote
        ∙ ap (λ (l : List Act). filter_map f l) (acts_so_far config ss i c does.state keeper.run then ∙ parts.1) ∙ done.1
        ∙ ap (λ (l : List Deed). l ++ deeds.Took (Err held) ∷ done.0)
        (ap (λ (l : List Act). filter_map f l) (sym (acts_so_far config ss k c made.state keeper.run made.here)) ∙ nothing) in
        ends held done.0 does.want
        (ap (λ (l : List Deed). demand course l) (sym first) ∙ ap (λ (x : Course CommandAnswer). demand x (span_in w.post does.state)) (sym own_course) ∙ does.demands_it)
      where
        nothing_later : (ds es : List Deed) → Later ds es → ds ≡ [] → es ≡ []
        nothing_later _ _ Nothing same = refl
        nothing_later _ _ (More d e ds es one rest) same = absurd (let wrong : d ∷ ds ≡ [] = same in cc)

    of_order : (b d : Bool) → nat_lt k i ≡ b → nat_lt i k ≡ d → ⊥
    of_order true d e f = earlier_than (grind (arith, nat_tests))
    of_order false true e f = later_than (grind (arith, nat_tests))
    of_order false false e f = at_once (grind (arith, nat_tests))

-- ---- the term that it took

taken_by : (r : Reply) (t : ℕ) → taken_by_reply r ≡ Some (acts.Took (Ok t)) → r ≡ replies.Term t
taken_by (replies.Term v) t h = let same : v ≡ t = (let both : Some (acts.Took (Ok v)) ≡ Some (acts.Took (Ok t)) = h in cc) in ap (λ (n : ℕ). replies.Term n) same
taken_by (replies.Taken v by) t h = absurd (let wrong : Some (acts.Took (Err (record { term = v; actor = by }))) ≡ Some (acts.Took (Ok t)) = h in cc)
taken_by _ t h = absurd (let wrong : None ≡ Some (acts.Took (Ok t)) = h in cc)

-- the term that it took is that of the lock which it keeps
pub taken_term : (config : Config) (ss : List Step) (c j : ℕ) (keeper : Keeper config ss c j) (t : ℕ) (past : List Deed)
    → Made config ss c j keeper wants.Take (deeds.Took (Ok t)) past → t ≡ keeper.term
taken_term config ss c j keeper t past made =
    let w : World = world_at config ss made.place in
    let step = step_along config (opening config) ss made.place made.step keeper.run made.at in
    let act = took_act (world_at config ss j).post (term_wrote keeper.state.wrote) made.act (Ok t) made.deed in
    let own : act_of c (events.Take c) made.step.reply ≡ taken_by_reply made.step.reply =
    ap (λ (b : Bool). cond b (taken_by_reply made.step.reply) None) (same_number c) in
    let did : taken_by_reply made.step.reply ≡ Some (acts.Took (Ok t)) =
    sym own ∙ ap (λ (e : Event). act_of c e made.step.reply) (sym made.event) ∙ made.did ∙ ap (λ (a : Act). Some a) act in
    let met : Met config w (events.Take c) = subst (λ (e : Event). Met config w e) made.event step.met in
    let answered : replies.Term t ≡ answer config w (events.Take c) =
    sym (taken_by made.step.reply t did) ∙ step.answered ∙ ap (λ (e : Event). answer config w e) made.event in
    let takes = takes_term config w c t met (taken_now (answer_take w.topo) t answered) in
    let here : TermIs (world_at config ss (suc made.place)) c t =
    subst (λ (v : World). TermIs v c t) (sym (next_world config (opening config) ss made.place made.step made.at ∙ ap (λ (e : Event). after config w e) made.event)) takes.own in
    let less = made.earlier in
    let later = term_later config ss c t (suc made.place) j keeper.run (omega (arith, less)) here in
    let has = has_lock config ss c keeper.term keeper.taken j keeper.run keeper.kept j keeper.kept.later (omega arith) in
    let same : t ≡ keeper.term = (let some : Some t ≡ Some keeper.term = sym later ∙ has.own in cc) in
    same
  where
    same_number : (n : ℕ) → (n == n) ≡ true
    same_number n = grind (arith, nat_tests)

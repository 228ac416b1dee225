-- A command that keeps the lock is never told that it has lost it.
use Rattle.std.proofs.Common.{◌≡◌, ℕ, zero, suc, ◌<◌, Bool, true, false, ◌||◌, ◌==◌, nat_lt, refl, ap, sym, subst, ◌∙◌, arith, cond, List, [], ◌∷◌, Option, Some, None, Result, Ok, Err}
use Rattle.std.proofs.lemmas.Bool.{false≢true}
use Rattle.std.proofs.lemmas.Bool.Decides.{nat_tests}
use Rattle.std.specs.List.{slice_get, list_any, filter_map, cons_option}
use Rattle.shard_names.specs.declared.alias.Alias.{Alias}
use Rattle.topo_lock.specs.Topology.{answer_take, answer_intend, answer_record, answer_drain}
use Rattle.topo_lock.specs.declared.lock.LockTaken.{LockTaken}
use Rattle.shard_calls.specs.declared.event.Event.{Event}
use Rattle.shard_calls.specs.declared.event.Event.TheVariants as events
use Rattle.shard_calls.specs.declared.event.Reply.{Reply}
use Rattle.shard_calls.specs.declared.event.Reply.TheVariants as replies
use Rattle.shard_calls.specs.declared.event.Step.{Step}
use Rattle.shard_calls.specs.declared.post.Message.{Message}
use Rattle.shard_calls.specs.declared.span.Asked.{Asked}
use Rattle.shard_calls.specs.declared.span.Deed.{Deed}
use Rattle.shard_calls.specs.declared.span.Deed.TheVariants as deeds
use Rattle.shard_calls.specs.declared.state.Act.{Act}
use Rattle.shard_calls.specs.declared.state.Act.TheVariants as acts
use Rattle.shard_calls.specs.declared.state.CommandState.{CommandState}
use Rattle.shard_calls.specs.Answered.{taken_by_reply, read_by_reply, intended_by_reply, recorded_by_reply, drained_by_reply, sent_by_reply, written_by_reply, told_by_reply, act_of}
use Rattle.shard_calls.specs.Spans.{asked_by, deed_if_asked, deed_of, span_of, span_at, term_wrote, written_in}
use Rattle.shard_calls.specs.Table.{answer, IsRun}
use Rattle.shard_calls.specs.World.{Config, World, opening, numbered, term_in, term_of}
use Rattle.shard_calls.specs.Locks.{by_term, taken_reply, read_reply, topo_reply}
use Rattle.shard_base.specs.Options.{◌>>=◌}
use Rattle.shard_calls.proofs.RunLemmas.{step_along}
use Rattle.shard_calls.specs.Promotions.{world_at}
use Rattle.shard_laws.proofs.EndLemmas.{ActStep, act_step}
use Rattle.courses.specs.Sound.{IsIn}
use Rattle.completeness.specs.Kept.{IsKept, asks_topology}
use Rattle.completeness.proofs.CallLemmas.{acts_so_far, place_in, term_later}
use Rattle.completeness.proofs.TermLemmas.{TermIs, takes_term, term_numbered}
use Rattle.completeness.proofs.KeptLemmas as kept

-- the topology told the command that it had lost the lock
abbrev pub is_lost_act : Act → Bool
is_lost_act (acts.Took reply) = false
is_lost_act (acts.Read (Ok seen)) = false
is_lost_act (acts.Read (Err t)) = true
is_lost_act (acts.Intended a (Ok x)) = false
is_lost_act (acts.Intended a (Err t)) = true
is_lost_act (acts.Recorded a (Ok x)) = false
is_lost_act (acts.Recorded a (Err t)) = true
is_lost_act (acts.Drained a (Ok x)) = false
is_lost_act (acts.Drained a (Err t)) = true
is_lost_act (acts.Sent k) = false
is_lost_act (acts.Wrote a reply) = false
is_lost_act (acts.Told committed) = false

-- the step asks the topology for the command, and is told that the lock is lost
pub record IsLostStep (c : ℕ) (e : Event) (r : Reply) : Type 0 where
  pub term : ℕ
  pub reply : r ≡ replies.Lost term
  pub asks : asks_topology c e ≡ true

-- ---- the step of such an act

read_lost : (r : Reply) (act : Act) → read_by_reply r ≡ Some act → is_lost_act act ≡ true → (t : ℕ) × (r ≡ replies.Lost t)
read_lost (replies.Lost t) act is lost = (t, refl)
read_lost (replies.Read seen) act is lost =
    let same : acts.Read (Ok seen) ≡ act = (let some : Some (acts.Read (Ok seen)) ≡ Some act = is in cc) in
    absurd (false≢true (ap (λ (y : Act). is_lost_act y) same ∙ lost))
read_lost _ act is lost = absurd (let none : None ≡ Some act = is in cc)

intended_lost : (a : Alias) (r : Reply) (act : Act) → intended_by_reply a r ≡ Some act → is_lost_act act ≡ true → (t : ℕ) × (r ≡ replies.Lost t)
intended_lost a (replies.Lost t) act is lost = (t, refl)
intended_lost a replies.Ok act is lost =
    let same : acts.Intended a (Ok tt) ≡ act = (let some : Some (acts.Intended a (Ok tt)) ≡ Some act = is in cc) in
    absurd (false≢true (ap (λ (y : Act). is_lost_act y) same ∙ lost))
intended_lost a _ act is lost = absurd (let none : None ≡ Some act = is in cc)

recorded_lost : (a : Alias) (r : Reply) (act : Act) → recorded_by_reply a r ≡ Some act → is_lost_act act ≡ true → (t : ℕ) × (r ≡ replies.Lost t)
recorded_lost a (replies.Lost t) act is lost = (t, refl)
recorded_lost a replies.Ok act is lost =
    let same : acts.Recorded a (Ok tt) ≡ act = (let some : Some (acts.Recorded a (Ok tt)) ≡ Some act = is in cc) in
    absurd (false≢true (ap (λ (y : Act). is_lost_act y) same ∙ lost))
recorded_lost a _ act is lost = absurd (let none : None ≡ Some act = is in cc)

drained_lost : (a : Alias) (r : Reply) (act : Act) → drained_by_reply a r ≡ Some act → is_lost_act act ≡ true → (t : ℕ) × (r ≡ replies.Lost t)
drained_lost a (replies.Lost t) act is lost = (t, refl)
drained_lost a replies.Ok act is lost =
    let same : acts.Drained a (Ok tt) ≡ act = (let some : Some (acts.Drained a (Ok tt)) ≡ Some act = is in cc) in
    absurd (false≢true (ap (λ (y : Act). is_lost_act y) same ∙ lost))
drained_lost a _ act is lost = absurd (let none : None ≡ Some act = is in cc)

taken_kept : (r : Reply) (act : Act) → taken_by_reply r ≡ Some act → is_lost_act act ≡ true → ⊥
taken_kept (replies.Term t) act is lost =
    let same : acts.Took (Ok t) ≡ act = (let some : Some (acts.Took (Ok t)) ≡ Some act = is in cc) in
    false≢true (ap (λ (y : Act). is_lost_act y) same ∙ lost)
taken_kept (replies.Taken t by) act is lost =
    let x : Act = acts.Took (Err (record { term = t; actor = by })) in
    let same : x ≡ act = (let some : Some x ≡ Some act = is in cc) in
    false≢true (ap (λ (y : Act). is_lost_act y) same ∙ lost)
taken_kept _ act is lost = let none : None ≡ Some act = is in cc

sent_kept : (r : Reply) (act : Act) → sent_by_reply r ≡ Some act → is_lost_act act ≡ true → ⊥
sent_kept (replies.Message k) act is lost =
    let same : acts.Sent k ≡ act = (let some : Some (acts.Sent k) ≡ Some act = is in cc) in false≢true (ap (λ (y : Act). is_lost_act y) same ∙ lost)
sent_kept _ act is lost = let none : None ≡ Some act = is in cc

wrote_kept : (a : Alias) (r : Reply) (act : Act) → written_by_reply a r ≡ Some act → is_lost_act act ≡ true → ⊥
wrote_kept a (replies.Wrote g) act is lost =
    let same : acts.Wrote a (Ok g) ≡ act = (let some : Some (acts.Wrote a (Ok g)) ≡ Some act = is in cc) in false≢true (ap (λ (y : Act). is_lost_act y) same ∙ lost)
wrote_kept a (replies.NotPrimary at) act is lost =
    let same : acts.Wrote a (Err at) ≡ act = (let some : Some (acts.Wrote a (Err at)) ≡ Some act = is in cc) in
    false≢true (ap (λ (y : Act). is_lost_act y) same ∙ lost)
wrote_kept a _ act is lost = let none : None ≡ Some act = is in cc

told_kept : (r : Reply) (act : Act) → told_by_reply r ≡ Some act → is_lost_act act ≡ true → ⊥
told_kept replies.Told act is lost =
    let same : acts.Told true ≡ act = (let some : Some (acts.Told true) ≡ Some act = is in cc) in false≢true (ap (λ (y : Act). is_lost_act y) same ∙ lost)
told_kept replies.Gone act is lost =
    let same : acts.Told false ≡ act = (let some : Some (acts.Told false) ≡ Some act = is in cc) in false≢true (ap (λ (y : Act). is_lost_act y) same ∙ lost)
told_kept _ act is lost = let none : None ≡ Some act = is in cc

by_own : (d c : ℕ) (o : Option Act) (act : Act) → cond (d == c) o None ≡ Some act → ((d == c) ≡ true) × (o ≡ Some act)
by_own d c o act is = of_test (d == c) is
  where
    of_test : (b : Bool) → cond b o None ≡ Some act → (b ≡ true) × (o ≡ Some act)
    of_test true h = (refl, h)
    of_test false h = absurd (let none : None ≡ Some act = h in cc)

pub lost_step : (c : ℕ) (e : Event) (r : Reply) (act : Act) → act_of c e r ≡ Some act → is_lost_act act ≡ true → IsLostStep c e r
lost_step c (events.Read d) r act is lost =
    let own = by_own d c (read_by_reply r) act is in let told = read_lost r act own.1 lost in record { term = told.0; reply = told.1; asks = own.0 }
lost_step c (events.Intend d a) r act is lost =
    let own = by_own d c (intended_by_reply a r) act is in let told = intended_lost a r act own.1 lost in record { term = told.0; reply = told.1; asks = own.0 }
lost_step c (events.Record d a) r act is lost =
    let own = by_own d c (recorded_by_reply a r) act is in let told = recorded_lost a r act own.1 lost in record { term = told.0; reply = told.1; asks = own.0 }
lost_step c (events.Drain d a) r act is lost =
    let own = by_own d c (drained_by_reply a r) act is in let told = drained_lost a r act own.1 lost in record { term = told.0; reply = told.1; asks = own.0 }
lost_step c (events.Take d) r act is lost = absurd (taken_kept r act (by_own d c (taken_by_reply r) act is).1 lost)
lost_step c (events.Send d a call) r act is lost = absurd (sent_kept r act (by_own d c (sent_by_reply r) act is).1 lost)
lost_step c (events.Write d a) r act is lost = absurd (wrote_kept a r act (by_own d c (written_by_reply a r) act is).1 lost)
lost_step c (events.Tell d) r act is lost = absurd (told_kept r act (by_own d c (told_by_reply r) act is).1 lost)
lost_step c _ r act is lost = absurd (let none : None ≡ Some act = is in cc)

-- ---- the act of such a deed

abbrev pub is_lost_deed : Deed → Bool
is_lost_deed (deeds.Took reply) = false
is_lost_deed (deeds.Read (Ok seen)) = false
is_lost_deed (deeds.Read (Err t)) = true
is_lost_deed (deeds.Intended a (Ok x)) = false
is_lost_deed (deeds.Intended a (Err t)) = true
is_lost_deed (deeds.Recorded a (Ok x)) = false
is_lost_deed (deeds.Recorded a (Err t)) = true
is_lost_deed (deeds.Drained a (Ok x)) = false
is_lost_deed (deeds.Drained a (Err t)) = true
is_lost_deed (deeds.Asked x) = false
is_lost_deed (deeds.Wrote a reply) = false
is_lost_deed (deeds.Told committed) = false

other_deed : (x d : Deed) (b : Bool) → is_lost_deed x ≡ b → Some x ≡ Some d → is_lost_deed d ≡ true → b ≡ true
other_deed x d b quiet is lost = let same : x ≡ d = cc in sym quiet ∙ ap (λ (y : Deed). is_lost_deed y) same ∙ lost

asked_deed : (o : Option Asked) (d : Deed) → deed_if_asked o ≡ Some d → is_lost_deed d ≡ true → false ≡ true
asked_deed None d is lost = absurd (let none : None ≡ Some d = is in cc)
asked_deed (Some x) d is lost = other_deed (deeds.Asked x) d false refl is lost

act_lost : (post : List Message) (u : ℕ) (act : Act) (d : Deed) → deed_of post u act ≡ Some d → is_lost_deed d ≡ true → is_lost_act act ≡ true
act_lost post u (acts.Took reply) d is lost = other_deed (deeds.Took reply) d false refl is lost
act_lost post u (acts.Read (Ok seen)) d is lost = other_deed (deeds.Read (Ok seen)) d false refl is lost
act_lost post u (acts.Read (Err t)) d is lost = refl
act_lost post u (acts.Intended a (Ok x)) d is lost = other_deed (deeds.Intended a (Ok x)) d false refl is lost
act_lost post u (acts.Intended a (Err t)) d is lost = refl
act_lost post u (acts.Recorded a (Ok x)) d is lost = other_deed (deeds.Recorded a (Ok x)) d false refl is lost
act_lost post u (acts.Recorded a (Err t)) d is lost = refl
act_lost post u (acts.Drained a (Ok x)) d is lost = other_deed (deeds.Drained a (Ok x)) d false refl is lost
act_lost post u (acts.Drained a (Err t)) d is lost = refl
act_lost post u (acts.Sent k) d is lost = asked_deed (numbered post k >>= (λ m. asked_by post k m m.content)) d is lost
act_lost post u (acts.Wrote a reply) d is lost = other_deed (deeds.Wrote a (written_in u reply)) d false refl is lost
act_lost post u (acts.Told committed) d is lost = other_deed (deeds.Told committed) d false refl is lost

more : (b c : Bool) → c ≡ true → (b || c) ≡ true
more true c h = refl
more false c h = h

now : (b c : Bool) → b ≡ true → (b || c) ≡ true
now true c h = refl
now false c h = absurd (false≢true h)

any_lost : (post : List Message) (u : ℕ) (done : List Act) (n : ℕ) (d : Deed) → slice_get (filter_map (deed_of post u) done) n ≡ Some d → is_lost_deed d ≡ true
    → list_any is_lost_act done ≡ true
any_lost post u [] n d h lost = absurd (let none : None ≡ Some d = h in cc)
any_lost post u (act ∷ done) n d h lost = of_deed (deed_of post u act) n refl h (λ k at. any_lost post u done k d at lost)
  where
    of_deed : (o : Option Deed) (k : ℕ) → deed_of post u act ≡ o → slice_get (cons_option o (filter_map (deed_of post u) done)) k ≡ Some d
        → ((i : ℕ) → slice_get (filter_map (deed_of post u) done) i ≡ Some d → list_any is_lost_act done ≡ true)
        → (is_lost_act act || list_any is_lost_act done) ≡ true
    of_deed None k is at rest = more (is_lost_act act) (list_any is_lost_act done) (rest k at)
    of_deed (Some x) zero is at rest = now (is_lost_act act) (list_any is_lost_act done) (act_lost post u act d (is ∙ at) lost)
    of_deed (Some x) (suc i) is at rest = more (is_lost_act act) (list_any is_lost_act done) (rest i at)

-- ---- who keeps the lock has no such step

same_number : (m n : ℕ) → (m == n) ≡ true → m ≡ n
same_number m n h = grind (arith, nat_tests)

by_termed : (o : Option ℕ) (f : ℕ → Reply) (t : ℕ) → by_term o replies.Ok f ≡ replies.Lost t → (v : ℕ) × (o ≡ Some v)
by_termed None f t h = absurd (let wrong : replies.Ok ≡ replies.Lost t = h in cc)
by_termed (Some v) f t h = (v, refl)

-- who is told so has a term
lost_termed : (config : Config) (w : World) (c : ℕ) (e : Event) (t : ℕ) → asks_topology c e ≡ true → answer config w e ≡ replies.Lost t → (v : ℕ) × (term_of w c ≡ Some v)
lost_termed config w c (events.Read d) t own h =
    subst (λ (n : ℕ). (v : ℕ) × (term_of w n ≡ Some v)) (same_number d c own) (by_termed (term_of w d) (read_reply w.topo) t h)
lost_termed config w c (events.Intend d a) t own h =
    subst (λ (n : ℕ). (v : ℕ) × (term_of w n ≡ Some v)) (same_number d c own) (by_termed (term_of w d) (λ x. topo_reply (answer_intend w.topo x a)) t h)
lost_termed config w c (events.Record d a) t own h =
    subst (λ (n : ℕ). (v : ℕ) × (term_of w n ≡ Some v)) (same_number d c own) (by_termed (term_of w d) (λ x. topo_reply (answer_record w.topo x)) t h)
lost_termed config w c (events.Drain d a) t own h =
    subst (λ (n : ℕ). (v : ℕ) × (term_of w n ≡ Some v)) (same_number d c own) (by_termed (term_of w d) (λ x. topo_reply (answer_drain w.topo x)) t h)
lost_termed config w c _ t own h = absurd (false≢true own)

pub took_ok : (r : Result ℕ LockTaken) (u : ℕ) → replies.Term u ≡ taken_reply r → r ≡ Ok u
took_ok (Ok t) u h = let same : u ≡ t = cc in ap (λ (n : ℕ). Ok n) (sym same)
took_ok (Err held) u h = absurd (let wrong : replies.Term u ≡ replies.Taken held.term held.actor = h in cc)

pub untermed : (o : Option ℕ) (v : ℕ) → o ≡ None → o ≡ Some v → ⊥
untermed o v none some = let wrong : None ≡ Some v = sym none ∙ some in cc

-- no step before step j tells the command that it has lost the lock, which it keeps up to step j
pub never_lost : (config : Config) (ss : List Step) (c u i j k : ℕ) (s : Step) → IsRun config ss → IsKept ss c u i j → k < j → slice_get ss k ≡ Some s
    → IsLostStep c s.event s.reply → ⊥
never_lost config ss c u i j k s run keeps less here lost = of_order (nat_lt i k) (nat_lt k i) refl refl
  where
    before : k < i → ⊥
    before earlier =
        let w : World = world_at config ss k in
        let step = step_along config (opening config) ss k s run here in
        let termed = lost_termed config w c s.event lost.term lost.asks (sym step.answered ∙ lost.reply) in
        let later : TermIs (world_at config ss i) c termed.0 =
        term_later config ss c termed.0 k i run (let lt = earlier in omega (arith, lt)) (term_numbered w c termed.0 termed.1) in
        let takes = step_along config (opening config) ss i _ run keeps.taken in
        let took = takes_term config (world_at config ss i) c u takes.met (took_ok (answer_take (world_at config ss i).topo) u takes.answered) in
        untermed (term_in (numbered (world_at config ss i).commands c)) termed.0 took.before later

    behind : i < k → ⊥
    behind later =
        (kept.kept_lock_is_held config ss run c u i j keeps).unlost k lost.term s.event later less lost.asks
        (here ∙ ap (λ (v : Reply). let y : Step = record { event = s.event; reply = v } in Some y) lost.reply)

    as_it_takes : k ≡ i → ⊥
    as_it_takes same =
        let takes : Step = record { event = events.Take c; reply = replies.Term u } in
        let one : s ≡ takes =
        (let both : Some s ≡ Some takes = sym here ∙ ap (λ (n : ℕ). slice_get ss n) same ∙ keeps.taken in cc) in
        false≢true (ap (λ (y : Step). asks_topology c y.event) (sym one) ∙ lost.asks)

    of_order : (b d : Bool) → nat_lt i k ≡ b → nat_lt k i ≡ d → ⊥
    of_order true d e f = behind (grind (arith, nat_tests))
    of_order false true e f = before (grind (arith, nat_tests))
    of_order false false e f = as_it_takes (grind (arith, nat_tests))

-- so no deed of it shows that
pub no_lost_deed : (config : Config) (ss : List Step) (c u i j : ℕ) (d : Deed) → IsRun config ss → IsKept ss c u i j → IsIn (span_of (world_at config ss j) c) d
    → is_lost_deed d ≡ true → ⊥
no_lost_deed config ss c u i j d run keeps is lost = of_state (numbered (world_at config ss j).commands c) refl (place_in (span_of (world_at config ss j) c) d is)
  where
    of_state : (o : Option CommandState) → numbered (world_at config ss j).commands c ≡ o → (n : ℕ) × (slice_get (span_at (world_at config ss j).post o) n ≡ Some d) → ⊥
    of_state None here at = let none : None ≡ Some d = at.1 in cc
    of_state (Some s) here at =
        let any = any_lost (world_at config ss j).post (term_wrote s.wrote) s.acts at.0 d at.1 lost in
        let found : ActStep c is_lost_act ss j =
        act_step c is_lost_act ss j (ap (λ (l : List Act). list_any is_lost_act l) (sym (acts_so_far config ss j c s run here)) ∙ any) in
        never_lost config ss c u i j found.place found.step run keeps found.earlier found.here
        (lost_step c found.step.event found.step.reply found.act found.did found.passes)

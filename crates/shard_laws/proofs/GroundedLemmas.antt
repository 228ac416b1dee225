-- That tablets are promoted on grounds.
use Rattle.std.proofs.Common.{◌≡◌, ◌⊎◌, inl, inr, ◌<◌, ℕ, zero, suc, Bool, true, false, ◌&&◌, ◌||◌, ◌==◌, refl, ap, sym, subst, ◌∙◌, arith, cond, List, [], ◌∷◌, Option, Some, None, unwrap_or}
use Rattle.std.proofs.lemmas.Bool.{false≢true}
use Rattle.std.proofs.lemmas.Bool.Decides.{nat_tests}
use Rattle.std.specs.List.{slice_get, find, list_any}
use Rattle.shard_base.specs.Options.{◌>>=◌, only_if}
use Rattle.shard_names.specs.declared.alias.Alias.{Alias}
use Rattle.shard_names.specs.Tablets.{tablet_of, is_declared}
use Rattle.shard_names.proofs.TabletLemmas.{both_left, both_right}
use Rattle.durability.specs.Policies.{rules_of}
use Rattle.gtid_sets.specs.declared.entry.Entry.{Entry}
use Rattle.gtid_sets.specs.declared.held.Held.{Held}
use Rattle.gtid_sets.specs.Position.{Position, count}
use Rattle.gtid_sets.specs.StoredPosition.{position_eq}
use Rattle.gtid_sets.proofs.PositionLemmas.{position_eq-Decides}
use Rattle.gtid_sets.specs.Winner.{winner}
use Rattle.topo_lock.specs.declared.intent.Intent.{Intent}
use Rattle.shard_calls.specs.declared.call.Call.{Call}
use Rattle.shard_calls.specs.declared.call.Call.TheVariants as calls
use Rattle.shard_calls.specs.declared.event.Event.{Event}
use Rattle.shard_calls.specs.declared.event.Event.TheVariants as events
use Rattle.shard_calls.specs.declared.event.Reply.{Reply}
use Rattle.shard_calls.specs.declared.event.Reply.TheVariants as replies
use Rattle.shard_calls.specs.declared.event.Step.{Step}
use Rattle.shard_calls.specs.declared.post.Content.{Content}
use Rattle.shard_calls.specs.declared.post.Content.TheVariants as contents
use Rattle.shard_calls.specs.declared.post.Message.{Message}
use Rattle.shard_calls.specs.declared.stand.Stand.{Stand}
use Rattle.shard_calls.specs.declared.stand.Stand.TheVariants as stands
use Rattle.shard_calls.specs.declared.state.CommandState.{CommandState}
use Rattle.shard_calls.specs.Outcomes.{Sending}
use Rattle.shard_calls.specs.World.{Config, IsConfig, World, opening, numbered, next_message, open_command, term_in, term_of}
use Rattle.shard_calls.specs.Evidence.{intends, is_first}
use Rattle.shard_calls.specs.Grounds.{asks_demote, is_asked, first_outcome, if_demoted, if_answered, demoted_at, last_before, is_of_term, passes_held, gave_up, stopped_among, has_stopped, revokes_all, stopped_all, has_any_ground, may_lead, calls_at, calls_of}
use Rattle.shard_calls.specs.Locks.{by_term}
use Rattle.shard_calls.specs.Deliveries.{may_send, may_ask_in}
use Rattle.shard_calls.specs.Messages.{needed, may_feed, feed_of, offered_by}
use Rattle.shard_calls.specs.Promotions.{world_at, IsPromotion}
use Rattle.shard_calls.specs.RunLaws.{OfEveryShard}
use Rattle.shard_calls.specs.Table.{answer, IsStep, IsRun}
use Rattle.shard_calls.proofs.PostLemmas.{Sent, Asked, Replied, Acked, Offered, PostCases, post_cases}
use Rattle.shard_calls.proofs.RunLemmas.{step_along, RowComes, promotion_comes}
use Rattle.shard_laws.specs.TightMoves.{IsPosted}
use Rattle.shard_laws.specs.Grounded.{AsksToPromote, IsFirst, AreRevoked, StandsOn, NothingBefore, PlaceGivenUp, AllRevoked, IsGroundedAt, AsksNobodyToLeave, WasAskedFor, PromotesOnGrounds}
use Rattle.shard_laws.proofs.HeardLemmas.{bind_some, or_cases, held_passes}
use Rattle.shard_laws.proofs.LeaderLemmas.{emergency_is_revoked, run_is_trace}
use Rattle.shard_laws.proofs.CommandLemmas.{NextIs, AtEnd, BySteps, next_is}

-- ---- the ground of a call

revoked_by : (config : Config) (ss : List Step) (i u : ℕ) (p : Position) (o : Option CommandState) → IsConfig config → IsRun config ss
    → stopped_all (rules_of config.policy) config.tablets (calls_at (world_at config ss i) o) u p ≡ true → AreRevoked config ss i u
revoked_by config ss i u p None is run h = emergency_is_revoked (rules_of config.policy) config (world_at config ss) is (run_is_trace config ss run) i u [] p h
revoked_by config ss i u p (Some s) is run h = emergency_is_revoked (rules_of config.policy) config (world_at config ss) is (run_is_trace config ss run) i u s.acts p h

is_zero : (n : ℕ) → (n == 0) ≡ true → n ≡ 0
is_zero n h = grind (arith, nat_tests)

same_number : (m n : ℕ) → (m == n) ≡ true → m ≡ n
same_number m n h = grind (arith, nat_tests)

on_place : (config : Config) (ss : List Step) (i c u : ℕ) (p : Position) (o : Option Intent) → last_before (world_at config ss i).topo u ≡ o
    → gave_up (calls_of (world_at config ss i) c) u p o ≡ true → StandsOn config ss i c u p
on_place config ss i c u p None last h = absurd (false≢true h)
on_place config ss i c u p (Some x) last h =
    let held = held_passes (is_of_term x.term p) (demoted_at (calls_of (world_at config ss i) c) u x.alias) h in
    PlaceGivenUp x held.0 last held.1 (same_number held.0.newest x.term (both_left (held.0.newest == x.term) (position_eq p held.0.position) held.2))
    ((position_eq-Decides p held.0.position).0 (both_right (held.0.newest == x.term) (position_eq p held.0.position) held.2))

on_revoked : (config : Config) (ss : List Step) (i c u : ℕ) (p : Position) → IsConfig config → IsRun config ss
    → stopped_all (rules_of config.policy) config.tablets (calls_of (world_at config ss i) c) u p ≡ true → StandsOn config ss i c u p
on_revoked config ss i c u p is run h =
    let list : List Sending = calls_of (world_at config ss i) c in
    let wins = both_right (revokes_all (rules_of config.policy) config.tablets (has_stopped list u))
    (passes_held (λ x. position_eq p x.position) (winner (stopped_among config.tablets list u))) h in
    let held = held_passes (λ x. position_eq p x.position) (winner (stopped_among config.tablets list u)) wins in
    AllRevoked held.0 (revoked_by config ss i u p (numbered (world_at config ss i).commands c) is run h) held.1 ((position_eq-Decides p held.0.position).0 held.2)

stands_on : (config : Config) (ss : List Step) (i c u : ℕ) (p : Position) → IsConfig config → IsRun config ss
    → has_any_ground (rules_of config.policy) config.tablets (world_at config ss i).topo (calls_of (world_at config ss i) c) u p ≡ true → StandsOn config ss i c u p
stands_on config ss i c u p is run h = of_cases (or_cases (first || given) stopped h)
  where
    first : Bool
    first = is_first (world_at config ss i).topo u && (count p == 0)

    given : Bool
    given = gave_up (calls_of (world_at config ss i) c) u p (last_before (world_at config ss i).topo u)

    stopped : Bool
    stopped = stopped_all (rules_of config.policy) config.tablets (calls_of (world_at config ss i) c) u p

    of_two : (first ≡ true) ⊎ (given ≡ true) → StandsOn config ss i c u p
    of_two (inl k) = NothingBefore (both_left (is_first (world_at config ss i).topo u) (count p == 0) k) (is_zero (count p) (both_right (is_first (world_at config ss i).topo u) (count p == 0) k))
    of_two (inr k) = on_place config ss i c u p (last_before (world_at config ss i).topo u) refl k

    of_cases : ((first || given) ≡ true) ⊎ (stopped ≡ true) → StandsOn config ss i c u p
    of_cases (inl k) = of_two (or_cases first given k)
    of_cases (inr k) = on_revoked config ss i c u p is run k

-- what the row of the call asks for
by_evidence : (config : Config) (ss : List Step) (i c u : ℕ) (a : Alias) (p : Position) → IsConfig config → IsRun config ss → term_of (world_at config ss i) c ≡ Some u
    → may_ask_in config (world_at config ss i) c a (calls.Promote p) u ≡ true → IsGroundedAt config ss i c a p
by_evidence config ss i c u a p is run term h =
    let w : World = world_at config ss i in
    let leads : Bool = may_lead (rules_of config.policy) (tablet_of config.tablets a) in
    let ground : Bool = has_any_ground (rules_of config.policy) config.tablets w.topo (calls_of w c) u p in
    let front : (leads && intends w.topo u a) ≡ true = both_left (leads && intends w.topo u a) ground h in
    record {
      term = u;
      took = term;
      leads = both_left leads (intends w.topo u a) front;
      intended = both_right leads (intends w.topo u a) front;
      ground = stands_on config ss i c u p is run (both_right (leads && intends w.topo u a) ground h);
    }

of_term : (config : Config) (ss : List Step) (i c : ℕ) (a : Alias) (p : Position) (t : Option ℕ) → IsConfig config → IsRun config ss → term_of (world_at config ss i) c ≡ t
    → by_term t false (may_ask_in config (world_at config ss i) c a (calls.Promote p)) ≡ true → IsGroundedAt config ss i c a p
of_term config ss i c a p None is run term h = absurd (false≢true h)
of_term config ss i c a p (Some u) is run term h = by_evidence config ss i c u a p is run term h

of_open : (config : Config) (ss : List Step) (i c : ℕ) (a : Alias) (p : Position) (o : Option CommandState) → IsConfig config → IsRun config ss
    → open_command (world_at config ss i) c ≡ o → may_send config (world_at config ss i) c a (calls.Promote p) o ≡ true → IsGroundedAt config ss i c a p
of_open config ss i c a p None is run begun h = absurd (false≢true h)
of_open config ss i c a p (Some s) is run begun h = of_term config ss i c a p s.term is run (ap (λ (o : Option CommandState). term_in o) begun) h

grounded_at : (config : Config) (ss : List Step) → IsConfig config → IsRun config ss → (i c : ℕ) (a : Alias) (p : Position) → AsksToPromote ss i c a p → IsGroundedAt config ss i c a p
grounded_at config ss is run i c a p asks =
    let w : World = world_at config ss i in
    let step : IsStep config w (record { event = events.Send c a (calls.Promote p); reply = replies.Message asks.0 }) = step_along config (opening config) ss i _ run asks.1 in
    of_open config ss i c a p (open_command w c) is run refl (both_right (is_declared config.tablets a) (may_send config w c a (calls.Promote p) (open_command w c)) step.met)

-- ---- who asked nobody to leave

found_any : (q p : Sending → Bool) (xs : List Sending) (x : Sending) → ((y : Sending) → q y ≡ true → p y ≡ true) → find q xs ≡ Some x → list_any p xs ≡ true
found_any q p [] x each h = absurd (let none : None ≡ Some x = h in cc)
found_any q p (y ∷ xs) x each h = of_test (q y) refl h (λ k. found_any q p xs x each k)
  where
    more : (b : Bool) → list_any p xs ≡ true → (b || list_any p xs) ≡ true
    more true k = refl
    more false k = k

    of_test : (b : Bool) → q y ≡ b → cond b (Some y) (find q xs) ≡ Some x → (find q xs ≡ Some x → list_any p xs ≡ true) → (p y || list_any p xs) ≡ true
    of_test true e k rest = ap (λ (b : Bool). b || list_any p xs) (each y e)
    of_test false e k rest = more (p y) (rest k)

-- a tablet that answered a Demote was asked for it
was_asked : (list : List Sending) (u : ℕ) (a : Alias) (held : Held) → demoted_at list u a ≡ Some held → list_any (λ s. asks_demote s.call) list ≡ true
was_asked list u a held h =
    let came = bind_some (first_outcome list u a asks_demote) (if_answered (if_demoted a)) held h in
    let found = bind_some (find (is_asked u a asks_demote) list) (λ s. s.outcome) came.0 came.1 in
    found_any (is_asked u a asks_demote) (λ s. asks_demote s.call) list found.0 (λ y k. both_right _ (asks_demote y.call) k) found.1

first_or_revoked : (config : Config) (ss : List Step) (i c u : ℕ) (p : Position) → AsksNobodyToLeave (world_at config ss i) c → StandsOn config ss i c u p
    → IsFirst config ss i u ⊎ AreRevoked config ss i u
first_or_revoked config ss i c u p nobody (NothingBefore first none) = inl first
first_or_revoked config ss i c u p nobody (PlaceGivenUp intent held last demoted newest position) =
    absurd (false≢true (sym nobody ∙ was_asked (calls_of (world_at config ss i) c) u intent.alias held demoted))
first_or_revoked config ss i c u p nobody (AllRevoked held revoked wins position) = inr revoked

same_term : (t u : ℕ) → Some t ≡ Some u → t ≡ u
same_term t u h = cc

in_emergency : (config : Config) (ss : List Step) → IsConfig config → IsRun config ss → (i c u : ℕ) (a : Alias) (p : Position) → AsksToPromote ss i c a p
    → term_of (world_at config ss i) c ≡ Some u → AsksNobodyToLeave (world_at config ss i) c → IsFirst config ss i u ⊎ AreRevoked config ss i u
in_emergency config ss is run i c u a p asks took nobody =
    let known = grounded_at config ss is run i c a p asks in
    subst (λ (t : ℕ). IsFirst config ss i t ⊎ AreRevoked config ss i t) (same_term known.term u (sym known.took ∙ took))
    (first_or_revoked config ss i c known.term p nobody known.ground)

-- ---- the step that asked

record AskedAt (config : Config) (ss : List Step) (i u : ℕ) (a : Alias) (p : Position) : Type 0 where
  place : ℕ
  earlier : place < i
  command : ℕ
  asks : AsksToPromote ss place command a p
  term : unwrap_or (term_of (world_at config ss place) command) 0 ≡ u

-- this event asks the tablet
record Asking (config : Config) (w : World) (e : Event) (u : ℕ) (a : Alias) (p : Position) : Type 0 where
  command : ℕ
  event : e ≡ events.Send command a (calls.Promote p)
  term : unwrap_or (term_of w command) 0 ≡ u

same_ask : (c d u t : ℕ) (a b : Alias) (f g : Call) → contents.Asks c u a f ≡ contents.Asks d t b g → (u ≡ t) × (a ≡ b) × (f ≡ g)
same_ask c d u t a b f g h = (cc, cc, cc)

offers_no_call : (w : World) (r : Alias) (at : Stand) (content : Content) (d u : ℕ) (a : Alias) (call : Call) → offered_by w r at ≡ Some content
    → content ≡ contents.Asks d u a call → ⊥
offers_no_call w r stands.Down content d u a call h is = let none : None ≡ Some content = h in cc
offers_no_call w r stands.Stopped content d u a call h is = let none : None ≡ Some content = h in cc
offers_no_call w r (stands.Primary t) content d u a call h is = let none : None ≡ Some content = h in cc
offers_no_call w r (stands.Demoted t by) content d u a call h is = let none : None ≡ Some content = h in cc
offers_no_call w r (stands.Feeder t) content d u a call h is = let none : None ≡ Some content = h in cc
offers_no_call w r (stands.Replica s t n) content d u a call h is =
    let one = bind_some (only_if (may_feed w s r t n) n) (λ m. needed (w.tablets s) (w.tablets r) m >>= (λ x. Some (feed_of s r t n x))) content h in
    let two = bind_some (needed (w.tablets s) (w.tablets r) one.0) (λ x. Some (feed_of s r t n x)) content one.2 in
    let same : feed_of s r t n two.0 ≡ content = (let some : Some (feed_of s r t n two.0) ≡ Some content = two.2 in cc) in
    let wrong : contents.Feeds s r t n two.0.index two.0.entry ≡ contents.Asks d u a call = same ∙ is in cc

asking : (config : Config) (w : World) (e : Event) (content : Content) (d u : ℕ) (a : Alias) (p : Position) → Sent config w e content
    → content ≡ contents.Asks d u a (calls.Promote p) → Asking config w e u a p
asking config w _ _ d u a p (Asked c b call) is =
    let same = same_ask c d (unwrap_or (term_of w c) 0) u b a call (calls.Promote p) is in
    record { command = c; event = ap (λ (x : Alias). events.Send c x call) same.1 ∙ ap (λ (f : Call). events.Send c a f) same.2; term = same.0 }
asking config w _ _ d u a p (Replied k c v b call me m here carries found) is = absurd (cc)
asking config w _ _ d u a p (Acked k term before index source to x m here carries taken) is = absurd (cc)
asking config w _ _ d u a p (Offered r content offered) is = absurd (offers_no_call w r (w.tablets r).stand content d u a (calls.Promote p) offered is)

asked_now : (config : Config) (ss : List Step) (i u : ℕ) (a : Alias) (p : Position) (e : Step) → slice_get ss i ≡ Some e → IsStep config (world_at config ss i) e
    → Asking config (world_at config ss i) e.event u a p → AskedAt config ss (suc i) u a p
asked_now config ss i u a p e here step r =
    record { place = i; earlier = omega arith; command = r.command; asks = (next_message (world_at config ss i), here ∙ ap (λ (y : Step). Some y) (steps (world_at config ss i) e step r)); term = r.term }
  where
    steps : (w : World) (s : Step) → IsStep config w s → (q : Asking config w s.event u a p)
        → s ≡ record { event = events.Send q.command a (calls.Promote p); reply = replies.Message (next_message w) }
    steps w s met q =
        ap (λ (v : Event). let y : Step = record { event = v; reply = s.reply } in y) q.event
        ∙ ap (λ (v : Reply). let y : Step = record { event = events.Send q.command a (calls.Promote p); reply = v } in y) (met.answered ∙ ap (λ (v : Event). answer config w v) q.event)

later_ask : (config : Config) (ss : List Step) (i u : ℕ) (a : Alias) (p : Position) → AskedAt config ss i u a p → AskedAt config ss (suc i) u a p
later_ask config ss i u a p h = record { place = h.place; earlier = (let less = h.earlier in omega (arith, less)); command = h.command; asks = h.asks; term = h.term }

asks_sent : (config : Config) (ss : List Step) (i n d u : ℕ) (a : Alias) (p : Position) → IsRun config ss
    → IsPosted (world_at config ss i).post n (contents.Asks d u a (calls.Promote p)) → AskedAt config ss i u a p
asks_sent config ss zero n d u a p run posted = absurd (nothing n posted.at)
  where
    nothing : (j : ℕ) → numbered [] j ≡ Some posted.message → ⊥
    nothing zero h = let none : None ≡ Some posted.message = h in cc
    nothing (suc j) h = let none : None ≡ Some posted.message = h in cc
asks_sent config ss (suc i) n d u a p run posted = of_next (world_at config ss (suc i)) (next_is config ss i run) posted (λ h. asks_sent config ss i n d u a p run h)
  where
    of_cases : (e : Step) (m : Message) → slice_get ss i ≡ Some e → IsStep config (world_at config ss i) e → m.content ≡ contents.Asks d u a (calls.Promote p)
        → PostCases config (world_at config ss i) e.event n m
        → (IsPosted (world_at config ss i).post n (contents.Asks d u a (calls.Promote p)) → AskedAt config ss i u a p) → AskedAt config ss (suc i) u a p
    of_cases e m here step carries (inl old) rest = later_ask config ss i u a p (rest (record { message = old.0; at = old.1; carries = sym old.2 ∙ carries }))
    of_cases e m here step carries (inr sent) rest = asked_now config ss i u a p e here step (asking config (world_at config ss i) e.event m.content d u a p sent carries)

    of_next : (v : World) → NextIs config ss i v → IsPosted v.post n (contents.Asks d u a (calls.Promote p))
        → (IsPosted (world_at config ss i).post n (contents.Asks d u a (calls.Promote p)) → AskedAt config ss i u a p) → AskedAt config ss (suc i) u a p
    of_next v (AtEnd is) q rest =
        later_ask config ss i u a p (rest (subst (λ (w : World). IsPosted w.post n (contents.Asks d u a (calls.Promote p))) (sym is) q))
    of_next v (BySteps e here step is) q rest =
        let back = subst (λ (w : World). IsPosted w.post n (contents.Asks d u a (calls.Promote p))) (sym is) q in
        of_cases e back.message here step back.carries (post_cases config (world_at config ss i) e.event n back.message back.at) rest

was_asked_for : (config : Config) (ss : List Step) → IsConfig config → IsRun config ss → (i u : ℕ) (a : Alias) (before : List Entry) → IsPromotion config ss i u a before
    → WasAskedFor config ss i u a
was_asked_for config ss is run i u a before promotion =
    let comes : RowComes (world_at config ss i) a u = promotion_comes config ss i u a before run promotion in
    let asked : AskedAt config ss i u a comes.position =
    asks_sent config ss i comes.number comes.command u a comes.position run (record { message = comes.message; at = comes.at; carries = comes.carries }) in
    let known : IsGroundedAt config ss asked.place asked.command a comes.position = grounded_at config ss is run asked.place asked.command a comes.position asked.asks in
    let term : known.term ≡ u = ap (λ (o : Option ℕ). unwrap_or o 0) (sym known.took) ∙ asked.term in
    record {
      step = asked.place;
      before = asked.earlier;
      command = asked.command;
      position = comes.position;
      asks = asked.asks;
      took = known.took ∙ ap (λ (t : ℕ). Some t) term;
      covered = comes.covered;
    }

pub promotes_on_grounds : OfEveryShard PromotesOnGrounds
promotes_on_grounds config ss is run =
    record { grounded = grounded_at config ss is run; emergency = in_emergency config ss is run; promoted = was_asked_for config ss is run }

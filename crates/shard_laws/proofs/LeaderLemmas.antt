-- Leader completeness: of every trace, and so of every run.
use Rattle.std.proofs.Common.{◌≡◌, inl, inr, ℕ, zero, suc, ◌+◌, ◌≤◌, Bool, true, refl, ap, sym, subst, ◌∙◌, arith, List, [], ◌∷◌, ◌++◌, take, Option, Some, None, length, option_map}
use Rattle.std.proofs.lemmas.List.Quantifiers.{position-Some}
use Rattle.std.proofs.lemmas.Option.{get_or_from_slice_get}
use Rattle.std.specs.List.{slice_get, position, Contains, slice_index_or}
use Rattle.shard_names.specs.declared.alias.Alias.{Alias}
use Rattle.shard_names.specs.declared.tablet.Tablet.{Tablet}
use Rattle.shard_names.specs.Tablets.{tablet_of}
use Rattle.durability.specs.Rules.{Rules}
use Rattle.durability.specs.Policies.{rules_of}
use Rattle.durability.specs.Sets.{Accepted}
use Rattle.durability.proofs.CountingLemmas.{accepted_of}
use Rattle.shard_names.proofs.TabletLemmas.{both_left, both_right}
use Rattle.replication.specs.Told.{holders}
use Rattle.gtid_sets.specs.declared.entry.Entry.{Entry}
use Rattle.gtid_sets.specs.declared.entry.Kind.{Kind}
use Rattle.gtid_sets.specs.declared.entry.Kind.TheVariants as kinds
use Rattle.topo_lock.specs.Moves.{Stays as TopoStays}
use Rattle.shard_calls.specs.declared.event.Step.{Step}
use Rattle.shard_calls.specs.declared.post.Content.{Content}
use Rattle.shard_calls.specs.declared.post.Message.{Message}
use Rattle.shard_calls.specs.declared.state.CommandState.{CommandState}
use Rattle.shard_calls.specs.declared.group.Group.{Group}
use Rattle.shard_calls.specs.Stands.{is_primary, is_primary_of}
use Rattle.gtid_sets.specs.Logs.{is_row_of, place_of_row}
use Rattle.shard_calls.specs.Tablets.{TabletState, is_told}
use Rattle.shard_calls.specs.World.{Config, IsConfig, World, opening, group_of, numbered}
use Rattle.shard_calls.specs.Messages.{is_told_at}
use Rattle.shard_calls.specs.Table.{after, IsStep, IsRun, world_after}
use Rattle.shard_calls.specs.Promotions.{world_at, IsNewIn, IsPromotion, TellsAt, ToWrite, ToWait, IsTold, IsWriteOf, HoldsTold}
use Rattle.shard_calls.specs.RunLaws.{OfEveryShard}
use Rattle.shard_laws.specs.TightMoves.{IsPosted, WorldMove, Stays, Plainly}
use Rattle.shard_calls.proofs.LogChangeLemmas.{stays, last_is}
use Rattle.shard_calls.proofs.ClosureLemmas.{below_length}
use Rattle.shard_calls.proofs.StepLemmas.{alias_found}
use Rattle.shard_calls.proofs.GroupLemmas.{group_at}
use Rattle.shard_calls.proofs.WroteLemmas.{wrote_in, AllWroteFits}
use Rattle.shard_calls.proofs.RunLemmas.{step_along, truthful_at, next_world, row_kind, told_by_tell, told_by_wait}
use Rattle.shard_calls.proofs.AcceptLemmas.{passed, row_told}
use Rattle.shard_laws.proofs.TightLemmas.{step_moves}
use Rattle.shard_laws.proofs.TraceLemmas.{Trace, LogStep, log_stepped, SaysAll, SaysFor, is_answered, votes_answered, logs_later, promise_later}
use Rattle.shard_laws.specs.Traces.{IsTrace, OfEveryTrace, RowsAreClosed, AcksSayTruth, Leaves, ByStop, ByDemote, VotesAreAnswered, EmergencyIsRevoked, IsOfTerm, IsToldIn, ToldIsVoted, Promotes, LeaderIsComplete}
use Rattle.shard_calls.specs.declared.answer.Answer.{Answer}
use Rattle.shard_calls.specs.declared.post.Settled.TheVariants as settleds
use Rattle.shard_calls.specs.Outcomes.{settled_in}
use Rattle.shard_calls.specs.Laws.{IsSound}
use Rattle.shard_calls.specs.Tablets.{opened}
use Rattle.gtid_sets.specs.Position.{Position}
use Rattle.topo_lock.specs.Topology.{Topology, fresh}
use Rattle.topo_lock.specs.Moves.{TopoMoves, Rests}
use Rattle.shard_calls.proofs.ClosureLemmas.{Holds, Says, none_noted}
use Rattle.shard_laws.proofs.MovedLemmas.{IsKnownWorld, known_moved}
use Rattle.shard_calls.specs.Outcomes.{sendings}
use Rattle.shard_calls.specs.Grounds.{has_stopped, stopped_at, revokes_all}
use Rattle.shard_laws.proofs.HeardLemmas.{stopped_heard}
use Rattle.shard_laws.proofs.GroundLemmas.{all_revoked, held_some, story_of, one_intent, row_promoted, promotion_ground}
use Rattle.shard_laws.proofs.VoteLemmas.{told_votes, told_eligible, told_is_voted}
use Rattle.shard_laws.proofs.LeaderCore.{Facts, leader_holds}

-- ---- of every trace

opening_known : (rules : Rules) (config : Config) (at : ℕ → World) → IsTrace rules config at → IsKnownWorld config (at 0)
opening_known rules config at trace = record {
  sound = record {
    tablets = λ a. subst (λ (s : TabletState). IsSound s) (sym (trace.blank a)) blank_sound;
    topo = subst (λ (t : Topology). TopoMoves fresh t) (sym trace.unused) Rests;
    post = λ n m here. absurd (nothing n m here);
    rows = λ a n e u c here is. absurd (no_entry a n e here);
  };
  unique = record {
    home = λ a n e here. absurd (no_entry a n e here);
    apart = λ a i j e f here there same. absurd (no_entry a i e here);
  };
  closed = record {
    post = λ n m here. absurd (nothing n m here);
    tablets = λ a. subst (λ (s : TabletState). Holds (at 0) a s) (sym (trace.blank a)) (record { stand = tt; noted = λ r. none_noted (at 0) a r });
    closed = λ a c n k t row here is there. absurd (no_entry a n row here);
  };
  telling = record {
    answers = λ n m c asked from says here is. absurd (nothing n m here);
    settled = λ k n is. absurd (unsettled k n is);
  };
}
  where
    blank_sound : IsSound opened
    blank_sound = record { seen = omega arith; stands = tt; rows = omega arith; own_row = tt; demoted = tt; waits = tt }

    no_entry : (a : Alias) (n : ℕ) (e : Entry) → slice_get ((at 0).tablets a).log n ≡ Some e → ⊥
    no_entry a n e here = let none : None ≡ Some e = ap (λ (s : TabletState). slice_get s.log n) (sym (trace.blank a)) ∙ here in cc

    none_at : (n : ℕ) → numbered (at 0).post n ≡ None
    none_at zero = refl
    none_at (suc n) = ap (λ (p : List Message). slice_get p n) trace.unsent

    nothing : (n : ℕ) (m : Message) → numbered (at 0).post n ≡ Some m → ⊥
    nothing n m here = let none : None ≡ Some m = sym (none_at n) ∙ here in cc

    unsettled : (k n : ℕ) → settled_in (numbered (at 0).post k) ≡ Some (settleds.Answered n) → ⊥
    unsettled k n is = let none : None ≡ Some (settleds.Answered n) = ap (λ (o : Option Message). settled_in o) (sym (none_at k)) ∙ is in cc

known_at : (rules : Rules) (config : Config) (at : ℕ → World) → IsConfig config → IsTrace rules config at → (i : ℕ) → IsKnownWorld config (at i)
known_at rules config at is trace zero = opening_known rules config at trace
known_at rules config at is trace (suc i) = known_moved rules config (at i) (at (suc i)) is (trace.move i) (known_at rules config at is trace i)

-- a trace with all that is known of its worlds
pub known_trace : (rules : Rules) (config : Config) (at : ℕ → World) → IsConfig config → IsTrace rules config at → Trace rules config at
known_trace rules config at is trace = record {
  is = is;
  blank = trace.blank;
  unsent = λ n content h. nothing n content h;
  move = trace.move;
  sound = λ i. (known_at rules config at is trace i).sound;
  unique = λ i. (known_at rules config at is trace i).unique;
  closed = λ i. (known_at rules config at is trace i).closed;
  telling = λ i. (known_at rules config at is trace i).telling;
}
  where
    nothing : (n : ℕ) (content : Content) → IsPosted (at 0).post n content → ⊥
    nothing zero content h = let none : None ≡ Some h.message = h.at in cc
    nothing (suc n) content h = let none : None ≡ Some h.message = ap (λ (p : List Message). slice_get p n) (sym trace.unsent) ∙ h.at in cc

facts_of : (rules : Rules) (config : Config) (at : ℕ → World) → Trace rules config at → (last : ℕ) → Facts (story_of rules config at last)
facts_of rules config at trace last = record {
  one = λ t c d p q. one_intent (at last) t c d p q;
  rows = λ a n t row c here is. row_promoted rules config at trace last a n t row c here is;
  grounds = λ u c base p. promotion_ground rules config at trace last u c base p;
  told = λ e t told. told_is_voted rules config at trace last e t told;
}

-- a promoted tablet has, before the row of its term, what is told in an earlier term
pub leader_is_complete : OfEveryTrace LeaderIsComplete
leader_is_complete rules config at is trace i j u t c base e promoted told less =
    let known = known_trace rules config at is trace in
    leader_holds (story_of rules config at (suc (i + j))) (facts_of rules config at known (suc (i + j))) u c base e t
    (record { step = i; within = omega arith; row = promoted.row; base_is = promoted.base_is; added = promoted.added; is_row = promoted.is_row })
    (record { step = j; within = omega arith; tells = told }) less

-- what is told is voted for
pub told_is_voted_for : OfEveryTrace ToldIsVoted
told_is_voted_for rules config at is trace i t e tells =
    let known = known_trace rules config at is trace in
    record {
      primary = tells.me;
      found = tells.found;
      eligible = told_eligible rules config at known i t e tells;
      set = holders ((at i).tablets tells.me.alias).acked tells.me.alias tells.index;
      accepted = tells.told;
      voted = λ a in_set. let full = told_votes rules config at known i t e tells a in_set in (full.step, full.earlier, full.vote);
    }

leaves_all : (newest : ℕ) (position : Position) (says : Answer) (u : ℕ) (s t : TabletState) → Leaves newest position says → SaysFor says u s t → SaysAll u s t newest position
leaves_all newest position _ u s t ByStop h = h
leaves_all newest position _ u s t ByDemote h = h

-- a Stopped and a Demoted have what the tablet had while its promise was lower
pub votes_are_answered : OfEveryTrace VotesAreAnswered
votes_are_answered rules config at is trace i n k c d u a call says newest position asked answered leaves =
    let known = known_trace rules config at is trace in
    let came = is_answered rules config at known i n k d c u a call says asked answered in
    let all = leaves_all newest position says u _ _ leaves came.2 in
    let low = came.1 in
    let kept = promise_later rules config at known a (suc came.0) i (omega (arith, low)) in
    let promised = all.promised in
    record {
      front = ((at came.0).tablets a).log;
      part = logs_later rules config at known a came.0 i (omega (arith, low));
      newest_is = all.newest_is;
      position_is = all.position_is;
      has_before = λ j less. votes_answered rules config at known j came.0 u a all.promised less;
      promised = omega (arith, kept, promised);
    }

-- an emergency reparent knows that every older primary is revoked
pub emergency_is_revoked : OfEveryTrace EmergencyIsRevoked
emergency_is_revoked rules config at is trace i u acts p h = record {
  reached = has_stopped (sendings (at i).post acts) u;
  revokes = all_revoked rules config.tablets (has_stopped (sendings (at i).post acts) u)
      (both_left (revokes_all rules config.tablets (has_stopped (sendings (at i).post acts) u)) _ h);
  promised = λ t declared reached j le.
      let known = known_trace rules config at is trace in
      let held = held_some (stopped_at (sendings (at i).post acts) u t.alias) reached in
      let heard = stopped_heard rules config at known i acts u t.alias held.0 held.1 in
      let low = heard.earlier in
      let later = promise_later rules config at known t.alias (suc heard.step) j (omega (arith, low, le)) in
      let promised = heard.says.promised in
      omega (arith, later, promised);
}

-- rows are closed, and acknowledgements say the truth
pub rows_are_closed : OfEveryTrace RowsAreClosed
rows_are_closed rules config at is trace i a c n t row here kind =
    let known = known_at rules config at is trace i in
    let home = (known.sound.rows a n row t c here kind).at_home in
    record { place = home.0; at_home = home.1; first = known.closed.closed a c n home.0 t row here kind home.1 }

pub acks_say_truth : OfEveryTrace AcksSayTruth
acks_say_truth rules config at is trace i n a p t index posted =
    (subst (λ (x : Content). Says (at i) x) posted.carries ((known_at rules config at is trace i).closed.post n posted.message posted.at)).first

-- ---- a run is a trace

rests : (rules : Rules) (config : Config) (w : World) → WorldMove rules config w w
rests rules config w = record {
  tablets = λ a. Plainly Stays;
  topo = TopoStays;
  post = record { sent = λ n content h. inl h; stays = λ n content h. h; settled = λ k n is. inl is };
}

pub past_end : (config : Config) (w : World) (ss : List Step) (i : ℕ) → slice_get ss i ≡ None → world_after config w (take (suc i) ss) ≡ world_after config w (take i ss)
past_end config w [] zero h = refl
past_end config w [] (suc i) h = refl
past_end config w (s ∷ ss) zero h = absurd (let some : Some s ≡ None = h in cc)
past_end config w (s ∷ ss) (suc i) h = past_end config (after config w s.event) ss i h

run_moves : (config : Config) (ss : List Step) (i : ℕ) (o : Option Step) → IsRun config ss → slice_get ss i ≡ o
    → WorldMove (rules_of config.policy) config (world_at config ss i) (world_at config ss (suc i))
run_moves config ss i None run here =
    subst (λ (v : World). WorldMove (rules_of config.policy) config (world_at config ss i) v) (sym (past_end config (opening config) ss i here))
    (rests (rules_of config.policy) config (world_at config ss i))
run_moves config ss i (Some s) run here =
    subst (λ (v : World). WorldMove (rules_of config.policy) config (world_at config ss i) v) (sym (next_world config (opening config) ss i s here))
    (step_moves config (world_at config ss i) s.event (step_along config (opening config) ss i s run here).met)

pub run_is_trace : (config : Config) (ss : List Step) → IsRun config ss → IsTrace (rules_of config.policy) config (world_at config ss)
run_is_trace config ss run = record {
  blank = λ a. refl;
  unsent = refl;
  unused = refl;
  move = λ i. run_moves config ss i (slice_get ss i) run refl;
}

-- ---- what a run promotes and tells

behind_is : (log before rest : List Entry) (e row : Entry) → log ++ e ∷ [] ≡ before ++ row ∷ rest → length log ≤ length before → before ≡ log
behind_is [] [] rest e row split later = refl
behind_is [] (b ∷ before) rest e row split later =
    let tails : [] ≡ before ++ row ∷ rest = (let whole : e ∷ [] ≡ b ∷ (before ++ row ∷ rest) = split in cc) in absurd (no_tail before tails)
  where
    no_tail : (xs : List Entry) → [] ≡ xs ++ row ∷ rest → ⊥
    no_tail [] h = let wrong : [] ≡ row ∷ rest = h in cc
    no_tail (x ∷ xs) h = let wrong : [] ≡ x ∷ (xs ++ row ∷ rest) = h in cc
behind_is (x ∷ log) [] rest e row split later = absurd (omega (arith, later))
behind_is (x ∷ log) (b ∷ before) rest e row split later =
    let tails : log ++ e ∷ [] ≡ before ++ row ∷ rest = (let whole : x ∷ (log ++ e ∷ []) ≡ b ∷ (before ++ row ∷ rest) = split in cc) in
    let heads : x ≡ b = (let whole : x ∷ (log ++ e ∷ []) ≡ b ∷ (before ++ row ∷ rest) = split in cc) in
    ap (λ (y : Entry). y ∷ before) (sym heads) ∙ ap (λ (l : List Entry). x ∷ l) (behind_is log before rest e row tails (omega (arith, later)))

promoted_by : (config : Config) (ss : List Step) (i u : ℕ) (a : Alias) (before : List Entry) → IsRun config ss → IsPromotion config ss i u a before
    → Promotes (world_at config ss) i u a before
promoted_by config ss i u a before run p =
    of_step (log_stepped config.tablets (world_at config ss i).post a _ _ (((run_is_trace config ss run).move i).tablets a))
  where
    next : world_at config ss (suc i) ≡ after config (world_at config ss i) p.step.event
    next = next_world config (opening config) ss i p.step p.here

    new : IsNewIn ((world_at config ss i).tablets a).log ((world_at config ss (suc i)).tablets a).log before p.row
    new = subst (λ (v : World). IsNewIn ((world_at config ss i).tablets a).log (v.tablets a).log before p.row) (sym next) p.new

    of_step : LogStep ((world_at config ss i).tablets a).log ((world_at config ss (suc i)).tablets a).log → Promotes (world_at config ss) i u a before
    of_step (inl same) =
        absurd (stays ((world_at config ss i).tablets a).log before p.row (subst (λ (l : List Entry). IsNewIn ((world_at config ss i).tablets a).log l before p.row) same new))
    of_step (inr more) =
        let split : ((world_at config ss i).tablets a).log ++ more.0 ∷ [] ≡ before ++ p.row ∷ new.rest = sym more.1 ∙ new.split in
        let row : p.row ≡ more.0 = last_is _ before new.rest more.0 p.row split new.later in
        record {
          row = more.0;
          base_is = behind_is _ before new.rest more.0 p.row split new.later;
          added = more.1;
          is_row = ap (λ (e : Entry). e.kind) (sym row) ∙ p.is_row;
        }

pub place_passes : (test : Entry → Bool) (log : List Entry) (index : ℕ) (e : Entry) → option_map (λ (k : ℕ). k + 1) (position test log) ≡ Some index → numbered log index ≡ Some e
    → test e ≡ true
place_passes test log zero e place at = absurd (let none : None ≡ Some e = at in cc)
place_passes test log (suc n) e place at = passes log n at (of_place (position test log) place)
  where
    of_place : (o : Option ℕ) → option_map (λ (k : ℕ). k + 1) o ≡ Some (suc n) → o ≡ Some n
    of_place None h = absurd (let none : None ≡ Some (suc n) = h in cc)
    of_place (Some k) h = let same : k + 1 ≡ suc n = (let some : Some (k + 1) ≡ Some (suc n) = h in cc) in ap (λ (m : ℕ). Some m) (omega (arith, same))

    passes : (es : List Entry) (m : ℕ) → slice_get es m ≡ Some e → position test es ≡ Some m → test e ≡ true
    passes es m here is = ap test (sym (get_or_from_slice_get es m e e here)) ∙ (position-Some test es m e is).1

write_of_term : (k : Kind) (t : ℕ) → IsWriteOf t k → IsOfTerm t k
write_of_term (kinds.Write v client number) t is = is
write_of_term (kinds.Row v a) t is = absurd is
write_of_term kinds.Local t is = absurd is

told_in : (config : Config) (w : World) (me : Tablet) (index : ℕ) (t : ℕ) (a : Alias) (e : Entry) → tablet_of config.tablets a ≡ Some me
    → is_primary_of (w.tablets a).stand t ≡ true → is_told (group_of config) me (w.tablets a) index ≡ true → numbered (w.tablets a).log index ≡ Some e
    → IsOfTerm t e.kind → IsToldIn (rules_of config.policy) config w e t
told_in config w me index t a e found stands told entry of_term = of_own (sym (alias_found config a me found))
  where
    holding : Accepted (rules_of config.policy) config.tablets me (holders (w.tablets a).acked me.alias index)
    holding = accepted_of (rules_of config.policy) config.tablets me _ (both_right (is_primary (w.tablets a).stand) _ told)

    of_own : a ≡ me.alias → IsToldIn (rules_of config.policy) config w e t
    of_own own = record {
      me = me;
      index = index;
      found = subst (λ (b : Alias). tablet_of config.tablets b ≡ Some me) own found;
      stands = subst (λ (b : Alias). is_primary_of (w.tablets b).stand t ≡ true) own stands;
      told = subst (λ (b : Alias). Accepted (rules_of config.policy) config.tablets me (holders (w.tablets b).acked me.alias index)) own holding;
      entry = subst (λ (b : Alias). numbered (w.tablets b).log index ≡ Some e) own entry;
      of_term = of_term;
    }

told_at_step : (config : Config) (w : World) (s : Step) (e : Entry) (t : ℕ) → w.group ≡ group_of config → IsStep config w s → AllWroteFits w → TellsAt config w s e t
    → IsToldIn (rules_of config.policy) config w e t
told_at_step config w _ _ _ group step fits (ToWrite c s x e command wrote at) =
    let tells = told_by_tell config w c s x step command wrote in
    let there : is_told_at (record w { group = group_of config }) x.alias x.index ≡ true =
    subst (λ (g : Group). is_told_at (record w { group = g }) x.alias x.index ≡ true) group tells.1 in
    let who = passed (λ me. is_told (group_of config) me (w.tablets x.alias) x.index) (tablet_of config.tablets x.alias) there in
    let written = fits c x (ap (λ (o : Option CommandState). wrote_in o) command ∙ wrote) in
    let same : written.entry ≡ e = (let some : Some written.entry ≡ Some e = sym written.at ∙ at in cc) in
    told_in config w who.0 x.index x.term x.alias e who.1 tells.0 who.2 at (write_of_term e.kind x.term (subst (λ (y : Entry). IsWriteOf x.term y.kind) same written.write))
told_at_step config w _ _ _ group step fits (ToWait k n c t until index a me m e here carries found told at_row at) =
    let tells = told_by_wait w.group me t until (w.tablets a) told in
    let row : is_told w.group me (w.tablets a) index ≡ true = row_told w.group me (w.tablets a) (place_of_row (w.tablets a).log t) index at_row tells.1 in
    let kind = row_kind e.kind t (place_passes (is_row_of t) (w.tablets a).log index e at_row at) in
    told_in config w me index t a e found tells.0 (subst (λ (g : Group). is_told g me (w.tablets a) index ≡ true) group row) at
    (subst (λ (y : Kind). IsOfTerm t y) (sym kind.1) refl)

pub told_is_told : (config : Config) (ss : List Step) (j : ℕ) (e : Entry) (t : ℕ) → IsConfig config → IsRun config ss → IsTold config ss j e t
    → IsToldIn (rules_of config.policy) config (world_at config ss j) e t
told_is_told config ss j e t is run q =
    told_at_step config (world_at config ss j) q.step e t (group_at config ss j) (step_along config (opening config) ss j q.step run q.here) (truthful_at config ss j run).wrote q.tells

contains_at : (log : List Entry) (n : ℕ) (e : Entry) → slice_get log n ≡ Some e → Contains log e
contains_at log n e h = (n, below_length log n e h, index_or log n e h)
  where
    index_or : (es : List Entry) (m : ℕ) (e : Entry) → slice_get es m ≡ Some e → slice_index_or es m e ≡ e
    index_or [] m e h = absurd (let none : None ≡ Some e = h in cc)
    index_or (x ∷ es) zero e h = let some : Some x ≡ Some e = h in cc
    index_or (x ∷ es) (suc m) e h = index_or es m e h

-- ---- the law

pub leader_complete : OfEveryShard HoldsTold
leader_complete config ss is run i j u t a before e p q less =
    let there = leader_is_complete (rules_of config.policy) config (world_at config ss) is (run_is_trace config ss run) i j u t a before e
    (promoted_by config ss i u a before run p) (told_is_told config ss j e t is run q) less in
    contains_at before there.0 e there.1

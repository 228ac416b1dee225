-- The terms that commands take: each is one command's, and none is above the topology's; nor is that of a call, or what a tablet has seen.
use Rattle.std.proofs.Common.{◌≡◌, ◌⊎◌, inl, inr, ℕ, zero, suc, ◌+◌, ◌≤◌, Bool, true, false, ◌&&◌, ◌||◌, ◌==◌, nat_lt, refl, ap, sym, subst, ◌∙◌, arith, List, [], ◌∷◌, ◌++◌, cond, Option, Some, None, Result, Ok, Err, option_map, is_none, is_some, unwrap_or}
use Rattle.std.proofs.lemmas.Bool.{false≢true}
use Rattle.std.proofs.lemmas.Bool.Decides.{nat_tests}
use Rattle.std.specs.List.{slice_get}
use Rattle.shard_base.specs.Options.{◌>>=◌, only_if}
use Rattle.shard_names.specs.declared.alias.Alias.{Alias}
use Rattle.shard_names.specs.declared.tablet.Tablet.{Tablet}
use Rattle.shard_names.specs.Tablets.{tablet_of}
use Rattle.topo_lock.specs.Topology.{Topology, taken_by, answer_take, after_take, answer_intend, answer_record, answer_drain}
use Rattle.topo_lock.specs.declared.lock.Holder.{Holder}
use Rattle.topo_lock.specs.declared.lock.LockTaken.{LockTaken}
use Rattle.topo_lock.specs.declared.lock.TopoFault.{TopoFault}
use Rattle.topo_lock.specs.declared.lock.TopoFault.TheVariants as faults
use Rattle.topo_lock.proofs.MoveLemmas.{term_never_falls}
use Rattle.shard_calls.specs.declared.answer.Answer.{Answer}
use Rattle.shard_calls.specs.declared.call.Call.{Call}
use Rattle.shard_calls.specs.declared.call.Call.TheVariants as calls
use Rattle.shard_calls.specs.declared.event.Event.{Event}
use Rattle.shard_calls.specs.declared.event.Event.TheVariants as events
use Rattle.shard_calls.specs.declared.event.Step.{Step}
use Rattle.shard_calls.specs.declared.group.Group.{Group}
use Rattle.shard_calls.specs.declared.outcome.Written.{Written}
use Rattle.shard_calls.specs.declared.outcome.Written.TheVariants as writtens
use Rattle.shard_calls.specs.declared.post.Content.{Content}
use Rattle.shard_calls.specs.declared.post.Content.TheVariants as contents
use Rattle.shard_calls.specs.declared.post.Message.{Message}
use Rattle.shard_calls.specs.declared.stand.Stand.{Stand}
use Rattle.shard_calls.specs.declared.stand.Stand.TheVariants as stands
use Rattle.shard_calls.specs.declared.state.Act.{Act}
use Rattle.shard_calls.specs.declared.state.CommandState.{CommandState}
use Rattle.gtid_sets.specs.declared.entry.Kind.TheVariants as kinds
use Rattle.gtid_sets.specs.Logs.{has_row, newest_row_names, position_of}
use Rattle.gtid_sets.specs.Position.{covers}
use Rattle.shard_calls.specs.Stands.{is_down, is_stopped, is_primary_of, is_replica_in, is_feeder_in, primary_term, takes_from}
use Rattle.shard_calls.specs.Tablets.{TabletState, Verdict, only_says, in_term, stops, demotes, promotes, joins, feeds, waits_for_position, waits_told, writes_own, after_call, writes}
use Rattle.shard_calls.specs.World.{Config, World, opening, changed_at, numbered, with_act, open_command, term_in, term_of}
use Rattle.shard_calls.specs.Messages.{why_given_up, offer_to, offered_by, may_feed, needed, feed_of}
use Rattle.shard_calls.specs.Begins.{begun_state, ends_by}
use Rattle.shard_calls.specs.Locks.{takes_by, took_nothing, with_taken, by_term, reads, with_intended, intends_in, with_recorded, records_in, with_drained, drains_in, as_released, releases_in}
use Rattle.shard_calls.specs.Deliveries.{if_declared}
use Rattle.shard_calls.specs.Writes.{writes_in, writes_at, write_verdict, with_written, tell_of, told_act, with_told}
use Rattle.shard_calls.specs.Table.{Met, after, IsRun}
use Rattle.shard_calls.specs.Promotions.{world_at}
use Rattle.shard_calls.proofs.ListLemmas.{numbered_changed, numbered_other}
use Rattle.shard_calls.proofs.ActLemmas.{if_open_is, list_declared, list_delivery, list_up, list_offer}
use Rattle.shard_calls.proofs.LawLemmas.{chosen}
use Rattle.shard_calls.proofs.TouchLemmas.{Touched, Untouched, Called, Fed, Heard, WrittenBy, WrittenLocal, Crashed, Restarted, touched, topo_moves}
use Rattle.shard_calls.proofs.PostLemmas.{Sent, Asked, Replied, Acked, Offered, PostCases, post_cases}
use Rattle.shard_laws.specs.TightMoves.{IsPosted}
use Rattle.shard_laws.proofs.HeardLemmas.{bind_some}
use Rattle.shard_laws.proofs.CommandLemmas.{NextIs, AtEnd, BySteps, next_is}

-- the command took this term, whether it has ended or not
abbrev pub TermIs : World → ℕ → ℕ → Type 0
TermIs w d v = term_in (numbered w.commands d) ≡ Some v

-- ---- one command among them

abbrev SameTerm : List CommandState → List CommandState → ℕ → Type 0
SameTerm old new c = term_in (numbered new c) ≡ term_in (numbered old c)

same_list : (old new : List CommandState) (c : ℕ) → new ≡ old → SameTerm old new c
same_list old new c same = ap (λ (xs : List CommandState). term_in (numbered xs c)) same

-- a change that leaves the term
keep_term : (xs : List CommandState) (d c : ℕ) (f : CommandState → CommandState) → ((s : CommandState) → (f s).term ≡ s.term) → SameTerm xs (changed_at xs d f) c
keep_term xs d c f keeps = of_test (d == c) refl
  where
    mapped : (o : Option CommandState) → term_in (option_map f o) ≡ term_in o
    mapped None = refl
    mapped (Some s) = keeps s

    of_test : (b : Bool) → (d == c) ≡ b → SameTerm xs (changed_at xs d f) c
    of_test true e =
        let same : d ≡ c = grind (arith, nat_tests) in
        subst (λ (n : ℕ). SameTerm xs (changed_at xs d f) n) same
        (ap (λ (o : Option CommandState). term_in o) (numbered_changed xs d f) ∙ mapped (numbered xs d))
    of_test false e = ap (λ (o : Option CommandState). term_in o) (numbered_other xs d c f e)

get_push : (xs : List CommandState) (x : CommandState) (n : ℕ) → x.term ≡ None → term_in (slice_get (xs ++ x ∷ []) n) ≡ term_in (slice_get xs n)
get_push [] x zero none = none
get_push [] x (suc n) none = refl
get_push (y ∷ xs) x zero none = refl
get_push (y ∷ xs) x (suc n) none = get_push xs x n none

push_term : (xs : List CommandState) (x : CommandState) (c : ℕ) → x.term ≡ None → SameTerm xs (xs ++ x ∷ []) c
push_term xs x zero none = refl
push_term xs x (suc n) none = get_push xs x n none

pub term_numbered : (w : World) (c t : ℕ) → term_of w c ≡ Some t → TermIs w c t
term_numbered w c t h = of_open (open_command w c) refl h
  where
    of_open : (o : Option CommandState) → open_command w c ≡ o → term_in o ≡ Some t → TermIs w c t
    of_open None is k = absurd (let none : None ≡ Some t = k in cc)
    of_open (Some s) is k = ap (λ (o : Option CommandState). term_in o) (if_open_is (numbered w.commands c) s is) ∙ k

-- ---- Take

-- with this event the command takes the next term of a free lock
pub record TakesTerm (config : Config) (w : World) (e : Event) (d v : ℕ) : Type 0 where
  pub event : e ≡ events.Take d
  pub more : v ≡ w.topo.term + 1
  pub before : term_in (numbered w.commands d) ≡ None
  pub own : TermIs (after config w e) d v
  pub term : (after config w e).topo.term ≡ v
  pub holder : Holder
  pub holder_is : (after config w e).topo.holder ≡ Some holder
  pub by : holder.command ≡ d

took_topo : (t : Topology) (h : Holder) (o : Option Holder) (v : ℕ) → t.holder ≡ o → taken_by t.term o ≡ Ok v
    → ((after_take t h).term ≡ v) × ((after_take t h).holder ≡ Some h) × (v ≡ t.term + 1)
took_topo t h None v is taken =
    let more : t.term + 1 ≡ v = (let ok : Ok (t.term + 1) ≡ Ok v = taken in cc) in (
      ap (λ (x : Option Holder). (cond (is_some x) t (record t { term = t.term + 1; holder = Some h })).term) is ∙ more,
      ap (λ (x : Option Holder). (cond (is_some x) t (record t { term = t.term + 1; holder = Some h })).holder) is,
      sym more,
    )
took_topo t h (Some g) v is taken = absurd (cc)

none_is : (o : Option ℕ) → is_none o ≡ true → o ≡ None
none_is None h = refl
none_is (Some t) h = absurd (false≢true h)

took_terms : (xs : List CommandState) (d : ℕ) (s : CommandState) (v : ℕ) (r : Result ℕ LockTaken) → numbered xs d ≡ Some s → r ≡ Ok v
    → term_in (numbered (changed_at xs d (with_taken r)) d) ≡ Some v
took_terms xs d s v (Err held) here is = absurd (cc)
took_terms xs d s v (Ok t) here is =
    let same : t ≡ v = (let ok : Ok t ≡ Ok v = is in cc) in
    ap (λ (o : Option CommandState). term_in o) (numbered_changed xs d (with_taken (Ok t))) ∙ ap (λ (o : Option CommandState). term_in (option_map (with_taken (Ok t)) o)) here
    ∙ ap (λ (n : ℕ). Some n) same

pub takes_term : (config : Config) (w : World) (d v : ℕ) → Met config w (events.Take d) → answer_take w.topo ≡ Ok v → TakesTerm config w (events.Take d) d v
takes_term config w d v met taken = of_open (open_command w d) refl met
  where
    of_open : (o : Option CommandState) → open_command w d ≡ o → took_nothing o ≡ true → TakesTerm config w (events.Take d) d v
    of_open None is free = absurd (false≢true free)
    of_open (Some s) is free =
        let h : Holder = record { command = d; actor = s.actor } in
        let topo = took_topo w.topo h w.topo.holder v refl taken in
        let there : numbered w.commands d ≡ Some s = if_open_is (numbered w.commands d) s is in
        record {
          event = refl;
          more = topo.2;
          before = ap (λ (x : Option CommandState). term_in x) there ∙ none_is s.term free;
          own = ap (λ (x : Option CommandState). term_in (numbered (takes_by w d x).commands d)) is
              ∙ took_terms w.commands d s v (answer_take w.topo) there taken;
          term = ap (λ (x : Option CommandState). (takes_by w d x).topo.term) is ∙ topo.0;
          holder = h;
          holder_is = ap (λ (x : Option CommandState). (takes_by w d x).topo.holder) is ∙ topo.1;
          by = refl;
        }

-- ---- what a step does to the term of a command

abbrev pub TermCases : Config → World → Event → ℕ → Type 0
TermCases config w e c = SameTerm w.commands (after config w e).commands c ⊎ ((v : ℕ) × TakesTerm config w e c v)

take_cases : (config : Config) (w : World) (d c : ℕ) (r : Result ℕ LockTaken) → Met config w (events.Take d) → answer_take w.topo ≡ r → TermCases config w (events.Take d) c
take_cases config w d c (Ok v) met is = of_test (d == c) refl
  where
    other : (o : Option CommandState) → (d == c) ≡ false → SameTerm w.commands (takes_by w d o).commands c
    other None e = refl
    other (Some s) e = ap (λ (x : Option CommandState). term_in x) (numbered_other w.commands d c (with_taken (answer_take w.topo)) e)

    of_test : (b : Bool) → (d == c) ≡ b → TermCases config w (events.Take d) c
    of_test true e =
        let same : d ≡ c = grind (arith, nat_tests) in
        inr (v, subst (λ (n : ℕ). TakesTerm config w (events.Take d) n v) same (takes_term config w d v met is))
    of_test false e = inl (other (open_command w d) e)
take_cases config w d c (Err held) met is = inl (of_open (open_command w d))
  where
    keeps : (s : CommandState) → (with_taken (answer_take w.topo) s).term ≡ s.term
    keeps s = ap (λ (r : Result ℕ LockTaken). (with_taken r s).term) is

    of_open : (o : Option CommandState) → SameTerm w.commands (takes_by w d o).commands c
    of_open None = refl
    of_open (Some s) = keep_term w.commands d c (with_taken (answer_take w.topo)) keeps

by_same : (w : World) (f : ℕ → World) (c : ℕ) (o : Option ℕ) → ((t : ℕ) → SameTerm w.commands (f t).commands c) → SameTerm w.commands (by_term o w f).commands c
by_same w f c None h = refl
by_same w f c (Some t) h = h t

intended_keeps : (a : Alias) (r : Result (Unit {0}) TopoFault) (s : CommandState) → (with_intended a r s).term ≡ s.term
intended_keeps a (Ok u) s = refl
intended_keeps a (Err (faults.LockLost current)) s = refl
intended_keeps a (Err (faults.IntentStands b)) s = refl

recorded_keeps : (a : Alias) (r : Result (Unit {0}) TopoFault) (s : CommandState) → (with_recorded a r s).term ≡ s.term
recorded_keeps a (Ok u) s = refl
recorded_keeps a (Err (faults.LockLost current)) s = refl
recorded_keeps a (Err (faults.IntentStands b)) s = refl

drained_keeps : (a : Alias) (r : Result (Unit {0}) TopoFault) (s : CommandState) → (with_drained a r s).term ≡ s.term
drained_keeps a (Ok u) s = refl
drained_keeps a (Err (faults.LockLost current)) s = refl
drained_keeps a (Err (faults.IntentStands b)) s = refl

written_keeps : (a : Alias) (old : TabletState) (r : Written) (s : CommandState) → (with_written a old r s).term ≡ s.term
written_keeps a old (writtens.Entry g) s = refl
written_keeps a old (writtens.NotPrimary at) s = refl

declared_same : (w : World) (d c : ℕ) (a : Alias) (s : CommandState) (o : Option Tablet) → SameTerm w.commands (if_declared o w (writes_at w d a s)).commands c
declared_same w d c a s None = refl
declared_same w d c a s (Some me) = keep_term w.commands d c (with_written a (w.tablets a) (write_verdict w a s me).says) (written_keeps a (w.tablets a) (write_verdict w a s me).says)

write_same : (config : Config) (w : World) (d c : ℕ) (a : Alias) (o : Option CommandState) → SameTerm w.commands (writes_in config w d a o).commands c
write_same config w d c a None = refl
write_same config w d c a (Some s) = declared_same w d c a s (tablet_of config.tablets a)

told_same : (w : World) (d c : ℕ) (o : Option Act) → SameTerm w.commands (with_told w d o).commands c
told_same w d c None = refl
told_same w d c (Some act) = keep_term w.commands d c (with_act act) (λ s. refl)

end_same : (w : World) (d c : ℕ) (o : Option CommandState) → SameTerm w.commands (ends_by w d o).commands c
end_same w d c None = refl
end_same w d c (Some s) = keep_term w.commands d c (λ x. record x { ended = true }) (λ x. refl)

pub term_cases : (config : Config) (w : World) (e : Event) (c : ℕ) → Met config w e → TermCases config w e c
term_cases config w (events.Begin name command) c met = inl (push_term w.commands (begun_state w name command) c refl)
term_cases config w (events.Take d) c met = take_cases config w d c (answer_take w.topo) met refl
term_cases config w (events.Read d) c met = inl (by_same w (reads w d) c (term_of w d) (λ t. keep_term w.commands d c _ (λ s. refl)))
term_cases config w (events.Intend d a) c met =
    inl (by_same w (intends_in w d a) c (term_of w d) (λ t. keep_term w.commands d c _ (intended_keeps a (answer_intend w.topo t a))))
term_cases config w (events.Record d a) c met =
    inl (by_same w (records_in w d a) c (term_of w d) (λ t. keep_term w.commands d c _ (recorded_keeps a (answer_record w.topo t))))
term_cases config w (events.Drain d a) c met =
    inl (by_same w (drains_in w d a) c (term_of w d) (λ t. keep_term w.commands d c _ (drained_keeps a (answer_drain w.topo t))))
term_cases config w (events.Release d) c met = inl (by_same w (releases_in w d) c (term_of w d) (λ t. keep_term w.commands d c as_released (λ s. refl)))
term_cases config w events.Lapse c met = inl refl
term_cases config w (events.Send d a call) c met = inl (keep_term w.commands d c _ (λ s. refl))
term_cases config w (events.Deliver k) c met = inl (same_list w.commands _ c (list_delivery config w k (numbered w.post k)))
term_cases config w (events.GiveUp d k) c met = inl (same_list w.commands _ c (list_up w k (why_given_up w d k)))
term_cases config w (events.Offer r) c met = inl (same_list w.commands _ c (list_offer w (offer_to w r)))
term_cases config w (events.Write d a) c met = inl (write_same config w d c a (open_command w d))
term_cases config w (events.Tell d) c met = inl (told_same w d c (tell_of w d >>= told_act))
term_cases config w (events.Local a) c met = inl (same_list w.commands _ c (list_declared w _ (tablet_of config.tablets a) (λ me. refl)))
term_cases config w (events.Crash a keep) c met = inl refl
term_cases config w (events.Restart a) c met = inl refl
term_cases config w (events.Cut x y) c met = inl refl
term_cases config w (events.Mend x y) c met = inl refl
term_cases config w (events.Lose k) c met = inl refl
term_cases config w (events.Tick ms) c met = inl refl
term_cases config w (events.End d x) c met = inl (end_same w d c (open_command w d))

-- ---- what a tablet has seen

abbrev SeenWithin : ℕ → Verdict Answer → Type 0
SeenWithin top v = v.state.seen ≤ top

seen_in_term : (top u : ℕ) (s : TabletState) (f : TabletState → Verdict Answer) → s.seen ≤ top → SeenWithin top (f (record s { seen = u })) → SeenWithin top (in_term u s f)
seen_in_term top u s f low h = chosen (SeenWithin top) (nat_lt u s.seen) _ (f (record s { seen = u })) (λ stale. low) (λ fresh. h)

seen_either : (top : ℕ) (b : Bool) (s t : TabletState) → s.seen ≤ top → t.seen ≤ top → (cond b s t).seen ≤ top
seen_either top true s t p q = p
seen_either top false s t p q = q

call_seen : (top : ℕ) (g : Group) (me : Tablet) (u : ℕ) (call : Call) (s : TabletState) → s.seen ≤ top → u ≤ top → (after_call g me u call s).seen ≤ top
call_seen top g me u calls.Status s low new = low
call_seen top g me u calls.Stop s low new = seen_in_term top u s (stops u) low (seen_either top (s.promised == u) _ _ new new)
call_seen top g me u calls.Demote s low new =
    seen_in_term top u s (demotes me u) low
    (chosen (SeenWithin top) (s.promised == u) _ _ (λ there. new) (λ other. chosen (SeenWithin top) (newest_row_names s.log me.alias) _ _ (λ own. new) (λ no_own. new)))
call_seen top g me u (calls.Promote p) s low new =
    seen_in_term top u s (promotes me u p) low
    (chosen (SeenWithin top) (has_row s.log u) _ _ (λ there. new) (λ none. chosen (SeenWithin top) (covers (position_of s.log) p) _ _ (λ caught. new) (λ short. new)))
call_seen top g me u (calls.SetSource source t p) s low new =
    seen_in_term top u s (joins source t p) low
    (chosen (SeenWithin top) (nat_lt t s.promised) _ _ (λ ahead. new)
    (λ fresh. chosen (SeenWithin top) (is_primary_of s.stand t || is_replica_in s.stand t) _ _ (λ stays. new)
    (λ other. chosen (SeenWithin top) (covers p (position_of s.log)) _ _ (λ inside. new) (λ errant. new))))
call_seen top g me u calls.Feed s low new =
    seen_in_term top u s (feeds u) low
    (chosen (SeenWithin top) (is_feeder_in s.stand u) _ _ (λ feeder. new)
    (λ other. chosen (SeenWithin top) (is_stopped s.stand && (s.promised == u)) _ _ (λ stopped. new) (λ keeps. new)))
call_seen top g me u (calls.WaitFor p until) s low new = seen_in_term top u s (waits_for_position p) low new
call_seen top g me u (calls.WaitTold until) s low new = seen_in_term top u s (waits_told g me u) low new

-- ---- worlds in which no term is above the topology's

pub record IsTermedWorld (w : World) : Type 0 where
  pub within : (d v : ℕ) → TermIs w d v → v ≤ w.topo.term
  pub alone : (d b v : ℕ) → TermIs w d v → TermIs w b v → d ≡ b
  pub calls : (k d v : ℕ) (a : Alias) (call : Call) → IsPosted w.post k (contents.Asks d v a call) → v ≤ w.topo.term
  pub seen : (a : Alias) → (w.tablets a).seen ≤ w.topo.term

one_term : (u v : ℕ) → Some u ≡ Some v → u ≡ v
one_term u v h = cc

one_taker : (d b : ℕ) → events.Take d ≡ events.Take b → d ≡ b
one_taker d b h = cc

not_lower : (config : Config) (w : World) (e : Event) → w.topo.term ≤ (after config w e).topo.term
not_lower config w e = term_never_falls w.topo (after config w e).topo (topo_moves config w e)

within_after : (config : Config) (w : World) (e : Event) (d v : ℕ) → Met config w e → IsTermedWorld w → TermIs (after config w e) d v → v ≤ (after config w e).topo.term
within_after config w e d v met termed own = of_cases (term_cases config w e d met)
  where
    of_cases : TermCases config w e d → v ≤ (after config w e).topo.term
    of_cases (inl same) = let old = termed.within d v (sym same ∙ own) in let later = not_lower config w e in omega (arith, old, later)
    of_cases (inr takes) =
        let same : takes.0 ≡ v = one_term takes.0 v (sym takes.1.own ∙ own) in let now = takes.1.term in omega (arith, same, now)

alone_after : (config : Config) (w : World) (e : Event) (d b v : ℕ) → Met config w e → IsTermedWorld w → TermIs (after config w e) d v → TermIs (after config w e) b v → d ≡ b
alone_after config w e d b v met termed one other = of_cases (term_cases config w e d met) (term_cases config w e b met)
  where
    -- a term that was taken before is none that is taken now
    no_more : (c n : ℕ) → TakesTerm config w e n v → TermIs w c v → ⊥
    no_more c n takes old = let low = termed.within c v old in let more = takes.more in omega (arith, low, more)

    taken : (c : ℕ) → (takes : (n : ℕ) × TakesTerm config w e c n) → TermIs (after config w e) c v → TakesTerm config w e c v
    taken c takes own = subst (λ (n : ℕ). TakesTerm config w e c n) (one_term takes.0 v (sym takes.1.own ∙ own)) takes.1

    of_cases : TermCases config w e d → TermCases config w e b → d ≡ b
    of_cases (inl same) (inl still) = termed.alone d b v (sym same ∙ one) (sym still ∙ other)
    of_cases (inl same) (inr takes) = absurd (no_more d b (taken b takes other) (sym same ∙ one))
    of_cases (inr takes) (inl still) = absurd (no_more b d (taken d takes one) (sym still ∙ other))
    of_cases (inr takes) (inr also) = one_taker d b (sym takes.1.event ∙ also.1.event)

-- ---- what is sent

same_ask : (c d u v : ℕ) (a b : Alias) (f g : Call) → contents.Asks c u a f ≡ contents.Asks d v b g → u ≡ v
same_ask c d u v a b f g h = cc

offers_no_call : (w : World) (r : Alias) (at : Stand) (content : Content) (d v : ℕ) (a : Alias) (call : Call) → offered_by w r at ≡ Some content
    → content ≡ contents.Asks d v a call → ⊥
offers_no_call w r stands.Down content d v a call h is = let none : None ≡ Some content = h in cc
offers_no_call w r stands.Stopped content d v a call h is = let none : None ≡ Some content = h in cc
offers_no_call w r (stands.Primary t) content d v a call h is = let none : None ≡ Some content = h in cc
offers_no_call w r (stands.Demoted t by) content d v a call h is = let none : None ≡ Some content = h in cc
offers_no_call w r (stands.Feeder t) content d v a call h is = let none : None ≡ Some content = h in cc
offers_no_call w r (stands.Replica s t n) content d v a call h is =
    let one = bind_some (only_if (may_feed w s r t n) n) (λ m. needed (w.tablets s) (w.tablets r) m >>= (λ x. Some (feed_of s r t n x))) content h in
    let two = bind_some (needed (w.tablets s) (w.tablets r) one.0) (λ x. Some (feed_of s r t n x)) content one.2 in
    let same : feed_of s r t n two.0 ≡ content = (let some : Some (feed_of s r t n two.0) ≡ Some content = two.2 in cc) in
    let wrong : contents.Feeds s r t n two.0.index two.0.entry ≡ contents.Asks d v a call = same ∙ is in cc

called_within : (w : World) (c v : ℕ) → IsTermedWorld w → unwrap_or (term_of w c) 0 ≡ v → v ≤ w.topo.term
called_within w c v termed is = of_term (term_of w c) refl is
  where
    of_term : (o : Option ℕ) → term_of w c ≡ o → unwrap_or o 0 ≡ v → v ≤ w.topo.term
    of_term None took same = omega (arith, same)
    of_term (Some t) took same = let low = termed.within c t (term_numbered w c t took) in let now : t ≡ v = same in omega (arith, low, now)

sent_within : (config : Config) (w : World) (e : Event) (content : Content) (d v : ℕ) (a : Alias) (call : Call) → IsTermedWorld w → Sent config w e content
    → content ≡ contents.Asks d v a call → v ≤ w.topo.term
sent_within config w _ _ d v a call termed (Asked c b asks) is = called_within w c v termed (same_ask c d (unwrap_or (term_of w c) 0) v b a asks call is)
sent_within config w _ _ d v a call termed (Replied k c u b asks me m here carries found) is = absurd (cc)
sent_within config w _ _ d v a call termed (Acked k term before index source to x m here carries taken) is = absurd (cc)
sent_within config w _ _ d v a call termed (Offered r content offered) is = absurd (offers_no_call w r (w.tablets r).stand content d v a call offered is)

calls_after : (config : Config) (w : World) (e : Event) (k d v : ℕ) (a : Alias) (call : Call) → IsTermedWorld w → IsPosted (after config w e).post k (contents.Asks d v a call)
    → v ≤ w.topo.term
calls_after config w e k d v a call termed posted = of_cases (post_cases config w e k posted.message posted.at)
  where
    of_cases : PostCases config w e k posted.message → v ≤ w.topo.term
    of_cases (inl old) = termed.calls k d v a call (record { message = old.0; at = old.1; carries = sym old.2 ∙ posted.carries })
    of_cases (inr sent) = sent_within config w e posted.message.content d v a call termed sent posted.carries

-- ---- what is seen

written_seen : (top : ℕ) (me : Tablet) (client number : ℕ) (s : TabletState) → s.seen ≤ top → (writes me client number s).state.seen ≤ top
written_seen top me client number s low = of_term (primary_term s.stand)
  where
    of_term : (o : Option ℕ)
        → (elim o as (λ _. Verdict Written) [ Some t ↦ writes_own me (kinds.Write t client number) s | None ↦ only_says s (writtens.NotPrimary s.stand) ]).state.seen ≤ top
    of_term None = low
    of_term (Some t) = low

touched_seen : (config : Config) (w : World) (a : Alias) (e : Event) (t : TabletState) → IsTermedWorld w → Touched config w a e t → t.seen ≤ w.topo.term
touched_seen config w a _ _ termed Untouched = termed.seen a
touched_seen config w a _ _ termed (Called k c u call me m here carries found) =
    call_seen w.topo.term w.group me u call (w.tablets a) (termed.seen a) (termed.calls k c u a call (record { message = m; at = here; carries = carries }))
touched_seen config w a _ _ termed (Fed k term before index from x m here carries taken) =
    chosen (λ v. v.state.seen ≤ w.topo.term) (takes_from (w.tablets a).stand from term before) _ _ (λ takes. termed.seen a) (λ no_more. termed.seen a)
touched_seen config w a _ _ termed (Heard k term index from m here carries) =
    seen_either w.topo.term (is_primary_of (w.tablets a).stand term) _ _ (termed.seen a) (termed.seen a)
touched_seen config w a _ _ termed (WrittenBy c s me begun found) = written_seen w.topo.term me s.client s.number (w.tablets a) (termed.seen a)
touched_seen config w a _ _ termed (WrittenLocal me found) =
    chosen (λ v. v.state.seen ≤ w.topo.term) (is_down (w.tablets a).stand) _ _ (λ down. termed.seen a) (λ up. termed.seen a)
touched_seen config w a _ _ termed (Crashed keep) = termed.seen a
touched_seen config w a _ _ termed Restarted =
    chosen (λ v. v.state.seen ≤ w.topo.term) (is_down (w.tablets a).stand) _ _ (λ down. termed.seen a) (λ up. termed.seen a)

-- ---- along a history

pub termed_after : (config : Config) (w : World) (e : Event) → Met config w e → IsTermedWorld w → IsTermedWorld (after config w e)
termed_after config w e met termed = record {
  within = λ d v own. within_after config w e d v met termed own;
  alone = λ d b v one other. alone_after config w e d b v met termed one other;
  calls = λ k d v a call posted. (let low = calls_after config w e k d v a call termed posted in let later = not_lower config w e in omega (arith, low, later));
  seen = λ a. (let low = touched_seen config w a e _ termed (touched config w e a) in let later = not_lower config w e in omega (arith, low, later));
}

termed_opening : (config : Config) → IsTermedWorld (opening config)
termed_opening config = record {
  within = λ d v own. absurd (no_command d v own);
  alone = λ d b v one other. absurd (no_command d v one);
  calls = λ k d v a call posted. absurd (nothing_sent k posted.message posted.at);
  seen = λ a. omega arith;
}
  where
    no_command : (d v : ℕ) → term_in (numbered [] d) ≡ Some v → ⊥
    no_command zero v h = let none : None ≡ Some v = h in cc
    no_command (suc n) v h = let none : None ≡ Some v = h in cc

    nothing_sent : (n : ℕ) (m : Message) → numbered [] n ≡ Some m → ⊥
    nothing_sent zero m h = let none : None ≡ Some m = h in cc
    nothing_sent (suc n) m h = let none : None ≡ Some m = h in cc

pub termed_at : (config : Config) (ss : List Step) (i : ℕ) → IsRun config ss → IsTermedWorld (world_at config ss i)
termed_at config ss zero run = termed_opening config
termed_at config ss (suc i) run = of_next (world_at config ss (suc i)) (next_is config ss i run) (termed_at config ss i run)
  where
    of_next : (v : World) → NextIs config ss i v → IsTermedWorld (world_at config ss i) → IsTermedWorld v
    of_next v (AtEnd is) h = subst (λ (x : World). IsTermedWorld x) is h
    of_next v (BySteps s here step is) h = subst (λ (x : World). IsTermedWorld x) is (termed_after config (world_at config ss i) s.event step.met h)

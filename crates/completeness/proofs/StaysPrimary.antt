-- Who has the row of a kept lock's term, and is the tablet that the term intends, stays the primary of the term until it goes down. So its Promote and
-- its WaitTold never come to Kept. After the terms of Sougoumarane's "Consensus algorithms at scale": a term unseats older primaries, never its own.
use Rattle.std.proofs.Common.{◌≡◌, ℕ, zero, suc, ◌+◌, ◌≤◌, ◌<◌, Bool, true, false, ◌&&◌, ◌||◌, ◌==◌, nat_lt, refl, ap, sym, subst, ◌∙◌, arith, cond, List, [], ◌∷◌, ◌++◌, Option, Some, None, unwrap_or}
use Rattle.std.proofs.lemmas.Bool.{false≢true}
use Rattle.std.proofs.lemmas.Bool.Decides.{nat_tests}
use Rattle.std.specs.List.{slice_get}
use Rattle.shard_names.specs.declared.alias.Alias.{Alias}
use Rattle.shard_names.specs.declared.tablet.Tablet.{Tablet}
use Rattle.shard_names.proofs.TabletLemmas.{both_left}
use Rattle.gtid_sets.specs.declared.entry.Entry.{Entry}
use Rattle.gtid_sets.specs.declared.entry.Kind.{Kind}
use Rattle.gtid_sets.specs.declared.entry.Kind.TheVariants as entry_kinds
use Rattle.gtid_sets.specs.Position.{covers}
use Rattle.gtid_sets.specs.Logs.{position_of, holds, has_row, is_row_of, newest_row_names, next_gtid, row_or_zero, row_term, with_entry, with_own}
use Rattle.topo_lock.proofs.MoveLemmas.{intent_of_term_stays_over_steps}
use Rattle.shard_calls.specs.declared.answer.Answer.{Answer}
use Rattle.shard_calls.specs.declared.call.Call.{Call}
use Rattle.shard_calls.specs.declared.call.Call.TheVariants as calls
use Rattle.shard_calls.specs.declared.event.Event.{Event}
use Rattle.shard_calls.specs.declared.event.Event.TheVariants as events
use Rattle.shard_calls.specs.declared.event.Reply.TheVariants as replies
use Rattle.shard_calls.specs.declared.event.Step.{Step}
use Rattle.shard_calls.specs.declared.group.Group.{Group}
use Rattle.shard_calls.specs.declared.outcome.Written.{Written}
use Rattle.shard_calls.specs.declared.outcome.Written.TheVariants as writtens
use Rattle.shard_calls.specs.declared.post.Content.{Content}
use Rattle.shard_calls.specs.declared.post.Content.TheVariants as contents
use Rattle.shard_calls.specs.declared.stand.Stand.{Stand}
use Rattle.shard_calls.specs.declared.stand.Stand.TheVariants as stands
use Rattle.shard_calls.specs.Laws.{IsSound, IsPromised, FitsTerm}
use Rattle.shard_calls.specs.Stands.{is_down, is_stopped, is_primary_of, is_replica_in, is_feeder_in, primary_term, takes_from}
use Rattle.shard_calls.specs.Table.{IsRun}
use Rattle.shard_calls.specs.Tablets.{TabletState, Verdict, only_says, in_term, stops, demotes, promotes, joins, feeds, waits_for_position, waits_told, after_call, accepts, writes_own}
use Rattle.shard_calls.specs.World.{Config, World, opening, numbered}
use Rattle.shard_calls.specs.Promotions.{world_at}
use Rattle.shard_calls.proofs.LawLemmas.{chosen}
use Rattle.shard_calls.proofs.LogLemmas.{has_row-push}
use Rattle.shard_calls.proofs.RunLemmas.{later_at, row_found, row_kind, step_along, truthful_at}
use Rattle.shard_calls.proofs.StepLemmas.{row_numbered}
use Rattle.shard_calls.proofs.TouchLemmas.{Touched, Untouched, Called, Fed, Heard, WrittenBy, WrittenLocal, Crashed, Restarted, touched}
use Rattle.shard_calls.proofs.WorldLemmas.{IsIntended, IsSoundWorld, Fits, ask_term}
use Rattle.shard_laws.specs.TightMoves.{IsPosted}
use Rattle.shard_laws.proofs.CommandLemmas.{NextIs, AtEnd, BySteps, next_is}
use Rattle.shard_laws.proofs.GroundLemmas.{one_intent, row_tested}
use Rattle.completeness.specs.Kept.{IsKept}
use Rattle.completeness.proofs.KeptLemmas.{has_lock, taken_now}
use Rattle.completeness.proofs.TermLemmas.{takes_term, termed_at}

-- ---- one tablet

-- if it has the row of the term, it is the primary of the term
abbrev pub Leads : ℕ → TabletState → Type 0
Leads u s = has_row s.log u ≡ true → s.stand ≡ stands.Primary u

-- what it says and what it is after that
abbrev LeadsBy : {A : Type 0} → ℕ → Verdict A → Type 0
LeadsBy u v = Leads u v.state

leads_either : (u : ℕ) (b : Bool) (s t : TabletState) → Leads u s → Leads u t → Leads u (cond b s t)
leads_either u true s t p q = p
leads_either u false s t p q = q

-- who leads in u has promised u
promised_so : (s : TabletState) (u : ℕ) → IsSound s → s.stand ≡ stands.Primary u → u ≡ s.promised
promised_so s u sound at = subst (λ (x : Stand). IsPromised s.promised x) at sound.stands

-- so a call that is not stale, and of no later term, is of this one
one_term : (s : TabletState) (v u : ℕ) → IsSound s → s.stand ≡ stands.Primary u → s.seen ≤ v → v ≤ u → (s.promised ≡ v) × (v ≡ u)
one_term s v u sound at low high =
    let now = promised_so s u sound at in
    let heard = sound.seen in
    let same : v ≡ u = omega (arith, now, heard, low, high) in
    (omega (arith, now, same), same)

same_number : (m n : ℕ) → m ≡ n → (m == n) ≡ true
same_number m n h = grind (arith, nat_tests)

number_is : (m n : ℕ) → (m == n) ≡ true → m ≡ n
number_is m n h = grind (arith, nat_tests)

leads_in_term : (v u : ℕ) (s : TabletState) (f : TabletState → Verdict Answer) → Leads u s
    → (s.seen ≤ v → LeadsBy u (f (record s { seen = v }))) → LeadsBy u (in_term v s f)
leads_in_term v u s f h fresh =
    chosen (LeadsBy u) (nat_lt v s.seen) _ (f (record s { seen = v })) (λ stale. h) (λ not_stale. fresh (let le : s.seen ≤ v = grind (arith, nat_tests) in le))

-- with the row of a term that it has not, it is the primary of that term
enters_row : (g : Group) (me : Tablet) (v u : ℕ) (s : TabletState) → IsSound s → v ≤ u → s.seen ≤ v → Leads u s
    → has_row (with_own me (entry_kinds.Row v me.alias) s.log) u ≡ true → stands.Primary v ≡ stands.Primary u
enters_row g me v u s sound high low h row =
    of_test (v == u) refl (sym (has_row-push s.log (record { gtid = next_gtid me.server s.log; kind = entry_kinds.Row v me.alias }) u) ∙ row)
  where
    of_test : (b : Bool) → (v == u) ≡ b → (b || has_row s.log u) ≡ true → stands.Primary v ≡ stands.Primary u
    of_test true is k = ap (λ (n : ℕ). stands.Primary n) (number_is v u is)
    of_test false is k = ap (λ (n : ℕ). stands.Primary n) (one_term s v u sound (h k) low high).1

-- no call of this term, or of an earlier one, unseats it
call_leads : (g : Group) (me : Tablet) (v u : ℕ) (call : Call) (s : TabletState) → IsSound s → v ≤ u → FitsTerm v call → Leads u s → Leads u (after_call g me v call s)
call_leads g me v u calls.Status s sound high fits h = h
call_leads g me v u calls.Stop s sound high fits h =
    leads_in_term v u s (stops v) h
    (λ low. of_test (s.promised == v) refl low)
  where
    of_test : (b : Bool) → (s.promised == v) ≡ b → s.seen ≤ v
        → Leads u (cond b (record s { seen = v }) (record s { seen = v; promised = v; stand = stands.Stopped }))
    of_test true is low row = h row
    of_test false is low row = absurd (false≢true (sym is ∙ same_number s.promised v (one_term s v u sound (h row) low high).0))
call_leads g me v u calls.Demote s sound high fits h =
    leads_in_term v u s (demotes me v) h
    (λ low. chosen (LeadsBy u) (s.promised == v) _ _ (λ there. h)
    (λ other. chosen (LeadsBy u) (newest_row_names s.log me.alias) _ _
    (λ own row. absurd (false≢true (sym other ∙ same_number s.promised v (one_term s v u sound (h row) low high).0))) (λ no_own. h)))
call_leads g me v u (calls.Promote p) s sound high fits h =
    leads_in_term v u s (promotes me v p) h
    (λ low. chosen (LeadsBy u) (has_row s.log v) _ _ (λ there. h)
    (λ none. chosen (LeadsBy u) (covers (position_of s.log) p) _ _ (λ caught row. enters_row g me v u s sound high low h row) (λ short. h)))
call_leads g me v u (calls.SetSource source t p) s sound high fits h =
    leads_in_term v u s (joins source t p) h
    (λ low. chosen (LeadsBy u) (nat_lt t s.promised) _ _ (λ ahead. h)
    (λ new. chosen (LeadsBy u) (is_primary_of s.stand t || is_replica_in s.stand t) _ _ (λ kept. h)
    (λ other. chosen (LeadsBy u) (covers p (position_of s.log)) _ _ (λ inside row. absurd (seated low new other (h row))) (λ errant. h))))
  where
    seated : s.seen ≤ v → nat_lt t s.promised ≡ false → (is_primary_of s.stand t || is_replica_in s.stand t) ≡ false → s.stand ≡ stands.Primary u → ⊥
    seated low new other at =
        let one = one_term s v u sound at low high in
        let not_below : s.promised ≤ t = grind (arith, nat_tests) in
        let here = one.0 in
        let same_term = one.1 in
        let same : u ≡ t = omega (arith, here, same_term, not_below, fits) in
        false≢true (sym other ∙ ap (λ (x : Stand). is_primary_of x t || is_replica_in x t) at ∙ ap (λ (b : Bool). b || false) (same_number u t same))
call_leads g me v u calls.Feed s sound high fits h =
    leads_in_term v u s (feeds v) h
    (λ low. chosen (LeadsBy u) (is_feeder_in s.stand v) _ _ (λ feeder. h)
    (λ other. chosen (LeadsBy u) (is_stopped s.stand && (s.promised == v)) _ _
    (λ stopped row. absurd (false≢true (sym (ap (λ (x : Stand). is_stopped x) (h row)) ∙ both_left (is_stopped s.stand) (s.promised == v) stopped)))
    (λ keeps. h)))
call_leads g me v u (calls.WaitFor p until) s sound high fits h = leads_in_term v u s (waits_for_position p) h (λ low. h)
call_leads g me v u (calls.WaitTold until) s sound high fits h = leads_in_term v u s (waits_told g me v) h (λ low. h)

-- an entry of its own that is no row
own_leads : (u : ℕ) (me : Tablet) (k : Kind) (s : TabletState) → is_row_of u (record { gtid = next_gtid me.server s.log; kind = k }) ≡ false → Leads u s
    → Leads u (record s { log = with_own me k s.log })
own_leads u me k s plain h row =
    h (ap (λ (b : Bool). b || has_row s.log u) (sym plain) ∙ sym (has_row-push s.log (record { gtid = next_gtid me.server s.log; kind = k }) u) ∙ row)

write_leads : (u : ℕ) (s : TabletState) (o : Option ℕ) (me : Tablet) (client number : ℕ) → Leads u s
    → Leads u (elim o as (λ _. Verdict Written) [ Some t ↦ writes_own me (entry_kinds.Write t client number) s | None ↦ only_says s (writtens.NotPrimary s.stand) ]).state
write_leads u s None me client number h = h
write_leads u s (Some t) me client number h = own_leads u me (entry_kinds.Write t client number) s refl h

-- ---- what comes from other tablets

-- the term intends no other tablet than this one
abbrev pub IntendsOnly : World → ℕ → Alias → Type 0
IntendsOnly w u a = (c : Alias) → IsIntended w.topo u c → c ≡ a

-- a row of the term that another tablet has is this tablet's own
pub row_at_home : (w : World) (u : ℕ) (a from : Alias) (index : ℕ) (x : Entry) → IsSoundWorld w → IntendsOnly w u a → numbered (w.tablets from).log index ≡ Some x
    → is_row_of u x ≡ true → has_row (w.tablets a).log u ≡ true
row_at_home w u a from zero x sound only here row = absurd (let none : None ≡ Some x = here in cc)
row_at_home w u a from (suc n) x sound only here row =
    let kind = row_kind x.kind u row in
    let fits = sound.rows from n x u kind.0 here kind.1 in
    let home = subst (λ (b : Alias). (k : ℕ) × (slice_get (w.tablets b).log k ≡ Some x)) (only kind.0 fits.intended) fits.at_home in
    row_tested (w.tablets a).log u (record { place = home.0; row = x; named = kind.0; there = home.1; is_row = kind.1 })

fed_leads : (w : World) (u : ℕ) (a from : Alias) (term before index : ℕ) (x : Entry) → IsSoundWorld w → IntendsOnly w u a
    → numbered (w.tablets from).log index ≡ Some x → Leads u (w.tablets a) → Leads u (accepts from term before index x (w.tablets a)).state
fed_leads w u a from term before index x sound only here h =
    chosen (LeadsBy u) (takes_from (w.tablets a).stand from term before) _ _ (λ takes row. absurd (of_row takes (now row))) (λ ignored. h)
  where
    -- it has the row already
    now : has_row (with_entry (w.tablets a).log x) u ≡ true → has_row (w.tablets a).log u ≡ true
    now row = of_test (holds (w.tablets a).log x.gtid) row
      where
        of_either : (b : Bool) → is_row_of u x ≡ b → (b || has_row (w.tablets a).log u) ≡ true → has_row (w.tablets a).log u ≡ true
        of_either true is k = row_at_home w u a from index x sound only here is
        of_either false is k = k

        of_test : (b : Bool) → has_row (cond b (w.tablets a).log ((w.tablets a).log ++ x ∷ [])) u ≡ true → has_row (w.tablets a).log u ≡ true
        of_test true k = k
        of_test false k = of_either (is_row_of u x) refl (sym (has_row-push (w.tablets a).log x u) ∙ k)

    -- and who leads takes nothing
    of_row : takes_from (w.tablets a).stand from term before ≡ true → has_row (w.tablets a).log u ≡ true → ⊥
    of_row takes row = false≢true (sym (ap (λ (s : Stand). takes_from s from term before) (h row)) ∙ takes)

-- ---- one step

-- what a step does to a tablet that does not go down with it
touched_leads : (config : Config) (w : World) (u : ℕ) (a : Alias) (e : Event) (t : TabletState) → IsSoundWorld w → IntendsOnly w u a
    → ((k d v : ℕ) (b : Alias) (call : Call) → IsPosted w.post k (contents.Asks d v b call) → v ≤ u) → ((keep : ℕ) → has_row (w.tablets a).log u ≡ true → e ≡ events.Crash a keep → ⊥)
    → Leads u (w.tablets a) → Touched config w a e t → Leads u t
touched_leads config w u a _ _ sound only low up h Untouched = h
touched_leads config w u a _ _ sound only low up h (Called k c v call me m here carries found) =
    call_leads w.group me v u call (w.tablets a) (sound.tablets a) (low k c v a call (record { message = m; at = here; carries = carries }))
    (ask_term w.topo v a call (subst (λ (x : Content). Fits w x) carries (sound.post k m here))) h
touched_leads config w u a _ _ sound only low up h (Fed k term before index from x m here carries taken) =
    let fed : Fits w (contents.Feeds from a term before index x) = subst (λ (y : Content). Fits w y) carries (sound.post k m here) in
    fed_leads w u a from term before index x sound only fed.0 h
touched_leads config w u a _ _ sound only low up h (Heard k term index from m here carries) =
    leads_either u (is_primary_of (w.tablets a).stand term) _ (w.tablets a) h h
touched_leads config w u a _ _ sound only low up h (WrittenBy c s me begun found) =
    write_leads u (w.tablets a) (primary_term (w.tablets a).stand) me s.client s.number h
touched_leads config w u a _ _ sound only low up h (WrittenLocal me found) =
    chosen (LeadsBy u) (is_down (w.tablets a).stand) _ _ (λ down. h) (λ not_down. own_leads u me entry_kinds.Local (w.tablets a) refl h)
touched_leads config w u a _ _ sound only low up h (Crashed keep) = λ row. absurd (up keep row refl)
touched_leads config w u a _ _ sound only low up h Restarted =
    chosen (LeadsBy u) (is_down (w.tablets a).stand) _ _ (λ down row. absurd (false≢true (sym (ap (λ (s : Stand). is_down s) (h row)) ∙ down))) (λ not_down. h)

-- ---- while the lock is kept

-- the tablet does not go down between these two steps, once it has the row of the term
abbrev pub StaysUp : Config → List Step → ℕ → ℕ → ℕ → Alias → Type 0
StaysUp config ss u i j a = (k keep : ℕ) (s : Step) → i < k → k < j → has_row ((world_at config ss k).tablets a).log u ≡ true → slice_get ss k ≡ Some s
    → s.event ≡ events.Crash a keep → ⊥

-- a tablet that has heard of no later term than n has no row of one
no_row_yet : (s : TabletState) (u n : ℕ) → IsSound s → s.seen ≤ n → u ≡ n + 1 → has_row s.log u ≡ true → ⊥
no_row_yet s u n sound low next row =
    let found = row_found s.log u row in
    let kind = row_kind found.1.kind u found.3 in
    let of_row : row_or_zero found.1 ≡ u = ap (λ (k : Kind). unwrap_or (row_term k) 0) kind.1 in
    let top = row_numbered s.log (suc found.0) found.1 found.2 in
    let rows = sound.rows in
    let seen = sound.seen in
    omega (arith, of_row, top, rows, seen, low, next)

pub only_intended : (config : Config) (ss : List Step) (u j k : ℕ) (a : Alias) → IsRun config ss → k ≤ j → IsIntended (world_at config ss j).topo u a
    → IntendsOnly (world_at config ss k) u a
only_intended config ss u j k a run le intended c other =
    one_intent (world_at config ss j) u c a
    (record { intent = intent_of_term_stays_over_steps _ _ u (record { term = u; alias = c }) (later_at config ss k j run le).topo other.intent }) intended

-- when the lock is taken, no tablet has the row of its term
leads_first : (config : Config) (ss : List Step) (c u i j : ℕ) (a : Alias) → IsRun config ss → IsKept ss c u i j → Leads u ((world_at config ss i).tablets a)
leads_first config ss c u i j a run kept row =
    let w : World = world_at config ss i in
    let step = step_along config (opening config) ss i _ run kept.taken in
    let takes = takes_term config w c u step.met (taken_now _ u step.answered) in
    absurd (no_row_yet (w.tablets a) u w.topo.term ((truthful_at config ss i run).sound.tablets a) ((termed_at config ss i run).seen a) takes.more row)

-- nor is there a call of a later term
calls_within : (config : Config) (ss : List Step) (c u i j k : ℕ) → IsRun config ss → IsKept ss c u i j → i ≤ k → k ≤ j
    → (n d v : ℕ) (b : Alias) (call : Call) → IsPosted (world_at config ss k).post n (contents.Asks d v b call) → v ≤ u
calls_within config ss c u i j k run kept le within n d v b call posted = of_test (nat_lt i k) refl
  where
    of_test : (t : Bool) → nat_lt i k ≡ t → v ≤ u
    of_test true is = (has_lock config ss c u i j run kept k (let l : i < k = grind (arith, nat_tests) in l) within).calls n d v b call posted
    of_test false is =
        let same : k ≡ i = (let l : k ≤ i = grind (arith, nat_tests) in omega (arith, l, le)) in
        let step = step_along config (opening config) ss i _ run kept.taken in
        let takes = takes_term config (world_at config ss i) c u step.met (taken_now _ u step.answered) in
        let low = (termed_at config ss i run).calls n d v b call (subst (λ (m : ℕ). IsPosted (world_at config ss m).post n (contents.Asks d v b call)) same posted) in
        let more = takes.more in
        omega (arith, low, more)

-- Step i takes the lock, which is kept up to step j. The tablet that its term intends leads in the term from the first moment at which it has its row,
-- as long as it does not go down.
pub stays_primary : (config : Config) (ss : List Step) (c u i j : ℕ) (a : Alias) → IsRun config ss → IsKept ss c u i j → StaysUp config ss u i j a
    → IsIntended (world_at config ss j).topo u a → (k : ℕ) → i ≤ k → k ≤ j → Leads u ((world_at config ss k).tablets a)
stays_primary config ss c u i j a run kept up intended zero le within =
    let same : i ≡ 0 = omega (arith, le) in
    subst (λ (n : ℕ). Leads u ((world_at config ss n).tablets a)) same (leads_first config ss c u i j a run kept)
stays_primary config ss c u i j a run kept up intended (suc k) le within =
    of_test (nat_lt k i) refl (λ l. stays_primary config ss c u i j a run kept up intended k l (omega (arith, within)))
  where
    stays_up : (s : Step) → slice_get ss k ≡ Some s → i ≤ k → (keep : ℕ) → has_row ((world_at config ss k).tablets a).log u ≡ true → s.event ≡ events.Crash a keep → ⊥
    stays_up s here l keep row is = of_order (nat_lt i k) refl
      where
        of_order : (b : Bool) → nat_lt i k ≡ b → ⊥
        of_order true e = up k keep s (let less : i < k = grind (arith, nat_tests) in less) (omega (arith, within)) row here is
        of_order false e =
            let same : i ≡ k = (let more : k ≤ i = grind (arith, nat_tests) in omega (arith, more, l)) in
            let taken : Some s ≡ Some (record { event = events.Take c; reply = replies.Term u }) = sym here ∙ sym (ap (λ (n : ℕ). slice_get ss n) same) ∙ kept.taken in
            let one : s ≡ record { event = events.Take c; reply = replies.Term u } = (let both = taken in cc) in
            let wrong : events.Take c ≡ events.Crash a keep = sym (ap (λ (y : Step). y.event) one) ∙ is in
            cc

    of_next : (v : World) → NextIs config ss k v → i ≤ k → Leads u ((world_at config ss k).tablets a) → Leads u (v.tablets a)
    of_next v (AtEnd is) l h = subst (λ (x : World). Leads u (x.tablets a)) is h
    of_next v (BySteps s here step is) l h =
        let w : World = world_at config ss k in
        subst (λ (x : World). Leads u (x.tablets a)) is
        (touched_leads config w u a s.event _ (truthful_at config ss k run).sound (only_intended config ss u j k a run (omega (arith, within)) intended)
        (calls_within config ss c u i j k run kept l (omega (arith, within))) (stays_up s here l) h (touched config w s.event a))

    of_test : (b : Bool) → nat_lt k i ≡ b → (i ≤ k → Leads u ((world_at config ss k).tablets a)) → Leads u ((world_at config ss (suc k)).tablets a)
    of_test true e rest =
        let same : i ≡ suc k = (let l : k < i = grind (arith, nat_tests) in omega (arith, l, le)) in
        subst (λ (n : ℕ). Leads u ((world_at config ss n).tablets a)) same (leads_first config ss c u i j a run kept)
    of_test false e rest = let l : i ≤ k = grind (arith, nat_tests) in of_next (world_at config ss (suc k)) (next_is config ss k run) l (rest l)

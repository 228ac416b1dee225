-- That the definitions are moves, and what a refusal changes.
use Rattle.std.proofs.Common.{◌≡◌, ℕ, ◌≤◌, ◌<◌, Bool, true, false, refl, ap, sym, subst, arith, cond, ◌&&◌, ◌||◌, ◌==◌, nat_lt, Option, Some, None}
use Rattle.std.proofs.lemmas.Bool.Decides.{nat_tests}
use Rattle.shard_names.specs.declared.alias.Alias.{Alias}
use Rattle.shard_names.specs.declared.tablet.Tablet.{Tablet}
use Rattle.shard_names.proofs.TabletLemmas.{both_right}
use Rattle.gtid_sets.specs.declared.entry.Entry.{Entry}
use Rattle.gtid_sets.specs.declared.entry.Kind.TheVariants as kind
use Rattle.gtid_sets.specs.Position.{Position, covers}
use Rattle.shard_calls.specs.declared.call.Call.{Call}
use Rattle.shard_calls.specs.declared.call.Call.TheVariants as call
use Rattle.shard_calls.specs.declared.answer.Answer.{Answer}
use Rattle.shard_calls.specs.declared.answer.Answer.TheVariants as answer
use Rattle.shard_calls.specs.declared.outcome.Written.{Written}
use Rattle.shard_calls.specs.declared.outcome.Written.TheVariants as written
use Rattle.shard_calls.specs.declared.stand.Stand.{Stand}
use Rattle.shard_calls.specs.declared.stand.Stand.TheVariants as stand
use Rattle.replication.specs.Acks.{raised}
use Rattle.shard_calls.specs.declared.group.Group.{Group}
use Rattle.shard_calls.specs.Stands.{is_down, is_stopped, is_primary_of, is_replica_in, is_feeder_in, primary_term, takes_from}
use Rattle.gtid_sets.specs.Logs.{position_of, has_row, newest_row, newest_row_names, row_or_zero}
use Rattle.shard_calls.specs.Tablets.{TabletState, Verdict, only_says, in_term, stops, demotes, promotes, joins, feeds, waits_for_position, waits_told, verdict, after_call, accepts, after_ack, writes_own}
use Rattle.shard_calls.specs.Moves.{TabletMove, Stays, Sees, Promises, Enters, Takes, Writes, Hears, GoesDown, ComesUp}
use Rattle.shard_calls.specs.Laws.{AreMoves, FitsTerm, IsRefusal, RefusalChangesSeenAlone, StaleTermIsRefused}

-- ---- calls are moves

-- the tablet that has seen the term
abbrev seeing : TabletState → ℕ → TabletState
seeing s u = record s { seen = u }

in_term_moves : (u : ℕ) (s : TabletState) (f : TabletState → Verdict Answer) → (s.seen ≤ u → TabletMove s (f (seeing s u)).state) → TabletMove s (in_term u s f).state
in_term_moves u s f h =
    elim (nat_lt u s.seen) as (λ b. nat_lt u s.seen ≡ b → TabletMove s (cond b (only_says s (answer.StaleTerm s.seen)) (f (seeing s u))).state) [
      | true ↦ λ e. Stays
      | false ↦ λ e. h (let low : s.seen ≤ u = grind (arith, nat_tests) in low)
    ] refl

stop_moves : (u : ℕ) (s : TabletState) → s.promised ≤ u → s.seen ≤ u → TabletMove s (stops u (seeing s u)).state
stop_moves u s more later =
    elim (s.promised == u) as (λ b. TabletMove s (cond b (seeing s u) (record s { seen = u; promised = u; stand = stand.Stopped }))) [
      | true ↦ Sees u later
      | false ↦ Promises u u stand.Stopped later more (omega arith) tt
    ]

-- a choice between verdicts keeps what each of them has
pub chosen : {A : Type 0} (P : Verdict A → Type 0) (b : Bool) (v w : Verdict A) → (b ≡ true → P v) → (b ≡ false → P w) → P (cond b v w)
chosen P true v w p q = p refl
chosen P false v w p q = q refl

demote_moves : (me : Tablet) (u : ℕ) (s : TabletState) → s.promised ≤ u → s.seen ≤ u → TabletMove s (demotes me u (seeing s u)).state
demote_moves me u s more later =
    chosen (λ v. TabletMove s v.state) (s.promised == u) _ _
    (λ there. Sees u later)
    (λ other. chosen (λ v. TabletMove s v.state) (newest_row_names s.log me.alias) _ _ (λ own. Promises u u (stand.Demoted (newest_row s.log) u) later more (omega arith) (refl, refl)) (λ no_own. Sees u later))

promote_moves : (me : Tablet) (u : ℕ) (p : Position) (s : TabletState) → s.promised ≤ u → s.seen ≤ u → TabletMove s (promotes me u p (seeing s u)).state
promote_moves me u p s more later =
    chosen (λ v. TabletMove s v.state) (has_row s.log u) _ _
    (λ there. Sees u later)
    (λ none. chosen (λ v. TabletMove s v.state) (covers (position_of s.log) p) _ _ (λ caught. Enters me u p later more none caught) (λ short. Sees u later))

join_moves : (u : ℕ) (source : Alias) (t : ℕ) (p : Position) (s : TabletState) → t ≤ u → s.seen ≤ u → TabletMove s (joins source t p (seeing s u)).state
join_moves u source t p s fits later =
    chosen (λ v. TabletMove s v.state) (nat_lt t s.promised) _ _
    (λ ahead. Sees u later)
    (λ fresh. chosen (λ v. TabletMove s v.state) (is_primary_of s.stand t || is_replica_in s.stand t) _ _
    (λ kept. Sees u later)
    (λ other. chosen (λ v. TabletMove s v.state) (covers p (position_of s.log)) _ _
    (λ inside. Promises u t (stand.Replica source t 1) later (let more : s.promised ≤ t = grind (arith, nat_tests) in more) fits (refl, refl))
    (λ errant. Sees u later)))

feed_moves : (u : ℕ) (s : TabletState) → s.seen ≤ u → TabletMove s (feeds u (seeing s u)).state
feed_moves u s later =
    chosen (λ v. TabletMove s v.state) (is_feeder_in s.stand u) _ _
    (λ feeder. Sees u later)
    (λ other. chosen (λ v. TabletMove s v.state) (is_stopped s.stand && (s.promised == u)) _ _
    (λ stopped. of_term (let test = both_right (is_stopped s.stand) (s.promised == u) stopped in grind (arith, nat_tests)))
    (λ keeps. Sees u later))
  where
    of_term : s.promised ≡ u → TabletMove s (record s { seen = u; stand = stand.Feeder u })
    of_term is = subst (λ (n : ℕ). TabletMove s (record s { seen = u; promised = n; stand = stand.Feeder u })) (sym is) (Promises u u (stand.Feeder u) later (omega (arith, is)) (omega arith) refl)

call_moves : (g : Group) (me : Tablet) (u : ℕ) (c : Call) (s : TabletState) → FitsTerm u c → s.promised ≤ s.seen → TabletMove s (after_call g me u c s)
call_moves g me u call.Status s fits low = Stays
call_moves g me u call.Stop s fits low = in_term_moves u s (stops u) (λ later. stop_moves u s (omega arith) later)
call_moves g me u call.Demote s fits low = in_term_moves u s (demotes me u) (λ later. demote_moves me u s (omega arith) later)
call_moves g me u (call.Promote p) s fits low = in_term_moves u s (promotes me u p) (λ later. promote_moves me u p s (omega arith) later)
call_moves g me u (call.SetSource source t p) s fits low = in_term_moves u s (joins source t p) (λ later. join_moves u source t p s fits later)
call_moves g me u call.Feed s fits low = in_term_moves u s (feeds u) (λ later. feed_moves u s later)
call_moves g me u (call.WaitFor p until) s fits low = in_term_moves u s (waits_for_position p) (λ later. Sees u later)
call_moves g me u (call.WaitTold until) s fits low = in_term_moves u s (waits_told g me u) (λ later. Sees u later)

-- ---- the others are moves

-- what takes an entry is a replica in the entry's term
taken_from : (at : Stand) (from : Alias) (term after : ℕ) → takes_from at from term after ≡ true → (source : Alias) × (next : ℕ) × (at ≡ stand.Replica source term next)
taken_from stand.Down from term after h = absurd (cc)
taken_from stand.Stopped from term after h = absurd (cc)
taken_from (stand.Primary t) from term after h = absurd (cc)
taken_from (stand.Demoted t by) from term after h = absurd (cc)
taken_from (stand.Replica source t next) from term after h =
    let same : t ≡ term = grind (arith, nat_tests) in
    (source, next, ap (λ (u : ℕ). stand.Replica source u next) same)
taken_from (stand.Feeder t) from term after h = absurd (cc)

entry_moves : (from : Alias) (term after index : ℕ) (e : Entry) (s : TabletState) → row_or_zero e ≤ term → TabletMove s (accepts from term after index e s).state
entry_moves from term after index e s low =
    chosen (λ v. TabletMove s v.state) (takes_from s.stand from term after) _ _
    (λ takes. let at = taken_from s.stand from term after takes in Takes at.0 term at.1 index e at.2 low)
    (λ ignored. Stays)

ack_moves : (from : Alias) (term index : ℕ) (s : TabletState) → TabletMove s (after_ack from term index s)
ack_moves from term index s =
    elim (is_primary_of s.stand term) as (λ b. TabletMove s (cond b (record s { acked = raised from index s.acked }) s)) [
      | true ↦ Hears _
      | false ↦ Stays
    ]

write_moves : (o : Option ℕ) (me : Tablet) (client number : ℕ) (s : TabletState)
    → TabletMove s (elim o as (λ _. Verdict Written) [ Some t ↦ writes_own me (kind.Write t client number) s | None ↦ only_says s (written.NotPrimary s.stand) ]).state
write_moves None me client number s = Stays
write_moves (Some t) me client number s = Writes me (kind.Write t client number) refl

pub are_moves : AreMoves
are_moves = record {
  a_call = call_moves;
  an_entry = entry_moves;
  an_ack = ack_moves;
  a_write = λ me client number s. write_moves (primary_term s.stand) me client number s;
  a_local_write = λ me s. chosen (λ v. TabletMove s v.state) (is_down s.stand) _ _ (λ down. Stays) (λ up. Writes me kind.Local refl);
  a_crash = λ s. GoesDown;
  a_restart = λ s. chosen (λ v. TabletMove s v.state) (is_down s.stand) _ _ (λ down. ComesUp) (λ up. Stays);
}

-- ---- refusals

abbrev SeenAlone : TabletState → Verdict Answer → Type 0
SeenAlone s v = IsRefusal v.says → v.state ≡ record s { seen = v.state.seen }

alone_in_term : (u : ℕ) (s : TabletState) (f : TabletState → Verdict Answer) → SeenAlone s (f (seeing s u)) → SeenAlone s (in_term u s f)
alone_in_term u s f h = chosen (SeenAlone s) (nat_lt u s.seen) (only_says s (answer.StaleTerm s.seen)) (f (seeing s u)) (λ stale r. refl) (λ fresh. h)

refused_alone : (g : Group) (me : Tablet) (u : ℕ) (c : Call) (s : TabletState) → SeenAlone s (verdict g me u c s)
refused_alone g me u call.Status s = λ r. absurd r
refused_alone g me u call.Stop s = alone_in_term u s (stops u) (λ r. absurd r)
refused_alone g me u call.Demote s = alone_in_term u s (demotes me u)
    (chosen (SeenAlone s) (s.promised == u) _ _ (λ e r. refl) (λ e. chosen (SeenAlone s) (newest_row_names s.log me.alias) _ _ (λ e r. absurd r) (λ e r. refl)))
refused_alone g me u (call.Promote p) s = alone_in_term u s (promotes me u p)
    (chosen (SeenAlone s) (has_row s.log u) _ _ (λ e r. refl) (λ e. chosen (SeenAlone s) (covers (position_of s.log) p) _ _ (λ e r. absurd r) (λ e r. refl)))
refused_alone g me u (call.SetSource source t p) s = alone_in_term u s (joins source t p)
    (chosen (SeenAlone s) (nat_lt t s.promised) _ _ (λ e r. refl)
    (λ e. chosen (SeenAlone s) (is_primary_of s.stand t || is_replica_in s.stand t) _ _ (λ e r. refl)
    (λ e. chosen (SeenAlone s) (covers p (position_of s.log)) _ _ (λ e r. absurd r) (λ e r. refl))))
refused_alone g me u call.Feed s = alone_in_term u s (feeds u)
    (chosen (SeenAlone s) (is_feeder_in s.stand u) _ _ (λ e r. absurd r)
    (λ e. chosen (SeenAlone s) (is_stopped s.stand && (s.promised == u)) _ _ (λ e r. absurd r) (λ e r. refl)))
refused_alone g me u (call.WaitFor p until) s = alone_in_term u s (waits_for_position p) (λ r. refl)
refused_alone g me u (call.WaitTold until) s = alone_in_term u s (waits_told g me u) (λ r. refl)

pub refusal_changes_seen_alone : RefusalChangesSeenAlone
refusal_changes_seen_alone g me u c s r = refused_alone g me u c s r

-- ---- stale terms

stale : (u : ℕ) (s : TabletState) (f : TabletState → Verdict Answer) → u < s.seen → in_term u s f ≡ only_says s (answer.StaleTerm s.seen)
stale u s f old = let below : nat_lt u s.seen ≡ true = grind (arith, nat_tests) in rw below refl

pub stale_term_is_refused : StaleTermIsRefused
stale_term_is_refused g me u call.Status s asks old = absurd asks
stale_term_is_refused g me u call.Stop s asks old = stale u s (stops u) old
stale_term_is_refused g me u call.Demote s asks old = stale u s (demotes me u) old
stale_term_is_refused g me u (call.Promote p) s asks old = stale u s (promotes me u p) old
stale_term_is_refused g me u (call.SetSource source t p) s asks old = stale u s (joins source t p) old
stale_term_is_refused g me u call.Feed s asks old = stale u s (feeds u) old
stale_term_is_refused g me u (call.WaitFor p until) s asks old = stale u s (waits_for_position p) old
stale_term_is_refused g me u (call.WaitTold until) s asks old = stale u s (waits_told g me u) old

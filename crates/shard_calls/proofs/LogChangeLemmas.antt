-- How one step changes the log of a tablet: not at all, or by one entry at its end.
use Rattle.std.proofs.Common.{◌≡◌, ℕ, ◌≤◌, Bool, true, false, refl, ap, sym, subst, ◌∙◌, arith, List, [], ◌∷◌, ◌++◌, cond, ◌&&◌, ◌||◌, ◌==◌, nat_lt, Option, Some, None, length, length-append}
use Rattle.shard_names.specs.declared.alias.Alias.{Alias}
use Rattle.shard_names.specs.declared.tablet.Tablet.{Tablet}
use Rattle.shard_names.specs.Tablets.{tablet_of}
use Rattle.gtid_sets.specs.declared.entry.Entry.{Entry}
use Rattle.gtid_sets.specs.declared.entry.Kind.{Kind}
use Rattle.gtid_sets.specs.declared.entry.Kind.TheVariants as kinds
use Rattle.gtid_sets.specs.Position.{Position, covers}
use Rattle.shard_calls.specs.declared.call.Call.{Call}
use Rattle.shard_calls.specs.declared.call.Call.TheVariants as calls
use Rattle.shard_calls.specs.declared.answer.Answer.{Answer}
use Rattle.shard_calls.specs.declared.event.Event.{Event}
use Rattle.shard_calls.specs.declared.event.Event.TheVariants as events
use Rattle.shard_calls.specs.declared.outcome.Written.{Written}
use Rattle.shard_calls.specs.declared.outcome.Written.TheVariants as written
use Rattle.shard_calls.specs.declared.post.Content.TheVariants as contents
use Rattle.shard_calls.specs.declared.post.Message.{Message}
use Rattle.shard_calls.specs.Stands.{is_down, is_stopped, is_primary_of, is_replica_in, is_feeder_in, primary_term, takes_from}
use Rattle.gtid_sets.specs.Logs.{position_of, holds, has_row, row_term, with_own, newest_row_names}
use Rattle.shard_calls.specs.Tablets.{TabletState, Verdict, only_says, in_term, stops, demotes, promotes, joins, feeds, waits_for_position, waits_told, after_call, writes_own}
use Rattle.shard_calls.specs.World.{Config, World, numbered}
use Rattle.shard_calls.specs.Promotions.{IsNewIn}
use Rattle.shard_calls.proofs.LawLemmas.{chosen}
use Rattle.shard_calls.proofs.TouchLemmas.{Touched, Untouched, Called, Fed, Heard, WrittenBy, WrittenLocal, Crashed, Restarted}

pub data LogChange (config : Config) (w : World) (a : Alias) : Event → List Entry → Type 0 where
  SameLog : {e : Event} → LogChange config w a e (w.tablets a).log
  -- a delivered Promote of term u, of which the log has no row yet
  RowEnters : (k c u : ℕ) (p : Position) (me : Tablet) (m : Message) → numbered w.post k ≡ Some m → m.content ≡ contents.Asks c u a (calls.Promote p)
      → tablet_of config.tablets a ≡ Some me → has_row (w.tablets a).log u ≡ false → covers (position_of (w.tablets a).log) p ≡ true
      → LogChange config w a (events.Deliver k) (with_own me (kinds.Row u me.alias) (w.tablets a).log)
  -- a delivered entry that the log has not
  EntryComes : (k term before index : ℕ) (from : Alias) (x : Entry) (m : Message) → numbered w.post k ≡ Some m
      → m.content ≡ contents.Feeds from a term before index x → takes_from (w.tablets a).stand from term before ≡ true → holds (w.tablets a).log x.gtid ≡ false
      → LogChange config w a (events.Deliver k) ((w.tablets a).log ++ x ∷ [])
  -- an entry of its own that is no row
  OwnEntry : {e : Event} (me : Tablet) (k : Kind) → row_term k ≡ None → tablet_of config.tablets a ≡ Some me → LogChange config w a e (with_own me k (w.tablets a).log)

-- a choice between two states of the same log
same_either : (b : Bool) (s t u : TabletState) → t.log ≡ s.log → u.log ≡ s.log → (cond b t u).log ≡ s.log
same_either true s t u p q = p
same_either false s t u p q = q

same : (config : Config) (w : World) (a : Alias) (e : Event) (log : List Entry) → log ≡ (w.tablets a).log → LogChange config w a e log
same config w a e log is = subst (λ (l : List Entry). LogChange config w a e l) (sym is) SameLog

abbrev OfVerdict : Config → World → Alias → Event → Verdict Answer → Type 0
OfVerdict config w a e v = LogChange config w a e v.state.log

-- a call that is not stale
in_term_changes : (config : Config) (w : World) (a : Alias) (e : Event) (u : ℕ) (f : TabletState → Verdict Answer)
    → OfVerdict config w a e (f (record (w.tablets a) { seen = u })) → OfVerdict config w a e (in_term u (w.tablets a) f)
in_term_changes config w a e u f h = chosen (OfVerdict config w a e) (nat_lt u (w.tablets a).seen) _ (f (record (w.tablets a) { seen = u })) (λ stale. SameLog) (λ fresh. h)

call_changes : (config : Config) (w : World) (a : Alias) (k c u : ℕ) (call : Call) (me : Tablet) (m : Message) → numbered w.post k ≡ Some m
    → m.content ≡ contents.Asks c u a call → tablet_of config.tablets a ≡ Some me
    → LogChange config w a (events.Deliver k) (after_call w.group me u call (w.tablets a)).log
call_changes config w a k c u calls.Status me m here carries found = SameLog
call_changes config w a k c u calls.Stop me m here carries found =
    in_term_changes config w a (events.Deliver k) u (stops u)
    (same config w a (events.Deliver k) _ (same_either ((w.tablets a).promised == u) (w.tablets a) _ _ refl refl))
call_changes config w a k c u calls.Demote me m here carries found =
    in_term_changes config w a (events.Deliver k) u (demotes me u)
    (chosen (OfVerdict config w a (events.Deliver k)) ((w.tablets a).promised == u) _ _ (λ there. SameLog)
    (λ other. chosen (OfVerdict config w a (events.Deliver k)) (newest_row_names (w.tablets a).log me.alias) _ _ (λ own. SameLog) (λ no_own. SameLog)))
call_changes config w a k c u (calls.Promote p) me m here carries found =
    in_term_changes config w a (events.Deliver k) u (promotes me u p)
    (chosen (OfVerdict config w a (events.Deliver k)) (has_row (w.tablets a).log u) _ _ (λ there. SameLog)
    (λ none. chosen (OfVerdict config w a (events.Deliver k)) (covers (position_of (w.tablets a).log) p) _ _
    (λ caught. RowEnters k c u p me m here carries found none caught) (λ short. SameLog)))
call_changes config w a k c u (calls.SetSource source t p) me m here carries found =
    in_term_changes config w a (events.Deliver k) u (joins source t p)
    (chosen (OfVerdict config w a (events.Deliver k)) (nat_lt t (w.tablets a).promised) _ _ (λ ahead. SameLog)
    (λ fresh. chosen (OfVerdict config w a (events.Deliver k)) (is_primary_of (w.tablets a).stand t || is_replica_in (w.tablets a).stand t) _ _ (λ kept. SameLog)
    (λ other. chosen (OfVerdict config w a (events.Deliver k)) (covers p (position_of (w.tablets a).log)) _ _ (λ inside. SameLog) (λ errant. SameLog))))
call_changes config w a k c u calls.Feed me m here carries found =
    in_term_changes config w a (events.Deliver k) u (feeds u)
    (chosen (OfVerdict config w a (events.Deliver k)) (is_feeder_in (w.tablets a).stand u) _ _ (λ feeder. SameLog)
    (λ other. chosen (OfVerdict config w a (events.Deliver k)) (is_stopped (w.tablets a).stand && ((w.tablets a).promised == u)) _ _ (λ stopped. SameLog) (λ keeps. SameLog)))
call_changes config w a k c u (calls.WaitFor p until) me m here carries found =
    in_term_changes config w a (events.Deliver k) u (waits_for_position p) SameLog
call_changes config w a k c u (calls.WaitTold until) me m here carries found =
    in_term_changes config w a (events.Deliver k) u (waits_told w.group me u) SameLog

entry_changes : (config : Config) (w : World) (a : Alias) (k term before index : ℕ) (from : Alias) (x : Entry) (m : Message) (b : Bool) → numbered w.post k ≡ Some m
    → m.content ≡ contents.Feeds from a term before index x → takes_from (w.tablets a).stand from term before ≡ true → holds (w.tablets a).log x.gtid ≡ b
    → LogChange config w a (events.Deliver k) (cond b (w.tablets a).log ((w.tablets a).log ++ x ∷ []))
entry_changes config w a k term before index from x m true here carries takes held = SameLog
entry_changes config w a k term before index from x m false here carries takes held = EntryComes k term before index from x m here carries takes held

write_changes : (config : Config) (w : World) (a : Alias) (e : Event) (o : Option ℕ) (me : Tablet) (client number : ℕ) → tablet_of config.tablets a ≡ Some me
    → LogChange config w a e (elim o as (λ _. Verdict Written) [ Some t ↦ writes_own me (kinds.Write t client number) (w.tablets a) | None ↦ only_says (w.tablets a) (written.NotPrimary (w.tablets a).stand) ]).state.log
write_changes config w a e None me client number found = SameLog
write_changes config w a e (Some t) me client number found = OwnEntry me (kinds.Write t client number) refl found

pub log_changes : (config : Config) (w : World) (a : Alias) (e : Event) (t : TabletState) → Touched config w a e t → LogChange config w a e t.log
log_changes config w a _ _ Untouched = SameLog
log_changes config w a _ _ (Called k c u call me m here carries found) = call_changes config w a k c u call me m here carries found
log_changes config w a _ _ (Fed k term before index from x m here carries taken) =
    chosen (λ v. LogChange config w a (events.Deliver k) v.state.log) (takes_from (w.tablets a).stand from term before) _ _
    (λ takes. entry_changes config w a k term before index from x m (holds (w.tablets a).log x.gtid) here carries takes refl) (λ ignored. SameLog)
log_changes config w a _ _ (Heard k term index from m here carries) =
    same config w a (events.Deliver k) _ (same_either (is_primary_of (w.tablets a).stand term) (w.tablets a) _ _ refl refl)
log_changes config w a _ _ (WrittenBy c s me begun found) = write_changes config w a (events.Write c a) (primary_term (w.tablets a).stand) me s.client s.number found
log_changes config w a _ _ (WrittenLocal me found) =
    chosen (λ v. LogChange config w a (events.Local a) v.state.log) (is_down (w.tablets a).stand) _ _ (λ down. SameLog) (λ up. OwnEntry me kinds.Local refl found)
log_changes config w a _ _ (Crashed keep) = SameLog
log_changes config w a _ _ Restarted =
    chosen (λ v. LogChange config w a (events.Restart a) v.state.log) (is_down (w.tablets a).stand) _ _ (λ down. SameLog) (λ up. SameLog)

-- ---- what is new in a log

-- nothing is new in a log that stays
pub stays : (log before : List Entry) (row : Entry) → IsNewIn log log before row → ⊥
stays log before row h =
    let size = ap (λ (es : List Entry). length es) h.split in
    omega (arith, size, length-append before (row ∷ h.rest), h.later)

-- what is new in a log with one more entry is this entry
pub last_is : (log before rest : List Entry) (e row : Entry) → log ++ e ∷ [] ≡ before ++ row ∷ rest → length log ≤ length before → row ≡ e
last_is [] [] rest e row split later = let same : e ∷ [] ≡ row ∷ rest = split in cc
last_is [] (b ∷ before) rest e row split later =
    let size = ap (λ (es : List Entry). length es) split in absurd (omega (arith, size, length-append before (row ∷ rest)))
last_is (x ∷ log) [] rest e row split later = absurd (omega arith)
last_is (x ∷ log) (b ∷ before) rest e row split later =
    let tails : log ++ e ∷ [] ≡ before ++ row ∷ rest = (let whole : x ∷ (log ++ e ∷ []) ≡ b ∷ (before ++ row ∷ rest) = split in cc) in
    last_is log before rest e row tails (omega arith)

-- an entry that is no row does not become one
pub no_row : (k : Kind) (t : ℕ) (a : Alias) → row_term k ≡ None → k ≡ kinds.Row t a → ⊥
no_row k t a none is = let some : None ≡ Some t = sym none ∙ ap (λ (x : Kind). row_term x) is in cc

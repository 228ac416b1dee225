-- What each move keeps of a tablet, and what any number of moves keeps.
use Rattle.std.proofs.Common.{◌≡◌, ℕ, ◌+◌, ◌≤◌, Bool, true, false, refl, ap, sym, subst, ◌∙◌, arith, List, [], ◌∷◌, ◌++◌, cond, ◌||◌, ◌==◌, append_assoc, Option, Some, None, unwrap_or}
use Rattle.std.proofs.lemmas.Bool.Decides.{nat_tests}
use Rattle.std.proofs.lemmas.List.{append-nil}
use Rattle.shard_base.specs.Lists.{IsFront}
use Rattle.gtid_sets.specs.declared.entry.Entry.{Entry}
use Rattle.shard_calls.specs.declared.stand.Stand.{Stand}
use Rattle.shard_calls.specs.declared.stand.Stand.TheVariants as stand
use Rattle.shard_calls.specs.Stands.{waits_for}
use Rattle.gtid_sets.specs.Logs.{holds, with_entry, row_term, row_or_zero, has_row, is_row_of, newest_row}
use Rattle.shard_calls.specs.Tablets.{TabletState}
use Rattle.shard_calls.specs.Moves.{TabletMove, TabletMoves, ComesOfPromise, Stays, Sees, Promises, Enters, Takes, Writes, Hears, GoesDown, ComesUp, Rests, Goes}
use Rattle.shard_calls.specs.Laws.{PromiseNeverFalls, SeenNeverFalls, LogOnlyGrows, IsPromised, HasItsRow, RowsWithin, WaitsForEntry, IsSound, KeepsSound, AlwaysSound}
use Rattle.shard_calls.proofs.LogLemmas.{newest-push, has_row-push}

-- ---- the terms

promise_step : {s t : TabletState} → TabletMove s t → s.promised ≤ t.promised
promise_step Stays = omega arith
promise_step (Sees seen later) = omega arith
promise_step (Promises seen promised to later more within comes) = more
promise_step (Enters me term p later more none caught) = more
promise_step (Takes source term before index e at low) = omega arith
promise_step (Writes me k none) = omega arith
promise_step (Hears acked) = omega arith
promise_step GoesDown = omega arith
promise_step ComesUp = omega arith

promise_steps : {s t : TabletState} → TabletMoves s t → s.promised ≤ t.promised
promise_steps Rests = omega arith
promise_steps (Goes before last) = omega (arith, promise_steps before, promise_step last)

pub promise_never_falls : PromiseNeverFalls TabletMove
promise_never_falls s t m = promise_step m

pub promise_never_falls_over_steps : PromiseNeverFalls TabletMoves
promise_never_falls_over_steps s t m = promise_steps m

seen_step : {s t : TabletState} → TabletMove s t → s.seen ≤ t.seen
seen_step Stays = omega arith
seen_step (Sees seen later) = later
seen_step (Promises seen promised to later more within comes) = later
seen_step (Enters me term p later more none caught) = later
seen_step (Takes source term before index e at low) = omega arith
seen_step (Writes me k none) = omega arith
seen_step (Hears acked) = omega arith
seen_step GoesDown = omega arith
seen_step ComesUp = omega arith

seen_steps : {s t : TabletState} → TabletMoves s t → s.seen ≤ t.seen
seen_steps Rests = omega arith
seen_steps (Goes before last) = omega (arith, seen_steps before, seen_step last)

pub seen_never_falls : SeenNeverFalls TabletMove
seen_never_falls s t m = seen_step m

pub seen_never_falls_over_steps : SeenNeverFalls TabletMoves
seen_never_falls_over_steps s t m = seen_steps m

-- ---- the log

pub whole : (log : List Entry) → IsFront log log
whole log = record { rest = []; split = sym (append-nil log) }

pub further : {xs ys zs : List Entry} → IsFront xs ys → IsFront ys zs → IsFront xs zs
further {xs} f g = record { rest = f.rest ++ g.rest; split = g.split ∙ ap (λ (l : List Entry). l ++ g.rest) f.split ∙ append_assoc xs f.rest g.rest }

pub one_more : (log : List Entry) (e : Entry) → IsFront log (log ++ e ∷ [])
one_more log e = record { rest = e ∷ []; split = refl }

pub unless_held : (b : Bool) (log : List Entry) (e : Entry) → IsFront log (cond b log (log ++ e ∷ []))
unless_held true log e = whole log
unless_held false log e = one_more log e

log_step : {s t : TabletState} → TabletMove s t → IsFront s.log t.log
log_step {s} Stays = whole s.log
log_step {s} (Sees seen later) = whole s.log
log_step {s} (Promises seen promised to later more within comes) = whole s.log
log_step {s} (Enters me term p later more none caught) = one_more s.log _
log_step {s} (Takes source term before index e at low) = unless_held (holds s.log e.gtid) s.log e
log_step {s} (Writes me k none) = one_more s.log _
log_step {s} (Hears acked) = whole s.log
log_step {s} GoesDown = whole s.log
log_step {s} ComesUp = whole s.log

log_steps : {s t : TabletState} → TabletMoves s t → IsFront s.log t.log
log_steps {s} Rests = whole s.log
log_steps (Goes before last) = further (log_steps before) (log_step last)

pub log_only_grows : LogOnlyGrows TabletMove
log_only_grows s t m = log_step m

pub log_only_grows_over_steps : LogOnlyGrows TabletMoves
log_only_grows_over_steps s t m = log_steps m

-- ---- what is promised

-- what a promise leads to stands in the promised term, and is no primary
promised_by : (log : List Entry) (promised : ℕ) (to : Stand) → ComesOfPromise log promised to → IsPromised promised to
promised_by log promised stand.Down h = absurd h
promised_by log promised stand.Stopped h = tt
promised_by log promised (stand.Primary t) h = absurd h
promised_by log promised (stand.Demoted t by) h = h.0
promised_by log promised (stand.Replica source t next) h = h.0
promised_by log promised (stand.Feeder t) h = h

within_by : (log : List Entry) (promised : ℕ) (to : Stand) → ComesOfPromise log promised to → RowsWithin log to
within_by log promised stand.Down h = absurd h
within_by log promised stand.Stopped h = tt
within_by log promised (stand.Primary t) h = absurd h
within_by log promised (stand.Demoted t by) h = let newest = h.1 in omega (arith, newest)
within_by log promised (stand.Replica source t next) h = tt
within_by log promised (stand.Feeder t) h = tt

waits_by : (log : List Entry) (promised : ℕ) (to : Stand) → ComesOfPromise log promised to → WaitsForEntry to
waits_by log promised stand.Down h = absurd h
waits_by log promised stand.Stopped h = tt
waits_by log promised (stand.Primary t) h = absurd h
waits_by log promised (stand.Demoted t by) h = tt
waits_by log promised (stand.Replica source t next) h = let first = h.1 in omega (arith, first)
waits_by log promised (stand.Feeder t) h = tt

no_primary : (promised : ℕ) (log : List Entry) (to : Stand) → ComesOfPromise log promised to → HasItsRow log to
no_primary promised log stand.Down h = absurd h
no_primary promised log stand.Stopped h = tt
no_primary promised log (stand.Primary t) h = absurd h
no_primary promised log (stand.Demoted t by) h = tt
no_primary promised log (stand.Replica source t next) h = tt
no_primary promised log (stand.Feeder t) h = tt

or_right : (a b : Bool) → b ≡ true → (a || b) ≡ true
or_right true b h = refl
or_right false b h = h

or_left : (a b : Bool) → a ≡ true → (a || b) ≡ true
or_left true b h = refl
or_left false b h = absurd (cc)

-- the row stays in the log
row_stays : (log : List Entry) (e : Entry) (at : Stand) → HasItsRow log at → HasItsRow (log ++ e ∷ []) at
row_stays log e stand.Down h = tt
row_stays log e stand.Stopped h = tt
row_stays log e (stand.Primary t) h = has_row-push log e t ∙ or_right (is_row_of t e) (has_row log t) h
row_stays log e (stand.Demoted t by) h = tt
row_stays log e (stand.Replica source t next) h = tt
row_stays log e (stand.Feeder t) h = tt

pub own_row : (log : List Entry) (e : Entry) (term : ℕ) → row_term e.kind ≡ Some term → has_row (log ++ e ∷ []) term ≡ true
own_row log e term is =
    let same : (term == term) ≡ true = grind (arith, nat_tests) in
    let here : is_row_of term e ≡ true = subst (λ (o : Option ℕ). (elim o as (λ _. Bool) [ Some t ↦ t == term | None ↦ false ]) ≡ true) (sym is) same in
    has_row-push log e term ∙ or_left (is_row_of term e) (has_row log term) here

-- one more entry whose row is promised
within : (log : List Entry) (e : Entry) (promised : ℕ) → newest_row log ≤ promised → row_or_zero e ≤ promised → newest_row (log ++ e ∷ []) ≤ promised
within log e promised low more = rw (newest-push log e) (grind arith)

within_unless_held : (b : Bool) (log : List Entry) (e : Entry) (promised : ℕ) → newest_row log ≤ promised → row_or_zero e ≤ promised
    → newest_row (cond b log (log ++ e ∷ [])) ≤ promised
within_unless_held true log e promised low more = low
within_unless_held false log e promised low more = within log e promised low more

-- an entry that is no row leaves the rows as they are
within_stays : (log : List Entry) (e : Entry) (at : Stand) → row_or_zero e ≤ 0 → RowsWithin log at → RowsWithin (log ++ e ∷ []) at
within_stays log e stand.Down none h = tt
within_stays log e stand.Stopped none h = tt
within_stays log e (stand.Primary t) none h = tt
within_stays log e (stand.Demoted t by) none h = within log e t h (omega (arith, none))
within_stays log e (stand.Replica source t next) none h = tt
within_stays log e (stand.Feeder t) none h = tt

no_row : (o : Option ℕ) (promised : ℕ) → o ≡ None → unwrap_or o 0 ≤ promised
no_row o promised none = rw none (omega arith)

sound_step : {s t : TabletState} → TabletMove s t → IsSound s → IsSound t
sound_step Stays sound = sound
sound_step {s} (Sees seen later) sound = record {
  seen = omega (arith, sound.seen);
  stands = sound.stands;
  rows = sound.rows;
  own_row = sound.own_row;
  demoted = sound.demoted;
  waits = sound.waits;
}
sound_step {s} (Promises seen promised to later more within comes) sound = record {
  seen = within;
  stands = promised_by s.log promised to comes;
  rows = omega (arith, sound.rows);
  own_row = no_primary promised s.log to comes;
  demoted = within_by s.log promised to comes;
  waits = waits_by s.log promised to comes;
}
sound_step {s} (Enters me term p later more none caught) sound = record {
  seen = omega arith;
  stands = refl;
  rows = within s.log _ term (omega (arith, sound.rows)) (omega arith);
  own_row = own_row s.log _ term refl;
  demoted = tt;
  waits = tt;
}
sound_step {s} (Takes source term before index e at low) sound =
    let same : term ≡ s.promised = subst (λ (x : Stand). IsPromised s.promised x) at sound.stands in
    record {
      seen = sound.seen;
      stands = subst (λ (x : Stand). IsPromised s.promised (waits_for x (index + 1))) (sym at) same;
      rows = within_unless_held (holds s.log e.gtid) s.log e s.promised sound.rows (omega arith);
      own_row = subst (λ (x : Stand). HasItsRow (with_entry s.log e) (waits_for x (index + 1))) (sym at) tt;
      demoted = subst (λ (x : Stand). RowsWithin (with_entry s.log e) (waits_for x (index + 1))) (sym at) tt;
      waits = subst (λ (x : Stand). WaitsForEntry (waits_for x (index + 1))) (sym at) (omega arith);
    }
sound_step {s} (Writes me k none) sound = record {
  seen = sound.seen;
  stands = sound.stands;
  rows = within s.log _ s.promised sound.rows (no_row (row_term k) s.promised none);
  own_row = row_stays s.log _ s.stand sound.own_row;
  demoted = within_stays s.log _ s.stand (no_row (row_term k) 0 none) sound.demoted;
  waits = sound.waits;
}
sound_step (Hears acked) sound = record {
  seen = sound.seen;
  stands = sound.stands;
  rows = sound.rows;
  own_row = sound.own_row;
  demoted = sound.demoted;
  waits = sound.waits;
}
sound_step GoesDown sound = record { seen = sound.seen; stands = tt; rows = sound.rows; own_row = tt; demoted = tt; waits = tt }
sound_step ComesUp sound = record { seen = sound.seen; stands = tt; rows = sound.rows; own_row = tt; demoted = tt; waits = tt }

sound_steps : {s t : TabletState} → TabletMoves s t → IsSound s → IsSound t
sound_steps Rests sound = sound
sound_steps (Goes before last) sound = sound_step last (sound_steps before sound)

pub keeps_sound : KeepsSound TabletMove
keeps_sound s t m sound = sound_step m sound

pub keeps_sound_over_steps : KeepsSound TabletMoves
keeps_sound_over_steps s t m sound = sound_steps m sound

pub always_sound : AlwaysSound
always_sound s m = sound_steps m (record { seen = omega arith; stands = tt; rows = omega arith; own_row = tt; demoted = tt; waits = tt })

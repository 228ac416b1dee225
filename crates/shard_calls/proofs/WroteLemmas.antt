-- What a command wrote stands in the log of its tablet.
use Rattle.std.proofs.Common.{◌≡◌, ◌⊎◌, inl, inr, ℕ, zero, suc, ◌+◌, Bool, true, false, ◌==◌, refl, ap, sym, subst, ◌∙◌, arith, List, [], ◌∷◌, ◌++◌, cond, Option, Some, None, Result, Ok, Err, option_map, unwrap_or, length}
use Rattle.std.proofs.lemmas.Bool.Decides.{nat_tests}
use Rattle.std.specs.List.{slice_get}
use Rattle.shard_names.specs.declared.alias.Alias.{Alias}
use Rattle.shard_names.specs.declared.tablet.Tablet.{Tablet}
use Rattle.shard_names.specs.Tablets.{tablet_of}
use Rattle.shard_names.proofs.TabletLemmas.{alias_eq_itself}
use Rattle.gtid_sets.specs.declared.entry.Entry.{Entry}
use Rattle.gtid_sets.specs.declared.entry.Kind.TheVariants as kinds
use Rattle.topo_lock.specs.Topology.{answer_take, answer_intend, answer_record, answer_drain}
use Rattle.topo_lock.specs.declared.lock.LockTaken.{LockTaken}
use Rattle.topo_lock.specs.declared.lock.TopoFault.{TopoFault}
use Rattle.topo_lock.specs.declared.lock.TopoFault.TheVariants as faults
use Rattle.shard_calls.specs.declared.event.Event.{Event}
use Rattle.shard_calls.specs.declared.event.Event.TheVariants as events
use Rattle.shard_calls.specs.declared.outcome.Written.{Written}
use Rattle.shard_calls.specs.declared.outcome.Written.TheVariants as writtens
use Rattle.shard_calls.specs.declared.state.CommandState.{CommandState}
use Rattle.shard_calls.specs.declared.state.Wrote.{Wrote}
use Rattle.shard_calls.specs.Stands.{primary_term}
use Rattle.gtid_sets.specs.Logs.{with_own, next_gtid}
use Rattle.shard_calls.specs.Tablets.{TabletState, Verdict, only_says, writes, writes_own}
use Rattle.shard_calls.specs.World.{Config, World, opening, numbered, changed_at, with_act, open_command, term_of}
use Rattle.shard_calls.specs.Messages.{why_given_up, offer_to}
use Rattle.shard_calls.specs.Begins.{ends_by}
use Rattle.shard_calls.specs.Locks.{takes_by, with_taken, by_term, reads, intends_in, with_intended, records_in, drains_in, with_recorded, with_drained, as_released, releases_in}
use Rattle.shard_calls.specs.Deliveries.{if_declared}
use Rattle.shard_base.specs.Options.{◌>>=◌}
use Rattle.shard_calls.specs.declared.state.Act.{Act}
use Rattle.shard_calls.specs.Writes.{writes_in, writes_at, with_written, told_act, with_told, tell_of}
use Rattle.shard_calls.specs.Table.{after}
use Rattle.shard_calls.specs.Promotions.{IsWriteOf}
use Rattle.shard_calls.proofs.ListLemmas.{numbered_changed, numbered_other, at_end}
use Rattle.shard_calls.proofs.WorldLemmas.{IsSoundWorld, IsLater, numbered_front}
use Rattle.shard_calls.proofs.StepLemmas.{is_later}
use Rattle.shard_calls.proofs.ActLemmas.{if_open_is, list_declared, list_delivery, list_up, list_offer}

abbrev pub wrote_in : Option CommandState → Option Wrote
wrote_in None = None
wrote_in (Some s) = s.wrote

pub data NewWrote (config : Config) (w : World) : Event → Option Wrote → Type 0 where
  HasWritten : (d t : ℕ) (a : Alias) (s : CommandState) (me : Tablet) → open_command w d ≡ Some s → tablet_of config.tablets a ≡ Some me
      → primary_term (w.tablets a).stand ≡ Some t
      → NewWrote config w (events.Write d a)
      (Some (record { gtid = next_gtid me.server (w.tablets a).log; alias = a; term = t; index = length (w.tablets a).log + 1 }))

abbrev pub WroteCases : Config → World → List CommandState → Event → ℕ → Type 0
WroteCases config w new e c = (wrote_in (numbered new c) ≡ wrote_in (numbered w.commands c)) ⊎ NewWrote config w e (wrote_in (numbered new c))

-- ---- lists

keep_wrote : (xs : List CommandState) (d c : ℕ) (f : CommandState → CommandState) → ((s : CommandState) → (f s).wrote ≡ s.wrote)
    → wrote_in (numbered (changed_at xs d f) c) ≡ wrote_in (numbered xs c)
keep_wrote xs d c f keeps = of_test (d == c) refl
  where
    mapped : (o : Option CommandState) → wrote_in (option_map f o) ≡ wrote_in o
    mapped None = refl
    mapped (Some s) = keeps s

    of_test : (b : Bool) → (d == c) ≡ b → wrote_in (numbered (changed_at xs d f) c) ≡ wrote_in (numbered xs c)
    of_test true e =
        let same : d ≡ c = grind (arith, nat_tests) in
        subst (λ (n : ℕ). wrote_in (numbered (changed_at xs d f) n) ≡ wrote_in (numbered xs n)) same
        (ap (λ (o : Option CommandState). wrote_in o) (numbered_changed xs d f) ∙ mapped (numbered xs d))
    of_test false e = ap (λ (o : Option CommandState). wrote_in o) (numbered_other xs d c f e)

get_push : (xs : List CommandState) (x : CommandState) (n : ℕ) → x.wrote ≡ None → wrote_in (slice_get (xs ++ x ∷ []) n) ≡ wrote_in (slice_get xs n)
get_push [] x zero none = none
get_push [] x (suc n) none = refl
get_push (y ∷ xs) x zero none = refl
get_push (y ∷ xs) x (suc n) none = get_push xs x n none

push_wrote : (xs : List CommandState) (x : CommandState) (c : ℕ) → x.wrote ≡ None → wrote_in (numbered (xs ++ x ∷ []) c) ≡ wrote_in (numbered xs c)
push_wrote xs x zero none = refl
push_wrote xs x (suc n) none = get_push xs x n none

-- ---- the rows

take_wrote : (w : World) (d c : ℕ) (o : Option CommandState) → wrote_in (numbered (takes_by w d o).commands c) ≡ wrote_in (numbered w.commands c)
take_wrote w d c None = refl
take_wrote w d c (Some s) = keep_wrote w.commands d c (with_taken (answer_take w.topo)) (keeps (answer_take w.topo))
  where
    keeps : (r : Result ℕ LockTaken) (x : CommandState) → (with_taken r x).wrote ≡ x.wrote
    keeps (Ok t) x = refl
    keeps (Err held) x = refl

by_wrote : (w : World) (c : ℕ) (f : ℕ → World) (o : Option ℕ) → ((t : ℕ) → wrote_in (numbered (f t).commands c) ≡ wrote_in (numbered w.commands c))
    → wrote_in (numbered (by_term o w f).commands c) ≡ wrote_in (numbered w.commands c)
by_wrote w c f None h = refl
by_wrote w c f (Some t) h = h t

intended_keeps : (a : Alias) (r : Result (Unit {0}) TopoFault) (x : CommandState) → (with_intended a r x).wrote ≡ x.wrote
intended_keeps a (Ok u) x = refl
intended_keeps a (Err (faults.LockLost current)) x = refl
intended_keeps a (Err (faults.IntentStands b)) x = refl

recorded_keeps : (a : Alias) (r : Result (Unit {0}) TopoFault) (x : CommandState) → (with_recorded a r x).wrote ≡ x.wrote
recorded_keeps a (Ok u) x = refl
recorded_keeps a (Err (faults.LockLost current)) x = refl
recorded_keeps a (Err (faults.IntentStands b)) x = refl

drained_keeps : (a : Alias) (r : Result (Unit {0}) TopoFault) (x : CommandState) → (with_drained a r x).wrote ≡ x.wrote
drained_keeps a (Ok u) x = refl
drained_keeps a (Err (faults.LockLost current)) x = refl
drained_keeps a (Err (faults.IntentStands b)) x = refl

tell_wrote : (w : World) (d c : ℕ) (o : Option Act) → wrote_in (numbered (with_told w d o).commands c) ≡ wrote_in (numbered w.commands c)
tell_wrote w d c None = refl
tell_wrote w d c (Some act) = keep_wrote w.commands d c (with_act act) (λ s. refl)

end_wrote : (w : World) (d c : ℕ) (o : Option CommandState) → wrote_in (numbered (ends_by w d o).commands c) ≡ wrote_in (numbered w.commands c)
end_wrote w d c None = refl
end_wrote w d c (Some s) = keep_wrote w.commands d c (λ x. record x { ended = true }) (λ x. refl)

abbrev says_by : Option ℕ → Tablet → CommandState → TabletState → Verdict Written
says_by o me s at =
    elim o as (λ _. Verdict Written) [ Some t ↦ writes_own me (kinds.Write t s.client s.number) at | None ↦ only_says at (writtens.NotPrimary at.stand) ]

written_wrote : (config : Config) (w : World) (d c : ℕ) (a : Alias) (s : CommandState) (me : Tablet) (o : Option ℕ) → open_command w d ≡ Some s
    → tablet_of config.tablets a ≡ Some me → primary_term (w.tablets a).stand ≡ o
    → WroteCases config w (changed_at w.commands d (with_written a (w.tablets a) (says_by o me s (w.tablets a)).says)) (events.Write d a) c
written_wrote config w d c a s me None begun found is = inl (keep_wrote w.commands d c _ (λ x. refl))
written_wrote config w d c a s me (Some t) begun found is = of_test (d == c) refl
  where
    f : CommandState → CommandState
    f = with_written a (w.tablets a) (writtens.Entry (next_gtid me.server (w.tablets a).log))

    at_own : wrote_in (numbered (changed_at w.commands d f) d)
        ≡ Some (record { gtid = next_gtid me.server (w.tablets a).log; alias = a; term = t; index = length (w.tablets a).log + 1 })
    at_own =
        ap (λ (o : Option CommandState). wrote_in o) (numbered_changed w.commands d f ∙ ap (λ (o : Option CommandState). option_map f o) (if_open_is (numbered w.commands d) s begun))
        ∙ ap (λ (o : Option ℕ). Some (let x : Wrote = record { gtid = next_gtid me.server (w.tablets a).log; alias = a; term = unwrap_or o 0; index = length (w.tablets a).log + 1 } in x)) is

    of_test : (b : Bool) → (d == c) ≡ b → WroteCases config w (changed_at w.commands d f) (events.Write d a) c
    of_test true e =
        let same : d ≡ c = grind (arith, nat_tests) in
        inr (subst (λ (n : ℕ). NewWrote config w (events.Write d a) (wrote_in (numbered (changed_at w.commands d f) n))) same
        (subst (λ (x : Option Wrote). NewWrote config w (events.Write d a) x) (sym at_own) (HasWritten d t a s me begun found is)))
    of_test false e = inl (ap (λ (o : Option CommandState). wrote_in o) (numbered_other w.commands d c f e))

declared_wrote : (config : Config) (w : World) (d c : ℕ) (a : Alias) (s : CommandState) (o : Option Tablet) → open_command w d ≡ Some s
    → tablet_of config.tablets a ≡ o → WroteCases config w (if_declared o w (writes_at w d a s)).commands (events.Write d a) c
declared_wrote config w d c a s None begun found = inl refl
declared_wrote config w d c a s (Some me) begun found = written_wrote config w d c a s me (primary_term (w.tablets a).stand) begun found refl

write_wrote : (config : Config) (w : World) (d c : ℕ) (a : Alias) (o : Option CommandState) → open_command w d ≡ o
    → WroteCases config w (writes_in config w d a o).commands (events.Write d a) c
write_wrote config w d c a None begun = inl refl
write_wrote config w d c a (Some s) begun = declared_wrote config w d c a s (tablet_of config.tablets a) begun refl

same_wrote : (config : Config) (w : World) (e : Event) (c : ℕ) (new : List CommandState) → new ≡ w.commands → WroteCases config w new e c
same_wrote config w e c new same = inl (ap (λ (xs : List CommandState). wrote_in (numbered xs c)) same)

wrote_cases : (config : Config) (w : World) (e : Event) (c : ℕ) → WroteCases config w (after config w e).commands e c
wrote_cases config w (events.Begin name command) c = inl (push_wrote w.commands _ c refl)
wrote_cases config w (events.Take d) c = inl (take_wrote w d c (open_command w d))
wrote_cases config w (events.Read d) c = inl (by_wrote w c (reads w d) (term_of w d) (λ t. keep_wrote w.commands d c _ (λ s. refl)))
wrote_cases config w (events.Intend d a) c =
    inl (by_wrote w c (intends_in w d a) (term_of w d) (λ t. keep_wrote w.commands d c _ (intended_keeps a (answer_intend w.topo t a))))
wrote_cases config w (events.Record d a) c =
    inl (by_wrote w c (records_in w d a) (term_of w d) (λ t. keep_wrote w.commands d c _ (recorded_keeps a (answer_record w.topo t))))
wrote_cases config w (events.Drain d a) c =
    inl (by_wrote w c (drains_in w d a) (term_of w d) (λ t. keep_wrote w.commands d c _ (drained_keeps a (answer_drain w.topo t))))
wrote_cases config w (events.Release d) c = inl (by_wrote w c (releases_in w d) (term_of w d) (λ t. keep_wrote w.commands d c as_released (λ s. refl)))
wrote_cases config w events.Lapse c = inl refl
wrote_cases config w (events.Send d a call) c = inl (keep_wrote w.commands d c _ (λ s. refl))
wrote_cases config w (events.Deliver k) c = same_wrote config w (events.Deliver k) c _ (list_delivery config w k (numbered w.post k))
wrote_cases config w (events.GiveUp d k) c = same_wrote config w (events.GiveUp d k) c _ (list_up w k (why_given_up w d k))
wrote_cases config w (events.Offer r) c = same_wrote config w (events.Offer r) c _ (list_offer w (offer_to w r))
wrote_cases config w (events.Write d a) c = write_wrote config w d c a (open_command w d) refl
wrote_cases config w (events.Tell d) c = inl (tell_wrote w d c (tell_of w d >>= told_act))
wrote_cases config w (events.Local a) c = same_wrote config w (events.Local a) c _ (list_declared w _ (tablet_of config.tablets a) (λ me. refl))
wrote_cases config w (events.Crash a keep) c = inl refl
wrote_cases config w (events.Restart a) c = inl refl
wrote_cases config w (events.Cut x y) c = inl refl
wrote_cases config w (events.Mend x y) c = inl refl
wrote_cases config w (events.Lose k) c = inl refl
wrote_cases config w (events.Tick ms) c = inl refl
wrote_cases config w (events.End d x) c = inl (end_wrote w d c (open_command w d))

-- ---- it stands there

pub record WroteFits (w : World) (x : Wrote) : Type 0 where
  pub entry : Entry
  pub at : numbered (w.tablets x.alias).log x.index ≡ Some entry
  pub gtid : entry.gtid ≡ x.gtid
  pub write : IsWriteOf x.term entry.kind

abbrev pub AllWroteFits : World → Type 0
AllWroteFits w = (c : ℕ) (x : Wrote) → wrote_in (numbered w.commands c) ≡ Some x → WroteFits w x

fits_later : (w v : World) (x : Wrote) → IsLater w v → WroteFits w x → WroteFits v x
fits_later w v x later h = record {
  entry = h.entry;
  at = numbered_front (w.tablets x.alias).log (v.tablets x.alias).log x.index h.entry (later.logs x.alias) h.at;
  gtid = h.gtid;
  write = h.write;
}

written_log : (config : Config) (w : World) (d t : ℕ) (a : Alias) (s : CommandState) (me : Tablet) → open_command w d ≡ Some s → tablet_of config.tablets a ≡ Some me
    → primary_term (w.tablets a).stand ≡ Some t
    → ((after config w (events.Write d a)).tablets a).log ≡ with_own me (kinds.Write t s.client s.number) (w.tablets a).log
written_log config w d t a s me begun found is =
    ap (λ (o : Option CommandState). ((writes_in config w d a o).tablets a).log) begun
    ∙ ap (λ (o : Option Tablet). ((if_declared o w (writes_at w d a s)).tablets a).log) found
    ∙ ap (λ (b : Bool). (cond b (writes me s.client s.number (w.tablets a)).state (w.tablets a)).log) (alias_eq_itself a)
    ∙ ap (λ (o : Option ℕ). (says_by o me s (w.tablets a)).state.log) is

at_last : (log : List Entry) (e : Entry) → numbered (log ++ e ∷ []) (length log + 1) ≡ Some e
at_last log e =
    let place : suc (length log) ≡ length log + 1 = omega arith in subst (λ (n : ℕ). numbered (log ++ e ∷ []) n ≡ Some e) place (at_end log e)

new_fits : (config : Config) (w : World) (e : Event) (o : Option Wrote) (x : Wrote) → NewWrote config w e o → o ≡ Some x → WroteFits (after config w e) x
new_fits config w _ _ x (HasWritten d t a s me begun found is) new =
    let same : (let y : Wrote = record { gtid = next_gtid me.server (w.tablets a).log; alias = a; term = t; index = length (w.tablets a).log + 1 } in y) ≡ x =
    (let some : Some (let y : Wrote = record { gtid = next_gtid me.server (w.tablets a).log; alias = a; term = t; index = length (w.tablets a).log + 1 } in y) ≡ Some x = new in cc) in
    subst (λ (y : Wrote). WroteFits (after config w (events.Write d a)) y) same (record {
      entry = record { gtid = next_gtid me.server (w.tablets a).log; kind = kinds.Write t s.client s.number };
      at = subst (λ (l : List Entry). numbered l (length (w.tablets a).log + 1) ≡ Some (record { gtid = next_gtid me.server (w.tablets a).log; kind = kinds.Write t s.client s.number }))
          (sym (written_log config w d t a s me begun found is)) (at_last (w.tablets a).log _);
      gtid = refl;
      write = refl;
    })

pub wrote_after : (config : Config) (w : World) (e : Event) → IsSoundWorld w → AllWroteFits w → AllWroteFits (after config w e)
wrote_after config w e sound fits c x here = of_cases (wrote_cases config w e c)
  where
    of_cases : WroteCases config w (after config w e).commands e c → WroteFits (after config w e) x
    of_cases (inl same) = fits_later w (after config w e) x (is_later config w e sound) (fits c x (sym same ∙ here))
    of_cases (inr new) = new_fits config w e _ x new here

pub wrote_opening : (config : Config) → AllWroteFits (opening config)
wrote_opening config c x here = absurd (nothing c here)
  where
    nothing : (n : ℕ) → wrote_in (numbered [] n) ≡ Some x → ⊥
    nothing zero h = let none : None ≡ Some x = h in cc
    nothing (suc n) h = let none : None ≡ Some x = h in cc

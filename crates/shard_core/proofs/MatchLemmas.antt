-- What is kept of actors and their commands, and the rows that leave who has what open.
use Rattle.std.proofs.Common.{◌≡◌, ◌⊎◌, inl, inr, ℕ, ◌<◌, List, true, false, Option, Some, None, Result, Ok, Err, refl, ap, sym, subst, ◌∙◌}
use Rattle.std.specs.List.{slice_get}
use Rattle.shard_names.specs.declared.alias.Alias.{Alias}
use Rattle.shard_names.specs.declared.tablet.Tablet.{Tablet}
use Rattle.shard_names.specs.Tablets.{tablet_of}
use Rattle.topo_lock.specs.Topology.{answer_take, answer_intend, answer_record, answer_drain}
use Rattle.topo_lock.specs.declared.lock.LockTaken.{LockTaken}
use Rattle.topo_lock.specs.declared.lock.TopoFault.{TopoFault}
use Rattle.topo_lock.specs.declared.lock.TopoFault.TheVariants as faults
use Rattle.shard_calls.specs.declared.outcome.Written.{Written}
use Rattle.shard_calls.specs.declared.outcome.Written.TheVariants as writtens
use Rattle.shard_calls.specs.declared.state.Act.{Act}
use Rattle.shard_calls.specs.declared.state.ActorState.{ActorState}
use Rattle.shard_calls.specs.declared.state.CommandState.{CommandState}
use Rattle.shard_calls.specs.World.{Config, World, changed_at, numbered, place_of, with_act}
use Rattle.shard_calls.specs.Tablets.{TabletState}
use Rattle.shard_calls.specs.Locks.{with_taken, takes_by, by_term, read_act, reads, with_intended, intends_in, with_recorded, records_in, with_drained, drains_in, as_released, releases_in}
use Rattle.shard_calls.specs.Deliveries.{if_declared}
use Rattle.shard_calls.specs.Writes.{with_written, write_verdict, writes_at, writes_in, with_told}
use Rattle.shard_calls.proofs.ListLemmas.{changed_at_cases}
use Rattle.shard_core.proofs.CommandFitLemmas.{LeavesAlone}
use Rattle.shard_core.proofs.ActorLemmas.{changed_at_other, changed_at_here}

-- what is kept of actors and commands, step by step
pub record Match (actors : List ActorState) (commands : List CommandState) : Type 0 where
  pub pending : (k c : ℕ) (a : ActorState) → slice_get actors k ≡ Some a → a.pending ≡ Some c
      → (s : CommandState) × (numbered commands c ≡ Some s) × (s.ended ≡ false) × (s.client ≡ k)
  pub opens : (c : ℕ) (s : CommandState) → numbered commands c ≡ Some s → s.ended ≡ false → (a : ActorState) × (slice_get actors s.client ≡ Some a) × (a.pending ≡ Some c)
  pub places : (c : ℕ) (s : CommandState) → numbered commands c ≡ Some s → place_of actors s.actor ≡ Some s.client
  pub earlier : (c d : ℕ) (s x : CommandState) → numbered commands c ≡ Some s → numbered commands d ≡ Some x → s.actor ≡ x.actor → c < d → s.ended ≡ true

-- ---- rows that leave who has what open

pub record Alike (x y : CommandState) : Type 0 where
  pub ended : x.ended ≡ y.ended
  pub client : x.client ≡ y.client
  pub actor : x.actor ≡ y.actor

itself : (x : CommandState) → Alike x x
itself x = record { ended = refl; client = refl; actor = refl }

record AllAlike (xs ys : List CommandState) : Type 0 where
  on : (c : ℕ) (x : CommandState) → numbered xs c ≡ Some x → (y : CommandState) × (numbered ys c ≡ Some y) × Alike x y
  back : (c : ℕ) (y : CommandState) → numbered ys c ≡ Some y → (x : CommandState) × (numbered xs c ≡ Some x) × Alike x y

changed_alike : (xs : List CommandState) (b : ℕ) (f : CommandState → CommandState) → ((x : CommandState) → Alike x (f x)) → AllAlike xs (changed_at xs b f)
changed_alike xs b f alike = record {
  on = λ c x here. on_cases c x here (changed_at_other xs b c f x here);
  back = λ c y here. back_cases c y (changed_at_cases xs b f c y here);
}
  where
    on_cases : (c : ℕ) (x : CommandState) → numbered xs c ≡ Some x → (numbered (changed_at xs b f) c ≡ Some x) ⊎ (b ≡ c)
        → (y : CommandState) × (numbered (changed_at xs b f) c ≡ Some y) × Alike x y
    on_cases c x here (inl k) = (x, k, itself x)
    on_cases c x here (inr k) =
        (f x, ap (λ (n : ℕ). numbered (changed_at xs n f) c) k ∙ changed_at_here xs c f x here, alike x)

    back_cases : (c : ℕ) (y : CommandState) → (numbered xs c ≡ Some y) ⊎ ((b ≡ c) × ((x : CommandState) × (numbered xs c ≡ Some x) × (f x ≡ y)))
        → (x : CommandState) × (numbered xs c ≡ Some x) × Alike x y
    back_cases c y (inl k) = (y, k, itself y)
    back_cases c y (inr k) = (k.1.0, k.1.1, subst (λ (v : CommandState). Alike k.1.0 v) k.1.2 (alike k.1.0))

match_alike : (actors : List ActorState) (xs ys : List CommandState) → AllAlike xs ys → Match actors xs → Match actors ys
match_alike actors xs ys l h = record {
  pending =
      λ k c a here is.
      (let s = h.pending k c a here is in let y = l.on c s.0 s.1 in (y.0, y.1, sym y.2.ended ∙ s.2, sym y.2.client ∙ s.3));
  opens =
      λ c y here runs.
      (let x = l.back c y here in
      let a = h.opens c x.0 x.1 (x.2.ended ∙ runs) in
      (a.0, ap (λ (n : ℕ). slice_get actors n) (sym x.2.client) ∙ a.1, a.2));
  places =
      λ c y here.
      (let x = l.back c y here in
      ap (λ (n : List ℕ). place_of actors n) (sym x.2.actor) ∙ h.places c x.0 x.1 ∙ ap (λ (n : ℕ). Some n) x.2.client);
  earlier =
      λ c d y z here there same less.
      (let x = l.back c y here in
      let v = l.back d z there in
      sym x.2.ended ∙ h.earlier c d x.0 v.0 x.1 v.1 (x.2.actor ∙ same ∙ sym v.2.actor) less);
}

pub on_change : (w : World) (b : ℕ) (f : CommandState → CommandState) → ((x : CommandState) → Alike x (f x)) → Match w.actors w.commands
    → Match w.actors (changed_at w.commands b f)
on_change w b f alike h = match_alike w.actors w.commands (changed_at w.commands b f) (changed_alike w.commands b f alike) h

-- ---- row by row

alike_itself : (x y : CommandState) → y.ended ≡ x.ended → y.client ≡ x.client → y.actor ≡ x.actor → Alike x y
alike_itself x y p q r = record { ended = sym p; client = sym q; actor = sym r }

taken_alike : (r : Result ℕ LockTaken) (x : CommandState) → Alike x (with_taken r x)
taken_alike (Ok t) x = alike_itself x (with_taken (Ok t) x) refl refl refl
taken_alike (Err held) x = alike_itself x (with_taken (Err held) x) refl refl refl

pub take_match : (w : World) (c : ℕ) (o : Option CommandState) → Match w.actors w.commands → Match (takes_by w c o).actors (takes_by w c o).commands
take_match w c None h = h
take_match w c (Some s) h = on_change w c (with_taken (answer_take w.topo)) (λ x. taken_alike (answer_take w.topo) x) h

pub read_match : (w : World) (c : ℕ) (o : Option ℕ) → Match w.actors w.commands → Match (by_term o w (reads w c)).actors (by_term o w (reads w c)).commands
read_match w c None h = h
read_match w c (Some t) h = on_change w c (with_act (read_act w.topo t)) (λ x. alike_itself x (with_act (read_act w.topo t) x) refl refl refl) h

intended_alike : (a : Alias) (r : Result (Unit {0}) TopoFault) (x : CommandState) → Alike x (with_intended a r x)
intended_alike a (Ok u) x = alike_itself x (with_intended a (Ok u) x) refl refl refl
intended_alike a (Err (faults.LockLost current)) x = alike_itself x (with_intended a (Err (faults.LockLost current)) x) refl refl refl
intended_alike a (Err (faults.IntentStands b)) x = itself x

pub intend_match : (w : World) (c : ℕ) (a : Alias) (o : Option ℕ) → Match w.actors w.commands
    → Match (by_term o w (intends_in w c a)).actors (by_term o w (intends_in w c a)).commands
intend_match w c a None h = h
intend_match w c a (Some t) h = on_change w c (with_intended a (answer_intend w.topo t a)) (λ x. intended_alike a (answer_intend w.topo t a) x) h

recorded_alike : (a : Alias) (r : Result (Unit {0}) TopoFault) (x : CommandState) → Alike x (with_recorded a r x)
recorded_alike a (Ok u) x = alike_itself x (with_recorded a (Ok u) x) refl refl refl
recorded_alike a (Err (faults.LockLost current)) x = alike_itself x (with_recorded a (Err (faults.LockLost current)) x) refl refl refl
recorded_alike a (Err (faults.IntentStands b)) x = itself x

pub record_match : (w : World) (c : ℕ) (a : Alias) (o : Option ℕ) → Match w.actors w.commands
    → Match (by_term o w (records_in w c a)).actors (by_term o w (records_in w c a)).commands
record_match w c a None h = h
record_match w c a (Some t) h = on_change w c (with_recorded a (answer_record w.topo t)) (λ x. recorded_alike a (answer_record w.topo t) x) h

drained_alike : (a : Alias) (r : Result (Unit {0}) TopoFault) (x : CommandState) → Alike x (with_drained a r x)
drained_alike a (Ok u) x = alike_itself x (with_drained a (Ok u) x) refl refl refl
drained_alike a (Err (faults.LockLost current)) x = alike_itself x (with_drained a (Err (faults.LockLost current)) x) refl refl refl
drained_alike a (Err (faults.IntentStands b)) x = itself x

pub drain_match : (w : World) (c : ℕ) (a : Alias) (o : Option ℕ) → Match w.actors w.commands
    → Match (by_term o w (drains_in w c a)).actors (by_term o w (drains_in w c a)).commands
drain_match w c a None h = h
drain_match w c a (Some t) h = on_change w c (with_drained a (answer_drain w.topo t)) (λ x. drained_alike a (answer_drain w.topo t) x) h

pub release_match : (w : World) (c : ℕ) (o : Option ℕ) → Match w.actors w.commands
    → Match (by_term o w (releases_in w c)).actors (by_term o w (releases_in w c)).commands
release_match w c None h = h
release_match w c (Some t) h = on_change w c as_released (λ x. alike_itself x (as_released x) refl refl refl) h

written_alike : (a : Alias) (old : TabletState) (r : Written) (x : CommandState) → Alike x (with_written a old r x)
written_alike a old (writtens.Entry g) x = alike_itself x (with_written a old (writtens.Entry g) x) refl refl refl
written_alike a old (writtens.NotPrimary at) x = alike_itself x (with_written a old (writtens.NotPrimary at) x) refl refl refl

written_match : (w : World) (c : ℕ) (a : Alias) (s : CommandState) (o : Option Tablet) → Match w.actors w.commands
    → Match (if_declared o w (writes_at w c a s)).actors (if_declared o w (writes_at w c a s)).commands
written_match w c a s None h = h
written_match w c a s (Some me) h =
    on_change w c (with_written a (w.tablets a) (write_verdict w a s me).says) (λ x. written_alike a (w.tablets a) (write_verdict w a s me).says x) h

pub write_match : (config : Config) (w : World) (c : ℕ) (a : Alias) (o : Option CommandState) → Match w.actors w.commands
    → Match (writes_in config w c a o).actors (writes_in config w c a o).commands
write_match config w c a None h = h
write_match config w c a (Some s) h = written_match w c a s (tablet_of config.tablets a) h

pub act_match : (w : World) (c : ℕ) (act : Act) → Match w.actors w.commands → Match w.actors (changed_at w.commands c (with_act act))
act_match w c act h = on_change w c (with_act act) (λ x. alike_itself x (with_act act x) refl refl refl) h

pub tell_match : (w : World) (c : ℕ) (o : Option Act) → Match w.actors w.commands → Match (with_told w c o).actors (with_told w c o).commands
tell_match w c None h = h
tell_match w c (Some act) h = act_match w c act h

pub alone_match : (w v : World) → LeavesAlone w v → Match w.actors w.commands → Match v.actors v.commands
alone_match w v same h =
    subst (λ (xs : List ActorState). Match xs v.commands) (sym same.actors) (subst (λ (xs : List CommandState). Match w.actors xs) (sym same.commands) h)

-- A command that is open after an event was open before, unless its actor begins it by this event.
use Rattle.std.proofs.Common.{◌≡◌, ◌⊎◌, inl, inr, Bool, false, not, cond, ℕ, ◌+◌, List, [], ◌∷◌, ◌++◌, true, Option, Some, None, Result, Ok, Err, length, refl, ap, sym, subst, ◌∙◌}
use Rattle.std.proofs.lemmas.Bool.{false≢true}
use Rattle.std.proofs.lemmas.Slice.Eq.{bytes_eq-Decides}
use Rattle.shard_calls.specs.declared.command.Command.{Command}
use Rattle.shard_base.specs.Options.{◌>>=◌}
use Rattle.shard_names.specs.declared.alias.Alias.{Alias}
use Rattle.shard_names.specs.declared.tablet.Tablet.{Tablet}
use Rattle.shard_names.specs.Tablets.{tablet_of}
use Rattle.topo_lock.specs.Topology.{answer_take, answer_intend, answer_record, answer_drain}
use Rattle.topo_lock.specs.declared.lock.LockTaken.{LockTaken}
use Rattle.topo_lock.specs.declared.lock.TopoFault.{TopoFault}
use Rattle.topo_lock.specs.declared.lock.TopoFault.TheVariants as faults
use Rattle.shard_calls.proofs.ActLemmas.{list_declared, list_delivery, list_up, list_offer}
use Rattle.shard_calls.proofs.ListLemmas.{numbered-push_cases, changed_at_cases}
use Rattle.shard_calls.specs.Tablets.{TabletState, writes_local}
use Rattle.shard_calls.specs.World.{Config, World, on_tablet, numbered, changed_at, if_open, with_act, next_message, open_command, term_of}
use Rattle.shard_calls.specs.Messages.{why_given_up, offer_to}
use Rattle.shard_calls.specs.Begins.{begun_state, ends_by}
use Rattle.shard_calls.specs.Locks.{with_taken, takes_by, by_term, read_act, reads, with_intended, intends_in, with_recorded, with_drained, records_in, drains_in, as_released, releases_in}
use Rattle.shard_calls.specs.Deliveries.{if_declared}
use Rattle.shard_calls.specs.Writes.{with_written, write_verdict, writes_at, writes_in, tell_of, told_act, with_told}
use Rattle.shard_calls.specs.Table.{after}
use Rattle.shard_calls.specs.declared.event.Event.{Event}
use Rattle.shard_calls.specs.declared.event.Event.TheVariants as events
use Rattle.shard_calls.specs.declared.outcome.Written.{Written}
use Rattle.shard_calls.specs.declared.outcome.Written.TheVariants as writtens
use Rattle.shard_calls.specs.declared.state.Act.{Act}
use Rattle.shard_calls.specs.declared.state.Act.TheVariants as acts
use Rattle.shard_calls.specs.declared.state.CommandState.{CommandState}
use Rattle.shard_top.specs.Programs.{given_by, begun_by}

-- ---- who has a command open

pub runs_if_open : (o : Option CommandState) (s : CommandState) → if_open o ≡ Some s → (o ≡ Some s) × (s.ended ≡ false)
runs_if_open None s h = absurd (let none : ◌≡◌ {A = Option CommandState} None (Some s) = h in cc)
runs_if_open (Some x) s h = of_test x.ended refl h
  where
    of_test : (b : Bool) → x.ended ≡ b → cond (not b) (Some x) None ≡ Some s → (Some x ≡ Some s) × (s.ended ≡ false)
    of_test true is k = absurd (let none : ◌≡◌ {A = Option CommandState} None (Some s) = k in cc)
    of_test false is k = let same : x ≡ s = cc in (k, ap (λ (v : CommandState). v.ended) (sym same) ∙ is)

pub open_if_runs : (o : Option CommandState) (s : CommandState) → o ≡ Some s → s.ended ≡ false → if_open o ≡ Some s
open_if_runs o s here runs = ap (λ (v : Option CommandState). if_open v) here ∙ ap (λ (b : Bool). cond (not b) (Some s) None) runs

-- the command was open before, and its actor's
abbrev Was : Option CommandState → CommandState → Type 0
Was o y = (x : CommandState) × (o ≡ Some x) × (x.ended ≡ false) × (x.actor ≡ y.actor)

-- what an open command is after this, it was before
abbrev KeepsMaker : (CommandState → CommandState) → Type 0
KeepsMaker f = (s : CommandState) → (f s).ended ≡ false → (s.ended ≡ false) × (s.actor ≡ (f s).actor)

as_it_was : (o : Option CommandState) (y : CommandState) → o ≡ Some y → y.ended ≡ false → Was o y
as_it_was o y h runs = (y, h, runs, refl)

changed_was : (xs : List CommandState) (b : ℕ) (f : CommandState → CommandState) (c : ℕ) (y : CommandState) → KeepsMaker f → numbered (changed_at xs b f) c ≡ Some y → y.ended ≡ false
    → Was (numbered xs c) y
changed_was xs b f c y keeps h runs = of_cases (changed_at_cases xs b f c y h)
  where
    of_cases : (numbered xs c ≡ Some y) ⊎ ((b ≡ c) × ((x : CommandState) × (numbered xs c ≡ Some x) × (f x ≡ y))) → Was (numbered xs c) y
    of_cases (inl k) = as_it_was (numbered xs c) y k runs
    of_cases (inr k) =
        let kept = keeps k.1.0 (ap (λ (v : CommandState). v.ended) k.1.2 ∙ runs) in
        (k.1.0, k.1.1, kept.0, kept.1 ∙ ap (λ (v : CommandState). v.actor) k.1.2)

command_was : (w : World) (b : ℕ) (f : CommandState → CommandState) (c : ℕ) (y : CommandState) → KeepsMaker f → numbered (changed_at w.commands b f) c ≡ Some y → y.ended ≡ false
    → Was (numbered w.commands c) y
command_was w b f c y keeps h runs = changed_was w.commands b f c y keeps h runs

taken_keeps : (r : Result ℕ LockTaken) → KeepsMaker (with_taken r)
taken_keeps (Ok t) s e = (e, refl)
taken_keeps (Err held) s e = (e, refl)

take_was : (w : World) (b : ℕ) (o : Option CommandState) (c : ℕ) (y : CommandState) → numbered (takes_by w b o).commands c ≡ Some y → y.ended ≡ false → Was (numbered w.commands c) y
take_was w b None c y h runs = as_it_was _ y h runs
take_was w b (Some s) c y h runs = command_was w b (with_taken (answer_take w.topo)) c y (taken_keeps (answer_take w.topo)) h runs

term_was : (w : World) (b : ℕ) (v : ℕ → World) (f : ℕ → CommandState → CommandState) (o : Option ℕ) (c : ℕ) (y : CommandState)
    → ((t : ℕ) → (v t).commands ≡ changed_at w.commands b (f t)) → ((t : ℕ) → KeepsMaker (f t)) → numbered (by_term o w v).commands c ≡ Some y → y.ended ≡ false
    → Was (numbered w.commands c) y
term_was w b v f None c y is keeps h runs = as_it_was _ y h runs
term_was w b v f (Some t) c y is keeps h runs =
    command_was w b (f t) c y (keeps t) (subst (λ (xs : List CommandState). numbered xs c ≡ Some y) (is t) h) runs

intended_keeps : (a : Alias) (r : Result (Unit {0}) TopoFault) → KeepsMaker (with_intended a r)
intended_keeps a (Ok u) s e = (e, refl)
intended_keeps a (Err (faults.LockLost current)) s e = (e, refl)
intended_keeps a (Err (faults.IntentStands b)) s e = (e, refl)

recorded_keeps : (a : Alias) (r : Result (Unit {0}) TopoFault) → KeepsMaker (with_recorded a r)
recorded_keeps a (Ok u) s e = (e, refl)
recorded_keeps a (Err (faults.LockLost current)) s e = (e, refl)
recorded_keeps a (Err (faults.IntentStands b)) s e = (e, refl)

drained_keeps : (a : Alias) (r : Result (Unit {0}) TopoFault) → KeepsMaker (with_drained a r)
drained_keeps a (Ok u) s e = (e, refl)
drained_keeps a (Err (faults.LockLost current)) s e = (e, refl)
drained_keeps a (Err (faults.IntentStands b)) s e = (e, refl)

written_keeps : (a : Alias) (old : TabletState) (r : Written) → KeepsMaker (with_written a old r)
written_keeps a old (writtens.Entry g) s e = (e, refl)
written_keeps a old (writtens.NotPrimary at) s e = (e, refl)

written_was : (w : World) (b : ℕ) (a : Alias) (s : CommandState) (o : Option Tablet) (c : ℕ) (y : CommandState) → numbered (if_declared o w (writes_at w b a s)).commands c ≡ Some y
    → y.ended ≡ false → Was (numbered w.commands c) y
written_was w b a s None c y h runs = as_it_was _ y h runs
written_was w b a s (Some me) c y h runs =
    command_was w b (with_written a (w.tablets a) (write_verdict w a s me).says) c y (written_keeps a (w.tablets a) (write_verdict w a s me).says) h runs

write_was : (config : Config) (w : World) (b : ℕ) (a : Alias) (o : Option CommandState) (c : ℕ) (y : CommandState) → numbered (writes_in config w b a o).commands c ≡ Some y
    → y.ended ≡ false → Was (numbered w.commands c) y
write_was config w b a None c y h runs = as_it_was _ y h runs
write_was config w b a (Some s) c y h runs = written_was w b a s (tablet_of config.tablets a) c y h runs

told_was : (w : World) (b : ℕ) (o : Option Act) (c : ℕ) (y : CommandState) → numbered (with_told w b o).commands c ≡ Some y → y.ended ≡ false → Was (numbered w.commands c) y
told_was w b None c y h runs = as_it_was _ y h runs
told_was w b (Some act) c y h runs = command_was w b (with_act act) c y (λ s e. (e, refl)) h runs

end_was : (w : World) (b : ℕ) (o : Option CommandState) (c : ℕ) (y : CommandState) → numbered (ends_by w b o).commands c ≡ Some y → y.ended ≡ false → Was (numbered w.commands c) y
end_was w b None c y h runs = as_it_was _ y h runs
end_was w b (Some s) c y h runs = changed_was w.commands b (λ x. record x { ended = true }) c y (λ x e. absurd (false≢true (sym e))) h runs

alone_was : (w v : World) (c : ℕ) (y : CommandState) → v.commands ≡ w.commands → numbered v.commands c ≡ Some y → y.ended ≡ false → Was (numbered w.commands c) y
alone_was w v c y alone h runs = as_it_was _ y (ap (λ (xs : List CommandState). numbered xs c) (sym alone) ∙ h) runs

pub list_local : (config : Config) (w : World) (a : Alias) → (after config w (events.Local a)).commands ≡ w.commands
list_local config w a = list_declared w (λ me. on_tablet w a (writes_local me (w.tablets a)).state) (tablet_of config.tablets a) (λ me. refl)

pub given_itself : (name : List ℕ) (commands : List Command) → given_by name commands name ≡ commands
given_itself name commands = ap (λ (b : Bool). cond b commands []) ((bytes_eq-Decides name name).1 refl)

begin_was : (w : World) (name : List ℕ) (command : Command) (c : ℕ) (y : CommandState) → given_by name (command ∷ []) y.actor ≡ []
    → numbered (w.commands ++ begun_state w name command ∷ []) c ≡ Some y → y.ended ≡ false → Was (numbered w.commands c) y
begin_was w name command c y apart h runs = of_cases (numbered-push_cases w.commands (begun_state w name command) y c h)
  where
    of_cases : (numbered w.commands c ≡ Some y) ⊎ ((c ≡ length w.commands + 1) × (begun_state w name command ≡ y)) → Was (numbered w.commands c) y
    of_cases (inl k) = as_it_was (numbered w.commands c) y k runs
    of_cases (inr k) =
        let own : name ≡ y.actor = ap (λ (v : CommandState). v.actor) k.1 in
        let none : command ∷ [] ≡ [] = sym (given_itself name (command ∷ [])) ∙ ap (λ (n : List ℕ). given_by name (command ∷ []) n) own ∙ apart in
        absurd (let never : command ∷ [] ≡ [] = none in cc)

was : (config : Config) (w : World) (e : Event) (c : ℕ) (y : CommandState) → begun_by e y.actor ≡ [] → numbered (after config w e).commands c ≡ Some y → y.ended ≡ false
    → Was (numbered w.commands c) y
was config w (events.Begin name command) c y apart h runs = begin_was w name command c y apart h runs
was config w (events.Take b) c y apart h runs = take_was w b (open_command w b) c y h runs
was config w (events.Read b) c y apart h runs = term_was w b (reads w b) (λ t. with_act (read_act w.topo t)) (term_of w b) c y (λ t. refl) (λ t s e. (e, refl)) h runs
was config w (events.Intend b a) c y apart h runs =
    term_was w b (intends_in w b a) (λ t. with_intended a (answer_intend w.topo t a)) (term_of w b) c y (λ t. refl) (λ t. intended_keeps a (answer_intend w.topo t a)) h runs
was config w (events.Record b a) c y apart h runs =
    term_was w b (records_in w b a) (λ t. with_recorded a (answer_record w.topo t)) (term_of w b) c y (λ t. refl) (λ t. recorded_keeps a (answer_record w.topo t)) h runs
was config w (events.Drain b a) c y apart h runs =
    term_was w b (drains_in w b a) (λ t. with_drained a (answer_drain w.topo t)) (term_of w b) c y (λ t. refl) (λ t. drained_keeps a (answer_drain w.topo t)) h runs
was config w (events.Release b) c y apart h runs = term_was w b (releases_in w b) (λ t. as_released) (term_of w b) c y (λ t. refl) (λ t s e. (e, refl)) h runs
was config w events.Lapse c y apart h runs = as_it_was _ y h runs
was config w (events.Send b a call) c y apart h runs = command_was w b (with_act (acts.Sent (next_message w))) c y (λ s e. (e, refl)) h runs
was config w (events.Deliver k) c y apart h runs = alone_was w (after config w (events.Deliver k)) c y (list_delivery config w k (numbered w.post k)) h runs
was config w (events.GiveUp b k) c y apart h runs = alone_was w (after config w (events.GiveUp b k)) c y (list_up w k (why_given_up w b k)) h runs
was config w (events.Offer a) c y apart h runs = alone_was w (after config w (events.Offer a)) c y (list_offer w (offer_to w a)) h runs
was config w (events.Write b a) c y apart h runs = write_was config w b a (open_command w b) c y h runs
was config w (events.Tell b) c y apart h runs = told_was w b (tell_of w b >>= told_act) c y h runs
was config w (events.Local a) c y apart h runs = alone_was w (after config w (events.Local a)) c y (list_local config w a) h runs
was config w (events.Crash a keep) c y apart h runs = as_it_was _ y h runs
was config w (events.Restart a) c y apart h runs = as_it_was _ y h runs
was config w (events.Cut x z) c y apart h runs = as_it_was _ y h runs
was config w (events.Mend x z) c y apart h runs = as_it_was _ y h runs
was config w (events.Lose k) c y apart h runs = as_it_was _ y h runs
was config w (events.Tick ms) c y apart h runs = as_it_was _ y h runs
was config w (events.End b z) c y apart h runs = end_was w b (open_command w b) c y h runs

-- a command that is open after an event was open before, unless its actor began it by this event
pub was_open : (config : Config) (w : World) (e : Event) (c : ℕ) (y : CommandState) → begun_by e y.actor ≡ [] → open_command (after config w e) c ≡ Some y
    → (x : CommandState) × (open_command w c ≡ Some x) × (x.actor ≡ y.actor)
was_open config w e c y apart h =
    let now = runs_if_open (numbered (after config w e).commands c) y h in
    let x = was config w e c y apart now.0 now.1 in
    (x.0, open_if_runs (numbered w.commands c) x.0 x.1 x.2, x.3)

-- A command that has begun stays, and one that has ended stays ended.
use Rattle.std.proofs.Common.{◌≡◌, ℕ, zero, suc, ◌+◌, ◌≤◌, List, [], ◌∷◌, ◌++◌, true, Option, Some, None, is_some, Result, Ok, Err, length, refl, ap, sym, subst, ◌∙◌, arith, length-append}
use Rattle.std.proofs.lemmas.Bool.{false≢true}
use Rattle.std.specs.List.{slice_get}
use Rattle.shard_base.specs.Options.{◌>>=◌}
use Rattle.shard_names.specs.declared.alias.Alias.{Alias}
use Rattle.shard_names.specs.declared.tablet.Tablet.{Tablet}
use Rattle.shard_names.specs.Tablets.{tablet_of}
use Rattle.topo_lock.specs.Topology.{answer_take, answer_intend, answer_record, answer_drain}
use Rattle.topo_lock.specs.declared.lock.LockTaken.{LockTaken}
use Rattle.topo_lock.specs.declared.lock.TopoFault.{TopoFault}
use Rattle.topo_lock.specs.declared.lock.TopoFault.TheVariants as faults
use Rattle.shard_calls.proofs.ActLemmas.{list_delivery, list_up, list_offer}
use Rattle.shard_calls.proofs.ListLemmas.{slice_get-append}
use Rattle.shard_calls.specs.Tablets.{TabletState}
use Rattle.shard_calls.specs.World.{Config, World, opening, numbered, changed, changed_at, with_act, next_message, open_command, term_of}
use Rattle.shard_calls.specs.Messages.{why_given_up, offer_to}
use Rattle.shard_calls.specs.Begins.{begun_state, ends_by}
use Rattle.shard_calls.specs.Locks.{with_taken, takes_by, by_term, read_act, reads, with_intended, intends_in, with_recorded, with_drained, records_in, drains_in, as_released, releases_in}
use Rattle.shard_calls.specs.Deliveries.{if_declared}
use Rattle.shard_calls.specs.Writes.{with_written, write_verdict, writes_at, writes_in, tell_of, told_act, with_told}
use Rattle.shard_calls.specs.Table.{after, world_after}
use Rattle.shard_calls.specs.declared.event.Event.{Event}
use Rattle.shard_calls.specs.declared.event.Event.TheVariants as events
use Rattle.shard_calls.specs.declared.event.Step.{Step}
use Rattle.shard_calls.specs.declared.outcome.Written.{Written}
use Rattle.shard_calls.specs.declared.outcome.Written.TheVariants as writtens
use Rattle.shard_calls.specs.declared.state.Act.{Act}
use Rattle.shard_calls.specs.declared.state.Act.TheVariants as acts
use Rattle.shard_calls.specs.declared.state.CommandState.{CommandState}
use Rattle.shard_top.specs.Played.{Want}
use Rattle.shard_top.specs.Playing.{is_ended, HaveEnded, HasBegun}
use Rattle.shard_top.proofs.OwnLemmas.{list_local}

-- the command that was x is there, and ended where x was
abbrev Stays : Option CommandState → CommandState → Type 0
Stays o x = (y : CommandState) × (o ≡ Some y) × (x.ended ≡ true → y.ended ≡ true)

abbrev KeepsEnd : (CommandState → CommandState) → Type 0
KeepsEnd f = (s : CommandState) → s.ended ≡ true → (f s).ended ≡ true

as_it_was : (o : Option CommandState) (x : CommandState) → o ≡ Some x → Stays o x
as_it_was o x h = (x, h, λ e. e)

here_changed : (f : CommandState → CommandState) (z x : CommandState) → KeepsEnd f → z ≡ x → Stays (Some (f z)) x
here_changed f z x keeps same = (f z, refl, λ e. keeps z (subst (λ (v : CommandState). v.ended ≡ true) (sym same) e))

changed_stays : (xs : List CommandState) (k : ℕ) (f : CommandState → CommandState) (n : ℕ) (x : CommandState) → KeepsEnd f → slice_get xs n ≡ Some x
    → Stays (slice_get (changed xs k f) n) x
changed_stays [] k f n x keeps h = as_it_was _ x h
changed_stays (z ∷ xs) zero f zero x keeps h = here_changed f z x keeps (let same : Some z ≡ Some x = h in cc)
changed_stays (z ∷ xs) zero f (suc n) x keeps h = as_it_was _ x h
changed_stays (z ∷ xs) (suc k) f zero x keeps h = as_it_was _ x h
changed_stays (z ∷ xs) (suc k) f (suc n) x keeps h = changed_stays xs k f n x keeps h

changed_at_stays : (xs : List CommandState) (b : ℕ) (f : CommandState → CommandState) (c : ℕ) (x : CommandState) → KeepsEnd f → numbered xs c ≡ Some x
    → Stays (numbered (changed_at xs b f) c) x
changed_at_stays xs zero f c x keeps h = as_it_was _ x h
changed_at_stays xs (suc k) f zero x keeps h = as_it_was _ x h
changed_at_stays xs (suc k) f (suc n) x keeps h = changed_stays xs k f n x keeps h

pushed_stays : (xs : List CommandState) (z : CommandState) (c : ℕ) (x : CommandState) → numbered xs c ≡ Some x → Stays (numbered (xs ++ z ∷ []) c) x
pushed_stays xs z zero x h = as_it_was _ x h
pushed_stays xs z (suc n) x h = as_it_was _ x (slice_get-append xs (z ∷ []) n x h)

command_stays : (w : World) (b : ℕ) (f : CommandState → CommandState) (c : ℕ) (x : CommandState) → KeepsEnd f → numbered w.commands c ≡ Some x
    → Stays (numbered (changed_at w.commands b f) c) x
command_stays w b f c x keeps h = changed_at_stays w.commands b f c x keeps h

taken_keeps : (r : Result ℕ LockTaken) → KeepsEnd (with_taken r)
taken_keeps (Ok t) s e = e
taken_keeps (Err held) s e = e

take_stays : (w : World) (b : ℕ) (o : Option CommandState) (c : ℕ) (x : CommandState) → numbered w.commands c ≡ Some x → Stays (numbered (takes_by w b o).commands c) x
take_stays w b None c x h = as_it_was _ x h
take_stays w b (Some s) c x h = command_stays w b (with_taken (answer_take w.topo)) c x (taken_keeps (answer_take w.topo)) h

-- where the command has a term, it is changed by this
term_stays : (w : World) (b : ℕ) (v : ℕ → World) (f : ℕ → CommandState → CommandState) (o : Option ℕ) (c : ℕ) (x : CommandState)
    → ((t : ℕ) → (v t).commands ≡ changed_at w.commands b (f t)) → ((t : ℕ) → KeepsEnd (f t)) → numbered w.commands c ≡ Some x
    → Stays (numbered (by_term o w v).commands c) x
term_stays w b v f None c x is keeps h = as_it_was _ x h
term_stays w b v f (Some t) c x is keeps h =
    subst (λ (xs : List CommandState). Stays (numbered xs c) x) (sym (is t)) (command_stays w b (f t) c x (keeps t) h)

intended_keeps : (a : Alias) (r : Result (Unit {0}) TopoFault) → KeepsEnd (with_intended a r)
intended_keeps a (Ok u) s e = e
intended_keeps a (Err (faults.LockLost current)) s e = e
intended_keeps a (Err (faults.IntentStands b)) s e = e

recorded_keeps : (a : Alias) (r : Result (Unit {0}) TopoFault) → KeepsEnd (with_recorded a r)
recorded_keeps a (Ok u) s e = e
recorded_keeps a (Err (faults.LockLost current)) s e = e
recorded_keeps a (Err (faults.IntentStands b)) s e = e

drained_keeps : (a : Alias) (r : Result (Unit {0}) TopoFault) → KeepsEnd (with_drained a r)
drained_keeps a (Ok u) s e = e
drained_keeps a (Err (faults.LockLost current)) s e = e
drained_keeps a (Err (faults.IntentStands b)) s e = e

written_keeps : (a : Alias) (old : TabletState) (r : Written) → KeepsEnd (with_written a old r)
written_keeps a old (writtens.Entry g) s e = e
written_keeps a old (writtens.NotPrimary at) s e = e

written_stays : (w : World) (b : ℕ) (a : Alias) (s : CommandState) (o : Option Tablet) (c : ℕ) (x : CommandState) → numbered w.commands c ≡ Some x
    → Stays (numbered (if_declared o w (writes_at w b a s)).commands c) x
written_stays w b a s None c x h = as_it_was _ x h
written_stays w b a s (Some me) c x h =
    command_stays w b (with_written a (w.tablets a) (write_verdict w a s me).says) c x (written_keeps a (w.tablets a) (write_verdict w a s me).says) h

write_stays : (config : Config) (w : World) (b : ℕ) (a : Alias) (o : Option CommandState) (c : ℕ) (x : CommandState) → numbered w.commands c ≡ Some x
    → Stays (numbered (writes_in config w b a o).commands c) x
write_stays config w b a None c x h = as_it_was _ x h
write_stays config w b a (Some s) c x h = written_stays w b a s (tablet_of config.tablets a) c x h

told_stays : (w : World) (b : ℕ) (o : Option Act) (c : ℕ) (x : CommandState) → numbered w.commands c ≡ Some x → Stays (numbered (with_told w b o).commands c) x
told_stays w b None c x h = as_it_was _ x h
told_stays w b (Some act) c x h = command_stays w b (with_act act) c x (λ s e. e) h

end_stays : (w : World) (b : ℕ) (o : Option CommandState) (c : ℕ) (x : CommandState) → numbered w.commands c ≡ Some x → Stays (numbered (ends_by w b o).commands c) x
end_stays w b None c x h = as_it_was _ x h
end_stays w b (Some s) c x h = changed_at_stays w.commands b _ c x (λ y e. refl) h

alone_stays : (w v : World) (c : ℕ) (x : CommandState) → v.commands ≡ w.commands → numbered w.commands c ≡ Some x → Stays (numbered v.commands c) x
alone_stays w v c x alone h = as_it_was _ x (ap (λ (xs : List CommandState). numbered xs c) alone ∙ h)

stays : (config : Config) (w : World) (e : Event) (c : ℕ) (x : CommandState) → numbered w.commands c ≡ Some x → Stays (numbered (after config w e).commands c) x
stays config w (events.Begin name command) c x h = pushed_stays w.commands (begun_state w name command) c x h
stays config w (events.Take b) c x h = take_stays w b (open_command w b) c x h
stays config w (events.Read b) c x h = term_stays w b (reads w b) (λ t. with_act (read_act w.topo t)) (term_of w b) c x (λ t. refl) (λ t s e. e) h
stays config w (events.Intend b a) c x h =
    term_stays w b (intends_in w b a) (λ t. with_intended a (answer_intend w.topo t a)) (term_of w b) c x (λ t. refl) (λ t. intended_keeps a (answer_intend w.topo t a)) h
stays config w (events.Record b a) c x h =
    term_stays w b (records_in w b a) (λ t. with_recorded a (answer_record w.topo t)) (term_of w b) c x (λ t. refl) (λ t. recorded_keeps a (answer_record w.topo t)) h
stays config w (events.Drain b a) c x h =
    term_stays w b (drains_in w b a) (λ t. with_drained a (answer_drain w.topo t)) (term_of w b) c x (λ t. refl) (λ t. drained_keeps a (answer_drain w.topo t)) h
stays config w (events.Release b) c x h = term_stays w b (releases_in w b) (λ t. as_released) (term_of w b) c x (λ t. refl) (λ t s e. e) h
stays config w events.Lapse c x h = as_it_was _ x h
stays config w (events.Send b a call) c x h = command_stays w b (with_act (acts.Sent (next_message w))) c x (λ s e. e) h
stays config w (events.Deliver k) c x h = alone_stays w (after config w (events.Deliver k)) c x (list_delivery config w k (numbered w.post k)) h
stays config w (events.GiveUp b k) c x h = alone_stays w (after config w (events.GiveUp b k)) c x (list_up w k (why_given_up w b k)) h
stays config w (events.Offer a) c x h = alone_stays w (after config w (events.Offer a)) c x (list_offer w (offer_to w a)) h
stays config w (events.Write b a) c x h = write_stays config w b a (open_command w b) c x h
stays config w (events.Tell b) c x h = told_stays w b (tell_of w b >>= told_act) c x h
stays config w (events.Local a) c x h = alone_stays w (after config w (events.Local a)) c x (list_local config w a) h
stays config w (events.Crash a keep) c x h = as_it_was _ x h
stays config w (events.Restart a) c x h = as_it_was _ x h
stays config w (events.Cut y z) c x h = as_it_was _ x h
stays config w (events.Mend y z) c x h = as_it_was _ x h
stays config w (events.Lose k) c x h = as_it_was _ x h
stays config w (events.Tick ms) c x h = as_it_was _ x h
stays config w (events.End b z) c x h = end_stays w b (open_command w b) c x h

-- ---- wants

ended_by : (o p : Option CommandState) → ((x : CommandState) → o ≡ Some x → Stays p x) → is_ended o ≡ true → is_ended p ≡ true
ended_by None p h e = absurd (false≢true e)
ended_by (Some x) p h e = let k = h x refl in rw k.1 (k.2 e)

pub ended_after : (config : Config) (w : World) (e : Event) (wants : List Want) → HaveEnded w wants → HaveEnded (after config w e) wants
ended_after config w e [] h = tt
ended_after config w e (m ∷ ms) h =
    (ended_by (numbered w.commands m.command) (numbered (after config w e).commands m.command) (λ x is. stays config w e m.command x is) h.0, ended_after config w e ms h.1)

begun_by : (o p : Option CommandState) → ((x : CommandState) → o ≡ Some x → Stays p x) → is_some o ≡ true → is_some p ≡ true
begun_by None p h e = absurd (false≢true e)
begun_by (Some x) p h e = let k = h x refl in rw k.1 refl

pub begun_after : (config : Config) (w : World) (e : Event) (leaving : Option ℕ) → HasBegun w leaving → HasBegun (after config w e) leaving
begun_after config w e None h = tt
begun_after config w e (Some c) h = begun_by (numbered w.commands c) (numbered (after config w e).commands c) (λ x is. stays config w e c x is) h

-- ---- how many commands have begun

length_changed : {A : Type 0} (xs : List A) (k : ℕ) (f : A → A) → length (changed xs k f) ≡ length xs
length_changed [] k f = refl
length_changed (x ∷ xs) zero f = refl
length_changed (x ∷ xs) (suc k) f = ap (λ (n : ℕ). suc n) (length_changed xs k f)

length_changed_at : {A : Type 0} (xs : List A) (c : ℕ) (f : A → A) → length (changed_at xs c f) ≡ length xs
length_changed_at xs zero f = refl
length_changed_at xs (suc k) f = length_changed xs k f

changed_grows : (xs : List CommandState) (b : ℕ) (f : CommandState → CommandState) → length (changed_at xs b f) ≤ length xs + 1
changed_grows xs b f = omega (arith, length_changed_at xs b f)

Grown : World → World → Type 0
Grown w v = length v.commands ≤ length w.commands + 1

same_grows : (w v : World) → v.commands ≡ w.commands → Grown w v
unfolding Grown
same_grows w v is = omega (arith, ap (λ (xs : List CommandState). length xs) is)

take_grows : (w : World) (b : ℕ) (o : Option CommandState) → Grown w (takes_by w b o)
unfolding Grown
take_grows w b None = omega arith
take_grows w b (Some s) = changed_grows w.commands b _

term_grows : (w : World) (b : ℕ) (v : ℕ → World) (f : ℕ → CommandState → CommandState) (o : Option ℕ) → ((t : ℕ) → (v t).commands ≡ changed_at w.commands b (f t)) → Grown w (by_term o w v)
unfolding Grown
term_grows w b v f None is = omega arith
term_grows w b v f (Some t) is = omega (arith, ap (λ (xs : List CommandState). length xs) (is t), changed_grows w.commands b (f t))

written_grows : (w : World) (b : ℕ) (a : Alias) (s : CommandState) (o : Option Tablet) → Grown w (if_declared o w (writes_at w b a s))
unfolding Grown
written_grows w b a s None = omega arith
written_grows w b a s (Some me) = changed_grows w.commands b _

write_grows : (config : Config) (w : World) (b : ℕ) (a : Alias) (o : Option CommandState) → Grown w (writes_in config w b a o)
unfolding Grown
write_grows config w b a None = omega arith
write_grows config w b a (Some s) = written_grows w b a s (tablet_of config.tablets a)

told_grows : (w : World) (b : ℕ) (o : Option Act) → Grown w (with_told w b o)
unfolding Grown
told_grows w b None = omega arith
told_grows w b (Some act) = changed_grows w.commands b _

end_grows : (w : World) (b : ℕ) (o : Option CommandState) → Grown w (ends_by w b o)
unfolding Grown
end_grows w b None = omega arith
end_grows w b (Some s) = changed_grows w.commands b _

grows : (config : Config) (w : World) (e : Event) → Grown w (after config w e)
unfolding Grown
grows config w (events.Begin name command) = omega (arith, length-append w.commands (begun_state w name command ∷ []))
grows config w (events.Take b) = take_grows w b (open_command w b)
grows config w (events.Read b) = term_grows w b (reads w b) (λ t. with_act (read_act w.topo t)) (term_of w b) (λ t. refl)
grows config w (events.Intend b a) = term_grows w b (intends_in w b a) (λ t. with_intended a (answer_intend w.topo t a)) (term_of w b) (λ t. refl)
grows config w (events.Record b a) = term_grows w b (records_in w b a) (λ t. with_recorded a (answer_record w.topo t)) (term_of w b) (λ t. refl)
grows config w (events.Drain b a) = term_grows w b (drains_in w b a) (λ t. with_drained a (answer_drain w.topo t)) (term_of w b) (λ t. refl)
grows config w (events.Release b) = term_grows w b (releases_in w b) (λ t. as_released) (term_of w b) (λ t. refl)
grows config w events.Lapse = omega arith
grows config w (events.Send b a call) = changed_grows w.commands b _
grows config w (events.Deliver k) = same_grows w (after config w (events.Deliver k)) (list_delivery config w k (numbered w.post k))
grows config w (events.GiveUp b k) = same_grows w (after config w (events.GiveUp b k)) (list_up w k (why_given_up w b k))
grows config w (events.Offer a) = same_grows w (after config w (events.Offer a)) (list_offer w (offer_to w a))
grows config w (events.Write b a) = write_grows config w b a (open_command w b)
grows config w (events.Tell b) = told_grows w b (tell_of w b >>= told_act)
grows config w (events.Local a) = same_grows w (after config w (events.Local a)) (list_local config w a)
grows config w (events.Crash a keep) = omega arith
grows config w (events.Restart a) = omega arith
grows config w (events.Cut x y) = omega arith
grows config w (events.Mend x y) = omega arith
grows config w (events.Lose k) = omega arith
grows config w (events.Tick ms) = omega arith
grows config w (events.End b z) = end_grows w b (open_command w b)

commands_within : (config : Config) (w : World) (ss : List Step) → length (world_after config w ss).commands ≤ length w.commands + length ss
unfolding Grown
commands_within config w [] = omega arith
commands_within config w (s ∷ ss) = omega (arith, commands_within config (after config w s.event) ss, grows config w s.event)

-- no more commands than steps
pub few_begun : (config : Config) (ss : List Step) → length (world_after config (opening config) ss).commands ≤ length ss
few_begun config ss = omega (arith, commands_within config (opening config) ss)

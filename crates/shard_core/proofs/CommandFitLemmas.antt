-- What is known of commands stays over every step; and which rows leave commands alone.
use Rattle.std.proofs.Common.{◌≡◌, ◌⊎◌, inl, inr, ℕ, ◌+◌, ◌≤◌, List, [], ◌∷◌, ◌++◌, Bool, true, false, Option, Some, None, Result, Ok, Err, ◌&&◌, nat_le, is_none, is_some, length, refl, ap, sym, subst, ◌∙◌, arith}
use Rattle.std.proofs.lemmas.Bool.{false≢true}
use Rattle.std.proofs.lemmas.Bool.Decides.{nat_tests}
use Rattle.std.specs.List.{list_any}
use Rattle.shard_base.specs.Options.{◌>>=◌}
use Rattle.shard_names.specs.Tablets.{tablet_of}
use Rattle.shard_names.proofs.TabletLemmas.{both_left, both_right}
use Rattle.shard_names.specs.declared.alias.Alias.{Alias}
use Rattle.shard_names.specs.declared.tablet.Tablet.{Tablet}
use Rattle.topo_lock.specs.Topology.{is_held_in, answer_take, answer_intend, answer_record, answer_drain}
use Rattle.topo_lock.specs.declared.lock.LockTaken.{LockTaken}
use Rattle.topo_lock.specs.declared.lock.TopoFault.{TopoFault}
use Rattle.topo_lock.specs.declared.lock.TopoFault.TheVariants as faults
use Rattle.topo_lock.specs.Topology.{Topology}
use Rattle.shard_calls.specs.declared.command.Command.{Command}
use Rattle.shard_calls.specs.declared.event.Event.{Event}
use Rattle.shard_calls.specs.declared.event.Event.TheVariants as events
use Rattle.shard_calls.specs.declared.event.Reply.{Reply}
use Rattle.shard_calls.specs.declared.event.Reply.TheVariants as replies
use Rattle.shard_calls.specs.declared.outcome.Accepted.{Accepted}
use Rattle.shard_calls.specs.declared.outcome.Accepted.TheVariants as accepteds
use Rattle.shard_calls.specs.declared.outcome.Written.{Written}
use Rattle.shard_calls.specs.declared.outcome.Written.TheVariants as writtens
use Rattle.shard_calls.specs.declared.post.Content.{Content}
use Rattle.shard_calls.specs.declared.post.Content.TheVariants as contents
use Rattle.shard_calls.specs.declared.post.Message.{Message}
use Rattle.shard_calls.specs.declared.state.Act.{Act}
use Rattle.shard_calls.specs.declared.state.Act.TheVariants as acts
use Rattle.shard_calls.specs.declared.state.CommandState.{CommandState}
use Rattle.shard_calls.specs.declared.state.Wrote.{Wrote}
use Rattle.shard_calls.specs.declared.why.Why.{Why}
use Rattle.shard_calls.specs.Tablets.{TabletState}
use Rattle.shard_calls.specs.Commands.{timeout_of}
use Rattle.shard_calls.specs.World.{Config, World, numbered, changed_at, on_message, arrives, with_act, next_message, open_of, open_command, term_of}
use Rattle.shard_calls.specs.Messages.{why_given_up, offer_to}
use Rattle.shard_calls.specs.Begins.{is_in_time, names_declared, begun_state, ends_by}
use Rattle.shard_calls.specs.Locks.{with_taken, takes_by, by_term, read_act, reads, with_intended, intends_in, with_recorded, records_in, with_drained, drains_in, as_released, releases_in}
use Rattle.shard_calls.specs.Deliveries.{if_declared, asked, fed, feed_verdict, after_arrival, after_delivery, gives_up, offers}
use Rattle.shard_calls.specs.Writes.{with_written, write_verdict, writes_at, writes_in, told_act, with_told, tell_of}
use Rattle.shard_calls.specs.Table.{Met, after}
use Rattle.shard_calls.proofs.ListLemmas.{numbered-push_cases, changed_at_cases, any-push_cases}
use Rattle.shard_core.proofs.KnownLemmas.{writes_it, CommandFits}

abbrev AllFit : List CommandState → Type 0
AllFit xs = (c : ℕ) (s : CommandState) → numbered xs c ≡ Some s → CommandFits s

-- ---- one command changes

changed_fit : (xs : List CommandState) (d : ℕ) (f : CommandState → CommandState) → AllFit xs → ((x : CommandState) → CommandFits x → CommandFits (f x))
    → AllFit (changed_at xs d f)
changed_fit xs d f all keeps c y here = of_cases (changed_at_cases xs d f c y here)
  where
    of_cases : (numbered xs c ≡ Some y) ⊎ ((d ≡ c) × ((x : CommandState) × (numbered xs c ≡ Some x) × (f x ≡ y))) → CommandFits y
    of_cases (inl h) = all c y h
    of_cases (inr h) = subst (λ (v : CommandState). CommandFits v) h.1.2 (keeps h.1.0 (all c h.1.0 h.1.1))

-- it does something that is no writing
acted_fit : (act : Act) (x : CommandState) → writes_it act ≡ false → CommandFits x → CommandFits (with_act act x)
acted_fit act x none h = record { wrote = λ written. h.wrote (of_cases (any-push_cases writes_it x.acts act written)); in_time = h.in_time }
  where
    of_cases : (list_any writes_it x.acts ≡ true) ⊎ (writes_it act ≡ true) → list_any writes_it x.acts ≡ true
    of_cases (inl k) = k
    of_cases (inr k) = absurd (false≢true (sym none ∙ k))

-- something else changes than what is known of it
other_fit : (x y : CommandState) → y.wrote ≡ x.wrote → y.acts ≡ x.acts → y.command ≡ x.command → CommandFits x → CommandFits y
other_fit x y wrote done command h = record {
  wrote = λ written. ap (λ (o : Option Wrote). is_some o) wrote ∙ h.wrote (ap (λ (acts : List Act). list_any writes_it acts) (sym done) ∙ written);
  in_time = subst (λ (v : Command). timeout_of v ≤ 86400000) (sym command) h.in_time;
}

-- ---- the lock, the intents, the record and the marks

taken_fit : (x : CommandState) (r : Result ℕ LockTaken) → CommandFits x → CommandFits (with_taken r x)
taken_fit x (Ok t) h = acted_fit (acts.Took (Ok t)) (record x { term = Some t }) refl (other_fit x (record x { term = Some t }) refl refl refl h)
taken_fit x (Err held) h = acted_fit (acts.Took (Err held)) x refl h

take_fit : (w : World) (d : ℕ) (o : Option CommandState) → AllFit w.commands → AllFit (takes_by w d o).commands
take_fit w d None all = all
take_fit w d (Some s) all = changed_fit w.commands d (with_taken (answer_take w.topo)) all (λ x h. taken_fit x (answer_take w.topo) h)

read_is_none : (topo : Topology) (t : ℕ) → writes_it (read_act topo t) ≡ false
read_is_none topo t = of_held (is_held_in topo t) refl
  where
    of_held : (b : Bool) → is_held_in topo t ≡ b → writes_it (read_act topo t) ≡ false
    of_held true is = rw (is) refl
    of_held false is = rw (is) refl

read_fit : (w : World) (d : ℕ) (o : Option ℕ) → AllFit w.commands → AllFit (by_term o w (reads w d)).commands
read_fit w d None all = all
read_fit w d (Some t) all =
    changed_fit w.commands d (with_act (read_act w.topo t)) all (λ x h. acted_fit (read_act w.topo t) x (read_is_none w.topo t) h)

intended_fit : (a : Alias) (x : CommandState) (r : Result (Unit {0}) TopoFault) → CommandFits x → CommandFits (with_intended a r x)
intended_fit a x (Ok u) h = acted_fit (acts.Intended a (Ok tt)) x refl h
intended_fit a x (Err (faults.LockLost current)) h = acted_fit (acts.Intended a (Err current)) x refl h
intended_fit a x (Err (faults.IntentStands b)) h = h

intend_fit : (w : World) (d : ℕ) (a : Alias) (o : Option ℕ) → AllFit w.commands → AllFit (by_term o w (intends_in w d a)).commands
intend_fit w d a None all = all
intend_fit w d a (Some t) all =
    changed_fit w.commands d (with_intended a (answer_intend w.topo t a)) all (λ x h. intended_fit a x (answer_intend w.topo t a) h)

recorded_fit : (a : Alias) (x : CommandState) (r : Result (Unit {0}) TopoFault) → CommandFits x → CommandFits (with_recorded a r x)
recorded_fit a x (Ok u) h = acted_fit (acts.Recorded a (Ok tt)) x refl h
recorded_fit a x (Err (faults.LockLost current)) h = acted_fit (acts.Recorded a (Err current)) x refl h
recorded_fit a x (Err (faults.IntentStands b)) h = h

record_fit : (w : World) (d : ℕ) (a : Alias) (o : Option ℕ) → AllFit w.commands → AllFit (by_term o w (records_in w d a)).commands
record_fit w d a None all = all
record_fit w d a (Some t) all =
    changed_fit w.commands d (with_recorded a (answer_record w.topo t)) all (λ x h. recorded_fit a x (answer_record w.topo t) h)

drained_fit : (a : Alias) (x : CommandState) (r : Result (Unit {0}) TopoFault) → CommandFits x → CommandFits (with_drained a r x)
drained_fit a x (Ok u) h = acted_fit (acts.Drained a (Ok tt)) x refl h
drained_fit a x (Err (faults.LockLost current)) h = acted_fit (acts.Drained a (Err current)) x refl h
drained_fit a x (Err (faults.IntentStands b)) h = h

drain_fit : (w : World) (d : ℕ) (a : Alias) (o : Option ℕ) → AllFit w.commands → AllFit (by_term o w (drains_in w d a)).commands
drain_fit w d a None all = all
drain_fit w d a (Some t) all =
    changed_fit w.commands d (with_drained a (answer_drain w.topo t)) all (λ x h. drained_fit a x (answer_drain w.topo t) h)

release_fit : (w : World) (d : ℕ) (o : Option ℕ) → AllFit w.commands → AllFit (by_term o w (releases_in w d)).commands
release_fit w d None all = all
release_fit w d (Some t) all = changed_fit w.commands d as_released all (λ x h. other_fit x (as_released x) refl refl refl h)

-- ---- Write, Tell and End

written_state_fit : (a : Alias) (old : TabletState) (r : Written) (x : CommandState) → CommandFits x → CommandFits (with_written a old r x)
written_state_fit a old (writtens.Entry g) x h = record { wrote = λ written. refl; in_time = h.in_time }
written_state_fit a old (writtens.NotPrimary at) x h = acted_fit _ x refl h

written_fit : (w : World) (d : ℕ) (a : Alias) (s : CommandState) (o : Option Tablet) → AllFit w.commands → AllFit (if_declared o w (writes_at w d a s)).commands
written_fit w d a s None all = all
written_fit w d a s (Some me) all =
    changed_fit w.commands d (with_written a (w.tablets a) (write_verdict w a s me).says) all
    (λ x h. written_state_fit a (w.tablets a) (write_verdict w a s me).says x h)

write_fit : (config : Config) (w : World) (d : ℕ) (a : Alias) (o : Option CommandState) → AllFit w.commands → AllFit (writes_in config w d a o).commands
write_fit config w d a None all = all
write_fit config w d a (Some s) all = written_fit w d a s (tablet_of config.tablets a) all

told_act_fit : (w : World) (d : ℕ) (r : Reply) → AllFit w.commands → AllFit (with_told w d (told_act r)).commands
told_act_fit w d (replies.Begun command) all = all
told_act_fit w d (replies.Term term) all = all
told_act_fit w d (replies.Taken term by) all = all
told_act_fit w d (replies.Read read) all = all
told_act_fit w d (replies.Lost term) all = all
told_act_fit w d (replies.Stands a) all = all
told_act_fit w d (replies.Message k) all = all
told_act_fit w d (replies.GaveUp why) all = all
told_act_fit w d (replies.Wrote g) all = all
told_act_fit w d (replies.NotPrimary at) all = all
told_act_fit w d replies.Told all = changed_fit w.commands d (with_act (acts.Told true)) all (λ x h. acted_fit (acts.Told true) x refl h)
told_act_fit w d replies.Gone all = changed_fit w.commands d (with_act (acts.Told false)) all (λ x h. acted_fit (acts.Told false) x refl h)
told_act_fit w d replies.Ok all = all

told_fit : (w : World) (d : ℕ) (r : Option Reply) → AllFit w.commands → AllFit (with_told w d (r >>= told_act)).commands
told_fit w d None all = all
told_fit w d (Some r) all = told_act_fit w d r all

end_fit : (w : World) (d : ℕ) (o : Option CommandState) → AllFit w.commands → AllFit (ends_by w d o).commands
end_fit w d None all = all
end_fit w d (Some s) all =
    changed_fit w.commands d (λ x. record x { ended = true }) all (λ x h. other_fit x (record x { ended = true }) refl refl refl h)

-- ---- Begin

at_most : (n most : ℕ) → nat_le n most ≡ true → n ≤ most
at_most n most h = grind (arith, nat_tests)

begun_fit : (w : World) (name : List ℕ) (command : Command) → is_in_time command ≡ true → CommandFits (begun_state w name command)
begun_fit w name command soon = record { wrote = λ written. absurd (false≢true written); in_time = at_most (timeout_of command) 86400000 soon }

begin_fit : (w : World) (name : List ℕ) (command : Command) → is_in_time command ≡ true → AllFit w.commands
    → AllFit (w.commands ++ begun_state w name command ∷ [])
begin_fit w name command soon all c x here = of_cases (numbered-push_cases w.commands (begun_state w name command) x c here)
  where
    of_cases : (numbered w.commands c ≡ Some x) ⊎ ((c ≡ length w.commands + 1) × (begun_state w name command ≡ x)) → CommandFits x
    of_cases (inl h) = all c x h
    of_cases (inr h) = subst (λ (v : CommandState). CommandFits v) h.1 (begun_fit w name command soon)

-- ---- what leaves commands, the topology, the clock and the actors alone

pub record LeavesAlone (w v : World) : Type 0 where
  pub commands : v.commands ≡ w.commands
  pub topo : v.topo ≡ w.topo
  pub clock : v.clock ≡ w.clock
  pub actors : v.actors ≡ w.actors

alone : (w v : World) → v.commands ≡ w.commands → v.topo ≡ w.topo → v.clock ≡ w.clock → v.actors ≡ w.actors → LeavesAlone w v
alone w v p q r s = record { commands = p; topo = q; clock = r; actors = s }

asked_alone : (w : World) (k c u : ℕ) (a : Alias) (call : _) (o : Option Tablet)
    → LeavesAlone w (if_declared o (on_message w k (arrives w.clock)) (asked (on_message w k (arrives w.clock)) k c u a call))
asked_alone w k c u a call None = alone w _ refl refl refl refl
asked_alone w k c u a call (Some me) = alone w _ refl refl refl refl

fed_alone : (w : World) (k term index : ℕ) (from to : Alias) (s : TabletState) (taken : Accepted)
    → LeavesAlone w (fed (on_message w k (arrives w.clock)) from to term index s taken)
fed_alone w k term index from to s accepteds.Taken = alone w _ refl refl refl refl
fed_alone w k term index from to s accepteds.Ignored = alone w _ refl refl refl refl

arrival_alone : (config : Config) (w : World) (k : ℕ) (content : Content) → LeavesAlone w (after_arrival config (on_message w k (arrives w.clock)) k content)
arrival_alone config w k (contents.Asks c u a call) = asked_alone w k c u a call (tablet_of config.tablets a)
arrival_alone config w k (contents.Answers c call a x) = alone w _ refl refl refl refl
arrival_alone config w k (contents.Feeds from to term before index e) =
    let v = feed_verdict (on_message w k (arrives w.clock)) from to term before index e in fed_alone w k term index from to v.state v.says
arrival_alone config w k (contents.Acks from to term index) = alone w _ refl refl refl refl

pub delivery_alone : (config : Config) (w : World) (k : ℕ) (o : Option Message) → LeavesAlone w (after_delivery config w k o)
delivery_alone config w k None = alone w _ refl refl refl refl
delivery_alone config w k (Some m) = arrival_alone config w k m.content

pub up_alone : (w : World) (k : ℕ) (o : Option Why) → LeavesAlone w (gives_up w k o)
up_alone w k None = alone w _ refl refl refl refl
up_alone w k (Some why) = alone w _ refl refl refl refl

pub offer_alone : (w : World) (o : Option Content) → LeavesAlone w (offers w o)
offer_alone w None = alone w _ refl refl refl refl
offer_alone w (Some content) = alone w _ refl refl refl refl

pub declared_alone : (w : World) (f : Tablet → World) (o : Option Tablet) → ((me : Tablet) → LeavesAlone w (f me)) → LeavesAlone w (if_declared o w f)
declared_alone w f None h = alone w _ refl refl refl refl
declared_alone w f (Some me) h = h me

pub local_alone : (config : Config) (w : World) (a : Alias) → LeavesAlone w (after config w (events.Local a))
local_alone config w a =
    let h = declared_alone w _ (tablet_of config.tablets a) (λ me. alone w _ refl refl refl refl) in record { commands = h.commands; topo = h.topo; clock = h.clock; actors = h.actors }

alone_fit : (w v : World) → LeavesAlone w v → AllFit w.commands → AllFit v.commands
alone_fit w v h all = subst (λ (xs : List CommandState). AllFit xs) (sym h.commands) all

-- ---- commands fit after every step

pub commands_after : (config : Config) (w : World) (e : Event) → Met config w e → AllFit w.commands → AllFit (after config w e).commands
commands_after config w (events.Begin name command) met all =
    begin_fit w name command
    (both_right (is_none (open_of w.actors name)) (is_in_time command)
    (both_left (is_none (open_of w.actors name) && is_in_time command) (names_declared config command) met)) all
commands_after config w (events.Take c) met all = take_fit w c (open_command w c) all
commands_after config w (events.Read c) met all = read_fit w c (term_of w c) all
commands_after config w (events.Intend c a) met all = intend_fit w c a (term_of w c) all
commands_after config w (events.Record c a) met all = record_fit w c a (term_of w c) all
commands_after config w (events.Drain c a) met all = drain_fit w c a (term_of w c) all
commands_after config w (events.Release c) met all = release_fit w c (term_of w c) all
commands_after config w events.Lapse met all = all
commands_after config w (events.Send c a call) met all =
    changed_fit w.commands c (with_act (acts.Sent (next_message w))) all (λ x h. acted_fit (acts.Sent (next_message w)) x refl h)
commands_after config w (events.Deliver k) met all = alone_fit w _ (delivery_alone config w k (numbered w.post k)) all
commands_after config w (events.GiveUp c k) met all = alone_fit w _ (up_alone w k (why_given_up w c k)) all
commands_after config w (events.Offer r) met all = alone_fit w _ (offer_alone w (offer_to w r)) all
commands_after config w (events.Write c a) met all = write_fit config w c a (open_command w c) all
commands_after config w (events.Tell c) met all = told_fit w c (tell_of w c) all
commands_after config w (events.Local a) met all = alone_fit w _ (local_alone config w a) all
commands_after config w (events.Crash a keep) met all = all
commands_after config w (events.Restart a) met all = all
commands_after config w (events.Cut x y) met all = all
commands_after config w (events.Mend x y) met all = all
commands_after config w (events.Lose k) met all = all
commands_after config w (events.Tick ms) met all = all
commands_after config w (events.End c x) met all = end_fit w c (open_command w c) all

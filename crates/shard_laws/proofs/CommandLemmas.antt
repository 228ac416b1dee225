-- What one step does to the commands: one begins, or one changes, which keeps what it was begun with and what it wrote; and so what a history does to them.
use Rattle.std.proofs.Common.{◌≡◌, ◌⊎◌, inl, inr, ℕ, zero, suc, ◌+◌, Bool, true, false, ◌==◌, refl, ap, sym, subst, ◌∙◌, arith, List, [], ◌∷◌, ◌++◌, Option, Some, None, Result, Ok, Err, option_map, is_none, unwrap_or, length}
use Rattle.std.proofs.lemmas.Bool.{false≢true}
use Rattle.std.proofs.lemmas.Bool.Decides.{nat_tests}
use Rattle.std.specs.List.{slice_get}
use Rattle.shard_base.specs.Options.{◌>>=◌}
use Rattle.shard_names.specs.declared.alias.Alias.{Alias}
use Rattle.shard_names.specs.declared.tablet.Tablet.{Tablet}
use Rattle.shard_names.specs.Tablets.{is_declared, tablet_of}
use Rattle.shard_names.proofs.TabletLemmas.{both_right}
use Rattle.gtid_sets.specs.declared.entry.Kind.TheVariants as kinds
use Rattle.gtid_sets.specs.Logs.{next_gtid}
use Rattle.topo_lock.specs.Topology.{answer_take, answer_intend, answer_record, answer_drain}
use Rattle.topo_lock.specs.declared.lock.LockTaken.{LockTaken}
use Rattle.topo_lock.specs.declared.lock.TopoFault.{TopoFault}
use Rattle.topo_lock.specs.declared.lock.TopoFault.TheVariants as faults
use Rattle.shard_calls.specs.declared.command.Command.{Command}
use Rattle.shard_calls.specs.declared.event.Event.{Event}
use Rattle.shard_calls.specs.declared.event.Event.TheVariants as events
use Rattle.shard_calls.specs.declared.event.Reply.TheVariants as replies
use Rattle.shard_calls.specs.declared.event.Step.{Step}
use Rattle.shard_calls.specs.declared.outcome.Written.{Written}
use Rattle.shard_calls.specs.declared.outcome.Written.TheVariants as writtens
use Rattle.shard_calls.specs.declared.state.Act.{Act}
use Rattle.shard_calls.specs.declared.state.CommandState.{CommandState}
use Rattle.shard_calls.specs.declared.state.Wrote.{Wrote}
use Rattle.shard_calls.specs.Stands.{primary_term}
use Rattle.shard_calls.specs.Tablets.{Verdict, only_says, writes_own}
use Rattle.shard_calls.specs.World.{Config, World, opening, numbered, changed_at, with_act, open_command, term_of}
use Rattle.shard_calls.specs.Messages.{why_given_up, offer_to}
use Rattle.shard_calls.specs.Begins.{begun_state, ends_by}
use Rattle.shard_calls.specs.Locks.{takes_by, with_taken, by_term, reads, intends_in, with_intended, records_in, with_recorded, drains_in, with_drained, as_released, releases_in}
use Rattle.shard_calls.specs.Deliveries.{if_declared}
use Rattle.shard_calls.specs.Writes.{may_write, is_write, writes_in, writes_at, written_reply, write_reply, write_verdict, with_written, told_act, with_told, tell_of}
use Rattle.shard_calls.specs.Table.{after, answer, Met, IsStep, IsRun}
use Rattle.shard_calls.specs.Promotions.{world_at}
use Rattle.shard_calls.proofs.ListLemmas.{slice_get-append, numbered-push_cases, changed_at_cases, numbered_changed, numbered_other}
use Rattle.shard_calls.proofs.ActLemmas.{if_open_is, list_declared, list_delivery, list_up, list_offer}
use Rattle.shard_calls.proofs.RunLemmas.{step_along, next_world}
use Rattle.shard_laws.proofs.LeaderLemmas.{past_end}

-- ---- what is meant

-- the command writes with this event, whose reply says what
pub record WritesNow (config : Config) (w : World) (e : Event) (c : ℕ) (old new : CommandState) : Type 0 where
  pub wrote : Wrote
  pub event : e ≡ events.Write c wrote.alias
  pub reply : answer config w e ≡ replies.Wrote wrote.gtid
  pub before : old.wrote ≡ None
  pub later : new.wrote ≡ Some wrote

pub record Goes (config : Config) (w : World) (e : Event) (c : ℕ) (old new : CommandState) : Type 0 where
  pub same_command : new.command ≡ old.command
  pub same_number : new.number ≡ old.number
  pub same_opening : new.opening ≡ old.opening
  pub wrote : (new.wrote ≡ old.wrote) ⊎ WritesNow config w e c old new

pub data Change (config : Config) (w : World) (e : Event) : List CommandState → Type 0 where
  Same : Change config w e w.commands
  Begins : (name : List ℕ) (command : Command) → e ≡ events.Begin name command → Change config w e (w.commands ++ begun_state w name command ∷ [])
  Changes : (d : ℕ) (f : CommandState → CommandState) → ((s : CommandState) → numbered w.commands d ≡ Some s → Goes config w e d s (f s))
      → Change config w e (changed_at w.commands d f)

-- ---- each row

abbrev Keeps : CommandState → CommandState → Type 0
Keeps s t = (t.command ≡ s.command) × (t.number ≡ s.number) × (t.opening ≡ s.opening) × (t.wrote ≡ s.wrote)

plainly : (config : Config) (w : World) (e : Event) (c : ℕ) (s t : CommandState) → Keeps s t → Goes config w e c s t
plainly config w e c s t h = record { same_command = h.0; same_number = h.1; same_opening = h.2; wrote = inl h.3 }

changes : (config : Config) (w : World) (e : Event) (d : ℕ) (f : CommandState → CommandState) → ((s : CommandState) → Keeps s (f s)) → Change config w e (changed_at w.commands d f)
changes config w e d f keeps = Changes d f (λ s here. plainly config w e d s (f s) (keeps s))

same : (config : Config) (w : World) (e : Event) (new : List CommandState) → new ≡ w.commands → Change config w e new
same config w e new is = subst (λ (xs : List CommandState). Change config w e xs) (sym is) Same

take_change : (config : Config) (w : World) (d : ℕ) (o : Option CommandState) → Change config w (events.Take d) (takes_by w d o).commands
take_change config w d None = Same
take_change config w d (Some s) = changes config w (events.Take d) d (with_taken (answer_take w.topo)) (keeps (answer_take w.topo))
  where
    keeps : (r : Result ℕ LockTaken) (x : CommandState) → Keeps x (with_taken r x)
    keeps (Ok t) x = (refl, refl, refl, refl)
    keeps (Err held) x = (refl, refl, refl, refl)

by_change : (config : Config) (w : World) (e : Event) (f : ℕ → World) (o : Option ℕ) → ((t : ℕ) → Change config w e (f t).commands)
    → Change config w e (by_term o w f).commands
by_change config w e f None h = Same
by_change config w e f (Some t) h = h t

intended_keeps : (a : Alias) (r : Result (Unit {0}) TopoFault) (x : CommandState) → Keeps x (with_intended a r x)
intended_keeps a (Ok u) x = (refl, refl, refl, refl)
intended_keeps a (Err (faults.LockLost current)) x = (refl, refl, refl, refl)
intended_keeps a (Err (faults.IntentStands b)) x = (refl, refl, refl, refl)

recorded_keeps : (a : Alias) (r : Result (Unit {0}) TopoFault) (x : CommandState) → Keeps x (with_recorded a r x)
recorded_keeps a (Ok u) x = (refl, refl, refl, refl)
recorded_keeps a (Err (faults.LockLost current)) x = (refl, refl, refl, refl)
recorded_keeps a (Err (faults.IntentStands b)) x = (refl, refl, refl, refl)

drained_keeps : (a : Alias) (r : Result (Unit {0}) TopoFault) (x : CommandState) → Keeps x (with_drained a r x)
drained_keeps a (Ok u) x = (refl, refl, refl, refl)
drained_keeps a (Err (faults.LockLost current)) x = (refl, refl, refl, refl)
drained_keeps a (Err (faults.IntentStands b)) x = (refl, refl, refl, refl)

act_change : (config : Config) (w : World) (e : Event) (d : ℕ) (act : Act) → Change config w e (changed_at w.commands d (with_act act))
act_change config w e d act = changes config w e d (with_act act) (λ s. (refl, refl, refl, refl))

tell_change : (config : Config) (w : World) (d : ℕ) (o : Option Act) → Change config w (events.Tell d) (with_told w d o).commands
tell_change config w d None = Same
tell_change config w d (Some act) = act_change config w (events.Tell d) d act

end_change : (config : Config) (w : World) (e : Event) (d : ℕ) (o : Option CommandState) → Change config w e (ends_by w d o).commands
end_change config w e d None = Same
end_change config w e d (Some s) = changes config w e d (λ x. record x { ended = true }) (λ x. (refl, refl, refl, refl))

-- ---- a write

abbrev says_by : World → Alias → CommandState → Tablet → Option ℕ → Verdict Written
says_by w a s me o = elim o as (λ _. Verdict Written) [
  | Some t ↦ writes_own me (kinds.Write t s.client s.number) (w.tablets a)
  | None ↦ only_says (w.tablets a) (writtens.NotPrimary (w.tablets a).stand)
]

wrote_reply : (config : Config) (w : World) (d t : ℕ) (a : Alias) (s : CommandState) (me : Tablet) → open_command w d ≡ Some s → tablet_of config.tablets a ≡ Some me
    → primary_term (w.tablets a).stand ≡ Some t → answer config w (events.Write d a) ≡ replies.Wrote (next_gtid me.server (w.tablets a).log)
wrote_reply config w d t a s me begun found is =
    ap (λ (o : Option CommandState). write_reply config w a o) begun
    ∙ ap (λ (o : Option Tablet). if_declared o replies.Ok (λ x. written_reply (write_verdict w a s x).says)) found
    ∙ ap (λ (o : Option ℕ). written_reply (says_by w a s me o).says) is

unwritten : (s x : CommandState) → Some s ≡ Some x → is_none s.wrote ≡ true → x.wrote ≡ None
unwritten s x same none = subst (λ (y : CommandState). y.wrote ≡ None) (let is : s ≡ x = cc in is) (of_option s.wrote none)
  where
    of_option : (o : Option Wrote) → is_none o ≡ true → o ≡ None
    of_option None h = refl
    of_option (Some y) h = absurd (false≢true h)

written_change : (config : Config) (w : World) (d : ℕ) (a : Alias) (s : CommandState) (me : Tablet) (o : Option ℕ) → open_command w d ≡ Some s → is_none s.wrote ≡ true
    → tablet_of config.tablets a ≡ Some me → primary_term (w.tablets a).stand ≡ o
    → Change config w (events.Write d a) (changed_at w.commands d (with_written a (w.tablets a) (says_by w a s me o).says))
written_change config w d a s me None begun none found is = act_change config w (events.Write d a) d _
written_change config w d a s me (Some t) begun none found is =
    Changes d (with_written a (w.tablets a) (writtens.Entry (next_gtid me.server (w.tablets a).log))) (λ x here. record {
      same_command = refl;
      same_number = refl;
      same_opening = refl;
      wrote = inr (record {
        wrote = record { gtid = next_gtid me.server (w.tablets a).log; alias = a; term = unwrap_or (primary_term (w.tablets a).stand) 0; index = length (w.tablets a).log + 1 };
        event = refl;
        reply = wrote_reply config w d t a s me begun found is;
        before = unwritten s x (sym (if_open_is (numbered w.commands d) s begun) ∙ here) none;
        later = refl;
      });
    })

declared_change : (config : Config) (w : World) (d : ℕ) (a : Alias) (s : CommandState) (o : Option Tablet) → open_command w d ≡ Some s → is_none s.wrote ≡ true
    → tablet_of config.tablets a ≡ o → Change config w (events.Write d a) (if_declared o w (writes_at w d a s)).commands
declared_change config w d a s None begun none found = Same
declared_change config w d a s (Some me) begun none found = written_change config w d a s me (primary_term (w.tablets a).stand) begun none found refl

write_change : (config : Config) (w : World) (d : ℕ) (a : Alias) (o : Option CommandState) → open_command w d ≡ o → may_write o ≡ true
    → Change config w (events.Write d a) (writes_in config w d a o).commands
write_change config w d a None begun may = absurd (false≢true may)
write_change config w d a (Some s) begun may = declared_change config w d a s (tablet_of config.tablets a) begun (both_right (is_write s.command) (is_none s.wrote) may) refl

-- ---- each step

pub change_of : (config : Config) (w : World) (e : Event) → Met config w e → Change config w e (after config w e).commands
change_of config w (events.Begin name command) met = Begins name command refl
change_of config w (events.Take d) met = take_change config w d (open_command w d)
change_of config w (events.Read d) met = by_change config w _ (reads w d) (term_of w d) (λ t. act_change config w (events.Read d) d _)
change_of config w (events.Intend d a) met =
    by_change config w _ (intends_in w d a) (term_of w d) (λ t. changes config w (events.Intend d a) d _ (intended_keeps a (answer_intend w.topo t a)))
change_of config w (events.Record d a) met =
    by_change config w _ (records_in w d a) (term_of w d) (λ t. changes config w (events.Record d a) d _ (recorded_keeps a (answer_record w.topo t)))
change_of config w (events.Drain d a) met =
    by_change config w _ (drains_in w d a) (term_of w d) (λ t. changes config w (events.Drain d a) d _ (drained_keeps a (answer_drain w.topo t)))
change_of config w (events.Release d) met =
    by_change config w _ (releases_in w d) (term_of w d) (λ t. changes config w (events.Release d) d as_released (λ s. (refl, refl, refl, refl)))
change_of config w events.Lapse met = Same
change_of config w (events.Send d a call) met = act_change config w (events.Send d a call) d _
change_of config w (events.Deliver k) met = same config w _ _ (list_delivery config w k (numbered w.post k))
change_of config w (events.GiveUp d k) met = same config w _ _ (list_up w k (why_given_up w d k))
change_of config w (events.Offer r) met = same config w _ _ (list_offer w (offer_to w r))
change_of config w (events.Write d a) met =
    write_change config w d a (open_command w d) refl (both_right (is_declared config.tablets a) (may_write (open_command w d)) met)
change_of config w (events.Tell d) met = tell_change config w d (tell_of w d >>= told_act)
change_of config w (events.Local a) met = same config w _ _ (list_declared w _ (tablet_of config.tablets a) (λ me. refl))
change_of config w (events.Crash a keep) met = Same
change_of config w (events.Restart a) met = Same
change_of config w (events.Cut x y) met = Same
change_of config w (events.Mend x y) met = Same
change_of config w (events.Lose k) met = Same
change_of config w (events.Tick ms) met = Same
change_of config w (events.End d x) met = end_change config w (events.End d x) d (open_command w d)

-- ---- one command, to and fro

pub record BegunBy (w : World) (e : Event) (c : ℕ) (s : CommandState) : Type 0 where
  pub name : List ℕ
  pub command : Command
  pub event : e ≡ events.Begin name command
  pub place : c ≡ length w.commands + 1
  pub state : begun_state w name command ≡ s

abbrev pub CameFrom : Config → World → Event → ℕ → CommandState → Type 0
CameFrom config w e c t = BegunBy w e c t ⊎ ((s : CommandState) × (numbered w.commands c ≡ Some s) × Goes config w e c s t)

itself : (config : Config) (w : World) (e : Event) (c : ℕ) (s : CommandState) → Goes config w e c s s
itself config w e c s = plainly config w e c s s (refl, refl, refl, refl)

pushed : (xs : List CommandState) (x : CommandState) (c : ℕ) (s : CommandState) → numbered xs c ≡ Some s → numbered (xs ++ x ∷ []) c ≡ Some s
pushed xs x zero s h = absurd (let none : None ≡ Some s = h in cc)
pushed xs x (suc n) s h = slice_get-append xs (x ∷ []) n s h

-- a command that is there is there after the step
pub forward : (config : Config) (w : World) (e : Event) (new : List CommandState) (c : ℕ) (s : CommandState) → Change config w e new → numbered w.commands c ≡ Some s
    → (t : CommandState) × (numbered new c ≡ Some t) × Goes config w e c s t
forward config w e _ c s Same here = (s, here, itself config w e c s)
forward config w e _ c s (Begins name command is) here = (s, pushed w.commands _ c s here, itself config w e c s)
forward config w e _ c s (Changes d f goes) here = of_test (d == c) refl
  where
    of_test : (b : Bool) → (d == c) ≡ b → (t : CommandState) × (numbered (changed_at w.commands d f) c ≡ Some t) × Goes config w e c s t
    of_test true is =
        let one : d ≡ c = grind (arith, nat_tests) in
        let at : numbered w.commands d ≡ Some s = subst (λ (n : ℕ). numbered w.commands n ≡ Some s) (sym one) here in (
          f s,
          subst (λ (n : ℕ). numbered (changed_at w.commands d f) n ≡ Some (f s)) one (numbered_changed w.commands d f ∙ ap (λ (o : Option CommandState). option_map f o) at),
          subst (λ (n : ℕ). Goes config w e n s (f s)) one (goes s at),
        )
    of_test false is = (s, numbered_other w.commands d c f is ∙ here, itself config w e c s)

-- a command that is there after the step was there, or begins with it
pub backward : (config : Config) (w : World) (e : Event) (new : List CommandState) (c : ℕ) (t : CommandState) → Change config w e new → numbered new c ≡ Some t
    → CameFrom config w e c t
backward config w e _ c t Same here = inr (t, here, itself config w e c t)
backward config w e _ c t (Begins name command is) here = of_cases (numbered-push_cases w.commands (begun_state w name command) t c here)
  where
    of_cases : (numbered w.commands c ≡ Some t) ⊎ ((c ≡ length w.commands + 1) × (begun_state w name command ≡ t)) → CameFrom config w e c t
    of_cases (inl h) = inr (t, h, itself config w e c t)
    of_cases (inr h) = inl (record { name = name; command = command; event = is; place = h.0; state = h.1 })
backward config w e _ c t (Changes d f goes) here = of_cases (changed_at_cases w.commands d f c t here)
  where
    of_cases : (numbered w.commands c ≡ Some t) ⊎ ((d ≡ c) × ((x : CommandState) × (numbered w.commands c ≡ Some x) × (f x ≡ t))) → CameFrom config w e c t
    of_cases (inl h) = inr (t, h, itself config w e c t)
    of_cases (inr h) =
        let x : CommandState = h.1.0 in
        let at : numbered w.commands d ≡ Some x = subst (λ (n : ℕ). numbered w.commands n ≡ Some x) (sym h.0) h.1.1 in
        inr (x, h.1.1, subst (λ (n : ℕ). Goes config w e n x t) h.0 (subst (λ (y : CommandState). Goes config w e d x y) h.1.2 (goes x at)))

-- ---- along a history

-- the next world is the same one, past the end, or that after a step
pub data NextIs (config : Config) (ss : List Step) (i : ℕ) (v : World) : Type 0 where
  AtEnd : world_at config ss i ≡ v → NextIs config ss i v
  BySteps : (s : Step) → slice_get ss i ≡ Some s → IsStep config (world_at config ss i) s → after config (world_at config ss i) s.event ≡ v → NextIs config ss i v

pub next_is : (config : Config) (ss : List Step) (i : ℕ) → IsRun config ss → NextIs config ss i (world_at config ss (suc i))
next_is config ss i run = of_option (slice_get ss i) refl
  where
    of_option : (o : Option Step) → slice_get ss i ≡ o → NextIs config ss i (world_at config ss (suc i))
    of_option None is = AtEnd (sym (past_end config (opening config) ss i is))
    of_option (Some s) is = BySteps s is (step_along config (opening config) ss i s run is) (sym (next_world config (opening config) ss i s is))

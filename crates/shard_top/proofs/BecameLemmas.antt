-- What a line becomes: its event, or its note, or nothing where it is none by itself.
use Rattle.std.proofs.Common.{◌≡◌, ◌⊎◌, inl, inr, ℕ, ◌+◌, ◌-◌, ◌==◌, ◌≤◌, List, [], ◌∷◌, Bool, true, false, cond, Option, Some, None, length, refl, ap, sym, subst, ◌∙◌, arith}
use Rattle.std.specs.Bool.{⊤}
use Rattle.std.proofs.lemmas.Bool.{false≢true}
use Rattle.shard_calls.specs.World.{Config, World, main_name, open_of, open_command}
use Rattle.shard_calls.specs.Table.{meets}
use Rattle.shard_calls.specs.declared.command.Command.{Command}
use Rattle.shard_calls.specs.declared.event.Event.{Event}
use Rattle.shard_calls.specs.declared.event.Event.TheVariants as events
use Rattle.shard_calls.specs.declared.event.Note.{Note}
use Rattle.shard_calls.specs.declared.event.Step.{Step}
use Rattle.shard_calls.specs.declared.state.CommandState.{CommandState}
use Rattle.shard_script.specs.declared.script.Action.{Action}
use Rattle.shard_script.specs.declared.script.Action.TheVariants as actions
use Rattle.planned.specs.Follows.{maker_of}
use Rattle.vtctld_text.specs.Notes.{action_text}
use Rattle.vtctld_text.specs.declared.note.RefusedAction.{RefusedAction}
use Rattle.vtctld_text.specs.declared.note.RefusedAction.TheVariants as refusals
use Rattle.shard_top.specs.Accounts.{comes_of_line, IsDone, IsNoted, Became}
use Rattle.shard_top.specs.declared.player.Task.{Task}
use Rattle.shard_top.specs.declared.player.Task.TheVariants as tasks
use Rattle.shard_top.specs.declared.player.Go.{Go}
use Rattle.shard_top.specs.declared.player.Go.TheVariants as goes
use Rattle.shard_top.specs.declared.player.Start.{Start}
use Rattle.shard_top.specs.declared.player.Start.TheVariants as starts_as
use Rattle.shard_top.specs.Played.{arrival, pump, asked, gives, turned, finished, turns_on, finishes_on, played_at, gives_by, gives_on, settles, go_on, turn_of, finish_of, unless_refused, starts}
use Rattle.shard_top.proofs.ClockLemmas.{goes_by}
use Rattle.shard_top.proofs.FairLemmas.{next_made}
use Rattle.shard_top.proofs.ProgramLemmas.{arrival_is, pump_is}

-- ---- steps that come of no line

abbrev Then : Type 1
Then = List Step → List Note → Type 0

done_more : (e : Event) (s : Step) (steps : List Step) (notes : List Note) (GoesOn : Then) → comes_of_line s.event ≡ false → IsDone e steps notes GoesOn → IsDone e (s ∷ steps) notes GoesOn
done_more e s steps notes GoesOn calm h = record {
  before = s ∷ h.before;
  step = h.step;
  behind = h.behind;
  split = ap (λ (ss : List Step). s ∷ ss) h.split;
  none_before = (calm, h.none_before);
  event = h.event;
  goes_on = h.goes_on;
}

noted_more : (r : RefusedAction) (s : Step) (steps : List Step) (notes : List Note) (GoesOn : Then) → ((ns : List Note) → GoesOn steps ns → GoesOn (s ∷ steps) ns)
    → IsNoted r steps notes GoesOn → IsNoted r (s ∷ steps) notes GoesOn
noted_more r s steps notes GoesOn more h = record { note = h.note; behind = h.behind; split = h.split; line = h.line; goes_on = more h.behind h.goes_on }

either_more : (e : Event) (r : RefusedAction) (s : Step) (steps : List Step) (notes : List Note) (GoesOn : Then) → comes_of_line s.event ≡ false
    → ((ns : List Note) → GoesOn steps ns → GoesOn (s ∷ steps) ns) → IsDone e steps notes GoesOn ⊎ IsNoted r steps notes GoesOn
    → IsDone e (s ∷ steps) notes GoesOn ⊎ IsNoted r (s ∷ steps) notes GoesOn
either_more e r s steps notes GoesOn calm more (inl h) = inl (done_more e s steps notes GoesOn calm h)
either_more e r s steps notes GoesOn calm more (inr h) = inr (noted_more r s steps notes GoesOn more h)

-- a step more in front that comes of no line
pub became_more : (xs : List Action) (s : Step) (steps : List Step) (notes : List Note) → comes_of_line s.event ≡ false → Became xs steps notes → Became xs (s ∷ steps) notes
became_more [] s steps notes calm h = ((calm, h.0), h.1)
became_more (actions.Play command n ∷ xs) s steps notes calm h = became_more xs s steps notes calm h
became_more (actions.Start name command ∷ xs) s steps notes calm h = became_more xs s steps notes calm h
became_more (actions.Turn name pumps ∷ xs) s steps notes calm h = became_more xs s steps notes calm h
became_more (actions.Finish name ∷ xs) s steps notes calm h = became_more xs s steps notes calm h
became_more (actions.Settle ∷ xs) s steps notes calm h = became_more xs s steps notes calm h
became_more (actions.Local a ∷ xs) s steps notes calm h =
    either_more (events.Local a) (refusals.IsDown a) s steps notes (Became xs) calm (λ ns k. became_more xs s steps ns calm k) h
became_more (actions.Crash a keep ∷ xs) s steps notes calm h = done_more (events.Crash a keep) s steps notes (Became xs) calm h
became_more (actions.Restart a ∷ xs) s steps notes calm h =
    either_more (events.Restart a) (refusals.IsUp a) s steps notes (Became xs) calm (λ ns k. became_more xs s steps ns calm k) h
became_more (actions.Cut x y ∷ xs) s steps notes calm h = done_more (events.Cut x y) s steps notes (Became xs) calm h
became_more (actions.Mend x y ∷ xs) s steps notes calm h = done_more (events.Mend x y) s steps notes (Became xs) calm h
became_more (actions.Lose k ∷ xs) s steps notes calm h =
    either_more (events.Lose k) (refusals.NoMessage k) s steps notes (Became xs) calm (λ ns j. became_more xs s steps ns calm j) h
became_more (actions.Repeat k ∷ xs) s steps notes calm h =
    either_more (events.Deliver k) (refusals.NotDeliverable k) s steps notes (Became xs) calm (λ ns j. became_more xs s steps ns calm j) h
became_more (actions.Lapse ∷ xs) s steps notes calm h = done_more events.Lapse s steps notes (Became xs) calm h
became_more (actions.Tick ms ∷ xs) s steps notes calm h = done_more (events.Tick ms) s steps notes (Became xs) calm h

-- ---- what a task goes on by comes of no line

abbrev pub Calm : Event → Type 0
Calm e = comes_of_line e ≡ false

pub maker_calm : (e : Event) (c : ℕ) → maker_of e ≡ Some c → Calm e
maker_calm (events.Begin name command) c is = refl
maker_calm (events.Take d) c is = refl
maker_calm (events.Read d) c is = refl
maker_calm (events.Intend d a) c is = refl
maker_calm (events.Record d a) c is = refl
maker_calm (events.Drain d a) c is = refl
maker_calm (events.Release d) c is = refl
maker_calm events.Lapse c is = absurd (let none : ◌≡◌ {A = Option ℕ} None (Some c) = is in cc)
maker_calm (events.Send d a call) c is = refl
maker_calm (events.Deliver k) c is = refl
maker_calm (events.GiveUp d k) c is = refl
maker_calm (events.Offer a) c is = refl
maker_calm (events.Write d a) c is = refl
maker_calm (events.Tell d) c is = refl
maker_calm (events.Local a) c is = absurd (let none : ◌≡◌ {A = Option ℕ} None (Some c) = is in cc)
maker_calm (events.Crash a keep) c is = absurd (let none : ◌≡◌ {A = Option ℕ} None (Some c) = is in cc)
maker_calm (events.Restart a) c is = absurd (let none : ◌≡◌ {A = Option ℕ} None (Some c) = is in cc)
maker_calm (events.Cut x y) c is = absurd (let none : ◌≡◌ {A = Option ℕ} None (Some c) = is in cc)
maker_calm (events.Mend x y) c is = absurd (let none : ◌≡◌ {A = Option ℕ} None (Some c) = is in cc)
maker_calm (events.Lose k) c is = absurd (let none : ◌≡◌ {A = Option ℕ} None (Some c) = is in cc)
maker_calm (events.Tick ms) c is = absurd (let none : ◌≡◌ {A = Option ℕ} None (Some c) = is in cc)
maker_calm (events.End d answer) c is = refl

-- the clock goes on by a line alone
pub calm_still : (e : Event) → Calm e → goes_by e ≡ 0
calm_still (events.Tick ms) calm = absurd (false≢true (sym calm))
calm_still _ calm = refl

arrival_calm : (config : Config) (w : World) (e : Event) → arrival config w ≡ Some e → Calm e
arrival_calm config w e is = arrival_is config w Calm (λ k. refl) (λ a. refl) e is

pump_calm : (config : Config) (w : World) (c : ℕ) (e : Event) → pump config w c ≡ Some e → Calm e
pump_calm config w c e is = pump_is config w Calm (λ k. refl) (λ a. refl) c (λ v h. maker_calm v c (next_made config w c v h)) e is

abbrev pub CalmGo : Go → Type 0
CalmGo (goes.Makes e task) = Calm e
CalmGo (goes.Blocked name) = ⊤
CalmGo goes.Finished = ⊤

asked_calm : (config : Config) (w : World) (e : Event) (task : Task) → Calm e → CalmGo (asked config w e task)
asked_calm config w e task calm = of_test (meets config w e)
  where
    of_test : (b : Bool) → CalmGo (cond b (goes.Makes e task) goes.Finished)
    of_test true = calm
    of_test false = tt

gives_calm : (config : Config) (w : World) (command : Command) (count : ℕ) → CalmGo (gives config w command count)
gives_calm config w command count = of_test (count == 0)
  where
    task : Task
    task = tasks.Gives (length w.commands + 1) (count - 1)

    of_test : (b : Bool) → CalmGo (cond b goes.Finished (asked config w (events.Begin main_name command) task))
    of_test true = tt
    of_test false = asked_calm config w (events.Begin main_name command) task refl

turned_calm : (config : Config) (w : World) (c left : ℕ) (o : Option Event) → pump config w c ≡ o → CalmGo (turned c left o)
turned_calm config w c left None is = tt
turned_calm config w c left (Some e) is = of_test (left == 0)
  where
    of_test : (b : Bool) → CalmGo (cond b goes.Finished (goes.Makes e (tasks.Turns c (left - 1))))
    of_test true = tt
    of_test false = pump_calm config w c e is

turns_calm : (config : Config) (w : World) (c left : ℕ) (o : Option CommandState) → CalmGo (turns_on config w c left o)
turns_calm config w c left None = tt
turns_calm config w c left (Some s) = turned_calm config w c left (pump config w c) refl

finished_calm : (config : Config) (w : World) (c : ℕ) (s : CommandState) (task : Task) (o : Option Event) → pump config w c ≡ o → CalmGo (finished s task o)
finished_calm config w c s task None is = tt
finished_calm config w c s task (Some e) is = pump_calm config w c e is

finishes_calm : (config : Config) (w : World) (c : ℕ) (o : Option CommandState) → CalmGo (finishes_on config w c o)
finishes_calm config w c None = tt
finishes_calm config w c (Some s) = finished_calm config w c s (tasks.Finishes c) (pump config w c) refl

gives_by_calm : (config : Config) (w : World) (given : Option Command) (again : ℕ) → CalmGo (gives_by config w given again)
gives_by_calm config w None again = tt
gives_by_calm config w (Some command) again = gives_calm config w command again

gives_on_calm : (config : Config) (w : World) (c : ℕ) (given : Option Command) (again : ℕ) (o : Option CommandState) → CalmGo (gives_on config w c given again o)
gives_on_calm config w c given again None = gives_by_calm config w given again
gives_on_calm config w c given again (Some s) = finished_calm config w c s (tasks.Gives c again) (pump config w c) refl

settles_calm : (config : Config) (w : World) (o : Option Event) → arrival config w ≡ o → CalmGo (settles o)
settles_calm config w None is = tt
settles_calm config w (Some e) is = arrival_calm config w e is

pub go_calm : (config : Config) (w : World) (lines : List Action) (line : ℕ) (task : Task) → CalmGo (go_on config w lines line task)
go_calm config w lines line tasks.Free = tt
go_calm config w lines line (tasks.Turns c left) = turns_calm config w c left (open_command w c)
go_calm config w lines line (tasks.Finishes c) = finishes_calm config w c (open_command w c)
go_calm config w lines line (tasks.Gives c again) = gives_on_calm config w c (played_at lines line) again (open_command w c)
go_calm config w lines line tasks.Settles = settles_calm config w (arrival config w) refl

turn_calm : (config : Config) (w : World) (pumps : ℕ) (o : Option ℕ) → CalmGo (turn_of config w pumps o)
turn_calm config w pumps None = tt
turn_calm config w pumps (Some c) = turns_calm config w c pumps (open_command w c)

finish_calm : (config : Config) (w : World) (o : Option ℕ) → CalmGo (finish_of config w o)
finish_calm config w None = tt
finish_calm config w (Some c) = finishes_calm config w c (open_command w c)

-- ---- what a line becomes

-- nothing by itself
abbrev pub IsPlain : Action → Type 0
IsPlain x = (xs : List Action) (steps : List Step) (notes : List Note) → Became xs steps notes → Became (x ∷ xs) steps notes

-- a step of this event
abbrev pub IsMadeBy : Action → Event → Type 0
IsMadeBy x e = (xs : List Action) (s : Step) (steps : List Step) (notes : List Note) → s.event ≡ e → Became xs steps notes → Became (x ∷ xs) (s ∷ steps) notes

-- this note
abbrev pub IsNotedBy : Action → RefusedAction → Type 0
IsNotedBy x r = (xs : List Action) (steps : List Step) (n : Note) (notes : List Note) → n.line ≡ action_text r → Became xs steps notes → Became (x ∷ xs) steps (n ∷ notes)

-- by how much it lets the clock go on
abbrev pub ticked : Action → ℕ
ticked (actions.Tick ms) = ms
ticked _ = 0

abbrev pub MakesBy : Action → Event → Type 0
MakesBy x e = IsMadeBy x e × (goes_by e ≤ ticked x)

abbrev pub StartBecomes : Action → Start → Type 0
StartBecomes x (starts_as.Goes (goes.Makes e task)) = MakesBy x e
StartBecomes x (starts_as.Goes (goes.Blocked name)) = ⊤
StartBecomes x (starts_as.Goes goes.Finished) = IsPlain x
StartBecomes x (starts_as.Notes refused) = IsNotedBy x refused

least : (n : ℕ) → 0 ≤ n
least n = omega arith

itself : (n : ℕ) → n ≤ n
itself n = omega arith

go_becomes : (x : Action) (g : Go) → IsPlain x → CalmGo g → StartBecomes x (starts_as.Goes g)
go_becomes x (goes.Makes e task) plain calm = (
  (λ xs s steps notes is h. plain xs (s ∷ steps) notes (became_more xs s steps notes (ap (λ (v : Event). comes_of_line v) is ∙ calm) h)),
  subst (λ (n : ℕ). n ≤ ticked x) (sym (calm_still e calm)) (least (ticked x)),
)
go_becomes x (goes.Blocked name) plain calm = tt
go_becomes x goes.Finished plain calm = plain

first_done : (e : Event) (s : Step) (steps : List Step) (notes : List Note) (GoesOn : Then) → s.event ≡ e → GoesOn steps notes → IsDone e (s ∷ steps) notes GoesOn
first_done e s steps notes GoesOn is h = record { before = []; step = s; behind = steps; split = refl; none_before = tt; event = is; goes_on = h }

first_noted : (r : RefusedAction) (steps : List Step) (n : Note) (notes : List Note) (GoesOn : Then) → n.line ≡ action_text r → GoesOn steps notes → IsNoted r steps (n ∷ notes) GoesOn
first_noted r steps n notes GoesOn is h = record { note = n; behind = notes; split = refl; line = is; goes_on = h }

done_by : (x : Action) (e : Event) → ((xs : List Action) (steps : List Step) (notes : List Note) → IsDone e steps notes (Became xs) → Became (x ∷ xs) steps notes) → IsMadeBy x e
done_by x e so xs s steps notes is h = so xs (s ∷ steps) notes (first_done e s steps notes (Became xs) is h)

noted_by : (x : Action) (r : RefusedAction) → ((xs : List Action) (steps : List Step) (notes : List Note) → IsNoted r steps notes (Became xs) → Became (x ∷ xs) steps notes) → IsNotedBy x r
noted_by x r so xs steps n notes is h = so xs steps (n ∷ notes) (first_noted r steps n notes (Became xs) is h)

asked_becomes : (config : Config) (w : World) (x : Action) (e : Event) → meets config w e ≡ true → MakesBy x e → StartBecomes x (starts_as.Goes (asked config w e tasks.Free))
asked_becomes config w x e met made = subst (λ (b : Bool). StartBecomes x (starts_as.Goes (cond b (goes.Makes e tasks.Free) goes.Finished))) (sym met) made

unless_becomes : (config : Config) (w : World) (x : Action) (e : Event) (r : RefusedAction) → MakesBy x e → IsNotedBy x r → StartBecomes x (unless_refused config w e r)
unless_becomes config w x e r made noted = of_test (meets config w e)
  where
    of_test : (b : Bool) → StartBecomes x (cond b (starts_as.Goes (goes.Makes e tasks.Free)) (starts_as.Notes r))
    of_test true = made
    of_test false = noted

-- where it is never left out
abbrev pub MayBeDone : Config → World → Action → Type 0
MayBeDone config w (actions.Crash a keep) = meets config w (events.Crash a keep) ≡ true
MayBeDone config w (actions.Cut x y) = meets config w (events.Cut x y) ≡ true
MayBeDone config w (actions.Mend x y) = meets config w (events.Mend x y) ≡ true
MayBeDone config w (actions.Tick ms) = meets config w (events.Tick ms) ≡ true
MayBeDone config w _ = ⊤

pub starts_becomes : (config : Config) (w : World) (x : Action) → MayBeDone config w x → StartBecomes x (starts config w x)
starts_becomes config w (actions.Play command n) may = go_becomes (actions.Play command n) (gives config w command n) (λ xs steps notes h. h) (gives_calm config w command n)
starts_becomes config w (actions.Start name command) may =
    go_becomes (actions.Start name command) (asked config w (events.Begin name command) tasks.Free) (λ xs steps notes h. h) (asked_calm config w (events.Begin name command) tasks.Free refl)
starts_becomes config w (actions.Turn name pumps) may =
    go_becomes (actions.Turn name pumps) (turn_of config w pumps (open_of w.actors name)) (λ xs steps notes h. h) (turn_calm config w pumps (open_of w.actors name))
starts_becomes config w (actions.Finish name) may =
    go_becomes (actions.Finish name) (finish_of config w (open_of w.actors name)) (λ xs steps notes h. h) (finish_calm config w (open_of w.actors name))
starts_becomes config w actions.Settle may = go_becomes actions.Settle (settles (arrival config w)) (λ xs steps notes h. h) (settles_calm config w (arrival config w) refl)
starts_becomes config w (actions.Local a) may =
    unless_becomes config w (actions.Local a) (events.Local a) (refusals.IsDown a) (done_by (actions.Local a) (events.Local a) (λ xs steps notes h. inl h), itself 0)
    (noted_by (actions.Local a) (refusals.IsDown a) (λ xs steps notes h. inr h))
starts_becomes config w (actions.Crash a keep) may =
    asked_becomes config w (actions.Crash a keep) (events.Crash a keep) may (done_by (actions.Crash a keep) (events.Crash a keep) (λ xs steps notes h. h), itself 0)
starts_becomes config w (actions.Restart a) may =
    unless_becomes config w (actions.Restart a) (events.Restart a) (refusals.IsUp a) (done_by (actions.Restart a) (events.Restart a) (λ xs steps notes h. inl h), itself 0)
    (noted_by (actions.Restart a) (refusals.IsUp a) (λ xs steps notes h. inr h))
starts_becomes config w (actions.Cut x y) may =
    asked_becomes config w (actions.Cut x y) (events.Cut x y) may (done_by (actions.Cut x y) (events.Cut x y) (λ xs steps notes h. h), itself 0)
starts_becomes config w (actions.Mend x y) may =
    asked_becomes config w (actions.Mend x y) (events.Mend x y) may (done_by (actions.Mend x y) (events.Mend x y) (λ xs steps notes h. h), itself 0)
starts_becomes config w (actions.Lose k) may =
    unless_becomes config w (actions.Lose k) (events.Lose k) (refusals.NoMessage k) (done_by (actions.Lose k) (events.Lose k) (λ xs steps notes h. inl h), itself 0)
    (noted_by (actions.Lose k) (refusals.NoMessage k) (λ xs steps notes h. inr h))
starts_becomes config w (actions.Repeat k) may =
    unless_becomes config w (actions.Repeat k) (events.Deliver k) (refusals.NotDeliverable k) (done_by (actions.Repeat k) (events.Deliver k) (λ xs steps notes h. inl h), itself 0)
    (noted_by (actions.Repeat k) (refusals.NotDeliverable k) (λ xs steps notes h. inr h))
starts_becomes config w actions.Lapse may = asked_becomes config w actions.Lapse events.Lapse refl (done_by actions.Lapse events.Lapse (λ xs steps notes h. h), itself 0)
starts_becomes config w (actions.Tick ms) may =
    asked_becomes config w (actions.Tick ms) (events.Tick ms) may (done_by (actions.Tick ms) (events.Tick ms) (λ xs steps notes h. h), itself ms)

-- What each move begins is what its actor is to do next.
use Rattle.std.proofs.Common.{◌≡◌, ◌≢◌, ◌⊎◌, inl, inr, ℕ, zero, suc, ◌+◌, ◌-◌, ◌==◌, List, [], ◌∷◌, ◌++◌, Bool, true, false, cond, Option, Some, None, option_map, length, refl, ap, sym, subst, ◌∙◌, arith}
use Rattle.std.proofs.lemmas.Bool.Decides.{nat_tests}
use Rattle.std.specs.Bool.{⊤}
use Rattle.std.specs.Str.{bytes_eq}
use Rattle.std.proofs.lemmas.List.{append-nil}
use Rattle.std.proofs.lemmas.Slice.Eq.{bytes_eq-Decides}
use Rattle.shard_calls.specs.World.{Config, World, main_name, numbered, open_of, open_command}
use Rattle.shard_calls.specs.Begins.{is_in_time, names_declared, begun_state}
use Rattle.shard_calls.specs.Table.{meets, after}
use Rattle.shard_calls.specs.declared.command.Command.{Command}
use Rattle.shard_calls.specs.declared.event.Event.{Event}
use Rattle.shard_calls.specs.declared.event.Event.TheVariants as events
use Rattle.shard_calls.specs.declared.state.CommandState.{CommandState}
use Rattle.shard_calls.proofs.ListLemmas.{numbered-push_cases}
use Rattle.shard_names.specs.declared.alias.Alias.{Alias}
use Rattle.shard_script.specs.declared.script.Action.{Action}
use Rattle.shard_script.specs.declared.script.Action.TheVariants as actions
use Rattle.shard_script.specs.Names.{started}
use Rattle.shard_top.specs.Programs.{times, given_by, asks_for, begun_by}
use Rattle.arrivals.specs.Arrivals.{next_due, next_offered}
use Rattle.planned.specs.Course.{next}
use Rattle.planned.specs.Follows.{maker_of}
use Rattle.planned.specs.Leaving.{or_else}
use Rattle.shard_core.specs.Pending.{FreeMayBegin}
use Rattle.vtctld_text.specs.declared.note.RefusedAction.{RefusedAction}
use Rattle.vtctld_text.specs.declared.note.RefusedAction.TheVariants as refusals
use Rattle.shard_top.specs.declared.player.Task.{Task}
use Rattle.shard_top.specs.declared.player.Task.TheVariants as tasks
use Rattle.shard_top.specs.declared.player.Go.{Go}
use Rattle.shard_top.specs.declared.player.Go.TheVariants as goes
use Rattle.shard_top.specs.declared.player.Start.{Start}
use Rattle.shard_top.specs.declared.player.Start.TheVariants as starts_as
use Rattle.shard_top.specs.Played.{delivery, offer, arrival, pump, asked, gives, turned, finished, turns_on, finishes_on, command_of, played_at, gives_by, gives_on, settles, go_on, turn_of, finish_of, unless_refused, starts}
use Rattle.shard_top.proofs.FairLemmas.{next_made}
use Rattle.shard_top.proofs.OwnLemmas.{was_open, runs_if_open, open_if_runs}

-- ---- who has a command open

abbrev pub NoneOpen : World → List ℕ → Type 0
NoneOpen w name = (c : ℕ) (s : CommandState) → open_command w c ≡ Some s → s.actor ≡ name → ⊥

-- the command that `main` may have open
abbrev pub Holds : Task → ℕ → Type 0
Holds tasks.Free c = ⊥
Holds (tasks.Turns b left) c = ⊥
Holds (tasks.Finishes b) c = ⊥
Holds (tasks.Gives b again) c = c ≡ b
Holds tasks.Settles c = ⊥

abbrev pub MainHeld : World → Task → Type 0
MainHeld w task = (c : ℕ) (s : CommandState) → open_command w c ≡ Some s → s.actor ≡ main_name → Holds task c

pub none_after : (config : Config) (w : World) (e : Event) (name : List ℕ) → begun_by e name ≡ [] → NoneOpen w name → NoneOpen (after config w e) name
none_after config w e name apart none c s h is =
    let x = was_open config w e c s (ap (λ (n : List ℕ). begun_by e n) is ∙ apart) h in
    none c x.0 x.1 (x.2 ∙ is)

pub held_after : (config : Config) (w : World) (e : Event) (task other : Task) → begun_by e main_name ≡ [] → ((c : ℕ) → Holds task c → Holds other c) → MainHeld w task
    → MainHeld (after config w e) other
held_after config w e task other apart keeps held c s h is =
    let x = was_open config w e c s (ap (λ (n : List ℕ). begun_by e n) is ∙ apart) h in
    keeps c (held c x.0 x.1 (x.2 ∙ is))

main_begun : (config : Config) (w : World) (command : Command) (again : ℕ) → NoneOpen w main_name
    → MainHeld (after config w (events.Begin main_name command)) (tasks.Gives (length w.commands + 1) again)
main_begun config w command again none c s h is =
    let now = runs_if_open (numbered (after config w (events.Begin main_name command)).commands c) s h in
    of_cases now.1 (numbered-push_cases w.commands (begun_state w main_name command) s c now.0)
  where
    of_cases : s.ended ≡ false → (numbered w.commands c ≡ Some s) ⊎ ((c ≡ length w.commands + 1) × (begun_state w main_name command ≡ s)) → c ≡ length w.commands + 1
    of_cases runs (inl k) = absurd (none c s (open_if_runs (numbered w.commands c) s k runs) is)
    of_cases runs (inr k) = k.0

-- ---- names

abbrev pub AllNamed : (List ℕ → Type 0) → List (List ℕ) → Type 0
AllNamed P [] = ⊤
AllNamed P (n ∷ ns) = P n × AllNamed P ns

pub named_map : (P Q : List ℕ → Type 0) → ((n : List ℕ) → P n → Q n) → (ns : List (List ℕ)) → AllNamed P ns → AllNamed Q ns
named_map P Q f [] h = tt
named_map P Q f (n ∷ ns) h = (f n h.0, named_map P Q f ns h.1)

named_all : (P : List ℕ → Type 0) → ((n : List ℕ) → P n) → (ns : List (List ℕ)) → AllNamed P ns
named_all P f [] = tt
named_all P f (n ∷ ns) = (f n, named_all P f ns)

pub named_both : (P Q R : List ℕ → Type 0) → ((n : List ℕ) → P n → Q n → R n) → (ns : List (List ℕ)) → AllNamed P ns → AllNamed Q ns → AllNamed R ns
named_both P Q R f [] h k = tt
named_both P Q R f (n ∷ ns) h k = (f n h.0 k.0, named_both P Q R f ns h.1 k.1)

-- ---- commands that are given

given_other : (name other : List ℕ) (commands : List Command) → name ≢ other → given_by name commands other ≡ []
given_other name other commands differ = of_test (bytes_eq name other) refl
  where
    of_test : (b : Bool) → bytes_eq name other ≡ b → cond b commands [] ≡ []
    of_test true is = absurd (differ ((bytes_eq-Decides name other).0 is))
    of_test false is = refl

given_none : (name actor : List ℕ) → given_by name [] actor ≡ []
given_none name actor = of_test (bytes_eq name actor)
  where
    of_test : (b : Bool) → ◌≡◌ {A = List Command} (cond b [] []) []
    of_test true = refl
    of_test false = refl

given_more : (name : List ℕ) (command : Command) (commands : List Command) (actor : List ℕ)
    → given_by name (command ∷ commands) actor ≡ given_by name (command ∷ []) actor ++ given_by name commands actor
given_more name command commands actor = of_test (bytes_eq name actor)
  where
    of_test : (b : Bool) → ◌≡◌ {A = List Command} (cond b (command ∷ commands) []) (cond b (command ∷ []) [] ++ cond b commands [])
    of_test true = refl
    of_test false = refl

-- ---- events by which nobody begins anything

abbrev pub Quiet : Event → Type 0
Quiet e = (actor : List ℕ) → begun_by e actor ≡ []

pub maker_quiet : (e : Event) (c : ℕ) → maker_of e ≡ Some c → Quiet e
maker_quiet (events.Begin name command) c is actor = absurd (let none : ◌≡◌ {A = Option ℕ} None (Some c) = is in cc)
maker_quiet (events.Take d) c is actor = refl
maker_quiet (events.Read d) c is actor = refl
maker_quiet (events.Intend d a) c is actor = refl
maker_quiet (events.Record d a) c is actor = refl
maker_quiet (events.Drain d a) c is actor = refl
maker_quiet (events.Release d) c is actor = refl
maker_quiet events.Lapse c is actor = refl
maker_quiet (events.Send d a call) c is actor = refl
maker_quiet (events.Deliver k) c is actor = refl
maker_quiet (events.GiveUp d k) c is actor = refl
maker_quiet (events.Offer a) c is actor = refl
maker_quiet (events.Write d a) c is actor = refl
maker_quiet (events.Tell d) c is actor = refl
maker_quiet (events.Local a) c is actor = refl
maker_quiet (events.Crash a keep) c is actor = refl
maker_quiet (events.Restart a) c is actor = refl
maker_quiet (events.Cut x y) c is actor = refl
maker_quiet (events.Mend x y) c is actor = refl
maker_quiet (events.Lose k) c is actor = refl
maker_quiet (events.Tick ms) c is actor = refl
maker_quiet (events.End d answer) c is actor = refl

same_event : (x e : Event) → ◌≡◌ {A = Option Event} (Some x) (Some e) → x ≡ e
same_event x e h = cc

-- what is true of all that a command makes, and of what comes of itself, is true of what a pump makes
delivery_is : (P : Event → Type 0) → ((k : ℕ) → P (events.Deliver k)) → (o : Option ℕ) (e : Event) → option_map (λ k. events.Deliver k) o ≡ Some e → P e
delivery_is P come None e is = absurd (let none : ◌≡◌ {A = Option Event} None (Some e) = is in cc)
delivery_is P come (Some k) e is = subst (λ (v : Event). P v) (same_event (events.Deliver k) e is) (come k)

offer_is : (P : Event → Type 0) → ((a : Alias) → P (events.Offer a)) → (o : Option Alias) (e : Event) → option_map (λ a. events.Offer a) o ≡ Some e → P e
offer_is P offered None e is = absurd (let none : ◌≡◌ {A = Option Event} None (Some e) = is in cc)
offer_is P offered (Some a) e is = subst (λ (v : Event). P v) (same_event (events.Offer a) e is) (offered a)

pub arrival_is : (config : Config) (w : World) (P : Event → Type 0) → ((k : ℕ) → P (events.Deliver k)) → ((a : Alias) → P (events.Offer a)) → (e : Event) → arrival config w ≡ Some e → P e
arrival_is config w P come offered e is = by_delivery (delivery w) refl is
  where
    by_delivery : (o : Option Event) → delivery w ≡ o → or_else o (offer config w) ≡ Some e → P e
    by_delivery None none h = offer_is P offered (next_offered config w) e h
    by_delivery (Some x) some h = delivery_is P come (next_due w) e (some ∙ h)

pub pump_is : (config : Config) (w : World) (P : Event → Type 0) → ((k : ℕ) → P (events.Deliver k)) → ((a : Alias) → P (events.Offer a)) → (c : ℕ)
    → ((e : Event) → next config w c ≡ Some e → P e) → (e : Event) → pump config w c ≡ Some e → P e
pump_is config w P come offered c made e is = by_next (next config w c) refl is
  where
    by_next : (o : Option Event) → next config w c ≡ o → or_else o (arrival config w) ≡ Some e → P e
    by_next None none h = arrival_is config w P come offered e h
    by_next (Some x) some h = made e (some ∙ h)

arrival_quiet : (config : Config) (w : World) (e : Event) → arrival config w ≡ Some e → Quiet e
arrival_quiet config w e is = arrival_is config w Quiet (λ k actor. refl) (λ a actor. refl) e is

pump_quiet : (config : Config) (w : World) (c : ℕ) (e : Event) → pump config w c ≡ Some e → Quiet e
pump_quiet config w c e is = pump_is config w Quiet (λ k actor. refl) (λ a actor. refl) c (λ v h. maker_quiet v c (next_made config w c v h)) e is

-- ---- tasks

pub record Beginnable (config : Config) (command : Command) : Type 0 where
  pub in_time : is_in_time command ≡ true
  pub declared : names_declared config command ≡ true

-- what is given so many times more, where the line before the player's place lets `main` give this command
abbrev pub times_of : ℕ → Option Command → List Command
times_of again None = []
times_of again (Some command) = times again command

-- what a task is to begin still
abbrev pub pending : Option Command → Task → List ℕ → List Command
pending given tasks.Free actor = []
pending given (tasks.Turns c left) actor = []
pending given (tasks.Finishes c) actor = []
pending given (tasks.Gives c again) actor = given_by main_name (times_of again given) actor
pending given tasks.Settles actor = []

abbrev pub FitsBy : Config → Option Command → Type 0
FitsBy config None = ⊤
FitsBy config (Some command) = Beginnable config command

abbrev pub TaskFits : Config → Option Command → Task → Type 0
TaskFits config given tasks.Free = ⊤
TaskFits config given (tasks.Turns c left) = ⊤
TaskFits config given (tasks.Finishes c) = ⊤
TaskFits config given (tasks.Gives c again) = FitsBy config given
TaskFits config given tasks.Settles = ⊤

-- by this event it goes on to this task, where the line before the place is then of this command
pub record GoesOn (config : Config) (w : World) (before : List ℕ → List Command) (names : List (List ℕ)) (given : Option Command) (e : Event) (task : Task) : Type 0 where
  pub begins : (actor : List ℕ) → before actor ≡ begun_by e actor ++ pending given task actor
  pub held : MainHeld (after config w e) task
  pub fits : TaskFits config given task
  pub spares : AllNamed (λ n. begun_by e n ≡ []) names

pub record IsIdle (w : World) (before : List ℕ → List Command) : Type 0 where
  pub none_left : (actor : List ℕ) → before actor ≡ []
  pub free : NoneOpen w main_name

abbrev pub OwnGo : Config → World → (List ℕ → List Command) → List (List ℕ) → Option Command → Go → Type 0
OwnGo config w before names given (goes.Makes e task) = GoesOn config w before names given e task
OwnGo config w before names given (goes.Blocked name) = ⊤
OwnGo config w before names given goes.Finished = IsIdle w before

quiet_goes : (config : Config) (w : World) (names : List (List ℕ)) (given : Option Command) (e : Event) (task other : Task) → Quiet e → MainHeld w task → ((c : ℕ) → Holds task c → Holds other c)
    → TaskFits config given other → GoesOn config w (pending given other) names given e other
quiet_goes config w names given e task other quiet held keeps fits = record {
  begins = λ actor. ap (λ (xs : List Command). xs ++ pending given other actor) (sym (quiet actor));
  held = held_after config w e task other (quiet main_name) keeps held;
  fits = fits;
  spares = named_all (λ n. begun_by e n ≡ []) (λ n. quiet n) names;
}

idle : (w : World) → NoneOpen w main_name → IsIdle w (λ actor. [])
idle w none = record { none_left = λ actor. refl; free = none }

begins_met : (config : Config) (w : World) (before : List ℕ → List Command) (names : List (List ℕ)) (given : Option Command) (name : List ℕ) (command : Command) (task : Task)
    → FreeMayBegin config w → NoneOpen w name → Beginnable config command → GoesOn config w before names given (events.Begin name command) task
    → OwnGo config w before names given (asked config w (events.Begin name command) task)
begins_met config w before names given name command task free none fits h =
    let e : Event = events.Begin name command in
    let met : meets config w e ≡ true = free name command fits.in_time fits.declared none in
    subst (λ (b : Bool). OwnGo config w before names given (cond b (goes.Makes e task) goes.Finished)) (sym met) h

-- where the line before the place then is the one of this command
pub gives_own : (config : Config) (w : World) (names : List (List ℕ)) (command : Command) (count : ℕ) → FreeMayBegin config w → NoneOpen w main_name → Beginnable config command
    → AllNamed (λ n. main_name ≢ n) names → OwnGo config w (given_by main_name (times count command)) names (Some command) (gives config w command count)
gives_own config w names command zero free none fits apart = record { none_left = λ actor. given_none main_name actor; free = none }
gives_own config w names command (suc n) free none fits apart =
    let e : Event = events.Begin main_name command in
    let before : List ℕ → List Command = given_by main_name (times (suc n) command) in
    let positive : (suc n == 0) ≡ false = grind (arith, nat_tests) in
    let less : suc n - 1 ≡ n = omega arith in
    subst (λ (b : Bool). OwnGo config w before names (Some command) (cond b goes.Finished (asked config w e (tasks.Gives (length w.commands + 1) (suc n - 1))))) (sym positive)
    (subst (λ (k : ℕ). OwnGo config w before names (Some command) (asked config w e (tasks.Gives (length w.commands + 1) k))) (sym less)
    (begins_met config w before names (Some command) main_name command (tasks.Gives (length w.commands + 1) n) free none fits (record {
      begins = λ actor. given_more main_name command (times n command) actor;
      held = main_begun config w command n none;
      fits = fits;
      spares = named_map (λ n. main_name ≢ n) (λ n. begun_by (events.Begin main_name command) n ≡ []) (λ n differ. given_other main_name n (command ∷ []) differ) names apart;
    })))

turned_own : (config : Config) (w : World) (names : List (List ℕ)) (given : Option Command) (c left : ℕ) (o : Option Event) → NoneOpen w main_name → pump config w c ≡ o
    → OwnGo config w (λ actor. []) names given (turned c left o)
turned_own config w names given c left None none is = idle w none
turned_own config w names given c left (Some e) none is = of_test (left == 0)
  where
    of_test : (b : Bool) → OwnGo config w (λ actor. []) names given (cond b goes.Finished (goes.Makes e (tasks.Turns c (left - 1))))
    of_test true = idle w none
    of_test false = quiet_goes config w names given e tasks.Free (tasks.Turns c (left - 1)) (pump_quiet config w c e is) none (λ d h. h) tt

turns_own : (config : Config) (w : World) (names : List (List ℕ)) (given : Option Command) (c left : ℕ) (o : Option CommandState) → NoneOpen w main_name
    → OwnGo config w (λ actor. []) names given (turns_on config w c left o)
turns_own config w names given c left None none = idle w none
turns_own config w names given c left (Some s) none = turned_own config w names given c left (pump config w c) none refl

finished_own : (config : Config) (w : World) (names : List (List ℕ)) (given : Option Command) (c : ℕ) (s : CommandState) (task : Task) (o : Option Event) → MainHeld w task
    → TaskFits config given task → pump config w c ≡ o → OwnGo config w (pending given task) names given (finished s task o)
finished_own config w names given c s task None held fits is = tt
finished_own config w names given c s task (Some e) held fits is = quiet_goes config w names given e task task (pump_quiet config w c e is) held (λ d h. h) fits

finishes_own : (config : Config) (w : World) (names : List (List ℕ)) (given : Option Command) (c : ℕ) (o : Option CommandState) → NoneOpen w main_name
    → OwnGo config w (λ actor. []) names given (finishes_on config w c o)
finishes_own config w names given c None none = idle w none
finishes_own config w names given c (Some s) none = finished_own config w names given c s (tasks.Finishes c) (pump config w c) none tt refl

closed_frees : (w : World) (c : ℕ) (again : ℕ) → open_command w c ≡ None → MainHeld w (tasks.Gives c again) → NoneOpen w main_name
closed_frees w c again closed held d s here is =
    let same : open_command w c ≡ Some s = subst (λ (n : ℕ). open_command w n ≡ Some s) (held d s here is) here in
    (let never : ◌≡◌ {A = Option CommandState} None (Some s) = sym closed ∙ same in cc)

gives_by_own : (config : Config) (w : World) (names : List (List ℕ)) (given : Option Command) (again : ℕ) → FreeMayBegin config w → NoneOpen w main_name → FitsBy config given
    → AllNamed (λ n. main_name ≢ n) names → OwnGo config w (given_by main_name (times_of again given)) names given (gives_by config w given again)
gives_by_own config w names None again free none fits apart = record { none_left = λ actor. given_none main_name actor; free = none }
gives_by_own config w names (Some command) again free none fits apart = gives_own config w names command again free none fits apart

gives_on_own : (config : Config) (w : World) (names : List (List ℕ)) (c : ℕ) (given : Option Command) (again : ℕ) (o : Option CommandState) → open_command w c ≡ o → FreeMayBegin config w
    → MainHeld w (tasks.Gives c again) → FitsBy config given → AllNamed (λ n. main_name ≢ n) names
    → OwnGo config w (given_by main_name (times_of again given)) names given (gives_on config w c given again o)
gives_on_own config w names c given again None is free held fits apart = gives_by_own config w names given again free (closed_frees w c again is held) fits apart
gives_on_own config w names c given again (Some s) is free held fits apart = finished_own config w names given c s (tasks.Gives c again) (pump config w c) held fits refl

settles_own : (config : Config) (w : World) (names : List (List ℕ)) (given : Option Command) (o : Option Event) → arrival config w ≡ o → NoneOpen w main_name
    → OwnGo config w (λ actor. []) names given (settles o)
settles_own config w names given None is none = idle w none
settles_own config w names given (Some e) is none = quiet_goes config w names given e tasks.Free tasks.Settles (arrival_quiet config w e is) none (λ d h. h) tt

pub go_own : (config : Config) (w : World) (names : List (List ℕ)) (lines : List Action) (line : ℕ) (task : Task) → FreeMayBegin config w → MainHeld w task
    → TaskFits config (played_at lines line) task → AllNamed (λ n. main_name ≢ n) names
    → OwnGo config w (pending (played_at lines line) task) names (played_at lines line) (go_on config w lines line task)
go_own config w names lines line tasks.Free free held fits apart = idle w held
go_own config w names lines line (tasks.Turns c left) free held fits apart = turns_own config w names (played_at lines line) c left (open_command w c) held
go_own config w names lines line (tasks.Finishes c) free held fits apart = finishes_own config w names (played_at lines line) c (open_command w c) held
go_own config w names lines line (tasks.Gives c again) free held fits apart =
    gives_on_own config w names c (played_at lines line) again (open_command w c) refl free held fits apart
go_own config w names lines line tasks.Settles free held fits apart = settles_own config w names (played_at lines line) (arrival config w) refl held

-- ---- lines

-- the command of a line may begin, and it is of none of these names that come behind it
abbrev pub LineFits : Config → List (List ℕ) → Action → Type 0
LineFits config names (actions.Play command n) = Beginnable config command
LineFits config names (actions.Start name command) = Beginnable config command × AllNamed (λ n. name ≢ n) (main_name ∷ names)
LineFits config names (actions.Turn name pumps) = ⊤
LineFits config names (actions.Finish name) = ⊤
LineFits config names actions.Settle = ⊤
LineFits config names (actions.Local a) = ⊤
LineFits config names (actions.Crash a keep) = ⊤
LineFits config names (actions.Restart a) = ⊤
LineFits config names (actions.Cut x y) = ⊤
LineFits config names (actions.Mend x y) = ⊤
LineFits config names (actions.Lose message) = ⊤
LineFits config names (actions.Repeat message) = ⊤
LineFits config names actions.Lapse = ⊤
LineFits config names (actions.Tick ms) = ⊤

abbrev pub OwnStart : Config → World → (List ℕ → List Command) → List (List ℕ) → Option Command → Start → Type 0
OwnStart config w before names given (starts_as.Goes g) = OwnGo config w before names given g
OwnStart config w before names given (starts_as.Notes refused) = IsIdle w before

quiet_asked : (config : Config) (w : World) (names : List (List ℕ)) (e : Event) → Quiet e → NoneOpen w main_name → OwnGo config w (λ actor. []) names None (asked config w e tasks.Free)
quiet_asked config w names e quiet none = of_test (meets config w e)
  where
    of_test : (b : Bool) → OwnGo config w (λ actor. []) names None (cond b (goes.Makes e tasks.Free) goes.Finished)
    of_test true = quiet_goes config w names None e tasks.Free tasks.Free quiet none (λ d h. h) tt
    of_test false = idle w none

quiet_unless : (config : Config) (w : World) (names : List (List ℕ)) (e : Event) (refused : RefusedAction) → Quiet e → NoneOpen w main_name
    → OwnStart config w (λ actor. []) names None (unless_refused config w e refused)
quiet_unless config w names e refused quiet none = of_test (meets config w e)
  where
    of_test : (b : Bool) → OwnStart config w (λ actor. []) names None (cond b (starts_as.Goes (goes.Makes e tasks.Free)) (starts_as.Notes refused))
    of_test true = quiet_goes config w names None e tasks.Free tasks.Free quiet none (λ d h. h) tt
    of_test false = idle w none

turn_own : (config : Config) (w : World) (names : List (List ℕ)) (pumps : ℕ) (o : Option ℕ) → NoneOpen w main_name → OwnGo config w (λ actor. []) names None (turn_of config w pumps o)
turn_own config w names pumps None none = idle w none
turn_own config w names pumps (Some c) none = turns_own config w names None c pumps (open_command w c) none

finish_own : (config : Config) (w : World) (names : List (List ℕ)) (o : Option ℕ) → NoneOpen w main_name → OwnGo config w (λ actor. []) names None (finish_of config w o)
finish_own config w names None none = idle w none
finish_own config w names (Some c) none = finishes_own config w names None c (open_command w c) none

started_own : (config : Config) (w : World) (names : List (List ℕ)) (name : List ℕ) (command : Command) → FreeMayBegin config w → NoneOpen w main_name → NoneOpen w name
    → LineFits config names (actions.Start name command) → OwnGo config w (given_by name (command ∷ [])) names None (asked config w (events.Begin name command) tasks.Free)
started_own config w names name command free none unbegun fits =
    begins_met config w (given_by name (command ∷ [])) names None name command tasks.Free free unbegun fits.0 (record {
      begins = λ actor. sym (append-nil (given_by name (command ∷ []) actor));
      held = none_after config w (events.Begin name command) main_name (given_other name main_name (command ∷ []) fits.1.0) none;
      fits = tt;
      spares = named_map (λ n. name ≢ n) (λ n. begun_by (events.Begin name command) n ≡ []) (λ n differ. given_other name n (command ∷ []) differ) names fits.1.1;
    })

pub starts_own : (config : Config) (w : World) (line : Action) (lines : List Action) → FreeMayBegin config w → NoneOpen w main_name → AllNamed (λ n. NoneOpen w n) (started (line ∷ lines))
    → LineFits config (started lines) line → AllNamed (λ n. main_name ≢ n) (started lines) → OwnStart config w (asks_for line) (started lines) (command_of line) (starts config w line)
starts_own config w (actions.Play command n) lines free none unbegun fits apart = gives_own config w (started lines) command n free none fits apart
starts_own config w (actions.Start name command) lines free none unbegun fits apart = started_own config w (started lines) name command free none unbegun.0 fits
starts_own config w (actions.Turn name pumps) lines free none unbegun fits apart = turn_own config w (started lines) pumps (open_of w.actors name) none
starts_own config w (actions.Finish name) lines free none unbegun fits apart = finish_own config w (started lines) (open_of w.actors name) none
starts_own config w actions.Settle lines free none unbegun fits apart = settles_own config w (started lines) None (arrival config w) refl none
starts_own config w (actions.Local a) lines free none unbegun fits apart = quiet_unless config w (started lines) (events.Local a) (refusals.IsDown a) (λ actor. refl) none
starts_own config w (actions.Crash a keep) lines free none unbegun fits apart = quiet_asked config w (started lines) (events.Crash a keep) (λ actor. refl) none
starts_own config w (actions.Restart a) lines free none unbegun fits apart = quiet_unless config w (started lines) (events.Restart a) (refusals.IsUp a) (λ actor. refl) none
starts_own config w (actions.Cut x y) lines free none unbegun fits apart = quiet_asked config w (started lines) (events.Cut x y) (λ actor. refl) none
starts_own config w (actions.Mend x y) lines free none unbegun fits apart = quiet_asked config w (started lines) (events.Mend x y) (λ actor. refl) none
starts_own config w (actions.Lose k) lines free none unbegun fits apart = quiet_unless config w (started lines) (events.Lose k) (refusals.NoMessage k) (λ actor. refl) none
starts_own config w (actions.Repeat k) lines free none unbegun fits apart = quiet_unless config w (started lines) (events.Deliver k) (refusals.NotDeliverable k) (λ actor. refl) none
starts_own config w actions.Lapse lines free none unbegun fits apart = quiet_asked config w (started lines) events.Lapse (λ actor. refl) none
starts_own config w (actions.Tick ms) lines free none unbegun fits apart = quiet_asked config w (started lines) (events.Tick ms) (λ actor. refl) none

-- Each move of a player is met, and of a course.
use Rattle.std.proofs.Common.{◌≡◌, ℕ, suc, ◌+◌, ◌==◌, ◌&&◌, List, [], ◌∷◌, Bool, true, false, cond, Option, Some, None, is_some, is_none, option_map, map, refl, sym, subst, ◌∙◌, drop, arith}
use Rattle.std.proofs.lemmas.Bool.{false≢true}
use Rattle.std.specs.List.{find, position_from, slice_get, AllByRecursion}
use Rattle.arrivals.specs.Arrivals.{is_due, next_due, next_offered}
use Rattle.shard_names.proofs.TabletLemmas.{both, both_right, alias_eq_itself}
use Rattle.shard_names.specs.Tablets.{alias_eq, tablet_of, is_declared}
use Rattle.shard_names.specs.declared.alias.Alias.{Alias}
use Rattle.shard_names.specs.declared.tablet.Tablet.{Tablet}
use Rattle.shard_calls.specs.declared.post.Message.{Message}
use Rattle.shard_calls.specs.Messages.{passes, may_arrive, is_deliverable, offer_to}
use Rattle.std.specs.Bool.{⊤}
use Rattle.shard_calls.specs.World.{Config, World, main_name, open_of, open_command}
use Rattle.shard_calls.specs.Table.{Met, meets}
use Rattle.shard_calls.specs.declared.command.Command.{Command}
use Rattle.shard_calls.specs.declared.event.Event.{Event}
use Rattle.shard_calls.specs.declared.event.Event.TheVariants as events
use Rattle.shard_calls.specs.declared.state.CommandState.{CommandState}
use Rattle.shard_script.specs.declared.script.Action.{Action}
use Rattle.shard_script.specs.declared.script.Action.TheVariants as actions
use Rattle.planned.specs.Course.{may, next, first_of as first_in}
use Rattle.planned.specs.Follows.{maker_of, KeepsToCourse}
use Rattle.planned.specs.Laws.{NextIsMet}
use Rattle.planned.specs.Leaving.{or_else}
use Rattle.planned.proofs.FollowLemmas.{may_is_own, next_keeps, others_keep}
use Rattle.vtctld_text.specs.declared.note.RefusedAction.{RefusedAction}
use Rattle.vtctld_text.specs.declared.note.RefusedAction.TheVariants as refusals
use Rattle.shard_top.specs.declared.player.Task.{Task}
use Rattle.shard_top.specs.declared.player.Task.TheVariants as tasks
use Rattle.shard_top.specs.declared.player.Player.{Player}
use Rattle.shard_top.specs.declared.player.Go.{Go}
use Rattle.shard_top.specs.declared.player.Go.TheVariants as goes
use Rattle.shard_top.specs.declared.player.Start.{Start}
use Rattle.shard_top.specs.declared.player.Start.TheVariants as starts_as
use Rattle.shard_top.specs.declared.player.Move.{Move}
use Rattle.shard_top.specs.declared.player.Move.TheVariants as moves
use Rattle.shard_top.specs.Played.{delivery, offer, arrival, pump, asked, gives, turned, finished, turns_on, finishes_on, played_at, gives_by, gives_on, settles, go_on, turn_of, finish_of, unless_refused, starts, first_of, start_at, move_on, plain_move}

pub record Fair (config : Config) (w : World) (e : Event) : Type 0 where
  pub met : Met config w e
  pub of_course : KeepsToCourse config w e

-- whichever command makes it, its course allows it first
abbrev pub InCourse : Config → World → Event → Type 0
InCourse config w e = (c : ℕ) → maker_of e ≡ Some c → slice_get (may config w c) 0 ≡ Some e

-- what a player makes with memory is even that
pub record Plain (config : Config) (w : World) (e : Event) : Type 0 where
  pub fair : Fair config w e
  pub in_course : InCourse config w e

none_some : {A : Type 0} (c : A) → None ≡ Some c → ⊥
none_some c h = cc

by_none : (config : Config) (w : World) (e : Event) → maker_of e ≡ None → Met config w e → Plain config w e
by_none config w e of_none met = record {
  fair = record { met = met; of_course = others_keep config w e of_none };
  in_course = λ c made. absurd (none_some c (sym of_none ∙ made));
}

first_here : (es : List Event) (e : Event) → first_in es ≡ Some e → slice_get es 0 ≡ Some e
first_here [] e h = h
first_here (x ∷ es) e h = h

first_made : (c : ℕ) (xs : List Event) (e : Event) → AllByRecursion (λ x. maker_of x ≡ Some c) xs → first_in xs ≡ Some e → maker_of e ≡ Some c
first_made c [] e h is = absurd (none_some e is)
first_made c (x ∷ xs) e h is = subst (λ (v : Event). maker_of v ≡ Some c) (let same : x ≡ e = cc in same) h.0

-- what a command does next it makes itself
pub next_made : (config : Config) (w : World) (c : ℕ) (e : Event) → next config w c ≡ Some e → maker_of e ≡ Some c
next_made config w c e is = first_made c (may config w c) e (may_is_own config w c) is

one_maker : (c d : ℕ) → ◌≡◌ {A = Option ℕ} (Some c) (Some d) → c ≡ d
one_maker c d h = cc

next_in : (config : Config) (w : World) (c : ℕ) (e : Event) → next config w c ≡ Some e → InCourse config w e
next_in config w c e is d made =
    subst (λ (n : ℕ). slice_get (may config w n) 0 ≡ Some e) (one_maker c d (sym (next_made config w c e is) ∙ made)) (first_here (may config w c) e is)

abbrev PlainGo : Config → World → Go → Type 0
PlainGo config w (goes.Makes e task) = Plain config w e
PlainGo config w (goes.Blocked name) = ⊤
PlainGo config w goes.Finished = ⊤

abbrev PlainStart : Config → World → Start → Type 0
PlainStart config w (starts_as.Goes g) = PlainGo config w g
PlainStart config w (starts_as.Notes refused) = ⊤

abbrev pub PlainMove : Config → World → Move → Type 0
PlainMove config w (moves.Makes e p) = Plain config w e
PlainMove config w (moves.Notes refused p) = ⊤
PlainMove config w (moves.Blocked name) = ⊤
PlainMove config w moves.Over = ⊤

-- ---- tasks

asked_by : (config : Config) (w : World) (e : Event) (task : Task) (b : Bool) → maker_of e ≡ None → meets config w e ≡ b → PlainGo config w (cond b (goes.Makes e task) goes.Finished)
asked_by config w e task true of_none is = by_none config w e of_none is
asked_by config w e task false of_none is = tt

asked_fair : (config : Config) (w : World) (e : Event) (task : Task) → maker_of e ≡ None → PlainGo config w (asked config w e task)
asked_fair config w e task of_none = asked_by config w e task (meets config w e) of_none refl

unless_none : (config : Config) (w : World) (b : Bool) (g : Go) → PlainGo config w g → PlainGo config w (cond b goes.Finished g)
unless_none config w true g h = tt
unless_none config w false g h = h

gives_fair : (config : Config) (w : World) (command : Command) (count : ℕ) → PlainGo config w (gives config w command count)
gives_fair config w command count = unless_none config w (count == 0) _ (asked_fair config w (events.Begin main_name command) _ refl)

next_fair : (config : Config) (w : World) (c : ℕ) (e : Event) → NextIsMet config w → next config w c ≡ Some e → Plain config w e
next_fair config w c e course is = record { fair = record { met = course c e is; of_course = next_keeps config w c e is }; in_course = next_in config w c e is }

-- ---- what comes of itself

-- the one at this number passes the test, where the first has the number i
abbrev DueAt : (Message → Bool) → ℕ → ℕ → List Message → Type 0
DueAt p i k ms = (j : ℕ) × (i + j ≡ k) × (passes p (slice_get ms j) ≡ true)

due_by : (p : Message → Bool) (i k : ℕ) (m : Message) (ms : List Message) (b : Bool) → p m ≡ b → cond b (Some i) (position_from p (i + 1) ms) ≡ Some k
    → (position_from p (i + 1) ms ≡ Some k → DueAt p (i + 1) k ms) → DueAt p i k (m ∷ ms)
due_by p i k m ms true is here later =
    let same : i ≡ k = (let some : ◌≡◌ {A = Option ℕ} (Some i) (Some k) = here in cc) in
    (0, omega (arith, same), is)
due_by p i k m ms false is here later =
    let d = later here in
    (suc d.0, omega (arith, d.1), d.2)

due_passes : (p : Message → Bool) (i k : ℕ) (ms : List Message) → position_from p i ms ≡ Some k → DueAt p i k ms
due_passes p i k [] is = absurd (let none : ◌≡◌ {A = Option ℕ} None (Some k) = is in cc)
due_passes p i k (m ∷ ms) is = due_by p i k m ms (p m) refl is (λ h. due_passes p (i + 1) k ms h)

arrives_if_due : (w : World) (o : Option Message) → passes (is_due w) o ≡ true → passes (may_arrive w) o ≡ true
arrives_if_due w None h = h
arrives_if_due w (Some m) h = both_right (is_none m.arrived) (may_arrive w m) h

-- the message that comes next may be delivered
due_met : (w : World) (k : ℕ) → next_due w ≡ Some k → is_deliverable w k ≡ true
due_met w k is =
    let d = due_passes (is_due w) 1 k w.post is in
    let number : suc d.0 ≡ k = omega (arith, d.1) in
    subst (λ (n : ℕ). is_deliverable w n ≡ true) number (arrives_if_due w (slice_get w.post d.0) d.2)

delivery_fair : (config : Config) (w : World) (o : Option ℕ) (e : Event) → next_due w ≡ o → option_map (λ k. events.Deliver k) o ≡ Some e → Plain config w e
delivery_fair config w None e due is = absurd (let none : ◌≡◌ {A = Option Event} None (Some e) = is in cc)
delivery_fair config w (Some k) e due is =
    subst (λ (v : Event). Plain config w v) (let same : events.Deliver k ≡ e = (let some : ◌≡◌ {A = Option Event} (Some (events.Deliver k)) (Some e) = is in cc) in same)
    (by_none config w (events.Deliver k) refl (due_met w k due))

-- ---- the tablet that may be offered something is declared

abbrev IsFit : List Tablet → (Alias → Bool) → Alias → Type 0
IsFit ts p a = (is_declared ts a && p a) ≡ true

same_alias : (x a : Alias) → Some x ≡ Some a → x ≡ a
same_alias x a h = cc

itself_found : (t : Tablet) (ts : List Tablet) (b : Bool) → alias_eq t.alias t.alias ≡ b → b ≡ true → is_some (cond b (Some t) (tablet_of ts t.alias)) ≡ true
itself_found t ts true is h = refl
itself_found t ts false is h = absurd (false≢true h)

first_fits : (t : Tablet) (ts : List Tablet) (p : Alias → Bool) (a : Alias) → p t.alias ≡ true → t.alias ≡ a → IsFit (t ∷ ts) p a
first_fits t ts p a passes same =
    subst (λ (b : Alias). IsFit (t ∷ ts) p b) same
    (both (is_declared (t ∷ ts) t.alias) (p t.alias) (itself_found t ts (alias_eq t.alias t.alias) refl (alias_eq_itself t.alias)) passes)

more_declared : (t : Tablet) (ts : List Tablet) (q : Bool) (a : Alias) (b : Bool) → (is_declared ts a && q) ≡ true → (is_some (cond b (Some t) (tablet_of ts a)) && q) ≡ true
more_declared t ts q a true h = both_right (is_declared ts a) q h
more_declared t ts q a false h = h

declared_by : (t : Tablet) (ts : List Tablet) (p : Alias → Bool) (a : Alias) (b : Bool) → p t.alias ≡ b → cond b (Some t.alias) (find p (map (λ u. u.alias) ts)) ≡ Some a
    → (find p (map (λ u. u.alias) ts) ≡ Some a → IsFit ts p a) → IsFit (t ∷ ts) p a
declared_by t ts p a true passes is later = first_fits t ts p a passes (same_alias t.alias a is)
declared_by t ts p a false passes is later = more_declared t ts (p a) a (alias_eq t.alias a) (later is)

declared_among : (ts : List Tablet) (p : Alias → Bool) (a : Alias) → find p (map (λ t. t.alias) ts) ≡ Some a → IsFit ts p a
declared_among [] p a is = absurd (let none : ◌≡◌ {A = Option Alias} None (Some a) = is in cc)
declared_among (t ∷ ts) p a is = declared_by t ts p a (p t.alias) refl is (λ h. declared_among ts p a h)

offer_fair : (config : Config) (w : World) (o : Option Alias) (e : Event) → next_offered config w ≡ o → option_map (λ a. events.Offer a) o ≡ Some e → Plain config w e
offer_fair config w None e next is = absurd (let none : ◌≡◌ {A = Option Event} None (Some e) = is in cc)
offer_fair config w (Some a) e next is =
    subst (λ (v : Event). Plain config w v) (let same : events.Offer a ≡ e = (let some : ◌≡◌ {A = Option Event} (Some (events.Offer a)) (Some e) = is in cc) in same)
    (by_none config w (events.Offer a) refl (declared_among config.tablets (λ b. is_some (offer_to w b)) a next))

-- what comes of itself, and what a pump makes, is met

comes_fair : (config : Config) (w : World) (o : Option Event) (e : Event) → delivery w ≡ o → or_else o (offer config w) ≡ Some e → Plain config w e
comes_fair config w None e none is = offer_fair config w (next_offered config w) e refl is
comes_fair config w (Some x) e some is = delivery_fair config w (next_due w) e refl (some ∙ is)

arrival_fair : (config : Config) (w : World) (e : Event) → arrival config w ≡ Some e → Plain config w e
arrival_fair config w e is = comes_fair config w (delivery w) e refl is

pump_by : (config : Config) (w : World) (c : ℕ) (o : Option Event) (e : Event) → NextIsMet config w → next config w c ≡ o → or_else o (arrival config w) ≡ Some e → Plain config w e
pump_by config w c None e course none is = arrival_fair config w e is
pump_by config w c (Some x) e course some is = next_fair config w c e course (some ∙ is)

pump_fair : (config : Config) (w : World) (c : ℕ) (e : Event) → NextIsMet config w → pump config w c ≡ Some e → Plain config w e
pump_fair config w c e course is = pump_by config w c (next config w c) e course refl is

settles_fair : (config : Config) (w : World) (o : Option Event) → arrival config w ≡ o → PlainGo config w (settles o)
settles_fair config w None is = tt
settles_fair config w (Some e) is = arrival_fair config w e is

turned_fair : (config : Config) (w : World) (c left : ℕ) (o : Option Event) → NextIsMet config w → pump config w c ≡ o → PlainGo config w (turned c left o)
turned_fair config w c left None course is = tt
turned_fair config w c left (Some e) course is = unless_none config w (left == 0) _ (pump_fair config w c e course is)

finished_fair : (config : Config) (w : World) (c : ℕ) (s : CommandState) (task : Task) (o : Option Event) → NextIsMet config w → pump config w c ≡ o
    → PlainGo config w (finished s task o)
finished_fair config w c s task None course is = tt
finished_fair config w c s task (Some e) course is = pump_fair config w c e course is

turns_fair : (config : Config) (w : World) (c left : ℕ) (o : Option CommandState) → NextIsMet config w → PlainGo config w (turns_on config w c left o)
turns_fair config w c left None course = tt
turns_fair config w c left (Some s) course = turned_fair config w c left (pump config w c) course refl

finishes_fair : (config : Config) (w : World) (c : ℕ) (o : Option CommandState) → NextIsMet config w → PlainGo config w (finishes_on config w c o)
finishes_fair config w c None course = tt
finishes_fair config w c (Some s) course = finished_fair config w c s (tasks.Finishes c) (pump config w c) course refl

gives_by_fair : (config : Config) (w : World) (given : Option Command) (again : ℕ) → PlainGo config w (gives_by config w given again)
gives_by_fair config w None again = tt
gives_by_fair config w (Some command) again = gives_fair config w command again

gives_on_fair : (config : Config) (w : World) (c : ℕ) (given : Option Command) (again : ℕ) (o : Option CommandState) → NextIsMet config w
    → PlainGo config w (gives_on config w c given again o)
gives_on_fair config w c given again None course = gives_by_fair config w given again
gives_on_fair config w c given again (Some s) course = finished_fair config w c s (tasks.Gives c again) (pump config w c) course refl

go_on_fair : (config : Config) (w : World) (lines : List Action) (line : ℕ) (task : Task) → NextIsMet config w → PlainGo config w (go_on config w lines line task)
go_on_fair config w lines line tasks.Free course = tt
go_on_fair config w lines line (tasks.Turns c left) course = turns_fair config w c left (open_command w c) course
go_on_fair config w lines line (tasks.Finishes c) course = finishes_fair config w c (open_command w c) course
go_on_fair config w lines line (tasks.Gives c again) course = gives_on_fair config w c (played_at lines line) again (open_command w c) course
go_on_fair config w lines line tasks.Settles course = settles_fair config w (arrival config w) refl

-- ---- lines

turn_fair : (config : Config) (w : World) (pumps : ℕ) (o : Option ℕ) → NextIsMet config w → PlainGo config w (turn_of config w pumps o)
turn_fair config w pumps None course = tt
turn_fair config w pumps (Some c) course = turns_fair config w c pumps (open_command w c) course

finish_fair : (config : Config) (w : World) (o : Option ℕ) → NextIsMet config w → PlainGo config w (finish_of config w o)
finish_fair config w None course = tt
finish_fair config w (Some c) course = finishes_fair config w c (open_command w c) course

unless_by : (config : Config) (w : World) (e : Event) (refused : RefusedAction) (b : Bool) → maker_of e ≡ None → meets config w e ≡ b
    → PlainStart config w (cond b (starts_as.Goes (goes.Makes e tasks.Free)) (starts_as.Notes refused))
unless_by config w e refused true of_none is = by_none config w e of_none is
unless_by config w e refused false of_none is = tt

unless_fair : (config : Config) (w : World) (e : Event) (refused : RefusedAction) → maker_of e ≡ None → PlainStart config w (unless_refused config w e refused)
unless_fair config w e refused of_none = unless_by config w e refused (meets config w e) of_none refl

starts_fair : (config : Config) (w : World) (line : Action) → NextIsMet config w → PlainStart config w (starts config w line)
starts_fair config w (actions.Play command count) course = gives_fair config w command count
starts_fair config w (actions.Start name command) course = asked_fair config w (events.Begin name command) tasks.Free refl
starts_fair config w (actions.Turn name pumps) course = turn_fair config w pumps (open_of w.actors name) course
starts_fair config w (actions.Finish name) course = finish_fair config w (open_of w.actors name) course
starts_fair config w actions.Settle course = settles_fair config w (arrival config w) refl
starts_fair config w (actions.Local a) course = unless_fair config w (events.Local a) (refusals.IsDown a) refl
starts_fair config w (actions.Crash a keep) course = asked_fair config w (events.Crash a keep) tasks.Free refl
starts_fair config w (actions.Restart a) course = unless_fair config w (events.Restart a) (refusals.IsUp a) refl
starts_fair config w (actions.Cut x y) course = asked_fair config w (events.Cut x y) tasks.Free refl
starts_fair config w (actions.Mend x y) course = asked_fair config w (events.Mend x y) tasks.Free refl
starts_fair config w (actions.Lose k) course = unless_fair config w (events.Lose k) (refusals.NoMessage k) refl
starts_fair config w (actions.Repeat k) course = unless_fair config w (events.Deliver k) (refusals.NotDeliverable k) refl
starts_fair config w actions.Lapse course = asked_fair config w events.Lapse tasks.Free refl
starts_fair config w (actions.Tick ms) course = asked_fair config w (events.Tick ms) tasks.Free refl

first_fair : (config : Config) (w : World) (noted at : ℕ) (start : Start) (rest : Move) → PlainStart config w start → PlainMove config w rest → PlainMove config w (first_of noted at start rest)
first_fair config w noted at (starts_as.Goes (goes.Makes e task)) rest h r = h
first_fair config w noted at (starts_as.Goes (goes.Blocked name)) rest h r = tt
first_fair config w noted at (starts_as.Goes goes.Finished) rest h r = r
first_fair config w noted at (starts_as.Notes refused) rest h r = tt

start_fair : (config : Config) (w : World) (noted at : ℕ) (lines : List Action) → NextIsMet config w → PlainMove config w (start_at config w noted at lines)
start_fair config w noted at [] course = tt
start_fair config w noted at (line ∷ lines) course =
    first_fair config w noted at (starts config w line) (start_at config w noted (at + 1) lines) (starts_fair config w line course) (start_fair config w noted (at + 1) lines course)

move_on_fair : (config : Config) (w : World) (lines : List Action) (p : Player) (g : Go) → NextIsMet config w → PlainGo config w g → PlainMove config w (move_on config w lines p g)
move_on_fair config w lines p (goes.Makes e task) course h = h
move_on_fair config w lines p (goes.Blocked name) course h = tt
move_on_fair config w lines p goes.Finished course h = start_fair config w p.noted p.line (drop p.line lines) course

-- what a player does with memory
pub plain_goes : (config : Config) (w : World) (lines : List Action) (p : Player) → NextIsMet config w → PlainMove config w (plain_move config w lines p)
plain_goes config w lines p course = move_on_fair config w lines p (go_on config w lines p.line p.task) course (go_on_fair config w lines p.line p.task course)

abbrev pub FairMove : Config → World → Move → Type 0
FairMove config w (moves.Makes e p) = Fair config w e
FairMove config w (moves.Notes refused p) = ⊤
FairMove config w (moves.Blocked name) = ⊤
FairMove config w moves.Over = ⊤

fair_of : (config : Config) (w : World) (m : Move) → PlainMove config w m → FairMove config w m
fair_of config w (moves.Makes e p) h = h.fair
fair_of config w (moves.Notes refused p) h = h
fair_of config w (moves.Blocked name) h = h
fair_of config w moves.Over h = h

pub plain_fair : (config : Config) (w : World) (lines : List Action) (p : Player) → NextIsMet config w → FairMove config w (plain_move config w lines p)
plain_fair config w lines p course = fair_of config w (plain_move config w lines p) (plain_goes config w lines p course)

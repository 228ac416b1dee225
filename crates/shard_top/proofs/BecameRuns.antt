-- Along what is played, each line becomes its event or its note.
use Rattle.std.proofs.Common.{◌≡◌, ℕ, ◌+◌, ◌*◌, ◌==◌, ◌≤◌, ◌<◌, List, [], ◌∷◌, ◌++◌, Bool, true, false, cond, Option, Some, None, drop, length, refl, ap, sym, subst, ◌∙◌, arith}
use Rattle.std.specs.Prelude.{All, nat_le, nat_lt, ◌&&◌, unwrap_or}
use Rattle.std.specs.Bool.{⊤}
use Rattle.std.proofs.lemmas.Bool.Decides.{nat_tests}
use Rattle.std.proofs.lemmas.List.{append_assoc, append-nil}
use Rattle.std.proofs.lemmas.List.Elements.{All-head, All-tail}
use Rattle.shard_names.specs.Tablets.{is_declared}
use Rattle.shard_calls.specs.World.{Config, World, opening}
use Rattle.shard_calls.specs.Table.{after, world_after, is_link, may_tick}
use Rattle.shard_calls.specs.declared.event.Event.{Event}
use Rattle.shard_calls.specs.declared.event.Note.{Note}
use Rattle.shard_calls.specs.declared.event.Side.{Side}
use Rattle.shard_calls.specs.declared.event.Side.TheVariants as sides
use Rattle.shard_calls.specs.declared.event.Step.{Step}
use Rattle.shard_script.specs.declared.script.Action.{Action}
use Rattle.shard_script.specs.declared.script.Action.TheVariants as actions
use Rattle.shard_script.specs.declared.script.Script.{Script}
use Rattle.shard_script.specs.Aliases.{IsDeclared, NamesDeclared, are_ends}
use Rattle.shard_script.specs.Script.{Fits, FitsShard}
use Rattle.shard_script.proofs.DeclaredLemmas.{found}
use Rattle.shard_names.specs.declared.shard_name.ShardName.{ShardName}
use Rattle.planned.specs.Course.{leaves}
use Rattle.planned.proofs.FollowLemmas.{leaving_is_own}
use Rattle.vtctld_text.specs.Notes.{action_text}
use Rattle.vtctld_text.specs.declared.note.RefusedAction.{RefusedAction}
use Rattle.shard_top.specs.Accounts.{comes_of_line, Became, FrontBecame}
use Rattle.shard_top.specs.declared.player.Player.{Player}
use Rattle.shard_top.specs.declared.player.Go.{Go}
use Rattle.shard_top.specs.declared.player.Go.TheVariants as goes
use Rattle.shard_top.specs.declared.player.Start.{Start}
use Rattle.shard_top.specs.declared.player.Start.TheVariants as starts_as
use Rattle.shard_top.specs.declared.player.Move.{Move}
use Rattle.shard_top.specs.declared.player.Move.TheVariants as moves
use Rattle.shard_top.specs.declared.player.Stop.{Stop}
use Rattle.shard_top.specs.declared.player.Stop.TheVariants as stops
use Rattle.shard_top.specs.Played.{Want, wanted, wanting, move, Made, Stepped, Noted, steps_of, notes_of, notes_from, IsMade, Plays, world_by, player_by, player_after, first_player, first_moment, begins_at, config_of, stop_by, go_on, starts, first_of, start_at, move_on, IsRunOf}
use Rattle.shard_top.proofs.ClockLemmas.{goes_by, clock_after}
use Rattle.shard_top.proofs.ProgramMoves.{drop_next}
use Rattle.shard_top.proofs.BecameLemmas.{Calm, maker_calm, calm_still, became_more, CalmGo, go_calm, IsPlain, ticked, StartBecomes, MayBeDone, starts_becomes}

-- ---- lines that are never left out

abbrev LineFits : Config → Action → Type 0
LineFits config (actions.Crash a keep) = is_declared config.tablets a ≡ true
LineFits config (actions.Cut x y) = is_link config x y ≡ true
LineFits config (actions.Mend x y) = is_link config x y ≡ true
LineFits config (actions.Tick ms) = ms ≤ 86400000
LineFits config _ = ⊤

abbrev AllFit : Config → List Action → Type 0
AllFit config [] = ⊤
AllFit config (x ∷ xs) = LineFits config x × AllFit config xs

-- by how much lines let the clock go on
abbrev ticks_of : List Action → ℕ
ticks_of [] = 0
ticks_of (x ∷ xs) = ticked x + ticks_of xs

-- these lines are ahead of the place, and the clock stays in the years for which it is made
record Ahead (config : Config) (w : World) (all : List Action) (line : ℕ) (rest : List Action) : Type 0 where
  behind : drop line all ≡ rest
  fit : AllFit config rest
  room : w.clock + ticks_of rest < 253370764800000

ticks_once : (w : World) (ms later : ℕ) → ms ≤ 86400000 → w.clock + (ms + later) < 253370764800000 → may_tick w ms ≡ true
ticks_once w ms later most room = both (nat_le ms 86400000) (nat_lt (w.clock + ms) 253370764800000) (grind (arith, nat_tests)) (grind (arith, nat_tests))
  where
    both : (a b : Bool) → a ≡ true → b ≡ true → (a && b) ≡ true
    both a b x y = ap (λ (c : Bool). c && b) x ∙ y

may_be_done : (config : Config) (w : World) (x : Action) (xs : List Action) → LineFits config x → w.clock + ticks_of (x ∷ xs) < 253370764800000 → MayBeDone config w x
may_be_done config w (actions.Crash a keep) xs fit room = fit
may_be_done config w (actions.Cut x y) xs fit room = fit
may_be_done config w (actions.Mend x y) xs fit room = fit
may_be_done config w (actions.Tick ms) xs fit room = ticks_once w ms (ticks_of xs) fit room
may_be_done config w _ xs fit room = tt

next_ahead : (config : Config) (w : World) (all : List Action) (at : ℕ) (x : Action) (xs : List Action) → Ahead config w all at (x ∷ xs) → Ahead config w all (at + 1) xs
next_ahead config w all at x xs h = record {
  behind = drop_next all at x xs h.behind;
  fit = h.fit.1;
  room = let room : w.clock + (ticked x + ticks_of xs) < 253370764800000 = h.room in grind (arith, nat_tests);
}

-- after an event that lets the clock go on by no more than this line
line_ahead : (config : Config) (w : World) (all : List Action) (at : ℕ) (x : Action) (xs : List Action) (e : Event) → goes_by e ≤ ticked x → Ahead config w all at (x ∷ xs)
    → Ahead config (after config w e) all (at + 1) xs
line_ahead config w all at x xs e few h = record {
  behind = drop_next all at x xs h.behind;
  fit = h.fit.1;
  room =
      let room : w.clock + (ticked x + ticks_of xs) < 253370764800000 = h.room in
      let now : (after config w e).clock ≡ w.clock + goes_by e = clock_after config w e in
      grind (arith, nat_tests);
}

-- or by nothing
still_ahead : (config : Config) (w : World) (all : List Action) (at : ℕ) (xs : List Action) (e : Event) → goes_by e ≡ 0 → Ahead config w all at xs → Ahead config (after config w e) all at xs
still_ahead config w all at xs e still h = record {
  behind = h.behind;
  fit = h.fit;
  room =
      let room : w.clock + ticks_of xs < 253370764800000 = h.room in
      let now : (after config w e).clock ≡ w.clock + goes_by e = clock_after config w e in
      grind (arith, nat_tests);
}

-- ---- a move

-- by a step of this event, or by this note, or by nothing, these lines became what they are to become
abbrev StepBecomes : List Action → Event → Type 0
StepBecomes done e = (xs : List Action) (s : Step) (steps : List Step) (notes : List Note) → s.event ≡ e → Became xs steps notes → Became (done ++ xs) (s ∷ steps) notes

abbrev NoteBecomes : List Action → RefusedAction → Type 0
NoteBecomes done r = (xs : List Action) (steps : List Step) (n : Note) (notes : List Note) → n.line ≡ action_text r → Became xs steps notes → Became (done ++ xs) steps (n ∷ notes)

abbrev ArePlain : List Action → Type 0
ArePlain done = (xs : List Action) (steps : List Step) (notes : List Note) → Became xs steps notes → Became (done ++ xs) steps notes

record Splits (config : Config) (w : World) (all : List Action) (line : ℕ) (rest : List Action) (Do : List Action → Type 0) : Type 0 where
  done : List Action
  left : List Action
  split : rest ≡ done ++ left
  become : Do done
  ahead : Ahead config w all line left

abbrev MoveBecomes : Config → World → List Action → List Action → Move → Type 0
MoveBecomes config w all rest (moves.Makes e q) = Splits config (after config w e) all q.line rest (λ done. StepBecomes done e)
MoveBecomes config w all rest (moves.Notes refused q) = Splits config w all q.line rest (λ done. NoteBecomes done refused)
MoveBecomes config w all rest (moves.Blocked name) = ⊤
MoveBecomes config w all rest moves.Over = ArePlain rest

-- a line before it that becomes nothing by itself
skip : (config : Config) (w : World) (all : List Action) (x : Action) (rest : List Action) (m : Move) → IsPlain x → MoveBecomes config w all rest m → MoveBecomes config w all (x ∷ rest) m
skip config w all x rest (moves.Makes e q) plain h = record {
  done = x ∷ h.done;
  left = h.left;
  split = ap (λ (xs : List Action). x ∷ xs) h.split;
  become = λ xs s steps notes is b. plain (h.done ++ xs) (s ∷ steps) notes (h.become xs s steps notes is b);
  ahead = h.ahead;
}
skip config w all x rest (moves.Notes refused q) plain h = record {
  done = x ∷ h.done;
  left = h.left;
  split = ap (λ (xs : List Action). x ∷ xs) h.split;
  become = λ xs steps n notes is b. plain (h.done ++ xs) steps (n ∷ notes) (h.become xs steps n notes is b);
  ahead = h.ahead;
}
skip config w all x rest (moves.Blocked name) plain h = tt
skip config w all x rest moves.Over plain h = λ xs steps notes b. plain (rest ++ xs) steps notes (h xs steps notes b)

first_becomes : (config : Config) (w : World) (all : List Action) (noted at : ℕ) (x : Action) (xs : List Action) (start : Start) (later : Move) → StartBecomes x start
    → Ahead config w all at (x ∷ xs) → MoveBecomes config w all xs later → MoveBecomes config w all (x ∷ xs) (first_of noted at start later)
first_becomes config w all noted at x xs (starts_as.Goes (goes.Makes e task)) later h ahead rest = record {
  done = x ∷ [];
  left = xs;
  split = refl;
  become = h.0;
  ahead = line_ahead config w all at x xs e h.1 ahead;
}
first_becomes config w all noted at x xs (starts_as.Goes (goes.Blocked name)) later h ahead rest = tt
first_becomes config w all noted at x xs (starts_as.Goes goes.Finished) later h ahead rest = skip config w all x xs later h rest
first_becomes config w all noted at x xs (starts_as.Notes refused) later h ahead rest = record {
  done = x ∷ [];
  left = xs;
  split = refl;
  become = h;
  ahead = next_ahead config w all at x xs ahead;
}

start_becomes : (config : Config) (w : World) (all : List Action) (noted at : ℕ) (rest : List Action) → Ahead config w all at rest → MoveBecomes config w all rest (start_at config w noted at rest)
start_becomes config w all noted at [] ahead = λ xs steps notes h. h
start_becomes config w all noted at (x ∷ xs) ahead =
    first_becomes config w all noted at x xs (starts config w x) (start_at config w noted (at + 1) xs)
    (starts_becomes config w x (may_be_done config w x xs ahead.fit.0 ahead.room)) ahead
    (start_becomes config w all noted (at + 1) xs (next_ahead config w all at x xs ahead))

calm_becomes : (config : Config) (w : World) (all : List Action) (line : ℕ) (rest : List Action) (e : Event) → Calm e → Ahead config w all line rest
    → Splits config (after config w e) all line rest (λ done. StepBecomes done e)
calm_becomes config w all line rest e calm ahead = record {
  done = [];
  left = rest;
  split = refl;
  become = λ xs s steps notes is h. became_more xs s steps notes (ap (λ (v : Event). comes_of_line v) is ∙ calm) h;
  ahead = still_ahead config w all line rest e (calm_still e calm) ahead;
}

move_on_becomes : (config : Config) (w : World) (all : List Action) (p : Player) (rest : List Action) (g : Go) → CalmGo g → Ahead config w all p.line rest
    → MoveBecomes config w all rest (move_on config w all p g)
move_on_becomes config w all p rest (goes.Makes e task) calm ahead = calm_becomes config w all p.line rest e calm ahead
move_on_becomes config w all p rest (goes.Blocked name) calm ahead = tt
move_on_becomes config w all p rest goes.Finished calm ahead =
    subst (λ (ls : List Action). MoveBecomes config w all rest (start_at config w p.noted p.line ls)) (sym ahead.behind) (start_becomes config w all p.noted p.line rest ahead)

wanting_becomes : (config : Config) (w : World) (all : List Action) (p : Player) (rest : List Action) (o : Option Want) → Ahead config w all p.line rest
    → MoveBecomes config w all rest (wanting config w all p o)
wanting_becomes config w all p rest None ahead = move_on_becomes config w all p rest (go_on config w all p.line p.task) (go_calm config w all p.line p.task) ahead
wanting_becomes config w all p rest (Some m) ahead =
    calm_becomes config w all p.line rest (leaves w m.command) (maker_calm (leaves w m.command) m.command (leaving_is_own w m.command)) ahead

move_becomes : (config : Config) (wants : List Want) (w : World) (all : List Action) (p : Player) (rest : List Action) → Ahead config w all p.line rest
    → MoveBecomes config w all rest (move config wants all w p)
move_becomes config wants w all p rest ahead = wanting_becomes config w all p rest (wanted w p.noted wants) ahead

-- ---- what is played

-- the lines that are done became these steps and notes, whatever comes of the lines behind them without a step or a note
record Becomes (config : Config) (v : World) (all : List Action) (q : Player) (steps : List Step) (notes : List Note) (rest : List Action) : Type 0 where
  done : List Action
  left : List Action
  split : rest ≡ done ++ left
  became : (xs : List Action) → Became xs [] [] → Became (done ++ xs) steps notes
  ahead : Ahead config v all q.line left

more_done : (config : Config) (v : World) (all : List Action) (q : Player) (steps others : List Step) (notes more : List Note) (rest done left : List Action) → rest ≡ done ++ left
    → ((xs : List Action) → Became xs steps notes → Became (done ++ xs) others more) → Becomes config v all q steps notes left → Becomes config v all q others more rest
more_done config v all q steps others notes more rest done left split on h = record {
  done = done ++ h.done;
  left = h.left;
  split = split ∙ ap (λ (xs : List Action). done ++ xs) h.split ∙ sym (append_assoc done h.done h.left);
  became = λ xs b. subst (λ (ys : List Action). Became ys others more) (sym (append_assoc done h.done xs)) (on (h.done ++ xs) (h.became xs b));
  ahead = h.ahead;
}

by_step : (config : Config) (wants : List Want) (w : World) (all : List Action) (p : Player) (m : Move) (s : Step) (made : List Made) (place : ℕ) (rest : List Action)
    → MoveBecomes config w all rest m → IsMade config w m (Stepped s) (λ v q. Plays config wants all v q made)
    → ((v : World) (q : Player) (left : List Action) → Plays config wants all v q made → Ahead config v all q.line left
    → Becomes config (world_after config v (steps_of made)) all (player_after config wants all v q made) (steps_of made) (notes_from (place + 1) made) left)
    → Becomes config (world_after config w (s ∷ steps_of made)) all (player_after config wants all (world_by config w m) (player_by p m) made) (s ∷ steps_of made) (notes_from (place + 1) made) rest
by_step config wants w all p (moves.Makes e q) s made place rest move h on =
    let event : s.event ≡ e = ap (λ (t : Step). t.event) h.0 in
    let b = on (after config w e) q move.left h.1 move.ahead in
    subst (λ (v : Event). Becomes config (world_after config (after config w v) (steps_of made)) all (player_after config wants all (after config w e) q made) (s ∷ steps_of made) (notes_from (place + 1) made) rest) (sym event)
    (more_done config (world_after config (after config w e) (steps_of made)) all (player_after config wants all (after config w e) q made) (steps_of made) (s ∷ steps_of made)
    (notes_from (place + 1) made) (notes_from (place + 1) made) rest move.done move.left move.split
    (λ xs b. move.become xs s (steps_of made) (notes_from (place + 1) made) event b) b)
by_step config wants w all p (moves.Notes refused q) s made place rest move h on = absurd h
by_step config wants w all p (moves.Blocked name) s made place rest move h on = absurd h
by_step config wants w all p moves.Over s made place rest move h on = absurd h

by_note : (config : Config) (wants : List Want) (w : World) (all : List Action) (p : Player) (m : Move) (r : RefusedAction) (made : List Made) (place : ℕ) (rest : List Action)
    → MoveBecomes config w all rest m → IsMade config w m (Noted r) (λ v q. Plays config wants all v q made)
    → ((v : World) (q : Player) (left : List Action) → Plays config wants all v q made → Ahead config v all q.line left
    → Becomes config (world_after config v (steps_of made)) all (player_after config wants all v q made) (steps_of made) (notes_from place made) left)
    → Becomes config (world_after config w (steps_of made)) all (player_after config wants all (world_by config w m) (player_by p m) made) (steps_of made) (notes_from place (Noted r ∷ made)) rest
by_note config wants w all p (moves.Makes e q) r made place rest move h on = absurd h
by_note config wants w all p (moves.Notes refused q) r made place rest move h on =
    let n : Note = record { place = place; line = action_text r } in
    more_done config (world_after config w (steps_of made)) all (player_after config wants all w q made) (steps_of made) (steps_of made) (notes_from place made) (n ∷ notes_from place made) rest
    move.done move.left move.split
    (λ xs b. move.become xs (steps_of made) n (notes_from place made) (ap (λ (x : RefusedAction). action_text x) h.0) b) (on w q move.left h.1 move.ahead)
by_note config wants w all p (moves.Blocked name) r made place rest move h on = absurd h
by_note config wants w all p moves.Over r made place rest move h on = absurd h

becomes_from : (config : Config) (wants : List Want) (all : List Action) (w : World) (p : Player) (made : List Made) (place : ℕ) (rest : List Action) → Plays config wants all w p made
    → Ahead config w all p.line rest
    → Becomes config (world_after config w (steps_of made)) all (player_after config wants all w p made) (steps_of made) (notes_from place made) rest
becomes_from config wants all w p [] place rest h ahead = record { done = []; left = rest; split = refl; became = λ xs b. b; ahead = ahead }
becomes_from config wants all w p (Stepped s ∷ made) place rest h ahead =
    by_step config wants w all p (move config wants all w p) s made place rest (move_becomes config wants w all p rest ahead) h
    (λ v q left plays now. becomes_from config wants all v q made (place + 1) left plays now)
becomes_from config wants all w p (Noted r ∷ made) place rest h ahead =
    by_note config wants w all p (move config wants all w p) r made place rest (move_becomes config wants w all p rest ahead) h
    (λ v q left plays now. becomes_from config wants all v q made place left plays now)

-- ---- a script that fits

link_declared : (config : Config) (x y : Side) → are_ends x y ≡ true → NamesDeclared config.tablets (actions.Cut x y) → is_link config x y ≡ true
link_declared config sides.Control sides.Control ends h = ends
link_declared config sides.Control (sides.Tablet b) ends h = ap (λ (t : Bool). t && true) (found config.tablets b (All-head (IsDeclared config.tablets) b [] h))
link_declared config (sides.Tablet a) sides.Control ends h = ap (λ (t : Bool). (t && true) && true) (found config.tablets a (All-head (IsDeclared config.tablets) a [] h))
link_declared config (sides.Tablet a) (sides.Tablet b) ends h =
    let one = found config.tablets a (All-head (IsDeclared config.tablets) a (b ∷ []) h) in
    let other = found config.tablets b (All-head (IsDeclared config.tablets) b [] (All-tail (IsDeclared config.tablets) a (b ∷ []) h)) in
    ap (λ (t : Bool). (t && is_declared config.tablets b) && true) one ∙ ap (λ (t : Bool). t && true) other

line_fits : (config : Config) (shard : Option ShardName) (x : Action) → FitsShard shard x → NamesDeclared config.tablets x → LineFits config x
line_fits config shard (actions.Crash a keep) fits declared = found config.tablets a (All-head (IsDeclared config.tablets) a [] declared)
line_fits config shard (actions.Cut x y) fits declared = link_declared config x y fits declared
line_fits config shard (actions.Mend x y) fits declared = link_declared config x y fits declared
line_fits config shard (actions.Tick ms) fits declared = fits
line_fits config shard _ fits declared = tt

all_fit : (config : Config) (shard : Option ShardName) (xs : List Action) → All (FitsShard shard) xs → All (NamesDeclared config.tablets) xs → AllFit config xs
all_fit config shard [] fits declared = tt
all_fit config shard (x ∷ xs) fits declared = (
  line_fits config shard x (All-head (FitsShard shard) x xs fits) (All-head (NamesDeclared config.tablets) x xs declared),
  all_fit config shard xs (All-tail (FitsShard shard) x xs fits) (All-tail (NamesDeclared config.tablets) x xs declared),
)

tick_most : (config : Config) (x : Action) → LineFits config x → ticked x ≤ 86400000
tick_most config (actions.Tick ms) fit = fit
tick_most config _ fit = omega arith

-- a day a line at most
ticks_most : (config : Config) (xs : List Action) → AllFit config xs → ticks_of xs ≤ 86400000 * length xs
ticks_most config [] fit = omega arith
ticks_most config (x ∷ xs) fit =
    let one : ticked x ≤ 86400000 = tick_most config x fit.0 in
    let others : ticks_of xs ≤ 86400000 * length xs = ticks_most config xs fit.1 in
    grind (arith, nat_tests)

begins_soon : (s : Script) → Fits s → begins_at s < 221876928000000
unfolding first_moment
begins_soon s h = by_clock s.clock refl
  where
    by_clock : (o : Option ℕ) → s.clock ≡ o → unwrap_or o 1704067200000 < 221876928000000
    by_clock None is = omega arith
    by_clock (Some m) is = h.clock m is

ahead_first : (s : Script) → Fits s → Ahead (config_of s) (opening (config_of s)) s.actions first_player.line s.actions
ahead_first s f =
    let fit : AllFit (config_of s) s.actions = all_fit (config_of s) s.shard s.actions f.actions f.declared in
    let most : ticks_of s.actions ≤ 86400000 * length s.actions = ticks_most (config_of s) s.actions fit in
    let few : length s.actions ≤ 20000 = f.few_actions in
    let soon : begins_at s < 221876928000000 = begins_soon s f in
    record { behind = refl; fit = fit; room = in_room (begins_at s) (ticks_of s.actions) (length s.actions) soon most few }
  where
    in_room : (start ticks lines : ℕ) → start < 221876928000000 → ticks ≤ 86400000 * lines → lines ≤ 20000 → start + ticks < 253370764800000
    in_room start ticks lines soon most few = grind (arith, nat_tests)

became : (s : Script) (wants : List Want) (made : List Made) (stop : Stop) → Fits s → IsRunOf s wants made stop
    → Becomes (config_of s) (world_after (config_of s) (opening (config_of s)) (steps_of made)) s.actions
    (player_after (config_of s) wants s.actions (opening (config_of s)) first_player made) (steps_of made) (notes_of made) s.actions
became s wants made stop f run = becomes_from (config_of s) wants s.actions (opening (config_of s)) first_player made 0 s.actions run.played (ahead_first s f)

nothing_became : Became [] [] []
nothing_became = (tt, refl)

-- a front of the lines became what was made
pub front_became : (s : Script) (wants : List Want) (made : List Made) (stop : Stop) → Fits s → IsRunOf s wants made stop → FrontBecame s.actions (steps_of made) (notes_of made)
front_became s wants made stop f run =
    let b = became s wants made stop f run in
    record {
      done = b.done;
      rest = b.left;
      split = b.split;
      became = subst (λ (xs : List Action). Became xs (steps_of made) (notes_of made)) (append-nil b.done) (b.became [] nothing_became);
    }

rest_plain : (config : Config) (w : World) (all rest : List Action) (n j : ℕ) (m : Move) → MoveBecomes config w all rest m → stop_by n j m ≡ Some stops.Over → ArePlain rest
rest_plain config w all rest n j (moves.Makes e q) h is = of_test (n == 1000000) is
  where
    of_test : (b : Bool) → cond b (Some stops.Full) None ≡ Some stops.Over → ArePlain rest
    of_test true k = absurd (let never : ◌≡◌ {A = Option Stop} (Some stops.Full) (Some stops.Over) = k in cc)
    of_test false k = absurd (let never : ◌≡◌ {A = Option Stop} None (Some stops.Over) = k in cc)
rest_plain config w all rest n j (moves.Notes refused q) h is = of_test (j == 1000000) is
  where
    of_test : (b : Bool) → cond b (Some stops.Full) None ≡ Some stops.Over → ArePlain rest
    of_test true k = absurd (let never : ◌≡◌ {A = Option Stop} (Some stops.Full) (Some stops.Over) = k in cc)
    of_test false k = absurd (let never : ◌≡◌ {A = Option Stop} None (Some stops.Over) = k in cc)
rest_plain config w all rest n j (moves.Blocked name) h is = absurd (let never : ◌≡◌ {A = Option Stop} (Some (stops.Blocked name)) (Some stops.Over) = is in cc)
rest_plain config w all rest n j moves.Over h is = h

-- where all is done all of them did
pub all_became : (s : Script) (wants : List Want) (made : List Made) (stop : Stop) → Fits s → IsRunOf s wants made stop → stop ≡ stops.Over → Became s.actions (steps_of made) (notes_of made)
all_became s wants made stop f run over =
    let b = became s wants made stop f run in
    let p : Player = player_after (config_of s) wants s.actions (opening (config_of s)) first_player made in
    let w : World = world_after (config_of s) (opening (config_of s)) (steps_of made) in
    let m : Move = move (config_of s) wants s.actions w p in
    let plain = rest_plain (config_of s) w s.actions b.left (length (steps_of made)) (length (notes_of made)) m (move_becomes (config_of s) wants w s.actions p b.left b.ahead)
    (subst (λ (v : Stop). stop_by (length (steps_of made)) (length (notes_of made)) m ≡ Some v) over run.stopped) in
    let none : Became b.left [] [] = subst (λ (xs : List Action). Became xs [] []) (append-nil b.left) (plain [] [] [] nothing_became) in
    subst (λ (xs : List Action). Became xs (steps_of made) (notes_of made)) (sym b.split) (b.became b.left none)

-- A run that is over or blocked, in which no command was refused for want of memory, is the run that wants no memory.
use Rattle.std.proofs.Common.{◌≡◌, ◌≢◌, ℕ, zero, suc, List, [], ◌∷◌, ◌≤◌, Bool, true, false, not, cond, ◌&&◌, nat_le, ◌⊎◌, inl, inr, Option, Some, None, is_some, length, refl, ap, sym, subst, ◌∙◌, arith}
use Rattle.std.specs.List.{find, slice_get}
use Rattle.std.proofs.lemmas.Bool.{false≢true}
use Rattle.std.proofs.lemmas.Bool.Decides.{nat_tests}
use Rattle.shard_base.specs.Options.{only_if}
use Rattle.shard_names.proofs.TabletLemmas.{both, both_right}
use Rattle.shard_calls.specs.World.{Config, World, opening, numbered, changed, changed_at, if_open, open_command, term_of}
use Rattle.shard_calls.specs.Locks.{by_term, as_released, releases_in}
use Rattle.shard_calls.specs.Table.{after, world_after}
use Rattle.shard_calls.specs.declared.ending.CommandAnswer.TheVariants as answers
use Rattle.shard_calls.specs.declared.event.Event.{Event}
use Rattle.shard_calls.specs.declared.event.Event.TheVariants as events
use Rattle.shard_calls.specs.declared.event.Step.{Step}
use Rattle.shard_calls.specs.declared.refusal.Refusal.TheVariants as refusals
use Rattle.shard_calls.specs.declared.state.CommandState.{CommandState}
use Rattle.shard_script.specs.declared.script.Action.{Action}
use Rattle.planned.specs.Course.{leaves, leaves_by}
use Rattle.planned.specs.Leaving.{owes_release}
use Rattle.vtctld_text.specs.declared.note.RefusedAction.{RefusedAction}
use Rattle.shard_top.specs.declared.player.Player.{Player}
use Rattle.shard_top.specs.declared.player.Move.{Move}
use Rattle.shard_top.specs.declared.player.Move.TheVariants as moves
use Rattle.shard_top.specs.declared.player.Stop.{Stop}
use Rattle.shard_top.specs.declared.player.Stop.TheVariants as stops
use Rattle.shard_top.specs.Played.{Want, wanted, wanting, move, Made, Stepped, Noted, steps_of, notes_of, IsMade, Plays, world_by, player_by, player_after, first_player, stop_by, config_of}
use Rattle.shard_top.specs.Memory.{ends_lacking, NoneLacked}
use Rattle.shard_top.specs.Laws.{RunsPlainly}
use Rattle.shard_top.proofs.LongerLemmas.{past_after, made_on, made_with, world_on}
use Rattle.shard_top.proofs.LawLemmas.{found, want_opened}

-- ---- a command that frees the lock is open still

some_if : {A : Type 0} (b : Bool) (x y : A) → is_some (only_if b x) ≡ true → is_some (only_if b y) ≡ true
some_if true x y h = refl
some_if false x y h = h

released_here : (xs : List CommandState) (k : ℕ) → is_some (if_open (slice_get xs k)) ≡ true → is_some (if_open (slice_get (changed xs k as_released) k)) ≡ true
released_here [] k h = h
released_here (x ∷ xs) zero h = some_if (not x.ended) x (as_released x) h
released_here (x ∷ xs) (suc k) h = released_here xs k h

released_at : (xs : List CommandState) (c : ℕ) → is_some (if_open (numbered xs c)) ≡ true → is_some (if_open (numbered (changed_at xs c as_released) c)) ≡ true
released_at xs zero h = h
released_at xs (suc k) h = released_here xs k h

released_by : (w : World) (c : ℕ) (o : Option ℕ) → is_some (if_open (numbered w.commands c)) ≡ true → is_some (if_open (numbered (by_term o w (releases_in w c)).commands c)) ≡ true
released_by w c None h = h
released_by w c (Some t) h = released_at w.commands c h

is_open_still : (config : Config) (w : World) (c : ℕ) → is_some (open_command w c) ≡ true → is_some (open_command (after config w (events.Release c)) c) ≡ true
is_open_still config w c h = released_by w c (term_of w c) h

-- ---- and its want has come still

first_still : {A : Type 0} (p q : A → Bool) (y : A) (ys : List A) (x : A) (b d : Bool) → cond b (Some y) (find p ys) ≡ Some x → q y ≡ d → q x ≡ true
    → (find p ys ≡ Some x → is_some (find q ys) ≡ true) → is_some (cond d (Some y) (find q ys)) ≡ true
first_still p q y ys x b true one here h later = refl
first_still p q y ys x true false one here h later = absurd (false≢true (sym here ∙ ap q (let same : y ≡ x = cc in same) ∙ h))
first_still p q y ys x false false one here h later = later one

still_found : {A : Type 0} (p q : A → Bool) (xs : List A) (x : A) → find p xs ≡ Some x → q x ≡ true → is_some (find q xs) ≡ true
still_found p q [] x is h = absurd (let none : None ≡ Some x = is in cc)
still_found p q (y ∷ ys) x is h = first_still p q y ys x (p y) (q y) is refl h (λ k. still_found p q ys x k h)

left_part : (a b : Bool) → (a && b) ≡ true → a ≡ true
left_part true b h = refl
left_part false b h = h

-- and later, while the command is open
pub wanted_later : (w v : World) (noted : ℕ) (wants : List Want) (m : Want) → wanted w noted wants ≡ Some m → length w.past ≤ length v.past → is_some (open_command v m.command) ≡ true
    → is_some (wanted v noted wants) ≡ true
wanted_later w v noted wants m is more opened =
    let all = found _ wants m is in
    let come = left_part (nat_le m.steps (length w.past) && nat_le m.notes noted) (is_some (open_command w m.command)) all in
    let before : nat_le m.steps (length w.past) ≡ true = left_part (nat_le m.steps (length w.past)) (nat_le m.notes noted) come in
    let later : nat_le m.steps (length v.past) ≡ true = grind (arith, nat_tests) in
    still_found _ _ wants m is
    (both (nat_le m.steps (length v.past) && nat_le m.notes noted) (is_some (open_command v m.command))
    (both (nat_le m.steps (length v.past)) (nat_le m.notes noted) later (both_right (nat_le m.steps (length w.past)) (nat_le m.notes noted) come)) opened)

wanted_still : (config : Config) (w : World) (noted : ℕ) (wants : List Want) (m : Want) → wanted w noted wants ≡ Some m
    → is_some (wanted (after config w (events.Release m.command)) noted wants) ≡ true
wanted_still config w noted wants m is =
    let one = past_after config w (events.Release m.command) in
    wanted_later w (after config w (events.Release m.command)) noted wants m is (omega (arith, one)) (is_open_still config w m.command (want_opened w noted wants m is))

-- it frees the lock, or ends refused
frees_or_ends : (w : World) (c : ℕ) → (leaves w c ≡ events.Release c) ⊎ (ends_lacking (leaves w c) ≡ true)
frees_or_ends w c = of_state (open_command w c)
  where
    of_test : (b : Bool) → (cond b (events.Release c) (events.End c (answers.Refused refusals.OutOfMemory None)) ≡ events.Release c)
        ⊎ (ends_lacking (cond b (events.Release c) (events.End c (answers.Refused refusals.OutOfMemory None))) ≡ true)
    of_test true = inl refl
    of_test false = inr refl

    of_state : (o : Option CommandState) → (leaves_by c o ≡ events.Release c) ⊎ (ends_lacking (leaves_by c o) ≡ true)
    of_state None = inr refl
    of_state (Some s) = of_test (owes_release s)

-- ---- moves

abbrev pub Stops : Config → List Want → List Action → ℕ → ℕ → Stop → World → Player → List Made → Type 0
Stops config wants lines n j stop w p made =
    stop_by n j (move config wants lines (world_after config w (steps_of made)) (player_after config wants lines w p made)) ≡ Some stop

-- the rest of what is played, behind the first move
pub next_stops : (config : Config) (wants : List Want) (lines : List Action) (w : World) (p : Player) (n j : ℕ) (stop : Stop) (x : Made) (made : List Made) (u : Move)
    → move config wants lines w p ≡ u → Plays config wants lines w p (x ∷ made) → Stops config wants lines n j stop w p (x ∷ made)
    → Plays config wants lines (world_by config w u) (player_by p u) made × Stops config wants lines n j stop (world_by config w u) (player_by p u) made
next_stops config wants lines w p n j stop x made u is h stopped =
    let v : Move = move config wants lines w p in
    let q : Player = player_after config wants lines (world_by config w v) (player_by p v) made in
    subst
    (λ (m : Move). Plays config wants lines (world_by config w m) (player_by p m) made × Stops config wants lines n j stop (world_by config w m) (player_by p m) made) is (
      made_on config w p v x (λ y r. Plays config wants lines y r made) h,
      subst (λ (y : World). stop_by n j (move config wants lines y q) ≡ Some stop) (world_on config w v x made (λ y r. Plays config wants lines y r made) h) stopped,
    )

pub event_made : (config : Config) (w : World) (m : Move) (e : Event) (p : Player) (s : Step) (P : World → Player → Type 0) → m ≡ moves.Makes e p → IsMade config w m (Stepped s) P → s.event ≡ e
event_made config w m e p s P is h =
    let made : IsMade config w (moves.Makes e p) (Stepped s) P = subst (λ (v : Move). IsMade config w v (Stepped s) P) is h in
    ap (λ (t : Step). t.event) made.0

pub no_note : (config : Config) (w : World) (m : Move) (e : Event) (p : Player) (r : RefusedAction) (P : World → Player → Type 0) → m ≡ moves.Makes e p → IsMade config w m (Noted r) P → ⊥
no_note config w m e p r P is h = subst (λ (v : Move). IsMade config w v (Noted r) P) is h

full_stop : (n j : ℕ) (e : Event) (p : Player) (stop : Stop) → stop_by n j (moves.Makes e p) ≡ Some stop → stop ≡ stops.Full
full_stop n j e p stop h = of_test _ h
  where
    of_test : (b : Bool) → cond b (Some stops.Full) None ≡ Some stop → stop ≡ stops.Full
    of_test true is = cc
    of_test false is = absurd (let none : None ≡ Some stop = is in cc)

pub some_of : {A : Type 0} (o : Option A) → is_some o ≡ true → (x : A) × (o ≡ Some x)
some_of None h = absurd (false≢true h)
some_of (Some x) h = (x, refl)

-- where a want has come, a command ends refused for it, or the history is full
wanted_ends : (config : Config) (wants : List Want) (lines : List Action) (n j : ℕ) (stop : Stop) → stop ≢ stops.Full → (made : List Made) (w : World) (p : Player) (m : Want)
    → wanted w p.noted wants ≡ Some m → Plays config wants lines w p made → NoneLacked (steps_of made) → Stops config wants lines n j stop w p made → ⊥
wanted_ends config wants lines n j stop not_full [] w p m is h none stopped =
    let moved : move config wants lines w p ≡ moves.Makes (leaves w m.command) p = ap (λ (o : Option Want). wanting config w lines p o) is in
    not_full (full_stop n j (leaves w m.command) p stop (subst (λ (v : Move). stop_by n j v ≡ Some stop) moved stopped))
wanted_ends config wants lines n j stop not_full (Noted r ∷ made) w p m is h none stopped =
    let moved : move config wants lines w p ≡ moves.Makes (leaves w m.command) p = ap (λ (o : Option Want). wanting config w lines p o) is in
    no_note config w (move config wants lines w p) (leaves w m.command) p r (λ v q. Plays config wants lines v q made) moved h
wanted_ends config wants lines n j stop not_full (Stepped s ∷ made) w p m is h none stopped =
    let e : Event = leaves w m.command in
    let moved : move config wants lines w p ≡ moves.Makes e p = ap (λ (o : Option Want). wanting config w lines p o) is in
    let rest = next_stops config wants lines w p n j stop (Stepped s) made (moves.Makes e p) moved h stopped in
    let event : s.event ≡ e = event_made config w (move config wants lines w p) e p s (λ v q. Plays config wants lines v q made) moved h in
    elim (frees_or_ends w m.command) [
      | inl frees ↦
          (let come = some_of (wanted (after config w e) p.noted wants)
          (subst (λ (v : Event). is_some (wanted (after config w v) p.noted wants) ≡ true) (sym frees) (wanted_still config w p.noted wants m is)) in
          wanted_ends config wants lines n j stop not_full made (after config w e) p come.0 come.1 rest.0 none.1 rest.1)
      | inr lacking ↦ absurd (false≢true (sym none.0 ∙ ap (λ (v : Event). ends_lacking v) event ∙ lacking))
    ]

none_next : (x : Made) (made : List Made) → NoneLacked (steps_of (x ∷ made)) → NoneLacked (steps_of made)
none_next (Stepped s) made h = h.1
none_next (Noted r) made h = h

plain_from : (config : Config) (wants : List Want) (lines : List Action) (n j : ℕ) (stop : Stop) → stop ≢ stops.Full → (made : List Made) (w : World) (p : Player)
    → Plays config wants lines w p made → NoneLacked (steps_of made) → Stops config wants lines n j stop w p made
    → Plays config [] lines w p made × Stops config [] lines n j stop w p made
plain_from config wants lines n j stop not_full [] w p h none stopped =
    elim (wanted w p.noted wants) as (λ (o : Option Want). wanted w p.noted wants ≡ o → Plays config [] lines w p [] × Stops config [] lines n j stop w p []) [
      | None ↦ (λ is. (tt, subst (λ (o : Option Want). stop_by n j (wanting config w lines p o) ≡ Some stop) is stopped))
      | Some m ↦ (λ is. absurd (wanted_ends config wants lines n j stop not_full [] w p m is h none stopped))
    ] refl
plain_from config wants lines n j stop not_full (x ∷ made) w p h none stopped =
    elim (wanted w p.noted wants) as (λ (o : Option Want). wanted w p.noted wants ≡ o → Plays config [] lines w p (x ∷ made) × Stops config [] lines n j stop w p (x ∷ made)) [
      | None ↦ (λ is.
          let u : Move = move config [] lines w p in
          let same : move config wants lines w p ≡ u = ap (λ (o : Option Want). wanting config w lines p o) is in
          let rest = next_stops config wants lines w p n j stop x made u same h stopped in
          let later = plain_from config wants lines n j stop not_full made (world_by config w u) (player_by p u) rest.0 (none_next x made none) rest.1 in
          let plays : IsMade config w u x (λ v q. Plays config [] lines v q made) =
          made_with config w p u x (λ v q. Plays config wants lines v q made) (λ v q. Plays config [] lines v q made) (λ k. later.0)
          (subst (λ (v : Move). IsMade config w v x (λ y q. Plays config wants lines y q made)) same h) in (
            plays,
            subst (λ (v : World). stop_by n j (move config [] lines v (player_after config [] lines (world_by config w u) (player_by p u) made)) ≡ Some stop)
                (sym (world_on config w u x made (λ v q. Plays config [] lines v q made) plays)) later.1,
          ))
      | Some m ↦ (λ is. absurd (wanted_ends config wants lines n j stop not_full (x ∷ made) w p m is h none stopped))
    ] refl

pub runs_plainly : RunsPlainly
runs_plainly s wants made stop not_full none run =
    let plain = plain_from (config_of s) wants s.actions (length (steps_of made)) (length (notes_of made)) stop not_full made (opening (config_of s)) first_player run.played none run.stopped in
    record { played = plain.0; stopped = plain.1; few = run.few; few_notes = run.few_notes }

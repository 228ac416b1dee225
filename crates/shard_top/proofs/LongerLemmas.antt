-- Runs with one more step or note, where a move leaves the player, and runs with one more want of memory.
use Rattle.std.proofs.Common.{◌≡◌, ℕ, ◌+◌, ◌<◌, ◌≤◌, List, [], ◌∷◌, ◌++◌, Bool, true, false, cond, ◌&&◌, nat_le, Option, Some, None, length, refl, ap, sym, subst, ◌∙◌, arith, drop, length-append, length-drop}
use Rattle.std.specs.Bool.{⊤}
use Rattle.std.specs.List.{find}
use Rattle.std.proofs.lemmas.Bool.Decides.{nat_tests}
use Rattle.shard_calls.specs.World.{Config, World}
use Rattle.shard_calls.specs.Table.{step_of, after, world_after}
use Rattle.shard_calls.specs.declared.event.Event.{Event}
use Rattle.shard_calls.specs.declared.event.Step.{Step}
use Rattle.shard_script.specs.declared.script.Action.{Action}
use Rattle.shard_calls.specs.declared.event.Note.{Note}
use Rattle.vtctld_text.specs.Notes.{action_text}
use Rattle.vtctld_text.specs.declared.note.RefusedAction.{RefusedAction}
use Rattle.shard_top.specs.declared.player.Player.{Player}
use Rattle.shard_top.specs.declared.player.Go.{Go}
use Rattle.shard_top.specs.declared.player.Go.TheVariants as goes
use Rattle.shard_top.specs.declared.player.Start.{Start}
use Rattle.shard_top.specs.declared.player.Start.TheVariants as starts_as
use Rattle.shard_top.specs.declared.player.Move.{Move}
use Rattle.shard_top.specs.declared.player.Move.TheVariants as moves
use Rattle.shard_top.specs.Played.{Want, wanted, wanting, move, first_of, starts, start_at, move_on, go_on, Made, Stepped, Noted, steps_of, notes_from, notes_of, IsMade, Plays, world_by, player_by, player_after}

-- ---- how much is past

pub past_after : (config : Config) (w : World) (e : Event) → length (after config w e).past ≡ length w.past + 1
past_after config w e = omega (arith, length-append w.past (step_of config w e ∷ []))

pub past_is : (config : Config) (w : World) (ss : List Step) → length (world_after config w ss).past ≡ length w.past + length ss
past_is config w [] = omega arith
past_is config w (s ∷ ss) = omega (arith, past_is config (after config w s.event) ss, past_after config w s.event)

-- ---- the steps and the notes of what is made

pub steps_append : (xs ys : List Made) → steps_of (xs ++ ys) ≡ steps_of xs ++ steps_of ys
steps_append [] ys = refl
steps_append (Stepped s ∷ xs) ys = ap (λ (ss : List Step). s ∷ ss) (steps_append xs ys)
steps_append (Noted r ∷ xs) ys = steps_append xs ys

pub notes_append : (n : ℕ) (xs ys : List Made) → notes_from n (xs ++ ys) ≡ notes_from n xs ++ notes_from (n + length (steps_of xs)) ys
notes_append n [] ys = let same : n ≡ n + 0 = omega arith in ap (λ (m : ℕ). notes_from m ys) same
notes_append n (Stepped s ∷ xs) ys =
    let same : n + 1 + length (steps_of xs) ≡ n + length (s ∷ steps_of xs) = omega arith in
    notes_append (n + 1) xs ys ∙ ap (λ (m : ℕ). notes_from (n + 1) xs ++ notes_from m ys) same
notes_append n (Noted r ∷ xs) ys = ap (λ (ns : List Note). record { place = n; line = action_text r } ∷ ns) (notes_append n xs ys)

-- a step is one step more, and no note
pub steps_stepped : (made : List Made) (s : Step) → steps_of (made ++ Stepped s ∷ []) ≡ steps_of made ++ s ∷ []
steps_stepped made s = steps_append made (Stepped s ∷ [])

append_none : {A : Type 0} (xs : List A) → xs ++ [] ≡ xs
append_none [] = refl
append_none {A} (x ∷ xs) = ap (λ (ys : List A). x ∷ ys) (append_none xs)

pub notes_stepped : (made : List Made) (s : Step) → notes_of (made ++ Stepped s ∷ []) ≡ notes_of made
notes_stepped made s = notes_append 0 made (Stepped s ∷ []) ∙ append_none (notes_of made)

-- a note is no step, and one note more, which stands where the steps have come
pub steps_noted : (made : List Made) (r : RefusedAction) → steps_of (made ++ Noted r ∷ []) ≡ steps_of made
steps_noted made r = steps_append made (Noted r ∷ []) ∙ append_none (steps_of made)

pub notes_noted : (made : List Made) (r : RefusedAction) → notes_of (made ++ Noted r ∷ []) ≡ notes_of made ++ record { place = length (steps_of made); line = action_text r } ∷ []
notes_noted made r =
    let same : 0 + length (steps_of made) ≡ length (steps_of made) = omega arith in
    notes_append 0 made (Noted r ∷ []) ∙ ap (λ (m : ℕ). notes_of made ++ record { place = m; line = action_text r } ∷ []) same

made_from : (n : ℕ) (made : List Made) → length made ≡ length (steps_of made) + length (notes_from n made)
made_from n [] = omega arith
made_from n (Stepped s ∷ made) = omega (arith, made_from (n + 1) made)
made_from n (Noted r ∷ made) = omega (arith, made_from n made)

-- all that is made is a step or a note
pub made_is : (made : List Made) → length made ≡ length (steps_of made) + length (notes_of made)
made_is made = made_from 0 made

-- ---- one more

-- what follows from what is made: in the world and with the player after the move
pub made_on : (config : Config) (w : World) (p : Player) (m : Move) (x : Made) (P : World → Player → Type 0) → IsMade config w m x P → P (world_by config w m) (player_by p m)
made_on config w p (moves.Makes e q) (Stepped s) P h = h.1
made_on config w p (moves.Makes e q) (Noted r) P h = absurd h
made_on config w p (moves.Notes refused q) (Stepped s) P h = absurd h
made_on config w p (moves.Notes refused q) (Noted r) P h = h.1
made_on config w p (moves.Blocked name) x P h = absurd h
made_on config w p moves.Over x P h = absurd h

pub made_with : (config : Config) (w : World) (p : Player) (m : Move) (x : Made) (P Q : World → Player → Type 0)
    → (P (world_by config w m) (player_by p m) → Q (world_by config w m) (player_by p m)) → IsMade config w m x P → IsMade config w m x Q
made_with config w p (moves.Makes e q) (Stepped s) P Q f h = (h.0, f h.1)
made_with config w p (moves.Makes e q) (Noted r) P Q f h = h
made_with config w p (moves.Notes refused q) (Stepped s) P Q f h = h
made_with config w p (moves.Notes refused q) (Noted r) P Q f h = (h.0, f h.1)
made_with config w p (moves.Blocked name) x P Q f h = h
made_with config w p moves.Over x P Q f h = h

-- the world after the move is the world after what is made
pub world_on : (config : Config) (w : World) (m : Move) (x : Made) (made : List Made) (P : World → Player → Type 0) → IsMade config w m x P
    → world_after config w (steps_of (x ∷ made)) ≡ world_after config (world_by config w m) (steps_of made)
world_on config w (moves.Makes e q) (Stepped s) made P h = ap (λ (v : Step). world_after config (after config w v.event) (steps_of made)) h.0
world_on config w (moves.Makes e q) (Noted r) made P h = absurd h
world_on config w (moves.Notes refused q) (Stepped s) made P h = absurd h
world_on config w (moves.Notes refused q) (Noted r) made P h = refl
world_on config w (moves.Blocked name) x made P h = absurd h
world_on config w moves.Over x made P h = absurd h

-- this is made behind what is made
abbrev pub IsNext : Config → List Want → List Action → World → Player → List Made → Made → Type 0
IsNext config wants lines w p made x =
    IsMade config (world_after config w (steps_of made)) (move config wants lines (world_after config w (steps_of made)) (player_after config wants lines w p made)) x (λ v q. ⊤)

pub plays_more : (config : Config) (wants : List Want) (lines : List Action) (w : World) (p : Player) (made : List Made) (x : Made) → Plays config wants lines w p made
    → IsNext config wants lines w p made x → Plays config wants lines w p (made ++ x ∷ [])
plays_more config wants lines w p [] x h next = next
plays_more config wants lines w p (y ∷ made) x h next =
    let m : Move = move config wants lines w p in
    let q : Player = player_after config wants lines (world_by config w m) (player_by p m) made in
    made_with config w p m y (λ v q. Plays config wants lines v q made) (λ v q. Plays config wants lines v q (made ++ x ∷ []))
    (λ k. plays_more config wants lines (world_by config w m) (player_by p m) made x k
    (subst (λ (v : World). IsMade config v (move config wants lines v q) x (λ v q. ⊤)) (world_on config w m y made (λ v q. Plays config wants lines v q made) h) next))
    h

pub player_more : (config : Config) (wants : List Want) (lines : List Action) (w : World) (p : Player) (made : List Made) (x : Made) → Plays config wants lines w p made
    → player_after config wants lines w p (made ++ x ∷ [])
    ≡ player_by (player_after config wants lines w p made) (move config wants lines (world_after config w (steps_of made)) (player_after config wants lines w p made))
player_more config wants lines w p [] x h = refl
player_more config wants lines w p (y ∷ made) x h =
    let m : Move = move config wants lines w p in
    let q : Player = player_after config wants lines (world_by config w m) (player_by p m) made in
    player_more config wants lines (world_by config w m) (player_by p m) made x (made_on config w p m y (λ v q. Plays config wants lines v q made) h)
    ∙ ap (λ (v : World). player_by q (move config wants lines v q)) (sym (world_on config w m y made (λ v q. Plays config wants lines v q made) h))

pub world_more : (config : Config) (w : World) (ss : List Step) (s : Step) → world_after config w (ss ++ s ∷ []) ≡ after config (world_after config w ss) s.event
world_more config w [] s = refl
world_more config w (x ∷ ss) s = world_more config (after config w x.event) ss s

-- ---- where a move leaves the player

-- A step leaves the count of notes, and a note adds one. No line comes again, the line that is noted neither, and none is behind the last.
abbrev pub Onward : List Action → Player → Move → Type 0
Onward lines p (moves.Makes e q) = (q.noted ≡ p.noted) × (p.line ≤ q.line) × (p.line ≤ length lines → q.line ≤ length lines)
Onward lines p (moves.Notes refused q) = (q.noted ≡ p.noted + 1) × (p.line < q.line) × (p.line ≤ length lines → q.line ≤ length lines)
Onward lines p (moves.Blocked name) = ⊤
Onward lines p moves.Over = ⊤

-- the same of the lines from this place, of which the last is before the end
abbrev Between : ℕ → ℕ → ℕ → Move → Type 0
Between noted at end (moves.Makes e q) = (q.noted ≡ noted) × (at < q.line) × (q.line ≤ end)
Between noted at end (moves.Notes refused q) = (q.noted ≡ noted + 1) × (at < q.line) × (q.line ≤ end)
Between noted at end (moves.Blocked name) = ⊤
Between noted at end moves.Over = ⊤

later_between : (noted at end : ℕ) (m : Move) → Between noted (at + 1) end m → Between noted at end m
later_between noted at end (moves.Makes e q) h = (h.0, omega (arith, h.1), h.2)
later_between noted at end (moves.Notes refused q) h = (h.0, omega (arith, h.1), h.2)
later_between noted at end (moves.Blocked name) h = tt
later_between noted at end moves.Over h = tt

first_between : (noted at end : ℕ) (start : Start) (rest : Move) → at < end → Between noted (at + 1) end rest → Between noted at end (first_of noted at start rest)
first_between noted at end (starts_as.Goes (goes.Makes e task)) rest lt h = (refl, omega arith, omega (arith, lt))
first_between noted at end (starts_as.Goes (goes.Blocked name)) rest lt h = tt
first_between noted at end (starts_as.Goes goes.Finished) rest lt h = later_between noted at end rest h
first_between noted at end (starts_as.Notes refused) rest lt h = (refl, omega arith, omega (arith, lt))

start_between : (config : Config) (w : World) (noted at end : ℕ) (lines : List Action) → at + length lines ≡ end → Between noted at end (start_at config w noted at lines)
start_between config w noted at end [] is = tt
start_between config w noted at end (line ∷ lines) is =
    first_between noted at end (starts config w line) (start_at config w noted (at + 1) lines) (omega (arith, is))
    (start_between config w noted (at + 1) end lines (omega (arith, is)))

between_onward : (lines : List Action) (p : Player) (end : ℕ) (m : Move) → (p.line ≤ length lines → end ≡ length lines) → Between p.noted p.line end m → Onward lines p m
between_onward lines p end (moves.Makes e q) is h = (h.0, omega (arith, h.1), λ le. omega (arith, h.2, is le))
between_onward lines p end (moves.Notes refused q) is h = (h.0, h.1, λ le. omega (arith, h.2, is le))
between_onward lines p end (moves.Blocked name) is h = tt
between_onward lines p end moves.Over is h = tt

go_onward : (config : Config) (w : World) (lines : List Action) (p : Player) (g : Go) → Onward lines p (move_on config w lines p g)
go_onward config w lines p (goes.Makes e task) = (refl, omega arith, λ le. le)
go_onward config w lines p (goes.Blocked name) = tt
go_onward config w lines p goes.Finished =
    between_onward lines p (p.line + length (drop p.line lines)) (start_at config w p.noted p.line (drop p.line lines)) (λ le. omega (arith, le, length-drop p.line lines))
    (start_between config w p.noted p.line (p.line + length (drop p.line lines)) (drop p.line lines) refl)

want_onward : (config : Config) (w : World) (lines : List Action) (p : Player) (o : Option Want) → Onward lines p (wanting config w lines p o)
want_onward config w lines p None = go_onward config w lines p (go_on config w lines p.line p.task)
want_onward config w lines p (Some m) = (refl, omega arith, λ le. le)

pub onward : (config : Config) (wants : List Want) (lines : List Action) (w : World) (p : Player) → Onward lines p (move config wants lines w p)
onward config wants lines w p = want_onward config w lines p (wanted w p.noted wants)

within_by : (lines : List Action) (p : Player) (m : Move) → Onward lines p m → p.line ≤ length lines → (player_by p m).line ≤ length lines
within_by lines p (moves.Makes e q) h le = h.2 le
within_by lines p (moves.Notes refused q) h le = h.2 le
within_by lines p (moves.Blocked name) h le = le
within_by lines p moves.Over h le = le

-- a player never stands behind the end of the lines
pub within_after : (config : Config) (wants : List Want) (lines : List Action) (w : World) (p : Player) (made : List Made) → p.line ≤ length lines
    → (player_after config wants lines w p made).line ≤ length lines
within_after config wants lines w p [] le = le
within_after config wants lines w p (x ∷ made) le =
    let m : Move = move config wants lines w p in
    within_after config wants lines (world_by config w m) (player_by p m) made (within_by lines p m (onward config wants lines w p) le)

-- ---- the count of notes

rises_by : (lines : List Action) (p : Player) (m : Move) → Onward lines p m → p.noted ≤ (player_by p m).noted
rises_by lines p (moves.Makes e q) h = omega (arith, h.0)
rises_by lines p (moves.Notes refused q) h = omega (arith, h.0)
rises_by lines p (moves.Blocked name) h = omega arith
rises_by lines p moves.Over h = omega arith

-- it never falls
pub noted_rises : (config : Config) (wants : List Want) (lines : List Action) (w : World) (p : Player) (made : List Made) → p.noted ≤ (player_after config wants lines w p made).noted
noted_rises config wants lines w p [] = omega arith
noted_rises config wants lines w p (x ∷ made) =
    let m : Move = move config wants lines w p in
    omega (arith, rises_by lines p m (onward config wants lines w p), noted_rises config wants lines (world_by config w m) (player_by p m) made)

noted_by : (config : Config) (lines : List Action) (w : World) (p : Player) (m : Move) (x : Made) (n : ℕ) (P : World → Player → Type 0) → Onward lines p m → IsMade config w m x P
    → (player_by p m).noted ≡ p.noted + length (notes_from n (x ∷ []))
noted_by config lines w p (moves.Makes e q) (Stepped s) n P on h = omega (arith, on.0)
noted_by config lines w p (moves.Makes e q) (Noted r) n P on h = absurd h
noted_by config lines w p (moves.Notes refused q) (Stepped s) n P on h = absurd h
noted_by config lines w p (moves.Notes refused q) (Noted r) n P on h = omega (arith, on.0)
noted_by config lines w p (moves.Blocked name) x n P on h = absurd h
noted_by config lines w p moves.Over x n P on h = absurd h

notes_apart : (n k : ℕ) (x : Made) (made : List Made) → ((i j : ℕ) → length (notes_from i made) ≡ length (notes_from j made))
    → length (notes_from n (x ∷ made)) ≡ length (notes_from n (x ∷ [])) + length (notes_from k made)
notes_apart n k (Stepped s) made same = omega (arith, same (n + 1) k)
notes_apart n k (Noted r) made same = omega (arith, same n k)

pub notes_anywhere : (made : List Made) (i j : ℕ) → length (notes_from i made) ≡ length (notes_from j made)
notes_anywhere made i j = omega (arith, made_from i made, made_from j made)

noted_from : (config : Config) (wants : List Want) (lines : List Action) (w : World) (p : Player) (n : ℕ) (made : List Made) → Plays config wants lines w p made
    → (player_after config wants lines w p made).noted ≡ p.noted + length (notes_from n made)
noted_from config wants lines w p n [] h = omega arith
noted_from config wants lines w p n (x ∷ made) h =
    let m : Move = move config wants lines w p in
    omega (
      arith,
      noted_by config lines w p m x n (λ v q. Plays config wants lines v q made) (onward config wants lines w p) h,
      notes_apart n n x made (notes_anywhere made),
      noted_from config wants lines (world_by config w m) (player_by p m) n made (made_on config w p m x (λ v q. Plays config wants lines v q made) h),
    )

-- a player has counted the notes that are made
pub noted_is : (config : Config) (wants : List Want) (lines : List Action) (w : World) (p : Player) (made : List Made) → Plays config wants lines w p made
    → (player_after config wants lines w p made).noted ≡ p.noted + length (notes_of made)
noted_is config wants lines w p made h = noted_from config wants lines w p 0 made h

-- ---- one more want, which has not come

find_skips : {A : Type 0} (p : A → Bool) (xs : List A) (x : A) → p x ≡ false → find p (xs ++ x ∷ []) ≡ find p xs
find_skips p [] x fails = rw fails refl
find_skips {A} p (y ∷ xs) x fails = ap (λ (o : Option A). cond (p y) (Some y) o) (find_skips p xs x fails)

late_by : (i j k n : ℕ) (b d : Bool) → nat_le i j ≡ b → j + n < i + k → (b && nat_le k n && d) ≡ false
late_by i j k n false d is lt = refl
late_by i j k n true d is lt = let late : nat_le k n ≡ false = grind (arith, nat_tests) in rw late refl

move_wanting : (config : Config) (wants : List Want) (lines : List Action) (w : World) (p : Player) (m : Want) → length w.past + p.noted < m.steps + m.notes
    → move config (wants ++ m ∷ []) lines w p ≡ move config wants lines w p
move_wanting config wants lines w p m lt =
    ap (λ (o : Option Want). wanting config w lines p o) (find_skips _ wants m (late_by m.steps (length w.past) m.notes p.noted (nat_le m.steps (length w.past)) _ refl lt))

one_by : (config : Config) (lines : List Action) (w : World) (p : Player) (m : Move) → Onward lines p m → length (world_by config w m).past + (player_by p m).noted ≤ length w.past + p.noted + 1
one_by config lines w p (moves.Makes e q) h = omega (arith, h.0, past_after config w e)
one_by config lines w p (moves.Notes refused q) h = omega (arith, h.0)
one_by config lines w p (moves.Blocked name) h = omega arith
one_by config lines w p moves.Over h = omega arith

-- With a want that comes no sooner than behind all this the same is played, and so the player stands there: it comes with the last of its steps and notes.
pub plays_wanting : (config : Config) (wants : List Want) (lines : List Action) (w : World) (p : Player) (m : Want) (made : List Made)
    → length w.past + p.noted + length made ≤ m.steps + m.notes → Plays config wants lines w p made → Plays config (wants ++ m ∷ []) lines w p made
plays_wanting config wants lines w p m [] le h = tt
plays_wanting config wants lines w p m (x ∷ made) le h =
    let v : Move = move config wants lines w p in
    subst (λ (u : Move). IsMade config w u x (λ v q. Plays config (wants ++ m ∷ []) lines v q made)) (sym (move_wanting config wants lines w p m (omega (arith, le))))
    (made_with config w p v x (λ v q. Plays config wants lines v q made) (λ v q. Plays config (wants ++ m ∷ []) lines v q made)
    (λ k. plays_wanting config wants lines (world_by config w v) (player_by p v) m made (omega (arith, le, one_by config lines w p v (onward config wants lines w p))) k) h)

pub player_wanting : (config : Config) (wants : List Want) (lines : List Action) (w : World) (p : Player) (m : Want) (made : List Made)
    → length w.past + p.noted + length made ≤ m.steps + m.notes → player_after config (wants ++ m ∷ []) lines w p made ≡ player_after config wants lines w p made
player_wanting config wants lines w p m [] le = refl
player_wanting config wants lines w p m (x ∷ made) le =
    let v : Move = move config wants lines w p in
    ap (λ (u : Move). player_after config (wants ++ m ∷ []) lines (world_by config w u) (player_by p u) made) (move_wanting config wants lines w p m (omega (arith, le)))
    ∙ player_wanting config wants lines (world_by config w v) (player_by p v) m made (omega (arith, le, one_by config lines w p v (onward config wants lines w p)))

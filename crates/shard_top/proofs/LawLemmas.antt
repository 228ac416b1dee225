-- A script plays one run, it is a run of the machine, and its notes stand in their places.
use Rattle.std.proofs.Common.{◌≡◌, ℕ, zero, suc, ◌+◌, ◌≤◌, ◌==◌, List, [], ◌∷◌, ◌++◌, Bool, true, false, cond, ◌&&◌, nat_le, Option, Some, None, is_some, length, refl, sym, subst, ◌∙◌, arith}
use Rattle.std.specs.Prelude.{◌<◌, All, IsTrue, nat_lt, unwrap_or}
use Rattle.shard_script.specs.Script.{Fits}
use Rattle.std.specs.List.{find}
use Rattle.std.specs.List.Sorted.{IsNonDecreasingBy}
use Rattle.std.proofs.lemmas.Bool.{false≢true}
use Rattle.std.proofs.lemmas.Bool.Decides.{nat_tests}
use Rattle.std.proofs.lemmas.List.Elements.{All-nil, All-cons}
use Rattle.shard_names.proofs.TabletLemmas.{both_right}
use Rattle.shard_calls.specs.World.{Config, World, opening, open_command}
use Rattle.shard_calls.specs.Table.{answer, after, world_after, IsStep, IsRun, IsRunFrom}
use Rattle.shard_calls.specs.declared.event.Step.{Step}
use Rattle.shard_calls.specs.declared.state.CommandState.{CommandState}
use Rattle.shard_script.specs.declared.script.Action.{Action}
use Rattle.shard_script.specs.declared.script.Script.{Script}
use Rattle.shard_calls.specs.declared.event.Note.{Note}
use Rattle.vtctld_text.specs.Notes.{action_text}
use Rattle.vtctld_text.specs.declared.note.RefusedAction.{RefusedAction}
use Rattle.planned.specs.Course.{leaves}
use Rattle.planned.specs.Follows.{Leaves, CourseIsMet, FollowCourses}
use Rattle.planned.specs.Laws.{BeginsInTime, NextIsMet}
use Rattle.planned.proofs.FollowLemmas.{course_is_met, leaving_keeps}
use Rattle.planned.proofs.ReachedLemmas.{next_is_met}
use Rattle.shard_top.specs.declared.player.Player.{Player}
use Rattle.shard_top.specs.declared.player.Move.{Move}
use Rattle.shard_top.specs.declared.player.Move.TheVariants as moves
use Rattle.shard_top.specs.declared.player.Stop.{Stop}
use Rattle.shard_top.specs.declared.player.Stop.TheVariants as stops
use Rattle.shard_top.specs.Played.{Want, wanted, wanting, move, Made, Stepped, Noted, steps_of, notes_from, notes_of, IsMade, Plays, world_by, player_by, player_after, first_player, stop_by, first_moment, config_of, IsRunOf}
use Rattle.shard_top.specs.Laws.{OneRun, PlayedIsRun, NotesInPlace}
use Rattle.shard_top.proofs.FairLemmas.{Fair, FairMove, plain_fair}
use Rattle.shard_top.proofs.LongerLemmas.{notes_anywhere, made_on, world_on, world_more}

-- ---- one run

-- from this player, behind n steps and j notes, this is played and then it stops
record EndsBy (config : Config) (wants : List Want) (lines : List Action) (w : World) (p : Player) (n j : ℕ) (made : List Made) (stop : Stop) : Type 0 where
  whole : ℕ
  count : whole ≡ n + length (steps_of made)
  few : whole ≤ 1000000
  noted : ℕ
  count_noted : noted ≡ j + length (notes_of made)
  few_noted : noted ≤ 1000000
  plays : Plays config wants lines w p made
  stopped : stop_by whole noted (move config wants lines (world_after config w (steps_of made)) (player_after config wants lines w p made)) ≡ Some stop

pub full_by_test : (n : ℕ) (stop : Stop) (b : Bool) → (n == 1000000) ≡ b → cond b (Some stops.Full) None ≡ Some stop → n ≡ 1000000
full_by_test n stop true full is = grind (arith, nat_tests)
full_by_test n stop false full is = absurd (let none : None ≡ Some stop = is in cc)

-- where more comes, only a full history stops, and it is one more of what it is full of
stops_full : (config : Config) (w : World) (n j : ℕ) (m : Move) (x : Made) (made : List Made) (P : World → Player → Type 0) (stop : Stop) → IsMade config w m x P → stop_by n j m ≡ Some stop
    → n + length (steps_of (x ∷ made)) ≤ 1000000 → j + length (notes_of (x ∷ made)) ≤ 1000000 → ⊥
stops_full config w n j (moves.Makes e q) (Stepped s) made P stop h is few noted =
    let full : n ≡ 1000000 = full_by_test n stop (n == 1000000) refl is in
    omega (arith, full, few)
stops_full config w n j (moves.Makes e q) (Noted r) made P stop h is few noted = h
stops_full config w n j (moves.Notes refused q) (Stepped s) made P stop h is few noted = h
stops_full config w n j (moves.Notes refused q) (Noted r) made P stop h is few noted =
    let full : j ≡ 1000000 = full_by_test j stop (j == 1000000) refl is in
    omega (arith, full, noted)
stops_full config w n j (moves.Blocked name) x made P stop h is few noted = h
stops_full config w n j moves.Over x made P stop h is few noted = h

same_made : (config : Config) (w : World) (m : Move) (x y : Made) (P Q : World → Player → Type 0) → IsMade config w m x P → IsMade config w m y Q → y ≡ x
same_made config w (moves.Makes e q) (Stepped s) (Stepped t) P Q h k = λ i. Stepped ((k.0 ∙ sym h.0) i)
same_made config w (moves.Makes e q) (Stepped s) (Noted r) P Q h k = absurd k
same_made config w (moves.Makes e q) (Noted r) y P Q h k = absurd h
same_made config w (moves.Notes refused q) (Stepped s) y P Q h k = absurd h
same_made config w (moves.Notes refused q) (Noted r) (Stepped t) P Q h k = absurd k
same_made config w (moves.Notes refused q) (Noted r) (Noted z) P Q h k = λ i. Noted ((k.0 ∙ sym h.0) i)
same_made config w (moves.Blocked name) x y P Q h k = absurd h
same_made config w moves.Over x y P Q h k = absurd h

count_on : (x : Made) (made : List Made) → length (steps_of (x ∷ made)) ≡ length (steps_of (x ∷ [])) + length (steps_of made)
count_on (Stepped s) made = omega arith
count_on (Noted r) made = omega arith

noted_on : (x : Made) (made : List Made) → length (notes_of (x ∷ made)) ≡ length (notes_of (x ∷ [])) + length (notes_of made)
noted_on (Stepped s) made = omega (arith, notes_anywhere made (0 + 1) 0)
noted_on (Noted r) made = omega arith

ends_on : (config : Config) (wants : List Want) (lines : List Action) (w : World) (p : Player) (n j : ℕ) (x : Made) (made : List Made) (stop : Stop) (m : Move)
    → move config wants lines w p ≡ m → EndsBy config wants lines w p n j (x ∷ made) stop
    → EndsBy config wants lines (world_by config w m) (player_by p m) (n + length (steps_of (x ∷ []))) (j + length (notes_of (x ∷ []))) made stop
ends_on config wants lines w p n j x made stop m is h =
    let there : Move = move config wants lines w p in
    let q : Player = player_after config wants lines (world_by config w there) (player_by p there) made in
    subst (λ (v : Move). EndsBy config wants lines (world_by config w v) (player_by p v) (n + length (steps_of (x ∷ []))) (j + length (notes_of (x ∷ []))) made stop) is (record {
      whole = h.whole;
      count = omega (arith, h.count, count_on x made);
      few = h.few;
      noted = h.noted;
      count_noted = omega (arith, h.count_noted, noted_on x made);
      few_noted = h.few_noted;
      plays = made_on config w p there x (λ v q. Plays config wants lines v q made) h.plays;
      stopped =
          subst (λ (v : World). stop_by h.whole h.noted (move config wants lines v q) ≡ Some stop) (world_on config w there x made (λ v q. Plays config wants lines v q made) h.plays) h.stopped;
    })

ends_once : (config : Config) (wants : List Want) (lines : List Action) (w : World) (p : Player) (n j : ℕ) (xs ys : List Made) (a b : Stop) → EndsBy config wants lines w p n j xs a
    → EndsBy config wants lines w p n j ys b → (xs ≡ ys) × (a ≡ b)
ends_once config wants lines w p n j [] [] a b h k =
    let same : h.whole ≡ k.whole = h.count ∙ sym k.count in
    let noted : h.noted ≡ k.noted = h.count_noted ∙ sym k.count_noted in
    let one : Some a ≡ Some b =
    sym h.stopped
    ∙ subst (λ (i : ℕ). stop_by i h.noted (move config wants lines w p) ≡ Some b) (sym same) (subst (λ (i : ℕ). stop_by k.whole i (move config wants lines w p) ≡ Some b) (sym noted) k.stopped) in
    (refl, let stop : a ≡ b = cc in stop)
ends_once config wants lines w p n j [] (y ∷ ys) a b h k =
    absurd (stops_full config w h.whole h.noted (move config wants lines w p) y ys (λ v q. Plays config wants lines v q ys) a k.plays h.stopped (omega (arith, h.count, k.count, k.few))
    (omega (arith, h.count_noted, k.count_noted, k.few_noted)))
ends_once config wants lines w p n j (x ∷ xs) [] a b h k =
    absurd (stops_full config w k.whole k.noted (move config wants lines w p) x xs (λ v q. Plays config wants lines v q xs) b h.plays k.stopped (omega (arith, k.count, h.count, h.few))
    (omega (arith, k.count_noted, h.count_noted, h.few_noted)))
ends_once config wants lines w p n j (x ∷ xs) (y ∷ ys) a b h k =
    let m : Move = move config wants lines w p in
    let same : y ≡ x = same_made config w m x y (λ v q. Plays config wants lines v q xs) (λ v q. Plays config wants lines v q ys) h.plays k.plays in
    let other : EndsBy config wants lines (world_by config w m) (player_by p m) (n + length (steps_of (x ∷ []))) (j + length (notes_of (x ∷ []))) ys b =
    subst (λ (z : Made). EndsBy config wants lines (world_by config w m) (player_by p m) (n + length (steps_of (z ∷ []))) (j + length (notes_of (z ∷ []))) ys b) same
    (ends_on config wants lines w p n j y ys b m refl k) in
    let r =
    ends_once config wants lines (world_by config w m) (player_by p m) (n + length (steps_of (x ∷ []))) (j + length (notes_of (x ∷ []))) xs ys a b
    (ends_on config wants lines w p n j x xs a m refl h) other in
    ((λ i. sym same i ∷ r.0 i), r.1)

ends_by : (s : Script) (wants : List Want) (made : List Made) (stop : Stop) → IsRunOf s wants made stop
    → EndsBy (config_of s) wants s.actions (opening (config_of s)) first_player 0 0 made stop
ends_by s wants made stop h = record {
  whole = length (steps_of made);
  count = omega arith;
  few = h.few;
  noted = length (notes_of made);
  count_noted = omega arith;
  few_noted = h.few_notes;
  plays = h.played;
  stopped = h.stopped;
}

pub one_run : OneRun
one_run s wants made others stop other h k =
    ends_once (config_of s) wants s.actions (opening (config_of s)) first_player 0 0 made others stop other (ends_by s wants made stop h) (ends_by s wants others other k)

-- ---- a run of the machine

found_by : {A : Type 0} (p : A → Bool) (y : A) (ys : List A) (x : A) (b : Bool) → p y ≡ b → cond b (Some y) (find p ys) ≡ Some x → (find p ys ≡ Some x → p x ≡ true) → p x ≡ true
found_by p y ys x true is h later = subst (λ v. p v ≡ true) (let same : y ≡ x = cc in same) is
found_by p y ys x false is h later = later h

pub found : {A : Type 0} (p : A → Bool) (xs : List A) (x : A) → find p xs ≡ Some x → p x ≡ true
found p [] x h = absurd (let none : None ≡ Some x = h in cc)
found p (y ∷ ys) x h = found_by p y ys x (p y) refl h (λ k. found p ys x k)

-- a command that is open leaves as its course allows
leaves_fair : (config : Config) (w : World) (c : ℕ) (o : Option CommandState) → open_command w c ≡ o → is_some o ≡ true → CourseIsMet config w → Fair config w (leaves w c)
leaves_fair config w c None is opened course = absurd (false≢true opened)
leaves_fair config w c (Some s) is opened course = record { met = course c (leaves w c) (Leaves s is refl); of_course = leaving_keeps config w c s is }

wanting_fair : (config : Config) (w : World) (lines : List Action) (p : Player) (o : Option Want) → ((m : Want) → o ≡ Some m → is_some (open_command w m.command) ≡ true) → NextIsMet config w
    → CourseIsMet config w → FairMove config w (wanting config w lines p o)
wanting_fair config w lines p None opened next course = plain_fair config w lines p next
wanting_fair config w lines p (Some m) opened next course = leaves_fair config w m.command (open_command w m.command) refl (opened m refl) course

pub want_opened : (w : World) (noted : ℕ) (wants : List Want) (m : Want) → wanted w noted wants ≡ Some m → is_some (open_command w m.command) ≡ true
want_opened w noted wants m is = both_right (nat_le m.steps (length w.past) && nat_le m.notes noted) (is_some (open_command w m.command)) (found _ wants m is)

move_fair : (config : Config) (wants : List Want) (lines : List Action) (w : World) (p : Player) → NextIsMet config w → CourseIsMet config w → FairMove config w (move config wants lines w p)
move_fair config wants lines w p next course = wanting_fair config w lines p (wanted w p.noted wants) (λ m is. want_opened w p.noted wants m is) next course

step_fair : (config : Config) (w : World) (m : Move) (s : Step) (P : World → Player → Type 0) (R : Type 0) → FairMove config w m → IsMade config w m (Stepped s) P
    → ((q : Player) → P (after config w s.event) q → Fair config w s.event → s.reply ≡ answer config w s.event → R) → R
step_fair config w (moves.Makes e q) s P R fair h f =
    f q (subst (λ (v : Step). P (after config w v.event) q) (sym h.0) h.1) (subst (λ (v : Step). Fair config w v.event) (sym h.0) fair)
    (subst (λ (v : Step). v.reply ≡ answer config w v.event) (sym h.0) refl)
step_fair config w (moves.Notes refused q) s P R fair h f = absurd h
step_fair config w (moves.Blocked name) s P R fair h f = absurd h
step_fair config w moves.Over s P R fair h f = absurd h

-- a note leaves the world as it is
note_on : (config : Config) (w : World) (m : Move) (p : Player) (r : RefusedAction) (P : World → Player → Type 0) → IsMade config w m (Noted r) P → P w (player_by p m)
note_on config w (moves.Makes e q) p r P h = absurd h
note_on config w (moves.Notes refused q) p r P h = h.1
note_on config w (moves.Blocked name) p r P h = absurd h
note_on config w moves.Over p r P h = absurd h

pub run_more : (config : Config) (w : World) (ss : List Step) (s : Step) → IsRunFrom config w ss → IsStep config (world_after config w ss) s → IsRunFrom config w (ss ++ s ∷ [])
run_more config w [] s run step = (step, tt)
run_more config w (x ∷ ss) s run step = (run.0, run_more config (after config w x.event) ss s run.1 step)

-- these steps are a run from this world, in which commands keep to their courses
abbrev Keep : Config → World → List Step → Type 0
Keep config w ss = IsRunFrom config w ss × FollowCourses config w ss

-- behind these steps, which are a run
keeps_from : (config : Config) (wants : List Want) (lines : List Action) (done : List Step) (p : Player) (made : List Made) → BeginsInTime config → IsRun config done
    → Plays config wants lines (world_after config (opening config) done) p made → Keep config (world_after config (opening config) done) (steps_of made)
keeps_from config wants lines done p [] time run h = (tt, tt)
keeps_from config wants lines done p (Noted r ∷ made) time run h =
    let w : World = world_after config (opening config) done in
    let m : Move = move config wants lines w p in
    keeps_from config wants lines done (player_by p m) made time run (note_on config w m p r (λ v q. Plays config wants lines v q made) h)
keeps_from config wants lines done p (Stepped s ∷ made) time run h =
    let w : World = world_after config (opening config) done in
    step_fair config w (move config wants lines w p) s (λ v q. Plays config wants lines v q made) (Keep config w (s ∷ steps_of made))
    (move_fair config wants lines w p (next_is_met config done time run) (course_is_met config done time run)) h
    (λ q k fair answered.
    let step : IsStep config w s = record { met = fair.met; answered = answered } in
    let next : after config w s.event ≡ world_after config (opening config) (done ++ s ∷ []) = sym (world_more config (opening config) done s) in
    let r = keeps_from config wants lines (done ++ s ∷ []) q made time (run_more config (opening config) done s run step)
    (subst (λ (v : World). Plays config wants lines v q made) next k) in
    let back : Keep config (after config w s.event) (steps_of made) = subst (λ (v : World). Keep config v (steps_of made)) (sym next) r in
    ((step, back.0), (fair.of_course, back.1)))

pub begins_in_time : (s : Script) → Fits s → BeginsInTime (config_of s)
unfolding first_moment
begins_in_time s h = by_clock s.clock refl
  where
    by_clock : (o : Option ℕ) → s.clock ≡ o → IsTrue (nat_lt (unwrap_or o 1704067200000) 253370764800000)
    by_clock None is = refl
    by_clock (Some m) is = let less : m < 221876928000000 = h.clock m is in grind (arith, nat_tests)

pub played_is_run : PlayedIsRun
played_is_run s wants made fits h = keeps_from (config_of s) wants s.actions [] first_player made (begins_in_time s fits) tt h

-- ---- notes in their places

-- none stands before n, nor behind so many steps more
abbrev Stand : ℕ → ℕ → Note → Type 0
Stand n more x = (n ≤ x.place) × (x.place ≤ n + more)

all_with : (P Q : Note → Type 0) (notes : List Note) → ((x : Note) → P x → Q x) → All P notes → All Q notes
all_with P Q notes f h k d lt = f _ (h k d lt)

stand_from : (n : ℕ) (made : List Made) → All (Stand n (length (steps_of made))) (notes_from n made)
stand_from n [] = All-nil (Stand n 0)
stand_from n (Stepped s ∷ made) =
    all_with (Stand (n + 1) (length (steps_of made))) (Stand n (length (s ∷ steps_of made))) (notes_from (n + 1) made) (λ x h. (omega (arith, h.0), omega (arith, h.1))) (stand_from (n + 1) made)
stand_from n (Noted r ∷ made) =
    All-cons (Stand n (length (steps_of made))) (record { place = n; line = action_text r }) (notes_from n made) (omega arith, omega arith) (stand_from n made)

never_fall_with : (x : Note) (notes : List Note) → All (λ y. x.place ≤ y.place) notes → IsNonDecreasingBy (λ y. y.place) notes → IsNonDecreasingBy (λ y. y.place) (x ∷ notes)
never_fall_with x notes low h zero zero d le lt = omega arith
never_fall_with x notes low h zero (suc j) d le lt = low j d (omega (arith, lt))
never_fall_with x notes low h (suc i) zero d le lt = absurd (let fails : ⊥ = omega (arith, le) in fails)
never_fall_with x notes low h (suc i) (suc j) d le lt = h i j d (omega (arith, le)) (omega (arith, lt))

never_fall_none : IsNonDecreasingBy {X = Note} (λ y. y.place) []
never_fall_none i j d le lt = absurd (let fails : ⊥ = omega (arith, lt) in fails)

never_fall_from : (n : ℕ) (made : List Made) → IsNonDecreasingBy (λ x. x.place) (notes_from n made)
never_fall_from n [] = never_fall_none
never_fall_from n (Stepped s ∷ made) = never_fall_from (n + 1) made
never_fall_from n (Noted r ∷ made) =
    never_fall_with (record { place = n; line = action_text r }) (notes_from n made)
    (all_with (Stand n (length (steps_of made))) (λ y. n ≤ y.place) (notes_from n made) (λ y h. h.0) (stand_from n made)) (never_fall_from n made)

pub notes_in_place : NotesInPlace
notes_in_place made = record {
  never_fall = never_fall_from 0 made;
  within = all_with (Stand 0 (length (steps_of made))) (λ x. x.place ≤ length (steps_of made)) (notes_of made) (λ x h. omega (arith, h.1)) (stand_from 0 made);
}

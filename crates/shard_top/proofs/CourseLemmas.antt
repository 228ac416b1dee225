-- A command that leaves its course, for want of memory, does nothing more than free the lock and end.
use Rattle.std.proofs.Common.{◌≡◌, inl, inr, ℕ, ◌≤◌, ◌==◌, List, [], ◌∷◌, ◌++◌, Bool, true, false, not, cond, ◌&&◌, Option, Some, None, is_some, option_map, length, refl, ap, sym, subst, ◌∙◌, arith}
use Rattle.std.proofs.lemmas.Bool.{false≢true}
use Rattle.std.proofs.lemmas.Bool.Decides.{nat_tests}
use Rattle.shard_calls.proofs.ListLemmas.{numbered_changed, numbered_other}
use Rattle.shard_calls.specs.World.{Config, World, opening, numbered, if_open, open_command, term_of, term_in}
use Rattle.shard_calls.specs.Begins.{ends_by}
use Rattle.shard_calls.specs.Locks.{by_term, as_released, releases_in}
use Rattle.shard_calls.specs.Table.{after, world_after, IsRun, IsRunFrom, IsStep}
use Rattle.shard_calls.specs.declared.event.Event.{Event}
use Rattle.shard_calls.specs.declared.event.Event.TheVariants as events
use Rattle.shard_calls.specs.declared.event.Step.{Step}
use Rattle.shard_calls.specs.declared.state.CommandState.{CommandState}
use Rattle.shard_script.specs.declared.script.Action.{Action}
use Rattle.shard_script.specs.declared.script.Script.{Script}
use Rattle.shard_script.specs.Script.{Fits}
use Rattle.planned.specs.Course.{leaves, leaves_by}
use Rattle.planned.specs.Follows.{maker_of, FollowCourses}
use Rattle.planned.specs.Laws.{BeginsInTime, NextIsMet}
use Rattle.planned.specs.Leaving.{owes_release}
use Rattle.planned.proofs.FollowLemmas.{leaving_is_own}
use Rattle.planned.proofs.ReachedLemmas.{next_is_met}
use Rattle.shard_top.specs.Courses.{IsOutside, MakesNone, OnlyEnds, LeavesBy, LeaveForGood, KeepCourses, out_of_memory}
use Rattle.shard_top.specs.declared.player.Player.{Player}
use Rattle.shard_top.specs.declared.player.Move.{Move}
use Rattle.shard_top.specs.declared.player.Move.TheVariants as moves
use Rattle.shard_top.specs.declared.player.Stop.{Stop}
use Rattle.shard_top.specs.Played.{Want, wanted, wanting, move, plain_move, Made, Stepped, Noted, steps_of, notes_of, IsMade, Plays, first_player, stop_by, config_of, IsRunOf}
use Rattle.shard_top.specs.Playing.{is_ended}
use Rattle.shard_top.proofs.EndedLemmas.{ended_after}
use Rattle.shard_top.proofs.FairLemmas.{InCourse, PlainMove, plain_goes}
use Rattle.shard_top.proofs.FreedLemmas.{end_free}
use Rattle.shard_top.proofs.LawLemmas.{full_by_test, begins_in_time, played_is_run, run_more, want_opened}
use Rattle.shard_top.proofs.LeavingLemmas.{course_open}
use Rattle.shard_top.proofs.LongerLemmas.{past_after, world_more}
use Rattle.shard_top.proofs.OwnLemmas.{runs_if_open, open_if_runs}
use Rattle.shard_top.proofs.WantLemmas.{Stops, next_stops, event_made, no_note, some_of, wanted_later}

-- ---- a command that has ended makes nothing

ended_closed : (o : Option CommandState) → is_ended o ≡ true → is_some (if_open o) ≡ true → ⊥
ended_closed None ended opened = false≢true ended
ended_closed (Some s) ended opened = false≢true (ap (λ (b : Bool). is_some (cond (not b) (Some s) None)) (sym ended) ∙ opened)

ended_on : (config : Config) (w : World) (e : Event) (c : ℕ) → is_ended (numbered w.commands c) ≡ true → is_ended (numbered (after config w e).commands c) ≡ true
ended_on config w e c h = (ended_after config w e (record { command = c; steps = 0; notes = 0 } ∷ []) (h, tt)).0

makes_none : (config : Config) (w : World) (c : ℕ) (steps : List Step) → FollowCourses config w steps → is_ended (numbered w.commands c) ≡ true → MakesNone c steps
makes_none config w c [] follow ended = tt
makes_none config w c (s ∷ steps) follow ended = (
  (λ made. ended_closed (numbered w.commands c) ended (course_open config w c s.event (follow.0 c made))),
  makes_none config (after config w s.event) c steps follow.1 (ended_on config w s.event c ended),
)

ends_here : (config : Config) (w : World) (c : ℕ) (s : CommandState) → open_command w c ≡ Some s → is_ended (numbered (after config w (out_of_memory c)).commands c) ≡ true
ends_here config w c s opened =
    ap (λ (o : Option CommandState). is_ended (numbered (ends_by w c o).commands c)) opened
    ∙ ap (λ (o : Option CommandState). is_ended o) (numbered_changed w.commands c (λ (x : CommandState). record x { ended = true }))
    ∙ ap (λ (o : Option CommandState). is_ended (option_map (λ (x : CommandState). record x { ended = true }) o)) (runs_if_open (numbered w.commands c) s opened).0

-- ---- how a command leaves

abbrev leaving_by : Bool → ℕ → Event
leaving_by owes c = cond owes (events.Release c) (out_of_memory c)

leaves_is : (w : World) (c : ℕ) (s : CommandState) (b : Bool) → open_command w c ≡ Some s → owes_release s ≡ b → leaves w c ≡ leaving_by b c
leaves_is w c s b opened owes = ap (λ (o : Option CommandState). leaves_by c o) opened ∙ ap (λ (v : Bool). leaving_by v c) owes

term_held : (o : Option ℕ) → is_some o ≡ true → (t : ℕ) × (o ≡ Some t)
term_held None h = absurd (false≢true h)
term_held (Some t) h = (t, refl)

left_part : (a b : Bool) → (a && b) ≡ true → a ≡ true
left_part true b h = refl
left_part false b h = h

-- behind its Release it stands as before, and has freed the lock
released_here : (config : Config) (w : World) (c : ℕ) (s : CommandState) → open_command w c ≡ Some s → owes_release s ≡ true
    → numbered (after config w (events.Release c)).commands c ≡ Some (as_released s)
released_here config w c s opened owes =
    let t = term_held s.term (left_part (is_some s.term) (not s.released) owes) in
    let term : term_of w c ≡ Some t.0 = ap (λ (o : Option CommandState). term_in o) opened ∙ t.1 in
    ap (λ (o : Option ℕ). numbered (by_term o w (releases_in w c)).commands c) term
    ∙ numbered_changed w.commands c as_released
    ∙ ap (λ (o : Option CommandState). option_map as_released o) (runs_if_open (numbered w.commands c) s opened).0

released_other : (w : World) (d c : ℕ) (o : Option ℕ) → (d == c) ≡ false → numbered (by_term o w (releases_in w d)).commands c ≡ numbered w.commands c
released_other w d c None apart = refl
released_other w d c (Some t) apart = numbered_other w.commands d c as_released apart

ended_other : (w : World) (d c : ℕ) (o : Option CommandState) → (d == c) ≡ false → numbered (ends_by w d o).commands c ≡ numbered w.commands c
ended_other w d c None apart = refl
ended_other w d c (Some s) apart = numbered_other w.commands d c (λ (x : CommandState). record x { ended = true }) apart

-- who leaves changes no other command
other_stays : (config : Config) (w : World) (d c : ℕ) → (d == c) ≡ false → numbered (after config w (leaves w d)).commands c ≡ numbered w.commands c
other_stays config w d c apart = of_state (open_command w d) refl
  where
    of_test : (b : Bool) → numbered (after config w (leaving_by b d)).commands c ≡ numbered w.commands c
    of_test true = released_other w d c (term_of w d) apart
    of_test false = ended_other w d c (open_command w d) apart

    of_state : (o : Option CommandState) → open_command w d ≡ o → numbered (after config w (leaves_by d o)).commands c ≡ numbered w.commands c
    of_state None is = of_test false
    of_state (Some s) is = of_test (owes_release s)

one_maker : (c d : ℕ) → ◌≡◌ {A = Option ℕ} (Some c) (Some d) → c ≡ d
one_maker c d h = cc

-- ---- behind its Release

released_frees : (s : CommandState) → s.released ≡ true → owes_release s ≡ false
released_frees s h = ap (λ (b : Bool). is_some s.term && not b) h ∙ and_false (is_some s.term)
  where
    and_false : (b : Bool) → (b && false) ≡ false
    and_false true = refl
    and_false false = refl

-- its want comes as long as it is open
abbrev IsDue : List Want → ℕ → World → ℕ → Type 0
IsDue wants noted w c = (v : World) → length w.past ≤ length v.past → is_some (open_command v c) ≡ true → is_some (wanted v noted wants) ≡ true

due_on : (config : Config) (wants : List Want) (noted : ℕ) (w : World) (e : Event) (c : ℕ) → IsDue wants noted w c → IsDue wants noted (after config w e) c
due_on config wants noted w e c due v more opened = let one = past_after config w e in due v (omega (arith, one, more)) opened

only_ends : (config : Config) (wants : List Want) (lines : List Action) (n j : ℕ) (stop : Stop) (made : List Made) (w : World) (p : Player) (c : ℕ) (s : CommandState) → IsDue wants p.noted w c
    → open_command w c ≡ Some s → s.released ≡ true → Plays config wants lines w p made → FollowCourses config w (steps_of made) → Stops config wants lines n j stop w p made
    → OnlyEnds c (n ≡ 1000000) (steps_of made)
only_ends config wants lines n j stop [] w p c s due opened released h follow stopped =
    let come = some_of (wanted w p.noted wants) (due w (omega arith) (ap (λ (o : Option CommandState). is_some o) opened)) in
    let moved : move config wants lines w p ≡ moves.Makes (leaves w come.0.command) p = ap (λ (o : Option Want). wanting config w lines p o) come.1 in
    full_by_test n stop (n == 1000000) refl (subst (λ (v : Move). stop_by n j v ≡ Some stop) moved stopped)
only_ends config wants lines n j stop (Noted r ∷ made) w p c s due opened released h follow stopped =
    let come = some_of (wanted w p.noted wants) (due w (omega arith) (ap (λ (o : Option CommandState). is_some o) opened)) in
    let moved : move config wants lines w p ≡ moves.Makes (leaves w come.0.command) p = ap (λ (o : Option Want). wanting config w lines p o) come.1 in
    absurd (no_note config w (move config wants lines w p) (leaves w come.0.command) p r (λ v q. Plays config wants lines v q made) moved h)
only_ends config wants lines n j stop (Stepped t ∷ made) w p c s due opened released h follow stopped =
    of_test (d == c) refl (λ u soon now plays keeps stops. only_ends config wants lines n j stop made u p c s soon now released plays keeps stops)
  where
    come : (m : Want) × (wanted w p.noted wants ≡ Some m)
    come = some_of (wanted w p.noted wants) (due w (omega arith) (ap (λ (o : Option CommandState). is_some o) opened))

    d : ℕ
    d = come.0.command

    moved : move config wants lines w p ≡ moves.Makes (leaves w d) p
    moved = ap (λ (o : Option Want). wanting config w lines p o) come.1

    event : t.event ≡ leaves w d
    event = event_made config w (move config wants lines w p) (leaves w d) p t (λ v q. Plays config wants lines v q made) moved h

    rest : Plays config wants lines (after config w (leaves w d)) p made × Stops config wants lines n j stop (after config w (leaves w d)) p made
    rest = next_stops config wants lines w p n j stop (Stepped t) made (moves.Makes (leaves w d) p) moved h stopped

    then : FollowCourses config (after config w (leaves w d)) (steps_of made)
    then = subst (λ (v : Event). FollowCourses config (after config w v) (steps_of made)) event follow.1

    of_test : (b : Bool) → (d == c) ≡ b
        → ((u : World) → IsDue wants p.noted u c → open_command u c ≡ Some s → Plays config wants lines u p made → FollowCourses config u (steps_of made)
        → Stops config wants lines n j stop u p made → OnlyEnds c (n ≡ 1000000) (steps_of made))
        → OnlyEnds c (n ≡ 1000000) (steps_of (Stepped t ∷ made))
    of_test true same on =
        let one : d ≡ c = grind (arith, nat_tests) in
        let ends : leaves w d ≡ out_of_memory c = ap (λ (k : ℕ). leaves w k) one ∙ leaves_is w c s false opened (released_frees s released) in
        inl (
          event ∙ ends,
          makes_none config (after config w (leaves w d)) c (steps_of made) then
              (subst (λ (v : Event). is_ended (numbered (after config w v).commands c) ≡ true) (sym ends) (ends_here config w c s opened)),
        )
    of_test false apart on =
        let stays : numbered (after config w (leaves w d)).commands c ≡ numbered w.commands c = other_stays config w d c apart in
        let now : open_command (after config w (leaves w d)) c ≡ Some s = ap (λ (o : Option CommandState). if_open o) stays ∙ opened in
        inr (
          (λ made_by.
              let same : d ≡ c = one_maker d c (sym (leaving_is_own w d) ∙ ap (λ (v : Event). maker_of v) (sym event) ∙ made_by) in
              let test : (d == c) ≡ true = grind (arith, nat_tests) in
              false≢true (sym apart ∙ test)),
          on (after config w (leaves w d)) (due_on config wants p.noted w (leaves w d) c due) now rest.0 then rest.1,
        )

-- ---- from the event by which it leaves

leaves_by_it : (config : Config) (wants : List Want) (lines : List Action) (n j : ℕ) (stop : Stop) (made : List Made) (w : World) (p : Player) (m : Want) → wanted w p.noted wants ≡ Some m
    → Plays config wants lines (after config w (leaves w m.command)) p made → FollowCourses config (after config w (leaves w m.command)) (steps_of made)
    → Stops config wants lines n j stop (after config w (leaves w m.command)) p made → LeavesBy m.command (n ≡ 1000000) (leaves w m.command) (steps_of made)
leaves_by_it config wants lines n j stop made w p m is plays follow stopped =
    let s = some_of (open_command w m.command) (want_opened w p.noted wants m is) in of_test s.0 s.1 (owes_release s.0) refl
  where
    c : ℕ
    c = m.command

    due : IsDue wants p.noted (after config w (leaves w c)) c
    due v more opened = let one = past_after config w (leaves w c) in wanted_later w v p.noted wants m is (omega (arith, one, more)) opened

    of_test : (s : CommandState) → open_command w c ≡ Some s → (b : Bool) → owes_release s ≡ b → LeavesBy c (n ≡ 1000000) (leaves w c) (steps_of made)
    of_test s opened true owes =
        let by : leaves w c ≡ events.Release c = leaves_is w c s true opened owes in
        let here : numbered (after config w (leaves w c)).commands c ≡ Some (as_released s) =
        subst (λ (v : Event). numbered (after config w v).commands c ≡ Some (as_released s)) (sym by) (released_here config w c s opened owes) in
        let runs : s.ended ≡ false = (runs_if_open (numbered w.commands c) s opened).1 in
        let now : open_command (after config w (leaves w c)) c ≡ Some (as_released s) = open_if_runs (numbered (after config w (leaves w c)).commands c) (as_released s) here runs in
        inr (by, only_ends config wants lines n j stop made (after config w (leaves w c)) p c (as_released s) due now refl plays follow stopped)
    of_test s opened false owes =
        let by : leaves w c ≡ out_of_memory c = leaves_is w c s false opened owes in
        inl (
          by,
          makes_none config (after config w (leaves w c)) c (steps_of made) follow
              (subst (λ (v : Event). is_ended (numbered (after config w v).commands c) ≡ true) (sym by) (ends_here config w c s opened)),
        )

plain_event : (config : Config) (w : World) (m : Move) (s : Step) (P : World → Player → Type 0) → PlainMove config w m → IsMade config w m (Stepped s) P → InCourse config w s.event
plain_event config w (moves.Makes e q) s P h made = subst (λ (t : Step). InCourse config w t.event) (sym made.0) h.in_course
plain_event config w (moves.Notes refused q) s P h made = absurd made
plain_event config w (moves.Blocked name) s P h made = absurd made
plain_event config w moves.Over s P h made = absurd made

step_leaves : (config : Config) (wants : List Want) (lines : List Action) (n j : ℕ) (stop : Stop) (made : List Made) (w : World) (p : Player) (t : Step) (o : Option Want)
    → wanted w p.noted wants ≡ o → NextIsMet config w → Plays config wants lines w p (Stepped t ∷ made) → FollowCourses config w (t ∷ steps_of made)
    → Stops config wants lines n j stop w p (Stepped t ∷ made) → (c : ℕ) → maker_of t.event ≡ Some c → IsOutside config w c t.event → LeavesBy c (n ≡ 1000000) t.event (steps_of made)
step_leaves config wants lines n j stop made w p t None is met h follow stopped c made_by outside =
    let moved : move config wants lines w p ≡ plain_move config w lines p = ap (λ (o : Option Want). wanting config w lines p o) is in
    let plain : PlainMove config w (move config wants lines w p) = subst (λ (v : Move). PlainMove config w v) (sym moved) (plain_goes config w lines p met) in
    absurd (outside 0 (plain_event config w (move config wants lines w p) t (λ v q. Plays config wants lines v q made) plain h c made_by))
step_leaves config wants lines n j stop made w p t (Some m) is met h follow stopped c made_by outside =
    let moved : move config wants lines w p ≡ moves.Makes (leaves w m.command) p = ap (λ (o : Option Want). wanting config w lines p o) is in
    let event : t.event ≡ leaves w m.command = event_made config w (move config wants lines w p) (leaves w m.command) p t (λ v q. Plays config wants lines v q made) moved h in
    let rest = next_stops config wants lines w p n j stop (Stepped t) made (moves.Makes (leaves w m.command) p) moved h stopped in
    let then = subst (λ (v : Event). FollowCourses config (after config w v) (steps_of made)) event follow.1 in
    let same : m.command ≡ c = one_maker m.command c (sym (leaving_is_own w m.command) ∙ ap (λ (v : Event). maker_of v) (sym event) ∙ made_by) in
    subst (λ (k : ℕ). LeavesBy k (n ≡ 1000000) t.event (steps_of made)) same
    (subst (λ (v : Event). LeavesBy m.command (n ≡ 1000000) v (steps_of made)) (sym event)
    (leaves_by_it config wants lines n j stop made w p m is rest.0 then rest.1))

-- ---- along what is played

leave_from : (config : Config) (wants : List Want) (lines : List Action) (n j : ℕ) (stop : Stop) (done : List Step) (made : List Made) (w : World) (p : Player) → BeginsInTime config
    → w ≡ world_after config (opening config) done → IsRun config done → IsRunFrom config w (steps_of made) → FollowCourses config w (steps_of made) → Plays config wants lines w p made
    → Stops config wants lines n j stop w p made → LeaveForGood config w (n ≡ 1000000) (steps_of made)
leave_from config wants lines n j stop done [] w p time is run runs follow h stopped = tt
leave_from config wants lines n j stop done (Noted r ∷ made) w p time is run runs follow h stopped =
    by_note (move config wants lines w p) refl (λ q plays stops. leave_from config wants lines n j stop done made w q time is run runs follow plays stops)
  where
    by_note : (m : Move) → move config wants lines w p ≡ m
        → ((q : Player) → Plays config wants lines w q made → Stops config wants lines n j stop w q made → LeaveForGood config w (n ≡ 1000000) (steps_of made))
        → LeaveForGood config w (n ≡ 1000000) (steps_of made)
    by_note (moves.Notes refused q) moved on =
        let rest = next_stops config wants lines w p n j stop (Noted r) made (moves.Notes refused q) moved h stopped in
        on q rest.0 rest.1
    by_note (moves.Makes e q) moved on = absurd (no_note config w (move config wants lines w p) e q r (λ v y. Plays config wants lines v y made) moved h)
    by_note (moves.Blocked name) moved on = absurd (subst (λ (m : Move). IsMade config w m (Noted r) (λ v y. Plays config wants lines v y made)) moved h)
    by_note moves.Over moved on = absurd (subst (λ (m : Move). IsMade config w m (Noted r) (λ v y. Plays config wants lines v y made)) moved h)
leave_from config wants lines n j stop done (Stepped t ∷ made) w p time is run runs follow h stopped = (
  step_leaves config wants lines n j stop made w p t (wanted w p.noted wants) refl (subst (λ (v : World). NextIsMet config v) (sym is) (next_is_met config done time run)) h follow stopped,
  by_step (move config wants lines w p) refl
      (λ q plays stops. leave_from config wants lines n j stop (done ++ t ∷ []) made (after config w t.event) q time next longer runs.1 follow.1 plays stops),
)
  where
    next : after config w t.event ≡ world_after config (opening config) (done ++ t ∷ [])
    next = ap (λ (v : World). after config v t.event) is ∙ sym (world_more config (opening config) done t)

    longer : IsRun config (done ++ t ∷ [])
    longer = run_more config (opening config) done t run (subst (λ (v : World). IsStep config v t) is runs.0)

    by_step : (m : Move) → move config wants lines w p ≡ m
        → ((q : Player) → Plays config wants lines (after config w t.event) q made → Stops config wants lines n j stop (after config w t.event) q made
        → LeaveForGood config (after config w t.event) (n ≡ 1000000) (steps_of made))
        → LeaveForGood config (after config w t.event) (n ≡ 1000000) (steps_of made)
    by_step (moves.Makes e q) moved on =
        let rest = next_stops config wants lines w p n j stop (Stepped t) made (moves.Makes e q) moved h stopped in
        let event : t.event ≡ e = event_made config w (move config wants lines w p) e q t (λ v y. Plays config wants lines v y made) moved h in
        on q
        (subst (λ (v : Event). Plays config wants lines (after config w v) q made) (sym event) rest.0)
        (subst (λ (v : Event). Stops config wants lines n j stop (after config w v) q made) (sym event) rest.1)
    by_step (moves.Notes refused q) moved on = absurd (subst (λ (m : Move). IsMade config w m (Stepped t) (λ v y. Plays config wants lines v y made)) moved h)
    by_step (moves.Blocked name) moved on = absurd (subst (λ (m : Move). IsMade config w m (Stepped t) (λ v y. Plays config wants lines v y made)) moved h)
    by_step moves.Over moved on = absurd (subst (λ (m : Move). IsMade config w m (Stepped t) (λ v y. Plays config wants lines v y made)) moved h)

-- the commands of a played script keep to their courses
pub keep_courses : (s : Script) (wants : List Want) (made : List Made) (stop : Stop) → Fits s → IsRunOf s wants made stop → KeepCourses (config_of s) (steps_of made)
keep_courses s wants made stop fits run =
    let config : Config = config_of s in
    let is_run = played_is_run s wants made fits run.played in
    record {
      follow = is_run.1;
      end_free = end_free config (opening config) (steps_of made) is_run.1;
      leave_for_good =
          leave_from config wants s.actions (length (steps_of made)) (length (notes_of made)) stop [] made (opening config) first_player (begins_in_time s fits) refl tt is_run.0 is_run.1 run.played run.stopped;
    }

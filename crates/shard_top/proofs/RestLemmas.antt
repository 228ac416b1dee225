-- What is played goes on to a stop.
use Rattle.std.proofs.Common.{◌≡◌, ℕ, zero, suc, ◌+◌, ◌-◌, ◌<◌, ◌≤◌, ◌==◌, List, [], ◌∷◌, ◌++◌, Bool, true, false, cond, Option, Some, None, Result, Ok, Err, IfOk, OnErr, length, refl, ap, sym, subst, ◌∙◌, arith}
use Rattle.std.specs.Bool.{⊤}
use Rattle.std.proofs.lemmas.Bool.Decides.{nat_tests}
use Rattle.std.proofs.lemmas.List.{append_assoc, append-nil, length-append}
use Rattle.shard_base.specs.declared.memory.OutOfMemory.{OutOfMemory}
use Rattle.shard_calls.specs.World.{Config, opening}
use Rattle.shard_calls.specs.Table.{step_of, world_after}
use Rattle.shard_core.specs.Kept.{Kept}
use Rattle.shard_calls.specs.declared.event.Step.{Step}
use Rattle.shard_script.specs.declared.script.Script.{Script}
use Rattle.shard_calls.specs.declared.event.Note.{Note}
use Rattle.vtctld_text.specs.declared.note.RefusedAction.{RefusedAction}
use Rattle.shard_top.specs.declared.player.Player.{Player}
use Rattle.shard_top.specs.declared.player.Move.{Move}
use Rattle.shard_top.specs.declared.player.Move.TheVariants as moves
use Rattle.shard_top.specs.declared.player.Stop.{Stop}
use Rattle.shard_top.specs.declared.player.Stop.TheVariants as stops
use Rattle.shard_top.specs.Played.{Want, Made, Stepped, Noted, steps_of, notes_of, IsMade, player_by, player_after, move, first_player, stop_by, config_of, IsPlayed, world_played, move_after, IsRunOf, IsOfNone}
use Rattle.shard_top.specs.Playing.{IsStopped, IsCut, HasRun, WasCutOff}
use Rattle.shard_top.specs.Laws.{PlaysToStop}
use Rattle.vtctld_text.specs.Notes.{action_text}
use Rattle.shard_top.proofs.LongerLemmas.{steps_stepped, notes_stepped, steps_noted, notes_noted, plays_more, player_more, Onward, onward, within_after}

-- ---- a script's run, from that of its lines

with_config : (k : Kept) (config : Config) → k.config ≡ config → k ≡ record { config = config; steps = k.steps; notes = k.notes }
with_config k config is = λ i. record { config = is i; steps = k.steps; notes = k.notes }

run_of : (s : Script) (k : Kept) (stop : Stop) → k.config ≡ config_of s → IsStopped s.actions k stop → HasRun s k.steps k.notes stop
run_of s k stop is h =
    let r : IsStopped s.actions (record { config = config_of s; steps = k.steps; notes = k.notes }) stop = subst (λ (v : Kept). IsStopped s.actions v stop) (with_config k (config_of s) is) h in
    let p : Player = player_after (config_of s) r.wants s.actions (opening (config_of s)) first_player r.made in
    record {
      wants = r.wants;
      made = r.made;
      run = record {
        played = r.played;
        stopped =
            subst (λ (ns : List Note). stop_by (length (steps_of r.made)) (length ns) (move_after s r.wants r.made) ≡ Some stop) (sym r.of_notes)
            (subst (λ (ss : List Step). stop_by (length ss) (length k.notes) (move (config_of s) r.wants s.actions (world_after (config_of s) (opening (config_of s)) ss) p) ≡ Some stop)
            (sym r.of_steps) r.stopped);
        few = subst (λ (ss : List Step). length ss ≤ 1000000) (sym r.of_steps) r.few;
        few_notes = subst (λ (ns : List Note). length ns ≤ 1000000) (sym r.of_notes) r.few_notes;
      };
      of_steps = r.of_steps;
      of_notes = r.of_notes;
    }

pub ok_run : (s : Script) (k : Kept) (r : Result Stop OutOfMemory) → k.config ≡ config_of s → IfOk r (λ stop. IsStopped s.actions k stop)
    → IfOk r (λ stop. HasRun s k.steps k.notes stop)
ok_run s k (Ok stop) is h = run_of s k stop is h
ok_run s k (Err e) is h = tt

cut_of : (s : Script) (k : Kept) → k.config ≡ config_of s → IsCut s.actions k → WasCutOff s k.steps k.notes
cut_of s k is h =
    let r : IsCut s.actions (record { config = config_of s; steps = k.steps; notes = k.notes }) = subst (λ (v : Kept). IsCut s.actions v) (with_config k (config_of s) is) h in
    let p : Player = player_after (config_of s) r.wants s.actions (opening (config_of s)) first_player r.made in
    record {
      wants = r.wants;
      made = r.made;
      cut = record {
        played = r.played;
        of_none = subst (λ (ss : List Step). IsOfNone (move (config_of s) r.wants s.actions (world_after (config_of s) (opening (config_of s)) ss) p)) (sym r.of_steps) r.of_none;
        few = subst (λ (ss : List Step). length ss ≤ 1000000) (sym r.of_steps) r.few;
        few_notes = subst (λ (ns : List Note). length ns ≤ 1000000) (sym r.of_notes) r.few_notes;
      };
      of_steps = r.of_steps;
      of_notes = r.of_notes;
    }

pub err_cut : (s : Script) (k : Kept) (r : Result Stop OutOfMemory) → k.config ≡ config_of s → OnErr r (IsCut s.actions k) → OnErr r (WasCutOff s k.steps k.notes)
err_cut s k (Ok stop) is h = h
err_cut s k (Err e) is h = cut_of s k is h

-- ---- to a stop

-- this, and more behind it, is a run
abbrev pub Whole : Script → List Want → List Made → Type 0
Whole s wants made = (rest : List Made) × ((stop : Stop) × IsRunOf s wants (made ++ rest) stop)

-- no more steps and notes than a history may have
record Few (made : List Made) : Type 0 where
  steps : length (steps_of made) ≤ 1000000
  notes : length (notes_of made) ≤ 1000000

stops_here : (s : Script) (wants : List Want) (made : List Made) (stop : Stop) → Few made → IsPlayed s wants made
    → stop_by (length (steps_of made)) (length (notes_of made)) (move_after s wants made) ≡ Some stop → Whole s wants made
stops_here s wants made stop few h is =
    ([], (stop, subst (λ (xs : List Made). IsRunOf s wants xs stop) (sym (append-nil made)) (record { played = h; stopped = is; few = few.steps; few_notes = few.notes })))

longer : (s : Script) (wants : List Want) (made : List Made) (x : Made) → Whole s wants (made ++ x ∷ []) → Whole s wants made
longer s wants made x w = (x ∷ w.0, (w.1.0, subst (λ (xs : List Made). IsRunOf s wants xs w.1.0) (append_assoc made (x ∷ []) w.0) w.1.1))

-- the player behind this
abbrev player_of : Script → List Want → List Made → Player
player_of s wants made = player_after (config_of s) wants s.actions (opening (config_of s)) first_player made

-- how many steps and lines may still come
abbrev left_of : Script → List Want → List Made → ℕ
left_of s wants made = (1000000 - length (steps_of made)) + (length s.actions - (player_of s wants made).line)

-- one more, after which less is left
record GoesOn (s : Script) (wants : List Want) (made : List Made) : Type 0 where
  next : Made
  played : IsPlayed s wants (made ++ next ∷ [])
  few : Few (made ++ next ∷ [])
  less : left_of s wants (made ++ next ∷ []) < left_of s wants made

with_room : (n : ℕ) (b : Bool) → (n == 1000000) ≡ b → cond b (Some stops.Full) None ≡ None → n ≤ 1000000 → n < 1000000
with_room n true full is few = absurd (let some : Some stops.Full ≡ None = is in cc)
with_room n false full is few = grind (arith, nat_tests)

further : (s : Script) (wants : List Want) (made : List Made) (x : Made) (m : Move) → IsPlayed s wants made → move_after s wants made ≡ m
    → IsMade (config_of s) (world_played s made) m x (λ v q. ⊤) → IsPlayed s wants (made ++ x ∷ [])
further s wants made x m h is next =
    plays_more (config_of s) wants s.actions (opening (config_of s)) first_player made x h
    (subst (λ (v : Move). IsMade (config_of s) (world_played s made) v x (λ v q. ⊤)) (sym is) next)

player_next : (s : Script) (wants : List Want) (made : List Made) (x : Made) (m : Move) → IsPlayed s wants made → move_after s wants made ≡ m
    → (player_of s wants (made ++ x ∷ [])).line ≡ (player_by (player_of s wants made) m).line
player_next s wants made x m h is =
    ap (λ (q : Player). q.line) (player_more (config_of s) wants s.actions (opening (config_of s)) first_player made x h ∙ ap (λ (v : Move). player_by (player_of s wants made) v) is)

steps_next : (made : List Made) (x : Step) → length (steps_of (made ++ Stepped x ∷ [])) ≡ length (steps_of made) + 1
steps_next made x = omega (arith, ap (λ (ss : List Step). length ss) (steps_stepped made x), length-append (steps_of made) (x ∷ []))

same_notes : (made : List Made) (x : Step) → length (notes_of (made ++ Stepped x ∷ [])) ≡ length (notes_of made)
same_notes made x = ap (λ (ns : List Note). length ns) (notes_stepped made x)

same_steps : (made : List Made) (r : RefusedAction) → length (steps_of (made ++ Noted r ∷ [])) ≡ length (steps_of made)
same_steps made r = ap (λ (ss : List Step). length ss) (steps_noted made r)

notes_next : (made : List Made) (r : RefusedAction) → length (notes_of (made ++ Noted r ∷ [])) ≡ length (notes_of made) + 1
notes_next made r =
    omega (arith, ap (λ (ns : List Note). length ns) (notes_noted made r), length-append (notes_of made) (record { place = length (steps_of made); line = action_text r } ∷ []))

on_by : (s : Script) (wants : List Want) (made : List Made) (m : Move) → Few made → IsPlayed s wants made → move_after s wants made ≡ m
    → Onward s.actions (player_of s wants made) m → (player_of s wants made).line ≤ length s.actions
    → stop_by (length (steps_of made)) (length (notes_of made)) m ≡ None → GoesOn s wants made
on_by s wants made (moves.Makes e q) few h is on within goes =
    let x : Made = Stepped (step_of (config_of s) (world_played s made) e) in
    let room : length (steps_of made) < 1000000 = with_room (length (steps_of made)) (length (steps_of made) == 1000000) refl goes few.steps in
    let count = steps_next made (step_of (config_of s) (world_played s made) e) in
    record {
      next = x;
      played = further s wants made x (moves.Makes e q) h is (refl, tt);
      few = record { steps = omega (arith, room, count); notes = omega (arith, few.notes, same_notes made (step_of (config_of s) (world_played s made) e)) };
      less = omega (arith, room, count, player_next s wants made x (moves.Makes e q) h is, on.1);
    }
on_by s wants made (moves.Notes refused q) few h is on within goes =
    let x : Made = Noted refused in
    let room : length (notes_of made) < 1000000 = with_room (length (notes_of made)) (length (notes_of made) == 1000000) refl goes few.notes in
    let count = same_steps made refused in
    record {
      next = x;
      played = further s wants made x (moves.Notes refused q) h is (refl, tt);
      few = record { steps = omega (arith, few.steps, count); notes = omega (arith, room, notes_next made refused) };
      less = omega (arith, count, player_next s wants made x (moves.Notes refused q) h is, on.1, on.2 within);
    }
on_by s wants made (moves.Blocked name) few h is on within goes = absurd (let some : Some (stops.Blocked name) ≡ None = goes in cc)
on_by s wants made moves.Over few h is on within goes = absurd (let some : Some stops.Over ≡ None = goes in cc)

goes_on : (s : Script) (wants : List Want) (made : List Made) → Few made → IsPlayed s wants made
    → stop_by (length (steps_of made)) (length (notes_of made)) (move_after s wants made) ≡ None → GoesOn s wants made
goes_on s wants made few h goes =
    on_by s wants made (move_after s wants made) few h refl (onward (config_of s) wants s.actions (world_played s made) (player_of s wants made))
    (within_after (config_of s) wants s.actions (opening (config_of s)) first_player made (omega arith)) goes

by_stop : (s : Script) (wants : List Want) (made : List Made) (o : Option Stop) → Few made → IsPlayed s wants made
    → stop_by (length (steps_of made)) (length (notes_of made)) (move_after s wants made) ≡ o → (GoesOn s wants made → Whole s wants made) → Whole s wants made
by_stop s wants made (Some stop) few h is more = stops_here s wants made stop few h is
by_stop s wants made None few h is more = more (goes_on s wants made few h is)

whole_from : (n : ℕ) (s : Script) (wants : List Want) (made : List Made) → left_of s wants made ≤ n → Few made → IsPlayed s wants made → Whole s wants made
whole_from zero s wants made left few h =
    by_stop s wants made (stop_by (length (steps_of made)) (length (notes_of made)) (move_after s wants made)) few h refl (λ g. absurd (let fails : ⊥ = omega (arith, left, g.less) in fails))
whole_from (suc n) s wants made left few h =
    by_stop s wants made (stop_by (length (steps_of made)) (length (notes_of made)) (move_after s wants made)) few h refl
    (λ g. longer s wants made g.next (whole_from n s wants (made ++ g.next ∷ []) (omega (arith, left, g.less)) g.few g.played))

-- what is played goes on to a stop
pub plays_to_stop : PlaysToStop
plays_to_stop s wants made few noted h = whole_from (left_of s wants made) s wants made (omega arith) (record { steps = few; notes = noted }) h

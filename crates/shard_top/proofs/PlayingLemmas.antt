-- The player between two moves: it starts, it goes on by one event or one note, a command runs out of memory, it stops.
use Rattle.std.proofs.Common.{◌≡◌, ℕ, ◌+◌, ◌<◌, ◌≤◌, List, [], ◌∷◌, ◌++◌, Bool, true, false, not, cond, ◌&&◌, ◌==◌, nat_le, Option, Some, None, is_some, length, refl, ap, sym, subst, ◌∙◌, arith, length-append}
use Rattle.std.specs.Bool.{⊤}
use Rattle.std.proofs.lemmas.Bool.Decides.{nat_tests}
use Rattle.shard_base.specs.Options.{only_if}
use Rattle.shard_calls.specs.World.{Config, World, opening, numbered, if_open, open_command}
use Rattle.shard_calls.specs.Table.{step_of, after, world_after}
use Rattle.shard_core.specs.Kept.{Kept, Makes, world_of}
use Rattle.shard_calls.specs.declared.event.Event.{Event}
use Rattle.shard_calls.specs.declared.event.Step.{Step}
use Rattle.shard_calls.specs.declared.state.CommandState.{CommandState}
use Rattle.shard_script.specs.declared.script.Action.{Action}
use Rattle.shard_calls.specs.declared.event.Note.{Note}
use Rattle.vtctld_text.specs.Notes.{action_text}
use Rattle.vtctld_text.specs.declared.note.RefusedAction.{RefusedAction}
use Rattle.shard_top.specs.declared.player.Player.{Player}
use Rattle.shard_top.specs.declared.player.Move.{Move}
use Rattle.shard_top.specs.declared.player.Move.TheVariants as moves
use Rattle.shard_top.specs.declared.player.Stop.{Stop}
use Rattle.shard_top.specs.declared.player.Stop.TheVariants as stops
use Rattle.shard_top.specs.Played.{Want, wanted, wanting, move, Stepped, Noted, steps_of, IsMade, player_by, player_after, first_player, stop_by, IsOfNone}
use Rattle.shard_top.specs.Playing.{with_note, is_ended, HaveEnded, HasBegun, last_of, still_open, Playing, IsStopped, IsCut}
use Rattle.shard_top.proofs.LongerLemmas.{past_is, steps_stepped, notes_stepped, steps_noted, notes_noted, made_is, plays_more, player_more, world_more, Onward, onward, plays_wanting, player_wanting}
use Rattle.shard_top.proofs.EndedLemmas.{ended_after, begun_after}
use Rattle.shard_top.proofs.LeavingLemmas.{by_leaving}

-- ---- a history with one more step

abbrev pub with_step : Kept → Event → Kept
with_step k e = record { config = k.config; steps = k.steps ++ step_of k.config (world_of k) e ∷ []; notes = k.notes }

pub kept_is : (old new : Kept) (e : Event) → Makes old new e → new ≡ with_step old e
kept_is old new e m = λ i. record { config = m.config i; steps = m.steps i; notes = m.notes i }

-- ---- the move that comes with the wants so far

and_false : (b : Bool) → (b && false) ≡ false
and_false true = refl
and_false false = refl

closed_by : (o : Option CommandState) → is_ended o ≡ true → if_open o ≡ None
closed_by None e = refl
closed_by (Some x) e = rw e refl

not_wanted : (b : Bool) (w : World) (c : ℕ) → is_ended (numbered w.commands c) ≡ true → (b && is_some (open_command w c)) ≡ false
not_wanted b w c e = subst (λ (o : Option CommandState). (b && is_some o) ≡ false) (sym (closed_by (numbered w.commands c) e)) (and_false b)

skips_ended : (w : World) (n : ℕ) (xs ys : List Want) → HaveEnded w xs → wanted w n (xs ++ ys) ≡ wanted w n ys
skips_ended w n [] ys h = refl
skips_ended w n (m ∷ ms) ys h = rw (not_wanted (nat_le m.steps (length w.past) && nat_le m.notes n) w m.command h.0) (skips_ended w n ms ys h.1)

by_want : (config : Config) (w : World) (lines : List Action) (p : Player) (m : Want) (b : Bool)
    → wanting config w lines p (cond (true && true && b) (Some m) None) ≡ by_leaving config w lines p (only_if b m.command)
by_want config w lines p m true = refl
by_want config w lines p m false = refl

last_is : (config : Config) (w : World) (lines : List Action) (p : Player) (at noted : ℕ) (leaving : Option ℕ) → at ≤ length w.past → noted ≤ p.noted
    → wanting config w lines p (wanted w p.noted (last_of leaving at noted)) ≡ by_leaving config w lines p (still_open w leaving)
last_is config w lines p at noted None le few = refl
last_is config w lines p at noted (Some c) le few =
    let come : nat_le at (length w.past) ≡ true = grind (arith, nat_tests) in
    let too : nat_le noted p.noted ≡ true = grind (arith, nat_tests) in
    rw (come, too) (by_want config w lines p (record { command = c; steps = at; notes = noted }) (is_some (open_command w c)))

move_is : (config : Config) (w : World) (lines : List Action) (p : Player) (xs : List Want) (at noted : ℕ) (leaving : Option ℕ) → HaveEnded w xs → at ≤ length w.past → noted ≤ p.noted
    → move config (xs ++ last_of leaving at noted) lines w p ≡ by_leaving config w lines p (still_open w leaving)
move_is config w lines p xs at noted leaving ended le few =
    ap (λ (o : Option Want). wanting config w lines p o) (skips_ended w p.noted xs (last_of leaving at noted) ended) ∙ last_is config w lines p at noted leaving le few

past_of : (k : Kept) → length (world_of k).past ≡ length k.steps
past_of k = omega (arith, past_is k.config (opening k.config) k.steps)

-- the wants of a player who stands so
abbrev pub wants_of : (lines : List Action) (k : Kept) (p : Player) (leaving : Option ℕ) → Playing lines k p leaving → List Want
wants_of lines k p leaving h = h.past_wants ++ last_of leaving h.at h.noted

-- the player behind what is made
abbrev pub player_at : (lines : List Action) (k : Kept) (p : Player) (leaving : Option ℕ) → Playing lines k p leaving → Player
player_at lines k p leaving h = player_after k.config (wants_of lines k p leaving h) lines (opening k.config) first_player h.made

-- the move of a player who stands so
now_move : (lines : List Action) (k : Kept) (p : Player) (leaving : Option ℕ) (h : Playing lines k p leaving)
    → move k.config (wants_of lines k p leaving h) lines (world_of k) p ≡ by_leaving k.config (world_of k) lines p (still_open (world_of k) leaving)
now_move lines k p leaving h =
    move_is k.config (world_of k) lines p h.past_wants h.at h.noted leaving h.ended (omega (arith, h.come, past_of k)) (omega (arith, h.come_noted, h.counted))

pub playing_move : (lines : List Action) (k : Kept) (p : Player) (leaving : Option ℕ) (h : Playing lines k p leaving)
    → move k.config (wants_of lines k p leaving h) lines (world_of k) (player_at lines k p leaving h)
    ≡ by_leaving k.config (world_of k) lines p (still_open (world_of k) leaving)
playing_move lines k p leaving h =
    ap (λ (q : Player). move k.config (wants_of lines k p leaving h) lines (world_of k) q) h.player ∙ now_move lines k p leaving h

-- the same in the world behind what is made
made_move : (lines : List Action) (k : Kept) (p : Player) (leaving : Option ℕ) (h : Playing lines k p leaving)
    → move k.config (wants_of lines k p leaving h) lines (world_after k.config (opening k.config) (steps_of h.made)) (player_at lines k p leaving h)
    ≡ by_leaving k.config (world_of k) lines p (still_open (world_of k) leaving)
made_move lines k p leaving h =
    ap (λ (ss : List Step). move k.config (wants_of lines k p leaving h) lines (world_after k.config (opening k.config) ss) (player_at lines k p leaving h)) h.of_steps
    ∙ playing_move lines k p leaving h

-- where it leaves the player
onward_by : (lines : List Action) (k : Kept) (p : Player) (leaving : Option ℕ) (m : Move) → Playing lines k p leaving
    → by_leaving k.config (world_of k) lines p (still_open (world_of k) leaving) ≡ m → Onward lines p m
onward_by lines k p leaving m h is =
    subst (λ (v : Move). Onward lines p v) (now_move lines k p leaving h ∙ is) (onward k.config (wants_of lines k p leaving h) lines (world_of k) p)

-- ---- it starts

starts_empty : (lines : List Action) (config : Config) → Playing lines (record { config = config; steps = []; notes = [] }) first_player None
starts_empty lines config = record {
  made = [];
  past_wants = [];
  at = 0;
  noted = 0;
  played = tt;
  player = refl;
  of_steps = refl;
  of_notes = refl;
  counted = refl;
  each_line_once = omega arith;
  within = omega arith;
  ended = tt;
  begun = tt;
  come = omega arith;
  come_noted = omega arith;
  few = omega arith;
  few_notes = omega arith;
}

pub playing_starts : (lines : List Action) (k : Kept) (p : Player) → k.steps ≡ [] → k.notes ≡ [] → p ≡ first_player → Playing lines k p None
playing_starts lines k p none unnoted is =
    subst (λ (q : Player). Playing lines k q None) (sym is)
    (subst (λ (v : Kept). Playing lines v first_player None) (λ i. record { config = k.config; steps = sym none i; notes = sym unnoted i }) (starts_empty lines k.config))

-- ---- one event

pub world_with : (k : Kept) (e : Event) → world_of (with_step k e) ≡ after k.config (world_of k) e
world_with k e = world_more k.config (opening k.config) k.steps (step_of k.config (world_of k) e)

pub length_with : (k : Kept) (e : Event) → length (with_step k e).steps ≡ length k.steps + 1
length_with k e = omega (arith, length-append k.steps (step_of k.config (world_of k) e ∷ []))

pub playing_goes_on : (lines : List Action) (k : Kept) (p : Player) (leaving : Option ℕ) (e : Event) (q : Player) → Playing lines k p leaving
    → by_leaving k.config (world_of k) lines p (still_open (world_of k) leaving) ≡ moves.Makes e q → length k.steps < 1000000 → Playing lines (with_step k e) q leaving
playing_goes_on lines k p leaving e q h is room =
    let wants : List Want = wants_of lines k p leaving h in
    let s : Step = step_of k.config (world_of k) e in
    let at_end : Player = player_at lines k p leaving h in
    let made : move k.config wants lines (world_after k.config (opening k.config) (steps_of h.made)) at_end ≡ moves.Makes e q = made_move lines k p leaving h ∙ is in
    let next : after k.config (world_of k) e ≡ world_of (with_step k e) = sym (world_with k e) in
    let on : Onward lines p (moves.Makes e q) = onward_by lines k p leaving (moves.Makes e q) h is in
    record {
      made = h.made ++ Stepped s ∷ [];
      past_wants = h.past_wants;
      at = h.at;
      noted = h.noted;
      played =
          plays_more k.config wants lines (opening k.config) first_player h.made (Stepped s) h.played
          (subst (λ (m : Move). IsMade k.config (world_after k.config (opening k.config) (steps_of h.made)) m (Stepped s) (λ v r. ⊤)) (sym made)
          (ap (λ (ss : List Step). step_of k.config (world_after k.config (opening k.config) ss) e) (sym h.of_steps), tt));
      player = player_more k.config wants lines (opening k.config) first_player h.made (Stepped s) h.played ∙ ap (λ (m : Move). player_by at_end m) made;
      of_steps = steps_stepped h.made s ∙ ap (λ (ss : List Step). ss ++ s ∷ []) h.of_steps;
      of_notes = notes_stepped h.made s ∙ h.of_notes;
      counted = on.0 ∙ h.counted;
      each_line_once = omega (arith, on.0, on.1, h.each_line_once);
      within = on.2 h.within;
      ended = subst (λ (w : World). HaveEnded w h.past_wants) next (ended_after k.config (world_of k) e h.past_wants h.ended);
      begun = subst (λ (w : World). HasBegun w leaving) next (begun_after k.config (world_of k) e leaving h.begun);
      come = omega (arith, h.come, length_with k e);
      come_noted = h.come_noted;
      few = omega (arith, room, length_with k e);
      few_notes = h.few_notes;
    }

pub noted_with : (k : Kept) (r : RefusedAction) → length (with_note k r).notes ≡ length k.notes + 1
noted_with k r = omega (arith, length-append k.notes (record { place = length k.steps; line = action_text r } ∷ []))

-- ---- one note

pub playing_notes : (lines : List Action) (k : Kept) (p : Player) (leaving : Option ℕ) (r : RefusedAction) (q : Player) → Playing lines k p leaving
    → by_leaving k.config (world_of k) lines p (still_open (world_of k) leaving) ≡ moves.Notes r q → length k.notes < 1000000 → Playing lines (with_note k r) q leaving
playing_notes lines k p leaving r q h is room =
    let wants : List Want = wants_of lines k p leaving h in
    let at_end : Player = player_at lines k p leaving h in
    let made : move k.config wants lines (world_after k.config (opening k.config) (steps_of h.made)) at_end ≡ moves.Notes r q = made_move lines k p leaving h ∙ is in
    let on : Onward lines p (moves.Notes r q) = onward_by lines k p leaving (moves.Notes r q) h is in
    record {
      made = h.made ++ Noted r ∷ [];
      past_wants = h.past_wants;
      at = h.at;
      noted = h.noted;
      played =
          plays_more k.config wants lines (opening k.config) first_player h.made (Noted r) h.played
          (subst (λ (m : Move). IsMade k.config (world_after k.config (opening k.config) (steps_of h.made)) m (Noted r) (λ v x. ⊤)) (sym made) (refl, tt));
      player = player_more k.config wants lines (opening k.config) first_player h.made (Noted r) h.played ∙ ap (λ (m : Move). player_by at_end m) made;
      of_steps = steps_noted h.made r ∙ h.of_steps;
      of_notes = notes_noted h.made r ∙ (λ i. h.of_notes i ++ record { place = length (h.of_steps i); line = action_text r } ∷ []);
      counted = omega (arith, on.0, h.counted, noted_with k r);
      each_line_once = omega (arith, on.0, on.1, h.each_line_once);
      within = on.2 h.within;
      ended = h.ended;
      begun = h.begun;
      come = h.come;
      come_noted = omega (arith, h.come_noted, noted_with k r);
      few = h.few;
      few_notes = omega (arith, room, noted_with k r);
    }

-- ---- a command runs out of memory

ended_append : (w : World) (xs ys : List Want) → HaveEnded w xs → HaveEnded w ys → HaveEnded w (xs ++ ys)
ended_append w [] ys h k = k
ended_append w (x ∷ xs) ys h k = (h.0, ended_append w xs ys h.1 k)

ended_if_closed : (o : Option CommandState) (d : ℕ) → is_some o ≡ true → only_if (is_some (if_open o)) d ≡ None → is_ended o ≡ true
ended_if_closed None d begun closed = begun
ended_if_closed (Some x) d begun closed = by_end x.ended refl closed
  where
    by_end : (b : Bool) → x.ended ≡ b → only_if (is_some (only_if (not b) x)) d ≡ None → x.ended ≡ true
    by_end true is none = is
    by_end false is none = absurd (let some : Some d ≡ None = none in cc)

last_ended : (w : World) (leaving : Option ℕ) (at noted : ℕ) → HasBegun w leaving → still_open w leaving ≡ None → HaveEnded w (last_of leaving at noted)
last_ended w None at noted begun closed = tt
last_ended w (Some d) at noted begun closed = (ended_if_closed (numbered w.commands d) d begun closed, tt)

begun_if_open : (o : Option CommandState) → is_some (if_open o) ≡ true → is_some o ≡ true
begun_if_open None h = h
begun_if_open (Some x) h = refl

pub playing_wants : (lines : List Action) (k : Kept) (p : Player) (leaving : Option ℕ) (c : ℕ) → Playing lines k p leaving → still_open (world_of k) leaving ≡ None
    → is_some (open_command (world_of k) c) ≡ true → Playing lines k p (Some c)
playing_wants lines k p leaving c h closed opened =
    let wants : List Want = wants_of lines k p leaving h in
    let m : Want = record { command = c; steps = length k.steps; notes = length k.notes } in
    let count : 0 + 0 + length h.made ≤ length k.steps + length k.notes =
    omega (arith, made_is h.made, ap (λ (ss : List Step). length ss) h.of_steps, ap (λ (ns : List Note). length ns) h.of_notes) in
    record {
      made = h.made;
      past_wants = wants;
      at = length k.steps;
      noted = length k.notes;
      played = plays_wanting k.config wants lines (opening k.config) first_player m h.made count h.played;
      player = player_wanting k.config wants lines (opening k.config) first_player m h.made count ∙ h.player;
      of_steps = h.of_steps;
      of_notes = h.of_notes;
      counted = h.counted;
      each_line_once = h.each_line_once;
      within = h.within;
      ended = ended_append (world_of k) h.past_wants (last_of leaving h.at h.noted) h.ended (last_ended (world_of k) leaving h.at h.noted h.begun closed);
      begun = begun_if_open (numbered (world_of k).commands c) opened;
      come = omega arith;
      come_noted = omega arith;
      few = h.few;
      few_notes = h.few_notes;
    }

-- ---- it stops

pub playing_stops : (lines : List Action) (k : Kept) (p : Player) (leaving : Option ℕ) (m : Move) (stop : Stop) → Playing lines k p leaving
    → by_leaving k.config (world_of k) lines p (still_open (world_of k) leaving) ≡ m → stop_by (length k.steps) (length k.notes) m ≡ Some stop → IsStopped lines k stop
playing_stops lines k p leaving m stop h is stops = record {
  made = h.made;
  wants = wants_of lines k p leaving h;
  played = h.played;
  of_steps = h.of_steps;
  of_notes = h.of_notes;
  stopped = ap (λ (v : Move). stop_by (length k.steps) (length k.notes) v) (playing_move lines k p leaving h ∙ is) ∙ stops;
  few = h.few;
  few_notes = h.few_notes;
}

pub full_by : (n j : ℕ) (e : Event) (q : Player) → nat_le 1000000 n ≡ true → n ≤ 1000000 → stop_by n j (moves.Makes e q) ≡ Some stops.Full
full_by n j e q full few = let same : (n == 1000000) ≡ true = grind (arith, nat_tests) in rw same refl

pub noted_full : (n j : ℕ) (r : RefusedAction) (q : Player) → j ≡ 1000000 → stop_by n j (moves.Notes r q) ≡ Some stops.Full
noted_full n j r q full = let same : (j == 1000000) ≡ true = grind (arith, nat_tests) in rw same refl

-- memory runs out in what no command makes
pub playing_is_cut : (lines : List Action) (k : Kept) (p : Player) (leaving : Option ℕ) (m : Move) → Playing lines k p leaving
    → by_leaving k.config (world_of k) lines p (still_open (world_of k) leaving) ≡ m → IsOfNone m → IsCut lines k
playing_is_cut lines k p leaving m h is none = record {
  made = h.made;
  wants = wants_of lines k p leaving h;
  played = h.played;
  of_steps = h.of_steps;
  of_notes = h.of_notes;
  of_none = subst (λ (v : Move). IsOfNone v) (sym (playing_move lines k p leaving h ∙ is)) none;
  few = h.few;
  few_notes = h.few_notes;
}

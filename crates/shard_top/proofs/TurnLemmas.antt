-- What a turn of the player's code comes to.
use Rattle.std.proofs.Common.{◌≡◌, ℕ, suc, ◌+◌, ◌-◌, ◌^◌, ◌<◌, ◌≤◌, List, Bool, true, false, nat_le, Option, Some, None, is_some, Result, Ok, Err, IfOk, OnErr, length, drop, get_or, refl, ap, sym, subst, ◌∙◌, arith}
use Rattle.std.proofs.Math.Seq.{drop-cons}
use Rattle.std.proofs.lemmas.Bool.Decides.{nat_tests}
use Rattle.shard_base.specs.Options.{only_if}
use Rattle.shard_base.specs.declared.memory.OutOfMemory.{OutOfMemory}
use Rattle.shard_calls.specs.World.{Config, World, open_command}
use Rattle.shard_core.specs.Room.{has_room_kept}
use Rattle.shard_calls.specs.Table.{Met}
use Rattle.shard_core.specs.Kept.{Kept, Makes, world_of}
use Rattle.shard_calls.specs.declared.event.Event.{Event}
use Rattle.shard_script.specs.declared.script.Action.{Action}
use Rattle.vtctld_text.specs.declared.note.RefusedAction.{RefusedAction}
use Rattle.planned.specs.Course.{leaves}
use Rattle.planned.specs.Follows.{maker_of}
use Rattle.planned.specs.Laws.{NextIsMet}
use Rattle.shard_top.specs.declared.player.Player.{Player}
use Rattle.shard_top.specs.declared.player.Go.TheVariants as goes
use Rattle.shard_top.specs.declared.player.Start.{Start}
use Rattle.shard_top.specs.declared.player.Start.TheVariants as starts_as
use Rattle.shard_top.specs.declared.player.Move.{Move}
use Rattle.shard_top.specs.declared.player.Move.TheVariants as moves
use Rattle.shard_top.specs.declared.player.Stop.{Stop}
use Rattle.shard_top.specs.declared.player.Stop.TheVariants as stops
use Rattle.shard_top.specs.declared.playing.Turn.{Turn}
use Rattle.shard_top.specs.declared.playing.Turn.TheVariants as turns
use Rattle.shard_top.specs.Played.{plain_move, starts, first_of, start_at, stop_by, IsStartOfNone, IsOfNone, Lacks}
use Rattle.shard_top.specs.Playing.{with_note, still_open, Playing, IsCut, IsTurn}
use Rattle.shard_top.proofs.EndedLemmas.{few_begun}
use Rattle.shard_top.proofs.LeavingLemmas.{by_leaving, made_fair, leave_fair, still_is, fair_open, leaves_kept}
use Rattle.shard_top.proofs.PlayingLemmas.{kept_is, length_with, noted_with, playing_goes_on, playing_notes, playing_wants, playing_stops, playing_is_cut, full_by, noted_full}

-- ---- lines by their places

starts_here : (config : Config) (w : World) (noted : ℕ) (lines : List Action) (i : ℕ) (x : Action) → i < length lines → x ≡ get_or lines i x
    → start_at config w noted i (drop i lines) ≡ first_of noted i (starts config w x) (start_at config w noted (i + 1) (drop (i + 1) lines))
starts_here config w noted lines i x within is =
    let next : suc i ≡ i + 1 = omega arith in
    ap (λ (ls : List Action). start_at config w noted i ls) (drop-cons lines i x within)
    ∙ ap (λ (y : Action). first_of noted i (starts config w y) (start_at config w noted (i + 1) (drop (suc i) lines))) (sym is)
    ∙ ap (λ (k : ℕ). first_of noted i (starts config w x) (start_at config w noted (i + 1) (drop k lines))) next

pub few_commands : (k : Kept) → length k.steps ≤ 1000000 → length (world_of k).commands < 2 ^ 64 - 1
few_commands k few = omega (arith, few, few_begun k.config k.steps)

-- ---- one event, one note, or a stop

not_full : (n : ℕ) → nat_le 1000000 n ≡ false → n < 1000000
not_full n room = grind (arith, nat_tests)

one_more : (old new : Kept) (e : Event) → Makes old new e → length new.steps ≡ length old.steps + 1
one_more old new e made = ap (λ (k : Kept). length k.steps) (kept_is old new e made) ∙ length_with old e

as_many_notes : (old new : Kept) (e : Event) → Makes old new e → length new.notes ≡ length old.notes
as_many_notes old new e made = ap (λ (k : Kept). length k.notes) (kept_is old new e made)

turned_on : (lines : List Action) (old new : Kept) (p : Player) (leaving : Option ℕ) (e : Event) (q : Player) → Playing lines old p leaving
    → by_leaving old.config (world_of old) lines p (still_open (world_of old) leaving) ≡ moves.Makes e q → length old.steps < 1000000 → Makes old new e
    → IsTurn lines old new (turns.On q leaving)
turned_on lines old new p leaving e q h is room made = (
  subst (λ (k : Kept). Playing lines k q leaving) (sym (kept_is old new e made)) (playing_goes_on lines old p leaving e q h is room),
  omega (arith, one_more old new e made, as_many_notes old new e made),
  made.config,
)

leaving_is : (lines : List Action) (k : Kept) (p : Player) (c : ℕ) → still_open (world_of k) (Some c) ≡ Some c
    → by_leaving k.config (world_of k) lines p (still_open (world_of k) (Some c)) ≡ moves.Makes (leaves (world_of k) c) p
leaving_is lines k p c opened = ap (λ (o : Option ℕ). by_leaving k.config (world_of k) lines p o) opened

plain_is : (lines : List Action) (k : Kept) (p : Player) (leaving : Option ℕ) → still_open (world_of k) leaving ≡ None
    → by_leaving k.config (world_of k) lines p (still_open (world_of k) leaving) ≡ plain_move k.config (world_of k) lines p
plain_is lines k p leaving closed = ap (λ (o : Option ℕ). by_leaving k.config (world_of k) lines p o) closed

pub leave_full : (lines : List Action) (k : Kept) (p : Player) (c : ℕ) → still_open (world_of k) (Some c) ≡ Some c → nat_le 1000000 (length k.steps) ≡ true
    → Playing lines k p (Some c) → IsTurn lines k k (turns.Stops stops.Full)
leave_full lines k p c opened full h = (
  playing_stops lines k p (Some c) (moves.Makes (leaves (world_of k) c) p) stops.Full h (leaving_is lines k p c opened)
      (full_by (length k.steps) (length k.notes) (leaves (world_of k) c) p full h.few),
  refl,
)

pub leave_on : (lines : List Action) (old new : Kept) (p : Player) (c : ℕ) (e : Event) → still_open (world_of old) (Some c) ≡ Some c
    → nat_le 1000000 (length old.steps) ≡ false → e ≡ leaves (world_of old) c → Makes old new e → Playing lines old p (Some c)
    → IsTurn lines old new (turns.On p (Some c))
leave_on lines old new p c e opened room is made h =
    turned_on lines old new p (Some c) e p h (leaving_is lines old p c opened ∙ ap (λ (v : Event). moves.Makes v p) (sym is)) (not_full (length old.steps) room) made

pub leave_met : (config : Config) (w : World) (c : ℕ) (e : Event) → still_open w (Some c) ≡ Some c → e ≡ leaves w c → Met config w e
leave_met config w c e opened is = subst (λ (v : Event). Met config w v) (sym is) (leave_fair config w c (still_is w (Some c) c opened).1).met

pub leave_kept : (w : World) (c : ℕ) (e : Event) → still_open w (Some c) ≡ Some c → e ≡ leaves w c → has_room_kept w e ≡ true
leave_kept w c e opened is = subst (λ (v : Event). has_room_kept w v ≡ true) (sym is) (leaves_kept w c (still_is w (Some c) c opened).1)

-- a command that runs out of memory is open

pub still_so : (w : World) (c : ℕ) → is_some (open_command w c) ≡ true → still_open w (Some c) ≡ Some c
still_so w c opened = ap (λ (b : Bool). only_if b c) opened

pub maker_is_open : (old mid : Kept) (e : Event) (o : Option ℕ) → mid ≡ old → ((c : ℕ) → maker_of e ≡ Some c → is_some (open_command (world_of old) c) ≡ true) → o ≡ maker_of e → (c : ℕ)
    → o ≡ Some c → is_some (open_command (world_of mid) c) ≡ true
maker_is_open old mid e o same opened is c one = subst (λ (k : Kept). is_some (open_command (world_of k) c) ≡ true) (sym same) (opened c (sym is ∙ one))

pub gives_up : (lines : List Action) (k : Kept) (p : Player) (leaving : Option ℕ) (c : ℕ) → still_open (world_of k) (Some c) ≡ Some c → still_open (world_of k) leaving ≡ None
    → Playing lines k p leaving → Playing lines k p (Some c)
gives_up lines k p leaving c opened closed h = playing_wants lines k p leaving c h closed (still_is (world_of k) (Some c) c opened).1

pub plain_on : (lines : List Action) (old new : Kept) (p : Player) (leaving : Option ℕ) (e : Event) (q : Player) → still_open (world_of old) leaving ≡ None
    → length old.steps < 1000000 → Makes old new e → Playing lines old p leaving → plain_move old.config (world_of old) lines p ≡ moves.Makes e q
    → IsTurn lines old new (turns.On q leaving)
plain_on lines old new p leaving e q closed room made h is = turned_on lines old new p leaving e q h (plain_is lines old p leaving closed ∙ is) room made

-- where the event found no memory, a turn is that of its command
pub plain_else : (r : Result Turn OutOfMemory) (old mid new : Kept) (p : Player) (leaving : Option ℕ) (e : Event) (q : Player) → mid ≡ old → still_open (world_of old) leaving ≡ None
    → IfOk r (λ t. (lines : List Action) (l : Option ℕ) → still_open (world_of mid) l ≡ None → Playing lines mid p l → IsTurn lines mid new t)
    → IfOk r (λ t. (lines : List Action) → Playing lines old p leaving → plain_move old.config (world_of old) lines p ≡ moves.Makes e q
    → IsTurn lines old new t)
plain_else r old mid new p leaving e q same closed h =
    of_result r
    (subst (λ (k : Kept). IfOk r (λ t. (lines : List Action) (l : Option ℕ) → still_open (world_of k) l ≡ None → Playing lines k p l → IsTurn lines k new t)) same
    h)
  where
    of_result : (r : Result Turn OutOfMemory)
        → IfOk r (λ t. (lines : List Action) (l : Option ℕ) → still_open (world_of old) l ≡ None → Playing lines old p l → IsTurn lines old new t)
        → IfOk r (λ t. (lines : List Action) → Playing lines old p leaving → plain_move old.config (world_of old) lines p ≡ moves.Makes e q
        → IsTurn lines old new t)
    of_result (Ok t) f = λ lines k is. f lines leaving closed k
    of_result (Err x) f = tt

-- a line is refused, and noted
pub plain_notes : (lines : List Action) (old new : Kept) (p : Player) (leaving : Option ℕ) (r : RefusedAction) (q : Player) → new ≡ with_note old r → length old.notes < 1000000
    → Playing lines old p leaving → still_open (world_of old) leaving ≡ None → plain_move old.config (world_of old) lines p ≡ moves.Notes r q
    → IsTurn lines old new (turns.On q leaving)
plain_notes lines old new p leaving r q noted room h closed is = (
  subst (λ (k : Kept). Playing lines k q leaving) (sym noted) (playing_notes lines old p leaving r q h (plain_is lines old p leaving closed ∙ is) room),
  omega (arith, ap (λ (k : Kept). length k.notes) noted, ap (λ (k : Kept). length k.steps) noted, noted_with old r),
  ap (λ (k : Kept). k.config) noted,
)

pub plain_stop : (lines : List Action) (k : Kept) (p : Player) (leaving : Option ℕ) (m : Move) (stop : Stop) → Playing lines k p leaving
    → still_open (world_of k) leaving ≡ None → plain_move k.config (world_of k) lines p ≡ m → stop_by (length k.steps) (length k.notes) m ≡ Some stop
    → IsTurn lines k k (turns.Stops stop)
plain_stop lines k p leaving m stop h closed is stops = (playing_stops lines k p leaving m stop h (plain_is lines k p leaving closed ∙ is) stops, refl)

pub plain_full : (lines : List Action) (k : Kept) (p : Player) (leaving : Option ℕ) (e : Event) (q : Player) → Playing lines k p leaving
    → still_open (world_of k) leaving ≡ None → plain_move k.config (world_of k) lines p ≡ moves.Makes e q → nat_le 1000000 (length k.steps) ≡ true
    → IsTurn lines k k (turns.Stops stops.Full)
plain_full lines k p leaving e q h closed is full =
    plain_stop lines k p leaving (moves.Makes e q) stops.Full h closed is (full_by (length k.steps) (length k.notes) e q full h.few)

-- a line is refused, in a history with all the notes that it may have
pub plain_noted_full : (lines : List Action) (old new : Kept) (p : Player) (leaving : Option ℕ) (r : RefusedAction) (q : Player) → new ≡ old → length old.notes ≡ 1000000
    → Playing lines old p leaving → still_open (world_of old) leaving ≡ None → plain_move old.config (world_of old) lines p ≡ moves.Notes r q
    → IsTurn lines old new (turns.Stops stops.Full)
plain_noted_full lines old new p leaving r q same full h closed is =
    subst (λ (k : Kept). IsTurn lines old k (turns.Stops stops.Full)) (sym same)
    (plain_stop lines old p leaving (moves.Notes r q) stops.Full h closed is (noted_full (length old.steps) (length old.notes) r q full))

pub plain_met : (lines : List Action) (k : Kept) (p : Player) (leaving : Option ℕ) (e : Event) (q : Player) → NextIsMet k.config (world_of k) → still_open (world_of k) leaving ≡ None
    → plain_move k.config (world_of k) lines p ≡ moves.Makes e q → Met k.config (world_of k) e
plain_met lines k p leaving e q known closed is = (made_fair k.config (world_of k) lines p leaving e q known (plain_is lines k p leaving closed ∙ is)).met

pub plain_open : (lines : List Action) (k : Kept) (p : Player) (leaving : Option ℕ) (e : Event) (q : Player) → NextIsMet k.config (world_of k) → still_open (world_of k) leaving ≡ None
    → plain_move k.config (world_of k) lines p ≡ moves.Makes e q → (c : ℕ) → maker_of e ≡ Some c → is_some (open_command (world_of k) c) ≡ true
plain_open lines k p leaving e q known closed is c made =
    fair_open k.config (world_of k) e c (made_fair k.config (world_of k) lines p leaving e q known (plain_is lines k p leaving closed ∙ is)) made

-- ---- memory runs out in what no command makes

pub plain_cut : (r : Result Turn OutOfMemory) (lines : List Action) (old new : Kept) (p : Player) (leaving : Option ℕ) (e : Event) (q : Player)
    → Playing lines old p leaving → still_open (world_of old) leaving ≡ None → plain_move old.config (world_of old) lines p ≡ moves.Makes e q → OnErr r (new ≡ old)
    → OnErr r (maker_of e ≡ None) → OnErr r (IsCut lines new)
plain_cut (Ok t) lines old new p leaving e q h closed is same none = same
plain_cut (Err x) lines old new p leaving e q h closed is same none =
    subst (λ (k : Kept). IsCut lines k) (sym same) (playing_is_cut lines old p leaving (moves.Makes e q) h (plain_is lines old p leaving closed ∙ is) none)

pub note_cut : (r : Result Turn OutOfMemory) (lines : List Action) (old new : Kept) (p : Player) (leaving : Option ℕ) (x : RefusedAction) (q : Player)
    → Playing lines old p leaving → still_open (world_of old) leaving ≡ None → plain_move old.config (world_of old) lines p ≡ moves.Notes x q → OnErr r (new ≡ old) → OnErr r (IsCut lines new)
note_cut (Ok t) lines old new p leaving x q h closed is same = tt
note_cut (Err e) lines old new p leaving x q h closed is same =
    subst (λ (k : Kept). IsCut lines k) (sym same) (playing_is_cut lines old p leaving (moves.Notes x q) h (plain_is lines old p leaving closed ∙ is) tt)

-- ---- memory ran out while it was worked out what comes next

pub lacks_turn : (r : Result Turn OutOfMemory) (lines : List Action) (old new : Kept) (p : Player) (leaving : Option ℕ) → Playing lines old p leaving → still_open (world_of old) leaving ≡ None
    → IfOk r (λ t. (ls : List Action) (l : Option ℕ) → still_open (world_of old) l ≡ None → Playing ls old p l → IsTurn ls old new t) → IfOk r (λ t. IsTurn lines old new t)
lacks_turn (Ok t) lines old new p leaving h closed f = f lines leaving closed h
lacks_turn (Err e) lines old new p leaving h closed f = tt

pub lacks_cut : (r : Result Turn OutOfMemory) (lines : List Action) (old new : Kept) (p : Player) (leaving : Option ℕ) (o : Option ℕ) → Playing lines old p leaving
    → still_open (world_of old) leaving ≡ None → Lacks (world_of old) (IsOfNone (plain_move old.config (world_of old) lines p)) o → OnErr r (new ≡ old) → OnErr r (o ≡ None)
    → OnErr r (IsCut lines new)
lacks_cut (Ok t) lines old new p leaving o h closed lacks same none = tt
lacks_cut (Err x) lines old new p leaving o h closed lacks same none =
    let m : Move = plain_move old.config (world_of old) lines p in
    subst (λ (k : Kept). IsCut lines k) (sym same)
    (playing_is_cut lines old p leaving m h (plain_is lines old p leaving closed) (subst (λ (c : Option ℕ). Lacks (world_of old) (IsOfNone m) c) none lacks))

pub lacks_open : (w : World) (P : Type 0) (o : Option ℕ) (c : ℕ) → Lacks w P o → o ≡ Some c → is_some (open_command w c) ≡ true
lacks_open w P None c h is = absurd (let none : ◌≡◌ {A = Option ℕ} None (Some c) = is in cc)
lacks_open w P (Some d) c h is = subst (λ (n : ℕ). is_some (open_command w n) ≡ true) (let same : d ≡ c = (let some : ◌≡◌ {A = Option ℕ} (Some d) (Some c) = is in cc) in same) h

lacks_with : (w : World) (P Q : Type 0) (o : Option ℕ) → (P → Q) → Lacks w P o → Lacks w Q o
lacks_with w P Q None f h = f h
lacks_with w P Q (Some c) f h = h

none_first : (noted at : ℕ) (start : Start) (rest : Move) → IsStartOfNone start → IsOfNone (first_of noted at start rest)
none_first noted at (starts_as.Goes (goes.Makes e task)) rest h = h
none_first noted at (starts_as.Goes (goes.Blocked name)) rest h = absurd h
none_first noted at (starts_as.Goes goes.Finished) rest h = absurd h
none_first noted at (starts_as.Notes refused) rest h = tt

-- memory ran out for what the line at this place does
pub starts_lack : (config : Config) (w : World) (noted : ℕ) (lines : List Action) (i : ℕ) (x : Action) (m : Move) (o : Option ℕ) → i < length lines → x ≡ get_or lines i x
    → m ≡ start_at config w noted i (drop i lines) → Lacks w (IsStartOfNone (starts config w x)) o → Lacks w (IsOfNone m) o
starts_lack config w noted lines i x m o within is so_far h =
    let start : Start = starts config w x in
    let rest : Move = start_at config w noted (i + 1) (drop (i + 1) lines) in
    subst (λ (v : Move). Lacks w (IsOfNone v) o) (sym (so_far ∙ starts_here config w noted lines i x within is))
    (lacks_with w (IsStartOfNone start) (IsOfNone (first_of noted i start rest)) o (none_first noted i start rest) h)

-- where the line was noted, or was one too many, a turn is that of the player
pub noted_else : (r : Result Turn OutOfMemory) (lines : List Action) (old new : Kept) (p : Player) (leaving : Option ℕ) (x : RefusedAction) (q : Player) → Playing lines old p leaving
    → still_open (world_of old) leaving ≡ None → plain_move old.config (world_of old) lines p ≡ moves.Notes x q
    → IfOk r (λ t. (ls : List Action) (before : Player) → Playing ls old before leaving → still_open (world_of old) leaving ≡ None
    → plain_move old.config (world_of old) ls before ≡ moves.Notes x q → IsTurn ls old new t)
    → IfOk r (λ t. IsTurn lines old new t)
noted_else (Ok t) lines old new p leaving x q h closed is f = f lines p h closed is
noted_else (Err e) lines old new p leaving x q h closed is f = tt

-- ---- there is an end

-- a turn that goes on leaves less: fewer steps, or fewer lines that may be noted
pub less_left : (lines : List Action) (old new : Kept) (p q : Player) (leaving other : Option ℕ) → Playing lines old p leaving → Playing lines new q other
    → length old.steps + length old.notes < length new.steps + length new.notes
    → (1000000 - length new.steps) + (length lines - length new.notes) < (1000000 - length old.steps) + (length lines - length old.notes)
less_left lines old new p q leaving other h k more = omega (arith, h.few, k.few, h.counted, h.each_line_once, h.within, k.counted, k.each_line_once, k.within, more)

-- A command that leaves for want of memory: it is open, what it does is met and of its course, and takes no memory.
use Rattle.std.proofs.Common.{◌≡◌, ℕ, List, Bool, true, false, not, cond, Option, Some, None, is_some, refl, ap, sym, subst, ◌∙◌}
use Rattle.std.specs.List.{slice_get}
use Rattle.std.proofs.lemmas.Bool.{false≢true}
use Rattle.shard_base.specs.Options.{only_if}
use Rattle.shard_names.proofs.TabletLemmas.{both_right}
use Rattle.shard_calls.specs.World.{Config, World, open_command}
use Rattle.shard_core.specs.Room.{is_unreleased, has_room_kept}
use Rattle.shard_calls.specs.Table.{Met}
use Rattle.shard_calls.specs.declared.ending.CommandAnswer.TheVariants as answers
use Rattle.shard_calls.specs.declared.refusal.Refusal.TheVariants as refusals
use Rattle.shard_calls.specs.declared.event.Event.{Event}
use Rattle.shard_calls.specs.declared.event.Event.TheVariants as events
use Rattle.shard_calls.specs.declared.state.CommandState.{CommandState}
use Rattle.shard_script.specs.declared.script.Action.{Action}
use Rattle.planned.specs.Course.{leaves, leaves_by, state_next}
use Rattle.planned.specs.Follows.{maker_of, IsOfCourse}
use Rattle.planned.specs.Follows.IsOfCourse.{Goes, Leaves}
use Rattle.planned.specs.Leaving.{owes_release}
use Rattle.planned.specs.Laws.{NextIsMet}
use Rattle.shard_top.specs.declared.player.Player.{Player}
use Rattle.shard_top.specs.declared.player.Move.{Move}
use Rattle.shard_top.specs.declared.player.Move.TheVariants as moves
use Rattle.shard_top.specs.Played.{plain_move}
use Rattle.shard_top.specs.Playing.{still_open}
use Rattle.planned.proofs.FollowLemmas.{leaving_keeps}
use Rattle.planned.proofs.NextLemmas.{refusing_met}
use Rattle.shard_top.proofs.FairLemmas.{Fair, FairMove, plain_fair}

-- ---- what it does is met, and of its course

of_it : (w : World) (d c : ℕ) → Some d ≡ Some c → is_some (open_command w d) ≡ true → is_some (open_command w c) ≡ true
of_it w d c is opened = subst (λ (n : ℕ). is_some (open_command w n) ≡ true) (let same : d ≡ c = cc in same) opened

pub still_is : (w : World) (leaving : Option ℕ) (c : ℕ) → still_open w leaving ≡ Some c → (leaving ≡ Some c) × (is_some (open_command w c) ≡ true)
still_is w None c is = absurd (let none : None ≡ Some c = is in cc)
still_is w (Some d) c is = by_test (is_some (open_command w d)) refl is
  where
    by_test : (b : Bool) → is_some (open_command w d) ≡ b → only_if b d ≡ Some c → (Some d ≡ Some c) × (is_some (open_command w c) ≡ true)
    by_test true opened one = (one, of_it w d c one opened)
    by_test false opened one = absurd (let none : None ≡ Some c = one in cc)

some_of : {A : Type 0} (o : Option A) → is_some o ≡ true → (x : A) × (o ≡ Some x)
some_of None h = absurd (false≢true h)
some_of (Some x) h = (x, refl)

leaves_met : (config : Config) (w : World) (c : ℕ) (s : CommandState) → open_command w c ≡ Some s → Met config w (leaves w c)
leaves_met config w c s found = subst (λ (o : Option CommandState). Met config w (leaves_by c o)) (sym found) (refusing_met config w c s found)

pub leave_fair : (config : Config) (w : World) (c : ℕ) → is_some (open_command w c) ≡ true → Fair config w (leaves w c)
leave_fair config w c opened =
    let s = some_of (open_command w c) opened in
    record { met = leaves_met config w c s.0 s.1; of_course = leaving_keeps config w c s.0 s.1 }

-- a command leaves, or else the player goes on as with memory
abbrev pub by_leaving : Config → World → List Action → Player → Option ℕ → Move
by_leaving config w lines p None = plain_move config w lines p
by_leaving config w lines p (Some c) = moves.Makes (leaves w c) p

leaving_fair : (config : Config) (w : World) (lines : List Action) (p : Player) (o : Option ℕ) → ((c : ℕ) → o ≡ Some c → is_some (open_command w c) ≡ true) → NextIsMet config w
    → FairMove config w (by_leaving config w lines p o)
leaving_fair config w lines p None opened course = plain_fair config w lines p course
leaving_fair config w lines p (Some c) opened course = leave_fair config w c (opened c refl)

pub made_fair : (config : Config) (w : World) (lines : List Action) (p : Player) (leaving : Option ℕ) (e : Event) (q : Player) → NextIsMet config w
    → by_leaving config w lines p (still_open w leaving) ≡ moves.Makes e q → Fair config w e
made_fair config w lines p leaving e q course is =
    subst (λ (m : Move). FairMove config w m) is (leaving_fair config w lines p (still_open w leaving) (λ c one. (still_is w leaving c one).1) course)

-- a command whose course an event keeps to is open

may_open : (config : Config) (w : World) (c : ℕ) (e : Event) (n : ℕ) (o : Option CommandState) → slice_get (state_next config w c o) n ≡ Some e → is_some o ≡ true
may_open config w c e n None is = absurd (let none : ◌≡◌ {A = Option Event} None (Some e) = is in cc)
may_open config w c e n (Some s) is = refl

pub course_open : (config : Config) (w : World) (c : ℕ) (e : Event) → IsOfCourse config w c e → is_some (open_command w c) ≡ true
course_open config w c e (Goes n is) = may_open config w c e n (open_command w c) is
course_open config w c e (Leaves s found is) = ap (λ (o : Option CommandState). is_some o) found

pub fair_open : (config : Config) (w : World) (e : Event) (c : ℕ) → Fair config w e → maker_of e ≡ Some c → is_some (open_command w c) ≡ true
fair_open config w e c fair made = course_open config w c e (fair.of_course c made)

-- the one who leaves needs no memory

unreleased : (o : Option CommandState) (s : CommandState) → o ≡ Some s → is_unreleased o ≡ not s.released
unreleased o s is = ap (λ (v : Option CommandState). is_unreleased v) is

room_by : (w : World) (c : ℕ) (s : CommandState) (b : Bool) → owes_release s ≡ b → open_command w c ≡ Some s
    → has_room_kept w (cond b (events.Release c) (events.End c (answers.Refused refusals.OutOfMemory None))) ≡ true
room_by w c s true owes is = unreleased (open_command w c) s is ∙ both_right (is_some s.term) (not s.released) owes
room_by w c s false owes is = refl

room_of : (w : World) (c : ℕ) (o : Option CommandState) → open_command w c ≡ o → is_some o ≡ true → has_room_kept w (leaves_by c o) ≡ true
room_of w c None is opened = absurd (false≢true opened)
room_of w c (Some s) is opened = room_by w c s (owes_release s) refl is

pub leaves_kept : (w : World) (c : ℕ) → is_some (open_command w c) ≡ true → has_room_kept w (leaves w c) ≡ true
leaves_kept w c opened = room_of w c (open_command w c) refl opened

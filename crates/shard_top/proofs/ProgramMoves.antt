-- Along what is played, the commands that an actor has begun and those that it is to begin are its program.
use Rattle.std.proofs.Common.{◌≡◌, ◌≢◌, ℕ, zero, suc, ◌+◌, List, [], ◌∷◌, ◌++◌, Option, Some, None, drop, refl, ap, sym, subst, ◌∙◌, arith}
use Rattle.std.specs.Bool.{⊤}
use Rattle.std.proofs.lemmas.List.{append_assoc}
use Rattle.shard_base.specs.Options.{◌>>=◌}
use Rattle.shard_calls.specs.World.{Config, World, main_name, numbered}
use Rattle.shard_calls.specs.Table.{after}
use Rattle.shard_calls.specs.declared.command.Command.{Command}
use Rattle.shard_calls.specs.declared.event.Event.{Event}
use Rattle.shard_script.specs.declared.script.Action.{Action}
use Rattle.shard_script.specs.Names.{started, started_by}
use Rattle.shard_top.specs.Programs.{asks_for, asked_of, begun_by}
use Rattle.planned.specs.Course.{leaves}
use Rattle.shard_core.specs.Pending.{FreeMayBegin}
use Rattle.planned.proofs.FollowLemmas.{leaving_is_own}
use Rattle.shard_top.specs.declared.player.Task.{Task}
use Rattle.shard_top.specs.declared.player.Player.{Player}
use Rattle.shard_top.specs.declared.player.Go.{Go}
use Rattle.shard_top.specs.declared.player.Go.TheVariants as goes
use Rattle.shard_top.specs.declared.player.Start.{Start}
use Rattle.shard_top.specs.declared.player.Start.TheVariants as starts_as
use Rattle.shard_top.specs.declared.player.Move.{Move}
use Rattle.shard_top.specs.declared.player.Move.TheVariants as moves
use Rattle.shard_top.specs.Played.{Want, wanted, wanting, move, command_of, played_at, go_on, starts, first_of, start_at, move_on}
use Rattle.shard_top.proofs.ProgramLemmas.{NoneOpen, MainHeld, none_after, held_after, AllNamed, named_map, named_both, maker_quiet, pending, TaskFits, GoesOn, OwnGo, go_own, LineFits, OwnStart, starts_own}

abbrev pub AllFit : Config → List Action → Type 0
AllFit config [] = ⊤
AllFit config (x ∷ xs) = LineFits config (started xs) x × AllFit config xs

-- with this task and these lines, this is what is to be begun still
pub record Stands (config : Config) (w : World) (all : List Action) (task : Task) (line : ℕ) (before : List ℕ → List Command) : Type 0 where
  pub rest : List Action
  pub behind : drop line all ≡ rest
  pub ahead : (actor : List ℕ) → before actor ≡ pending (played_at all line) task actor ++ asked_of rest actor
  pub held : MainHeld w task
  pub fits : TaskFits config (played_at all line) task
  pub lines_fit : AllFit config rest
  pub unbegun : AllNamed (λ n. NoneOpen w n) (started rest)
  pub apart : AllNamed (λ n. main_name ≢ n) (started rest)

abbrev pub OwnMove : Config → World → List Action → (List ℕ → List Command) → Move → Type 0
OwnMove config w all before (moves.Makes e q) =
    (later : List ℕ → List Command) × ((actor : List ℕ) → before actor ≡ begun_by e actor ++ later actor) × Stands config (after config w e) all q.task q.line later
OwnMove config w all before (moves.Notes refused q) = Stands config w all q.task q.line before
OwnMove config w all before (moves.Blocked name) = ⊤
OwnMove config w all before moves.Over = (actor : List ℕ) → before actor ≡ []

drop_suc : (all : List Action) (k : ℕ) (x : Action) (xs : List Action) → drop k all ≡ x ∷ xs → drop (suc k) all ≡ xs
drop_suc [] zero x xs h = absurd (let none : ◌≡◌ {A = List Action} [] (x ∷ xs) = h in cc)
drop_suc [] (suc k) x xs h = absurd (let none : ◌≡◌ {A = List Action} [] (x ∷ xs) = h in cc)
drop_suc (y ∷ ys) zero x xs h = cc
drop_suc (y ∷ ys) (suc k) x xs h = drop_suc ys k x xs h

pub drop_next : (all : List Action) (k : ℕ) (x : Action) (xs : List Action) → drop k all ≡ x ∷ xs → drop (k + 1) all ≡ xs
drop_next all k x xs h = let one : suc k ≡ k + 1 = omega arith in subst (λ (n : ℕ). drop n all ≡ xs) one (drop_suc all k x xs h)

-- the line before the next place is the one at this place
numbered_drop : (all : List Action) (k : ℕ) (x : Action) (xs : List Action) → drop k all ≡ x ∷ xs → numbered all (suc k) ≡ Some x
numbered_drop [] zero x xs h = absurd (let none : ◌≡◌ {A = List Action} [] (x ∷ xs) = h in cc)
numbered_drop [] (suc k) x xs h = absurd (let none : ◌≡◌ {A = List Action} [] (x ∷ xs) = h in cc)
numbered_drop (y ∷ ys) zero x xs h = cc
numbered_drop (y ∷ ys) (suc k) x xs h = numbered_drop ys k x xs h

played_next : (all : List Action) (k : ℕ) (x : Action) (xs : List Action) → drop k all ≡ x ∷ xs → played_at all (k + 1) ≡ command_of x
played_next all k x xs h =
    let one : suc k ≡ k + 1 = omega arith in
    subst (λ (n : ℕ). played_at all n ≡ command_of x) one (ap (λ (o : Option Action). o >>= command_of) (numbered_drop all k x xs h))

pub named_tail : (P : List ℕ → Type 0) (xs ys : List (List ℕ)) → AllNamed P (xs ++ ys) → AllNamed P ys
named_tail P [] ys h = h
named_tail P (x ∷ xs) ys h = named_tail P xs ys h.1

-- ---- a line

line_stands : (config : Config) (w : World) (all : List Action) (line : ℕ) (rest : List Action) (names_before : List ℕ → List Command) (before : List ℕ → List Command) (e : Event) (task : Task)
    → drop line all ≡ rest → ((actor : List ℕ) → before actor ≡ names_before actor ++ asked_of rest actor) → AllFit config rest → AllNamed (λ n. NoneOpen w n) (started rest)
    → AllNamed (λ n. main_name ≢ n) (started rest) → GoesOn config w names_before (started rest) (played_at all line) e task
    → (later : List ℕ → List Command) × ((actor : List ℕ) → before actor ≡ begun_by e actor ++ later actor) × Stands config (after config w e) all task line later
line_stands config w all line rest names_before before e task behind is lines_fit unbegun apart h = (
  λ actor. pending (played_at all line) task actor ++ asked_of rest actor,
  λ actor.
      is actor
      ∙ ap (λ (xs : List Command). xs ++ asked_of rest actor) (h.begins actor)
      ∙ append_assoc (begun_by e actor) (pending (played_at all line) task actor) (asked_of rest actor),
  record {
    rest = rest;
    behind = behind;
    ahead = λ actor. refl;
    held = h.held;
    fits = h.fits;
    lines_fit = lines_fit;
    unbegun = named_both (λ n. NoneOpen w n) (λ n. begun_by e n ≡ []) (λ n. NoneOpen (after config w e) n) (λ n none spared. none_after config w e n spared none) (started rest) unbegun h.spares;
    apart = apart;
  },
)

first_own : (config : Config) (w : World) (all : List Action) (noted at : ℕ) (line : Action) (lines : List Action) (before : List ℕ → List Command) (start : Start) (rest : Move)
    → drop (at + 1) all ≡ lines → ((actor : List ℕ) → before actor ≡ asks_for line actor ++ asked_of lines actor) → AllFit config lines → AllNamed (λ n. NoneOpen w n) (started lines)
    → AllNamed (λ n. main_name ≢ n) (started lines) → OwnStart config w (asks_for line) (started lines) (played_at all (at + 1)) start
    → (((actor : List ℕ) → before actor ≡ asked_of lines actor) → OwnMove config w all before rest) → OwnMove config w all before (first_of noted at start rest)
first_own config w all noted at line lines before (starts_as.Goes (goes.Makes e task)) rest behind is fit unbegun apart h later =
    line_stands config w all (at + 1) lines (asks_for line) before e task behind is fit unbegun apart h
first_own config w all noted at line lines before (starts_as.Goes (goes.Blocked name)) rest behind is fit unbegun apart h later = tt
first_own config w all noted at line lines before (starts_as.Goes goes.Finished) rest behind is fit unbegun apart h later =
    later (λ actor. is actor ∙ ap (λ (xs : List Command). xs ++ asked_of lines actor) (h.none_left actor))
first_own config w all noted at line lines before (starts_as.Notes refused) rest behind is fit unbegun apart h later = record {
  rest = lines;
  behind = behind;
  ahead = λ actor. is actor ∙ ap (λ (xs : List Command). xs ++ asked_of lines actor) (h.none_left actor);
  held = h.free;
  fits = tt;
  lines_fit = fit;
  unbegun = unbegun;
  apart = apart;
}

start_own : (config : Config) (w : World) (all : List Action) (noted at : ℕ) (lines : List Action) (before : List ℕ → List Command) → FreeMayBegin config w → NoneOpen w main_name
    → drop at all ≡ lines → ((actor : List ℕ) → before actor ≡ asked_of lines actor) → AllFit config lines → AllNamed (λ n. NoneOpen w n) (started lines)
    → AllNamed (λ n. main_name ≢ n) (started lines) → OwnMove config w all before (start_at config w noted at lines)
start_own config w all noted at [] before free none behind is fit unbegun apart = is
start_own config w all noted at (line ∷ lines) before free none behind is fit unbegun apart =
    let next = drop_next all at line lines behind in
    let later = named_tail (λ n. NoneOpen w n) (started_by line) (started lines) unbegun in
    let others = named_tail (λ n. main_name ≢ n) (started_by line) (started lines) apart in
    first_own config w all noted at line lines before (starts config w line) (start_at config w noted (at + 1) lines) next is fit.1 later others
    (subst (λ (o : Option Command). OwnStart config w (asks_for line) (started lines) o (starts config w line)) (sym (played_next all at line lines behind))
    (starts_own config w line lines free none unbegun fit.0 others))
    (λ same. start_own config w all noted (at + 1) lines before free none next same fit.1 later others)

-- ---- a move

move_on_own : (config : Config) (w : World) (all : List Action) (p : Player) (g : Go) (before : List ℕ → List Command) → FreeMayBegin config w → (h : Stands config w all p.task p.line before)
    → OwnGo config w (pending (played_at all p.line) p.task) (started h.rest) (played_at all p.line) g → OwnMove config w all before (move_on config w all p g)
move_on_own config w all p (goes.Makes e task) before free h go =
    line_stands config w all p.line h.rest (pending (played_at all p.line) p.task) before e task h.behind h.ahead h.lines_fit h.unbegun h.apart go
move_on_own config w all p (goes.Blocked name) before free h go = tt
move_on_own config w all p goes.Finished before free h go =
    subst (λ (ls : List Action). OwnMove config w all before (start_at config w p.noted p.line ls)) (sym h.behind)
    (start_own config w all p.noted p.line h.rest before free go.free h.behind
    (λ actor. h.ahead actor ∙ ap (λ (xs : List Command). xs ++ asked_of h.rest actor) (go.none_left actor)) h.lines_fit h.unbegun h.apart)

wanting_own : (config : Config) (w : World) (all : List Action) (p : Player) (o : Option Want) (before : List ℕ → List Command) → FreeMayBegin config w
    → Stands config w all p.task p.line before → OwnMove config w all before (wanting config w all p o)
wanting_own config w all p None before free h =
    move_on_own config w all p (go_on config w all p.line p.task) before free h (go_own config w (started h.rest) all p.line p.task free h.held h.fits h.apart)
wanting_own config w all p (Some m) before free h =
    let e : Event = leaves w m.command in
    let quiet = maker_quiet e m.command (leaving_is_own w m.command) in (
      before,
      λ actor. ap (λ (xs : List Command). xs ++ before actor) (sym (quiet actor)),
      record {
        rest = h.rest;
        behind = h.behind;
        ahead = h.ahead;
        held = held_after config w e p.task p.task (quiet main_name) (λ c k. k) h.held;
        fits = h.fits;
        lines_fit = h.lines_fit;
        unbegun = named_map (λ n. NoneOpen w n) (λ n. NoneOpen (after config w e) n) (λ n none. none_after config w e n (quiet n) none) (started h.rest) h.unbegun;
        apart = h.apart;
      },
    )

pub move_own : (config : Config) (wants : List Want) (w : World) (all : List Action) (p : Player) (before : List ℕ → List Command) → FreeMayBegin config w
    → Stands config w all p.task p.line before → OwnMove config w all before (move config wants all w p)
move_own config wants w all p before free h = wanting_own config w all p (wanted w p.noted wants) before free h

-- What is played begins the commands of each actor in the order of its program, and where it is over all of them.
use Rattle.std.proofs.Common.{◌≡◌, ◌≢◌, ℕ, zero, suc, ◌==◌, List, [], ◌∷◌, ◌++◌, Bool, true, false, cond, Option, Some, None, length, refl, ap, sym, subst, ◌∙◌}
use Rattle.std.specs.Prelude.{All}
use Rattle.std.proofs.lemmas.List.{append_assoc, append-nil}
use Rattle.std.proofs.lemmas.List.Elements.{All-head, All-tail}
use Rattle.shard_base.specs.Lists.{IsFront}
use Rattle.shard_calls.specs.World.{Config, World, opening, main_name}
use Rattle.shard_calls.specs.Begins.{names_declared}
use Rattle.shard_calls.specs.Table.{after, world_after, IsRun, IsRunFrom, IsStep}
use Rattle.shard_calls.specs.declared.command.Command.{Command}
use Rattle.shard_calls.specs.declared.command.Command.TheVariants as commands
use Rattle.shard_calls.specs.declared.event.Event.{Event}
use Rattle.shard_calls.specs.declared.event.Step.{Step}
use Rattle.shard_script.specs.declared.script.Action.{Action}
use Rattle.shard_script.specs.declared.script.Action.TheVariants as actions
use Rattle.shard_script.specs.declared.script.Script.{Script}
use Rattle.shard_script.specs.Aliases.{aliases_in, IsDeclared, NamesDeclared}
use Rattle.shard_script.specs.Names.{started, started_by, NamesDiffer}
use Rattle.script_commands.specs.Words.{IsName}
use Rattle.shard_script.specs.Script.{Fits, IsInTime}
use Rattle.shard_script.proofs.DeclaredLemmas.{found}
use Rattle.shard_core.specs.Pending.{FreeMayBegin}
use Rattle.shard_calls.specs.declared.state.CommandState.{CommandState}
use Rattle.shard_core.proofs.PendingLemmas.{actors_fit_always}
use Rattle.vtctld_text.specs.declared.note.RefusedAction.{RefusedAction}
use Rattle.shard_top.specs.declared.player.Player.{Player}
use Rattle.shard_top.specs.declared.player.Move.{Move}
use Rattle.shard_top.specs.declared.player.Move.TheVariants as moves
use Rattle.shard_top.specs.declared.player.Stop.{Stop}
use Rattle.shard_top.specs.declared.player.Stop.TheVariants as stops
use Rattle.shard_top.specs.Played.{Want, move, Made, Stepped, Noted, steps_of, notes_of, IsMade, Plays, player_by, player_after, first_player, stop_by, config_of, world_by, IsRunOf}
use Rattle.shard_top.specs.Programs.{begun_by, own, program}
use Rattle.shard_top.proofs.LongerLemmas.{world_more}
use Rattle.shard_top.proofs.LawLemmas.{played_is_run, run_more}
use Rattle.shard_top.proofs.ProgramLemmas.{NoneOpen, AllNamed, named_map, LineFits}
use Rattle.shard_top.proofs.ProgramMoves.{AllFit, Stands, OwnMove, move_own, named_tail}

-- so much has begun, and so it stands
record Begun (config : Config) (w : World) (all : List Action) (p : Player) (steps : List Step) (before : List ℕ → List Command) : Type 0 where
  later : List ℕ → List Command
  begins : (actor : List ℕ) → before actor ≡ own steps actor ++ later actor
  stands : Stands config (world_after config w steps) all p.task p.line later

by_step : (config : Config) (wants : List Want) (w : World) (all : List Action) (p : Player) (m : Move) (s : Step) (made : List Made) (before : List ℕ → List Command) → OwnMove config w all before m
    → IsMade config w m (Stepped s) (λ v q. Plays config wants all v q made)
    → ((q : Player) (later : List ℕ → List Command) → Plays config wants all (after config w s.event) q made → Stands config (after config w s.event) all q.task q.line later
    → Begun config (after config w s.event) all (player_after config wants all (after config w s.event) q made) (steps_of made) later)
    → Begun config w all (player_after config wants all (world_by config w m) (player_by p m) made) (s ∷ steps_of made) before
by_step config wants w all p (moves.Makes e q) s made before own_move h on =
    let event : s.event ≡ e = ap (λ (t : Step). t.event) h.0 in
    let later : List ℕ → List Command = own_move.0 in
    let plays = subst (λ (v : Event). Plays config wants all (after config w v) q made) (sym event) h.1 in
    let stands = subst (λ (v : Event). Stands config (after config w v) all q.task q.line later) (sym event) own_move.2 in
    let b = on q later plays stands in
    subst (λ (v : Event). Begun config w all (player_after config wants all (after config w v) q made) (s ∷ steps_of made) before) event (record {
      later = b.later;
      begins =
          λ actor.
          subst (λ (v : Event). before actor ≡ begun_by v actor ++ later actor) (sym event) (own_move.1 actor)
          ∙ ap (λ (xs : List Command). begun_by s.event actor ++ xs) (b.begins actor)
          ∙ sym (append_assoc (begun_by s.event actor) (own (steps_of made) actor) (b.later actor));
      stands = b.stands;
    })
by_step config wants w all p (moves.Notes refused q) s made before own_move h on = absurd h
by_step config wants w all p (moves.Blocked name) s made before own_move h on = absurd h
by_step config wants w all p moves.Over s made before own_move h on = absurd h

by_note : (config : Config) (wants : List Want) (w : World) (all : List Action) (p : Player) (m : Move) (r : RefusedAction) (made : List Made) (before : List ℕ → List Command) → OwnMove config w all before m
    → IsMade config w m (Noted r) (λ v q. Plays config wants all v q made)
    → ((q : Player) → Plays config wants all w q made → Stands config w all q.task q.line before → Begun config w all (player_after config wants all w q made) (steps_of made) before)
    → Begun config w all (player_after config wants all (world_by config w m) (player_by p m) made) (steps_of made) before
by_note config wants w all p (moves.Makes e q) r made before own_move h on = absurd h
by_note config wants w all p (moves.Notes refused q) r made before own_move h on = on q h.1 own_move
by_note config wants w all p (moves.Blocked name) r made before own_move h on = absurd h
by_note config wants w all p moves.Over r made before own_move h on = absurd h

begun_from : (config : Config) (wants : List Want) (all : List Action) (done : List Step) (w : World) (p : Player) (made : List Made) (before : List ℕ → List Command)
    → w ≡ world_after config (opening config) done → IsRun config done → IsRunFrom config w (steps_of made) → Plays config wants all w p made → Stands config w all p.task p.line before
    → Begun config w all (player_after config wants all w p made) (steps_of made) before
begun_from config wants all done w p [] before is run rest h stands = record { later = before; begins = λ actor. refl; stands = stands }
begun_from config wants all done w p (Noted r ∷ made) before is run rest h stands =
    let free = subst (λ (v : World). FreeMayBegin config v) (sym is) (actors_fit_always config done run).free in
    by_note config wants w all p (move config wants all w p) r made before (move_own config wants w all p before free stands) h
    (λ q plays now. begun_from config wants all done w q made before is run rest plays now)
begun_from config wants all done w p (Stepped s ∷ made) before is run rest h stands =
    let free = subst (λ (v : World). FreeMayBegin config v) (sym is) (actors_fit_always config done run).free in
    let next : after config w s.event ≡ world_after config (opening config) (done ++ s ∷ []) = ap (λ (v : World). after config v s.event) is ∙ sym (world_more config (opening config) done s) in
    by_step config wants w all p (move config wants all w p) s made before (move_own config wants w all p before free stands) h
    (λ q later plays now.
    begun_from config wants all (done ++ s ∷ []) (after config w s.event) q made later next (run_more config (opening config) done s run (subst (λ (v : World). IsStep config v s) is rest.0)) rest.1 plays now)

-- ---- a script that fits

command_declared : (config : Config) (command : Command) → All (IsDeclared config.tablets) (aliases_in command) → names_declared config command ≡ true
command_declared config (commands.Planned shard given avoid expected timeout allow_cross_cell) h = refl
command_declared config (commands.Emergency shard given ignored expected timeout prevent_cross_cell) h = refl
command_declared config (commands.External a) h = refl
command_declared config commands.Vtorc h = refl
command_declared config (commands.Write None) h = refl
command_declared config (commands.Write (Some a)) h = found config.tablets a (All-head (IsDeclared config.tablets) a [] h)
command_declared config (commands.Show a) h = found config.tablets a (All-head (IsDeclared config.tablets) a [] h)
command_declared config (commands.GetShard shard) h = refl
command_declared config (commands.GetTablets shard) h = refl

named_of : (P : List ℕ → Type 0) (ns : List (List ℕ)) → All P ns → AllNamed P ns
named_of P [] h = tt
named_of P (n ∷ ns) h = (All-head P n ns h, named_of P ns (All-tail P n ns h))

differ_tail : (xs ys : List (List ℕ)) → NamesDiffer (xs ++ ys) → NamesDiffer ys
differ_tail [] ys h = h
differ_tail (x ∷ xs) ys h = differ_tail xs ys h.1

line_fits : (config : Config) (x : Action) (names : List (List ℕ)) → IsInTime x → NamesDeclared config.tablets x → NamesDiffer (started_by x ++ names) → AllNamed (λ n. main_name ≢ n) (started_by x ++ names)
    → LineFits config names x
line_fits config (actions.Play command n) names soon declared differ apart = record { in_time = soon; declared = command_declared config command declared }
line_fits config (actions.Start name command) names soon declared differ apart = (
  record { in_time = soon; declared = command_declared config command declared },
  ((λ h. apart.0 (sym h)), named_of (λ n. name ≢ n) names differ.0),
)
line_fits config (actions.Turn name pumps) names soon declared differ apart = tt
line_fits config (actions.Finish name) names soon declared differ apart = tt
line_fits config actions.Settle names soon declared differ apart = tt
line_fits config (actions.Local a) names soon declared differ apart = tt
line_fits config (actions.Crash a keep) names soon declared differ apart = tt
line_fits config (actions.Restart a) names soon declared differ apart = tt
line_fits config (actions.Cut x y) names soon declared differ apart = tt
line_fits config (actions.Mend x y) names soon declared differ apart = tt
line_fits config (actions.Lose message) names soon declared differ apart = tt
line_fits config (actions.Repeat message) names soon declared differ apart = tt
line_fits config actions.Lapse names soon declared differ apart = tt
line_fits config (actions.Tick ms) names soon declared differ apart = tt

all_fit : (config : Config) (xs : List Action) → All IsInTime xs → All (NamesDeclared config.tablets) xs → NamesDiffer (started xs) → AllNamed (λ n. main_name ≢ n) (started xs) → AllFit config xs
all_fit config [] soon declared differ apart = tt
all_fit config (x ∷ xs) soon declared differ apart = (
  line_fits config x (started xs) (All-head IsInTime x xs soon) (All-head (NamesDeclared config.tablets) x xs declared) differ apart,
  all_fit config xs (All-tail IsInTime x xs soon) (All-tail (NamesDeclared config.tablets) x xs declared) (differ_tail (started_by x) (started xs) differ)
      (named_tail (λ n. main_name ≢ n) (started_by x) (started xs) apart),
)

none_begun : (config : Config) (name : List ℕ) → NoneOpen (opening config) name
none_begun config name zero s h is = (let none : ◌≡◌ {A = Option CommandState} None (Some s) = h in cc)
none_begun config name (suc k) s h is = (let none : ◌≡◌ {A = Option CommandState} None (Some s) = h in cc)

stands_first : (s : Script) → Fits s → Stands (config_of s) (opening (config_of s)) s.actions first_player.task first_player.line (program s)
stands_first s f =
    let config : Config = config_of s in
    let names : AllNamed (λ n. IsName n) (started s.actions) = subst (λ (ns : List (List ℕ)). AllNamed (λ n. IsName n) ns) f.starts (named_of (λ n. IsName n) s.names f.are_names) in
    let apart = named_map (λ n. IsName n) (λ n. main_name ≢ n) (λ n is same. is.not_main (sym same)) (started s.actions) names in
    record {
      rest = s.actions;
      behind = refl;
      ahead = λ actor. refl;
      held = none_begun config main_name;
      fits = tt;
      lines_fit = all_fit config s.actions f.in_time f.declared (subst (λ (ns : List (List ℕ)). NamesDiffer ns) f.starts f.names_differ) apart;
      unbegun = named_map (λ n. IsName n) (λ n. NoneOpen (opening config) n) (λ n is. none_begun config n) (started s.actions) names;
      apart = apart;
    }

begun : (s : Script) (wants : List Want) (made : List Made) (stop : Stop) → Fits s → IsRunOf s wants made stop
    → Begun (config_of s) (opening (config_of s)) s.actions (player_after (config_of s) wants s.actions (opening (config_of s)) first_player made) (steps_of made) (program s)
begun s wants made stop f run =
    begun_from (config_of s) wants s.actions [] (opening (config_of s)) first_player made (program s) refl tt (played_is_run s wants made f run.played).0 run.played (stands_first s f)

-- what an actor has begun is a front of its program
pub own_front : (s : Script) (wants : List Want) (made : List Made) (stop : Stop) → Fits s → IsRunOf s wants made stop → (actor : List ℕ) → IsFront (own (steps_of made) actor) (program s actor)
own_front s wants made stop f run actor = let b = begun s wants made stop f run in record { rest = b.later actor; split = b.begins actor }

none_later : (config : Config) (w : World) (all : List Action) (n j : ℕ) (m : Move) (before : List ℕ → List Command) → OwnMove config w all before m → stop_by n j m ≡ Some stops.Over
    → (actor : List ℕ) → before actor ≡ []
none_later config w all n j (moves.Makes e q) before h is = of_test (n == 1000000) is
  where
    of_test : (b : Bool) → cond b (Some stops.Full) None ≡ Some stops.Over → (actor : List ℕ) → before actor ≡ []
    of_test true k = absurd (let never : ◌≡◌ {A = Option Stop} (Some stops.Full) (Some stops.Over) = k in cc)
    of_test false k = absurd (let never : ◌≡◌ {A = Option Stop} None (Some stops.Over) = k in cc)
none_later config w all n j (moves.Notes refused q) before h is = of_test (j == 1000000) is
  where
    of_test : (b : Bool) → cond b (Some stops.Full) None ≡ Some stops.Over → (actor : List ℕ) → before actor ≡ []
    of_test true k = absurd (let never : ◌≡◌ {A = Option Stop} (Some stops.Full) (Some stops.Over) = k in cc)
    of_test false k = absurd (let never : ◌≡◌ {A = Option Stop} None (Some stops.Over) = k in cc)
none_later config w all n j (moves.Blocked name) before h is = absurd (let never : ◌≡◌ {A = Option Stop} (Some (stops.Blocked name)) (Some stops.Over) = is in cc)
none_later config w all n j moves.Over before h is = h

-- where all is done it has begun them all
pub own_all : (s : Script) (wants : List Want) (made : List Made) (stop : Stop) → Fits s → IsRunOf s wants made stop → stop ≡ stops.Over → (actor : List ℕ)
    → own (steps_of made) actor ≡ program s actor
own_all s wants made stop f run over actor =
    let b = begun s wants made stop f run in
    let p : Player = player_after (config_of s) wants s.actions (opening (config_of s)) first_player made in
    let w : World = world_after (config_of s) (opening (config_of s)) (steps_of made) in
    let free = (actors_fit_always (config_of s) (steps_of made) (played_is_run s wants made f run.played).0).free in
    let none =
    none_later (config_of s) w s.actions (length (steps_of made)) (length (notes_of made)) (move (config_of s) wants s.actions w p) b.later
    (move_own (config_of s) wants w s.actions p b.later free b.stands) (subst (λ (v : Stop). stop_by (length (steps_of made)) (length (notes_of made)) (move (config_of s) wants s.actions w p) ≡ Some v) over run.stopped) actor in
    sym (append-nil (own (steps_of made) actor)) ∙ sym (b.begins actor ∙ ap (λ (xs : List Command). own (steps_of made) actor ++ xs) none)

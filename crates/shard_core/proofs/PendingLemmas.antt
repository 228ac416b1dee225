-- Actors and their commands fit each other after every run.
use Rattle.std.proofs.Common.{◌≡◌, ◌⊎◌, inl, inr, ℕ, zero, suc, ◌<◌, List, [], ◌∷◌, Bool, true, false, not, Option, Some, None, cond, ◌&&◌, is_none, refl, ap, sym, ◌∙◌}
use Rattle.std.proofs.lemmas.Bool.{false≢true, cases_order}
use Rattle.std.specs.List.{slice_get}
use Rattle.shard_base.specs.Options.{◌>>=◌}
use Rattle.shard_calls.specs.declared.event.Event.{Event}
use Rattle.shard_calls.specs.declared.event.Event.TheVariants as events
use Rattle.shard_calls.specs.declared.event.Step.{Step}
use Rattle.shard_calls.specs.declared.state.ActorState.{ActorState}
use Rattle.shard_calls.specs.declared.state.CommandState.{CommandState}
use Rattle.shard_calls.specs.World.{Config, World, opening, idle_actor, main_name, numbered, place_of, open_at, open_of, if_open, open_command, term_of}
use Rattle.shard_calls.specs.Begins.{is_in_time, names_declared}
use Rattle.shard_calls.specs.Messages.{why_given_up, offer_to}
use Rattle.shard_calls.specs.Writes.{tell_of, told_act}
use Rattle.shard_calls.specs.Table.{Met, after, world_after, IsRunFrom}
use Rattle.shard_names.proofs.TabletLemmas.{both, both_left}
use Rattle.shard_core.proofs.KnownLemmas.{open_numbered}
use Rattle.shard_core.specs.Pending.{PendingIsOpen, OpenIsPending, FreeMayBegin, EndedMayBegin, ActorsFitAlways}
use Rattle.shard_core.proofs.ActorLemmas.{at_place}
use Rattle.shard_core.proofs.CommandFitLemmas.{delivery_alone, up_alone, offer_alone, local_alone}
use Rattle.shard_core.proofs.MatchLemmas.{Match, take_match, read_match, intend_match, record_match, drain_match, release_match, act_match, write_match, tell_match, alone_match}
use Rattle.shard_core.proofs.BeginLemmas.{same_actor, pends, begin_match}
use Rattle.shard_core.proofs.EndLemmas.{open_runs, same_state, ends_match}

-- ---- any row

match_on : (config : Config) (w : World) (e : Event) → Met config w e → Match w.actors w.commands → Match (after config w e).actors (after config w e).commands
match_on config w (events.Begin name command) met h =
    begin_match w name command
    (both_left (is_none (open_of w.actors name)) (is_in_time command)
    (both_left (is_none (open_of w.actors name) && is_in_time command) (names_declared config command) met)) h
match_on config w (events.Take c) met h = take_match w c (open_command w c) h
match_on config w (events.Read c) met h = read_match w c (term_of w c) h
match_on config w (events.Intend c a) met h = intend_match w c a (term_of w c) h
match_on config w (events.Record c a) met h = record_match w c a (term_of w c) h
match_on config w (events.Drain c a) met h = drain_match w c a (term_of w c) h
match_on config w (events.Release c) met h = release_match w c (term_of w c) h
match_on config w events.Lapse met h = h
match_on config w (events.Send c a call) met h = act_match w c _ h
match_on config w (events.Deliver k) met h = alone_match w _ (delivery_alone config w k (numbered w.post k)) h
match_on config w (events.GiveUp c k) met h = alone_match w _ (up_alone w k (why_given_up w c k)) h
match_on config w (events.Offer r) met h = alone_match w _ (offer_alone w (offer_to w r)) h
match_on config w (events.Write c a) met h = write_match config w c a (open_command w c) h
match_on config w (events.Tell c) met h = tell_match w c (tell_of w c >>= told_act) h
match_on config w (events.Local a) met h = alone_match w _ (local_alone config w a) h
match_on config w (events.Crash a keep) met h = h
match_on config w (events.Restart a) met h = h
match_on config w (events.Cut x y) met h = h
match_on config w (events.Mend x y) met h = h
match_on config w (events.Lose k) met h = h
match_on config w (events.Tick ms) met h = h
match_on config w (events.End c x) met h = ends_match w c (open_command w c) refl h

match_from : (config : Config) (w : World) (ss : List Step) → Match w.actors w.commands → IsRunFrom config w ss
    → Match (world_after config w ss).actors (world_after config w ss).commands
match_from config w [] h run = h
match_from config w (s ∷ ss) h run = match_from config (after config w s.event) ss (match_on config w s.event run.0.met h) run.1

none_numbered : (c : ℕ) (s : CommandState) → (let none : List CommandState = [] in numbered none c) ≡ Some s → ⊥
none_numbered zero s h = (let none : None ≡ Some s = h in cc)
none_numbered (suc k) s h = (let none : None ≡ Some s = h in cc)

match_opening : (config : Config) → Match (opening config).actors (opening config).commands
match_opening config = record {
  pending = λ k c a here is. absurd (idle k c a here is);
  opens = λ c s here runs. absurd (none_numbered c s here);
  places = λ c s here. absurd (none_numbered c s here);
  earlier = λ c d s x here there same less. absurd (none_numbered c s here);
}
  where
    idle : (k c : ℕ) (a : ActorState) → slice_get (idle_actor main_name ∷ []) k ≡ Some a → a.pending ≡ Some c → ⊥
    idle zero c a here is =
        (let same : idle_actor main_name ≡ a = cc in let never : None ≡ Some c = ap (λ (v : ActorState). v.pending) same ∙ is in cc)
    idle (suc k) c a here is = (let none : None ≡ Some a = here in cc)

-- ---- what it says of actors and commands

-- who gave the command that stands at this place
owner : (w : World) (c k : ℕ) (s : CommandState) (a : ActorState) → Match w.actors w.commands → numbered w.commands c ≡ Some s → s.client ≡ k
    → slice_get w.actors k ≡ Some a → s.actor ≡ a.name
owner w c k s a h here at there = of_named (at_place w.actors s.actor k (h.places c s here ∙ ap (λ (n : ℕ). Some n) at))
  where
    of_named : ((b : ActorState) × (slice_get w.actors k ≡ Some b) × (b.name ≡ s.actor)) → s.actor ≡ a.name
    of_named b = sym b.2 ∙ ap (λ (v : ActorState). v.name) (same_actor w.actors k b.0 a b.1 there)

still_open : (w : World) (c : ℕ) (s : CommandState) → numbered w.commands c ≡ Some s → s.ended ≡ false → open_command w c ≡ Some s
still_open w c s here runs = ap (λ (o : Option CommandState). if_open o) here ∙ ap (λ (v : Bool). cond (not v) (Some s) None) runs

pending_of : (w : World) (name : List ℕ) (c k : ℕ) (a : ActorState) → Match w.actors w.commands → slice_get w.actors k ≡ Some a → a.name ≡ name
    → a.pending ≡ Some c → (s : CommandState) × (open_command w c ≡ Some s) × (s.actor ≡ name)
pending_of w name c k a h at named has =
    let s = h.pending k c a at has in (s.0, still_open w c s.0 s.1 s.2, owner w c k s.0 a h s.1 s.3 at ∙ named)

pending_at : (w : World) (name : List ℕ) (c : ℕ) (o : Option ℕ) → Match w.actors w.commands → place_of w.actors name ≡ o → open_at w.actors o ≡ Some c
    → (s : CommandState) × (open_command w c ≡ Some s) × (s.actor ≡ name)
pending_at w name c None h is at = absurd (let none : None ≡ Some c = at in cc)
pending_at w name c (Some k) h is at = of_place (at_place w.actors name k is)
  where
    of_place : ((a : ActorState) × (slice_get w.actors k ≡ Some a) × (a.name ≡ name)) → (s : CommandState) × (open_command w c ≡ Some s) × (s.actor ≡ name)
    of_place a = pending_of w name c k a.0 h a.1 a.2 (sym (ap (λ (o : Option ActorState). o >>= (λ v. v.pending)) a.1) ∙ at)

pending_is_open : (w : World) → Match w.actors w.commands → PendingIsOpen w
pending_is_open w h name c at = pending_at w name c (place_of w.actors name) h refl at

open_is_pending : (w : World) → Match w.actors w.commands → OpenIsPending w
open_is_pending w h c s found =
    pends w.actors w.commands c s h (open_numbered (numbered w.commands c) s found) (open_runs (numbered w.commands c) s found)

free_begins : (config : Config) (w : World) → PendingIsOpen w → FreeMayBegin config w
free_begins config w h name command soon declared free =
    both (is_none (open_of w.actors name) && is_in_time command) (names_declared config command)
    (both (is_none (open_of w.actors name)) (is_in_time command) (of_option (open_of w.actors name) refl) soon) declared
  where
    of_option : (o : Option ℕ) → open_of w.actors name ≡ o → is_none o ≡ true
    of_option None is = refl
    of_option (Some c) is = let s = h name c is in absurd (free c s.0 s.1 s.2)

ended_begins : (config : Config) (w : World) → Match w.actors w.commands → EndedMayBegin config w
ended_begins config w h c s command soon declared here ended last = free_begins config w (pending_is_open w h) s.actor command soon declared none
  where
    by_order : (d : ℕ) (x : CommandState) → numbered w.commands d ≡ Some x → x.ended ≡ false → x.actor ≡ s.actor → (c ≡ d) ⊎ ((c < d) ⊎ (d < c)) → ⊥
    by_order d x there runs whose (inl k) =
        let same : s ≡ x = same_state w.commands d s x (ap (λ (n : ℕ). numbered w.commands n) (sym k) ∙ here) there in
        false≢true (sym runs ∙ ap (λ (v : CommandState). v.ended) (sym same) ∙ ended)
    by_order d x there runs whose (inr (inl k)) = last d x there whose k
    by_order d x there runs whose (inr (inr k)) = false≢true (sym runs ∙ h.earlier d c x s there here whose k)

    none : (d : ℕ) (x : CommandState) → open_command w d ≡ Some x → x.actor ≡ s.actor → ⊥
    none d x found whose =
        by_order d x (open_numbered (numbered w.commands d) x found) (open_runs (numbered w.commands d) x found) whose (cases_order c d)

pub actors_fit_always : ActorsFitAlways
actors_fit_always config steps run =
    let w : World = world_after config (opening config) steps in
    let h : Match w.actors w.commands = match_from config (opening config) steps (match_opening config) run in
    record {
      pending = pending_is_open w h;
      opens = open_is_pending w h;
      earlier = h.earlier;
      free = free_begins config w (pending_is_open w h);
      ended = ended_begins config w h;
    }

-- What is kept of actors and their commands, where one begins.
use Rattle.std.proofs.Common.{◌≡◌, ◌⊎◌, inl, inr, ℕ, ◌+◌, ◌<◌, List, [], ◌∷◌, ◌++◌, Bool, true, false, Option, Some, None, is_none, length, refl, ap, sym, subst, ◌∙◌, arith}
use Rattle.std.proofs.lemmas.Bool.{false≢true}
use Rattle.std.specs.List.{slice_get}
use Rattle.shard_base.specs.Options.{◌>>=◌}
use Rattle.shard_calls.specs.declared.command.Command.{Command}
use Rattle.shard_calls.specs.declared.state.ActorState.{ActorState}
use Rattle.shard_calls.specs.declared.state.CommandState.{CommandState}
use Rattle.shard_calls.specs.World.{World, idle_actor, changed, numbered, place_of, open_at, open_of}
use Rattle.shard_calls.specs.Begins.{opens, client_at, client_of, joined_at, with_actor, begun_state}
use Rattle.shard_calls.proofs.ListLemmas.{slice_get-append, slice_get-push_cases, at_end, numbered-push_cases, changed_cases}
use Rattle.shard_core.proofs.ActorLemmas.{changed_other, changed_here, numbered-append, numbered_end, numbered_within, place_changed, place_append, place_new, at_place}
use Rattle.shard_core.proofs.MatchLemmas.{Match}

-- the actors with this one among them, at place k
record Joined (actors xs : List ActorState) (name : List ℕ) (k : ℕ) : Type 0 where
  actor : ActorState
  here : slice_get xs k ≡ Some actor
  idle : actor.pending ≡ None
  kept : (j : ℕ) (a : ActorState) → slice_get actors j ≡ Some a → slice_get xs j ≡ Some a
  known : (j c : ℕ) (a : ActorState) → slice_get xs j ≡ Some a → a.pending ≡ Some c → slice_get actors j ≡ Some a
  places : (other : List ℕ) (j : ℕ) → place_of actors other ≡ Some j → place_of xs other ≡ Some j
  place : place_of xs name ≡ Some k

none_open : (o : Option ℕ) → is_none o ≡ true → o ≡ None
none_open None h = refl
none_open (Some n) h = absurd (false≢true h)

joined : (actors : List ActorState) (name : List ℕ) (o : Option ℕ) → place_of actors name ≡ o → open_at actors o ≡ None
    → Joined actors (joined_at actors name o) name (client_at actors o)
joined actors name None is none = record {
  actor = idle_actor name;
  here = at_end actors (idle_actor name);
  idle = refl;
  kept = λ j a here. slice_get-append actors (idle_actor name ∷ []) j a here;
  known = λ j c a here pends. of_cases j c a pends (slice_get-push_cases actors (idle_actor name) a j here);
  places = λ other j h. place_append actors (idle_actor name ∷ []) other j h;
  place = place_new actors name is;
}
  where
    of_cases : (j c : ℕ) (a : ActorState) → a.pending ≡ Some c → (slice_get actors j ≡ Some a) ⊎ ((j ≡ length actors) × (idle_actor name ≡ a)) → slice_get actors j ≡ Some a
    of_cases j c a pends (inl k) = k
    of_cases j c a pends (inr k) = absurd (let never : None ≡ Some c = ap (λ (v : ActorState). v.pending) k.1 ∙ pends in cc)
joined actors name (Some k) is none =
    let found = at_place actors name k is in
    record {
      actor = found.0;
      here = found.1;
      idle = sym (ap (λ (o : Option ActorState). o >>= (λ a. a.pending)) found.1) ∙ none;
      kept = λ j a here. here;
      known = λ j c a here pends. here;
      places = λ other j h. h;
      place = is;
    }

pub same_actor : (xs : List ActorState) (k : ℕ) (a b : ActorState) → slice_get xs k ≡ Some a → slice_get xs k ≡ Some b → a ≡ b
same_actor xs k a b here there = (let same : Some a ≡ Some b = sym here ∙ there in cc)

-- a command that is not ended is its actor's pending one
pub pends : (actors : List ActorState) (commands : List CommandState) (c : ℕ) (s : CommandState) → Match actors commands → numbered commands c ≡ Some s → s.ended ≡ false
    → open_of actors s.actor ≡ Some c
pends actors commands c s h here runs =
    let a = h.opens c s here runs in
    ap (λ (o : Option ℕ). open_at actors o) (h.places c s here) ∙ ap (λ (o : Option ActorState). o >>= (λ v. v.pending)) a.1 ∙ a.2

not_running : (b : Bool) → (b ≡ false → ⊥) → b ≡ true
not_running true h = refl
not_running false h = absurd (h refl)

record BegunAs (new : CommandState) (name : List ℕ) (k : ℕ) : Type 0 where
  runs : new.ended ≡ false
  client : new.client ≡ k
  actor : new.actor ≡ name

begun_pending : (actors xs : List ActorState) (commands : List CommandState) (name : List ℕ) (k : ℕ) (command : Command) (new : CommandState) → BegunAs new name k
    → Joined actors xs name k → Match actors commands → (i c : ℕ) (a : ActorState) → a.pending ≡ Some c
    → (slice_get xs i ≡ Some a) ⊎ ((k ≡ i) × ((v : ActorState) × (slice_get xs i ≡ Some v) × (opens (length commands + 1) command v ≡ a)))
    → (s : CommandState) × (numbered (commands ++ new ∷ []) c ≡ Some s) × (s.ended ≡ false) × (s.client ≡ i)
begun_pending actors xs commands name k command new b j h i c a is (inl here) =
    let s = h.pending i c a (j.known i c a here is) is in (s.0, numbered-append commands (new ∷ []) c s.0 s.1, s.2, s.3)
begun_pending actors xs commands name k command new b j h i c a is (inr p) =
    let number : length commands + 1 ≡ c = (let both : Some (length commands + 1) ≡ Some c = ap (λ (v : ActorState). v.pending) p.1.2 ∙ is in cc) in
    (new, ap (λ (n : ℕ). numbered (commands ++ new ∷ []) n) (sym number) ∙ numbered_end commands new, b.runs, b.client ∙ p.0)

begun_opens : (actors xs : List ActorState) (commands : List CommandState) (name : List ℕ) (k : ℕ) (command : Command) (new : CommandState) → BegunAs new name k
    → Joined actors xs name k → Match actors commands → (c : ℕ) (s : CommandState) → s.ended ≡ false
    → (numbered commands c ≡ Some s) ⊎ ((c ≡ length commands + 1) × (new ≡ s))
    → (a : ActorState) × (slice_get (changed xs k (opens (length commands + 1) command)) s.client ≡ Some a) × (a.pending ≡ Some c)
begun_opens actors xs commands name k command new b j h c s runs (inl here) =
    let a = h.opens c s here runs in
    of_cases a.0 (j.kept s.client a.0 a.1) a.2 (changed_other xs k s.client (opens (length commands + 1) command) a.0 (j.kept s.client a.0 a.1))
  where
    of_cases : (a : ActorState) → slice_get xs s.client ≡ Some a → a.pending ≡ Some c
        → (slice_get (changed xs k (opens (length commands + 1) command)) s.client ≡ Some a) ⊎ (k ≡ s.client)
        → (a : ActorState) × (slice_get (changed xs k (opens (length commands + 1) command)) s.client ≡ Some a) × (a.pending ≡ Some c)
    of_cases a at is (inl l) = (a, l, is)
    of_cases a at is (inr l) =
        let same : a ≡ j.actor = same_actor xs s.client a j.actor at (ap (λ (n : ℕ). slice_get xs n) (sym l) ∙ j.here) in
        absurd (let never : None ≡ Some c = sym j.idle ∙ ap (λ (v : ActorState). v.pending) (sym same) ∙ is in cc)
begun_opens actors xs commands name k command new b j h c s runs (inr p) =
    let f : ActorState → ActorState = opens (length commands + 1) command in
    let at : s.client ≡ k = ap (λ (v : CommandState). v.client) (sym p.1) ∙ b.client in (
      opens (length commands + 1) command j.actor,
      ap (λ (n : ℕ). slice_get (changed xs k f) n) at ∙ changed_here xs k f j.actor j.here,
      ap (λ (n : ℕ). Some n) (sym p.0),
    )

begun_places : (actors xs : List ActorState) (commands : List CommandState) (name : List ℕ) (k : ℕ) (new : CommandState) → BegunAs new name k
    → Joined actors xs name k → Match actors commands → (c : ℕ) (s : CommandState) → (numbered commands c ≡ Some s) ⊎ ((c ≡ length commands + 1) × (new ≡ s))
    → place_of xs s.actor ≡ Some s.client
begun_places actors xs commands name k new b j h c s (inl here) = j.places s.actor s.client (h.places c s here)
begun_places actors xs commands name k new b j h c s (inr p) =
    subst (λ (v : CommandState). place_of xs v.actor ≡ Some v.client) p.1
    (ap (λ (n : List ℕ). place_of xs n) b.actor ∙ j.place ∙ ap (λ (n : ℕ). Some n) (sym b.client))

begun_earlier : (actors : List ActorState) (commands : List CommandState) (name : List ℕ) (k : ℕ) (new : CommandState) → BegunAs new name k
    → open_of actors name ≡ None → Match actors commands → (c d : ℕ) (s x : CommandState) → s.actor ≡ x.actor → c < d
    → (numbered commands c ≡ Some s) ⊎ ((c ≡ length commands + 1) × (new ≡ s)) → (numbered commands d ≡ Some x) ⊎ ((d ≡ length commands + 1) × (new ≡ x))
    → s.ended ≡ true
begun_earlier actors commands name k new b none h c d s x same less (inl here) (inl there) = h.earlier c d s x here there same less
begun_earlier actors commands name k new b none h c d s x same less (inl here) (inr p) =
    let whose : s.actor ≡ name = same ∙ ap (λ (v : CommandState). v.actor) (sym p.1) ∙ b.actor in
    not_running s.ended
    (λ runs. (let never : None ≡ Some c = sym none ∙ ap (λ (n : List ℕ). open_of actors n) (sym whose) ∙ pends actors commands c s h here runs in cc))
begun_earlier actors commands name k new b none h c d s x same less (inr p) (inl there) =
    let within : d < length commands + 1 = numbered_within commands d x there in
    let number : c ≡ length commands + 1 = p.0 in
    absurd (omega (arith, within, number, less))
begun_earlier actors commands name k new b none h c d s x same less (inr p) (inr q) =
    let one : c ≡ length commands + 1 = p.0 in
    let two : d ≡ length commands + 1 = q.0 in
    absurd (omega (arith, one, two, less))

begun_match : (actors xs : List ActorState) (commands : List CommandState) (name : List ℕ) (k : ℕ) (command : Command) (new : CommandState) → BegunAs new name k
    → open_of actors name ≡ None → Joined actors xs name k → Match actors commands
    → Match (changed xs k (opens (length commands + 1) command)) (commands ++ new ∷ [])
begun_match actors xs commands name k command new b none j h = record {
  pending =
      λ i c a here is.
      begun_pending actors xs commands name k command new b j h i c a is (changed_cases xs k (opens (length commands + 1) command) i a here);
  opens = λ c s here runs. begun_opens actors xs commands name k command new b j h c s runs (numbered-push_cases commands new s c here);
  places =
      λ c s here.
      place_changed xs s.actor k (opens (length commands + 1) command) (λ a. refl)
      ∙ begun_places actors xs commands name k new b j h c s (numbered-push_cases commands new s c here);
  earlier =
      λ c d s x here there same less.
      begun_earlier actors commands name k new b none h c d s x same less (numbered-push_cases commands new s c here) (numbered-push_cases commands new x d there);
}

pub begin_match : (w : World) (name : List ℕ) (command : Command) → is_none (open_of w.actors name) ≡ true → Match w.actors w.commands
    → Match (changed (with_actor w.actors name) (client_of w.actors name) (opens (length w.commands + 1) command)) (w.commands ++ begun_state w name command ∷ [])
begin_match w name command met h =
    let none : open_of w.actors name ≡ None = none_open (open_of w.actors name) met in
    begun_match w.actors (with_actor w.actors name) w.commands name (client_of w.actors name) command (begun_state w name command)
    (record { runs = refl; client = refl; actor = refl }) none (joined w.actors name (place_of w.actors name) refl none) h

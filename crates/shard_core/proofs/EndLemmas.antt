-- What is kept of actors and their commands, where one ends.
use Rattle.std.proofs.Common.{◌≡◌, ◌⊎◌, inl, inr, ℕ, ◌<◌, List, Bool, true, false, not, Option, Some, None, cond, refl, ap, sym, subst, ◌∙◌}
use Rattle.std.proofs.lemmas.Bool.{false≢true}
use Rattle.std.specs.List.{slice_get}
use Rattle.shard_calls.specs.declared.state.ActorState.{ActorState}
use Rattle.shard_calls.specs.declared.state.CommandState.{CommandState}
use Rattle.shard_calls.specs.World.{World, changed, changed_at, numbered, place_of, if_open, open_command}
use Rattle.shard_calls.specs.Begins.{closes, ends_by}
use Rattle.shard_calls.proofs.ListLemmas.{changed_cases, changed_at_cases}
use Rattle.shard_core.proofs.KnownLemmas.{open_numbered}
use Rattle.shard_core.proofs.ActorLemmas.{changed_other, changed_at_other, changed_own, own_change, place_changed}
use Rattle.shard_core.proofs.MatchLemmas.{Match}
use Rattle.shard_core.proofs.BeginLemmas.{same_actor}

abbrev as_ended : CommandState → CommandState
as_ended s = record s { ended = true }

pub open_runs : (o : Option CommandState) (s : CommandState) → if_open o ≡ Some s → s.ended ≡ false
open_runs None s h = absurd (let none : None ≡ Some s = h in cc)
open_runs (Some x) s h = of_test x.ended refl h
  where
    of_test : (b : Bool) → x.ended ≡ b → cond (not b) (Some x) None ≡ Some s → s.ended ≡ false
    of_test true is k = absurd (let none : None ≡ Some s = k in cc)
    of_test false is k = ap (λ (v : CommandState). v.ended) (let same : s ≡ x = cc in same) ∙ is

pub same_state : (xs : List CommandState) (c : ℕ) (s x : CommandState) → numbered xs c ≡ Some s → numbered xs c ≡ Some x → s ≡ x
same_state xs c s x here there = (let same : Some s ≡ Some x = sym here ∙ there in cc)

ended_pending : (actors : List ActorState) (commands : List CommandState) (c : ℕ) (s : CommandState) → Match actors commands → numbered commands c ≡ Some s
    → (i d : ℕ) (a : ActorState) → slice_get (changed actors s.client closes) i ≡ Some a → a.pending ≡ Some d
    → (slice_get actors i ≡ Some a) ⊎ ((s.client ≡ i) × ((v : ActorState) × (slice_get actors i ≡ Some v) × (closes v ≡ a)))
    → (y : CommandState) × (numbered (changed_at commands c as_ended) d ≡ Some y) × (y.ended ≡ false) × (y.client ≡ i)
ended_pending actors commands c s h at i d a now is (inl here) =
    let y = h.pending i d a here is in of_cases y.0 y.1 y.2 y.3 (changed_at_other commands c d as_ended y.0 y.1)
  where
    of_cases : (y : CommandState) → numbered commands d ≡ Some y → y.ended ≡ false → y.client ≡ i
        → (numbered (changed_at commands c as_ended) d ≡ Some y) ⊎ (c ≡ d)
        → (y : CommandState) × (numbered (changed_at commands c as_ended) d ≡ Some y) × (y.ended ≡ false) × (y.client ≡ i)
    of_cases y found runs client (inl l) = (y, l, runs, client)
    of_cases y found runs client (inr l) =
        let same : s ≡ y = same_state commands d s y (ap (λ (n : ℕ). numbered commands n) (sym l) ∙ at) found in
        let whose : s.client ≡ i = ap (λ (v : CommandState). v.client) same ∙ client in
        let closed : closes a ≡ a = changed_own actors i closes a a here (ap (λ (n : ℕ). slice_get (changed actors n closes) i) (sym whose) ∙ now) in
        absurd (let never : None ≡ Some d = ap (λ (v : ActorState). v.pending) closed ∙ is in cc)
ended_pending actors commands c s h at i d a now is (inr p) =
    absurd (let never : None ≡ Some d = ap (λ (v : ActorState). v.pending) p.1.2 ∙ is in cc)

ended_now : (x y : CommandState) → as_ended x ≡ y → y.ended ≡ true
ended_now x y is = ap (λ (v : CommandState). v.ended) (sym is)

ended_opens : (actors : List ActorState) (commands : List CommandState) (c : ℕ) (s : CommandState) → Match actors commands → numbered commands c ≡ Some s
    → s.ended ≡ false → (d : ℕ) (y : CommandState) → numbered (changed_at commands c as_ended) d ≡ Some y → y.ended ≡ false
    → (numbered commands d ≡ Some y) ⊎ ((c ≡ d) × ((x : CommandState) × (numbered commands d ≡ Some x) × (as_ended x ≡ y)))
    → (a : ActorState) × (slice_get (changed actors s.client closes) y.client ≡ Some a) × (a.pending ≡ Some d)
ended_opens actors commands c s h at open_yet d y now runs (inl here) =
    let a = h.opens d y here runs in of_cases a.0 a.1 a.2 (changed_other actors s.client y.client closes a.0 a.1)
  where
    of_cases : (a : ActorState) → slice_get actors y.client ≡ Some a → a.pending ≡ Some d
        → (slice_get (changed actors s.client closes) y.client ≡ Some a) ⊎ (s.client ≡ y.client)
        → (a : ActorState) × (slice_get (changed actors s.client closes) y.client ≡ Some a) × (a.pending ≡ Some d)
    of_cases a found is (inl l) = (a, l, is)
    of_cases a found is (inr l) =
        let b = h.opens c s at open_yet in
        let same : a ≡ b.0 = same_actor actors y.client a b.0 found (ap (λ (n : ℕ). slice_get actors n) (sym l) ∙ b.1) in
        let number : d ≡ c = (let both : Some d ≡ Some c = sym is ∙ ap (λ (v : ActorState). v.pending) same ∙ b.2 in cc) in
        let own : as_ended y ≡ y =
        own_change commands c as_ended y y (ap (λ (n : ℕ). numbered commands n) (sym number) ∙ here)
        (ap (λ (n : ℕ). numbered (changed_at commands c as_ended) n) (sym number) ∙ now) in
        absurd (false≢true (sym runs ∙ ended_now y y own))
ended_opens actors commands c s h at open_yet d y now runs (inr p) = absurd (false≢true (sym runs ∙ ended_now p.1.0 y p.1.2))

ended_places : (actors : List ActorState) (commands : List CommandState) (c d : ℕ) (y : CommandState) → Match actors commands
    → (numbered commands d ≡ Some y) ⊎ ((c ≡ d) × ((x : CommandState) × (numbered commands d ≡ Some x) × (as_ended x ≡ y))) → place_of actors y.actor ≡ Some y.client
ended_places actors commands c d y h (inl here) = h.places d y here
ended_places actors commands c d y h (inr p) =
    subst (λ (v : CommandState). place_of actors v.actor ≡ Some v.client) p.1.2 (h.places d p.1.0 p.1.1)

ended_earlier : (actors : List ActorState) (commands : List CommandState) (c b d : ℕ) (y z : CommandState) → Match actors commands → y.actor ≡ z.actor → b < d
    → (numbered commands b ≡ Some y) ⊎ ((c ≡ b) × ((x : CommandState) × (numbered commands b ≡ Some x) × (as_ended x ≡ y)))
    → (numbered commands d ≡ Some z) ⊎ ((c ≡ d) × ((x : CommandState) × (numbered commands d ≡ Some x) × (as_ended x ≡ z))) → y.ended ≡ true
ended_earlier actors commands c b d y z h same less (inr p) there = ended_now p.1.0 y p.1.2
ended_earlier actors commands c b d y z h same less (inl here) (inl there) = h.earlier b d y z here there same less
ended_earlier actors commands c b d y z h same less (inl here) (inr q) =
    h.earlier b d y q.1.0 here q.1.1 (same ∙ ap (λ (v : CommandState). v.actor) (sym q.1.2)) less

end_match : (actors : List ActorState) (commands : List CommandState) (c : ℕ) (s : CommandState) → numbered commands c ≡ Some s → s.ended ≡ false
    → Match actors commands → Match (changed actors s.client closes) (changed_at commands c as_ended)
end_match actors commands c s at open_yet h = record {
  pending = λ i d a here is. ended_pending actors commands c s h at i d a here is (changed_cases actors s.client closes i a here);
  opens = λ d y here runs. ended_opens actors commands c s h at open_yet d y here runs (changed_at_cases commands c as_ended d y here);
  places =
      λ d y here.
      place_changed actors y.actor s.client closes (λ a. refl) ∙ ended_places actors commands c d y h (changed_at_cases commands c as_ended d y here);
  earlier =
      λ b d y z here there same less.
      ended_earlier actors commands c b d y z h same less (changed_at_cases commands c as_ended b y here) (changed_at_cases commands c as_ended d z there);
}

pub ends_match : (w : World) (c : ℕ) (o : Option CommandState) → open_command w c ≡ o → Match w.actors w.commands → Match (ends_by w c o).actors (ends_by w c o).commands
ends_match w c None is h = h
ends_match w c (Some s) is h =
    end_match w.actors w.commands c s (open_numbered (numbered w.commands c) s is) (open_runs (numbered w.commands c) s is) h

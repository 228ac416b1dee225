-- Where a run has led, each open command is one that some actor has open.
use Rattle.std.proofs.Common.{◌≡◌, ℕ, zero, suc, Bool, true, false, ◌||◌, ◌==◌, List, [], ◌∷◌, Option, Some, None, is_some, refl, ap, sym, subst, ◌∙◌, arith}
use Rattle.std.proofs.lemmas.Bool.Decides.{nat_tests}
use Rattle.std.specs.List.{list_any}
use Rattle.shard_calls.specs.declared.event.Step.{Step}
use Rattle.shard_calls.specs.declared.state.ActorState.{ActorState}
use Rattle.shard_calls.specs.declared.state.CommandState.{CommandState}
use Rattle.shard_calls.specs.Messages.{passes}
use Rattle.shard_calls.specs.World.{World, opening, place_of, open_at, open_command}
use Rattle.shard_calls.specs.Table.{world_after}
use Rattle.shard_state.specs.State.{Data, config_in, world_seen}
use Rattle.arrivals.specs.Receivers.{has_open, OpenAreOfActors}
use Rattle.arrivals.proofs.WalkLemmas.{or_right}
use Rattle.shard_core.specs.Leads.{Leads}
use Rattle.shard_core.specs.Pending.{OpenIsPending}
use Rattle.shard_core.proofs.PendingLemmas.{actors_fit_always}

or_left : (s t : Bool) → s ≡ true → (s || t) ≡ true
or_left true t h = refl
or_left false t h = absurd (cc)

same_number : (c : ℕ) → (c == c) ≡ true
same_number c = grind (arith, nat_tests)

found_in : (actors : List ActorState) (c : ℕ) (o : Option ℕ) → open_at actors o ≡ Some c → list_any (has_open c) actors ≡ true
found_in actors c None e = absurd (let none : None ≡ Some c = e in cc)
found_in [] c (Some k) e = absurd (let none : None ≡ Some c = e in cc)
found_in (a ∷ actors) c (Some zero) e =
    or_left (has_open c a) (list_any (has_open c) actors) (ap (λ (o : Option ℕ). passes (λ n. c == n) o) (let is : a.pending ≡ Some c = e in is) ∙ same_number c)
found_in (a ∷ actors) c (Some (suc k)) e = or_right (has_open c a) (list_any (has_open c) actors) (found_in actors c (Some k) e)

of_state : (w : World) (c : ℕ) (o : Option CommandState) → OpenIsPending w → open_command w c ≡ o → is_some o ≡ true → list_any (has_open c) w.actors ≡ true
of_state w c None pending is some = absurd (cc)
of_state w c (Some s) pending is some = found_in w.actors c (place_of w.actors s.actor) (pending c s is)

pub open_of_actors : (d : Data) (ss : List Step) → Leads d ss → OpenAreOfActors d
open_of_actors d ss leads c some =
    let there : OpenIsPending (world_after (config_in d) (opening (config_in d)) ss) = (actors_fit_always (config_in d) ss leads.run).opens in
    let here : OpenIsPending (world_seen d ss) = subst (λ (w : World). OpenIsPending w) (sym leads.world) there in
    of_state (world_seen d ss) c (open_command (world_seen d ss) c) here refl some

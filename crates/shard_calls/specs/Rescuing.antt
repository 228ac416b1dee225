-- What an EmergencyReparentShard makes of the tablets that it stopped (Vitess manual): whether they keep every older primary from committing, which
-- of them is ahead of all, and who takes over. After Sougoumarane's "Consensus algorithms at scale".
use Rattle.std.specs.Prelude.{ℕ, ◌+◌, ◌*◌, Bool, false, not, ◌&&◌, nat_lt, List, [], ◌∷◌, Option, Some, None, Result, Ok, Err, if◌then◌else◌}
use Rattle.std.specs.List.{find, flat_map}
use Rattle.shard_base.specs.Options.{only_if}
use Rattle.shard_names.specs.declared.alias.Alias.{Alias}
use Rattle.shard_names.specs.declared.tablet.PromotionRule.{PromotionRule}
use Rattle.shard_names.specs.declared.tablet.PromotionRule.TheVariants as promotions
use Rattle.shard_names.specs.declared.tablet.Tablet.{Tablet}
use Rattle.shard_names.specs.Tablets.{alias_eq, is_among, tablet_of}
use Rattle.gtid_sets.specs.Position.{Position, covers, nothing}
use Rattle.gtid_sets.specs.declared.held.Held.{Held}
use Rattle.gtid_sets.specs.Winner.{leading, winner, first_apart}
use Rattle.durability.specs.Counting.{is_unrevoked}
use Rattle.durability.specs.Policies.{rules_of}
use Rattle.durability.specs.Sets.{ackers_in}
use Rattle.shard_calls.specs.declared.answer.Answer.TheVariants as says
use Rattle.shard_calls.specs.declared.command.EmergencyOptions.{EmergencyOptions}
use Rattle.shard_calls.specs.declared.event.Seen.{Seen}
use Rattle.shard_calls.specs.declared.group.Group.{Group}
use Rattle.shard_calls.specs.declared.refusal.NotStopped.{NotStopped}
use Rattle.shard_calls.specs.declared.refusal.Reason.{Reason}
use Rattle.shard_calls.specs.declared.refusal.Reason.TheVariants as reasons
use Rattle.shard_calls.specs.declared.refusal.Refusal.{Refusal}
use Rattle.shard_calls.specs.declared.refusal.Refusal.TheVariants as refusals
use Rattle.shard_calls.specs.declared.refusal.Rejected.{Rejected}
use Rattle.shard_calls.specs.declared.refusal.Unreached.{Unreached}
use Rattle.shard_calls.specs.declared.refusal.Unreached.TheVariants as unreacheds
use Rattle.shard_calls.specs.declared.span.Asked.{Asked}
use Rattle.shard_calls.specs.declared.span.Deed.{Deed}
use Rattle.shard_calls.specs.declared.span.Deed.TheVariants as deeds
use Rattle.shard_calls.specs.declared.span.Outcome.{Outcome}
use Rattle.shard_calls.specs.declared.span.Outcome.TheVariants as outcomes
use Rattle.shard_calls.specs.Choosing.{alias_if, best_of, chosen, is_call_of, outcome_of, reason_of_tablet, rejected, unless_barred}
use Rattle.shard_calls.specs.Refusals.{or_else, is_in_cell_of, recorded_alias, refusal_after, refusal_of_crossing}

-- ---- who stopped

-- the tablets that are to be stopped
abbrev pub heeded : Group → List Alias → List Alias
heeded g ignored = flat_map (λ t. alias_if (not (is_among ignored t.alias)) t.alias) g.tablets

abbrev pub held_by : Alias → Option Outcome → List Held
held_by a (Some (outcomes.Answered (says.Stopped newest p))) = record { alias = a; newest = newest; position = p } ∷ []
held_by a _ = []

-- what a tablet has that stopped; those that did, in the order of their calls
abbrev pub held_in : Deed → List Held
held_in (deeds.Asked x) = held_by x.alias x.outcome
held_in _ = []

abbrev pub helds : List Deed → List Held
helds done = flat_map held_in done

abbrev pub reached_by : List Held → List Alias
reached_by hs = flat_map (λ h. h.alias ∷ []) hs

abbrev pub refusal_by_stale : Alias → Option Outcome → Option Refusal
refusal_by_stale a (Some (outcomes.Answered (says.StaleTerm seen))) = Some (refusals.StaleTerm a seen)
refusal_by_stale a _ = None

-- a tablet that has seen a later term
abbrev pub stale_in : Deed → Option Refusal
stale_in (deeds.Asked x) = refusal_by_stale x.alias x.outcome
stale_in _ = None

-- the first of these that gives anything
abbrev pub first_by : {A B : Type 0} → (A → Option B) → List A → Option B
first_by f [] = None
first_by f (x ∷ xs) = or_else (f x) (first_by f xs)

-- ---- revocation

abbrev pub unreached_by : Option Outcome → Option Unreached
unreached_by None = None
unreached_by (Some (outcomes.GivenUp why)) = Some (unreacheds.GivenUp why)
unreached_by (Some (outcomes.Answered says)) = None

-- why a tablet was not stopped: it was to be left out, or its call was given up
abbrev pub unreached_of : List Alias → List Deed → Alias → Option Unreached
unreached_of ignored done a = if is_among ignored a then Some unreacheds.Ignored else unreached_by (outcome_of done a)

abbrev pub not_stopped : Alias → Option Unreached → List NotStopped
not_stopped a None = []
not_stopped a (Some why) = record { alias = a; unreached = why } ∷ []

abbrev pub unreached : Group → List Alias → List Deed → List NotStopped
unreached g ignored done = flat_map (λ t. not_stopped t.alias (unreached_of ignored done t.alias)) g.tablets

-- the first tablet that may be promoted and may still commit
abbrev pub first_unrevoked : Group → List Alias → Option Tablet
first_unrevoked g reached = find (is_unrevoked (rules_of g.policy) g.tablets (is_among reached)) g.tablets

abbrev pub refusal_by_unrevoked : Group → List Alias → List Deed → Option Tablet → Option Refusal
refusal_by_unrevoked g ignored done None = None
refusal_by_unrevoked g ignored done (Some t) = Some (refusals.NotRevoked t.alias (unreached g ignored done))

-- an older primary may still commit
abbrev pub refusal_of_unrevoked : Group → List Alias → List Deed → Option Refusal
refusal_of_unrevoked g ignored done = refusal_by_unrevoked g ignored done (first_unrevoked g (reached_by (helds done)))

-- ---- the winner

abbrev pub refusal_of_split : Option (Held × Held) → Option Refusal
refusal_of_split None = None
refusal_of_split (Some two) = Some (refusals.SplitBrain two.0.alias two.0.position two.1.alias two.1.position)

-- the winner, or why there is none
abbrev pub winner_or : Option Held → Option Refusal → Refusal → Result Held Refusal
winner_or (Some h) two none = Ok h
winner_or None (Some r) none = Err r
winner_or None None none = Err none

-- ---- who takes over

abbrev pub ackers_reached : Group → List Alias → Tablet → ℕ
ackers_reached g reached t = ackers_in (rules_of g.policy) g.tablets t (is_among reached)

-- fewer of its ackers were reached than it needs
abbrev pub is_short : Group → List Alias → Tablet → Bool
is_short g reached t = nat_lt (ackers_reached g reached t) ((rules_of g.policy).acks t)

abbrev pub refusal_of_short : Group → List Alias → Option Tablet → Option Refusal
refusal_of_short g reached None = None
refusal_of_short g reached (Some t) = only_if (is_short g reached t) (refusals.CannotEstablish t.alias (ackers_reached g reached t) ((rules_of g.policy).acks t))

abbrev pub refusal_of_crossing_from : Bool → Option Alias → Alias → Option Refusal
refusal_of_crossing_from prevented None a = None
refusal_of_crossing_from prevented (Some old) a = refusal_of_crossing (not prevented) old a

abbrev pub refusal_if : Asked → Option Outcome → Option Refusal
refusal_if x None = None
refusal_if x (Some o) = refusal_after x o

-- a tablet has to be reached that is to be promoted
abbrev pub refusal_of_call : Option Deed → Option Refusal
refusal_of_call (Some (deeds.Asked x)) = refusal_if x x.outcome
refusal_of_call _ = None

abbrev pub refusal_of_given : Group → EmergencyOptions → Seen → List Deed → Alias → Option Refusal
refusal_of_given g o seen done c =
    or_else (refusal_of_call (find (is_call_of c) done))
    (or_else (refusal_of_crossing_from o.prevent_cross_cell (recorded_alias seen.recorded) c) (refusal_of_short g (reached_by (helds done)) (tablet_of g.tablets c)))

abbrev pub ok_unless : {A : Type 0} → Option Refusal → A → Result A Refusal
ok_unless None x = Ok x
ok_unless (Some r) x = Err r

abbrev pub is_in_other_cell : Option Alias → Alias → Bool
is_in_other_cell None a = false
is_in_other_cell (Some old) a = not (is_in_cell_of old a)

-- why a tablet is no candidate
unfoldable pub reason_to_rescue : Group → EmergencyOptions → Seen → List Deed → Tablet → Option Reason
reason_to_rescue g o seen done t =
    or_else (reason_of_tablet g seen None t)
    (or_else (only_if (is_among o.ignored t.alias) reasons.Ignored)
    (or_else (only_if (not (is_among (reached_by (helds done)) t.alias)) reasons.Unreached)
    (or_else (only_if (o.prevent_cross_cell && is_in_other_cell (recorded_alias seen.recorded) t.alias) reasons.OtherCell)
    (only_if (is_short g (reached_by (helds done)) t) reasons.ShortOfAckers))))

abbrev pub place_of : PromotionRule → ℕ
place_of promotions.Must = 4
place_of promotions.Prefer = 3
place_of promotions.Neutral = 2
place_of promotions.PreferNot = 1
place_of promotions.MustNot = 0

abbrev pub worth : Bool → ℕ → ℕ
worth test n = if test then n else 0

-- what this one of them has
abbrev pub position_of : List Held → Alias → Position
position_of [] a = nothing
position_of (h ∷ hs) a = if alias_eq h.alias a then h.position else position_of hs a

-- the better rule, then all that the winner has, then the cell of the recorded primary
unfoldable pub fitness : Group → Seen → List Held → Held → Tablet → ℕ
fitness g seen hs w t =
    place_of ((rules_of g.policy).rule t) * 4 + worth (covers (position_of hs t.alias) w.position) 2
    + worth (not (is_in_other_cell (recorded_alias seen.recorded) t.alias)) 1

abbrev pub reasons_to_rescue : Group → EmergencyOptions → Seen → List Deed → List Rejected
reasons_to_rescue g o seen done = flat_map (λ t. rejected t.alias (reason_to_rescue g o seen done t)) g.tablets

abbrev pub number_to_rescue : Group → EmergencyOptions → Seen → List Deed → Held → Tablet → Option ℕ
number_to_rescue g o seen done w t = unless_barred (reason_to_rescue g o seen done t) (fitness g seen (helds done) w t)

-- the tablet that is ahead of all
abbrev pub winner_of : Group → EmergencyOptions → Seen → List Deed → Result Held Refusal
winner_of g o seen done =
    winner_or (winner (helds done)) (refusal_of_split (first_apart (leading (helds done)))) (refusals.NoCandidate (reasons_to_rescue g o seen done))

-- who takes over from the winner: the given tablet, or the fittest
abbrev pub rescuer : Group → EmergencyOptions → Seen → List Deed → Held → Option Alias → Result Alias Refusal
rescuer g o seen done w (Some c) = ok_unless (refusal_of_given g o seen done c) c
rescuer g o seen done w None = chosen (best_of (number_to_rescue g o seen done w) g.tablets) (reasons_to_rescue g o seen done)

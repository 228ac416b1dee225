-- Who is to be the primary, where a PlannedReparentShard is given none (Vitess manual): at first the first tablet that may be it, later, of the
-- replicas of the present primary, the one that has most; and why each other tablet is none.
use Rattle.std.specs.Prelude.{ℕ, Bool, false, not, ◌&&◌, nat_lt, List, [], ◌∷◌, Option, Some, None, is_none, is_some, option_map, Result, Ok, Err, if◌then◌else◌}
use Rattle.std.specs.List.{find, flat_map, list_all}
use Rattle.shard_base.specs.Options.{only_if}
use Rattle.shard_names.specs.declared.alias.Alias.{Alias}
use Rattle.shard_names.specs.declared.tablet.Tablet.{Tablet}
use Rattle.shard_names.specs.Tablets.{alias_eq, is_among}
use Rattle.gtid_sets.specs.Position.{count}
use Rattle.durability.specs.Rules.{is_eligible}
use Rattle.durability.specs.Policies.{rules_of}
use Rattle.shard_calls.specs.declared.answer.Answer.TheVariants as says
use Rattle.shard_calls.specs.declared.event.Seen.{Seen}
use Rattle.shard_calls.specs.declared.group.Group.{Group}
use Rattle.shard_calls.specs.declared.refusal.Reason.{Reason}
use Rattle.shard_calls.specs.declared.refusal.Reason.TheVariants as reasons
use Rattle.shard_calls.specs.declared.refusal.Refusal.{Refusal}
use Rattle.shard_calls.specs.declared.refusal.Refusal.TheVariants as refusals
use Rattle.shard_calls.specs.declared.refusal.Rejected.{Rejected}
use Rattle.shard_calls.specs.declared.span.Deed.{Deed}
use Rattle.shard_calls.specs.declared.span.Deed.TheVariants as deeds
use Rattle.shard_calls.specs.declared.span.Outcome.{Outcome}
use Rattle.shard_calls.specs.declared.span.Outcome.TheVariants as outcomes
use Rattle.shard_calls.specs.declared.stand.Stand.{Stand}
use Rattle.shard_calls.specs.declared.stand.Stand.TheVariants as stands
use Rattle.shard_calls.specs.Refusals.{or_else, is_in_cell_of}

-- ---- the best of several

-- of two tablets with the numbers by which they are compared the better, and of equals the first
abbrev pub better : Option (Alias × ℕ) → Alias → Option ℕ → Option (Alias × ℕ)
better so_far a None = so_far
better None a (Some n) = Some (a, n)
better (Some x) a (Some n) = if nat_lt x.1 n then Some (a, n) else Some x

-- of those with a number, the first that has the greatest
abbrev pub best_from : (Tablet → Option ℕ) → Option (Alias × ℕ) → List Tablet → Option (Alias × ℕ)
best_from number so_far [] = so_far
best_from number so_far (t ∷ ts) = best_from number (better so_far t.alias (number t)) ts

abbrev pub best_of : (Tablet → Option ℕ) → List Tablet → Option Alias
best_of number ts = option_map (λ x. x.0) (best_from number None ts)

abbrev pub unless_barred : Option Reason → ℕ → Option ℕ
unless_barred None n = Some n
unless_barred (Some r) n = None

abbrev pub rejected : Alias → Option Reason → List Rejected
rejected a None = []
rejected a (Some r) = record { alias = a; reason = r } ∷ []

-- the best, or the reason of each tablet
abbrev pub chosen : Option Alias → List Rejected → Result Alias Refusal
chosen (Some a) why = Ok a
chosen None why = Err (refusals.NoCandidate why)

-- ---- whatever the tablets say

abbrev pub reason_of_avoided : Option Alias → Alias → Option Reason
reason_of_avoided None a = None
reason_of_avoided (Some b) a = only_if (alias_eq b a) reasons.Avoided

-- why a tablet is no candidate, whatever it says
abbrev pub reason_of_tablet : Group → Seen → Option Alias → Tablet → Option Reason
reason_of_tablet g seen avoided t =
    or_else (only_if (not (is_eligible (rules_of g.policy) t)) reasons.MustNot)
    (or_else (only_if (is_among seen.drained t.alias) reasons.Drained) (reason_of_avoided avoided t.alias))

-- the tablet may be the first primary
abbrev pub is_free : Group → Seen → Option Alias → Tablet → Bool
is_free g seen avoided t = is_none (reason_of_tablet g seen avoided t)

-- the first primary of the shard, where none is given: the first tablet that may be it
abbrev pub first_of : Group → Seen → Option Alias → Result Alias Refusal
first_of g seen avoided =
    chosen (option_map (λ t. t.alias) (find (is_free g seen avoided) g.tablets))
    (flat_map (λ t. rejected t.alias (reason_of_tablet g seen avoided t)) g.tablets)

-- ---- by what they said that were asked

-- a call of this tablet
abbrev pub is_call_of : Alias → Deed → Bool
is_call_of a (deeds.Asked x) = alias_eq x.alias a
is_call_of a _ = false

abbrev pub outcome_in : Option Deed → Option Outcome
outcome_in (Some (deeds.Asked x)) = x.outcome
outcome_in _ = None

-- what the first of these calls of the tablet came to
abbrev pub outcome_of : List Deed → Alias → Option Outcome
outcome_of done a = outcome_in (find (is_call_of a) done)

-- each of these tablets was called, and its first call is settled
abbrev pub are_settled : List Alias → List Deed → Bool
are_settled them done = list_all (λ a. is_some (outcome_of done a)) them

-- why a tablet is no candidate that a primary is to be followed by
unfoldable pub reason_to_follow : Group → Bool → Seen → Alias → Tablet → Option Reason
reason_to_follow g allowed seen old t =
    or_else (reason_of_tablet g seen (Some old) t) (only_if (not allowed && not (is_in_cell_of old t.alias)) reasons.OtherCell)

abbrev pub alias_if : Bool → Alias → List Alias
alias_if test a = if test then a ∷ [] else []

-- the tablets that may follow
abbrev pub candidates : Group → Bool → Seen → Alias → List Alias
candidates g allowed seen old = flat_map (λ t. alias_if (is_none (reason_to_follow g allowed seen old t)) t.alias) g.tablets

abbrev pub is_replica_of : Alias → Stand → Bool
is_replica_of a (stands.Replica source t next) = alias_eq source a
is_replica_of a _ = false

-- by what it said of itself
abbrev pub reason_by : Alias → Option Outcome → Option Reason
reason_by old (Some (outcomes.Answered (says.Status seen promised stand newest p))) = only_if (not (is_replica_of old stand)) reasons.NotReplica
reason_by old _ = Some reasons.Unreached

abbrev pub size_by : Option Outcome → ℕ
size_by (Some (outcomes.Answered (says.Status seen promised stand newest p))) = count p
size_by _ = 0

unfoldable pub reason_among : Group → Bool → Seen → Alias → List Deed → Tablet → Option Reason
reason_among g allowed seen old done t = or_else (reason_to_follow g allowed seen old t) (reason_by old (outcome_of done t.alias))

abbrev pub number_among : Group → Bool → Seen → Alias → List Deed → Tablet → Option ℕ
number_among g allowed seen old done t = unless_barred (reason_among g allowed seen old done t) (size_by (outcome_of done t.alias))

-- by what those said that were asked for their status
abbrev pub follower : Group → Bool → Seen → Alias → List Deed → Result Alias Refusal
follower g allowed seen old done =
    chosen (best_of (number_among g allowed seen old done) g.tablets)
    (flat_map (λ t. rejected t.alias (reason_among g allowed seen old done t)) g.tablets)

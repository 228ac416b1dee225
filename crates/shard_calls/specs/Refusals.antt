-- The one table of refusals: by what a call came to, by what the topology said, and at once. A course stops by it, and the cause of an answer is
-- that it stands here. After PlannedReparentShard and EmergencyReparentShard (Vitess manual), and Sougoumarane's "Consensus algorithms at scale".
use Rattle.std.specs.Prelude.{ℕ, Bool, true, false, not, ◌&&◌, nat_lt, List, [], ◌∷◌, Option, Some, None, option_map, is_some, Result, Ok, Err, if◌then◌else◌}
use Rattle.std.specs.Str.{bytes_eq}
use Rattle.shard_names.specs.declared.alias.Alias.{Alias}
use Rattle.shard_names.specs.declared.tablet.Tablet.{Tablet}
use Rattle.shard_names.specs.Tablets.{alias_eq, is_among, is_declared, tablet_of}
use Rattle.durability.specs.Rules.{is_eligible}
use Rattle.durability.specs.Policies.{rules_of}
use Rattle.topo_lock.specs.declared.intent.Intent.{Intent}
use Rattle.topo_lock.specs.declared.intent.Record.{Record}
use Rattle.shard_calls.specs.declared.answer.Answer.{Answer}
use Rattle.shard_calls.specs.declared.answer.Answer.TheVariants as says
use Rattle.shard_calls.specs.declared.span.Kind.{Kind}
use Rattle.shard_calls.specs.declared.span.Kind.TheVariants as kinds
use Rattle.shard_calls.specs.declared.span.Outcome.{Outcome}
use Rattle.shard_calls.specs.declared.span.Outcome.TheVariants as outcomes
use Rattle.shard_calls.specs.declared.group.Group.{Group}
use Rattle.shard_calls.specs.declared.command.EmergencyOptions.{EmergencyOptions}
use Rattle.shard_calls.specs.declared.command.PlannedOptions.{PlannedOptions}
use Rattle.shard_calls.specs.declared.refusal.Bar.TheVariants as bars
use Rattle.shard_calls.specs.declared.refusal.Refusal.{Refusal}
use Rattle.shard_calls.specs.declared.refusal.Refusal.TheVariants as refusals
use Rattle.shard_calls.specs.declared.refusal.Unacked.TheVariants as unackeds
use Rattle.shard_base.specs.Options.{only_if}
use Rattle.shard_calls.specs.Stands.{standing_of, is_primary_of}
use Rattle.shard_calls.specs.declared.span.Deed.{Deed}
use Rattle.shard_calls.specs.declared.span.Deed.TheVariants as deeds
use Rattle.shard_calls.specs.declared.stand.Stand.{Stand}
use Rattle.shard_calls.specs.declared.span.Asked.{Asked}
use Rattle.shard_calls.specs.declared.event.Seen.{Seen}

-- the second, where the first is none
abbrev pub or_else : {A : Type 0} → Option A → Option A → Option A
or_else None other = other
or_else (Some x) other = Some x

-- ---- by what a call came to

-- a call by which a tablet is to be, or to have become, the primary
abbrev pub is_of_promotion : Kind → Bool
is_of_promotion kinds.Status = false
is_of_promotion kinds.Stop = false
is_of_promotion kinds.Demote = false
is_of_promotion kinds.Promote = true
is_of_promotion kinds.SetSource = false
is_of_promotion kinds.Feed = false
is_of_promotion kinds.WaitFor = false
is_of_promotion kinds.WaitTold = true

abbrev pub refusal_to : Asked → Answer → Option Refusal
refusal_to x (says.Status seen promised stand newest p) = None
refusal_to x (says.Stopped newest p) = None
refusal_to x (says.Demoted newest p) = None
refusal_to x (says.Promoted p) = None
refusal_to x says.Joined = None
refusal_to x says.Feeding = None
refusal_to x says.Holds = None
refusal_to x says.Told = None
refusal_to x says.NotTold = Some (refusals.NotAcknowledged x.alias (unackeds.NotTold x.sent x.arrived))
refusal_to x (says.Kept stand) = only_if (is_of_promotion x.kind) (refusals.NotAcknowledged x.alias (unackeds.Kept (standing_of stand)))
refusal_to x (says.StaleTerm seen) = Some (refusals.StaleTerm x.alias seen)
refusal_to x (says.PromisedAhead promised) = None
refusal_to x (says.NotCaughtUp missing) = Some (refusals.NotCaughtUp x.alias missing x.sent x.arrived)
refusal_to x (says.Errant extra) = Some (refusals.Errant x.alias extra)
refusal_to x (says.NotStanding newest) = None

-- where the command needs the call
abbrev pub refusal_after : Asked → Outcome → Option Refusal
refusal_after x (outcomes.Answered answer) = refusal_to x answer
refusal_after x (outcomes.GivenUp why) = Some (refusals.Unreachable x.alias why)

-- where it is the Demote of the tablet of the last intent
abbrev pub refusal_by_demoted : Intent → Answer → Option Refusal
refusal_by_demoted i (says.Demoted newest p) = only_if (nat_lt newest i.term) (refusals.ReparentPending i.alias i.term)
refusal_by_demoted i (says.NotStanding newest) = Some (refusals.ReparentPending i.alias i.term)
refusal_by_demoted i _ = None

-- ---- by what the topology said

abbrev pub recorded_alias : Option Record → Option Alias
recorded_alias recorded = option_map (λ r. r.alias) recorded

-- whether the aliases are two, or one of them is none
abbrev pub is_other_than : Option Alias → Alias → Bool
is_other_than None a = true
is_other_than (Some b) a = not (alias_eq b a)

-- another primary was expected than the one recorded
abbrev pub refusal_by_record : Option Alias → Option Record → Option Refusal
refusal_by_record None recorded = None
refusal_by_record (Some a) recorded = only_if (is_other_than (recorded_alias recorded) a) (refusals.ExpectedPrimary (recorded_alias recorded))

abbrev pub refusal_by_marks : Option Alias → List Alias → Option Refusal
refusal_by_marks None drained = None
refusal_by_marks (Some a) drained = only_if (is_among drained a) (refusals.NotEligible a bars.Drained)

-- by what was read, where this primary is expected and that one is to be promoted
abbrev pub refusal_by_seen : Option Alias → Option Alias → Seen → Option Refusal
refusal_by_seen expected new_primary seen = or_else (refusal_by_record expected seen.recorded) (refusal_by_marks new_primary seen.drained)

-- ---- at once

abbrev pub refusal_of_undeclared : Group → Option Alias → Option Refusal
refusal_of_undeclared g None = None
refusal_of_undeclared g (Some a) = only_if (not (is_declared g.tablets a)) (refusals.NoSuchTablet a)

-- the policy does not let the tablet be promoted
abbrev pub is_barred : Group → Option Tablet → Bool
is_barred g None = false
is_barred g (Some t) = not (is_eligible (rules_of g.policy) t)

abbrev pub refusal_of_barred : Group → Option Alias → Option Refusal
refusal_of_barred g None = None
refusal_of_barred g (Some a) = only_if (is_barred g (tablet_of g.tablets a)) (refusals.NotEligible a bars.MustNot)

abbrev pub refusal_of_planned : Group → PlannedOptions → Option Refusal
refusal_of_planned g o =
    or_else (only_if (is_some o.new_primary && is_some o.avoid) refusals.BothGiven)
    (or_else (refusal_of_undeclared g o.new_primary)
    (or_else (refusal_of_undeclared g o.avoid)
    (or_else (refusal_of_undeclared g o.expected) (refusal_of_barred g o.new_primary))))

-- the tablet is among those that are to be left out
abbrev pub refusal_of_ignored : List Alias → Option Alias → Option Refusal
refusal_of_ignored ignored None = None
refusal_of_ignored ignored (Some a) = only_if (is_among ignored a) (refusals.NotEligible a bars.Ignored)

-- the first of these that is not declared
abbrev pub refusal_of_first : Group → List Alias → Option Refusal
refusal_of_first g [] = None
refusal_of_first g (a ∷ more) = or_else (refusal_of_undeclared g (Some a)) (refusal_of_first g more)

abbrev pub refusal_of_emergency : Group → EmergencyOptions → Option Refusal
refusal_of_emergency g o =
    or_else (refusal_of_undeclared g o.new_primary)
    (or_else (refusal_of_first g o.ignored)
    (or_else (refusal_of_undeclared g o.expected)
    (or_else (refusal_of_barred g o.new_primary) (refusal_of_ignored o.ignored o.new_primary))))

-- the given tablet is in another cell than this one, and may not be
abbrev pub is_in_cell_of : Alias → Alias → Bool
is_in_cell_of a b = bytes_eq a.cell b.cell

abbrev pub refusal_of_crossing : Bool → Alias → Alias → Option Refusal
refusal_of_crossing allowed old a = only_if (not allowed && not (is_in_cell_of old a)) (refusals.CrossCell a)

-- ---- what the topology refused

abbrev pub refusal_by_topology : Deed → Option Refusal
refusal_by_topology (deeds.Took (Ok t)) = None
refusal_by_topology (deeds.Took (Err held)) = Some (refusals.LockTaken held.term held.actor)
refusal_by_topology (deeds.Read (Ok seen)) = None
refusal_by_topology (deeds.Read (Err t)) = Some (refusals.LockLost t)
refusal_by_topology (deeds.Intended a (Ok x)) = None
refusal_by_topology (deeds.Intended a (Err t)) = Some (refusals.LockLost t)
refusal_by_topology (deeds.Recorded a (Ok x)) = None
refusal_by_topology (deeds.Recorded a (Err t)) = Some (refusals.LockLost t)
refusal_by_topology (deeds.Drained a (Ok x)) = None
refusal_by_topology (deeds.Drained a (Err t)) = Some (refusals.LockLost t)
refusal_by_topology (deeds.Asked x) = None
refusal_by_topology (deeds.Wrote a reply) = None
refusal_by_topology (deeds.Told committed) = None

-- ---- where a promotion by other hands is to be recorded

-- the term of the last intent, if the tablet stands as the primary of it; the newest row in its log is of this term
abbrev pub term_of_promoted : Alias → ℕ → Option Intent → Stand → Result ℕ Refusal
term_of_promoted a newest None stand = Err (refusals.NotPromoted a newest)
term_of_promoted a newest (Some i) stand = if is_primary_of stand i.term then Ok i.term else Err (refusals.NotPromoted a newest)

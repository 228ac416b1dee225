-- The number and the text of each refusal, which are vtshard's own. Of what a refusal names the aliases, sets and moments are printed as
-- everywhere; a list is printed with commas, and a list of nothing as a dash.
use Rattle.std.specs.Prelude.{ℕ, Bool, true, false, Option, Some, None, List, [], ◌∷◌, ◌++◌, codes}
use Rattle.std.specs.Fmt.{decimal}
use Rattle.std.specs.List.{flat_map}
use Rattle.shard_names.specs.Alias.{alias_text}
use Rattle.shard_names.specs.declared.alias.Alias.{Alias}
use Rattle.gtid_sets.specs.Position.{Position}
use Rattle.gtid_sets.specs.SetText.{set_text}
use Rattle.shard_calls.specs.declared.refusal.Bar.{Bar}
use Rattle.shard_calls.specs.declared.refusal.Bar.TheVariants as bars
use Rattle.shard_calls.specs.declared.refusal.NotStopped.{NotStopped}
use Rattle.shard_calls.specs.declared.refusal.Reason.{Reason}
use Rattle.shard_calls.specs.declared.refusal.Reason.TheVariants as reasons
use Rattle.shard_calls.specs.declared.refusal.Refusal.{Refusal}
use Rattle.shard_calls.specs.declared.refusal.Refusal.TheVariants as refusals
use Rattle.shard_calls.specs.declared.refusal.Rejected.{Rejected}
use Rattle.shard_calls.specs.declared.refusal.Unacked.{Unacked}
use Rattle.shard_calls.specs.declared.refusal.Unacked.TheVariants as unacked
use Rattle.shard_calls.specs.declared.refusal.Unreached.{Unreached}
use Rattle.shard_calls.specs.declared.refusal.Unreached.TheVariants as unreacheds
use Rattle.shard_calls.specs.declared.why.Why.{Why}
use Rattle.tablet_text.specs.Stands.{since_text, stands_text, why_text, has_seen_text, in_term_text}

-- ---- what refusals name

-- why a given tablet may not be promoted
abbrev pub bar_text : Bar → List ℕ
bar_text bars.MustNot = codes "must_not"
bar_text bars.Drained = codes "drained"
bar_text bars.Ignored = codes "ignored"

-- why a tablet is no candidate
abbrev pub reason_text : Reason → List ℕ
reason_text reasons.MustNot = codes "must_not"
reason_text reasons.Drained = codes "drained"
reason_text reasons.Avoided = codes "avoided"
reason_text reasons.Ignored = codes "ignored"
reason_text reasons.Unreached = codes "unreached"
reason_text reasons.OtherCell = codes "other cell"
reason_text reasons.NotReplica = codes "not a replica"
reason_text reasons.ShortOfAckers = codes "short of ackers"

-- why a tablet has not stopped
abbrev pub unreached_text : Unreached → List ℕ
unreached_text (unreacheds.GivenUp why) = why_text why
unreached_text unreacheds.Ignored = codes "ignored"

unfoldable pub rejected_text : Rejected → List ℕ
rejected_text r = alias_text r.alias ++ codes " " ++ reason_text r.reason

unfoldable pub not_stopped_text : NotStopped → List ℕ
not_stopped_text n = alias_text n.alias ++ codes " " ++ unreached_text n.unreached

-- the texts of items, each behind a comma
abbrev pub further_text : {T : Type 0} → (T → List ℕ) → List T → List ℕ
further_text text items = flat_map (λ x. codes ", " ++ text x) items

-- the texts of items with commas between them
abbrev pub listed_text : {T : Type 0} → (T → List ℕ) → List T → List ℕ
listed_text text [] = codes "-"
listed_text text (x ∷ items) = text x ++ further_text text items

-- the primary that is recorded
abbrev pub primary_or_none : Option Alias → List ℕ
primary_or_none None = codes "none"
primary_or_none (Some a) = alias_text a

-- what a tablet has
unfoldable pub has_text : Alias → Position → List ℕ
has_text a position = alias_text a ++ codes " has " ++ set_text position

-- ---- refusals

unfoldable pub lock_taken_text : ℕ → List ℕ → List ℕ
lock_taken_text term by = codes "1 LockTaken: term " ++ decimal term ++ codes " by " ++ by

unfoldable pub lock_lost_text : ℕ → List ℕ
lock_lost_text term = codes "2 LockLost: topology is at term " ++ decimal term

unfoldable pub no_such_tablet_text : Alias → List ℕ
no_such_tablet_text a = codes "3 NoSuchTablet: " ++ alias_text a

unfoldable pub not_eligible_text : Alias → Bar → List ℕ
not_eligible_text a bar = codes "4 NotEligible: " ++ alias_text a ++ codes " " ++ bar_text bar

unfoldable pub expected_primary_text : Option Alias → List ℕ
expected_primary_text recorded = codes "5 ExpectedPrimary: " ++ primary_or_none recorded

unfoldable pub both_given_text : List ℕ
both_given_text = codes "6 BothGiven"

unfoldable pub reparent_pending_text : Alias → ℕ → List ℕ
reparent_pending_text a term = codes "7 ReparentPending: " ++ in_term_text a term

unfoldable pub unreachable_text : Alias → Why → List ℕ
unreachable_text a why = codes "8 Unreachable: " ++ alias_text a ++ codes " " ++ why_text why

unfoldable pub no_candidate_text : List Rejected → List ℕ
no_candidate_text rejected = codes "9 NoCandidate: " ++ listed_text rejected_text rejected

-- what a tablet lacks
unfoldable pub lacks_text : Alias → Position → List ℕ
lacks_text a missing = alias_text a ++ codes " lacks " ++ set_text missing

unfoldable pub not_caught_up_text : Alias → Position → ℕ → ℕ → List ℕ
not_caught_up_text a missing since now = codes "10 NotCaughtUp: " ++ lacks_text a missing ++ codes " " ++ since_text since now

unfoldable pub stale_term_text : Alias → ℕ → List ℕ
stale_term_text a seen = codes "11 StaleTerm: " ++ alias_text a ++ codes " " ++ has_seen_text seen

unfoldable pub not_revoked_text : Alias → List NotStopped → List ℕ
not_revoked_text a unreached = codes "12 NotRevoked: " ++ alias_text a ++ codes " may still commit; unreached " ++ listed_text not_stopped_text unreached

-- so many of those that are needed
unfoldable pub ackers_text : ℕ → ℕ → List ℕ
ackers_text have need = decimal have ++ codes " of " ++ decimal need ++ codes " ackers"

unfoldable pub cannot_establish_text : Alias → ℕ → ℕ → List ℕ
cannot_establish_text a have need = codes "13 CannotEstablish: " ++ alias_text a ++ codes " has " ++ ackers_text have need

unfoldable pub split_brain_text : Alias → Position → Alias → Position → List ℕ
split_brain_text a has_a b has_b = codes "14 SplitBrain: " ++ has_text a has_a ++ codes " and " ++ has_text b has_b

unfoldable pub cross_cell_text : Alias → List ℕ
cross_cell_text a = codes "15 CrossCell: " ++ alias_text a ++ codes " is in " ++ a.cell

-- since when and until when too few tablets had acknowledged a promotion
unfoldable pub not_told_text : Alias → ℕ → ℕ → List ℕ
not_told_text a since now = alias_text a ++ codes " " ++ since_text since now

-- what is known of a tablet whose promotion does not count as committed
abbrev pub unacked_text : Alias → Unacked → List ℕ
unacked_text a (unacked.NotTold since now) = not_told_text a since now
unacked_text a (unacked.Kept stand) = stands_text a stand

unfoldable pub not_acknowledged_text : Alias → Unacked → List ℕ
not_acknowledged_text a cause = codes "17 NotAcknowledged: " ++ unacked_text a cause

unfoldable pub errant_refusal_text : Alias → Position → List ℕ
errant_refusal_text a extra = codes "18 Errant: " ++ has_text a extra

unfoldable pub not_promoted_text : Alias → ℕ → List ℕ
not_promoted_text a newest = codes "19 NotPromoted: " ++ alias_text a ++ codes " has newest row " ++ decimal newest

unfoldable pub out_of_memory_text : List ℕ
out_of_memory_text = codes "20 OutOfMemory"

abbrev pub refusal_text : Refusal → List ℕ
refusal_text (refusals.LockTaken t by) = lock_taken_text t by
refusal_text (refusals.LockLost t) = lock_lost_text t
refusal_text (refusals.NoSuchTablet a) = no_such_tablet_text a
refusal_text (refusals.NotEligible a bar) = not_eligible_text a bar
refusal_text (refusals.ExpectedPrimary recorded) = expected_primary_text recorded
refusal_text refusals.BothGiven = both_given_text
refusal_text (refusals.ReparentPending a t) = reparent_pending_text a t
refusal_text (refusals.Unreachable a why) = unreachable_text a why
refusal_text (refusals.NoCandidate rejected) = no_candidate_text rejected
refusal_text (refusals.NotCaughtUp a missing since now) = not_caught_up_text a missing since now
refusal_text (refusals.StaleTerm a seen) = stale_term_text a seen
refusal_text (refusals.NotRevoked a unreached) = not_revoked_text a unreached
refusal_text (refusals.CannotEstablish a have need) = cannot_establish_text a have need
refusal_text (refusals.SplitBrain a has_a b has_b) = split_brain_text a has_a b has_b
refusal_text (refusals.CrossCell a) = cross_cell_text a
refusal_text (refusals.NotAcknowledged a cause) = not_acknowledged_text a cause
refusal_text (refusals.Errant a extra) = errant_refusal_text a extra
refusal_text (refusals.NotPromoted a newest) = not_promoted_text a newest
refusal_text refusals.OutOfMemory = out_of_memory_text

abbrev pub is_out_of_memory : Refusal → Bool
is_out_of_memory refusals.OutOfMemory = true
is_out_of_memory (refusals.LockTaken t by) = false
is_out_of_memory (refusals.LockLost t) = false
is_out_of_memory (refusals.NoSuchTablet a) = false
is_out_of_memory (refusals.NotEligible a bar) = false
is_out_of_memory (refusals.ExpectedPrimary recorded) = false
is_out_of_memory refusals.BothGiven = false
is_out_of_memory (refusals.ReparentPending a t) = false
is_out_of_memory (refusals.Unreachable a why) = false
is_out_of_memory (refusals.NoCandidate rejected) = false
is_out_of_memory (refusals.NotCaughtUp a missing since now) = false
is_out_of_memory (refusals.StaleTerm a seen) = false
is_out_of_memory (refusals.NotRevoked a unreached) = false
is_out_of_memory (refusals.CannotEstablish a have need) = false
is_out_of_memory (refusals.SplitBrain a has_a b has_b) = false
is_out_of_memory (refusals.CrossCell a) = false
is_out_of_memory (refusals.NotAcknowledged a cause) = false
is_out_of_memory (refusals.Errant a extra) = false
is_out_of_memory (refusals.NotPromoted a newest) = false

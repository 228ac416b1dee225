-- Whether two of a kind are one: of the answers of commands and of what stands in them. Answers are those of vtctldclient (Vitess manual).
use Rattle.std.specs.Prelude.{Bool, true, false, not, ◌&&◌, ◌==◌, List, [], ◌∷◌, Option, Some, None, if◌then◌else◌}
use Rattle.std.specs.Str.{bytes_eq}
use Rattle.shard_names.specs.declared.alias.Alias.{Alias}
use Rattle.shard_names.specs.declared.shard_name.ShardName.{ShardName}
use Rattle.shard_names.specs.Tablets.{alias_eq}
use Rattle.gtid_sets.specs.Position.{Position, covers}
use Rattle.topo_lock.specs.declared.intent.Record.{Record}
use Rattle.shard_calls.specs.declared.analysis.Analysis.{Analysis}
use Rattle.shard_calls.specs.declared.analysis.Analysis.TheVariants as analyses
use Rattle.shard_calls.specs.declared.analysis.Finding.{Finding}
use Rattle.shard_calls.specs.declared.ending.Left.{Left}
use Rattle.shard_calls.specs.declared.ending.Left.TheVariants as lefts
use Rattle.shard_calls.specs.declared.ending.NotJoined.{NotJoined}
use Rattle.shard_calls.specs.declared.ending.Rest.{Rest}
use Rattle.shard_calls.specs.declared.ending.Rest.TheVariants as lines
use Rattle.shard_calls.specs.declared.ending.ShownType.{ShownType}
use Rattle.shard_calls.specs.declared.ending.ShownType.TheVariants as shown_types
use Rattle.shard_calls.specs.declared.ending.TabletRow.{TabletRow}
use Rattle.shard_calls.specs.declared.refusal.Bar.{Bar}
use Rattle.shard_calls.specs.declared.refusal.Bar.TheVariants as bars
use Rattle.shard_calls.specs.declared.refusal.NotStopped.{NotStopped}
use Rattle.shard_calls.specs.declared.refusal.Reason.{Reason}
use Rattle.shard_calls.specs.declared.refusal.Reason.TheVariants as reasons
use Rattle.shard_calls.specs.declared.refusal.Refusal.{Refusal}
use Rattle.shard_calls.specs.declared.refusal.Refusal.TheVariants as refusals
use Rattle.shard_calls.specs.declared.refusal.Rejected.{Rejected}
use Rattle.shard_calls.specs.declared.refusal.Unacked.{Unacked}
use Rattle.shard_calls.specs.declared.refusal.Unacked.TheVariants as unackeds
use Rattle.shard_calls.specs.declared.refusal.Unreached.{Unreached}
use Rattle.shard_calls.specs.declared.refusal.Unreached.TheVariants as unreacheds
use Rattle.shard_calls.specs.declared.stand.Standing.{Standing}
use Rattle.shard_calls.specs.declared.stand.Standing.TheVariants as standings
use Rattle.shard_calls.specs.declared.why.Why.{Why}
use Rattle.shard_calls.specs.declared.why.Why.TheVariants as whys

abbrev pub position_eq : Position → Position → Bool
position_eq p q = covers p q && covers q p

abbrev pub why_eq : Why → Why → Bool
why_eq whys.Down whys.Down = true
why_eq whys.Cut whys.Cut = true
why_eq whys.Lost whys.Lost = true
why_eq (whys.TimedOut since now) (whys.TimedOut from to) = (since == from) && (now == to)
why_eq x y = false

abbrev pub standing_eq : Standing → Standing → Bool
standing_eq standings.Down standings.Down = true
standing_eq standings.Stopped standings.Stopped = true
standing_eq (standings.Primary t) (standings.Primary u) = t == u
standing_eq (standings.Demoted t by) (standings.Demoted u other) = (t == u) && (by == other)
standing_eq (standings.Replica a t) (standings.Replica b u) = alias_eq a b && (t == u)
standing_eq (standings.Feeder t) (standings.Feeder u) = t == u
standing_eq x y = false

abbrev pub left_eq : Left → Left → Bool
left_eq (lefts.Errant p) (lefts.Errant q) = position_eq p q
left_eq (lefts.GivenUp x) (lefts.GivenUp y) = why_eq x y
left_eq (lefts.StaleTerm t) (lefts.StaleTerm u) = t == u
left_eq (lefts.PromisedAhead t) (lefts.PromisedAhead u) = t == u
left_eq x y = false

abbrev pub not_joined_eq : List NotJoined → List NotJoined → Bool
not_joined_eq [] [] = true
not_joined_eq [] (y ∷ ys) = false
not_joined_eq (x ∷ xs) [] = false
not_joined_eq (x ∷ xs) (y ∷ ys) = alias_eq x.alias y.alias && left_eq x.left y.left && not_joined_eq xs ys

abbrev pub alias_or_none_eq : Option Alias → Option Alias → Bool
alias_or_none_eq None None = true
alias_or_none_eq None (Some b) = false
alias_or_none_eq (Some a) None = false
alias_or_none_eq (Some a) (Some b) = alias_eq a b

abbrev pub bar_eq : Bar → Bar → Bool
bar_eq bars.MustNot bars.MustNot = true
bar_eq bars.Drained bars.Drained = true
bar_eq bars.Ignored bars.Ignored = true
bar_eq x y = false

abbrev pub reason_eq : Reason → Reason → Bool
reason_eq reasons.MustNot reasons.MustNot = true
reason_eq reasons.Drained reasons.Drained = true
reason_eq reasons.Avoided reasons.Avoided = true
reason_eq reasons.Ignored reasons.Ignored = true
reason_eq reasons.Unreached reasons.Unreached = true
reason_eq reasons.OtherCell reasons.OtherCell = true
reason_eq reasons.NotReplica reasons.NotReplica = true
reason_eq reasons.ShortOfAckers reasons.ShortOfAckers = true
reason_eq x y = false

abbrev pub rejected_eq : List Rejected → List Rejected → Bool
rejected_eq [] [] = true
rejected_eq [] (y ∷ ys) = false
rejected_eq (x ∷ xs) [] = false
rejected_eq (x ∷ xs) (y ∷ ys) = alias_eq x.alias y.alias && reason_eq x.reason y.reason && rejected_eq xs ys

abbrev pub unreached_eq : Unreached → Unreached → Bool
unreached_eq (unreacheds.GivenUp x) (unreacheds.GivenUp y) = why_eq x y
unreached_eq unreacheds.Ignored unreacheds.Ignored = true
unreached_eq x y = false

abbrev pub not_stopped_eq : List NotStopped → List NotStopped → Bool
not_stopped_eq [] [] = true
not_stopped_eq [] (y ∷ ys) = false
not_stopped_eq (x ∷ xs) [] = false
not_stopped_eq (x ∷ xs) (y ∷ ys) = alias_eq x.alias y.alias && unreached_eq x.unreached y.unreached && not_stopped_eq xs ys

abbrev pub unacked_eq : Unacked → Unacked → Bool
unacked_eq (unackeds.NotTold since now) (unackeds.NotTold from to) = (since == from) && (now == to)
unacked_eq (unackeds.Kept x) (unackeds.Kept y) = standing_eq x y
unacked_eq x y = false

abbrev pub refusal_eq : Refusal → Refusal → Bool
refusal_eq (refusals.LockTaken t by) (refusals.LockTaken u other) = (t == u) && bytes_eq by other
refusal_eq (refusals.LockLost t) (refusals.LockLost u) = t == u
refusal_eq (refusals.NoSuchTablet a) (refusals.NoSuchTablet b) = alias_eq a b
refusal_eq (refusals.NotEligible a x) (refusals.NotEligible b y) = alias_eq a b && bar_eq x y
refusal_eq (refusals.ExpectedPrimary a) (refusals.ExpectedPrimary b) = alias_or_none_eq a b
refusal_eq refusals.BothGiven refusals.BothGiven = true
refusal_eq (refusals.ReparentPending a t) (refusals.ReparentPending b u) = alias_eq a b && (t == u)
refusal_eq (refusals.Unreachable a x) (refusals.Unreachable b y) = alias_eq a b && why_eq x y
refusal_eq (refusals.NoCandidate xs) (refusals.NoCandidate ys) = rejected_eq xs ys
refusal_eq (refusals.NotCaughtUp a p since now) (refusals.NotCaughtUp b q from to) = alias_eq a b && position_eq p q && (since == from) && (now == to)
refusal_eq (refusals.StaleTerm a t) (refusals.StaleTerm b u) = alias_eq a b && (t == u)
refusal_eq (refusals.NotRevoked a xs) (refusals.NotRevoked b ys) = alias_eq a b && not_stopped_eq xs ys
refusal_eq (refusals.CannotEstablish a m n) (refusals.CannotEstablish b k l) = alias_eq a b && (m == k) && (n == l)
refusal_eq (refusals.SplitBrain a p b q) (refusals.SplitBrain c x d y) = alias_eq a c && position_eq p x && alias_eq b d && position_eq q y
refusal_eq (refusals.CrossCell a) (refusals.CrossCell b) = alias_eq a b
refusal_eq (refusals.NotAcknowledged a x) (refusals.NotAcknowledged b y) = alias_eq a b && unacked_eq x y
refusal_eq (refusals.Errant a p) (refusals.Errant b q) = alias_eq a b && position_eq p q
refusal_eq (refusals.NotPromoted a t) (refusals.NotPromoted b u) = alias_eq a b && (t == u)
refusal_eq refusals.OutOfMemory refusals.OutOfMemory = true
refusal_eq x y = false

abbrev pub shard_name_eq : ShardName → ShardName → Bool
shard_name_eq m n = bytes_eq m.keyspace n.keyspace && bytes_eq m.shard n.shard

abbrev pub record_eq : Record → Record → Bool
record_eq x y = alias_eq x.alias y.alias && (x.term == y.term) && (x.moment == y.moment)

abbrev pub record_or_none_eq : Option Record → Option Record → Bool
record_or_none_eq None None = true
record_or_none_eq None (Some y) = false
record_or_none_eq (Some x) None = false
record_or_none_eq (Some x) (Some y) = record_eq x y

abbrev pub shown_type_eq : ShownType → ShownType → Bool
shown_type_eq shown_types.Primary shown_types.Primary = true
shown_type_eq shown_types.Drained shown_types.Drained = true
shown_type_eq shown_types.Replica shown_types.Replica = true
shown_type_eq shown_types.Rdonly shown_types.Rdonly = true
shown_type_eq shown_types.Spare shown_types.Spare = true
shown_type_eq x y = false

abbrev pub rows_eq : List TabletRow → List TabletRow → Bool
rows_eq [] [] = true
rows_eq [] (y ∷ ys) = false
rows_eq (x ∷ xs) [] = false
rows_eq (x ∷ xs) (y ∷ ys) = alias_eq x.alias y.alias && bytes_eq x.server y.server && shown_type_eq x.kind y.kind && rows_eq xs ys

abbrev pub analysis_eq : Analysis → Analysis → Bool
analysis_eq analyses.NoProblem analyses.NoProblem = true
analysis_eq analyses.ClusterHasNoPrimary analyses.ClusterHasNoPrimary = true
analysis_eq analyses.DeadPrimaryWithoutReplicas analyses.DeadPrimaryWithoutReplicas = true
analysis_eq analyses.DeadPrimaryAndReplicas analyses.DeadPrimaryAndReplicas = true
analysis_eq analyses.DeadPrimaryAndSomeReplicas analyses.DeadPrimaryAndSomeReplicas = true
analysis_eq analyses.DeadPrimary analyses.DeadPrimary = true
analysis_eq analyses.PrimaryHasPrimary analyses.PrimaryHasPrimary = true
analysis_eq analyses.PrimaryIsReadOnly analyses.PrimaryIsReadOnly = true
analysis_eq analyses.LockedSemiSyncPrimary analyses.LockedSemiSyncPrimary = true
analysis_eq analyses.ErrantGTIDDetected analyses.ErrantGTIDDetected = true
analysis_eq analyses.ReplicaIsWritable analyses.ReplicaIsWritable = true
analysis_eq analyses.ConnectedToWrongPrimary analyses.ConnectedToWrongPrimary = true
analysis_eq analyses.NotConnectedToPrimary analyses.NotConnectedToPrimary = true
analysis_eq analyses.ReplicationStopped analyses.ReplicationStopped = true
analysis_eq x y = false

abbrev pub findings_eq : List Finding → List Finding → Bool
findings_eq [] [] = true
findings_eq [] (y ∷ ys) = false
findings_eq (x ∷ xs) [] = false
findings_eq (x ∷ xs) (y ∷ ys) = alias_eq x.alias y.alias && analysis_eq x.analysis y.analysis && findings_eq xs ys

abbrev pub undone_eq : Option Bool → Option Bool → Bool
undone_eq None None = true
undone_eq None (Some c) = false
undone_eq (Some b) None = false
undone_eq (Some b) (Some c) = if b then c else not c

abbrev pub line_eq : Rest → Rest → Bool
line_eq (lines.Promoted a t xs) (lines.Promoted b u ys) = alias_eq a b && (t == u) && not_joined_eq xs ys
line_eq (lines.Refused r b) (lines.Refused s c) = refusal_eq r s && undone_eq b c
line_eq (lines.Joined a p) (lines.Joined b q) = alias_eq a b && alias_eq p q
line_eq (lines.Left a x) (lines.Left b y) = alias_eq a b && left_eq x y
line_eq (lines.Drained a) (lines.Drained b) = alias_eq a b
line_eq x y = false

abbrev pub lines_eq : List Rest → List Rest → Bool
lines_eq [] [] = true
lines_eq [] (y ∷ ys) = false
lines_eq (x ∷ xs) [] = false
lines_eq (x ∷ xs) (y ∷ ys) = line_eq x y && lines_eq xs ys

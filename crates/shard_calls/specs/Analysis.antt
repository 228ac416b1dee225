-- What is amiss with each tablet of a shard, by what the tablets said of themselves. The analyses are those of VTOrc (Vitess manual, "VTOrc").
use Rattle.std.specs.Prelude.{ℕ, Bool, true, false, not, ◌&&◌, ◌==◌, nat_lt, List, [], ◌∷◌, Option, Some, None, is_some, length, filter, map, if◌then◌else◌}
use Rattle.std.specs.List.{find, list_any}
use Rattle.shard_names.specs.declared.alias.Alias.{Alias}
use Rattle.shard_names.specs.declared.tablet.Tablet.{Tablet}
use Rattle.shard_names.specs.Tablets.{alias_eq, is_among}
use Rattle.gtid_sets.specs.Position.{Position, covers}
use Rattle.durability.specs.Policies.{rules_of}
use Rattle.topo_lock.specs.declared.intent.Record.{Record}
use Rattle.shard_calls.specs.declared.analysis.Analysis.{Analysis}
use Rattle.shard_calls.specs.declared.analysis.Analysis.TheVariants as analyses
use Rattle.shard_calls.specs.declared.analysis.Finding.{Finding}
use Rattle.shard_calls.specs.declared.analysis.Snapshot.{Snapshot}
use Rattle.shard_calls.specs.declared.analysis.Status.{Status}
use Rattle.shard_calls.specs.declared.analysis.TabletStatus.{TabletStatus}
use Rattle.shard_calls.specs.declared.group.Group.{Group}
use Rattle.shard_calls.specs.declared.stand.Stand.{Stand}
use Rattle.shard_calls.specs.declared.stand.Stand.TheVariants as stands
use Rattle.shard_calls.specs.Stands.{is_primary_of}

-- what each tablet said, if it was reached
abbrev pub Statuses : Type 0
Statuses = Alias → Option Status

abbrev pub is_reached : Statuses → Tablet → Bool
is_reached said t = is_some (said t.alias)

abbrev pub finding : Alias → Analysis → Finding
finding a x = record { alias = a; analysis = x }

-- ---- of the recorded primary

abbrev pub is_replica : Stand → Bool
is_replica (stands.Replica source t next) = true
is_replica _ = false

abbrev pub others_than : Group → Alias → List Tablet
others_than g p = filter (λ t. not (alias_eq t.alias p)) g.tablets

-- it was not reached
abbrev pub analysis_of_dead : List Tablet → Statuses → Analysis
analysis_of_dead others said =
    if length others == 0 then analyses.DeadPrimaryWithoutReplicas
    else if not (list_any (is_reached said) others) then analyses.DeadPrimaryAndReplicas
    else if list_any (λ t. not (is_reached said t)) others then analyses.DeadPrimaryAndSomeReplicas
    else analyses.DeadPrimary

abbrev pub follows : Alias → ℕ → Stand → Bool
follows p u (stands.Replica source t next) = alias_eq source p && (t == u)
follows p u _ = false

-- the tablet said that it replicates from this one in this term
abbrev pub replicates : Alias → ℕ → Option Status → Bool
replicates p u None = false
replicates p u (Some s) = follows p u s.stand

-- fewer of its ackers replicate from it than have to acknowledge its writes
abbrev pub is_locked : Group → Tablet → ℕ → Statuses → Bool
is_locked g p u said =
    nat_lt (length (filter (λ t. (rules_of g.policy).is_acker p t && replicates p.alias u (said t.alias)) g.tablets)) ((rules_of g.policy).acks p)

abbrev pub analysis_of_primary : Group → Record → Statuses → Tablet → Option Status → Analysis
analysis_of_primary g r said p None = analysis_of_dead (others_than g p.alias) said
analysis_of_primary g r said p (Some s) =
    if is_replica s.stand then analyses.PrimaryHasPrimary
    else if not (is_primary_of s.stand r.term) then analyses.PrimaryIsReadOnly
    else if is_locked g p r.term said then analyses.LockedSemiSyncPrimary
    else analyses.NoProblem

-- ---- of another tablet

-- it has nothing that the primary p of term u lacks, and stands so
abbrev pub analysis_by_stand : Alias → ℕ → Stand → Analysis
analysis_by_stand p u stands.Down = analyses.NoProblem
analysis_by_stand p u stands.Stopped = analyses.ReplicationStopped
analysis_by_stand p u (stands.Primary t) = analyses.ReplicaIsWritable
analysis_by_stand p u (stands.Demoted t by) = analyses.NotConnectedToPrimary
analysis_by_stand p u (stands.Feeder t) = analyses.NotConnectedToPrimary
analysis_by_stand p u (stands.Replica source t next) =
    if not (alias_eq source p) then analyses.ConnectedToWrongPrimary else if t == u then analyses.NoProblem else analyses.NotConnectedToPrimary

-- beside a primary that has this position
abbrev pub analysis_beside : Alias → ℕ → Position → Option Status → Analysis
analysis_beside p u has None = analyses.NoProblem
analysis_beside p u has (Some s) = if covers has s.position then analysis_by_stand p u s.stand else analyses.ErrantGTIDDetected

-- only a tablet that stands as a primary shows what is amiss with others
abbrev pub analysis_under : Alias → Stand → Position → Option Status → Analysis
analysis_under p (stands.Primary u) has s = analysis_beside p u has s
analysis_under p _ has s = analyses.NoProblem

abbrev pub analysis_of_other : Alias → Option Status → Option Status → Analysis
analysis_of_other p None s = analyses.NoProblem
analysis_of_other p (Some primary) s = analysis_under p primary.stand primary.position s

-- ---- of all

abbrev pub analysis_of : Group → Record → List Alias → Statuses → Tablet → Analysis
analysis_of g r marks said t =
    if alias_eq t.alias r.alias then analysis_of_primary g r said t (said t.alias)
    else if is_among marks t.alias then analyses.NoProblem
    else analysis_of_other r.alias (said r.alias) (said t.alias)

-- where no primary is recorded, it is said of the first tablet
abbrev pub without_primary : List Tablet → List Finding
without_primary [] = []
without_primary (t ∷ ts) = finding t.alias analyses.ClusterHasNoPrimary ∷ map (λ u. finding u.alias analyses.NoProblem) ts

-- what is amiss with each tablet, where this primary is recorded and these tablets are marked as drained
abbrev pub analysed : Group → Option Record → List Alias → Statuses → List Finding
analysed g None marks said = without_primary g.tablets
analysed g (Some r) marks said = map (λ t. finding t.alias (analysis_of g r marks said t)) g.tablets

abbrev pub status_by : Option TabletStatus → Option Status
status_by None = None
status_by (Some s) = s.status

-- what each tablet said by this list, where the first entry of a tablet counts
abbrev pub said_in : List TabletStatus → Statuses
said_in statuses a = status_by (find (λ s. alias_eq s.alias a) statuses)

-- what is amiss with each tablet of a shard at a moment
abbrev pub analysis_at : Snapshot → List Finding
analysis_at s = analysed s.group s.recorded s.drained (said_in s.statuses)

-- ---- what is to be done about it

abbrev pub is_problem : Analysis → Bool
is_problem analyses.NoProblem = false
is_problem _ = true

-- a primary is to be elected
abbrev pub is_orphaned : Analysis → Bool
is_orphaned analyses.ClusterHasNoPrimary = true
is_orphaned _ = false

-- the primary is to be replaced
abbrev pub is_urgent : Analysis → Bool
is_urgent analyses.DeadPrimary = true
is_urgent analyses.DeadPrimaryAndSomeReplicas = true
is_urgent analyses.PrimaryHasPrimary = true
is_urgent analyses.PrimaryIsReadOnly = true
is_urgent _ = false

-- the tablet is to be drained
abbrev pub is_errant : Analysis → Bool
is_errant analyses.ErrantGTIDDetected = true
is_errant _ = false

-- the tablet is to be drained, or to join the primary
abbrev pub is_to_repair : Analysis → Bool
is_to_repair analyses.ReplicaIsWritable = true
is_to_repair analyses.ConnectedToWrongPrimary = true
is_to_repair analyses.NotConnectedToPrimary = true
is_to_repair analyses.ReplicationStopped = true
is_to_repair analyses.ErrantGTIDDetected = true
is_to_repair _ = false

abbrev pub finds : (Analysis → Bool) → List Finding → Bool
finds test findings = list_any (λ f. test f.analysis) findings

-- those of which something is amiss
abbrev pub problems : List Finding → List Finding
problems findings = filter (λ f. is_problem f.analysis) findings

abbrev pub to_repair : List Finding → List Finding
to_repair findings = filter (λ f. is_to_repair f.analysis) findings

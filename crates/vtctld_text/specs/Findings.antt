-- What a vtorc says of a tablet: an analysis by its name among those of VTOrc (Vitess manual, "VTOrc"), and the tablet.
use Rattle.std.specs.Prelude.{ℕ, List, [], ◌∷◌, ◌++◌, codes}
use Rattle.shard_names.specs.Alias.{alias_text}
use Rattle.shard_calls.specs.declared.analysis.Analysis.{Analysis}
use Rattle.shard_calls.specs.declared.analysis.Analysis.TheVariants as analyses
use Rattle.shard_calls.specs.declared.analysis.Finding.{Finding}

abbrev pub analysis_text : Analysis → List ℕ
analysis_text analyses.NoProblem = codes "NoProblem"
analysis_text analyses.ClusterHasNoPrimary = codes "ClusterHasNoPrimary"
analysis_text analyses.DeadPrimaryWithoutReplicas = codes "DeadPrimaryWithoutReplicas"
analysis_text analyses.DeadPrimaryAndReplicas = codes "DeadPrimaryAndReplicas"
analysis_text analyses.DeadPrimaryAndSomeReplicas = codes "DeadPrimaryAndSomeReplicas"
analysis_text analyses.DeadPrimary = codes "DeadPrimary"
analysis_text analyses.PrimaryHasPrimary = codes "PrimaryHasPrimary"
analysis_text analyses.PrimaryIsReadOnly = codes "PrimaryIsReadOnly"
analysis_text analyses.LockedSemiSyncPrimary = codes "LockedSemiSyncPrimary"
analysis_text analyses.ErrantGTIDDetected = codes "ErrantGTIDDetected"
analysis_text analyses.ReplicaIsWritable = codes "ReplicaIsWritable"
analysis_text analyses.ConnectedToWrongPrimary = codes "ConnectedToWrongPrimary"
analysis_text analyses.NotConnectedToPrimary = codes "NotConnectedToPrimary"
analysis_text analyses.ReplicationStopped = codes "ReplicationStopped"

unfoldable pub finding_text : Finding → List ℕ
finding_text f = analysis_text f.analysis ++ codes " on " ++ alias_text f.alias

-- what is amiss first, or that nothing is
abbrev pub first_found_text : List Finding → List ℕ
first_found_text [] = codes "NoProblem"
first_found_text (f ∷ fs) = finding_text f

-- those behind the first
abbrev pub found_behind : List Finding → List Finding
found_behind [] = []
found_behind (f ∷ fs) = fs

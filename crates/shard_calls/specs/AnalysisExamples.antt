-- What is amiss with the tablets of small shards, by what they say: each analysis of VTOrc (Vitess manual, "VTOrc"), and which of two comes first.
use Rattle.std.specs.Prelude.{◌≡◌, ℕ, List, [], ◌∷◌, map, Option, Some, None, codes}
use Rattle.shard_names.specs.declared.alias.Alias.{Alias}
use Rattle.shard_names.specs.declared.tablet.Tablet.{Tablet}
use Rattle.shard_names.specs.declared.tablet.TabletType.TheVariants as types
use Rattle.gtid_sets.specs.declared.gtid.Gtid.{Gtid}
use Rattle.gtid_sets.specs.Position.{Position, of_gtids}
use Rattle.durability.specs.declared.policy.Durability.TheVariants as policies
use Rattle.topo_lock.specs.declared.intent.Record.{Record}
use Rattle.shard_calls.specs.declared.analysis.Analysis.{Analysis}
use Rattle.shard_calls.specs.declared.analysis.Analysis.TheVariants.{NoProblem, ClusterHasNoPrimary, DeadPrimaryWithoutReplicas, DeadPrimaryAndReplicas, DeadPrimaryAndSomeReplicas, DeadPrimary, PrimaryHasPrimary, PrimaryIsReadOnly, LockedSemiSyncPrimary, ErrantGTIDDetected, ReplicaIsWritable, ConnectedToWrongPrimary, NotConnectedToPrimary, ReplicationStopped}
use Rattle.shard_calls.specs.declared.analysis.Status.{Status}
use Rattle.shard_calls.specs.declared.analysis.TabletStatus.{TabletStatus}
use Rattle.shard_calls.specs.declared.group.Group.{Group}
use Rattle.shard_calls.specs.declared.stand.Stand.{Stand}
use Rattle.shard_calls.specs.declared.stand.Stand.TheVariants as stands
use Rattle.shard_calls.specs.Analysis.{analysis_at}

-- ---- three replicas, of which the first is recorded as the primary of term 2, and one of the others has to acknowledge its writes

abbrev pub alias_of : ℕ → Alias
alias_of uid = record { cell = codes "zone1"; uid = uid }

abbrev pub z100 : Alias
z100 = alias_of 100

abbrev pub z101 : Alias
z101 = alias_of 101

abbrev pub z102 : Alias
z102 = alias_of 102

abbrev pub server_with : ℕ → List ℕ
server_with last = 0 ∷ 0 ∷ 0 ∷ 0 ∷ 0 ∷ 0 ∷ 64 ∷ 0 ∷ 128 ∷ 0 ∷ 0 ∷ 0 ∷ 0 ∷ 0 ∷ 1 ∷ last ∷ []

abbrev pub gtid_of : ℕ → ℕ → Gtid
gtid_of last number = record { server = server_with last; number = number }

abbrev pub replica_of : ℕ → ℕ → Tablet
replica_of uid last = record { alias = alias_of uid; server = server_with last; kind = types.Replica }

abbrev pub group_of : List Tablet → Group
group_of tablets = record { tablets = tablets; policy = policies.SemiSync }

abbrev pub three : Group
three = group_of (replica_of 100 0 ∷ replica_of 101 1 ∷ replica_of 102 2 ∷ [])

abbrev pub recorded : Option Record
recorded = Some (record { alias = z100; term = 2; moment = 0 })

-- ---- what they say

-- two transactions of the first tablet, of which another may have one; and one of the third
abbrev pub one_row : Position
one_row = of_gtids (gtid_of 0 1 ∷ [])

abbrev pub two_rows : Position
two_rows = of_gtids (gtid_of 0 1 ∷ gtid_of 0 2 ∷ [])

abbrev pub own_row : Position
own_row = of_gtids (gtid_of 0 1 ∷ gtid_of 2 1 ∷ [])

abbrev pub up : Stand → Position → Option Status
up at p = Some (record { stand = at; position = p })

abbrev pub leads : Option Status
leads = up (stands.Primary 2) two_rows

abbrev pub follows : Option Status
follows = up (stands.Replica z100 2 3) two_rows

abbrev pub said : Alias → Option Status → TabletStatus
said a s = record { alias = a; status = s }

abbrev pub statuses : Option Status → Option Status → Option Status → List TabletStatus
statuses p a b = said z100 p ∷ said z101 a ∷ said z102 b ∷ []

abbrev pub found_in : Group → Option Record → List Alias → List TabletStatus → List Analysis
found_in g r marks said = map (λ f. f.analysis) (analysis_at (record { group = g; recorded = r; drained = marks; statuses = said }))

-- by what the three say, none of which is drained
abbrev pub found : Option Status → Option Status → Option Status → List Analysis
found p a b = found_in three recorded [] (statuses p a b)

-- of the third, where the others are the primary and a replica of it
abbrev pub third_is : Option Status → Analysis → Type 0
third_is b x = found leads follows b ≡ NoProblem ∷ NoProblem ∷ x ∷ []

-- ---- the analyses

pub record PrimariesAreAnalysed : Type 0 where
  pub none_recorded : found_in three None [] (statuses leads follows follows) ≡ ClusterHasNoPrimary ∷ NoProblem ∷ NoProblem ∷ []
  pub alone : found_in (group_of (replica_of 100 0 ∷ [])) recorded [] [] ≡ DeadPrimaryWithoutReplicas ∷ []
  pub all_dead : found None None None ≡ DeadPrimaryAndReplicas ∷ NoProblem ∷ NoProblem ∷ []
  pub some_dead : found None follows None ≡ DeadPrimaryAndSomeReplicas ∷ NoProblem ∷ NoProblem ∷ []
  pub dead : found None follows follows ≡ DeadPrimary ∷ NoProblem ∷ NoProblem ∷ []
  pub replicates : found (up (stands.Replica z101 3 1) two_rows) follows follows ≡ PrimaryHasPrimary ∷ NoProblem ∷ NoProblem ∷ []
  pub demoted : found (up (stands.Demoted 2 3) two_rows) follows follows ≡ PrimaryIsReadOnly ∷ NoProblem ∷ NoProblem ∷ []
  -- it stands as the primary of another term than the recorded one, and so of another than that in which the others replicate
  pub of_another_term : found (up (stands.Primary 3) two_rows) follows follows ≡ PrimaryIsReadOnly ∷ NotConnectedToPrimary ∷ NotConnectedToPrimary ∷ []
  pub locked : found leads None (up stands.Stopped two_rows) ≡ LockedSemiSyncPrimary ∷ NoProblem ∷ ReplicationStopped ∷ []
  pub well : found leads follows follows ≡ NoProblem ∷ NoProblem ∷ NoProblem ∷ []

pub record OthersAreAnalysed : Type 0 where
  pub not_reached : third_is None NoProblem
  pub errant : third_is (up (stands.Replica z100 2 1) own_row) ErrantGTIDDetected
  -- whatever else is amiss with it
  pub writes_errant : third_is (up (stands.Primary 1) own_row) ErrantGTIDDetected
  pub drained : found_in three recorded (z102 ∷ []) (statuses leads follows (up (stands.Primary 1) own_row)) ≡ NoProblem ∷ NoProblem ∷ NoProblem ∷ []
  pub writes : third_is (up (stands.Primary 1) one_row) ReplicaIsWritable
  pub of_another_source : third_is (up (stands.Replica z101 2 2) one_row) ConnectedToWrongPrimary
  pub of_another_term : third_is (up (stands.Replica z100 1 2) one_row) NotConnectedToPrimary
  pub demoted : third_is (up (stands.Demoted 1 2) one_row) NotConnectedToPrimary
  pub feeds : third_is (up (stands.Feeder 2) one_row) NotConnectedToPrimary
  pub stopped : third_is (up stands.Stopped one_row) ReplicationStopped
  -- who is behind is well
  pub behind : third_is (up (stands.Replica z100 2 2) one_row) NoProblem

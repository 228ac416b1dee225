-- A vtorc played by computation: what is demanded after each of the deeds of a span. After VTOrc (Vitess manual, "VTOrc").
use Rattle.std.specs.Prelude.{◌≡◌, List, [], ◌∷◌, ◌++◌, take, Option, Some, None, Ok, Err, codes}
use Rattle.shard_names.specs.declared.alias.Alias.{Alias}
use Rattle.gtid_sets.specs.Position.{Position, nothing, of_gtids}
use Rattle.durability.specs.declared.policy.Durability.{Durability}
use Rattle.durability.specs.declared.policy.Durability.TheVariants as policies
use Rattle.topo_lock.specs.declared.intent.Record.{Record}
use Rattle.shard_calls.specs.declared.analysis.Analysis.TheVariants as analyses
use Rattle.shard_calls.specs.declared.answer.Answer.{Answer}
use Rattle.shard_calls.specs.declared.answer.Answer.TheVariants as says
use Rattle.shard_calls.specs.declared.call.Call.TheVariants as calls
use Rattle.shard_calls.specs.declared.ending.CommandAnswer.{CommandAnswer}
use Rattle.shard_calls.specs.declared.ending.CommandAnswer.TheVariants as endings
use Rattle.shard_calls.specs.declared.ending.Rest.TheVariants as lines
use Rattle.shard_calls.specs.declared.event.Seen.{Seen}
use Rattle.shard_calls.specs.declared.refusal.Refusal.TheVariants as refusals
use Rattle.shard_calls.specs.declared.span.Deed.{Deed}
use Rattle.shard_calls.specs.declared.span.Deed.TheVariants as deeds
use Rattle.shard_calls.specs.declared.span.Kind.TheVariants as kinds
use Rattle.shard_calls.specs.declared.span.Outcome.TheVariants as outcomes
use Rattle.shard_calls.specs.declared.stand.Stand.{Stand}
use Rattle.shard_calls.specs.declared.stand.Stand.TheVariants as stands
use Rattle.shard_calls.specs.declared.why.Why.TheVariants as whys
use Rattle.shard_calls.specs.Analysis.{finding}
use Rattle.courses.specs.declared.demands.Demand.TheVariants.{Does, Awaits, Leaves}
use Rattle.courses.specs.declared.want.Want.TheVariants as wants
use Rattle.courses.specs.Walks.{Course}
use Rattle.courses.specs.Course.{demand}
use Rattle.courses.specs.Examples.{z100, z101, z102, three, seen_of, came, said, out, demands, row, primary_row, last_intent}
use Rattle.courses.specs.EmergencyExamples.{rescued_row}
use Rattle.recovery_loop.specs.Watch.{watch_course}

abbrev pub seen_with : Option Record → Seen
seen_with r = record { recorded = r; intent = Some last_intent; drained = [] }

-- the first tablet is recorded as the primary
abbrev pub recorded : Seen
recorded = seen_with (Some (record { alias = z100; term = 1; moment = 5 }))

abbrev pub watches : Durability → Course CommandAnswer
watches policy = watch_course (three policy) recorded

abbrev pub stands_so : Alias → Stand → Position → Deed
stands_so a stand p = said kinds.Status a (says.Status 1 1 stand 1 p)

-- ---- the primary does not answer, and is replaced by the tablet that has most

abbrev pub PrimaryIsReplaced : Type 0
PrimaryIsReplaced =
    demands (watches policies.SemiSync)
    (stands_so z101 (stands.Replica z100 1 3) primary_row
    ∷ stands_so z102 (stands.Replica z100 1 2) (row 0 1)
    ∷ came kinds.Status z100 (outcomes.GivenUp whys.Down)
    ∷ deeds.Took (Ok 2)
    ∷ seen_of (Some last_intent)
    ∷ came kinds.Stop z100 (outcomes.GivenUp whys.Down)
    ∷ said kinds.Stop z101 (says.Stopped 1 primary_row)
    ∷ said kinds.Stop z102 (says.Stopped 1 (row 0 1))
    ∷ deeds.Intended z101 (Ok tt)
    ∷ said kinds.Promote z101 (says.Promoted rescued_row)
    ∷ deeds.Recorded z101 (Ok tt)
    ∷ said kinds.SetSource z102 says.Joined
    ∷ said kinds.WaitTold z101 says.Told
    ∷ [])
    ≡ (Does (wants.Ask z101 calls.Status)
    ∷ Does (wants.Ask z102 calls.Status)
    ∷ Does (wants.Ask z100 calls.Status)
    ∷ Does wants.Take
    ∷ Does wants.Read
    ∷ Does (wants.Ask z100 calls.Stop)
    ∷ Does (wants.Ask z101 calls.Stop)
    ∷ Does (wants.Ask z102 calls.Stop)
    ∷ Does (wants.Intend z101)
    ∷ Does (wants.Ask z101 (calls.Promote primary_row))
    ∷ Does (wants.Record z101)
    ∷ Does (wants.Ask z102 (calls.SetSource z101 2 rescued_row))
    ∷ Does (wants.Ask z101 (calls.WaitTold 15000))
    ∷ Leaves (endings.Vtorc (finding z100 analyses.DeadPrimary ∷ []) (lines.Promoted z101 2 [] ∷ []))
    ∷ [])

-- ---- no primary is recorded, and one is elected; that its lock is taken is the line of the election

abbrev pub PrimaryIsElected : Type 0
PrimaryIsElected =
    demands (watch_course (three policies.None) (seen_with None))
    (stands_so z100 stands.Stopped nothing
    ∷ stands_so z101 stands.Stopped nothing
    ∷ came kinds.Status z102 (outcomes.GivenUp whys.Cut)
    ∷ deeds.Took (Err (record { term = 1; actor = codes "B" }))
    ∷ [])
    ≡ (Does (wants.Ask z100 calls.Status)
    ∷ Does (wants.Ask z101 calls.Status)
    ∷ Does (wants.Ask z102 calls.Status)
    ∷ Does wants.Take
    ∷ Leaves (endings.Vtorc (finding z100 analyses.ClusterHasNoPrimary ∷ []) (lines.Refused (refusals.LockTaken 1 (codes "B")) None ∷ []))
    ∷ [])

-- ---- beside a primary that stands, one tablet has what the primary lacks, and another does not replicate

abbrev pub amiss : List Deed
amiss =
    stands_so z101 (stands.Replica z100 1 2) (row 1 9)
    ∷ stands_so z102 stands.Stopped (row 0 1)
    ∷ stands_so z100 (stands.Primary 1) primary_row
    ∷ []

abbrev pub ReplicasAreRepaired : Type 0
ReplicasAreRepaired =
    demands (watches policies.None)
    (amiss
    ++ deeds.Took (Ok 2)
    ∷ deeds.Drained z101 (Ok tt)
    ∷ said kinds.SetSource z102 says.Joined
    ∷ [])
    ≡ (Does (wants.Ask z101 calls.Status)
    ∷ Does (wants.Ask z102 calls.Status)
    ∷ Does (wants.Ask z100 calls.Status)
    ∷ Does wants.Take
    ∷ Does (wants.Drain z101)
    ∷ Does (wants.Ask z102 (calls.SetSource z100 1 primary_row))
    ∷ Leaves (endings.Vtorc (finding z101 analyses.ErrantGTIDDetected ∷ finding z102 analyses.ReplicationStopped ∷ [])
    (lines.Drained z101 ∷ lines.Joined z102 z100 ∷ []))
    ∷ [])

-- after a lost lock nothing more is done, and under a taken one nothing at all
abbrev pub FirstRefusalIsLast : Type 0
FirstRefusalIsLast =
    demand (watches policies.None) (amiss ++ deeds.Took (Ok 2) ∷ deeds.Drained z101 (Err 3) ∷ [])
    ≡ Leaves (endings.Vtorc (finding z101 analyses.ErrantGTIDDetected ∷ finding z102 analyses.ReplicationStopped ∷ [])
    (lines.Refused (refusals.LockLost 3) None ∷ []))

abbrev pub LockIsTaken : Type 0
LockIsTaken =
    demand (watches policies.None) (amiss ++ deeds.Took (Err (record { term = 2; actor = codes "B" })) ∷ [])
    ≡ Leaves (endings.Vtorc (finding z101 analyses.ErrantGTIDDetected ∷ finding z102 analyses.ReplicationStopped ∷ [])
    (lines.Refused (refusals.LockTaken 2 (codes "B")) None ∷ []))

-- ---- nothing is amiss; and as long as a call is out, nobody knows

abbrev pub well : List Deed
well =
    stands_so z101 (stands.Replica z100 1 3) primary_row
    ∷ stands_so z102 (stands.Replica z100 1 2) (row 0 1)
    ∷ stands_so z100 (stands.Primary 1) primary_row
    ∷ []

abbrev pub NothingIsAmiss : Type 0
NothingIsAmiss = demand (watches policies.SemiSync) well ≡ Leaves (endings.Vtorc [] [])

abbrev pub WaitsForStatuses : Type 0
WaitsForStatuses = demand (watches policies.SemiSync) (take 2 well ++ out kinds.Status z100 ∷ []) ≡ Awaits

-- Courses played by computation: what is demanded after each of the deeds of a span. Courses are those of vtctldclient (Vitess manual).
use Rattle.std.specs.Prelude.{◌≡◌, ℕ, zero, suc, ◌+◌, true, false, List, [], ◌∷◌, ◌++◌, take, length, Option, Some, None, Ok, codes}
use Rattle.shard_names.specs.declared.alias.Alias.{Alias}
use Rattle.shard_names.specs.declared.tablet.Tablet.{Tablet}
use Rattle.shard_names.specs.declared.tablet.TabletType.TheVariants as types
use Rattle.gtid_sets.specs.declared.gtid.Gtid.{Gtid}
use Rattle.gtid_sets.specs.Position.{Position, nothing, of_gtids}
use Rattle.durability.specs.declared.policy.Durability.{Durability}
use Rattle.durability.specs.declared.policy.Durability.TheVariants as policies
use Rattle.topo_lock.specs.declared.intent.Intent.{Intent}
use Rattle.shard_calls.specs.declared.answer.Answer.{Answer}
use Rattle.shard_calls.specs.declared.answer.Answer.TheVariants as says
use Rattle.shard_calls.specs.declared.call.Call.TheVariants as calls
use Rattle.shard_calls.specs.declared.span.Kind.{Kind}
use Rattle.shard_calls.specs.declared.span.Kind.TheVariants as kinds
use Rattle.shard_calls.specs.declared.span.Outcome.{Outcome}
use Rattle.shard_calls.specs.declared.span.Outcome.TheVariants as outcomes
use Rattle.shard_calls.specs.declared.stand.Stand.TheVariants as stands
use Rattle.shard_calls.specs.declared.why.Why.TheVariants as whys
use Rattle.shard_calls.specs.declared.ending.CommandAnswer.{CommandAnswer}
use Rattle.shard_calls.specs.declared.ending.CommandAnswer.TheVariants as endings
use Rattle.shard_calls.specs.declared.group.Group.{Group}
use Rattle.shard_calls.specs.declared.ending.Left.TheVariants as lefts
use Rattle.shard_calls.specs.declared.command.PlannedOptions.{PlannedOptions}
use Rattle.shard_calls.specs.declared.refusal.Refusal.TheVariants as refusals
use Rattle.shard_calls.specs.declared.span.Deed.{Deed}
use Rattle.shard_calls.specs.declared.span.Deed.TheVariants as deeds
use Rattle.shard_calls.specs.declared.span.Transaction.{Transaction}
use Rattle.courses.specs.declared.want.Want.TheVariants as wants
use Rattle.courses.specs.Walks.{Course}
use Rattle.courses.specs.Planned.{planned_course}
use Rattle.courses.specs.External.{external_course}
use Rattle.courses.specs.Writing.{write_course}
use Rattle.courses.specs.Course.{demand}
use Rattle.courses.specs.declared.demands.Demand.{Demand}
use Rattle.courses.specs.declared.demands.Demand.TheVariants.{Does, Awaits, Leaves}

-- ---- three replicas

abbrev pub alias_of : ℕ → Alias
alias_of uid = record { cell = codes "zone1"; uid = uid }

abbrev pub z100 : Alias
z100 = alias_of 100

abbrev pub z101 : Alias
z101 = alias_of 101

abbrev pub z102 : Alias
z102 = alias_of 102

abbrev pub server_with : ℕ → List ℕ
server_with last = 0 ∷ 0 ∷ 0 ∷ 0 ∷ 0 ∷ 0 ∷ 64 ∷ 0 ∷ 128 ∷ 0 ∷ 0 ∷ 0 ∷ 0 ∷ 0 ∷ 1 ∷ last ∷ []

abbrev pub gtid_of : ℕ → ℕ → Gtid
gtid_of last number = record { server = server_with last; number = number }

abbrev pub replica_of : ℕ → ℕ → Tablet
replica_of uid last = record { alias = alias_of uid; server = server_with last; kind = types.Replica }

abbrev pub three : Durability → Group
three policy = record { tablets = replica_of 100 0 ∷ replica_of 101 1 ∷ replica_of 102 2 ∷ []; policy = policy }

abbrev pub to_primary : Alias → PlannedOptions
to_primary a = record { new_primary = Some a; avoid = None; expected = None; timeout = 15000; allow_cross_cell = false }

-- ---- deeds

abbrev pub seen_of : Option Intent → Deed
seen_of i = deeds.Read (Ok (record { recorded = None; intent = i; drained = [] }))

abbrev pub came : Kind → Alias → Outcome → Deed
came kind a o = deeds.Asked (record { alias = a; kind = kind; message = 1; term = 2; sent = 7; arrived = 9; outcome = Some o })

abbrev pub said : Kind → Alias → Answer → Deed
said kind a answer = came kind a (outcomes.Answered answer)

abbrev pub out : Kind → Alias → Deed
out kind a = deeds.Asked (record { alias = a; kind = kind; message = 1; term = 2; sent = 7; arrived = 9; outcome = None })

-- what is demanded after each of the deeds, from so many on
abbrev pub demands_from : ℕ → ℕ → Course CommandAnswer → List Deed → List Demand
demands_from n zero course span = demand course span ∷ []
demands_from n (suc more) course span = demand course (take n span) ∷ demands_from (n + 1) more course span

abbrev pub demands : Course CommandAnswer → List Deed → List Demand
demands course span = demands_from 0 (length span) course span

-- ---- a first reparent

abbrev pub row : ℕ → ℕ → Position
row last number = of_gtids (gtid_of last number ∷ [])

abbrev pub FirstReparent : Type 0
FirstReparent =
    demands (planned_course (three policies.None) (to_primary z100))
    (deeds.Took (Ok 1)
    ∷ seen_of None
    ∷ deeds.Intended z100 (Ok tt)
    ∷ said kinds.Promote z100 (says.Promoted (row 0 1))
    ∷ deeds.Recorded z100 (Ok tt)
    ∷ said kinds.SetSource z101 says.Joined
    ∷ came kinds.SetSource z102 (outcomes.GivenUp whys.Cut)
    ∷ said kinds.WaitTold z100 says.Told
    ∷ [])
    ≡ (Does wants.Take
    ∷ Does wants.Read
    ∷ Does (wants.Intend z100)
    ∷ Does (wants.Ask z100 (calls.Promote nothing))
    ∷ Does (wants.Record z100)
    ∷ Does (wants.Ask z101 (calls.SetSource z100 1 (row 0 1)))
    ∷ Does (wants.Ask z102 (calls.SetSource z100 1 (row 0 1)))
    ∷ Does (wants.Ask z100 (calls.WaitTold 15000))
    ∷ Leaves (endings.Promoted z100 1 (record { alias = z102; left = lefts.GivenUp whys.Cut } ∷ []))
    ∷ [])

-- ---- a planned reparent whose tablet does not catch up, with its undo

abbrev pub primary_row : Position
primary_row = of_gtids (gtid_of 0 1 ∷ gtid_of 0 2 ∷ [])

abbrev pub undone_row : Position
undone_row = of_gtids (gtid_of 0 1 ∷ gtid_of 0 2 ∷ gtid_of 0 3 ∷ [])

abbrev pub missing : Position
missing = row 0 2

abbrev pub last_intent : Intent
last_intent = record { term = 1; alias = z100 }

abbrev pub not_caught_up : List Deed
not_caught_up =
    deeds.Took (Ok 2)
    ∷ seen_of (Some last_intent)
    ∷ said kinds.Demote z100 (says.Demoted 1 primary_row)
    ∷ said kinds.SetSource z101 (says.Kept (stands.Replica z100 1 2))
    ∷ said kinds.WaitFor z101 (says.NotCaughtUp missing)
    ∷ deeds.Intended z100 (Ok tt)
    ∷ said kinds.Promote z100 (says.Promoted undone_row)
    ∷ deeds.Recorded z100 (Ok tt)
    ∷ said kinds.SetSource z101 says.Joined
    ∷ said kinds.SetSource z102 says.Joined
    ∷ said kinds.WaitTold z100 says.Told
    ∷ []

abbrev pub UndoneReparent : Type 0
UndoneReparent =
    demands (planned_course (three policies.SemiSync) (to_primary z101)) not_caught_up
    ≡ (Does wants.Take
    ∷ Does wants.Read
    ∷ Does (wants.Ask z100 calls.Demote)
    ∷ Does (wants.Ask z101 (calls.SetSource z100 1 primary_row))
    ∷ Does (wants.Ask z101 (calls.WaitFor primary_row 15000))
    ∷ Does (wants.Intend z100)
    ∷ Does (wants.Ask z100 (calls.Promote primary_row))
    ∷ Does (wants.Record z100)
    ∷ Does (wants.Ask z101 (calls.SetSource z100 2 undone_row))
    ∷ Does (wants.Ask z102 (calls.SetSource z100 2 undone_row))
    ∷ Does (wants.Ask z100 (calls.WaitTold 15000))
    ∷ Leaves (endings.Refused (refusals.NotCaughtUp z101 missing 7 9) (Some true))
    ∷ [])

-- where a call is out it waits; where the promotion back fails it is not undone; and what is none of the course makes it leave
abbrev pub WaitsForPromotion : Type 0
WaitsForPromotion =
    demand (planned_course (three policies.SemiSync) (to_primary z101)) (take 6 not_caught_up ++ out kinds.Promote z100 ∷ []) ≡ Awaits

abbrev pub NotUndone : Type 0
NotUndone =
    demand (planned_course (three policies.SemiSync) (to_primary z101)) (take 6 not_caught_up ++ came kinds.Promote z100 (outcomes.GivenUp whys.Down) ∷ [])
    ≡ Leaves (endings.Refused (refusals.NotCaughtUp z101 missing 7 9) (Some false))

abbrev pub StraysOff : Type 0
StraysOff =
    demand (planned_course (three policies.SemiSync) (to_primary z101)) (take 2 not_caught_up ++ out kinds.Promote z100 ∷ [])
    ≡ Leaves (endings.Refused refusals.OutOfMemory None)

-- ---- a planned reparent that asks who follows, and takes the replica that has most

abbrev pub any : PlannedOptions
any = record { new_primary = None; avoid = None; expected = None; timeout = 15000; allow_cross_cell = false }

abbrev pub AsksWhoFollows : Type 0
AsksWhoFollows =
    demands (planned_course (three policies.SemiSync) any)
    (deeds.Took (Ok 2)
    ∷ seen_of (Some last_intent)
    ∷ said kinds.Status z101 (says.Status 1 1 (stands.Replica z100 1 2) 1 (row 0 1))
    ∷ said kinds.Status z102 (says.Status 1 1 (stands.Replica z100 1 3) 1 primary_row)
    ∷ [])
    ≡ (Does wants.Take
    ∷ Does wants.Read
    ∷ Does (wants.Ask z101 calls.Status)
    ∷ Does (wants.Ask z102 calls.Status)
    ∷ Does (wants.Ask z100 calls.Demote)
    ∷ [])

-- ---- where the old primary is promoted again, and that does not count as committed, how the undo ends is not told

abbrev pub UndoIsNotTold : Type 0
UndoIsNotTold =
    demands (planned_course (three policies.SemiSync) (to_primary z101))
    (take 10 not_caught_up ++ said kinds.WaitTold z100 says.NotTold ∷ [])
    ≡ take 11 (demands (planned_course (three policies.SemiSync) (to_primary z101)) not_caught_up)
    ++ Leaves (endings.Refused (refusals.NotCaughtUp z101 missing 7 9) (Some true)) ∷ []

-- ---- a promotion by other hands

abbrev pub external_span : Answer → List Deed
external_span answer = deeds.Took (Ok 3) ∷ seen_of (Some last_intent) ∷ said kinds.Status z100 answer ∷ deeds.Recorded z100 (Ok tt) ∷ []

abbrev pub ExternalRecords : Type 0
ExternalRecords =
    demands (external_course (three policies.SemiSync) z100) (external_span (says.Status 1 1 (stands.Primary 1) 1 primary_row))
    ≡ (Does wants.Take ∷ Does wants.Read ∷ Does (wants.Ask z100 calls.Status) ∷ Does (wants.Record z100) ∷ Leaves (endings.Recorded 1) ∷ [])

abbrev pub ExternalIsRefused : Type 0
ExternalIsRefused =
    demand (external_course (three policies.SemiSync) z100) (take 3 (external_span (says.Status 2 2 stands.Stopped 1 primary_row)))
    ≡ Leaves (endings.Refused (refusals.NotPromoted z100 1) None)

-- ---- a write

abbrev pub written : Transaction
written = record { gtid = gtid_of 0 7; term = 1 }

abbrev pub WriteIsCommitted : Type 0
WriteIsCommitted =
    demands (write_course (Some z100) None) (deeds.Wrote z100 (Ok written) ∷ deeds.Told true ∷ [])
    ≡ (Does (wants.Write z100) ∷ Does wants.Tell ∷ Leaves (endings.Committed (gtid_of 0 7) z100 1) ∷ [])

abbrev pub WriteFindsNoPrimary : Type 0
WriteFindsNoPrimary =
    demand (write_course None None) [] ≡ Leaves endings.NoPrimaryRecorded

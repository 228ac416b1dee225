-- EmergencyReparentShard (Vitess manual) played by computation: what is demanded after each of the deeds of a span. The old primary answers no
-- longer, and of three tablets two stop, which are enough under semi_sync. After Sougoumarane's "Consensus algorithms at scale".
use Rattle.std.specs.Prelude.{◌≡◌, false, List, [], ◌∷◌, ◌++◌, take, Option, Some, None, Ok}
use Rattle.shard_names.specs.declared.alias.Alias.{Alias}
use Rattle.gtid_sets.specs.Position.{Position, of_gtids}
use Rattle.durability.specs.declared.policy.Durability.TheVariants as policies
use Rattle.shard_calls.specs.declared.answer.Answer.{Answer}
use Rattle.shard_calls.specs.declared.answer.Answer.TheVariants as says
use Rattle.shard_calls.specs.declared.call.Call.TheVariants as calls
use Rattle.shard_calls.specs.declared.command.EmergencyOptions.{EmergencyOptions}
use Rattle.shard_calls.specs.declared.ending.CommandAnswer.{CommandAnswer}
use Rattle.shard_calls.specs.declared.ending.CommandAnswer.TheVariants as endings
use Rattle.shard_calls.specs.declared.refusal.Refusal.TheVariants as refusals
use Rattle.shard_calls.specs.declared.refusal.Unreached.TheVariants as unreacheds
use Rattle.shard_calls.specs.declared.span.Deed.{Deed}
use Rattle.shard_calls.specs.declared.span.Deed.TheVariants as deeds
use Rattle.shard_calls.specs.declared.span.Kind.TheVariants as kinds
use Rattle.shard_calls.specs.declared.span.Outcome.TheVariants as outcomes
use Rattle.shard_calls.specs.declared.why.Why.TheVariants as whys
use Rattle.courses.specs.declared.demands.Demand.TheVariants.{Does, Awaits, Leaves}
use Rattle.courses.specs.declared.want.Want.TheVariants as wants
use Rattle.courses.specs.Walks.{Course}
use Rattle.courses.specs.Course.{demand}
use Rattle.courses.specs.Emergency.{emergency_course}
use Rattle.courses.specs.Examples.{z100, z101, z102, gtid_of, three, seen_of, came, said, out, demands, row, primary_row, last_intent}

abbrev pub rescue_by : Option Alias → EmergencyOptions
rescue_by a = record { new_primary = a; ignored = []; expected = None; timeout = 15000; prevent_cross_cell = false }

abbrev pub rescue : Option Alias → Course CommandAnswer
rescue a = emergency_course (three policies.SemiSync) (rescue_by a)

-- the old primary is not reached, and each of the others answers this
abbrev pub stopping : Answer → Answer → List Deed
stopping x y =
    deeds.Took (Ok 2)
    ∷ seen_of (Some last_intent)
    ∷ came kinds.Stop z100 (outcomes.GivenUp whys.Down)
    ∷ said kinds.Stop z101 x
    ∷ said kinds.Stop z102 y
    ∷ []

-- the first has all that the old primary wrote, the second less
abbrev pub stopped : List Deed
stopped = stopping (says.Stopped 1 primary_row) (says.Stopped 1 (row 0 1))

abbrev pub rescued_row : Position
rescued_row = of_gtids (gtid_of 0 1 ∷ gtid_of 0 2 ∷ gtid_of 1 1 ∷ [])

-- a primary that failed is replaced by the tablet that has most, and those that stopped are to join it
abbrev pub PrimaryIsReplaced : Type 0
PrimaryIsReplaced =
    demands (rescue None)
    (stopped
    ++ deeds.Intended z101 (Ok tt)
    ∷ said kinds.Promote z101 (says.Promoted rescued_row)
    ∷ deeds.Recorded z101 (Ok tt)
    ∷ said kinds.SetSource z102 says.Joined
    ∷ said kinds.WaitTold z101 says.Told
    ∷ [])
    ≡ (Does wants.Take
    ∷ Does wants.Read
    ∷ Does (wants.Ask z100 calls.Stop)
    ∷ Does (wants.Ask z101 calls.Stop)
    ∷ Does (wants.Ask z102 calls.Stop)
    ∷ Does (wants.Intend z101)
    ∷ Does (wants.Ask z101 (calls.Promote primary_row))
    ∷ Does (wants.Record z101)
    ∷ Does (wants.Ask z102 (calls.SetSource z101 2 rescued_row))
    ∷ Does (wants.Ask z101 (calls.WaitTold 15000))
    ∷ Leaves (endings.Promoted z101 2 [])
    ∷ [])

-- a given tablet that has less is fed by the one that has most, before it is intended
abbrev pub WinnerFeeds : Type 0
WinnerFeeds =
    demands (rescue (Some z102))
    (stopped
    ++ said kinds.Feed z101 says.Feeding
    ∷ said kinds.SetSource z102 says.Joined
    ∷ said kinds.WaitFor z102 says.Holds
    ∷ deeds.Intended z102 (Ok tt)
    ∷ [])
    ≡ (Does wants.Take
    ∷ Does wants.Read
    ∷ Does (wants.Ask z100 calls.Stop)
    ∷ Does (wants.Ask z101 calls.Stop)
    ∷ Does (wants.Ask z102 calls.Stop)
    ∷ Does (wants.Ask z101 calls.Feed)
    ∷ Does (wants.Ask z102 (calls.SetSource z101 2 primary_row))
    ∷ Does (wants.Ask z102 (calls.WaitFor primary_row 15000))
    ∷ Does (wants.Intend z102)
    ∷ Does (wants.Ask z102 (calls.Promote primary_row))
    ∷ [])

-- where a call is out it waits
abbrev pub WaitsForStops : Type 0
WaitsForStops = demand (rescue None) (take 4 stopped ++ out kinds.Stop z102 ∷ []) ≡ Awaits

-- with one tablet alone the old primary could still commit by the other
abbrev pub RefusesUnrevoked : Type 0
RefusesUnrevoked =
    demand (rescue None) (take 3 stopped ++ came kinds.Stop z101 (outcomes.GivenUp whys.Cut) ∷ said kinds.Stop z102 (says.Stopped 1 (row 0 1)) ∷ [])
    ≡ Leaves (endings.Refused (refusals.NotRevoked z100
    (record { alias = z100; unreached = unreacheds.GivenUp whys.Down } ∷ record { alias = z101; unreached = unreacheds.GivenUp whys.Cut } ∷ [])) None)

abbrev pub first_side : Position
first_side = of_gtids (gtid_of 0 1 ∷ gtid_of 1 1 ∷ [])

abbrev pub second_side : Position
second_side = of_gtids (gtid_of 0 1 ∷ gtid_of 2 1 ∷ [])

-- of two tablets of the newest term neither has all that the other has
abbrev pub RefusesSplit : Type 0
RefusesSplit =
    demand (rescue None) (stopping (says.Stopped 1 first_side) (says.Stopped 1 second_side))
    ≡ Leaves (endings.Refused (refusals.SplitBrain z101 first_side z102 second_side) None)

-- a tablet has seen a later term
abbrev pub RefusesStale : Type 0
RefusesStale = demand (rescue None) (stopping (says.Stopped 1 primary_row) (says.StaleTerm 3)) ≡ Leaves (endings.Refused (refusals.StaleTerm z102 3) None)

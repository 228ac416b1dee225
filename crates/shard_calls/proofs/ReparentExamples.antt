-- Histories of reparents played on the definitions by computation: a second planned one, an emergency, and what GetShard and GetTablets answer.
use Rattle.std.proofs.Common.{◌≡◌, ℕ, ◌+◌, true, false, refl, List, [], ◌∷◌, ◌++◌, Some, None, take}
use Rattle.gtid_sets.specs.Position.{Position, nothing, of_gtids}
use Rattle.durability.specs.declared.policy.Durability.TheVariants as policies
use Rattle.shard_calls.specs.declared.call.Call.TheVariants as calls
use Rattle.shard_calls.specs.declared.command.Command.TheVariants as commands
use Rattle.shard_calls.specs.declared.ending.CommandAnswer.TheVariants as answers
use Rattle.shard_calls.specs.declared.ending.ShownType.{ShownType}
use Rattle.shard_calls.specs.declared.ending.ShownType.TheVariants as shown_types
use Rattle.shard_calls.specs.declared.ending.TabletRow.{TabletRow}
use Rattle.shard_calls.specs.declared.event.Event.{Event}
use Rattle.shard_calls.specs.declared.event.Event.TheVariants as events
use Rattle.shard_calls.specs.World.{Config, World, opening, main_name}
use Rattle.shard_calls.specs.Table.{meets}
use Rattle.shard_calls.proofs.Examples.{all_met, world_after_events, alias_of, z100, z101, z102, server_with, gtid_of, start, three_under, three, commerce, events_of_reparent, after_settle}

-- ---- a second reparent: the old primary gives up its place, and the position that it had is the ground

abbrev two_rows : Position
two_rows = of_gtids (gtid_of 0 1 ∷ gtid_of 1 1 ∷ [])

abbrev events_of_demote : List Event
events_of_demote =
    events.Begin main_name (commands.Planned commerce (Some z101) None None None false)
    ∷ events.Take 2
    ∷ events.Read 2
    ∷ events.Send 2 z100 calls.Demote
    ∷ events.Deliver 13
    ∷ events.Deliver 14
    ∷ events.Intend 2 z101
    ∷ []

abbrev events_of_second : List Event
events_of_second =
    events.Send 2 z101 (calls.Promote (of_gtids (gtid_of 0 1 ∷ [])))
    ∷ events.Deliver 15
    ∷ events.Deliver 16
    ∷ events.Record 2 z101
    ∷ events.Send 2 z100 (calls.SetSource z101 2 two_rows)
    ∷ events.Send 2 z102 (calls.SetSource z101 2 two_rows)
    ∷ events.Deliver 17
    ∷ events.Deliver 18
    ∷ events.Deliver 19
    ∷ events.Deliver 20
    ∷ events.Send 2 z101 (calls.WaitTold (start + 15000))
    ∷ events.Deliver 21
    ∷ events.Deliver 22
    ∷ events.Release 2
    ∷ events.End 2 (answers.Promoted z101 2 [])
    ∷ []

abbrev after_demote : World
after_demote = world_after_events three after_settle events_of_demote

second_met : all_met three after_settle (events_of_demote ++ events_of_second) ≡ true
second_met = refl

second_recorded : (world_after_events three after_demote events_of_second).topo.recorded ≡ Some (record { alias = z101; term = 2; moment = start })
second_recorded = refl

-- no other position is a ground
no_other_ground : meets three after_demote (events.Send 2 z101 (calls.Promote nothing)) ≡ false
no_other_ground = refl

-- and where the old primary was not asked there is none
no_ground :
    meets three (world_after_events three after_settle (take 3 events_of_demote ++ events.Intend 2 z101 ∷ [])) (events.Send 2 z101 (calls.Promote (of_gtids (gtid_of 0 1 ∷ [])))) ≡ false
no_ground = refl

-- ---- a look at the record and at the tablets

abbrev row_with : ℕ → ℕ → ShownType → TabletRow
row_with uid last kind = record { alias = alias_of uid; server = server_with last; kind = kind }

abbrev events_of_looks : List Event
events_of_looks =
    events.Begin main_name (commands.GetShard commerce)
    ∷ events.End 2 (answers.Shard commerce (Some (record { alias = z100; term = 1; moment = start })))
    ∷ events.Begin main_name (commands.GetTablets commerce)
    ∷ events.End 3 (answers.Tablets (row_with 100 0 shown_types.Primary ∷ row_with 101 1 shown_types.Replica ∷ row_with 102 2 shown_types.Replica ∷ []))
    ∷ []

looks_met : all_met three after_settle events_of_looks ≡ true
looks_met = refl

-- ---- an emergency: the primary is down, and both that could acknowledge its writes stopped

abbrev semi_three : Config
semi_three = three_under policies.SemiSync

abbrev events_of_semi : List Event
events_of_semi =
    take 14 events_of_reparent
    ++ events.Offer z101
    ∷ events.Deliver 7
    ∷ events.Deliver 8
    ∷ events.Offer z102
    ∷ events.Deliver 9
    ∷ events.Deliver 10
    ∷ events.Send 1 z100 (calls.WaitTold (start + 15000))
    ∷ events.Deliver 11
    ∷ events.Deliver 12
    ∷ events.Release 1
    ∷ events.End 1 (answers.Promoted z100 1 [])
    ∷ []

abbrev events_of_stops : List Event
events_of_stops =
    events.Crash z100 0
    ∷ events.Begin main_name (commands.Emergency commerce None [] None None false)
    ∷ events.Take 2
    ∷ events.Read 2
    ∷ events.Send 2 z100 calls.Stop
    ∷ events.Send 2 z101 calls.Stop
    ∷ events.Send 2 z102 calls.Stop
    ∷ events.GiveUp 2 13
    ∷ events.Deliver 14
    ∷ events.Deliver 15
    ∷ events.Deliver 16
    ∷ []

abbrev events_of_rescue : List Event
events_of_rescue =
    events.Deliver 17
    ∷ events.Intend 2 z101
    ∷ events.Send 2 z101 (calls.Promote (of_gtids (gtid_of 0 1 ∷ [])))
    ∷ events.Deliver 18
    ∷ events.Deliver 19
    ∷ events.Record 2 z101
    ∷ events.Send 2 z102 (calls.SetSource z101 2 two_rows)
    ∷ events.Deliver 20
    ∷ events.Deliver 21
    ∷ events.Offer z102
    ∷ events.Deliver 22
    ∷ events.Deliver 23
    ∷ events.Send 2 z101 (calls.WaitTold (start + 15000))
    ∷ events.Deliver 24
    ∷ events.Deliver 25
    ∷ events.Release 2
    ∷ events.End 2 (answers.Promoted z101 2 [])
    ∷ []

abbrev after_semi : World
after_semi = world_after_events semi_three (opening semi_three) events_of_semi

semi_met : all_met semi_three (opening semi_three) events_of_semi ≡ true
semi_met = refl

rescue_met : all_met semi_three after_semi (events_of_stops ++ events_of_rescue) ≡ true
rescue_met = refl

-- one of the two is not enough
not_revoked :
    meets semi_three (world_after_events semi_three after_semi (events_of_stops ++ events.Intend 2 z101 ∷ [])) (events.Send 2 z101 (calls.Promote (of_gtids (gtid_of 0 1 ∷ []))))
    ≡ false
not_revoked = refl

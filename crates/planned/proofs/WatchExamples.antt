-- Watches of a vtorc played on the definitions by computation.
use Rattle.std.proofs.Common.{◌≡◌, ◌∷◌, [], refl, Some, None}
use Rattle.durability.specs.Counting.{is_unrevoked}
use Rattle.shard_calls.specs.declared.analysis.Analysis.TheVariants as analyses
use Rattle.shard_calls.specs.declared.command.Command.TheVariants as commands
use Rattle.shard_calls.specs.declared.ending.CommandAnswer.TheVariants as answers
use Rattle.shard_calls.specs.declared.ending.Rest.TheVariants as lines
use Rattle.shard_calls.specs.declared.event.Event.TheVariants as events
use Rattle.shard_calls.specs.declared.refusal.Refusal.TheVariants as refusals
use Rattle.shard_calls.specs.declared.refusal.Unreached.TheVariants as unreacheds
use Rattle.shard_calls.specs.declared.why.Why.TheVariants as whys
use Rattle.shard_calls.specs.Analysis.{finding}
use Rattle.shard_calls.specs.Choosing.{reason_to_follow, reason_among}
use Rattle.shard_calls.specs.Rescuing.{fitness, reason_to_rescue}
use Rattle.shard_calls.specs.World.{World, opening, main_name}
use Rattle.shard_calls.specs.Table.{after}
use Rattle.courses.specs.Promoting.{established, promotes, reparents}
use Rattle.courses.specs.Planned.{successor, demotes, catches_up, undone_by, undoes, reparents_all, replaced_by, replaces, reparents_from, reparents_by, planned_course}
use Rattle.courses.specs.Emergency.{stops_all, is_fed, has_all, takes_over, rescues_by, rescues, emergency_course}
use Rattle.recovery_loop.specs.Course.{course_of}
use Rattle.recovery_loop.specs.Watch.{watch_course, acts_on, heals, joins, marks, repairs, repairs_all, repairs_under}
use Rattle.planned.proofs.Examples.{played, last_pumped, world_after_events, z100, z101, z102, replicas, after_reparent, semi, after_ack}

-- ---- a primary is missing

-- a shard with no primary gets its first one
elected_played :
    last_pumped replicas (after replicas (opening replicas) (events.Begin main_name commands.Vtorc)) 1 90 None
    ≡ Some (events.End 1 (answers.Vtorc (finding z100 analyses.ClusterHasNoPrimary ∷ []) (lines.Promoted z100 1 [] ∷ [])))
unfolding course_of watch_course acts_on heals established promotes reparents reason_to_follow reason_among successor demotes catches_up undone_by undoes reparents_all replaced_by replaces reparents_from reparents_by planned_course
elected_played = refl

-- the primary goes down under semi_sync
abbrev after_down : World
after_down =
    world_after_events semi after_ack
    (events.Deliver 7
    ∷ events.Deliver 10
    ∷ events.Release 1
    ∷ events.End 1 (answers.Promoted z100 1 [])
    ∷ events.Crash z100 0
    ∷ events.Begin main_name commands.Vtorc
    ∷ [])

replaced_played : last_pumped semi after_down 2 90 None ≡ Some (events.End 2 (answers.Vtorc (finding z100 analyses.DeadPrimary ∷ []) (lines.Promoted z101 2 [] ∷ [])))
unfolding course_of watch_course acts_on heals established promotes reparents reparents_all reparents_by planned_course reason_to_rescue fitness is_unrevoked stops_all is_fed has_all takes_over rescues_by rescues emergency_course
replaced_played = refl

-- without acknowledgements nobody can take its place
unreplaced_played :
    last_pumped replicas (world_after_events replicas after_reparent (events.Crash z100 0 ∷ events.Begin main_name commands.Vtorc ∷ [])) 2 90 None
    ≡ Some (events.End 2 (answers.Vtorc (finding z100 analyses.DeadPrimary ∷ [])
    (lines.Refused (refusals.NotRevoked z100 (record { alias = z100; unreached = unreacheds.GivenUp whys.Down } ∷ [])) None ∷ [])))
unfolding course_of watch_course acts_on heals established promotes reparents reparents_all reparents_by planned_course reason_to_rescue fitness is_unrevoked stops_all is_fed has_all takes_over rescues_by rescues emergency_course
unreplaced_played = refl

-- ---- another tablet is amiss

-- nothing is to be done where nothing is amiss
calm_played : last_pumped replicas (after replicas after_reparent (events.Begin main_name commands.Vtorc)) 2 60 None ≡ Some (events.End 2 (answers.Vtorc [] []))
unfolding course_of watch_course acts_on heals joins marks repairs repairs_all repairs_under planned_course emergency_course
calm_played = refl

-- one tablet has a transaction of its own, and another has been down
abbrev after_local : World
after_local =
    world_after_events replicas after_reparent
    (events.Local z101 ∷ events.Crash z102 0 ∷ events.Restart z102 ∷ events.Begin main_name commands.Vtorc ∷ [])

repaired_played :
    last_pumped replicas after_local 2 60 None
    ≡ Some (events.End 2 (answers.Vtorc (finding z101 analyses.ErrantGTIDDetected ∷ finding z102 analyses.ReplicationStopped ∷ [])
    (lines.Drained z101 ∷ lines.Joined z102 z100 ∷ [])))
unfolding course_of watch_course acts_on heals joins marks repairs repairs_all repairs_under planned_course emergency_course
repaired_played = refl

-- what is drained is no longer looked at
abbrev after_repaired : World
after_repaired = world_after_events replicas (world_after_events replicas after_local (played replicas after_local 2 60)) (events.Begin main_name commands.Vtorc ∷ [])

drained_played : last_pumped replicas after_repaired 3 60 None ≡ Some (events.End 3 (answers.Vtorc [] []))
unfolding course_of watch_course acts_on heals joins marks repairs repairs_all repairs_under planned_course emergency_course
drained_played = refl

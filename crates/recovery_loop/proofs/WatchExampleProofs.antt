-- The examples of the course of a vtorc, by computation. After VTOrc (Vitess manual, "VTOrc").
use Rattle.std.proofs.Common.{refl}
use Rattle.durability.specs.Counting.{is_unrevoked}
use Rattle.shard_calls.specs.Choosing.{reason_to_follow, reason_among}
use Rattle.shard_calls.specs.Rescuing.{fitness, reason_to_rescue}
use Rattle.courses.specs.Promoting.{established, promotes, reparents}
use Rattle.courses.specs.Planned.{successor, demotes, catches_up, undone_by, undoes, reparents_all, replaced_by, replaces, reparents_from, reparents_by, planned_course}
use Rattle.courses.specs.Emergency.{stops_all, is_fed, has_all, takes_over, rescues_by, rescues, emergency_course}
use Rattle.recovery_loop.specs.Watch.{heals, joins, marks, repairs, repairs_all, repairs_under, acts_on, watch_course}
use Rattle.recovery_loop.specs.WatchExamples.{PrimaryIsReplaced, PrimaryIsElected, ReplicasAreRepaired, FirstRefusalIsLast, LockIsTaken, NothingIsAmiss, WaitsForStatuses}

pub primary_is_replaced : PrimaryIsReplaced
unfolding heals joins marks repairs repairs_all repairs_under acts_on watch_course established promotes reparents reason_to_rescue fitness is_unrevoked stops_all is_fed has_all takes_over rescues_by rescues emergency_course
primary_is_replaced = refl

pub primary_is_elected : PrimaryIsElected
unfolding heals joins marks repairs repairs_all repairs_under acts_on watch_course established promotes reparents reason_to_follow reason_among successor demotes catches_up undone_by undoes reparents_all replaced_by replaces reparents_from reparents_by planned_course
primary_is_elected = refl

pub replicas_are_repaired : ReplicasAreRepaired
unfolding heals joins marks repairs repairs_all repairs_under acts_on watch_course
replicas_are_repaired = refl

pub first_refusal_is_last : FirstRefusalIsLast
unfolding heals joins marks repairs repairs_all repairs_under acts_on watch_course
first_refusal_is_last = refl

pub lock_is_taken : LockIsTaken
unfolding heals joins marks repairs repairs_all repairs_under acts_on watch_course
lock_is_taken = refl

pub nothing_is_amiss : NothingIsAmiss
unfolding heals joins marks repairs repairs_all repairs_under acts_on watch_course
nothing_is_amiss = refl

pub waits_for_statuses : WaitsForStatuses
unfolding heals joins marks repairs repairs_all repairs_under acts_on watch_course
waits_for_statuses = refl

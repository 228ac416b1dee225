-- The examples of courses, by computation. Courses are those of vtctldclient (Vitess manual).
use Rattle.std.proofs.Common.{refl}
use Rattle.courses.specs.Promoting.{established, promotes, reparents}
use Rattle.shard_calls.specs.Choosing.{reason_to_follow, reason_among}
use Rattle.courses.specs.Planned.{successor, demotes, catches_up, undone_by, undoes, reparents_all, replaced_by, replaces, reparents_from, reparents_by, planned_course}
use Rattle.durability.specs.Counting.{is_unrevoked}
use Rattle.shard_calls.specs.Rescuing.{fitness, reason_to_rescue}
use Rattle.courses.specs.Emergency.{stops_all, is_fed, has_all, takes_over, rescues_by, rescues, emergency_course}
use Rattle.courses.specs.EmergencyExamples.{PrimaryIsReplaced, WinnerFeeds, WaitsForStops, RefusesUnrevoked, RefusesSplit, RefusesStale}
use Rattle.courses.specs.External.{external_course}
use Rattle.courses.specs.Writing.{write_course}
use Rattle.courses.specs.Examples.{FirstReparent, UndoneReparent, WaitsForPromotion, NotUndone, StraysOff, AsksWhoFollows, UndoIsNotTold, ExternalRecords, ExternalIsRefused, WriteIsCommitted, WriteFindsNoPrimary}

pub first_reparent : FirstReparent
unfolding established promotes reparents reason_to_follow reason_among successor demotes catches_up undone_by undoes reparents_all replaced_by replaces reparents_from reparents_by planned_course
first_reparent = refl

pub undone_reparent : UndoneReparent
unfolding established promotes reparents reason_to_follow reason_among successor demotes catches_up undone_by undoes reparents_all replaced_by replaces reparents_from reparents_by planned_course
undone_reparent = refl

pub waits_for_promotion : WaitsForPromotion
unfolding established promotes reparents reason_to_follow reason_among successor demotes catches_up undone_by undoes reparents_all replaced_by replaces reparents_from reparents_by planned_course
waits_for_promotion = refl

pub not_undone : NotUndone
unfolding established promotes reparents reason_to_follow reason_among successor demotes catches_up undone_by undoes reparents_all replaced_by replaces reparents_from reparents_by planned_course
not_undone = refl

pub strays_off : StraysOff
unfolding established promotes reparents reason_to_follow reason_among successor demotes catches_up undone_by undoes reparents_all replaced_by replaces reparents_from reparents_by planned_course
strays_off = refl

pub asks_who_follows : AsksWhoFollows
unfolding established promotes reparents reason_to_follow reason_among successor demotes catches_up undone_by undoes reparents_all replaced_by replaces reparents_from reparents_by planned_course
asks_who_follows = refl

pub undo_is_not_told : UndoIsNotTold
unfolding established promotes reparents reason_to_follow reason_among successor demotes catches_up undone_by undoes reparents_all replaced_by replaces reparents_from reparents_by planned_course
undo_is_not_told = refl

pub external_records : ExternalRecords
unfolding external_course
external_records = refl

pub external_is_refused : ExternalIsRefused
unfolding external_course
external_is_refused = refl

pub write_is_committed : WriteIsCommitted
unfolding write_course
write_is_committed = refl

pub write_finds_no_primary : WriteFindsNoPrimary
unfolding write_course
write_finds_no_primary = refl

pub primary_is_replaced : PrimaryIsReplaced
unfolding established promotes reparents reason_to_rescue fitness is_unrevoked stops_all is_fed has_all takes_over rescues_by rescues emergency_course
primary_is_replaced = refl

pub winner_feeds : WinnerFeeds
unfolding established promotes reparents reason_to_rescue fitness is_unrevoked stops_all is_fed has_all takes_over rescues_by rescues emergency_course
winner_feeds = refl

pub waits_for_stops : WaitsForStops
unfolding established promotes reparents reason_to_rescue fitness is_unrevoked stops_all is_fed has_all takes_over rescues_by rescues emergency_course
waits_for_stops = refl

pub refuses_unrevoked : RefusesUnrevoked
unfolding established promotes reparents reason_to_rescue fitness is_unrevoked stops_all is_fed has_all takes_over rescues_by rescues emergency_course
refuses_unrevoked = refl

pub refuses_split : RefusesSplit
unfolding established promotes reparents reason_to_rescue fitness is_unrevoked stops_all is_fed has_all takes_over rescues_by rescues emergency_course
refuses_split = refl

pub refuses_stale : RefusesStale
unfolding established promotes reparents reason_to_rescue fitness is_unrevoked stops_all is_fed has_all takes_over rescues_by rescues emergency_course
refuses_stale = refl

-- Courses played on the definitions by computation: each command does what it does next, and where it waits, the least message that can come comes.
use Rattle.std.proofs.Common.{◌≡◌, ℕ, zero, suc, ◌+◌, Bool, true, false, ◌&&◌, refl, List, [], ◌∷◌, cond, Option, Some, None, is_some, is_none, option_map, codes}
use Rattle.shard_names.specs.declared.alias.Alias.{Alias}
use Rattle.shard_names.specs.declared.tablet.Tablet.{Tablet}
use Rattle.shard_names.specs.declared.tablet.TabletType.TheVariants as types
use Rattle.shard_names.specs.declared.shard_name.ShardName.{ShardName}
use Rattle.gtid_sets.specs.declared.gtid.Gtid.{Gtid}
use Rattle.gtid_sets.specs.Position.{nothing, of_gtids}
use Rattle.durability.specs.declared.policy.Durability.{Durability}
use Rattle.durability.specs.declared.policy.Durability.TheVariants as policies
use Rattle.shard_calls.specs.declared.call.Call.TheVariants as calls
use Rattle.shard_calls.specs.declared.command.Command.{Command}
use Rattle.shard_calls.specs.declared.command.Command.TheVariants as commands
use Rattle.shard_calls.specs.declared.ending.CommandAnswer.TheVariants as answers
use Rattle.shard_calls.specs.declared.ending.NotJoined.{NotJoined}
use Rattle.shard_calls.specs.declared.ending.Left.TheVariants as lefts
use Rattle.shard_calls.specs.declared.refusal.Bar.TheVariants as bars
use Rattle.shard_calls.specs.declared.refusal.Refusal.TheVariants as refusals
use Rattle.shard_calls.specs.declared.refusal.Unacked.TheVariants as unackeds
use Rattle.shard_calls.specs.declared.refusal.Unreached.TheVariants as unreacheds
use Rattle.shard_calls.specs.declared.event.Event.{Event}
use Rattle.shard_calls.specs.declared.event.Event.TheVariants as events
use Rattle.shard_calls.specs.declared.event.Side.TheVariants as sides
use Rattle.shard_calls.specs.declared.post.Message.{Message}
use Rattle.shard_calls.specs.declared.stand.Standing.TheVariants as standings
use Rattle.shard_calls.specs.declared.why.Why.TheVariants as whys
use Rattle.shard_calls.specs.World.{Config, World, opening, main_name, open_command}
use Rattle.shard_calls.specs.Messages.{may_arrive, offer_to}
use Rattle.shard_calls.specs.Table.{meets, after}
use Rattle.durability.specs.Counting.{is_unrevoked}
use Rattle.shard_calls.specs.Choosing.{reason_to_follow, reason_among}
use Rattle.shard_calls.specs.Rescuing.{fitness, reason_to_rescue}
use Rattle.courses.specs.Promoting.{established, promotes, reparents}
use Rattle.courses.specs.Planned.{successor, demotes, catches_up, undone_by, undoes, reparents_all, replaced_by, replaces, reparents_from, reparents_by, planned_course}
use Rattle.courses.specs.Emergency.{stops_all, is_fed, has_all, takes_over, rescues_by, rescues, emergency_course}
use Rattle.courses.specs.External.{external_course}
use Rattle.courses.specs.Writing.{write_course, show_course}
use Rattle.recovery_loop.specs.Course.{course_of}
use Rattle.planned.specs.Leaving.{or_else}
use Rattle.planned.specs.Course.{may, next, leaves}

-- ---- playing

-- the number of the first of these messages that has not come and can; they are numbered from here
abbrev first_to_come : World → ℕ → List Message → Option ℕ
first_to_come w k [] = None
first_to_come w k (m ∷ ms) = cond (is_none m.arrived && may_arrive w m) (Some k) (first_to_come w (k + 1) ms)

-- one turn for an open command
abbrev turn : Config → World → ℕ → Option Event
turn config w c =
    cond (is_some (open_command w c)) (or_else (next config w c) (option_map (λ k. events.Deliver k) (first_to_come w 1 w.post))) None

-- so many turns, or those up to its end
abbrev pub played : Config → World → ℕ → ℕ → List Event
played config w c zero = []
played config w c (suc n) = elim (turn config w c) [ None ↦ [] | Some e ↦ e ∷ played config (after config w e) c n ]

-- the first of these tablets that may be offered an entry
abbrev offered : World → List Tablet → Option Event
offered w [] = None
offered w (t ∷ ts) = cond (is_some (offer_to w t.alias)) (Some (events.Offer t.alias)) (offered w ts)

-- the same turns, with entries where nothing else comes; and the last of them
abbrev pub last_pumped : Config → World → ℕ → ℕ → Option Event → Option Event
last_pumped config w c zero last = last
last_pumped config w c (suc n) last =
    elim (or_else (turn config w c) (cond (is_some (open_command w c)) (offered w config.tablets) None))
    [ None ↦ last | Some e ↦ last_pumped config (after config w e) c n (Some e) ]

-- the condition of each row holds
abbrev all_met : Config → World → List Event → Bool
all_met config w [] = true
all_met config w (e ∷ es) = meets config w e && all_met config (after config w e) es

abbrev pub world_after_events : Config → World → List Event → World
world_after_events config w [] = w
world_after_events config w (e ∷ es) = world_after_events config (after config w e) es

-- ---- three replicas

abbrev alias_of : ℕ → Alias
alias_of uid = record { cell = codes "zone1"; uid = uid }

abbrev pub z100 : Alias
z100 = alias_of 100

abbrev pub z101 : Alias
z101 = alias_of 101

abbrev pub z102 : Alias
z102 = alias_of 102

abbrev server_with : ℕ → List ℕ
server_with last = 0 ∷ 0 ∷ 0 ∷ 0 ∷ 0 ∷ 0 ∷ 64 ∷ 0 ∷ 128 ∷ 0 ∷ 0 ∷ 0 ∷ 0 ∷ 0 ∷ 1 ∷ last ∷ []

abbrev gtid_of : ℕ → ℕ → Gtid
gtid_of last number = record { server = server_with last; number = number }

abbrev replica_of : ℕ → ℕ → Tablet
replica_of uid last = record { alias = alias_of uid; server = server_with last; kind = types.Replica }

abbrev start : ℕ
start = 1704067200000

abbrev three : Config
three = record {
  tablets = replica_of 100 0 ∷ replica_of 101 1 ∷ replica_of 102 2 ∷ record { alias = alias_of 103; server = server_with 3; kind = types.Spare } ∷ [];
  policy = policies.None;
  moment = start;
}

abbrev commerce : ShardName
commerce = record { keyspace = codes "commerce"; shard = codes "0" }

-- a reparent to this tablet, with no other option
abbrev planned_to : Alias → Command
planned_to a = commands.Planned commerce (Some a) None None None false

abbrev after_begin : Config → Alias → World
after_begin config a = after config (opening config) (events.Begin main_name (planned_to a))

-- ---- a first reparent of three tablets

abbrev replicas_under : Durability → Config
replicas_under policy = record { tablets = replica_of 100 0 ∷ replica_of 101 1 ∷ replica_of 102 2 ∷ []; policy = policy; moment = start }

abbrev pub replicas : Config
replicas = replicas_under policies.None

abbrev events_of_reparent : List Event
events_of_reparent =
    events.Take 1
    ∷ events.Read 1
    ∷ events.Intend 1 z100
    ∷ events.Send 1 z100 (calls.Promote nothing)
    ∷ events.Deliver 1
    ∷ events.Deliver 2
    ∷ events.Record 1 z100
    ∷ events.Send 1 z101 (calls.SetSource z100 1 (of_gtids (gtid_of 0 1 ∷ [])))
    ∷ events.Send 1 z102 (calls.SetSource z100 1 (of_gtids (gtid_of 0 1 ∷ [])))
    ∷ events.Deliver 3
    ∷ events.Deliver 4
    ∷ events.Deliver 5
    ∷ events.Deliver 6
    ∷ events.Send 1 z100 (calls.WaitTold (start + 15000))
    ∷ events.Deliver 7
    ∷ events.Deliver 8
    ∷ events.Release 1
    ∷ events.End 1 (answers.Promoted z100 1 [])
    ∷ []

reparent_played : played replicas (after_begin replicas z100) 1 40 ≡ events_of_reparent
unfolding course_of established promotes reparents reason_to_follow reason_among successor demotes catches_up undone_by undoes reparents_all replaced_by replaces reparents_from reparents_by planned_course
reparent_played = refl

reparent_met : all_met replicas (after_begin replicas z100) events_of_reparent ≡ true
unfolding course_of established promotes reparents reason_to_follow reason_among successor demotes catches_up undone_by undoes reparents_all replaced_by replaces reparents_from reparents_by planned_course
reparent_met = refl

abbrev pub after_reparent : World
after_reparent = world_after_events replicas (after_begin replicas z100) events_of_reparent

-- ---- a second one replaces the primary

second_played :
    last_pumped replicas (after replicas after_reparent (events.Begin main_name (planned_to z101))) 2 60 None ≡ Some (events.End 2 (answers.Promoted z101 2 []))
unfolding course_of established promotes reparents reason_to_follow reason_among successor demotes catches_up undone_by undoes reparents_all replaced_by replaces reparents_from reparents_by planned_course
second_played = refl

-- where none is given, the first of its replicas that has most
chosen_played :
    last_pumped replicas (after replicas after_reparent (events.Begin main_name (commands.Planned commerce None (Some z100) None None false))) 2 60 None
    ≡ Some (events.End 2 (answers.Promoted z101 2 []))
unfolding course_of established promotes reparents reason_to_follow reason_among successor demotes catches_up undone_by undoes reparents_all replaced_by replaces reparents_from reparents_by planned_course
chosen_played = refl

idle_played :
    played replicas (after replicas after_reparent (events.Begin main_name (commands.Planned commerce None (Some z101) None None false))) 2 60
    ≡ events.Take 2 ∷ events.Read 2 ∷ events.Release 2 ∷ events.End 2 (answers.NothingToDo z100) ∷ []
unfolding course_of established promotes reparents reason_to_follow reason_among successor demotes catches_up undone_by undoes reparents_all replaced_by replaces reparents_from reparents_by planned_course
idle_played = refl

-- ---- a tablet whose link is cut

abbrev after_cut : World
after_cut = after replicas (after_begin replicas z100) (events.Cut sides.Control (sides.Tablet z100))

cut_played :
    played replicas after_cut 1 40
    ≡ events.Take 1
    ∷ events.Read 1
    ∷ events.Intend 1 z100
    ∷ events.Send 1 z100 (calls.Promote nothing)
    ∷ events.GiveUp 1 1
    ∷ events.Release 1
    ∷ events.End 1 (answers.Refused (refusals.Unreachable z100 whys.Cut) None)
    ∷ []
unfolding course_of established promotes reparents reason_to_follow reason_among successor demotes catches_up undone_by undoes reparents_all replaced_by replaces reparents_from reparents_by planned_course
cut_played = refl

-- ---- two tablets that do not join

abbrev after_crash_and_local : World
after_crash_and_local = after replicas (after replicas (after_begin replicas z100) (events.Local z101)) (events.Crash z102 0)

abbrev who_left : List NotJoined
who_left =
    record { alias = z101; left = lefts.Errant (of_gtids (gtid_of 1 1 ∷ [])) } ∷ record { alias = z102; left = lefts.GivenUp whys.Down } ∷ []

left_played :
    played replicas after_crash_and_local 1 40
    ≡ events.Take 1
    ∷ events.Read 1
    ∷ events.Intend 1 z100
    ∷ events.Send 1 z100 (calls.Promote nothing)
    ∷ events.Deliver 1
    ∷ events.Deliver 2
    ∷ events.Record 1 z100
    ∷ events.Send 1 z101 (calls.SetSource z100 1 (of_gtids (gtid_of 0 1 ∷ [])))
    ∷ events.Send 1 z102 (calls.SetSource z100 1 (of_gtids (gtid_of 0 1 ∷ [])))
    ∷ events.GiveUp 1 4
    ∷ events.Deliver 3
    ∷ events.Deliver 5
    ∷ events.Send 1 z100 (calls.WaitTold (start + 15000))
    ∷ events.Deliver 6
    ∷ events.Deliver 7
    ∷ events.Release 1
    ∷ events.End 1 (answers.Promoted z100 1 who_left)
    ∷ []
unfolding course_of established promotes reparents reason_to_follow reason_among successor demotes catches_up undone_by undoes reparents_all replaced_by replaces reparents_from reparents_by planned_course
left_played = refl

-- two calls that may both be given up: either may be, the first by alias is
abbrev after_two_cuts : World
after_two_cuts =
    world_after_events replicas (after_begin replicas z100)
    (events.Take 1
    ∷ events.Read 1
    ∷ events.Intend 1 z100
    ∷ events.Send 1 z100 (calls.Promote nothing)
    ∷ events.Deliver 1
    ∷ events.Deliver 2
    ∷ events.Record 1 z100
    ∷ events.Send 1 z101 (calls.SetSource z100 1 (of_gtids (gtid_of 0 1 ∷ [])))
    ∷ events.Send 1 z102 (calls.SetSource z100 1 (of_gtids (gtid_of 0 1 ∷ [])))
    ∷ events.Cut sides.Control (sides.Tablet z101)
    ∷ events.Cut sides.Control (sides.Tablet z102)
    ∷ [])

two_given_up : may replicas after_two_cuts 1 ≡ events.GiveUp 1 3 ∷ events.GiveUp 1 4 ∷ []
unfolding course_of established promotes reparents reason_to_follow reason_among successor demotes catches_up undone_by undoes reparents_all replaced_by replaces reparents_from reparents_by planned_course
two_given_up = refl

-- ---- reparents that are refused at once

undeclared_played :
    played three (after_begin three (alias_of 109)) 1 40 ≡ events.End 1 (answers.Refused (refusals.NoSuchTablet (alias_of 109)) None) ∷ []
unfolding course_of established promotes reparents reason_to_follow reason_among successor demotes catches_up undone_by undoes reparents_all replaced_by replaces reparents_from reparents_by planned_course
undeclared_played = refl

spare_played :
    played three (after_begin three (alias_of 103)) 1 40 ≡ events.End 1 (answers.Refused (refusals.NotEligible (alias_of 103) bars.MustNot) None) ∷ []
unfolding course_of established promotes reparents reason_to_follow reason_among successor demotes catches_up undone_by undoes reparents_all replaced_by replaces reparents_from reparents_by planned_course
spare_played = refl

-- ---- a promotion by other hands

external_played :
    last_pumped replicas (after replicas after_reparent (events.Begin main_name (commands.External z100))) 2 60 None ≡ Some (events.End 2 (answers.Recorded 1))
unfolding course_of external_course established promotes reparents reparents_all reparents_by planned_course
external_played = refl

unpromoted_played :
    last_pumped replicas (after replicas after_reparent (events.Begin main_name (commands.External z101))) 2 60 None
    ≡ Some (events.End 2 (answers.Refused (refusals.NotPromoted z101 0) None))
unfolding course_of external_course established promotes reparents reparents_all reparents_by planned_course
unpromoted_played = refl

-- ---- a lock that is held by another, and one that is lost

abbrev after_taken : World
after_taken = world_after_events replicas (after_begin replicas z100) (events.Take 1 ∷ events.Begin (codes "p") (planned_to z101) ∷ [])

taken_played : played replicas after_taken 2 40 ≡ events.Take 2 ∷ events.End 2 (answers.Refused (refusals.LockTaken 1 main_name) None) ∷ []
unfolding course_of established promotes reparents reason_to_follow reason_among successor demotes catches_up undone_by undoes reparents_all replaced_by replaces reparents_from reparents_by planned_course
taken_played = refl

abbrev after_lapse : World
after_lapse = world_after_events replicas (after_begin replicas z100) (events.Take 1 ∷ events.Read 1 ∷ events.Lapse ∷ [])

lost_played : played replicas after_lapse 1 40 ≡ events.Intend 1 z100 ∷ events.Release 1 ∷ events.End 1 (answers.Refused (refusals.LockLost 1) None) ∷ []
unfolding course_of established promotes reparents reason_to_follow reason_among successor demotes catches_up undone_by undoes reparents_all replaced_by replaces reparents_from reparents_by planned_course
lost_played = refl

-- ---- writes and shows

write_played :
    played replicas (after replicas after_reparent (events.Begin main_name (commands.Write None))) 2 40
    ≡ events.Write 2 z100 ∷ events.Tell 2 ∷ events.End 2 (answers.Committed (gtid_of 0 2) z100 1) ∷ []
unfolding course_of write_course show_course established promotes reparents reparents_all reparents_by planned_course
write_played = refl

unrecorded_played :
    played replicas (after replicas (opening replicas) (events.Begin main_name (commands.Write None))) 1 40 ≡ events.End 1 answers.NoPrimaryRecorded ∷ []
unfolding course_of write_course show_course established promotes reparents reparents_all reparents_by planned_course
unrecorded_played = refl

stopped_played :
    played replicas (after replicas (opening replicas) (events.Begin main_name (commands.Write (Some z101)))) 1 40
    ≡ events.Write 1 z101 ∷ events.End 1 (answers.NotPrimary z101 standings.Stopped) ∷ []
unfolding course_of write_course show_course established promotes reparents reparents_all reparents_by planned_course
stopped_played = refl

abbrev after_written_down : World
after_written_down =
    world_after_events replicas after_reparent (events.Begin main_name (commands.Write None) ∷ events.Write 2 z100 ∷ events.Crash z100 0 ∷ [])

unknown_played : played replicas after_written_down 2 40 ≡ events.Tell 2 ∷ events.End 2 (answers.Unknown (gtid_of 0 2) z100 1) ∷ []
unfolding course_of write_course show_course established promotes reparents reparents_all reparents_by planned_course
unknown_played = refl

show_played :
    played replicas (after replicas after_reparent (events.Begin main_name (commands.Show z100))) 2 40
    ≡ events.End 2 (answers.Shown z100 (standings.Primary 1) (of_gtids (gtid_of 0 1 ∷ []))) ∷ []
unfolding course_of write_course show_course established promotes reparents reparents_all reparents_by planned_course
show_played = refl

-- ---- a call that waits too long

abbrev after_wait : ℕ → World
after_wait ms =
    world_after_events replicas (after_begin replicas z100)
    (events.Take 1 ∷ events.Read 1 ∷ events.Intend 1 z100 ∷ events.Send 1 z100 (calls.Promote nothing) ∷ events.Tick ms ∷ [])

late_played :
    played replicas (after_wait 15000) 1 40
    ≡ events.GiveUp 1 1 ∷ events.Release 1 ∷ events.End 1 (answers.Refused (refusals.Unreachable z100 (whys.TimedOut start (start + 15000))) None) ∷ []
unfolding course_of established promotes reparents reason_to_follow reason_among successor demotes catches_up undone_by undoes reparents_all replaced_by replaces reparents_from reparents_by planned_course
late_played = refl

-- a millisecond before, it waits
in_time_played : played replicas (after_wait 14999) 1 3 ≡ events.Deliver 1 ∷ events.Deliver 2 ∷ events.Record 1 z100 ∷ []
unfolding course_of established promotes reparents reason_to_follow reason_among successor demotes catches_up undone_by undoes reparents_all replaced_by replaces reparents_from reparents_by planned_course
in_time_played = refl

-- where a timeout is given, it waits for that
abbrev after_short_wait : World
after_short_wait =
    world_after_events replicas (opening replicas)
    (events.Begin main_name (commands.Planned commerce (Some z100) None None (Some 200) false)
    ∷ events.Take 1
    ∷ events.Read 1
    ∷ events.Intend 1 z100
    ∷ events.Send 1 z100 (calls.Promote nothing)
    ∷ events.Tick 200
    ∷ [])

short_played :
    played replicas after_short_wait 1 40
    ≡ events.GiveUp 1 1 ∷ events.Release 1 ∷ events.End 1 (answers.Refused (refusals.Unreachable z100 (whys.TimedOut start (start + 200))) None) ∷ []
unfolding course_of established promotes reparents reason_to_follow reason_among successor demotes catches_up undone_by undoes reparents_all replaced_by replaces reparents_from reparents_by planned_course
short_played = refl

-- ---- a tablet that comes up again, and is no primary any more

abbrev after_lost_answer : World
after_lost_answer =
    world_after_events replicas (after_begin replicas z100)
    (events.Take 1
    ∷ events.Read 1
    ∷ events.Intend 1 z100
    ∷ events.Send 1 z100 (calls.Promote nothing)
    ∷ events.Deliver 1
    ∷ events.Lose 2
    ∷ events.Crash z100 0
    ∷ events.Restart z100
    ∷ events.Deliver 1
    ∷ [])

kept_played :
    played replicas after_lost_answer 1 40
    ≡ events.Deliver 3 ∷ events.Release 1 ∷ events.End 1 (answers.Refused (refusals.NotAcknowledged z100 (unackeds.Kept standings.Stopped)) None) ∷ []
unfolding course_of established promotes reparents reason_to_follow reason_among successor demotes catches_up undone_by undoes reparents_all replaced_by replaces reparents_from reparents_by planned_course
kept_played = refl

abbrev after_restart : World
after_restart =
    world_after_events replicas (after_begin replicas z100)
    (events.Take 1
    ∷ events.Read 1
    ∷ events.Intend 1 z100
    ∷ events.Send 1 z100 (calls.Promote nothing)
    ∷ events.Deliver 1
    ∷ events.Deliver 2
    ∷ events.Record 1 z100
    ∷ events.Crash z100 0
    ∷ events.Restart z100
    ∷ [])

untold_played :
    played replicas after_restart 1 40
    ≡ events.Send 1 z101 (calls.SetSource z100 1 (of_gtids (gtid_of 0 1 ∷ [])))
    ∷ events.Send 1 z102 (calls.SetSource z100 1 (of_gtids (gtid_of 0 1 ∷ [])))
    ∷ events.Deliver 3
    ∷ events.Deliver 4
    ∷ events.Deliver 5
    ∷ events.Deliver 6
    ∷ events.Send 1 z100 (calls.WaitTold (start + 15000))
    ∷ events.Deliver 7
    ∷ events.Deliver 8
    ∷ events.Release 1
    ∷ events.End 1 (answers.Refused (refusals.NotAcknowledged z100 (unackeds.Kept standings.Stopped)) None)
    ∷ []
unfolding course_of established promotes reparents reason_to_follow reason_among successor demotes catches_up undone_by undoes reparents_all replaced_by replaces reparents_from reparents_by planned_course
untold_played = refl

-- ---- a shard of one tablet, and one that runs out of memory under the lock

abbrev single : Config
single = record { tablets = replica_of 100 0 ∷ []; policy = policies.None; moment = start }

single_played :
    played single (after_begin single z100) 1 40
    ≡ events.Take 1
    ∷ events.Read 1
    ∷ events.Intend 1 z100
    ∷ events.Send 1 z100 (calls.Promote nothing)
    ∷ events.Deliver 1
    ∷ events.Deliver 2
    ∷ events.Record 1 z100
    ∷ events.Send 1 z100 (calls.WaitTold (start + 15000))
    ∷ events.Deliver 3
    ∷ events.Deliver 4
    ∷ events.Release 1
    ∷ events.End 1 (answers.Promoted z100 1 [])
    ∷ []
unfolding course_of established promotes reparents reason_to_follow reason_among successor demotes catches_up undone_by undoes reparents_all replaced_by replaces reparents_from reparents_by planned_course
single_played = refl

leaving_first : leaves after_lapse 1 ≡ events.Release 1
unfolding course_of established promotes reparents reason_to_follow reason_among successor demotes catches_up undone_by undoes reparents_all replaced_by replaces reparents_from reparents_by planned_course
leaving_first = refl

leaving_then : leaves (after replicas after_lapse (events.Release 1)) 1 ≡ events.End 1 (answers.Refused refusals.OutOfMemory None)
unfolding course_of established promotes reparents reason_to_follow reason_among successor demotes catches_up undone_by undoes reparents_all replaced_by replaces reparents_from reparents_by planned_course
leaving_then = refl

-- ---- acknowledgements under semi_sync

abbrev pub semi : Config
semi = replicas_under policies.SemiSync

abbrev events_up_to_wait : List Event
events_up_to_wait =
    events.Take 1
    ∷ events.Read 1
    ∷ events.Intend 1 z100
    ∷ events.Send 1 z100 (calls.Promote nothing)
    ∷ events.Deliver 1
    ∷ events.Deliver 2
    ∷ events.Record 1 z100
    ∷ events.Send 1 z101 (calls.SetSource z100 1 (of_gtids (gtid_of 0 1 ∷ [])))
    ∷ events.Send 1 z102 (calls.SetSource z100 1 (of_gtids (gtid_of 0 1 ∷ [])))
    ∷ events.Deliver 3
    ∷ events.Deliver 4
    ∷ events.Deliver 5
    ∷ events.Deliver 6
    ∷ events.Send 1 z100 (calls.WaitTold (start + 15000))
    ∷ []

-- where no tablet has acknowledged the row, nothing comes, and nothing is done
wait_played : played semi (after_begin semi z100) 1 40 ≡ events_up_to_wait
unfolding course_of established promotes reparents reason_to_follow reason_among successor demotes catches_up undone_by undoes reparents_all replaced_by replaces reparents_from reparents_by planned_course
wait_played = refl

abbrev after_semi_wait : World
after_semi_wait = world_after_events semi (after_begin semi z100) events_up_to_wait

-- and once the time is over the promotion is refused as not acknowledged
not_told_played :
    played semi (after semi after_semi_wait (events.Tick 16000)) 1 40
    ≡ events.Deliver 7
    ∷ events.Deliver 8
    ∷ events.Release 1
    ∷ events.End 1 (answers.Refused (refusals.NotAcknowledged z100 (unackeds.NotTold start (start + 16000))) None)
    ∷ []
unfolding course_of established promotes reparents reason_to_follow reason_among successor demotes catches_up undone_by undoes reparents_all replaced_by replaces reparents_from reparents_by planned_course
not_told_played = refl

-- a replica acknowledges the row, and the promotion counts as committed
abbrev events_of_ack : List Event
events_of_ack = events.Offer z101 ∷ events.Deliver 8 ∷ events.Deliver 9 ∷ []

ack_met : all_met semi after_semi_wait events_of_ack ≡ true
unfolding course_of established promotes reparents reason_to_follow reason_among successor demotes catches_up undone_by undoes reparents_all replaced_by replaces reparents_from reparents_by planned_course
ack_met = refl

abbrev pub after_ack : World
after_ack = world_after_events semi after_semi_wait events_of_ack

acked_played :
    played semi after_ack 1 40 ≡ events.Deliver 7 ∷ events.Deliver 10 ∷ events.Release 1 ∷ events.End 1 (answers.Promoted z100 1 []) ∷ []
unfolding course_of established promotes reparents reason_to_follow reason_among successor demotes catches_up undone_by undoes reparents_all replaced_by replaces reparents_from reparents_by planned_course
acked_played = refl

-- a write waits to be told until a replica has acknowledged it too
abbrev after_semi_write : World
after_semi_write =
    world_after_events semi after_ack
    (events.Deliver 7
    ∷ events.Deliver 10
    ∷ events.Release 1
    ∷ events.End 1 (answers.Promoted z100 1 [])
    ∷ events.Begin main_name (commands.Write None)
    ∷ events.Write 2 z100
    ∷ [])

write_waits : may semi after_semi_write 2 ≡ []
unfolding course_of write_course show_course established promotes reparents reparents_all reparents_by planned_course
write_waits = refl

abbrev events_of_write_ack : List Event
events_of_write_ack = events.Offer z101 ∷ events.Deliver 11 ∷ events.Deliver 12 ∷ []

write_ack_met : all_met semi after_semi_write events_of_write_ack ≡ true
unfolding course_of established promotes reparents reason_to_follow reason_among successor demotes catches_up undone_by undoes reparents_all replaced_by replaces reparents_from reparents_by planned_course
write_ack_met = refl

write_told : may semi (world_after_events semi after_semi_write events_of_write_ack) 2 ≡ events.Tell 2 ∷ []
unfolding course_of write_course show_course established promotes reparents reparents_all reparents_by planned_course
write_told = refl

-- ---- a primary that is down

abbrev emergency : Command
emergency = commands.Emergency commerce None [] None None false

-- under semi_sync the two replicas keep it from committing, and the one that has its row takes over
abbrev after_semi_down : World
after_semi_down =
    world_after_events semi after_ack
    (events.Deliver 7
    ∷ events.Deliver 10
    ∷ events.Release 1
    ∷ events.End 1 (answers.Promoted z100 1 [])
    ∷ events.Crash z100 0
    ∷ events.Begin main_name emergency
    ∷ [])

rescued_played : last_pumped semi after_semi_down 2 60 None ≡ Some (events.End 2 (answers.Promoted z101 2 []))
unfolding course_of established promotes reparents reparents_all reparents_by planned_course reason_to_rescue fitness is_unrevoked stops_all is_fed has_all takes_over rescues_by rescues emergency_course
rescued_played = refl

-- without acknowledgements nothing keeps it from that
not_revoked_played :
    last_pumped replicas (after replicas (after replicas after_reparent (events.Crash z100 0)) (events.Begin main_name emergency)) 2 60 None
    ≡ Some (events.End 2 (answers.Refused (refusals.NotRevoked z100 (record { alias = z100; unreached = unreacheds.GivenUp whys.Down } ∷ [])) None))
unfolding course_of established promotes reparents reparents_all reparents_by planned_course reason_to_rescue fitness is_unrevoked stops_all is_fed has_all takes_over rescues_by rescues emergency_course
not_revoked_played = refl

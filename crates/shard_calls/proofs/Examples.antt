-- Histories played on the definitions by computation: what each event is answered, and that each answer of a command has its cause.
use Rattle.std.proofs.Common.{◌≡◌, ℕ, ◌+◌, Bool, true, false, not, ◌&&◌, ◌||◌, refl, List, [], ◌∷◌, ◌++◌, Option, Some, None, is_some, is_none, codes, take}
use Rattle.std.specs.List.{list_all}
use Rattle.shard_names.specs.declared.alias.Alias.{Alias}
use Rattle.shard_names.specs.declared.tablet.Tablet.{Tablet}
use Rattle.shard_names.specs.declared.tablet.TabletType.TheVariants as types
use Rattle.shard_names.specs.declared.shard_name.ShardName.{ShardName}
use Rattle.gtid_sets.specs.declared.gtid.Gtid.{Gtid}
use Rattle.gtid_sets.specs.declared.entry.Kind.TheVariants as kinds
use Rattle.gtid_sets.specs.Position.{Position, nothing, of_gtids}
use Rattle.shard_base.specs.Options.{◌>>=◌}
use Rattle.durability.specs.declared.policy.Durability.{Durability}
use Rattle.durability.specs.declared.policy.Durability.TheVariants as policies
use Rattle.shard_calls.specs.declared.answer.Answer.TheVariants as says
use Rattle.shard_calls.specs.declared.call.Call.TheVariants as calls
use Rattle.shard_calls.specs.declared.command.Command.TheVariants as commands
use Rattle.shard_calls.specs.declared.ending.CommandAnswer.TheVariants as answers
use Rattle.shard_calls.specs.declared.ending.NotJoined.{NotJoined}
use Rattle.shard_calls.specs.declared.ending.Left.TheVariants as lefts
use Rattle.shard_calls.specs.declared.refusal.Unacked.TheVariants as unackeds
use Rattle.shard_calls.specs.declared.refusal.Refusal.TheVariants as refusals
use Rattle.shard_calls.specs.declared.event.Event.{Event}
use Rattle.shard_calls.specs.declared.event.Event.TheVariants as events
use Rattle.shard_calls.specs.declared.event.Reply.{Reply}
use Rattle.shard_calls.specs.declared.event.Reply.TheVariants as replies
use Rattle.shard_calls.specs.declared.event.Side.TheVariants as sides
use Rattle.shard_calls.specs.declared.post.Content.{Content}
use Rattle.shard_calls.specs.declared.post.Content.TheVariants as contents
use Rattle.shard_calls.specs.declared.stand.Stand.TheVariants as stands
use Rattle.shard_calls.specs.declared.stand.Standing.TheVariants as standings
use Rattle.shard_calls.specs.declared.why.Why.TheVariants as whys
use Rattle.shard_calls.specs.World.{Config, World, opening, main_name, numbered}
use Rattle.shard_calls.specs.Messages.{may_arrive, offer_to}
use Rattle.shard_calls.specs.Table.{meets, answer, after}

-- ---- playing

abbrev replies_of : Config → World → List Event → List Reply
replies_of config w [] = []
replies_of config w (e ∷ es) = answer config w e ∷ replies_of config (after config w e) es

-- the condition of each row holds
abbrev pub all_met : Config → World → List Event → Bool
all_met config w [] = true
all_met config w (e ∷ es) = meets config w e && all_met config (after config w e) es

abbrev pub world_after_events : Config → World → List Event → World
world_after_events config w [] = w
world_after_events config w (e ∷ es) = world_after_events config (after config w e) es

-- nothing is left to deliver or to offer
abbrev is_at_rest : Config → World → Bool
is_at_rest config w = list_all (λ m. is_some m.arrived || not (may_arrive w m)) w.post && list_all (λ t. is_none (offer_to w t.alias)) config.tablets

-- ---- three replicas

abbrev pub alias_of : ℕ → Alias
alias_of uid = record { cell = codes "zone1"; uid = uid }

abbrev pub z100 : Alias
z100 = alias_of 100

abbrev pub z101 : Alias
z101 = alias_of 101

abbrev pub z102 : Alias
z102 = alias_of 102

abbrev pub server_with : ℕ → List ℕ
server_with last = 0 ∷ 0 ∷ 0 ∷ 0 ∷ 0 ∷ 0 ∷ 64 ∷ 0 ∷ 128 ∷ 0 ∷ 0 ∷ 0 ∷ 0 ∷ 0 ∷ 1 ∷ last ∷ []

abbrev pub gtid_of : ℕ → ℕ → Gtid
gtid_of last number = record { server = server_with last; number = number }

abbrev replica_of : ℕ → ℕ → Tablet
replica_of uid last = record { alias = alias_of uid; server = server_with last; kind = types.Replica }

abbrev pub start : ℕ
start = 1704067200000

abbrev pub three_under : Durability → Config
three_under policy = record { tablets = replica_of 100 0 ∷ replica_of 101 1 ∷ replica_of 102 2 ∷ []; policy = policy; moment = start }

abbrev pub three : Config
three = three_under policies.None

abbrev two_under : Durability → Config
two_under policy = record { tablets = replica_of 100 0 ∷ replica_of 101 1 ∷ []; policy = policy; moment = start }

abbrev two : Config
two = two_under policies.None

abbrev pub commerce : ShardName
commerce = record { keyspace = codes "commerce"; shard = codes "0" }

-- ---- a reparent, a write past a cut link, and what two replicas show

abbrev pub events_of_reparent : List Event
events_of_reparent =
    events.Begin main_name (commands.Planned commerce (Some z100) None None None false)
    ∷ events.Take 1
    ∷ events.Read 1
    ∷ events.Intend 1 z100
    ∷ events.Send 1 z100 (calls.Promote nothing)
    ∷ events.Deliver 1
    ∷ events.Deliver 2
    ∷ events.Record 1 z100
    ∷ events.Send 1 z101 (calls.SetSource z100 1 (of_gtids (gtid_of 0 1 ∷ [])))
    ∷ events.Send 1 z102 (calls.SetSource z100 1 (of_gtids (gtid_of 0 1 ∷ [])))
    ∷ events.Deliver 3
    ∷ events.Deliver 4
    ∷ events.Deliver 5
    ∷ events.Deliver 6
    ∷ events.Send 1 z100 (calls.WaitTold (start + 15000))
    ∷ events.Deliver 7
    ∷ events.Deliver 8
    ∷ events.Release 1
    ∷ events.End 1 (answers.Promoted z100 1 [])
    ∷ []

abbrev replies_of_reparent : List Reply
replies_of_reparent =
    replies.Begun 1
    ∷ replies.Term 1
    ∷ replies.Read (record { recorded = None; intent = None; drained = [] })
    ∷ replies.Ok
    ∷ replies.Message 1
    ∷ replies.Message 2
    ∷ replies.Ok
    ∷ replies.Ok
    ∷ replies.Message 3
    ∷ replies.Message 4
    ∷ replies.Message 5
    ∷ replies.Message 6
    ∷ replies.Ok
    ∷ replies.Ok
    ∷ replies.Message 7
    ∷ replies.Message 8
    ∷ replies.Ok
    ∷ replies.Ok
    ∷ replies.Ok
    ∷ []

reparent_replies : replies_of three (opening three) events_of_reparent ≡ replies_of_reparent
reparent_replies = refl

reparent_met : all_met three (opening three) events_of_reparent ≡ true
reparent_met = refl

abbrev after_reparent : World
after_reparent = world_after_events three (opening three) events_of_reparent

-- the promotion is recorded
recorded_is : after_reparent.topo.recorded ≡ Some (record { alias = z100; term = 1; moment = start })
recorded_is = refl

abbrev events_of_settle : List Event
events_of_settle =
    events.Offer z101 ∷ events.Deliver 9 ∷ events.Deliver 10 ∷ events.Offer z102 ∷ events.Deliver 11 ∷ events.Deliver 12 ∷ []

settle_replies :
    replies_of three after_reparent events_of_settle
    ≡ replies.Message 9 ∷ replies.Message 10 ∷ replies.Ok ∷ replies.Message 11 ∷ replies.Message 12 ∷ replies.Ok ∷ []
settle_replies = refl

settle_met : all_met three after_reparent events_of_settle ≡ true
settle_met = refl

abbrev pub after_settle : World
after_settle = world_after_events three after_reparent events_of_settle

settled_is : is_at_rest three after_settle ≡ true
settled_is = refl

abbrev events_of_write : List Event
events_of_write =
    events.Local z101
    ∷ events.Cut (sides.Tablet z100) (sides.Tablet z101)
    ∷ events.Begin main_name (commands.Write None)
    ∷ events.Write 2 z100
    ∷ events.Tell 2
    ∷ events.End 2 (answers.Committed (gtid_of 0 2) z100 1)
    ∷ events.Offer z102
    ∷ events.Deliver 13
    ∷ events.Deliver 14
    ∷ events.Begin main_name (commands.Show z101)
    ∷ events.End 3 (answers.Shown z101 (standings.Replica z100 1) (of_gtids (gtid_of 0 1 ∷ gtid_of 1 1 ∷ [])))
    ∷ events.Begin main_name (commands.Show z102)
    ∷ events.End 4 (answers.Shown z102 (standings.Replica z100 1) (of_gtids (gtid_of 0 1 ∷ gtid_of 0 2 ∷ [])))
    ∷ []

write_replies :
    replies_of three after_settle events_of_write
    ≡ replies.Wrote (gtid_of 1 1)
    ∷ replies.Ok
    ∷ replies.Begun 2
    ∷ replies.Wrote (gtid_of 0 2)
    ∷ replies.Told
    ∷ replies.Ok
    ∷ replies.Message 13
    ∷ replies.Message 14
    ∷ replies.Ok
    ∷ replies.Begun 3
    ∷ replies.Ok
    ∷ replies.Begun 4
    ∷ replies.Ok
    ∷ []
write_replies = refl

write_met : all_met three after_settle events_of_write ≡ true
write_met = refl

write_settled : is_at_rest three (world_after_events three after_settle events_of_write) ≡ true
write_settled = refl

-- ---- a tablet that cannot be reached

abbrev events_of_cut : List Event
events_of_cut =
    events.Cut sides.Control (sides.Tablet z100)
    ∷ events.Begin main_name (commands.Planned commerce (Some z100) None None None false)
    ∷ events.Take 1
    ∷ events.Read 1
    ∷ events.Intend 1 z100
    ∷ events.Send 1 z100 (calls.Promote nothing)
    ∷ events.GiveUp 1 1
    ∷ events.Release 1
    ∷ events.End 1 (answers.Refused (refusals.Unreachable z100 whys.Cut) None)
    ∷ []

cut_replies :
    replies_of two (opening two) events_of_cut
    ≡ replies.Ok
    ∷ replies.Begun 1
    ∷ replies.Term 1
    ∷ replies.Read (record { recorded = None; intent = None; drained = [] })
    ∷ replies.Ok
    ∷ replies.Message 1
    ∷ replies.GaveUp whys.Cut
    ∷ replies.Ok
    ∷ replies.Ok
    ∷ []
cut_replies = refl

cut_met : all_met two (opening two) events_of_cut ≡ true
cut_met = refl

-- ---- writes before any promotion

abbrev events_of_writes : List Event
events_of_writes =
    events.Begin main_name (commands.Write None)
    ∷ events.End 1 answers.NoPrimaryRecorded
    ∷ events.Begin main_name (commands.Write (Some z101))
    ∷ events.Write 2 z101
    ∷ events.End 2 (answers.NotPrimary z101 standings.Stopped)
    ∷ []

writes_replies :
    replies_of three (opening three) events_of_writes
    ≡ replies.Begun 1 ∷ replies.Ok ∷ replies.Begun 2 ∷ replies.NotPrimary standings.Stopped ∷ replies.Ok ∷ []
writes_replies = refl

writes_met : all_met three (opening three) events_of_writes ≡ true
writes_met = refl

-- a tablet that is up is not restarted
no_restart : meets three (world_after_events three (opening three) events_of_writes) (events.Restart z100) ≡ false
no_restart = refl

-- ---- a call that waits too long

abbrev events_of_wait : ℕ → List Event
events_of_wait ms =
    events.Begin (codes "p") (commands.Planned commerce (Some z100) None None None false)
    ∷ events.Take 1
    ∷ events.Read 1
    ∷ events.Intend 1 z100
    ∷ events.Send 1 z100 (calls.Promote nothing)
    ∷ events.Tick ms
    ∷ []

-- what stands after so many milliseconds
abbrev after_wait : ℕ → World
after_wait ms = world_after_events three (opening three) (events_of_wait ms)

abbrev events_of_late : List Event
events_of_late =
    events.GiveUp 1 1 ∷ events.Release 1 ∷ events.End 1 (answers.Refused (refusals.Unreachable z100 (whys.TimedOut start (start + 15000))) None) ∷ []

too_late : all_met three (after_wait 15000) events_of_late ≡ true
too_late = refl

-- a millisecond before, it waits
not_too_late : meets three (after_wait 14999) (events.GiveUp 1 1) ≡ false
not_too_late = refl

-- just in time, it is delivered
in_time : all_met three (after_wait 14999) (events.Deliver 1 ∷ events.Deliver 2 ∷ events.Record 1 z100 ∷ []) ≡ true
in_time = refl

-- ---- a tablet that has more than the primary does not join, and one that cannot be reached neither

abbrev events_of_left : List Event
events_of_left =
    events.Local z101
    ∷ events.Crash z102 0
    ∷ events.Begin main_name (commands.Planned commerce (Some z100) None None None false)
    ∷ events.Take 1
    ∷ events.Read 1
    ∷ events.Intend 1 z100
    ∷ events.Send 1 z100 (calls.Promote nothing)
    ∷ events.Deliver 1
    ∷ events.Deliver 2
    ∷ events.Record 1 z100
    ∷ events.Send 1 z101 (calls.SetSource z100 1 (of_gtids (gtid_of 0 1 ∷ [])))
    ∷ events.Send 1 z102 (calls.SetSource z100 1 (of_gtids (gtid_of 0 1 ∷ [])))
    ∷ events.Deliver 3
    ∷ events.GiveUp 1 4
    ∷ events.Deliver 5
    ∷ events.Send 1 z100 (calls.WaitTold (start + 15000))
    ∷ events.Deliver 6
    ∷ events.Deliver 7
    ∷ events.Release 1
    ∷ []

abbrev after_left : World
after_left = world_after_events three (opening three) events_of_left

left_met : all_met three (opening three) events_of_left ≡ true
left_met = refl

abbrev who_left : List NotJoined
who_left =
    record { alias = z101; left = lefts.Errant (of_gtids (gtid_of 1 1 ∷ [])) } ∷ record { alias = z102; left = lefts.GivenUp whys.Down } ∷ []

left_said : meets three after_left (events.End 1 (answers.Promoted z100 1 who_left)) ≡ true
left_said = refl

-- none of the two lines may be left out
left_unsaid : meets three after_left (events.End 1 (answers.Promoted z100 1 [])) ≡ false
left_unsaid = refl

-- ---- a promotion whose first answer is lost, and whose tablet comes up again before the second: it keeps another stand

abbrev events_of_kept : List Event
events_of_kept =
    events.Begin main_name (commands.Planned commerce (Some z100) None None None false)
    ∷ events.Take 1
    ∷ events.Read 1
    ∷ events.Intend 1 z100
    ∷ events.Send 1 z100 (calls.Promote nothing)
    ∷ events.Deliver 1
    ∷ events.Lose 2
    ∷ events.Crash z100 0
    ∷ events.Restart z100
    ∷ events.Deliver 1
    ∷ events.Deliver 3
    ∷ events.Release 1
    ∷ events.End 1 (answers.Refused (refusals.NotAcknowledged z100 (unackeds.Kept standings.Stopped)) None)
    ∷ []

kept_met : all_met three (opening three) events_of_kept ≡ true
kept_met = refl

-- ---- a write whose primary goes down before it is told: nobody knows

abbrev events_of_unknown : List Event
events_of_unknown =
    events.Begin (codes "w") (commands.Write None)
    ∷ events.Write 2 z100
    ∷ events.Crash z100 0
    ∷ events.Tell 2
    ∷ events.End 2 (answers.Unknown (gtid_of 0 2) z100 1)
    ∷ []

unknown_replies :
    replies_of three after_settle events_of_unknown
    ≡ replies.Begun 2 ∷ replies.Wrote (gtid_of 0 2) ∷ replies.Ok ∷ replies.Gone ∷ replies.Ok ∷ []
unknown_replies = refl

unknown_met : all_met three after_settle events_of_unknown ≡ true
unknown_met = refl

-- what was told is not unknown, also where the primary goes down afterwards
abbrev events_of_known : List Event
events_of_known = events.Begin (codes "w") (commands.Write None) ∷ events.Write 2 z100 ∷ events.Tell 2 ∷ events.Crash z100 0 ∷ []

known_is_told : meets three (world_after_events three after_settle events_of_known) (events.End 2 (answers.Unknown (gtid_of 0 2) z100 1)) ≡ false
known_is_told = refl

-- ---- messages that come late or again

-- the first answer settles a call, and a later one changes nothing
abbrev events_of_again : List Event
events_of_again =
    events.Begin main_name (commands.Planned commerce (Some z100) None None None false)
    ∷ events.Take 1
    ∷ events.Read 1
    ∷ events.Intend 1 z100
    ∷ events.Send 1 z100 (calls.Promote nothing)
    ∷ events.Cut sides.Control (sides.Tablet z100)
    ∷ events.GiveUp 1 1
    ∷ events.Mend sides.Control (sides.Tablet z100)
    ∷ events.Deliver 1
    ∷ events.Deliver 2
    ∷ events.Release 1
    ∷ events.End 1 (answers.Refused (refusals.Unreachable z100 whys.Cut) None)
    ∷ []

again_met : all_met three (opening three) events_of_again ≡ true
again_met = refl

-- no message comes to a tablet that is down, and a lost one never comes
abbrev events_of_down : List Event
events_of_down = take 5 events_of_again

not_to_down : meets three (after three (world_after_events three (opening three) events_of_down) (events.Crash z100 0)) (events.Deliver 1) ≡ false
not_to_down = refl

not_lost : meets three (after three (world_after_events three (opening three) events_of_down) (events.Lose 1)) (events.Deliver 1) ≡ false
not_lost = refl

-- without the intent there is no evidence
no_evidence :
    meets three (world_after_events three (opening three) (take 3 events_of_again)) (events.Send 1 z100 (calls.Promote nothing)) ≡ false
no_evidence = refl

-- ---- acknowledgements under semi_sync

abbrev semi : Config
semi = two_under policies.SemiSync

abbrev events_of_waiting : List Event
events_of_waiting =
    events.Begin (codes "p") (commands.Planned commerce (Some z100) None None None false)
    ∷ events.Take 1
    ∷ events.Read 1
    ∷ events.Intend 1 z100
    ∷ events.Send 1 z100 (calls.Promote nothing)
    ∷ events.Deliver 1
    ∷ events.Deliver 2
    ∷ events.Record 1 z100
    ∷ events.Send 1 z101 (calls.SetSource z100 1 (of_gtids (gtid_of 0 1 ∷ [])))
    ∷ events.Deliver 3
    ∷ events.Deliver 4
    ∷ events.Send 1 z100 (calls.WaitTold (start + 15000))
    ∷ []

abbrev after_waiting : World
after_waiting = world_after_events semi (opening semi) events_of_waiting

waiting_met : all_met semi (opening semi) events_of_waiting ≡ true
waiting_met = refl

-- the row waits for an acknowledgement, and so does the call
waits_for_ack : meets semi after_waiting (events.Deliver 5) ≡ false
waits_for_ack = refl

-- the replica's acknowledgement tells the row, and a write behind it waits for its own
abbrev events_of_acked : List Event
events_of_acked =
    events.Offer z101
    ∷ events.Deliver 6
    ∷ events.Deliver 7
    ∷ events.Deliver 5
    ∷ events.Deliver 8
    ∷ events.Release 1
    ∷ events.End 1 (answers.Promoted z100 1 [])
    ∷ events.Begin main_name (commands.Write None)
    ∷ events.Write 2 z100
    ∷ []

acked_met : all_met semi after_waiting events_of_acked ≡ true
acked_met = refl

abbrev after_acked : World
after_acked = world_after_events semi after_waiting events_of_acked

write_waits : meets semi after_acked (events.Tell 2) ≡ false
write_waits = refl

write_is_told :
    all_met semi after_acked
    (events.Offer z101 ∷ events.Deliver 9 ∷ events.Deliver 10 ∷ events.Tell 2 ∷ events.End 2 (answers.Committed (gtid_of 0 2) z100 1) ∷ [])
    ≡ true
write_is_told = refl

-- where no acknowledgement comes in time, the row is not told
abbrev events_of_not_told : List Event
events_of_not_told =
    events.Cut (sides.Tablet z100) (sides.Tablet z101)
    ∷ events.Tick 16000
    ∷ events.Deliver 5
    ∷ events.Deliver 6
    ∷ events.Release 1
    ∷ events.End 1 (answers.Refused (refusals.NotAcknowledged z100 (unackeds.NotTold start (start + 16000))) None)
    ∷ []

not_told_met : all_met semi after_waiting events_of_not_told ≡ true
not_told_met = refl

-- ---- a stopped tablet feeds another one of its term

-- zone1-101 alone has a write of term 1
abbrev events_of_ahead : List Event
events_of_ahead =
    events.Begin main_name (commands.Write None)
    ∷ events.Write 2 z100
    ∷ events.Tell 2
    ∷ events.End 2 (answers.Committed (gtid_of 0 2) z100 1)
    ∷ events.Offer z101
    ∷ events.Deliver 13
    ∷ events.Deliver 14
    ∷ events.Crash z100 0
    ∷ []

abbrev all_written : Position
all_written = of_gtids (gtid_of 0 1 ∷ gtid_of 0 2 ∷ [])

abbrev events_of_feed : List Event
events_of_feed =
    events.Begin main_name (commands.Planned commerce (Some z101) None None (Some 5000) false)
    ∷ events.Take 3
    ∷ events.Send 3 z102 calls.Feed
    ∷ events.Deliver 15
    ∷ events.Send 3 z101 calls.Stop
    ∷ events.Send 3 z102 calls.Stop
    ∷ events.Deliver 17
    ∷ events.Deliver 18
    ∷ events.Send 3 z101 calls.Feed
    ∷ events.Deliver 21
    ∷ events.Send 3 z102 (calls.SetSource z101 2 all_written)
    ∷ events.Deliver 23
    ∷ events.Send 3 z102 (calls.WaitFor all_written (start + 5000))
    ∷ []

abbrev after_feed : World
after_feed = world_after_events three after_settle (events_of_ahead ++ events_of_feed)

feed_met : all_met three after_settle (events_of_ahead ++ events_of_feed) ≡ true
feed_met = refl

feeder_is : (after_feed.tablets z101).stand ≡ stands.Feeder 2
feeder_is = refl

-- what message n of a world carries
abbrev carried : World → ℕ → Option Content
carried w n = numbered w.post n >>= (λ m. Some m.content)

-- a tablet that has not stopped keeps its stand
feeds_not : carried after_feed 16 ≡ Some (contents.Answers 3 15 z102 (says.Kept (stands.Replica z100 1 2)))
feeds_not = refl

-- the feeder passes over its row, which the replica has
needs_second : carried (after three after_feed (events.Offer z102)) 26 ≡ Some (contents.Feeds z101 z102 2 1 2 (record { gtid = gtid_of 0 2; kind = kinds.Write 1 0 1 }))
needs_second = refl

-- who waits for the position is answered once it is there
waits_for_it : meets three after_feed (events.Deliver 25) ≡ false
waits_for_it = refl

abbrev after_fed : World
after_fed = world_after_events three after_feed (events.Offer z102 ∷ events.Deliver 26 ∷ events.Deliver 25 ∷ [])

fed_met : all_met three after_feed (events.Offer z102 ∷ events.Deliver 26 ∷ events.Deliver 25 ∷ []) ≡ true
fed_met = refl

has_it : carried after_fed 28 ≡ Some (contents.Answers 3 25 z102 says.Holds)
has_it = refl

needs_no_more : offer_to after_fed z102 ≡ None
needs_no_more = refl

-- or when its moment has come; no other limit ends it
has_it_not :
    carried (world_after_events three after_feed (events.Tick 5000 ∷ events.Deliver 25 ∷ [])) 26
    ≡ Some (contents.Answers 3 25 z102 (says.NotCaughtUp (of_gtids (gtid_of 0 2 ∷ []))))
has_it_not = refl

waits_on : meets three (after three after_feed (events.Tick 16000)) (events.GiveUp 3 25) ≡ false
waits_on = refl

-- the command's own time limit is that of its calls, and is a day at most
gives_up_late : meets three (world_after_events three after_feed (events.Send 3 z102 calls.Status ∷ events.Tick 5000 ∷ [])) (events.GiveUp 3 26) ≡ true
gives_up_late = refl

gives_up_not_before : meets three (world_after_events three after_feed (events.Send 3 z102 calls.Status ∷ events.Tick 4999 ∷ [])) (events.GiveUp 3 26) ≡ false
gives_up_not_before = refl

a_day : meets three (opening three) (events.Begin main_name (commands.Planned commerce None None None (Some 86400000) false)) ≡ true
a_day = refl

no_longer : meets three (opening three) (events.Begin main_name (commands.Planned commerce None None None (Some 86400001) false)) ≡ false
no_longer = refl

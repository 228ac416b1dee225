-- Worked histories, in which the grounds of a second promotion are there or are not. A first reparent, a second one whose old primary gives up its
-- place, and one whose old primary is down, as PlannedReparentShard and EmergencyReparentShard of Vitess have them (Vitess manual); that the newest
-- row and not the longest log decides who is ahead is of Sougoumarane's "Consensus algorithms at scale".
use Rattle.std.specs.Prelude.{◌≡◌, ◌<◌, ℕ, ◌+◌, Bool, true, false, ◌&&◌, nat_lt, List, [], ◌∷◌, Option, Some, None, codes, slice_get, if◌then◌else◌}
use Rattle.shard_names.specs.declared.alias.Alias.{Alias}
use Rattle.shard_names.specs.declared.shard_name.ShardName.{ShardName}
use Rattle.shard_names.specs.declared.tablet.Tablet.{Tablet}
use Rattle.shard_names.specs.declared.tablet.TabletType.TheVariants as types
use Rattle.shard_names.specs.Tablets.{alias_eq}
use Rattle.gtid_sets.specs.declared.entry.Entry.{Entry}
use Rattle.gtid_sets.specs.declared.entry.Kind.TheVariants as kinds
use Rattle.gtid_sets.specs.declared.gtid.Gtid.{Gtid}
use Rattle.gtid_sets.specs.Logs.{holds}
use Rattle.gtid_sets.specs.Position.{Position, nothing, of_gtids, has, count}
use Rattle.gtid_sets.specs.declared.held.Held.{Held}
use Rattle.gtid_sets.specs.Winner.{winner}
use Rattle.durability.specs.Policies.{rules_of}
use Rattle.durability.specs.Rules.{Rules}
use Rattle.durability.specs.declared.policy.Durability.TheVariants as policies
use Rattle.shard_calls.specs.declared.answer.Answer.TheVariants as answers
use Rattle.shard_calls.specs.declared.call.Call.TheVariants as calls
use Rattle.shard_calls.specs.declared.command.Command.TheVariants as commands
use Rattle.shard_calls.specs.declared.ending.CommandAnswer.TheVariants as ends
use Rattle.shard_calls.specs.declared.event.Event.{Event}
use Rattle.shard_calls.specs.declared.event.Event.TheVariants as events
use Rattle.shard_calls.specs.declared.post.Content.TheVariants as contents
use Rattle.shard_calls.specs.declared.state.Act.{Act}
use Rattle.shard_calls.specs.declared.state.CommandState.{CommandState}
use Rattle.shard_calls.specs.Tablets.{opened}
use Rattle.shard_calls.specs.World.{Config, World, opening, main_name, numbered}
use Rattle.shard_calls.specs.declared.span.Outcome.TheVariants.{Answered}
use Rattle.shard_calls.specs.Outcomes.{Sending, sendings}
use Rattle.shard_calls.specs.Grounds.{grounded, stopped_at}
use Rattle.shard_calls.specs.Table.{meets, after}
use Rattle.shard_laws.specs.TightMoves.{IsPosted}
use Rattle.shard_laws.specs.Traces.{IsVote, OfEveryTrace, RowsAreClosed}

-- ---- playing

-- the condition of each row holds
abbrev pub all_met : Config → World → List Event → Bool
all_met config w [] = true
all_met config w (e ∷ es) = meets config w e && all_met config (after config w e) es

abbrev pub played : Config → World → List Event → World
played config w [] = w
played config w (e ∷ es) = played config (after config w e) es

-- ---- three replicas, of which a primary needs one more

abbrev pub alias_of : ℕ → Alias
alias_of uid = record { cell = codes "zone1"; uid = uid }

abbrev pub server_with : ℕ → List ℕ
server_with last = 0 ∷ 0 ∷ 0 ∷ 0 ∷ 0 ∷ 0 ∷ 64 ∷ 0 ∷ 128 ∷ 0 ∷ 0 ∷ 0 ∷ 0 ∷ 0 ∷ 1 ∷ last ∷ []

abbrev pub gtid_of : ℕ → ℕ → Gtid
gtid_of last number = record { server = server_with last; number = number }

abbrev pub replica_of : ℕ → ℕ → Tablet
replica_of uid last = record { alias = alias_of uid; server = server_with last; kind = types.Replica }

abbrev pub start : ℕ
start = 1704067200000

abbrev pub three : Config
three = record { tablets = replica_of 100 0 ∷ replica_of 101 1 ∷ replica_of 102 2 ∷ []; policy = policies.SemiSync; moment = start }

abbrev pub commerce : ShardName
commerce = record { keyspace = codes "commerce"; shard = codes "0" }

-- the row of term 1, of zone1-100
abbrev pub first_row : Entry
first_row = record { gtid = gtid_of 0 1; kind = kinds.Row 1 (alias_of 100) }

abbrev pub with_first_row : Position
with_first_row = of_gtids (gtid_of 0 1 ∷ [])

-- ---- term 1: zone1-100 is promoted, zone1-101 acknowledges its row, and zone1-102 has joined

abbrev pub events_of_first : List Event
events_of_first =
    events.Begin main_name (commands.Planned commerce (Some (alias_of 100)) None None None false)
    ∷ events.Take 1
    ∷ events.Read 1
    ∷ events.Intend 1 (alias_of 100)
    ∷ events.Send 1 (alias_of 100) (calls.Promote nothing)
    ∷ events.Deliver 1
    ∷ events.Deliver 2
    ∷ events.Record 1 (alias_of 100)
    ∷ events.Send 1 (alias_of 101) (calls.SetSource (alias_of 100) 1 with_first_row)
    ∷ events.Send 1 (alias_of 102) (calls.SetSource (alias_of 100) 1 with_first_row)
    ∷ events.Deliver 3
    ∷ events.Deliver 4
    ∷ events.Deliver 5
    ∷ events.Deliver 6
    ∷ events.Offer (alias_of 101)
    ∷ events.Deliver 7
    ∷ events.Deliver 8
    ∷ events.Send 1 (alias_of 100) (calls.WaitTold (start + 15000))
    ∷ events.Deliver 9
    ∷ events.Deliver 10
    ∷ events.Release 1
    ∷ events.End 1 (ends.Promoted (alias_of 100) 1 [])
    ∷ []

abbrev pub after_first : World
after_first = played three (opening three) events_of_first

-- ---- the evidence for zone1-101 in term 2, which command 2 took

abbrev pub acts_of : Option CommandState → List Act
acts_of None = []
acts_of (Some s) = s.acts

abbrev pub may_promote_second : World → Position → Bool
may_promote_second w p = grounded (rules_of three.policy) three.tablets w.topo (sendings w.post (acts_of (numbered w.commands 2))) 2 (alias_of 101) p

-- ---- planned: zone1-100 gives up its place

abbrev pub events_of_demote : List Event
events_of_demote =
    events.Begin main_name (commands.Planned commerce (Some (alias_of 101)) None None None false)
    ∷ events.Take 2
    ∷ events.Read 2
    ∷ events.Send 2 (alias_of 100) calls.Demote
    ∷ events.Intend 2 (alias_of 101)
    ∷ events.Deliver 11
    ∷ []

abbrev pub after_demote : World
after_demote = played three after_first events_of_demote

-- the answer to the Demote has come
abbrev pub after_given_up : World
after_given_up = after three after_demote (events.Deliver 12)

pub record PlannedIsThere : Type 0 where
  pub first : all_met three (opening three) events_of_first ≡ true
  pub demote : all_met three after_first events_of_demote ≡ true
  pub answer_comes : meets three after_demote (events.Deliver 12) ≡ true
  pub there : may_promote_second after_given_up with_first_row ≡ true
  -- not before the answer has come, and not with less than it says
  pub not_yet : may_promote_second after_demote with_first_row ≡ false
  pub not_less : may_promote_second after_given_up nothing ≡ false

-- ---- emergency: zone1-100 is down, and the others stop

-- the row is on its way to zone1-102, which stops before it comes
abbrev pub events_of_stop : List Event
events_of_stop =
    events.Offer (alias_of 102)
    ∷ events.Crash (alias_of 100) 0
    ∷ events.Begin main_name (commands.Emergency commerce (Some (alias_of 101)) [] None None false)
    ∷ events.Take 2
    ∷ events.Read 2
    ∷ events.Intend 2 (alias_of 101)
    ∷ events.Send 2 (alias_of 101) calls.Stop
    ∷ events.Send 2 (alias_of 102) calls.Stop
    ∷ events.Deliver 12
    ∷ events.Deliver 13
    ∷ events.Deliver 11
    ∷ events.Deliver 14
    ∷ []

-- zone1-101 has answered
abbrev pub after_one_stopped : World
after_one_stopped = played three after_first events_of_stop

-- and so has zone1-102
abbrev pub after_both_stopped : World
after_both_stopped = after three after_one_stopped (events.Deliver 15)

pub record EmergencyIsThere : Type 0 where
  pub stop : all_met three after_first events_of_stop ≡ true
  pub answer_comes : meets three after_one_stopped (events.Deliver 15) ≡ true
  pub there : may_promote_second after_both_stopped with_first_row ≡ true
  -- one tablet leaves zone1-100 and zone1-102 together, and the position is that of the tablet ahead
  pub not_by_one : may_promote_second after_one_stopped with_first_row ≡ false
  pub not_less : may_promote_second after_both_stopped nothing ≡ false
  -- what comes late to a tablet that has stopped does not enter its log
  pub not_taken : (after_both_stopped.tablets (alias_of 102)).log ≡ []

-- ---- who answered Stop is no voter for what it holds only later

abbrev pub stop_of : ℕ → ℕ → Position → Sending
stop_of uid newest p = record {
  term = 2;
  to = alias_of uid;
  call = calls.Stop;
  sent = start;
  arrived = Some start;
  outcome = Some (Answered (answers.Stopped newest p));
}

-- Whatever a later Stop is answered, the first counts: zone1-102 had nothing.
abbrev pub FirstStopCounts : Type 0
FirstStopCounts = stopped_at (stop_of 102 0 nothing ∷ stop_of 102 1 with_first_row ∷ []) 2 (alias_of 102) ≡ Some (record { alias = alias_of 102; newest = 0; position = nothing })

-- A tablet that answered a Stop of a later term without the entry never votes for it, though it may come to hold it.
abbrev pub StoppedVotesNoMore : Rules → Config → (ℕ → World) → Type 0
StoppedVotesNoMore rules config at = (i j n k c d u t newest : ℕ) (a : Alias) (position : Position) (e : Entry)
    → IsPosted (at i).post k (contents.Asks c u a calls.Stop) → IsPosted (at i).post n (contents.Answers d k a (answers.Stopped newest position)) → t < u
    → has position e.gtid ≡ false → IsVote at j a t e → ⊥

-- ---- who is ahead

abbrev pub held_by : ℕ → ℕ → List Gtid → Held
held_by uid newest gs = record { alias = alias_of uid; newest = newest; position = of_gtids gs }

-- three writes of term 1 that nobody else has
abbrev pub longest : Held
longest = held_by 100 1 (gtid_of 0 1 ∷ gtid_of 0 2 ∷ gtid_of 0 3 ∷ gtid_of 0 4 ∷ [])

-- the row of term 2
abbrev pub newest : Held
newest = held_by 101 2 (gtid_of 0 1 ∷ gtid_of 1 1 ∷ [])

-- another log of term 2
abbrev pub other : Held
other = held_by 102 2 (gtid_of 0 1 ∷ gtid_of 2 1 ∷ [])

pub record NewestRowWins : Type 0 where
  pub is_longer : nat_lt (count newest.position) (count longest.position) ≡ true
  pub wins : winner (longest ∷ newest ∷ []) ≡ Some newest
  -- nobody is ahead where two of the newest row each have what the other has not
  pub nobody : winner (longest ∷ newest ∷ other ∷ []) ≡ None

-- ---- a row that is not at home

-- zone1-101 has the row of zone1-100, and zone1-100 has nothing
abbrev pub stray : World
stray = record (opening three) { tablets = λ a. if alias_eq a (alias_of 101) then record opened { log = first_row ∷ [] } else opened }

-- such a world is not closed
abbrev pub StrayIsNotClosed : Type 0
StrayIsNotClosed = (rules : Rules) → RowsAreClosed rules three (λ i. stray) → ⊥

-- and no world of a trace has a row that its tablet has not
abbrev pub HasNoStrayRow : Rules → Config → (ℕ → World) → Type 0
HasNoStrayRow rules config at = (i n t : ℕ) (a c : Alias) (row : Entry) → slice_get ((at i).tablets a).log n ≡ Some row → row.kind ≡ kinds.Row t c
    → holds ((at i).tablets c).log row.gtid ≡ false → ⊥

-- ---- all of them

pub record GroundsAreWorked : Type 0 where
  pub planned : PlannedIsThere
  pub emergency : EmergencyIsThere
  pub first_stop : FirstStopCounts
  pub no_voter : OfEveryTrace StoppedVotesNoMore
  pub ahead : NewestRowWins
  pub not_closed : StrayIsNotClosed
  pub no_stray : OfEveryTrace HasNoStrayRow

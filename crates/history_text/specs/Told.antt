-- What the line of a step tells of its event. Different things have different texts only within bounds: names without the bytes that part them, numbers
-- of 64 bits, sets that a position can be, and moments that have a text of their own.
use Rattle.std.specs.Prelude.{◌≡◌, ℕ, false, ◌<◌, ◌^◌, List, [], ◌∷◌, Option, Some, None, All, ⊤}
use Rattle.shard_names.specs.declared.alias.Alias.{Alias}
use Rattle.shard_names.specs.declared.shard_name.ShardName.{ShardName}
use Rattle.gtid_sets.specs.Position.{Position}
use Rattle.gtid_sets.specs.Intervals.{Ordered, position_of, alone}
use Rattle.gtid_sets.specs.ReadingLaws.{IsWritable}
use Rattle.gtid_sets.specs.declared.interval.Interval.{Interval}
use Rattle.topo_lock.specs.declared.intent.Intent.{Intent}
use Rattle.topo_lock.specs.declared.intent.Record.{Record}
use Rattle.shard_calls.specs.declared.call.Call.{Call}
use Rattle.shard_calls.specs.declared.call.Call.TheVariants as calls
use Rattle.shard_calls.specs.declared.command.Command.{Command}
use Rattle.shard_calls.specs.declared.command.Command.TheVariants as commands
use Rattle.shard_calls.specs.declared.ending.CommandAnswer.TheVariants as answers
use Rattle.shard_calls.specs.declared.event.Event.{Event}
use Rattle.shard_calls.specs.declared.event.Event.TheVariants as events
use Rattle.shard_calls.specs.declared.event.Reply.{Reply}
use Rattle.shard_calls.specs.declared.event.Reply.TheVariants as replies
use Rattle.shard_calls.specs.declared.event.Side.{Side}
use Rattle.shard_calls.specs.declared.event.Side.TheVariants as sides
use Rattle.shard_calls.specs.declared.event.Step.{Step}
use Rattle.shard_calls.specs.declared.stand.Standing.{Standing}
use Rattle.shard_calls.specs.declared.stand.Standing.TheVariants as standings
use Rattle.shard_calls.specs.declared.why.Why.{Why}
use Rattle.shard_calls.specs.declared.why.Why.TheVariants as whys
use Rattle.vtctld_text.specs.Summary.{is_end}
use Rattle.vtctld_text.specs.declared.begun.Begun.{Begun}
use Rattle.history_text.specs.Histories.{step_line}
use Rattle.history_text.specs.Laws.{Without}

-- ---- parts

abbrev pub IsNumber : ℕ → Type 0
IsNumber n = n < 2 ^ 64

-- a name without the bytes that part names
pub record IsPlain (name : List ℕ) : Type 0 where
  pub no_blank : Without 32 name
  pub no_comma : Without 44 name
  pub no_slash : Without 47 name

pub record IsAlias (a : Alias) : Type 0 where
  pub cell : IsPlain a.cell
  pub uid : a.uid < 2 ^ 32

abbrev pub IsOption : Option Alias → Type 0
IsOption None = ⊤
IsOption (Some a) = IsAlias a

abbrev pub AreAliases : List Alias → Type 0
AreAliases [] = ⊤
AreAliases (a ∷ aliases) = IsAlias a × AreAliases aliases

abbrev pub IsShard : ShardName → Type 0
IsShard shard = IsPlain shard.keyspace × IsPlain shard.shard

abbrev pub IsTime : Option ℕ → Type 0
IsTime None = ⊤
IsTime (Some ms) = IsNumber ms

-- the set of intervals in order, of the servers and numbers that transactions have
pub record IsSet (p : Position) : Type 0 where
  pub intervals : List Interval
  pub in_order : Ordered intervals
  pub writable : All IsWritable intervals
  pub same : position_of intervals ≡ p

-- before the year 9300
abbrev pub IsMoment : ℕ → Type 0
IsMoment m = m < 231312499200000

-- ---- events

abbrev pub IsCommand : Command → Type 0
IsCommand (commands.Planned shard new_primary avoid expected timeout allow_cross_cell) =
    IsShard shard × IsOption new_primary × IsOption avoid × IsOption expected × IsTime timeout
IsCommand (commands.Emergency shard new_primary ignored expected timeout prevent_cross_cell) =
    IsShard shard × IsOption new_primary × AreAliases ignored × IsOption expected × IsTime timeout
IsCommand (commands.External a) = IsAlias a
IsCommand commands.Vtorc = ⊤
IsCommand (commands.Write to) = IsOption to
IsCommand (commands.Show a) = IsAlias a
IsCommand (commands.GetShard shard) = IsShard shard
IsCommand (commands.GetTablets shard) = IsShard shard

abbrev pub IsCall : Call → Type 0
IsCall calls.Status = ⊤
IsCall calls.Stop = ⊤
IsCall calls.Demote = ⊤
IsCall (calls.Promote p) = IsSet p
IsCall (calls.SetSource source stand p) = IsAlias source × IsNumber stand × IsSet p
IsCall calls.Feed = ⊤
IsCall (calls.WaitFor p until) = IsSet p × IsMoment until
IsCall (calls.WaitTold until) = IsMoment until

abbrev pub IsSide : Side → Type 0
IsSide sides.Control = ⊤
IsSide (sides.Tablet a) = IsAlias a

abbrev pub IsEvent : Event → Type 0
IsEvent (events.Begin actor command) = IsPlain actor × IsCommand command
IsEvent (events.Take c) = IsNumber c
IsEvent (events.Read c) = IsNumber c
IsEvent (events.Intend c a) = IsNumber c × IsAlias a
IsEvent (events.Record c a) = IsNumber c × IsAlias a
IsEvent (events.Drain c a) = IsNumber c × IsAlias a
IsEvent (events.Release c) = IsNumber c
IsEvent events.Lapse = ⊤
IsEvent (events.Send c a call) = IsNumber c × IsAlias a × IsCall call
IsEvent (events.Deliver k) = IsNumber k
IsEvent (events.GiveUp c k) = IsNumber c × IsNumber k
IsEvent (events.Offer a) = IsAlias a
IsEvent (events.Write c a) = IsNumber c × IsAlias a
IsEvent (events.Tell c) = IsNumber c
IsEvent (events.Local a) = IsAlias a
IsEvent (events.Crash a keep) = IsAlias a × IsNumber keep
IsEvent (events.Restart a) = IsAlias a
IsEvent (events.Cut x y) = IsSide x × IsSide y
IsEvent (events.Mend x y) = IsSide x × IsSide y
IsEvent (events.Lose k) = IsNumber k
IsEvent (events.Tick ms) = IsNumber ms
IsEvent (events.End c x) = IsNumber c

-- ---- replies

abbrev pub IsRecorded : Option Record → Type 0
IsRecorded None = ⊤
IsRecorded (Some r) = IsAlias r.alias × IsNumber r.term × IsMoment r.moment

abbrev pub IsIntended : Option Intent → Type 0
IsIntended None = ⊤
IsIntended (Some i) = IsNumber i.term × IsAlias i.alias

abbrev pub IsWhy : Why → Type 0
IsWhy whys.Down = ⊤
IsWhy whys.Cut = ⊤
IsWhy whys.Lost = ⊤
IsWhy (whys.TimedOut since now) = IsMoment since × IsMoment now

abbrev pub IsStanding : Standing → Type 0
IsStanding standings.Down = ⊤
IsStanding standings.Stopped = ⊤
IsStanding (standings.Primary term) = IsNumber term
IsStanding (standings.Demoted term by) = IsNumber term × IsNumber by
IsStanding (standings.Replica source term) = IsAlias source × IsNumber term
IsStanding (standings.Feeder term) = IsNumber term

abbrev pub IsReply : Reply → Type 0
IsReply (replies.Begun c) = IsNumber c
IsReply (replies.Term term) = IsNumber term
IsReply (replies.Taken term actor) = IsNumber term × IsPlain actor
IsReply (replies.Read seen) = IsRecorded seen.recorded × IsIntended seen.intent × AreAliases seen.drained
IsReply (replies.Lost term) = IsNumber term
IsReply (replies.Stands a) = IsAlias a
IsReply (replies.Message k) = IsNumber k
IsReply (replies.GaveUp why) = IsWhy why
IsReply (replies.Wrote g) = IsWritable (alone g)
IsReply (replies.NotPrimary stand) = IsStanding stand
IsReply replies.Told = ⊤
IsReply replies.Gone = ⊤
IsReply replies.Ok = ⊤

-- ---- laws

-- the event but for an answer, which stands behind the event
abbrev pub unanswered : Event → Event
unanswered (events.End c x) = events.End c answers.NoPrimaryRecorded
unanswered e = e

-- Steps with one line have one event, but for the answers with which they end a command, whatever commands have begun before them.
abbrev pub LineTellsEvent : Type 0
LineTellsEvent =
    (commands others : List Begun) (s t : Step) → IsEvent s.event → IsEvent t.event → step_line commands s ≡ step_line others t
    → unanswered s.event ≡ unanswered t.event

-- And they have one reply, where the event ends no command.
abbrev pub LineTellsReply : Type 0
LineTellsReply =
    (commands others : List Begun) (s t : Step) → IsEvent s.event → IsEvent t.event → IsReply s.reply → IsReply t.reply
    → is_end s.event ≡ false → step_line commands s ≡ step_line others t → s.reply ≡ t.reply

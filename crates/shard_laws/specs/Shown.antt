-- What an answer says, as the steps before it show it. Answers are those of the reparents, of VTOrc, of a write and of a look at a tablet or at the
-- shard (Vitess manual); a client is told of its write once the entry counts as committed (MySQL 8.0 manual, "Semisynchronous Replication").
use Rattle.std.specs.Prelude.{◌≡◌, ◌<◌, ⊤, ℕ, suc, true, List, Some, None, slice_get, map}
use Rattle.std.specs.List.{AllByRecursion}
use Rattle.shard_names.specs.declared.alias.Alias.{Alias}
use Rattle.shard_names.specs.declared.shard_name.ShardName.{ShardName}
use Rattle.gtid_sets.specs.declared.entry.Entry.{Entry}
use Rattle.gtid_sets.specs.declared.entry.Kind.TheVariants as kinds
use Rattle.gtid_sets.specs.declared.gtid.Gtid.{Gtid}
use Rattle.gtid_sets.specs.Position.{Position}
use Rattle.gtid_sets.specs.Logs.{position_of}
use Rattle.topo_lock.specs.declared.intent.Intent.{Intent}
use Rattle.shard_calls.specs.declared.analysis.Finding.{Finding}
use Rattle.shard_calls.specs.declared.analysis.Status.{Status}
use Rattle.shard_calls.specs.declared.call.Call.TheVariants as calls
use Rattle.shard_calls.specs.declared.command.Command.{Command}
use Rattle.shard_calls.specs.declared.command.Command.TheVariants as commands
use Rattle.shard_calls.specs.declared.ending.CommandAnswer.{CommandAnswer}
use Rattle.shard_calls.specs.declared.ending.CommandAnswer.TheVariants as ends
use Rattle.shard_calls.specs.declared.ending.Rest.{Rest}
use Rattle.shard_calls.specs.declared.ending.Rest.TheVariants as lines
use Rattle.shard_calls.specs.declared.event.Event.{Event}
use Rattle.shard_calls.specs.declared.event.Event.TheVariants as events
use Rattle.shard_calls.specs.declared.event.Reply.{Reply}
use Rattle.shard_calls.specs.declared.event.Reply.TheVariants as replies
use Rattle.shard_calls.specs.declared.event.Seen.{Seen}
use Rattle.shard_calls.specs.declared.event.Step.{Step}
use Rattle.shard_calls.specs.declared.stand.Standing.{Standing}
use Rattle.shard_calls.specs.Stands.{standing_of}
use Rattle.shard_calls.specs.Analysis.{Statuses, analysed, problems}
use Rattle.shard_calls.specs.Causes.{row_of}
use Rattle.shard_calls.specs.Locks.{seen_of}
use Rattle.shard_calls.specs.Same.{findings_eq}
use Rattle.shard_calls.specs.World.{Config, World, group_of}
use Rattle.shard_calls.specs.Promotions.{world_at, IsTold}

-- before step i there was a step of this event with this reply
abbrev pub HadStep : List Step → ℕ → Event → Reply → Type 0
HadStep steps i e r = (k : ℕ) × (k < i) × (slice_get steps k ≡ Some (record { event = e; reply = r }))

-- before step i the row of the term, which names the tablet, was told
pub record RowWasTold (config : Config) (steps : List Step) (i : ℕ) (a : Alias) (t : ℕ) : Type 0 where
  pub step : ℕ
  pub before : step < i
  pub row : Entry
  pub is_row : row.kind ≡ kinds.Row t a
  pub told : IsTold config steps step row t

-- before step i the command wrote the transaction at the tablet, and was told of its entry in the term
pub record WriteWasTold (config : Config) (steps : List Step) (i c : ℕ) (g : Gtid) (a : Alias) (t : ℕ) : Type 0 where
  pub wrote : HadStep steps i (events.Write c a) (replies.Wrote g)
  pub step : ℕ
  pub before : step < i
  pub tells : slice_get steps step ≡ Some (record { event = events.Tell c; reply = replies.Told })
  pub entry : Entry
  pub is_entry : entry.gtid ≡ g
  pub told : IsTold config steps step entry t

-- before step i the command began as this one, and right after that the world was so
pub record BeganIn (config : Config) (steps : List Step) (i c : ℕ) (command : Command) (Was : World → Type 0) : Type 0 where
  pub step : ℕ
  pub before : step < i
  pub name : List ℕ
  pub begins : slice_get steps step ≡ Some (record { event = events.Begin name command; reply = replies.Begun c })
  pub world : Was (world_at config steps (suc step))

-- the tablet stands so, and its log has this position
abbrev pub StandsSo : Alias → Standing → Position → World → Type 0
StandsSo a at p w = (standing_of (w.tablets a).stand ≡ at) × (position_of (w.tablets a).log ≡ p)

-- before step i the command read the topology, whose last intent was this one
abbrev pub HadRead : List Step → ℕ → ℕ → Intent → Type 0
HadRead steps i c x = (seen : Seen) × HadStep steps i (events.Read c) (replies.Read seen) × (seen.intent ≡ Some x)

-- before step i the command, which began with this tablet, read that the last intent is of this term, and recorded the tablet
pub record WasRecorded (config : Config) (steps : List Step) (i c t : ℕ) : Type 0 where
  pub alias : Alias
  pub began : BeganIn config steps i c (commands.External alias) (λ w. ⊤)
  pub intent : Intent
  pub of_term : intent.term ≡ t
  pub read : HadRead steps i c intent
  pub recorded : HadStep steps i (events.Record c alias) replies.Ok

-- before step i the command asked the tablet how it stands, and when that came to the tablet it stood so and had this position
pub record HadStatus (config : Config) (steps : List Step) (i c : ℕ) (a : Alias) (status : Status) : Type 0 where
  pub number : ℕ
  pub sent : HadStep steps i (events.Send c a calls.Status) (replies.Message number)
  pub step : ℕ
  pub before : step < i
  pub reply : ℕ
  pub delivers : slice_get steps step ≡ Some (record { event = events.Deliver number; reply = replies.Message reply })
  pub stands : ((world_at config steps step).tablets a).stand ≡ status.stand
  pub position : position_of ((world_at config steps step).tablets a).log ≡ status.position

-- What a vtorc found is what is amiss by the record and the marks right after it began, and by how tablets stood when they were asked before step i.
pub record WasFound (config : Config) (steps : List Step) (i c : ℕ) (findings : List Finding) : Type 0 where
  pub said : Statuses
  pub asked : (a : Alias) (status : Status) → said a ≡ Some status → HadStatus config steps i c a status
  pub began : BeganIn config steps i c commands.Vtorc
      (λ w. findings_eq findings (problems (analysed (group_of config) w.topo.recorded w.topo.drained said)) ≡ true)

-- what the steps before step i show of a line of a vtorc: of a promotion what they show of a reparent's, and of a drained tablet that the command
-- marked it
abbrev pub LineShownBy : Config → List Step → ℕ → ℕ → Rest → Type 0
LineShownBy config steps i c (lines.Promoted a t left) = RowWasTold config steps i a t
LineShownBy config steps i c (lines.Refused refusal tried) = ⊤
LineShownBy config steps i c (lines.Joined a p) = ⊤
LineShownBy config steps i c (lines.Left a why) = ⊤
LineShownBy config steps i c (lines.Drained a) = HadStep steps i (events.Drain c a) replies.Ok

-- what the steps before step i show of an answer of command c
abbrev pub ShownBy : Config → List Step → ℕ → ℕ → CommandAnswer → Type 0
ShownBy config steps i c (ends.Promoted a t left) = RowWasTold config steps i a t
ShownBy config steps i c (ends.NothingToDo a) = (x : Intent) × HadRead steps i c x × (x.alias ≡ a)
ShownBy config steps i c (ends.Recorded t) = WasRecorded config steps i c t
ShownBy config steps i c (ends.Refused refusal tried) = ⊤
ShownBy config steps i c (ends.Vtorc findings rest) =
    WasFound config steps i c findings × AllByRecursion (LineShownBy config steps i c) rest
ShownBy config steps i c (ends.Committed g a t) = WriteWasTold config steps i c g a t
ShownBy config steps i c (ends.NotPrimary a at) = HadStep steps i (events.Write c a) (replies.NotPrimary at)
ShownBy config steps i c ends.NoPrimaryRecorded = BeganIn config steps i c (commands.Write None) (λ w. w.topo.recorded ≡ None)
ShownBy config steps i c (ends.Unknown g a t) =
    HadStep steps i (events.Write c a) (replies.Wrote g) × (HadStep steps i (events.Tell c) replies.Told → ⊥)
ShownBy config steps i c (ends.Shown a at p) = BeganIn config steps i c (commands.Show a) (StandsSo a at p)
ShownBy config steps i c (ends.Shard shard recorded) = BeganIn config steps i c (commands.GetShard shard) (λ w. w.topo.recorded ≡ recorded)
ShownBy config steps i c (ends.Tablets rows) =
    (shard : ShardName) × BeganIn config steps i c (commands.GetTablets shard) (λ w. rows ≡ map (row_of (seen_of w.topo)) config.tablets)

-- each answer of a command is shown by the steps before it
abbrev pub ShownBySteps : Config → List Step → Type 0
ShownBySteps config steps = (i c : ℕ) (x : CommandAnswer) → slice_get steps i ≡ Some (record { event = events.End c x; reply = replies.Ok }) → ShownBy config steps i c x

-- What the lines of a history are.
use Rattle.std.specs.Prelude.{◌≡◌, ℕ, ◌==◌, Bool, true, not, List, [], ◌∷◌, ◌++◌, Option, Some, None, ⊤}
use Rattle.std.specs.List.{list_all}
use Rattle.durability.specs.declared.policy.Durability.{Durability}
use Rattle.shard_names.specs.declared.alias.Alias.{Alias}
use Rattle.shard_names.specs.declared.shard_name.ShardName.{ShardName}
use Rattle.shard_names.specs.declared.tablet.Tablet.{Tablet}
use Rattle.topo_lock.specs.declared.intent.Intent.{Intent}
use Rattle.topo_lock.specs.declared.intent.Record.{Record}
use Rattle.shard_calls.specs.declared.call.Call.{Call}
use Rattle.shard_calls.specs.declared.call.Call.TheVariants as calls
use Rattle.shard_calls.specs.declared.command.Command.{Command}
use Rattle.shard_calls.specs.declared.command.Command.TheVariants as commands
use Rattle.shard_calls.specs.declared.event.Event.{Event}
use Rattle.shard_calls.specs.declared.event.Event.TheVariants as events
use Rattle.shard_calls.specs.declared.event.Reply.{Reply}
use Rattle.shard_calls.specs.declared.event.Reply.TheVariants as replies
use Rattle.shard_calls.specs.declared.event.Side.{Side}
use Rattle.shard_calls.specs.declared.event.Side.TheVariants as sides
use Rattle.shard_calls.specs.declared.event.Step.{Step}
use Rattle.shard_calls.specs.declared.stand.Standing.{Standing}
use Rattle.shard_calls.specs.declared.stand.Standing.TheVariants as standings
use Rattle.vtctld_text.specs.declared.begun.Begun.{Begun}
use Rattle.vtctld_text.specs.Texts.{commands_of}
use Rattle.history_text.specs.Declarations.{declarations_text}
use Rattle.history_text.specs.Histories.{step_line, step_lines, history_text, opening_text}

-- whether a byte is not this one
abbrev pub is_other : ℕ → ℕ → Bool
is_other c b = not (b == c)

-- the text has no such byte
pub record Without (c : ℕ) (text : List ℕ) : Type 0 where
  pub all_other : list_all (is_other c) text ≡ true

-- the text has no newline
abbrev pub InLine : List ℕ → Type 0
InLine text = Without 10 text

-- ---- steps whose names hold no newline

abbrev pub NamesAlias : Alias → Type 0
NamesAlias a = InLine a.cell

abbrev pub NamesOption : Option Alias → Type 0
NamesOption None = ⊤
NamesOption (Some a) = NamesAlias a

abbrev pub NamesAliases : List Alias → Type 0
NamesAliases [] = ⊤
NamesAliases (a ∷ aliases) = NamesAlias a × NamesAliases aliases

abbrev pub NamesShard : ShardName → Type 0
NamesShard shard = InLine shard.keyspace × InLine shard.shard

abbrev pub NamesCommand : Command → Type 0
NamesCommand (commands.Planned shard new_primary avoid expected timeout allow_cross_cell) =
    NamesShard shard × NamesOption new_primary × NamesOption avoid × NamesOption expected
NamesCommand (commands.Emergency shard new_primary ignored expected timeout prevent_cross_cell) =
    NamesShard shard × NamesOption new_primary × NamesAliases ignored × NamesOption expected
NamesCommand (commands.External a) = NamesAlias a
NamesCommand commands.Vtorc = ⊤
NamesCommand (commands.Write to) = NamesOption to
NamesCommand (commands.Show a) = NamesAlias a
NamesCommand (commands.GetShard shard) = NamesShard shard
NamesCommand (commands.GetTablets shard) = NamesShard shard

abbrev pub NamesCall : Call → Type 0
NamesCall calls.Status = ⊤
NamesCall calls.Stop = ⊤
NamesCall calls.Demote = ⊤
NamesCall (calls.Promote p) = ⊤
NamesCall (calls.SetSource source stand p) = NamesAlias source
NamesCall calls.Feed = ⊤
NamesCall (calls.WaitFor p until) = ⊤
NamesCall (calls.WaitTold until) = ⊤

abbrev pub NamesSide : Side → Type 0
NamesSide sides.Control = ⊤
NamesSide (sides.Tablet a) = NamesAlias a

abbrev pub NamesEvent : Event → Type 0
NamesEvent (events.Begin actor command) = InLine actor × NamesCommand command
NamesEvent (events.Take c) = ⊤
NamesEvent (events.Read c) = ⊤
NamesEvent (events.Intend c a) = NamesAlias a
NamesEvent (events.Record c a) = NamesAlias a
NamesEvent (events.Drain c a) = NamesAlias a
NamesEvent (events.Release c) = ⊤
NamesEvent events.Lapse = ⊤
NamesEvent (events.Send c a call) = NamesAlias a × NamesCall call
NamesEvent (events.Deliver k) = ⊤
NamesEvent (events.GiveUp c k) = ⊤
NamesEvent (events.Offer a) = NamesAlias a
NamesEvent (events.Write c a) = NamesAlias a
NamesEvent (events.Tell c) = ⊤
NamesEvent (events.Local a) = NamesAlias a
NamesEvent (events.Crash a keep) = NamesAlias a
NamesEvent (events.Restart a) = NamesAlias a
NamesEvent (events.Cut x y) = NamesSide x × NamesSide y
NamesEvent (events.Mend x y) = NamesSide x × NamesSide y
NamesEvent (events.Lose k) = ⊤
NamesEvent (events.Tick ms) = ⊤
NamesEvent (events.End c x) = ⊤

abbrev pub NamesRecorded : Option Record → Type 0
NamesRecorded None = ⊤
NamesRecorded (Some r) = NamesAlias r.alias

abbrev pub NamesIntended : Option Intent → Type 0
NamesIntended None = ⊤
NamesIntended (Some i) = NamesAlias i.alias

abbrev pub NamesStanding : Standing → Type 0
NamesStanding standings.Down = ⊤
NamesStanding standings.Stopped = ⊤
NamesStanding (standings.Primary term) = ⊤
NamesStanding (standings.Demoted term by) = ⊤
NamesStanding (standings.Replica source term) = NamesAlias source
NamesStanding (standings.Feeder term) = ⊤

abbrev pub NamesReply : Reply → Type 0
NamesReply (replies.Begun c) = ⊤
NamesReply (replies.Term term) = ⊤
NamesReply (replies.Taken term actor) = InLine actor
NamesReply (replies.Read seen) = NamesRecorded seen.recorded × NamesIntended seen.intent × NamesAliases seen.drained
NamesReply (replies.Lost term) = ⊤
NamesReply (replies.Stands a) = NamesAlias a
NamesReply (replies.Message k) = ⊤
NamesReply (replies.GaveUp why) = ⊤
NamesReply (replies.Wrote g) = ⊤
NamesReply (replies.NotPrimary stand) = NamesStanding stand
NamesReply replies.Told = ⊤
NamesReply replies.Gone = ⊤
NamesReply replies.Ok = ⊤

-- the names of actors, cells and shards in the event and in the reply hold no newline
abbrev pub NamesStep : Step → Type 0
NamesStep s = NamesEvent s.event × NamesReply s.reply

-- ---- laws

-- Each step has one line, whatever the commands are. Of the answer with which a command ends nothing is asked.
abbrev pub StepIsOneLine : Type 0
StepIsOneLine = (commands : List Begun) (s : Step) → NamesStep s → InLine (step_line commands s)

-- What stands before the steps, and a line for each of them behind it, are the declarations and the history.
abbrev pub PiecesAreTheWhole : Type 0
PiecesAreTheWhole =
    (shard : Option ShardName) (policy : Durability) (tablets : List Tablet) (moment : ℕ) (steps : List Step)
    → opening_text shard policy tablets moment ++ step_lines (commands_of steps) steps
    ≡ declarations_text shard policy tablets moment ++ history_text steps

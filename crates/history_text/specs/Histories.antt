-- The text of a history: a line for each step, with the event and what came of it. The format is vtshard's own.
use Rattle.std.specs.Prelude.{ℕ, ◌==◌, ◌-◌, List, [], ◌∷◌, ◌++◌, Option, option_map, if◌then◌else◌, codes, length, take}
use Rattle.std.specs.List.{flat_map}
use Rattle.durability.specs.declared.policy.Durability.{Durability}
use Rattle.shard_names.specs.declared.shard_name.ShardName.{ShardName}
use Rattle.shard_names.specs.declared.tablet.Tablet.{Tablet}
use Rattle.shard_calls.specs.declared.ending.CommandAnswer.{CommandAnswer}
use Rattle.shard_calls.specs.declared.event.Event.{Event}
use Rattle.shard_calls.specs.declared.event.Event.TheVariants as events
use Rattle.shard_calls.specs.declared.event.Reply.{Reply}
use Rattle.shard_calls.specs.declared.event.Step.{Step}
use Rattle.shard_calls.specs.World.{main_name, numbered}
use Rattle.tablet_text.specs.Stands.{line}
use Rattle.vtctld_text.specs.declared.begun.Begun.{Begun}
use Rattle.vtctld_text.specs.Texts.{commands_of, answer_text}
use Rattle.history_text.specs.Declarations.{declarations_text}
use Rattle.history_text.specs.Events.{happening_text}
use Rattle.history_text.specs.Replies.{reply_text}

-- ---- answers in one line

-- all but the last byte
abbrev pub but_last : List ℕ → List ℕ
but_last text = take (length text - 1) text

-- a newline is a bar
abbrev pub barred : ℕ → List ℕ
barred b = if b == 10 then codes " | " else b ∷ []

-- the lines of a text with bars between them
unfoldable pub in_one_line : List ℕ → List ℕ
in_one_line text = flat_map barred (but_last text)

-- the command as if `main` had given it, whose name stands before no line
abbrev pub unsigned : Begun → Begun
unsigned b = record { actor = main_name; command = b.command }

-- the answer to a command, whoever gave it
unfoldable pub ending_text : Option Begun → CommandAnswer → List ℕ
ending_text begun x = in_one_line (answer_text (option_map unsigned begun) x)

-- ---- steps

-- what came of an event: the answer with which it ends a command, or else the reply
abbrev pub outcome_text : List Begun → Event → Reply → List ℕ
outcome_text commands (events.Begin actor command) reply = reply_text reply
outcome_text commands (events.Take c) reply = reply_text reply
outcome_text commands (events.Read c) reply = reply_text reply
outcome_text commands (events.Intend c a) reply = reply_text reply
outcome_text commands (events.Record c a) reply = reply_text reply
outcome_text commands (events.Drain c a) reply = reply_text reply
outcome_text commands (events.Release c) reply = reply_text reply
outcome_text commands events.Lapse reply = reply_text reply
outcome_text commands (events.Send c a call) reply = reply_text reply
outcome_text commands (events.Deliver k) reply = reply_text reply
outcome_text commands (events.GiveUp c k) reply = reply_text reply
outcome_text commands (events.Offer a) reply = reply_text reply
outcome_text commands (events.Write c a) reply = reply_text reply
outcome_text commands (events.Tell c) reply = reply_text reply
outcome_text commands (events.Local a) reply = reply_text reply
outcome_text commands (events.Crash a keep) reply = reply_text reply
outcome_text commands (events.Restart a) reply = reply_text reply
outcome_text commands (events.Cut x y) reply = reply_text reply
outcome_text commands (events.Mend x y) reply = reply_text reply
outcome_text commands (events.Lose k) reply = reply_text reply
outcome_text commands (events.Tick ms) reply = reply_text reply
outcome_text commands (events.End c x) reply = ending_text (numbered commands c) x

-- the line of a step, where these commands have begun
unfoldable pub step_line : List Begun → Step → List ℕ
step_line commands s = happening_text s.event ++ codes " = " ++ outcome_text commands s.event s.reply

-- a line for each step, where these commands have begun
abbrev pub step_lines : List Begun → List Step → List ℕ
step_lines commands steps = flat_map (λ s. line (step_line commands s)) steps

-- the line `history`, and the lines of the steps
unfoldable pub history_text : List Step → List ℕ
history_text steps = line (codes "history") ++ step_lines (commands_of steps) steps

-- ---- pieces

-- the declarations, and the line `history`
unfoldable pub opening_text : Option ShardName → Durability → List Tablet → ℕ → List ℕ
opening_text shard policy tablets moment = declarations_text shard policy tablets moment ++ line (codes "history")

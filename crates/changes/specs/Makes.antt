-- What the row of an event makes of the fields.
use Rattle.std.specs.Prelude.{◌≡◌, ℕ, Bool, true, false, List, Option, Some, None, ⊤}
use Rattle.shard_calls.specs.declared.event.Event.{Event}
use Rattle.shard_calls.specs.declared.event.Event.TheVariants as events
use Rattle.shard_calls.specs.declared.event.Reply.{Reply}
use Rattle.shard_calls.specs.declared.post.Content.{Content}
use Rattle.shard_calls.specs.declared.post.Content.TheVariants as contents
use Rattle.shard_calls.specs.declared.post.Message.{Message}
use Rattle.shard_calls.specs.World.{World, numbered}
use Rattle.shard_calls.specs.Messages.{why_given_up, offer_to}
use Rattle.shard_calls.specs.Writes.{tell_of}
use Rattle.shard_calls.specs.Table.{answer, change}
use Rattle.shard_state.specs.State.{Data, config_in, groups_in, seen}
use Rattle.changes.specs.declared.found.Found.{Found}

-- the row of the event leads from the old fields to the new ones, and gives this reply
pub record Makes (old new : Data) (e : Event) (said : Reply) : Type 0 where
  pub config : config_in new ≡ config_in old
  pub aliases : new.aliases ≡ old.aliases
  pub marks : new.marks ≡ old.marks
  pub groups : groups_in new.managers ≡ groups_in old.managers
  pub world : seen new ≡ change (config_in old) (seen old) e
  pub reply : said ≡ answer (config_in old) (seen old) e

-- what the condition of the event's row has found is at hand
abbrev pub IsFound : World → Event → Found → Type 0
IsFound w (events.Begin name command) f = ⊤
IsFound w (events.Take c) f = ⊤
IsFound w (events.Read c) f = ⊤
IsFound w (events.Intend c a) f = ⊤
IsFound w (events.Record c a) f = ⊤
IsFound w (events.Drain c a) f = ⊤
IsFound w (events.Release c) f = ⊤
IsFound w events.Lapse f = ⊤
IsFound w (events.Send c a call) f = ⊤
IsFound w (events.Deliver k) f = ⊤
IsFound w (events.GiveUp c k) f = f.why ≡ why_given_up w c k
IsFound w (events.Offer r) f = f.offer ≡ offer_to w r
IsFound w (events.Write c a) f = ⊤
IsFound w (events.Tell c) f = f.told ≡ tell_of w c
IsFound w (events.Local a) f = ⊤
IsFound w (events.Crash a keep) f = ⊤
IsFound w (events.Restart a) f = ⊤
IsFound w (events.Cut x y) f = ⊤
IsFound w (events.Mend x y) f = ⊤
IsFound w (events.Lose k) f = ⊤
IsFound w (events.Tick ms) f = ⊤
IsFound w (events.End c x) f = ⊤

-- the row takes no memory
abbrev pub takes_no_memory : Event → Bool
takes_no_memory (events.Begin name command) = false
takes_no_memory (events.Take c) = false
takes_no_memory (events.Read c) = false
takes_no_memory (events.Intend c a) = false
takes_no_memory (events.Record c a) = false
takes_no_memory (events.Drain c a) = false
takes_no_memory (events.Release c) = true
takes_no_memory events.Lapse = true
takes_no_memory (events.Send c a call) = false
takes_no_memory (events.Deliver k) = false
takes_no_memory (events.GiveUp c k) = true
takes_no_memory (events.Offer r) = false
takes_no_memory (events.Write c a) = false
takes_no_memory (events.Tell c) = false
takes_no_memory (events.Local a) = false
takes_no_memory (events.Crash a keep) = true
takes_no_memory (events.Restart a) = true
takes_no_memory (events.Cut x y) = false
takes_no_memory (events.Mend x y) = true
takes_no_memory (events.Lose k) = true
takes_no_memory (events.Tick ms) = true
takes_no_memory (events.End c x) = true

-- the call that a message answers
abbrev pub asks_what : Content → Option ℕ
asks_what (contents.Asks command term to call) = None
asks_what (contents.Answers command asked from says) = Some asked
asks_what (contents.Feeds from to term after index e) = None
asks_what (contents.Acks from to term index) = None

-- the message of a number carries this
pub record Carries (messages : List Message) (k : ℕ) (c : Content) : Type 0 where
  pub message : Message
  pub here : numbered messages k ≡ Some message
  pub content : message.content ≡ c

-- it carries an answer to the call of this number
pub record CarriesAnswer (messages : List Message) (k call : ℕ) : Type 0 where
  pub message : Message
  pub here : numbered messages k ≡ Some message
  pub answers : asks_what message.content ≡ Some call

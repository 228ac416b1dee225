-- The messages of a shard, as contracts see them.
use Rattle.std.specs.Prelude.{ℕ, ◌-◌, Bool, true, false, List, [], ◌∷◌, ◌++◌, None, is_some, length, take}
use Rattle.shard_names.specs.declared.alias.Alias.{Alias}
use Rattle.shard_calls.specs.declared.answer.Answer.{Answer}
use Rattle.shard_calls.specs.declared.post.Content.{Content}
use Rattle.shard_calls.specs.declared.post.Content.TheVariants as contents
use Rattle.shard_calls.specs.declared.post.Message.{Message}
use Rattle.shard_calls.specs.World.{numbered, changed_at}

-- the tablets, in order, and all messages ever sent, in order
pub record Posted : Type 0 where
  pub aliases : List Alias
  pub messages : List Message

-- a message to which nothing has happened yet
abbrev pub sent_at : ℕ → Content → Message
sent_at now c = record { content = c; sent = now; arrived = None; lost = false; settled = None }

-- one message more
abbrev pub with_sent : Posted → ℕ → Content → Posted
with_sent post now c = record post { messages = post.messages ++ sent_at now c ∷ [] }

-- the message of a number changed
abbrev pub on_number : Posted → ℕ → (Message → Message) → Posted
on_number post number f = record post { messages = changed_at post.messages number f }

-- whether what it answers was sent, if it answers anything
abbrev pub answers_what_was_sent : List Message → Content → Bool
answers_what_was_sent messages (contents.Asks command term to call) = true
answers_what_was_sent messages (contents.Answers command asked from says) = is_some (numbered messages asked)
answers_what_was_sent messages (contents.Feeds from to term after index e) = true
answers_what_was_sent messages (contents.Acks from to term index) = true

-- an answer in the place of the one that it carried, if it carried one
abbrev pub with_answer : Answer → Content → Content
with_answer x (contents.Asks command term to call) = contents.Asks command term to call
with_answer x (contents.Answers command asked from says) = contents.Answers command asked from x
with_answer x (contents.Feeds from to term after index e) = contents.Feeds from to term after index e
with_answer x (contents.Acks from to term index) = contents.Acks from to term index

abbrev pub answers_now : Answer → Message → Message
answers_now x m = record m { content = with_answer x m.content }

-- without what was sent last
abbrev pub without_sent : Posted → Posted
without_sent post = record post { messages = take (length post.messages - 1) post.messages }

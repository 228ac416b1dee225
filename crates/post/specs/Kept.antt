-- What is kept beside the messages: for each direction the numbers of its messages that wait, for each receiver those of the messages that wait for
-- it, and for each message those of its answers.
use Rattle.std.specs.Prelude.{◌≡◌, ℕ, zero, suc, ◌+◌, ◌*◌, ◌≤◌, ◌<◌, Bool, ◌==◌, List, [], ◌∷◌, ◌++◌, Option, Some, None, length, get_or, take, ◌-◌, if◌then◌else◌}
use Rattle.shard_names.specs.declared.alias.Alias.{Alias}
use Rattle.shard_calls.specs.declared.post.Content.{Content}
use Rattle.shard_calls.specs.declared.post.Content.TheVariants as contents
use Rattle.shard_calls.specs.declared.post.Message.{Message}
use Rattle.shard_calls.specs.World.{changed, changed_at}
use Rattle.post.specs.Directions.{place_from, place_to}
use Rattle.post.specs.Waiting.{numbers_of, is_on_its_way, waits_under, waiting_for, answers_on}
use Rattle.post.specs.Posted.{Posted}
use Rattle.post.specs.declared.messages.Post.TheInside.{Inside}

-- the number of a direction: a shard has at most 32 tablets, and so at most 34 places, with that of commands and that of strangers
abbrev pub direction : ℕ → ℕ → ℕ
direction from to = from * 34 + to

abbrev pub direction_of : List Alias → Content → ℕ
direction_of aliases c = direction (place_from aliases c) (place_to aliases c)

-- whether it waits on the direction of this number
abbrev pub waits_in : List Alias → ℕ → Message → Bool
waits_in aliases d m = waits_under (direction_of aliases) d m

-- the call that it answers, or 0
abbrev pub asked_by : Content → ℕ
asked_by (contents.Asks command term to call) = 0
asked_by (contents.Answers command asked from says) = asked
asked_by (contents.Feeds from to term after index e) = 0
asked_by (contents.Acks from to term index) = 0

-- ---- lists of numbers

abbrev pub with_number : ℕ → List ℕ → List ℕ
with_number n ns = ns ++ n ∷ []

abbrev pub without_last : List ℕ → List ℕ
without_last ns = take (length ns - 1) ns

-- without the first that is this number
abbrev pub taken_out : ℕ → List ℕ → List ℕ
taken_out k [] = []
taken_out k (n ∷ ns) = if n == k then ns else n ∷ taken_out k ns

-- the list of a number, counted from 1
abbrev pub list_of : List (List ℕ) → ℕ → List ℕ
list_of lists zero = []
list_of lists (suc k) = get_or lists k []

-- queues, each under its number, once the message of a number does not wait any more
abbrev pub left_by : (Content → ℕ) → List (List ℕ) → ℕ → Option Message → List (List ℕ)
left_by of queues k None = queues
left_by of queues k (Some m) = if is_on_its_way m then changed queues (of m.content) (taken_out k) else queues

-- the queues and the lists once the last message is gone, whose number ends its queue, if it waits, and the list of the call that it answers
abbrev pub forgotten_by : (Content → ℕ) → List (List ℕ) → Option Message → List (List ℕ)
forgotten_by of queues None = queues
forgotten_by of queues (Some m) = if is_on_its_way m then changed queues (of m.content) without_last else queues

abbrev pub unanswered_by : List (List ℕ) → Option Message → List (List ℕ)
unanswered_by lists None = lists
unanswered_by lists (Some m) = changed_at lists (asked_by m.content) without_last

-- each of the one has the numbers that it has in the other: there may be more of them, with no number
abbrev pub HoldSame : List (List ℕ) → List (List ℕ) → Type 0
HoldSame old new = (k : ℕ) → get_or new k [] ≡ get_or old k []

-- one has this number more, at its end
abbrev pub HasJoined : List (List ℕ) → List (List ℕ) → ℕ → ℕ → Type 0
HasJoined old new at n = (k : ℕ) → get_or new k [] ≡ (if at == k then with_number n (get_or old k []) else get_or old k [])

-- ---- the invariant

-- each queue has the numbers that wait on its direction
abbrev pub AreQueues : List Alias → List Message → List (List ℕ) → Type 0
AreQueues aliases messages queues = (d : ℕ) → d < length queues → get_or queues d [] ≡ numbers_of (waits_in aliases d) messages

-- each list has the numbers of the answers to its call, and nothing else is answered
abbrev pub AreAnswers : List Message → List (List ℕ) → Type 0
AreAnswers messages lists = (k : ℕ) → list_of lists k ≡ answers_on messages k

pub record AreKept (aliases : List Alias) (messages : List Message) (lists replies : List (List ℕ)) : Type 0 where
  pub few : length aliases ≤ 32
  pub directions : length lists ≡ (length aliases + 2) * 34
  pub queues : AreQueues aliases messages lists
  pub calls : length replies ≡ length messages
  pub answers : AreAnswers messages replies

-- each inbox has the numbers that wait for its receiver, and nothing waits for who has none
abbrev pub AreInboxes : List Message → List (List ℕ) → Type 0
AreInboxes messages inboxes = (k : ℕ) → get_or inboxes k [] ≡ waiting_for messages k

abbrev pub posted_of : Inside → Posted
posted_of a = record { aliases = a.aliases.items; messages = a.messages.items }

abbrev pub IsKept : Inside → Type 0
IsKept a = AreKept a.aliases.items a.messages.items a.queues.items a.answers.items × AreInboxes a.messages.items a.inboxes.items

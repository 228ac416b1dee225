-- What the numbers that are kept say: each is that of a message of its kind, each such message has its number there, and they rise.
use Rattle.std.specs.Prelude.{◌≡◌, ℕ, ◌<◌, Bool, ◌==◌, List, [], ◌∷◌, ⊤}
use Rattle.std.specs.List.{list_any}
use Rattle.shard_names.specs.declared.alias.Alias.{Alias}
use Rattle.shard_calls.specs.declared.post.Message.{Message}
use Rattle.shard_calls.specs.Messages.{answers_call, passes}
use Rattle.shard_calls.specs.World.{numbered}
use Rattle.post.specs.Waiting.{waits_for, waiting_for, waits, waiting_on, answers_on}

abbrev pub has_number : List ℕ → ℕ → Bool
has_number ns k = list_any (λ n. n == k) ns

-- each is greater than the one before it, and the first than this one
abbrev pub RiseFrom : ℕ → List ℕ → Type 0
RiseFrom low [] = ⊤
RiseFrom low (n ∷ ns) = (low < n) × RiseFrom n ns

-- a number is among those that wait for a receiver if its message does, and else not
abbrev pub InboxIsExact : Type 0
InboxIsExact = (messages : List Message) (to k : ℕ) → has_number (waiting_for messages to) k ≡ passes (waits_for to) (numbered messages k)

abbrev pub InboxRises : Type 0
InboxRises = (messages : List Message) (to : ℕ) → RiseFrom 0 (waiting_for messages to)

-- a number is among those that wait on a direction if its message does, and else not
abbrev pub WaitingIsExact : Type 0
WaitingIsExact = (aliases : List Alias) (messages : List Message) (from to k : ℕ)
    → has_number (waiting_on aliases messages from to) k ≡ passes (waits aliases from to) (numbered messages k)

abbrev pub WaitingRises : Type 0
WaitingRises = (aliases : List Alias) (messages : List Message) (from to : ℕ) → RiseFrom 0 (waiting_on aliases messages from to)

-- a number is among the answers to a call if its message is one, and else not
abbrev pub AnswersAreExact : Type 0
AnswersAreExact = (messages : List Message) (call k : ℕ) → has_number (answers_on messages call) k ≡ passes (λ m. answers_call call m.content) (numbered messages k)

abbrev pub AnswersRise : Type 0
AnswersRise = (messages : List Message) (call : ℕ) → RiseFrom 0 (answers_on messages call)

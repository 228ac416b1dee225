-- Which messages wait on their way, and which answer a call. A message may be late, lost or repeated, as in Sougoumarane's "Consensus
-- algorithms at scale": until it first comes to its receiver or is lost it waits, whatever was sent before or after it.
use Rattle.std.specs.Prelude.{ℕ, ◌+◌, Bool, not, ◌&&◌, ◌==◌, List, [], ◌∷◌, is_none, if◌then◌else◌}
use Rattle.shard_names.specs.declared.alias.Alias.{Alias}
use Rattle.shard_calls.specs.declared.post.Content.{Content}
use Rattle.shard_calls.specs.declared.post.Message.{Message}
use Rattle.shard_calls.specs.Messages.{answers_call}
use Rattle.post.specs.Directions.{goes, receiver}

-- the numbers of the members that meet the test, where the first member has the number n
abbrev pub numbers_from : {A : Type 0} → ℕ → (A → Bool) → List A → List ℕ
numbers_from n test [] = []
numbers_from n test (x ∷ xs) = if test x then n ∷ numbers_from (n + 1) test xs else numbers_from (n + 1) test xs

-- the numbers of the members that meet the test, counted from 1
abbrev pub numbers_of : {A : Type 0} → (A → Bool) → List A → List ℕ
numbers_of test xs = numbers_from 1 test xs

-- it has not come to its receiver, and is not lost
abbrev pub is_on_its_way : Message → Bool
is_on_its_way m = is_none m.arrived && not m.lost

-- it is on its way, and what it carries belongs under this number
abbrev pub waits_under : (Content → ℕ) → ℕ → Message → Bool
waits_under of k m = (of m.content == k) && is_on_its_way m

-- it waits on its way to this receiver: the command of the number, or with 0 any tablet
abbrev pub waits_for : ℕ → Message → Bool
waits_for k m = waits_under receiver k m

-- the numbers of the messages that wait on their way to this receiver
abbrev pub waiting_for : List Message → ℕ → List ℕ
waiting_for messages k = numbers_of (waits_for k) messages

abbrev pub waits : List Alias → ℕ → ℕ → Message → Bool
waits aliases from to m = goes aliases from to m.content && is_on_its_way m

-- the numbers of the messages that wait on their way from the one place to the other
abbrev pub waiting_on : List Alias → List Message → ℕ → ℕ → List ℕ
waiting_on aliases messages from to = numbers_of (waits aliases from to) messages

-- the numbers of the answers to the call of a number
abbrev pub answers_on : List Message → ℕ → List ℕ
answers_on messages call = numbers_of (λ m. answers_call call m.content) messages

-- Whom a message is for: a tablet, or a command that some actor has open. What is for a command that has ended can never come to it.
use Rattle.std.specs.Prelude.{◌≡◌, ℕ, Bool, true, ◌==◌, List, [], ◌∷◌, Option, Some, None, is_some, min}
use Rattle.std.specs.List.{find, list_any}
use Rattle.shard_calls.specs.declared.state.ActorState.{ActorState}
use Rattle.shard_calls.specs.Messages.{passes}
use Rattle.shard_calls.specs.World.{if_open, numbered}
use Rattle.post.specs.Waiting.{waiting_for}
use Rattle.shard_state.specs.State.{Data}
use Rattle.arrivals.specs.Ways.{is_due_at}

-- whether an actor has the command of this number open
abbrev pub has_open : ℕ → ActorState → Bool
has_open c a = passes (λ n. c == n) a.pending

-- each open command is one that some actor has open
abbrev pub OpenAreOfActors : Data → Type 0
OpenAreOfActors d = (c : ℕ) → is_some (if_open (numbered d.commands c)) ≡ true → list_any (has_open c) d.actors ≡ true

-- the least number of a message that is due to the command of this number, or with 0 to a tablet
abbrev pub due_for : Data → ℕ → Option ℕ
due_for d c = find (is_due_at d) (waiting_for d.messages c)

-- the same for the command that an actor has open, if there is one
abbrev pub due_in : Data → Option ℕ → Option ℕ
due_in d None = None
due_in d (Some c) = due_for d c

-- the lesser of two numbers, if there are any
abbrev pub earlier : Option ℕ → Option ℕ → Option ℕ
earlier None other = other
earlier (Some k) None = Some k
earlier (Some k) (Some n) = Some (min k n)

-- the least for those that these actors have open
abbrev pub due_of : Data → List ActorState → Option ℕ
due_of d [] = None
due_of d (a ∷ actors) = earlier (due_in d a.pending) (due_of d actors)

-- Numbers that grow by at most one a step, and so fit their types for as long as a history is no longer than it may be.
use Rattle.std.specs.Prelude.{◌≡◌, ◌≤◌, ℕ, ◌+◌, List, Some, length, slice_get, ⊤}
use Rattle.std.specs.List.{AllByRecursion}
use Rattle.shard_names.specs.declared.alias.Alias.{Alias}
use Rattle.gtid_sets.specs.declared.entry.Entry.{Entry}
use Rattle.shard_calls.specs.declared.post.Content.{Content}
use Rattle.shard_calls.specs.declared.post.Content.TheVariants as contents
use Rattle.shard_calls.specs.declared.post.Message.{Message}
use Rattle.shard_calls.specs.declared.state.ActorState.{ActorState}
use Rattle.shard_calls.specs.World.{World, numbered}

-- no actor has begun more than so many writes
abbrev pub HaveFewWrites : ℕ → List ActorState → Type 0
HaveFewWrites n actors = AllByRecursion (λ a. a.writes ≤ n) actors

-- the log has at most so many entries, and no greater number
pub record IsFewLog (n : ℕ) (log : List Entry) : Type 0 where
  pub entries : length log ≤ n
  pub numbers : (k : ℕ) (e : Entry) → slice_get log k ≡ Some e → e.gtid.number ≤ n

-- the index of an entry on its way, and its number
abbrev pub IsFewContent : ℕ → Content → Type 0
IsFewContent n (contents.Asks command term to call) = ⊤
IsFewContent n (contents.Answers command asked from says) = ⊤
IsFewContent n (contents.Feeds from to term after index e) = (index ≤ n) × (e.gtid.number ≤ n)
IsFewContent n (contents.Acks from to term index) = index ≤ n

pub record AreFew (n : ℕ) (w : World) : Type 0 where
  pub term : w.topo.term ≤ n
  pub actors : length w.actors ≤ n + 1
  pub commands : length w.commands ≤ n
  pub writes : HaveFewWrites n w.actors
  pub logs : (a : Alias) → IsFewLog n (w.tablets a).log
  pub contents : (k : ℕ) (m : Message) → numbered w.post k ≡ Some m → IsFewContent n m.content

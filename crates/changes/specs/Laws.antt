-- What each row keeps of the numbers, the messages and the shard, and that no row reads what is past.
use Rattle.std.specs.Prelude.{◌≡◌, ◌≤◌, ℕ, ◌+◌, List}
use Rattle.shard_calls.specs.declared.event.Event.{Event}
use Rattle.shard_calls.specs.declared.event.Reply.{Reply}
use Rattle.shard_calls.specs.declared.event.Step.{Step}
use Rattle.shard_calls.specs.World.{Config, World, opening}
use Rattle.shard_calls.specs.Table.{Met, meets, answer, change}
use Rattle.shard_state.specs.State.{Data}
use Rattle.changes.specs.Few.{AreFew}
use Rattle.changes.specs.Sound.{AreSound, Fits}
use Rattle.changes.specs.Makes.{Makes}

-- numbers grow by at most one
abbrev pub KeepsFew : Type 0
KeepsFew = (n : ℕ) (config : Config) (w : World) (e : Event) → AreSound config w → AreFew n w → AreFew (n + 1) (change config w e)

-- what is few is few up to any greater number
abbrev pub StaysFew : Type 0
StaysFew = (n m : ℕ) (w : World) → n ≤ m → AreFew n w → AreFew m w

abbrev pub BeginsFew : Type 0
BeginsFew = (config : Config) → AreFew 0 (opening config)

abbrev pub KeepsSound : Type 0
KeepsSound = (config : Config) (w : World) (e : Event) → Met config w e → AreSound config w → AreSound config (change config w e)

abbrev pub BeginsSound : Type 0
BeginsSound = (config : Config) → AreSound config (opening config)

abbrev pub KeepsFit : Type 0
KeepsFit = (old new : Data) (e : Event) (reply : Reply) → Makes old new e reply → Fits old → Fits new

-- the tablets and the policy of the shard stay
abbrev pub KeepsGroup : Type 0
KeepsGroup = (config : Config) (w : World) (e : Event) → (change config w e).group ≡ w.group

-- the world with other steps past
abbrev pub with_past : World → List Step → World
with_past w ss = record w { past = ss }

-- no condition, no reply and no change reads what is past
pub record ReadsNoPast : Type 0 where
  pub meets : (config : Config) (w : World) (ss : List Step) (e : Event) → meets config (with_past w ss) e ≡ meets config w e
  pub answer : (config : Config) (w : World) (ss : List Step) (e : Event) → answer config (with_past w ss) e ≡ answer config w e
  pub change : (config : Config) (w : World) (ss ts : List Step) (e : Event) → with_past (change config (with_past w ss) e) ts ≡ with_past (change config w e) ts

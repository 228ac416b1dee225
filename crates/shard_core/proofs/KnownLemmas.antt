-- What is known of each world to which a history leads, on which courses rest.
use Rattle.std.proofs.Common.{◌≡◌, ℕ, ◌<◌, ◌≤◌, List, Bool, true, false, Option, Some, None, Result, Ok, Err, is_some, not}
use Rattle.std.specs.List.{list_any}
use Rattle.shard_base.specs.Options.{only_if}
use Rattle.shard_calls.specs.declared.state.Act.{Act}
use Rattle.shard_calls.specs.declared.state.Act.TheVariants as acts
use Rattle.shard_calls.specs.declared.state.CommandState.{CommandState}
use Rattle.shard_calls.specs.Commands.{timeout_of}
use Rattle.shard_calls.specs.World.{World, numbered, if_open}

-- it wrote
abbrev pub writes_it : Act → Bool
writes_it (acts.Took reply) = false
writes_it (acts.Read reply) = false
writes_it (acts.Intended a reply) = false
writes_it (acts.Recorded a reply) = false
writes_it (acts.Drained a reply) = false
writes_it (acts.Sent k) = false
writes_it (acts.Wrote a (Ok g)) = true
writes_it (acts.Wrote a (Err stand)) = false
writes_it (acts.Told committed) = false

-- it keeps what it wrote, and waits at most a day for an answer
pub record CommandFits (s : CommandState) : Type 0 where
  pub wrote : list_any writes_it s.acts ≡ true → is_some s.wrote ≡ true
  pub in_time : timeout_of s.command ≤ 86400000

-- ---- a world to which a history leads

pub record IsReached (w : World) : Type 0 where
  pub clock : w.clock < 253370764800000
  pub commands : (c : ℕ) (s : CommandState) → numbered w.commands c ≡ Some s → CommandFits s

-- an open command is there
pub open_numbered : (o : Option CommandState) (s : CommandState) → if_open o ≡ Some s → o ≡ Some s
open_numbered None s h = absurd (let none : ◌≡◌ {A = Option CommandState} None (Some s) = h in cc)
open_numbered (Some x) s h = of_test x.ended h
  where
    of_test : (b : Bool) → only_if (not b) x ≡ Some s → Some x ≡ Some s
    of_test true k = absurd (let none : ◌≡◌ {A = Option CommandState} None (Some s) = k in cc)
    of_test false k = k

-- On which grounds tablets are promoted, at each step of a history: that no earlier term intended anything, that the last intended tablet gave up its
-- place, or that tablets stopped which revoke every older primary. After PlannedReparentShard and EmergencyReparentShard (Vitess manual) and
-- Sougoumarane's "Consensus algorithms at scale".
use Rattle.std.specs.Prelude.{◌≡◌, ◌<◌, ◌⊎◌, ℕ, true, false, List, Some, slice_get}
use Rattle.std.specs.List.{list_any}
use Rattle.shard_names.specs.declared.alias.Alias.{Alias}
use Rattle.shard_names.specs.Tablets.{tablet_of}
use Rattle.durability.specs.Policies.{rules_of}
use Rattle.gtid_sets.specs.declared.entry.Entry.{Entry}
use Rattle.gtid_sets.specs.declared.held.Held.{Held}
use Rattle.gtid_sets.specs.Logs.{position_of}
use Rattle.gtid_sets.specs.Position.{Position, count, covers}
use Rattle.gtid_sets.specs.Winner.{winner}
use Rattle.topo_lock.specs.declared.intent.Intent.{Intent}
use Rattle.shard_calls.specs.declared.call.Call.TheVariants as calls
use Rattle.shard_calls.specs.declared.event.Event.TheVariants as events
use Rattle.shard_calls.specs.declared.event.Reply.TheVariants as replies
use Rattle.shard_calls.specs.declared.event.Step.{Step}
use Rattle.shard_calls.specs.World.{Config, World, term_of}
use Rattle.shard_calls.specs.Evidence.{intends, is_first}
use Rattle.shard_calls.specs.Grounds.{asks_demote, calls_of, demoted_at, last_before, may_lead, stopped_among}
use Rattle.shard_calls.specs.Promotions.{world_at, IsPromotion}
use Rattle.shard_laws.specs.Traces.{IsRevokedFrom}

-- with step i the command asks the tablet to become the primary, if it covers the position
abbrev pub AsksToPromote : List Step → ℕ → ℕ → Alias → Position → Type 0
AsksToPromote steps i c a p = (k : ℕ) × (slice_get steps i ≡ Some (record { event = events.Send c a (calls.Promote p); reply = replies.Message k }))

-- no earlier term intends anything
abbrev pub IsFirst : Config → List Step → ℕ → ℕ → Type 0
IsFirst config steps i u = is_first (world_at config steps i).topo u ≡ true

-- tablets stopped for the term that revoke, for good, every tablet which may be the primary
abbrev pub AreRevoked : Config → List Step → ℕ → ℕ → Type 0
AreRevoked config steps i u = IsRevokedFrom (rules_of config.policy) config (world_at config steps) i u

-- before step i the command of term u knows so that the position has all that was ever told in an earlier term
pub data StandsOn (config : Config) (steps : List Step) (i c u : ℕ) (p : Position) : Type 0 where
  -- nothing can have been told
  NothingBefore : IsFirst config steps i u → count p ≡ 0 → StandsOn config steps i c u p
  -- the last intended tablet answered that it takes no more writes: it has nothing newer than the row of its term, and has this position
  PlaceGivenUp : (intent : Intent) (held : Held) → last_before (world_at config steps i).topo u ≡ Some intent
      → demoted_at (calls_of (world_at config steps i) c) u intent.alias ≡ Some held → held.newest ≡ intent.term → p ≡ held.position → StandsOn config steps i c u p
  -- of those that answered that they stopped, one is ahead of all, and has this position
  AllRevoked : (held : Held) → AreRevoked config steps i u → winner (stopped_among config.tablets (calls_of (world_at config steps i) c) u) ≡ Some held
      → p ≡ held.position → StandsOn config steps i c u p

-- the command took a term, which intends the tablet; the policy lets the tablet be promoted, and there is a ground
pub record IsGroundedAt (config : Config) (steps : List Step) (i c : ℕ) (a : Alias) (p : Position) : Type 0 where
  pub term : ℕ
  pub took : term_of (world_at config steps i) c ≡ Some term
  pub leads : may_lead (rules_of config.policy) (tablet_of config.tablets a) ≡ true
  pub intended : intends (world_at config steps i).topo term a ≡ true
  pub ground : StandsOn config steps i c term p

-- the command has asked no tablet to give up its place, as a reparent in an emergency does not
abbrev pub AsksNobodyToLeave : World → ℕ → Type 0
AsksNobodyToLeave w c = list_any (λ s. asks_demote s.call) (calls_of w c) ≡ false

-- an earlier step asked for the promotion, and the tablet has what it asked for when it is promoted
pub record WasAskedFor (config : Config) (steps : List Step) (i u : ℕ) (a : Alias) : Type 0 where
  pub step : ℕ
  pub before : step < i
  pub command : ℕ
  pub position : Position
  pub asks : AsksToPromote steps step command a position
  pub took : term_of (world_at config steps step) command ≡ Some u
  pub covered : covers (position_of ((world_at config steps i).tablets a).log) position ≡ true

pub record PromotesOnGrounds (config : Config) (steps : List Step) : Type 0 where
  -- who asks a tablet to become the primary has its grounds
  pub grounded : (i c : ℕ) (a : Alias) (p : Position) → AsksToPromote steps i c a p → IsGroundedAt config steps i c a p
  -- in an emergency it asks for the first promotion of all, or once every older primary is revoked
  pub emergency : (i c u : ℕ) (a : Alias) (p : Position) → AsksToPromote steps i c a p → term_of (world_at config steps i) c ≡ Some u
      → AsksNobodyToLeave (world_at config steps i) c → IsFirst config steps i u ⊎ AreRevoked config steps i u
  -- and no tablet is promoted but who was asked
  pub promoted : (i u : ℕ) (a : Alias) (before : List Entry) → IsPromotion config steps i u a before → WasAskedFor config steps i u a

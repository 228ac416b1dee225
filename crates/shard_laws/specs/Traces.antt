-- Worlds of which each comes from the one before by one move, from one in which nothing has happened; and what holds along them, whatever the
-- durability policy is: who votes for an entry, what is told, and that a later leader has it (after Sougoumarane's "Consensus algorithms at scale").
use Rattle.std.specs.Prelude.{◌≡◌, ◌≤◌, ◌<◌, ℕ, suc, true, List, [], ◌∷◌, ◌++◌, take, Some, None, slice_get, IsTrue, Contains}
use Rattle.shard_base.specs.Lists.{IsFront}
use Rattle.shard_names.specs.declared.alias.Alias.{Alias}
use Rattle.shard_names.specs.declared.tablet.Tablet.{Tablet}
use Rattle.shard_names.specs.Tablets.{tablet_of}
use Rattle.durability.specs.Rules.{Rules, is_eligible}
use Rattle.durability.specs.Sets.{TabletSet, Accepted, Revokes}
use Rattle.shard_calls.specs.declared.state.Act.{Act}
use Rattle.shard_calls.specs.Outcomes.{sendings}
use Rattle.shard_calls.specs.Grounds.{stopped_all}
use Rattle.replication.specs.Told.{holders}
use Rattle.gtid_sets.specs.declared.entry.Entry.{Entry}
use Rattle.gtid_sets.specs.declared.entry.Kind.{Kind}
use Rattle.gtid_sets.specs.declared.entry.Kind.TheVariants as kinds
use Rattle.gtid_sets.specs.Position.{Position}
use Rattle.topo_lock.specs.Topology.{fresh}
use Rattle.shard_calls.specs.declared.answer.Answer.{Answer}
use Rattle.shard_calls.specs.declared.answer.Answer.TheVariants as answers
use Rattle.shard_calls.specs.declared.call.Call.{Call}
use Rattle.shard_calls.specs.declared.post.Content.TheVariants as contents
use Rattle.shard_calls.specs.declared.stand.Stand.TheVariants as stands
use Rattle.shard_calls.specs.Stands.{is_primary_of}
use Rattle.gtid_sets.specs.Logs.{position_of, newest_row}
use Rattle.shard_calls.specs.Tablets.{opened}
use Rattle.shard_calls.specs.RunLaws.{IsIn, HasFirst}
use Rattle.shard_calls.specs.World.{Config, IsConfig, World, numbered}
use Rattle.shard_laws.specs.TightMoves.{IsPosted, WorldMove}

pub record IsTrace (rules : Rules) (config : Config) (at : ℕ → World) : Type 0 where
  pub blank : (a : Alias) → (at 0).tablets a ≡ opened
  pub unsent : (at 0).post ≡ []
  pub unused : (at 0).topo ≡ fresh
  pub move : (i : ℕ) → WorldMove rules config (at i) (at (suc i))

-- a law of traces, under every policy
abbrev pub OfEveryTrace : (Rules → Config → (ℕ → World) → Type 0) → Type 0
OfEveryTrace Law = (rules : Rules) (config : Config) (at : ℕ → World) → IsConfig config → IsTrace rules config at → Law rules config at

-- ---- closure

-- A row stands in the log of the tablet that it names; and what stands before it, in any log, has all that stands before it there.
pub record IsClosedRow (w : World) (a : Alias) (n : ℕ) (row : Entry) (c : Alias) : Type 0 where
  pub place : ℕ
  pub at_home : slice_get (w.tablets c).log place ≡ Some row
  pub first : HasFirst (take n (w.tablets a).log) (w.tablets c).log place

abbrev pub RowsAreClosed : Rules → Config → (ℕ → World) → Type 0
RowsAreClosed rules config at = (i : ℕ) (a c : Alias) (n t : ℕ) (row : Entry) → slice_get ((at i).tablets a).log n ≡ Some row → row.kind ≡ kinds.Row t c
    → IsClosedRow (at i) a n row c

-- an acknowledgement of an index says that its sender has so many entries
abbrev pub AcksSayTruth : Rules → Config → (ℕ → World) → Type 0
AcksSayTruth rules config at = (i n : ℕ) (a p : Alias) (t index : ℕ) → IsPosted (at i).post n (contents.Acks a p t index)
    → HasFirst ((at i).tablets a).log ((at i).tablets p).log index

-- ---- answers to a Stop and a Demote

-- the answer is Stopped or Demoted, with this newest row and position
pub data Leaves (newest : ℕ) (position : Position) : Answer → Type 0 where
  ByStop : Leaves newest position (answers.Stopped newest position)
  ByDemote : Leaves newest position (answers.Demoted newest position)

-- It has the newest row and the position of a log that begins with all that the tablet's log ever had while its promise was below the call's term;
-- and the tablet promises that term from then on.
pub record IsAnsweredBy (at : ℕ → World) (i u : ℕ) (a : Alias) (newest : ℕ) (position : Position) : Type 0 where
  pub front : List Entry
  pub part : IsFront front ((at i).tablets a).log
  pub newest_is : newest ≡ newest_row front
  pub position_is : position ≡ position_of front
  pub has_before : (j : ℕ) → ((at j).tablets a).promised < u → IsFront ((at j).tablets a).log front
  pub promised : u ≤ ((at i).tablets a).promised

abbrev pub VotesAreAnswered : Rules → Config → (ℕ → World) → Type 0
VotesAreAnswered rules config at = (i n k c d u : ℕ) (a : Alias) (call : Call) (says : Answer) (newest : ℕ) (position : Position)
    → IsPosted (at i).post k (contents.Asks c u a call) → IsPosted (at i).post n (contents.Answers d k a says) → Leaves newest position says
    → IsAnsweredBy at i u a newest position

-- ---- votes

-- with this move the tablet writes the entry as the primary of the term, or acknowledges it to the tablet that the term promoted
pub data Votes (w v : World) (a : Alias) (t : ℕ) (e : Entry) : Type 0 where
  AsPrimary : (v.tablets a).log ≡ (w.tablets a).log ++ e ∷ [] → (v.tablets a).stand ≡ stands.Primary t → Votes w v a t e
  ByAck : (n index place k : ℕ) (p : Alias) (row : Entry) → numbered w.post n ≡ None → IsPosted v.post n (contents.Acks a p t index) → place ≤ index
      → numbered (v.tablets p).log place ≡ Some e → slice_get (v.tablets p).log k ≡ Some row → row.kind ≡ kinds.Row t p → Votes w v a t e

-- move i is a vote of the tablet, in the term, for the entry, which it has then while it promises the term
pub record IsVote (at : ℕ → World) (i : ℕ) (a : Alias) (t : ℕ) (e : Entry) : Type 0 where
  pub votes : Votes (at i) (at (suc i)) a t e
  pub held : IsIn ((at (suc i)).tablets a).log e
  pub promised : ((at (suc i)).tablets a).promised ≡ t

-- ---- what an emergency reparent knows

-- Tablets that the policy says revoke every tablet that may be promoted have promised the term for good: so whatever set an older primary could still
-- need has a tablet that accepts nothing more for it.
pub record IsRevokedFrom (rules : Rules) (config : Config) (at : ℕ → World) (i u : ℕ) : Type 0 where
  pub reached : TabletSet
  pub revokes : Revokes rules config.tablets reached
  pub promised : (t : Tablet) → Contains config.tablets t → reached t.alias ≡ true → (j : ℕ) → i ≤ j → u ≤ ((at j).tablets t.alias).promised

-- where a set of tablets stopped is the evidence
abbrev pub EmergencyIsRevoked : Rules → Config → (ℕ → World) → Type 0
EmergencyIsRevoked rules config at = (i u : ℕ) (acts : List Act) (p : Position) → stopped_all rules config.tablets (sendings (at i).post acts) u p ≡ true
    → IsRevokedFrom rules config at i u

-- ---- what is told

-- the row of the term, or a write of the term
abbrev pub IsOfTerm : ℕ → Kind → Type 0
IsOfTerm t (kinds.Write v client number) = v ≡ t
IsOfTerm t (kinds.Row v a) = v ≡ t
IsOfTerm t kinds.Local = ⊥

-- a declared tablet stands as the primary of the term and counts enough of its ackers for an entry of the term
pub record IsToldIn (rules : Rules) (config : Config) (w : World) (e : Entry) (t : ℕ) : Type 0 where
  pub me : Tablet
  pub index : ℕ
  pub found : tablet_of config.tablets me.alias ≡ Some me
  pub stands : is_primary_of (w.tablets me.alias).stand t ≡ true
  pub told : Accepted rules config.tablets me (holders (w.tablets me.alias).acked me.alias index)
  pub entry : numbered (w.tablets me.alias).log index ≡ Some e
  pub of_term : IsOfTerm t e.kind

-- a set that the policy accepts for a tablet that may be promoted has voted for the entry by now
pub record HasVoted (rules : Rules) (config : Config) (at : ℕ → World) (i : ℕ) (e : Entry) (t : ℕ) : Type 0 where
  pub primary : Tablet
  pub found : tablet_of config.tablets primary.alias ≡ Some primary
  pub eligible : IsTrue (is_eligible rules primary)
  pub set : TabletSet
  pub accepted : Accepted rules config.tablets primary set
  pub voted : (a : Alias) → set a ≡ true → (j : ℕ) × (j < i) × IsVote at j a t e

abbrev pub ToldIsVoted : Rules → Config → (ℕ → World) → Type 0
ToldIsVoted rules config at = (i t : ℕ) (e : Entry) → IsToldIn rules config (at i) e t → HasVoted rules config at i e t

-- ---- what is promoted

-- with move i the row of the term comes into the log of the tablet that it names
pub record Promotes (at : ℕ → World) (i u : ℕ) (c : Alias) (base : List Entry) : Type 0 where
  pub row : Entry
  pub base_is : base ≡ ((at i).tablets c).log
  pub added : ((at (suc i)).tablets c).log ≡ ((at i).tablets c).log ++ row ∷ []
  pub is_row : row.kind ≡ kinds.Row u c

-- it has, before the row, each entry that is ever told in an earlier term
abbrev pub LeaderIsComplete : Rules → Config → (ℕ → World) → Type 0
LeaderIsComplete rules config at = (i j u t : ℕ) (c : Alias) (base : List Entry) (e : Entry) → Promotes at i u c base → IsToldIn rules config (at j) e t → t < u → IsIn base e

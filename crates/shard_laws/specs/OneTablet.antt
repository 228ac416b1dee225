-- What holds of one tablet and of the lock, said by what they are after a call, a restart or a lapse. After the tablet manager and the shard lock of
-- Vitess (Vitess manual), and the terms of Sougoumarane's "Consensus algorithms at scale": a new leader has what an earlier one could have told.
use Rattle.std.specs.Prelude.{◌≡◌, ◌≤◌, ℕ, true, false, [], ◌∷◌, ◌++◌, None}
use Rattle.shard_names.specs.declared.alias.Alias.{Alias}
use Rattle.shard_names.specs.declared.tablet.Tablet.{Tablet}
use Rattle.gtid_sets.specs.declared.entry.Entry.{Entry}
use Rattle.gtid_sets.specs.declared.entry.Kind.TheVariants as kinds
use Rattle.gtid_sets.specs.declared.gtid.Gtid.{Gtid}
use Rattle.gtid_sets.specs.Position.{Position, has, minus}
use Rattle.gtid_sets.specs.Logs.{position_of, has_row}
use Rattle.topo_lock.specs.Topology.{Topology, after_lapse}
use Rattle.shard_calls.specs.declared.answer.Answer.{Answer}
use Rattle.shard_calls.specs.declared.answer.Answer.TheVariants as answers
use Rattle.shard_calls.specs.declared.call.Call.TheVariants as calls
use Rattle.shard_calls.specs.declared.stand.Stand.TheVariants as stands
use Rattle.shard_calls.specs.declared.group.Group.{Group}
use Rattle.shard_calls.specs.Tablets.{TabletState, Verdict, verdict, after_call, restarts}

-- ---- promotion

-- the log has each transaction of the position
abbrev pub HasAll : TabletState → Position → Type 0
HasAll s p = (g : Gtid) → has p g ≡ true → has (position_of s.log) g ≡ true

-- what becomes of a tablet that is asked to be the primary of a term: it has the position, and the row of the term comes into its log; or it lacks
-- some of it, says so, and changes nothing but the term that it has seen
pub data Promotes (me : Tablet) (s : TabletState) (u : ℕ) (p : Position) (v : Verdict Answer) : Type 0 where
  Leads : (row : Entry) → HasAll s p → row.kind ≡ kinds.Row u me.alias → v.state.log ≡ s.log ++ row ∷ [] → v.state.stand ≡ stands.Primary u
      → v.says ≡ answers.Promoted (position_of v.state.log) → Promotes me s u p v
  Lacks : (HasAll s p → ⊥) → v.state ≡ record s { seen = u } → v.says ≡ answers.NotCaughtUp (minus p (position_of s.log)) → Promotes me s u p v

-- a tablet that has no row of the term, and has seen no later one
abbrev pub PromotionCovers : Type 0
PromotionCovers = (g : Group) (me : Tablet) (u : ℕ) (p : Position) (s : TabletState) → has_row s.log u ≡ false → s.seen ≤ u
    → Promotes me s u p (verdict g me u (calls.Promote p) s)

-- ---- a source that it has already

-- a replica of a term is not pointed anywhere else in this term
abbrev pub SetSourceAgain : Type 0
SetSourceAgain = (g : Group) (me : Tablet) (u t next : ℕ) (from source : Alias) (p : Position) (s : TabletState) → s.stand ≡ stands.Replica from t next
    → s.seen ≤ u → after_call g me u (calls.SetSource source t p) s ≡ record s { seen = u }

-- ---- acknowledgements

abbrev pub NothingAcked : TabletState → Type 0
NothingAcked s = (a : Alias) → s.acked a ≡ 0

-- what was acknowledged before counts neither in the term of a promotion nor after a restart
pub record NoAcksAfter : Type 0 where
  pub promotion : (g : Group) (me : Tablet) (u : ℕ) (p : Position) (s : TabletState) → has_row s.log u ≡ false
      → has_row (after_call g me u (calls.Promote p) s).log u ≡ true → NothingAcked (after_call g me u (calls.Promote p) s)
  pub restart : (s : TabletState) → s.stand ≡ stands.Down → NothingAcked (restarts s).state

-- ---- the lock

-- a lapsed lock is held by nobody
abbrev pub LapsedIsFree : Type 0
LapsedIsFree = (topo : Topology) → (after_lapse topo).holder ≡ None

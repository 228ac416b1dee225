-- What holds of every tablet, over one step and over any number of them. After Sougoumarane's "Consensus algorithms at scale": a
-- promise is kept for good.
use Rattle.std.specs.Prelude.{◌≡◌, ◌≤◌, ◌<◌, ℕ, true, ⊤, List}
use Rattle.shard_base.specs.Lists.{IsFront}
use Rattle.shard_names.specs.declared.alias.Alias.{Alias}
use Rattle.shard_names.specs.declared.tablet.Tablet.{Tablet}
use Rattle.gtid_sets.specs.declared.entry.Entry.{Entry}
use Rattle.shard_calls.specs.declared.call.Call.{Call}
use Rattle.shard_calls.specs.declared.call.Call.TheVariants as call
use Rattle.shard_calls.specs.declared.answer.Answer.{Answer}
use Rattle.shard_calls.specs.declared.answer.Answer.TheVariants as answer
use Rattle.shard_calls.specs.declared.stand.Stand.{Stand}
use Rattle.shard_calls.specs.declared.stand.Stand.TheVariants as stand
use Rattle.shard_calls.specs.declared.group.Group.{Group}
use Rattle.gtid_sets.specs.Logs.{newest_row, has_row, row_or_zero}
use Rattle.shard_calls.specs.Tablets.{TabletState, opened, verdict, only_says, after_call, answer_to, accepts, after_ack, writes, writes_local, after_crash, restarts}
use Rattle.shard_calls.specs.Moves.{TabletMove, TabletMoves}

-- a relation of a tablet to what it is later
abbrev pub Later : Type 1
Later = TabletState → TabletState → Type 0

abbrev pub PromiseNeverFalls : Later → Type 0
PromiseNeverFalls R = (s t : TabletState) → R s t → s.promised ≤ t.promised

abbrev pub SeenNeverFalls : Later → Type 0
SeenNeverFalls R = (s t : TabletState) → R s t → s.seen ≤ t.seen

-- entries are added at the end, and none is taken away or changed
abbrev pub LogOnlyGrows : Later → Type 0
LogOnlyGrows R = (s t : TabletState) → R s t → IsFront s.log t.log

-- ---- what a tablet has promised

-- a primary of t, a replica in t and a feeder in t have promised t, and what was demoted by u has promised u
abbrev pub IsPromised : ℕ → Stand → Type 0
IsPromised promised stand.Down = ⊤
IsPromised promised stand.Stopped = ⊤
IsPromised promised (stand.Primary t) = t ≡ promised
IsPromised promised (stand.Demoted t by) = by ≡ promised
IsPromised promised (stand.Replica source t next) = t ≡ promised
IsPromised promised (stand.Feeder t) = t ≡ promised

-- a primary of t has the row of t
abbrev pub HasItsRow : List Entry → Stand → Type 0
HasItsRow log stand.Down = ⊤
HasItsRow log stand.Stopped = ⊤
HasItsRow log (stand.Primary t) = has_row log t ≡ true
HasItsRow log (stand.Demoted t by) = ⊤
HasItsRow log (stand.Replica source t next) = ⊤
HasItsRow log (stand.Feeder t) = ⊤

-- what was demoted in a term has no row of a later one
abbrev pub RowsWithin : List Entry → Stand → Type 0
RowsWithin log stand.Down = ⊤
RowsWithin log stand.Stopped = ⊤
RowsWithin log (stand.Primary t) = ⊤
RowsWithin log (stand.Demoted t by) = newest_row log ≤ t
RowsWithin log (stand.Replica source t next) = ⊤
RowsWithin log (stand.Feeder t) = ⊤

-- the entry that a replica waits for has an index, which counts from 1
abbrev pub WaitsForEntry : Stand → Type 0
WaitsForEntry stand.Down = ⊤
WaitsForEntry stand.Stopped = ⊤
WaitsForEntry (stand.Primary t) = ⊤
WaitsForEntry (stand.Demoted t by) = ⊤
WaitsForEntry (stand.Replica source t next) = 1 ≤ next
WaitsForEntry (stand.Feeder t) = ⊤

pub record IsSound (s : TabletState) : Type 0 where
  pub seen : s.promised ≤ s.seen
  pub stands : IsPromised s.promised s.stand
  -- the rows' terms are at most the promise
  pub rows : newest_row s.log ≤ s.promised
  pub own_row : HasItsRow s.log s.stand
  pub demoted : RowsWithin s.log s.stand
  pub waits : WaitsForEntry s.stand

abbrev pub KeepsSound : Later → Type 0
KeepsSound R = (s t : TabletState) → R s t → IsSound s → IsSound t

-- what begins opened is sound for ever
abbrev pub AlwaysSound : Type 0
AlwaysSound = (s : TabletState) → TabletMoves opened s → IsSound s

-- ---- the definitions are moves

-- the source of a SetSource stands in a term of at most the call's
abbrev pub FitsTerm : ℕ → Call → Type 0
FitsTerm u call.Status = ⊤
FitsTerm u call.Stop = ⊤
FitsTerm u call.Demote = ⊤
FitsTerm u (call.Promote p) = ⊤
FitsTerm u (call.SetSource source t p) = t ≤ u
FitsTerm u call.Feed = ⊤
FitsTerm u (call.WaitFor p until) = ⊤
FitsTerm u (call.WaitTold until) = ⊤

pub record AreMoves : Type 0 where
  pub a_call : (g : Group) (me : Tablet) (u : ℕ) (c : Call) (s : TabletState) → FitsTerm u c → s.promised ≤ s.seen → TabletMove s (after_call g me u c s)
  pub an_entry : (from : Alias) (term after index : ℕ) (e : Entry) (s : TabletState) → row_or_zero e ≤ term → TabletMove s (accepts from term after index e s).state
  pub an_ack : (from : Alias) (term index : ℕ) (s : TabletState) → TabletMove s (after_ack from term index s)
  pub a_write : (me : Tablet) (client number : ℕ) (s : TabletState) → TabletMove s (writes me client number s).state
  pub a_local_write : (me : Tablet) (s : TabletState) → TabletMove s (writes_local me s).state
  pub a_crash : (s : TabletState) → TabletMove s (after_crash s)
  pub a_restart : (s : TabletState) → TabletMove s (restarts s).state

-- ---- refusals

abbrev pub IsRefusal : Answer → Type 0
IsRefusal (answer.Status seen promised at newest position) = ⊥
IsRefusal (answer.Stopped newest position) = ⊥
IsRefusal (answer.Demoted newest position) = ⊥
IsRefusal (answer.Promoted position) = ⊥
IsRefusal answer.Joined = ⊥
IsRefusal answer.Feeding = ⊥
IsRefusal answer.Holds = ⊥
IsRefusal answer.Told = ⊥
IsRefusal answer.NotTold = ⊤
IsRefusal (answer.Kept at) = ⊤
IsRefusal (answer.StaleTerm seen) = ⊤
IsRefusal (answer.PromisedAhead promised) = ⊤
IsRefusal (answer.NotCaughtUp missing) = ⊤
IsRefusal (answer.Errant extra) = ⊤
IsRefusal (answer.NotStanding newest) = ⊤

-- a refused call changes at most the seen term
abbrev pub RefusalChangesSeenAlone : Type 0
RefusalChangesSeenAlone =
    (g : Group) (me : Tablet) (u : ℕ) (c : Call) (s : TabletState) → IsRefusal (answer_to g me u c s)
    → after_call g me u c s ≡ record s { seen = (after_call g me u c s).seen }

-- a call that asks for something, in a term
abbrev pub IsAsking : Call → Type 0
IsAsking call.Status = ⊥
IsAsking call.Stop = ⊤
IsAsking call.Demote = ⊤
IsAsking (call.Promote p) = ⊤
IsAsking (call.SetSource source t p) = ⊤
IsAsking call.Feed = ⊤
IsAsking (call.WaitFor p until) = ⊤
IsAsking (call.WaitTold until) = ⊤

-- a term below the one seen is refused, and changes nothing
abbrev pub StaleTermIsRefused : Type 0
StaleTermIsRefused =
    (g : Group) (me : Tablet) (u : ℕ) (c : Call) (s : TabletState) → IsAsking c → u < s.seen → verdict g me u c s ≡ only_says s (answer.StaleTerm s.seen)

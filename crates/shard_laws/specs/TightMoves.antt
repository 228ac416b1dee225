-- What a step may do to each tablet, to the post and to the topology, whatever event it is of. After the tablet manager of Vitess (Vitess manual),
-- replication (MySQL 8.0 manual) and the terms of Sougoumarane's "Consensus algorithms at scale".
use Rattle.std.specs.Prelude.{◌≡◌, ◌≤◌, ◌⊎◌, ℕ, ◌+◌, true, false, List, [], ◌∷◌, ◌++◌, ⊤, Option, Some, None}
use Rattle.shard_names.specs.declared.alias.Alias.{Alias}
use Rattle.shard_names.specs.declared.tablet.Tablet.{Tablet}
use Rattle.shard_names.specs.Tablets.{tablet_of}
use Rattle.durability.specs.Rules.{Rules}
use Rattle.gtid_sets.specs.declared.entry.Entry.{Entry}
use Rattle.gtid_sets.specs.declared.entry.Kind.TheVariants as kinds
use Rattle.gtid_sets.specs.Position.{Position, covers}
use Rattle.replication.specs.Acks.{none_acked, raised}
use Rattle.topo_lock.specs.Moves.{TopoMove}
use Rattle.shard_calls.specs.declared.call.Call.{Call}
use Rattle.shard_calls.specs.declared.call.Call.TheVariants as calls
use Rattle.shard_calls.specs.declared.post.Content.{Content}
use Rattle.shard_calls.specs.declared.post.Content.TheVariants as contents
use Rattle.shard_calls.specs.declared.post.Message.{Message}
use Rattle.shard_calls.specs.declared.post.Settled.TheVariants as settleds
use Rattle.shard_calls.specs.declared.answer.Answer.{Answer}
use Rattle.shard_calls.specs.declared.stand.Stand.TheVariants as stands
use Rattle.shard_calls.specs.Stands.{is_down, takes_from}
use Rattle.gtid_sets.specs.Logs.{position_of, holds, has_row, with_own, newest_row, newest_row_names}
use Rattle.shard_calls.specs.Tablets.{TabletState, with_row, after_call, answer_to, accepts}
use Rattle.shard_calls.specs.World.{Config, World, numbered}
use Rattle.shard_calls.specs.Messages.{Indexed, needed, feeds_term}
use Rattle.shard_calls.specs.Grounds.{grounded}
use Rattle.shard_calls.specs.Outcomes.{sendings, settled_in}
use Rattle.shard_calls.specs.declared.state.Act.{Act}

-- message k of the post carries this
pub record IsPosted (post : List Message) (k : ℕ) (content : Content) : Type 0 where
  pub message : Message
  pub at : numbered post k ≡ Some message
  pub carries : message.content ≡ content

-- ---- one tablet

pub data TightMove (tablets : List Tablet) (post : List Message) (a : Alias) : TabletState → TabletState → Type 0 where
  Stays : {s : TabletState} → TightMove tablets post a s s
  -- a later term is seen
  Sees : {s : TabletState} (u : ℕ) → s.seen ≤ u → TightMove tablets post a s (record s { seen = u })
  -- a Stop of a term that it has not promised
  Stops : {s : TabletState} (k c u : ℕ) → IsPosted post k (contents.Asks c u a calls.Stop) → s.seen ≤ u
      → TightMove tablets post a s (record s { seen = u; promised = u; stand = stands.Stopped })
  -- a Demote, at the tablet of the newest row
  Demotes : {s : TabletState} (k c u : ℕ) (me : Tablet) → IsPosted post k (contents.Asks c u a calls.Demote) → tablet_of tablets a ≡ Some me → s.seen ≤ u
      → newest_row_names s.log me.alias ≡ true
      → TightMove tablets post a s (record s { seen = u; promised = u; stand = stands.Demoted (newest_row s.log) u })
  -- a SetSource of a term that it has not left, at a tablet that has nothing beyond the position
  Joins : {s : TabletState} (k c u t : ℕ) (source : Alias) (p : Position) → IsPosted post k (contents.Asks c u a (calls.SetSource source t p)) → s.seen ≤ u
      → s.promised ≤ t → covers p (position_of s.log) ≡ true
      → TightMove tablets post a s (record s { seen = u; promised = t; stand = stands.Replica source t 1 })
  -- a Feed of the term in which it stopped
  Serves : {s : TabletState} (k c u : ℕ) → IsPosted post k (contents.Asks c u a calls.Feed) → s.seen ≤ u → s.promised ≡ u → s.stand ≡ stands.Stopped
      → TightMove tablets post a s (record s { seen = u; stand = stands.Feeder u })
  -- a Promote of u, whose row the log has not, and whose position it covers: the row of u enters
  Enters : {s : TabletState} (k c u : ℕ) (p : Position) (me : Tablet) → IsPosted post k (contents.Asks c u a (calls.Promote p))
      → tablet_of tablets a ≡ Some me → s.seen ≤ u → has_row s.log u ≡ false → covers (position_of s.log) p ≡ true
      → TightMove tablets post a s (with_row me u (record s { seen = u }))
  -- the next entry that its source sent, which it has not
  Takes : {s : TabletState} (k term before index : ℕ) (source : Alias) (e : Entry) → IsPosted post k (contents.Feeds source a term before index e)
      → s.stand ≡ stands.Replica source term before → holds s.log e.gtid ≡ false
      → TightMove tablets post a s (record s { log = s.log ++ e ∷ []; stand = stands.Replica source term (index + 1) })
  -- and one that it has already
  Skips : {s : TabletState} (k term before index : ℕ) (source : Alias) (e : Entry) → IsPosted post k (contents.Feeds source a term before index e)
      → s.stand ≡ stands.Replica source term before → holds s.log e.gtid ≡ true
      → TightMove tablets post a s (record s { stand = stands.Replica source term (index + 1) })
  -- a client's write at the primary
  Writes : {s : TabletState} (me : Tablet) (t client number : ℕ) → tablet_of tablets a ≡ Some me → s.stand ≡ stands.Primary t
      → TightMove tablets post a s (record s { log = with_own me (kinds.Write t client number) s.log })
  -- a write round the primary
  WritesLocal : {s : TabletState} (me : Tablet) → tablet_of tablets a ≡ Some me → is_down s.stand ≡ false
      → TightMove tablets post a s (record s { log = with_own me kinds.Local s.log })
  -- an acknowledgement of its term
  Hears : {s : TabletState} (k term index : ℕ) (source : Alias) → IsPosted post k (contents.Acks source a term index) → s.stand ≡ stands.Primary term
      → TightMove tablets post a s (record s { acked = raised source index s.acked })
  -- a term is promised, and nothing answered: what may stand of a write that breaks off
  Promises : {s : TabletState} (u t : ℕ) → s.seen ≤ u → s.promised ≤ t → t ≤ u
      → TightMove tablets post a s (record s { seen = u; promised = t; stand = stands.Stopped })
  GoesDown : {s : TabletState} → TightMove tablets post a s (record s { stand = stands.Down })
  ComesUp : {s : TabletState} → s.stand ≡ stands.Down → TightMove tablets post a s (record s { stand = stands.Stopped; acked = none_acked })

-- what one step does to a tablet: a move, or a move, a crash and a restart at once
pub data TabletStep (tablets : List Tablet) (post : List Message) (a : Alias) : TabletState → TabletState → Type 0 where
  Plainly : {s t : TabletState} → TightMove tablets post a s t → TabletStep tablets post a s t
  Returning : {s t : TabletState} → TightMove tablets post a s t → TabletStep tablets post a s (record t { stand = stands.Stopped; acked = none_acked })

-- ---- a tablet whose writes may break off

-- a tablet, and what a broken write was to make of it
pub record Site : Type 0 where
  pub state : TabletState
  pub pending : Option TabletState

-- what stands of a broken write: nothing, the seen term, the promised term too, or the entry too
pub data Recovers (s t : TabletState) : TabletState → Type 0 where
  Nothing : Recovers s t s
  Seen : Recovers s t (record s { seen = t.seen })
  Promised : Recovers s t (record s { seen = t.seen; promised = t.promised })
  Whole : Recovers s t (record s { seen = t.seen; promised = t.promised; log = t.log })

pub data SiteMove (tablets : List Tablet) (post : List Message) (a : Alias) : Site → Site → Type 0 where
  Moves : {s t : TabletState} → TightMove tablets post a s t → SiteMove tablets post a (record { state = s; pending = None }) (record { state = t; pending = None })
  -- it goes down in the middle of a write
  Breaks : {s t : TabletState} → is_down s.stand ≡ false → s.promised ≤ t.promised → t.promised ≤ t.seen → TightMove tablets post a s t
      → SiteMove tablets post a (record { state = s; pending = None }) (record { state = record s { stand = stands.Down }; pending = Some t })
  -- it stays down, also where it crashes again
  Waits : {x : Site} → SiteMove tablets post a x x
  -- it comes up with a front of the write
  ComesBack : {s t r : TabletState} → s.stand ≡ stands.Down → Recovers s t r
      → SiteMove tablets post a (record { state = s; pending = Some t }) (record { state = record r { stand = stands.Stopped; acked = none_acked }; pending = None })

-- What a tablet would be if it had not gone down: the same but for its stand, and if a write broke off, a move away from what it was to become.
abbrev pub ShownBy : List Tablet → List Message → Alias → TabletState → Option TabletState → TabletState → Type 0
ShownBy tablets post a s None g = (s ≡ g) ⊎ (s ≡ record g { stand = stands.Down })
ShownBy tablets post a s (Some t) g = (s ≡ record g { stand = stands.Down }) × (g.promised ≤ t.promised) × (t.promised ≤ t.seen) × TightMove tablets post a g t

abbrev pub Shown : List Tablet → List Message → Alias → Site → TabletState → Type 0
Shown tablets post a x g = ShownBy tablets post a x.state x.pending g

-- Each move of a tablet whose writes may break off is one step of what it would be; so what holds of the steps of tablets holds with them.
abbrev pub SitesAreShown : Type 0
SitesAreShown = (tablets : List Tablet) (post later : List Message) (a : Alias) (x y : Site) (g : TabletState)
    → ((n : ℕ) (content : Content) → IsPosted post n content → IsPosted later n content) → SiteMove tablets post a x y → Shown tablets post a x g
    → (h : TabletState) × TabletStep tablets post a g h × Shown tablets later a y h

-- ---- the post

-- What a call needs before it is sent: for a Promote, calls of the term in the post, whose outcomes are its evidence.
abbrev pub CallFits : Rules → Config → World → ℕ → Alias → Call → Type 0
CallFits rules config w u a calls.Status = ⊤
CallFits rules config w u a calls.Stop = ⊤
CallFits rules config w u a calls.Demote = ⊤
CallFits rules config w u a (calls.Promote p) = (acts : List Act) × (grounded rules config.tablets w.topo (sendings w.post acts) u a p ≡ true)
CallFits rules config w u a (calls.SetSource source t p) = t ≤ u
CallFits rules config w u a calls.Feed = ⊤
CallFits rules config w u a (calls.WaitFor p until) = ⊤
CallFits rules config w u a (calls.WaitTold until) = ⊤

-- what a step from one world to the next may send
pub data Sends (rules : Rules) (config : Config) (w v : World) : Content → Type 0 where
  Asks : (c u : ℕ) (a : Alias) (call : Call) → CallFits rules config w u a call → Sends rules config w v (contents.Asks c u a call)
  -- the tablet answers a call that came to it, and is then as the call leaves it
  Answers : (k c u : ℕ) (a : Alias) (call : Call) (me : Tablet) → IsPosted w.post k (contents.Asks c u a call) → tablet_of config.tablets a ≡ Some me
      → v.tablets a ≡ after_call w.group me u call (w.tablets a)
      → Sends rules config w v (contents.Answers c k a (answer_to w.group me u call (w.tablets a)))
  -- a replica acknowledges an entry that it has taken
  Acks : (k term before index : ℕ) (from to : Alias) (e : Entry) → IsPosted w.post k (contents.Feeds from to term before index e)
      → takes_from (w.tablets to).stand from term before ≡ true → v.tablets to ≡ (accepts from term before index e (w.tablets to)).state
      → Sends rules config w v (contents.Acks to from term index)
  -- a source sends the next entry that its replica needs
  Feeds : (r s : Alias) (t n : ℕ) (x : Indexed) → (w.tablets r).stand ≡ stands.Replica s t n → feeds_term (w.tablets s).stand t ≡ true
      → needed (w.tablets s) (w.tablets r) n ≡ Some x → Sends rules config w v (contents.Feeds s r t n x.index x.entry)

-- message n was there, and carried the same
abbrev pub WasPosted : World → ℕ → Content → Type 0
WasPosted w n content = IsPosted w.post n content

pub record PostMove (rules : Rules) (config : Config) (w v : World) : Type 0 where
  pub sent : (n : ℕ) (content : Content) → IsPosted v.post n content → WasPosted w n content ⊎ (numbered w.post n ≡ None) × Sends rules config w v content
  pub stays : (n : ℕ) (content : Content) → IsPosted w.post n content → IsPosted v.post n content
  -- what an answer has settled was so before, or the answer is one to the call
  pub settled : (k n : ℕ) → settled_in (numbered v.post k) ≡ Some (settleds.Answered n)
      → (settled_in (numbered w.post k) ≡ Some (settleds.Answered n)) ⊎ ((c : ℕ) × (a : Alias) × (says : Answer) × IsPosted w.post n (contents.Answers c k a says))

-- ---- a step

pub record WorldMove (rules : Rules) (config : Config) (w v : World) : Type 0 where
  pub tablets : (a : Alias) → TabletStep config.tablets w.post a (w.tablets a) (v.tablets a)
  pub topo : TopoMove w.topo v.topo
  pub post : PostMove rules config w v

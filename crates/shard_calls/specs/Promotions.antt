-- What a history promotes and what it tells, read off the logs. A promotion is a row in the log, as Vitess writes one into its reparent
-- journal (Vitess manual); that one term promotes once, and that what was told is kept, is what Sougoumarane's "Consensus algorithms at
-- scale" asks of a change of leaders.
use Rattle.std.specs.Prelude.{Option, None, ◌≡◌, ◌≤◌, ◌<◌, ℕ, List, [], ◌∷◌, ◌++◌, Some, true, take, length, slice_get, Contains}
use Rattle.shard_names.specs.Tablets.{tablet_of}
use Rattle.shard_names.specs.declared.alias.Alias.{Alias}
use Rattle.shard_names.specs.declared.tablet.Tablet.{Tablet}
use Rattle.gtid_sets.specs.declared.entry.Entry.{Entry}
use Rattle.gtid_sets.specs.declared.entry.Kind.{Kind}
use Rattle.gtid_sets.specs.declared.entry.Kind.TheVariants as kinds
use Rattle.shard_calls.specs.declared.answer.Answer.TheVariants as says
use Rattle.shard_calls.specs.declared.call.Call.TheVariants as calls
use Rattle.shard_calls.specs.declared.ending.CommandAnswer.{CommandAnswer}
use Rattle.shard_calls.specs.declared.ending.CommandAnswer.TheVariants as answers
use Rattle.shard_calls.specs.declared.ending.Rest.TheVariants as lines
use Rattle.shard_calls.specs.declared.event.Event.TheVariants as events
use Rattle.shard_calls.specs.declared.event.Reply.TheVariants as replies
use Rattle.shard_calls.specs.declared.event.Step.{Step}
use Rattle.shard_calls.specs.declared.post.Content.TheVariants as contents
use Rattle.shard_calls.specs.declared.post.Message.{Message}
use Rattle.shard_calls.specs.declared.state.CommandState.{CommandState}
use Rattle.shard_calls.specs.declared.state.Wrote.{Wrote}
use Rattle.gtid_sets.specs.Logs.{place_of_row}
use Rattle.shard_calls.specs.Tablets.{answer_to}
use Rattle.shard_calls.specs.World.{Config, World, opening, numbered}
use Rattle.shard_calls.specs.Evidence.{intends}
use Rattle.shard_calls.specs.Table.{after, world_after}

-- the world after the first so many steps
abbrev pub world_at : Config → List Step → ℕ → World
world_at config steps i = world_after config (opening config) (take i steps)

-- ---- promotions

-- an entry that came new into a log, and what stands before it
pub record IsNewIn (old new : List Entry) (before : List Entry) (e : Entry) : Type 0 where
  pub rest : List Entry
  pub split : new ≡ before ++ e ∷ rest
  pub later : length old ≤ length before

-- a promotion: step i puts the row of the term into the log of the tablet that the row names, behind these entries
pub record IsPromotion (config : Config) (steps : List Step) (i term : ℕ) (a : Alias) (before : List Entry) : Type 0 where
  pub step : Step
  pub here : slice_get steps i ≡ Some step
  pub row : Entry
  pub new : IsNewIn ((world_at config steps i).tablets a).log ((after config (world_at config steps i) step.event).tablets a).log before row
  pub is_row : row.kind ≡ kinds.Row term a

-- each term has at most one promotion
abbrev pub OnePromotion : Config → List Step → Type 0
OnePromotion config steps = (i j term : ℕ) (a b : Alias) (before others : List Entry)
    → IsPromotion config steps i term a before → IsPromotion config steps j term b others → i ≡ j

-- what a term promotes is what it intended before
abbrev pub PromotesIntended : Config → List Step → Type 0
PromotesIntended config steps = (i term : ℕ) (a : Alias) (before : List Entry)
    → IsPromotion config steps i term a before → intends (world_at config steps i).topo term a ≡ true

-- ---- what is told as committed

-- In its term, this step tells the entry as committed: to the command that wrote it, or, of the row of the term, to a reparent that waits for it.
pub data TellsAt (config : Config) (w : World) : Step → Entry → ℕ → Type 0 where
  ToWrite : (c : ℕ) (s : CommandState) (x : Wrote) (e : Entry) → numbered w.commands c ≡ Some s → s.wrote ≡ Some x
      → numbered (w.tablets x.alias).log x.index ≡ Some e → TellsAt config w (record { event = events.Tell c; reply = replies.Told }) e x.term
  ToWait : (k n c t until index : ℕ) (a : Alias) (me : Tablet) (m : Message) (e : Entry) → numbered w.post k ≡ Some m
      → m.content ≡ contents.Asks c t a (calls.WaitTold until) → tablet_of config.tablets a ≡ Some me
      → answer_to w.group me t (calls.WaitTold until) (w.tablets a) ≡ says.Told → place_of_row (w.tablets a).log t ≡ Some index
      → numbered (w.tablets a).log index ≡ Some e → TellsAt config w (record { event = events.Deliver k; reply = replies.Message n }) e t

-- step i tells the entry in the term
pub record IsTold (config : Config) (steps : List Step) (i : ℕ) (e : Entry) (t : ℕ) : Type 0 where
  pub step : Step
  pub here : slice_get steps i ≡ Some step
  pub tells : TellsAt config (world_at config steps i) step e t

-- a promoted tablet holds, before its row, each entry that is ever told in an earlier term
abbrev pub HoldsTold : Config → List Step → Type 0
HoldsTold config steps = (i j term t : ℕ) (a : Alias) (before : List Entry) (e : Entry)
    → IsPromotion config steps i term a before → IsTold config steps j e t → t < term → Contains before e

-- ---- what an answer tells

abbrev pub IsWriteOf : ℕ → Kind → Type 0
IsWriteOf term (kinds.Write t client number) = t ≡ term
IsWriteOf term (kinds.Row t a) = ⊥
IsWriteOf term kinds.Local = ⊥

-- the tablet at which an answer tells an entry as committed; a vtorc that promotes a tablet does nothing else
abbrev pub told_at : CommandAnswer → Option Alias
told_at (answers.Promoted a term left) = Some a
told_at (answers.Committed g a term) = Some a
told_at (answers.Vtorc findings (lines.Promoted a term left ∷ [])) = Some a
told_at _ = None

-- the entry that an answer tells: of a write its transaction, of a reparent the row of its term
abbrev pub IsToldBy : CommandAnswer → Entry → Type 0
IsToldBy (answers.Promoted a term left) e = e.kind ≡ kinds.Row term a
IsToldBy (answers.Committed g a term) e = (e.gtid ≡ g) × IsWriteOf term e.kind
IsToldBy (answers.Vtorc findings (lines.Promoted a term left ∷ [])) e = e.kind ≡ kinds.Row term a
IsToldBy _ e = ⊥

-- step i ends a command with this answer
abbrev pub EndsAt : List Step → ℕ → CommandAnswer → Type 0
EndsAt steps i x = (c : ℕ) × (slice_get steps i ≡ Some (record { event = events.End c x; reply = replies.Ok }))

-- everything that an answer tells is in the log of its tablet, for good
abbrev pub KeepsTold : Config → List Step → Type 0
KeepsTold config steps = (i : ℕ) (x : CommandAnswer) (a : Alias) → EndsAt steps i x → told_at x ≡ Some a
    → (n : ℕ) × (e : Entry) × IsToldBy x e × (slice_get ((world_after config (opening config) steps).tablets a).log n ≡ Some e)

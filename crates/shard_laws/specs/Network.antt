-- What holds of messages in every history, said by their ends, the links that are cut, the tablets that are down and the moments. A tablet that is
-- down or cut off is not reached (Vitess manual, the calls of vtctld to its tablets); messages may be late, lost or repeated (Sougoumarane's "Consensus
-- algorithms at scale"); a replica hears of its source over the network alone (MySQL 8.0 manual, "Replication").
use Rattle.std.specs.Prelude.{◌≡◌, ◌≤◌, ◌<◌, ℕ, suc, ◌+◌, Bool, true, false, List, Option, Some, None, slice_get, take, filter, length, Contains}
use Rattle.std.specs.Str.{bytes_eq}
use Rattle.shard_names.specs.declared.alias.Alias.{Alias}
use Rattle.gtid_sets.specs.declared.entry.Entry.{Entry}
use Rattle.gtid_sets.specs.Position.{Position}
use Rattle.shard_calls.specs.declared.answer.Answer.{Answer}
use Rattle.shard_calls.specs.declared.call.Call.{Call}
use Rattle.shard_calls.specs.declared.call.Call.TheVariants as calls
use Rattle.shard_calls.specs.declared.command.Command.{Command}
use Rattle.shard_calls.specs.declared.command.Command.TheVariants as commands
use Rattle.shard_calls.specs.declared.event.Event.{Event}
use Rattle.shard_calls.specs.declared.event.Event.TheVariants as events
use Rattle.shard_calls.specs.declared.event.Link.{Link}
use Rattle.shard_calls.specs.declared.event.Reply.{Reply}
use Rattle.shard_calls.specs.declared.event.Reply.TheVariants as replies
use Rattle.shard_calls.specs.declared.event.Side.{Side}
use Rattle.shard_calls.specs.declared.event.Side.TheVariants as sides
use Rattle.shard_calls.specs.declared.event.Step.{Step}
use Rattle.shard_calls.specs.declared.post.Content.{Content}
use Rattle.shard_calls.specs.declared.post.Content.TheVariants as contents
use Rattle.shard_calls.specs.declared.post.Message.{Message}
use Rattle.shard_calls.specs.declared.stand.Stand.TheVariants as stands
use Rattle.shard_calls.specs.declared.state.CommandState.{CommandState}
use Rattle.shard_calls.specs.declared.why.Why.{Why}
use Rattle.shard_calls.specs.declared.why.Why.TheVariants as whys
use Rattle.shard_calls.specs.World.{Config, World, numbered}
use Rattle.shard_calls.specs.Promotions.{world_at}
use Rattle.shard_laws.specs.TightMoves.{IsPosted}

-- ---- ends

-- the link between these two is cut; it has no direction
pub data IsCut (cuts : List Link) (x y : Side) : Type 0 where
  There : Contains cuts (record { x = x; y = y }) → IsCut cuts x y
  Back : Contains cuts (record { x = y; y = x }) → IsCut cuts x y

-- no command reaches the tablet
abbrev pub IsCutOff : World → Alias → Type 0
IsCutOff w a = IsCut w.cuts sides.Control (sides.Tablet a)

abbrev pub AreCutApart : World → Alias → Alias → Type 0
AreCutApart w a b = IsCut w.cuts (sides.Tablet a) (sides.Tablet b)

abbrev pub IsDown : World → Alias → Type 0
IsDown w a = (w.tablets a).stand ≡ stands.Down

-- ---- what does not come

-- step i delivers message k, which carries this
pub record Delivers (config : Config) (steps : List Step) (i k : ℕ) (content : Content) : Type 0 where
  pub reply : Reply
  pub here : slice_get steps i ≡ Some (record { event = events.Deliver k; reply = reply })
  pub posted : IsPosted (world_at config steps i).post k content

-- no step delivers this in a world that hinders it
abbrev pub NeverComes : Config → List Step → Content → (World → Type 0) → Type 0
NeverComes config steps content Hinders = (i k : ℕ) → Delivers config steps i k content → Hinders (world_at config steps i) → ⊥

-- over a link that is cut no message passes: neither a call nor its answer between a command and the tablet, neither an entry nor its
-- acknowledgement between two tablets
pub record NothingCrossesACut (config : Config) (steps : List Step) : Type 0 where
  pub call : (c t : ℕ) (a : Alias) (asks : Call) → NeverComes config steps (contents.Asks c t a asks) (λ w. IsCutOff w a)
  pub reply : (c asked : ℕ) (a : Alias) (says : Answer) → NeverComes config steps (contents.Answers c asked a says) (λ w. IsCutOff w a)
  pub entry : (from to : Alias) (t before index : ℕ) (e : Entry) → NeverComes config steps (contents.Feeds from to t before index e) (λ w. AreCutApart w from to)
  pub ack : (from to : Alias) (t index : ℕ) → NeverComes config steps (contents.Acks from to t index) (λ w. AreCutApart w from to)

-- a Cut cuts the link between its ends, and a Mend makes it whole
pub record CutsAreAsSaid (config : Config) (steps : List Step) : Type 0 where
  pub cut : (i : ℕ) (x y : Side) → slice_get steps i ≡ Some (record { event = events.Cut x y; reply = replies.Ok }) → IsCut (world_at config steps (suc i)).cuts x y
  pub mend : (i : ℕ) (x y : Side) → slice_get steps i ≡ Some (record { event = events.Mend x y; reply = replies.Ok })
      → IsCut (world_at config steps (suc i)).cuts x y → ⊥

-- what a Lose loses is lost, and what is lost never comes
pub record NothingLostComes (config : Config) (steps : List Step) : Type 0 where
  pub loses : (i k : ℕ) (m : Message) → slice_get steps i ≡ Some (record { event = events.Lose k; reply = replies.Ok })
      → numbered (world_at config steps (suc i)).post k ≡ Some m → m.lost ≡ true
  pub comes : (i k : ℕ) (content : Content) (d : Delivers config steps i k content) → d.posted.message.lost ≡ true → ⊥

-- A message after an event: it carries what it did, it has come only where the event delivers it, and it is lost only where the event loses it.
pub record Waits (e : Event) (k : ℕ) (old new : Message) : Type 0 where
  pub content : new.content ≡ old.content
  pub sent : new.sent ≡ old.sent
  pub arrived : (e ≡ events.Deliver k → ⊥) → new.arrived ≡ old.arrived
  pub lost : (e ≡ events.Lose k → ⊥) → new.lost ≡ old.lost

-- the message is still there after the event, and waits
abbrev pub StillWaits : Event → ℕ → Message → World → Type 0
StillWaits e k old w = (new : Message) × (numbered w.post k ≡ Some new) × Waits e k old new

-- to a tablet that is down comes neither a call nor an entry nor an acknowledgement; and what does not come waits
pub record WhoIsDownHearsNothing (config : Config) (steps : List Step) : Type 0 where
  pub call : (c t : ℕ) (a : Alias) (asks : Call) → NeverComes config steps (contents.Asks c t a asks) (λ w. IsDown w a)
  pub entry : (from to : Alias) (t before index : ℕ) (e : Entry) → NeverComes config steps (contents.Feeds from to t before index e) (λ w. IsDown w to)
  pub ack : (from to : Alias) (t index : ℕ) → NeverComes config steps (contents.Acks from to t index) (λ w. IsDown w to)
  pub waits : (i k : ℕ) (s : Step) (old : Message) → slice_get steps i ≡ Some s → numbered (world_at config steps i).post k ≡ Some old
      → StillWaits s.event k old (world_at config steps (suc i))

-- ---- giving up

-- what holds of each answer to call k in the post
abbrev pub EachAnswer : List Message → ℕ → (Message → Type 0) → Type 0
EachAnswer post k P = (n c : ℕ) (m : Message) (a : Alias) (says : Answer) → numbered post n ≡ Some m → m.content ≡ contents.Answers c k a says → P m

-- the call is lost, or it came to its tablet and each answer to it is lost
pub data IsLost (post : List Message) (k : ℕ) (asks : Message) : Type 0 where
  Going : asks.lost ≡ true → IsLost post k asks
  Coming : (moment : ℕ) → asks.arrived ≡ Some moment → EachAnswer post k (λ m. m.lost ≡ true) → IsLost post k asks

-- how many milliseconds a command waits for an answer: as its option says, or else 15 seconds
abbrev pub patience : Command → ℕ
patience (commands.Planned shard new_primary avoid expected None allow_cross_cell) = 15000
patience (commands.Planned shard new_primary avoid expected (Some ms) allow_cross_cell) = ms
patience (commands.Emergency shard new_primary ignored expected None prevent_cross_cell) = 15000
patience (commands.Emergency shard new_primary ignored expected (Some ms) prevent_cross_cell) = ms
patience (commands.External a) = 15000
patience commands.Vtorc = 15000
patience (commands.Write to) = 15000
patience (commands.Show a) = 15000
patience (commands.GetShard shard) = 15000
patience (commands.GetTablets shard) = 15000

-- a call that says itself until when it waits
pub data HasOwnLimit : Call → Type 0 where
  ForPosition : (p : Position) (until : ℕ) → HasOwnLimit (calls.WaitFor p until)
  ForRow : (until : ℕ) → HasOwnLimit (calls.WaitTold until)

-- call k, in the post, of a command to a tablet
pub record Asked (w : World) (c k : ℕ) : Type 0 where
  pub message : Message
  pub term : ℕ
  pub tablet : Alias
  pub call : Call
  pub command : CommandState
  pub at : numbered w.post k ≡ Some message
  pub carries : message.content ≡ contents.Asks c term tablet call
  pub given : numbered w.commands c ≡ Some command

-- The first that holds: the tablet is down, it is cut off, the call or each answer to it is lost, the time is over. No two of the four hold together.
abbrev pub IsFirstOf : (w : World) (c k : ℕ) → Asked w c k → Why → Type 0
IsFirstOf w c k asks whys.Down = IsDown w asks.tablet
IsFirstOf w c k asks whys.Cut = (IsDown w asks.tablet → ⊥) × IsCutOff w asks.tablet
IsFirstOf w c k asks whys.Lost = (IsDown w asks.tablet → ⊥) × (IsCutOff w asks.tablet → ⊥) × IsLost w.post k asks.message
IsFirstOf w c k asks (whys.TimedOut since now) = (IsDown w asks.tablet → ⊥) × (IsCutOff w asks.tablet → ⊥) × (IsLost w.post k asks.message → ⊥)
    × (HasOwnLimit asks.call → ⊥) × (since ≡ asks.message.sent) × (now ≡ w.clock) × (asks.message.sent + patience asks.command.command ≤ w.clock)

-- a call that is given up, to which no answer has come
pub record IsGivenUp (w : World) (c k : ℕ) (why : Why) : Type 0 where
  pub asked : Asked w c k
  pub unanswered : EachAnswer w.post k (λ m. m.arrived ≡ None)
  pub first : IsFirstOf w c k asked why

-- who gives up a call names the first reason that holds
abbrev pub GiveUpNamesTheFirst : Config → List Step → Type 0
GiveUpNamesTheFirst config steps = (i c k : ℕ) (why : Why) → slice_get steps i ≡ Some (record { event = events.GiveUp c k; reply = replies.GaveUp why })
    → IsGivenUp (world_at config steps i) c k why

-- ---- writes

-- the actor begins a write
abbrev pub begins_write : List ℕ → Event → Bool
begins_write name (events.Begin actor (commands.Write to)) = bytes_eq actor name
begins_write name _ = false

-- how many writes the actor has begun with these steps
abbrev pub writes_begun : List ℕ → List Step → ℕ
writes_begun name steps = length (filter (λ s. begins_write name s.event) steps)

-- the command has this number among the writes of its actor
abbrev pub HasNumber : World → ℕ → ℕ → Type 0
HasNumber w c n = (s : CommandState) × (numbered w.commands c ≡ Some s) × (s.number ≡ n)

-- The first write that an actor begins has the number 1, the next one 2, and so on; and each keeps its number.
abbrev pub WriteNumbersHaveNoGaps : Config → List Step → Type 0
WriteNumbersHaveNoGaps config steps = (i j c : ℕ) (name : List ℕ) (to : Option Alias)
    → slice_get steps i ≡ Some (record { event = events.Begin name (commands.Write to); reply = replies.Begun c }) → i < j
    → HasNumber (world_at config steps j) c (writes_begun name (take (suc i) steps))

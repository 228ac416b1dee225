-- Turns: what a resumable command does on a floor, once for all courses. What a floor has shown is a list of steps. Commands are those of
-- vtctldclient (Vitess manual).
use Rattle.std.specs.Prelude.{◌<◌, length, get_or, ◌≡◌, ℕ, Bool, true, false, not, ◌&&◌, ◌==◌, is_none, List, [], ◌∷◌, ◌++◌, map, Option, Some, None, Ok, if◌then◌else◌}
use Rattle.std.specs.List.{list_all, list_any}
use Rattle.shard_names.specs.Tablets.{alias_eq}
use Rattle.shard_calls.specs.declared.span.Outcome.{Outcome}
use Rattle.shard_calls.specs.declared.span.Outcome.TheVariants as outcomes
use Rattle.shard_calls.specs.declared.why.Why.{Why}
use Rattle.shard_calls.specs.declared.ending.CommandAnswer.{CommandAnswer}
use Rattle.shard_calls.specs.declared.span.Asked.{Asked}
use Rattle.shard_calls.specs.declared.span.Deed.{Deed}
use Rattle.shard_calls.specs.declared.span.Deed.TheVariants as deeds
use Rattle.courses.specs.declared.want.Want.{Want}
use Rattle.courses.specs.declared.want.Want.TheVariants as wants
use Rattle.turns.specs.declared.turn.Turn.{Turn}
use Rattle.turns.specs.declared.turn.Turn.TheVariants as turns
use Rattle.shard_calls.specs.Kinds.{kind_of}
use Rattle.courses.specs.Walks.{Course, is_ask}
use Rattle.courses.specs.Laws.{News, settle}
use Rattle.shard_calls.specs.Refusals.{or_else}
use Rattle.courses.specs.Course.{demand}
use Rattle.courses.specs.declared.demands.Demand.TheVariants.{Does, Awaits, Leaves}

-- a step of the shard's history, as far as a command is concerned; what a command did, with its reply, is a deed
pub data Shown : Type 0 where
  Made : ℕ → Deed → Shown
  Settled : ℕ → Outcome → Shown
  GaveUp : ℕ → ℕ → Outcome → Shown
  Released : ℕ → Shown
  Ended : ℕ → CommandAnswer → Shown
  Elsewhere : Shown

-- that call k came to this
abbrev pub only : ℕ → Outcome → News
only k o j = if j == k then Some o else None

-- what one step does to the span of command c
abbrev pub span_after : ℕ → List Deed → Shown → List Deed
span_after c span (Made d deed) = if d == c then span ++ deed ∷ [] else span
span_after c span (Settled k o) = map (settle (only k o)) span
span_after c span (GaveUp d k o) = map (settle (only k o)) span
span_after c span (Released d) = span
span_after c span (Ended d e) = span
span_after c span Elsewhere = span

abbrev pub span_from : ℕ → List Deed → List Shown → List Deed
span_from c span [] = span
span_from c span (s ∷ ss) = span_from c (span_after c span s) ss

-- what command c did, and what came of it
abbrev pub span_of : ℕ → List Shown → List Deed
span_of c steps = span_from c [] steps

-- a step of others
abbrev pub is_foreign : ℕ → Shown → Bool
is_foreign c (Made d deed) = not (d == c)
is_foreign c (Settled k o) = true
is_foreign c (GaveUp d k o) = not (d == c)
is_foreign c (Released d) = not (d == c)
is_foreign c (Ended d e) = not (d == c)
is_foreign c Elsewhere = true

-- the deed that comes of this
abbrev pub is_deed_of : Want → Deed → Bool
is_deed_of wants.Take (deeds.Took reply) = true
is_deed_of wants.Read (deeds.Read reply) = true
is_deed_of (wants.Intend a) (deeds.Intended b reply) = alias_eq b a
is_deed_of (wants.Record a) (deeds.Recorded b reply) = alias_eq b a
is_deed_of (wants.Drain a) (deeds.Drained b reply) = alias_eq b a
is_deed_of (wants.Ask a call) (deeds.Asked x) = is_ask a (kind_of call) x && is_none x.outcome
is_deed_of (wants.Write a) (deeds.Wrote b reply) = alias_eq b a
is_deed_of wants.Tell (deeds.Told committed) = true
is_deed_of _ _ = false

-- others' steps, and nothing else
pub record OnlyOthers (c : ℕ) (before now : List Shown) : Type 0 where
  pub others : List Shown
  pub foreign : list_all (is_foreign c) others ≡ true
  pub split : now ≡ before ++ others

-- others' steps, and then this one of command c
pub record OneMore (c : ℕ) (before now : List Shown) (step : Shown) : Type 0 where
  pub others : List Shown
  pub foreign : list_all (is_foreign c) others ≡ true
  pub split : now ≡ before ++ (others ++ step ∷ [])

abbrev pub has_message : ℕ → Deed → Bool
has_message k (deeds.Asked x) = x.message == k
has_message k _ = false

-- a call's number is new
abbrev pub is_fresh : List Deed → Deed → Bool
is_fresh span (deeds.Asked x) = list_all (λ e. not (has_message x.message e)) span
is_fresh span _ = true

-- what was noted of the span may lack what calls came to since
pub record Behind (span full : List Deed) : Type 0 where
  pub news : News
  pub later : full ≡ map (settle news) span

-- what a call came to
abbrev pub outcome_here : Deed → Option Outcome
outcome_here (deeds.Asked x) = x.outcome
outcome_here _ = None

-- what is noted of a call, if it is out
abbrev pub noted_in : Outcome → Deed → Deed
noted_in o (deeds.Asked x) = deeds.Asked (record x { outcome = or_else x.outcome (Some o) })
noted_in o (deeds.Took reply) = deeds.Took reply
noted_in o (deeds.Read reply) = deeds.Read reply
noted_in o (deeds.Intended a reply) = deeds.Intended a reply
noted_in o (deeds.Recorded a reply) = deeds.Recorded a reply
noted_in o (deeds.Drained a reply) = deeds.Drained a reply
noted_in o (deeds.Wrote a reply) = deeds.Wrote a reply
noted_in o (deeds.Told committed) = deeds.Told committed

-- the number of a call that is out
abbrev pub out_by : Asked → Option Outcome → Option ℕ
out_by x None = Some x.message
out_by x (Some o) = None

abbrev pub out_message : Deed → Option ℕ
out_message (deeds.Asked x) = out_by x x.outcome
out_message _ = None

-- the first call that is out; a course has calls of one point out at a time, which it sends in alias order
abbrev pub first_out : List Deed → Option ℕ
first_out [] = None
first_out (d ∷ ds) = or_else (out_message d) (first_out ds)

-- ---- what a floor answers

-- a look at a call of command c finds what it has come to
pub record Looked (c : ℕ) (before now : List Shown) (k : ℕ) (found : Option Outcome) : Type 0 where
  pub only : OnlyOthers c before now
  pub finds : (i : ℕ) (d : Deed) → i < length (span_of c now) → d ≡ get_or (span_of c now) i d → has_message k d ≡ true → outcome_here d ≡ found

-- others' steps, and then this, which is what was wanted, and if it is a call has a new number
pub record DidOne (c : ℕ) (before now : List Shown) (want : Want) (deed : Deed) : Type 0 where
  pub others : List Shown
  pub foreign : list_all (is_foreign c) others ≡ true
  pub split : now ≡ before ++ (others ++ Made c deed ∷ [])
  pub deed_of : is_deed_of want deed ≡ true
  pub fresh : is_fresh (span_of c (before ++ others)) deed ≡ true

-- what was wanted was done, or it is a Tell and nothing can be told yet
pub data DidOrWaits (c : ℕ) (before now : List Shown) (want : Want) : Option Deed → Type 0 where
  Done : (deed : Deed) → DidOne c before now want deed → DidOrWaits c before now want (Some deed)
  NotYet : want ≡ wants.Tell → OnlyOthers c before now → DidOrWaits c before now want None

-- others' steps, and then the call, which is out, is given up
pub record GaveUpOne (c : ℕ) (before now : List Shown) (k : ℕ) (why : Why) : Type 0 where
  pub others : List Shown
  pub foreign : list_all (is_foreign c) others ≡ true
  pub split : now ≡ before ++ (others ++ GaveUp c k (outcomes.GivenUp why) ∷ [])
  pub is_out : (i : ℕ) (d : Deed) → i < length (span_of c (before ++ others)) → d ≡ get_or (span_of c (before ++ others)) i d → has_message k d ≡ true
      → outcome_here d ≡ None

-- a call is given up, or has no cause to be
pub data LookedToGiveUp (c : ℕ) (before now : List Shown) (k : ℕ) : Option Why → Type 0 where
  NoCause : OnlyOthers c before now → LookedToGiveUp c before now k None
  NoMore : (why : Why) → GaveUpOne c before now k why → LookedToGiveUp c before now k (Some why)

-- ---- looks at every call that is out

-- a look at what a deed that is a call has come to, noted in its place
pub data LookedAt (c : ℕ) (before now : List Shown) (p : Deed) : Deed → Type 0 where
  NoCall : out_message p ≡ None → now ≡ before → LookedAt c before now p p
  Still : (k : ℕ) → out_message p ≡ Some k → Looked c before now k None → LookedAt c before now p p
  Came : (k : ℕ) (o : Outcome) → out_message p ≡ Some k → Looked c before now k (Some o) → LookedAt c before now p (noted_in o p)

-- between these two moments the call was looked at, and was out
pub record WasOut (c : ℕ) (before now : List Shown) (k : ℕ) : Type 0 where
  pub start : List Shown
  pub ahead : OnlyOthers c before start
  pub moment : List Shown
  pub look : Looked c start moment k None
  pub later : OnlyOthers c moment now

-- each of the first n deeds that is a call and is out was looked at, and was out
abbrev pub AllLooked : ℕ → List Shown → List Shown → List Deed → ℕ → Type 0
AllLooked c before now span n = (i : ℕ) → i < n → (k : ℕ) (d : Deed) → d ≡ get_or span i d → out_message d ≡ Some k → WasOut c before now k

-- where the looks at the first n deeds have come to
pub record Looks (c : ℕ) (before now : List Shown) (span : List Deed) (n : ℕ) : Type 0 where
  pub only : OnlyOthers c before now
  pub behind : Behind span (span_of c now)
  pub looked : AllLooked c before now span n

-- ---- giving up

-- a try to give up the call of a deed, noted in its place
pub data TriedAt (c : ℕ) (before now : List Shown) (p : Deed) : Deed → Bool → Type 0 where
  Kept : OnlyOthers c before now → TriedAt c before now p p false
  Given : (k : ℕ) (why : Why) → out_message p ≡ Some k → GaveUpOne c before now k why
      → TriedAt c before now p (noted_in (outcomes.GivenUp why) p) true

-- of the calls of this span none is given up, or one
pub data TriedAll (c : ℕ) (before now : List Shown) (span : List Deed) : List Deed → Bool → Type 0 where
  KeptAll : OnlyOthers c before now → TriedAll c before now span span false
  GivenOne : (k : ℕ) (why : Why) (noted : List Deed) → (gave_up : GaveUpOne c before now k why) → Behind span (span_of c (before ++ gave_up.others))
      → list_any (has_message k) span ≡ true → TriedAll c before now span noted true

-- ---- what a turn did

-- the one event of a turn: what the course demands after all steps before it
pub record DidNext (course : Course CommandAnswer) (c : ℕ) (before now : List Shown) : Type 0 where
  pub want : Want
  pub deed : Deed
  pub did : DidOne c before now want deed
  pub demanded : demand course (span_of c (before ++ did.others)) ≡ Does want

-- it took the lock
abbrev pub is_lock : Deed → Bool
is_lock (deeds.Took (Ok t)) = true
is_lock _ = false

abbrev pub is_release : ℕ → Shown → Bool
is_release c (Made d deed) = false
is_release c (Settled k o) = false
is_release c (GaveUp d k o) = false
is_release c (Released d) = d == c
is_release c (Ended d x) = false
is_release c Elsewhere = false

-- command c has made its Release
abbrev pub has_released : ℕ → List Shown → Bool
has_released c steps = list_any (is_release c) steps

-- it took the lock, and has not made its Release
abbrev pub owes : ℕ → List Shown → Bool
owes c steps = not (has_released c steps) && list_any is_lock (span_of c steps)

-- or it ends with this; while a Release is owed it makes that, and then its End
pub record LeftNext (m : Course CommandAnswer) (c : ℕ) (before now : List Shown) (answer : CommandAnswer) (owed : Bool) (step : Shown) : Type 0 where
  pub left : OneMore c before now step
  pub demanded : demand m (span_of c (before ++ left.others)) ≡ Leaves answer
  pub is_owed : owes c (before ++ left.others) ≡ owed

-- or it gives up a call that is out, while the course, as far as the command has seen, waits
pub record GaveUpNext (course : Course CommandAnswer) (c : ℕ) (before now : List Shown) : Type 0 where
  pub message : ℕ
  pub why : Why
  pub gave_up : GaveUpOne c before now message why
  pub span : List Deed
  pub behind : Behind span (span_of c (before ++ gave_up.others))
  pub awaited : demand course span ≡ Awaits
  pub is_awaited : list_any (has_message message) span ≡ true

-- a turn that makes an event
pub data Went (course : Course CommandAnswer) (c : ℕ) (before now : List Shown) : Type 0 where
  Did : DidNext course c before now → Went course c before now
  Abandoned : GaveUpNext course c before now → Went course c before now
  Freed : (x : CommandAnswer) → LeftNext course c before now x true (Released c) → Went course c before now
  Left : (x : CommandAnswer) → LeftNext course c before now x false (Ended c x) → Went course c before now

-- a turn that waits for calls: it has looked at every call that is out, and names the first of them
pub record WaitedFor (course : Course CommandAnswer) (c : ℕ) (before now : List Shown) (message : Option ℕ) : Type 0 where
  pub span : List Deed
  pub looks : Looks c before now span (length span)
  pub awaited : demand course span ≡ Awaits
  pub names : message ≡ first_out span

-- a turn that waits until its entry can be told of
pub record WaitedToTell (course : Course CommandAnswer) (c : ℕ) (before now : List Shown) : Type 0 where
  pub only : OnlyOthers c before now
  pub demanded : demand course (span_of c now) ≡ Does wants.Tell

-- what a turn did: one event that was demanded, or none
pub data Turned (course : Course CommandAnswer) (c : ℕ) (before now : List Shown) : Turn → Type 0 where
  TurnWent : Went course c before now → Turned course c before now turns.Went
  TurnWaits : (k : Option ℕ) → WaitedFor course c before now k → Turned course c before now (turns.Waits k)
  TurnTells : WaitedToTell course c before now → Turned course c before now (turns.Waits None)
  TurnEnded : now ≡ before → Turned course c before now turns.Ended

-- what it did after its looks, which left it with this span
pub data Acted (course : Course CommandAnswer) (c : ℕ) (before now : List Shown) (span : List Deed) : Turn → Type 0 where
  Goes : Went course c before now → Acted course c before now span turns.Went
  Tells : WaitedToTell course c before now → Acted course c before now span (turns.Waits None)
  Stays : OnlyOthers c before now → demand course span ≡ Awaits → Acted course c before now span (turns.Waits (first_out span))

-- Courses. A course walks along what a command has done, point by point, with what each came to: it gives what comes of it, or stops at what is
-- to be done next, at calls that are out, or refused. After vtctldclient (Vitess manual).
use Rattle.std.specs.Prelude.{ℕ, ◌≡◌, Bool, true, false, ◌&&◌, List, [], ◌∷◌, Option, Some, None, is_none, take, length, Result, Ok, Err, if◌then◌else◌}
use Rattle.std.specs.List.{list_any}
use Rattle.std.specs.Borrow.{Bor}
use Rattle.shard_names.specs.declared.alias.Alias.{Alias}
use Rattle.shard_names.specs.Tablets.{alias_eq}
use Rattle.shard_calls.specs.declared.answer.Answer.{Answer}
use Rattle.shard_calls.specs.declared.call.Call.{Call}
use Rattle.shard_calls.specs.declared.span.Kind.{Kind}
use Rattle.shard_calls.specs.declared.span.Outcome.{Outcome}
use Rattle.shard_calls.specs.declared.span.Outcome.TheVariants as outcomes
use Rattle.shard_calls.specs.declared.stand.Standing.{Standing}
use Rattle.shard_calls.specs.declared.refusal.Refusal.{Refusal}
use Rattle.shard_calls.specs.declared.refusal.Refusal.TheVariants as refusals
use Rattle.shard_calls.specs.declared.span.Asked.{Asked}
use Rattle.shard_calls.specs.declared.span.Deed.{Deed}
use Rattle.shard_calls.specs.declared.span.Deed.TheVariants as deeds
use Rattle.courses.specs.declared.want.Exit.{Exit}
use Rattle.courses.specs.declared.want.Exit.TheVariants as exits
use Rattle.shard_calls.specs.declared.event.Seen.{Seen}
use Rattle.courses.specs.declared.want.Want.{Want}
use Rattle.courses.specs.declared.want.Want.TheVariants as wants
use Rattle.shard_calls.specs.declared.span.Transaction.{Transaction}
use Rattle.shard_calls.specs.Kinds.{kind_of, kind_eq}
use Rattle.shard_calls.specs.Refusals.{refusal_after}

-- how far a course has come: what it gives, or where it stops, and the deeds that are left
pub record Walked (A : Type 0) : Type 0 where
  pub came : Result A Exit
  pub rest : List Deed

abbrev pub walked : {A : Type 0} → Result A Exit → List Deed → Walked A
walked came rest = record { came = came; rest = rest }

abbrev pub Course : Type 0 → Type 0
Course A = List Deed → Walked A

-- ---- how points are put together

abbrev pub gives : {A : Type 0} → A → Course A
gives x rest = walked (Ok x) rest

abbrev pub stops : {A : Type 0} → Exit → Course A
stops e rest = walked (Err e) rest

abbrev pub refused : {A : Type 0} → Refusal → Course A
refused r = stops (exits.Refused r)

abbrev pub refusing : Option Refusal → Result (Unit {0}) Exit
refusing None = Ok tt
refusing (Some r) = Err (exits.Refused r)

-- where there is a refusal it is refused
abbrev pub unless : Option Refusal → Course (Unit {0})
unless refusal = walked (refusing refusal)

abbrev pub or_refusing : {A : Type 0} → Result A Refusal → Result A Exit
or_refusing (Ok x) = Ok x
or_refusing (Err r) = Err (exits.Refused r)

abbrev pub unless_refused : {A : Type 0} → Result A Refusal → Course A
unless_refused x = walked (or_refusing x)

abbrev pub goes_on : {A B : Type 0} → Result A Exit → (A → Course B) → Course B
goes_on (Ok x) f rest = f x rest
goes_on (Err e) f rest = stops e rest

infixl 10 ◌>>=◌
-- one after another
abbrev pub ◌>>=◌ : {A B : Type 0} → Course A → (A → Course B) → Course B
◌>>=◌ m f rest = goes_on (m rest).came f (m rest).rest

infixl 10 ◌>>◌
abbrev pub ◌>>◌ : {A B : Type 0} → Course A → Course B → Course B
◌>>◌ m n rest = goes_on (m rest).came (λ x. n) (m rest).rest

-- a refusal is a value like any other
abbrev pub trying : {A : Type 0} → Result A Exit → Result (Result A Refusal) Exit
trying (Ok x) = Ok (Ok x)
trying (Err (exits.Refused r)) = Ok (Err r)
trying (Err (exits.Does want)) = Err (exits.Does want)
trying (Err exits.Waits) = Err exits.Waits
trying (Err exits.Strays) = Err exits.Strays
trying (Err exits.OutOfMemory) = Err exits.OutOfMemory

abbrev pub tried : {A : Type 0} → Course A → Course (Result A Refusal)
tried m rest = walked (trying (m rest).came) (m rest).rest

abbrev pub either : {A B : Type 0} → (A → B) → (Refusal → B) → Result A Refusal → B
either f g (Ok x) = f x
either f g (Err r) = g r

-- ---- points: one event each

-- the next deed; where there is none this is to be done
abbrev pub next : Want → Course Deed
next want [] = stops (exits.Does want) []
next want (deed ∷ rest) = gives deed rest

abbrev pub strays : {A : Type 0} → Result A Exit
strays = Err exits.Strays

abbrev pub refuses : {A : Type 0} → Refusal → Result A Exit
refuses r = Err (exits.Refused r)

abbrev pub took : Deed → Result ℕ Exit
took (deeds.Took (Ok t)) = Ok t
took (deeds.Took (Err held)) = refuses (refusals.LockTaken held.term held.actor)
took _ = strays

abbrev pub takes_lock : Course ℕ
takes_lock = next wants.Take >>= λ deed. walked (took deed)

-- what the topology gave who may have lost the lock
abbrev pub keeping_lock : {A : Type 0} → Result A ℕ → Result A Exit
keeping_lock (Ok x) = Ok x
keeping_lock (Err t) = refuses (refusals.LockLost t)

abbrev pub read : Deed → Result Seen Exit
read (deeds.Read reply) = keeping_lock reply
read _ = strays

abbrev pub reads : Course Seen
reads = next wants.Read >>= λ deed. walked (read deed)

abbrev pub intended : Alias → Deed → Result (Unit {0}) Exit
intended a (deeds.Intended b reply) = if alias_eq b a then keeping_lock reply else strays
intended a _ = strays

abbrev pub intends : Alias → Course (Unit {0})
intends a = next (wants.Intend a) >>= λ deed. walked (intended a deed)

abbrev pub recorded : Alias → Deed → Result (Unit {0}) Exit
recorded a (deeds.Recorded b reply) = if alias_eq b a then keeping_lock reply else strays
recorded a _ = strays

abbrev pub records : Alias → Course (Unit {0})
records a = next (wants.Record a) >>= λ deed. walked (recorded a deed)

abbrev pub drained : Alias → Deed → Result (Unit {0}) Exit
drained a (deeds.Drained b reply) = if alias_eq b a then keeping_lock reply else strays
drained a _ = strays

abbrev pub drains : Alias → Course (Unit {0})
drains a = next (wants.Drain a) >>= λ deed. walked (drained a deed)

abbrev pub wrote : Alias → Deed → Result (Result Transaction Standing) Exit
wrote a (deeds.Wrote b reply) = if alias_eq b a then Ok reply else strays
wrote a _ = strays

abbrev pub writes : Alias → Course (Result Transaction Standing)
writes a = next (wants.Write a) >>= λ deed. walked (wrote a deed)

abbrev pub told : Deed → Result Bool Exit
told (deeds.Told committed) = Ok committed
told _ = strays

abbrev pub tells : Course Bool
tells = next wants.Tell >>= λ deed. walked (told deed)

-- ---- points: calls

abbrev pub is_ask : Alias → Kind → Asked → Bool
is_ask a kind x = alias_eq x.alias a && kind_eq x.kind kind

abbrev pub asked : Alias → Kind → Deed → Result Asked Exit
asked a kind (deeds.Asked x) = if is_ask a kind x then Ok x else strays
asked a kind _ = strays

abbrev pub asks : Alias → Call → Course Asked
asks a call = next (wants.Ask a call) >>= λ deed. walked (asked a (kind_of call) deed)

-- it goes on once the call is settled
abbrev pub settling : Option Outcome → Result Outcome Exit
settling None = Err exits.Waits
settling (Some o) = Ok o

-- a call that may come to anything
abbrev pub calls_once : Alias → Call → Course Outcome
calls_once a call = asks a call >>= λ x. walked (settling x.outcome)

abbrev pub needing : Option Refusal → Outcome → Result Answer Exit
needing (Some r) o = refuses r
needing None (outcomes.Answered answer) = Ok answer
needing None (outcomes.GivenUp why) = strays

-- a call that the command needs
abbrev pub needs : Alias → Call → Course Answer
needs a call = asks a call >>= λ x. walked (settling x.outcome) >>= λ o. walked (needing (refusal_after x o) o)

-- it has called these; or the first of them that it has not
abbrev pub called_all : List Alias → Kind → Course (Option Alias)
called_all [] kind rest = gives None rest
called_all (a ∷ more) kind [] = gives (Some a) []
called_all (a ∷ more) kind (deed ∷ rest) = goes_on (asked a kind deed) (λ x. called_all more kind) rest

abbrev pub calling : Call → Option Alias → Result (Unit {0}) Exit
calling call None = Ok tt
calling call (Some a) = Err (exits.Does (wants.Ask a call))

-- the same call of each of these, one event each
abbrev pub asks_all : List Alias → Call → Course (Unit {0})
asks_all them call = called_all them (kind_of call) >>= λ a. walked (calling call a)

-- what it has done from here on
abbrev pub ahead : Course (List Deed)
ahead rest = gives rest rest

-- a call that is out
abbrev pub is_out : Deed → Bool
is_out (deeds.Asked x) = is_none x.outcome
is_out _ = false

-- it goes on once all are settled
abbrev pub all_settled : List Deed → Result (List Deed) Exit
all_settled done = if list_any is_out done then Err exits.Waits else Ok done

-- the same call of each of these, with what each came to
abbrev pub calls_all : List Alias → Call → Course (List Deed)
calls_all them call = ahead >>= λ done. asks_all them call >> walked (all_settled (take (length them) done))

-- ---- how code keeps to a course

abbrev pub is_out_of_memory : Exit → Bool
is_out_of_memory (exits.Does want) = false
is_out_of_memory exits.Waits = false
is_out_of_memory (exits.Refused refusal) = false
is_out_of_memory exits.Strays = false
is_out_of_memory exits.OutOfMemory = true

abbrev pub is_starved : {A : Type 0} → Result A Exit → Bool
is_starved (Ok x) = false
is_starved (Err e) = is_out_of_memory e

-- unless memory ran out, it is this
abbrev pub UnlessStarved : {A : Type 0} → Result A Exit → Result A Exit → Type 0
UnlessStarved came x = is_starved came ≡ false → came ≡ x

-- unless memory ran out, it came so far, and this is left
abbrev pub Walks : {A : Type 0} → Result A Exit → List Deed → Walked A → Type 0
Walks came rest w = is_starved came ≡ false → walked came rest ≡ w

abbrev pub ok_copied : {A E : Type 0} → Result (Bor A) E → Result A E
ok_copied (Ok x) = Ok x.now
ok_copied (Err e) = Err e

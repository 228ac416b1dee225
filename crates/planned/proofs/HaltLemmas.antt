-- Where courses halt: one that waits has a call out, and one that looks whether its entry counts as committed has written it.
use Rattle.std.proofs.Common.{◌≡◌, ℕ, zero, suc, List, [], ◌∷◌, Bool, true, false, ◌||◌, is_none, take, length, Option, Some, None, Result, Ok, Err, cond, refl, ap, subst, ◌∙◌}
use Rattle.std.proofs.lemmas.Bool.{false≢true}
use Rattle.std.specs.List.{list_any}
use Rattle.std.specs.Prelude.{⊤}
use Rattle.shard_names.specs.declared.alias.Alias.{Alias}
use Rattle.shard_names.specs.Tablets.{alias_eq}
use Rattle.shard_calls.specs.declared.answer.Answer.{Answer}
use Rattle.shard_calls.specs.declared.call.Call.{Call}
use Rattle.shard_calls.specs.declared.refusal.Refusal.{Refusal}
use Rattle.shard_calls.specs.declared.span.Asked.{Asked}
use Rattle.shard_calls.specs.declared.span.Deed.{Deed}
use Rattle.shard_calls.specs.declared.span.Deed.TheVariants as deeds
use Rattle.shard_calls.specs.declared.span.Kind.{Kind}
use Rattle.shard_calls.specs.declared.span.Outcome.{Outcome}
use Rattle.shard_calls.specs.declared.span.Outcome.TheVariants as outcomes
use Rattle.shard_calls.specs.Kinds.{kind_of}
use Rattle.shard_calls.specs.Refusals.{refusal_after}
use Rattle.courses.specs.declared.want.Exit.{Exit}
use Rattle.courses.specs.declared.want.Exit.TheVariants as exits
use Rattle.courses.specs.declared.want.Want.{Want}
use Rattle.courses.specs.declared.want.Want.TheVariants as wants
use Rattle.courses.specs.Walks.{Course, Walked, walked, goes_on, ◌>>=◌, ◌>>◌, gives, unless, refusing, or_refusing, unless_refused, keeping_lock, next, took, read, intended, recorded, drained, takes_lock, reads, intends, records, drains, tried, trying, needs, settling, needing, calls_once, called_all, calling, asks_all, is_out, all_settled, calls_all, is_ask}

-- ---- what is found of a part of a span is found of the span

abbrev pub IsWithin : List Deed → List Deed → Type 0
IsWithin span rest = (p : Deed → Bool) → list_any p rest ≡ true → list_any p span ≡ true

pub first_of_any : (a b : Bool) → a ≡ true → (a || b) ≡ true
first_of_any true b h = refl
first_of_any false b h = absurd (false≢true h)

pub later_of_any : (a b : Bool) → b ≡ true → (a || b) ≡ true
later_of_any true b h = refl
later_of_any false b h = h

pub within_later : (span : List Deed) (d : Deed) (rest : List Deed) → IsWithin span (d ∷ rest) → IsWithin span rest
within_later span d rest within p h = within p (later_of_any (p d) (list_any p rest) h)

any_taken : (n : ℕ) (p : Deed → Bool) (ds : List Deed) → list_any p (take n ds) ≡ true → list_any p ds ≡ true
any_taken zero p ds h = absurd (false≢true h)
any_taken (suc n) p [] h = absurd (false≢true h)
any_taken (suc n) p (d ∷ ds) h = of_first (p d) h (λ k. any_taken n p ds k)
  where
    of_first : (b : Bool) → (b || list_any p (take n ds)) ≡ true → (list_any p (take n ds) ≡ true → list_any p ds ≡ true) → (b || list_any p ds) ≡ true
    of_first true k rest = refl
    of_first false k rest = rest k

-- ---- how a course halts

abbrev pub is_written : Deed → Bool
is_written (deeds.Took reply) = false
is_written (deeds.Read reply) = false
is_written (deeds.Intended a reply) = false
is_written (deeds.Recorded a reply) = false
is_written (deeds.Drained a reply) = false
is_written (deeds.Asked x) = false
is_written (deeds.Wrote a (Ok x)) = true
is_written (deeds.Wrote a (Err stand)) = false
is_written (deeds.Told committed) = false

-- where it is to do this
abbrev pub HaltsTo : List Deed → Want → Type 0
HaltsTo span wants.Take = ⊤
HaltsTo span wants.Read = ⊤
HaltsTo span (wants.Intend a) = ⊤
HaltsTo span (wants.Record a) = ⊤
HaltsTo span (wants.Drain a) = ⊤
HaltsTo span (wants.Ask a call) = ⊤
HaltsTo span (wants.Write a) = ⊤
HaltsTo span wants.Tell = list_any is_written span ≡ true

-- where it is refused, it may go on from there
abbrev pub HaltsAt : List Deed → List Deed → Exit → Type 0
HaltsAt span rest (exits.Does want) = HaltsTo span want
HaltsAt span rest exits.Waits = list_any is_out span ≡ true
HaltsAt span rest (exits.Refused r) = IsWithin span rest
HaltsAt span rest exits.Strays = ⊤
HaltsAt span rest exits.OutOfMemory = ⊤

abbrev pub Comes : {A : Type 0} → List Deed → Result A Exit → List Deed → Type 0
Comes span (Ok x) rest = IsWithin span rest
Comes span (Err e) rest = HaltsAt span rest e

abbrev pub Halts : {A : Type 0} → List Deed → Course A → Type 0
Halts span m = (rest : List Deed) → IsWithin span rest → Comes span (m rest).came (m rest).rest

-- ---- how courses are put together

-- neither to do anything, nor for calls
abbrev pub IsStill : Exit → Type 0
IsStill (exits.Does want) = ⊥
IsStill exits.Waits = ⊥
IsStill (exits.Refused r) = ⊤
IsStill exits.Strays = ⊤
IsStill exits.OutOfMemory = ⊤

abbrev pub IsPlain : {A : Type 0} → Result A Exit → Type 0
IsPlain (Ok x) = ⊤
IsPlain (Err e) = IsStill e

still_halts : (span rest : List Deed) (e : Exit) → IsStill e → IsWithin span rest → HaltsAt span rest e
still_halts span rest (exits.Does want) still within = absurd still
still_halts span rest exits.Waits still within = absurd still
still_halts span rest (exits.Refused r) still within = within
still_halts span rest exits.Strays still within = tt
still_halts span rest exits.OutOfMemory still within = tt

pub plain_halts : {A : Type 0} (span : List Deed) (r : Result A Exit) → IsPlain r → Halts span (walked r)
plain_halts span (Ok x) plain rest within = within
plain_halts span (Err e) plain rest within = still_halts span rest e plain within

bind_at : {A B : Type 0} (span : List Deed) (f : A → Course B) → ((x : A) → Halts span (f x)) → (r : Result A Exit) (rest : List Deed) → Comes span r rest
    → Comes span (goes_on r f rest).came (goes_on r f rest).rest
bind_at span f fs (Ok x) rest comes = fs x rest comes
bind_at span f fs (Err e) rest comes = comes

pub bind_halts : {A B : Type 0} (span : List Deed) (m : Course A) (f : A → Course B) → Halts span m → ((x : A) → Halts span (f x)) → Halts span (m >>= f)
bind_halts span m f ms fs rest within = bind_at span f fs (m rest).came (m rest).rest (ms rest within)

pub then_halts : {A B : Type 0} (span : List Deed) (m : Course A) (n : Course B) → Halts span m → Halts span n → Halts span (m >> n)
then_halts span m n ms ns rest within = bind_at span (λ x. n) (λ x. ns) (m rest).came (m rest).rest (ms rest within)

pub if_halts : {A : Type 0} (span : List Deed) (b : Bool) (m n : Course A) → Halts span m → Halts span n → Halts span (cond b m n)
if_halts span true m n ms ns = ms
if_halts span false m n ms ns = ns

tried_at : {A : Type 0} (span : List Deed) (r : Result A Exit) (rest : List Deed) → Comes span r rest → Comes span (trying r) rest
tried_at span (Ok x) rest comes = comes
tried_at span (Err (exits.Does want)) rest comes = comes
tried_at span (Err exits.Waits) rest comes = comes
tried_at span (Err (exits.Refused r)) rest comes = comes
tried_at span (Err exits.Strays) rest comes = comes
tried_at span (Err exits.OutOfMemory) rest comes = comes

pub tried_halts : {A : Type 0} (span : List Deed) (m : Course A) → Halts span m → Halts span (tried m)
tried_halts span m ms rest within = tried_at span (m rest).came (m rest).rest (ms rest within)

-- ---- results that do not halt it

refusing_plain : (o : Option Refusal) → IsPlain (refusing o)
refusing_plain None = tt
refusing_plain (Some r) = tt

pub unless_halts : (span : List Deed) (o : Option Refusal) → Halts span (unless o)
unless_halts span o = plain_halts span (refusing o) (refusing_plain o)

pub or_plain : {A : Type 0} (r : Result A Refusal) → IsPlain (or_refusing r)
or_plain (Ok x) = tt
or_plain (Err r) = tt

pub unless_refused_halts : {A : Type 0} (span : List Deed) (r : Result A Refusal) → Halts span (unless_refused r)
unless_refused_halts span r = plain_halts span (or_refusing r) (or_plain r)

pub if_plain : {A : Type 0} (b : Bool) (r s : Result A Exit) → IsPlain r → IsPlain s → IsPlain (cond b r s)
if_plain true r s here there = here
if_plain false r s here there = there

kept_plain : {A : Type 0} (r : Result A ℕ) → IsPlain (keeping_lock r)
kept_plain (Ok x) = tt
kept_plain (Err t) = tt

-- ---- points of one event

point_halts : {A : Type 0} (span : List Deed) (want : Want) (by : Deed → Result A Exit) → HaltsTo span want → ((d : Deed) → IsPlain (by d))
    → Halts span (next want >>= λ deed. walked (by deed))
point_halts span want by halts plain [] within = halts
point_halts span want by halts plain (d ∷ rest) within = plain_halts span (by d) (plain d) rest (within_later span d rest within)

took_plain : (d : Deed) → IsPlain (took d)
took_plain (deeds.Took (Ok t)) = tt
took_plain (deeds.Took (Err held)) = tt
took_plain (deeds.Read reply) = tt
took_plain (deeds.Intended a reply) = tt
took_plain (deeds.Recorded a reply) = tt
took_plain (deeds.Drained a reply) = tt
took_plain (deeds.Asked x) = tt
took_plain (deeds.Wrote a reply) = tt
took_plain (deeds.Told committed) = tt

read_plain : (d : Deed) → IsPlain (read d)
read_plain (deeds.Took reply) = tt
read_plain (deeds.Read reply) = kept_plain reply
read_plain (deeds.Intended a reply) = tt
read_plain (deeds.Recorded a reply) = tt
read_plain (deeds.Drained a reply) = tt
read_plain (deeds.Asked x) = tt
read_plain (deeds.Wrote a reply) = tt
read_plain (deeds.Told committed) = tt

intended_plain : (a : Alias) (d : Deed) → IsPlain (intended a d)
intended_plain a (deeds.Took reply) = tt
intended_plain a (deeds.Read reply) = tt
intended_plain a (deeds.Intended b reply) = if_plain (alias_eq b a) (keeping_lock reply) (Err exits.Strays) (kept_plain reply) tt
intended_plain a (deeds.Recorded b reply) = tt
intended_plain a (deeds.Drained b reply) = tt
intended_plain a (deeds.Asked x) = tt
intended_plain a (deeds.Wrote b reply) = tt
intended_plain a (deeds.Told committed) = tt

recorded_plain : (a : Alias) (d : Deed) → IsPlain (recorded a d)
recorded_plain a (deeds.Took reply) = tt
recorded_plain a (deeds.Read reply) = tt
recorded_plain a (deeds.Intended b reply) = tt
recorded_plain a (deeds.Recorded b reply) = if_plain (alias_eq b a) (keeping_lock reply) (Err exits.Strays) (kept_plain reply) tt
recorded_plain a (deeds.Drained b reply) = tt
recorded_plain a (deeds.Asked x) = tt
recorded_plain a (deeds.Wrote b reply) = tt
recorded_plain a (deeds.Told committed) = tt

drained_plain : (a : Alias) (d : Deed) → IsPlain (drained a d)
drained_plain a (deeds.Took reply) = tt
drained_plain a (deeds.Read reply) = tt
drained_plain a (deeds.Intended b reply) = tt
drained_plain a (deeds.Recorded b reply) = tt
drained_plain a (deeds.Drained b reply) = if_plain (alias_eq b a) (keeping_lock reply) (Err exits.Strays) (kept_plain reply) tt
drained_plain a (deeds.Asked x) = tt
drained_plain a (deeds.Wrote b reply) = tt
drained_plain a (deeds.Told committed) = tt

pub takes_halts : (span : List Deed) → Halts span takes_lock
takes_halts span = point_halts span wants.Take took tt took_plain

pub reads_halts : (span : List Deed) → Halts span reads
reads_halts span = point_halts span wants.Read read tt read_plain

pub intends_halts : (span : List Deed) (a : Alias) → Halts span (intends a)
intends_halts span a = point_halts span (wants.Intend a) (intended a) tt (intended_plain a)

pub records_halts : (span : List Deed) (a : Alias) → Halts span (records a)
records_halts span a = point_halts span (wants.Record a) (recorded a) tt (recorded_plain a)

pub drains_halts : (span : List Deed) (a : Alias) → Halts span (drains a)
drains_halts span a = point_halts span (wants.Drain a) (drained a) tt (drained_plain a)

-- ---- calls

needing_plain : (o : Option Refusal) (outcome : Outcome) → IsPlain (needing o outcome)
needing_plain (Some r) outcome = tt
needing_plain None (outcomes.Answered answer) = tt
needing_plain None (outcomes.GivenUp why) = tt

abbrev needed_if : Bool → Asked → Course Answer
needed_if b x = walked (cond b (Ok x) (Err exits.Strays)) >>= λ y. walked (settling y.outcome) >>= λ o. walked (needing (refusal_after y o) o)

needed_halts : (span : List Deed) (b : Bool) (x : Asked) (out : Option Outcome) (rest : List Deed) → x.outcome ≡ out → IsWithin span (deeds.Asked x ∷ rest)
    → Comes span (goes_on (settling out) (λ o. walked (needing (refusal_after x o) o)) rest).came (goes_on (settling out) (λ o. walked (needing (refusal_after x o) o)) rest).rest
needed_halts span b x None rest is within = within is_out (first_of_any (is_none x.outcome) (list_any is_out rest) (ap (λ (o : Option Outcome). is_none o) is))
needed_halts span b x (Some o) rest is within =
    plain_halts span (needing (refusal_after x o) o) (needing_plain (refusal_after x o) o) rest (within_later span (deeds.Asked x) rest within)

needed_at : (span : List Deed) (b : Bool) (x : Asked) (rest : List Deed) → IsWithin span (deeds.Asked x ∷ rest)
    → Comes span (needed_if b x rest).came (needed_if b x rest).rest
needed_at span true x rest within = needed_halts span true x x.outcome rest refl within
needed_at span false x rest within = tt

pub needs_halts : (span : List Deed) (a : Alias) (call : Call) → Halts span (needs a call)
needs_halts span a call [] within = tt
needs_halts span a call (deeds.Took reply ∷ rest) within = tt
needs_halts span a call (deeds.Read reply ∷ rest) within = tt
needs_halts span a call (deeds.Intended b reply ∷ rest) within = tt
needs_halts span a call (deeds.Recorded b reply ∷ rest) within = tt
needs_halts span a call (deeds.Drained b reply ∷ rest) within = tt
needs_halts span a call (deeds.Asked x ∷ rest) within = needed_at span (is_ask a (kind_of call) x) x rest within
needs_halts span a call (deeds.Wrote b reply ∷ rest) within = tt
needs_halts span a call (deeds.Told committed ∷ rest) within = tt

-- a call that may come to anything
abbrev once_if : Bool → Asked → Course Outcome
once_if b x = walked (cond b (Ok x) (Err exits.Strays)) >>= λ y. walked (settling y.outcome)

once_halts : (span : List Deed) (x : Asked) (out : Option Outcome) (rest : List Deed) → x.outcome ≡ out → IsWithin span (deeds.Asked x ∷ rest)
    → Comes span (settling out) rest
once_halts span x None rest is within = within is_out (first_of_any (is_none x.outcome) (list_any is_out rest) (ap (λ (o : Option Outcome). is_none o) is))
once_halts span x (Some o) rest is within = within_later span (deeds.Asked x) rest within

once_at : (span : List Deed) (b : Bool) (x : Asked) (rest : List Deed) → IsWithin span (deeds.Asked x ∷ rest) → Comes span (once_if b x rest).came (once_if b x rest).rest
once_at span true x rest within = once_halts span x x.outcome rest refl within
once_at span false x rest within = tt

pub calls_once_halts : (span : List Deed) (a : Alias) (call : Call) → Halts span (calls_once a call)
calls_once_halts span a call [] within = tt
calls_once_halts span a call (deeds.Took reply ∷ rest) within = tt
calls_once_halts span a call (deeds.Read reply ∷ rest) within = tt
calls_once_halts span a call (deeds.Intended b reply ∷ rest) within = tt
calls_once_halts span a call (deeds.Recorded b reply ∷ rest) within = tt
calls_once_halts span a call (deeds.Drained b reply ∷ rest) within = tt
calls_once_halts span a call (deeds.Asked x ∷ rest) within = once_at span (is_ask a (kind_of call) x) x rest within
calls_once_halts span a call (deeds.Wrote b reply ∷ rest) within = tt
calls_once_halts span a call (deeds.Told committed ∷ rest) within = tt

called_if : (span : List Deed) (b : Bool) (x : Asked) (m : Course (Option Alias)) (rest : List Deed) → IsWithin span rest → Halts span m
    → Comes span (goes_on (cond b (Ok x) (Err exits.Strays)) (λ y. m) rest).came (goes_on (cond b (Ok x) (Err exits.Strays)) (λ y. m) rest).rest
called_if span true x m rest within ms = ms rest within
called_if span false x m rest within ms = tt

called_halts : (span : List Deed) (them : List Alias) (kind : Kind) → Halts span (called_all them kind)
called_halts span [] kind rest within = within
called_halts span (a ∷ more) kind [] within = within
called_halts span (a ∷ more) kind (deeds.Took reply ∷ rest) within = tt
called_halts span (a ∷ more) kind (deeds.Read reply ∷ rest) within = tt
called_halts span (a ∷ more) kind (deeds.Intended b reply ∷ rest) within = tt
called_halts span (a ∷ more) kind (deeds.Recorded b reply ∷ rest) within = tt
called_halts span (a ∷ more) kind (deeds.Drained b reply ∷ rest) within = tt
called_halts span (a ∷ more) kind (deeds.Asked x ∷ rest) within =
    called_if span (is_ask a kind x) x (called_all more kind) rest (within_later span (deeds.Asked x) rest within) (called_halts span more kind)
called_halts span (a ∷ more) kind (deeds.Wrote b reply ∷ rest) within = tt
called_halts span (a ∷ more) kind (deeds.Told committed ∷ rest) within = tt

calling_halts : (span : List Deed) (call : Call) (o : Option Alias) → Halts span (walked (calling call o))
calling_halts span call None rest within = within
calling_halts span call (Some a) rest within = tt

asks_all_halts : (span : List Deed) (them : List Alias) (call : Call) → Halts span (asks_all them call)
asks_all_halts span them call = bind_halts span (called_all them (kind_of call)) (λ a. walked (calling call a)) (called_halts span them (kind_of call)) (λ a. calling_halts span call a)

settled_if : (span : List Deed) (b : Bool) (done rest : List Deed) → list_any is_out done ≡ b → (list_any is_out done ≡ true → list_any is_out span ≡ true)
    → IsWithin span rest → Comes span (cond b (Err exits.Waits) (Ok done)) rest
settled_if span true done rest is out within = out is
settled_if span false done rest is out within = within

settled_halts : (span : List Deed) (n : ℕ) (before : List Deed) → IsWithin span before → Halts span (walked (all_settled (take n before)))
settled_halts span n before had rest within =
    settled_if span (list_any is_out (take n before)) (take n before) rest refl (λ out. had is_out (any_taken n is_out before out)) within

pub calls_all_halts : (span : List Deed) (them : List Alias) (call : Call) → Halts span (calls_all them call)
calls_all_halts span them call rest within =
    then_halts span (asks_all them call) (walked (all_settled (take (length them) rest))) (asks_all_halts span them call)
    (settled_halts span (length them) rest within) rest within

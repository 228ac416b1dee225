-- Courses are sound: point by point, and then by how they are put together. Courses are those of vtctldclient (Vitess manual).
use Rattle.std.proofs.Common.{◌≡◌, refl, sym, ap, subst, ◌∙◌, append_assoc, ℕ, Bool, true, false, ◌&&◌, List, [], ◌∷◌, ◌++◌, take, drop, length, Option, Some, None, Result, Ok, Err, cond}
use Rattle.std.specs.Prelude.{⊤}
use Rattle.std.specs.List.{list_any}
use Rattle.std.proofs.lemmas.List.{take-append-drop}
use Rattle.shard_names.specs.declared.alias.Alias.{Alias}
use Rattle.shard_names.specs.Tablets.{alias_eq}
use Rattle.shard_calls.specs.declared.answer.Answer.{Answer}
use Rattle.shard_calls.specs.declared.call.Call.{Call}
use Rattle.shard_calls.specs.declared.group.Group.{Group}
use Rattle.shard_calls.specs.declared.refusal.Refusal.{Refusal}
use Rattle.shard_calls.specs.declared.refusal.Refusal.TheVariants as refusals
use Rattle.shard_calls.specs.declared.stand.Standing.{Standing}
use Rattle.shard_calls.specs.declared.span.Kind.{Kind}
use Rattle.shard_calls.specs.declared.span.Outcome.{Outcome}
use Rattle.shard_calls.specs.declared.span.Outcome.TheVariants as outcomes
use Rattle.shard_calls.specs.declared.span.Asked.{Asked}
use Rattle.shard_calls.specs.declared.span.Deed.{Deed}
use Rattle.shard_calls.specs.declared.span.Deed.TheVariants as deeds
use Rattle.courses.specs.declared.want.Exit.{Exit}
use Rattle.courses.specs.declared.want.Exit.TheVariants as exits
use Rattle.shard_calls.specs.declared.span.Transaction.{Transaction}
use Rattle.courses.specs.declared.want.Want.{Want}
use Rattle.courses.specs.declared.want.Want.TheVariants as wants
use Rattle.shard_calls.specs.Refusals.{refusal_after, refusal_by_topology}
use Rattle.shard_calls.specs.Kinds.{kind_of}
use Rattle.courses.specs.Walks.{Course, walked, unless, or_refusing, goes_on, ◌>>=◌, ◌>>◌, tried, trying, next, took, read, keeping_lock, intended, recorded, drained, wrote, told, takes_lock, reads, intends, records, drains, writes, tells, is_ask, settling, calls_once, needing, needs, called_all, calling, asks_all, all_settled, is_out, calls_all}
use Rattle.courses.specs.Sound.{IsIn, IsPart, IsEnd, IsTaken, IsRead, IsIntended, IsRecorded, IsDrained, IsWritten, IsSaid, IsSettled, IsRefusedCall, are_calls, AreCalled, IsBarred, CallIsFounded, IsFounded, Comes, IsSound}

-- ---- how courses are put together

pub gives_sound : {A : Type 0} (g : Group) (span : List Deed) (R : Refusal → Type 0) (Q : A → Type 0) (x : A) → Q x → IsSound g span R (walked (Ok x)) Q
gives_sound g span R Q x q rest end = (end, q)

bind_at : {A B : Type 0} (g : Group) (span : List Deed) (R : Refusal → Type 0) (Q : A → Type 0) (S : B → Type 0) (f : A → Course B) (r : Result A Exit) (rest : List Deed)
    → Comes g span R Q r rest → ((x : A) → Q x → IsSound g span R (f x) S) → Comes g span R S (goes_on r f rest).came (goes_on r f rest).rest
bind_at g span R Q S f (Ok x) rest comes more = more x comes.1 rest comes.0
bind_at g span R Q S f (Err (exits.Does want)) rest comes more = comes
bind_at g span R Q S f (Err (exits.Refused r)) rest comes more = comes
bind_at g span R Q S f (Err exits.Waits) rest comes more = comes
bind_at g span R Q S f (Err exits.Strays) rest comes more = comes
bind_at g span R Q S f (Err exits.OutOfMemory) rest comes more = comes

pub bind_sound : {A B : Type 0} (g : Group) (span : List Deed) (R : Refusal → Type 0) (Q : A → Type 0) (S : B → Type 0) (m : Course A) (f : A → Course B)
    → IsSound g span R m Q → ((x : A) → Q x → IsSound g span R (f x) S) → IsSound g span R (m >>= f) S
bind_sound g span R Q S m f ms fs rest end = bind_at g span R Q S f (m rest).came (m rest).rest (ms rest end) fs

pub then_sound : {A B : Type 0} (g : Group) (span : List Deed) (R : Refusal → Type 0) (Q : A → Type 0) (S : B → Type 0) (m : Course A) (n : Course B)
    → IsSound g span R m Q → ((x : A) → Q x → IsSound g span R n S) → IsSound g span R (m >> n) S
then_sound g span R Q S m n ms ns rest end = bind_at g span R Q S (λ x. n) (m rest).came (m rest).rest (ms rest end) ns

pub if_sound : {A : Type 0} (g : Group) (span : List Deed) (R : Refusal → Type 0) (Q : A → Type 0) (b : Bool) (m n : Course A)
    → (b ≡ true → IsSound g span R m Q) → (b ≡ false → IsSound g span R n Q) → IsSound g span R (cond b m n) Q
if_sound g span R Q true m n ms ns = ms refl
if_sound g span R Q false m n ms ns = ns refl

weaker_at : {A : Type 0} (g : Group) (span : List Deed) (R S : Refusal → Type 0) (Q T : A → Type 0) (r : Result A Exit) (rest : List Deed)
    → ((x : Refusal) → R x → S x) → ((x : A) → Q x → T x) → Comes g span R Q r rest → Comes g span S T r rest
weaker_at g span R S Q T (Ok x) rest refused given comes = (comes.0, given x comes.1)
weaker_at g span R S Q T (Err (exits.Does want)) rest refused given comes = comes
weaker_at g span R S Q T (Err (exits.Refused r)) rest refused given comes = (comes.0, refused r comes.1)
weaker_at g span R S Q T (Err exits.Waits) rest refused given comes = comes
weaker_at g span R S Q T (Err exits.Strays) rest refused given comes = comes
weaker_at g span R S Q T (Err exits.OutOfMemory) rest refused given comes = comes

-- what is said may be less
pub weaker_sound : {A : Type 0} (g : Group) (span : List Deed) (R S : Refusal → Type 0) (Q T : A → Type 0) (m : Course A)
    → ((x : Refusal) → R x → S x) → ((x : A) → Q x → T x) → IsSound g span R m Q → IsSound g span S m T
weaker_sound g span R S Q T m refused given ms rest end = weaker_at g span R S Q T (m rest).came (m rest).rest refused given (ms rest end)

-- a fact that holds already
pub with_sound : {A : Type 0} (g : Group) (span : List Deed) (R : Refusal → Type 0) (F : Type 0) (Q : A → Type 0) (m : Course A) → F → IsSound g span R m Q → IsSound g span R m (λ x. F × Q x)
with_sound g span R F Q m f ms = weaker_sound g span R R Q (λ x. F × Q x) m (λ x r. r) (λ x q. (f, q)) ms

-- that what it demands is founded, and nothing else
pub founded_alone : {A : Type 0} (g : Group) (span : List Deed) (R : Refusal → Type 0) (Q : A → Type 0) (m : Course A) → IsSound g span R m Q → IsSound g span (λ r. ⊤) m (λ x. ⊤)
founded_alone g span R Q m ms = weaker_sound g span R (λ r. ⊤) Q (λ x. ⊤) m (λ r cause. tt) (λ x q. tt) ms

pub unless_sound : (g : Group) (span : List Deed) (R : Refusal → Type 0) (refusal : Option Refusal) → ((r : Refusal) → refusal ≡ Some r → R r)
    → IsSound g span R (unless refusal) (λ x. refusal ≡ None)
unless_sound g span R None cause rest end = (end, refl)
unless_sound g span R (Some r) cause rest end = (end, cause r refl)

pub chosen_sound : {A : Type 0} (g : Group) (span : List Deed) (R : Refusal → Type 0) (x : Result A Refusal) → ((r : Refusal) → x ≡ Err r → R r)
    → IsSound g span R (walked (or_refusing x)) (λ y. x ≡ Ok y)
chosen_sound g span R (Ok x) cause rest end = (end, refl)
chosen_sound g span R (Err r) cause rest end = (end, cause r refl)

-- what is known of a value, or of the refusal in its place
abbrev pub IsTried : {A : Type 0} → (Refusal → Type 0) → (A → Type 0) → Result A Refusal → Type 0
IsTried S Q (Ok x) = Q x
IsTried S Q (Err r) = S r

tried_at : {A : Type 0} (g : Group) (span : List Deed) (R S : Refusal → Type 0) (Q : A → Type 0) (r : Result A Exit) (rest : List Deed)
    → Comes g span S Q r rest → Comes g span R (IsTried S Q) (trying r) rest
tried_at g span R S Q (Ok x) rest comes = comes
tried_at g span R S Q (Err (exits.Does want)) rest comes = comes
tried_at g span R S Q (Err (exits.Refused r)) rest comes = comes
tried_at g span R S Q (Err exits.Waits) rest comes = comes
tried_at g span R S Q (Err exits.Strays) rest comes = comes
tried_at g span R S Q (Err exits.OutOfMemory) rest comes = comes

pub tried_sound : {A : Type 0} (g : Group) (span : List Deed) (R S : Refusal → Type 0) (Q : A → Type 0) (m : Course A) → IsSound g span S m Q → IsSound g span R (tried m) (IsTried S Q)
tried_sound g span R S Q m ms rest end = tried_at g span R S Q (m rest).came (m rest).rest (ms rest end)

-- ---- points of one event

-- where the topology refuses, R holds
abbrev pub Bars : List Deed → (Refusal → Type 0) → Type 0
Bars span R = (r : Refusal) → IsBarred span r → R r

one_on : (span : List Deed) (d : Deed) (rest : List Deed) → IsEnd span (d ∷ rest) → IsEnd span rest
one_on span d rest end = record { before = end.before ++ d ∷ []; split = end.split ∙ sym (append_assoc end.before (d ∷ []) rest) }

here : (span : List Deed) (d : Deed) (rest : List Deed) → IsEnd span (d ∷ rest) → IsIn span d
here span d rest end = record { before = end.before; after = rest; split = end.split }

next_sound : (g : Group) (span : List Deed) (R : Refusal → Type 0) (want : Want) → IsFounded g span want → IsSound g span R (next want) (λ d. IsIn span d)
next_sound g span R want founded [] end = founded
next_sound g span R want founded (d ∷ rest) end = (one_on span d rest end, here span d rest end)

took_sound : (g : Group) (span : List Deed) (R : Refusal → Type 0) (d : Deed) → Bars span R → IsIn span d → IsSound g span R (walked (took d)) (λ u. IsTaken span u)
took_sound g span R (deeds.Took (Ok t)) bars is rest end = (end, is)
took_sound g span R (deeds.Took (Err held)) bars is rest end = (end, bars _ (record { deed = deeds.Took (Err held); stands = is; refused = refl }))
took_sound g span R _ bars is rest end = tt

read_sound : (g : Group) (span : List Deed) (R : Refusal → Type 0) (d : Deed) → Bars span R → IsIn span d → IsSound g span R (walked (read d)) (λ seen. IsRead span seen)
read_sound g span R (deeds.Read (Ok seen)) bars is rest end = (end, is)
read_sound g span R (deeds.Read (Err t)) bars is rest end = (end, bars _ (record { deed = deeds.Read (Err t); stands = is; refused = refl }))
read_sound g span R _ bars is rest end = tt

-- what the topology answered to who named this alias
replied_sound : (g : Group) (span : List Deed) (R : Refusal → Type 0) (F : Type 0) (reply : Result (Unit {0}) ℕ) (same : Bool)
    → (reply ≡ Ok tt → same ≡ true → F) → ((t : ℕ) → reply ≡ Err t → R (refusals.LockLost t))
    → IsSound g span R (walked (cond same (keeping_lock reply) (Err exits.Strays))) (λ x. F)
replied_sound g span R F (Ok u) true gives lost rest end = (end, gives refl refl)
replied_sound g span R F (Err t) true gives lost rest end = (end, lost t refl)
replied_sound g span R F (Ok u) false gives lost rest end = tt
replied_sound g span R F (Err t) false gives lost rest end = tt

intended_sound : (g : Group) (span : List Deed) (R : Refusal → Type 0) (a : Alias) (d : Deed) → Bars span R → IsIn span d → IsSound g span R (walked (intended a d)) (λ x. IsIntended span a)
intended_sound g span R a (deeds.Intended b reply) bars is =
    replied_sound g span R (IsIntended span a) reply (alias_eq b a) (λ ok same. record { alias = b; deed = subst (λ r. IsIn span (deeds.Intended b r)) ok is; same = same })
    (λ t lost. bars _ (record { deed = deeds.Intended b reply; stands = is; refused = ap (λ r. refusal_by_topology (deeds.Intended b r)) lost }))
intended_sound g span R a (deeds.Took reply) bars is = λ rest end. tt
intended_sound g span R a (deeds.Read reply) bars is = λ rest end. tt
intended_sound g span R a (deeds.Recorded b reply) bars is = λ rest end. tt
intended_sound g span R a (deeds.Drained b reply) bars is = λ rest end. tt
intended_sound g span R a (deeds.Asked x) bars is = λ rest end. tt
intended_sound g span R a (deeds.Wrote b reply) bars is = λ rest end. tt
intended_sound g span R a (deeds.Told committed) bars is = λ rest end. tt

recorded_sound : (g : Group) (span : List Deed) (R : Refusal → Type 0) (a : Alias) (d : Deed) → Bars span R → IsIn span d → IsSound g span R (walked (recorded a d)) (λ x. IsRecorded span a)
recorded_sound g span R a (deeds.Recorded b reply) bars is =
    replied_sound g span R (IsRecorded span a) reply (alias_eq b a) (λ ok same. record { alias = b; deed = subst (λ r. IsIn span (deeds.Recorded b r)) ok is; same = same })
    (λ t lost. bars _ (record { deed = deeds.Recorded b reply; stands = is; refused = ap (λ r. refusal_by_topology (deeds.Recorded b r)) lost }))
recorded_sound g span R a (deeds.Took reply) bars is = λ rest end. tt
recorded_sound g span R a (deeds.Read reply) bars is = λ rest end. tt
recorded_sound g span R a (deeds.Intended b reply) bars is = λ rest end. tt
recorded_sound g span R a (deeds.Drained b reply) bars is = λ rest end. tt
recorded_sound g span R a (deeds.Asked x) bars is = λ rest end. tt
recorded_sound g span R a (deeds.Wrote b reply) bars is = λ rest end. tt
recorded_sound g span R a (deeds.Told committed) bars is = λ rest end. tt

drained_sound : (g : Group) (span : List Deed) (R : Refusal → Type 0) (a : Alias) (d : Deed) → Bars span R → IsIn span d → IsSound g span R (walked (drained a d)) (λ x. IsDrained span a)
drained_sound g span R a (deeds.Drained b reply) bars is =
    replied_sound g span R (IsDrained span a) reply (alias_eq b a) (λ ok same. record { alias = b; deed = subst (λ r. IsIn span (deeds.Drained b r)) ok is; same = same })
    (λ t lost. bars _ (record { deed = deeds.Drained b reply; stands = is; refused = ap (λ r. refusal_by_topology (deeds.Drained b r)) lost }))
drained_sound g span R a (deeds.Took reply) bars is = λ rest end. tt
drained_sound g span R a (deeds.Read reply) bars is = λ rest end. tt
drained_sound g span R a (deeds.Intended b reply) bars is = λ rest end. tt
drained_sound g span R a (deeds.Recorded b reply) bars is = λ rest end. tt
drained_sound g span R a (deeds.Asked x) bars is = λ rest end. tt
drained_sound g span R a (deeds.Wrote b reply) bars is = λ rest end. tt
drained_sound g span R a (deeds.Told committed) bars is = λ rest end. tt

written_at : (g : Group) (span : List Deed) (R : Refusal → Type 0) (a b : Alias) (reply : Result Transaction Standing) (same : Bool) → alias_eq b a ≡ same → IsIn span (deeds.Wrote b reply)
    → IsSound g span R (walked (cond same (Ok reply) (Err exits.Strays))) (λ x. IsWritten span a x)
written_at g span R a b reply true same is rest end = (end, record { alias = b; deed = is; same = same })
written_at g span R a b reply false same is rest end = tt

wrote_sound : (g : Group) (span : List Deed) (R : Refusal → Type 0) (a : Alias) (d : Deed) → IsIn span d → IsSound g span R (walked (wrote a d)) (λ x. IsWritten span a x)
wrote_sound g span R a (deeds.Wrote b reply) is = written_at g span R a b reply (alias_eq b a) refl is
wrote_sound g span R a (deeds.Took reply) is = λ rest end. tt
wrote_sound g span R a (deeds.Read reply) is = λ rest end. tt
wrote_sound g span R a (deeds.Intended b reply) is = λ rest end. tt
wrote_sound g span R a (deeds.Recorded b reply) is = λ rest end. tt
wrote_sound g span R a (deeds.Drained b reply) is = λ rest end. tt
wrote_sound g span R a (deeds.Asked x) is = λ rest end. tt
wrote_sound g span R a (deeds.Told committed) is = λ rest end. tt

told_sound : (g : Group) (span : List Deed) (R : Refusal → Type 0) (d : Deed) → IsIn span d → IsSound g span R (walked (told d)) (λ committed. IsIn span (deeds.Told committed))
told_sound g span R (deeds.Told committed) is rest end = (end, is)
told_sound g span R _ is rest end = tt

pub takes_sound : (g : Group) (span : List Deed) (R : Refusal → Type 0) → Bars span R → IsSound g span R takes_lock (λ u. IsTaken span u)
takes_sound g span R bars = bind_sound g span R (λ d. IsIn span d) (λ u. IsTaken span u) _ _ (next_sound g span R wants.Take tt) (λ d is. took_sound g span R d bars is)

pub reads_sound : (g : Group) (span : List Deed) (R : Refusal → Type 0) → Bars span R → IsSound g span R reads (λ seen. IsRead span seen)
reads_sound g span R bars = bind_sound g span R (λ d. IsIn span d) (λ seen. IsRead span seen) _ _ (next_sound g span R wants.Read tt) (λ d is. read_sound g span R d bars is)

pub intends_sound : (g : Group) (span : List Deed) (R : Refusal → Type 0) (a : Alias) → Bars span R → IsSound g span R (intends a) (λ x. IsIntended span a)
intends_sound g span R a bars =
    bind_sound g span R (λ d. IsIn span d) (λ x. IsIntended span a) _ _ (next_sound g span R (wants.Intend a) tt) (λ d is. intended_sound g span R a d bars is)

pub records_sound : (g : Group) (span : List Deed) (R : Refusal → Type 0) (a : Alias) → Bars span R → IsSound g span R (records a) (λ x. IsRecorded span a)
records_sound g span R a bars =
    bind_sound g span R (λ d. IsIn span d) (λ x. IsRecorded span a) _ _ (next_sound g span R (wants.Record a) tt) (λ d is. recorded_sound g span R a d bars is)

pub drains_sound : (g : Group) (span : List Deed) (R : Refusal → Type 0) (a : Alias) → Bars span R → IsSound g span R (drains a) (λ x. IsDrained span a)
drains_sound g span R a bars =
    bind_sound g span R (λ d. IsIn span d) (λ x. IsDrained span a) _ _ (next_sound g span R (wants.Drain a) tt) (λ d is. drained_sound g span R a d bars is)

pub writes_sound : (g : Group) (span : List Deed) (R : Refusal → Type 0) (a : Alias) → IsSound g span R (writes a) (λ x. IsWritten span a x)
writes_sound g span R a = bind_sound g span R (λ d. IsIn span d) (λ x. IsWritten span a x) _ _ (next_sound g span R (wants.Write a) tt) (λ d is. wrote_sound g span R a d is)

pub tells_sound : (g : Group) (span : List Deed) (R : Refusal → Type 0) → IsSound g span R tells (λ committed. IsIn span (deeds.Told committed))
tells_sound g span R = bind_sound g span R (λ d. IsIn span d) (λ committed. IsIn span (deeds.Told committed)) _ _ (next_sound g span R wants.Tell tt) (λ d is. told_sound g span R d is)

-- ---- calls

-- where by the table the command is refused for a call, R holds
abbrev pub Refuses : List Deed → (Refusal → Type 0) → Alias → Kind → Type 0
Refuses span R a kind = (r : Refusal) → IsRefusedCall span a kind r → R r

abbrev needed_if : Bool → Asked → Course Answer
needed_if b x rest =
    goes_on (cond b (Ok x) (Err exits.Strays)) (λ y. walked (settling y.outcome) >>= λ o. walked (needing (refusal_after y o) o)) rest

answered_at : (g : Group) (span : List Deed) (R : Refusal → Type 0) (a : Alias) (kind : Kind) (x : Asked) (o : Outcome) (refusal : Option Refusal) → Refuses span R a kind
    → IsIn span (deeds.Asked x) → is_ask a kind x ≡ true → x.outcome ≡ Some o → refusal_after x o ≡ refusal
    → IsSound g span R (walked (needing refusal o)) (λ y. IsSaid span a kind y)
answered_at g span R a kind x o (Some r) refuses is ask came table rest end =
    (end, refuses r (record { call_of = x; deed = is; is_call = ask; outcome = o; came = came; refused = table }))
answered_at g span R a kind x (outcomes.Answered answer) None refuses is ask came table rest end = (end, record { call_of = x; deed = is; is_call = ask; says = came })
answered_at g span R a kind x (outcomes.GivenUp why) None refuses is ask came table rest end = tt

settled_at : (g : Group) (span : List Deed) (R : Refusal → Type 0) (a : Alias) (kind : Kind) (x : Asked) (out : Option Outcome) → Refuses span R a kind
    → x.outcome ≡ out → IsIn span (deeds.Asked x) → is_ask a kind x ≡ true
    → IsSound g span R (walked (settling out) >>= λ o. walked (needing (refusal_after x o) o)) (λ y. IsSaid span a kind y)
settled_at g span R a kind x None refuses came is ask rest end = tt
settled_at g span R a kind x (Some o) refuses came is ask rest end = answered_at g span R a kind x o (refusal_after x o) refuses is ask came refl rest end

needed_at : (g : Group) (span : List Deed) (R : Refusal → Type 0) (a : Alias) (kind : Kind) (b : Bool) (x : Asked) → Refuses span R a kind → IsIn span (deeds.Asked x) → is_ask a kind x ≡ b
    → IsSound g span R (needed_if b x) (λ y. IsSaid span a kind y)
needed_at g span R a kind true x refuses is ask rest end = settled_at g span R a kind x x.outcome refuses refl is ask rest end
needed_at g span R a kind false x refuses is ask rest end = tt

pub needs_sound : (g : Group) (span : List Deed) (R : Refusal → Type 0) (a : Alias) (call : Call) → CallIsFounded g span a call → Refuses span R a (kind_of call)
    → IsSound g span R (needs a call) (λ y. IsSaid span a (kind_of call) y)
needs_sound g span R a call founded refuses [] end = founded
needs_sound g span R a call founded refuses (deeds.Asked x ∷ rest) end =
    needed_at g span R a (kind_of call) (is_ask a (kind_of call) x) x refuses (here span (deeds.Asked x) rest end) refl rest (one_on span (deeds.Asked x) rest end)
needs_sound g span R a call founded refuses (deeds.Took reply ∷ rest) end = tt
needs_sound g span R a call founded refuses (_ ∷ rest) end = tt

-- ---- a call that may come to anything

abbrev once_if : Bool → Asked → Course Outcome
once_if b x rest = goes_on (cond b (Ok x) (Err exits.Strays)) (λ y. walked (settling y.outcome)) rest

came_at : (g : Group) (span : List Deed) (R : Refusal → Type 0) (a : Alias) (kind : Kind) (x : Asked) (out : Option Outcome)
    → x.outcome ≡ out → IsIn span (deeds.Asked x) → is_ask a kind x ≡ true → IsSound g span R (walked (settling out)) (λ o. IsSettled span a kind o)
came_at g span R a kind x None came is ask rest end = tt
came_at g span R a kind x (Some o) came is ask rest end = (end, record { call_of = x; deed = is; is_call = ask; came = came })

once_at : (g : Group) (span : List Deed) (R : Refusal → Type 0) (a : Alias) (kind : Kind) (b : Bool) (x : Asked)
    → IsIn span (deeds.Asked x) → is_ask a kind x ≡ b → IsSound g span R (once_if b x) (λ o. IsSettled span a kind o)
once_at g span R a kind true x is ask rest end = came_at g span R a kind x x.outcome refl is ask rest end
once_at g span R a kind false x is ask rest end = tt

pub calls_once_sound : (g : Group) (span : List Deed) (R : Refusal → Type 0) (a : Alias) (call : Call) → CallIsFounded g span a call
    → IsSound g span R (calls_once a call) (λ o. IsSettled span a (kind_of call) o)
calls_once_sound g span R a call founded [] end = founded
calls_once_sound g span R a call founded (deeds.Asked x ∷ rest) end =
    once_at g span R a (kind_of call) (is_ask a (kind_of call) x) x (here span (deeds.Asked x) rest end) refl rest (one_on span (deeds.Asked x) rest end)
calls_once_sound g span R a call founded (_ ∷ rest) end = tt

-- ---- calls of many

abbrev AllAre : List Alias → Kind → List Deed → Option Alias → Type 0
AllAre them kind rest uncalled = uncalled ≡ None → are_calls them kind (take (length them) rest) ≡ true

called_at : (g : Group) (span : List Deed) (R : Refusal → Type 0) (b : Bool) (x : Asked) (more : List Alias) (kind : Kind) (rest : List Deed)
    → Comes g span R (AllAre more kind rest) (called_all more kind rest).came (called_all more kind rest).rest
    → Comes g span R (λ y. y ≡ None → (b && are_calls more kind (take (length more) rest)) ≡ true)
    (goes_on (cond b (Ok x) (Err exits.Strays)) (λ y. called_all more kind) rest).came (goes_on (cond b (Ok x) (Err exits.Strays)) (λ y. called_all more kind) rest).rest
called_at g span R true x more kind rest comes = comes
called_at g span R false x more kind rest comes = tt

called_sound : (g : Group) (span : List Deed) (R : Refusal → Type 0) (them : List Alias) (kind : Kind) (rest : List Deed) → IsEnd span rest
    → Comes g span R (AllAre them kind rest) (called_all them kind rest).came (called_all them kind rest).rest
called_sound g span R [] kind rest end = (end, λ none. refl)
called_sound g span R (a ∷ more) kind [] end = (end, λ none. absurd (let no_way : Some a ≡ None = none in cc))
called_sound g span R (a ∷ more) kind (deeds.Asked x ∷ rest) end =
    called_at g span R (is_ask a kind x) x more kind rest (called_sound g span R more kind rest (one_on span (deeds.Asked x) rest end))
called_sound g span R (a ∷ more) kind (_ ∷ rest) end = tt

calling_sound : (g : Group) (span : List Deed) (R : Refusal → Type 0) (call : Call) (them : Option Alias) → ((a : Alias) → CallIsFounded g span a call)
    → IsSound g span R (walked (calling call them)) (λ y. them ≡ None)
calling_sound g span R call None founded rest end = (end, refl)
calling_sound g span R call (Some a) founded rest end = founded a

asks_all_at : (g : Group) (span : List Deed) (R : Refusal → Type 0) (them : List Alias) (call : Call) → ((a : Alias) → CallIsFounded g span a call) → (rest : List Deed) → IsEnd span rest
    → Comes g span R (λ y. are_calls them (kind_of call) (take (length them) rest) ≡ true) (asks_all them call rest).came (asks_all them call rest).rest
asks_all_at g span R them call founded rest end =
    bind_at g span R (AllAre them (kind_of call) rest) (λ y. are_calls them (kind_of call) (take (length them) rest) ≡ true) (λ a. walked (calling call a))
    (called_all them (kind_of call) rest).came (called_all them (kind_of call) rest).rest (called_sound g span R them (kind_of call) rest end)
    (λ a are. weaker_sound g span R R (λ y. a ≡ None) _ _ (λ x r. r) (λ y none. are none) (calling_sound g span R call a founded))

part_of_end : (span rest : List Deed) (n : ℕ) → IsEnd span rest → IsPart span (take n rest)
part_of_end span rest n end = record {
  before = end.before;
  after = drop n rest;
  split = end.split ∙ ap (λ ds. end.before ++ ds) (sym (take-append-drop n rest));
}

settled_all : (g : Group) (span : List Deed) (R : Refusal → Type 0) (them : List Alias) (kind : Kind) (done : List Deed) (b : Bool) → list_any is_out done ≡ b → IsPart span done
    → are_calls them kind done ≡ true → IsSound g span R (walked (cond b (Err exits.Waits) (Ok done))) (λ y. AreCalled span them kind y)
settled_all g span R them kind done true out part are rest end = tt
settled_all g span R them kind done false out part are rest end = (end, record { part = part; are = are; settled = out })

pub calls_sound : (g : Group) (span : List Deed) (R : Refusal → Type 0) (them : List Alias) (call : Call) → ((a : Alias) → CallIsFounded g span a call)
    → IsSound g span R (calls_all them call) (λ done. AreCalled span them (kind_of call) done)
calls_sound g span R them call founded rest end =
    bind_at g span R (λ y. are_calls them (kind_of call) (take (length them) rest) ≡ true) (λ done. AreCalled span them (kind_of call) done)
    (λ x. walked (all_settled (take (length them) rest))) (asks_all them call rest).came (asks_all them call rest).rest
    (asks_all_at g span R them call founded rest end)
    (λ x are. settled_all g span R them (kind_of call) (take (length them) rest) (list_any is_out (take (length them) rest)) refl (part_of_end span rest (length them) end) are)

-- Courses are stable: point by point, and then by how they are put together. Courses are those of vtctldclient (Vitess manual).
use Rattle.std.proofs.Common.{◌≡◌, refl, ap, ◌∙◌, ℕ, zero, suc, Bool, true, false, ◌||◌, is_none, List, [], ◌∷◌, map, take, length, Option, Some, None, Result, Ok, Err, cond}
use Rattle.std.specs.List.{list_any}
use Rattle.shard_names.specs.declared.alias.Alias.{Alias}
use Rattle.shard_calls.specs.declared.call.Call.{Call}
use Rattle.shard_calls.specs.declared.span.Kind.{Kind}
use Rattle.shard_calls.specs.declared.span.Outcome.{Outcome}
use Rattle.shard_calls.specs.declared.span.Asked.{Asked}
use Rattle.shard_calls.specs.declared.span.Deed.{Deed}
use Rattle.shard_calls.specs.declared.span.Deed.TheVariants as deeds
use Rattle.courses.specs.declared.want.Exit.{Exit}
use Rattle.courses.specs.declared.want.Exit.TheVariants as exits
use Rattle.courses.specs.declared.want.Want.{Want}
use Rattle.shard_calls.specs.Kinds.{kind_of}
use Rattle.courses.specs.Walks.{Course, Walked, walked, goes_on, ◌>>=◌, ◌>>◌, next, took, read, intended, recorded, drained, wrote, told, takes_lock, reads, intends, records, drains, writes, tells, tried, trying, calls_once, needs, settling, needing, called_all, calling, asks_all, is_out, all_settled, calls_all, is_ask}
use Rattle.shard_calls.specs.Refusals.{refusal_after}
use Rattle.shard_calls.specs.declared.answer.Answer.{Answer}
use Rattle.courses.specs.Laws.{News, settle, settle_asked, is_waiting, IsStable}

-- ---- how courses are put together

pub pure_stable : {A : Type 0} (r : Result A Exit) → IsStable (walked r)
pure_stable r h rest goes = refl

-- how far it comes with call k settled, if it does not wait
abbrev Same : {A : Type 0} → News → Walked A → Result A Exit → List Deed → Type 0
Same h v r rest = is_waiting r ≡ false → v ≡ walked r (map (settle h) rest)

bind_at :
    {A B : Type 0} (f : A → Course B) (fs : (x : A) → IsStable (f x)) (h : News) (r : Result A Exit) (rest : List Deed) (v : Walked A)
    → Same h v r rest → Same h (goes_on v.came f v.rest) (goes_on r f rest).came (goes_on r f rest).rest
bind_at f fs h (Ok x) rest v same goes = ap (λ u. goes_on u.came f u.rest) (same refl) ∙ fs x h rest goes
bind_at f fs h (Err e) rest v same goes = ap (λ u. goes_on u.came f u.rest) (same goes)

pub bind_stable : {A B : Type 0} (m : Course A) (f : A → Course B) → IsStable m → ((x : A) → IsStable (f x)) → IsStable (m >>= f)
bind_stable m f ms fs h rest goes = bind_at f fs h (m rest).came (m rest).rest (m (map (settle h) rest)) (ms h rest) goes

pub then_stable : {A B : Type 0} (m : Course A) (n : Course B) → IsStable m → IsStable n → IsStable (m >> n)
then_stable m n ms ns h rest goes = bind_at (λ x. n) (λ x. ns) h (m rest).came (m rest).rest (m (map (settle h) rest)) (ms h rest) goes

pub if_stable : {A : Type 0} (b : Bool) (m n : Course A) → IsStable m → IsStable n → IsStable (cond b m n)
if_stable true m n ms ns = ms
if_stable false m n ms ns = ns

tried_at :
    {A : Type 0} (h : News) (r : Result A Exit) (rest : List Deed) (v : Walked A)
    → Same h v r rest → Same h (walked (trying v.came) v.rest) (trying r) rest
tried_at h (Ok x) rest v same goes = ap (λ u. walked (trying u.came) u.rest) (same refl)
tried_at h (Err (exits.Does want)) rest v same goes = ap (λ u. walked (trying u.came) u.rest) (same refl)
tried_at h (Err exits.Waits) rest v same goes = ap (λ u. walked (trying u.came) u.rest) (same goes)
tried_at h (Err (exits.Refused r)) rest v same goes = ap (λ u. walked (trying u.came) u.rest) (same refl)
tried_at h (Err exits.Strays) rest v same goes = ap (λ u. walked (trying u.came) u.rest) (same refl)
tried_at h (Err exits.OutOfMemory) rest v same goes = ap (λ u. walked (trying u.came) u.rest) (same refl)

pub tried_stable : {A : Type 0} (m : Course A) → IsStable m → IsStable (tried m)
tried_stable m ms h rest goes = tried_at h (m rest).came (m rest).rest (m (map (settle h) rest)) (ms h rest) goes

-- ---- points of one event

abbrev Reads : {A : Type 0} → (Deed → Result A Exit) → Type 0
Reads by = (h : News) (d : Deed) → by (settle h d) ≡ by d

point_stable : {A : Type 0} (want : Want) (by : Deed → Result A Exit) → Reads by → IsStable (next want >>= λ deed. walked (by deed))
point_stable want by same h [] goes = refl
point_stable want by same h (d ∷ rest) goes = ap (λ r. walked r (map (settle h) rest)) (same h d)

took_same : Reads took
took_same h (deeds.Took reply) = refl
took_same h _ = refl

read_same : Reads read
read_same h (deeds.Read reply) = refl
read_same h _ = refl

intended_same : (a : Alias) → Reads (intended a)
intended_same a h (deeds.Intended b reply) = refl
intended_same a h _ = refl

recorded_same : (a : Alias) → Reads (recorded a)
recorded_same a h (deeds.Recorded b reply) = refl
recorded_same a h _ = refl

pub takes_stable : IsStable takes_lock
takes_stable = point_stable _ took took_same

pub reads_stable : IsStable reads
reads_stable = point_stable _ read read_same

pub intends_stable : (a : Alias) → IsStable (intends a)
intends_stable a = point_stable _ (intended a) (intended_same a)

pub records_stable : (a : Alias) → IsStable (records a)
records_stable a = point_stable _ (recorded a) (recorded_same a)

drained_same : (a : Alias) → Reads (drained a)
drained_same a h (deeds.Drained b reply) = refl
drained_same a h _ = refl

pub drains_stable : (a : Alias) → IsStable (drains a)
drains_stable a = point_stable _ (drained a) (drained_same a)

wrote_same : (a : Alias) → Reads (wrote a)
wrote_same a h (deeds.Wrote b reply) = refl
wrote_same a h _ = refl

told_same : Reads told
told_same h (deeds.Told committed) = refl
told_same h _ = refl

pub writes_stable : (a : Alias) → IsStable (writes a)
writes_stable a = point_stable _ (wrote a) (wrote_same a)

pub tells_stable : IsStable tells
tells_stable = point_stable _ told told_same

-- ---- a call that is needed

abbrev with_outcome : Asked → Option Outcome → Asked
with_outcome x out = record x { outcome = out }

abbrev needed_if : Bool → Asked → List Deed → Walked Answer
needed_if b x rest =
    goes_on (cond b (Ok x) (Err exits.Strays)) (λ y. walked (settling y.outcome) >>= λ o. walked (needing (refusal_after y o) o)) rest

needed_same : (h : News) (b : Bool) (x : Asked) (out : Option Outcome) (rest : List Deed)
    → Same h (needed_if b (settle_asked h (with_outcome x out)) (map (settle h) rest)) (needed_if b (with_outcome x out) rest).came (needed_if b (with_outcome x out) rest).rest
needed_same h false x out rest goes = refl
needed_same h true x None rest goes = absurd (let both : true ≡ false = goes in cc)
needed_same h true x (Some before) rest goes = refl

pub needs_stable : (a : Alias) (call : Call) → IsStable (needs a call)
needs_stable a call h [] goes = refl
needs_stable a call h (deeds.Asked x ∷ rest) goes = needed_same h (is_ask a (kind_of call) x) x x.outcome rest goes
needs_stable a call h (_ ∷ rest) goes = refl

-- ---- a call that may come to anything

abbrev once_if : Bool → Asked → List Deed → Walked Outcome
once_if b x rest = goes_on (cond b (Ok x) (Err exits.Strays)) (λ y. walked (settling y.outcome)) rest

once_same : (h : News) (b : Bool) (x : Asked) (out : Option Outcome) (rest : List Deed)
    → Same h (once_if b (settle_asked h (with_outcome x out)) (map (settle h) rest)) (once_if b (with_outcome x out) rest).came (once_if b (with_outcome x out) rest).rest
once_same h false x out rest goes = refl
once_same h true x None rest goes = absurd (let both : true ≡ false = goes in cc)
once_same h true x (Some before) rest goes = refl

pub calls_once_stable : (a : Alias) (call : Call) → IsStable (calls_once a call)
calls_once_stable a call h [] goes = refl
calls_once_stable a call h (deeds.Asked x ∷ rest) goes = once_same h (is_ask a (kind_of call) x) x x.outcome rest goes
calls_once_stable a call h (_ ∷ rest) goes = refl

-- ---- calls of many

asked_at : (h : News) (b : Bool) (x : Asked) (m : Course (Option Alias)) (rest : List Deed) → IsStable m
    → Same h (goes_on (cond b (Ok (settle_asked h x)) (Err exits.Strays)) (λ y. m) (map (settle h) rest))
    (goes_on (cond b (Ok x) (Err exits.Strays)) (λ y. m) rest).came (goes_on (cond b (Ok x) (Err exits.Strays)) (λ y. m) rest).rest
asked_at h true x m rest ms goes = ms h rest goes
asked_at h false x m rest ms goes = refl

called_stable : (them : List Alias) (kind : Kind) → IsStable (called_all them kind)
called_stable [] kind h rest goes = refl
called_stable (a ∷ more) kind h [] goes = refl
called_stable (a ∷ more) kind h (deeds.Asked x ∷ rest) goes =
    asked_at h (is_ask a kind x) x (called_all more kind) rest (called_stable more kind) goes
called_stable (a ∷ more) kind h (_ ∷ rest) goes = refl

asks_all_stable : (them : List Alias) (call : Call) → IsStable (asks_all them call)
asks_all_stable them call = bind_stable _ _ (called_stable them (kind_of call)) (λ a. pure_stable (calling call a))

asked_same : (h : News) (x : Asked) (out : Option Outcome) → is_none out ≡ false → settle_asked h (with_outcome x out) ≡ with_outcome x out
asked_same h x None settled = absurd (let both : true ≡ false = settled in cc)
asked_same h x (Some before) settled = refl

deed_same : (h : News) (d : Deed) → is_out d ≡ false → settle h d ≡ d
deed_same h (deeds.Asked x) settled = ap (λ y. deeds.Asked y) (asked_same h x x.outcome settled)
deed_same h (deeds.Took reply) settled = refl
deed_same h _ settled = refl

both_false : (a b : Bool) → (a || b) ≡ false → (a ≡ false) × (b ≡ false)
both_false false b none = (refl, none)
both_false true b none = absurd (let both : true ≡ false = none in cc)

deeds_same : (h : News) (n : ℕ) (ds : List Deed) → list_any is_out (take n ds) ≡ false → take n (map (settle h) ds) ≡ take n ds
deeds_same h zero ds settled = refl
deeds_same h (suc n) [] settled = refl
deeds_same h (suc n) (d ∷ ds) settled =
    let both = both_false (is_out d) (list_any is_out (take n ds)) settled in
    ap (λ e. e ∷ take n (map (settle h) ds)) (deed_same h d both.0) ∙ ap (λ es. d ∷ es) (deeds_same h n ds both.1)

settled_at : (h : News) (b : Bool) (ds es : List Deed) → list_any is_out ds ≡ b → (b ≡ false → es ≡ ds)
    → is_waiting (cond b (Err exits.Waits) (Ok ds)) ≡ false → all_settled es ≡ cond b (Err exits.Waits) (Ok ds)
settled_at h true ds es is same goes = absurd (let both : true ≡ false = goes in cc)
settled_at h false ds es is same goes = ap all_settled (same refl) ∙ ap (λ b. cond b (Err exits.Waits) (Ok ds)) is

many_at :
    (h : News) (r : Result (Unit {0}) Exit) (rest : List Deed) (v : Walked (Unit {0})) (before after : Result (List Deed) Exit)
    → Same h v r rest → (is_waiting before ≡ false → after ≡ before)
    → Same h (goes_on v.came (λ x. walked after) v.rest) (goes_on r (λ x. walked before) rest).came (goes_on r (λ x. walked before) rest).rest
many_at h (Ok x) rest v before after same equal goes =
    ap (λ u. goes_on u.came (λ x. walked after) u.rest) (same refl) ∙ ap (λ s. walked s (map (settle h) rest)) (equal goes)
many_at h (Err e) rest v before after same equal goes = ap (λ u. goes_on u.came (λ x. walked after) u.rest) (same goes)

pub calls_stable : (them : List Alias) (call : Call) → IsStable (calls_all them call)
calls_stable them call h rest goes =
    many_at h (asks_all them call rest).came (asks_all them call rest).rest (asks_all them call (map (settle h) rest))
    (all_settled (take (length them) rest)) (all_settled (take (length them) (map (settle h) rest)))
    (asks_all_stable them call h rest)
    (λ waits. settled_at h (list_any is_out (take (length them) rest)) (take (length them) rest) (take (length them) (map (settle h) rest)) refl (λ none. deeds_same h (length them) rest none) waits)
    goes

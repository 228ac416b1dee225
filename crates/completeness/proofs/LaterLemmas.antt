-- What is decided stays: along what a command did, with what its calls have come to later, the course of an emergency that leaves leaves still.
use Rattle.std.proofs.Common.{◌≡◌, ◌⊎◌, inl, inr, refl, ap, sym, subst, ◌∙◌, ℕ, zero, suc, Bool, true, false, ◌&&◌, ◌||◌, is_none, List, [], ◌∷◌, ◌++◌, take, length, Option, Some, None, Result, Ok, Err, cond}
use Rattle.std.specs.Prelude.{⊤}
use Rattle.std.specs.List.{list_any}
use Rattle.std.proofs.lemmas.Bool.{false≢true}
use Rattle.shard_names.specs.declared.alias.Alias.{Alias}
use Rattle.shard_names.specs.declared.tablet.Tablet.{Tablet}
use Rattle.shard_names.specs.Tablets.{alias_eq}
use Rattle.gtid_sets.specs.declared.held.Held.{Held}
use Rattle.shard_calls.specs.declared.answer.Answer.{Answer}
use Rattle.shard_calls.specs.declared.answer.Answer.TheVariants as says
use Rattle.shard_calls.specs.declared.call.Call.{Call}
use Rattle.shard_calls.specs.declared.ending.CommandAnswer.{CommandAnswer}
use Rattle.shard_calls.specs.declared.group.Group.{Group}
use Rattle.shard_calls.specs.declared.refusal.Refusal.{Refusal}
use Rattle.shard_calls.specs.declared.span.Asked.{Asked}
use Rattle.shard_calls.specs.declared.span.Deed.{Deed}
use Rattle.shard_calls.specs.declared.span.Deed.TheVariants as deeds
use Rattle.shard_calls.specs.declared.span.Kind.{Kind}
use Rattle.shard_calls.specs.declared.span.Outcome.{Outcome}
use Rattle.shard_calls.specs.declared.span.Outcome.TheVariants as outcomes
use Rattle.shard_calls.specs.Kinds.{kind_of, kind_eq}
use Rattle.shard_calls.specs.Refusals.{or_else, is_of_promotion, refusal_after, refusal_to}
use Rattle.shard_calls.specs.Rescuing.{first_by, helds, held_in, held_by, stale_in, refusal_by_stale, refusal_by_unrevoked, winner_or}
use Rattle.courses.specs.declared.want.Exit.{Exit}
use Rattle.courses.specs.declared.want.Exit.TheVariants as exits
use Rattle.courses.specs.declared.want.Want.{Want}
use Rattle.courses.specs.declared.want.Want.TheVariants as wants
use Rattle.courses.specs.Walks.{Course, Walked, walked, gives, goes_on, ◌>>=◌, ◌>>◌, next, took, read, intended, recorded, takes_lock, reads, intends, records, asks, asked, is_ask, needs, settling, needing, refusing, or_refusing, called_all, calling, asks_all, ahead, is_out, all_settled, calls_all}

-- ---- later

-- a call of which more may be known
pub record LaterAsked (x y : Asked) : Type 0 where
  pub alias : y.alias ≡ x.alias
  pub kind : y.kind ≡ x.kind
  pub message : y.message ≡ x.message
  pub outcome : (x.outcome ≡ None) ⊎ (y.outcome ≡ x.outcome)

pub data LaterDeed : Deed → Deed → Type 0 where
  Itself : (d : Deed) → LaterDeed d d
  Comes : (x y : Asked) → LaterAsked x y → LaterDeed (deeds.Asked x) (deeds.Asked y)

pub data Later : List Deed → List Deed → Type 0 where
  Nothing : Later [] []
  More : (d e : Deed) (ds es : List Deed) → LaterDeed d e → Later ds es → Later (d ∷ ds) (e ∷ es)

-- ---- what stays of how far a course comes

abbrev pub is_left_exit : Exit → Bool
is_left_exit (exits.Does want) = false
is_left_exit exits.Waits = false
is_left_exit (exits.Refused r) = true
is_left_exit exits.Strays = true
is_left_exit exits.OutOfMemory = true

abbrev pub is_left : {A : Type 0} → Result A Exit → Bool
is_left (Ok x) = false
is_left (Err e) = is_left_exit e

pub record GivesSo (A : Type 0) (R : A → A → Type 0) (x : A) (rest : List Deed) (w : Walked A) : Type 0 where
  pub value : A
  pub came : w.came ≡ Ok value
  pub related : R x value
  pub later : Later rest w.rest

abbrev pub Kept : {A : Type 0} → (A → A → Type 0) → Result A Exit → List Deed → Walked A → Type 0
Kept R (Ok x) rest w = GivesSo _ R x rest w
Kept R (Err e) rest w = is_left_exit e ≡ true → is_left w.came ≡ true

abbrev pub Stays : {A : Type 0} → (A → A → Type 0) → Course A → Course A → Type 0
Stays R m n = (rest now : List Deed) → Later rest now → Kept R (m rest).came (m rest).rest (n now)

abbrev pub Same : {A : Type 0} → A → A → Type 0
Same x y = x ≡ y

pub left_goes : {A B : Type 0} (r : Result A Exit) (f : A → Course B) (rest : List Deed) → is_left r ≡ true → is_left (goes_on r f rest).came ≡ true
left_goes (Ok x) f rest left = absurd (false≢true left)
left_goes (Err e) f rest left = left

pub bind_at : {A B : Type 0} (R : A → A → Type 0) (S : B → B → Type 0) (f g : A → Course B) (r : Result A Exit) (rest : List Deed) (w : Walked A)
    → Kept R r rest w → ((x y : A) → R x y → Stays S (f x) (g y)) → Kept S (goes_on r f rest).came (goes_on r f rest).rest (goes_on w.came g w.rest)
bind_at R S f g (Ok x) rest w kept fs =
    subst (λ v. Kept S (f x rest).came (f x rest).rest (goes_on v g w.rest)) (sym kept.came) (fs x kept.value kept.related rest w.rest kept.later)
bind_at R S f g (Err e) rest w kept fs = λ left. left_goes w.came g w.rest (kept left)

pub bind_stays : {A B : Type 0} (R : A → A → Type 0) (S : B → B → Type 0) (m n : Course A) (f g : A → Course B)
    → Stays R m n → ((x y : A) → R x y → Stays S (f x) (g y)) → Stays S (m >>= f) (n >>= g)
bind_stays R S m n f g ms fs rest now later = bind_at R S f g (m rest).came (m rest).rest (n now) (ms rest now later) fs

pub then_stays : {A B : Type 0} (R : A → A → Type 0) (S : B → B → Type 0) (m n : Course A) (p q : Course B) → Stays R m n → Stays S p q → Stays S (m >> p) (n >> q)
then_stays R S m n p q ms ps rest now later = bind_at R S (λ x. p) (λ x. q) (m rest).came (m rest).rest (n now) (ms rest now later) (λ x y same. ps)

-- what follows a value that is the same
pub on_same : {A B : Type 0} (S : B → B → Type 0) (f : A → Course B) → ((x : A) → Stays S (f x) (f x)) → (x y : A) → x ≡ y → Stays S (f x) (f y)
on_same S f fs x y same = subst (λ z. Stays S (f x) (f z)) same (fs x)

pub pure_stays : {A : Type 0} (R : A → A → Type 0) (r q : Result A Exit) → ((rest now : List Deed) → Later rest now → Kept R r rest (walked q now)) → Stays R (walked r) (walked q)
pure_stays R r q h rest now later = h rest now later

-- the same value, or the same exit
pub same_stays : {A : Type 0} (r : Result A Exit) → Stays Same (walked r) (walked r)
same_stays (Ok x) rest now later = record { value = x; came = refl; related = refl; later = later }
same_stays (Err e) rest now later = λ left. left

pub equal_stays : {A : Type 0} (r q : Result A Exit) → q ≡ r → Stays Same (walked r) (walked q)
equal_stays r q same = subst (λ v. Stays Same (walked r) (walked v)) (sym same) (same_stays r)

pub gives_stays : (x y : CommandAnswer) → Stays (λ a b. ⊤) (gives x) (gives y)
gives_stays x y rest now later = record { value = y; came = refl; related = tt; later = later }

-- ---- points of one event

pub next_stays : (want : Want) → Stays LaterDeed (next want) (next want)
next_stays want _ _ Nothing = λ left. left
next_stays want _ _ (More d e ds es one rest) = record { value = e; came = refl; related = one; later = rest }

pub same_by : {A : Type 0} (by : Deed → Result A Exit) → ((x y : Asked) → by (deeds.Asked y) ≡ by (deeds.Asked x)) → (d e : Deed) → LaterDeed d e → by e ≡ by d
same_by by strays _ _ (Itself d) = refl
same_by by strays _ _ (Comes x y later) = strays x y

pub point_stays : {A : Type 0} (want : Want) (by : Deed → Result A Exit) → ((x y : Asked) → by (deeds.Asked y) ≡ by (deeds.Asked x))
    → Stays Same (next want >>= λ d. walked (by d)) (next want >>= λ d. walked (by d))
point_stays want by strays =
    bind_stays LaterDeed Same (next want) (next want) (λ d. walked (by d)) (λ d. walked (by d)) (next_stays want) (λ d e one. equal_stays (by d) (by e) (same_by by strays d e one))

pub takes_stays : Stays Same takes_lock takes_lock
takes_stays = point_stays wants.Take took (λ x y. refl)

pub reads_stays : Stays Same reads reads
reads_stays = point_stays wants.Read read (λ x y. refl)

pub intends_stays : (a : Alias) → Stays Same (intends a) (intends a)
intends_stays a = point_stays (wants.Intend a) (intended a) (λ x y. refl)

pub records_stays : (a : Alias) → Stays Same (records a) (records a)
records_stays a = point_stays (wants.Record a) (recorded a) (λ x y. refl)

-- ---- a call that is needed

pub later_ask : (a : Alias) (kind : Kind) (x y : Asked) → LaterAsked x y → is_ask a kind y ≡ is_ask a kind x
later_ask a kind x y l = ap (λ (b : Alias). alias_eq b a && kind_eq y.kind kind) l.alias ∙ ap (λ (k : Kind). alias_eq x.alias a && kind_eq k kind) l.kind

pub itself : (x : Asked) → LaterAsked x x
itself x = record { alias = refl; kind = refl; message = refl; outcome = inr refl }

pub ask_if : (b c : Bool) (x y : Asked) → c ≡ b → LaterAsked x y → Stays LaterAsked (walked (cond b (Ok x) (Err exits.Strays))) (walked (cond c (Ok y) (Err exits.Strays)))
ask_if true true x y same l = λ rest now later. record { value = y; came = refl; related = l; later = later }
ask_if false false x y same l = λ rest now later left. left
ask_if true false x y same l = absurd (false≢true same)
ask_if false true x y same l = absurd (false≢true (sym same))

pub other_asked : (a : Alias) (kind : Kind) (d : Deed) → Stays LaterAsked (walked (asked a kind d)) (walked (asked a kind d))
other_asked a kind (deeds.Asked x) = ask_if (is_ask a kind x) (is_ask a kind x) x x refl (itself x)
other_asked a kind (deeds.Took reply) = λ rest now later left. left
other_asked a kind (deeds.Read reply) = λ rest now later left. left
other_asked a kind (deeds.Intended b reply) = λ rest now later left. left
other_asked a kind (deeds.Recorded b reply) = λ rest now later left. left
other_asked a kind (deeds.Drained b reply) = λ rest now later left. left
other_asked a kind (deeds.Wrote b reply) = λ rest now later left. left
other_asked a kind (deeds.Told committed) = λ rest now later left. left

pub asked_stays : (a : Alias) (kind : Kind) (d e : Deed) → LaterDeed d e → Stays LaterAsked (walked (asked a kind d)) (walked (asked a kind e))
asked_stays a kind _ _ (Itself d) = other_asked a kind d
asked_stays a kind _ _ (Comes x y l) = ask_if (is_ask a kind x) (is_ask a kind y) x y (later_ask a kind x y l) l

pub asks_stays : (a : Alias) (call : Call) → Stays LaterAsked (asks a call) (asks a call)
asks_stays a call =
    bind_stays LaterDeed LaterAsked (next (wants.Ask a call)) (next (wants.Ask a call)) (λ d. walked (asked a (kind_of call) d)) (λ d. walked (asked a (kind_of call) d))
    (next_stays (wants.Ask a call)) (λ d e one. asked_stays a (kind_of call) d e one)

pub settling_stays : (o p : Option Outcome) → (o ≡ None) ⊎ (p ≡ o) → Stays Same (walked (settling o)) (walked (settling p))
settling_stays None p l = λ rest now later left. absurd (false≢true left)
settling_stays (Some x) p (inl none) = absurd (let wrong : Some x ≡ None = none in cc)
settling_stays (Some x) p (inr same) = equal_stays (Ok x) (settling p) (ap (λ (o : Option Outcome). settling o) same)

pub if_kept : (b c : Bool) (r q : Refusal) (answer : Answer) (o : Outcome) → c ≡ b
    → Stays Same (walked (needing (cond b (Some r) None) o)) (walked (needing (cond c (Some q) None) o))
if_kept true true r q answer o same = λ rest now later left. refl
if_kept false false r q answer o same = same_stays (needing None o)
if_kept true false r q answer o same = absurd (false≢true same)
if_kept false true r q answer o same = absurd (false≢true (sym same))

pub goes_with : (answer : Answer) → Stays Same (walked (Ok answer)) (walked (Ok answer))
goes_with answer = same_stays (Ok answer)

pub needing_answer : (x y : Asked) (answer : Answer) → LaterAsked x y
    → Stays Same (walked (needing (refusal_to x answer) (outcomes.Answered answer))) (walked (needing (refusal_to y answer) (outcomes.Answered answer)))
needing_answer x y (says.Status seen promised stand newest p) l = goes_with (says.Status seen promised stand newest p)
needing_answer x y (says.Stopped newest p) l = goes_with (says.Stopped newest p)
needing_answer x y (says.Demoted newest p) l = goes_with (says.Demoted newest p)
needing_answer x y (says.Promoted p) l = goes_with (says.Promoted p)
needing_answer x y says.Joined l = goes_with says.Joined
needing_answer x y says.Feeding l = goes_with says.Feeding
needing_answer x y says.Holds l = goes_with says.Holds
needing_answer x y says.Told l = goes_with says.Told
needing_answer x y says.NotTold l = λ rest now later left. refl
needing_answer x y (says.Kept stand) l =
    if_kept (is_of_promotion x.kind) (is_of_promotion y.kind) _ _ (says.Kept stand) (outcomes.Answered (says.Kept stand)) (ap (λ (k : Kind). is_of_promotion k) l.kind)
needing_answer x y (says.StaleTerm seen) l = λ rest now later left. refl
needing_answer x y (says.PromisedAhead promised) l = goes_with (says.PromisedAhead promised)
needing_answer x y (says.NotCaughtUp missing) l = λ rest now later left. refl
needing_answer x y (says.Errant extra) l = λ rest now later left. refl
needing_answer x y (says.NotStanding newest) l = goes_with (says.NotStanding newest)

pub needing_stays : (x y : Asked) (o : Outcome) → LaterAsked x y → Stays Same (walked (needing (refusal_after x o) o)) (walked (needing (refusal_after y o) o))
needing_stays x y (outcomes.Answered answer) l = needing_answer x y answer l
needing_stays x y (outcomes.GivenUp why) l = λ rest now later left. refl

pub needs_stays : (a : Alias) (call : Call) → Stays Same (needs a call) (needs a call)
needs_stays a call =
    bind_stays LaterAsked Same (asks a call) (asks a call) _ _ (asks_stays a call)
    (λ x y l. bind_stays Same Same (walked (settling x.outcome)) (walked (settling y.outcome)) (λ o. walked (needing (refusal_after x o) o)) (λ o. walked (needing (refusal_after y o) o))
    (settling_stays x.outcome y.outcome l.outcome)
    (λ o p same. subst (λ v. Stays Same (walked (needing (refusal_after x o) o)) (walked (needing (refusal_after y v) v))) same (needing_stays x y o l)))

-- ---- calls of many

pub called_stays : (them : List Alias) (kind : Kind) → Stays Same (called_all them kind) (called_all them kind)
called_stays [] kind rest now later = record { value = None; came = refl; related = refl; later = later }
called_stays (a ∷ more) kind _ _ Nothing = record { value = Some a; came = refl; related = refl; later = Nothing }
called_stays (a ∷ more) kind _ _ (More d e ds es one rest) =
    bind_at LaterAsked Same (λ x. called_all more kind) (λ x. called_all more kind) (asked a kind d) ds (walked (asked a kind e) es) (asked_stays a kind d e one ds es rest)
    (λ x y l. called_stays more kind)

pub asks_all_stays : (them : List Alias) (call : Call) → Stays Same (asks_all them call) (asks_all them call)
asks_all_stays them call =
    bind_stays Same Same (called_all them (kind_of call)) (called_all them (kind_of call)) (λ a. walked (calling call a)) (λ a. walked (calling call a)) (called_stays them (kind_of call))
    (on_same Same (λ a. walked (calling call a)) (λ a. same_stays (calling call a)))

-- these calls are settled, and are the same later
pub record Settled (ds es : List Deed) : Type 0 where
  pub later : Later ds es
  pub settled : list_any is_out ds ≡ false

pub take_later : (n : ℕ) (ds es : List Deed) → Later ds es → Later (take n ds) (take n es)
take_later zero ds es l = Nothing
take_later (suc n) _ _ Nothing = Nothing
take_later (suc n) _ _ (More d e ds es one rest) = More d e (take n ds) (take n es) one (take_later n ds es rest)

pub or_false : (a b : Bool) → (a || b) ≡ false → (a ≡ false) × (b ≡ false)
or_false false b h = (refl, h)
or_false true b h = absurd (false≢true (sym h))

pub neither : (a b : Bool) → a ≡ false → b ≡ false → (a || b) ≡ false
neither false b p q = q
neither true b p q = absurd (false≢true (sym p))

pub settled_same : (o p : Option Outcome) → (o ≡ None) ⊎ (p ≡ o) → is_none o ≡ false → p ≡ o
settled_same None p e h = absurd (false≢true (sym h))
settled_same (Some x) p (inl none) h = absurd (let wrong : Some x ≡ None = none in cc)
settled_same (Some x) p (inr same) h = same

pub out_deed : (d e : Deed) → LaterDeed d e → is_out d ≡ false → is_out e ≡ false
out_deed _ _ (Itself d) h = h
out_deed _ _ (Comes x y l) h = ap (λ (o : Option Outcome). is_none o) (settled_same x.outcome y.outcome l.outcome h) ∙ h

pub outs_later : (ds es : List Deed) → Later ds es → list_any is_out ds ≡ false → list_any is_out es ≡ false
outs_later _ _ Nothing h = h
outs_later _ _ (More d e ds es one rest) h =
    let both = or_false (is_out d) (list_any is_out ds) h in neither (is_out e) (list_any is_out es) (out_deed d e one both.0) (outs_later ds es rest both.1)

pub settled_if : (b c : Bool) (ds es : List Deed) → list_any is_out ds ≡ b → list_any is_out es ≡ c → Later ds es
    → Stays Settled (walked (cond b (Err exits.Waits) (Ok ds))) (walked (cond c (Err exits.Waits) (Ok es)))
settled_if true c ds es p q l = λ rest now later left. absurd (false≢true left)
settled_if false true ds es p q l = absurd (false≢true (sym (outs_later ds es l p) ∙ q))
settled_if false false ds es p q l = λ rest now later. record { value = es; came = refl; related = record { later = l; settled = p }; later = later }

pub ahead_stays : Stays Later ahead ahead
ahead_stays rest now later = record { value = now; came = refl; related = later; later = later }

pub calls_stays : (them : List Alias) (call : Call) → Stays Settled (calls_all them call) (calls_all them call)
calls_stays them call =
    bind_stays Later Settled ahead ahead (λ done. asks_all them call >> walked (all_settled (take (length them) done)))
    (λ done. asks_all them call >> walked (all_settled (take (length them) done))) ahead_stays
    (λ ds es l. then_stays Same Settled (asks_all them call) (asks_all them call) (walked (all_settled (take (length them) ds))) (walked (all_settled (take (length them) es)))
    (asks_all_stays them call)
    (settled_if (list_any is_out (take (length them) ds)) (list_any is_out (take (length them) es)) (take (length them) ds) (take (length them) es) refl refl (take_later (length them) ds es l)))

-- ---- what the Stops came to

pub held_same : (d e : Deed) → LaterDeed d e → is_out d ≡ false → held_in e ≡ held_in d
held_same _ _ (Itself d) h = refl
held_same _ _ (Comes x y l) h =
    ap (λ (a : Alias). held_by a y.outcome) l.alias ∙ ap (λ (o : Option Outcome). held_by x.alias o) (settled_same x.outcome y.outcome l.outcome h)

pub helds_same : (ds es : List Deed) → Later ds es → list_any is_out ds ≡ false → helds es ≡ helds ds
helds_same _ _ Nothing h = refl
helds_same _ _ (More d e ds es one rest) h =
    let both = or_false (is_out d) (list_any is_out ds) h in
    ap (λ (hs : List Held). hs ++ helds es) (held_same d e one both.0) ∙ ap (λ (hs : List Held). held_in d ++ hs) (helds_same ds es rest both.1)

pub stale_same : (d e : Deed) → LaterDeed d e → is_out d ≡ false → stale_in e ≡ stale_in d
stale_same _ _ (Itself d) h = refl
stale_same _ _ (Comes x y l) h =
    ap (λ (a : Alias). refusal_by_stale a y.outcome) l.alias ∙ ap (λ (o : Option Outcome). refusal_by_stale x.alias o) (settled_same x.outcome y.outcome l.outcome h)

pub first_same : (ds es : List Deed) → Later ds es → list_any is_out ds ≡ false → first_by stale_in es ≡ first_by stale_in ds
first_same _ _ Nothing h = refl
first_same _ _ (More d e ds es one rest) h =
    let both = or_false (is_out d) (list_any is_out ds) h in
    ap (λ (o : Option Refusal). or_else o (first_by stale_in es)) (stale_same d e one both.0)
    ∙ ap (λ (o : Option Refusal). or_else (stale_in d) o) (first_same ds es rest both.1)

pub unrevoked_stays : (g : Group) (ignored : List Alias) (ds es : List Deed) (o p : Option Tablet) → p ≡ o
    → Stays Same (walked (refusing (refusal_by_unrevoked g ignored ds o))) (walked (refusing (refusal_by_unrevoked g ignored es p)))
unrevoked_stays g ignored ds es None None same = same_stays (Ok tt)
unrevoked_stays g ignored ds es (Some t) (Some s) same = λ rest now later left. refl
unrevoked_stays g ignored ds es None (Some s) same = absurd (let wrong : Some s ≡ None = same in cc)
unrevoked_stays g ignored ds es (Some t) None same = absurd (let wrong : None ≡ Some t = same in cc)

pub none_won : (t s : Option Refusal) (r q : Refusal) → Stays Same (walked (or_refusing (winner_or None t r))) (walked (or_refusing (winner_or None s q)))
none_won None None r q = λ rest now later left. refl
none_won None (Some y) r q = λ rest now later left. refl
none_won (Some x) None r q = λ rest now later left. refl
none_won (Some x) (Some y) r q = λ rest now later left. refl

pub winner_stays : (o p : Option Held) (t s : Option Refusal) (r q : Refusal) → p ≡ o
    → Stays Same (walked (or_refusing (winner_or o t r))) (walked (or_refusing (winner_or p s q)))
winner_stays (Some h) p t s r q same = equal_stays (Ok h) (or_refusing (winner_or p s q)) (ap (λ (x : Option Held). or_refusing (winner_or x s q)) same)
winner_stays None p t s r q same =
    subst (λ (x : Option Held). Stays Same (walked (or_refusing (winner_or None t r))) (walked (or_refusing (winner_or x s q)))) (sym same) (none_won t s r q)

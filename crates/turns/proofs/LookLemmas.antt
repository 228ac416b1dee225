-- Looks at the calls that are out, one after another, and what comes of them together.
use Rattle.std.proofs.Common.{◌≡◌, ◌≢◌, refl, ap, sym, ◌∙◌, subst, arith, append_assoc, ℕ, zero, suc, Bool, true, false, ◌&&◌, ◌||◌, ◌==◌, ◌<◌, ◌+◌, List, [], ◌∷◌, ◌++◌, length, get_or, set, map, Option, Some, None, Result, Ok, Err, cond, below_more}
use Rattle.std.specs.Prelude.{IfOk}
use Rattle.std.specs.List.{list_all, list_any}
use Rattle.std.proofs.lemmas.List.{append-nil, length-set, get_or-set_same, get_or-set_other, set-get_or}
use Rattle.std.proofs.lemmas.List.Folds.{list_all-append}
use Rattle.shard_calls.specs.declared.ending.CommandAnswer.{CommandAnswer}
use Rattle.shard_calls.specs.declared.why.Why.{Why}
use Rattle.shard_calls.specs.declared.span.Outcome.{Outcome}
use Rattle.shard_calls.specs.declared.span.Outcome.TheVariants as outcomes
use Rattle.turns.specs.declared.floor.Halt.{Halt}
use Rattle.shard_calls.specs.declared.span.Asked.{Asked}
use Rattle.shard_calls.specs.declared.span.Deed.{Deed}
use Rattle.shard_calls.specs.declared.span.Deed.TheVariants as deeds
use Rattle.courses.specs.declared.want.Want.{Want}
use Rattle.courses.specs.declared.want.Want.TheVariants as wants
use Rattle.turns.specs.declared.turn.Turn.{Turn}
use Rattle.turns.specs.declared.turn.Turn.TheVariants as turns
use Rattle.courses.specs.declared.demands.Demand.TheVariants.{Does, Awaits, Leaves}
use Rattle.courses.specs.Walks.{Course}
use Rattle.courses.specs.Laws.{settle}
use Rattle.shard_calls.specs.Refusals.{or_else}
use Rattle.courses.specs.Course.{demand}
use Rattle.turns.specs.Turns.{Shown, Made, GaveUp, Released, Ended, span_of, is_foreign, has_message, only, noted_in, outcome_here, out_by, out_message, first_out, is_fresh, OnlyOthers, OneMore, Behind, DidOne, DidOrWaits, Done, NotYet, LookedToGiveUp, NoCause, NoMore, Looked, LookedAt, NoCall, Still, Came, WasOut, AllLooked, Looks, GaveUpOne, TriedAt, Kept, Given, TriedAll, KeptAll, GivenOne, DidNext, LeftNext, owes, has_released, GaveUpNext, Went, Did, Abandoned, Freed, Left, Turned, TurnWent, TurnWaits, TurnTells, Acted, Goes, Tells, Stays}
use Rattle.turns.proofs.TurnLemmas.{behind_at, behind_only, behind_others, same_place, same_message, same_number, released_only, released_one, later_news, span_split, two_splits}

-- ---- others' steps, twice

pub no_others : (c : ℕ) (steps : List Shown) → OnlyOthers c steps steps
no_others c steps = record { others = []; foreign = refl; split = sym (append-nil steps) }

all_foreign : (c : ℕ) (xs ys : List Shown) → list_all (is_foreign c) xs ≡ true → list_all (is_foreign c) ys ≡ true → list_all (is_foreign c) (xs ++ ys) ≡ true
all_foreign c xs ys these those = list_all-append (is_foreign c) xs ys ∙ (ap (λ b. b && list_all (is_foreign c) ys) these ∙ those)

joined : (a b xs ys : List Shown) → b ≡ a ++ xs → b ++ ys ≡ a ++ (xs ++ ys)
joined a b xs ys split = ap (λ steps. steps ++ ys) split ∙ append_assoc a xs ys

joined_one : (a b xs ys : List Shown) (s : Shown) → b ≡ a ++ xs → b ++ (ys ++ s ∷ []) ≡ a ++ ((xs ++ ys) ++ s ∷ [])
joined_one a b xs ys s split = joined a b xs (ys ++ s ∷ []) split ∙ ap (λ steps. a ++ steps) (sym (append_assoc xs ys (s ∷ [])))

pub only_twice : (c : ℕ) (a b d : List Shown) → OnlyOthers c a b → OnlyOthers c b d → OnlyOthers c a d
only_twice c a b d first second = record {
  others = first.others ++ second.others;
  foreign = all_foreign c first.others second.others first.foreign second.foreign;
  split = second.split ∙ joined a b first.others second.others first.split;
}

one_after : (c : ℕ) (a b d : List Shown) (s : Shown) → OnlyOthers c a b → OneMore c b d s → OneMore c a d s
one_after c a b d s first more = record {
  others = first.others ++ more.others;
  foreign = all_foreign c first.others more.others first.foreign more.foreign;
  split = more.split ∙ joined_one a b first.others more.others s first.split;
}

did_after : (m : Course CommandAnswer) (c : ℕ) (a b d : List Shown) → OnlyOthers c a b → DidNext m c b d → DidNext m c a d
did_after m c a b d first next = record {
  want = next.want;
  deed = next.deed;
  did = record {
    others = first.others ++ next.did.others;
    foreign = all_foreign c first.others next.did.others first.foreign next.did.foreign;
    split = next.did.split ∙ joined_one a b first.others next.did.others (Made c next.deed) first.split;
    deed_of = next.did.deed_of;
    fresh = subst (λ steps. is_fresh (span_of c steps) next.deed ≡ true) (joined a b first.others next.did.others first.split) next.did.fresh;
  };
  demanded = subst (λ steps. demand m (span_of c steps) ≡ Does next.want) (joined a b first.others next.did.others first.split) next.demanded;
}

left_after : (m : Course CommandAnswer) (c : ℕ) (a b d : List Shown) (x : CommandAnswer) (owed : Bool) (s : Shown) → OnlyOthers c a b
    → LeftNext m c b d x owed s → LeftNext m c a d x owed s
unfolding one_after
left_after m c a b d x owed s first next = record {
  left = one_after c a b d s first next.left;
  is_owed = subst (λ steps. owes c steps ≡ owed) (joined a b first.others next.left.others first.split) next.is_owed;
  demanded = subst (λ steps. demand m (span_of c steps) ≡ Leaves x) (joined a b first.others next.left.others first.split) next.demanded;
}

pub gone_after : (c : ℕ) (a b d : List Shown) (k : ℕ) (why : Why) → OnlyOthers c a b → GaveUpOne c b d k why → GaveUpOne c a d k why
gone_after c a b d k why first gone = record {
  others = first.others ++ gone.others;
  foreign = all_foreign c first.others gone.others first.foreign gone.foreign;
  split = gone.split ∙ joined_one a b first.others gone.others (GaveUp c k (outcomes.GivenUp why)) first.split;
  is_out =
      let Is : List Shown → Type 0 = λ steps. (i : ℕ) (e : Deed) → i < length (span_of c steps) → e ≡ get_or (span_of c steps) i e → has_message k e ≡ true
      → outcome_here e ≡ None
      in subst Is (joined a b first.others gone.others first.split) gone.is_out;
}

gave_up_after : (m : Course CommandAnswer) (c : ℕ) (a b d : List Shown) → OnlyOthers c a b → GaveUpNext m c b d → GaveUpNext m c a d
unfolding gone_after
gave_up_after m c a b d first next = record {
  message = next.message;
  why = next.why;
  gave_up = gone_after c a b d next.message next.why first next.gave_up;
  span = next.span;
  behind = subst (λ steps. Behind next.span (span_of c steps)) (joined a b first.others next.gave_up.others first.split) next.behind;
  awaited = next.awaited;
  is_awaited = next.is_awaited;
}

went_after : (m : Course CommandAnswer) (c : ℕ) (a b d : List Shown) → OnlyOthers c a b → Went m c b d → Went m c a d
went_after m c a b d first (Did next) = Did (did_after m c a b d first next)
went_after m c a b d first (Abandoned next) = Abandoned (gave_up_after m c a b d first next)
went_after m c a b d first (Freed x next) = Freed x (left_after m c a b d x true (Released c) first next)
went_after m c a b d first (Left x next) = Left x (left_after m c a b d x false (Ended c x) first next)

-- ---- one look more

out_on : (c : ℕ) (before now later : List Shown) (k : ℕ) → OnlyOthers c now later → WasOut c before now k → WasOut c before later k
out_on c before now later k on was = record {
  start = was.start;
  ahead = was.ahead;
  moment = was.moment;
  look = was.look;
  later = only_twice c was.moment now later was.later on;
}

pub looks_on : (c : ℕ) (before now later : List Shown) (span : List Deed) (n : ℕ) → OnlyOthers c now later → Looks c before now span n → Looks c before later span n
looks_on c before now later span n on looks = record {
  only = only_twice c before now later looks.only on;
  behind = behind_only c span now later on looks.behind;
  looked = λ i less k d is out. out_on c before now later k on (looks.looked i less k d is out);
}

-- what is known of the next deed
abbrev NextOut : ℕ → List Shown → List Shown → Deed → Type 0
NextOut c before now p = (k : ℕ) → out_message p ≡ Some k → WasOut c before now k

one_looked : (c : ℕ) (before now : List Shown) (span : List Deed) (i : ℕ) (p : Deed) → i < length span → p ≡ get_or span i p → NextOut c before now p
    → AllLooked c before now span i → AllLooked c before now span (i + 1)
one_looked c before now span i p short is next looked =
    below_more (λ j. (k : ℕ) (d : Deed) → d ≡ get_or span j d → out_message d ≡ Some k → WasOut c before now k) i looked
    (λ k d at out. next k (ap out_message (same_place span i p d short is at) ∙ out))

no_call : (c : ℕ) (before now : List Shown) (p : Deed) → out_message p ≡ None → NextOut c before now p
no_call c before now p none k out = absurd (let no_way : Some k ≡ None = sym out ∙ none in cc)

same_some : (k j : ℕ) → Some k ≡ Some j → k ≡ j
same_some k j same = cc

still_out : (c : ℕ) (before mid now : List Shown) (p : Deed) (k : ℕ) → OnlyOthers c before mid → out_message p ≡ Some k → Looked c mid now k None → NextOut c before now p
still_out c before mid now p k ahead out look j other =
    subst (λ n. WasOut c before now n) (same_some k j (sym out ∙ other))
    (record { start = mid; ahead = ahead; moment = now; look = look; later = no_others c now })

noted_by : (o : Outcome) (x : Asked) (out : Option Outcome) → out_by x (or_else out (Some o)) ≡ None
noted_by o x None = refl
noted_by o x (Some before) = refl

noted_is_none : (o : Outcome) (p : Deed) → out_message (noted_in o p) ≡ None
noted_is_none o (deeds.Asked x) = noted_by o x x.outcome
noted_is_none o (deeds.Took reply) = refl
noted_is_none o _ = refl

out_is_call : (k : ℕ) (x : Asked) (out : Option Outcome) → out_by x out ≡ Some k → (x.message == k) ≡ true
out_is_call k x None is = subst (λ n. (x.message == n) ≡ true) (same_some x.message k is) (same_number x.message)
out_is_call k x (Some o) is = absurd (let no_way : None ≡ Some k = is in cc)

pub out_has : (k : ℕ) (p : Deed) → out_message p ≡ Some k → has_message k p ≡ true
out_has k (deeds.Asked x) is = out_is_call k x x.outcome is
out_has k (deeds.Took reply) is = absurd (let no_way : None ≡ Some k = is in cc)
out_has k (deeds.Read reply) is = absurd (let no_way : None ≡ Some k = is in cc)
out_has k (deeds.Intended a reply) is = absurd (let no_way : None ≡ Some k = is in cc)
out_has k (deeds.Recorded a reply) is = absurd (let no_way : None ≡ Some k = is in cc)
out_has k (deeds.Drained a reply) is = absurd (let no_way : None ≡ Some k = is in cc)
out_has k (deeds.Wrote a reply) is = absurd (let no_way : None ≡ Some k = is in cc)
out_has k (deeds.Told committed) is = absurd (let no_way : None ≡ Some k = is in cc)

-- the deeds before a place stay when one is set there
looked_beside : (c : ℕ) (before now : List Shown) (span : List Deed) (i : ℕ) (q : Deed) → AllLooked c before now span i → AllLooked c before now (set span i q) i
looked_beside c before now span i q looked j less k d is out =
    let apart : j ≢ i = omega arith in looked j less k d (is ∙ get_or-set_other span i j q d apart) out

same_set : (span : List Deed) (i : ℕ) (p : Deed) → p ≡ get_or span i p → set span i p ≡ span
same_set span i p is = ap (λ d. set span i d) is ∙ set-get_or span i p

look_same : (c : ℕ) (before now : List Shown) (span : List Deed) (i : ℕ) (p : Deed) → i < length span → p ≡ get_or span i p → NextOut c before now p
    → Looks c before now span i → Looks c before now (set span i p) (i + 1)
look_same c before now span i p short is next looks =
    subst (λ ds. Looks c before now ds (i + 1)) (sym (same_set span i p is))
    (record { only = looks.only; behind = looks.behind; looked = one_looked c before now span i p short is next looks.looked })

look_noted : (c : ℕ) (before mid now : List Shown) (span : List Deed) (i : ℕ) (p : Deed) (k : ℕ) (o : Outcome) → i < length span → p ≡ get_or span i p → out_message p ≡ Some k
    → Looked c mid now k (Some o) → Looks c before now span i → Looks c before now (set span i (noted_in o p)) (i + 1)
look_noted c before mid now span i p k o short is out look looks =
    let within : i < length (set span i (noted_in o p)) = subst (λ n. i < n) (sym (length-set span i (noted_in o p))) short in
    record {
      only = looks.only;
      behind = behind_at k o span (span_of c now) i p short is (out_has k p out) look.finds looks.behind;
      looked =
          one_looked c before now (set span i (noted_in o p)) i (noted_in o p) within (sym (get_or-set_same span i (noted_in o p) (noted_in o p) short))
          (no_call c before now (noted_in o p) (noted_is_none o p)) (looked_beside c before now span i (noted_in o p) looks.looked);
    }

pub look_step : (c : ℕ) (before mid now : List Shown) (span : List Deed) (i : ℕ) (p q : Deed) → i < length span → p ≡ get_or span i p → LookedAt c mid now p q
    → Looks c before mid span i → Looks c before now (set span i q) (i + 1)
look_step c before mid now span i p _ short is (NoCall none same) looks =
    look_same c before now span i p short is (no_call c before now p none) (subst (λ steps. Looks c before steps span i) (sym same) looks)
look_step c before mid now span i p _ short is (Still k out look) looks =
    look_same c before now span i p short is (still_out c before mid now p k looks.only out look) (looks_on c before mid now span i look.only looks)
look_step c before mid now span i p _ short is (Came k o out look) looks =
    look_noted c before mid now span i p k o short is out look (looks_on c before mid now span i look.only looks)

pub looks_none : (c : ℕ) (before : List Shown) (span : List Deed) → Behind span (span_of c before) → Looks c before before span 0
looks_none c before span behind = record {
  only = no_others c before;
  behind = behind;
  looked = λ i less k d is out. absurd (omega arith);
}

-- ---- what single looks say

pub at_none : (c : ℕ) (before : List Shown) (p : Deed) (m : Option ℕ) → m ≡ out_message p → m ≡ None → LookedAt c before before p p
at_none c before p m is none = NoCall (sym is ∙ none) refl

pub at_still : (c : ℕ) (before now : List Shown) (p : Deed) (k : ℕ) (m : Option ℕ) (found : Option Outcome) → m ≡ out_message p → m ≡ Some k
    → Looked c before now k found → found ≡ None → LookedAt c before now p p
at_still c before now p k m found is out look none = Still k (sym is ∙ out) (subst (λ f. Looked c before now k f) none look)

pub at_came : (c : ℕ) (before now : List Shown) (p q : Deed) (k : ℕ) (o : Outcome) (m : Option ℕ) (found : Option Outcome) → m ≡ out_message p → m ≡ Some k
    → Looked c before now k found → found ≡ Some o → q ≡ noted_in o p → LookedAt c before now p q
at_came c before now p q k o m found is out look came noted =
    subst (λ d. LookedAt c before now p d) (sym noted) (Came k o (sym is ∙ out) (subst (λ f. Looked c before now k f) came look))

pub no_cause : (c : ℕ) (before now : List Shown) (k : ℕ) (w : Option Why) → LookedToGiveUp c before now k w → w ≡ None → OnlyOthers c before now
no_cause c before now k _ (NoCause on) none = on
no_cause c before now k _ (NoMore why gone) none = absurd (let no_way : Some why ≡ None = none in cc)

pub gone_for : (c : ℕ) (before now : List Shown) (k : ℕ) (w : Option Why) (x : Why) → LookedToGiveUp c before now k w → w ≡ Some x → GaveUpOne c before now k x
gone_for c before now k _ x (NoCause on) some = absurd (let no_way : None ≡ Some x = some in cc)
gone_for c before now k _ x (NoMore why gone) some = subst (λ y. GaveUpOne c before now k y) (let same : why ≡ x = cc in same) gone

pub tried_given : (c : ℕ) (before now : List Shown) (p q : Deed) (k : ℕ) (why : Why) (m : Option ℕ) (w : Option Why) → m ≡ out_message p → m ≡ Some k
    → LookedToGiveUp c before now k w → w ≡ Some why → q ≡ noted_in (outcomes.GivenUp why) p → TriedAt c before now p q true
tried_given c before now p q k why m w is out look some noted =
    subst (λ d. TriedAt c before now p d true) (sym noted) (Given k why (sym is ∙ out) (gone_for c before now k w why look some))

pub did_of : (c : ℕ) (before now : List Shown) (want : Want) (done : Option Deed) (deed : Deed) → DidOrWaits c before now want done → done ≡ Some deed
    → DidOne c before now want deed
did_of c before now want _ deed (Done x did) some = subst (λ y. DidOne c before now want y) (let same : x ≡ deed = cc in same) did
did_of c before now want _ deed (NotYet is on) some = absurd (let no_way : None ≡ Some deed = some in cc)

-- nothing can be told yet
pub record Untold (c : ℕ) (before now : List Shown) (want : Want) : Type 0 where
  pub is : want ≡ wants.Tell
  pub only : OnlyOthers c before now

pub untold_of : (c : ℕ) (before now : List Shown) (want : Want) (done : Option Deed) → DidOrWaits c before now want done → done ≡ None → Untold c before now want
untold_of c before now want _ (Done x did) none = absurd (let no_way : Some x ≡ None = none in cc)
untold_of c before now want _ (NotYet is on) none = record { is = is; only = on }

-- ---- giving up

has_at : (k : ℕ) (span : List Deed) (i : ℕ) (p : Deed) → i < length span → p ≡ get_or span i p → has_message k p ≡ true → list_any (has_message k) span ≡ true
has_at k [] i p short is has = absurd (omega arith)
has_at k (d ∷ ds) zero p short is has = ap (λ e. has_message k e || list_any (has_message k) ds) (sym is) ∙ ap (λ b. b || list_any (has_message k) ds) has
has_at k (d ∷ ds) (suc i) p short is has =
    ap (λ b. has_message k d || b) (has_at k ds i p (omega arith) is has) ∙ true_after (has_message k d)
  where
    true_after : (b : Bool) → (b || true) ≡ true
    true_after true = refl
    true_after false = refl

given_here : (k : ℕ) (o : Outcome) (x : Asked) (out : Option Outcome) → (x.message == k) ≡ true → out ≡ None → or_else out (only k o x.message) ≡ Some o
given_here k o x out has none = ap (λ y. or_else y (only k o x.message)) none ∙ ap (λ b. cond b (Some o) None) has

given_at : (k : ℕ) (o : Outcome) (e : Deed) → has_message k e ≡ true → outcome_here e ≡ None → outcome_here (settle (only k o) e) ≡ Some o
given_at k o (deeds.Asked x) has none = given_here k o x x.outcome has none
given_at k o (deeds.Took reply) has none = absurd (let no_way : false ≡ true = has in cc)
given_at k o (deeds.Read reply) has none = absurd (let no_way : false ≡ true = has in cc)
given_at k o (deeds.Intended a reply) has none = absurd (let no_way : false ≡ true = has in cc)
given_at k o (deeds.Recorded a reply) has none = absurd (let no_way : false ≡ true = has in cc)
given_at k o (deeds.Drained a reply) has none = absurd (let no_way : false ≡ true = has in cc)
given_at k o (deeds.Wrote a reply) has none = absurd (let no_way : false ≡ true = has in cc)
given_at k o (deeds.Told committed) has none = absurd (let no_way : false ≡ true = has in cc)

all_given : (k : ℕ) (o : Outcome) (full : List Deed)
    → ((i : ℕ) (e : Deed) → i < length full → e ≡ get_or full i e → has_message k e ≡ true → outcome_here e ≡ None)
    → (j : ℕ) (d : Deed) → j < length (map (settle (only k o)) full) → d ≡ get_or (map (settle (only k o)) full) j d → has_message k d ≡ true → outcome_here d ≡ Some o
all_given k o [] out j d short is has = absurd (omega arith)
all_given k o (e ∷ es) out zero d short is has =
    let here : has_message k e ≡ true = sym (same_message k (only k o) e) ∙ (ap (λ x. has_message k x) (sym is) ∙ has) in
    ap outcome_here is ∙ given_at k o e here (out zero e (omega arith) refl here)
all_given k o (e ∷ es) out (suc j) d short is has = all_given k o es (λ i x less at. out (suc i) x (omega arith) at) j d (omega arith) is has

gone_span : (c : ℕ) (before now : List Shown) (k : ℕ) (why : Why) (gone : GaveUpOne c before now k why)
    → span_of c now ≡ map (settle (only k (outcomes.GivenUp why))) (span_of c (before ++ gone.others))
gone_span c before now k why gone =
    ap (λ steps. span_of c steps) (gone.split ∙ two_splits before gone.others (GaveUp c k (outcomes.GivenUp why)))
    ∙ span_split c [] (before ++ gone.others) (GaveUp c k (outcomes.GivenUp why) ∷ [])

gone_behind : (c : ℕ) (before now : List Shown) (span : List Deed) (i : ℕ) (p : Deed) (k : ℕ) (why : Why) → i < length span → p ≡ get_or span i p → out_message p ≡ Some k
    → (gone : GaveUpOne c before now k why) → Behind span (span_of c (before ++ gone.others)) → Behind (set span i (noted_in (outcomes.GivenUp why) p)) (span_of c now)
gone_behind c before now span i p k why short is out gone behind =
    subst (λ full. Behind (set span i (noted_in (outcomes.GivenUp why) p)) full) (sym (gone_span c before now k why gone))
    (behind_at k (outcomes.GivenUp why) span (map (settle (only k (outcomes.GivenUp why))) (span_of c (before ++ gone.others))) i p short is (out_has k p out)
    (all_given k (outcomes.GivenUp why) (span_of c (before ++ gone.others)) gone.is_out) (later_news (only k (outcomes.GivenUp why)) span (span_of c (before ++ gone.others)) behind))

pub try_kept : (c : ℕ) (before mid now : List Shown) (span : List Deed) (i : ℕ) (p q : Deed) → p ≡ get_or span i p → OnlyOthers c before mid → TriedAt c mid now p q false
    → OnlyOthers c before now × (set span i q ≡ span)
try_kept c before mid now span i p _ is ahead (Kept on) = (only_twice c before mid now ahead on, same_set span i p is)

-- what a try comes to that gives up
pub record Gone (c : ℕ) (before now : List Shown) (span noted : List Deed) : Type 0 where
  pub tried : TriedAll c before now span noted true
  pub behind : Behind noted (span_of c now)

pub try_given : (c : ℕ) (before mid now : List Shown) (span : List Deed) (i : ℕ) (p q : Deed) → i < length span → p ≡ get_or span i p → Behind span (span_of c before)
    → OnlyOthers c before mid → TriedAt c mid now p q true → Gone c before now span (set span i q)
try_given c before mid now span i p _ short is behind ahead (Given k why out gone) =
    let whole = gone_after c before mid now k why ahead gone in
    let behind_then : Behind span (span_of c (before ++ whole.others)) = behind_others c span before whole.others whole.foreign behind in
    record {
      tried = GivenOne k why (set span i (noted_in (outcomes.GivenUp why) p)) whole behind_then (has_at k span i p short is (out_has k p out));
      behind = gone_behind c before now span i p k why short is out whole behind_then;
    }

-- what is left as it was, and with whom
pub record Stayed (c : ℕ) (before now : List Shown) (span noted : List Deed) : Type 0 where
  pub only : OnlyOthers c before now
  pub same : noted ≡ span

-- the same, where the span is still as it was first
pub one_given : (c : ℕ) (before mid now : List Shown) (first span : List Deed) (i : ℕ) (p q : Deed) (gone : Bool) → span ≡ first → i < length span → p ≡ get_or span i p
    → Behind first (span_of c before) → OnlyOthers c before mid → TriedAt c mid now p q gone → gone ≡ true → Gone c before now first (set span i q)
one_given c before mid now first span i p q gone same short is behind ahead tried went =
    subst (λ ds. Gone c before now ds (set span i q)) same
    (try_given c before mid now span i p q short is (subst (λ ds. Behind ds (span_of c before)) (sym same) behind) ahead (subst (λ b. TriedAt c mid now p q b) went tried))

pub none_given : (c : ℕ) (before mid now : List Shown) (first span : List Deed) (i : ℕ) (p q : Deed) (gone : Bool) → span ≡ first → p ≡ get_or span i p
    → OnlyOthers c before mid → TriedAt c mid now p q gone → gone ≡ false → Stayed c before now first (set span i q)
none_given c before mid now first span i p q gone same is ahead tried went =
    let kept = try_kept c before mid now span i p q is ahead (subst (λ b. TriedAt c mid now p q b) went tried) in record { only = kept.0; same = kept.1 ∙ same }

pub released_tried : (c : ℕ) (before now : List Shown) (span noted : List Deed) (gone : Bool) → TriedAll c before now span noted gone → has_released c now ≡ has_released c before
released_tried c before now span _ _ (KeptAll on) = released_only c before now on
released_tried c before now span _ _ (GivenOne k why noted gave_up behind is) =
    released_one c before gave_up.others now (GaveUp c k (outcomes.GivenUp why)) gave_up.foreign gave_up.split refl

-- ---- a turn

pub acted_by_giving : (m : Course CommandAnswer) (c : ℕ) (before now : List Shown) (span noted : List Deed) → demand m span ≡ Awaits → TriedAll c before now span noted true
    → Acted m c before now span turns.Went
acted_by_giving m c before now span _ awaited (GivenOne k why noted gave_up behind is) = Goes (Abandoned (record {
  message = k;
  why = why;
  gave_up = gave_up;
  span = span;
  behind = behind;
  awaited = awaited;
  is_awaited = is;
}))

pub kept_all : (c : ℕ) (before now : List Shown) (span noted : List Deed) → TriedAll c before now span noted false → Stayed c before now span noted
kept_all c before now span _ (KeptAll only) = record { only = only; same = refl }

pub acted_by_waiting : (m : Course CommandAnswer) (c : ℕ) (before now : List Shown) (span noted : List Deed) → demand m span ≡ Awaits → Stayed c before now span noted
    → Acted m c before now span (turns.Waits (first_out noted))
acted_by_waiting m c before now span noted awaited stayed =
    subst (λ ds. Acted m c before now span (turns.Waits (first_out ds))) (sym stayed.same) (Stays stayed.only awaited)

pub turned_after : (m : Course CommandAnswer) (c : ℕ) (before mid now : List Shown) (span : List Deed) (turn : Turn) → Looks c before mid span (length span)
    → Acted m c mid now span turn → Turned m c before now turn
turned_after m c before mid now span _ looks (Goes went) = TurnWent (went_after m c before mid now looks.only went)
turned_after m c before mid now span _ looks (Tells tells) =
    TurnTells (record { only = only_twice c before mid now looks.only tells.only; demanded = tells.demanded })
turned_after m c before mid now span _ looks (Stays on awaited) =
    TurnWaits (first_out span) (record { span = span; looks = looks_on c before mid now span (length span) on looks; awaited = awaited; names = refl })

pub turned_all : (m : Course CommandAnswer) (c : ℕ) (before mid now : List Shown) (span : List Deed) (r : Result Turn Halt) → Looks c before mid span (length span)
    → IfOk r (λ turn. Acted m c mid now span turn) → IfOk r (λ turn. Turned m c before now turn)
turned_all m c before mid now span (Ok turn) looks acted = turned_after m c before mid now span turn looks acted
turned_all m c before mid now span (Err halt) looks acted = tt

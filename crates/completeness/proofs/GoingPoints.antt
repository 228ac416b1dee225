-- The points of courses along a span of which it is known as what each deed was demanded: a point of one event, a call that is needed, a call of many,
-- and what is tried. Courses are those of vtctldclient (Vitess manual).
use Rattle.std.proofs.Common.{◌≡◌, ◌⊎◌, inl, inr, refl, sym, ap, subst, ◌∙◌, append_assoc, Bool, true, false, is_none, List, [], ◌∷◌, ◌++◌, Some, None, Option, Result, Ok, Err, cond}
use Rattle.std.proofs.lemmas.Bool.{false≢true}
use Rattle.shard_names.specs.declared.alias.Alias.{Alias}
use Rattle.shard_calls.specs.declared.answer.Answer.{Answer}
use Rattle.shard_calls.specs.declared.call.Call.{Call}
use Rattle.shard_calls.specs.declared.refusal.Refusal.{Refusal}
use Rattle.shard_calls.specs.declared.span.Asked.{Asked}
use Rattle.shard_calls.specs.declared.span.Deed.{Deed}
use Rattle.shard_calls.specs.declared.span.Deed.TheVariants as deeds
use Rattle.shard_calls.specs.declared.span.Kind.{Kind}
use Rattle.shard_calls.specs.declared.span.Outcome.{Outcome}
use Rattle.shard_calls.specs.declared.span.Outcome.TheVariants as outcomes
use Rattle.shard_calls.specs.Kinds.{kind_of}
use Rattle.shard_calls.specs.Refusals.{refusal_after}
use Rattle.courses.specs.declared.want.Exit.{Exit}
use Rattle.courses.specs.declared.want.Exit.TheVariants as exits
use Rattle.courses.specs.declared.want.Want.{Want}
use Rattle.courses.specs.declared.want.Want.TheVariants as wants
use Rattle.courses.specs.Sound.{IsIn}
use Rattle.courses.specs.Walks.{Course, Walked, walked, goes_on, ◌>>=◌, next, is_ask, settling, needing, needs, tried, trying}
use Rattle.completeness.proofs.GoingLemmas.{Doing, Passes, IsHeeded, Was, Going, Goes, Only, Same, Stays, IsNoRefusal, append_none, none_earlier}
use Rattle.completeness.proofs.LaterLemmas.{Later, Nothing, More, LaterDeed, Itself, Comes, LaterAsked, itself, later_ask, same_by}
use Rattle.completeness.proofs.RescueStays.{after_alike}

-- ---- the deed of a point

-- the deed at which this is demanded was done as this
pub next_made : {A : Type 0} (Made : Doing) (F : List Deed → Type 0) (n : Course A) (want : Want) (rest left : List Deed) (d : Deed)
    → (n []).came ≡ Err (exits.Does want) → rest ≡ d ∷ left → IsHeeded Made (Only F n) rest → (past : List Deed) × (Made want d past) × F past
next_made {A} Made F n want rest left d stops split heeded =
    let demanded = heeded [] left d split in
    let nothing = none_earlier demanded.along demanded.later in
    let here : demanded.course demanded.along ≡ n [] = ap (λ l. demanded.course l) nothing ∙ ap (λ c. c []) demanded.version.0 in
    let same : want ≡ demanded.want = subst (λ (r : Result A Exit). Passes r demanded.want) stops (subst (λ (w : Walked A). Passes w.came demanded.want) here demanded.passes) in
    let past : demanded.before ++ demanded.along ≡ demanded.before = ap (λ (l : List Deed). demanded.before ++ l) nothing ∙ append_none demanded.before in (
      demanded.before,
      subst (λ (l : List Deed). Made want d l) past (subst (λ (w : Want). Made w d (demanded.before ++ demanded.along)) (sym same) demanded.made),
      demanded.version.1,
    )

-- one deed as it was
one_earlier : {A : Type 0} (After : A → List Deed → Type 0) (m : Course A) (b e more : List Deed) (d : Deed) → Later e (d ∷ [])
    → ((y : Deed) → LaterDeed y d → Was After (m (y ∷ more)).came (m (y ∷ more)).rest (b ++ y ∷ []) more)
    → Was After (m (e ++ more)).came (m (e ++ more)).rest (b ++ e) more
one_earlier After m b _ more d (More y _ _ _ one Nothing) was = was y one

-- where a version is the course itself
itself_was : {A : Type 0} (After : A → List Deed → Type 0) (F : List Deed → Type 0) (m n : Course A) (b e more : List Deed) → Only F n m b
    → Was After (n (e ++ more)).came (n (e ++ more)).rest (b ++ e) more → Was After (m (e ++ more)).came (m (e ++ more)).rest (b ++ e) more
itself_was {A} After F m n b e more version was =
    subst (λ (c : Course A). Was After (c (e ++ more)).came (c (e ++ more)).rest (b ++ e) more) (sym version.0) was

-- ---- a point of one event

-- so much is so of what is done once another deed is done
abbrev pub Grows : (List Deed → Type 0) → (List Deed → Type 0) → Type 0
Grows F G = (b e : List Deed) → F b → G (b ++ e)

point_at : {A : Type 0} (Made : Doing) (F G : List Deed → Type 0) (Q : A → Type 0) (want : Want) (by : Deed → Result A Exit)
    → ((x y : Asked) → by (deeds.Asked y) ≡ by (deeds.Asked x)) → Grows F G → (d : Deed) (left : List Deed) (r : Result A Exit) → by d ≡ r → IsNoRefusal r → ((x : A) → by d ≡ Ok x → Q x)
    → Going Q (Same (λ x b. G b)) (Only F (next want >>= λ e. walked (by e))) r (d ∷ left) left
point_at {A} Made F G Q want by strays stays d left (Ok x) is none gives = record {
  used = d ∷ [];
  split = refl;
  is = gives x is;
  was = λ m b e more version later.
      itself_was (Same (λ y past. G past) x) F m (next want >>= λ f. walked (by f)) b e more version
      (one_earlier (Same (λ y past. G past) x) (next want >>= λ f. walked (by f)) b e more d later
      (λ y one. subst (λ (r : Result A Exit). Was (Same (λ z past. G past) x) r more (b ++ y ∷ []) more) (sym (sym (same_by by strays y d one) ∙ is))
      (refl, (refl, stays b (y ∷ []) version.1))));
}
point_at Made F G Q want by strays stays d left (Err (exits.Does other)) is none gives = tt
point_at Made F G Q want by strays stays d left (Err (exits.Refused r)) is none gives = absurd none
point_at Made F G Q want by strays stays d left (Err exits.Waits) is none gives = tt
point_at Made F G Q want by strays stays d left (Err exits.Strays) is none gives = tt
point_at Made F G Q want by strays stays d left (Err exits.OutOfMemory) is none gives = tt

pub point_goes : {A : Type 0} (Made : Doing) (span : List Deed) (F G : List Deed → Type 0) (Q : A → Type 0) (want : Want) (by : Deed → Result A Exit)
    → ((x y : Asked) → by (deeds.Asked y) ≡ by (deeds.Asked x)) → Grows F G
    → ((d : Deed) (past : List Deed) → Made want d past → F past → IsNoRefusal (by d)) → ((d : Deed) (past : List Deed) (x : A) → Made want d past → by d ≡ Ok x → Q x)
    → Goes Made span Q (Same (λ x b. G b)) (Only F (next want >>= λ e. walked (by e))) (next want >>= λ e. walked (by e))
point_goes Made span F G Q want by strays stays none gives [] end heeded = tt
point_goes Made span F G Q want by strays stays none gives (d ∷ left) end heeded =
    let made = next_made Made F (next want >>= λ e. walked (by e)) want (d ∷ left) left d refl refl heeded in
    point_at Made F G Q want by strays stays d left (by d) refl (none d made.0 made.1 made.2) (λ x is. gives d made.0 x made.1 is)

-- ---- a call that is needed

-- the call was made so, and was answered
pub record IsAnswered (Made : Doing) (a : Alias) (call : Call) (x : Asked) (answer : Answer) : Type 0 where
  pub past : List Deed
  pub made : Made (wants.Ask a call) (deeds.Asked x) past
  pub is_call : is_ask a (kind_of call) x ≡ true
  pub says : x.outcome ≡ Some (outcomes.Answered answer)

-- it was so among these, too
pub record WasAnswered (Made : Doing) (a : Alias) (call : Call) (answer : Answer) (past : List Deed) : Type 0 where
  pub call_of : Asked
  pub finally : IsAnswered Made a call call_of answer
  pub then : Asked
  pub later : LaterAsked then call_of
  pub says : then.outcome ≡ Some (outcomes.Answered answer)
  pub stands : IsIn past (deeds.Asked then)

pub was_answered_stays : (Made : Doing) (a : Alias) (call : Call) (answer : Answer) → Stays (WasAnswered Made a call answer)
was_answered_stays Made a call answer b e was = record {
  call_of = was.call_of;
  finally = was.finally;
  then = was.then;
  later = was.later;
  says = was.says;
  stands = record {
    before = was.stands.before;
    after = was.stands.after ++ e;
    split = ap (λ (l : List Deed). l ++ e) was.stands.split ∙ append_assoc was.stands.before (deeds.Asked was.then ∷ was.stands.after) e;
  };
}

abbrev pub Answers : Doing → Alias → Call → Answer → Type 0
Answers Made a call answer = (x : Asked) × IsAnswered Made a call x answer

-- with the answer, and with this
abbrev pub AnsweredIn : Doing → (List Deed → Type 0) → Alias → Call → Answer → List Deed → Type 0
AnsweredIn Made F a call answer past = F past × WasAnswered Made a call answer past

-- no outcome of the call refuses the command, where this is so of what was done before
abbrev pub IsGranted : Doing → (List Deed → Type 0) → Alias → Call → Type 0
IsGranted Made F a call = (x : Asked) (o : Outcome) (past : List Deed) → Made (wants.Ask a call) (deeds.Asked x) past → F past → is_ask a (kind_of call) x ≡ true
    → x.outcome ≡ Some o → refusal_after x o ≡ None

abbrev after_if : Bool → Asked → Course Answer
after_if b x rest =
    goes_on (cond b (Ok x) (Err exits.Strays)) (λ y. walked (settling y.outcome) >>= λ o. walked (needing (refusal_after y o) o)) rest

abbrev settled_by : Asked → Option Outcome → Course Answer
settled_by x out = walked (settling out) >>= λ o. walked (needing (refusal_after x o) o)

-- as a call was that came to the same, or to nothing yet
needed_was : (After : Answer → List Deed → Type 0) (y : Asked) (answer : Answer) (out : Option Outcome) (more past : List Deed) (none : Option Refusal)
    → (out ≡ None) ⊎ (out ≡ Some (outcomes.Answered answer)) → refusal_after y (outcomes.Answered answer) ≡ none → none ≡ None
    → (out ≡ Some (outcomes.Answered answer) → After answer past)
    → Was After (settled_by y out more).came (settled_by y out more).rest past more
needed_was After y answer None more past q cases refusal is after = tt
needed_was After y answer (Some o) more past q (inl wrong) refusal is after = absurd (let bad : Some o ≡ None = wrong in cc)
needed_was After y answer (Some o) more past q (inr same) refusal is after =
    let one : o ≡ outcomes.Answered answer = (let both : Some o ≡ Some (outcomes.Answered answer) = same in cc) in
    subst (λ (p : Outcome). Was After (settled_by y (Some p) more).came (settled_by y (Some p) more).rest past more) (sym one)
    (subst (λ (q : Option Refusal). Was After (walked (needing q (outcomes.Answered answer)) more).came (walked (needing q (outcomes.Answered answer)) more).rest past more)
    (sym (refusal ∙ is)) (refl, after same))

unrefused : (o p : Option Refusal) → is_none p ≡ is_none o → o ≡ None → p ≡ None
unrefused o None same none = refl
unrefused o (Some r) same none = absurd (false≢true (same ∙ ap (λ (q : Option Refusal). is_none q) none))

ask_was : (After : Answer → List Deed → Type 0) (a : Alias) (kind : Kind) (x y : Asked) (answer : Answer) (b : Bool) (more past : List Deed)
    → is_ask a kind y ≡ b → b ≡ true → x.outcome ≡ Some (outcomes.Answered answer) → refusal_after x (outcomes.Answered answer) ≡ None → LaterAsked y x
    → (y.outcome ≡ Some (outcomes.Answered answer) → After answer past)
    → Was After (after_if b y more).came (after_if b y more).rest past more
ask_was After a kind x y answer false more past is same says none later after = absurd (false≢true same)
ask_was After a kind x y answer true more past is same says none later after =
    needed_was After y answer y.outcome more past (refusal_after y (outcomes.Answered answer)) (of_outcome later.outcome) refl
    (unrefused (refusal_after x (outcomes.Answered answer)) (refusal_after y (outcomes.Answered answer)) (sym (after_alike y x (outcomes.Answered answer) later)) none) after
  where
    of_outcome : (y.outcome ≡ None) ⊎ (x.outcome ≡ y.outcome) → (y.outcome ≡ None) ⊎ (y.outcome ≡ Some (outcomes.Answered answer))
    of_outcome (inl nothing) = inl nothing
    of_outcome (inr one) = inr (sym one ∙ says)

needed_at : (Made : Doing) (F : List Deed → Type 0) (a : Alias) (call : Call) → Stays F → IsGranted Made F a call → (x : Asked) (left past : List Deed)
    → Made (wants.Ask a call) (deeds.Asked x) past → F past → is_ask a (kind_of call) x ≡ true → (out : Option Outcome) → x.outcome ≡ out
    → Going (Answers Made a call) (Same (AnsweredIn Made F a call)) (Only F (needs a call)) (settled_by x out left).came (deeds.Asked x ∷ left) (settled_by x out left).rest
needed_at Made F a call stays granted x left past made fact ask None came = tt
needed_at Made F a call stays granted x left past made fact ask (Some (outcomes.GivenUp why)) came =
    absurd (let wrong : Some _ ≡ None = granted x (outcomes.GivenUp why) past made fact ask came in cc)
needed_at Made F a call stays granted x left past made fact ask (Some (outcomes.Answered answer)) came =
    let none = granted x (outcomes.Answered answer) past made fact ask came in
    let finally : IsAnswered Made a call x answer = record { past = past; made = made; is_call = ask; says = came } in
    subst (λ (q : Option Refusal). Going (Answers Made a call) (Same (AnsweredIn Made F a call)) (Only F (needs a call))
    (needing q (outcomes.Answered answer)) (deeds.Asked x ∷ left) left) (sym none)
    (record {
      used = deeds.Asked x ∷ [];
      split = refl;
      is = (x, finally);
      was = λ m b e more version later.
          itself_was (Same (AnsweredIn Made F a call) answer) F m (needs a call) b e more version
          (one_earlier (Same (AnsweredIn Made F a call) answer) (needs a call) b e more (deeds.Asked x) later
          (λ d one. earlier b more version.1 finally none d (deeds.Asked x) refl one));
    })
  where
    version_was : (b more : List Deed) → F b → IsAnswered Made a call x answer → refusal_after x (outcomes.Answered answer) ≡ None → (y : Asked) → LaterAsked y x
        → Was (Same (AnsweredIn Made F a call) answer) (needs a call (deeds.Asked y ∷ more)).came (needs a call (deeds.Asked y ∷ more)).rest (b ++ deeds.Asked y ∷ []) more
    version_was b more fact finally none y l =
        ask_was (Same (AnsweredIn Made F a call) answer) a (kind_of call) x y answer (is_ask a (kind_of call) y) more (b ++ deeds.Asked y ∷ []) refl
        (sym (later_ask a (kind_of call) y x l) ∙ ask) came none l
        (λ says. (
          refl,
          (
            stays b (deeds.Asked y ∷ []) fact,
            record {
              call_of = x;
              finally = finally;
              then = y;
              later = l;
              says = says;
              stands = record { before = b; after = []; split = refl };
            },
          ),
        ))

    earlier : (b more : List Deed) → F b → IsAnswered Made a call x answer → refusal_after x (outcomes.Answered answer) ≡ None → (d f : Deed) → f ≡ deeds.Asked x → LaterDeed d f
        → Was (Same (AnsweredIn Made F a call) answer) (needs a call (d ∷ more)).came (needs a call (d ∷ more)).rest (b ++ d ∷ []) more
    earlier b more fact finally none _ _ is (Itself d) =
        subst (λ (f : Deed). Was (Same (AnsweredIn Made F a call) answer) (needs a call (f ∷ more)).came (needs a call (f ∷ more)).rest (b ++ f ∷ []) more) (sym is)
        (version_was b more fact finally none x (itself x))
    earlier b more fact finally none _ _ is (Comes y z l) =
        let same : z ≡ x = (let both : deeds.Asked z ≡ deeds.Asked x = is in cc) in
        version_was b more fact finally none y (subst (λ (v : Asked). LaterAsked y v) same l)

pub needs_goes : (Made : Doing) (span : List Deed) (F : List Deed → Type 0) (a : Alias) (call : Call) → Stays F → IsGranted Made F a call
    → Goes Made span (Answers Made a call) (Same (AnsweredIn Made F a call)) (Only F (needs a call)) (needs a call)
needs_goes Made span F a call stays granted [] end heeded = tt
needs_goes Made span F a call stays granted (deeds.Asked x ∷ left) end heeded =
    let made = next_made Made F (needs a call) (wants.Ask a call) (deeds.Asked x ∷ left) left (deeds.Asked x) refl refl heeded in
    of_test (is_ask a (kind_of call) x) refl made.0 made.1 made.2
  where
    of_test : (b : Bool) → is_ask a (kind_of call) x ≡ b → (past : List Deed) → Made (wants.Ask a call) (deeds.Asked x) past → F past
        → Going (Answers Made a call) (Same (AnsweredIn Made F a call)) (Only F (needs a call)) (after_if b x left).came (deeds.Asked x ∷ left) (after_if b x left).rest
    of_test false is past made fact = tt
    of_test true is past made fact = needed_at Made F a call stays granted x left past made fact is x.outcome refl
needs_goes Made span F a call stays granted (deeds.Took reply ∷ left) end heeded = tt
needs_goes Made span F a call stays granted (deeds.Read reply ∷ left) end heeded = tt
needs_goes Made span F a call stays granted (deeds.Intended b reply ∷ left) end heeded = tt
needs_goes Made span F a call stays granted (deeds.Recorded b reply ∷ left) end heeded = tt
needs_goes Made span F a call stays granted (deeds.Drained b reply ∷ left) end heeded = tt
needs_goes Made span F a call stays granted (deeds.Wrote b reply ∷ left) end heeded = tt
needs_goes Made span F a call stays granted (deeds.Told committed ∷ left) end heeded = tt

-- ---- what is tried

tried_passes : {A : Type 0} (r : Result A Exit) (want : Want) → Passes (trying r) want → Passes r want
tried_passes (Ok x) want p = tt
tried_passes (Err (exits.Does other)) want p = p
tried_passes (Err (exits.Refused r)) want p = tt
tried_passes (Err exits.Waits) want p = p
tried_passes (Err exits.Strays) want p = p
tried_passes (Err exits.OutOfMemory) want p = p

-- what was tried gave this
abbrev pub Tried : {A : Type 0} → (A → Type 0) → Result A Refusal → Type 0
Tried Q (Ok x) = Q x
Tried Q (Err r) = ⊥

abbrev pub TriedIn : {A : Type 0} → (A → List Deed → Type 0) → Result A Refusal → List Deed → Type 0
TriedIn G (Ok x) past = G x past
TriedIn G (Err r) past = ⊥

trying_was : {A : Type 0} (G : A → List Deed → Type 0) (x : A) (r : Result A Exit) (rest past more : List Deed) → Was (Same G x) r rest past more
    → Was (Same (TriedIn G) (Ok x)) (trying r) rest past more
trying_was G x (Ok y) rest past more was = (was.0, (ap (λ z. Ok z) was.1.0, was.1.1))
trying_was G x (Err (exits.Does want)) rest past more was = absurd was
trying_was G x (Err (exits.Refused r)) rest past more was = absurd was
trying_was G x (Err exits.Waits) rest past more was = tt
trying_was G x (Err exits.Strays) rest past more was = absurd was
trying_was G x (Err exits.OutOfMemory) rest past more was = absurd was

tried_at : {A : Type 0} (F : List Deed → Type 0) (Q : A → Type 0) (G : A → List Deed → Type 0) (n : Course A) (r : Result A Exit) (rest left : List Deed)
    → Going Q (Same G) (Only F n) r rest left → Going (Tried Q) (Same (TriedIn G)) (Only F (tried n)) (trying r) rest left
tried_at {A} F Q G n (Ok x) rest left goes = record {
  used = goes.used;
  split = goes.split;
  is = goes.is;
  was = λ m b e more version later.
      itself_was (Same (TriedIn G) (Ok x)) F m (tried n) b e more version
      (trying_was G x (n (e ++ more)).came (n (e ++ more)).rest (b ++ e) more (goes.was n b e more (refl, version.1) later));
}
tried_at F Q G n (Err (exits.Does want)) rest left goes = tt
tried_at F Q G n (Err (exits.Refused r)) rest left goes = absurd goes
tried_at F Q G n (Err exits.Waits) rest left goes = tt
tried_at F Q G n (Err exits.Strays) rest left goes = tt
tried_at F Q G n (Err exits.OutOfMemory) rest left goes = tt

pub tried_goes : {A : Type 0} (Made : Doing) (span : List Deed) (F : List Deed → Type 0) (Q : A → Type 0) (G : A → List Deed → Type 0) (n : Course A)
    → Goes Made span Q (Same G) (Only F n) n → Goes Made span (Tried Q) (Same (TriedIn G)) (Only F (tried n)) (tried n)
tried_goes {A} Made span F Q G n goes rest end heeded = tried_at F Q G n (n rest).came rest (n rest).rest (goes rest end inner)
  where
    inner : IsHeeded Made (Only F n) rest
    inner done more d split =
        let demanded = heeded done more d split in
        record {
          before = demanded.before;
          along = demanded.along;
          course = n;
          want = demanded.want;
          version = (refl, demanded.version.1);
          later = demanded.later;
          made = demanded.made;
          passes = tried_passes (n demanded.along).came demanded.want
              (subst (λ (m : Course (Result A Refusal)). Passes (m demanded.along).came demanded.want) demanded.version.0 demanded.passes);
        }

-- Courses along a span of which it is known, deed by deed, as what each was demanded when it was done: point by point, and then by how they are put
-- together. A course goes well along a span if it is not refused there. Courses are those of vtctldclient (Vitess manual).
use Rattle.std.proofs.Common.{◌≡◌, refl, sym, ap, subst, ◌∙◌, append_assoc, List, [], ◌∷◌, ◌++◌, Result, Ok, Err}
use Rattle.std.specs.Prelude.{⊤}
use Rattle.shard_calls.specs.declared.span.Deed.{Deed}
use Rattle.courses.specs.declared.want.Exit.{Exit}
use Rattle.courses.specs.declared.want.Exit.TheVariants as exits
use Rattle.courses.specs.declared.want.Want.{Want}
use Rattle.courses.specs.Sound.{IsEnd}
use Rattle.courses.specs.Walks.{Course, Walked, walked, goes_on, gives, ◌>>=◌}
use Rattle.completeness.proofs.LaterLemmas.{Later, Nothing, More}

-- ---- how it was when a deed was done

-- what is known of a deed that was done as this, behind these
abbrev pub Doing : Type 1
Doing = Want → Deed → List Deed → Type 0

-- a course as it was at some time, when the command had done so much
abbrev pub Versions : Type 0 → Type 1
Versions A = Course A → List Deed → Type 0

-- a course that comes so far may demand this, itself or later
abbrev pub Passes : {A : Type 0} → Result A Exit → Want → Type 0
Passes (Ok x) want = ⊤
Passes (Err (exits.Does other)) want = other ≡ want
Passes (Err (exits.Refused r)) want = ⊤
Passes (Err exits.Waits) want = ⊥
Passes (Err exits.Strays) want = ⊥
Passes (Err exits.OutOfMemory) want = ⊥

-- when the deed behind these was done, a version of the course came to demand it
pub record IsDemanded (A : Type 0) (Made : Doing) (M : Versions A) (done : List Deed) (d : Deed) : Type 0 where
  pub before : List Deed
  pub along : List Deed
  pub course : Course A
  pub want : Want
  pub version : M course before
  pub later : Later along done
  pub made : Made want d (before ++ along)
  pub passes : Passes (course along).came want

abbrev pub IsHeeded : {A : Type 0} → Doing → Versions A → List Deed → Type 0
IsHeeded {A} Made M rest = (done more : List Deed) (d : Deed) → rest ≡ done ++ d ∷ more → IsDemanded A Made M done d

-- ---- how it goes

-- so a version came along what was known then
abbrev pub Was : {A : Type 0} → (A → List Deed → Type 0) → Result A Exit → List Deed → List Deed → List Deed → Type 0
Was After (Ok y) rest past more = (rest ≡ more) × After y past
Was After (Err (exits.Does want)) rest past more = ⊥
Was After (Err (exits.Refused r)) rest past more = ⊥
Was After (Err exits.Waits) rest past more = ⊤
Was After (Err exits.Strays) rest past more = ⊥
Was After (Err exits.OutOfMemory) rest past more = ⊥

-- it gives this for what it used of the span, and each version gave the like for it or waited
pub record GoesTo (A : Type 0) (Q : A → Type 0) (After : A → A → List Deed → Type 0) (M : Versions A) (x : A) (rest left : List Deed) : Type 0 where
  pub used : List Deed
  pub split : rest ≡ used ++ left
  pub is : Q x
  pub was : (m : Course A) (b e more : List Deed) → M m b → Later e used → Was (After x) (m (e ++ more)).came (m (e ++ more)).rest (b ++ e) more

abbrev pub Going : {A : Type 0} → (A → Type 0) → (A → A → List Deed → Type 0) → Versions A → Result A Exit → List Deed → List Deed → Type 0
Going {A} Q After M (Ok x) rest left = GoesTo A Q After M x rest left
Going Q After M (Err (exits.Does want)) rest left = ⊤
Going Q After M (Err (exits.Refused r)) rest left = ⊥
Going Q After M (Err exits.Waits) rest left = ⊤
Going Q After M (Err exits.Strays) rest left = ⊤
Going Q After M (Err exits.OutOfMemory) rest left = ⊤

-- along this end of the span
abbrev pub GoesAlong : {A : Type 0} → Doing → (A → Type 0) → (A → A → List Deed → Type 0) → Versions A → Course A → List Deed → Type 0
GoesAlong Made Q After M n rest = IsHeeded Made M rest → Going Q After M (n rest).came rest (n rest).rest

abbrev pub Goes : {A : Type 0} → Doing → List Deed → (A → Type 0) → (A → A → List Deed → Type 0) → Versions A → Course A → Type 0
Goes Made span Q After M n = (rest : List Deed) → IsEnd span rest → GoesAlong Made Q After M n rest

-- ---- lists

record LaterParts (e xs ys : List Deed) : Type 0 where
  first : List Deed
  second : List Deed
  split : e ≡ first ++ second
  later : Later first xs
  then : Later second ys

later_parts : (e xs ys : List Deed) → Later e (xs ++ ys) → LaterParts e xs ys
later_parts e [] ys l = record { first = []; second = e; split = refl; later = Nothing; then = l }
later_parts _ (x ∷ xs) ys (More d _ ds _ one rest) =
    let parts = later_parts ds xs ys rest in
    record {
      first = d ∷ parts.first;
      second = parts.second;
      split = ap (λ (l : List Deed). d ∷ l) parts.split;
      later = More d x parts.first xs one parts.later;
      then = parts.then;
    }

pub none_earlier : (e : List Deed) → Later e [] → e ≡ []
none_earlier _ Nothing = refl

pub append_none : (b : List Deed) → b ++ [] ≡ b
append_none [] = refl
append_none (d ∷ b) = ap (λ (l : List Deed). d ∷ l) (append_none b)

end_of : (span rest used left : List Deed) → IsEnd span rest → rest ≡ used ++ left → IsEnd span left
end_of span rest used left end split = record {
  before = end.before ++ used;
  split = end.split ∙ ap (λ (l : List Deed). end.before ++ l) split ∙ sym (append_assoc end.before used left);
}

-- ---- one behind another

-- a version of the second course follows a version of the first
pub record IsBound (A B : Type 0) (M : Versions A) (After : A → A → List Deed → Type 0) (N : A → Versions B) (m : Course B) (b : List Deed) : Type 0 where
  pub first : Course A
  pub next : A → Course B
  pub version : M first b
  pub is : m ≡ first >>= next
  pub goes : (x y : A) (past : List Deed) → After x y past → N x (next y) past

first_passes : {A B : Type 0} (r : Result A Exit) (f : A → Course B) (rest : List Deed) (want : Want) → Passes (goes_on r f rest).came want → Passes r want
first_passes (Ok x) f rest want p = tt
first_passes (Err (exits.Does other)) f rest want p = p
first_passes (Err (exits.Refused r)) f rest want p = tt
first_passes (Err exits.Waits) f rest want p = p
first_passes (Err exits.Strays) f rest want p = p
first_passes (Err exits.OutOfMemory) f rest want p = p

pub bind_along : {A B : Type 0} (Made : Doing) (span : List Deed) (Q : A → Type 0) (After : A → A → List Deed → Type 0) (M : Versions A)
    (S : B → Type 0) (Then : B → B → List Deed → Type 0) (N : A → Versions B) (P : Versions B) (n : Course A) (g : A → Course B) (rest : List Deed)
    → GoesAlong Made Q After M n rest → ((x : A) → Q x → Goes Made span S Then (N x) (g x)) → ((m : Course B) (b : List Deed) → P m b → IsBound A B M After N m b)
    → IsEnd span rest → GoesAlong Made S Then P (n >>= g) rest
bind_along {A} {B} Made span Q After M S Then N P n g rest ns gs bound end heeded = of_came (n rest).came (n rest).rest (ns first)
  where
    first : IsHeeded Made M rest
    first done more d split =
        let demanded = heeded done more d split in
        let by = bound demanded.course demanded.before demanded.version in
        record {
          before = demanded.before;
          along = demanded.along;
          course = by.first;
          want = demanded.want;
          version = by.version;
          later = demanded.later;
          made = demanded.made;
          passes = first_passes (by.first demanded.along).came by.next (by.first demanded.along).rest demanded.want
              (subst (λ (m : Course B). Passes (m demanded.along).came demanded.want) by.is demanded.passes);
        }

    of_came : (r : Result A Exit) (left : List Deed) → Going Q After M r rest left → Going S Then P (goes_on r g left).came rest (goes_on r g left).rest
    of_came (Ok x) left goes = lift (g x left).came (g x left).rest (gs x goes.is left (end_of span rest goes.used left end goes.split) next_heeded)
      where
        then_was : (r : Result A Exit) (kept b e more : List Deed) (f : A → Course B) → ((y : A) → After x y (b ++ e) → N x (f y) (b ++ e))
            → (want : Want) → Was (After x) r kept (b ++ e) more → Passes (goes_on r f kept).came want
            → (y : A) × (N x (f y) (b ++ e)) × (Passes (f y more).came want)
        then_was (Ok y) kept b e more f versions want was passes =
            (y, versions y was.1, subst (λ (l : List Deed). Passes (f y l).came want) was.0 passes)
        then_was (Err (exits.Does other)) kept b e more f versions want was passes = absurd was
        then_was (Err (exits.Refused r)) kept b e more f versions want was passes = absurd was
        then_was (Err exits.Waits) kept b e more f versions want was passes = absurd passes
        then_was (Err exits.Strays) kept b e more f versions want was passes = absurd was
        then_was (Err exits.OutOfMemory) kept b e more f versions want was passes = absurd was

        next_heeded : IsHeeded Made (N x) left
        next_heeded done more d split =
            let demanded = heeded (goes.used ++ done) more d
            (goes.split ∙ ap (λ (l : List Deed). goes.used ++ l) split ∙ sym (append_assoc goes.used done (d ∷ more))) in
            let parts = later_parts demanded.along goes.used done demanded.later in
            let by = bound demanded.course demanded.before demanded.version in
            let passes : Passes ((by.first >>= by.next) (parts.first ++ parts.second)).came demanded.want =
            subst (λ (l : List Deed). Passes ((by.first >>= by.next) l).came demanded.want) parts.split
            (subst (λ (m : Course B). Passes (m demanded.along).came demanded.want) by.is demanded.passes) in
            let was = then_was (by.first (parts.first ++ parts.second)).came (by.first (parts.first ++ parts.second)).rest demanded.before parts.first parts.second by.next
            (λ y after. by.goes x y (demanded.before ++ parts.first) after) demanded.want
            (goes.was by.first demanded.before parts.first parts.second by.version parts.later) passes in
            record {
              before = demanded.before ++ parts.first;
              along = parts.second;
              course = by.next was.0;
              want = demanded.want;
              version = was.1;
              later = parts.then;
              made = subst (λ (l : List Deed). Made demanded.want d l)
                  (ap (λ (l : List Deed). demanded.before ++ l) parts.split ∙ sym (append_assoc demanded.before parts.first parts.second)) demanded.made;
              passes = was.2;
            }

        both : (z : B) (used : List Deed) (b e h more : List Deed) (f : A → Course B) (r : Result A Exit) (kept : List Deed)
            → ((y : A) → After x y (b ++ e) → N x (f y) (b ++ e))
            → ((m : Course B) (past h more : List Deed) → N x m past → Later h used → Was (Then z) (m (h ++ more)).came (m (h ++ more)).rest (past ++ h) more)
            → Later h used → Was (After x) r kept (b ++ e) (h ++ more) → Was (Then z) (goes_on r f kept).came (goes_on r f kept).rest ((b ++ e) ++ h) more
        both z used b e h more f (Ok y) kept versions second later was =
            subst (λ (l : List Deed). Was (Then z) (f y l).came (f y l).rest ((b ++ e) ++ h) more) (sym was.0)
            (second (f y) (b ++ e) h more (versions y was.1) later)
        both z used b e h more f (Err (exits.Does other)) kept versions second later was = absurd was
        both z used b e h more f (Err (exits.Refused r)) kept versions second later was = absurd was
        both z used b e h more f (Err exits.Waits) kept versions second later was = tt
        both z used b e h more f (Err exits.Strays) kept versions second later was = absurd was
        both z used b e h more f (Err exits.OutOfMemory) kept versions second later was = absurd was

        lift : (s : Result B Exit) (end_left : List Deed) → Going S Then (N x) s left end_left → Going S Then P s rest end_left
        lift (Ok z) end_left second = record {
          used = goes.used ++ second.used;
          split = goes.split ∙ ap (λ (l : List Deed). goes.used ++ l) second.split ∙ sym (append_assoc goes.used second.used end_left);
          is = second.is;
          was = λ m b e more version later.
              let parts = later_parts e goes.used second.used later in
              let by = bound m b version in
              let there : (by.first >>= by.next) (parts.first ++ (parts.second ++ more)) ≡ m (e ++ more) =
              sym (ap (λ (c : Course B). c (e ++ more)) by.is ∙ ap (λ (l : List Deed). (by.first >>= by.next) (l ++ more)) parts.split
              ∙ ap (λ (l : List Deed). (by.first >>= by.next) l) (append_assoc parts.first parts.second more)) in
              let past : (b ++ parts.first) ++ parts.second ≡ b ++ e =
              append_assoc b parts.first parts.second ∙ ap (λ (l : List Deed). b ++ l) (sym parts.split) in
              subst (λ (l : List Deed). Was (Then z) (m (e ++ more)).came (m (e ++ more)).rest l more) past
              (subst (λ (w : Walked B). Was (Then z) w.came w.rest ((b ++ parts.first) ++ parts.second) more) there
              (both z second.used b parts.first parts.second more by.next (by.first (parts.first ++ (parts.second ++ more))).came
              (by.first (parts.first ++ (parts.second ++ more))).rest (λ y after. by.goes x y (b ++ parts.first) after) second.was parts.then
              (goes.was by.first b parts.first (parts.second ++ more) by.version parts.later)));
        }
        lift (Err (exits.Does want)) end_left second = tt
        lift (Err (exits.Refused r)) end_left second = second
        lift (Err exits.Waits) end_left second = tt
        lift (Err exits.Strays) end_left second = tt
        lift (Err exits.OutOfMemory) end_left second = tt
    of_came (Err (exits.Does want)) left goes = tt
    of_came (Err (exits.Refused r)) left goes = goes
    of_came (Err exits.Waits) left goes = tt
    of_came (Err exits.Strays) left goes = tt
    of_came (Err exits.OutOfMemory) left goes = tt

-- ---- courses that were what they are

-- the course itself, where this is so of what was done before
abbrev pub Only : {A : Type 0} → (List Deed → Type 0) → Course A → Versions A
Only Fact n m past = (m ≡ n) × Fact past

-- nothing was done before
abbrev pub IsFirst : List Deed → Type 0
IsFirst past = past ≡ []

-- the same value, where this is so of it and of what was done before
abbrev pub Same : {A : Type 0} → (A → List Deed → Type 0) → A → A → List Deed → Type 0
Same Fact x y past = (y ≡ x) × Fact x past

only_bound : {A B : Type 0} (F : List Deed → Type 0) (G : A → List Deed → Type 0) (n : Course A) (g : A → Course B) (m : Course B) (b : List Deed)
    → Only F (n >>= g) m b → IsBound A B (Only F n) (Same G) (λ x. Only (G x) (g x)) m b
only_bound F G n g m b is = record {
  first = n;
  next = g;
  version = (refl, is.1);
  is = is.0;
  goes = λ x y past after. (ap (λ z. g z) after.0, after.1);
}

pub same_along : {A B : Type 0} (Made : Doing) (span : List Deed) (F : List Deed → Type 0) (Q : A → Type 0) (G : A → List Deed → Type 0) (S : B → Type 0)
    (Then : B → B → List Deed → Type 0) (n : Course A) (g : A → Course B) (rest : List Deed)
    → GoesAlong Made Q (Same G) (Only F n) n rest → ((x : A) → Q x → Goes Made span S Then (Only (G x) (g x)) (g x)) → IsEnd span rest
    → GoesAlong Made S Then (Only F (n >>= g)) (n >>= g) rest
same_along Made span F Q G S Then n g rest ns gs end =
    bind_along Made span Q (Same G) (Only F n) S Then (λ x. Only (G x) (g x)) (Only F (n >>= g)) n g rest ns gs (λ m b is. only_bound F G n g m b is) end

pub bind_goes : {A B : Type 0} (Made : Doing) (span : List Deed) (F : List Deed → Type 0) (Q : A → Type 0) (G : A → List Deed → Type 0) (S : B → Type 0)
    (Then : B → B → List Deed → Type 0) (n : Course A) (g : A → Course B)
    → Goes Made span Q (Same G) (Only F n) n → ((x : A) → Q x → Goes Made span S Then (Only (G x) (g x)) (g x)) → Goes Made span S Then (Only F (n >>= g)) (n >>= g)
bind_goes Made span F Q G S Then n g ns gs rest end = same_along Made span F Q G S Then n g rest (ns rest end) gs end

-- ---- points

-- a fact of what was done that stays
abbrev pub Stays : (List Deed → Type 0) → Type 0
Stays F = (b e : List Deed) → F b → F (b ++ e)

-- no refusal
abbrev pub IsNoRefusal : {A : Type 0} → Result A Exit → Type 0
IsNoRefusal (Ok x) = ⊤
IsNoRefusal (Err (exits.Does want)) = ⊤
IsNoRefusal (Err (exits.Refused r)) = ⊥
IsNoRefusal (Err exits.Waits) = ⊤
IsNoRefusal (Err exits.Strays) = ⊤
IsNoRefusal (Err exits.OutOfMemory) = ⊤

pure_at : {A : Type 0} (F : List Deed → Type 0) (Q : A → Type 0) (r s : Result A Exit) (rest : List Deed) → s ≡ r → IsNoRefusal s → ((x : A) → s ≡ Ok x → Q x)
    → Going Q (Same (λ x b. F b)) (Only F (walked r)) s rest rest
pure_at F Q r (Ok x) rest same none gives = record {
  used = [];
  split = refl;
  is = gives x refl;
  was = λ m b e more version later.
      let nothing = none_earlier e later in
      let there : walked (Ok x) more ≡ m (e ++ more) =
      ap (λ v. walked v more) same ∙ sym (ap (λ l. m (l ++ more)) nothing ∙ ap (λ c. c more) version.0) in
      subst (λ w. Was (Same (λ x b. F b) x) w.came w.rest (b ++ e) more) there
      (refl, (refl, subst F (sym (ap (λ (l : List Deed). b ++ l) nothing ∙ append_none b)) version.1));
}
pure_at F Q r (Err (exits.Does want)) rest same none gives = tt
pure_at F Q r (Err (exits.Refused x)) rest same none gives = absurd none
pure_at F Q r (Err exits.Waits) rest same none gives = tt
pure_at F Q r (Err exits.Strays) rest same none gives = tt
pure_at F Q r (Err exits.OutOfMemory) rest same none gives = tt

-- what comes of no deed
pub pure_goes : {A : Type 0} (Made : Doing) (span : List Deed) (F : List Deed → Type 0) (Q : A → Type 0) (r : Result A Exit) → IsNoRefusal r
    → ((x : A) → r ≡ Ok x → Q x) → Goes Made span Q (Same (λ x b. F b)) (Only F (walked r)) (walked r)
pure_goes Made span F Q r none gives rest end heeded = pure_at F Q r r rest refl none gives

-- ---- less

weaker_was : {A : Type 0} (x : A) (G H : A → List Deed → Type 0) (r : Result A Exit) (rest past more : List Deed) → ((b : List Deed) → G x b → H x b)
    → Was (Same G x) r rest past more → Was (Same H x) r rest past more
weaker_was x G H (Ok y) rest past more less was = (was.0, (was.1.0, less past was.1.1))
weaker_was x G H (Err (exits.Does want)) rest past more less was = was
weaker_was x G H (Err (exits.Refused r)) rest past more less was = was
weaker_was x G H (Err exits.Waits) rest past more less was = was
weaker_was x G H (Err exits.Strays) rest past more less was = was
weaker_was x G H (Err exits.OutOfMemory) rest past more less was = was

weaker_at : {A : Type 0} (Q S : A → Type 0) (G H : A → List Deed → Type 0) (M : Versions A) (r : Result A Exit) (rest left : List Deed) → ((x : A) → Q x → S x)
    → ((x : A) (b : List Deed) → Q x → G x b → H x b) → Going Q (Same G) M r rest left → Going S (Same H) M r rest left
weaker_at Q S G H M (Ok x) rest left gives less goes = record {
  used = goes.used;
  split = goes.split;
  is = gives x goes.is;
  was = λ m b e more version later.
      weaker_was x G H (m (e ++ more)).came (m (e ++ more)).rest (b ++ e) more (λ past fact. less x past goes.is fact) (goes.was m b e more version later);
}
weaker_at Q S G H M (Err (exits.Does want)) rest left gives less goes = goes
weaker_at Q S G H M (Err (exits.Refused r)) rest left gives less goes = goes
weaker_at Q S G H M (Err exits.Waits) rest left gives less goes = goes
weaker_at Q S G H M (Err exits.Strays) rest left gives less goes = goes
weaker_at Q S G H M (Err exits.OutOfMemory) rest left gives less goes = goes

-- what is said of it may be less
pub weaker_goes : {A : Type 0} (Made : Doing) (span : List Deed) (Q S : A → Type 0) (G H : A → List Deed → Type 0) (M : Versions A) (n : Course A) → ((x : A) → Q x → S x)
    → ((x : A) (b : List Deed) → Q x → G x b → H x b) → Goes Made span Q (Same G) M n → Goes Made span S (Same H) M n
weaker_goes Made span Q S G H M n gives less goes rest end heeded = weaker_at Q S G H M (n rest).came rest (n rest).rest gives less (goes rest end heeded)

-- of fewer versions
narrower_at : {A : Type 0} (Q : A → Type 0) (After : A → A → List Deed → Type 0) (M N : Versions A) (r : Result A Exit) (rest left : List Deed)
    → ((m : Course A) (b : List Deed) → M m b → N m b) → Going Q After N r rest left → Going Q After M r rest left
narrower_at Q After M N (Ok x) rest left fewer goes = record {
  used = goes.used;
  split = goes.split;
  is = goes.is;
  was = λ m b e more version later. goes.was m b e more (fewer m b version) later;
}
narrower_at Q After M N (Err (exits.Does want)) rest left fewer goes = goes
narrower_at Q After M N (Err (exits.Refused r)) rest left fewer goes = goes
narrower_at Q After M N (Err exits.Waits) rest left fewer goes = goes
narrower_at Q After M N (Err exits.Strays) rest left fewer goes = goes
narrower_at Q After M N (Err exits.OutOfMemory) rest left fewer goes = goes

pub narrower_goes : {A : Type 0} (Made : Doing) (span : List Deed) (Q : A → Type 0) (After : A → A → List Deed → Type 0) (M N : Versions A) (n : Course A)
    → ((m : Course A) (b : List Deed) → M m b → N m b) → Goes Made span Q After N n → Goes Made span Q After M n
narrower_goes Made span Q After M N n fewer goes rest end heeded =
    narrower_at Q After M N (n rest).came rest (n rest).rest fewer
    (goes rest end
    (λ done more d split.
    let demanded = heeded done more d split in
    record {
      before = demanded.before;
      along = demanded.along;
      course = demanded.course;
      want = demanded.want;
      version = fewer demanded.course demanded.before demanded.version;
      later = demanded.later;
      made = demanded.made;
      passes = demanded.passes;
    }))

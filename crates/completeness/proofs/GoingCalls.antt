-- The same call of many, along a span of which it is known as what each deed was demanded: those that are called are called in order, one event each.
-- Courses are those of vtctldclient (Vitess manual).
use Rattle.std.proofs.Common.{◌≡◌, ◌⊎◌, inl, inr, refl, sym, ap, subst, ◌∙◌, Bool, true, false, List, [], ◌∷◌, ◌++◌, take, length, Some, None, Option, Result, Ok, Err, cond}
use Rattle.std.specs.Prelude.{⊤}
use Rattle.std.specs.List.{list_any}
use Rattle.std.proofs.lemmas.Bool.{false≢true}
use Rattle.shard_names.specs.declared.alias.Alias.{Alias}
use Rattle.shard_calls.specs.declared.call.Call.{Call}
use Rattle.shard_calls.specs.declared.group.Group.{Group}
use Rattle.shard_calls.specs.declared.span.Asked.{Asked}
use Rattle.shard_calls.specs.declared.span.Deed.{Deed}
use Rattle.shard_calls.specs.declared.span.Deed.TheVariants as deeds
use Rattle.shard_calls.specs.declared.span.Kind.{Kind}
use Rattle.shard_calls.specs.Kinds.{kind_of}
use Rattle.courses.specs.declared.want.Exit.{Exit}
use Rattle.courses.specs.declared.want.Exit.TheVariants as exits
use Rattle.courses.specs.Sound as sound
use Rattle.courses.specs.Sound.{AreCalled, IsEnd, IsPart}
use Rattle.courses.specs.Walks.{Course, Walked, walked, goes_on, asked, is_ask, called_all, calling, is_out, all_settled, calls_all}
use Rattle.completeness.proofs.GoingLemmas.{Doing, Was, Going, Goes, Only, Stays, append_none}
use Rattle.completeness.proofs.LaterLemmas.{Later, Nothing, More, LaterDeed, Itself, Comes, later_ask}

-- ---- those that were called

-- these deeds are calls of all of them, and so they were earlier
record Called (them : List Alias) (kind : Kind) (rest left : List Deed) : Type 0 where
  used : List Deed
  split : rest ≡ used ++ left
  was : (e more : List Deed) → Later e used → called_all them kind (e ++ more) ≡ walked (Ok None) more
  part : (e more : List Deed) → Later e used → take (length them) (e ++ more) ≡ e

asked_earlier : (a : Alias) (kind : Kind) (d e : Deed) (x : Asked) → LaterDeed e d → asked a kind d ≡ Ok x → (y : Asked) × (asked a kind e ≡ Ok y)
asked_earlier a kind _ _ x (Itself d) is = (x, is)
asked_earlier a kind _ _ x (Comes y z l) is = of_test (is_ask a kind z) (is_ask a kind y) refl (later_ask a kind y z l) is
  where
    of_test : (b c : Bool) → is_ask a kind y ≡ c → b ≡ c → cond b (Ok z) (Err exits.Strays) ≡ Ok x → (v : Asked) × (cond c (Ok y) (Err exits.Strays) ≡ Ok v)
    of_test true true e f k = (y, refl)
    of_test false c e f k = absurd (let wrong : Err exits.Strays ≡ Ok x = k in cc)
    of_test true false e f k = absurd (false≢true (sym f))

-- how far those are called is no refusal
abbrev is_no_refusal : Result (Option Alias) Exit → Bool
is_no_refusal (Ok x) = true
is_no_refusal (Err (exits.Does want)) = true
is_no_refusal (Err (exits.Refused r)) = false
is_no_refusal (Err exits.Waits) = true
is_no_refusal (Err exits.Strays) = true
is_no_refusal (Err exits.OutOfMemory) = true

asked_or_not : (a : Alias) (kind : Kind) (d : Deed) → ((x : Asked) × (asked a kind d ≡ Ok x)) ⊎ (asked a kind d ≡ Err exits.Strays)
asked_or_not a kind (deeds.Asked x) = of_test (is_ask a kind x)
  where
    of_test : (b : Bool) → ((y : Asked) × (cond b (Ok x) (Err exits.Strays) ≡ Ok y)) ⊎ (cond b (Ok x) (Err exits.Strays) ≡ Err exits.Strays)
    of_test true = inl (x, refl)
    of_test false = inr refl
asked_or_not a kind (deeds.Took reply) = inr refl
asked_or_not a kind (deeds.Read reply) = inr refl
asked_or_not a kind (deeds.Intended b reply) = inr refl
asked_or_not a kind (deeds.Recorded b reply) = inr refl
asked_or_not a kind (deeds.Drained b reply) = inr refl
asked_or_not a kind (deeds.Wrote b reply) = inr refl
asked_or_not a kind (deeds.Told committed) = inr refl

never_refused : (them : List Alias) (kind : Kind) (rest : List Deed) → is_no_refusal (called_all them kind rest).came ≡ true
never_refused [] kind rest = refl
never_refused (a ∷ more) kind [] = refl
never_refused (a ∷ more) kind (d ∷ rest) = of_cases (asked_or_not a kind d) (never_refused more kind rest)
  where
    of_cases : ((x : Asked) × (asked a kind d ≡ Ok x)) ⊎ (asked a kind d ≡ Err exits.Strays) → is_no_refusal (called_all more kind rest).came ≡ true
        → is_no_refusal (goes_on (asked a kind d) (λ x. called_all more kind) rest).came ≡ true
    of_cases (inl is) rest_is = ap (λ (r : Result Asked Exit). is_no_refusal (goes_on r (λ x. called_all more kind) rest).came) is.1 ∙ rest_is
    of_cases (inr strays) rest_is = ap (λ (r : Result Asked Exit). is_no_refusal (goes_on r (λ x. called_all more kind) rest).came) strays

-- where all were called
called_so : (them : List Alias) (kind : Kind) (rest : List Deed) → (called_all them kind rest).came ≡ Ok None → Called them kind rest (called_all them kind rest).rest
called_so [] kind rest is = record {
  used = [];
  split = refl;
  was = none_was;
  part = none_part;
}
  where
    none_was : (e more : List Deed) → Later e [] → called_all [] kind (e ++ more) ≡ walked (Ok None) more
    none_was _ more Nothing = refl

    none_part : (e more : List Deed) → Later e [] → take 0 (e ++ more) ≡ e
    none_part _ more Nothing = refl
called_so (a ∷ more) kind [] is = absurd (let wrong : Ok (Some a) ≡ Ok None = is in cc)
called_so (a ∷ more) kind (d ∷ rest) is = of_cases (asked_or_not a kind d) (λ k. called_so more kind rest k) is
  where
    further : (r : Result Asked Exit) (x : Asked) → r ≡ Ok x → (goes_on r (λ x. called_all more kind) rest) ≡ called_all more kind rest
    further r x same = ap (λ (s : Result Asked Exit). goes_on s (λ x. called_all more kind) rest) same

    with_one : (x : Asked) → asked a kind d ≡ Ok x → Called more kind rest (called_all more kind rest).rest
        → Called (a ∷ more) kind (d ∷ rest) (called_all (a ∷ more) kind (d ∷ rest)).rest
    with_one x asks called =
        subst (λ (w : Walked (Option Alias)). Called (a ∷ more) kind (d ∷ rest) w.rest) (sym (further (asked a kind d) x asks))
        (record { used = d ∷ called.used; split = ap (λ (l : List Deed). d ∷ l) called.split; was = ones_was; part = ones_part })
      where
        ones_was : (e left : List Deed) → Later e (d ∷ called.used) → called_all (a ∷ more) kind (e ++ left) ≡ walked (Ok None) left
        ones_was _ left (More f _ es _ one later) =
            let earlier = asked_earlier a kind d f x one asks in
            ap (λ (s : Result Asked Exit). goes_on s (λ x. called_all more kind) (es ++ left)) earlier.1 ∙ called.was es left later

        ones_part : (e left : List Deed) → Later e (d ∷ called.used) → take (length (a ∷ more)) (e ++ left) ≡ e
        ones_part _ left (More f _ es _ one later) = ap (λ (l : List Deed). f ∷ l) (called.part es left later)

    of_cases : ((x : Asked) × (asked a kind d ≡ Ok x)) ⊎ (asked a kind d ≡ Err exits.Strays)
        → ((called_all more kind rest).came ≡ Ok None → Called more kind rest (called_all more kind rest).rest)
        → (called_all (a ∷ more) kind (d ∷ rest)).came ≡ Ok None → Called (a ∷ more) kind (d ∷ rest) (called_all (a ∷ more) kind (d ∷ rest)).rest
    of_cases (inl asks) rest_so k =
        with_one asks.0 asks.1 (rest_so (ap (λ (w : Walked (Option Alias)). w.came) (sym (further (asked a kind d) asks.0 asks.1)) ∙ k))
    of_cases (inr strays) rest_so k =
        absurd (let wrong : Err exits.Strays ≡ Ok None = sym (ap (λ (s : Result Asked Exit). (goes_on s (λ x. called_all more kind) rest).came) strays) ∙ k in cc)

-- ---- with what each came to

-- earlier they were the same calls, and settled, among what was done by then
abbrev pub SettledIn : (List Deed → Type 0) → List Deed → List Deed → List Deed → Type 0
SettledIn F ds es past = F past × Later es ds × (list_any is_out es ≡ false) × IsPart past es

later_none : (e ds : List Deed) → Later e ds → ds ≡ [] → e ≡ []
later_none _ _ Nothing same = refl
later_none _ _ (More d e ds es one rest) same = absurd (let wrong : e ∷ es ≡ [] = same in cc)

settled_at : (F : List Deed → Type 0) (them : List Alias) (call : Call) (Q : List Deed → Type 0) (rest left : List Deed) → Stays F → Called them (kind_of call) rest left
    → (out : Bool) → list_any is_out (take (length them) rest) ≡ out → (out ≡ false → Q (take (length them) rest))
    → Going Q (SettledIn F) (Only F (calls_all them call)) (cond out (Err exits.Waits) (Ok (take (length them) rest))) rest left
settled_at F them call Q rest left stays called true is gives = tt
settled_at F them call Q rest left stays called false is gives = record {
  used = called.used;
  split = called.split;
  is = gives refl;
  was = λ m b e more version later.
      subst (λ (c : Course (List Deed)). Was (SettledIn F (take (length them) rest)) (c (e ++ more)).came (c (e ++ more)).rest (b ++ e) more) (sym version.0)
      (subst (λ (w : Walked (Option Alias)).
      Was (SettledIn F (take (length them) rest)) (goes_on (goes_on w.came (λ a. walked (calling call a)) w.rest).came (λ x. walked (all_settled (take (length them) (e ++ more))))
      (goes_on w.came (λ a. walked (calling call a)) w.rest).rest).came (goes_on (goes_on w.came (λ a. walked (calling call a)) w.rest).came
      (λ x. walked (all_settled (take (length them) (e ++ more)))) (goes_on w.came (λ a. walked (calling call a)) w.rest).rest).rest (b ++ e) more)
      (sym (called.was e more later))
      (of_out e b more (list_any is_out (take (length them) (e ++ more))) refl version.1 (called.part e more later) later));
}
  where
    whole : take (length them) rest ≡ called.used
    whole = ap (λ (l : List Deed). take (length them) l) called.split ∙ called.part called.used left (same_later called.used)
      where
        same_later : (ds : List Deed) → Later ds ds
        same_later [] = Nothing
        same_later (d ∷ ds) = More d d ds ds (Itself d) (same_later ds)

    of_out : (e b more : List Deed) (o : Bool) → list_any is_out (take (length them) (e ++ more)) ≡ o → F b → take (length them) (e ++ more) ≡ e → Later e called.used
        → Was (SettledIn F (take (length them) rest)) (cond o (Err exits.Waits) (Ok (take (length them) (e ++ more)))) more (b ++ e) more
    of_out e b more true outs fact part later = tt
    of_out e b more false outs fact part later = (
      refl,
      (
        stays b e fact,
        subst (λ (l : List Deed). Later l (take (length them) rest)) (sym part) (subst (λ (l : List Deed). Later e l) (sym whole) later),
        outs,
        record { before = b; after = []; split = ap (λ (l : List Deed). b ++ l) (sym (append_none (take (length them) (e ++ more)) ∙ part)) },
      ),
    )

-- all are called, and none of it is a refusal
pub calls_goes : (Made : Doing) (span : List Deed) (F : List Deed → Type 0) (g : Group) (them : List Alias) (call : Call) → Stays F
    → sound.IsSound g span (λ r. ⊤) (calls_all them call) (λ done. AreCalled span them (kind_of call) done)
    → Goes Made span (λ done. AreCalled span them (kind_of call) done) (SettledIn F) (Only F (calls_all them call)) (calls_all them call)
calls_goes Made span F g them call stays are rest end heeded =
    of_came (called_all them (kind_of call) rest).came (called_all them (kind_of call) rest).rest (λ k. called_so them (kind_of call) rest k)
    (never_refused them (kind_of call) rest) (are rest end)
  where
    Q : List Deed → Type 0
    Q done = AreCalled span them (kind_of call) done

    walk : Result (Option Alias) Exit → List Deed → Walked (List Deed)
    walk r left = goes_on (goes_on r (λ a. walked (calling call a)) left).came (λ x. walked (all_settled (take (length them) rest))) (goes_on r (λ a. walked (calling call a)) left).rest

    of_settled : (out : Bool) (left : List Deed) → sound.Comes g span (λ r. ⊤) Q (cond out (Err exits.Waits) (Ok (take (length them) rest))) left → out ≡ false
        → Q (take (length them) rest)
    of_settled true left comes no_out = absurd (false≢true (sym no_out))
    of_settled false left comes no_out = comes.1

    of_came : (r : Result (Option Alias) Exit) (left : List Deed) → (r ≡ Ok None → Called them (kind_of call) rest left) → is_no_refusal r ≡ true
        → sound.Comes g span (λ r. ⊤) Q (walk r left).came (walk r left).rest
        → Going Q (SettledIn F) (Only F (calls_all them call)) (walk r left).came rest (walk r left).rest
    of_came (Ok None) left called none comes =
        settled_at F them call Q rest left stays (called refl) (list_any is_out (take (length them) rest)) refl
        (λ settled. of_settled (list_any is_out (take (length them) rest)) left comes settled)
    of_came (Ok (Some a)) left called none comes = tt
    of_came (Err (exits.Does want)) left called none comes = tt
    of_came (Err (exits.Refused r)) left called none comes = absurd (false≢true none)
    of_came (Err exits.Waits) left called none comes = tt
    of_came (Err exits.Strays) left called none comes = tt
    of_came (Err exits.OutOfMemory) left called none comes = tt

-- What others do between a command's own steps, and what it notes of its own.
use Rattle.std.proofs.Common.{zero, suc, ◌<◌, length, get_or, set, ◌≡◌, refl, ap, sym, ◌∙◌, subst, arith, append_assoc, ℕ, Bool, true, false, not, ◌&&◌, ◌||◌, ◌==◌, List, [], ◌∷◌, ◌++◌, map, Option, Some, None, Result, Ok, Err, cond}
use Rattle.std.specs.List.{list_all, list_any}
use Rattle.std.proofs.Math.ListN.{get_or-map}
use Rattle.std.proofs.Math.Seq.{map-set_same}
use Rattle.std.proofs.lemmas.List.{length-map}
use Rattle.std.proofs.lemmas.List.Folds.{list_any-append}
use Rattle.shard_calls.specs.declared.span.Outcome.{Outcome}
use Rattle.shard_calls.specs.declared.ending.CommandAnswer.{CommandAnswer}
use Rattle.shard_calls.specs.declared.group.Group.{Group}
use Rattle.shard_calls.specs.declared.span.Asked.{Asked}
use Rattle.shard_calls.specs.declared.span.Deed.{Deed}
use Rattle.shard_calls.specs.declared.span.Deed.TheVariants as deeds
use Rattle.courses.specs.declared.want.Exit.{Exit}
use Rattle.courses.specs.declared.want.Exit.TheVariants as exits
use Rattle.courses.specs.declared.want.Want.{Want}
use Rattle.courses.specs.declared.want.Want.TheVariants as wants
use Rattle.courses.specs.Walks.{Course}
use Rattle.courses.specs.Laws.{News, settle, is_waiting, IsStable}
use Rattle.std.specs.Prelude.{⊤}
use Rattle.shard_calls.specs.declared.ending.CommandAnswer.TheVariants as endings
use Rattle.shard_calls.specs.declared.refusal.Refusal.TheVariants as refusals
use Rattle.shard_calls.specs.Refusals.{or_else}
use Rattle.courses.specs.Sound.{IsFounded, Comes, IsSound}
use Rattle.courses.specs.Course.{demand, demand_by}
use Rattle.courses.specs.declared.demands.Demand.{Demand}
use Rattle.courses.specs.declared.demands.Demand.TheVariants.{Does, Awaits, Leaves}
use Rattle.turns.specs.Turns.{Shown, Made, Settled, GaveUp, Released, Ended, Elsewhere, span_after, span_from, span_of, is_foreign, has_message, is_fresh, Behind, only, noted_in, outcome_here, DidOne, DidNext, OneMore, OnlyOthers, LeftNext, is_lock, is_release, has_released, owes, WaitedToTell}

both_true : (a b : Bool) → (a && b) ≡ true → (a ≡ true) × (b ≡ true)
both_true true b both = (refl, both)
both_true false b both = absurd (let no_way : false ≡ true = both in cc)

-- ---- what is demanded stays demanded

is_settled : Demand → Bool
is_settled (Does want) = true
is_settled Awaits = false
is_settled (Leaves e) = true

goes_on : (r : Result CommandAnswer Exit) → is_settled (demand_by r) ≡ true → is_waiting r ≡ false
unfolding is_settled
goes_on (Ok e) settled = refl
goes_on (Err (exits.Does w)) settled = refl
goes_on (Err exits.Waits) settled = absurd (let no_way : false ≡ true = settled in cc)
goes_on (Err (exits.Refused r)) settled = refl
goes_on (Err exits.Strays) settled = refl
goes_on (Err exits.OutOfMemory) settled = refl

still : (m : Course CommandAnswer) (d : Demand) → is_settled d ≡ true → IsStable m → (span full : List Deed) → Behind span full → demand m span ≡ d → demand m full ≡ d
still m d settled ms span full behind demanded =
    ap (λ ds. demand m ds) behind.later
    ∙ (ap (λ w. demand_by w.came) (ms behind.news span (goes_on (m span).came (ap is_settled demanded ∙ settled))) ∙ demanded)

pub demanded_still : (m : Course CommandAnswer) (want : Want) → IsStable m → (span full : List Deed) → Behind span full → demand m span ≡ Does want → demand m full ≡ Does want
unfolding is_settled
demanded_still m want ms span full behind does = still m (Does want) refl ms span full behind does

pub leaves_still : (m : Course CommandAnswer) (e : CommandAnswer) → IsStable m → (span full : List Deed) → Behind span full → demand m span ≡ Leaves e → demand m full ≡ Leaves e
unfolding is_settled
leaves_still m e ms span full behind leaves = still m (Leaves e) refl ms span full behind leaves

-- ---- others' steps

-- one piece of news after another
abbrev both_news : News → News → News
both_news g h j = or_else (g j) (h j)

or_else_same : (x y z : Option Outcome) → or_else (or_else x y) z ≡ or_else x (or_else y z)
or_else_same None y z = refl
or_else_same (Some o) y z = refl

settle_twice : (g h : News) (d : Deed) → settle h (settle g d) ≡ settle (both_news g h) d
settle_twice g h (deeds.Asked x) = ap (λ out. deeds.Asked (record x { outcome = out })) (or_else_same x.outcome (g x.message) (h x.message))
settle_twice g h (deeds.Took reply) = refl
settle_twice g h _ = refl

settles_twice : (g h : News) (ds : List Deed) → map (settle h) (map (settle g) ds) ≡ map (settle (both_news g h)) ds
settles_twice g h [] = refl
settles_twice g h (d ∷ ds) = ap (λ e. e ∷ map (settle h) (map (settle g) ds)) (settle_twice g h d) ∙ ap (λ es. settle (both_news g h) d ∷ es) (settles_twice g h ds)

pub later_news : (h : News) (span full : List Deed) → Behind span full → Behind span (map (settle h) full)
later_news h span full behind = record {
  news = both_news behind.news h;
  later = ap (λ ds. map (settle h) ds) behind.later ∙ settles_twice behind.news h span;
}

made_by_others : (b : Bool) (span full : List Deed) (deed : Deed) → not b ≡ true → Behind span full → Behind span (cond b (full ++ deed ∷ []) full)
made_by_others true span full deed other behind = absurd (let no_way : false ≡ true = other in cc)
made_by_others false span full deed other behind = behind

foreign_step : (c : ℕ) (span full : List Deed) (s : Shown) → is_foreign c s ≡ true → Behind span full → Behind span (span_after c full s)
foreign_step c span full (Made d deed) other behind = made_by_others (d == c) span full deed other behind
foreign_step c span full (Settled k o) other behind = later_news (only k o) span full behind
foreign_step c span full (GaveUp d k o) other behind = later_news (only k o) span full behind
foreign_step c span full (Released d) other behind = behind
foreign_step c span full (Ended d e) other behind = behind
foreign_step c span full Elsewhere other behind = behind

foreign_steps : (c : ℕ) (span full : List Deed) (others : List Shown) → list_all (is_foreign c) others ≡ true → Behind span full → Behind span (span_from c full others)
foreign_steps c span full [] all behind = behind
foreign_steps c span full (s ∷ ss) all behind =
    let both = both_true (is_foreign c s) (list_all (is_foreign c) ss) all in
    foreign_steps c span (span_after c full s) ss both.1 (foreign_step c span full s both.0 behind)

pub span_split : (c : ℕ) (span : List Deed) (xs ys : List Shown) → span_from c span (xs ++ ys) ≡ span_from c (span_from c span xs) ys
span_split c span [] ys = refl
span_split c span (x ∷ xs) ys = span_split c (span_after c span x) xs ys

pub behind_others : (c : ℕ) (span : List Deed) (before others : List Shown) → list_all (is_foreign c) others ≡ true
    → Behind span (span_of c before) → Behind span (span_of c (before ++ others))
behind_others c span before others all behind =
    subst (λ full. Behind span full) (sym (span_split c [] before others)) (foreign_steps c span (span_of c before) others all behind)

pub behind_only : (c : ℕ) (span : List Deed) (before now : List Shown) → OnlyOthers c before now → Behind span (span_of c before) → Behind span (span_of c now)
behind_only c span before now only_others behind =
    subst (λ steps. Behind span (span_of c steps)) (sym only_others.split) (behind_others c span before only_others.others only_others.foreign behind)

-- ---- its own deed

-- no news of one call
abbrev without_news : ℕ → News → News
without_news k h j = cond (j == k) None (h j)

not_true : (b : Bool) → not b ≡ true → b ≡ false
not_true true other = absurd (let no_way : false ≡ true = other in cc)
not_true false other = refl

same_outcome : (h : News) (k : ℕ) (x : Asked) (b : Bool) → (x.message == k) ≡ b → b ≡ false → or_else x.outcome (without_news k h x.message) ≡ or_else x.outcome (h x.message)
same_outcome h k x b is other = ap (λ t. or_else x.outcome (cond t None (h x.message))) (is ∙ other)

settle_without : (h : News) (k : ℕ) (d : Deed) → has_message k d ≡ false → settle (without_news k h) d ≡ settle h d
settle_without h k (deeds.Asked x) other = ap (λ out. deeds.Asked (record x { outcome = out })) (same_outcome h k x (x.message == k) refl other)
settle_without h k (deeds.Took reply) other = refl
settle_without h k _ other = refl

settles_without : (h : News) (k : ℕ) (ds : List Deed) → list_all (λ e. not (has_message k e)) ds ≡ true → map (settle (without_news k h)) ds ≡ map (settle h) ds
settles_without h k [] none = refl
settles_without h k (d ∷ ds) none =
    let both = both_true (not (has_message k d)) (list_all (λ e. not (has_message k e)) ds) none in
    ap (λ e. e ∷ map (settle (without_news k h)) ds) (settle_without h k d (not_true _ both.0)) ∙ ap (λ es. settle h d ∷ es) (settles_without h k ds both.1)

pub same_message : (j : ℕ) (h : News) (d : Deed) → has_message j (settle h d) ≡ has_message j d
same_message j h (deeds.Asked x) = refl
same_message j h _ = refl

fresh_before : (j : ℕ) (h : News) (ds : List Deed) → list_all (λ e. not (has_message j e)) (map (settle h) ds) ≡ list_all (λ e. not (has_message j e)) ds
fresh_before j h [] = refl
fresh_before j h (d ∷ ds) =
    ap (λ b. not b && list_all (λ e. not (has_message j e)) (map (settle h) ds)) (same_message j h d) ∙ ap (λ b. not (has_message j d) && b) (fresh_before j h ds)

map_push : (h : News) (ds : List Deed) (d : Deed) → map (settle h) (ds ++ d ∷ []) ≡ map (settle h) ds ++ settle h d ∷ []
map_push h [] d = refl
map_push h (e ∷ ds) d = ap (λ es. settle h e ∷ es) (map_push h ds d)

pub same_number : (c : ℕ) → (c == c) ≡ true
same_number c = grind arith

or_none : (x : Option Outcome) → or_else x None ≡ x
or_none None = refl
or_none (Some o) = refl

new_call : (h : News) (x : Asked) → settle (without_news x.message h) (deeds.Asked x) ≡ deeds.Asked x
new_call h x =
    ap (λ t. deeds.Asked (record x { outcome = or_else x.outcome (cond t None (h x.message)) })) (same_number x.message)
    ∙ ap (λ out. deeds.Asked (record x { outcome = out })) (or_none x.outcome)

push_with : (h : News) (span full : List Deed) (d : Deed) → full ≡ map (settle h) span → settle h d ≡ d → full ++ d ∷ [] ≡ map (settle h) (span ++ d ∷ [])
push_with h span full d later same = ap (λ ds. ds ++ d ∷ []) later ∙ (ap (λ e. map (settle h) span ++ e ∷ []) (sym same) ∙ sym (map_push h span d))

pub behind_push : (span full : List Deed) (d : Deed) → is_fresh full d ≡ true → Behind span full → Behind (span ++ d ∷ []) (full ++ d ∷ [])
behind_push span full (deeds.Asked x) fresh behind = record {
  news = without_news x.message behind.news;
  later =
      let none : list_all (λ e. not (has_message x.message e)) span ≡ true =
      sym (fresh_before x.message behind.news span) ∙ (ap (λ ds. list_all (λ e. not (has_message x.message e)) ds) (sym behind.later) ∙ fresh)
      in push_with (without_news x.message behind.news) span full (deeds.Asked x) (behind.later ∙ sym (settles_without behind.news x.message span none)) (new_call behind.news x);
}
behind_push span full (deeds.Took reply) fresh behind = record { news = behind.news; later = push_with behind.news span full (deeds.Took reply) behind.later refl }
behind_push span full d fresh behind = record { news = behind.news; later = push_with behind.news span full d behind.later refl }

-- ---- one event

own_step : (c : ℕ) (full : List Deed) (d : Deed) → span_after c full (Made c d) ≡ full ++ d ∷ []
own_step c full d = ap (λ b. cond b (full ++ d ∷ []) full) (same_number c)

pub two_splits : (before others : List Shown) (s : Shown) → before ++ (others ++ s ∷ []) ≡ (before ++ others) ++ s ∷ []
two_splits before others s = sym (append_assoc before others (s ∷ []))

pub did_next : (m : Course CommandAnswer) (c : ℕ) (span : List Deed) (before now : List Shown) (want : Want) (deed : Deed)
    → IsStable m → Behind span (span_of c before) → demand m span ≡ Does want → DidOne c before now want deed → DidNext m c before now
did_next m c span before now want deed ms behind does did = record {
  want = want;
  deed = deed;
  did = did;
  demanded = demanded_still m want ms span (span_of c (before ++ did.others)) (behind_others c span before did.others did.foreign behind) does;
}

pub tells_next : (m : Course CommandAnswer) (c : ℕ) (span : List Deed) (before now : List Shown) (want : Want)
    → IsStable m → Behind span (span_of c before) → demand m span ≡ Does want → want ≡ wants.Tell → OnlyOthers c before now → WaitedToTell m c before now
tells_next m c span before now want ms behind does is only_others = record {
  only = only_others;
  demanded = demanded_still m want ms span (span_of c now) (behind_only c span before now only_others behind) does ∙ ap (λ w. Does w) is;
}

pub behind_next : (c : ℕ) (span : List Deed) (before now : List Shown) (want : Want) (deed : Deed)
    → Behind span (span_of c before) → DidOne c before now want deed → Behind (span ++ deed ∷ []) (span_of c now)
behind_next c span before now want deed behind did =
    subst (λ full. Behind (span ++ deed ∷ []) full)
    (sym (own_step c (span_of c (before ++ did.others)) deed) ∙ sym (span_split c [] (before ++ did.others) (Made c deed ∷ []))
    ∙ ap (λ steps. span_of c steps) (sym (two_splits before did.others (Made c deed)) ∙ sym did.split))
    (behind_push span (span_of c (before ++ did.others)) deed did.fresh (behind_others c span before did.others did.foreign behind))

-- ---- the Release

no_release : (c : ℕ) (s : Shown) → is_foreign c s ≡ true → is_release c s ≡ false
no_release c (Made d deed) other = refl
no_release c (Settled k o) other = refl
no_release c (GaveUp d k o) other = refl
no_release c (Released d) other = not_true (d == c) other
no_release c (Ended d x) other = refl
no_release c Elsewhere other = refl

none_release : (c : ℕ) (steps : List Shown) → list_all (is_foreign c) steps ≡ true → has_released c steps ≡ false
none_release c [] all = refl
none_release c (s ∷ ss) all =
    let both = both_true (is_foreign c s) (list_all (is_foreign c) ss) all in
    ap (λ b. b || has_released c ss) (no_release c s both.0) ∙ none_release c ss both.1

or_false : (b : Bool) → (b || false) ≡ b
or_false true = refl
or_false false = refl

released_both : (c : ℕ) (xs ys : List Shown) → has_released c (xs ++ ys) ≡ (has_released c xs || has_released c ys)
released_both c xs ys = list_any-append (is_release c) xs ys

released_others : (c : ℕ) (before others : List Shown) → list_all (is_foreign c) others ≡ true → has_released c (before ++ others) ≡ has_released c before
released_others c before others all =
    released_both c before others ∙ (ap (λ b. has_released c before || b) (none_release c others all) ∙ or_false (has_released c before))

pub released_only : (c : ℕ) (before now : List Shown) → OnlyOthers c before now → has_released c now ≡ has_released c before
released_only c before now on = ap (λ steps. has_released c steps) on.split ∙ released_others c before on.others on.foreign

pub released_one : (c : ℕ) (before others now : List Shown) (s : Shown) → list_all (is_foreign c) others ≡ true → now ≡ before ++ (others ++ s ∷ []) → is_release c s ≡ false
    → has_released c now ≡ has_released c before
released_one c before others now s all split quiet =
    ap (λ steps. has_released c steps) (split ∙ two_splits before others s)
    ∙ (released_both c (before ++ others) (s ∷ []) ∙ (ap (λ b. has_released c (before ++ others) || (b || false)) quiet
    ∙ (or_false (has_released c (before ++ others)) ∙ released_others c before others all)))

or_true : (b : Bool) → (b || true) ≡ true
or_true true = refl
or_true false = refl

pub released_now : (c : ℕ) (before now : List Shown) → OneMore c before now (Released c) → has_released c now ≡ true
released_now c before now left =
    ap (λ steps. has_released c steps) (left.split ∙ two_splits before left.others (Released c))
    ∙ (released_both c (before ++ left.others) (Released c ∷ []) ∙ (ap (λ b. has_released c (before ++ left.others) || (b || false)) (same_number c)
    ∙ or_true (has_released c (before ++ left.others))))

lock_same : (h : News) (d : Deed) → is_lock (settle h d) ≡ is_lock d
lock_same h (deeds.Asked x) = refl
lock_same h (deeds.Took reply) = refl
lock_same h _ = refl

locks_same : (h : News) (ds : List Deed) → list_any is_lock (map (settle h) ds) ≡ list_any is_lock ds
locks_same h [] = refl
locks_same h (d ∷ ds) = ap (λ b. b || list_any is_lock (map (settle h) ds)) (lock_same h d) ∙ ap (λ b. is_lock d || b) (locks_same h ds)

owes_then : (c : ℕ) (span : List Deed) (before others : List Shown) (released : Bool) → list_all (is_foreign c) others ≡ true → Behind span (span_of c before)
    → has_released c before ≡ released → owes c (before ++ others) ≡ (not released && list_any is_lock span)
owes_then c span before others released all behind is =
    let later = behind_others c span before others all behind in
    ap (λ b. not b && list_any is_lock (span_of c (before ++ others))) (released_others c before others all ∙ is)
    ∙ ap (λ b. not released && b) (ap (λ ds. list_any is_lock ds) later.later ∙ locks_same later.news span)

pub left_next : (m : Course CommandAnswer) (c : ℕ) (span : List Deed) (before now : List Shown) (released owed : Bool) (e : CommandAnswer) (s : Shown)
    → IsStable m → Behind span (span_of c before) → has_released c before ≡ released → owed ≡ (not released && list_any is_lock span)
    → demand m span ≡ Leaves e → OneMore c before now s → LeftNext m c before now e owed s
left_next m c span before now released owed e s ms behind is owing leaves left = record {
  left = left;
  is_owed = owes_then c span before left.others released left.foreign behind is ∙ sym owing;
  demanded = leaves_still m e ms span (span_of c (before ++ left.others)) (behind_others c span before left.others left.foreign behind) leaves;
}

-- ---- what is noted of calls

noted_outcome : (h : News) (o : Outcome) (x : Asked) (out : Option Outcome) → or_else out (h x.message) ≡ Some o → or_else (or_else out (Some o)) (h x.message) ≡ or_else out (h x.message)
noted_outcome h o x None says = sym says
noted_outcome h o x (Some before) says = refl

noted_here : (h : News) (o : Outcome) (d : Deed) → outcome_here (settle h d) ≡ Some o → settle h (noted_in o d) ≡ settle h d
noted_here h o (deeds.Asked x) says = ap (λ out. deeds.Asked (record x { outcome = out })) (noted_outcome h o x x.outcome says)
noted_here h o (deeds.Took reply) says = refl
noted_here h o _ says = refl

pub behind_at :
    (k : ℕ) (o : Outcome) (span full : List Deed) (i : ℕ) (p : Deed) → i < length span → p ≡ get_or span i p → has_message k p ≡ true
    → ((j : ℕ) (d : Deed) → j < length full → d ≡ get_or full j d → has_message k d ≡ true → outcome_here d ≡ Some o)
    → Behind span full → Behind (set span i (noted_in o p)) full
behind_at k o span full i p short is of_call says behind =
    let here : settle behind.news p ≡ get_or full i (settle behind.news p) =
    ap (λ d. settle behind.news d) is ∙ (sym (get_or-map (settle behind.news) span i p) ∙ ap (λ ds. get_or ds i (settle behind.news p)) (sym behind.later))
    in let within : i < length full = subst (λ n. i < n) (sym (ap (λ ds. length ds) behind.later ∙ length-map span (settle behind.news))) short
    in record {
      news = behind.news;
      later =
          behind.later
          ∙ sym (map-set_same (settle behind.news) span i (noted_in o p) p
          (noted_here behind.news o p (says i (settle behind.news p) within here (same_message k behind.news p ∙ of_call)) ∙ ap (λ d. settle behind.news d) is));
    }

pub behind_left : (c : ℕ) (span : List Deed) (before now : List Shown) (s : Shown) → ((full : List Deed) → span_after c full s ≡ full)
    → Behind span (span_of c before) → OneMore c before now s → Behind span (span_of c now)
behind_left c span before now s quiet behind left =
    subst (λ full. Behind span full)
    (sym (quiet (span_of c (before ++ left.others))) ∙ sym (span_split c [] (before ++ left.others) (s ∷ []))
    ∙ ap (λ steps. span_of c steps) (sym (two_splits before left.others s) ∙ sym left.split))
    (behind_others c span before left.others left.foreign behind)

-- ---- what is demanded is founded

abbrev want_in : Want → Demand → Want
want_in w (Does want) = want
want_in w Awaits = w
want_in w (Leaves e) = w

founded_by : (g : Group) (span : List Deed) (r : Result CommandAnswer Exit) (rest : List Deed) (want : Want) → Comes g span (λ x. ⊤) (λ e. ⊤) r rest → demand_by r ≡ Does want → IsFounded g span want
founded_by g span (Ok e) rest want comes does = absurd (let no_way : Leaves e ≡ Does want = does in cc)
founded_by g span (Err (exits.Does w)) rest want comes does = subst (λ d. IsFounded g span (want_in w d)) does comes
founded_by g span (Err exits.Waits) rest want comes does = absurd (let no_way : Awaits ≡ Does want = does in cc)
founded_by g span (Err (exits.Refused r)) rest want comes does = absurd (let no_way : Leaves (endings.Refused r None) ≡ Does want = does in cc)
founded_by g span (Err exits.Strays) rest want comes does = absurd (let no_way : Leaves (endings.Refused refusals.OutOfMemory None) ≡ Does want = does in cc)
founded_by g span (Err exits.OutOfMemory) rest want comes does = absurd (let no_way : Leaves (endings.Refused refusals.OutOfMemory None) ≡ Does want = does in cc)

pub founded : (g : Group) (m : Course CommandAnswer) (span full : List Deed) (want : Want) → IsStable m → ((all : List Deed) → IsSound g all (λ x. ⊤) m (λ e. ⊤)) → Behind span full
    → demand m span ≡ Does want → IsFounded g full want
founded g m span full want ms sound behind does =
    founded_by g full (m full).came (m full).rest want (sound full full (record { before = []; split = refl })) (demanded_still m want ms span full behind does)

-- what stands at a place, read twice
pub same_place : (ds : List Deed) (i : ℕ) (p q : Deed) → i < length ds → p ≡ get_or ds i p → q ≡ get_or ds i q → p ≡ q
same_place [] i p q short is as_well = grind arith
same_place (d ∷ ds) zero p q short is as_well = is ∙ sym as_well
same_place (d ∷ ds) (suc i) p q short is as_well = same_place ds i p q (omega arith) is as_well

-- Places of actors, and members of lists of which one changes.
use Rattle.std.proofs.Common.{◌≡◌, ◌⊎◌, inl, inr, ℕ, zero, suc, ◌+◌, ◌<◌, List, [], ◌∷◌, ◌++◌, Bool, true, false, Option, Some, None, cond, length, get_or, refl, ap, sym, ◌∙◌, arith}
use Rattle.std.proofs.lemmas.Iterator.Adapters.{position_from-zero}
use Rattle.std.proofs.lemmas.List.Quantifiers.{position-Some}
use Rattle.std.proofs.lemmas.Option.{slice_get-get_or, slice_get_within}
use Rattle.std.proofs.lemmas.Slice.Eq.{bytes_eq-Decides}
use Rattle.std.specs.List.{slice_get, position_from}
use Rattle.std.specs.Str.{bytes_eq}
use Rattle.shard_calls.specs.World.{changed, changed_at, numbered, place_of, idle_actor}
use Rattle.shard_calls.specs.declared.state.ActorState.{ActorState}
use Rattle.shard_calls.proofs.ListLemmas.{slice_get-append, at_end}

-- ---- one member changes

deeper : {A : Type 0} (xs ys : List A) (k j : ℕ) (x : A) → (slice_get ys j ≡ Some x) ⊎ (k ≡ j) → (slice_get ys j ≡ Some x) ⊎ (suc k ≡ suc j)
deeper xs ys k j x (inl h) = inl h
deeper xs ys k j x (inr h) = inr (ap (λ (n : ℕ). suc n) h)

-- every other stays
pub changed_other : {A : Type 0} (xs : List A) (k j : ℕ) (f : A → A) (x : A) → slice_get xs j ≡ Some x → (slice_get (changed xs k f) j ≡ Some x) ⊎ (k ≡ j)
changed_other [] k j f x here = absurd (let none : None ≡ Some x = here in cc)
changed_other (y ∷ xs) zero zero f x here = inr refl
changed_other (y ∷ xs) zero (suc j) f x here = inl here
changed_other (y ∷ xs) (suc k) zero f x here = inl here
changed_other (y ∷ xs) (suc k) (suc j) f x here = deeper xs (changed xs k f) k j x (changed_other xs k j f x here)

pub changed_here : {A : Type 0} (xs : List A) (k : ℕ) (f : A → A) (x : A) → slice_get xs k ≡ Some x → slice_get (changed xs k f) k ≡ Some (f x)
changed_here [] k f x here = absurd (let none : None ≡ Some x = here in cc)
changed_here {A} (y ∷ xs) zero f x here = ap (λ (z : A). Some (f z)) (let same : y ≡ x = cc in same)
changed_here (y ∷ xs) (suc k) f x here = changed_here xs k f x here

pub changed_at_other : {A : Type 0} (xs : List A) (b c : ℕ) (f : A → A) (x : A) → numbered xs c ≡ Some x → (numbered (changed_at xs b f) c ≡ Some x) ⊎ (b ≡ c)
changed_at_other xs zero c f x here = inl here
changed_at_other xs (suc k) zero f x here = absurd (let none : None ≡ Some x = here in cc)
changed_at_other xs (suc k) (suc j) f x here = deeper xs (changed xs k f) k j x (changed_other xs k j f x here)

pub changed_at_here : {A : Type 0} (xs : List A) (c : ℕ) (f : A → A) (x : A) → numbered xs c ≡ Some x → numbered (changed_at xs c f) c ≡ Some (f x)
changed_at_here xs zero f x here = absurd (let none : None ≡ Some x = here in cc)
changed_at_here xs (suc k) f x here = changed_here xs k f x here

pub numbered-append : {A : Type 0} (xs ys : List A) (c : ℕ) (x : A) → numbered xs c ≡ Some x → numbered (xs ++ ys) c ≡ Some x
numbered-append xs ys zero x here = here
numbered-append xs ys (suc k) x here = slice_get-append xs ys k x here

pub numbered_end : {A : Type 0} (xs : List A) (x : A) → numbered (xs ++ x ∷ []) (length xs + 1) ≡ Some x
numbered_end {A} xs x =
    let next : length xs + 1 ≡ suc (length xs) = omega arith in
    ap (λ (n : ℕ). numbered (xs ++ x ∷ []) n) next ∙ at_end xs x

pub numbered_within : {A : Type 0} (xs : List A) (c : ℕ) (x : A) → numbered xs c ≡ Some x → c < length xs + 1
numbered_within xs zero x here = absurd (let none : None ≡ Some x = here in cc)
numbered_within xs (suc k) x here = let within : k < length xs = slice_get_within xs k x here in omega (arith, within)

-- ---- the member that changes

pub changed_own : {A : Type 0} (xs : List A) (k : ℕ) (f : A → A) (x y : A) → slice_get xs k ≡ Some x → slice_get (changed xs k f) k ≡ Some y → f x ≡ y
changed_own [] k f x y here now = absurd (let none : None ≡ Some x = here in cc)
changed_own (z ∷ xs) zero f x y here now = ap f (sym (let same : z ≡ x = cc in same)) ∙ (let same : f z ≡ y = cc in same)
changed_own (z ∷ xs) (suc k) f x y here now = changed_own xs k f x y here now

pub own_change : {A : Type 0} (xs : List A) (c : ℕ) (f : A → A) (x y : A) → numbered xs c ≡ Some x → numbered (changed_at xs c f) c ≡ Some y → f x ≡ y
own_change xs zero f x y here now = absurd (let none : None ≡ Some x = here in cc)
own_change xs (suc k) f x y here now = changed_own xs k f x y here now

-- ---- places

abbrev named : List ℕ → ActorState → Bool
named name a = bytes_eq a.name name

place_is : (actors : List ActorState) (name : List ℕ) → place_of actors name ≡ position_from (named name) 0 actors
place_is actors name = position_from-zero (named name) actors

from_changed : (name : List ℕ) (i : ℕ) (xs : List ActorState) (k : ℕ) (f : ActorState → ActorState) → ((a : ActorState) → (f a).name ≡ a.name)
    → position_from (named name) i (changed xs k f) ≡ position_from (named name) i xs
from_changed name i [] k f same = refl
from_changed name i (x ∷ xs) zero f same =
    ap (λ (n : List ℕ). cond (bytes_eq n name) (Some i) (position_from (named name) (i + 1) xs)) (same x)
from_changed name i (x ∷ xs) (suc k) f same =
    ap (λ (o : Option ℕ). cond (named name x) (Some i) o) (from_changed name (i + 1) xs k f same)

-- a change that leaves names leaves places
pub place_changed : (xs : List ActorState) (name : List ℕ) (k : ℕ) (f : ActorState → ActorState) → ((a : ActorState) → (f a).name ≡ a.name)
    → place_of (changed xs k f) name ≡ place_of xs name
place_changed xs name k f same = place_is (changed xs k f) name ∙ from_changed name 0 xs k f same ∙ sym (place_is xs name)

found_first : (b : Bool) (i : ℕ) (o p : Option ℕ) (j : ℕ) → (o ≡ Some j → p ≡ Some j) → cond b (Some i) o ≡ Some j → cond b (Some i) p ≡ Some j
found_first true i o p j later h = h
found_first false i o p j later h = later h

from_append : (name : List ℕ) (i : ℕ) (xs ys : List ActorState) (j : ℕ) → position_from (named name) i xs ≡ Some j
    → position_from (named name) i (xs ++ ys) ≡ Some j
from_append name i [] ys j h = absurd (let none : None ≡ Some j = h in cc)
from_append name i (x ∷ xs) ys j h =
    found_first (named name x) i (position_from (named name) (i + 1) xs) (position_from (named name) (i + 1) (xs ++ ys)) j (from_append name (i + 1) xs ys j) h

pub place_append : (xs ys : List ActorState) (name : List ℕ) (j : ℕ) → place_of xs name ≡ Some j → place_of (xs ++ ys) name ≡ Some j
place_append xs ys name j h = place_is (xs ++ ys) name ∙ from_append name 0 xs ys j (sym (place_is xs name) ∙ h)

new_last : (b : Bool) (i n : ℕ) (o p : Option ℕ) → (o ≡ None → p ≡ Some n) → cond b (Some i) o ≡ None → cond b (Some i) p ≡ Some n
new_last true i n o p later h = absurd (let none : Some i ≡ None = h in cc)
new_last false i n o p later h = later h

from_new : (name : List ℕ) (i : ℕ) (xs : List ActorState) (a : ActorState) → named name a ≡ true → position_from (named name) i xs ≡ None
    → position_from (named name) i (xs ++ a ∷ []) ≡ Some (i + length xs)
from_new name i [] a is h = let size : i ≡ i + 0 = omega arith in ap (λ (b : Bool). cond b (Some i) None) is ∙ ap (λ (n : ℕ). Some n) size
from_new name i (x ∷ xs) a is h =
    new_last (named name x) i (i + length (x ∷ xs)) (position_from (named name) (i + 1) xs) (position_from (named name) (i + 1) (xs ++ a ∷ []))
    (λ none. from_new name (i + 1) xs a is none ∙ ap (λ (n : ℕ). Some n) (let size : (i + 1) + length xs ≡ i + length (x ∷ xs) = omega arith in size)) h

-- a new actor stands at the end
pub place_new : (xs : List ActorState) (name : List ℕ) → place_of xs name ≡ None → place_of (xs ++ idle_actor name ∷ []) name ≡ Some (length xs)
place_new xs name none =
    place_is (xs ++ idle_actor name ∷ []) name
    ∙ from_new name 0 xs (idle_actor name) ((bytes_eq-Decides name name).1 refl) (sym (place_is xs name) ∙ none)
    ∙ ap (λ (n : ℕ). Some n) (let size : 0 + length xs ≡ length xs = omega arith in size)

-- at the place of a name is the actor of that name
pub at_place : (xs : List ActorState) (name : List ℕ) (k : ℕ) → place_of xs name ≡ Some k → (a : ActorState) × (slice_get xs k ≡ Some a) × (a.name ≡ name)
at_place xs name k h =
    let d : ActorState = idle_actor name in
    let p = position-Some (named name) xs k d h in
    (get_or xs k d, slice_get-get_or xs k d p.0, (bytes_eq-Decides (get_or xs k d).name name).0 p.1)

-- The tablets of a message have places of the shard.
use Rattle.std.proofs.Common.{◌≡◌, ℕ, suc, ◌+◌, ◌≤◌, ◌<◌, Bool, true, false, not, ◌==◌, nat_lt, List, [], ◌∷◌, map, length, refl, ap, ◌∙◌, cond, is_some, Option, Some, arith}
use Rattle.std.specs.List.{position_or_len, find}
use Rattle.std.proofs.lemmas.Bool.Decides.{nat_tests}
use Rattle.shard_names.specs.declared.alias.Alias.{Alias}
use Rattle.shard_names.specs.declared.tablet.Tablet.{Tablet}
use Rattle.shard_names.specs.Tablets.{alias_eq, is_declared}
use Rattle.shard_names.proofs.TabletLemmas.{both_left, both_right, alias_eq_is}
use Rattle.shard_calls.specs.declared.post.Content.{Content}
use Rattle.shard_calls.specs.declared.post.Content.TheVariants as contents
use Rattle.shard_calls.specs.Messages.{waits_at}
use Rattle.post.specs.Directions.{place_of, place_from, place_to}
use Rattle.arrivals.specs.Addressed.{is_addressed}

-- the aliases of tablets
abbrev pub aliases_in : List Tablet → List Alias
aliases_in ts = map (λ t. t.alias) ts

search_one : (p : Alias → Bool) (x : Alias) (xs : List Alias) (t : Bool) → p x ≡ t → position_or_len p (x ∷ xs) ≡ cond t 0 (suc (position_or_len p xs))
search_one p x xs true is = ap (λ (b : Bool). cond (not b) (1 + position_or_len p xs) 0) is
search_one p x xs false is =
    let e : 1 + position_or_len p xs ≡ suc (position_or_len p xs) = omega arith in
    ap (λ (b : Bool). cond (not b) (1 + position_or_len p xs) 0) is ∙ e

within_one : (t : Bool) (found : Option Tablet) (here : Tablet) (rest n : ℕ) → is_some (cond t (Some here) found) ≡ true → (is_some found ≡ true → rest < n) → cond t 0 (suc rest) < suc n
within_one true found here rest n h more = omega arith
within_one false found here rest n h more = let less = more h in omega (arith, less)

within : (ts : List Tablet) (a : Alias) → is_declared ts a ≡ true → position_or_len (λ x. alias_eq x a) (aliases_in ts) < length (aliases_in ts)
within [] a h = absurd (cc)
within (t ∷ ts) a h =
    rw (search_one (λ x. alias_eq x a) t.alias (aliases_in ts) (alias_eq t.alias a) refl)
    (within_one (alias_eq t.alias a) (find (λ u. alias_eq u.alias a) ts) t (position_or_len (λ x. alias_eq x a) (aliases_in ts)) (length (aliases_in ts)) h (within ts a))

-- who is declared has a place of the shard
pub declared_place : (ts : List Tablet) (aliases : List Alias) (a : Alias) → aliases ≡ aliases_in ts → is_declared ts a ≡ true → place_of aliases a ≤ length aliases
declared_place ts aliases a known h =
    let less = within ts a h in
    rw known (let fits : position_or_len (λ x. alias_eq x a) (aliases_in ts) + 1 ≤ length (aliases_in ts) = omega (arith, less) in fits)

below : (k n : ℕ) → k ≤ n → nat_lt k (n + 1) ≡ true
below k n h = grind (arith, nat_tests)

pub placed : (ts : List Tablet) (aliases : List Alias) (a : Alias) → aliases ≡ aliases_in ts → is_declared ts a ≡ true → nat_lt (place_of aliases a) (length aliases + 1) ≡ true
placed ts aliases a known h = below (place_of aliases a) (length aliases) (declared_place ts aliases a known h)

first_placed : (n : ℕ) → nat_lt 0 (n + 1) ≡ true
first_placed n = grind (arith, nat_tests)

-- a message goes from a place of the shard
pub from_placed : (ts : List Tablet) (aliases : List Alias) (c : Content) → aliases ≡ aliases_in ts → is_addressed ts c ≡ true → nat_lt (place_from aliases c) (length aliases + 1) ≡ true
from_placed ts aliases (contents.Asks command term to call) known h = first_placed (length aliases)
from_placed ts aliases (contents.Answers command asked from says) known h = placed ts aliases from known h
from_placed ts aliases (contents.Feeds from to term after index e) known h = placed ts aliases from known (both_left (is_declared ts from) (is_declared ts to) h)
from_placed ts aliases (contents.Acks from to term index) known h = placed ts aliases from known (both_left (is_declared ts from) (is_declared ts to) h)

-- and to one
pub to_placed : (ts : List Tablet) (aliases : List Alias) (c : Content) → aliases ≡ aliases_in ts → is_addressed ts c ≡ true → nat_lt (place_to aliases c) (length aliases + 1) ≡ true
to_placed ts aliases (contents.Asks command term to call) known h = placed ts aliases to known h
to_placed ts aliases (contents.Answers command asked from says) known h = first_placed (length aliases)
to_placed ts aliases (contents.Feeds from to term after index e) known h = placed ts aliases to known (both_right (is_declared ts from) (is_declared ts to) h)
to_placed ts aliases (contents.Acks from to term index) known h = placed ts aliases to known (both_right (is_declared ts from) (is_declared ts to) h)

-- an entry for a replica goes to its place
pub feed_place : (aliases : List Alias) (r : Alias) (n : ℕ) (c : Content) → waits_at r n c ≡ true → place_to aliases c ≡ place_of aliases r
feed_place aliases r n (contents.Asks command term to call) h = absurd (cc)
feed_place aliases r n (contents.Answers command asked from says) h = absurd (cc)
feed_place aliases r n (contents.Feeds from to term after index e) h = ap (place_of aliases) (alias_eq_is to r (both_left (alias_eq to r) (after == n) h))
feed_place aliases r n (contents.Acks from to term index) h = absurd (cc)

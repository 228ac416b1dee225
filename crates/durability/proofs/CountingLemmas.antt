-- Counts of ackers say what the sets say.
use Rattle.std.proofs.Common.{◌≡◌, ℕ, ◌≤◌, ◌<◌, Bool, true, false, not, ◌&&◌, ◌||◌, refl, arith, List, [], ◌∷◌, cond, length, nat_lt, nat_le, IsTrue, get_or}
use Rattle.std.specs.List.{list_any, filter, Contains}
use Rattle.std.proofs.lemmas.List.Folds.{list_any_at, list_any_none}
use Rattle.std.proofs.lemmas.List.Elements.{All-head, All-tail, All-contains}
use Rattle.std.proofs.lemmas.Bool.Decides.{nat_tests}
use Rattle.shard_names.specs.declared.alias.Alias.{Alias}
use Rattle.shard_names.specs.declared.tablet.Tablet.{Tablet}
use Rattle.shard_names.proofs.TabletLemmas.{both, both_left, both_right}
use Rattle.durability.specs.Rules.{Rules}
use Rattle.durability.specs.Sets.{TabletSet, ackers_in, Accepted, is_accepted, TestIsAccepted, Meets, HasAll, RevokesPrimary, Establishes}
use Rattle.durability.specs.Counting.{is_revoked, CountingIsRevocation, CountingIsEstablishing}

-- the tablets that are not reached
abbrev unreached : TabletSet → TabletSet
unreached reached = λ a. not (reached a)

lt_of : (m n : ℕ) → nat_lt m n ≡ true → m < n
lt_of m n h = grind (arith, nat_tests)

le_of : (m n : ℕ) → nat_lt m n ≡ false → n ≤ m
le_of m n h = grind (arith, nat_tests)

left_false : (a b : Bool) → (a || b) ≡ false → a ≡ false
left_false true b h = h
left_false false b h = refl

right_false : (a b : Bool) → (a || b) ≡ false → b ≡ false
right_false true b h = absurd (cc)
right_false false b h = h

-- one more tablet, which is not in both sets
one_more : (a p q : Bool) (t : Tablet) (m n : List Tablet) → length m ≤ length n → (p && q) ≡ false
    → length (cond (a && q) (t ∷ m) m) ≤ length (cond (a && not p) (t ∷ n) n)
one_more a p q t m n le apart = grind arith

-- the ackers in a set that does not meet the reached are unreached
apart_ackers : (acker : Tablet → Bool) (reached set : TabletSet) (ts : List Tablet) → list_any (λ t. reached t.alias && set t.alias) ts ≡ false
    → length (filter (λ t. acker t && set t.alias) ts) ≤ length (filter (λ t. acker t && not (reached t.alias)) ts)
apart_ackers acker reached set [] h = omega arith
apart_ackers acker reached set (t ∷ ts) h =
    one_more (acker t) (reached t.alias) (set t.alias) t _ _
    (apart_ackers acker reached set ts (right_false (reached t.alias && set t.alias) _ h))
    (left_false (reached t.alias && set t.alias) _ h)

-- a tablet of the list that is in both sets
meets_at : (tablets : List Tablet) (a b : TabletSet) (t : Tablet) → Contains tablets t → a t.alias ≡ true → b t.alias ≡ true → Meets tablets a b
meets_at tablets a b t (k, within, here) in_a in_b =
    list_any_at (λ u. a u.alias && b u.alias) tablets k t within (rw here (both (a t.alias) (b t.alias) in_a in_b))

-- too few unreached ackers for any set apart from the reached
few_meet : (rules : Rules) (tablets : List Tablet) (reached set : TabletSet) (primary : Tablet)
    → ackers_in rules tablets primary (unreached reached) < rules.acks primary → Accepted rules tablets primary set → Meets tablets reached set
few_meet rules tablets reached set primary few accepted =
    elim (list_any (λ t. reached t.alias && set t.alias) tablets) as (λ b. list_any (λ t. reached t.alias && set t.alias) tablets ≡ b → b ≡ true) [
      | true ↦ λ e. refl
      | false ↦ λ e. absurd (let fewer = apart_ackers (rules.is_acker primary) reached set tablets e in let enough = accepted.enough in omega (arith, fewer, enough, few))
    ] refl

count_revokes : (rules : Rules) (tablets : List Tablet) (reached : TabletSet) (primary : Tablet) → Contains tablets primary
    → IsTrue (is_revoked rules tablets reached primary) → RevokesPrimary rules tablets reached primary
count_revokes rules tablets reached primary declared counted set accepted =
    elim (reached primary.alias) as (λ b. reached primary.alias ≡ b → (b || nat_lt (ackers_in rules tablets primary (unreached reached)) (rules.acks primary)) ≡ true → Meets tablets reached set) [
      | true ↦ λ e h. meets_at tablets reached set primary declared e accepted.primary_in
      | false ↦ λ e h. few_meet rules tablets reached set primary (lt_of _ _ h) accepted
    ] refl counted

not_itself : (b : Bool) → (b && not b) ≡ false
not_itself true = refl
not_itself false = refl

-- the unreached tablets are apart from the reached
unreached_apart : (tablets : List Tablet) (reached : TabletSet) → Meets tablets reached (unreached reached) → ⊥
unreached_apart tablets reached meets =
    let apart : list_any (λ t. reached t.alias && not (reached t.alias)) tablets ≡ false = list_any_none (λ t. reached t.alias && not (reached t.alias)) tablets (λ k d h. not_itself (reached (get_or tablets k d).alias)) in
    absurd (cc)

-- where the count leaves a primary unrevoked, the unreached tablets are accepted for it
unreached_accepted : (rules : Rules) (tablets : List Tablet) (reached : TabletSet) (primary : Tablet)
    → is_revoked rules tablets reached primary ≡ false → Accepted rules tablets primary (unreached reached)
unreached_accepted rules tablets reached primary h = record {
  primary_in = (let out : reached primary.alias ≡ false = left_false (reached primary.alias) _ h in rw out refl);
  enough = le_of _ _ (right_false (reached primary.alias) _ h);
}

revokes_counted : (rules : Rules) (tablets : List Tablet) (reached : TabletSet) (primary : Tablet)
    → RevokesPrimary rules tablets reached primary → IsTrue (is_revoked rules tablets reached primary)
revokes_counted rules tablets reached primary revokes =
    elim (is_revoked rules tablets reached primary) as (λ b. is_revoked rules tablets reached primary ≡ b → b ≡ true) [
      | true ↦ λ e. refl
      | false ↦ λ e. absurd (unreached_apart tablets reached (revokes (unreached reached) (unreached_accepted rules tablets reached primary e)))
    ] refl

pub counting_revokes : CountingIsRevocation
counting_revokes rules tablets reached primary declared =
    (count_revokes rules tablets reached primary declared, revokes_counted rules tablets reached primary)

within_more : (a p q : Bool) (t : Tablet) (m n : List Tablet) → length m ≤ length n → (q ≡ true → p ≡ true)
    → length (cond (a && q) (t ∷ m) m) ≤ length (cond (a && p) (t ∷ n) n)
within_more a p true t m n le within = rw (within refl) (grind arith)
within_more a p false t m n le within = grind arith

-- a set has no more ackers than one that has all of it
fewer_within : (acker : Tablet → Bool) (a b : TabletSet) (ts : List Tablet) → HasAll ts a b
    → length (filter (λ t. acker t && b t.alias) ts) ≤ length (filter (λ t. acker t && a t.alias) ts)
fewer_within acker a b [] has = omega arith
fewer_within acker a b (t ∷ ts) has =
    within_more (acker t) (a t.alias) (b t.alias) t _ _
    (fewer_within acker a b ts (All-tail (λ u. IsTrue (b u.alias) → IsTrue (a u.alias)) t ts has))
    (All-head (λ u. IsTrue (b u.alias) → IsTrue (a u.alias)) t ts has)

pub accepted_of : (rules : Rules) (tablets : List Tablet) (primary : Tablet) (set : TabletSet) → IsTrue (is_accepted rules tablets primary set) → Accepted rules tablets primary set
accepted_of rules tablets primary set h = record {
  primary_in = both_left (set primary.alias) _ h;
  enough = le_of_test _ _ (both_right (set primary.alias) _ h);
} where
  le_of_test : (m n : ℕ) → nat_le m n ≡ true → m ≤ n
  le_of_test m n e = grind (arith, nat_tests)

pub is_accepted_of : (rules : Rules) (tablets : List Tablet) (primary : Tablet) (set : TabletSet) → Accepted rules tablets primary set → IsTrue (is_accepted rules tablets primary set)
is_accepted_of rules tablets primary set a = both (set primary.alias) _ a.primary_in (test_of_le _ _ a.enough) where
  test_of_le : (m n : ℕ) → m ≤ n → nat_le m n ≡ true
  test_of_le m n h = grind (arith, nat_tests)

pub test_is_accepted : TestIsAccepted
test_is_accepted rules tablets primary set = (accepted_of rules tablets primary set, is_accepted_of rules tablets primary set)

-- a set that has all of an accepted set is accepted
more_accepted : (rules : Rules) (tablets : List Tablet) (reached : TabletSet) (chosen : Tablet) → Contains tablets chosen
    → Establishes rules tablets reached chosen → Accepted rules tablets chosen reached
more_accepted rules tablets reached chosen declared e = record {
  primary_in = All-contains (λ t. IsTrue (e.quorum t.alias) → IsTrue (reached t.alias)) tablets chosen e.within declared e.accepted.primary_in;
  enough = (let fewer = fewer_within (rules.is_acker chosen) reached e.quorum tablets e.within in let enough = e.accepted.enough in omega (arith, fewer, enough));
}

pub wider_accepted : (rules : Rules) (tablets : List Tablet) (primary : Tablet) (set wider : TabletSet) → ((a : Alias) → IsTrue (set a) → IsTrue (wider a))
    → Accepted rules tablets primary set → Accepted rules tablets primary wider
wider_accepted rules tablets primary set wider within accepted = record {
  primary_in = within primary.alias accepted.primary_in;
  enough = (let fewer = fewer_within (rules.is_acker primary) wider set tablets (λ k d lt. within (get_or tablets k d).alias) in let enough = accepted.enough in omega (arith, fewer, enough));
}

pub counting_establishes : CountingIsEstablishing
counting_establishes rules tablets reached chosen declared = (
  λ h. record { quorum = reached; accepted = accepted_of rules tablets chosen reached h; within = λ k d within i. i },
  λ e. is_accepted_of rules tablets chosen reached (more_accepted rules tablets reached chosen declared e),
)

-- What is due, found by the directions.
use Rattle.std.proofs.Common.{◌≡◌, ℕ, ◌+◌, ◌<◌, Bool, true, false, not, ◌&&◌, ◌||◌, ◌==◌, nat_lt, is_none, List, [], ◌∷◌, length, refl, ap, sym, ◌∙◌, arith}
use Rattle.std.specs.List.{list_any}
use Rattle.std.proofs.lemmas.Bool.Decides.{nat_tests}
use Rattle.shard_names.specs.declared.alias.Alias.{Alias}
use Rattle.shard_names.proofs.TabletLemmas.{both_left}
use Rattle.shard_calls.specs.declared.post.Message.{Message}
use Rattle.shard_calls.specs.Messages.{waits_at, passes, is_cut, link_of, is_received, may_arrive, is_under_way}
use Rattle.shard_calls.specs.World.{numbered}
use Rattle.post.specs.Directions.{place_of, place_from, place_to, goes}
use Rattle.post.specs.Waiting.{waits, waiting_on}
use Rattle.post.proofs.MemberLemmas.{any_numbered}
use Rattle.shard_state.specs.State.{Data, seen, tablets_of}
use Rattle.arrivals.specs.Addressed.{KnowsTablets, AreAddressed, is_addressed}
use Rattle.arrivals.specs.Ways.{is_feed_due, is_feed_on, is_feed_below, is_feed_to}
use Rattle.arrivals.proofs.WalkLemmas.{any_same, any_same_on, none_on, any_more, neither}
use Rattle.arrivals.proofs.PlacedLemmas.{from_placed, to_placed, feed_place}

-- ---- tests on numbers

nothing_below : (k : ℕ) → nat_lt k 0 ≡ false
nothing_below k = grind (arith, nat_tests)

next_below : (k n m : ℕ) → m ≡ n + 1 → nat_lt k m ≡ (nat_lt k n || (k == n))
next_below k n m e = grind (arith, nat_tests)

-- ---- one direction more

false_first : (a b c : Bool) → a ≡ false → ((a && b) && c) ≡ false
false_first true b c h = absurd (cc)
false_first false b c h = refl

spread_first : (a b c x e : Bool) → x ≡ (b || c) → ((x && a) && e) ≡ (((b && a) && e) || ((c && a) && e))
spread_first a true true true e h = twice (a && e) where
  twice : (t : Bool) → t ≡ (t || t)
  twice true = refl
  twice false = refl
spread_first a true false true e h = alone (a && e) where
  alone : (t : Bool) → t ≡ (t || false)
  alone true = refl
  alone false = refl
spread_first a false true true e h = refl
spread_first a false false false e h = refl
spread_first a true c false e h = absurd (cc)
spread_first a false true false e h = absurd (cc)
spread_first a false false true e h = absurd (cc)

-- ---- entries on their way

feed_waits : (g a l c r w : Bool) → ((g && (a && not l)) && (w && (a && ((not l && c) && r)))) ≡ (g && (w && (a && ((not l && c) && r))))
feed_waits false a l c r w = refl
feed_waits true true true c r true = refl
feed_waits true true true c r false = refl
feed_waits true true false c r w = refl
feed_waits true false l c r true = refl
feed_waits true false l c r false = refl

pub feed_between : (d : Data) (from to : ℕ) (r : Alias) (n : ℕ)
    → list_any (λ k. passes (is_feed_due d r n) (numbered d.messages k)) (waiting_on d.aliases d.messages from to) ≡ list_any (is_feed_on d from to r n) d.messages
feed_between d from to r n =
    sym (any_numbered (waits d.aliases from to) (is_feed_due d r n) d.messages)
    ∙ any_same (λ m. waits d.aliases from to m && is_feed_due d r n m) (is_feed_on d from to r n) d.messages
    (λ m. feed_waits (goes d.aliases from to m.content) (is_none m.arrived) m.lost (not (is_cut d.cuts (link_of m.content))) (is_received (seen d) m.content) (waits_at r n m.content))

pub no_feed_yet : (d : Data) (to : ℕ) (r : Alias) (n : ℕ) → list_any (is_feed_below d 0 to r n) d.messages ≡ false
no_feed_yet d to r n = none_below d.messages where
  none_below : (ms : List Message) → list_any (is_feed_below d 0 to r n) ms ≡ false
  none_below [] = refl
  none_below (m ∷ ms) =
      ap (λ (t : Bool). t || list_any (is_feed_below d 0 to r n) ms)
      (false_first (nat_lt (place_from d.aliases m.content) 0) (place_to d.aliases m.content == to) (is_feed_due d r n m) (nothing_below (place_from d.aliases m.content)))
      ∙ none_below ms

pub no_feed_from : (d : Data) (from next to : ℕ) (r : Alias) (n : ℕ) → next ≡ from + 1 → list_any (is_feed_below d from to r n) d.messages ≡ false
    → list_any (is_feed_on d from to r n) d.messages ≡ false → list_any (is_feed_below d next to r n) d.messages ≡ false
no_feed_from d from next to r n e before here =
    neither (is_feed_below d from to r n) (is_feed_on d from to r n) (is_feed_below d next to r n) d.messages
    (λ m. spread_first (place_to d.aliases m.content == to) (nat_lt (place_from d.aliases m.content) from) (place_from d.aliases m.content == from)
    (nat_lt (place_from d.aliases m.content) next) (is_feed_due d r n m) (next_below (place_from d.aliases m.content) from next e))
    before here

starts_within : (k from n : ℕ) (b c : Bool) → from < n → (((k == from) && b) && c) ≡ true → ((nat_lt k n && b) && c) ≡ true
starts_within k from n b c less h =
    let here : (k == from) ≡ true = both_left (k == from) b (both_left ((k == from) && b) c h) in
    let low : nat_lt k n ≡ true = grind (arith, nat_tests) in
    rw low (let rest : (b && c) ≡ true = rw here at h in rest)

pub feed_found : (d : Data) (from to : ℕ) (r : Alias) (n : ℕ) → from < length d.aliases + 1 → list_any (is_feed_on d from to r n) d.messages ≡ true
    → list_any (is_feed_to d to r n) d.messages ≡ true
feed_found d from to r n less h =
    any_more (is_feed_on d from to r n) (is_feed_to d to r n) d.messages
    (λ m is. starts_within (place_from d.aliases m.content) from (length d.aliases + 1) (place_to d.aliases m.content == to) (is_feed_due d r n m) less is) h

same_place : (p q : ℕ) → p ≡ q → (p == q) ≡ true
same_place p q e = grind (arith, nat_tests)

on_its_way : (f t w a x : Bool) → f ≡ true → (w ≡ true → t ≡ true) → ((f && t) && (w && (a && x))) ≡ ((w && a) && x)
on_its_way true true true a x h here = refl
on_its_way true true false a x h here = refl
on_its_way true false false a x h here = refl
on_its_way true false true a x h here = absurd (let wrong = here refl in cc)
on_its_way false t w a x h here = absurd (cc)

-- an entry for a replica that is on its way goes to its place
pub feeds_to : (d : Data) (to : ℕ) (r : Alias) (n : ℕ) → KnowsTablets d → AreAddressed d → to ≡ place_of d.aliases r
    → list_any (is_feed_to d to r n) d.messages ≡ is_under_way (seen d) r n
feeds_to d to r n known addressed is =
    any_same_on (λ m. is_addressed (tablets_of d.managers) m.content) (is_feed_to d to r n) (λ m. waits_at r n m.content && is_none m.arrived && may_arrive (seen d) m) d.messages addressed
    (λ m h. on_its_way (nat_lt (place_from d.aliases m.content) (length d.aliases + 1)) (place_to d.aliases m.content == to) (waits_at r n m.content) (is_none m.arrived) (may_arrive (seen d) m)
    (from_placed (tablets_of d.managers) d.aliases m.content known h)
    (λ w. same_place (place_to d.aliases m.content) to (feed_place d.aliases r n m.content w ∙ sym is)))

not_to_it : (t w a x : Bool) → t ≡ true → (w ≡ true → t ≡ false) → ((w && a) && x) ≡ false
not_to_it true true a x h far = absurd (let wrong = far refl in cc)
not_to_it true false a x h far = refl
not_to_it false w a x h far = absurd (cc)

far_place : (p q n : ℕ) → p ≡ q → n < q → nat_lt p (n + 1) ≡ false
far_place p q n e far = grind (arith, nat_tests)

-- none is for who has no place of the shard
pub no_feeds_to : (d : Data) (to : ℕ) (r : Alias) (n : ℕ) → KnowsTablets d → AreAddressed d → to ≡ place_of d.aliases r → length d.aliases < to
    → is_under_way (seen d) r n ≡ false
no_feeds_to d to r n known addressed is far =
    none_on (λ m. is_addressed (tablets_of d.managers) m.content) (λ m. waits_at r n m.content && is_none m.arrived && may_arrive (seen d) m) d.messages addressed
    (λ m h. not_to_it (nat_lt (place_to d.aliases m.content) (length d.aliases + 1)) (waits_at r n m.content) (is_none m.arrived) (may_arrive (seen d) m)
    (to_placed (tablets_of d.managers) d.aliases m.content known h)
    (λ w. far_place (place_to d.aliases m.content) to (length d.aliases) (feed_place d.aliases r n m.content w ∙ sym is) far))

-- What each step keeps of a topology, and what any number of steps keeps.
use Rattle.std.proofs.Common.{◌≡◌, ◌≢◌, ℕ, ◌+◌, ◌<◌, ◌≤◌, Bool, true, false, cond, ◌==◌, List, [], ◌∷◌, ◌++◌, Some, refl, sym, ◌∙◌, ap, arith, append_assoc}
use Rattle.std.specs.List.{find, AllByRecursion}
use Rattle.std.proofs.lemmas.Bool.Decides.{nat_tests}
use Rattle.std.proofs.lemmas.List.{append-nil}
use Rattle.shard_base.specs.Lists.{IsFront}
use Rattle.shard_names.specs.declared.alias.Alias.{Alias}
use Rattle.shard_names.proofs.TabletLemmas.{both_left, both_right}
use Rattle.topo_lock.specs.declared.intent.Intent.{Intent}
use Rattle.shard_names.specs.Tablets.{is_among}
use Rattle.topo_lock.specs.Topology.{Topology, is_held, is_held_in, intent_of, adds_intent, marked}
use Rattle.topo_lock.specs.Moves.{TopoMove, TopoMoves, Takes, Intends, Records, Drains, Releases, Lapses, Stays, Rests, Goes}
use Rattle.topo_lock.specs.Laws.{EachTermOnce, TermsRise, TermsWithin, KeepsTermsRise, LostLockStaysLost, OneIntentATerm, IntentsAreInOrder, LastIntentIsGreatest, TermNeverFalls, IntentsStay, IntentOfTermStays, KeepsEachTermOnce, KeepsTermsWithin, PastTermsAreSettled}
use Rattle.topo_lock.specs.Laws.{MarksRise, MarksStay, KeepsMarksRise, MarksAreInOrder, OneMarkATablet}
use Rattle.topo_lock.proofs.IntentLemmas.{AllByRecursion-push, EachTermOnce-push, TermsRise-push, TermsWithin-later, all_below, within_last, none_found, find-append, find-push}
use Rattle.topo_lock.proofs.MarkLemmas.{marked_rises, among_stays, each_once}

-- a choice keeps what each side has
chosen : (P : Topology → Type 0) (b : Bool) (s t : Topology) → (b ≡ true → P s) → P t → P (cond b s t)
chosen P true s t p q = p refl
chosen P false s t p q = q

-- the topology with one more intent
abbrev pub with_intent : Topology → ℕ → Alias → Topology
with_intent t u a = record t { intents = t.intents ++ record { term = u; alias = a } ∷ [] }

-- an intent is added in the topology's own term, and no other has that term
own_term : (t : Topology) (u : ℕ) → adds_intent t u ≡ true → t.term ≡ u
own_term t u adds =
    let held : is_held_in t u ≡ true = both_left (is_held_in t u) _ adds in
    let same : (t.term == u) ≡ true = both_right (is_held t) (t.term == u) held in
    grind (arith, nat_tests)

new_term : (t : Topology) (u : ℕ) → adds_intent t u ≡ true → AllByRecursion (λ i. i.term ≢ u) t.intents
new_term t u adds = none_found u t.intents (both_right (is_held_in t u) _ adds)

-- one more intent leaves the terms in order
pub in_order_with_one_more : (t : Topology) (u : ℕ) (a : Alias) → adds_intent t u ≡ true → TermsRise t.intents → TermsWithin t.term t.intents → TermsRise (with_intent t u a).intents
in_order_with_one_more t u a adds rise within =
    let same : t.term ≡ u = own_term t u adds in
    let below : TermsWithin u t.intents = rw (← same) within in
    TermsRise-push t.intents (record { term = u; alias = a }) rise (all_below u t.intents below (new_term t u adds))

pub within_with_one_more : (t : Topology) (u : ℕ) (a : Alias) → adds_intent t u ≡ true → TermsWithin t.term t.intents → TermsWithin t.term (with_intent t u a).intents
within_with_one_more t u a adds within =
    let same : t.term ≡ u = own_term t u adds in
    let low : u ≤ t.term = omega arith in
    AllByRecursion-push (λ i. i.term ≤ t.term) t.intents (record { term = u; alias = a }) within low

-- ---- the term

term_step : {s t : Topology} → TopoMove s t → s.term ≤ t.term
term_step {s} (Takes h) = grind arith
term_step {s} (Intends u a) = grind arith
term_step {s} (Records u now) = grind arith
term_step {s} (Drains u a) = grind arith
term_step {s} (Releases u) = grind arith
term_step Lapses = grind arith
term_step Stays = grind arith

term_steps : {s t : Topology} → TopoMoves s t → s.term ≤ t.term
term_steps Rests = omega arith
term_steps (Goes before last) = omega (arith, term_steps before, term_step last)

pub term_never_falls : TermNeverFalls TopoMove
term_never_falls s t m = term_step m

pub term_never_falls_over_steps : TermNeverFalls TopoMoves
term_never_falls_over_steps s t m = term_steps m

-- ---- intents stay

whole : (is : List Intent) → IsFront is is
whole is = record { rest = []; split = sym (append-nil is) }

further : {is js ks : List Intent} → IsFront is js → IsFront js ks → IsFront is ks
further {is} f g = record { rest = f.rest ++ g.rest; split = g.split ∙ ap (λ (l : List Intent). l ++ g.rest) f.split ∙ append_assoc is f.rest g.rest }

front_step : {s t : Topology} → TopoMove s t → IsFront s.intents t.intents
front_step {s} (Takes h) = chosen (λ t. IsFront s.intents t.intents) (is_held s) s _ (λ held. whole s.intents) (whole s.intents)
front_step {s} (Intends u a) =
    chosen (λ t. IsFront s.intents t.intents) (adds_intent s u) (with_intent s u a) s (λ adds. record { rest = record { term = u; alias = a } ∷ []; split = refl }) (whole s.intents)
front_step {s} (Records u now) = chosen (λ t. IsFront s.intents t.intents) (is_held_in s u) _ s (λ held. whole s.intents) (whole s.intents)
front_step {s} (Drains u a) = chosen (λ t. IsFront s.intents t.intents) (is_held_in s u) _ s (λ held. whole s.intents) (whole s.intents)
front_step {s} (Releases u) = chosen (λ t. IsFront s.intents t.intents) (is_held_in s u) _ s (λ held. whole s.intents) (whole s.intents)
front_step {s} Lapses = whole s.intents
front_step {s} Stays = whole s.intents

front_steps : {s t : Topology} → TopoMoves s t → IsFront s.intents t.intents
front_steps {s} Rests = whole s.intents
front_steps (Goes before last) = further (front_steps before) (front_step last)

pub intents_stay : IntentsStay TopoMove
intents_stay s t m = front_step m

pub intents_stay_over_steps : IntentsStay TopoMoves
intents_stay_over_steps s t m = front_steps m

-- what a longer list still finds
found_in_front : (u : ℕ) (is js : List Intent) (i : Intent) → IsFront is js → find (λ j. j.term == u) is ≡ Some i → find (λ j. j.term == u) js ≡ Some i
found_in_front u is js i front found = rw front.split (find-append (λ j. j.term == u) is front.rest i found)

pub intent_of_term_stays : IntentOfTermStays TopoMove
intent_of_term_stays s t u i m found = found_in_front u s.intents t.intents i (front_step m) found

pub intent_of_term_stays_over_steps : IntentOfTermStays TopoMoves
intent_of_term_stays_over_steps s t u i m found = found_in_front u s.intents t.intents i (front_steps m) found

-- ---- one intent a term

once_step : {s t : Topology} → TopoMove s t → EachTermOnce s.intents → EachTermOnce t.intents
once_step {s} (Takes h) once = chosen (λ t. EachTermOnce t.intents) (is_held s) s _ (λ held. once) once
once_step {s} (Intends u a) once =
    chosen (λ t. EachTermOnce t.intents) (adds_intent s u) (with_intent s u a) s (λ adds. EachTermOnce-push s.intents (record { term = u; alias = a }) once (new_term s u adds)) once
once_step {s} (Records u now) once = chosen (λ t. EachTermOnce t.intents) (is_held_in s u) _ s (λ held. once) once
once_step {s} (Drains u a) once = chosen (λ t. EachTermOnce t.intents) (is_held_in s u) _ s (λ held. once) once
once_step {s} (Releases u) once = chosen (λ t. EachTermOnce t.intents) (is_held_in s u) _ s (λ held. once) once
once_step Lapses once = once
once_step Stays once = once

once_steps : {s t : Topology} → TopoMoves s t → EachTermOnce s.intents → EachTermOnce t.intents
once_steps Rests once = once
once_steps (Goes before last) once = once_step last (once_steps before once)

pub keeps_each_term_once : KeepsEachTermOnce TopoMove
keeps_each_term_once s t m once = once_step m once

pub keeps_each_term_once_over_steps : KeepsEachTermOnce TopoMoves
keeps_each_term_once_over_steps s t m once = once_steps m once

-- ---- no intent above the term

within_step : {s t : Topology} → TopoMove s t → TermsWithin s.term s.intents → TermsWithin t.term t.intents
within_step {s} (Takes h) within =
    chosen (λ t. TermsWithin t.term t.intents) (is_held s) s _ (λ held. within) (TermsWithin-later s.term (s.term + 1) s.intents (omega arith) within)
within_step {s} (Intends u a) within =
    chosen (λ t. TermsWithin t.term t.intents) (adds_intent s u) (with_intent s u a) s (λ adds. within_with_one_more s u a adds within) within
within_step {s} (Records u now) within = chosen (λ t. TermsWithin t.term t.intents) (is_held_in s u) _ s (λ held. within) within
within_step {s} (Drains u a) within = chosen (λ t. TermsWithin t.term t.intents) (is_held_in s u) _ s (λ held. within) within
within_step {s} (Releases u) within = chosen (λ t. TermsWithin t.term t.intents) (is_held_in s u) _ s (λ held. within) within
within_step Lapses within = within
within_step Stays within = within

within_steps : {s t : Topology} → TopoMoves s t → TermsWithin s.term s.intents → TermsWithin t.term t.intents
within_steps Rests within = within
within_steps (Goes before last) within = within_step last (within_steps before within)

pub keeps_terms_within : KeepsTermsWithin TopoMove
keeps_terms_within s t m within = within_step m within

pub keeps_terms_within_over_steps : KeepsTermsWithin TopoMoves
keeps_terms_within_over_steps s t m within = within_steps m within

-- ---- past terms

settled_step : {s t : Topology} (u : ℕ) → TopoMove s t → u < s.term → intent_of t u ≡ intent_of s u
settled_step {s} u (Takes h) past = chosen (λ t. intent_of t u ≡ intent_of s u) (is_held s) s _ (λ held. refl) refl
settled_step {s} u (Intends v a) past =
    chosen (λ t. intent_of t u ≡ intent_of s u) (adds_intent s v) (with_intent s v a) s
    (λ adds. let same : s.term ≡ v = own_term s v adds in let other : (v == u) ≡ false = grind (arith, nat_tests) in find-push (λ i. i.term == u) s.intents (record { term = v; alias = a }) other)
    refl
settled_step {s} u (Records v now) past = chosen (λ t. intent_of t u ≡ intent_of s u) (is_held_in s v) _ s (λ held. refl) refl
settled_step {s} u (Drains v a) past = chosen (λ t. intent_of t u ≡ intent_of s u) (is_held_in s v) _ s (λ held. refl) refl
settled_step {s} u (Releases v) past = chosen (λ t. intent_of t u ≡ intent_of s u) (is_held_in s v) _ s (λ held. refl) refl
settled_step u Lapses past = refl
settled_step u Stays past = refl

settled_steps : {s t : Topology} (u : ℕ) → TopoMoves s t → u < s.term → intent_of t u ≡ intent_of s u
settled_steps u Rests past = refl
settled_steps u (Goes before last) past = settled_step u last (omega (arith, past, term_steps before)) ∙ settled_steps u before past

pub past_terms_are_settled : PastTermsAreSettled TopoMove
past_terms_are_settled s t u m past = settled_step u m past

pub past_terms_are_settled_over_steps : PastTermsAreSettled TopoMoves
past_terms_are_settled_over_steps s t u m past = settled_steps u m past

-- ---- the terms rise

rise_step : {s t : Topology} → TopoMove s t → TermsWithin s.term s.intents → TermsRise s.intents → TermsRise t.intents
rise_step {s} (Takes h) within rise = chosen (λ t. TermsRise t.intents) (is_held s) s _ (λ held. rise) rise
rise_step {s} (Intends u a) within rise =
    chosen (λ t. TermsRise t.intents) (adds_intent s u) (with_intent s u a) s (λ adds. in_order_with_one_more s u a adds rise within) rise
rise_step {s} (Records u now) within rise = chosen (λ t. TermsRise t.intents) (is_held_in s u) _ s (λ held. rise) rise
rise_step {s} (Drains u a) within rise = chosen (λ t. TermsRise t.intents) (is_held_in s u) _ s (λ held. rise) rise
rise_step {s} (Releases u) within rise = chosen (λ t. TermsRise t.intents) (is_held_in s u) _ s (λ held. rise) rise
rise_step Lapses within rise = rise
rise_step Stays within rise = rise

rise_steps : {s t : Topology} → TopoMoves s t → TermsWithin s.term s.intents → TermsRise s.intents → TermsRise t.intents
rise_steps Rests within rise = rise
rise_steps (Goes before last) within rise = rise_step last (within_steps before within) (rise_steps before within rise)

pub keeps_terms_rise : KeepsTermsRise TopoMove
keeps_terms_rise s t m within rise = rise_step m within rise

pub keeps_terms_rise_over_steps : KeepsTermsRise TopoMoves
keeps_terms_rise_over_steps s t m within rise = rise_steps m within rise

-- ---- a lost lock

lost_step : {s t : Topology} (u : ℕ) → TopoMove s t → u ≤ s.term → is_held_in s u ≡ false → is_held_in t u ≡ false
lost_step {s} u (Takes h) past lost =
    chosen (λ t. is_held_in t u ≡ false) (is_held s) s _ (λ held. lost) (grind (arith, nat_tests))
lost_step {s} u (Intends v a) past lost = chosen (λ t. is_held_in t u ≡ false) (adds_intent s v) (with_intent s v a) s (λ adds. lost) lost
lost_step {s} u (Records v now) past lost = chosen (λ t. is_held_in t u ≡ false) (is_held_in s v) _ s (λ held. lost) lost
lost_step {s} u (Drains v a) past lost = chosen (λ t. is_held_in t u ≡ false) (is_held_in s v) _ s (λ held. lost) lost
lost_step {s} u (Releases v) past lost = chosen (λ t. is_held_in t u ≡ false) (is_held_in s v) _ s (λ held. refl) lost
lost_step u Lapses past lost = refl
lost_step u Stays past lost = lost

lost_steps : {s t : Topology} (u : ℕ) → TopoMoves s t → u ≤ s.term → is_held_in s u ≡ false → is_held_in t u ≡ false
lost_steps u Rests past lost = lost
lost_steps u (Goes before last) past lost = lost_step u last (omega (arith, past, term_steps before)) (lost_steps u before past lost)

pub lost_lock_stays_lost : LostLockStaysLost TopoMove
lost_lock_stays_lost s t u m past lost = lost_step u m past lost

pub lost_lock_stays_lost_over_steps : LostLockStaysLost TopoMoves
lost_lock_stays_lost_over_steps s t u m past lost = lost_steps u m past lost

-- ---- the marks

-- the topology with one more mark
abbrev with_mark : Topology → Alias → Topology
with_mark t a = record t { drained = marked t.drained a }

mark_step : {s t : Topology} (a : Alias) → TopoMove s t → is_among s.drained a ≡ true → is_among t.drained a ≡ true
mark_step {s} a (Takes h) there = chosen (λ t. is_among t.drained a ≡ true) (is_held s) s _ (λ held. there) there
mark_step {s} a (Intends u b) there = chosen (λ t. is_among t.drained a ≡ true) (adds_intent s u) (with_intent s u b) s (λ adds. there) there
mark_step {s} a (Records u now) there = chosen (λ t. is_among t.drained a ≡ true) (is_held_in s u) _ s (λ held. there) there
mark_step {s} a (Drains u b) there =
    chosen (λ t. is_among t.drained a ≡ true) (is_held_in s u) (with_mark s b) s (λ held. among_stays s.drained b a there) there
mark_step {s} a (Releases u) there = chosen (λ t. is_among t.drained a ≡ true) (is_held_in s u) _ s (λ held. there) there
mark_step a Lapses there = there
mark_step a Stays there = there

mark_steps : {s t : Topology} (a : Alias) → TopoMoves s t → is_among s.drained a ≡ true → is_among t.drained a ≡ true
mark_steps a Rests there = there
mark_steps a (Goes before last) there = mark_step a last (mark_steps a before there)

pub marks_stay : MarksStay TopoMove
marks_stay s t a m there = mark_step a m there

pub marks_stay_over_steps : MarksStay TopoMoves
marks_stay_over_steps s t a m there = mark_steps a m there

order_step : {s t : Topology} → TopoMove s t → MarksRise s.drained → MarksRise t.drained
order_step {s} (Takes h) rise = chosen (λ t. MarksRise t.drained) (is_held s) s _ (λ held. rise) rise
order_step {s} (Intends u a) rise = chosen (λ t. MarksRise t.drained) (adds_intent s u) (with_intent s u a) s (λ adds. rise) rise
order_step {s} (Records u now) rise = chosen (λ t. MarksRise t.drained) (is_held_in s u) _ s (λ held. rise) rise
order_step {s} (Drains u a) rise = chosen (λ t. MarksRise t.drained) (is_held_in s u) (with_mark s a) s (λ held. marked_rises s.drained a rise) rise
order_step {s} (Releases u) rise = chosen (λ t. MarksRise t.drained) (is_held_in s u) _ s (λ held. rise) rise
order_step Lapses rise = rise
order_step Stays rise = rise

order_steps : {s t : Topology} → TopoMoves s t → MarksRise s.drained → MarksRise t.drained
order_steps Rests rise = rise
order_steps (Goes before last) rise = order_step last (order_steps before rise)

pub keeps_marks_rise : KeepsMarksRise TopoMove
keeps_marks_rise s t m rise = order_step m rise

pub keeps_marks_rise_over_steps : KeepsMarksRise TopoMoves
keeps_marks_rise_over_steps s t m rise = order_steps m rise

-- ---- from the fresh topology

pub one_intent_a_term : OneIntentATerm
one_intent_a_term t m = once_steps m tt

pub intents_are_in_order : IntentsAreInOrder
intents_are_in_order t m = (rise_steps m tt tt, within_steps m tt)

pub last_intent_is_greatest : LastIntentIsGreatest
last_intent_is_greatest t i m last = within_last t.intents i (rise_steps m tt tt) last

pub marks_are_in_order : MarksAreInOrder
marks_are_in_order t m = order_steps m tt

pub one_mark_a_tablet : OneMarkATablet
one_mark_a_tablet t m = each_once t.drained (order_steps m tt)

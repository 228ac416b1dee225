-- Who may be offered an entry: nobody who waits behind the end of the longest log that is sent.
use Rattle.std.proofs.Common.{◌≡◌, ℕ, ◌-◌, ◌<◌, ◌≤◌, max, ◌⊎◌, inl, inr, Bool, true, false, not, ◌&&◌, nat_lt, nat_le, List, [], ◌∷◌, map, length, Option, Some, None, is_some, refl, ap, sym, ◌∙◌, cond, arith}
use Rattle.std.proofs.lemmas.Bool.Decides.{nat_tests}
use Rattle.std.specs.List.{find}
use Rattle.shard_base.specs.Options.{◌>>=◌, only_if}
use Rattle.shard_names.specs.declared.alias.Alias.{Alias}
use Rattle.shard_names.specs.Tablets.{alias_eq}
use Rattle.shard_names.proofs.TabletLemmas.{both_left, alias_eq_is, alias_eq_itself}
use Rattle.gtid_sets.specs.declared.entry.Entry.{Entry}
use Rattle.shard_calls.specs.declared.post.Content.{Content}
use Rattle.shard_calls.specs.declared.stand.Stand.{Stand}
use Rattle.shard_calls.specs.declared.stand.Stand.TheVariants as stands
use Rattle.shard_calls.specs.Messages.{Indexed, feeds_term, is_cut, link_between, is_under_way, may_feed, sends_all_from, needed_from, needed, feed_of, offered_by, offer_to}
use Rattle.shard_calls.specs.Tablets.{TabletState}
use Rattle.shard_calls.specs.World.{World}
use Rattle.tablet_manager.specs.Managed.{Managed, state_of}
use Rattle.shard_state.specs.State.{Data, seen, config_in, tablets_of, state_at}
use Rattle.arrivals.specs.Arrivals.{next_offered}
use Rattle.arrivals.specs.Offers.{sends, sent_by, most_sent, waits_within, is_offered, first_offered}
use Rattle.arrivals.proofs.WalkLemmas.{all_dropped}

-- ---- a log that has not come to the index

nothing_needed : (source replica : TabletState) (n : ℕ) → length source.log < n → needed source replica n ≡ None
nothing_needed source replica n short =
    ap (λ (es : List Entry). needed_from n (sends_all_from source) replica.log es) (all_dropped source.log (n - 1) (let far : length source.log ≤ n - 1 = omega (arith, short) in far))

offered_if : (b : Bool) (s r : Alias) (t n : ℕ) (x : ℕ → Option Indexed) → (b ≡ true → x n ≡ None)
    → (only_if b n >>= (λ m. x m >>= (λ y. Some (feed_of s r t n y)))) ≡ None
offered_if true s r t n x none = ap (λ (o : Option Indexed). o >>= (λ y. Some (feed_of s r t n y))) (none refl)
offered_if false s r t n x none = refl

-- what is not there is not offered
pub nothing_offered : (w : World) (s r : Alias) (t n : ℕ) → (may_feed w s r t n ≡ true → length (w.tablets s).log < n) → offered_by w r (stands.Replica s t n) ≡ None
nothing_offered w s r t n short =
    offered_if (may_feed w s r t n) s r t n (needed (w.tablets s) (w.tablets r)) (λ may. nothing_needed (w.tablets s) (w.tablets r) n (short may))

pub beyond_is : (k n : ℕ) → nat_lt k n ≡ true → k < n
beyond_is k n h = grind (arith, nat_tests)

-- ---- the longest log that is sent

sends_some : (stand : Stand) (t : ℕ) → feeds_term stand t ≡ true → sends stand ≡ true
sends_some stands.Down t h = h
sends_some stands.Stopped t h = h
sends_some (stands.Primary of) t h = refl
sends_some (stands.Demoted of by) t h = refl
sends_some (stands.Replica source of next) t h = h
sends_some (stands.Feeder of) t h = refl

own_sent : (m : Managed) → sends m.stand ≡ true → length m.log.entries ≤ sent_by m
own_sent m h = let same : sent_by m ≡ length m.log.entries = ap (λ (b : Bool). cond b (length m.log.entries) 0) h in omega (arith, same)

at_most : (ms : List Managed) (s : Alias) (t : ℕ) → feeds_term (state_at ms s).stand t ≡ true → length (state_at ms s).log ≤ most_sent ms
at_most [] s t h = omega arith
at_most (m ∷ ms) s t h = by_alias (alias_eq m.me.alias s) h (at_most ms s t) where
  by_alias : (b : Bool) → feeds_term (cond b (state_of m) (state_at ms s)).stand t ≡ true
      → (feeds_term (state_at ms s).stand t ≡ true → length (state_at ms s).log ≤ most_sent ms)
      → length (cond b (state_of m) (state_at ms s)).log ≤ max (sent_by m) (most_sent ms)
  by_alias true h more = omega (arith, own_sent m (sends_some m.stand t h))
  by_alias false h more = omega (arith, more h)

behind : (n most : ℕ) → nat_le n most ≡ false → most < n
behind n most h = grind (arith, nat_tests)

by_stand : (d : Data) (a : Alias) (stand : Stand) → waits_within (most_sent d.managers) stand ≡ false → offered_by (seen d) a stand ≡ None
by_stand d a stands.Down h = refl
by_stand d a stands.Stopped h = refl
by_stand d a (stands.Primary t) h = refl
by_stand d a (stands.Demoted t by) h = refl
by_stand d a (stands.Feeder t) h = refl
by_stand d a (stands.Replica s t n) h =
    nothing_offered (seen d) s a t n
    (λ may.
    let feeds = both_left (feeds_term (state_at d.managers s).stand t) (not (is_cut d.cuts (link_between s a)))
    (both_left (feeds_term (state_at d.managers s).stand t && not (is_cut d.cuts (link_between s a))) (not (is_under_way (seen d) a n)) may) in
    let few = at_most d.managers s t feeds in
    let far = behind n (most_sent d.managers) h in
    omega (arith, few, far))

-- who waits behind its end is offered nothing
not_within : (d : Data) (m : Managed) → state_at d.managers m.me.alias ≡ state_of m → waits_within (most_sent d.managers) m.stand ≡ false
    → is_some (offer_to (seen d) m.me.alias) ≡ false
not_within d m here h =
    ap (λ (s : TabletState). is_some (offered_by (seen d) m.me.alias s.stand)) here
    ∙ ap (λ (o : Option Content). is_some o) (by_stand d m.me.alias m.stand h)

-- ---- a look over the tablets

-- of who is left each has the state that its alias has, unless its alias is offered nothing
abbrev AreLeft : Data → List Managed → Type 0
AreLeft d ms = (a : Alias) → (is_some (offer_to (seen d) a) ≡ false) ⊎ (state_at d.managers a ≡ state_at ms a)

left_next : (d : Data) (m : Managed) (ms : List Managed) → AreLeft d (m ∷ ms) → is_some (offer_to (seen d) m.me.alias) ≡ false → AreLeft d ms
left_next d m ms left none a = by_alias (alias_eq m.me.alias a) refl (left a) where
  by_alias : (b : Bool) → alias_eq m.me.alias a ≡ b → (is_some (offer_to (seen d) a) ≡ false) ⊎ (state_at d.managers a ≡ state_at (m ∷ ms) a)
      → (is_some (offer_to (seen d) a) ≡ false) ⊎ (state_at d.managers a ≡ state_at ms a)
  by_alias b is (inl e) = inl e
  by_alias true is (inr e) = inl (ap (λ (x : Alias). is_some (offer_to (seen d) x)) (sym (alias_eq_is m.me.alias a is)) ∙ none)
  by_alias false is (inr e) = inr (e ∙ ap (λ (b : Bool). cond b (state_of m) (state_at ms a)) is)

skipped : (d : Data) (m : Managed) (ms : List Managed) → (is_some (offer_to (seen d) m.me.alias) ≡ false) ⊎ (state_at d.managers m.me.alias ≡ state_at (m ∷ ms) m.me.alias)
    → waits_within (most_sent d.managers) m.stand ≡ false → is_some (offer_to (seen d) m.me.alias) ≡ false
skipped d m ms (inl e) h = e
skipped d m ms (inr e) h =
    not_within d m (e ∙ ap (λ (b : Bool). cond b (state_of m) (state_at ms m.me.alias)) (alias_eq_itself m.me.alias)) h

look_one : (b p : Bool) (m : Managed) (found : Option Managed) (rest : Option Alias) → (b ≡ false → p ≡ false) → (p ≡ false → (found >>= (λ x. Some x.me.alias)) ≡ rest)
    → (cond (b && p) (Some m) found >>= (λ x. Some x.me.alias)) ≡ cond p (Some m.me.alias) rest
look_one true true m found rest skip more = refl
look_one true false m found rest skip more = more refl
look_one false true m found rest skip more = absurd (let wrong = skip refl in cc)
look_one false false m found rest skip more = more refl

look : (d : Data) (ms : List Managed) → AreLeft d ms → first_offered d (most_sent d.managers) ms ≡ find (λ a. is_some (offer_to (seen d) a)) (map (λ t. t.alias) (tablets_of ms))
look d [] left = refl
look d (m ∷ ms) left =
    look_one (waits_within (most_sent d.managers) m.stand) (is_some (offer_to (seen d) m.me.alias)) m (find (is_offered d (most_sent d.managers)) ms)
    (find (λ a. is_some (offer_to (seen d) a)) (map (λ t. t.alias) (tablets_of ms)))
    (skipped d m ms (left m.me.alias)) (λ none. look d ms (left_next d m ms left none))

-- it finds who may be offered an entry first
pub look_finds : (d : Data) → first_offered d (most_sent d.managers) d.managers ≡ next_offered (config_in d) (seen d)
look_finds d = look d d.managers (λ a. inr refl)

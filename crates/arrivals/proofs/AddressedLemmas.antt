-- The tablets of messages stay declared: where one more is sent, where one changes, and for what a source offers.
use Rattle.std.proofs.Common.{◌≡◌, ℕ, zero, suc, Bool, true, false, not, ◌&&◌, List, [], ◌∷◌, ◌++◌, Option, Some, None, is_some, refl, ap, sym, ◌∙◌, cond}
use Rattle.std.specs.List.{find}
use Rattle.shard_base.specs.Options.{◌>>=◌, only_if}
use Rattle.shard_names.specs.declared.alias.Alias.{Alias}
use Rattle.shard_names.specs.declared.tablet.Tablet.{Tablet}
use Rattle.shard_names.specs.Tablets.{alias_eq, is_declared}
use Rattle.shard_names.proofs.TabletLemmas.{both, both_left, both_right}
use Rattle.gtid_sets.specs.declared.entry.Entry.{Entry}
use Rattle.shard_calls.specs.declared.post.Content.{Content}
use Rattle.shard_calls.specs.declared.post.Content.TheVariants as contents
use Rattle.shard_calls.specs.declared.post.Message.{Message}
use Rattle.shard_calls.specs.declared.stand.Stand.{Stand}
use Rattle.shard_calls.specs.declared.stand.Stand.TheVariants as stands
use Rattle.shard_calls.specs.Messages.{Indexed, feeds_term, is_cut, link_between, is_under_way, may_feed, needed, feed_of, offered_by, offer_to}
use Rattle.shard_calls.specs.World.{changed, changed_at}
use Rattle.tablet_manager.specs.Managed.{Managed}
use Rattle.shard_state.specs.State.{Data, seen, tablets_of, state_at}
use Rattle.arrivals.specs.Addressed.{is_addressed, are_addressed}

-- ---- one more message, and one that changes

pub addressed_more : (ts : List Tablet) (ms : List Message) (m : Message) → are_addressed ts ms ≡ true → is_addressed ts m.content ≡ true → are_addressed ts (ms ++ m ∷ []) ≡ true
addressed_more ts [] m all here = both (is_addressed ts m.content) true here refl
addressed_more ts (x ∷ ms) m all here =
    both (is_addressed ts x.content) (are_addressed ts (ms ++ m ∷ [])) (both_left (is_addressed ts x.content) (are_addressed ts ms) all)
    (addressed_more ts ms m (both_right (is_addressed ts x.content) (are_addressed ts ms) all) here)

addressed_changed : (ts : List Tablet) (ms : List Message) (k : ℕ) (f : Message → Message) → ((m : Message) → (f m).content ≡ m.content) → are_addressed ts (changed ms k f) ≡ are_addressed ts ms
addressed_changed ts [] k f same = refl
addressed_changed ts (m ∷ ms) zero f same = ap (λ (c : Content). is_addressed ts c && are_addressed ts ms) (same m)
addressed_changed ts (m ∷ ms) (suc k) f same = ap (λ (b : Bool). is_addressed ts m.content && b) (addressed_changed ts ms k f same)

-- a message that keeps what it carries
pub addressed_same : (ts : List Tablet) (ms : List Message) (number : ℕ) (f : Message → Message) → ((m : Message) → (f m).content ≡ m.content)
    → are_addressed ts (changed_at ms number f) ≡ are_addressed ts ms
addressed_same ts ms zero f same = refl
addressed_same ts ms (suc k) f same = addressed_changed ts ms k f same

-- an entry is acknowledged between the same tablets
pub addressed_ack : (ts : List Tablet) (from to : Alias) (term after index : ℕ) (e : Entry) → is_addressed ts (contents.Feeds from to term after index e) ≡ true
    → is_addressed ts (contents.Acks to from term index) ≡ true
addressed_ack ts from to term after index e h =
    both (is_declared ts to) (is_declared ts from) (both_right (is_declared ts from) (is_declared ts to) h) (both_left (is_declared ts from) (is_declared ts to) h)

-- ---- what a source offers

declared_one : (t : Bool) (here : Tablet) (found : Option Tablet) (s rest : Stand) (term : ℕ) → (feeds_term rest term ≡ true → is_some found ≡ true) → feeds_term (cond t s rest) term ≡ true
    → is_some (cond t (Some here) found) ≡ true
declared_one true here found s rest term more h = refl
declared_one false here found s rest term more h = more h

stand_one : (t : Bool) (m : Managed) (ms : List Managed) (a : Alias) → alias_eq m.me.alias a ≡ t → (state_at (m ∷ ms) a).stand ≡ cond t m.stand (state_at ms a).stand
stand_one true m ms a is = rw is refl
stand_one false m ms a is = rw is refl

-- who sends its log is declared
pub source_declared : (ms : List Managed) (a : Alias) (term : ℕ) → feeds_term (state_at ms a).stand term ≡ true → is_declared (tablets_of ms) a ≡ true
source_declared [] a term h = absurd (cc)
source_declared (m ∷ ms) a term h =
    declared_one (alias_eq m.me.alias a) m.me (find (λ t. alias_eq t.alias a) (tablets_of ms)) m.stand (state_at ms a).stand term (source_declared ms a term)
    (ap (λ (s : Stand). feeds_term s term) (sym (stand_one (alias_eq m.me.alias a) m ms a refl)) ∙ h)

-- and so is who replicates
pub replica_declared : (ms : List Managed) (a s : Alias) (t n : ℕ) → (state_at ms a).stand ≡ stands.Replica s t n → is_declared (tablets_of ms) a ≡ true
replica_declared [] a s t n h = absurd (cc)
replica_declared (m ∷ ms) a s t n h =
    replica_one (alias_eq m.me.alias a) m.me (find (λ u. alias_eq u.alias a) (tablets_of ms)) m.stand (state_at ms a).stand (replica_declared ms a s t n)
    (sym (stand_one (alias_eq m.me.alias a) m ms a refl) ∙ h) where
      replica_one : (b : Bool) (here : Tablet) (found : Option Tablet) (x rest : Stand) → (rest ≡ stands.Replica s t n → is_some found ≡ true) → cond b x rest ≡ stands.Replica s t n
          → is_some (cond b (Some here) found) ≡ true
      replica_one true here found x rest more e = refl
      replica_one false here found x rest more e = more e

fed_one : (ts : List Tablet) (s r : Alias) (t n : ℕ) (x : Option Indexed) (c : Content) → is_declared ts s ≡ true → is_declared ts r ≡ true
    → (x >>= (λ y. Some (feed_of s r t n y))) ≡ Some c → is_addressed ts c ≡ true
fed_one ts s r t n None c ds dr e = absurd (cc)
fed_one ts s r t n (Some x) c ds dr e =
    let is : feed_of s r t n x ≡ c = cc in
    ap (λ (d : Content). is_addressed ts d) (sym is) ∙ both (is_declared ts s) (is_declared ts r) ds dr

by_test : (ts : List Tablet) (s r : Alias) (t n : ℕ) (b : Bool) (x : ℕ → Option Indexed) (c : Content) → (b ≡ true → is_declared ts s ≡ true) → is_declared ts r ≡ true
    → (only_if b n >>= (λ m. x m >>= (λ y. Some (feed_of s r t n y)))) ≡ Some c → is_addressed ts c ≡ true
by_test ts s r t n true x c ds dr e = fed_one ts s r t n (x n) c (ds refl) dr e
by_test ts s r t n false x c ds dr e = absurd (cc)

by_stand : (d : Data) (r : Alias) (stand : Stand) (c : Content) → (state_at d.managers r).stand ≡ stand → offered_by (seen d) r stand ≡ Some c → is_addressed (tablets_of d.managers) c ≡ true
by_stand d r stands.Down c is e = absurd (cc)
by_stand d r stands.Stopped c is e = absurd (cc)
by_stand d r (stands.Primary t) c is e = absurd (cc)
by_stand d r (stands.Demoted t by) c is e = absurd (cc)
by_stand d r (stands.Feeder t) c is e = absurd (cc)
by_stand d r (stands.Replica s t n) c is e =
    by_test (tablets_of d.managers) s r t n (may_feed (seen d) s r t n) (needed (state_at d.managers s) (state_at d.managers r)) c
    (λ may. source_declared d.managers s t
    (both_left (feeds_term (state_at d.managers s).stand t) (not (is_cut d.cuts (link_between s r)))
    (both_left (feeds_term (state_at d.managers s).stand t && not (is_cut d.cuts (link_between s r))) (not (is_under_way (seen d) r n)) may)))
    (replica_declared d.managers r s t n is) e

-- what is offered goes between declared tablets
pub offer_addressed : (d : Data) (r : Alias) (c : Content) → offer_to (seen d) r ≡ Some c → is_addressed (tablets_of d.managers) c ≡ true
offer_addressed d r c e = by_stand d r (state_at d.managers r).stand c refl e

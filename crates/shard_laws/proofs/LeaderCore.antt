-- The induction on terms: a promoted tablet holds all that is told in an earlier term. What it rests on is gathered as facts of a story, which
-- names the logs at the end of a history, and what it intends, votes, promotes and tells.
use Rattle.std.proofs.Common.{◌≡◌, ◌⊎◌, inl, inr, ℕ, zero, suc, ◌≤◌, ◌<◌, max, Bool, true, false, ◌&&◌, nat_lt, IsTrue, refl, ap, subst, ◌∙◌, arith, List, [], ◌∷◌, take, Some, unwrap_or}
use Rattle.std.proofs.lemmas.Bool.Decides.{nat_tests}
use Rattle.std.proofs.lemmas.List.Elements.{All-contains}
use Rattle.std.specs.List.{slice_get, Contains}
use Rattle.shard_base.specs.Lists.{IsFront}
use Rattle.shard_names.specs.declared.alias.Alias.{Alias}
use Rattle.shard_names.specs.declared.tablet.Tablet.{Tablet}
use Rattle.shard_names.proofs.TabletLemmas.{both_left, both_right}
use Rattle.durability.specs.Rules.{Rules, is_eligible}
use Rattle.durability.specs.Sets.{TabletSet, Accepted, RevokesPrimary, Revokes}
use Rattle.gtid_sets.specs.declared.entry.Entry.{Entry}
use Rattle.gtid_sets.specs.declared.entry.Kind.{Kind}
use Rattle.gtid_sets.specs.declared.entry.Kind.TheVariants as kinds
use Rattle.gtid_sets.specs.Logs.{row_term, row_or_zero, newest_row}
use Rattle.shard_calls.specs.RunLaws.{IsIn}
use Rattle.shard_calls.proofs.ListLemmas.{one_passes}
use Rattle.shard_calls.proofs.WorldLemmas.{get_front}
use Rattle.shard_calls.proofs.StepLemmas.{below_greatest}
use Rattle.shard_calls.proofs.ClosureLemmas.{below_length, get_back, take_place}

-- ---- what the induction speaks of

pub record Story : Type 1 where
  -- the policy of each term
  pub rules : ℕ → Rules
  pub tablets : List Tablet
  -- the logs at the end
  pub logs : Alias → List Entry
  -- the term intends the tablet
  pub Intends : ℕ → Alias → Type 0
  -- the tablet votes, in the term, for the entry
  pub Votes : Alias → ℕ → Entry → Type 0
  -- the row of the term comes into the log of the tablet, behind these entries
  pub Promotes : ℕ → Alias → List Entry → Type 0
  -- the entry is told in the term
  pub Tells : Entry → ℕ → Type 0

-- the log has every entry of the other one
abbrev pub Has : List Entry → List Entry → Type 0
Has log other = (e : Entry) → IsIn other e → IsIn log e

-- the row of a term stands in the log
pub record HasRow (log : List Entry) (t : ℕ) : Type 0 where
  pub place : ℕ
  pub row : Entry
  pub named : Alias
  pub there : slice_get log place ≡ Some row
  pub is_row : row.kind ≡ kinds.Row t named

-- a set that the policy accepts for the tablet of the term has voted for the entry
pub record IsVotedFor (s : Story) (e : Entry) (t : ℕ) : Type 0 where
  pub primary : Tablet
  pub declared : Contains s.tablets primary
  pub eligible : IsTrue (is_eligible (s.rules t) primary)
  pub intended : s.Intends t primary.alias
  pub set : TabletSet
  pub accepted : Accepted (s.rules t) s.tablets primary set
  pub voted : (a : Alias) → set a ≡ true → s.Votes a t e

-- A front of the tablet's log that has all its votes below the term, each with the row of its term: what it had when it answered a Stop or a Demote of the term.
pub record Carries (s : Story) (u : ℕ) (a : Alias) (front : List Entry) : Type 0 where
  pub part : IsFront front (s.logs a)
  pub votes : (t : ℕ) (e : Entry) → s.Votes a t e → t < u → IsIn front e × HasRow front t

-- what a tablet had that is not ahead of the winner
pub record IsBehind (s : Story) (u : ℕ) (winner : List Entry) (a : Alias) : Type 0 where
  pub front : List Entry
  pub carries : Carries s u a front
  pub below : newest_row front ≤ newest_row winner
  pub same : newest_row front ≡ newest_row winner → Has winner front

-- Something was told in this term, which is earlier; or it is 0, the first term of all.
abbrev pub IsMark : Story → ℕ → ℕ → Type 0
IsMark s u from = (from ≡ 0) ⊎ ((from < u) × (c : Alias) × s.Intends from c × (e : Entry) × s.Tells e from)

-- why the promoted tablet has all that can be told in an earlier term
pub data Ground (s : Story) (u : ℕ) (base : List Entry) : Type 0 where
  First : ((t : ℕ) (c : Alias) → s.Intends t c → t < u → ⊥) → Ground s u base
  Planned : (t : ℕ) (o : Alias) (front : List Entry) → s.Intends t o → t < u → ((v : ℕ) (c : Alias) → s.Intends v c → v < u → v ≤ t)
      → Carries s u o front → newest_row front ≡ t → Has base front → Ground s u base
  -- a set that revokes under the policy of each earlier term from a mark on
  Emergency : (from : ℕ) (reached : TabletSet) (m : Alias) (front : List Entry) → IsMark s u from
      → ((v : ℕ) (c : Alias) → s.Intends v c → from ≤ v → v < u → Revokes (s.rules v) s.tablets reached) → IsFront front (s.logs m) → (0 < u → newest_row front < u)
      → Has base front → ((p : Tablet) → Contains s.tablets p → reached p.alias ≡ true → IsBehind s u front p.alias) → Ground s u base

-- a row is of a promotion, and the entries before it have all that the promoted tablet had
pub record IsPromoted (s : Story) (before : List Entry) (t : ℕ) (c : Alias) : Type 0 where
  pub intended : s.Intends t c
  pub base : List Entry
  pub promotes : s.Promotes t c base
  pub closed : Has before base

pub record Facts (s : Story) : Type 0 where
  pub one : (t : ℕ) (c d : Alias) → s.Intends t c → s.Intends t d → c ≡ d
  pub rows : (a : Alias) (n t : ℕ) (row : Entry) (c : Alias) → slice_get (s.logs a) n ≡ Some row → row.kind ≡ kinds.Row t c → IsPromoted s (take n (s.logs a)) t c
  pub grounds : (u : ℕ) (c : Alias) (base : List Entry) → s.Promotes u c base → Ground s u base
  pub told : (e : Entry) (t : ℕ) → s.Tells e t → IsVotedFor s e t

-- ---- rows

in_tail : (x : Entry) (log : List Entry) (t : ℕ) → HasRow log t → HasRow (x ∷ log) t
in_tail x log t h = record { place = suc h.place; row = h.row; named = h.named; there = h.there; is_row = h.is_row }

-- the newest row stands in the log
pub newest_found : (log : List Entry) (t : ℕ) → newest_row log ≡ t → 0 < t → HasRow log t
newest_found [] t is some = absurd (omega (arith, is, some))
newest_found (x ∷ log) t is some = of_kind x.kind refl (λ k. newest_found log t k some)
  where
    later : (n : ℕ) → row_or_zero x ≡ 0 → (newest_row log ≡ t → HasRow log t) → HasRow (x ∷ log) t
    later n none rest = in_tail x log t (rest (let m : max (row_or_zero x) (newest_row log) ≡ t = is in grind (arith, m, none)))

    of_order : (v : ℕ) (c : Alias) (b : Bool) → x.kind ≡ kinds.Row v c → nat_lt v t ≡ b → (newest_row log ≡ t → HasRow log t) → HasRow (x ∷ log) t
    of_order v c true kind low rest =
        let zero_or : row_or_zero x ≡ v = ap (λ (k : Kind). unwrap_or (row_term k) 0) kind in
        in_tail x log t (rest (let m : max (row_or_zero x) (newest_row log) ≡ t = is in let l : v < t = grind (arith, nat_tests) in grind (arith, m, zero_or, l)))
    of_order v c false kind high rest =
        let zero_or : row_or_zero x ≡ v = ap (λ (k : Kind). unwrap_or (row_term k) 0) kind in
        let same : v ≡ t = (let m : max (row_or_zero x) (newest_row log) ≡ t = is in let l : t ≤ v = grind (arith, nat_tests) in grind (arith, m, zero_or, l)) in
        record { place = 0; row = x; named = c; there = refl; is_row = kind ∙ ap (λ (w : ℕ). kinds.Row w c) same }

    of_kind : (k : Kind) → x.kind ≡ k → (newest_row log ≡ t → HasRow log t) → HasRow (x ∷ log) t
    of_kind (kinds.Write v client number) kind rest = later 0 (ap (λ (k : Kind). unwrap_or (row_term k) 0) kind) rest
    of_kind (kinds.Row v c) kind rest = of_order v c (nat_lt v t) kind refl rest
    of_kind kinds.Local kind rest = later 0 (ap (λ (k : Kind). unwrap_or (row_term k) 0) kind) rest

-- a row that stands in the log is at most the newest
pub row_below : (log : List Entry) (t : ℕ) → HasRow log t → t ≤ newest_row log
row_below log t h =
    let is : row_or_zero h.row ≡ t = ap (λ (k : Kind). unwrap_or (row_term k) 0) h.is_row in
    let below : row_or_zero h.row ≤ newest_row log = below_greatest row_or_zero log h.place h.row h.there in
    omega (arith, is, below)

-- ---- the induction

abbrev pub Claim : Story → ℕ → Type 0
Claim s u = (c : Alias) (base : List Entry) (e : Entry) (t : ℕ) → s.Promotes u c base → s.Tells e t → t < u → IsIn base e

-- a front that has the row of a later term has what was told in an earlier one
by_row : (s : Story) (a : Alias) (front : List Entry) (v : ℕ) (e : Entry) (t : ℕ) → Facts s → Claim s v → IsFront front (s.logs a) → HasRow front v
    → s.Tells e t → t < v → IsIn front e
by_row s a front v e t facts claim part h told less =
    let there : slice_get (s.logs a) h.place ≡ Some h.row = get_front front (s.logs a) h.place h.row part h.there in
    let is = facts.rows a h.place v h.row h.named there h.is_row in
    let before : IsIn (take h.place (s.logs a)) e = is.closed e (claim h.named is.base e t is.promotes told less) in
    let inside = take_place (s.logs a) h.place before.0 e before.1 in
    let size = below_length front h.place h.row h.there in
    let low = inside.0 in
    (before.0, get_back front (s.logs a) before.0 e part (omega (arith, size, low)) inside.1)

order : (n m : ℕ) → n ≤ m → (n ≡ m) ⊎ (n < m)
order n m le = of_test (nat_lt n m) refl
  where
    of_test : (b : Bool) → nat_lt n m ≡ b → (n ≡ m) ⊎ (n < m)
    of_test true e = inr (let l : n < m = grind (arith, nat_tests) in l)
    of_test false e = inl (let l : m ≤ n = grind (arith, nat_tests) in omega (arith, le, l))

by_planned : (s : Story) (u : ℕ) (base : List Entry) (e : Entry) (t v : ℕ) (o : Alias) (front : List Entry) → Facts s → Claim s v → s.Intends v o
    → Carries s u o front → newest_row front ≡ v → Has base front → s.Tells e t → t < u → t ≤ v → IsVotedFor s e t → IsIn base e
by_planned s u base e t v o front facts claim intended carries newest has told less le voted = of_order (order t v le)
  where
    of_order : (t ≡ v) ⊎ (t < v) → IsIn base e
    of_order (inl same) =
        let home : voted.primary.alias ≡ o = facts.one v voted.primary.alias o (subst (λ (n : ℕ). s.Intends n voted.primary.alias) same voted.intended) intended in
        let vote : s.Votes o t e = subst (λ (a : Alias). s.Votes a t e) home (voted.voted voted.primary.alias voted.accepted.primary_in) in
        has e (carries.votes t e vote less).0
    of_order (inr low) = has e (by_row s o front v e t facts claim carries.part (newest_found front v newest (omega (arith, low))) told low)

-- a tablet that is reached has voted for what is told in a term from the mark on
record Reaches (s : Story) (u : ℕ) (winner : List Entry) (e : Entry) (t : ℕ) : Type 0 where
  who : Alias
  behind : IsBehind s u winner who
  vote : s.Votes who t e

reaches : (s : Story) (u : ℕ) (e : Entry) (t from : ℕ) (reached : TabletSet) (winner : List Entry)
    → ((v : ℕ) (c : Alias) → s.Intends v c → from ≤ v → v < u → Revokes (s.rules v) s.tablets reached)
    → ((p : Tablet) → Contains s.tablets p → reached p.alias ≡ true → IsBehind s u winner p.alias) → from ≤ t → t < u → IsVotedFor s e t
    → Reaches s u winner e t
reaches s u e t from reached winner revokes behind low less voted =
    let revoked : RevokesPrimary (s.rules t) s.tablets reached voted.primary =
    All-contains (λ p. IsTrue (is_eligible (s.rules t) p) → RevokesPrimary (s.rules t) s.tablets reached p) s.tablets voted.primary
    (revokes t voted.primary.alias voted.intended low less) voted.declared voted.eligible in
    let met = one_passes (λ (p : Tablet). reached p.alias && voted.set p.alias) s.tablets (revoked voted.set voted.accepted) in
    record {
      who = met.0.alias;
      behind = behind met.0 met.1 (both_left (reached met.0.alias) (voted.set met.0.alias) met.2);
      vote = voted.voted met.0.alias (both_right (reached met.0.alias) (voted.set met.0.alias) met.2);
    }

-- the newest row of the winner is at least the term that a reached tablet has voted in
newest_of_winner : (s : Story) (u : ℕ) (e : Entry) (t : ℕ) (winner : List Entry) → Reaches s u winner e t → t < u → t ≤ newest_row winner
newest_of_winner s u e t winner r less =
    let rows = row_below r.behind.front t (r.behind.carries.votes t e r.vote less).1 in
    let high = r.behind.below in
    omega (arith, rows, high)

by_emergency : (s : Story) (u : ℕ) (base : List Entry) (e : Entry) (t from : ℕ) (reached : TabletSet) (m : Alias) (front : List Entry) → Facts s
    → ((v : ℕ) → v < u → Claim s v) → IsMark s u from
    → ((v : ℕ) (c : Alias) → s.Intends v c → from ≤ v → v < u → Revokes (s.rules v) s.tablets reached) → IsFront front (s.logs m)
    → (0 < u → newest_row front < u) → Has base front → ((p : Tablet) → Contains s.tablets p → reached p.alias ≡ true → IsBehind s u front p.alias) → s.Tells e t
    → t < u → IsVotedFor s e t → IsIn base e
by_emergency s u base e t from reached m front facts claims mark revokes part low has behind told less voted = of_place (nat_lt t from) refl
  where
    by_newest : t < newest_row front → IsIn base e
    by_newest later =
        has e (by_row s m front (newest_row front) e t facts (claims (newest_row front) (low (omega (arith, less)))) part
        (newest_found front (newest_row front) refl (omega (arith, later))) told later)

    of_order : Reaches s u front e t → (t ≡ newest_row front) ⊎ (t < newest_row front) → IsIn base e
    of_order r (inl same) =
        let vote = r.behind.carries.votes t e r.vote less in
        let rows = row_below r.behind.front t vote.1 in
        let high = r.behind.below in
        has e (r.behind.same (omega (arith, rows, high, same)) e vote.0)
    of_order r (inr later) = by_newest later

    of_mark : t < from → IsMark s u from → IsIn base e
    of_mark before (inl none) = absurd (omega (arith, before, none))
    of_mark before (inr (earlier, c, intended, marked, tells)) =
        let r = reaches s u marked from from reached front revokes behind (omega arith) earlier (facts.told marked from tells) in
        let high = newest_of_winner s u marked from front r earlier in
        by_newest (omega (arith, before, high))

    of_place : (b : Bool) → nat_lt t from ≡ b → IsIn base e
    of_place true before = of_mark (let l : t < from = grind (arith, nat_tests) in l) mark
    of_place false after =
        let r = reaches s u e t from reached front revokes behind (let l : from ≤ t = grind (arith, nat_tests) in l) less voted in
        of_order r (order t (newest_row front) (newest_of_winner s u e t front r less))

one_term : (s : Story) (u : ℕ) → Facts s → ((v : ℕ) → v < u → Claim s v) → Claim s u
one_term s u facts claims c base e t promoted told less = of_ground (facts.grounds u c base promoted) (facts.told e t told)
  where
    of_ground : Ground s u base → IsVotedFor s e t → IsIn base e
    of_ground (First none) voted = absurd (none t voted.primary.alias voted.intended less)
    of_ground (Planned v o front intended low last carries newest has) voted =
        by_planned s u base e t v o front facts (claims v low) intended carries newest has told less (last t voted.primary.alias voted.intended less) voted
    of_ground (Emergency from reached m front mark revokes part low has behind) voted =
        by_emergency s u base e t from reached m front facts claims mark revokes part low has behind told less voted

below_bound : (s : Story) → Facts s → (bound u : ℕ) → u < bound → Claim s u
below_bound s facts zero u less = absurd (omega (arith, less))
below_bound s facts (suc bound) u less = one_term s u facts (λ v low. below_bound s facts bound v (omega (arith, less, low)))

-- a promoted tablet holds, before the row of its term, all that is ever told in an earlier term
pub leader_holds : (s : Story) → Facts s → (u : ℕ) → Claim s u
leader_holds s facts u = below_bound s facts (suc u) u (omega arith)

-- The transactions of a list of intervals, and the set that it stands for.
use Rattle.std.proofs.Common.{◌≡◌, ◌≤◌, ◌<◌, ◌⊎◌, inl, inr, ℕ, zero, suc, ◌+◌, ◌-◌, Bool, true, false, ◌&&◌, ◌||◌, nat_le, nat_lt, nat_eq, T, List, [], ◌∷◌, ◌++◌, length, take, get_or, refl, ap, sym, subst, ◌∙◌, arith}
use Rattle.std.proofs.lemmas.List.{length-append}
use Rattle.std.specs.Str.{bytes_eq}
use Rattle.gtid_sets.specs.declared.gtid.Gtid.{Gtid}
use Rattle.gtid_sets.specs.declared.interval.Interval.{Interval}
use Rattle.gtid_sets.specs.Gtid.{gtid_eq}
use Rattle.gtid_sets.specs.Rising.{rises}
use Rattle.gtid_sets.specs.Position.{has, count}
use Rattle.gtid_sets.specs.Intervals.{size, holds, numbered, within, Ordered, listed, position_of, total}
use Rattle.gtid_sets.proofs.GtidLemmas.{gtid_eq_is}
use Rattle.gtid_sets.proofs.NumberLemmas.{number_more, number_none, number_size}
use Rattle.gtid_sets.proofs.RisingLemmas.{member, member_append, member_of_gtids, of_rising, under_from_members, rises_cons}
use Rattle.gtid_sets.proofs.OrderLemmas.{Lt, Le, lt_le, lt_number}
use Rattle.gtid_sets.proofs.IntervalLemmas.{within_past}

member_numbered : (s : List ℕ) (n k : ℕ) (g : Gtid) → member (numbered s n k) g ≡ (bytes_eq g.server s && (nat_le n g.number && nat_lt g.number (n + k)))
member_numbered s n zero g = number_none (bytes_eq g.server s) n g.number
member_numbered s n (suc k) g =
    ap (λ b. (bytes_eq g.server s && nat_eq g.number n) || b) (member_numbered s (n + 1) k g)
    ∙ number_more (bytes_eq g.server s) n k g.number
    ∙ ap (λ (m : ℕ). bytes_eq g.server s && (nat_le n g.number && nat_lt g.number m)) (one_more n k)
  where
    one_more : (n k : ℕ) → n + (k + 1) ≡ n + suc k
    one_more n k = omega arith

member_interval : (x : Interval) (g : Gtid) → member (numbered x.server x.first (size x)) g ≡ holds x g
member_interval x g = member_numbered x.server x.first (size x) g ∙ number_size (bytes_eq g.server x.server) x.first x.last g.number

pub member_listed : (xs : List Interval) (g : Gtid) → member (listed xs) g ≡ within xs g
unfolding listed
member_listed [] g = refl
member_listed (x ∷ xs) g =
    member_append g (numbered x.server x.first (size x)) (listed xs) ∙ ap (λ b. b || member (listed xs) g) (member_interval x g)
    ∙ ap (λ b. holds x g || b) (member_listed xs g)

pub has_position_of : (xs : List Interval) (g : Gtid) → has (position_of xs) g ≡ within xs g
unfolding position_of
has_position_of xs g = member_of_gtids (listed xs) g ∙ member_listed xs g

-- ---- in order
either : (a b : Bool) → (a || b) ≡ true → (a ≡ true) ⊎ (b ≡ true)
either true b h = inl refl
either false b h = inr h

-- the transactions of a server from a number on are not below that one
low_numbered : (s : List ℕ) (n k : ℕ) (g : Gtid) → member (numbered s n k) g ≡ true → Le (record { server = s; number = n }) g
low_numbered s n zero g m = absurd (cc)
low_numbered s n (suc k) g m = elim (either (gtid_eq g (record { server = s; number = n })) (member (numbered s (n + 1) k) g) m) [
  | inl here ↦ inr (sym (gtid_eq_is g (record { server = s; number = n }) here))
  | inr later ↦ inl (lt_le (record { server = s; number = n }) (record { server = s; number = n + 1 }) g (lt_number (record { server = s; number = n }) (record { server = s; number = n + 1 }) refl (omega arith)) (low_numbered s (n + 1) k g later))
]

rises_numbered : (s : List ℕ) (n k : ℕ) (rest : List Gtid) → T (rises rest) → ((g : Gtid) → member rest g ≡ true → Le (record { server = s; number = n + k }) g) → T (rises (numbered s n k ++ rest))
rises_numbered s n zero rest h low = h
rises_numbered s n (suc k) rest h low =
    let here : Gtid = record { server = s; number = n } in
    let next : Gtid = record { server = s; number = n + 1 } in
    let step : Lt here next = lt_number here next refl (omega arith) in
    let moved : (g : Gtid) → member rest g ≡ true → Le (record { server = s; number = n + 1 + k }) g = λ g m. subst (λ (j : ℕ). Le (record { server = s; number = j }) g) (one_more n k) (low g m) in
    rises_cons here (numbered s (n + 1) k ++ rest) (under_from_members here (numbered s (n + 1) k ++ rest) (λ g m. above g moved (sym (member_append g (numbered s (n + 1) k) rest) ∙ m)))
    (rises_numbered s (n + 1) k rest h moved)
  where
    one_more : (n k : ℕ) → n + suc k ≡ n + 1 + k
    one_more n k = omega arith

    above : (g : Gtid) → ((g : Gtid) → member rest g ≡ true → Le (record { server = s; number = n + 1 + k }) g) → (member (numbered s (n + 1) k) g || member rest g) ≡ true → Lt (record { server = s; number = n }) g
    above g moved m = elim (either (member (numbered s (n + 1) k) g) (member rest g) m) [
      | inl now ↦ lt_le (record { server = s; number = n }) (record { server = s; number = n + 1 }) g (lt_number (record { server = s; number = n }) (record { server = s; number = n + 1 }) refl (omega arith)) (low_numbered s (n + 1) k g now)
      | inr later ↦ lt_le (record { server = s; number = n }) (record { server = s; number = n + 1 + k }) g (lt_number (record { server = s; number = n }) (record { server = s; number = n + 1 + k }) refl (omega arith)) (moved g later)
    ]

pub rises_listed : (xs : List Interval) → Ordered xs → T (rises (listed xs))
unfolding listed
rises_listed [] h = tt
rises_listed (x ∷ xs) h =
    rises_numbered x.server x.first (size x) (listed xs) (rises_listed xs h.1.1)
    (λ g m. inl (subst (λ (j : ℕ). Lt (record { server = x.server; number = j }) g) (ends x.first x.last h.0) (within_past x xs g h.1.0 (sym (member_listed xs g) ∙ m))))
  where
    ends : (f l : ℕ) → f ≤ l → l + 1 ≡ f + (l + 1 - f)
    ends f l le = omega arith

-- the set of a list in order keeps just its transactions
pub gtids_position_of : (xs : List Interval) → Ordered xs → (position_of xs).gtids ≡ listed xs
unfolding position_of
gtids_position_of xs h = of_rising (listed xs) (rises_listed xs h)

-- ---- how many
length_numbered : (s : List ℕ) (n k : ℕ) → length (numbered s n k) ≡ k
length_numbered s n zero = refl
length_numbered s n (suc k) = let rest : length (numbered s (n + 1) k) ≡ k = length_numbered s (n + 1) k in omega arith

length_listed : (xs : List Interval) → length (listed xs) ≡ total xs
unfolding listed
length_listed [] = refl
length_listed (x ∷ xs) =
    let both : length (numbered x.server x.first (size x) ++ listed xs) ≡ length (numbered x.server x.first (size x)) + length (listed xs) = length-append (numbered x.server x.first (size x)) (listed xs) in
    let first : length (numbered x.server x.first (size x)) ≡ size x = length_numbered x.server x.first (size x) in
    let rest : length (listed xs) ≡ total xs = length_listed xs in
    both ∙ ap (λ (n : ℕ). n + length (listed xs)) first ∙ ap (λ (n : ℕ). size x + n) rest

pub count_position_of : (xs : List Interval) → Ordered xs → count (position_of xs) ≡ total xs
count_position_of xs h = ap length (gtids_position_of xs h) ∙ length_listed xs

pub total_more : (xs : List Interval) (i : ℕ) (d : Interval) → i < length xs → total (take i xs) + size (get_or xs i d) ≡ total (take (i + 1) xs)
total_more xs i d lt = more xs i (i + 1) d lt (one_more i)
  where
    one_more : (i : ℕ) → i + 1 ≡ suc i
    one_more i = omega arith

    more : (xs : List Interval) (i j : ℕ) (d : Interval) → i < length xs → j ≡ suc i → total (take i xs) + size (get_or xs i d) ≡ total (take j xs)
    more [] i j d lt e = absurd (omega arith)
    more (x ∷ xs) zero zero d lt e = absurd (omega arith)
    more (x ∷ xs) zero (suc zero) d lt e = omega arith
    more (x ∷ xs) zero (suc (suc j)) d lt e = absurd (omega arith)
    more (x ∷ xs) (suc i) zero d lt e = absurd (omega arith)
    more (x ∷ xs) (suc i) (suc j) d lt e = let rest : total (take i xs) + size (get_or xs i d) ≡ total (take j xs) = more xs i j d (omega arith) (omega arith) in omega arith

-- The order of transactions, and where the members of an interval stand in it.
use Rattle.std.proofs.Common.{◌≡◌, ◌≤◌, ◌<◌, ◌⊎◌, inl, inr, ℕ, Bool, true, false, ◌&&◌, nat_lt, nat_le, List, refl, ap, sym, subst, arith}
use Rattle.std.specs.Str.{bytes_eq}
use Rattle.std.specs.Ordering.{nat_cmp, ordering_then}
use Rattle.std.specs.Cmp.Lexicographic.{slice_cmp}
use Rattle.std.specs.declared.cmp.Ordering.{Ordering}
use Rattle.std.specs.declared.cmp.Ordering.TheVariants.{Less, Equal, Greater}
use Rattle.std.proofs.lemmas.Bool.{cases_lt}
use Rattle.std.proofs.lemmas.Bool.Decides.{nat_tests}
use Rattle.std.proofs.lemmas.Cmp.{tied_itself, nat_list_cmp_total}
use Rattle.std.proofs.lemmas.Slice.Eq.{bytes_eq-Decides}
use Rattle.std.proofs.lemmas.Map.Lookups.{exact_bytes}
use Rattle.shard_names.proofs.TabletLemmas.{both_left, both_right, both}
use Rattle.gtid_sets.specs.declared.gtid.Gtid.{Gtid}
use Rattle.gtid_sets.specs.declared.interval.Interval.{Interval}
use Rattle.gtid_sets.specs.Gtid.{gtid_cmp}
use Rattle.gtid_sets.specs.GtidOrder.{gtid_total}
use Rattle.gtid_sets.specs.Rising.{is_above}
use Rattle.gtid_sets.specs.Intervals.{start, past, holds}
use Rattle.gtid_sets.proofs.GtidLemmas.{same_gtid}

pub not_true : (b : Bool) → (b ≡ true → ⊥) → b ≡ false
not_true true f = absurd (f refl)
not_true false f = refl

pub le_true : (m n : ℕ) → nat_le m n ≡ true → m ≤ n
le_true m n h = grind (arith, nat_tests)

pub le_test : (m n : ℕ) → m ≤ n → nat_le m n ≡ true
le_test m n h = grind (arith, nat_tests)

pub lt_true : (m n : ℕ) → nat_lt m n ≡ true → m < n
lt_true m n h = grind (arith, nat_tests)

pub lt_test : (m n : ℕ) → m < n → nat_lt m n ≡ true
lt_test m n h = grind (arith, nat_tests)

-- ---- the order
abbrev pub Lt : Gtid → Gtid → Type 0
Lt a b = gtid_cmp a b ≡ Less

abbrev pub Le : Gtid → Gtid → Type 0
Le a b = Lt a b ⊎ (a ≡ b)

pub lt_trans : (a b c : Gtid) → Lt a b → Lt b c → Lt a c
lt_trans a b c h k = gtid_total.trans a b c h k

pub lt_never : (a : Gtid) → Lt a a → ⊥
lt_never a h = let tied : gtid_cmp a a ≡ Equal = tied_itself gtid_total a in cc

pub le_lt : (a b c : Gtid) → Le a b → Lt b c → Lt a c
le_lt a b c (inl h) k = lt_trans a b c h k
le_lt a b c (inr e) k = subst (λ (z : Gtid). Lt z c) (sym e) k

pub lt_le : (a b c : Gtid) → Lt a b → Le b c → Lt a c
lt_le a b c h (inl k) = lt_trans a b c h k
lt_le a b c h (inr e) = subst (λ (z : Gtid). Lt a z) e h

pub le_le : (a b c : Gtid) → Le a b → Le b c → Le a c
le_le a b c h (inl k) = inl (le_lt a b c h k)
le_le a b c h (inr e) = subst (λ (z : Gtid). Le a z) e h

pub le_or_lt : (a b : Gtid) → Le a b ⊎ Lt b a
le_or_lt a b = elim (gtid_cmp a b) as (λ o. gtid_cmp a b ≡ o → Le a b ⊎ Lt b a) [
  | Less ↦ λ e. inl (inl e)
  | Equal ↦ λ e. inl (inr (same_gtid a b e))
  | Greater ↦ λ e. inr (is_above a b e)
] refl

-- ---- by servers and numbers
abbrev pub server_cmp : List ℕ → List ℕ → Ordering
server_cmp s t = slice_cmp nat_cmp s t

nat_cmp_less : (m n : ℕ) → nat_cmp m n ≡ Less → m < n
nat_cmp_less m n h = grind (arith, nat_tests)

less_nat_cmp : (m n : ℕ) → m < n → nat_cmp m n ≡ Less
less_nat_cmp m n h = grind (arith, nat_tests)

pub lt_cases : (a b : Gtid) → Lt a b → (server_cmp a.server b.server ≡ Less) ⊎ ((a.server ≡ b.server) × (a.number < b.number))
lt_cases a b h = elim (slice_cmp nat_cmp a.server b.server) as (λ o. slice_cmp nat_cmp a.server b.server ≡ o → ordering_then o (nat_cmp a.number b.number) ≡ Less → (server_cmp a.server b.server ≡ Less) ⊎ ((a.server ≡ b.server) × (a.number < b.number))) [
  | Less ↦ λ e k. inl e
  | Equal ↦ λ e k. inr (exact_bytes a.server b.server e, nat_cmp_less a.number b.number k)
  | Greater ↦ λ e k. absurd (cc)
] refl h

pub lt_server : (a b : Gtid) → server_cmp a.server b.server ≡ Less → Lt a b
lt_server a b e = rw e refl

pub server_itself : (s : List ℕ) → server_cmp s s ≡ Equal
server_itself s = tied_itself nat_list_cmp_total s

pub lt_number : (a b : Gtid) → a.server ≡ b.server → a.number < b.number → Lt a b
lt_number a b e lt =
    let tie : server_cmp a.server b.server ≡ Equal = subst (λ (s : List ℕ). server_cmp a.server s ≡ Equal) e (server_itself a.server) in
    rw tie (less_nat_cmp a.number b.number lt)

gtid_of : (a b : Gtid) → a.server ≡ b.server → a.number ≡ b.number → a ≡ b
gtid_of a b e f = λ i. record { server = e i; number = f i }

pub le_number : (a b : Gtid) → a.server ≡ b.server → a.number ≤ b.number → Le a b
le_number a b e le = elim (cases_lt a.number b.number) [
  | inl lt ↦ inl (lt_number a b e lt)
  | inr ge ↦ inr (gtid_of a b e (omega arith))
]

pub le_cases : (a b : Gtid) → Le a b → (server_cmp a.server b.server ≡ Less) ⊎ ((a.server ≡ b.server) × (a.number ≤ b.number))
le_cases a b (inl h) = elim (lt_cases a b h) [ inl s ↦ inl s | inr p ↦ inr (p.0, omega (arith, p.1)) ]
le_cases a b (inr e) = inr (ap (λ (g : Gtid). g.server) e, omega (arith, ap (λ (g : Gtid). g.number) e))

-- ---- the members of an interval
pub record Held (x : Interval) (g : Gtid) : Type 0 where
  pub servers : g.server ≡ x.server
  pub low : x.first ≤ g.number
  pub high : g.number ≤ x.last

pub holds_is : (x : Interval) (g : Gtid) → holds x g ≡ true → Held x g
holds_is x g h =
    let numbers : (nat_le x.first g.number && nat_le g.number x.last) ≡ true = both_right (bytes_eq g.server x.server) (nat_le x.first g.number && nat_le g.number x.last) h in
    record {
      servers = (bytes_eq-Decides g.server x.server).0 (both_left (bytes_eq g.server x.server) (nat_le x.first g.number && nat_le g.number x.last) h);
      low = le_true x.first g.number (both_left (nat_le x.first g.number) (nat_le g.number x.last) numbers);
      high = le_true g.number x.last (both_right (nat_le x.first g.number) (nat_le g.number x.last) numbers);
    }

pub holds_from : (x : Interval) (g : Gtid) → Held x g → holds x g ≡ true
holds_from x g h =
    both (bytes_eq g.server x.server) (nat_le x.first g.number && nat_le g.number x.last) ((bytes_eq-Decides g.server x.server).1 h.servers)
    (both (nat_le x.first g.number) (nat_le g.number x.last) (le_test x.first g.number h.low) (le_test g.number x.last h.high))

pub from_start : (x : Interval) (g : Gtid) → holds x g ≡ true → Le (start x) g
from_start x g h = let is = holds_is x g h in le_number (start x) g (sym is.servers) is.low

pub to_past : (x : Interval) (g : Gtid) → holds x g ≡ true → Lt g (past x)
to_past x g h = let is = holds_is x g h in lt_number g (past x) is.servers (omega (arith, is.high))

pub start_past : (x : Interval) → x.first ≤ x.last → Lt (start x) (past x)
start_past x some = lt_number (start x) (past x) refl (omega arith)

-- what is not below it and not past it is in it
pub holds_between : (x : Interval) (g : Gtid) → Le (start x) g → Lt g (past x) → holds x g ≡ true
holds_between x g low high = elim (le_cases (start x) g low) [
  | inl s ↦ elim (lt_cases g (past x) high) [
    | inl t ↦ absurd (lt_never (start x) (lt_trans (start x) g (start x) (lt_server (start x) g s) (lt_server g (start x) t)))
    | inr q ↦ absurd (lt_never (start x) (lt_server (start x) (start x) (subst (λ (t : List ℕ). server_cmp x.server t ≡ Less) q.0 s)))
  ]
  | inr p ↦ elim (lt_cases g (past x) high) [
    | inl t ↦ absurd (lt_never (start x) (lt_server (start x) (start x) (subst (λ (t : List ℕ). server_cmp t x.server ≡ Less) (sym p.0) t)))
    | inr q ↦ holds_from x g (record { servers = q.0; low = p.1; high = omega (arith, q.1) })
  ]
]

pub not_held_below : (x : Interval) (g : Gtid) → Lt g (start x) → holds x g ≡ false
not_held_below x g low = not_true (holds x g) (λ h. lt_never g (lt_le g (start x) g low (from_start x g h)))

pub not_held_past : (x : Interval) (g : Gtid) → Le (past x) g → holds x g ≡ false
not_held_past x g high = not_true (holds x g) (λ h. lt_never g (lt_le g (past x) g (to_past x g h) high))

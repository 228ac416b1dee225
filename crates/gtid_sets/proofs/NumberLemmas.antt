-- What intervals of one server do to a number.
use Rattle.std.proofs.Common.{◌≡◌, ◌≤◌, ℕ, ◌+◌, ◌-◌, min, max, Bool, true, false, not, ◌&&◌, ◌||◌, nat_le, nat_lt, nat_eq, refl, arith}
use Rattle.std.proofs.lemmas.Bool.Decides.{nat_tests}

pub number_alone : (b : Bool) (n m : ℕ) → (b && (nat_le n m && nat_le m n)) ≡ (b && nat_eq m n)
number_alone true n m = grind (arith, nat_tests)
number_alone false n m = refl

pub number_wide : (b : Bool) (n f l m : ℕ) → f ≤ l → f ≤ n + 1 → n ≤ l + 1 → (b && (nat_le (min f n) m && nat_le m (max l n))) ≡ ((b && nat_eq m n) || (b && (nat_le f m && nat_le m l)))
number_wide true n f l m some low high = grind (arith, nat_tests)
number_wide false n f l m some low high = refl

pub number_joined : (b : Bool) (f l h k m : ℕ) → f ≤ h → h ≤ l + 1 → f ≤ l → h ≤ k → (b && (nat_le f m && nat_le m (max l k))) ≡ ((b && (nat_le f m && nat_le m l)) || (b && (nat_le h m && nat_le m k)))
number_joined true f l h k m low high some other = grind (arith, nat_tests)
number_joined false f l h k m low high some other = refl

pub number_cut : (b : Bool) (f l h k m : ℕ) → h ≤ k
    → ((b && (nat_le f m && nat_le m l)) && not (b && (nat_le h m && nat_le m k)))
    ≡ ((nat_lt f h && (b && (nat_le f m && nat_le m (min l (h - 1))))) || (nat_lt k l && (b && (nat_le (max f (k + 1)) m && nat_le m l))))
number_cut true f l h k m some = grind (arith, nat_tests)
number_cut false f l h k m some = never (nat_lt f h) (nat_lt k l)
  where
    never : (c d : Bool) → false ≡ ((c && false) || (d && false))
    never true true = refl
    never true false = refl
    never false true = refl
    never false false = refl

pub number_more : (b : Bool) (n k m : ℕ) → ((b && nat_eq m n) || (b && (nat_le (n + 1) m && nat_lt m (n + 1 + k)))) ≡ (b && (nat_le n m && nat_lt m (n + (k + 1))))
number_more true n k m = grind (arith, nat_tests)
number_more false n k m = refl

pub number_none : (b : Bool) (n m : ℕ) → false ≡ (b && (nat_le n m && nat_lt m (n + 0)))
number_none true n m = grind (arith, nat_tests)
number_none false n m = refl

pub number_size : (b : Bool) (f l m : ℕ) → (b && (nat_le f m && nat_lt m (f + (l + 1 - f)))) ≡ (b && (nat_le f m && nat_le m l))
number_size true f l m = grind (arith, nat_tests)
number_size false f l m = refl

-- What an interval has below another and above it.
use Rattle.std.proofs.Common.{◌≡◌, ◌≤◌, ◌<◌, inl, inr, ℕ, ◌+◌, ◌-◌, min, max, Bool, true, false, not, ◌&&◌, ◌||◌, cond, nat_le, nat_lt, List, [], ◌∷◌, Some, None, refl, ap, sym, subst, ◌∙◌, arith}
use Rattle.std.specs.Option.{option_to_list}
use Rattle.std.specs.Str.{bytes_eq}
use Rattle.std.specs.Ordering.{nat_cmp, ordering_reverse}
use Rattle.std.specs.Cmp.Lexicographic.{slice_cmp}
use Rattle.std.specs.declared.cmp.Ordering.TheVariants.{Less, Equal, Greater}
use Rattle.std.proofs.lemmas.Bool.Decides.{nat_tests}
use Rattle.std.proofs.lemmas.Cmp.{nat_list_cmp_total}
use Rattle.std.proofs.lemmas.Map.Lookups.{exact_bytes}
use Rattle.gtid_sets.specs.declared.gtid.Gtid.{Gtid}
use Rattle.gtid_sets.specs.declared.interval.Interval.{Interval}
use Rattle.gtid_sets.specs.Intervals.{start, past, holds, within, Ordered, below, above}
use Rattle.gtid_sets.proofs.NumberLemmas.{number_cut}
use Rattle.gtid_sets.proofs.OrderLemmas.{lt_true, Lt, Le, lt_trans, lt_le, lt_server, lt_number, le_number, server_cmp, from_start, to_past, not_held_past, not_held_below, holds_is, Held}
use Rattle.gtid_sets.proofs.IntervalLemmas.{beyond_from}
use Rattle.gtid_sets.proofs.BoolLemmas.{or_false}

abbrev pub below_list : Interval → Interval → List Interval
below_list x y = option_to_list (below x y)

abbrev pub above_list : Interval → Interval → List Interval
above_list x y = option_to_list (above x y)

-- of one server: what is below a number, and above one
abbrev low_of : Interval → Interval → Interval
low_of x y = record { server = x.server; first = x.first; last = min x.last (y.first - 1) }

abbrev high_of : Interval → Interval → Interval
high_of x y = record { server = x.server; first = max x.first (y.last + 1); last = x.last }

abbrev low_list : Interval → Interval → Bool → List Interval
low_list x y c = option_to_list (cond c (Some (low_of x y)) None)

abbrev high_list : Interval → Interval → Bool → List Interval
high_list x y d = option_to_list (cond d (Some (high_of x y)) None)

-- by the order of the two servers
pub data Sides (x y : Interval) : Type 0 where
  lower : server_cmp x.server y.server ≡ Less → below_list x y ≡ x ∷ [] → above_list x y ≡ [] → Sides x y
  higher : server_cmp y.server x.server ≡ Less → below_list x y ≡ [] → above_list x y ≡ x ∷ [] → Sides x y
  same : x.server ≡ y.server → below_list x y ≡ low_list x y (nat_lt x.first y.first) → above_list x y ≡ high_list x y (nat_lt y.last x.last) → Sides x y

turned : (s t : List ℕ) → server_cmp s t ≡ Greater → server_cmp t s ≡ Less
turned s t e = nat_list_cmp_total.antisymm t s ∙ ap ordering_reverse e

pub sides : (x y : Interval) → Sides x y
sides x y = elim (slice_cmp nat_cmp x.server y.server) as (λ o. slice_cmp nat_cmp x.server y.server ≡ o → Sides x y) [
  | Less ↦ λ e. lower e (rw e refl) (rw e refl)
  | Equal ↦ λ e. same (exact_bytes x.server y.server e) (rw e refl) (rw e refl)
  | Greater ↦ λ e. higher (turned x.server y.server e) (rw e refl) (rw e refl)
] refl

-- ---- members
within_low : (x y : Interval) (c : Bool) (g : Gtid) → within (low_list x y c) g ≡ (c && holds (low_of x y) g)
within_low x y true g = or_false (holds (low_of x y) g)
within_low x y false g = refl

within_high : (x y : Interval) (d : Bool) (g : Gtid) → within (high_list x y d) g ≡ (d && holds (high_of x y) g)
within_high x y true g = or_false (holds (high_of x y) g)
within_high x y false g = refl

all_kept : (a b : Bool) → (a ≡ true → b ≡ false) → (a && not b) ≡ a
all_kept true b f = rw (f refl) refl
all_kept false b f = refl

-- what is in it and not in the other is in one of the parts
pub cut_members : (x y : Interval) (g : Gtid) → y.first ≤ y.last → (holds x g && not (holds y g)) ≡ (within (below_list x y) g || within (above_list x y) g)
cut_members x y g some = elim (sides x y) [
  | lower s e f ↦
      let kept : (holds x g && not (holds y g)) ≡ holds x g = all_kept (holds x g) (holds y g) (λ h. not_held_below y g (lt_trans g (past x) (start y) (to_past x g h) (lt_server (past x) (start y) s))) in
      kept ∙ alone (holds x g) ∙ sym (ap (λ xs. within xs g || within (above_list x y) g) e ∙ ap (λ xs. within (x ∷ []) g || within xs g) f)
  | higher s e f ↦
      let kept : (holds x g && not (holds y g)) ≡ holds x g = all_kept (holds x g) (holds y g) (λ h. not_held_past y g (inl (lt_le (past y) (start x) g (lt_server (past y) (start x) s) (from_start x g h)))) in
      kept ∙ alone_right (holds x g) ∙ sym (ap (λ xs. within xs g || within (above_list x y) g) e ∙ ap (λ xs. within [] g || within xs g) f)
  | same s e f ↦
      ap (λ (t : List ℕ). holds x g && not (bytes_eq g.server t && (nat_le y.first g.number && nat_le g.number y.last))) (sym s)
      ∙ number_cut (bytes_eq g.server x.server) x.first x.last y.first y.last g.number some
      ∙ sym (ap (λ xs. within xs g || within (above_list x y) g) e ∙ ap (λ xs. within (low_list x y (nat_lt x.first y.first)) g || within xs g) f
      ∙ ap (λ b. b || within (high_list x y (nat_lt y.last x.last)) g) (within_low x y (nat_lt x.first y.first) g)
      ∙ ap (λ b. (nat_lt x.first y.first && holds (low_of x y) g) || b) (within_high x y (nat_lt y.last x.last) g))
]
  where
    alone : (b : Bool) → b ≡ ((b || false) || false)
    alone true = refl
    alone false = refl

    alone_right : (b : Bool) → b ≡ (false || (b || false))
    alone_right true = refl
    alone_right false = refl

-- what is in the lower part is below the other
low_is_below : (x y : Interval) (g : Gtid) (c : Bool) → x.server ≡ y.server → nat_lt x.first y.first ≡ c → within (low_list x y c) g ≡ true → Lt g (start y)
low_is_below x y g true s c h =
    let here : Held (low_of x y) g = holds_is (low_of x y) g (sym (within_low x y true g) ∙ h) in
    lt_number g (start y) (here.servers ∙ s) (lower_number x.first x.last y.first g.number c here.high)
  where
    lower_number : (f l h m : ℕ) → nat_lt f h ≡ true → m ≤ min l (h - 1) → m < h
    lower_number f l h m c le = let lt : f < h = grind (arith, nat_tests) in omega arith
low_is_below x y g false s c h = absurd (cc)

pub below_is_below : (x y : Interval) (g : Gtid) → within (below_list x y) g ≡ true → Lt g (start y)
below_is_below x y g h = elim (sides x y) [
  | lower s e f ↦ lt_trans g (past x) (start y) (to_past x g (sym (or_false (holds x g)) ∙ (sym (ap (λ xs. within xs g) e) ∙ h))) (lt_server (past x) (start y) s)
  | higher s e f ↦ let none : false ≡ true = sym (ap (λ xs. within xs g) e) ∙ h in absurd (cc)
  | same s e f ↦ low_is_below x y g (nat_lt x.first y.first) s refl (sym (ap (λ xs. within xs g) e) ∙ h)
]

-- ---- where the parts begin and end
pub record Lower (x y w : Interval) : Type 0 where
  pub some : w.first ≤ w.last
  pub starts : start w ≡ start x
  pub under : Lt (start x) (start y)

low_part : (x y w : Interval) (c : Bool) → x.first ≤ x.last → x.server ≡ y.server → nat_lt x.first y.first ≡ c → low_list x y c ≡ w ∷ [] → Lower x y w
low_part x y w true some s c h =
    let lt : x.first < y.first = lt_true x.first y.first c in
    let is : low_of x y ≡ w = cc in
    subst (Lower x y) is (record { some = omega (arith, lt, some); starts = refl; under = lt_number (start x) (start y) s lt })
low_part x y w false some s c h = absurd (cc)

pub lower_part : (x y w : Interval) → x.first ≤ x.last → below_list x y ≡ w ∷ [] → Lower x y w
lower_part x y w some h = elim (sides x y) [
  | lower s e f ↦
      let one : x ∷ [] ≡ w ∷ [] = sym e ∙ h in
      let is : x ≡ w = cc in
      subst (Lower x y) is (record { some = some; starts = refl; under = lt_server (start x) (start y) s })
  | higher s e f ↦ let none : [] ≡ w ∷ [] = sym e ∙ h in absurd (cc)
  | same s e f ↦ low_part x y w (nat_lt x.first y.first) some s refl (sym e ∙ h)
]

-- the other ends no higher than the upper part does
pub record Upper (x y z : Interval) : Type 0 where
  pub some : z.first ≤ z.last
  pub ends : past z ≡ past x
  pub over : Le (start y) (start z)
  pub other : Le (past y) (past x)

high_part : (x y z : Interval) (d : Bool) → x.first ≤ x.last → y.first ≤ y.last → x.server ≡ y.server
    → nat_lt y.last x.last ≡ d → high_list x y d ≡ z ∷ [] → Upper x y z
high_part x y z true some its s d h =
    let lt : y.last < x.last = lt_true y.last x.last d in
    let is : high_of x y ≡ z = cc in
    subst (Upper x y) is (record {
      some = omega (arith, lt, some);
      ends = refl;
      over = le_number (start y) (start (high_of x y)) (sym s) (omega (arith, its));
      other = le_number (past y) (past x) (sym s) (omega (arith, lt));
    })
high_part x y z false some its s d h = absurd (cc)

pub upper_part : (x y z : Interval) → x.first ≤ x.last → y.first ≤ y.last → above_list x y ≡ z ∷ [] → Upper x y z
upper_part x y z some its h = elim (sides x y) [
  | lower s e f ↦ let none : [] ≡ z ∷ [] = sym f ∙ h in absurd (cc)
  | higher s e f ↦
      let one : x ∷ [] ≡ z ∷ [] = sym f ∙ h in
      let is : x ≡ z = cc in
      let over : Lt (start y) (start x) = lt_server (start y) (start x) s in
      subst (Upper x y) is (record { some = some; ends = refl; over = inl over; other = inl (lt_server (past y) (past x) s) })
  | same s e f ↦ high_part x y z (nat_lt y.last x.last) some its s refl (sym f ∙ h)
]

-- what the upper part is of, without what is below it
pub upper_ordered : (x y z : Interval) (left : List Interval) → Upper x y z → Ordered (x ∷ left) → Ordered (z ∷ left)
upper_ordered x y z left u h = (u.some, (beyond_from z x left (inr u.ends) h.1.0, h.1.1))

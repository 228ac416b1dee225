-- What it makes of a list of intervals in order to put one transaction in.
use Rattle.std.proofs.Common.{◌≡◌, ◌≤◌, ◌<◌, ◌⊎◌, inl, inr, ℕ, zero, suc, ◌+◌, min, Bool, true, false, ◌&&◌, ◌||◌, cond, nat_le, nat_lt, nat_eq, List, [], ◌∷◌, length, set, get_or, refl, ap, sym, subst, ◌∙◌, arith}
use Rattle.std.specs.List.{prefix_len, insert, remove}
use Rattle.std.specs.Str.{bytes_eq}
use Rattle.std.specs.Ordering.{nat_cmp, match_ordering}
use Rattle.std.specs.Cmp.Lexicographic.{slice_cmp}
use Rattle.std.specs.declared.cmp.Ordering.TheVariants.{Less, Equal, Greater}
use Rattle.std.proofs.lemmas.Slice.Eq.{bytes_eq-Decides}
use Rattle.std.proofs.lemmas.Map.Lookups.{exact_bytes}
use Rattle.shard_names.proofs.TabletLemmas.{both_left, both_right, both}
use Rattle.gtid_sets.specs.declared.gtid.Gtid.{Gtid}
use Rattle.gtid_sets.specs.declared.interval.Interval.{Interval}
use Rattle.gtid_sets.specs.Gtid.{gtid_eq}
use Rattle.gtid_sets.specs.Intervals.{start, past, holds, within, alone, HasWith, Beyond, Ordered, ends_below, touches, wide, joined}
use Rattle.gtid_sets.proofs.NumberLemmas.{number_alone, number_wide, number_joined}
use Rattle.gtid_sets.proofs.BoolLemmas.{or_assoc, or_swap, true_not_false}
use Rattle.gtid_sets.proofs.OrderLemmas.{Lt, Le, lt_trans, lt_never, le_lt, le_or_lt, lt_cases, le_cases, lt_server, lt_number, le_number, server_cmp, server_itself, le_true, le_test, lt_true, lt_test, start_past, not_held_past}
use Rattle.gtid_sets.proofs.IntervalLemmas.{beyond_from, beyond_further, not_within}

-- the first that a transaction touches, with it, and with the next where it touches that too
abbrev pub widened : Gtid → Interval → List Interval → List Interval
widened g x [] = wide g x ∷ []
widened g x (y ∷ ys) = cond (touches g y) (joined (wide g x) y ∷ ys) (wide g x ∷ y ∷ ys)

-- the list with a transaction
abbrev pub put_in : Gtid → List Interval → List Interval
put_in g [] = alone g ∷ []
put_in g (x ∷ xs) = cond (ends_below g x) (x ∷ put_in g xs) (cond (touches g x) (widened g x xs) (alone g ∷ x ∷ xs))

-- ---- what the tests say
pub ends_is : (g : Gtid) (x : Interval) → ends_below g x ≡ true → Lt (past x) g
ends_is g x h = elim (slice_cmp nat_cmp x.server g.server) as (λ o. slice_cmp nat_cmp x.server g.server ≡ o → match_ordering o true (nat_lt (x.last + 1) g.number) false ≡ true → Lt (past x) g) [
  | Less ↦ λ e k. lt_server (past x) g e
  | Equal ↦ λ e k. lt_number (past x) g (exact_bytes x.server g.server e) (lt_true (x.last + 1) g.number k)
  | Greater ↦ λ e k. absurd (cc)
] refl h

pub ends_not : (g : Gtid) (x : Interval) → ends_below g x ≡ false → Le g (past x)
ends_not g x h = elim (le_or_lt g (past x)) [
  | inl le ↦ le
  | inr lt ↦ absurd (refuted lt)
]
  where
    refuted : Lt (past x) g → ⊥
    refuted lt = elim (lt_cases (past x) g lt) [
      | inl s ↦ true_not_false (ends_below g x) (rw s refl) h
      | inr p ↦ true_not_false (ends_below g x) (rw (subst (λ (t : List ℕ). server_cmp x.server t ≡ Equal) p.0 (server_itself x.server)) (lt_test (x.last + 1) g.number p.1)) h
    ]

pub record Touched (g : Gtid) (x : Interval) : Type 0 where
  pub servers : g.server ≡ x.server
  pub low : x.first ≤ g.number + 1
  pub high : g.number ≤ x.last + 1

pub touches_is : (g : Gtid) (x : Interval) → touches g x ≡ true → Touched g x
touches_is g x h =
    let numbers : (nat_le x.first (g.number + 1) && nat_le g.number (x.last + 1)) ≡ true = both_right (bytes_eq g.server x.server) (nat_le x.first (g.number + 1) && nat_le g.number (x.last + 1)) h in
    record {
      servers = (bytes_eq-Decides g.server x.server).0 (both_left (bytes_eq g.server x.server) (nat_le x.first (g.number + 1) && nat_le g.number (x.last + 1)) h);
      low = le_true x.first (g.number + 1) (both_left (nat_le x.first (g.number + 1)) (nat_le g.number (x.last + 1)) numbers);
      high = le_true g.number (x.last + 1) (both_right (nat_le x.first (g.number + 1)) (nat_le g.number (x.last + 1)) numbers);
    }

pub touches_from : (g : Gtid) (x : Interval) → Touched g x → touches g x ≡ true
touches_from g x h =
    both (bytes_eq g.server x.server) (nat_le x.first (g.number + 1) && nat_le g.number (x.last + 1)) ((bytes_eq-Decides g.server x.server).1 h.servers)
    (both (nat_le x.first (g.number + 1)) (nat_le g.number (x.last + 1)) (le_test x.first (g.number + 1) h.low) (le_test g.number (x.last + 1) h.high))

-- what does not touch an interval that ends no lower stands below it with a gap
pub gap_below : (g : Gtid) (x : Interval) → Le g (past x) → touches g x ≡ false → Lt (past (alone g)) (start x)
gap_below g x le none = elim (le_or_lt (start x) (past (alone g))) [
  | inl low ↦ absurd (refuted low)
  | inr lt ↦ lt
]
  where
    refuted : Le (start x) (past (alone g)) → ⊥
    refuted low = elim (le_cases (start x) (past (alone g)) low) [
      | inl s ↦ elim (le_cases g (past x) le) [
        | inl t ↦ lt_never g (lt_trans g (start x) g (lt_server g (start x) t) (lt_server (start x) g s))
        | inr q ↦ lt_never g (lt_server g g (subst (λ (t : List ℕ). server_cmp t g.server ≡ Less) (sym q.0) s))
      ]
      | inr p ↦ elim (le_cases g (past x) le) [
        | inl t ↦ lt_never g (lt_server g g (subst (λ (u : List ℕ). server_cmp g.server u ≡ Less) p.0 t))
        | inr q ↦ true_not_false (touches g x) (touches_from g x (record { servers = q.0; low = p.1; high = q.1 })) none
      ]
    ]

-- ---- in order
start_wide : (z x : Interval) (g : Gtid) → Touched g x → Lt (past z) g → Lt (past z) (start x) → Lt (past z) (start (wide g x))
start_wide z x g t low high = elim (cases_min x.first g.number) [
  | inl e ↦ subst (λ (n : ℕ). Lt (past z) (record { server = x.server; number = n })) (sym e) high
  | inr e ↦ subst (λ (n : ℕ). Lt (past z) (record { server = x.server; number = n })) (sym e) (subst (λ (s : List ℕ). Lt (past z) (record { server = s; number = g.number })) t.servers low)
]
  where
    cases_min : (m n : ℕ) → (min m n ≡ m) ⊎ (min m n ≡ n)
    cases_min m n = grind arith

beyond_widened : (z x : Interval) (g : Gtid) (xs : List Interval) → Touched g x → Lt (past z) g → Lt (past z) (start x) → Beyond z xs → Beyond z (widened g x xs)
beyond_widened z x g [] t low high h = (start_wide z x g t low high, tt)
beyond_widened z x g (y ∷ ys) t low high h = at (touches g y)
  where
    at : (b : Bool) → Beyond z (cond b (joined (wide g x) y ∷ ys) (wide g x ∷ y ∷ ys))
    at true = (start_wide z x g t low high, h.1)
    at false = (start_wide z x g t low high, h)

beyond_put : (z : Interval) (g : Gtid) (xs : List Interval) → Lt (past z) g → Beyond z xs → Beyond z (put_in g xs)
beyond_put z g [] low h = (low, tt)
beyond_put z g (x ∷ xs) low h = at (ends_below g x) (touches g x) refl (beyond_put z g xs low h.1)
  where
    at : (b t : Bool) → touches g x ≡ t → Beyond z (put_in g xs) → Beyond z (cond b (x ∷ put_in g xs) (cond t (widened g x xs) (alone g ∷ x ∷ xs)))
    at true t e rest = (h.0, rest)
    at false true e rest = beyond_widened z x g xs (touches_is g x e) low h.0 h.1
    at false false e rest = (low, h)

some_wide : (g : Gtid) (x : Interval) → x.first ≤ x.last → (wide g x).first ≤ (wide g x).last
some_wide g x some = omega arith

wide_gap : (g : Gtid) (x y : Interval) → Touched g x → y.first ≤ y.last → touches g y ≡ false → Lt (past x) (start y) → Lt (past (wide g x)) (start y)
wide_gap g x y t some none gap = elim (lt_cases (past x) (start y) gap) [
  | inl s ↦ lt_server (past (wide g x)) (start y) s
  | inr p ↦
      let here : g.server ≡ y.server = t.servers ∙ p.0 in
      let above : Lt (past (alone g)) (start y) = gap_below g y (le_number g (past y) here (omega (arith, t.high, p.1))) none in
      elim (lt_cases (past (alone g)) (start y) above) [
        | inl s ↦ absurd (lt_never g (lt_server g g (subst (λ (u : List ℕ). server_cmp g.server u ≡ Less) (sym here) s)))
        | inr q ↦ lt_number (past (wide g x)) (start y) p.0 (omega (arith, p.1, q.1))
      ]
]

joined_end : (g : Gtid) (x y : Interval) → Touched g x → Touched g y → y.first ≤ y.last → Lt (past x) (start y) → Le (past (joined (wide g x) y)) (past y)
joined_end g x y t u some gap =
    let same : x.server ≡ y.server = sym t.servers ∙ u.servers in
    elim (lt_cases (past x) (start y) gap) [
      | inl s ↦ absurd (lt_never g (lt_server g g (subst (λ (v : List ℕ). server_cmp g.server v ≡ Less) (sym u.servers) (subst (λ (v : List ℕ). server_cmp v y.server ≡ Less) (sym t.servers) s))))
      | inr p ↦ le_number (past (joined (wide g x) y)) (past y) same (omega (arith, p.1, t.high))
    ]

ordered_widened : (g : Gtid) (x : Interval) (xs : List Interval) → Touched g x → Ordered (x ∷ xs) → Ordered (widened g x xs)
ordered_widened g x [] t h = (some_wide g x h.0, (tt, tt))
ordered_widened g x (y ∷ ys) t h = at (touches g y) refl
  where
    at : (b : Bool) → touches g y ≡ b → Ordered (cond b (joined (wide g x) y ∷ ys) (wide g x ∷ y ∷ ys))
    at true e = (omega (arith, h.0), (beyond_from (joined (wide g x) y) y ys (joined_end g x y t (touches_is g y e) h.1.1.0 h.1.0.0) h.1.1.1.0, h.1.1.1.1))
    at false e =
        let gap : Lt (past (wide g x)) (start y) = wide_gap g x y t h.1.1.0 e h.1.0.0 in
        (some_wide g x h.0, ((gap, beyond_further (wide g x) y ys h.1.1.0 gap h.1.1.1.0), h.1.1))

pub put_ordered : (g : Gtid) (xs : List Interval) → Ordered xs → Ordered (put_in g xs)
put_ordered g [] h = (omega arith, (tt, tt))
put_ordered g (x ∷ xs) h = at (ends_below g x) (touches g x) refl refl (put_ordered g xs h.1.1)
  where
    at : (b t : Bool) → ends_below g x ≡ b → touches g x ≡ t → Ordered (put_in g xs) → Ordered (cond b (x ∷ put_in g xs) (cond t (widened g x xs) (alone g ∷ x ∷ xs)))
    at true t e f rest = (h.0, (beyond_put x g xs (ends_is g x e) h.1.0, rest))
    at false true e f rest = ordered_widened g x xs (touches_is g x f) h
    at false false e f rest =
        let gap : Lt (past (alone g)) (start x) = gap_below g x (ends_not g x e) f in
        (omega arith, ((gap, beyond_further (alone g) x xs h.0 gap h.1.0), h))

-- ---- members
pub holds_alone : (g q : Gtid) → holds (alone g) q ≡ gtid_eq q g
holds_alone g q = number_alone (bytes_eq q.server g.server) g.number q.number

holds_wide : (g q : Gtid) (x : Interval) → Touched g x → x.first ≤ x.last → holds (wide g x) q ≡ (gtid_eq q g || holds x q)
holds_wide g q x t some =
    number_wide (bytes_eq q.server x.server) g.number x.first x.last q.number some t.low t.high
    ∙ ap (λ (s : List ℕ). (bytes_eq q.server s && nat_eq q.number g.number) || holds x q) (sym t.servers)

pub holds_joined : (x y : Interval) (q : Gtid) → x.server ≡ y.server → x.first ≤ y.first → y.first ≤ x.last + 1 → x.first ≤ x.last → y.first ≤ y.last → holds (joined x y) q ≡ (holds x q || holds y q)
holds_joined x y q e low high some other =
    number_joined (bytes_eq q.server x.server) x.first x.last y.first y.last q.number low high some other
    ∙ ap (λ (s : List ℕ). holds x q || (bytes_eq q.server s && (nat_le y.first q.number && nat_le q.number y.last))) e

within_widened : (g q : Gtid) (x : Interval) (xs : List Interval) → Touched g x → Ordered (x ∷ xs) → within (widened g x xs) q ≡ (gtid_eq q g || (holds x q || within xs q))
within_widened g q x [] t h = ap (λ b. b || false) (holds_wide g q x t h.0) ∙ sym (or_assoc (gtid_eq q g) (holds x q) false)
within_widened g q x (y ∷ ys) t h = at (touches g y) refl
  where
    shift_more : (a b c d : Bool) → (((a || b) || c) || d) ≡ (a || (b || (c || d)))
    shift_more true b c d = refl
    shift_more false true c d = refl
    shift_more false false c d = refl

    at : (b : Bool) → touches g y ≡ b → within (cond b (joined (wide g x) y ∷ ys) (wide g x ∷ y ∷ ys)) q ≡ (gtid_eq q g || (holds x q || (holds y q || within ys q)))
    at true e =
        let u : Touched g y = touches_is g y e in
        let gap : x.last + 1 < y.first = same_gap (lt_cases (past x) (start y) h.1.0.0) in
        let both_in : holds (joined (wide g x) y) q ≡ (holds (wide g x) q || holds y q) = holds_joined (wide g x) y q (sym t.servers ∙ u.servers) (omega (arith, gap, h.0)) (omega (arith, u.low)) (omega (arith, h.0)) h.1.1.0 in
        ap (λ b. b || within ys q) (both_in ∙ ap (λ b. b || holds y q) (holds_wide g q x t h.0)) ∙ shift_more (gtid_eq q g) (holds x q) (holds y q) (within ys q)
      where
        same_gap : (server_cmp x.server y.server ≡ Less) ⊎ ((x.server ≡ y.server) × (x.last + 1 < y.first)) → x.last + 1 < y.first
        same_gap (inl s) = let u : Touched g y = touches_is g y e in absurd (lt_never g (lt_server g g (subst (λ (v : List ℕ). server_cmp g.server v ≡ Less) (sym u.servers) (subst (λ (v : List ℕ). server_cmp v y.server ≡ Less) (sym t.servers) s))))
        same_gap (inr p) = p.1
    at false e = ap (λ b. b || (holds y q || within ys q)) (holds_wide g q x t h.0) ∙ sym (or_assoc (gtid_eq q g) (holds x q) (holds y q || within ys q))

pub put_within : (g q : Gtid) (xs : List Interval) → Ordered xs → within (put_in g xs) q ≡ (gtid_eq q g || within xs q)
put_within g q [] h = ap (λ b. b || false) (holds_alone g q)
put_within g q (x ∷ xs) h = at (ends_below g x) (touches g x) refl (put_within g q xs h.1.1)
  where
    at : (b t : Bool) → touches g x ≡ t → within (put_in g xs) q ≡ (gtid_eq q g || within xs q)
        → within (cond b (x ∷ put_in g xs) (cond t (widened g x xs) (alone g ∷ x ∷ xs))) q ≡ (gtid_eq q g || (holds x q || within xs q))
    at true t f rest = ap (λ b. holds x q || b) rest ∙ or_swap (holds x q) (gtid_eq q g) (within xs q)
    at false true f rest = within_widened g q x xs (touches_is g x f) h
    at false false f rest = ap (λ b. b || (holds x q || within xs q)) (holds_alone g q)

-- ---- its place
pub ends_from : (g : Gtid) (x : Interval) → Lt (past x) g → ends_below g x ≡ true
ends_from g x lt = elim (ends_below g x) as (λ b. ends_below g x ≡ b → b ≡ true) [
  | true ↦ λ e. refl
  | false ↦ λ e. absurd (lt_never g (le_lt g (past x) g (ends_not g x e) lt))
] refl

abbrev Place : Gtid → List Interval → ℕ → Type 0
Place g xs k = prefix_len (ends_below g) xs ≡ k

first_not : (g : Gtid) (x : Interval) (xs : List Interval) → Place g (x ∷ xs) zero → ends_below g x ≡ false
first_not g x xs e = at (ends_below g x) e
  where
    at : (b : Bool) → cond b (1 + prefix_len (ends_below g) xs) 0 ≡ 0 → b ≡ false
    at true h = absurd (omega arith)
    at false h = refl

first_ends : (g : Gtid) (x : Interval) (xs : List Interval) (k : ℕ) → Place g (x ∷ xs) (suc k) → (ends_below g x ≡ true) × Place g xs k
first_ends g x xs k e = at (ends_below g x) e
  where
    at : (b : Bool) → cond b (1 + prefix_len (ends_below g) xs) 0 ≡ suc k → (b ≡ true) × (prefix_len (ends_below g) xs ≡ k)
    at true h = (refl, omega arith)
    at false h = absurd (omega arith)

-- none touches it there
pub insert_put : (g : Gtid) (xs : List Interval) (k : ℕ) → Place g xs k → ((d : Interval) → k < length xs → touches g (get_or xs k d) ≡ false) → insert xs k (alone g) ≡ put_in g xs
insert_put g [] zero e none = refl
insert_put g [] (suc k) e none = absurd (omega arith)
insert_put g (x ∷ xs) zero e none = let ends : ends_below g x ≡ false = first_not g x xs e in let apart : touches g x ≡ false = none x (omega arith) in rw (ends, apart) refl
insert_put g (x ∷ xs) (suc k) e none =
    let ends = first_ends g x xs k e in
    let rest : insert xs k (alone g) ≡ put_in g xs = insert_put g xs k ends.1 (λ d l. none d (omega arith)) in
    rw (ends.0, rest) refl

-- the one there touches it, and the next does not
pub widen_put : (g : Gtid) (xs : List Interval) (k j : ℕ) (held : Interval) → j ≡ k + 1 → Place g xs k → k < length xs → get_or xs k held ≡ held → touches g held ≡ true
    → ((d : Interval) → j < length xs → touches g (get_or xs j d) ≡ false) → set xs k (wide g held) ≡ put_in g xs
widen_put g [] k j held f e lt at here none = absurd (omega arith)
widen_put g (x ∷ []) zero j held f e lt at here none =
    let ends : ends_below g x ≡ false = first_not g x [] e in
    let it : touches g x ≡ true = subst (λ (z : Interval). touches g z ≡ true) (sym at) here in
    rw (ends, it) (ap (λ (z : Interval). wide g z ∷ []) (sym at))
widen_put g (x ∷ y ∷ ys) zero zero held f e lt at here none = absurd (omega arith)
widen_put g (x ∷ y ∷ ys) zero (suc zero) held f e lt at here none =
    let ends : ends_below g x ≡ false = first_not g x (y ∷ ys) e in
    let it : touches g x ≡ true = subst (λ (z : Interval). touches g z ≡ true) (sym at) here in
    let next : touches g y ≡ false = none y (omega arith) in
    rw (ends, it, next) (ap (λ (z : Interval). wide g z ∷ y ∷ ys) (sym at))
widen_put g (x ∷ y ∷ ys) zero (suc (suc j)) held f e lt at here none = absurd (omega arith)
widen_put g (x ∷ xs) (suc k) zero held f e lt at here none = absurd (omega arith)
widen_put g (x ∷ xs) (suc k) (suc j) held f e lt at here none =
    let ends = first_ends g x xs k e in
    let rest : set xs k (wide g held) ≡ put_in g xs = widen_put g xs k j held (omega arith) ends.1 (omega arith) at here (λ d l. none d (omega arith)) in
    rw (ends.0, rest) refl

-- the one there touches it, and so does the next
pub join_put : (g : Gtid) (xs : List Interval) (k j : ℕ) (held next : Interval) → j ≡ k + 1 → Place g xs k → j < length xs → get_or xs k held ≡ held → touches g held ≡ true
    → get_or xs j next ≡ next → touches g next ≡ true → set (remove xs j) k (joined (wide g held) next) ≡ put_in g xs
join_put g [] k j held next f e lt at here by there = absurd (omega arith)
join_put g (x ∷ []) k j held next f e lt at here by there = absurd (omega arith)
join_put g (x ∷ y ∷ ys) zero zero held next f e lt at here by there = absurd (omega arith)
join_put g (x ∷ y ∷ ys) zero (suc zero) held next f e lt at here by there =
    let ends : ends_below g x ≡ false = first_not g x (y ∷ ys) e in
    let it : touches g x ≡ true = subst (λ (z : Interval). touches g z ≡ true) (sym at) here in
    let too : touches g y ≡ true = subst (λ (z : Interval). touches g z ≡ true) (sym by) there in
    rw (ends, it, too) (ap (λ (z : Interval). joined (wide g z) next ∷ ys) (sym at) ∙ ap (λ (z : Interval). joined (wide g x) z ∷ ys) (sym by))
join_put g (x ∷ y ∷ ys) zero (suc (suc j)) held next f e lt at here by there = absurd (omega arith)
join_put g (x ∷ y ∷ ys) (suc k) zero held next f e lt at here by there = absurd (omega arith)
join_put g (x ∷ y ∷ ys) (suc k) (suc j) held next f e lt at here by there =
    let ends = first_ends g x (y ∷ ys) k e in
    let rest : set (remove (y ∷ ys) j) k (joined (wide g held) next) ≡ put_in g (y ∷ ys) = join_put g (y ∷ ys) k j held next (omega arith) ends.1 (omega arith) at here by there in
    rw ends.0 (ap (λ zs. x ∷ zs) rest)

-- ---- what is looked up there
pub has_some : (g : Gtid) (xs : List Interval) (k : ℕ) (d : Interval) → Ordered xs → Place g xs k → k < length xs → holds (get_or xs k d) g ≡ within xs g
has_some g [] k d h e lt = absurd (omega arith)
has_some g (x ∷ xs) zero d h e lt =
    let later : within xs g ≡ false = not_within x xs g h.1.0 (ends_not g x (first_not g x xs e)) in
    rw later (alone_or (holds x g))
  where
    alone_or : (b : Bool) → b ≡ (b || false)
    alone_or true = refl
    alone_or false = refl
has_some g (x ∷ xs) (suc k) d h e lt =
    let ends = first_ends g x xs k e in
    let out : holds x g ≡ false = not_held_past x g (inl (ends_is g x ends.0)) in
    rw out (has_some g xs k d h.1.1 ends.1 (omega arith))

pub has_none : (g : Gtid) (xs : List Interval) (k : ℕ) → Ordered xs → Place g xs k → length xs ≤ k → false ≡ within xs g
has_none g [] k h e le = refl
has_none g (x ∷ xs) zero h e le = absurd (omega arith)
has_none g (x ∷ xs) (suc k) h e le =
    let ends = first_ends g x xs k e in
    let out : holds x g ≡ false = not_held_past x g (inl (ends_is g x ends.0)) in
    rw out (has_none g xs k h.1.1 ends.1 (omega arith))

-- those that end below stand before the others
ends_before : (g : Gtid) (x : Interval) (ys : List Interval) (j : ℕ) (d : Interval) → Beyond x ys → Ordered ys → j < length ys → ends_below g (get_or ys j d) ≡ true → ends_below g x ≡ true
ends_before g x [] j d b h lt e = absurd (omega arith)
ends_before g x (y ∷ ys) zero d b h lt e = ends_from g x (lt_trans (past x) (start y) g b.0 (lt_trans (start y) (past y) g (start_past y h.0) (ends_is g y e)))
ends_before g x (y ∷ ys) (suc j) d b h lt e = ends_before g x ys j d b.1 h.1.1 (omega arith) e

pub ends_parted : (g : Gtid) (xs : List Interval) → Ordered xs → (i j : ℕ) (d : Interval) → i ≤ j → j < length xs → ends_below g (get_or xs j d) ≡ true → ends_below g (get_or xs i d) ≡ true
ends_parted g [] h i j d le lt e = absurd (omega arith)
ends_parted g (x ∷ xs) h zero zero d le lt e = e
ends_parted g (x ∷ xs) h zero (suc j) d le lt e = ends_before g x xs j d h.1.0 h.1.1 (omega arith) e
ends_parted g (x ∷ xs) h (suc i) zero d le lt e = absurd (omega arith)
ends_parted g (x ∷ xs) h (suc i) (suc j) d le lt e = ends_parted g xs h.1.1 i j d (omega arith) (omega arith) e

-- ---- a list that is the one with a transaction
pub is_in_order : (g : Gtid) (xs ys : List Interval) → ys ≡ put_in g xs → Ordered xs → Ordered ys
is_in_order g xs ys e h = subst Ordered (sym e) (put_ordered g xs h)

pub is_with : (g : Gtid) (xs ys : List Interval) → ys ≡ put_in g xs → Ordered xs → HasWith g xs ys
is_with g xs ys e h = λ q. ap (λ zs. within zs q) e ∙ put_within g q xs h

pub place_within : (g : Gtid) (xs : List Interval) → prefix_len (ends_below g) xs ≤ length xs
place_within g [] = omega arith
place_within g (x ∷ xs) = at (ends_below g x) (place_within g xs)
  where
    at : (b : Bool) → prefix_len (ends_below g) xs ≤ length xs → cond b (1 + prefix_len (ends_below g) xs) 0 ≤ length (x ∷ xs)
    at true le = omega arith
    at false le = omega arith

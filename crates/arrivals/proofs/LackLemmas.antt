-- How many entries of a source's log a replica has not, and where it needs none.
use Rattle.std.proofs.Common.{◌≡◌, ℕ, zero, suc, ◌+◌, ◌-◌, ◌<◌, ◌≤◌, Bool, true, false, ◌&&◌, ◌||◌, List, [], ◌∷◌, take, drop, filter, length, get_or, Option, refl, ap, sym, ◌∙◌, cond, nat_lt, arith}
use Rattle.std.proofs.lemmas.Bool.Decides.{nat_tests}
use Rattle.std.proofs.lemmas.List.Filters.{length-filter_both, length-filter_more}
use Rattle.gtid_sets.specs.declared.gtid.Gtid.{Gtid}
use Rattle.gtid_sets.specs.declared.entry.Entry.{Entry}
use Rattle.gtid_sets.specs.Logs.{gtids_of, position_of, holds}
use Rattle.gtid_sets.specs.Position.{Position, has, count, covers, of_gtids}
use Rattle.gtid_sets.proofs.RisingLemmas.{member, member_filter}
use Rattle.gtid_sets.proofs.PositionLemmas.{has-of_gtids, same_members, count-with_gtid, covers-has}
use Rattle.shard_calls.proofs.LogLemmas.{has-position}
use Rattle.shard_calls.specs.Messages.{has_come_to, needed_from}
use Rattle.arrivals.specs.Feeding.{lacks, how_many_lack, needed_behind}

-- ---- how many it has not, by how many it has

one_more : (b : Bool) (n k : ℕ) → n ≤ k → cond b n (n + 1) ≤ suc k
one_more true n k le = omega (arith, le)
one_more false n k le = omega (arith, le)

-- a set has no more than its list
count_within : (gs : List Gtid) → count (of_gtids gs) ≤ length gs
count_within [] = omega arith
count_within (g ∷ gs) = rw (count-with_gtid (of_gtids gs) g) (one_more (has (of_gtids gs) g) (count (of_gtids gs)) (length gs) (count_within gs))

filtered : (b : Bool) (g : Gtid) (e : Entry) (gs : List Gtid) (es : List Entry) → length gs ≡ length es → length (cond b (g ∷ gs) gs) ≡ length (cond b (e ∷ es) es)
filtered true g e gs es h = ap suc h
filtered false g e gs es h = h

-- the entries whose transactions pass are as many as these
as_many : (test : Gtid → Bool) (es : List Entry) → length (filter test (gtids_of es)) ≡ length (filter (λ e. test e.gtid) es)
as_many test [] = refl
as_many test (e ∷ es) = filtered (test e.gtid) e.gtid e (filter test (gtids_of es)) (filter (λ x. test x.gtid) es) (as_many test es)

both_hold : (a b : Bool) → (b ≡ true → a ≡ true) → b ≡ (a && b)
both_hold a true h = rw (h refl) refl
both_hold true false h = refl
both_hold false false h = refl

-- what another log has is all in this one: it is what passes of this one
passing : (held es : List Entry) → covers (position_of es) (position_of held) ≡ true → position_of held ≡ of_gtids (filter (holds held) (gtids_of es))
passing held es all = same_members (position_of held) (of_gtids (filter (holds held) (gtids_of es))) (λ g.
    has-position held g
    ∙ both_hold (member (gtids_of es) g) (holds held g) (λ h. sym (has-position es g) ∙ covers-has (position_of es) (position_of held) g all (has-position held g ∙ h))
    ∙ sym (member_filter (holds held) g (gtids_of es))
    ∙ sym (has-of_gtids (filter (holds held) (gtids_of es)) g))

pub few_lack : (held es : List Entry) → covers (position_of es) (position_of held) ≡ true → how_many_lack held es ≤ length es - count (position_of held)
few_lack held es all =
    let whole : length (filter (λ (e : Entry). holds held e.gtid) es) + how_many_lack held es ≡ length es =
    length-filter_both (λ (e : Entry). holds held e.gtid) (lacks held) (λ e. refl) es in
    let some : count (of_gtids (filter (holds held) (gtids_of es))) ≤ length (filter (holds held) (gtids_of es)) = count_within (filter (holds held) (gtids_of es)) in
    let same : count (position_of held) ≡ count (of_gtids (filter (holds held) (gtids_of es))) = ap (λ (p : Position). count p) (passing held es all) in
    let many : length (filter (holds held) (gtids_of es)) ≡ length (filter (λ (e : Entry). holds held e.gtid) es) = as_many (holds held) es in
    omega (arith, whole, some, same, many)

-- never more than there are
pub all_lack : (held es : List Entry) → how_many_lack held es ≤ length es
all_lack held es =
    let whole : length (filter (λ (e : Entry). holds held e.gtid) es) + how_many_lack held es ≡ length es =
    length-filter_both (λ (e : Entry). holds held e.gtid) (lacks held) (λ e. refl) es in
    omega (arith, whole)

-- ---- one entry less at the end

abbrev pub one_if : Bool → ℕ
one_if b = cond b 1 0

pub one_less : (held es : List Entry) (back before left : ℕ) (e : Entry) → how_many_lack held (take before es) ≤ left → before ≡ back + 1 → back < length es → e ≡ get_or es back e
    → how_many_lack held (take back es) ≤ left - one_if (lacks held e)
one_less held es back before left e few is less here =
    let more : how_many_lack held (take (back + 1) es) ≡ how_many_lack held (take back es) + one_if (lacks held (get_or es back e)) = length-filter_more (lacks held) es back e less in
    let at : how_many_lack held (take before es) ≡ how_many_lack held (take (back + 1) es) = ap (λ (k : ℕ). how_many_lack held (take k es)) is in
    let this : one_if (lacks held e) ≡ one_if (lacks held (get_or es back e)) = ap (λ (x : Entry). one_if (lacks held x)) here in
    omega (arith, few, more, at, this)

-- ---- where it has all

no_more : (b : Bool) (e : Entry) (es fs : List Entry) → length es ≤ length fs → length es ≤ length (cond b (e ∷ fs) fs)
no_more true e es fs le = omega (arith, le)
no_more false e es fs le = le

-- those between two places are some of those before the second
pub between : (held es : List Entry) (at k m : ℕ) → m ≡ at + k → how_many_lack held (take k (drop at es)) ≤ how_many_lack held (take m es)
between held [] zero k m e = let same : m ≡ k = omega (arith, e) in rw same (omega arith)
between held [] (suc at) zero m e = omega arith
between held [] (suc at) (suc k) m e = omega arith
between held (x ∷ es) zero k m e = let same : m ≡ k = omega (arith, e) in rw same (omega arith)
between held (x ∷ es) (suc at) k zero e = absurd (omega (arith, e))
between held (x ∷ es) (suc at) k (suc m) e =
    no_more (lacks held x) x (filter (lacks held) (take k (drop at es))) (filter (lacks held) (take m es)) (between held es at k m (omega (arith, e)))

passed_one : (lack come : Bool) (e : Entry) (fs : List Entry) {A : Type 0} (x y : A) → length (cond lack (e ∷ fs) fs) ≡ 0 → come ≡ false → cond (lack || come) x y ≡ y
passed_one true come e fs x y none later = absurd (omega (arith, none))
passed_one false true e fs x y none later = absurd (cc)
passed_one false false e fs x y none later = refl

rest_none : (lack : Bool) (e : Entry) (fs : List Entry) → length (cond lack (e ∷ fs) fs) ≡ 0 → length fs ≡ 0
rest_none true e fs none = absurd (omega (arith, none))
rest_none false e fs none = none

-- where it has the next k, and they come before the row, the search goes on behind them
pub passed : (held : List Entry) (row : Option ℕ) (k : ℕ) (es : List Entry) (i j : ℕ) → j ≡ i + k → how_many_lack held (take k es) ≡ 0
    → ((n : ℕ) → n < k → has_come_to row (i + n) ≡ false) → needed_from i row held es ≡ needed_from j row held (drop k es)
passed held row zero es i j is none before = ap (λ (n : ℕ). needed_from n row held es) (let same : i ≡ j = omega (arith, is) in same)
passed held row (suc k) [] i j is none before = refl
passed held row (suc k) (e ∷ es) i j is none before =
    let rest : how_many_lack held (take k es) ≡ 0 = rest_none (lacks held e) e (filter (lacks held) (take k es)) none in
    let here : has_come_to row i ≡ false = ap (λ (n : ℕ). has_come_to row n) (let same : i ≡ i + 0 = omega arith in same) ∙ before 0 (omega arith) in
    passed_one (lacks held e) (has_come_to row i) e (filter (lacks held) (take k es)) _ (needed_from (i + 1) row held es) none here
    ∙ passed held row k es (i + 1) j (omega (arith, is)) rest (λ n less.
    ap (λ (m : ℕ). has_come_to row m) (let same : i + 1 + n ≡ i + (n + 1) = omega arith in same) ∙ before (n + 1) (omega (arith, less)))

both_more : (b : Bool) (e : Entry) (es fs : List Entry) → length es ≤ length fs → length (cond b (e ∷ es) es) ≤ length (cond b (e ∷ fs) fs)
both_more true e es fs le = omega (arith, le)
both_more false e es fs le = le

and_right : (a b : Bool) → a ≡ true → (a && b) ≡ false → b ≡ false
and_right true b h none = none
and_right false b h none = absurd (cc)

drop_none : {A : Type 0} (m : ℕ) (xs : List A) → xs ≡ [] → xs ≡ drop m xs
drop_none zero xs e = refl
drop_none (suc m) [] e = refl
drop_none (suc m) (x ∷ xs) e = absurd (cc)

-- the first k are no more than the first m
fewer : (held es : List Entry) (k m : ℕ) → k ≤ m → how_many_lack held (take k es) ≤ how_many_lack held (take m es)
fewer held [] zero m le = omega arith
fewer held [] (suc k) zero le = absurd (omega (arith, le))
fewer held [] (suc k) (suc m) le = omega arith
fewer held (x ∷ es) zero m le = omega arith
fewer held (x ∷ es) (suc k) zero le = absurd (omega (arith, le))
fewer held (x ∷ es) (suc k) (suc m) le = both_more (lacks held x) x (filter (lacks held) (take k es)) (filter (lacks held) (take m es)) (fewer held es k m (omega (arith, le)))

drop_more : {A : Type 0} (at k m : ℕ) (xs : List A) → m ≡ at + k → drop k (drop at xs) ≡ drop m xs
drop_more {A} zero k m xs e = ap (λ (n : ℕ). drop n xs) (let same : k ≡ m = omega (arith, e) in same)
drop_more (suc at) zero m [] e = drop_none m [] refl
drop_more (suc at) (suc k) m [] e = drop_none m [] refl
drop_more (suc at) k zero (x ∷ xs) e = absurd (omega (arith, e))
drop_more (suc at) k (suc m) (x ∷ xs) e = drop_more at k m xs (omega (arith, e))

left_none : (front back left steps : ℕ) → (nat_lt front back && nat_lt 0 left) ≡ false → suc steps ≤ back - front → left ≡ 0
left_none front back left steps over some =
    let less : nat_lt front back ≡ true = grind (arith, nat_tests) in
    let none : nat_lt 0 left ≡ false = and_right (nat_lt front back) (nat_lt 0 left) less over in grind (arith, nat_tests)

-- once the search from both ends is over, the place may go on by these steps
pub skipped : (source held : List Entry) (row : Option ℕ) (n front back left steps index : ℕ) → n - 1 ≤ front → index ≡ n + (front - (n - 1))
    → how_many_lack held (take back source) ≤ left → steps ≤ back - front → (nat_lt front back && nat_lt 0 left) ≡ false
    → ((k : ℕ) → k < steps → has_come_to row (index + k) ≡ false) → needed_behind source row held n front ≡ needed_behind source row held n (front + steps)
skipped source held row n front back left zero index behind is few most over before =
    ap (λ (p : ℕ). needed_behind source row held n p) (let same : front ≡ front + 0 = omega arith in same)
skipped source held row n front back left (suc steps) index behind is few most over before =
    let none : left ≡ 0 = left_none front back left steps over most in
    let within : how_many_lack held (take (suc steps) (drop front source)) ≤ how_many_lack held (take (front + suc steps) source) = between held source front (suc steps) (front + suc steps) refl in
    let below : how_many_lack held (take (front + suc steps) source) ≤ how_many_lack held (take back source) = fewer held source (front + suc steps) back (omega (arith, most)) in
    ap (λ (i : ℕ). needed_from i row held (drop front source)) (sym is)
    ∙ passed held row (suc steps) (drop front source) index (n + (front + suc steps - (n - 1))) (omega (arith, behind, is)) (omega (arith, none, within, below, few)) before
    ∙ ap (λ (es : List Entry). needed_from (n + (front + suc steps - (n - 1))) row held es) (drop_more front (suc steps) (front + suc steps) source refl)

-- That the text of a set is that of its intervals, one after another.
use Rattle.std.proofs.Common.{Result, Ok, Err, ◌⊎◌, inl, inr, zero, suc, ◌-◌, subst, ◌≡◌, ◌≤◌, ◌<◌, ℕ, ◌+◌, Bool, true, false, ◌&&◌, cond, eqb, nat_eq, List, [], ◌∷◌, ◌++◌, Option, Some, None, map, refl, ap, sym, ◌∙◌, arith, append_assoc}
use Rattle.std.specs.List.{flat_map, join_with_byte}
use Rattle.std.specs.Fmt.{decimal}
use Rattle.std.specs.Result.{OnErr}
use Rattle.shard_base.specs.Lists.{IsFront}
use Rattle.std.specs.Str.{bytes_eq}
use Rattle.std.proofs.lemmas.Bool.Decides.{Decides-eqb, nat_tests}
use Rattle.std.proofs.lemmas.Slice.Eq.{bytes_eq-Decides}
use Rattle.std.specs.declared.cmp.Ordering.TheVariants.{Less}
use Rattle.gtid_sets.specs.declared.gtid.Gtid.{Gtid}
use Rattle.gtid_sets.specs.Gtid.{gtid_text}
use Rattle.gtid_sets.specs.SetText.{Run, Part, onto_runs, runs, run_text, onto_parts, parts, part_text, gtids_text}
use Rattle.gtid_sets.specs.declared.interval.Interval.{Interval}
use Rattle.gtid_sets.specs.SetText.{set_text}
use Rattle.gtid_sets.specs.SetWriting.{first_text, last_text, intervals_text}
use Rattle.gtid_sets.specs.Intervals.{start, past, size, numbered, Beyond, Ordered, listed, position_of}
use Rattle.gtid_sets.proofs.OrderLemmas.{Lt, lt_cases, lt_never, lt_server, server_cmp}
use Rattle.gtid_sets.proofs.ListedLemmas.{gtids_position_of}

-- ---- the first run and the others
abbrev run_last : ℕ → List ℕ → ℕ
run_last n [] = n
run_last n (m ∷ ms) = cond (nat_eq (n + 1) m) (run_last m ms) n

abbrev later_runs : ℕ → List ℕ → List Run
later_runs n [] = []
later_runs n (m ∷ ms) = cond (nat_eq (n + 1) m) (later_runs m ms) (runs (m ∷ ms))

abbrev span : ℕ → ℕ → Run
span n m = record { first = n; last = m }

runs_are : (n : ℕ) (ns : List ℕ) → runs (n ∷ ns) ≡ span n (run_last n ns) ∷ later_runs n ns
runs_are n [] = refl
runs_are n (m ∷ ms) = ap (onto_runs n) (runs_are m ms) ∙ at (nat_eq (n + 1) m) (sym (runs_are m ms))
  where
    at : (b : Bool) → span m (run_last m ms) ∷ later_runs m ms ≡ runs (m ∷ ms)
        → cond b (span n (run_last m ms) ∷ later_runs m ms) (span n n ∷ span m (run_last m ms) ∷ later_runs m ms) ≡ span n (cond b (run_last m ms) n) ∷ cond b (later_runs m ms) (runs (m ∷ ms))
    at true e = refl
    at false e = ap (λ rs. span n n ∷ rs) e

-- a run does not end before it begins
run_rises : (n : ℕ) (ns : List ℕ) → n ≤ run_last n ns
run_rises n [] = omega arith
run_rises n (m ∷ ms) = at (nat_eq (n + 1) m) refl (run_rises m ms)
  where
    at : (b : Bool) → nat_eq (n + 1) m ≡ b → m ≤ run_last m ms → n ≤ cond b (run_last m ms) n
    at true e h = let next : n + 1 ≡ m = (Decides-eqb (n + 1) m).0 e in omega arith
    at false e h = omega arith

-- ---- the first part and the others
abbrev later_numbers : Gtid → List Gtid → List ℕ
later_numbers g [] = []
later_numbers g (h ∷ hs) = cond (bytes_eq g.server h.server) (h.number ∷ later_numbers h hs) []

abbrev later_parts : Gtid → List Gtid → List Part
later_parts g [] = []
later_parts g (h ∷ hs) = cond (bytes_eq g.server h.server) (later_parts h hs) (parts (h ∷ hs))

abbrev part_of : Gtid → List ℕ → Part
part_of g ns = record { server = g.server; numbers = g.number ∷ ns }

parts_are : (g : Gtid) (gs : List Gtid) → parts (g ∷ gs) ≡ part_of g (later_numbers g gs) ∷ later_parts g gs
parts_are g [] = refl
parts_are g (h ∷ hs) = ap (onto_parts g) (parts_are h hs) ∙ at (bytes_eq g.server h.server) (sym (parts_are h hs))
  where
    at : (b : Bool) → part_of h (later_numbers h hs) ∷ later_parts h hs ≡ parts (h ∷ hs)
        → cond b (part_of g (h.number ∷ later_numbers h hs) ∷ later_parts h hs) (part_of g [] ∷ part_of h (later_numbers h hs) ∷ later_parts h hs) ≡ part_of g (cond b (h.number ∷ later_numbers h hs) []) ∷ cond b (later_parts h hs) (parts (h ∷ hs))
    at true e = refl
    at false e = ap (λ ps. part_of g [] ∷ ps) e

-- ---- texts
-- the end of an interval
abbrev closing : ℕ → ℕ → List ℕ
closing n m = cond (eqb n m) [] (45 ∷ decimal m)

abbrev runs_text : List Run → List ℕ
runs_text rs = flat_map run_text rs

pub append_none : (xs : List ℕ) → xs ++ [] ≡ xs
append_none [] = refl
append_none (y ∷ ys) = ap (λ zs. y ∷ zs) (append_none ys)

-- parts, each after a comma
abbrev parts_text : List Part → List ℕ
parts_text ps = flat_map (λ p. 44 ∷ part_text p) ps

join_first : (x : Part) (ps : List Part) → join_with_byte 44 (map part_text (x ∷ ps)) ≡ part_text x ++ parts_text ps
join_first x [] = sym (append_none (part_text x))
join_first x (y ∷ ys) = ap (λ zs. part_text x ++ 44 ∷ zs) (join_first y ys)

-- what is written behind the start of g's interval and of its server
abbrev rest_text : Gtid → List Gtid → List ℕ
rest_text g gs = closing g.number (run_last g.number (later_numbers g gs)) ++ (runs_text (later_runs g.number (later_numbers g gs)) ++ parts_text (later_parts g gs))

-- a server, and its first run
first_part_text : (g : Gtid) (gs : List Gtid) → part_text (part_of g (later_numbers g gs)) ++ parts_text (later_parts g gs) ≡ gtid_text g ++ rest_text g gs
first_part_text g gs = rw (runs_are g.number (later_numbers g gs)) (simp append_assoc)

gtids_text_is : (g : Gtid) (gs : List Gtid) → gtids_text (g ∷ gs) ≡ gtid_text g ++ rest_text g gs
gtids_text_is g gs =
    ap (λ ps. join_with_byte 44 (map part_text ps)) (parts_are g gs) ∙ join_first (part_of g (later_numbers g gs)) (later_parts g gs) ∙ first_part_text g gs

-- ---- one step
-- whether b is the next transaction of the server of a
abbrev follows : Gtid → Gtid → Bool
follows a b = bytes_eq a.server b.server && nat_eq (a.number + 1) b.number

-- whether the next transaction follows
abbrev goes_on : Gtid → Option Gtid → Bool
goes_on g None = false
goes_on g (Some h) = follows g h

-- what a transaction adds: the end of an interval, the start of one, or a server and the start of its first
abbrev step_text : Option Gtid → Gtid → Option Gtid → List ℕ
step_text None g next = gtid_text g
step_text (Some p) g next = cond (follows p g) (cond (goes_on g next) [] (45 ∷ decimal g.number)) (cond (bytes_eq p.server g.server) (58 ∷ decimal g.number) (44 ∷ gtid_text g))

abbrev first_of : List Gtid → Option Gtid
first_of [] = None
first_of (g ∷ gs) = Some g

-- what the writer adds from here on
abbrev steps_text : Option Gtid → List Gtid → List ℕ
steps_text p [] = []
steps_text p (g ∷ gs) = step_text p g (first_of gs) ++ steps_text (Some g) gs

itself : (n : ℕ) → eqb n n ≡ true
itself n = (Decides-eqb n n).1 refl

no_closing : (n : ℕ) → closing n n ≡ []
no_closing n = rw (itself n) refl

closing_later : (n m : ℕ) → n < m → closing n m ≡ 45 ∷ decimal m
closing_later n m lt = let apart : eqb n m ≡ false = differs n m lt in rw apart refl
  where
    differs : (n m : ℕ) → n < m → eqb n m ≡ false
    differs n m lt = elim (eqb n m) as (λ b. eqb n m ≡ b → b ≡ false) [
      | true ↦ λ e. let same : n ≡ m = (Decides-eqb n m).0 e in absurd (omega arith)
      | false ↦ λ e. refl
    ] refl

-- the end of a run is written once: by its last number, which nothing follows
ends : (h : Gtid) (hs : List Gtid) → cond (goes_on h (first_of hs)) [] (45 ∷ decimal h.number) ++ closing h.number (run_last h.number (later_numbers h hs)) ≡ 45 ∷ decimal (run_last h.number (later_numbers h hs))
ends h [] = alone h.number
  where
    alone : (n : ℕ) → (45 ∷ decimal n) ++ closing n n ≡ 45 ∷ decimal n
    alone n = rw (no_closing n) (append_none (45 ∷ decimal n))
ends h (k ∷ ks) = at (bytes_eq h.server k.server) (nat_eq (h.number + 1) k.number) refl
  where
    at : (same next : Bool) → nat_eq (h.number + 1) k.number ≡ next
        → cond (same && next) [] (45 ∷ decimal h.number) ++ closing h.number (run_last h.number (cond same (k.number ∷ later_numbers k ks) [])) ≡ 45 ∷ decimal (run_last h.number (cond same (k.number ∷ later_numbers k ks) []))
    at false next e = rw (no_closing h.number) (append_none (45 ∷ decimal h.number))
    at true false e = rw (e, no_closing h.number) (append_none (45 ∷ decimal h.number))
    at true true e =
        let above : h.number + 1 ≡ k.number = (Decides-eqb (h.number + 1) k.number).0 e in
        let rises : k.number ≤ run_last k.number (later_numbers k ks) = run_rises k.number (later_numbers k ks) in
        let below : h.number < run_last k.number (later_numbers k ks) = omega arith in
        rw e (closing_later h.number (run_last k.number (later_numbers k ks)) below)

step_is : (g h : Gtid) (hs : List Gtid) (same next : Bool) → nat_eq (g.number + 1) h.number ≡ next
    → cond (same && next) (cond (goes_on h (first_of hs)) [] (45 ∷ decimal h.number)) (cond same (58 ∷ decimal h.number) (44 ∷ gtid_text h)) ++ rest_text h hs
    ≡ closing g.number (run_last g.number (cond same (h.number ∷ later_numbers h hs) []))
    ++ (runs_text (later_runs g.number (cond same (h.number ∷ later_numbers h hs) [])) ++ parts_text (cond same (later_parts h hs) (parts (h ∷ hs))))
step_is g h hs false next e = sym (rw (no_closing g.number) (ap parts_text (parts_are h hs) ∙ ap (λ z. 44 ∷ z) (first_part_text h hs)))
step_is g h hs true false e =
    sym (rw (e, no_closing g.number) (ap (λ rs. runs_text rs ++ parts_text (later_parts h hs)) (runs_are h.number (later_numbers h hs)) ∙ (simp append_assoc)))
step_is g h hs true true e =
    let above : g.number + 1 ≡ h.number = (Decides-eqb (g.number + 1) h.number).0 e in
    let rises : h.number ≤ run_last h.number (later_numbers h hs) = run_rises h.number (later_numbers h hs) in
    let below : g.number < run_last h.number (later_numbers h hs) = omega arith in
    rw e
    (sym (append_assoc (cond (goes_on h (first_of hs)) [] (45 ∷ decimal h.number)) (closing h.number (run_last h.number (later_numbers h hs))) _)
    ∙ ap (λ z. z ++ (runs_text (later_runs h.number (later_numbers h hs)) ++ parts_text (later_parts h hs))) (ends h hs ∙ sym (closing_later g.number (run_last h.number (later_numbers h hs)) below)))

steps_are : (g : Gtid) (gs : List Gtid) → steps_text (Some g) gs ≡ rest_text g gs
steps_are g [] = sym (rw (no_closing g.number) refl)
steps_are g (h ∷ hs) =
    ap (λ z. step_text (Some g) h (first_of hs) ++ z) (steps_are h hs)
    ∙ step_is g h hs (bytes_eq g.server h.server) (nat_eq (g.number + 1) h.number) refl

-- the steps of the writer give the text
steps_text_is : (gs : List Gtid) → steps_text None gs ≡ gtids_text gs
steps_text_is [] = refl
steps_text_is (g ∷ gs) = ap (λ z. gtid_text g ++ z) (steps_are g gs) ∙ sym (gtids_text_is g gs)

-- ---- one interval
abbrev at_number : List ℕ → ℕ → Gtid
at_number s n = record { server = s; number = n }

same_server : (s : List ℕ) → bytes_eq s s ≡ true
same_server s = (bytes_eq-Decides s s).1 refl

-- inside an interval nothing is written
goes_through : (s : List ℕ) (n : ℕ) → step_text (Some (at_number s n)) (at_number s (n + 1)) (Some (at_number s (n + 1 + 1))) ≡ []
goes_through s n = rw (same_server s, itself (n + 1), itself (n + 1 + 1)) refl

-- behind the first number of an interval there is nothing more than its last
run_text_is : (s : List ℕ) (n k m : ℕ) (rest : List Gtid) → m ≡ n + suc k → goes_on (at_number s m) (first_of rest) ≡ false
    → steps_text (Some (at_number s n)) (numbered s (n + 1) (suc k) ++ rest) ≡ 45 ∷ decimal m ++ steps_text (Some (at_number s m)) rest
run_text_is s n zero m rest e stop = to_end m (e ∙ one_more n) stop
  where
    one_more : (n : ℕ) → n + suc zero ≡ n + 1
    one_more n = omega arith

    to_end : (m : ℕ) → m ≡ n + 1 → goes_on (at_number s m) (first_of rest) ≡ false
        → cond (bytes_eq s s && nat_eq (n + 1) (n + 1)) (cond (goes_on (at_number s (n + 1)) (first_of rest)) [] (45 ∷ decimal (n + 1))) (cond (bytes_eq s s) (58 ∷ decimal (n + 1)) (44 ∷ gtid_text (at_number s (n + 1)))) ++ steps_text (Some (at_number s (n + 1))) rest
        ≡ 45 ∷ decimal m ++ steps_text (Some (at_number s m)) rest
    to_end m e stop = subst (λ (j : ℕ). goes_on (at_number s j) (first_of rest) ≡ false → cond (bytes_eq s s && nat_eq (n + 1) (n + 1)) (cond (goes_on (at_number s (n + 1)) (first_of rest)) [] (45 ∷ decimal (n + 1))) (cond (bytes_eq s s) (58 ∷ decimal (n + 1)) (44 ∷ gtid_text (at_number s (n + 1)))) ++ steps_text (Some (at_number s (n + 1))) rest
        ≡ 45 ∷ decimal j ++ steps_text (Some (at_number s j)) rest) (sym e) (λ stops. rw (same_server s, itself (n + 1), stops) refl) stop
run_text_is s n (suc k) m rest e stop =
    ap (λ (t : List ℕ). t ++ steps_text (Some (at_number s (n + 1))) (numbered s (n + 1 + 1) (suc k) ++ rest)) (goes_through s n) ∙ run_text_is s (n + 1) k m rest (e ∙ one_more n k) stop
  where
    one_more : (n k : ℕ) → n + suc (suc k) ≡ n + 1 + suc k
    one_more n k = omega arith

rest_of_interval : (s : List ℕ) (n k m : ℕ) (rest : List Gtid) → m ≡ n + k → goes_on (at_number s m) (first_of rest) ≡ false
    → steps_text (Some (at_number s n)) (numbered s (n + 1) k ++ rest) ≡ cond (eqb n m) [] (45 ∷ decimal m) ++ steps_text (Some (at_number s m)) rest
rest_of_interval s n zero m rest e stop = subst (λ (j : ℕ). steps_text (Some (at_number s n)) rest ≡ cond (eqb n j) [] (45 ∷ decimal j) ++ steps_text (Some (at_number s j)) rest) (none n ∙ sym e) (rw (itself n) refl)
  where
    none : (n : ℕ) → n ≡ n + zero
    none n = omega arith
rest_of_interval s n (suc k) m rest e stop = run_text_is s n k m rest e stop ∙ ap (λ (t : List ℕ). t ++ steps_text (Some (at_number s m)) rest) (sym (closing_later n m (omega arith)))

-- ---- all intervals
-- the next begins with a gap
abbrev Fresh : Option Gtid → List Interval → Type 0
Fresh None xs = Unit {0}
Fresh (Some p) [] = Unit {0}
Fresh (Some p) (x ∷ xs) = follows p (start x) ≡ false

abbrev server_of : Option Gtid → Option (List ℕ)
server_of None = None
server_of (Some p) = Some p.server

not_next : (y x : Interval) → Lt (past y) (start x) → follows (at_number y.server y.last) (start x) ≡ false
not_next y x lt = elim (bytes_eq y.server x.server) as (λ b. bytes_eq y.server x.server ≡ b → (b && nat_eq (y.last + 1) x.first) ≡ false) [
  | true ↦ λ e. gap ((bytes_eq-Decides y.server x.server).0 e) (lt_cases (past y) (start x) lt)
  | false ↦ λ e. refl
] refl
  where
    apart : (m n : ℕ) → m < n → nat_eq m n ≡ false
    apart m n h = grind (arith, nat_tests)

    gap : y.server ≡ x.server → (server_cmp y.server x.server ≡ Less) ⊎ ((y.server ≡ x.server) × (y.last + 1 < x.first)) → (true && nat_eq (y.last + 1) x.first) ≡ false
    gap e (inl s) = absurd (lt_never (start y) (lt_server (start y) (start y) (subst (λ (t : List ℕ). server_cmp y.server t ≡ Less) (sym e) s)))
    gap e (inr p) = apart (y.last + 1) x.first p.1

first_step : (before : Option Gtid) (x : Interval) (xs : List Interval) (next : Option Gtid) → Fresh before (x ∷ xs) → step_text before (start x) next ≡ first_text (server_of before) (start x)
first_step None x xs next fresh = refl
first_step (Some p) x xs next fresh = rw fresh refl

first_of_listed : (x : Interval) (xs : List Interval) → x.first ≤ x.last → first_of (listed (x ∷ xs)) ≡ Some (start x)
unfolding listed
first_of_listed x xs some = at (size x) (filled x.first x.last some)
  where
    filled : (f l : ℕ) → f ≤ l → l + 1 - f ≡ suc (l - f)
    filled f l le = omega arith

    at : (k : ℕ) → k ≡ suc (x.last - x.first) → first_of (numbered x.server x.first k ++ listed xs) ≡ Some (start x)
    at zero e = absurd (omega arith)
    at (suc k) e = refl

stops : (x : Interval) (xs : List Interval) → Beyond x xs → Ordered xs → goes_on (at_number x.server x.last) (first_of (listed xs)) ≡ false
unfolding listed
stops x [] beyond h = refl
stops x (y ∷ ys) beyond h = ap (goes_on (at_number x.server x.last)) (first_of_listed y ys h.0) ∙ not_next x y beyond.0

next_fresh : (x : Interval) (xs : List Interval) → Beyond x xs → Fresh (Some (at_number x.server x.last)) xs
next_fresh x [] beyond = tt
next_fresh x (y ∷ ys) beyond = not_next x y beyond.0

steps_listed : (before : Option Gtid) (xs : List Interval) → Ordered xs → Fresh before xs → steps_text before (listed xs) ≡ intervals_text (server_of before) xs
unfolding listed
steps_listed before [] h fresh = refl
steps_listed before (x ∷ xs) h fresh = at (size x) (filled x.first x.last h.0) (steps_listed (Some (at_number x.server x.last)) xs h.1.1 (next_fresh x xs h.1.0))
  where
    filled : (f l : ℕ) → f ≤ l → l + 1 - f ≡ suc (l - f)
    filled f l le = omega arith

    ends : (f l : ℕ) → f ≤ l → l ≡ f + (l - f)
    ends f l le = omega arith

    at : (k : ℕ) → k ≡ suc (x.last - x.first) → steps_text (Some (at_number x.server x.last)) (listed xs) ≡ intervals_text (Some x.server) xs
        → steps_text before (numbered x.server x.first k ++ listed xs) ≡ first_text (server_of before) (start x) ++ (last_text x ++ intervals_text (Some x.server) xs)
    at zero e later = absurd (omega arith)
    at (suc k) e later =
        ap (λ (t : List ℕ). t ++ steps_text (Some (start x)) (numbered x.server (x.first + 1) k ++ listed xs)) (first_step before x xs (first_of (numbered x.server (x.first + 1) k ++ listed xs)) fresh)
        ∙ ap (λ (t : List ℕ). first_text (server_of before) (start x) ++ t)
        (rest_of_interval x.server x.first k x.last (listed xs) (ends x.first x.last h.0 ∙ ap (λ (n : ℕ). x.first + n) (less_one k e)) (stops x xs h.1.0 h.1.1)
        ∙ ap (λ (t : List ℕ). last_text x ++ t) later)
      where
        less_one : (k : ℕ) → suc k ≡ suc (x.last - x.first) → x.last - x.first ≡ k
        less_one k e = omega arith

-- the text of the set of a list in order
pub set_text_is : (xs : List Interval) → Ordered xs → set_text (position_of xs) ≡ intervals_text None xs
set_text_is xs h = ap gtids_text (gtids_position_of xs h) ∙ sym (steps_text_is (listed xs)) ∙ steps_listed None xs h tt

-- ---- a front of a front
front_further : (xs ys zs : List ℕ) → IsFront xs ys → IsFront ys zs → IsFront xs zs
front_further xs ys zs h k = record { rest = h.rest ++ k.rest; split = k.split ∙ ap (λ (t : List ℕ). t ++ k.rest) h.split ∙ append_assoc xs h.rest k.rest }

pub on_err_front : {A E : Type 0} (r : Result A E) {xs ys zs : List ℕ} → IsFront xs ys → IsFront ys zs → OnErr r (IsFront xs zs)
on_err_front (Ok a) h k = tt
on_err_front (Err e) {xs = xs} {ys = ys} {zs = zs} h k = front_further xs ys zs h k

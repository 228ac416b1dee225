-- That the text of a set is read as that set.
use Rattle.std.proofs.Common.{◌≡◌, inl, ℕ, zero, suc, ◌+◌, ◌-◌, ◌<◌, ◌≤◌, ◌^◌, List, [], ◌∷◌, ◌++◌, Bool, true, false, ◌&&◌, cond, eqb, Option, Some, None, Ok, length, take, drop, get_or, refl, sym, ap, subst, ◌∙◌, arith, length-append, append_assoc, append-nil}
use Rattle.std.specs.Prelude.{min, nat_lt, codes, option_and_then}
use Rattle.std.specs.Char.{is_ascii_digit, digit_value}
use Rattle.std.specs.Fmt.{decimal}
use Rattle.std.specs.List.{list_all, position_or_len, All}
use Rattle.std.specs.Str.{bytes_eq}
use Rattle.std.specs.Str.Parse.{AllDigits}
use Rattle.std.proofs.lemmas.Bool.Decides.{nat_tests}
use Rattle.std.proofs.lemmas.Fmt.{decimal_is_IsNumeral}
use Rattle.std.proofs.lemmas.List.{take_all}
use Rattle.std.proofs.lemmas.List.Elements.{All-nil, All-cons, All-append, All-head, All-tail}
use Rattle.std.proofs.lemmas.List.Splits.{slice_split_none, slice_split_at}
use Rattle.std.proofs.lemmas.Slice.Eq.{bytes_eq-Decides}
use Rattle.uuid.specs.Text.{hyphenated_text, lower, parsed, is_hyphen_place, hex_digit, nibble, digit_place}
use Rattle.uuid.proofs.TextLemmas.{by_index_length, by_index_at, nibble_small}
use Rattle.uuid.proofs.RoundTrips.{parses_hyphenated}
use Rattle.gtid_sets.specs.declared.interval.Interval.{Interval}
use Rattle.gtid_sets.specs.Gtid.{gtid_text}
use Rattle.gtid_sets.specs.Intervals.{start, Ordered, position_of}
use Rattle.gtid_sets.specs.SetWriting.{last_text, intervals_text}
use Rattle.gtid_sets.specs.Reading.{Claim, number_of, one_of, both_of, bounds_of, between, begins_tag, item_says, items_say, server_of, named_says, is_white, white_before, solid_length, less_white_behind, part_says, parts_say, text_says, onto, all_or_first, set_of_all, reading_from, set_reading, position_reading}
use Rattle.gtid_sets.specs.ReadingLaws.{IsWritable, SetReadsBack, PositionReadsBack}
use Rattle.gtid_sets.proofs.ReadingLemmas.{number_is, server_is, colons, commas, split_some, parts_more, named_by}
use Rattle.gtid_sets.proofs.TextLemmas.{set_text_is}

-- ---- bytes
abbrev Digit : ℕ → Type 0
Digit b = (48 ≤ b) × (b ≤ 57)

-- no colon, no comma and no white space
abbrev Plain : ℕ → Type 0
Plain b = (45 ≤ b) × (b ≡ 58 → ⊥)

abbrev High : ℕ → Type 0
High b = 45 ≤ b

further : {X : Type 0} (P Q : X → Type 0) (xs : List X) → ((x : X) → P x → Q x) → All P xs → All Q xs
further P Q xs f h k d lt = f (get_or xs k d) (h k d lt)

digit_of_value : (c : ℕ) → digit_value c < 10 → Digit c
digit_of_value c h = grind (arith, nat_tests)

digits_are : (ds : List ℕ) → AllDigits 10 ds → All Digit ds
digits_are [] d = All-nil Digit
digits_are (c ∷ cs) d = All-cons Digit c cs (digit_of_value c d.0) (digits_are cs d.1)

plain_digit : (b : ℕ) → Digit b → Plain b
plain_digit b h = (omega (arith, h.0), λ e. absurd (omega (arith, h.1, e)))

hex_at : (t : Bool) (n : ℕ) → n < 16 → Plain (cond t 45 (hex_digit lower n))
hex_at true n h = (omega arith, λ e. absurd (omega (arith, e)))
hex_at false n h = by_test (nat_lt n 10) refl
  where
    by_test : (t : Bool) → nat_lt n 10 ≡ t → Plain (cond t (48 + n) (97 + n - 10))
    by_test true e = let low : n < 10 = grind (arith, nat_tests) in (omega arith, λ f. absurd (omega (arith, low, f)))
    by_test false e = let high : 10 ≤ n = grind (arith, nat_tests) in (omega (arith, high), λ f. absurd (omega (arith, high, f)))

long_uuid : (s : List ℕ) → length (hyphenated_text lower s) ≡ 36
long_uuid s = by_index_length 36 _

plain_uuid : (s : List ℕ) → All Plain (hyphenated_text lower s)
plain_uuid s k d lt =
    let within : k < 36 = subst (λ (n : ℕ). k < n) (long_uuid s) lt in
    subst Plain (sym (by_index_at 36 _ k d within)) (hex_at (is_hyphen_place k) (nibble s (digit_place k)) (nibble_small s (digit_place k)))

-- ---- items
pub record Fits (x : Interval) : Type 0 where
  pub first : x.first ≤ x.last
  pub one : 1 ≤ x.first
  pub last : x.last ≤ 9223372036854775806

number_back : (n : ℕ) → n ≤ 9223372036854775806 → number_of (decimal n) ≡ Some n
number_back n h =
    let small : n < 2 ^ 64 = omega (arith, h) in
    let numeral = decimal_is_IsNumeral n small in
    let capped : min n 9223372036854775807 ≡ n = grind arith in
    sym (number_is (decimal n) numeral.0.0 (digits_test (decimal n) (digits_are (decimal n) numeral.0.1)))
    ∙ ap (λ (m : ℕ). Some (min m 9223372036854775807)) numeral.1 ∙ ap (λ (m : ℕ). Some m) capped
  where
    digits_test : (ds : List ℕ) → All Digit ds → list_all is_ascii_digit ds ≡ true
    digits_test [] h = refl
    digits_test (c ∷ cs) h =
        let low : 48 ≤ c = (All-head Digit c cs h).0 in
        let high : c ≤ 57 = (All-head Digit c cs h).1 in
        let here : is_ascii_digit c ≡ true = grind (arith, nat_tests) in
        rw here (digits_test cs (All-tail Digit c cs h))

abbrev pub item_text : Interval → List ℕ
item_text x = decimal x.first ++ last_text x

no_tag : (ds t : List ℕ) → 0 < length ds → All Digit ds → begins_tag (ds ++ t) ≡ false
no_tag [] t some h = absurd (omega arith)
no_tag (c ∷ cs) t some h =
    let low : 48 ≤ c = (All-head Digit c cs h).0 in
    let high : c ≤ 57 = (All-head Digit c cs h).1 in
    grind (arith, nat_tests)

before_dash : (ds t : List ℕ) → All Digit ds → position_or_len (λ b. eqb b 45) (ds ++ t) ≡ length ds + position_or_len (λ b. eqb b 45) t
before_dash [] t h = omega arith
before_dash (c ∷ cs) t h =
    let low : 48 ≤ c = (All-head Digit c cs h).0 in
    let other : eqb c 45 ≡ false = grind (arith, nat_tests) in
    let rest : position_or_len (λ b. eqb b 45) (cs ++ t) ≡ length cs + position_or_len (λ b. eqb b 45) t = before_dash cs t (All-tail Digit c cs h) in
    rw other (omega (arith, rest))

take_front : (xs ys : List ℕ) → take (length xs) (xs ++ ys) ≡ xs
take_front [] ys = refl
take_front (x ∷ xs) ys = ap (λ zs. x ∷ zs) (take_front xs ys)

drop_front : (xs : List ℕ) (y : ℕ) (ys : List ℕ) (k : ℕ) → k ≡ suc (length xs) → drop k (xs ++ y ∷ ys) ≡ ys
drop_front [] y ys zero e = absurd (omega arith)
drop_front [] y ys (suc zero) e = refl
drop_front [] y ys (suc (suc k)) e = absurd (omega arith)
drop_front (x ∷ xs) y ys zero e = absurd (omega arith)
drop_front (x ∷ xs) y ys (suc k) e = drop_front xs y ys k (omega arith)

abbrev bounds_by : List ℕ → Option ℕ → Option (ℕ × ℕ)
bounds_by text o = elim o [ None ↦ one_of text | Some dash ↦ both_of text dash ]

one_back : (text : List ℕ) (n : ℕ) → number_of text ≡ Some n → one_of text ≡ Some (n, n)
unfolding one_of
one_back text n e = ap (λ (o : Option ℕ). option_and_then (λ k. Some (k, k)) o) e

both_back : (text : List ℕ) (k n m : ℕ) → number_of (take k text) ≡ Some n → number_of (drop (k + 1) text) ≡ Some m → both_of text k ≡ Some (n, m)
unfolding both_of
both_back text k n m e f =
    ap (λ (o : Option ℕ). option_and_then (λ a. option_and_then (λ b. Some (a, b)) (number_of (drop (k + 1) text))) o) e
    ∙ ap (λ (o : Option ℕ). option_and_then (λ b. Some (n, b)) o) f

bounds_one : (n : ℕ) → n ≤ 9223372036854775806 → bounds_of (decimal n ++ []) ≡ Some (n, n)
unfolding bounds_of
bounds_one n h =
    let small : n < 2 ^ 64 = omega (arith, h) in
    let place : position_or_len (λ b. eqb b 45) (decimal n ++ []) ≡ length (decimal n) + 0 = before_dash (decimal n) [] (digits_are (decimal n) (decimal_is_IsNumeral n small).0.1) in
    let size : length (decimal n ++ []) ≡ length (decimal n) + 0 = length-append (decimal n) [] in
    let none : nat_lt (position_or_len (λ b. eqb b 45) (decimal n ++ [])) (length (decimal n ++ [])) ≡ false = grind (arith, nat_tests) in
    ap (λ (b : Bool). bounds_by (decimal n ++ []) (cond b (Some (position_or_len (λ b. eqb b 45) (decimal n ++ []))) None)) none
    ∙ ap (λ t. one_of t) (append-nil (decimal n)) ∙ one_back (decimal n) n (number_back n h)

bounds_two : (n m : ℕ) → n ≤ 9223372036854775806 → m ≤ 9223372036854775806 → bounds_of (decimal n ++ 45 ∷ decimal m) ≡ Some (n, m)
unfolding bounds_of
bounds_two n m h k =
    let small : n < 2 ^ 64 = omega (arith, h) in
    let place : position_or_len (λ b. eqb b 45) (decimal n ++ 45 ∷ decimal m) ≡ length (decimal n) + 0 = before_dash (decimal n) (45 ∷ decimal m) (digits_are (decimal n) (decimal_is_IsNumeral n small).0.1) in
    let at : position_or_len (λ b. eqb b 45) (decimal n ++ 45 ∷ decimal m) ≡ length (decimal n) = omega (arith, place) in
    let size : length (decimal n ++ 45 ∷ decimal m) ≡ length (decimal n) + suc (length (decimal m)) = length-append (decimal n) (45 ∷ decimal m) in
    let some : nat_lt (position_or_len (λ b. eqb b 45) (decimal n ++ 45 ∷ decimal m)) (length (decimal n ++ 45 ∷ decimal m)) ≡ true = grind (arith, nat_tests) in
    let behind : drop (length (decimal n) + 1) (decimal n ++ 45 ∷ decimal m) ≡ decimal m = drop_front (decimal n) 45 (decimal m) (length (decimal n) + 1) (omega arith) in
    ap (λ (b : Bool). bounds_by (decimal n ++ 45 ∷ decimal m) (cond b (Some (position_or_len (λ b. eqb b 45) (decimal n ++ 45 ∷ decimal m))) None)) some
    ∙ ap (λ (k : ℕ). both_of (decimal n ++ 45 ∷ decimal m) k) at
    ∙ both_back (decimal n ++ 45 ∷ decimal m) (length (decimal n)) n m (ap number_of (take_front (decimal n) (45 ∷ decimal m)) ∙ number_back n h) (ap number_of behind ∙ number_back m k)

item_bounds : (x : Interval) → Fits x → bounds_of (item_text x) ≡ Some (x.first, x.last)
item_bounds x h = by_test (eqb x.first x.last) refl
  where
    by_test : (t : Bool) → eqb x.first x.last ≡ t → bounds_of (decimal x.first ++ cond t [] (45 ∷ decimal x.last)) ≡ Some (x.first, x.last)
    by_test true e =
        let same : x.first ≡ x.last = grind (arith, nat_tests) in
        bounds_one x.first (omega (arith, h.first, h.last)) ∙ ap (λ (n : ℕ). Some (x.first, n)) same
    by_test false e = bounds_two x.first x.last (omega (arith, h.first, h.last)) h.last

pub item_back : (at : ℕ) (x : Interval) → Fits x → item_says x.server at (item_text x) ≡ Ok x
unfolding item_says between
item_back at x h =
    let small : x.first < 2 ^ 64 = omega (arith, h.first, h.last) in
    let numeral = decimal_is_IsNumeral x.first small in
    let untagged : begins_tag (item_text x) ≡ false = no_tag (decimal x.first) (last_text x) numeral.0.0 (digits_are (decimal x.first) numeral.0.1) in
    let a : x.first ≤ x.last = h.first in
    let b : 1 ≤ x.first = h.one in
    let c : x.last ≤ 9223372036854775806 = h.last in
    let some : eqb x.first 0 ≡ false = grind (arith, nat_tests) in
    let first : nat_lt 9223372036854775806 x.first ≡ false = grind (arith, nat_tests) in
    let last : nat_lt 9223372036854775806 x.last ≡ false = grind (arith, nat_tests) in
    rw (untagged, item_bounds x h, some, first, last) refl

item_plain : (x : Interval) → Fits x → All Plain (item_text x)
item_plain x h =
    All-append Plain (decimal x.first) (last_text x) (decimal_plain x.first (omega (arith, h.first, h.last))) (by_test (eqb x.first x.last))
  where
    decimal_plain : (n : ℕ) → n < 2 ^ 64 → All Plain (decimal n)
    decimal_plain n small = further Digit Plain (decimal n) plain_digit (digits_are (decimal n) (decimal_is_IsNumeral n small).0.1)

    by_test : (t : Bool) → All Plain (cond t [] (45 ∷ decimal x.last))
    by_test true = All-nil Plain
    by_test false = All-cons Plain 45 (decimal x.last) (omega arith, λ e. absurd (omega (arith, e))) (decimal_plain x.last (omega (arith, h.last)))

-- ---- the items of a server
abbrev items_text : List Interval → List ℕ
items_text [] = []
items_text (x ∷ xs) = 58 ∷ (item_text x ++ items_text xs)

abbrev item_texts : List Interval → List (List ℕ)
item_texts [] = []
item_texts (x ∷ xs) = item_text x ∷ item_texts xs

-- each is of the server
abbrev Own : List ℕ → List Interval → Type 0
Own s [] = Unit {0}
Own s (x ∷ xs) = ((x.server ≡ s) × Fits x) × Own s xs

abbrev says : List Interval → List Claim
says [] = []
says (x ∷ xs) = Ok x ∷ says xs

no_colon : (b : ℕ) → Plain b → eqb b 58 ≡ false
no_colon b h = let other : b ≡ 58 → ⊥ = h.1 in grind (arith, nat_tests)

colons_are : (pre : List ℕ) (s : List ℕ) (xs : List Interval) → All Plain pre → Own s xs → colons (pre ++ items_text xs) ≡ pre ∷ item_texts xs
colons_are pre s [] plain own = ap colons (append-nil pre) ∙ slice_split_none (λ b. eqb b 58) pre (further Plain (λ b. eqb b 58 ≡ false) pre no_colon plain)
colons_are pre s (x ∷ xs) plain own =
    slice_split_at (λ b. eqb b 58) pre 58 (item_text x ++ items_text xs) (further Plain (λ b. eqb b 58 ≡ false) pre no_colon plain) refl
    ∙ ap (λ ts. pre ∷ ts) (colons_are (item_text x) s xs (item_plain x own.0.1) own.1)

items_back : (s : List ℕ) (at : ℕ) (xs : List Interval) → Own s xs → items_say s at (item_texts xs) ≡ says xs
items_back s at [] own = refl
items_back s at (x ∷ xs) own =
    ap (λ (c : Claim). c ∷ items_say s (at + length (item_text x) + 1) (item_texts xs)) (subst (λ (t : List ℕ). item_says t at (item_text x) ≡ Ok x) own.0.0 (item_back at x own.0.1))
    ∙ ap (λ cs. Ok x ∷ cs) (items_back s (at + length (item_text x) + 1) xs own.1)

-- ---- the part of a server
abbrev part_of : List ℕ → List Interval → List ℕ
part_of s xs = hyphenated_text lower s ++ items_text xs

high_plain : (b : ℕ) → Plain b → High b
high_plain b h = h.0

items_high : (s : List ℕ) (xs : List Interval) → Own s xs → All High (items_text xs)
items_high s [] own = All-nil High
items_high s (x ∷ xs) own =
    All-cons High 58 (item_text x ++ items_text xs) (omega arith)
    (All-append High (item_text x) (items_text xs) (further Plain High (item_text x) high_plain (item_plain x own.0.1)) (items_high s xs own.1))

part_high : (s : List ℕ) (xs : List Interval) → Own s xs → All High (part_of s xs)
part_high s xs own = All-append High (hyphenated_text lower s) (items_text xs) (further Plain High (hyphenated_text lower s) high_plain (plain_uuid s)) (items_high s xs own)

not_white : (b : ℕ) → High b → is_white b ≡ false
unfolding is_white
not_white b h = let high : 45 ≤ b = h in grind (arith, nat_tests)

no_white_before : (t : Bool) (text : List ℕ) → All High text → white_before t text ≡ 0
unfolding white_before
no_white_before false text h = refl
no_white_before true [] h = refl
no_white_before true (b ∷ bs) h = rw (not_white b (All-head High b bs h)) refl

all_solid : (text : List ℕ) → All High text → solid_length text ≡ length text
all_solid [] h = refl
all_solid (b ∷ bs) h = rw (not_white b (All-head High b bs h), all_solid bs (All-tail High b bs h)) (by_test (eqb (length bs) 0))
  where
    by_test : (t : Bool) → ◌≡◌ {A = ℕ} (cond (t && false) 0 (length bs + 1)) (suc (length bs))
    by_test true = omega arith
    by_test false = omega arith

no_white_behind : (t : Bool) (text : List ℕ) → All High text → less_white_behind t text ≡ text
unfolding less_white_behind
no_white_behind false text h = refl
no_white_behind true text h = take_all (solid_length text) text (let e : solid_length text ≡ length text = all_solid text h in omega (arith, e))

record IsUuid (s : List ℕ) : Type 0 where
  long : length s ≡ 16
  bytes : All (λ b. b < 256) s

uuid_back : (s : List ℕ) → IsUuid s → server_of (hyphenated_text lower s) ≡ Some s
uuid_back s h = sym (server_is (hyphenated_text lower s) (parsed (hyphenated_text lower s)) (long_uuid s) refl) ∙ sym (parses_hyphenated lower s (inl refl) h.long h.bytes)

part_back : (behind before : Bool) (at : ℕ) (s : List ℕ) (x : Interval) (xs : List Interval) → IsUuid s → Own s (x ∷ xs) → part_says behind before at (part_of s (x ∷ xs)) ≡ says (x ∷ xs)
unfolding part_says
part_back behind before at s x xs uuid own =
    let text : List ℕ = part_of s (x ∷ xs) in
    let high : All High text = part_high s (x ∷ xs) own in
    ap (λ (n : ℕ). named_says at (at + n) (colons (less_white_behind before (drop n text)))) (no_white_before behind text high)
    ∙ ap (λ (t : List ℕ). named_says at (at + 0) (colons t)) (no_white_behind before text high)
    ∙ ap (named_says at (at + 0)) (colons_are (hyphenated_text lower s) s (x ∷ xs) (plain_uuid s) own)
    ∙ ap (named_by at (at + 0) (hyphenated_text lower s) (item_texts (x ∷ xs))) (uuid_back s uuid)
    ∙ items_back s (at + 0 + length (hyphenated_text lower s) + 1) (x ∷ xs) own

-- ---- the parts of servers
abbrev Each : List Interval → Type 0
Each [] = Unit {0}
Each (x ∷ xs) = (IsUuid x.server × Fits x) × Each xs

own_push : (s : List ℕ) (xs : List Interval) (y : Interval) → Own s xs → y.server ≡ s → Fits y → Own s (xs ++ y ∷ [])
own_push s [] y own same fits = ((same, fits), tt)
own_push s (x ∷ xs) y own same fits = (own.0, own_push s xs y own.1 same fits)

says_append : (xs ys : List Interval) → says (xs ++ ys) ≡ says xs ++ says ys
says_append [] ys = refl
says_append (x ∷ xs) ys = ap (λ cs. Ok x ∷ cs) (says_append xs ys)

items_push : (xs : List Interval) (y : Interval) → items_text (xs ++ y ∷ []) ≡ items_text xs ++ 58 ∷ item_text y
items_push [] y = ap (λ (t : List ℕ). 58 ∷ t) (append-nil (item_text y))
items_push (x ∷ xs) y =
    ap (λ (t : List ℕ). 58 ∷ (item_text x ++ t)) (items_push xs y)
    ∙ ap (λ (t : List ℕ). 58 ∷ t) (sym (append_assoc (item_text x) (items_text xs) (58 ∷ item_text y)))

more_text : (h i d l r : List ℕ) → (h ++ i) ++ (58 ∷ (d ++ (l ++ r))) ≡ (h ++ (i ++ 58 ∷ (d ++ l))) ++ r
more_text h i d l r =
    append_assoc h i (58 ∷ (d ++ (l ++ r))) ∙ ap (λ t. h ++ (i ++ 58 ∷ t)) (sym (append_assoc d l r))
    ∙ ap (λ t. h ++ t) (sym (append_assoc i (58 ∷ (d ++ l)) r)) ∙ sym (append_assoc h (i ++ 58 ∷ (d ++ l)) r)

first_part : (h d l r : List ℕ) → (h ++ 58 ∷ d) ++ (l ++ r) ≡ (h ++ 58 ∷ ((d ++ l) ++ [])) ++ r
first_part h d l r =
    append_assoc h (58 ∷ d) (l ++ r) ∙ ap (λ t. h ++ 58 ∷ t) (sym (append_assoc d l r))
    ∙ ap (λ t. h ++ 58 ∷ (t ++ r)) (sym (append-nil (d ++ l))) ∙ sym (append_assoc h (58 ∷ ((d ++ l) ++ [])) r)

no_comma : (b : ℕ) → High b → eqb b 44 ≡ false
no_comma b h = let high : 45 ≤ b = h in grind (arith, nat_tests)

one_comma : (s : List ℕ) (xs : List Interval) → Own s xs → All (λ b. eqb b 44 ≡ false) (part_of s xs)
one_comma s xs own = further High (λ b. eqb b 44 ≡ false) (part_of s xs) no_comma (part_high s xs own)

-- a part, and behind it an interval of its server or of another, and others
abbrev goes_on : List ℕ → Interval → List Interval → Bool → List ℕ
goes_on part y ys same = part ++ (cond same (58 ∷ decimal y.first) (44 ∷ gtid_text (start y)) ++ (last_text y ++ intervals_text (Some y.server) ys))

same_server : (behind : Bool) (at : ℕ) (s : List ℕ) (x : Interval) (xs : List Interval) (y : Interval) (ys : List Interval) → s ≡ y.server
    → parts_say behind at (commas (part_of s (x ∷ (xs ++ y ∷ [])) ++ intervals_text (Some s) ys)) ≡ says ((x ∷ (xs ++ y ∷ [])) ++ ys)
    → parts_say behind at (commas (goes_on (part_of s (x ∷ xs)) y ys true)) ≡ says ((x ∷ xs) ++ y ∷ ys)
same_server behind at s x xs y ys same later =
    let rest : List ℕ = intervals_text (Some y.server) ys in
    let text : goes_on (part_of s (x ∷ xs)) y ys true ≡ part_of s (x ∷ (xs ++ y ∷ [])) ++ rest =
    more_text (hyphenated_text lower s) (items_text (x ∷ xs)) (decimal y.first) (last_text y) rest
    ∙ ap (λ t. (hyphenated_text lower s ++ t) ++ rest) (sym (items_push (x ∷ xs) y)) in
    ap (λ (t : List ℕ). parts_say behind at (commas t)) text
    ∙ ap (λ (r : List ℕ). parts_say behind at (commas (part_of s (x ∷ (xs ++ y ∷ [])) ++ intervals_text (Some r) ys))) (sym same)
    ∙ later ∙ ap says (append_assoc (x ∷ xs) (y ∷ []) ys)

next_server : (behind : Bool) (at : ℕ) (s : List ℕ) (x : Interval) (xs : List Interval) (y : Interval) (ys : List Interval) → IsUuid s → Own s (x ∷ xs)
    → parts_say true (at + length (part_of s (x ∷ xs)) + 1) (commas (part_of y.server (y ∷ []) ++ intervals_text (Some y.server) ys)) ≡ says (y ∷ ys)
    → parts_say behind at (commas (goes_on (part_of s (x ∷ xs)) y ys false)) ≡ says ((x ∷ xs) ++ y ∷ ys)
next_server behind at s x xs y ys uuid own later =
    let part : List ℕ = part_of s (x ∷ xs) in
    let rest : List ℕ = intervals_text (Some y.server) ys in
    let next : List ℕ = gtid_text (start y) ++ (last_text y ++ rest) in
    let text : next ≡ part_of y.server (y ∷ []) ++ rest = first_part (hyphenated_text lower y.server) (decimal y.first) (last_text y) rest in
    ap (parts_say behind at) (slice_split_at (λ b. eqb b 44) part 44 next (one_comma s (x ∷ xs) own) refl)
    ∙ parts_more behind at part (commas next) (split_some (λ b. eqb b 44) next)
    ∙ ap (λ cs. cs ++ parts_say true (at + length part + 1) (commas next)) (part_back behind true at s x xs uuid own)
    ∙ ap (λ (t : List ℕ). says (x ∷ xs) ++ parts_say true (at + length part + 1) (commas t)) text
    ∙ ap (λ cs. says (x ∷ xs) ++ cs) later ∙ sym (says_append (x ∷ xs) (y ∷ ys))

either_server : (behind : Bool) (at : ℕ) (s : List ℕ) (x : Interval) (xs : List Interval) (y : Interval) (ys : List Interval) (t : Bool) → bytes_eq s y.server ≡ t
    → (s ≡ y.server → parts_say behind at (commas (goes_on (part_of s (x ∷ xs)) y ys true)) ≡ says ((x ∷ xs) ++ y ∷ ys))
    → parts_say behind at (commas (goes_on (part_of s (x ∷ xs)) y ys false)) ≡ says ((x ∷ xs) ++ y ∷ ys)
    → parts_say behind at (commas (goes_on (part_of s (x ∷ xs)) y ys t)) ≡ says ((x ∷ xs) ++ y ∷ ys)
either_server behind at s x xs y ys true e same other = same ((bytes_eq-Decides s y.server).0 e)
either_server behind at s x xs y ys false e same other = other

parts_back : (behind : Bool) (at : ℕ) (s : List ℕ) (x : Interval) (xs ys : List Interval) → IsUuid s → Own s (x ∷ xs) → Each ys
    → parts_say behind at (commas (part_of s (x ∷ xs) ++ intervals_text (Some s) ys)) ≡ says ((x ∷ xs) ++ ys)
parts_back behind at s x xs [] uuid own each =
    ap (λ (t : List ℕ). parts_say behind at (commas t)) (append-nil (part_of s (x ∷ xs)))
    ∙ ap (parts_say behind at) (slice_split_none (λ b. eqb b 44) (part_of s (x ∷ xs)) (one_comma s (x ∷ xs) own))
    ∙ part_back behind false at s x xs uuid own ∙ ap says (sym (append-nil (x ∷ xs)))
parts_back behind at s x xs (y ∷ ys) uuid own each =
    either_server behind at s x xs y ys (bytes_eq s y.server) refl
    (λ same. same_server behind at s x xs y ys same (parts_back behind at s x (xs ++ y ∷ []) ys uuid (own_push s (x ∷ xs) y own (sym same) each.0.1) each.1))
    (next_server behind at s x xs y ys uuid own (parts_back true (at + length (part_of s (x ∷ xs)) + 1) y.server y [] ys each.0.0 ((refl, each.0.1), tt) each.1))

-- ---- the text
text_back : (at : ℕ) (xs : List Interval) → Each xs → text_says at (intervals_text None xs) ≡ says xs
unfolding text_says
text_back at [] each = refl
text_back at (x ∷ xs) each =
    let rest : List ℕ = intervals_text (Some x.server) xs in
    let text : List ℕ = part_of x.server (x ∷ []) ++ rest in
    let same : gtid_text (start x) ++ (last_text x ++ rest) ≡ text = first_part (hyphenated_text lower x.server) (decimal x.first) (last_text x) rest in
    ap (λ (t : List ℕ). cond (eqb (length t) 0) [] (parts_say false at (commas t))) same
    ∙ ap (λ (b : Bool). cond b [] (parts_say false at (commas text))) (some (hyphenated_text lower x.server) (items_text (x ∷ [])) rest (long_uuid x.server))
    ∙ parts_back false at x.server x [] xs each.0.0 ((refl, each.0.1), tt) each.1
  where
    some : (h i r : List ℕ) → length h ≡ 36 → eqb (length ((h ++ i) ++ r)) 0 ≡ false
    some h i r long =
        let outer : length ((h ++ i) ++ r) ≡ length (h ++ i) + length r = length-append (h ++ i) r in
        let inner : length (h ++ i) ≡ length h + length i = length-append h i in
        grind (arith, nat_tests)

all_back : (xs : List Interval) → all_or_first (says xs) ≡ Ok xs
all_back [] = refl
all_back (x ∷ xs) = ap (onto (x ∷ [])) (all_back xs)

each_of : (xs : List Interval) → Ordered xs → All IsWritable xs → Each xs
each_of [] order writable = tt
each_of (x ∷ xs) order writable =
    let w = All-head IsWritable x xs writable in
    ((record { long = w.long; bytes = w.bytes }, record { first = order.0; one = w.from_one; last = w.to_greatest }), each_of xs order.1.1 (All-tail IsWritable x xs writable))

reading_back : (at : ℕ) (xs : List Interval) → Each xs → reading_from at (intervals_text None xs) ≡ Ok (position_of xs)
unfolding reading_from
reading_back at xs each = ap (λ cs. set_of_all (all_or_first cs)) (text_back at xs each) ∙ ap set_of_all (all_back xs)

pub set_reads_back : SetReadsBack
set_reads_back xs order writable = ap set_reading (set_text_is xs order) ∙ reading_back 0 xs (each_of xs order writable)

flavor : (text : List ℕ) → position_reading (codes "MySQL56/" ++ text) ≡ reading_from 8 text
unfolding position_reading
flavor text = refl

pub position_reads_back : PositionReadsBack
position_reads_back xs order writable =
    ap (λ (t : List ℕ). position_reading (codes "MySQL56/" ++ t)) (set_text_is xs order) ∙ flavor (intervals_text None xs) ∙ reading_back 8 xs (each_of xs order writable)

-- Texts without a byte below the dash, as a newline, a blank and a comma are.
use Rattle.std.proofs.Common.{◌≡◌, ℕ, zero, suc, ◌+◌, ◌-◌, ◌/◌, ◌%◌, ◌==◌, ◌<◌, ◌≤◌, Bool, true, false, cond, ◌&&◌, nat_lt, min, refl, ap, ◌∙◌, arith, List, [], ◌∷◌, ◌++◌, map}
use Rattle.std.specs.Prelude.{if◌then◌else◌}
use Rattle.std.specs.List.{list_all, flat_map, join_with_byte}
use Rattle.std.specs.Fmt.{decimal, digits, digits_onto, digit_glyph}
use Rattle.std.proofs.lemmas.Bool.Decides.{nat_tests}
use Rattle.std.proofs.lemmas.List.Folds.{list_all-append}
use Rattle.uuid.specs.Text.{by_index, hex_digit, nibble, digit_place, is_hyphen_place, hyphen, hyphenated_text, lower}
use Rattle.shard_names.specs.Alias.{alias_text, ten_digits}
use Rattle.shard_names.specs.ShardName.{shard_name_text}
use Rattle.shard_names.specs.declared.alias.Alias.{Alias}
use Rattle.shard_names.specs.declared.shard_name.ShardName.{ShardName}
use Rattle.gtid_sets.specs.Gtid.{gtid_text}
use Rattle.gtid_sets.specs.declared.gtid.Gtid.{Gtid}
use Rattle.gtid_sets.specs.Position.{Position}
use Rattle.gtid_sets.specs.SetText.{Run, Part, run_text, part_text, parts, runs, set_text}
use Rattle.tablet_text.specs.Moments.{Day, day_at, two_digits, three_digits, four_digits, date_text, time_text, text_within, moment_text, last_moment}
use Rattle.history_text.specs.Laws.{is_other, Without, InLine, NamesAlias}

pub chosen : {A : Type 0} (P : A → Type 0) (b : Bool) (v w : A) → (b ≡ true → P v) → (b ≡ false → P w) → P (cond b v w)
chosen P true v w one two = one refl
chosen P false v w one two = two refl

-- a text that is written out
pub word : (text : List ℕ) → list_all (is_other 10) text ≡ true → InLine text
word text h = record { all_other = h }

infixl 10 ◌⊹◌
-- one text behind another
pub ◌⊹◌ : {c : ℕ} {a b : List ℕ} → Without c a → Without c b → Without c (a ++ b)
◌⊹◌ {c} {a} {b} one two =
    record { all_other = list_all-append (is_other c) a b ∙ ap (λ (t : Bool). t && list_all (is_other c) b) one.all_other ∙ two.all_other }

-- a text behind a byte
pub onto : {c : ℕ} {text : List ℕ} (b : ℕ) → is_other c b ≡ true → Without c text → Without c (b ∷ text)
onto {c} {text} b one two = record { all_other = ap (λ (t : Bool). t && list_all (is_other c) text) one ∙ two.all_other }

pub empty : {c : ℕ} → Without c []
empty {c} = record { all_other = refl }

-- a byte from the dash on
above : {c : ℕ} (b : ℕ) → c < 45 → 45 ≤ b → Without c (b ∷ [])
above b low high = onto b (grind (arith, nat_tests)) empty

pub each_without : {A : Type 0} {c : ℕ} (f : A → List ℕ) → ((x : A) → Without c (f x)) → (xs : List A) → Without c (flat_map f xs)
each_without f h [] = empty
each_without f h (x ∷ xs) = h x ⊹ each_without f h xs

-- ---- numbers

glyph_other : (c d : ℕ) → c < 45 → is_other c (digit_glyph false d) ≡ true
glyph_other c d low = chosen (λ (b : ℕ). is_other c b ≡ true) (nat_lt d 10) (48 + d) (87 + d) (λ t. grind (arith, nat_tests)) (λ t. grind (arith, nat_tests))

digits_without : {c : ℕ} (k n : ℕ) (text : List ℕ) → c < 45 → Without c text → Without c (digits_onto k 10 false n text)
digits_without zero n text low h = h
digits_without {c} (suc k) n text low h =
    let more = onto (digit_glyph false (n % 10)) (glyph_other c (n % 10) low) h in
    chosen (Without c) (n / 10 == 0) _ _ (λ last. more) (λ further. digits_without k (n / 10) (digit_glyph false (n % 10) ∷ text) low more)

pub decimal_without : {c : ℕ} (n : ℕ) → c < 45 → Without c (decimal n)
unfolding digits
decimal_without n low = digits_without 64 n [] low empty

-- the last digit
digit_without : {c : ℕ} {text : List ℕ} (n : ℕ) → c < 45 → Without c text → Without c ((48 + n % 10) ∷ text)
digit_without n low h = onto (48 + n % 10) (grind (arith, nat_tests)) h

-- ---- names

ten_without : {c : ℕ} (n : ℕ) → c < 45 → Without c (ten_digits n)
ten_without n low =
    digit_without (n / 1000000000) low (digit_without (n / 100000000) low (digit_without (n / 10000000) low (digit_without (n / 1000000) low
    (digit_without (n / 100000) low (digit_without (n / 10000) low (digit_without (n / 1000) low (digit_without (n / 100) low
    (digit_without (n / 10) low (digit_without (n / 1) low empty)))))))))

pub alias_without : {c : ℕ} (a : Alias) → c < 45 → Without c a.cell → Without c (alias_text a)
alias_without a low h = h ⊹ onto 45 (grind (arith, nat_tests)) (ten_without a.uid low)

pub shard_without : {c : ℕ} (n : ShardName) → c < 45 → Without c n.keyspace → Without c n.shard → Without c (shard_name_text n)
shard_without n low one two = one ⊹ onto 47 (grind (arith, nat_tests)) two

-- ---- moments

two_without : {c : ℕ} (n : ℕ) → c < 45 → Without c (two_digits n)
two_without n low = digit_without (n / 10) low (digit_without n low empty)

three_without : {c : ℕ} (n : ℕ) → c < 45 → Without c (three_digits n)
three_without n low = digit_without (n / 100) low (two_without n low)

four_without : {c : ℕ} (n : ℕ) → c < 45 → Without c (four_digits n)
four_without n low = digit_without (n / 1000) low (three_without n low)

date_without : {c : ℕ} (d : Day) → c < 45 → Without c (date_text d)
unfolding date_text
date_without d low =
    four_without d.year low ⊹ above 45 low (omega arith) ⊹ two_without d.month low ⊹ above 45 low (omega arith) ⊹ two_without d.day low

time_without : {c : ℕ} (n : ℕ) → c < 45 → Without c (time_text n)
unfolding time_text
time_without n low =
    two_without (n / 3600000) low ⊹ above 58 low (omega arith) ⊹ two_without (n / 60000 % 60) low ⊹ above 58 low (omega arith)
    ⊹ two_without (n / 1000 % 60) low ⊹ above 46 low (omega arith) ⊹ three_without (n % 1000) low

within_without : {c : ℕ} (m : ℕ) → c < 45 → Without c (text_within m)
unfolding text_within
within_without m low =
    date_without (day_at (m / 86400000)) low ⊹ above 84 low (omega arith) ⊹ time_without (m % 86400000) low ⊹ above 90 low (omega arith)

pub moment_without : {c : ℕ} (m : ℕ) → c < 45 → Without c (moment_text m)
unfolding moment_text
moment_without m low = within_without (min m last_moment) low

-- ---- sets

hex_other : (c d : ℕ) → c < 45 → is_other c (hex_digit lower d) ≡ true
hex_other c d low = chosen (λ (b : ℕ). is_other c b ≡ true) (nat_lt d 10) (48 + d) (97 + d - 10) (λ t. grind (arith, nat_tests)) (λ t. grind (arith, nat_tests))

indexed_without : {c : ℕ} (n : ℕ) (f : ℕ → ℕ) → ((k : ℕ) → is_other c (f k) ≡ true) → Without c (by_index n f)
unfolding by_index
indexed_without zero f h = empty
indexed_without (suc n) f h = indexed_without n f h ⊹ onto (f n) (h n) empty

pub uuid_without : {c : ℕ} (server : List ℕ) → c < 45 → Without c (hyphenated_text lower server)
uuid_without {c} server low =
    indexed_without 36 (λ k. if is_hyphen_place k then hyphen else hex_digit lower (nibble server (digit_place k)))
    (λ k. chosen (λ (b : ℕ). is_other c b ≡ true) (is_hyphen_place k) hyphen (hex_digit lower (nibble server (digit_place k)))
    (λ t. grind (arith, nat_tests)) (λ t. hex_other c (nibble server (digit_place k)) low))

pub gtid_without : {c : ℕ} (g : Gtid) → c < 45 → Without c (gtid_text g)
gtid_without g low = uuid_without g.server low ⊹ onto 58 (grind (arith, nat_tests)) (decimal_without g.number low)

run_without : {c : ℕ} (r : Run) → c < 45 → Without c (run_text r)
run_without {c} r low =
    onto 58 (grind (arith, nat_tests)) (decimal_without r.first low
    ⊹ chosen (Without c) (r.first == r.last) [] (45 ∷ decimal r.last) (λ one. empty) (λ more. onto 45 (grind (arith, nat_tests)) (decimal_without r.last low)))

part_without : {c : ℕ} (p : Part) → c < 45 → Without c (part_text p)
part_without p low = uuid_without p.server low ⊹ each_without run_text (λ r. run_without r low) (runs p.numbers)

parts_without : {c : ℕ} (ps : List Part) → c < 44 → Without c (join_with_byte 44 (map part_text ps))
parts_without [] low = empty
parts_without (p ∷ []) low = part_without p (omega arith)
parts_without (p ∷ q ∷ ps) low = part_without p (omega arith) ⊹ onto 44 (grind (arith, nat_tests)) (parts_without (q ∷ ps) low)

pub set_without : {c : ℕ} (p : Position) → c < 44 → Without c (set_text p)
set_without p low = parts_without (parts p.gtids) low

-- ---- lines

pub each_in_line : {A : Type 0} (f : A → List ℕ) → ((x : A) → InLine (f x)) → (xs : List A) → InLine (flat_map f xs)
each_in_line f h xs = each_without f h xs

pub decimal_in_line : (n : ℕ) → InLine (decimal n)
decimal_in_line n = decimal_without n (omega arith)

pub alias_in_line : (a : Alias) → NamesAlias a → InLine (alias_text a)
alias_in_line a h = alias_without a (omega arith) h

pub shard_in_line : (n : ShardName) → InLine n.keyspace → InLine n.shard → InLine (shard_name_text n)
shard_in_line n one two = shard_without n (omega arith) one two

pub moment_in_line : (m : ℕ) → InLine (moment_text m)
moment_in_line m = moment_without m (omega arith)

pub gtid_in_line : (g : Gtid) → InLine (gtid_text g)
gtid_in_line g = gtid_without g (omega arith)

pub set_in_line : (p : Position) → InLine (set_text p)
set_in_line p = set_without p (omega arith)

-- Names that are written, read back by the readers of names.
use Rattle.std.proofs.Common.{◌≡◌, ℕ, suc, ◌+◌, ◌*◌, ◌-◌, ◌/◌, ◌%◌, ◌<◌, ◌≤◌, ◌^◌, ◌==◌, Bool, true, false, cond, not, ◌&&◌, nat_lt, nat_le, refl, sym, ap, ◌∙◌, arith, List, [], ◌∷◌, ◌++◌, length, take, drop, Option, Some, None, Result, Ok, Err}
use Rattle.std.specs.Char.{is_ascii_digit, digit_value}
use Rattle.std.specs.List.{list_all, position, prefix_len}
use Rattle.std.specs.Str.Parse.{digits_value_after}
use Rattle.std.proofs.lemmas.Bool.Decides.{nat_tests}
use Rattle.std.proofs.lemmas.List.{append_assoc, length-append}
use Rattle.std.proofs.lemmas.Str.{digit_value_digit}
use Rattle.std.proofs.Math.Seq.{take-append_seam, drop-append_seam}
use Rattle.shard_names.specs.Alias.{is_cell_byte, last_dash, number_of, uid_of, cell_fault, alias_parts, alias_reading, alias_text, ten_digits}
use Rattle.shard_names.specs.ShardName.{is_label_byte, label_reading, slash_place, shard_name_reading, shard_name_text}
use Rattle.shard_names.specs.declared.alias.Alias.{Alias}
use Rattle.shard_names.specs.declared.alias.NameFault.{NameFault}
use Rattle.shard_names.specs.declared.alias.NameFault.TheVariants.{NoDash, BadUid, BadCell}
use Rattle.shard_names.specs.declared.shard_name.ShardName.{ShardName}
use Rattle.shard_names.proofs.TabletLemmas.{both_left, both_right, both}
use Rattle.history_text.specs.Names.{IsCellName, IsLabelName, IsTabletName, IsFullName}
use Rattle.history_text.proofs.PartLemmas.{tens, ten_back}

-- ---- bytes that pass a test

weaker : (p q : ℕ → Bool) → ((b : ℕ) → p b ≡ true → q b ≡ true) → (bs : List ℕ) → list_all p bs ≡ true → list_all q bs ≡ true
weaker p q h [] all = refl
weaker p q h (b ∷ bs) all =
    both (q b) (list_all q bs) (h b (both_left (p b) (list_all p bs) all)) (weaker p q h bs (both_right (p b) (list_all p bs) all))

-- all of them stand in front
all_pass : (p : ℕ → Bool) (bs : List ℕ) → list_all p bs ≡ true → prefix_len p bs ≡ length bs
all_pass p [] all = refl
all_pass p (b ∷ bs) all =
    let more = all_pass p bs (both_right (p b) (list_all p bs) all) in
    let one : 1 + prefix_len p bs ≡ suc (length bs) = omega (arith, more) in
    ap (λ (t : Bool). cond t (1 + prefix_len p bs) 0) (both_left (p b) (list_all p bs) all) ∙ one

-- up to one that does not
pass_up_to : (p : ℕ → Bool) (bs : List ℕ) (c : ℕ) (more : List ℕ) → list_all p bs ≡ true → p c ≡ false → prefix_len p (bs ++ c ∷ more) ≡ length bs
pass_up_to p [] c more all stop = ap (λ (t : Bool). cond t (1 + prefix_len p more) 0) stop
pass_up_to p (b ∷ bs) c more all stop =
    let rest = pass_up_to p bs c more (both_right (p b) (list_all p bs) all) stop in
    let one : 1 + prefix_len p (bs ++ c ∷ more) ≡ suc (length bs) = omega (arith, rest) in
    ap (λ (t : Bool). cond t (1 + prefix_len p (bs ++ c ∷ more)) 0) (both_left (p b) (list_all p bs) all) ∙ one

-- ---- the number

digit_passes : (k : ℕ) (text : List ℕ) → list_all is_ascii_digit text ≡ true → list_all is_ascii_digit ((48 + k % 10) ∷ text) ≡ true
digit_passes k text h = both (is_ascii_digit (48 + k % 10)) (list_all is_ascii_digit text) (grind (arith, nat_tests)) h

ten_pass : (n : ℕ) → list_all is_ascii_digit (ten_digits n) ≡ true
ten_pass n =
    let d9 = digit_passes (n / 1) (drop 10 (ten_digits n)) refl in
    let d8 = digit_passes (n / 10) (drop 9 (ten_digits n)) d9 in
    let d7 = digit_passes (n / 100) (drop 8 (ten_digits n)) d8 in
    let d6 = digit_passes (n / 1000) (drop 7 (ten_digits n)) d7 in
    let d5 = digit_passes (n / 10000) (drop 6 (ten_digits n)) d6 in
    let d4 = digit_passes (n / 100000) (drop 5 (ten_digits n)) d5 in
    let d3 = digit_passes (n / 1000000) (drop 4 (ten_digits n)) d4 in
    let d2 = digit_passes (n / 10000000) (drop 3 (ten_digits n)) d3 in
    let d1 = digit_passes (n / 100000000) (drop 2 (ten_digits n)) d2 in
    digit_passes (n / 1000000000) (drop 1 (ten_digits n)) d1

-- a digit is worth what it is above 48
worth : (n b : ℕ) → is_ascii_digit b ≡ true → n * 10 + digit_value b ≡ n * 10 + (b - 48)
worth n b h =
    let low : 48 ≤ b = grind (arith, nat_tests) in
    let high : b ≤ 57 = grind (arith, nat_tests) in
    let is = digit_value_digit b (low, high) in
    omega (arith, is, low)

as_tens : (n : ℕ) (bs : List ℕ) → list_all is_ascii_digit bs ≡ true → digits_value_after 10 n bs ≡ tens n bs
as_tens n [] all = refl
as_tens n (b ∷ bs) all =
    ap (λ (k : ℕ). digits_value_after 10 k bs) (worth n b (both_left (is_ascii_digit b) (list_all is_ascii_digit bs) all))
    ∙ as_tens (n * 10 + (b - 48)) bs (both_right (is_ascii_digit b) (list_all is_ascii_digit bs) all)

number_is : (n : ℕ) → n < 2 ^ 32 → number_of (ten_digits n) ≡ n
number_is n h = as_tens 0 (ten_digits n) (ten_pass n) ∙ ten_back n h

uid_is : (n : ℕ) → n < 2 ^ 32 → uid_of (ten_digits n) ≡ Some n
uid_is n h =
    let small : nat_lt (number_of (ten_digits n)) (2 ^ 32) ≡ true = ap (λ (k : ℕ). nat_lt k (2 ^ 32)) (number_is n h) ∙ grind (arith, nat_tests) in
    let good = both (list_all is_ascii_digit (ten_digits n)) (nat_lt (number_of (ten_digits n)) (2 ^ 32)) (ten_pass n) small in
    ap (λ (t : Bool). cond t (Some (number_of (ten_digits n))) None) good ∙ ap (λ (k : ℕ). Some k) (number_is n h)

-- ---- the cell

cell_is_sound : (cell : List ℕ) → IsCellName cell → cell_fault cell ≡ None
cell_is_sound cell h =
    let each = weaker is_cell_byte (λ b. not (not (is_cell_byte b))) (λ b t. ap (λ (u : Bool). not (not u)) t) cell h.bytes in
    let front = all_pass (λ b. not (not (is_cell_byte b))) cell each in
    let over : nat_lt (length cell) (length cell) ≡ false = grind (arith, nat_tests) in
    let nowhere : position (λ b. not (is_cell_byte b)) cell ≡ None =
    ap (λ (k : ℕ). cond (nat_lt k (length cell)) (Some k) None) front ∙ ap (λ (t : Bool). cond t (Some (length cell)) None) over in
    let some : nat_le 1 (length cell) ≡ true = grind (arith, nat_tests, h.some) in
    let short : nat_le (length cell) 32 ≡ true = grind (arith, nat_tests, h.short) in
    let fits = both (nat_le 1 (length cell)) (nat_le (length cell) 32) some short in
    ap (λ (o : Option ℕ). elim o [ Some at ↦ Some at | None ↦ cond (nat_le 1 (length cell) && nat_le (length cell) 32) None (Some 0) ]) nowhere
    ∙ ap (λ (t : Bool). cond t None (Some 0)) fits

-- ---- the last dash

no_dash : (bs : List ℕ) → list_all is_ascii_digit bs ≡ true → last_dash bs ≡ None
no_dash [] all = refl
no_dash (b ∷ bs) all =
    let digit = both_left (is_ascii_digit b) (list_all is_ascii_digit bs) all in
    let other : (b == 45) ≡ false = grind (arith, nat_tests) in
    rw (no_dash bs (both_right (is_ascii_digit b) (list_all is_ascii_digit bs) all), other) refl

last_dash_is : (cell more : List ℕ) → last_dash more ≡ None → last_dash (cell ++ 45 ∷ more) ≡ Some (length cell)
last_dash_is [] more none = rw none refl
last_dash_is (b ∷ cell) more none =
    let next : length cell + 1 ≡ suc (length cell) = omega arith in
    rw (last_dash_is cell more none) (ap (λ (k : ℕ). Some k) next)

-- ---- an alias

behind : (front : List ℕ) (c : ℕ) (more : List ℕ) → drop (length front + 1) (front ++ c ∷ more) ≡ more
behind front c more =
    let long = length-append front (c ∷ []) in
    let at : length front + 1 ≡ length (front ++ c ∷ []) = omega (arith, long) in
    ap (λ (k : ℕ). drop k (front ++ c ∷ more)) at
    ∙ ap (drop (length (front ++ c ∷ []))) (sym (append_assoc front (c ∷ []) more))
    ∙ drop-append_seam (front ++ c ∷ []) more

abbrev with_cell : List ℕ → ℕ → Option ℕ → Result Alias NameFault
with_cell cell uid None = Ok (record { cell = cell; uid = uid })
with_cell cell uid (Some at) = Err (BadCell at)

abbrev with_uid : List ℕ → ℕ → Option ℕ → Result Alias NameFault
with_uid text dash None = Err (BadUid (dash + 1))
with_uid text dash (Some uid) = with_cell (take dash text) uid (cell_fault (take dash text))

parts_read : (text : List ℕ) (dash uid : ℕ) (cell : List ℕ) → uid_of (drop (dash + 1) text) ≡ Some uid → take dash text ≡ cell → cell_fault cell ≡ None
    → alias_parts text dash ≡ Ok (record { cell = cell; uid = uid })
parts_read text dash uid cell number front sound =
    ap (with_uid text dash) number ∙ ap (λ (c : List ℕ). with_cell c uid (cell_fault c)) front ∙ ap (with_cell cell uid) sound

abbrev with_dash : List ℕ → Option ℕ → Result Alias NameFault
with_dash text None = Err NoDash
with_dash text (Some dash) = alias_parts text dash

pub alias_read_back : (a : Alias) → IsTabletName a → alias_reading (alias_text a) ≡ Ok a
alias_read_back a h =
    let dash = last_dash_is a.cell (ten_digits a.uid) (no_dash (ten_digits a.uid) (ten_pass a.uid)) in
    let uid : uid_of (drop (length a.cell + 1) (alias_text a)) ≡ Some a.uid = ap uid_of (behind a.cell 45 (ten_digits a.uid)) ∙ uid_is a.uid h.uid in
    let parts = parts_read (alias_text a) (length a.cell) a.uid a.cell uid (take-append_seam a.cell (45 ∷ ten_digits a.uid)) (cell_is_sound a.cell h.cell) in
    ap (with_dash (alias_text a)) dash ∙ parts

-- ---- a shard's name

label_is : (label : List ℕ) → IsLabelName label → label_reading label ≡ Some label
unfolding label_reading
label_is label h =
    let some : nat_le 1 (length label) ≡ true = grind (arith, nat_tests, h.some) in
    let short : nat_le (length label) 64 ≡ true = grind (arith, nat_tests, h.short) in
    rw (some, h.bytes, short) refl

not_slash : (b : ℕ) → is_label_byte b ≡ true → not (b == 47) ≡ true
unfolding is_label_byte
not_slash b h = grind (arith, nat_tests)

slash_is : (label more : List ℕ) → IsLabelName label → slash_place (label ++ 47 ∷ more) ≡ Some (length label)
slash_is label more h =
    let each = weaker is_label_byte (λ b. not (b == 47)) not_slash label h.bytes in
    let front = pass_up_to (λ b. not (b == 47)) label 47 more each refl in
    let long = length-append label (47 ∷ more) in
    let within : nat_lt (length label) (length (label ++ 47 ∷ more)) ≡ true = grind (arith, nat_tests, long) in
    ap (λ (k : ℕ). cond (nat_lt k (length (label ++ 47 ∷ more))) (Some k) None) front ∙ ap (λ (t : Bool). cond t (Some (length label)) None) within

pub shard_read_back : (n : ShardName) → IsFullName n → shard_name_reading (shard_name_text n) ≡ Some n
unfolding shard_name_reading
shard_read_back n h =
    let slash = slash_is n.keyspace n.shard h.keyspace in
    let keyspace = ap label_reading (take-append_seam n.keyspace (47 ∷ n.shard)) ∙ label_is n.keyspace h.keyspace in
    let shard = ap label_reading (behind n.keyspace 47 n.shard) ∙ label_is n.shard h.shard in
    rw (slash, keyspace, shard) refl

-- ---- two names

read_the_same : {T E : Type 0} (x y : T) (r s : Result T E) → r ≡ Ok x → s ≡ Ok y → r ≡ s → x ≡ y
read_the_same x y r s one other same = ap (λ (t : Result _ _). elim t [ Ok z ↦ z | Err f ↦ x ]) (sym one ∙ same ∙ other)

found_the_same : {T : Type 0} (x y : T) (r s : Option T) → r ≡ Some x → s ≡ Some y → r ≡ s → x ≡ y
found_the_same x y r s one other same = ap (λ (t : Option _). elim t [ Some z ↦ z | None ↦ x ]) (sym one ∙ same ∙ other)

pub aliases_differ : (a b : Alias) → IsTabletName a → IsTabletName b → alias_text a ≡ alias_text b → a ≡ b
aliases_differ a b h k same =
    read_the_same a b (alias_reading (alias_text a)) (alias_reading (alias_text b)) (alias_read_back a h) (alias_read_back b k) (ap alias_reading same)

pub shards_differ : (m n : ShardName) → IsFullName m → IsFullName n → shard_name_text m ≡ shard_name_text n → m ≡ n
shards_differ m n h k same =
    let both_read = ap shard_name_reading same in
    found_the_same m n (shard_name_reading (shard_name_text m)) (shard_name_reading (shard_name_text n)) (shard_read_back m h) (shard_read_back n k) both_read

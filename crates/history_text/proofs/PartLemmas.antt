-- The parts of a line, read back.
use Rattle.std.proofs.Common.{◌≡◌, ℕ, ◌+◌, ◌-◌, ◌*◌, ◌/◌, ◌<◌, ◌^◌, Bool, false, cond, nat_lt, refl, sym, ap, ◌∙◌, arith, List, [], ◌∷◌, ◌++◌, length, take, drop, get_or, map}
use Rattle.std.specs.Prelude.{if◌then◌else◌}
use Rattle.std.specs.Fmt.{decimal}
use Rattle.std.specs.Str.Parse.{digits_value}
use Rattle.std.proofs.lemmas.Fmt.{decimal_is_IsNumeral}
use Rattle.std.proofs.lemmas.Bool.Decides.{nat_tests}
use Rattle.std.proofs.lemmas.List.{append_assoc, append-nil, length-append}
use Rattle.std.proofs.Math.Seq.{take-append_seam, drop-append_seam}
use Rattle.shard_names.specs.Alias.{alias_text, ten_digits}
use Rattle.shard_names.specs.ShardName.{shard_name_text}
use Rattle.shard_names.specs.declared.alias.Alias.{Alias}
use Rattle.shard_names.specs.declared.shard_name.ShardName.{ShardName}
use Rattle.shard_calls.specs.declared.event.Side.{Side}
use Rattle.shard_calls.specs.declared.event.Side.TheVariants as sides
use Rattle.history_text.specs.Laws.{Without}
use Rattle.history_text.specs.Events.{side_text}
use Rattle.history_text.specs.Orders.{further_alias, further_aliases}
use Rattle.history_text.specs.Told.{IsNumber, IsAlias, AreAliases, IsShard, IsSide}
use Rattle.history_text.proofs.LineLemmas.{alias_without}
use Rattle.history_text.proofs.WordLemmas.{parts_at, parted, whole}

-- ---- numbers

abbrev pub number_of : List ℕ → ℕ
number_of word = digits_value 10 word

pub number_back : (n : ℕ) → IsNumber n → number_of (decimal n) ≡ n
number_back n h = (decimal_is_IsNumeral n h).1

-- the digits behind those of a number
abbrev pub tens : ℕ → List ℕ → ℕ
tens n [] = n
tens n (b ∷ bs) = tens (n * 10 + (b - 48)) bs

pub ten_back : (n : ℕ) → n < 2 ^ 32 → tens 0 (ten_digits n) ≡ n
ten_back n h =
    let t0 : tens (n / 1) [] ≡ n = omega arith in
    let t1 : tens (n / 10) (drop 9 (ten_digits n)) ≡ n = ap (λ (k : ℕ). tens k []) (omega arith) ∙ t0 in
    let t2 : tens (n / 100) (drop 8 (ten_digits n)) ≡ n = ap (λ (k : ℕ). tens k (drop 9 (ten_digits n))) (omega arith) ∙ t1 in
    let t3 : tens (n / 1000) (drop 7 (ten_digits n)) ≡ n = ap (λ (k : ℕ). tens k (drop 8 (ten_digits n))) (omega arith) ∙ t2 in
    let t4 : tens (n / 10000) (drop 6 (ten_digits n)) ≡ n = ap (λ (k : ℕ). tens k (drop 7 (ten_digits n))) (omega arith) ∙ t3 in
    let t5 : tens (n / 100000) (drop 5 (ten_digits n)) ≡ n = ap (λ (k : ℕ). tens k (drop 6 (ten_digits n))) (omega arith) ∙ t4 in
    let t6 : tens (n / 1000000) (drop 4 (ten_digits n)) ≡ n = ap (λ (k : ℕ). tens k (drop 5 (ten_digits n))) (omega arith) ∙ t5 in
    let t7 : tens (n / 10000000) (drop 3 (ten_digits n)) ≡ n = ap (λ (k : ℕ). tens k (drop 4 (ten_digits n))) (omega arith) ∙ t6 in
    let t8 : tens (n / 100000000) (drop 2 (ten_digits n)) ≡ n = ap (λ (k : ℕ). tens k (drop 3 (ten_digits n))) (omega arith) ∙ t7 in
    let t9 : tens (n / 1000000000) (drop 1 (ten_digits n)) ≡ n = ap (λ (k : ℕ). tens k (drop 2 (ten_digits n))) (omega arith) ∙ t8 in
    ap (λ (k : ℕ). tens k (drop 1 (ten_digits n))) (omega (arith, h)) ∙ t9

-- ---- names

-- the last ten bytes are the number, and what stands before the dash is the cell
abbrev pub alias_of : List ℕ → Alias
alias_of word = record { cell = take (length word - 11) word; uid = tens 0 (drop (length word - 10) word) }

cell_back : (a : Alias) → take (length (alias_text a) - 11) (alias_text a) ≡ a.cell
cell_back a =
    let long = length-append a.cell (45 ∷ ten_digits a.uid) in
    let at : length (alias_text a) - 11 ≡ length a.cell = omega (arith, long) in
    ap (λ (k : ℕ). take k (alias_text a)) at ∙ take-append_seam a.cell (45 ∷ ten_digits a.uid)

uid_back : (a : Alias) → drop (length (alias_text a) - 10) (alias_text a) ≡ ten_digits a.uid
uid_back a =
    let long = length-append a.cell (45 ∷ ten_digits a.uid) in
    let front = length-append a.cell (45 ∷ []) in
    let at : length (alias_text a) - 10 ≡ length (a.cell ++ 45 ∷ []) = omega (arith, long, front) in
    ap (λ (k : ℕ). drop k (alias_text a)) at
    ∙ ap (drop (length (a.cell ++ 45 ∷ []))) (sym (append_assoc a.cell (45 ∷ []) (ten_digits a.uid)))
    ∙ drop-append_seam (a.cell ++ 45 ∷ []) (ten_digits a.uid)

pub alias_back : (a : Alias) → IsAlias a → alias_of (alias_text a) ≡ a
alias_back a h =
    ap (λ (cell : List ℕ). record (alias_of (alias_text a)) { cell = cell }) (cell_back a)
    ∙ ap (λ (uid : ℕ). record a { uid = uid }) (ap (tens 0) (uid_back a) ∙ ten_back a.uid h.uid)

abbrev pub shard_of : List ℕ → ShardName
shard_of word = record { keyspace = get_or (parts_at 47 word) 0 []; shard = get_or (parts_at 47 word) 1 [] }

pub shard_back : (n : ShardName) → IsShard n → shard_of (shard_name_text n) ≡ n
shard_back n h =
    let are : parts_at 47 (shard_name_text n) ≡ n.keyspace ∷ n.shard ∷ [] =
    parted 47 n.keyspace n.shard ∙ ap (λ (t : List (List ℕ)). t ++ parts_at 47 n.shard) (whole h.0.no_slash) ∙ ap (λ (t : List (List ℕ)). n.keyspace ∷ t) (whole h.1.no_slash) in
    ap (λ (t : List (List ℕ)). record { keyspace = get_or t 0 []; shard = get_or t 1 [] }) are

-- an alias has more bytes than `control`
abbrev pub side_of : List ℕ → Side
side_of word = if nat_lt (length word) 11 then sides.Control else sides.Tablet (alias_of word)

pub side_back : (x : Side) → IsSide x → side_of (side_text x) ≡ x
side_back sides.Control h = refl
side_back (sides.Tablet a) h =
    let long = length-append a.cell (45 ∷ ten_digits a.uid) in
    let not_short : nat_lt (length (alias_text a)) 11 ≡ false = grind (arith, nat_tests, long) in
    ap (λ (t : Bool). cond t sides.Control (sides.Tablet (alias_of (alias_text a)))) not_short ∙ ap sides.Tablet (alias_back a h)

pub alias_no_comma : (a : Alias) → IsAlias a → Without 44 (alias_text a)
alias_no_comma a h = alias_without a (omega arith) h.cell.no_comma

abbrev pub aliases_of : List ℕ → List Alias
aliases_of word = map alias_of (parts_at 44 word)

pub aliases_back : (a : Alias) (aliases : List Alias) → IsAlias a → AreAliases aliases → aliases_of (alias_text a ++ further_aliases aliases) ≡ a ∷ aliases
unfolding further_alias
aliases_back a [] h hs =
    ap aliases_of (append-nil (alias_text a)) ∙ ap (map alias_of) (whole (alias_no_comma a h)) ∙ ap (λ (x : Alias). x ∷ []) (alias_back a h)
aliases_back a (b ∷ aliases) h hs =
    ap (map alias_of) (parted 44 (alias_text a) (alias_text b ++ further_aliases aliases))
    ∙ ap (λ (t : List (List ℕ)). map alias_of (t ++ parts_at 44 (alias_text b ++ further_aliases aliases))) (whole (alias_no_comma a h))
    ∙ ap (λ (x : Alias). x ∷ aliases_of (alias_text b ++ further_aliases aliases)) (alias_back a h)
    ∙ ap (λ (t : List Alias). a ∷ t) (aliases_back b aliases hs.0 hs.1)

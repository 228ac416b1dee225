-- Reading the text of a GTID set, as the MySQL 8.0 manual has it ("GTID Format and Storage"): parts between commas, less the white space round the commas;
-- each part a UUID, and behind it items, each after a colon; each item an interval `n` or `n-m`. A text says what its items say, from the left,
-- up to the first fault.
use Rattle.std.specs.Prelude.{ℕ, ◌+◌, ◌-◌, ◌*◌, min, Bool, true, false, ◌&&◌, ◌||◌, ◌==◌, nat_le, nat_lt, List, [], ◌∷◌, ◌++◌, length, take, drop, position, codes, Option, Some, None, Result, Ok, Err, ◌≡◌, ⊤, if◌then◌else◌}
use Rattle.std.specs.List.{list_all, slice_split, prefix_len}
use Rattle.std.specs.Char.{is_ascii_digit, is_ascii_alphabetic}
use Rattle.std.specs.Str.{bytes_eq}
use Rattle.std.specs.Str.Parse.{digits_value}
use Rattle.uuid.specs.Text.{parsed}
use Rattle.shard_base.specs.Options.{◌>>=◌, only_if}
use Rattle.gtid_sets.specs.declared.interval.Interval.{Interval}
use Rattle.gtid_sets.specs.declared.reading.SetFault.{SetFault}
use Rattle.gtid_sets.specs.declared.reading.SetFault.TheVariants.{BadUuid, BadInterval, Tagged, TooLarge, BadFlavor}
use Rattle.gtid_sets.specs.declared.reading.ReadFault.{ReadFault}
use Rattle.gtid_sets.specs.declared.reading.ReadFault.TheVariants as faults
use Rattle.gtid_sets.specs.Position.{Position}
use Rattle.gtid_sets.specs.Intervals.{position_of}

-- what a piece of the text says: an interval, or a fault
abbrev pub Claim : Type 0
Claim = Result Interval SetFault

-- ---- an item
-- One or more decimal digits. Every number above the greatest that a transaction has counts as the one next to it.
unfoldable pub number_of : List ℕ → Option ℕ
number_of text = only_if (nat_le 1 (length text) && list_all is_ascii_digit text) (min (digits_value 10 text) 9223372036854775807)

-- the number with one more digit behind it
unfoldable pub with_digit : ℕ → ℕ → Option ℕ
with_digit n byte = only_if (is_ascii_digit byte) (min (n * 10 + (byte - 48)) 9223372036854775807)

-- the numbers of `n-m`, of which the first dash stands here
unfoldable pub both_of : List ℕ → ℕ → Option (ℕ × ℕ)
both_of text dash = do
  n ← number_of (take dash text)
  m ← number_of (drop (dash + 1) text)
  Some (n, m)

-- the numbers of `n`
unfoldable pub one_of : List ℕ → Option (ℕ × ℕ)
one_of text = number_of text >>= (λ n. Some (n, n))

-- the first number and the last
unfoldable pub bounds_of : List ℕ → Option (ℕ × ℕ)
bounds_of text = elim (position (λ b. b == 45) text) [ None ↦ one_of text | Some dash ↦ both_of text dash ]

abbrev pub is_too_large : ℕ → Bool
is_too_large n = nat_lt 9223372036854775806 n

-- the transactions of a server between bounds, which begin at this place
unfoldable pub between : List ℕ → ℕ → ℕ × ℕ → Claim
between server at bounds =
    if bounds.0 == 0 then Err (BadInterval at)
    else if is_too_large bounds.0 || is_too_large bounds.1 then Err (TooLarge at)
    else Ok (record { server = server; first = bounds.0; last = bounds.1 })

-- a tag begins with a letter or `_`
abbrev pub begins_tag : List ℕ → Bool
begins_tag [] = false
begins_tag (b ∷ bs) = is_ascii_alphabetic b || (b == 95)

unfoldable pub item_says : List ℕ → ℕ → List ℕ → Claim
item_says server at item =
    if begins_tag item then Err (Tagged at)
    else elim (bounds_of item) [ None ↦ Err (BadInterval at) | Some bounds ↦ between server at bounds ]

-- items that colons part, of which the first begins at this place
abbrev pub items_say : List ℕ → ℕ → List (List ℕ) → List Claim
items_say server at [] = []
items_say server at (item ∷ items) = item_says server at item ∷ items_say server (at + length item + 1) items

-- ---- a part
-- a UUID in the hyphenated form, in either case
unfoldable pub server_of : List ℕ → Option (List ℕ)
server_of text = if length text == 36 then parsed text else None

-- what stands behind a server's UUID that ends at this place
abbrev pub behind_uuid : List ℕ → ℕ → List (List ℕ) → List Claim
behind_uuid server end [] = Err (BadInterval end) ∷ []
behind_uuid server end (item ∷ items) = items_say server (end + 1) (item ∷ items)

-- what stands behind a server's UUID that ends at this place, and fills so many bytes of a part
abbrev pub behind_at : List ℕ → ℕ → List ℕ → ℕ → List Claim
behind_at server end part length_of_uuid =
    if nat_lt length_of_uuid (length part) then items_say server (end + 1) (slice_split (λ b. b == 58) (drop (length_of_uuid + 1) part))
    else Err (BadInterval end) ∷ []

-- A part that begins at this place: its UUID and its items. Where the UUID is missing, its place is the one where the white space before it begins.
abbrev pub named_says : ℕ → ℕ → List (List ℕ) → List Claim
named_says start at [] = []
named_says start at (uuid ∷ items) = elim (server_of uuid) [
  | None ↦ Err (BadUuid (if length uuid == 0 then start else at)) ∷ []
  | Some server ↦ behind_uuid server (at + length uuid) items
]

-- a space, a tab, a newline or a carriage return
unfoldable pub is_white : ℕ → Bool
is_white b = (b == 32) || (b == 9) || (b == 10) || (b == 13)

-- how much white space stands at the front, where a comma stands before it
unfoldable pub white_before : Bool → List ℕ → ℕ
white_before behind_comma text = if behind_comma then prefix_len is_white text else 0

-- the length up to the last byte that is no white space
abbrev pub solid_length : List ℕ → ℕ
solid_length [] = 0
solid_length (b ∷ bs) = if (solid_length bs == 0) && is_white b then 0 else solid_length bs + 1

-- a text less the white space at its end, where a comma stands behind it
unfoldable pub less_white_behind : Bool → List ℕ → List ℕ
less_white_behind before_comma text = if before_comma then take (solid_length text) text else text

-- a part that stands behind a comma or not, and before one or not, from this place on
unfoldable pub part_says : Bool → Bool → ℕ → List ℕ → List Claim
part_says behind_comma before_comma at part =
    named_says at (at + white_before behind_comma part)
    (slice_split (λ b. b == 58) (less_white_behind before_comma (drop (white_before behind_comma part) part)))

-- ---- the text
-- parts that commas part, of which the first begins at this place
abbrev pub parts_say : Bool → ℕ → List (List ℕ) → List Claim
parts_say behind_comma at [] = []
parts_say behind_comma at (part ∷ []) = part_says behind_comma false at part
parts_say behind_comma at (part ∷ next ∷ parts) = part_says behind_comma true at part ++ parts_say true (at + length part + 1) (next ∷ parts)

-- what a text says that begins at this place
unfoldable pub text_says : ℕ → List ℕ → List Claim
text_says at text = if length text == 0 then [] else parts_say false at (slice_split (λ b. b == 44) text)

-- intervals, and behind them others, unless there is a fault
abbrev pub onto : List Interval → Result (List Interval) SetFault → Result (List Interval) SetFault
onto xs (Ok ys) = Ok (xs ++ ys)
onto xs (Err fault) = Err fault

-- all intervals, or the first fault
abbrev pub all_or_first : List Claim → Result (List Interval) SetFault
all_or_first [] = Ok []
all_or_first (Err fault ∷ claims) = Err fault
all_or_first (Ok x ∷ claims) = onto (x ∷ []) (all_or_first claims)

-- the set of the intervals
abbrev pub set_of_all : Result (List Interval) SetFault → Result Position SetFault
set_of_all (Ok xs) = Ok (position_of xs)
set_of_all (Err fault) = Err fault

-- the set that a text spells from this place on
unfoldable pub reading_from : ℕ → List ℕ → Result Position SetFault
reading_from at text = set_of_all (all_or_first (text_says at text))

-- the set that a text spells
abbrev pub set_reading : List ℕ → Result Position SetFault
set_reading text = reading_from 0 text

-- the set that a position as Vitess writes it spells
unfoldable pub position_reading : List ℕ → Result Position SetFault
position_reading text = if bytes_eq (take 8 text) (codes "MySQL56/") then reading_from 8 (drop 8 text) else Err BadFlavor

-- what a reader returned, with what it made, is this, unless memory ran out
abbrev pub Gives : {A B : Type 0} → Result A ReadFault → B → Result B SetFault → Type 0
Gives (Ok _) made r = r ≡ Ok made
Gives (Err (faults.Text fault)) made r = r ≡ Err fault
Gives (Err faults.OutOfMemory) made r = ⊤

-- the set that a reader returned is this, unless memory ran out
abbrev pub Reads : Result Position ReadFault → Result Position SetFault → Type 0
Reads (Ok set) r = r ≡ Ok set
Reads (Err (faults.Text fault)) r = r ≡ Err fault
Reads (Err faults.OutOfMemory) r = ⊤

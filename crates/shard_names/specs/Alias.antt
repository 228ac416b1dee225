-- The text of an alias: a cell, a dash and a number, as the Vitess manual writes one (`cell-uid`, the uid in ten digits).
use Rattle.std.specs.Prelude.{ℕ, ◌+◌, ◌/◌, ◌%◌, ◌^◌, List, [], ◌∷◌, ◌++◌, Bool, ◌&&◌, ◌||◌, not, ◌==◌, nat_le, nat_lt, Option, Some, None, Result, Ok, Err, if◌then◌else◌, length, take, drop, position}
use Rattle.std.specs.List.{list_all}
use Rattle.std.specs.Char.{is_ascii_digit}
use Rattle.std.specs.Str.Parse.{digits_value}
use Rattle.shard_names.specs.declared.alias.Alias.{Alias}
use Rattle.shard_names.specs.declared.alias.NameFault.{NameFault}
use Rattle.shard_names.specs.declared.alias.NameFault.TheVariants.{NoDash, BadUid, BadCell}

abbrev pub is_digit : ℕ → Bool
is_digit b = nat_le 48 b && nat_le b 57

abbrev pub is_letter : ℕ → Bool
is_letter b = (nat_le 65 b && nat_le b 90) || (nat_le 97 b && nat_le b 122)

-- letters, digits, `_`, `.` and `-`
unfoldable pub is_cell_byte : ℕ → Bool
is_cell_byte b = is_digit b || is_letter b || (b == 95) || (b == 46) || (b == 45)

-- the place of the last dash
abbrev pub last_dash : List ℕ → Option ℕ
last_dash [] = None
last_dash (b ∷ bs) = elim (last_dash bs) [ Some k ↦ Some (k + 1) | None ↦ if b == 45 then Some 0 else None ]

-- what decimal digits stand for
abbrev pub number_of : List ℕ → ℕ
number_of digits = digits_value 10 digits

-- one to ten digits of a number of 32 bits
abbrev pub uid_of : List ℕ → Option ℕ
uid_of text =
    if nat_le 1 (length text) && nat_le (length text) 10 && list_all is_ascii_digit text && nat_lt (number_of text) (2 ^ 32)
    then Some (number_of text) else None

-- the first byte that no cell has, or 0 for a text of the wrong length
abbrev pub cell_fault : List ℕ → Option ℕ
cell_fault cell =
    elim (position (λ b. not (is_cell_byte b)) cell) [
      | Some at ↦ Some at
      | None ↦ if nat_le 1 (length cell) && nat_le (length cell) 32 then None else Some 0
    ]

-- the alias that a text spells: the cell stands before the last dash
abbrev pub alias_parts : List ℕ → ℕ → Result Alias NameFault
alias_parts text dash =
    elim (uid_of (drop (dash + 1) text)) [
      | None ↦ Err (BadUid (dash + 1))
      | Some uid ↦ elim (cell_fault (take dash text)) [
        | Some at ↦ Err (BadCell at)
        | None ↦ Ok (record { cell = take dash text; uid = uid })
      ]
    ]

abbrev pub alias_reading : List ℕ → Result Alias NameFault
alias_reading text = elim (last_dash text) [ None ↦ Err NoDash | Some dash ↦ alias_parts text dash ]

-- the digit of a number at a unit
abbrev pub digit : ℕ → ℕ → ℕ
digit n unit = 48 + n / unit % 10

abbrev pub ten_digits : ℕ → List ℕ
ten_digits n =
    digit n 1000000000 ∷ digit n 100000000 ∷ digit n 10000000 ∷ digit n 1000000 ∷ digit n 100000
    ∷ digit n 10000 ∷ digit n 1000 ∷ digit n 100 ∷ digit n 10 ∷ digit n 1 ∷ []

abbrev pub alias_text : Alias → List ℕ
alias_text a = a.cell ++ 45 ∷ ten_digits a.uid

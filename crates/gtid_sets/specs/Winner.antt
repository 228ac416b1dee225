-- Of tablets that stopped, which one is ahead of all: the greatest newest row comes first, and among those with it the position (after
-- Sougoumarane's "Consensus algorithms at scale", where a later term overrides).
use Rattle.std.specs.Prelude.{ℕ, Bool, not, ◌&&◌, ◌==◌, List, [], ◌∷◌, map, filter, Option, Some, None}
use Rattle.std.specs.List.{find, list_all}
use Rattle.gtid_sets.specs.declared.held.Held.{Held}
use Rattle.gtid_sets.specs.Position.{covers, greatest}

abbrev pub newest_of : List Held → ℕ
newest_of helds = greatest (map (λ h. h.newest) helds)

-- those with the greatest newest row
abbrev pub leading : List Held → List Held
leading helds = filter (λ h. h.newest == newest_of helds) helds

-- whether its position has all that the positions of these have
abbrev pub covers_all : List Held → Held → Bool
covers_all helds h = list_all (λ other. covers h.position other.position) helds

-- the first of the leading ones that has all that they have
abbrev pub winner : List Held → Option Held
winner helds = find (covers_all (leading helds)) (leading helds)

-- ---- where there is no winner

-- neither has all that the other has
abbrev pub is_apart : Held → Held → Bool
is_apart h x = not (covers h.position x.position) && not (covers x.position h.position)

abbrev pub apart_with : Held → Option Held → Option (Held × Held) → Option (Held × Held)
apart_with h None later = later
apart_with h (Some x) later = Some (h, x)

-- the first two that are apart
abbrev pub first_apart : List Held → Option (Held × Held)
first_apart [] = None
first_apart (h ∷ hs) = apart_with h (find (is_apart h) hs) (first_apart hs)

-- Where an alias stands first in a list.
use Rattle.std.specs.Prelude.{◌≡◌, ◌≢◌, ℕ, zero, suc, List, [], ◌∷◌, ⊤}
use Rattle.shard_names.specs.declared.alias.Alias.{Alias}

-- the alias stands at this place, and at none before
abbrev pub IsAt : List Alias → Alias → ℕ → Type 0
IsAt [] a k = ⊥
IsAt (x ∷ xs) a zero = x ≡ a
IsAt (x ∷ xs) a (suc k) = (x ≢ a) × IsAt xs a k

abbrev pub IsNowhere : List Alias → Alias → Type 0
IsNowhere [] a = ⊤
IsNowhere (x ∷ xs) a = (x ≢ a) × IsNowhere xs a

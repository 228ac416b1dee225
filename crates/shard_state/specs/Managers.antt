-- The tablets as a shard keeps them, by their places in the list and by their aliases.
use Rattle.std.specs.Prelude.{◌≡◌, ◌≢◌, ℕ, zero, suc, List, [], ◌∷◌, Option, Some, None, ⊤}
use Rattle.std.specs.List.{find}
use Rattle.shard_names.specs.Tablets.{alias_eq}
use Rattle.shard_names.specs.declared.alias.Alias.{Alias}
use Rattle.shard_calls.specs.Tablets.{TabletState, opened}
use Rattle.tablet_manager.specs.Managed.{Managed, state_of}

-- the manager of this alias
abbrev pub manager_of : List Managed → Alias → Option Managed
manager_of managers a = find (λ m. alias_eq m.me.alias a) managers

-- its state: a tablet that is none of the shard's has done nothing
abbrev pub state_in : Option Managed → TabletState
state_in None = opened
state_in (Some m) = state_of m

-- the tablet stands at this place, and at none before
abbrev pub IsAt : List Managed → Alias → ℕ → Type 0
IsAt [] a k = ⊥
IsAt (m ∷ ms) a zero = m.me.alias ≡ a
IsAt (m ∷ ms) a (suc k) = (m.me.alias ≢ a) × IsAt ms a k

abbrev pub IsNowhere : List Managed → Alias → Type 0
IsNowhere [] a = ⊤
IsNowhere (m ∷ ms) a = (m.me.alias ≢ a) × IsNowhere ms a

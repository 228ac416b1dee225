-- Counts of faults, which never fall.
use Rattle.std.specs.Prelude.{◌≡◌, ◌≤◌, ℕ, ◌+◌, ◌-◌, ◌^◌, min, Result, OnOk, OnErr}

-- The count has risen. At the last value that a count can have, it is said to have risen where it stands there.
abbrev pub Rose : ℕ → ℕ → Type 0
Rose before now = min (before + 1) (2 ^ 64 - 1) ≤ now

-- it has not risen
abbrev pub Calm : ℕ → ℕ → Type 0
Calm before now = Rose before now → ⊥

-- a call fails only where the count rose, and leaves it where it does not fail
pub record HasCause {T E : Type 0} (before now : ℕ) (result : Result T E) : Type 0 where
  pub later : before ≤ now
  pub failed : OnErr result (Rose before now)
  pub kept : OnOk result (now ≡ before)

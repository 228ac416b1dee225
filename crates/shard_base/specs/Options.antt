-- Options, one after another.
use Rattle.std.specs.Prelude.{Bool, Option, Some, None, option_and_then, if◌then◌else◌}

infixl 10 ◌>>=◌
-- what comes of the value, if there is one
abbrev pub ◌>>=◌ : {A B : Type 0} → Option A → (A → Option B) → Option B
o >>= f = option_and_then f o

-- x, if the test holds
abbrev pub only_if : {A : Type 0} → Bool → A → Option A
only_if test x = if test then Some x else None

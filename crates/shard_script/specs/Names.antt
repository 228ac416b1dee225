-- The names that a script starts.
use Rattle.std.specs.Prelude.{◌≡◌, ◌≢◌, ℕ, ◌≤◌, List, [], ◌∷◌, ◌++◌, Bool, true, false, ◌&&◌, ◌||◌, not, nat_le, Option, length, codes, All, ⊤}
use Rattle.std.specs.Char.{is_ascii_lowercase, is_ascii_digit}
use Rattle.std.specs.List.{list_all, list_any, Contains}
use Rattle.std.specs.Str.{bytes_eq}
use Rattle.shard_base.specs.Options.{only_if}
use Rattle.shard_script.specs.declared.script.Action.{Action}
use Rattle.shard_script.specs.declared.script.Action.TheVariants.{Play, Start, Turn, Finish, Settle, Local, Crash, Restart, Cut, Mend, Lose, Repeat, Lapse, Tick}

-- whether a name is among these
abbrev pub has_name : List (List ℕ) → List ℕ → Bool
has_name names name = list_any (bytes_eq name) names

-- the name that an action starts, if it starts one
abbrev pub started_by : Action → List (List ℕ)
started_by (Play command n) = []
started_by (Start name command) = name ∷ []
started_by (Turn name pumps) = []
started_by (Finish name) = []
started_by Settle = []
started_by (Local a) = []
started_by (Crash a keep) = []
started_by (Restart a) = []
started_by (Cut x y) = []
started_by (Mend x y) = []
started_by (Lose message) = []
started_by (Repeat message) = []
started_by Lapse = []
started_by (Tick ms) = []

-- the names that actions start, in order
abbrev pub started : List Action → List (List ℕ)
started [] = []
started (x ∷ xs) = started_by x ++ started xs

-- no name is started twice
abbrev pub NamesDiffer : List (List ℕ) → Type 0
NamesDiffer [] = ⊤
NamesDiffer (n ∷ ns) = All (λ m. n ≢ m) ns × NamesDiffer ns

-- what an action turns or finishes is among these
abbrev pub IsKnown : List (List ℕ) → Action → Type 0
IsKnown names (Play command n) = ⊤
IsKnown names (Start name command) = ⊤
IsKnown names (Turn name pumps) = Contains names name
IsKnown names (Finish name) = Contains names name
IsKnown names Settle = ⊤
IsKnown names (Local a) = ⊤
IsKnown names (Crash a keep) = ⊤
IsKnown names (Restart a) = ⊤
IsKnown names (Cut x y) = ⊤
IsKnown names (Mend x y) = ⊤
IsKnown names (Lose message) = ⊤
IsKnown names (Repeat message) = ⊤
IsKnown names Lapse = ⊤
IsKnown names (Tick ms) = ⊤

-- what each action turns or finishes is among these or was started before it
abbrev pub AreKnown : List (List ℕ) → List Action → Type 0
AreKnown names [] = ⊤
AreKnown names (x ∷ xs) = IsKnown names x × AreKnown (names ++ started_by x) xs

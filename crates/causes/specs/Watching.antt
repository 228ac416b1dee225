-- What refuses the emergency reparent inside a vtorc, which undoes nothing; and the one line of a reparent inside. After VTOrc (Vitess manual).
use Rattle.std.specs.Prelude.{Bool, false, ◌&&◌, List, [], ◌∷◌, Option, Some, None, is_none}
use Rattle.shard_calls.specs.declared.ending.Rest.{Rest}
use Rattle.shard_calls.specs.declared.ending.Rest.TheVariants as lines
use Rattle.shard_calls.specs.declared.group.Group.{Group}
use Rattle.shard_calls.specs.declared.refusal.Refusal.{Refusal}
use Rattle.shard_calls.specs.declared.span.Deed.{Deed}
use Rattle.shard_calls.specs.declared.state.CommandState.{CommandState}
use Rattle.shard_calls.specs.Causes.{emergency_is_refused, forced, is_promoted}

abbrev pub forced_refuses : Group → List Deed → Refusal → Option Bool → Bool
forced_refuses g span r undone = is_none undone && emergency_is_refused g forced span r

-- the line, if it is the only one
abbrev pub line_alone : List Rest → Option Rest
line_alone [] = None
line_alone (x ∷ []) = Some x
line_alone (x ∷ y ∷ ys) = None

-- the reparent promoted a tablet, or was refused so
abbrev pub is_line : (Refusal → Option Bool → Bool) → CommandState → List Deed → Option Rest → Bool
is_line refused s span (Some (lines.Promoted a t left)) = is_promoted s span a t left
is_line refused s span (Some (lines.Refused r undone)) = refused r undone
is_line refused s span _ = false

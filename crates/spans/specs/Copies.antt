-- Deeds taken one by one.
use Rattle.std.specs.Prelude.{List, [], ◌∷◌, if◌then◌else◌}
use Rattle.shard_calls.specs.declared.span.Deed.{Deed}
use Rattle.shard_calls.specs.declared.span.Kind.{Kind}
use Rattle.shard_calls.specs.Causes.{is_call}

-- the deed, if it is such a call
abbrev pub call_in : Kind → Deed → List Deed
call_in kind d = if is_call kind d then d ∷ [] else []

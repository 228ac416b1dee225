-- Where the notes of what was refused stand among the steps of a history. Notes are vtshard's own.
use Rattle.std.specs.Prelude.{◌≤◌, List, All, length}
use Rattle.std.specs.List.Sorted.{IsNonDecreasingBy}
use Rattle.shard_calls.specs.declared.event.Note.{Note}
use Rattle.shard_calls.specs.declared.event.Step.{Step}

-- the places never fall, and none is above the number of steps
pub record AreInPlace (steps : List Step) (notes : List Note) : Type 0 where
  pub never_fall : IsNonDecreasingBy (λ n. n.place) notes
  pub within : All (λ n. n.place ≤ length steps) notes

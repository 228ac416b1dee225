-- How notes come to be in order of their places.
use Rattle.std.proofs.Common.{◌≡◌, ◌-◌, ◌<◌, ◌≤◌, List, [], ◌∷◌, ◌++◌, length, get_or, arith, length-append}
use Rattle.std.proofs.lemmas.List.Elements.{All-push}
use Rattle.std.proofs.lemmas.List.Sorted.{IsNonDecreasingBy-push}
use Rattle.shard_calls.specs.declared.event.Note.{Note}
use Rattle.shard_calls.specs.declared.event.Step.{Step}
use Rattle.shard_core.specs.Notes.{AreInPlace}

pub no_notes : (steps : List Step) → AreInPlace steps []
no_notes steps = record { never_fall = λ i j d le lt. absurd (omega arith); within = λ i d lt. absurd (omega arith) }

-- one more step
pub one_step : (steps : List Step) (s : Step) (notes : List Note) → AreInPlace steps notes → AreInPlace (steps ++ s ∷ []) notes
one_step steps s notes h =
    record { never_fall = h.never_fall; within = λ i d lt. omega (arith, h.within i d lt, length-append steps (s ∷ [])) }

-- one more note, behind all steps
pub one_note : (steps : List Step) (notes : List Note) (n : Note) → AreInPlace steps notes → n.place ≡ length steps → AreInPlace steps (notes ++ n ∷ [])
one_note steps notes n h at_end =
    let least : (d : Note) → 0 < length notes → (get_or notes (length notes - 1) d).place ≤ n.place =
    λ d some. let le = h.within (length notes - 1) d (omega arith) in omega arith in
    record {
      never_fall = IsNonDecreasingBy-push (λ x. x.place) notes n h.never_fall least;
      within = All-push (λ x. x.place ≤ length steps) notes n h.within (omega arith);
    }

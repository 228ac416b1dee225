-- Findings that are kept one by one are those that pass the test.
use Rattle.std.proofs.Common.{◌≡◌, refl, ap, Bool, true, false, List, [], ◌∷◌, ◌++◌, cond}
use Rattle.std.specs.List.{flat_map}
use Rattle.shard_calls.specs.declared.analysis.Finding.{Finding}
use Rattle.shard_calls.specs.Analysis.{is_problem, is_to_repair, problems, to_repair}
use Rattle.analysis.specs.Kept.{problem_in, repair_in}

one_kept : (b : Bool) (f : Finding) (xs ys : List Finding) → xs ≡ ys → (cond b (f ∷ []) [] ++ xs) ≡ cond b (f ∷ ys) ys
one_kept true f xs ys e = ap (λ (zs : List Finding). f ∷ zs) e
one_kept false f xs ys e = e

pub problems_are : (fs : List Finding) → flat_map problem_in fs ≡ problems fs
problems_are [] = refl
problems_are (f ∷ fs) = one_kept (is_problem f.analysis) f (flat_map problem_in fs) (problems fs) (problems_are fs)

pub repairs_are : (fs : List Finding) → flat_map repair_in fs ≡ to_repair fs
repairs_are [] = refl
repairs_are (f ∷ fs) = one_kept (is_to_repair f.analysis) f (flat_map repair_in fs) (to_repair fs) (repairs_are fs)

-- Findings taken one by one.
use Rattle.std.specs.Prelude.{Bool, List, [], ◌∷◌, if◌then◌else◌}
use Rattle.shard_calls.specs.declared.analysis.Finding.{Finding}
use Rattle.shard_calls.specs.Analysis.{is_problem, is_to_repair}

abbrev pub kept_if : Bool → Finding → List Finding
kept_if test f = if test then f ∷ [] else []

-- the finding, if something is amiss
abbrev pub problem_in : Finding → List Finding
problem_in f = kept_if (is_problem f.analysis) f

-- the finding, if the tablet is to be drained or to join the primary
abbrev pub repair_in : Finding → List Finding
repair_in f = kept_if (is_to_repair f.analysis) f

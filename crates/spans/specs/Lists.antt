-- Lists of a kind, member by member.
use Rattle.std.specs.Prelude.{Bool, true, false, ◌&&◌, List, [], ◌∷◌}
use Rattle.std.specs.Str.{bytes_eq}
use Rattle.shard_names.specs.Tablets.{alias_eq}
use Rattle.shard_calls.specs.declared.analysis.Finding.{Finding}
use Rattle.shard_calls.specs.declared.ending.NotJoined.{NotJoined}
use Rattle.shard_calls.specs.declared.ending.TabletRow.{TabletRow}
use Rattle.shard_calls.specs.declared.refusal.NotStopped.{NotStopped}
use Rattle.shard_calls.specs.declared.refusal.Rejected.{Rejected}
use Rattle.shard_calls.specs.Same.{left_eq, reason_eq, unreached_eq, shown_type_eq, analysis_eq}

-- the lists have as many members, and each is the same as the other in its place
abbrev pub are_same : {A : Type 0} → (A → A → Bool) → List A → List A → Bool
are_same same [] [] = true
are_same same [] (y ∷ ys) = false
are_same same (x ∷ xs) [] = false
are_same same (x ∷ xs) (y ∷ ys) = same x y && are_same same xs ys

abbrev pub same_rejected : Rejected → Rejected → Bool
same_rejected x y = alias_eq x.alias y.alias && reason_eq x.reason y.reason

abbrev pub same_not_stopped : NotStopped → NotStopped → Bool
same_not_stopped x y = alias_eq x.alias y.alias && unreached_eq x.unreached y.unreached

abbrev pub same_not_joined : NotJoined → NotJoined → Bool
same_not_joined x y = alias_eq x.alias y.alias && left_eq x.left y.left

abbrev pub same_row : TabletRow → TabletRow → Bool
same_row x y = alias_eq x.alias y.alias && bytes_eq x.server y.server && shown_type_eq x.kind y.kind

abbrev pub same_finding : Finding → Finding → Bool
same_finding x y = alias_eq x.alias y.alias && analysis_eq x.analysis y.analysis

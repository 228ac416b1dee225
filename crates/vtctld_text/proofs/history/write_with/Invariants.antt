use Rattle.std.proofs.Common.{◌≡◌, ◌+◌, ◌++◌, take}
use Rattle.std.specs.List.{flat_map, enumerate_from}
use Rattle.vtctld_text.specs.Notes.{notes_at, note_lines, noted_text, count_before}
use Rattle.vtctld_text.proofs.history.write_with.Given as goal

abbrev pub invariant-loop-index : goal.invariant-loop-index
invariant-loop-index l =
    (l.text.items ≡ note_lines (notes_at l.notes 0) ++ flat_map (noted_text l.commands l.notes) (take l.index (enumerate_from 1 l.steps)))
    × (l.done ≡ count_before l.notes (l.index + 1))

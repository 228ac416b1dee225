use Rattle.std.proofs.Common.{◌≡◌, ◌++◌, take}
use Rattle.vtctld_text.specs.Notes.{note_lines}
use Rattle.vtctld_text.proofs.note.write_notes.Given as goal

abbrev pub invariant-loop-note : goal.invariant-loop-note
invariant-loop-note l = l.into.items ≡ l.fn.into.items ++ note_lines (take l.note-index l.notes)

use Rattle.std.proofs.Common.{rules, ◌++◌, List, ap, ◌∙◌}
use Rattle.shard_calls.specs.declared.event.Note.{Note}
use Rattle.vtctld_text.specs.Notes.{note_lines}
use Rattle.vtctld_text.proofs.NoteLemmas.{done_within, run_from}
use Rattle.vtctld_text.proofs.note.write_notes_at.Goals as goal

pub offset_bounds-notes-done : goal.offset_bounds-notes-done
offset_bounds-notes-done c =
    let le = done_within c.args.place c.args.done c.args.notes.now c.requires.before in search rules

pub slice_bounds-count_at-count : goal.slice_bounds-count_at-count
slice_bounds-count_at-count c = done_within c.args.place c.args.done c.args.notes.now c.requires.before

pub slice_bounds-count_at-start : goal.slice_bounds-count_at-start
slice_bounds-count_at-start c =
    let le = done_within c.args.place c.args.done c.args.notes.now c.requires.before in search rules

pub overflow_add-next : goal.overflow_add-next
overflow_add-next c =
    let is = run_from c.args.place c.args.done c.count_at.result c.args.notes.now c.requires.never_fall c.requires.before c.count_at.ensures in
    let le = is.0 in search rules

pub offset_bounds-notes-done-2 : goal.offset_bounds-notes-done-2
offset_bounds-notes-done-2 c =
    let le = done_within c.args.place c.args.done c.args.notes.now c.requires.before in search rules

pub slice_bounds-write_notes-end : goal.slice_bounds-write_notes-end
slice_bounds-write_notes-end c =
    let is = run_from c.args.place c.args.done c.count_at.result c.args.notes.now c.requires.never_fall c.requires.before c.count_at.ensures in
    let le = is.0 in search rules

pub returns-clause-text : goal.returns-clause-text
returns-clause-text c =
    let is = run_from c.args.place c.args.done c.count_at.result c.args.notes.now c.requires.never_fall c.requires.before c.count_at.ensures in
    c.in_ok-write_notes.ensures ∙ ap (λ (l : List Note). c.args.into.now.items ++ note_lines l) is.1

pub returns-clause-next : goal.returns-clause-next
returns-clause-next c =
    (run_from c.args.place c.args.done c.count_at.result c.args.notes.now c.requires.never_fall c.requires.before c.count_at.ensures).2

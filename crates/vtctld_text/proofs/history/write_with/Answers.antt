use Rattle.std.proofs.Common.{◌++◌, ℕ, List, sym, ap, ◌∙◌, arith}
use Rattle.std.specs.List.{flat_map, enumerate_from}
use Rattle.std.proofs.lemmas.List.{take_all}
use Rattle.std.proofs.lemmas.List.FromFn.{length-enumerate_from}
use Rattle.shard_calls.specs.declared.event.Step.{Step}
use Rattle.vtctld_text.specs.Notes.{notes_at, note_lines, noted_text}
use Rattle.vtctld_text.proofs.NoteLemmas.{one_more, none_before_first}
use Rattle.vtctld_text.proofs.history.write_with.Goals as goal

pub write_notes_at-requires-clause-before : goal.write_notes_at-requires-clause-before
write_notes_at-requires-clause-before c = sym (none_before_first c.args.notes.now)

pub loop-index-preserved : goal.loop-index-preserved
loop-index-preserved c = (
  one_more c.args.commands.now c.args.notes.now c.args.steps.now c.loop-index.index c.index-steps-index.result (note_lines (notes_at c.args.notes.now 0))
      c.loop-index.text.items c.write_event.new.into.items c.write_notes_at-in-loop-index.new.into.items
      (omega arith) c.index-steps-index.is c.loop-index.invariant.0 c.in_ok-write_event.ensures c.in_ok-done-2.ensures.text,
  c.in_ok-done-2.ensures.next,
)

pub returns : goal.returns
returns c =
    let first = note_lines (notes_at c.args.notes.now 0) in
    let items = enumerate_from 1 c.args.steps.now in
    let all = take_all c.loop-index.index items (omega (arith, length-enumerate_from 1 c.args.steps.now)) in
    c.loop-index.invariant.0 ∙ ap (λ (l : List (ℕ × Step)). first ++ flat_map (noted_text c.args.commands.now c.args.notes.now) l) all

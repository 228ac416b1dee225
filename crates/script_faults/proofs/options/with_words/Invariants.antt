use Rattle.std.proofs.Common.{◌≡◌, map, drop}
use Rattle.script_faults.specs.Options.{no_marks, with_words}
use Rattle.script_faults.proofs.options.with_words.Given as goal

abbrev pub invariant-loop-word : goal.invariant-loop-word
invariant-loop-word l = with_words l.marks (map (λ b. b.now) (drop l.word-index l.words)) ≡ with_words no_marks (map (λ b. b.now) l.words)

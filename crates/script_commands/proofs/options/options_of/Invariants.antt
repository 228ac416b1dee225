use Rattle.std.proofs.Common.{◌≡◌, map, drop}
use Rattle.script_commands.specs.Options.{with_words, options_of}
use Rattle.script_commands.proofs.options.options_of.Given as goal

abbrev pub invariant-loop-word : goal.invariant-loop-word
invariant-loop-word l = with_words l.options (map (λ b. b.now) (drop l.word-index l.words)) ≡ options_of (map (λ b. b.now) l.words)

use Rattle.std.proofs.Common.{◌≡◌, [], map, drop}
use Rattle.script_commands.specs.Options.{aliases_on}
use Rattle.script_commands.proofs.options.read_aliases.Given as goal

abbrev pub invariant-loop-part : goal.invariant-loop-part
invariant-loop-part l = aliases_on l.aliases (map (λ b. b.now) (drop l.part-index l.parts)) ≡ aliases_on [] (map (λ b. b.now) l.parts)

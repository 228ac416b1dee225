use Rattle.std.proofs.Common.{◌≡◌, map, take}
use Rattle.post.proofs.messages.aliases_of.Given as goal

abbrev pub invariant-loop-tablet : goal.invariant-loop-tablet
invariant-loop-tablet l = l.aliases.items ≡ map (λ t. t.alias) (take l.tablet-index l.tablets)

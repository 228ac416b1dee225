use Rattle.std.proofs.Common.{◌≡◌, ◌++◌, take}
use Rattle.history_text.specs.Orders.{further_aliases}
use Rattle.history_text.proofs.order.append_further_aliases.Given as goal

abbrev pub invariant-loop-alias : goal.invariant-loop-alias
invariant-loop-alias l = l.into.items ≡ l.fn.into.items ++ further_aliases (take l.alias-index l.aliases)

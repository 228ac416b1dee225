use Rattle.std.proofs.Common.{◌≡◌, take}
use Rattle.std.specs.List.{flat_map}
use Rattle.spans.specs.Copies.{call_in}
use Rattle.spans.proofs.copying.copied_calls.Given as goal

abbrev pub invariant-loop-deed : goal.invariant-loop-deed
invariant-loop-deed l = l.calls ≡ flat_map (call_in l.fn.kind) (take l.deed-index l.fn.span)

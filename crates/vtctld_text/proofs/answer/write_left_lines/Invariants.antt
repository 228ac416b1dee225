use Rattle.std.proofs.Common.{◌≡◌, ◌++◌, take}
use Rattle.std.specs.Option.{option_copied}
use Rattle.vtctld_text.specs.Texts.{begin_text, left_lines}
use Rattle.vtctld_text.proofs.answer.write_left_lines.Given as goal

abbrev pub invariant-loop-not_joined : goal.invariant-loop-not_joined
invariant-loop-not_joined l =
    l.into.items ≡ l.fn.into.items ++ left_lines (begin_text (option_copied l.begun)) (take l.not_joined-index l.left)

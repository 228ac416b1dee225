use Rattle.std.proofs.Common.{◌≡◌, ◌++◌, take}
use Rattle.std.specs.List.{flat_map}
use Rattle.std.specs.Option.{option_copied}
use Rattle.vtctld_text.specs.Texts.{done_lines}
use Rattle.vtctld_text.proofs.watch.write_done.Given as goal

abbrev pub invariant-loop-line : goal.invariant-loop-line
invariant-loop-line l =
    l.into.items ≡ l.fn.into.items ++ flat_map (done_lines (option_copied l.begun)) (take l.line-index l.rest)

use Rattle.std.proofs.Common.{◌≡◌, ◌++◌, take}
use Rattle.std.specs.List.{flat_map}
use Rattle.std.specs.Option.{option_copied}
use Rattle.vtctld_text.specs.Texts.{finding_line}
use Rattle.vtctld_text.proofs.watch.write_finding_lines.Given as goal

abbrev pub invariant-loop-finding : goal.invariant-loop-finding
invariant-loop-finding l =
    l.into.items ≡ l.fn.into.items ++ flat_map (finding_line (option_copied l.begun)) (take l.finding-index l.findings)

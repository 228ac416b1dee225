-- What tablets said of themselves, call by call, in the order of the calls.
use Rattle.std.specs.Prelude.{List, [], ◌∷◌}
use Rattle.std.specs.List.{flat_map}
use Rattle.shard_calls.specs.declared.analysis.TabletStatus.{TabletStatus}
use Rattle.shard_calls.specs.declared.span.Deed.{Deed}
use Rattle.shard_calls.specs.declared.span.Deed.TheVariants as deeds
use Rattle.shard_calls.specs.Causes.{status_in}

-- what the tablet of a call said, if it is one and was answered
abbrev pub said_by_call : Deed → List TabletStatus
said_by_call (deeds.Asked x) = record { alias = x.alias; status = status_in x.outcome } ∷ []
said_by_call _ = []

abbrev pub said_by : List Deed → List TabletStatus
said_by done = flat_map said_by_call done

use Rattle.std.proofs.Common.{◌≡◌, map, take}
use Rattle.serde_json.specs.View.{view}
use Rattle.tablet_text.specs.Json.{tablet_data}
use Rattle.tablet_text.proofs.json.tablets_value.Given as goal

abbrev pub invariant-loop-row : goal.invariant-loop-row
invariant-loop-row l = map view l.values.items ≡ map tablet_data (take l.row-index l.rows)

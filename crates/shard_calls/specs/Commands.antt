-- The options of PlannedReparentShard and of EmergencyReparentShard (Vitess manual). Where no timeout is given a call may take 15 seconds.
use Rattle.std.specs.Prelude.{ℕ, Bool, List, Option, Some, None, unwrap_or}
use Rattle.shard_names.specs.declared.alias.Alias.{Alias}
use Rattle.shard_calls.specs.declared.command.Command.{Command}
use Rattle.shard_calls.specs.declared.command.Command.TheVariants as commands
use Rattle.shard_calls.specs.declared.command.EmergencyOptions.{EmergencyOptions}
use Rattle.shard_calls.specs.declared.command.PlannedOptions.{PlannedOptions}

-- the milliseconds that a command waits for an answer where it has no option of its own
abbrev pub usual_timeout : ℕ
usual_timeout = 15000

abbrev pub planned_with : Option Alias → Option Alias → Option Alias → Option ℕ → Bool → PlannedOptions
planned_with new_primary avoid expected timeout crossing = record {
  new_primary = new_primary;
  avoid = avoid;
  expected = expected;
  timeout = unwrap_or timeout usual_timeout;
  allow_cross_cell = crossing;
}

abbrev pub emergency_with : Option Alias → List Alias → Option Alias → Option ℕ → Bool → EmergencyOptions
emergency_with new_primary ignored expected timeout preventing = record {
  new_primary = new_primary;
  ignored = ignored;
  expected = expected;
  timeout = unwrap_or timeout usual_timeout;
  prevent_cross_cell = preventing;
}

abbrev pub planned_options : Command → Option PlannedOptions
planned_options (commands.Planned shard new_primary avoid expected timeout crossing) = Some (planned_with new_primary avoid expected timeout crossing)
planned_options _ = None

abbrev pub emergency_options : Command → Option EmergencyOptions
emergency_options (commands.Emergency shard new_primary ignored expected timeout preventing) = Some (emergency_with new_primary ignored expected timeout preventing)
emergency_options _ = None

-- the milliseconds that a command waits for an answer: by its option, or else 15 seconds
abbrev pub timeout_of : Command → ℕ
timeout_of (commands.Planned shard new_primary avoid expected timeout crossing) = unwrap_or timeout usual_timeout
timeout_of (commands.Emergency shard new_primary ignored expected timeout preventing) = unwrap_or timeout usual_timeout
timeout_of _ = usual_timeout

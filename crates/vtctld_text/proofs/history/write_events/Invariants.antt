use Rattle.std.proofs.Common.{◌≡◌, take}
use Rattle.std.specs.List.{flat_map}
use Rattle.vtctld_text.specs.Texts.{event_text}
use Rattle.vtctld_text.proofs.history.write_events.Given as goal

abbrev pub invariant-loop-step : goal.invariant-loop-step
invariant-loop-step l = l.text.items ≡ flat_map (λ s. event_text l.commands s.event) (take l.step-index l.steps)

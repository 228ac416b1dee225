-- Which calls a command needs, by a name for each table.
use Rattle.std.specs.Prelude.{Bool}
use Rattle.spans.specs.declared.calls.Needed.{Needed}
use Rattle.spans.specs.declared.calls.Needed.TheVariants as needs
use Rattle.shard_calls.specs.declared.span.Kind.{Kind}
use Rattle.shard_calls.specs.Causes.{is_needed_by_planned, is_of_catching_up, is_needed_by_emergency, is_set_source_kind, is_status_kind}

abbrev pub is_needed : Needed → Kind → Bool
is_needed needs.Planned = is_needed_by_planned
is_needed needs.CatchingUp = is_of_catching_up
is_needed needs.Emergency = is_needed_by_emergency
is_needed needs.SetSource = is_set_source_kind
is_needed needs.Status = is_status_kind

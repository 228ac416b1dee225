-- What refuses an EmergencyReparentShard, in three parts: before it has stopped anybody, by those that it stopped, and afterwards.
use Rattle.std.specs.Prelude.{Bool, ◌||◌, List}
use Rattle.shard_calls.specs.declared.command.EmergencyOptions.{EmergencyOptions}
use Rattle.shard_calls.specs.declared.group.Group.{Group}
use Rattle.shard_calls.specs.declared.refusal.Refusal.{Refusal}
use Rattle.shard_calls.specs.declared.span.Deed.{Deed}
use Rattle.shard_calls.specs.Refusals.{refusal_by_seen, refusal_of_emergency}
use Rattle.shard_calls.specs.Causes.{is_this, any_read, call_refuses, topology_refuses, before_first, is_intended, is_set_source_kind, is_needed_by_emergency, stale_refuses, stops_refuse}

unfoldable pub refuses_early : Group → EmergencyOptions → List Deed → Refusal → Bool
refuses_early g o span r =
    is_this r (refusal_of_emergency g o) || topology_refuses r span || any_read (λ seen. is_this r (refusal_by_seen o.expected o.new_primary seen)) span

unfoldable pub refuses_by_stale : List Deed → Refusal → Bool
refuses_by_stale stops r = stale_refuses r stops

unfoldable pub refuses_by_stopped : Group → EmergencyOptions → List Deed → List Deed → Refusal → Bool
refuses_by_stopped g o stops span r = stops_refuse g o r stops span

-- by those that it stopped
abbrev pub refuses_by_stops : Group → EmergencyOptions → List Deed → List Deed → Refusal → Bool
refuses_by_stops g o stops span r = refuses_by_stale stops r || refuses_by_stopped g o stops span r

unfoldable pub refuses_late : List Deed → Refusal → Bool
refuses_late span r = call_refuses is_set_source_kind r (before_first is_intended span) || call_refuses is_needed_by_emergency r span

-- The three parts of what refuses an EmergencyReparentShard are all of it.
use Rattle.std.proofs.Common.{◌≡◌, ◌∙◌, refl, sym, ap, Bool, true, false, ◌||◌, List}
use Rattle.std.proofs.Math.Bool.{or_assoc}
use Rattle.shard_calls.specs.declared.command.EmergencyOptions.{EmergencyOptions}
use Rattle.shard_calls.specs.declared.group.Group.{Group}
use Rattle.shard_calls.specs.declared.refusal.Refusal.{Refusal}
use Rattle.shard_calls.specs.declared.span.Deed.{Deed}
use Rattle.shard_calls.specs.declared.span.Kind.TheVariants as kinds
use Rattle.shard_calls.specs.Refusals.{refusal_by_seen, refusal_of_emergency}
use Rattle.shard_calls.specs.Causes.{is_this, any_read, calls_of, call_refuses, topology_refuses, before_first, is_intended, is_set_source_kind, is_needed_by_emergency, stale_refuses, stops_refuse, emergency_is_refused}
use Rattle.causes.specs.Emergency.{refuses_early, refuses_by_stale, refuses_by_stopped, refuses_by_stops, refuses_late}

joined : (a b c d e : Bool) → (a || (b || c) || (d || e)) ≡ (a || b || c || d || e)
joined true b c d e = refl
joined false true c d e = refl
joined false false true d e = refl
joined false false false d e = refl

pub whole : (g : Group) (o : EmergencyOptions) (span : List Deed) (r : Refusal)
    → (refuses_early g o span r || refuses_by_stops g o (calls_of kinds.Stop span) span r || refuses_late span r) ≡ emergency_is_refused g o span r
unfolding refuses_early refuses_by_stale refuses_by_stopped refuses_late
whole g o span r =
    joined (is_this r (refusal_of_emergency g o) || topology_refuses r span || any_read (λ seen. is_this r (refusal_by_seen o.expected o.new_primary seen)) span)
    (stale_refuses r (calls_of kinds.Stop span)) (stops_refuse g o r (calls_of kinds.Stop span) span)
    (call_refuses is_set_source_kind r (before_first is_intended span)) (call_refuses is_needed_by_emergency r span)

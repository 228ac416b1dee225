-- Histories of vtorcs played on the definitions by computation, and the worked analyses.
use Rattle.std.proofs.Common.{◌≡◌, ℕ, true, false, refl, List, [], ◌∷◌, ◌++◌, Some, None}
use Rattle.shard_calls.specs.declared.analysis.Analysis.TheVariants as analyses
use Rattle.shard_calls.specs.declared.analysis.Finding.{Finding}
use Rattle.shard_calls.specs.declared.call.Call.TheVariants as calls
use Rattle.shard_calls.specs.declared.command.Command.TheVariants as commands
use Rattle.shard_calls.specs.declared.ending.CommandAnswer.TheVariants as answers
use Rattle.shard_calls.specs.declared.ending.Rest.TheVariants as lines
use Rattle.shard_calls.specs.declared.event.Event.{Event}
use Rattle.shard_calls.specs.declared.event.Event.TheVariants as events
use Rattle.shard_calls.specs.World.{World, main_name}
use Rattle.shard_calls.specs.Table.{meets}
use Rattle.shard_calls.specs.AnalysisExamples.{PrimariesAreAnalysed, OthersAreAnalysed}
use Rattle.shard_calls.proofs.Examples.{all_met, world_after_events, z100, z101, z102, three, after_settle}

-- ---- analyses

pub primaries_are_analysed : PrimariesAreAnalysed
primaries_are_analysed = record {
  none_recorded = refl;
  alone = refl;
  all_dead = refl;
  some_dead = refl;
  dead = refl;
  replicates = refl;
  demoted = refl;
  of_another_term = refl;
  locked = refl;
  well = refl;
}

pub others_are_analysed : OthersAreAnalysed
others_are_analysed = record {
  not_reached = refl;
  errant = refl;
  writes_errant = refl;
  drained = refl;
  writes = refl;
  of_another_source = refl;
  of_another_term = refl;
  demoted = refl;
  feeds = refl;
  stopped = refl;
  behind = refl;
}

-- ---- a replica has a transaction of its own: a vtorc drains it, and the next one finds nothing

abbrev events_of_look : List Event
events_of_look =
    events.Local z101
    ∷ events.Begin main_name commands.Vtorc
    ∷ events.Send 2 z100 calls.Status
    ∷ events.Send 2 z101 calls.Status
    ∷ events.Send 2 z102 calls.Status
    ∷ events.Deliver 13
    ∷ events.Deliver 14
    ∷ events.Deliver 15
    ∷ events.Deliver 16
    ∷ events.Deliver 17
    ∷ events.Deliver 18
    ∷ []

abbrev findings_of_look : List Finding
findings_of_look = record { alias = z101; analysis = analyses.ErrantGTIDDetected } ∷ []

abbrev events_of_drain : List Event
events_of_drain =
    events.Take 2
    ∷ events.Drain 2 z101
    ∷ events.Release 2
    ∷ events.End 2 (answers.Vtorc findings_of_look (lines.Drained z101 ∷ []))
    ∷ []

abbrev events_of_next : List Event
events_of_next =
    events.Begin main_name commands.Vtorc
    ∷ events.Send 3 z100 calls.Status
    ∷ events.Send 3 z101 calls.Status
    ∷ events.Send 3 z102 calls.Status
    ∷ events.Deliver 19
    ∷ events.Deliver 20
    ∷ events.Deliver 21
    ∷ events.Deliver 22
    ∷ events.Deliver 23
    ∷ events.Deliver 24
    ∷ events.End 3 (answers.Vtorc [] [])
    ∷ []

abbrev after_look : World
after_look = world_after_events three after_settle events_of_look

drain_met : all_met three after_settle (events_of_look ++ events_of_drain ++ events_of_next) ≡ true
drain_met = refl

drained_is : (world_after_events three after_look events_of_drain).topo.drained ≡ z101 ∷ []
drained_is = refl

-- without the lock it may not drain, and what it found it has to tell
not_without_lock : meets three after_look (events.Drain 2 z101) ≡ false
not_without_lock = refl

not_unfound : meets three after_look (events.End 2 (answers.Vtorc [] [])) ≡ false
not_unfound = refl

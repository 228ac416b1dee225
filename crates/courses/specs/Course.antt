-- What a command is to do next, by its course. Commands are those of vtctldclient (Vitess manual).
use Rattle.std.specs.Prelude.{List, None, Result, Ok, Err}
use Rattle.shard_calls.specs.declared.ending.CommandAnswer.{CommandAnswer}
use Rattle.shard_calls.specs.declared.ending.CommandAnswer.TheVariants as endings
use Rattle.shard_calls.specs.declared.refusal.Refusal.TheVariants as refusals
use Rattle.shard_calls.specs.declared.span.Deed.{Deed}
use Rattle.courses.specs.declared.demands.Demand.{Demand}
use Rattle.courses.specs.declared.demands.Demand.TheVariants.{Does, Awaits, Leaves}
use Rattle.courses.specs.declared.want.Exit.{Exit}
use Rattle.courses.specs.declared.want.Exit.TheVariants as exits
use Rattle.courses.specs.Walks.{Course}

-- what is none of its course makes it leave as want of memory does, which it always may
abbrev pub demand_by : Result CommandAnswer Exit → Demand
demand_by (Ok e) = Leaves e
demand_by (Err (exits.Does want)) = Does want
demand_by (Err exits.Waits) = Awaits
demand_by (Err (exits.Refused r)) = Leaves (endings.Refused r None)
demand_by (Err exits.Strays) = Leaves (endings.Refused refusals.OutOfMemory None)
demand_by (Err exits.OutOfMemory) = Leaves (endings.Refused refusals.OutOfMemory None)

abbrev pub demand : Course CommandAnswer → List Deed → Demand
demand course span = demand_by (course span).came

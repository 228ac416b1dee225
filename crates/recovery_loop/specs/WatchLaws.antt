-- The laws of the course of a vtorc. After VTOrc (Vitess manual, "VTOrc").
use Rattle.std.specs.Prelude.{List}
use Rattle.shard_calls.specs.declared.event.Seen.{Seen}
use Rattle.shard_calls.specs.declared.group.Group.{Group}
use Rattle.shard_calls.specs.declared.span.Deed.{Deed}
use Rattle.courses.specs.Laws.{IsStable}
use Rattle.courses.specs.Sound.{IsSound}
use Rattle.recovery_loop.specs.Watch.{watch_course}
use Rattle.recovery_loop.specs.Ends.{WatchEnds}

abbrev pub WatchIsStable : Type 0
WatchIsStable = (g : Group) (seen : Seen) → IsStable (watch_course g seen)

-- a vtorc is never refused by its course
abbrev pub WatchIsSound : Type 0
WatchIsSound = (g : Group) (seen : Seen) (span : List Deed) → IsSound g span (λ r. ⊥) (watch_course g seen) (WatchEnds g seen span)

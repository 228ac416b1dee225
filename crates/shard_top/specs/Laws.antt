-- The laws of played runs.
use Rattle.std.specs.Prelude.{◌≡◌, ◌≢◌, ◌≤◌, List, [], ◌++◌, length}
use Rattle.shard_calls.specs.World.{opening}
use Rattle.shard_calls.specs.Table.{IsRun}
use Rattle.shard_script.specs.declared.script.Script.{Script}
use Rattle.shard_script.specs.Script.{Fits}
use Rattle.planned.specs.Follows.{FollowCourses}
use Rattle.vtctld_text.specs.Notes.{AreInPlace}
use Rattle.shard_top.specs.declared.player.Stop.{Stop}
use Rattle.shard_top.specs.declared.player.Stop.TheVariants as stops
use Rattle.shard_top.specs.Memory.{NoneLacked}
use Rattle.shard_top.specs.Played.{Want, Made, steps_of, notes_of, config_of, IsPlayed, IsRunOf}

-- with given wants of memory a script plays one run
abbrev pub OneRun : Type 0
OneRun =
    (s : Script) (wants : List Want) (made others : List Made) (stop other : Stop) → IsRunOf s wants made stop → IsRunOf s wants others other
    → (made ≡ others) × (stop ≡ other)

-- what is played goes on to a stop
abbrev pub PlaysToStop : Type 0
PlaysToStop =
    (s : Script) (wants : List Want) (made : List Made) → length (steps_of made) ≤ 1000000 → length (notes_of made) ≤ 1000000 → IsPlayed s wants made
    → (rest : List Made) × ((stop : Stop) × IsRunOf s wants (made ++ rest) stop)

-- Where no command was refused for want of memory, a script that is over or blocked has played the run that wants none: so its history, its notes, its
-- status and what it prints are one function of the script.
abbrev pub RunsPlainly : Type 0
RunsPlainly =
    (s : Script) (wants : List Want) (made : List Made) (stop : Stop) → stop ≢ stops.Full → NoneLacked (steps_of made) → IsRunOf s wants made stop
    → IsRunOf s [] made stop

-- the steps of what a script plays that fits are a run of the machine, in which commands keep to their courses
abbrev pub PlayedIsRun : Type 0
PlayedIsRun =
    (s : Script) (wants : List Want) (made : List Made) → Fits s → IsPlayed s wants made
    → IsRun (config_of s) (steps_of made) × FollowCourses (config_of s) (opening (config_of s)) (steps_of made)

-- the notes stand in the order of their places, and none behind the last step
abbrev pub NotesInPlace : Type 0
NotesInPlace = (made : List Made) → AreInPlace (steps_of made) (notes_of made)

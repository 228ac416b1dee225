-- The steps that open commands still owe, for which the history keeps room: so a command can always free the lock and end.
use Rattle.std.specs.Prelude.{ℕ, ◌+◌, ◌-◌, Bool, true, false, not, List, [], ◌∷◌, Option, Some, None, if◌then◌else◌}
use Rattle.shard_calls.specs.World.{World, open_command}
use Rattle.shard_calls.specs.declared.event.Event.{Event}
use Rattle.shard_calls.specs.declared.event.Event.TheVariants as events
use Rattle.shard_calls.specs.declared.state.CommandState.{CommandState}
use Rattle.shard_core.specs.Causes.{is_out_of_memory}

-- an open command owes its End, and before it its Release
abbrev pub debt : CommandState → ℕ
debt s = if s.ended then 0 else if s.released then 1 else 2

abbrev pub owed_of : List CommandState → ℕ
owed_of [] = 0
owed_of (s ∷ ss) = debt s + owed_of ss

abbrev pub is_unreleased : Option CommandState → Bool
is_unreleased None = false
is_unreleased (Some s) = not s.released

-- the room for this event is kept since its command began, and it takes no memory: a first Release, and the End of a command that has run out of
-- memory
abbrev pub has_room_kept : World → Event → Bool
has_room_kept w (events.Begin name command) = false
has_room_kept w (events.Take c) = false
has_room_kept w (events.Read c) = false
has_room_kept w (events.Intend c a) = false
has_room_kept w (events.Record c a) = false
has_room_kept w (events.Drain c a) = false
has_room_kept w (events.Release c) = is_unreleased (open_command w c)
has_room_kept w events.Lapse = false
has_room_kept w (events.Send c a call) = false
has_room_kept w (events.Deliver k) = false
has_room_kept w (events.GiveUp c k) = false
has_room_kept w (events.Offer r) = false
has_room_kept w (events.Write c a) = false
has_room_kept w (events.Tell c) = false
has_room_kept w (events.Local a) = false
has_room_kept w (events.Crash a keep) = false
has_room_kept w (events.Restart a) = false
has_room_kept w (events.Cut x y) = false
has_room_kept w (events.Mend x y) = false
has_room_kept w (events.Lose k) = false
has_room_kept w (events.Tick ms) = false
has_room_kept w (events.End c x) = is_out_of_memory x

abbrev pub owed_less : ℕ → Option CommandState → ℕ
owed_less n None = n
owed_less n (Some s) = n - debt s

abbrev pub owed_released : ℕ → Bool → ℕ
owed_released n true = n - 1
owed_released n false = n

-- what is owed after the event, where so much was owed before
abbrev pub owed_after : World → ℕ → Event → ℕ
owed_after w n (events.Begin name command) = n + 2
owed_after w n (events.Take c) = n
owed_after w n (events.Read c) = n
owed_after w n (events.Intend c a) = n
owed_after w n (events.Record c a) = n
owed_after w n (events.Drain c a) = n
owed_after w n (events.Release c) = owed_released n (is_unreleased (open_command w c))
owed_after w n events.Lapse = n
owed_after w n (events.Send c a call) = n
owed_after w n (events.Deliver k) = n
owed_after w n (events.GiveUp c k) = n
owed_after w n (events.Offer r) = n
owed_after w n (events.Write c a) = n
owed_after w n (events.Tell c) = n
owed_after w n (events.Local a) = n
owed_after w n (events.Crash a keep) = n
owed_after w n (events.Restart a) = n
owed_after w n (events.Cut x y) = n
owed_after w n (events.Mend x y) = n
owed_after w n (events.Lose k) = n
owed_after w n (events.Tick ms) = n
owed_after w n (events.End c x) = owed_less n (open_command w c)

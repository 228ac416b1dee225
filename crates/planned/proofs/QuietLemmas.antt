-- How a command leaves changes no tablet and sends nothing.
use Rattle.std.proofs.Common.{◌≡◌, refl, ℕ, Bool, true, false, Option, Some, None, cond}
use Rattle.shard_calls.specs.declared.ending.CommandAnswer.{CommandAnswer}
use Rattle.shard_calls.specs.declared.event.Event.{Event}
use Rattle.shard_calls.specs.declared.event.Event.TheVariants as events
use Rattle.shard_calls.specs.declared.state.CommandState.{CommandState}
use Rattle.shard_calls.specs.World.{Config, World, open_command, term_of}
use Rattle.shard_calls.specs.Locks.{by_term, releases_in}
use Rattle.shard_calls.specs.Begins.{ends_by}
use Rattle.shard_calls.specs.Table.{after}
use Rattle.planned.specs.Leaving.{owes_release, leaving}
use Rattle.planned.specs.Laws.{LeavingIsQuiet}

-- the tablets and the messages of two worlds are the same
abbrev Same : World → World → Type 0
Same v w = (v.tablets ≡ w.tablets) × (v.post ≡ w.post)

release_same : (w : World) (c : ℕ) (t : Option ℕ) → Same (by_term t w (releases_in w c)) w
release_same w c None = (refl, refl)
release_same w c (Some t) = (refl, refl)

end_same : (w : World) (c : ℕ) (s : Option CommandState) → Same (ends_by w c s) w
end_same w c None = (refl, refl)
end_same w c (Some s) = (refl, refl)

either : (config : Config) (w : World) (c : ℕ) (x : CommandAnswer) (owed : Bool) → Same (after config w (cond owed (events.Release c) (events.End c x))) w
either config w c x true = release_same w c (term_of w c)
either config w c x false = end_same w c (open_command w c)

pub leaving_is_quiet : LeavingIsQuiet
leaving_is_quiet config w c s x = either config w c x (owes_release s)

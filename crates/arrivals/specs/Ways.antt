-- What is due of some messages alone, as a walk over those that wait finds it.
use Rattle.std.specs.Prelude.{ℕ, ◌+◌, Bool, ◌&&◌, ◌==◌, nat_lt, length, Option}
use Rattle.shard_base.specs.Options.{◌>>=◌, only_if}
use Rattle.shard_names.specs.declared.alias.Alias.{Alias}
use Rattle.shard_calls.specs.declared.post.Message.{Message}
use Rattle.shard_calls.specs.Messages.{waits_at, passes}
use Rattle.shard_calls.specs.World.{numbered}
use Rattle.post.specs.Directions.{place_from, place_to, goes}
use Rattle.shard_state.specs.State.{Data, seen}
use Rattle.arrivals.specs.Arrivals.{is_due}

-- whether the message of a number is due
abbrev pub is_due_at : Data → ℕ → Bool
is_due_at d k = passes (is_due (seen d)) (numbered d.messages k)

-- the number, if there is one and it passes
abbrev pub if_passes : (ℕ → Bool) → Option ℕ → Option ℕ
if_passes test k = k >>= (λ n. only_if (test n) n)

-- it is due and brings a replica what comes behind an entry
abbrev pub is_feed_due : Data → Alias → ℕ → Message → Bool
is_feed_due d r n m = waits_at r n m.content && is_due (seen d) m

-- and goes from the one place to the other
abbrev pub is_feed_on : Data → ℕ → ℕ → Alias → ℕ → Message → Bool
is_feed_on d from to r n m = goes d.aliases from to m.content && is_feed_due d r n m

-- and goes to this place, from one below another
abbrev pub is_feed_below : Data → ℕ → ℕ → Alias → ℕ → Message → Bool
is_feed_below d k to r n m = nat_lt (place_from d.aliases m.content) k && (place_to d.aliases m.content == to) && is_feed_due d r n m

-- and goes to this place, from one of the shard
abbrev pub is_feed_to : Data → ℕ → Alias → ℕ → Message → Bool
is_feed_to d to r n m = is_feed_below d (length d.aliases + 1) to r n m

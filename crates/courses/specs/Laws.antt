-- What a course promises: once it does not wait, what comes of calls later changes nothing of what it demands. Courses are those of vtctldclient
-- (Vitess manual).
use Rattle.std.specs.Prelude.{◌≡◌, ℕ, Bool, true, false, List, map, Option, Result, Ok, Err}
use Rattle.shard_calls.specs.declared.span.Outcome.{Outcome}
use Rattle.shard_calls.specs.declared.span.Asked.{Asked}
use Rattle.shard_calls.specs.declared.span.Deed.{Deed}
use Rattle.shard_calls.specs.declared.span.Deed.TheVariants as deeds
use Rattle.courses.specs.declared.want.Exit.{Exit}
use Rattle.courses.specs.declared.want.Exit.TheVariants as exits
use Rattle.shard_calls.specs.Refusals.{or_else}
use Rattle.courses.specs.Walks.{Course, walked}

-- what calls have come to since, by their numbers
abbrev pub News : Type 0
News = ℕ → Option Outcome

-- what is settled stays as it is
abbrev pub settle_asked : News → Asked → Asked
settle_asked h x = record x { outcome = or_else x.outcome (h x.message) }

abbrev pub settle : News → Deed → Deed
settle h (deeds.Asked x) = deeds.Asked (settle_asked h x)
settle h (deeds.Took reply) = deeds.Took reply
settle h (deeds.Read reply) = deeds.Read reply
settle h (deeds.Intended a reply) = deeds.Intended a reply
settle h (deeds.Recorded a reply) = deeds.Recorded a reply
settle h (deeds.Drained a reply) = deeds.Drained a reply
settle h (deeds.Wrote a reply) = deeds.Wrote a reply
settle h (deeds.Told committed) = deeds.Told committed

abbrev pub is_waits : Exit → Bool
is_waits (exits.Does want) = false
is_waits exits.Waits = true
is_waits (exits.Refused r) = false
is_waits exits.Strays = false
is_waits exits.OutOfMemory = false

abbrev pub is_waiting : {A : Type 0} → Result A Exit → Bool
is_waiting (Ok x) = false
is_waiting (Err e) = is_waits e

-- where it does not wait, news of calls changes nothing of how far it comes
abbrev pub IsStable : {A : Type 0} → Course A → Type 0
IsStable m = (h : News) (rest : List Deed) → is_waiting (m rest).came ≡ false
    → m (map (settle h) rest) ≡ walked (m rest).came (map (settle h) (m rest).rest)

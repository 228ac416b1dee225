-- The places of a shard, and from which place to which a message goes.
use Rattle.std.specs.Prelude.{ℕ, ◌+◌, ◌≤◌, Bool, ◌&&◌, ◌==◌, List, length}
use Rattle.std.specs.List.{position_or_len}
use Rattle.shard_names.specs.declared.alias.Alias.{Alias}
use Rattle.shard_names.specs.Tablets.{alias_eq}
use Rattle.shard_calls.specs.declared.post.Content.{Content}
use Rattle.shard_calls.specs.declared.post.Content.TheVariants as contents

-- The place of a tablet: 1 for the first of the shard's, and so on. Who is none of them has the place behind the last.
abbrev pub place_of : List Alias → Alias → ℕ
place_of aliases a = position_or_len (λ x. alias_eq x a) aliases + 1

-- the place that it was sent from: commands have the place 0
abbrev pub place_from : List Alias → Content → ℕ
place_from aliases (contents.Asks command term to call) = 0
place_from aliases (contents.Answers command asked from says) = place_of aliases from
place_from aliases (contents.Feeds from to term after index e) = place_of aliases from
place_from aliases (contents.Acks from to term index) = place_of aliases from

-- the place that it is sent to
abbrev pub place_to : List Alias → Content → ℕ
place_to aliases (contents.Asks command term to call) = place_of aliases to
place_to aliases (contents.Answers command asked from says) = 0
place_to aliases (contents.Feeds from to term after index e) = place_of aliases to
place_to aliases (contents.Acks from to term index) = place_of aliases to

-- whom it is for: an answer for the command of this number, counted from 1, and any other message for a tablet, which is 0
abbrev pub receiver : Content → ℕ
receiver (contents.Asks command term to call) = 0
receiver (contents.Answers command asked from says) = command
receiver (contents.Feeds from to term after index e) = 0
receiver (contents.Acks from to term index) = 0

-- whether it goes from the one place to the other
abbrev pub goes : List Alias → ℕ → ℕ → Content → Bool
goes aliases from to c = (place_from aliases c == from) && (place_to aliases c == to)

-- a place of the shard
abbrev pub IsPlace : List Alias → ℕ → Type 0
IsPlace aliases place = place ≤ length aliases

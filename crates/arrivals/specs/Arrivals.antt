-- What comes next of itself: the message that may be delivered for the first time, and the tablet that may be sent an entry by its source (MySQL
-- 8.0 manual, Replication).
use Rattle.std.specs.Prelude.{ℕ, Bool, ◌&&◌, is_none, is_some, Option, map}
use Rattle.std.specs.List.{find, position_from}
use Rattle.shard_names.specs.declared.alias.Alias.{Alias}
use Rattle.shard_calls.specs.declared.post.Message.{Message}
use Rattle.shard_calls.specs.Messages.{may_arrive, offer_to}
use Rattle.shard_calls.specs.World.{Config, World}

-- it has not come to its receiver, and may
abbrev pub is_due : World → Message → Bool
is_due w m = is_none m.arrived && may_arrive w m

-- the least number of a message that is due: the first one has the number 1
abbrev pub next_due : World → Option ℕ
next_due w = position_from (is_due w) 1 w.post

-- the first tablet, in alias order, that may be offered an entry
abbrev pub next_offered : Config → World → Option Alias
next_offered config w = find (λ a. is_some (offer_to w a)) (map (λ t. t.alias) config.tablets)

-- What a replica needs of its source's log (MySQL 8.0 manual, GTID Auto-Positioning).
use Rattle.std.specs.Prelude.{ℕ, ◌+◌, ◌-◌, Bool, not, List, drop, filter, length, Option, Some}
use Rattle.shard_base.specs.Options.{◌>>=◌}
use Rattle.shard_names.specs.declared.alias.Alias.{Alias}
use Rattle.gtid_sets.specs.declared.entry.Entry.{Entry}
use Rattle.gtid_sets.specs.Logs.{holds}
use Rattle.shard_calls.specs.declared.post.Content.{Content}
use Rattle.shard_calls.specs.Messages.{Indexed, needed_from, feed_of}

-- the first entry from the n-th on that who has a log needs of another log, of which every entry from a row on is sent
abbrev pub needed_of : List Entry → Option ℕ → List Entry → ℕ → Option Indexed
needed_of source row held n = needed_from n row held (drop (n - 1) source)

-- the same, where the search has come to a place
abbrev pub needed_behind : List Entry → Option ℕ → List Entry → ℕ → ℕ → Option Indexed
needed_behind source row held n place = needed_from (n + (place - (n - 1))) row held (drop place source)

-- who has a log has not this entry, and how many of some entries
abbrev pub lacks : List Entry → Entry → Bool
lacks held e = not (holds held e.gtid)

abbrev pub how_many_lack : List Entry → List Entry → ℕ
how_many_lack held entries = length (filter (lacks held) entries)

-- as a source sends it in a term
abbrev pub fed_of : List Entry → Option ℕ → List Entry → Alias → Alias → ℕ → ℕ → Option Content
fed_of source row held from to term n = needed_of source row held n >>= (λ x. Some (feed_of from to term n x))

-- A replica reads its source's log from where it is, and keeps how far it has read (MySQL 8.0 manual, Replication Implementation).
-- A stream is of one source in one term.
use Rattle.std.specs.Prelude.{◌≡◌, ℕ}
use Rattle.shard_names.specs.declared.alias.Alias.{Alias}
use Rattle.replication.specs.declared.stream.Stream.{Stream}

-- what was sent is what the stream waits for: from its source, in its term, and for the index at which it is
pub record IsAwaited (s : Stream) (from : Alias) (term after : ℕ) : Type 0 where
  pub of_source : from ≡ s.source
  pub in_term : term ≡ s.term
  pub in_place : after ≡ s.next

-- The courses of a write and of a show. A client is told of its write once the entry counts as committed (MySQL 8.0 manual, semisynchronous
-- replication).
use Rattle.std.specs.Prelude.{Bool, Option, Some, None, Result, Ok, Err, if◌then◌else◌}
use Rattle.shard_names.specs.declared.alias.Alias.{Alias}
use Rattle.gtid_sets.specs.Position.{Position}
use Rattle.topo_lock.specs.declared.intent.Record.{Record}
use Rattle.shard_calls.specs.declared.stand.Standing.{Standing}
use Rattle.shard_calls.specs.declared.ending.CommandAnswer.{CommandAnswer}
use Rattle.shard_calls.specs.declared.ending.CommandAnswer.TheVariants as endings
use Rattle.shard_calls.specs.declared.span.Transaction.{Transaction}
use Rattle.shard_calls.specs.Refusals.{or_else, recorded_alias}
use Rattle.courses.specs.Walks.{Course, gives, ◌>>=◌, writes, tells}

abbrev pub told_by : Alias → Transaction → Bool → CommandAnswer
told_by a x committed = if committed then endings.Committed x.gtid a x.term else endings.Unknown x.gtid a x.term

abbrev pub written_by : Alias → Result Transaction Standing → Course CommandAnswer
written_by a (Err stand) = gives (endings.NotPrimary a stand)
written_by a (Ok x) = tells >>= λ committed. gives (told_by a x committed)

abbrev pub writes_at : Option Alias → Course CommandAnswer
writes_at None = gives endings.NoPrimaryRecorded
writes_at (Some a) = writes a >>= written_by a

-- it writes at the tablet that it names, or at the one that was recorded right after it began
unfoldable pub write_course : Option Alias → Option Record → Course CommandAnswer
write_course to recorded = writes_at (or_else to (recorded_alias recorded))

abbrev pub shown_by : Alias → Standing → Position → CommandAnswer
shown_by a stand p = endings.Shown a stand p

-- it shows what stood right after it began
unfoldable pub show_course : Alias → Standing → Position → Course CommandAnswer
show_course a stand p = gives (shown_by a stand p)

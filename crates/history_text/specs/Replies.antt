-- The text of the machine's reply to an event: what was read of the topology, which message was sent, which transaction was written (MySQL 8.0
-- manual), how the tablet stands (Vitess manual), or why a call was given up. The words are vtshard's own.
use Rattle.std.specs.Prelude.{ℕ, List, [], ◌∷◌, ◌++◌, Option, Some, None, codes}
use Rattle.std.specs.Fmt.{decimal}
use Rattle.shard_names.specs.Alias.{alias_text}
use Rattle.shard_names.specs.declared.alias.Alias.{Alias}
use Rattle.gtid_sets.specs.Gtid.{gtid_text}
use Rattle.gtid_sets.specs.declared.gtid.Gtid.{Gtid}
use Rattle.topo_lock.specs.declared.intent.Intent.{Intent}
use Rattle.topo_lock.specs.declared.intent.Record.{Record}
use Rattle.shard_calls.specs.declared.event.Reply.{Reply}
use Rattle.shard_calls.specs.declared.event.Reply.TheVariants as replies
use Rattle.shard_calls.specs.declared.event.Seen.{Seen}
use Rattle.shard_calls.specs.declared.stand.Standing.{Standing}
use Rattle.tablet_text.specs.Moments.{moment_text}
use Rattle.tablet_text.specs.Stands.{standing_text, why_text}
use Rattle.history_text.specs.Orders.{aliases_text}
use Rattle.history_text.specs.Events.{numbered_text, tablet_event_text}

-- ---- what is read of the topology

-- the tablet, the term of its intent, and when it was recorded
unfoldable pub record_text : Record → List ℕ
record_text r = alias_text r.alias ++ codes "," ++ decimal r.term ++ codes "," ++ moment_text r.moment

abbrev pub recorded_text : Option Record → List ℕ
recorded_text None = codes "-"
recorded_text (Some r) = record_text r

-- the term, and the tablet that it intends
unfoldable pub intent_text : Intent → List ℕ
intent_text i = decimal i.term ++ codes "," ++ alias_text i.alias

abbrev pub intended_text : Option Intent → List ℕ
intended_text None = codes "-"
intended_text (Some i) = intent_text i

abbrev pub drained_text : List Alias → List ℕ
drained_text [] = codes "-"
drained_text (a ∷ aliases) = aliases_text (a ∷ aliases)

unfoldable pub seen_text : Seen → List ℕ
seen_text seen =
    codes "record " ++ recorded_text seen.recorded ++ codes " intent " ++ intended_text seen.intent ++ codes " drained " ++ drained_text seen.drained

-- ---- replies

-- the term in which the lock is held, and the actor by whose command
unfoldable pub taken_text : ℕ → List ℕ → List ℕ
taken_text term actor = codes "taken " ++ decimal term ++ codes " " ++ actor

unfoldable pub wrote_text : Gtid → List ℕ
wrote_text g = codes "wrote " ++ gtid_text g

unfoldable pub stand_text : Standing → List ℕ
stand_text stand = codes "stand " ++ standing_text stand

abbrev pub reply_text : Reply → List ℕ
reply_text (replies.Begun c) = numbered_text (codes "command ") c
reply_text (replies.Term term) = numbered_text (codes "term ") term
reply_text (replies.Taken term actor) = taken_text term actor
reply_text (replies.Read seen) = seen_text seen
reply_text (replies.Lost term) = numbered_text (codes "lost ") term
reply_text (replies.Stands a) = tablet_event_text (codes "stands ") a
reply_text (replies.Message k) = numbered_text (codes "message ") k
reply_text (replies.GaveUp why) = why_text why
reply_text (replies.Wrote g) = wrote_text g
reply_text (replies.NotPrimary stand) = stand_text stand
reply_text replies.Told = codes "told"
reply_text replies.Gone = codes "gone"
reply_text replies.Ok = codes "ok"

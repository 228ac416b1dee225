-- What is said of a large rehearsal: how many commands ended, how many of them were refused, in how many terms a tablet was intended, and how many
-- writes counted as committed. The line is vtshard's own.
use Rattle.std.specs.Prelude.{ℕ, Bool, true, false, ◌==◌, List, ◌++◌, length, filter, if◌then◌else◌, codes}
use Rattle.std.specs.Fmt.{decimal}
use Rattle.shard_calls.specs.declared.ending.CommandAnswer.{CommandAnswer}
use Rattle.shard_calls.specs.declared.ending.CommandAnswer.TheVariants as answers
use Rattle.shard_calls.specs.declared.event.Event.{Event}
use Rattle.shard_calls.specs.declared.event.Event.TheVariants as events
use Rattle.shard_calls.specs.declared.event.Reply.{Reply}
use Rattle.shard_calls.specs.declared.event.Reply.TheVariants as replies
use Rattle.shard_calls.specs.declared.event.Step.{Step}
use Rattle.tablet_text.specs.Stands.{line}
use Rattle.vtctld_text.specs.Texts.{refuses}

abbrev pub is_end : Event → Bool
is_end (events.End c x) = true
is_end _ = false

abbrev pub is_commit : CommandAnswer → Bool
is_commit (answers.Committed g a term) = true
is_commit _ = false

abbrev pub commits : Event → Bool
commits (events.End c x) = is_commit x
commits _ = false

abbrev pub is_ok : Reply → Bool
is_ok replies.Ok = true
is_ok _ = false

-- a tablet was intended, and the term intends no other
abbrev pub is_intent : Event → Reply → Bool
is_intent (events.Intend c a) r = is_ok r
is_intent _ r = false

-- ---- what is counted

unfoldable pub ends : Step → Bool
ends s = is_end s.event

unfoldable pub ends_refused : Step → Bool
ends_refused s = refuses s.event

unfoldable pub intends : Step → Bool
intends s = is_intent s.event s.reply

unfoldable pub ends_committed : Step → Bool
ends_committed s = commits s.event

abbrev pub ended : List Step → ℕ
ended steps = length (filter ends steps)

abbrev pub refused : List Step → ℕ
refused steps = length (filter ends_refused steps)

abbrev pub intended : List Step → ℕ
intended steps = length (filter intends steps)

abbrev pub committed : List Step → ℕ
committed steps = length (filter ends_committed steps)

-- ---- the line

unfoldable pub terms_word : ℕ → List ℕ
terms_word n = if n == 1 then codes " term, " else codes " terms, "

-- a number, and what so many there are of
unfoldable pub counted : ℕ → List ℕ → List ℕ
counted n what = decimal n ++ what

unfoldable pub counts_text : List Step → List ℕ
counts_text steps = counted (ended steps) (codes " commands, ") ++ counted (refused steps) (codes " refused, ")
    ++ counted (intended steps) (terms_word (intended steps)) ++ counted (committed steps) (codes " committed")

-- the line of a rehearsal of so many rounds
unfoldable pub summary_text : ℕ → List Step → List ℕ
summary_text rounds steps = line (codes "gen " ++ counted rounds (codes ": ") ++ counts_text steps)

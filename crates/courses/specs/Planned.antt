-- The course of PlannedReparentShard (Vitess manual): the old primary is demoted, the new one catches up with it and is promoted; where it does
-- not catch up, the old one is promoted again.
use Rattle.std.specs.Prelude.{ℕ, Bool, true, false, ◌==◌, Option, Some, None, Result, Ok, Err, if◌then◌else◌}
use Rattle.shard_names.specs.declared.alias.Alias.{Alias}
use Rattle.shard_names.specs.Tablets.{alias_eq}
use Rattle.gtid_sets.specs.Position.{Position, nothing}
use Rattle.topo_lock.specs.declared.intent.Intent.{Intent}
use Rattle.shard_calls.specs.declared.answer.Answer.{Answer}
use Rattle.shard_calls.specs.declared.answer.Answer.TheVariants as says
use Rattle.shard_calls.specs.declared.call.Call.TheVariants as calls
use Rattle.shard_calls.specs.declared.command.PlannedOptions.{PlannedOptions}
use Rattle.shard_calls.specs.declared.ending.CommandAnswer.{CommandAnswer}
use Rattle.shard_calls.specs.declared.ending.CommandAnswer.TheVariants as endings
use Rattle.shard_calls.specs.declared.event.Seen.{Seen}
use Rattle.shard_calls.specs.declared.group.Group.{Group}
use Rattle.shard_calls.specs.declared.refusal.Refusal.{Refusal}
use Rattle.shard_calls.specs.Causes.{is_idle}
use Rattle.shard_calls.specs.Choosing.{candidates, first_of, follower}
use Rattle.shard_calls.specs.Refusals.{refusal_of_planned, refusal_by_seen, refusal_by_demoted, refusal_of_crossing}
use Rattle.courses.specs.declared.want.Exit.{Exit}
use Rattle.courses.specs.Walks.{Course, strays, gives, walked, unless, or_refusing, unless_refused, tried, ◌>>=◌, ◌>>◌, takes_lock, reads, needs, calls_all}
use Rattle.courses.specs.Promoting.{others_than, reparents, promotes, established}

-- ---- who follows

-- the first primary of the shard: the given tablet, or the first that may be it
abbrev pub first_primary : Group → PlannedOptions → Seen → Option Alias → Result Alias Exit
first_primary g o seen (Some c) = Ok c
first_primary g o seen None = or_refusing (first_of g seen o.avoid)

-- who follows the old primary: the given tablet, or of its replicas the one that has most
unfoldable pub successor : Group → Bool → Seen → Alias → Option Alias → Course Alias
successor g allowed seen old (Some c) = unless (refusal_of_crossing allowed old c) >> gives c
successor g allowed seen old None =
    calls_all (candidates g allowed seen old) calls.Status >>= λ done.
    unless_refused (follower g allowed seen old done)

-- ---- the course, point by point

-- what the tablet of the intent had when it was demoted: the row of that term, and nothing newer
abbrev pub demoted_position : Intent → Answer → Result Position Exit
demoted_position i (says.Demoted newest p) = if newest == i.term then Ok p else strays
demoted_position i _ = strays

-- the old primary takes no more writes, and says what it has
unfoldable pub demotes : Intent → Course Position
demotes i = needs i.alias calls.Demote >>= λ x. unless (refusal_by_demoted i x) >> walked (demoted_position i x)

-- a tablet that is to follow does, or has promised a later term and has followed already
abbrev pub following : Answer → Result (Unit {0}) Exit
following says.Joined = Ok tt
following (says.Kept stand) = Ok tt
following (says.PromisedAhead promised) = Ok tt
following _ = strays

abbrev pub holding : Answer → Result (Unit {0}) Exit
holding says.Holds = Ok tt
holding _ = strays

-- tablet c comes to have all that the old primary has
unfoldable pub catches_up : ℕ → Intent → Alias → Position → Course (Unit {0})
catches_up timeout i c p =
    needs c (calls.SetSource i.alias i.term p) >>= λ x.
    walked (following x) >>
    needs c (calls.WaitFor p timeout) >>= λ y.
    walked (holding y)

-- whether the old primary was promoted again, and how that ended is not told
unfoldable pub undone_by : Group → ℕ → ℕ → Alias → Refusal → Result Position Refusal → Course CommandAnswer
undone_by g timeout u old r (Ok q) = tried (established timeout (others_than g old) u old q) >> gives (endings.Refused r (Some true))
undone_by g timeout u old r (Err failed) = gives (endings.Refused r (Some false))

unfoldable pub undoes : Group → ℕ → ℕ → Alias → Position → Refusal → Course CommandAnswer
undoes g timeout u old p r = tried (promotes old p) >>= undone_by g timeout u old r

-- the tablet is promoted, and all others are to join it
unfoldable pub reparents_all : Group → ℕ → ℕ → Alias → Position → Course CommandAnswer
reparents_all g timeout u c p = reparents timeout (others_than g c) u c p

unfoldable pub replaced_by : Group → ℕ → ℕ → Alias → Alias → Position → Result (Unit {0}) Refusal → Course CommandAnswer
replaced_by g timeout u old c p (Ok x) = reparents_all g timeout u c p
replaced_by g timeout u old c p (Err r) = undoes g timeout u old p r

unfoldable pub replaces : Group → ℕ → ℕ → Intent → Alias → Position → Course CommandAnswer
replaces g timeout u i c p =
    if alias_eq c i.alias
    then reparents_all g timeout u c p
    else (tried (catches_up timeout i c p) >>= replaced_by g timeout u i.alias c p)

unfoldable pub reparents_from : Group → PlannedOptions → ℕ → Seen → Intent → Course CommandAnswer
reparents_from g o u seen i =
    successor g o.allow_cross_cell seen i.alias o.new_primary >>= λ c.
    demotes i >>= λ p.
    replaces g o.timeout u i c p

unfoldable pub reparents_by : Group → PlannedOptions → ℕ → Seen → Option Intent → Course CommandAnswer
reparents_by g o u seen None = walked (first_primary g o seen o.new_primary) >>= λ c. reparents_all g o.timeout u c nothing
reparents_by g o u seen (Some i) = if is_idle o.avoid i.alias then gives (endings.NothingToDo i.alias) else reparents_from g o u seen i

unfoldable pub planned_course : Group → PlannedOptions → Course CommandAnswer
planned_course g o =
    unless (refusal_of_planned g o) >>
    takes_lock >>= λ u.
    reads >>= λ seen.
    unless (refusal_by_seen o.expected o.new_primary seen) >>
    reparents_by g o u seen seen.intent

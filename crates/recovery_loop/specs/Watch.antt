-- The course of a vtorc: it asks how every tablet stands, and does about what is amiss the first thing that helps. After VTOrc (Vitess manual,
-- "VTOrc").
use Rattle.std.specs.Prelude.{ℕ, List, [], ◌∷◌, ◌++◌, Option, Some, None, Result, Ok, Err, if◌then◌else◌}
use Rattle.std.specs.List.{flat_map}
use Rattle.shard_names.specs.declared.alias.Alias.{Alias}
use Rattle.gtid_sets.specs.Position.{Position}
use Rattle.shard_calls.specs.declared.analysis.Finding.{Finding}
use Rattle.shard_calls.specs.declared.analysis.Status.{Status}
use Rattle.shard_calls.specs.declared.call.Call.TheVariants as calls
use Rattle.shard_calls.specs.declared.ending.CommandAnswer.{CommandAnswer}
use Rattle.shard_calls.specs.declared.ending.CommandAnswer.TheVariants as endings
use Rattle.shard_calls.specs.declared.ending.Rest.{Rest}
use Rattle.shard_calls.specs.declared.ending.Rest.TheVariants as lines
use Rattle.shard_calls.specs.declared.event.Seen.{Seen}
use Rattle.shard_calls.specs.declared.group.Group.{Group}
use Rattle.shard_calls.specs.declared.refusal.Refusal.{Refusal}
use Rattle.shard_calls.specs.declared.span.Deed.{Deed}
use Rattle.shard_calls.specs.declared.stand.Stand.{Stand}
use Rattle.shard_calls.specs.declared.stand.Stand.TheVariants as stands
use Rattle.shard_calls.specs.Analysis.{finds, is_errant, is_orphaned, is_to_repair, is_urgent, problems, to_repair}
use Rattle.shard_calls.specs.Causes.{findings_of, forced, joined_or_left, left_by, plain, statuses}
use Rattle.shard_calls.specs.Choosing.{alias_if}
use Rattle.shard_calls.specs.Refusals.{is_other_than, recorded_alias}
use Rattle.courses.specs.Walks.{Course, gives, tried, ◌>>=◌, takes_lock, drains, calls_once, calls_all}
use Rattle.courses.specs.Planned.{planned_course}
use Rattle.courses.specs.Emergency.{emergency_course}

-- what was found, as far as it is a problem, and what was done about it
abbrev pub watched : List Finding → List Rest → CommandAnswer
watched findings rest = endings.Vtorc (problems findings) rest

-- ---- a whole reparent inside

abbrev pub lines_of : CommandAnswer → List Rest
lines_of (endings.Promoted a t left) = lines.Promoted a t left ∷ []
lines_of (endings.Refused r undone) = lines.Refused r undone ∷ []
lines_of _ = []

abbrev pub healed_by : List Finding → Result CommandAnswer Refusal → CommandAnswer
healed_by findings (Ok x) = watched findings (lines_of x)
healed_by findings (Err r) = watched findings (lines.Refused r None ∷ [])

unfoldable pub heals : List Finding → Course CommandAnswer → Course CommandAnswer
heals findings m = tried m >>= λ x. gives (healed_by findings x)

-- ---- repairs, each a point of its own

-- the tablet is to replicate from the primary p of term t, which has this position; it joins, or is left for whatever comes of that
unfoldable pub joins : Alias → ℕ → Position → Alias → Course (Result Rest Refusal)
joins p t has a = calls_once a (calls.SetSource p t has) >>= λ o. gives (Ok (joined_or_left p a (left_by o)))

abbrev pub marked : Alias → Result (Unit {0}) Refusal → Result Rest Refusal
marked a (Ok x) = Ok (lines.Drained a)
marked a (Err r) = Err r

unfoldable pub marks : Alias → Course (Result Rest Refusal)
marks a = tried (drains a) >>= λ x. gives (marked a x)

unfoldable pub repairs : Alias → ℕ → Position → Finding → Course (Result Rest Refusal)
repairs p t has f = if is_errant f.analysis then marks f.alias else joins p t has f.alias

-- one after another, with what came of those before; the first refusal is the last line
abbrev pub line_then : List Finding → List Rest → (List Rest → Course CommandAnswer) → Result Rest Refusal → Course CommandAnswer
line_then findings so_far next (Ok line) = next (so_far ++ line ∷ [])
line_then findings so_far next (Err r) = gives (watched findings (so_far ++ lines.Refused r None ∷ []))

unfoldable pub repairs_all : Alias → ℕ → Position → List Finding → List Finding → List Rest → Course CommandAnswer
repairs_all p t has findings [] so_far = gives (watched findings so_far)
repairs_all p t has findings (f ∷ more) so_far = repairs p t has f >>= line_then findings so_far (repairs_all p t has findings more)

abbrev pub repairs_under_lock : Alias → ℕ → Position → List Finding → Result ℕ Refusal → Course CommandAnswer
repairs_under_lock p t has findings (Ok u) = repairs_all p t has findings (to_repair findings) []
repairs_under_lock p t has findings (Err r) = gives (watched findings (lines.Refused r None ∷ []))

-- only beside a primary that stands as one
unfoldable pub repairs_under : Alias → Stand → Position → List Finding → Course CommandAnswer
repairs_under p (stands.Primary t) has findings = tried takes_lock >>= repairs_under_lock p t has findings
repairs_under p _ has findings = gives (watched findings [])

abbrev pub repairs_by : Alias → List Finding → Option Status → Course CommandAnswer
repairs_by p findings None = gives (watched findings [])
repairs_by p findings (Some s) = repairs_under p s.stand s.position findings

abbrev pub repairs_beside : Option Alias → List Finding → List Deed → Course CommandAnswer
repairs_beside None findings done = gives (watched findings [])
repairs_beside (Some p) findings done = repairs_by p findings (statuses done p)

-- ---- the course

unfoldable pub acts_on : Group → Seen → List Deed → List Finding → Course CommandAnswer
acts_on g seen done findings =
    if finds is_orphaned findings then heals findings (planned_course g plain)
    else if finds is_urgent findings then heals findings (emergency_course g forced)
    else if finds is_to_repair findings then repairs_beside (recorded_alias seen.recorded) findings done
    else gives (watched findings [])

-- all tablets but the recorded primary
abbrev pub beside_record : Group → Option Alias → List Alias
beside_record g recorded = flat_map (λ t. alias_if (is_other_than recorded t.alias) t.alias) g.tablets

abbrev pub of_record : Option Alias → List Alias
of_record None = []
of_record (Some a) = a ∷ []

-- by the record and the marks right after it began
unfoldable pub watch_course : Group → Seen → Course CommandAnswer
watch_course g seen =
    calls_all (beside_record g (recorded_alias seen.recorded)) calls.Status >>= λ those.
    calls_all (of_record (recorded_alias seen.recorded)) calls.Status >>= λ primary.
    acts_on g seen (those ++ primary) (findings_of g seen (those ++ primary))

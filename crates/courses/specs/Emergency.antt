-- The course of EmergencyReparentShard (Vitess manual): every tablet is stopped, and once every older primary is kept from committing, one of them
-- takes over what the tablet has that is ahead of all. After Sougoumarane's "Consensus algorithms at scale".
use Rattle.std.specs.Prelude.{ℕ, not, List, if◌then◌else◌}
use Rattle.std.specs.List.{flat_map}
use Rattle.shard_names.specs.declared.alias.Alias.{Alias}
use Rattle.shard_names.specs.Tablets.{alias_eq}
use Rattle.gtid_sets.specs.declared.held.Held.{Held}
use Rattle.gtid_sets.specs.Position.{Position, covers}
use Rattle.shard_calls.specs.declared.call.Call.TheVariants as calls
use Rattle.shard_calls.specs.declared.command.EmergencyOptions.{EmergencyOptions}
use Rattle.shard_calls.specs.declared.ending.CommandAnswer.{CommandAnswer}
use Rattle.shard_calls.specs.declared.event.Seen.{Seen}
use Rattle.shard_calls.specs.declared.group.Group.{Group}
use Rattle.shard_calls.specs.declared.span.Deed.{Deed}
use Rattle.shard_calls.specs.Choosing.{alias_if}
use Rattle.shard_calls.specs.Refusals.{refusal_by_seen, refusal_of_emergency}
use Rattle.shard_calls.specs.Rescuing.{first_by, heeded, helds, position_of, refusal_of_unrevoked, rescuer, stale_in, winner_of}
use Rattle.courses.specs.Walks.{Course, gives, walked, unless, unless_refused, ◌>>=◌, ◌>>◌, takes_lock, reads, needs, calls_all}
use Rattle.courses.specs.Planned.{following, holding}
use Rattle.courses.specs.Promoting.{reparents}

-- each tablet that is not to be left out promises the term; what came of it is given, if those that stopped revoke every older primary
unfoldable pub stops_all : Group → List Alias → Course (List Deed)
stops_all g ignored =
    calls_all (heeded g ignored) calls.Stop >>= λ done.
    unless (first_by stale_in done) >>
    unless (refusal_of_unrevoked g ignored done) >>
    gives done

-- tablet c comes to have all that the winner has, which sends it its log
unfoldable pub is_fed : ℕ → ℕ → Held → Alias → Course (Unit {0})
is_fed timeout u w c =
    needs w.alias calls.Feed >>
    needs c (calls.SetSource w.alias u w.position) >>= λ x.
    walked (following x) >>
    needs c (calls.WaitFor w.position timeout) >>= λ y.
    walked (holding y)

-- tablet c, which has this position, comes to have it, or has it already
unfoldable pub has_all : ℕ → ℕ → Held → Alias → Position → Course (Unit {0})
has_all timeout u w c p = if covers p w.position then gives tt else is_fed timeout u w c

-- the others that stopped
abbrev pub others_of : Alias → List Held → List Alias
others_of c hs = flat_map (λ h. alias_if (not (alias_eq h.alias c)) h.alias) hs

-- tablet c takes over what the winner has, and those that stopped are to join it
unfoldable pub takes_over : ℕ → ℕ → List Deed → Held → Alias → Course CommandAnswer
takes_over timeout u done w c =
    has_all timeout u w c (position_of (helds done) c) >>
    reparents timeout (others_of c (helds done)) u c w.position

-- who is ahead of all, and who takes over from it, by what came of the Stops
unfoldable pub rescues_by : Group → EmergencyOptions → ℕ → Seen → List Deed → Course CommandAnswer
rescues_by g o u seen done =
    unless_refused (winner_of g o seen done) >>= λ w.
    unless_refused (rescuer g o seen done w o.new_primary) >>= λ c.
    takes_over o.timeout u done w c

unfoldable pub rescues : Group → EmergencyOptions → ℕ → Seen → Course CommandAnswer
rescues g o u seen = stops_all g o.ignored >>= rescues_by g o u seen

unfoldable pub emergency_course : Group → EmergencyOptions → Course CommandAnswer
emergency_course g o =
    unless (refusal_of_emergency g o) >>
    takes_lock >>= λ u.
    reads >>= λ seen.
    unless (refusal_by_seen o.expected o.new_primary seen) >>
    rescues g o u seen

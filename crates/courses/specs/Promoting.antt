-- The points at the end of every reparent: intend, promote, record, let the others replicate, and wait until the promotion counts as committed.
-- After PlannedReparentShard and EmergencyReparentShard (Vitess manual).
use Rattle.std.specs.Prelude.{ℕ, not, List, Result, Ok}
use Rattle.shard_names.specs.declared.alias.Alias.{Alias}
use Rattle.shard_names.specs.Tablets.{alias_eq}
use Rattle.gtid_sets.specs.Position.{Position}
use Rattle.shard_calls.specs.declared.answer.Answer.{Answer}
use Rattle.shard_calls.specs.declared.answer.Answer.TheVariants as says
use Rattle.shard_calls.specs.declared.call.Call.TheVariants as calls
use Rattle.shard_calls.specs.declared.ending.CommandAnswer.{CommandAnswer}
use Rattle.shard_calls.specs.declared.ending.CommandAnswer.TheVariants as endings
use Rattle.std.specs.List.{flat_map}
use Rattle.shard_calls.specs.declared.group.Group.{Group}
use Rattle.courses.specs.declared.want.Exit.{Exit}
use Rattle.shard_calls.specs.Causes.{not_joined}
use Rattle.shard_calls.specs.Choosing.{alias_if}
use Rattle.courses.specs.Walks.{Course, strays, walked, gives, ◌>>=◌, ◌>>◌, intends, records, needs, calls_all}

-- what a tablet that was promoted has
abbrev pub promoted_position : Answer → Result Position Exit
promoted_position (says.Promoted p) = Ok p
promoted_position _ = strays

-- its promotion counts as committed
abbrev pub told_so : Answer → Result (Unit {0}) Exit
told_so says.Told = Ok tt
told_so _ = strays

-- all other tablets
abbrev pub others_than : Group → Alias → List Alias
others_than g c = flat_map (λ t. alias_if (not (alias_eq t.alias c)) t.alias) g.tablets

-- tablet c, promoted in term u, is recorded, the others join it, and the promotion has to count as committed
unfoldable pub established : ℕ → List Alias → ℕ → Alias → Position → Course CommandAnswer
established timeout others u c p =
    records c >>
    calls_all others (calls.SetSource c u p) >>= λ done.
    needs c (calls.WaitTold timeout) >>= λ x.
    walked (told_so x) >>
    gives (endings.Promoted c u (flat_map not_joined done))

unfoldable pub promotes : Alias → Position → Course Position
promotes c p =
    intends c >>
    needs c (calls.Promote p) >>= λ x.
    walked (promoted_position x)

unfoldable pub reparents : ℕ → List Alias → ℕ → Alias → Position → Course CommandAnswer
reparents timeout others u c p = promotes c p >>= λ q. established timeout others u c q

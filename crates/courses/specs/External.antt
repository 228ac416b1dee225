-- The course of TabletExternallyReparented (Vitess manual): a tablet that was promoted, and not recorded, is recorded.
use Rattle.std.specs.Prelude.{ℕ, Option, Some, Result}
use Rattle.shard_names.specs.declared.alias.Alias.{Alias}
use Rattle.topo_lock.specs.declared.intent.Intent.{Intent}
use Rattle.shard_calls.specs.declared.answer.Answer.{Answer}
use Rattle.shard_calls.specs.declared.answer.Answer.TheVariants as says
use Rattle.shard_calls.specs.declared.call.Call.TheVariants as calls
use Rattle.shard_calls.specs.declared.ending.CommandAnswer.{CommandAnswer}
use Rattle.shard_calls.specs.declared.ending.CommandAnswer.TheVariants as endings
use Rattle.shard_calls.specs.declared.group.Group.{Group}
use Rattle.courses.specs.declared.want.Exit.{Exit}
use Rattle.shard_calls.specs.Refusals.{refusal_of_undeclared, term_of_promoted}
use Rattle.courses.specs.Walks.{Course, strays, gives, walked, or_refusing, unless, ◌>>=◌, ◌>>◌, takes_lock, reads, records, needs}

-- the term of the last intent, if the tablet says that it stands as the primary of it
abbrev pub promoted_term : Alias → Option Intent → Answer → Result ℕ Exit
promoted_term a i (says.Status seen promised stand newest p) = or_refusing (term_of_promoted a newest i stand)
promoted_term a i _ = strays

unfoldable pub external_course : Group → Alias → Course CommandAnswer
external_course g a =
    unless (refusal_of_undeclared g (Some a)) >>
    takes_lock >>= λ u.
    reads >>= λ seen.
    needs a calls.Status >>= λ x.
    walked (promoted_term a seen.intent x) >>= λ t.
    records a >>
    gives (endings.Recorded t)

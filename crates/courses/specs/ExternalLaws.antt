-- The course of TabletExternallyReparented (Vitess manual) is stable and sound.
use Rattle.std.proofs.Common.{◌≡◌, ℕ, List, Some, None, Ok}
use Rattle.shard_names.specs.declared.alias.Alias.{Alias}
use Rattle.gtid_sets.specs.Position.{Position}
use Rattle.shard_calls.specs.declared.answer.Answer.{Answer}
use Rattle.shard_calls.specs.declared.answer.Answer.TheVariants as says
use Rattle.shard_calls.specs.declared.call.Call.TheVariants as calls
use Rattle.shard_calls.specs.declared.ending.CommandAnswer.TheVariants as endings
use Rattle.shard_calls.specs.declared.event.Seen.{Seen}
use Rattle.shard_calls.specs.declared.stand.Stand.{Stand}
use Rattle.shard_calls.specs.declared.span.Kind.TheVariants as kinds
use Rattle.shard_calls.specs.declared.group.Group.{Group}
use Rattle.shard_calls.specs.declared.span.Deed.{Deed}
use Rattle.shard_calls.specs.Refusals.{refusal_of_undeclared, term_of_promoted}
use Rattle.courses.specs.Walks.{walked, refusing, unless, takes_lock}
use Rattle.courses.specs.External.{promoted_term, external_course}
use Rattle.courses.specs.Laws.{IsStable}
use Rattle.courses.specs.Stable.{pure_stable, bind_stable, then_stable, takes_stable, reads_stable, records_stable, needs_stable}
use Rattle.courses.specs.Sound.{IsTaken, IsRead, IsRecorded, IsSaid, IsSound}
use Rattle.courses.specs.SoundLemmas.{gives_sound, bind_sound, then_sound, weaker_sound, unless_sound, chosen_sound, takes_sound, reads_sound, records_sound, needs_sound}
use Rattle.courses.specs.Ends.{ExternalIsRefused, AtOnce, ByTopology, ByStatus, NoPrimary, ExternalEnds, Recorded}

pub external_stable : (g : Group) (a : Alias) → IsStable (external_course g a)
unfolding external_course
external_stable g a =
    bind_stable _ _ (then_stable _ _ (pure_stable (refusing (refusal_of_undeclared g (Some a)))) takes_stable)
    (λ u. bind_stable _ _ reads_stable
    (λ seen. bind_stable _ _ (needs_stable a calls.Status)
    (λ x. bind_stable _ _ (pure_stable (promoted_term a seen.intent x)) (λ t. then_stable _ _ (records_stable a) (pure_stable (Ok (endings.Recorded t)))))))

-- what the tablet said from which the term follows
record IsPrimary (a : Alias) (span : List Deed) (seen : Seen) (t : ℕ) : Type 0 where
  heard : ℕ
  promised : ℕ
  newest : ℕ
  stand : Stand
  position : Position
  said : IsSaid span a kinds.Status (says.Status heard promised stand newest position)
  is : term_of_promoted a newest seen.intent stand ≡ Ok t

term_sound : (g : Group) (a : Alias) (span : List Deed) (seen : Seen) (x : Answer) → IsRead span seen → IsSaid span a kinds.Status x
    → IsSound g span (ExternalIsRefused g a span) (walked (promoted_term a seen.intent x)) (λ t. IsPrimary a span seen t)
term_sound g a span seen (says.Status heard promised stand newest p) is said =
    weaker_sound g span (ExternalIsRefused g a span) (ExternalIsRefused g a span) (λ t. term_of_promoted a newest seen.intent stand ≡ Ok t) (λ t. IsPrimary a span seen t) _
    (λ r cause. cause) (λ t same. record { heard = heard; promised = promised; newest = newest; stand = stand; position = p; said = said; is = same })
    (chosen_sound g span (ExternalIsRefused g a span) (term_of_promoted a newest seen.intent stand) (λ r refused. NoPrimary seen heard promised newest stand p is said refused))
term_sound g a span seen _ is said = λ rest end. tt

pub external_sound : (g : Group) (a : Alias) (span : List Deed) → IsSound g span (ExternalIsRefused g a span) (external_course g a) (ExternalEnds a span)
unfolding external_course
external_sound g a span =
    bind_sound g span (ExternalIsRefused g a span) (λ u. IsTaken span u) (ExternalEnds a span) _ _
    (then_sound g span (ExternalIsRefused g a span) (λ x. refusal_of_undeclared g (Some a) ≡ None) (λ u. IsTaken span u) (unless (refusal_of_undeclared g (Some a))) takes_lock
    (unless_sound g span (ExternalIsRefused g a span) (refusal_of_undeclared g (Some a)) (λ r refused. AtOnce refused)) (λ x none. takes_sound g span (ExternalIsRefused g a span) (λ r bar. ByTopology bar)))
    (λ u took. bind_sound g span (ExternalIsRefused g a span) (λ seen. IsRead span seen) (ExternalEnds a span) _ _
    (reads_sound g span (ExternalIsRefused g a span) (λ r bar. ByTopology bar))
    (λ seen is. bind_sound g span (ExternalIsRefused g a span) (λ x. IsSaid span a kinds.Status x) (ExternalEnds a span) _ _
    (needs_sound g span (ExternalIsRefused g a span) a calls.Status tt (λ r refused. ByStatus refused))
    (λ x said. bind_sound g span (ExternalIsRefused g a span) (λ t. IsPrimary a span seen t) (ExternalEnds a span) _ _ (term_sound g a span seen x is said)
    (λ t primary. then_sound g span (ExternalIsRefused g a span) (λ y. IsRecorded span a) (ExternalEnds a span) _ _
    (records_sound g span (ExternalIsRefused g a span) a (λ r bar. ByTopology bar))
    (λ y recorded. gives_sound g span (ExternalIsRefused g a span) (ExternalEnds a span) (endings.Recorded t)
    (Recorded seen primary.heard primary.promised primary.newest t primary.stand primary.position is primary.said primary.is recorded))))))

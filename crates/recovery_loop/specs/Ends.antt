-- The cause of what a vtorc ends with, off what it did: each tablet said how it stands, and of what is to be done about what is amiss it did the
-- first thing. After VTOrc (Vitess manual, "VTOrc").
use Rattle.std.specs.Prelude.{◌≡◌, Bool, true, false, List, [], ◌∷◌, ◌++◌, Option, Some, None}
use Rattle.shard_names.specs.declared.alias.Alias.{Alias}
use Rattle.shard_calls.specs.declared.analysis.Finding.{Finding}
use Rattle.shard_calls.specs.declared.analysis.Status.{Status}
use Rattle.shard_calls.specs.declared.ending.CommandAnswer.{CommandAnswer}
use Rattle.shard_calls.specs.declared.ending.Rest.{Rest}
use Rattle.shard_calls.specs.declared.ending.Rest.TheVariants as lines
use Rattle.shard_calls.specs.declared.event.Seen.{Seen}
use Rattle.shard_calls.specs.declared.group.Group.{Group}
use Rattle.shard_calls.specs.declared.refusal.Refusal.{Refusal}
use Rattle.shard_calls.specs.declared.span.Deed.{Deed}
use Rattle.shard_calls.specs.declared.span.Kind.TheVariants as kinds
use Rattle.shard_calls.specs.declared.span.Outcome.{Outcome}
use Rattle.shard_calls.specs.declared.stand.Stand.{Stand}
use Rattle.shard_calls.specs.declared.stand.Stand.TheVariants as stands
use Rattle.shard_calls.specs.Analysis.{Statuses, finds, is_errant, is_orphaned, is_to_repair, is_urgent, to_repair}
use Rattle.shard_calls.specs.Causes.{findings_of, forced, joined_or_left, left_by, plain, statuses}
use Rattle.shard_calls.specs.Refusals.{recorded_alias}
use Rattle.courses.specs.Sound.{AreCalled, IsBarred, IsDrained, IsSettled}
use Rattle.courses.specs.Ends.{EmergencyEnds, EmergencyIsRefused, PlannedEnds, PlannedIsRefused}
use Rattle.recovery_loop.specs.Watch.{watched, lines_of, beside_record, of_record}

-- ---- repairs beside the primary p

-- what came of the repair of what was found: a tablet with errant transactions was marked as drained, any other was asked to replicate from the
-- primary
pub data IsRepair (span : List Deed) (p : Alias) (f : Finding) : Rest → Type 0 where
  Drains : is_errant f.analysis ≡ true → IsDrained span f.alias → IsRepair span p f (lines.Drained f.alias)
  Joins : (o : Outcome) → is_errant f.analysis ≡ false → IsSettled span f.alias kinds.SetSource o
      → IsRepair span p f (joined_or_left p f.alias (left_by o))

-- what came of the repairs of these, one after another; where the topology refuses to mark a tablet, that is the last line
pub data AreRepairs (span : List Deed) (p : Alias) : List Finding → List Rest → Type 0 where
  Done : AreRepairs span p [] []
  Barred : (f : Finding) (more : List Finding) (r : Refusal) → is_errant f.analysis ≡ true → IsBarred span r
      → AreRepairs span p (f ∷ more) (lines.Refused r None ∷ [])
  Then : (f : Finding) (more : List Finding) (line : Rest) (rest : List Rest) → IsRepair span p f line → AreRepairs span p more rest
      → AreRepairs span p (f ∷ more) (line ∷ rest)

-- ---- what was done

abbrev pub is_primary : Stand → Bool
is_primary (stands.Primary t) = true
is_primary _ = false

-- it said that it stands as a primary
abbrev pub leads : Option Status → Bool
leads None = false
leads (Some s) = is_primary s.stand

abbrev pub is_led : Option Alias → Statuses → Bool
is_led None said = false
is_led (Some p) said = leads (said p)

-- What was done about these findings, by what the tablets said. A primary was to be elected, or else to be replaced, or else tablets were to be
-- repaired beside the recorded one, or else nothing was to be done.
pub data IsDoneAbout (g : Group) (seen : Seen) (span : List Deed) (said : Statuses) (findings : List Finding) : List Rest → Type 0 where
  Elects : (x : CommandAnswer) → finds is_orphaned findings ≡ true → PlannedEnds g plain span x → IsDoneAbout g seen span said findings (lines_of x)
  CannotElect : (r : Refusal) → finds is_orphaned findings ≡ true → PlannedIsRefused g plain span r
      → IsDoneAbout g seen span said findings (lines.Refused r None ∷ [])
  Replaces : (x : CommandAnswer) → finds is_orphaned findings ≡ false → finds is_urgent findings ≡ true → EmergencyEnds g forced span x
      → IsDoneAbout g seen span said findings (lines_of x)
  CannotReplace : (r : Refusal) → finds is_orphaned findings ≡ false → finds is_urgent findings ≡ true → EmergencyIsRefused g forced span r
      → IsDoneAbout g seen span said findings (lines.Refused r None ∷ [])
  Repairs : (p : Alias) (rest : List Rest) → finds is_orphaned findings ≡ false → finds is_urgent findings ≡ false
      → finds is_to_repair findings ≡ true
      → recorded_alias seen.recorded ≡ Some p → leads (said p) ≡ true → AreRepairs span p (to_repair findings) rest
      → IsDoneAbout g seen span said findings rest
  CannotLock : (p : Alias) (r : Refusal) → finds is_orphaned findings ≡ false → finds is_urgent findings ≡ false
      → finds is_to_repair findings ≡ true
      → recorded_alias seen.recorded ≡ Some p → leads (said p) ≡ true → IsBarred span r
      → IsDoneAbout g seen span said findings (lines.Refused r None ∷ [])
  Unled : finds is_orphaned findings ≡ false → finds is_urgent findings ≡ false → finds is_to_repair findings ≡ true
      → is_led (recorded_alias seen.recorded) said ≡ false → IsDoneAbout g seen span said findings []
  Nothing : finds is_orphaned findings ≡ false → finds is_urgent findings ≡ false → finds is_to_repair findings ≡ false
      → IsDoneAbout g seen span said findings []

-- what a vtorc ends with: all tablets were asked how they stand, the recorded primary last, and what was found is what is amiss by what they said
pub data WatchEnds (g : Group) (seen : Seen) (span : List Deed) : CommandAnswer → Type 0 where
  Watched : (those primary : List Deed) (rest : List Rest)
      → AreCalled span (beside_record g (recorded_alias seen.recorded)) kinds.Status those
      → AreCalled span (of_record (recorded_alias seen.recorded)) kinds.Status primary
      → IsDoneAbout g seen span (statuses (those ++ primary)) (findings_of g seen (those ++ primary)) rest
      → WatchEnds g seen span (watched (findings_of g seen (those ++ primary)) rest)

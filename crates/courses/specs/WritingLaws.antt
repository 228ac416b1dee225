-- The courses of a write and of a show are stable and sound. A client is told of its write once the entry counts as committed (MySQL 8.0 manual,
-- semisynchronous replication).
use Rattle.std.proofs.Common.{◌≡◌, refl, Bool, true, false, List, Option, Some, None, Result, Ok, Err}
use Rattle.shard_names.specs.declared.alias.Alias.{Alias}
use Rattle.gtid_sets.specs.Position.{Position}
use Rattle.topo_lock.specs.declared.intent.Record.{Record}
use Rattle.shard_calls.specs.declared.ending.CommandAnswer.TheVariants as endings
use Rattle.shard_calls.specs.declared.group.Group.{Group}
use Rattle.shard_calls.specs.declared.refusal.Refusal.{Refusal}
use Rattle.shard_calls.specs.declared.stand.Standing.{Standing}
use Rattle.shard_calls.specs.declared.span.Deed.{Deed}
use Rattle.shard_calls.specs.declared.span.Deed.TheVariants as deeds
use Rattle.shard_calls.specs.declared.span.Transaction.{Transaction}
use Rattle.shard_calls.specs.Refusals.{or_else, recorded_alias}
use Rattle.courses.specs.Writing.{told_by, written_by, writes_at, write_course, shown_by, show_course}
use Rattle.courses.specs.Laws.{IsStable}
use Rattle.courses.specs.Stable.{pure_stable, bind_stable, writes_stable, tells_stable}
use Rattle.courses.specs.Sound.{IsIn, IsWritten, IsSound}
use Rattle.courses.specs.SoundLemmas.{gives_sound, bind_sound, writes_sound, tells_sound}
use Rattle.courses.specs.Ends.{WriteEnds, Committed, Unknown, NotPrimary, Nowhere}

written_stable : (a : Alias) (reply : Result Transaction Standing) → IsStable (written_by a reply)
written_stable a (Err stand) = pure_stable (Ok (endings.NotPrimary a stand))
written_stable a (Ok x) = bind_stable _ _ tells_stable (λ committed. pure_stable (Ok (told_by a x committed)))

at_stable : (to : Option Alias) → IsStable (writes_at to)
at_stable None = pure_stable (Ok endings.NoPrimaryRecorded)
at_stable (Some a) = bind_stable _ _ (writes_stable a) (λ reply. written_stable a reply)

pub write_stable : (to : Option Alias) (recorded : Option Record) → IsStable (write_course to recorded)
unfolding write_course
write_stable to recorded = at_stable (or_else to (recorded_alias recorded))

pub show_stable : (a : Alias) (stand : Standing) (p : Position) → IsStable (show_course a stand p)
unfolding show_course
show_stable a stand p = pure_stable (Ok (shown_by a stand p))

abbrev Never : Refusal → Type 0
Never r = ⊥

told_ends : (to : Option Alias) (recorded : Option Record) (span : List Deed) (a : Alias) (x : Transaction) (committed : Bool)
    → or_else to (recorded_alias recorded) ≡ Some a → IsWritten span a (Ok x) → IsIn span (deeds.Told committed) → WriteEnds to recorded span (told_by a x committed)
told_ends to recorded span a x true at written told = Committed a x at written told
told_ends to recorded span a x false at written told = Unknown a x at written told

written_sound : (to : Option Alias) (recorded : Option Record) (g : Group) (span : List Deed) (a : Alias) (reply : Result Transaction Standing)
    → or_else to (recorded_alias recorded) ≡ Some a → IsWritten span a reply → IsSound g span Never (written_by a reply) (WriteEnds to recorded span)
written_sound to recorded g span a (Err stand) at written = gives_sound g span Never (WriteEnds to recorded span) (endings.NotPrimary a stand) (NotPrimary a stand at written)
written_sound to recorded g span a (Ok x) at written =
    bind_sound g span Never (λ committed. IsIn span (deeds.Told committed)) (WriteEnds to recorded span) _ _ (tells_sound g span Never)
    (λ committed told. gives_sound g span Never (WriteEnds to recorded span) (told_by a x committed) (told_ends to recorded span a x committed at written told))

nowhere : (to : Option Alias) (other : Option Alias) → or_else to other ≡ None → (to ≡ None) × (other ≡ None)
nowhere None other none = (refl, none)
nowhere (Some a) other none = absurd (let no_way : Some a ≡ None = none in cc)

at_sound : (to : Option Alias) (recorded : Option Record) (g : Group) (span : List Deed) (place : Option Alias) → or_else to (recorded_alias recorded) ≡ place
    → IsSound g span Never (writes_at place) (WriteEnds to recorded span)
at_sound to recorded g span None at =
    let both = nowhere to (recorded_alias recorded) at in gives_sound g span Never (WriteEnds to recorded span) endings.NoPrimaryRecorded (Nowhere both.0 both.1)
at_sound to recorded g span (Some a) at =
    bind_sound g span Never (λ reply. IsWritten span a reply) (WriteEnds to recorded span) _ _ (writes_sound g span Never a)
    (λ reply written. written_sound to recorded g span a reply at written)

pub write_sound : (to : Option Alias) (recorded : Option Record) (g : Group) (span : List Deed) → IsSound g span Never (write_course to recorded) (WriteEnds to recorded span)
unfolding write_course
write_sound to recorded g span = at_sound to recorded g span (or_else to (recorded_alias recorded)) refl

pub show_sound : (a : Alias) (stand : Standing) (p : Position) (g : Group) (span : List Deed) → IsSound g span Never (show_course a stand p) (λ x. x ≡ shown_by a stand p)
unfolding show_course
show_sound a stand p g span = gives_sound g span Never (λ x. x ≡ shown_by a stand p) (shown_by a stand p) refl

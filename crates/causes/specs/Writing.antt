-- The cause of a write's answer, where it is known whether the tablet is still the primary of the term in which it wrote.
use Rattle.std.specs.Prelude.{ℕ, Bool, false, not, ◌&&◌, Option, is_none}
use Rattle.std.specs.List.{list_any}
use Rattle.shard_names.specs.declared.alias.Alias.{Alias}
use Rattle.shard_calls.specs.declared.ending.CommandAnswer.{CommandAnswer}
use Rattle.shard_calls.specs.declared.ending.CommandAnswer.TheVariants as answers
use Rattle.shard_calls.specs.declared.state.CommandState.{CommandState}
use Rattle.shard_calls.specs.Causes.{wrote_this, is_told_act, says_not_primary, has_no_other_cause}
use Rattle.shard_calls.specs.Stands.{is_primary_of}
use Rattle.shard_calls.specs.World.{World}

-- whether the tablet of an unknown write is still the primary of its term
abbrev pub stands_for : World → CommandAnswer → Bool
stands_for w (answers.Unknown g a t) = is_primary_of (w.tablets a).stand t
stands_for w _ = false

abbrev pub write_cause : Bool → Option Alias → CommandState → CommandAnswer → Bool
write_cause is_primary to s (answers.Committed g a t) = wrote_this s.wrote g a t && list_any is_told_act s.acts
write_cause is_primary to s (answers.NotPrimary a at) = list_any (says_not_primary a at) s.acts
write_cause is_primary to s answers.NoPrimaryRecorded = is_none to && is_none s.opening.seen.recorded
write_cause is_primary to s (answers.Unknown g a t) = wrote_this s.wrote g a t && not (list_any is_told_act s.acts) && not is_primary
write_cause is_primary to s (answers.Refused refusal undone) = has_no_other_cause refusal undone
write_cause is_primary to s _ = false

-- The cause of a write's answer in a world.
use Rattle.std.proofs.Common.{◌≡◌, ◌∙◌, refl, ap, Bool, Option}
use Rattle.shard_names.specs.declared.alias.Alias.{Alias}
use Rattle.shard_calls.specs.declared.ending.CommandAnswer.{CommandAnswer}
use Rattle.shard_calls.specs.declared.ending.CommandAnswer.TheVariants as answers
use Rattle.shard_calls.specs.declared.state.CommandState.{CommandState}
use Rattle.shard_calls.specs.Causes.{has_write_cause}
use Rattle.shard_calls.specs.World.{World}
use Rattle.causes.specs.Writing.{stands_for, write_cause}

in_world : (w : World) (to : Option Alias) (s : CommandState) (x : CommandAnswer) → write_cause (stands_for w x) to s x ≡ has_write_cause w to s x
in_world w to s (answers.Promoted a t left) = refl
in_world w to s (answers.NothingToDo a) = refl
in_world w to s (answers.Recorded t) = refl
in_world w to s (answers.Refused refusal tried) = refl
in_world w to s (answers.Vtorc findings rest) = refl
in_world w to s (answers.Committed g a t) = refl
in_world w to s (answers.NotPrimary a at) = refl
in_world w to s answers.NoPrimaryRecorded = refl
in_world w to s (answers.Unknown g a t) = refl
in_world w to s (answers.Shown a at p) = refl
in_world w to s (answers.Shard shard recorded) = refl
in_world w to s (answers.Tablets rows) = refl

pub cause_of_write : (w : World) (to : Option Alias) (s : CommandState) (x : CommandAnswer) (b : Bool) → b ≡ stands_for w x → write_cause b to s x ≡ has_write_cause w to s x
cause_of_write w to s x b e = ap (λ (c : Bool). write_cause c to s x) e ∙ in_world w to s x

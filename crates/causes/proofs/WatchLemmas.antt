-- Each tablet was asked exactly where each alias of one was; and what refuses a reparent without options.
use Rattle.std.proofs.Common.{◌≡◌, ◌∙◌, refl, sym, ap, subst, Bool, ◌&&◌, List, [], ◌∷◌, Option, None, Result, Ok, Err, IfOk, is_some, is_none, map}
use Rattle.std.specs.List.{list_all}
use Rattle.shard_names.specs.declared.tablet.Tablet.{Tablet}
use Rattle.shard_calls.specs.declared.command.EmergencyOptions.{EmergencyOptions}
use Rattle.shard_base.specs.declared.memory.OutOfMemory.{OutOfMemory}
use Rattle.shard_calls.specs.declared.ending.Rest.{Rest}
use Rattle.shard_calls.specs.declared.ending.Rest.TheVariants as lines
use Rattle.shard_calls.specs.declared.group.Group.{Group}
use Rattle.shard_calls.specs.declared.refusal.Refusal.{Refusal}
use Rattle.shard_calls.specs.declared.span.Deed.{Deed}
use Rattle.shard_calls.specs.declared.state.CommandState.{CommandState}
use Rattle.shard_calls.specs.Causes.{emergency_is_refused, forced, is_line_of_reparent}
use Rattle.shard_calls.specs.Choosing.{are_settled, outcome_of}
use Rattle.causes.specs.Watching.{forced_refuses, line_alone, is_line}

pub asked_all : (ts : List Tablet) (done : List Deed) → list_all (λ t. is_some (outcome_of done t.alias)) ts ≡ are_settled (map (λ t. t.alias) ts) done
asked_all [] done = refl
asked_all (t ∷ ts) done = ap (λ (b : Bool). is_some (outcome_of done t.alias) && b) (asked_all ts done)

pub forced_cause : (g : Group) (o : EmergencyOptions) (span : List Deed) (r : Refusal) (undone : Option Bool) (b : Bool)
    → o ≡ forced → undone ≡ None → b ≡ emergency_is_refused g o span r → b ≡ forced_refuses g span r undone
forced_cause g o span r undone b f n e =
    e ∙ ap (λ (x : EmergencyOptions). emergency_is_refused g x span r) f ∙ ap (λ (u : Option Bool). is_none u && emergency_is_refused g forced span r) (sym n)

-- ---- the one line of a reparent inside

line_so : (f : Refusal → Option Bool → Bool) (s : CommandState) (span : List Deed) (rest : List Rest)
    → is_line f s span (line_alone rest) ≡ is_line_of_reparent f s span rest
line_so f s span [] = refl
line_so f s span (lines.Promoted a t left ∷ []) = refl
line_so f s span (lines.Refused r tried ∷ []) = refl
line_so f s span (lines.Joined a to ∷ []) = refl
line_so f s span (lines.Left a left ∷ []) = refl
line_so f s span (lines.Drained a ∷ []) = refl
line_so f s span (lines.Promoted a t left ∷ y ∷ ys) = refl
line_so f s span (lines.Refused r tried ∷ y ∷ ys) = refl
line_so f s span (lines.Joined a to ∷ y ∷ ys) = refl
line_so f s span (lines.Left a left ∷ y ∷ ys) = refl
line_so f s span (lines.Drained a ∷ y ∷ ys) = refl

pub as_line : (f : Refusal → Option Bool → Bool) (s : CommandState) (span : List Deed) (rest : List Rest) (r : Result Bool OutOfMemory)
    → IfOk r (λ b. b ≡ is_line f s span (line_alone rest)) → IfOk r (λ b. b ≡ is_line_of_reparent f s span rest)
as_line f s span rest (Ok b) is = is ∙ line_so f s span rest
as_line f s span rest (Err e) is = is

-- A policy is read by its name alone.
use Rattle.std.proofs.Common.{◌≡◌, ◌≢◌, ◌↔◌, ℕ, List, Option, Some, None, Result, Ok, Err, IsErr, refl, sym, ap, ◌∙◌}
use Rattle.std.specs.Result.{result_ok}
use Rattle.durability.specs.declared.policy.Durability.{Durability}
use Rattle.durability.specs.declared.policy.UnknownPolicy.{UnknownPolicy}
use Rattle.durability.specs.Policies.{policy_name}
use Rattle.durability.proofs.NameLemmas.{named, found_by_name}
use Rattle.script_commands.specs.Words.{policy_reading}

pub policy_of : (text : List ℕ) (p : Durability) → policy_reading text ≡ Some p → text ≡ policy_name p
unfolding policy_reading
policy_of text p h = named text p h

pub policy_is : (p : Durability) → policy_reading (policy_name p) ≡ Some p
unfolding policy_reading
policy_is p = found_by_name (policy_name p) p refl

-- a reader that answers each policy for its name alone, and refuses what names none
pub reader_is : (text : List ℕ) (r : Result Durability UnknownPolicy) → ((p : Durability) → (r ≡ Ok p) ↔ (text ≡ policy_name p)) → (IsErr r ↔ ((p : Durability) → text ≢ policy_name p)) → result_ok r ≡ policy_reading text
reader_is text (Ok p) answers refuses = sym (ap (λ (t : List ℕ). policy_reading t) ((answers p).0 refl) ∙ policy_is p)
reader_is text (Err e) answers refuses = by_reading (policy_reading text) refl
  where
    by_reading : (o : Option Durability) → policy_reading text ≡ o → None ≡ policy_reading text
    by_reading None is = sym is
    by_reading (Some p) is = absurd (refuses.0 refl p (policy_of text p is))

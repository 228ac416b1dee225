-- A policy is found by its name alone.
use Rattle.std.proofs.Common.{◌≡◌, ◌≢◌, Bool, true, false, refl, sym, ap, ◌∙◌, subst, List, [], ◌∷◌, ℕ, Option, Some, None, Result, Ok, IsErr, cond, ◌↔◌}
use Rattle.std.specs.Option.{ok_or}
use Rattle.std.specs.List.{find}
use Rattle.std.specs.Str.{bytes_eq}
use Rattle.std.proofs.lemmas.Slice.Eq.{bytes_eq-Decides}
use Rattle.durability.specs.declared.policy.Durability.{Durability}
use Rattle.durability.specs.declared.policy.UnknownPolicy.{UnknownPolicy}
use Rattle.durability.specs.declared.policy.Durability.TheVariants as policy
use Rattle.durability.specs.Policies.{policy_name}

abbrev pub policies : List Durability
policies = policy.None ∷ policy.SemiSync ∷ policy.CrossCell ∷ policy.SemiSyncWithRdonlyAck ∷ policy.CrossCellWithRdonlyAck ∷ []

abbrev pub policy_of_name : List ℕ → Option Durability
policy_of_name name = find (λ policy. bytes_eq (policy_name policy) name) policies

found_passes : (test : Durability → Bool) (ps : List Durability) (p : Durability) → find test ps ≡ Some p → test p ≡ true
found_passes test [] p h = absurd (cc)
found_passes test (q ∷ ps) p h =
    elim (test q) as (λ b. test q ≡ b → cond b (Some q) (find test ps) ≡ Some p → test p ≡ true) [
      | true ↦ λ e same. let here : q ≡ p = cc in ap test (sym here) ∙ e
      | false ↦ λ e rest. found_passes test ps p rest
    ] refl h

-- each policy is found by its own name
found_by_own : (p : Durability) → policy_of_name (policy_name p) ≡ Some p
found_by_own policy.None = refl
found_by_own policy.SemiSync = refl
found_by_own policy.CrossCell = refl
found_by_own policy.SemiSyncWithRdonlyAck = refl
found_by_own policy.CrossCellWithRdonlyAck = refl

pub named : (name : List ℕ) (p : Durability) → policy_of_name name ≡ Some p → name ≡ policy_name p
named name p h = sym ((bytes_eq-Decides (policy_name p) name).0 (found_passes (λ q. bytes_eq (policy_name q) name) policies p h))

pub found_by_name : (name : List ℕ) (p : Durability) → name ≡ policy_name p → policy_of_name name ≡ Some p
found_by_name name p e = ap policy_of_name e ∙ found_by_own p

-- what `read_policy` answers
pub answer_named : (name : List ℕ) (o : Option Durability) (r : Result Durability UnknownPolicy) → o ≡ policy_of_name name → r ≡ ok_or o (record {})
    → (p : Durability) → (r ≡ Ok p) ↔ (name ≡ policy_name p)
answer_named name None r was is p = (
  (λ same. absurd (cc)),
  (λ e. let found = found_by_name name p e in absurd (cc)),
)
answer_named name (Some q) r was is p = (
  (λ same. let here : q ≡ p = cc in subst (λ (s : Durability). name ≡ policy_name s) here (named name q (sym was))),
  (λ e. let found = found_by_name name p e in cc),
)

pub answer_unknown : (name : List ℕ) (o : Option Durability) (r : Result Durability UnknownPolicy) → o ≡ policy_of_name name → r ≡ ok_or o (record {})
    → IsErr r ↔ ((p : Durability) → name ≢ policy_name p)
answer_unknown name None r was is = (
  (λ err p e. let found = found_by_name name p e in absurd (cc)),
  (λ none. subst (λ (s : Result Durability UnknownPolicy). IsErr s) (sym is) refl),
)
answer_unknown name (Some q) r was is = (
  (λ err. absurd (let at : IsErr {T = Durability} {E = UnknownPolicy} (Ok q) = subst (λ (s : Result Durability UnknownPolicy). IsErr s) is err in not_both at)),
  (λ none. absurd (none q (named name q (sym was)))),
) where
  not_both : false ≡ true → ⊥
  not_both e = absurd (cc)

-- Four counts, one behind another.
use Rattle.std.proofs.Common.{◌≡◌, ℕ, List, ◌++◌, ap, ◌∙◌}
use Rattle.std.specs.Prelude.{codes}
use Rattle.std.proofs.lemmas.List.{append_assoc}
use Rattle.shard_calls.specs.declared.event.Step.{Step}
use Rattle.vtctld_text.specs.Summary.{ended, refused, intended, committed, terms_word, counted, counts_text}

-- four texts, each behind what stood there
four : (o a b c d p q r s : List ℕ) → a ≡ o ++ p → b ≡ a ++ q → c ≡ b ++ r → d ≡ c ++ s → d ≡ o ++ (((p ++ q) ++ r) ++ s)
four o a b c d p q r s first second third fourth =
    let two : b ≡ o ++ (p ++ q) = second ∙ ap (λ (t : List ℕ). t ++ q) first ∙ append_assoc o p q in
    let three : c ≡ o ++ ((p ++ q) ++ r) = third ∙ ap (λ (t : List ℕ). t ++ r) two ∙ append_assoc o (p ++ q) r in
    fourth ∙ ap (λ (t : List ℕ). t ++ s) three ∙ append_assoc o ((p ++ q) ++ r) s

pub counts_are : (steps : List Step) (o a b c d : List ℕ) (n m k l : ℕ) (word : List ℕ) → n ≡ ended steps → m ≡ refused steps → k ≡ intended steps → l ≡ committed steps → word ≡ terms_word k
    → a ≡ o ++ counted n (codes " commands, ") → b ≡ a ++ counted m (codes " refused, ") → c ≡ b ++ counted k word → d ≡ c ++ counted l (codes " committed") → d ≡ o ++ counts_text steps
unfolding counts_text
counts_are steps o a b c d n m k l word n_is m_is k_is l_is word_is first second third fourth =
    let spelled : word ≡ terms_word (intended steps) = word_is ∙ ap (λ (j : ℕ). terms_word j) k_is in
    let written : d ≡ o ++ (((counted n (codes " commands, ") ++ counted m (codes " refused, ")) ++ counted k word) ++ counted l (codes " committed")) =
    four o a b c d (counted n (codes " commands, ")) (counted m (codes " refused, ")) (counted k word) (counted l (codes " committed")) first second third fourth in
    written ∙ (λ i. o ++ (((counted (n_is i) (codes " commands, ") ++ counted (m_is i) (codes " refused, ")) ++ counted (k_is i) (spelled i)) ++ counted (l_is i) (codes " committed")))

use Rattle.std.proofs.Common.{List, ℕ, Bor, not, map, length, ap, ◌∙◌}
use Rattle.std.specs.Prelude.{filter, ◌==◌}
use Rattle.shard_script.proofs.WordLemmas.{map-filter}
use Rattle.shard_script.proofs.line.words_of.Goals as goal

pub returns : goal.returns
returns c =
    ap (λ (ps : List (Bor (List ℕ))). map (λ (p : Bor (List ℕ)). p.now) ps) c.drop_empty.ensures
    ∙ map-filter (λ (p : Bor (List ℕ)). p.now) (λ (w : List ℕ). not (length w == 0)) c.in_ok-words.words.items
    ∙ ap (λ (ws : List (List ℕ)). filter (λ (w : List ℕ). not (length w == 0)) ws) c.in_ok-words.ensures

use Rattle.std.proofs.Common.{◌≡◌, ◌∷◌, ◌++◌, List, ℕ, ap, sym, ◌∙◌}
use Rattle.std.proofs.lemmas.List.{append_assoc}
use Rattle.shard_script.specs.Script.{without_returns, kept_byte}
use Rattle.shard_script.proofs.script.without_returns.Goals as goal

pub loop-byte-preserved : goal.loop-byte-preserved
loop-byte-preserved c =
    let left : c.loop-byte.left.now ≡ c.in-Some.byte.now ∷ c.in-Some.rest.now = c.in-Some.ensures.cases.0 in
    ap (λ (xs : List ℕ). xs ++ without_returns c.in-Some.rest.now) c.in_ok-push_kept.ensures
    ∙ append_assoc c.loop-byte.plain.items (kept_byte c.in-Some.byte.now c.in-Some.rest.now) (without_returns c.in-Some.rest.now)
    ∙ ap (λ (xs : List ℕ). c.loop-byte.plain.items ++ without_returns xs) (sym left)
    ∙ c.loop-byte.invariant

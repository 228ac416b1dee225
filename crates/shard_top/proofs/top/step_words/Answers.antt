use Rattle.std.proofs.Common.{List, ℕ, map, Vec, Global}
use Rattle.shard_top.proofs.TopLemmas.{gen_words, said_usage, safe_empty, for_some_text}
use Rattle.shard_top.proofs.top.step_words.Goals as goal

pub returns-in-Ok-Gen-clause-answered : goal.returns-in-Ok-Gen-clause-answered
returns-in-Ok-Gen-clause-answered g c = λ calm.
    for_some_text _ _ (λ (text : List ℕ).
    let words : List (List ℕ) = map (λ (w : Vec ℕ Global). w.items) c.args.words.now.items in
    let asked = rw c.deref.ensures.value at c.in-Ok-Gen.ensures.reading in
    let same = rw c.in-Ok-Gen.field-0-is at asked in
    gen_words words text c.in-Ok-Gen.rounds _ _ _ _ _ _ same c.run_generated.ensures.answers)

pub returns-in-Err-clause-answered : goal.returns-in-Err-clause-answered
returns-in-Err-clause-answered g c = λ calm.
    for_some_text _ _ (λ (text : List ℕ).
    let words : List (List ℕ) = map (λ (w : Vec ℕ Global). w.items) c.args.words.now.items in
    let same = rw c.deref.ensures.value at c.in-Err.ensures.reading in
    rw c.ended.ensures.status
    (said_usage words text c.in-Err.word.now _ c.say-status.result _ _ _ _ c.usage_text.result same c.ended.ensures.empty c.ended.ensures.unnoted c.usage_text.ensures c.say-status.ensures.said
    c.say-status.ensures.part))

pub returns-in-Err-clause-safe : goal.returns-in-Err-clause-safe
returns-in-Err-clause-safe g c = safe_empty _ c.ended.ensures.empty

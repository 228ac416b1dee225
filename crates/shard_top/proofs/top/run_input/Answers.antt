use Rattle.std.proofs.Common.{List, ℕ}
use Rattle.shard_top.proofs.TopLemmas.{gave_up_text, safe_empty, for_some_text, told_part}
use Rattle.shard_top.proofs.top.run_input.Goals as goal

pub returns-in-Err-OutOfMemory-clause-answered : goal.returns-in-Err-OutOfMemory-clause-answered
returns-in-Err-OutOfMemory-clause-answered g c = λ calm.
    for_some_text _ _ (λ (text : List ℕ). gave_up_text c.args.asked text _ _ _ _ _ c.ended.ensures.status c.ended.ensures.empty c.ended.ensures.unnoted)

pub returns-in-Err-Failed-clause-failed_said : goal.returns-in-Err-Failed-clause-failed_said
returns-in-Err-Failed-clause-failed_said g c = λ rose. told_part c.read_fault_text.result _ _ _ c.read_fault_text.ensures c.say-status.ensures.part

pub returns-in-Err-Failed-clause-safe : goal.returns-in-Err-Failed-clause-safe
returns-in-Err-Failed-clause-safe g c = safe_empty _ c.ended-in-Err-Failed.ensures.empty

pub returns-in-Err-OutOfMemory-clause-safe : goal.returns-in-Err-OutOfMemory-clause-safe
returns-in-Err-OutOfMemory-clause-safe g c = safe_empty _ c.ended.ensures.empty

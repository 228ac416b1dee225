use Rattle.std.specs.Prelude.{⊤}
use Rattle.shard_top.proofs.StreamLemmas.{put_more, put_longer}
use Rattle.shard_top.proofs.telling.put_history.Goals as goal

pub returns-in-Ok : goal.returns-in-Ok
returns-in-Ok g c = λ notes.
    let first = c.in-Ok.ensures _ c.opening_of-opening.ensures in
    put_more c.put_all_steps.result _ _ _ _ _ _ _ _ first.0 first.1 c.put_all_steps.ensures

pub returns-in-Err : goal.returns-in-Err
returns-in-Err g c = λ notes. put_longer ⊤ ⊤ c.in-Err.fault _ _ _ _ _ _ (c.in-Err.ensures _ c.opening_of-opening.ensures)

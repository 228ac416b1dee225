use Rattle.shard_top.proofs.StreamLemmas.{put_more}
use Rattle.shard_top.proofs.telling.put_run.Goals as goal

pub returns-in-Ok : goal.returns-in-Ok
returns-in-Ok g c = put_more c.put_text.result _ _ _ _ _ _ _ _ c.in-Ok.ensures.0 c.in-Ok.ensures.1 (c.put_text.ensures _ c.stop_of.ensures)

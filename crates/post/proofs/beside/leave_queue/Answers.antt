use Rattle.post.specs.Kept.{taken_out}
use Rattle.post.proofs.ChangeLemmas.{set_one}
use Rattle.post.proofs.beside.leave_queue.Goals as goal

pub returns : goal.returns
returns c = set_one c.args.queues.now.items c.args.at (taken_out c.args.number) c.index_mut.result.now c.take_out.new.self c.requires c.index_mut.ensures.value c.take_out.ensures

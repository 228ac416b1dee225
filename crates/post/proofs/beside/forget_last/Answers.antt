use Rattle.post.specs.Kept.{without_last}
use Rattle.post.proofs.ChangeLemmas.{set_one}
use Rattle.post.proofs.beside.forget_last.Goals as goal

pub returns : goal.returns
returns c = set_one c.args.queues.now.items c.args.at without_last c.index_mut.result.now c.pop.new.self c.requires c.index_mut.ensures.value c.pop.ensures

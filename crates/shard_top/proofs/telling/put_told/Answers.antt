use Rattle.shard_top.proofs.telling.put_told.Goals as goal

pub returns-in-History : goal.returns-in-History
returns-in-History g c = rw c.in-History.is (c.put_history.ensures c.args.notes.now)

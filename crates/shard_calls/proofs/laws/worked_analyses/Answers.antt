use Rattle.shard_calls.proofs.WatchExamples as examples
use Rattle.shard_calls.proofs.laws.worked_analyses.Goals as goal

pub returns-clause-primaries : goal.returns-clause-primaries
returns-clause-primaries c = examples.primaries_are_analysed

pub returns-clause-others : goal.returns-clause-others
returns-clause-others c = examples.others_are_analysed

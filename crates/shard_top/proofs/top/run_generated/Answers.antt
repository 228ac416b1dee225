use Rattle.shard_script.proofs.GeneratorLemmas.{generated_fits}
use Rattle.shard_script.specs.Generator.{generated}
use Rattle.shard_top.specs.Texts.{told_of}
use Rattle.shard_top.specs.declared.words.Asked.TheVariants as asks
use Rattle.shard_top.proofs.TopLemmas.{gave_up_script}
use Rattle.shard_top.proofs.top.run_generated.Goals as goal

pub returns-in-Err-clause-answers : goal.returns-in-Err-clause-answers
returns-in-Err-clause-answers g c =
    gave_up_script (generated c.args.rounds) (told_of (asks.Gen c.args.rounds) (generated c.args.rounds)) _ _ _ _ _ (generated_fits c.args.rounds c.requires.few) c.ended.ensures.status c.ended.ensures.empty c.ended.ensures.unnoted

use Rattle.shard_top.proofs.WordLemmas.{no_second}
use Rattle.shard_top.proofs.words.second_word.Goals as goal

pub returns-in-len1 : goal.returns-in-len1
returns-in-len1 c = no_second c.args.words.now c.in-len1.len_below

use Rattle.history_text.proofs.NameLemmas.{alias_read_back, shard_read_back, aliases_differ, shards_differ}
use Rattle.history_text.proofs.laws.names_read_back.Goals as goal

pub returns : goal.returns
returns c = record { aliases = alias_read_back; shards = shard_read_back; aliases_differ = aliases_differ; shards_differ = shards_differ }

-- Why a command may give up a call, if the call was sent.
use Rattle.std.specs.Prelude.{ℕ, Option}
use Rattle.shard_base.specs.Options.{◌>>=◌}
use Rattle.shard_calls.specs.declared.post.Message.{Message}
use Rattle.shard_calls.specs.declared.state.CommandState.{CommandState}
use Rattle.shard_calls.specs.declared.why.Why.{Why}
use Rattle.shard_calls.specs.Messages.{why_by}
use Rattle.shard_calls.specs.World.{World}

abbrev pub why_in : World → ℕ → ℕ → CommandState → Option Message → Option Why
why_in w c k s m = m >>= (λ n. why_by w c k s n n.content)

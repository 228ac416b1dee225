-- What became of the calls of a command (Vitess manual, the calls of vtctld to its tablets): the first of an answer that was delivered and of
-- giving it up.
use Rattle.std.specs.Prelude.{ℕ, List, Option, Some, None, filter_map}
use Rattle.shard_base.specs.Options.{◌>>=◌}
use Rattle.shard_names.specs.declared.alias.Alias.{Alias}
use Rattle.shard_calls.specs.declared.answer.Answer.{Answer}
use Rattle.shard_calls.specs.declared.call.Call.{Call}
use Rattle.shard_calls.specs.declared.post.Content.{Content}
use Rattle.shard_calls.specs.declared.post.Content.TheVariants as contents
use Rattle.shard_calls.specs.declared.post.Message.{Message}
use Rattle.shard_calls.specs.declared.post.Settled.{Settled}
use Rattle.shard_calls.specs.declared.post.Settled.TheVariants as settleds
use Rattle.shard_calls.specs.declared.state.Act.{Act}
use Rattle.shard_calls.specs.declared.state.Act.TheVariants as acts
use Rattle.shard_calls.specs.declared.span.Outcome.{Outcome}
use Rattle.shard_calls.specs.declared.span.Outcome.TheVariants as outcomes
use Rattle.shard_calls.specs.World.{numbered}

abbrev pub answer_in : Content → Option Answer
answer_in (contents.Asks command term to call) = None
answer_in (contents.Answers command asked from says) = Some says
answer_in (contents.Feeds from to term after index e) = None
answer_in (contents.Acks from to term index) = None

abbrev pub outcome_by : List Message → Settled → Option Outcome
outcome_by post (settleds.Answered k) = numbered post k >>= (λ m. answer_in m.content >>= (λ x. Some (outcomes.Answered x)))
outcome_by post (settleds.GaveUp why) = Some (outcomes.GivenUp why)

-- what a call came to, if it is settled
abbrev pub outcome_of : List Message → Message → Option Outcome
outcome_of post m = m.settled >>= outcome_by post

-- a call that a command sent: in which term, to whom, when, when it first came to the tablet, and what it came to
pub record Sending : Type 0 where
  pub term : ℕ
  pub to : Alias
  pub call : Call
  pub sent : ℕ
  pub arrived : Option ℕ
  pub outcome : Option Outcome

abbrev pub sending_by : List Message → Message → Content → Option Sending
sending_by post m (contents.Asks command term to call) =
    Some (record { term = term; to = to; call = call; sent = m.sent; arrived = m.arrived; outcome = outcome_of post m })
sending_by post m (contents.Answers command asked from says) = None
sending_by post m (contents.Feeds from to term after index e) = None
sending_by post m (contents.Acks from to term index) = None

abbrev pub sending_of : List Message → Act → Option Sending
sending_of post (acts.Took reply) = None
sending_of post (acts.Read reply) = None
sending_of post (acts.Intended a reply) = None
sending_of post (acts.Recorded a reply) = None
sending_of post (acts.Drained a reply) = None
sending_of post (acts.Sent k) = numbered post k >>= (λ m. sending_by post m m.content)
sending_of post (acts.Wrote a reply) = None
sending_of post (acts.Told committed) = None

-- the calls among these acts, in order
abbrev pub sendings : List Message → List Act → List Sending
sendings post acts = filter_map (sending_of post) acts

-- what settled a message
abbrev pub settled_in : Option Message → Option Settled
settled_in None = None
settled_in (Some m) = m.settled

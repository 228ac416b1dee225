-- The span of a command: what it did, in order, with what each came to. A call comes to the first of an answer that was delivered and of its
-- giving up. Commands are those of vtctldclient (Vitess manual).
use Rattle.std.specs.Prelude.{ℕ, List, [], Option, Some, None, Result, Ok, Err, filter_map, unwrap_or}
use Rattle.shard_base.specs.Options.{◌>>=◌}
use Rattle.gtid_sets.specs.declared.gtid.Gtid.{Gtid}
use Rattle.shard_calls.specs.declared.post.Content.{Content}
use Rattle.shard_calls.specs.declared.post.Content.TheVariants as contents
use Rattle.shard_calls.specs.declared.post.Message.{Message}
use Rattle.shard_calls.specs.declared.span.Asked.{Asked}
use Rattle.shard_calls.specs.declared.span.Deed.{Deed}
use Rattle.shard_calls.specs.declared.span.Deed.TheVariants as deeds
use Rattle.shard_calls.specs.declared.span.Transaction.{Transaction}
use Rattle.shard_calls.specs.declared.stand.Standing.{Standing}
use Rattle.shard_calls.specs.declared.state.Act.{Act}
use Rattle.shard_calls.specs.declared.state.Act.TheVariants as acts
use Rattle.shard_calls.specs.declared.state.CommandState.{CommandState}
use Rattle.shard_calls.specs.declared.state.Wrote.{Wrote}
use Rattle.shard_calls.specs.Kinds.{kind_of}
use Rattle.shard_calls.specs.Outcomes.{outcome_of}
use Rattle.shard_calls.specs.World.{World, numbered}

-- a call that was sent, as the post has it
abbrev pub asked_by : List Message → ℕ → Message → Content → Option Asked
asked_by post k m (contents.Asks command term to call) = Some (record {
  alias = to;
  kind = kind_of call;
  message = k;
  term = term;
  sent = m.sent;
  arrived = unwrap_or m.arrived 0;
  outcome = outcome_of post m;
})
asked_by post k m (contents.Answers command asked from says) = None
asked_by post k m (contents.Feeds from to term after index e) = None
asked_by post k m (contents.Acks from to term index) = None

abbrev pub deed_if_asked : Option Asked → Option Deed
deed_if_asked None = None
deed_if_asked (Some x) = Some (deeds.Asked x)

abbrev pub term_wrote : Option Wrote → ℕ
term_wrote None = 0
term_wrote (Some x) = x.term

-- what a tablet wrote, in the term in which it was the primary
abbrev pub written_in : ℕ → Result Gtid Standing → Result Transaction Standing
written_in t (Ok g) = Ok (record { gtid = g; term = t })
written_in t (Err stand) = Err stand

-- what an act of a command was that wrote in this term, if it did
abbrev pub deed_of : List Message → ℕ → Act → Option Deed
deed_of post t (acts.Took reply) = Some (deeds.Took reply)
deed_of post t (acts.Read reply) = Some (deeds.Read reply)
deed_of post t (acts.Intended a reply) = Some (deeds.Intended a reply)
deed_of post t (acts.Recorded a reply) = Some (deeds.Recorded a reply)
deed_of post t (acts.Drained a reply) = Some (deeds.Drained a reply)
deed_of post t (acts.Sent k) = deed_if_asked (numbered post k >>= (λ m. asked_by post k m m.content))
deed_of post t (acts.Wrote a reply) = Some (deeds.Wrote a (written_in t reply))
deed_of post t (acts.Told committed) = Some (deeds.Told committed)

-- what a command did, in order
abbrev pub span_in : List Message → CommandState → List Deed
span_in post s = filter_map (deed_of post (term_wrote s.wrote)) s.acts

abbrev pub span_at : List Message → Option CommandState → List Deed
span_at post None = []
span_at post (Some s) = span_in post s

abbrev pub span_of : World → ℕ → List Deed
span_of w c = span_at w.post (numbered w.commands c)

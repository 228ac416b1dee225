use Rattle.std.proofs.Common.{◌≡◌, take}
use Rattle.std.specs.List.{filter_map}
use Rattle.shard_calls.specs.Spans.{deed_of}
use Rattle.shard_state.proofs.spans.span_of.Given as goal

abbrev pub invariant-loop-act : goal.invariant-loop-act
invariant-loop-act l = l.span.items ≡ filter_map (deed_of l.fn.post.messages l.term) (take l.act-index l.fn.state.acts)

use Rattle.std.proofs.Common.{◌∙◌, ap, sym, ℕ, List, ◌&&◌, not, is_none}
use Rattle.std.specs.List.{list_all}
use Rattle.shard_calls.specs.declared.post.Message.{Message}
use Rattle.shard_calls.specs.Messages.{passes, answers_call, may_arrive}
use Rattle.shard_calls.specs.World.{numbered}
use Rattle.post.proofs.MemberLemmas.{all_numbered}
use Rattle.shard_state.specs.State.{seen, data_of}
use Rattle.arrivals.proofs.giving_up.is_unanswered.Goals as goal

pub returns : goal.returns
returns c =
    let w = seen (data_of c.args.fields.now) in
    c.all_out.ensures
    ∙ ap (λ (ns : List ℕ). list_all (λ k. passes (λ m. is_none m.arrived && not (may_arrive w m)) (numbered c.args.fields.now.post.messages k)) ns) c.answers_to.ensures
    ∙ sym (all_numbered (λ (m : Message). answers_call c.args.call m.content) (λ m. is_none m.arrived && not (may_arrive w m)) c.args.fields.now.post.messages)

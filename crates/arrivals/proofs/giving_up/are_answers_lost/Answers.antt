use Rattle.std.proofs.Common.{◌∙◌, ap, sym, ℕ, List}
use Rattle.std.specs.List.{list_all}
use Rattle.shard_calls.specs.declared.post.Message.{Message}
use Rattle.shard_calls.specs.Messages.{passes, answers_call}
use Rattle.shard_calls.specs.World.{numbered}
use Rattle.post.proofs.MemberLemmas.{all_numbered}
use Rattle.arrivals.proofs.giving_up.are_answers_lost.Goals as goal

pub returns : goal.returns
returns c =
    c.all_lost.ensures
    ∙ ap (λ (ns : List ℕ). list_all (λ k. passes (λ m. m.lost) (numbered c.args.fields.now.post.messages k)) ns) c.answers_to.ensures
    ∙ sym (all_numbered (λ (m : Message). answers_call c.args.call m.content) (λ m. m.lost) c.args.fields.now.post.messages)

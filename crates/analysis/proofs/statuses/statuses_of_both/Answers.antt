use Rattle.std.proofs.Common.{◌≡◌, ◌∙◌, ◌++◌, ap, List}
use Rattle.std.proofs.lemmas.Result.{IfOk-weaker}
use Rattle.shard_calls.specs.declared.analysis.TabletStatus.{TabletStatus}
use Rattle.shard_calls.specs.Analysis.{said_in}
use Rattle.shard_calls.specs.Causes.{statuses}
use Rattle.analysis.specs.Said.{said_by}
use Rattle.analysis.proofs.SaidLemmas.{said_is_both}
use Rattle.analysis.proofs.statuses.statuses_of_both.Goals as goal

pub returns : goal.returns
returns c =
    IfOk-weaker c.said_by_both.result (λ (list : List TabletStatus). list ≡ said_by c.args.deeds.now ++ said_by c.args.later.now)
    (λ (list : List TabletStatus). said_in list ≡ statuses (c.args.deeds.now ++ c.args.later.now))
    (λ list e. ap said_in e ∙ said_is_both c.args.deeds.now c.args.later.now) c.said_by_both.ensures

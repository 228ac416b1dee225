use Rattle.std.proofs.Common.{◌∙◌, ap, ℕ, List}
use Rattle.tablet_manager.specs.Managed.{Managed}
use Rattle.shard_state.specs.State.{data_of}
use Rattle.arrivals.specs.Offers.{most_sent, first_offered}
use Rattle.arrivals.proofs.OfferLemmas.{look_finds}
use Rattle.arrivals.proofs.offers.offerable.Goals as goal

pub returns : goal.returns
returns c =
    let d = data_of c.args.fields.now in
    c.first_offered.ensures
    ∙ ap (λ (n : ℕ). first_offered d n c.as_slice-2.result.now) (c.most_sent-most.ensures ∙ ap (λ (ms : List Managed). most_sent ms) c.as_slice.ensures.value)
    ∙ ap (λ (ms : List Managed). first_offered d (most_sent d.managers) ms) c.as_slice-2.ensures.value
    ∙ look_finds d

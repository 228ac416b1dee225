use Rattle.std.proofs.Common.{◌∙◌, sym, ap}
use Rattle.std.specs.Option.{option_copied}
use Rattle.refusals.specs.Reached.{covers_found}
use Rattle.refusals.proofs.ReachedLemmas.{found}
use Rattle.refusals.proofs.rescuing.covers_winner.Goals as goal

pub returns-in-Some : goal.returns-in-Some
returns-in-Some c =
    c.covers_by.ensures
    ∙ sym (found c.args.alias.now c.args.position.now c.args.deeds.now
    ∙ ap (λ o. covers_found c.args.alias.now c.args.position.now o) (sym c.stop_of.ensures ∙ ap option_copied c.in-Some.is))

pub returns-in-None : goal.returns-in-None
returns-in-None c =
    c.is_nothing.ensures
    ∙ sym (found c.args.alias.now c.args.position.now c.args.deeds.now
    ∙ ap (λ o. covers_found c.args.alias.now c.args.position.now o) (sym c.stop_of.ensures ∙ ap option_copied c.in-None.is))

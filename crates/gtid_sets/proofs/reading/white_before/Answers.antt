use Rattle.std.proofs.Common.{◌≤◌, ℕ, length, sym, subst}
use Rattle.gtid_sets.specs.Reading.{is_white}
use Rattle.gtid_sets.proofs.ReadingLemmas.{prefix_within}
use Rattle.gtid_sets.proofs.reading.white_before.Goals as goal

pub returns-clause-within : goal.returns-clause-within
returns-clause-within c = subst (λ (n : ℕ). n ≤ length c.args.text.now) (sym c.white_at_front.ensures) (prefix_within is_white c.args.text.now)

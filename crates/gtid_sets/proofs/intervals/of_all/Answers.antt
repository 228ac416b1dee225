use Rattle.std.proofs.Common.{rules, ◌≡◌, ◌∙◌, ◌||◌, ap, sym, subst}
use Rattle.std.proofs.lemmas.Fn.{always_returns_same}
use Rattle.gtid_sets.specs.Intervals.{start, within, StartsRise}
use Rattle.gtid_sets.proofs.SortLemmas.{sorted_rises, within_permuted}
use Rattle.gtid_sets.proofs.intervals.of_all.Goals as goal

pub append_all-requires-clause-rise : goal.append_all-requires-clause-rise
append_all-requires-clause-rise c =
    subst StartsRise (sym c.as_slice.ensures.value)
    (sorted_rises c.sort_by_key.new.self.items (c.in_ok-sort_by_key.ensures.sorted start (always_returns_same _ (λ a r. r ≡ start a.0.now) _ (λ a r q k. search rules))))

pub returns-clause-members : goal.returns-clause-members
returns-clause-members c = λ g.
    c.in_ok-append_all.ensures.members g ∙ ap (λ xs. within xs g || within c.as_slice.result.now g) c.new-all.ensures.items
    ∙ ap (λ xs. within xs g) c.as_slice.ensures.value ∙ within_permuted c.args.intervals.now.items c.sort_by_key.new.self.items g c.sort_by_key.ensures.permutation

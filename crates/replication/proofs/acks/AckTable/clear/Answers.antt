use Rattle.std.proofs.Common.{◌∙◌, ap, ℕ, List}
use Rattle.std.proofs.lemmas.List.{with_items_is}
use Rattle.replication.specs.Acks.{acked_of}
use Rattle.replication.proofs.AckLemmas.{acked-zero}
use Rattle.replication.proofs.acks.AckTable.clear.Goals as goal

pub returns-clause-acked : goal.returns-clause-acked
returns-clause-acked c =
    ap (λ (is : List ℕ). acked_of c.self.inside.aliases.items is) (with_items_is c.self.inside.indexes c.zero_all.new.indexes (c.zero_all.ensures.len ∙ c.as_mut_slice.ensures.len))
    ∙ (λ i a. acked-zero c.self.inside.aliases.items c.zero_all.new.indexes a c.zero_all.ensures.zero i)

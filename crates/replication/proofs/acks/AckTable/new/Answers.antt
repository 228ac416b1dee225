use Rattle.std.proofs.Common.{◌∙◌, ap, ℕ, List}
use Rattle.replication.specs.Acks.{acked_of}
use Rattle.replication.proofs.AckLemmas.{acked-replicate}
use Rattle.replication.proofs.acks.AckTable.new.Goals as goal

pub returns-clause-acked : goal.returns-clause-acked
returns-clause-acked c =
    ap (λ (is : List ℕ). acked_of c.in_ok-aliases.aliases.items is) c.in_ok-indexes.ensures
    ∙ (λ i a. acked-replicate c.in_ok-aliases.aliases.items c.len.result a i)

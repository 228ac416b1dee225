use Rattle.std.proofs.Common.{◌∙◌, ap, subst, get_or, ℕ, List}
use Rattle.shard_names.specs.declared.alias.Alias.{Alias}
use Rattle.replication.specs.Places.{IsAt, IsNowhere}
use Rattle.replication.proofs.AckLemmas.{acked-at, acked-nowhere}
use Rattle.replication.proofs.acks.AckTable.acked.Goals as goal

pub returns-in-Some : goal.returns-in-Some
returns-in-Some c =
    let at : IsAt c.self.inside.aliases.items c.args.alias.now c.in-Some.at = subst (λ (xs : List Alias). IsAt xs c.args.alias.now c.in-Some.at) c.as_slice.ensures.value c.in-Some.ensures.1 in
    rw (← c.self.view_is) (c.index_at.ensures
    ∙ ap (λ (is : List ℕ). get_or is c.in-Some.at 0) c.as_slice-in-Some.ensures.value
    ∙ acked-at c.self.inside.aliases.items c.self.inside.indexes.items c.args.alias.now c.in-Some.at c.self.invariant at)

pub returns-in-None : goal.returns-in-None
returns-in-None c =
    let none : IsNowhere c.self.inside.aliases.items c.args.alias.now = subst (λ (xs : List Alias). IsNowhere xs c.args.alias.now) c.as_slice.ensures.value c.in-None.ensures in
    rw (← c.self.view_is) (acked-nowhere c.self.inside.aliases.items c.self.inside.indexes.items c.args.alias.now none)

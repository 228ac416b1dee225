use Rattle.std.proofs.Common.{◌≡◌, ◌∙◌, ap, subst, max, get_or, set, true, ℕ, List}
use Rattle.std.proofs.lemmas.List.{with_items_is}
use Rattle.shard_names.specs.declared.alias.Alias.{Alias}
use Rattle.shard_names.specs.Tablets.{is_among}
use Rattle.replication.specs.Acks.{Acks, acked_of}
use Rattle.replication.specs.Places.{IsAt, IsNowhere}
use Rattle.replication.proofs.AckLemmas.{somewhere, acked-raised}
use Rattle.replication.proofs.acks.AckTable.ack.Goals as goal

pub unreachable-requires : goal.unreachable-requires
unreachable-requires c =
    let none : IsNowhere c.self.inside.aliases.items c.args.alias.now = subst (λ (xs : List Alias). IsNowhere xs c.args.alias.now) c.as_slice.ensures.value c.in-None.ensures in
    let among : is_among c.self.inside.aliases.items c.args.alias.now ≡ true = ap (λ (k : Acks). is_among k.aliases c.args.alias.now) c.self.view_is ∙ c.requires in
    somewhere c.self.inside.aliases.items c.args.alias.now none among

pub returns-clause-acked : goal.returns-clause-acked
returns-clause-acked c =
    let at : IsAt c.self.inside.aliases.items c.args.alias.now c.in-Some.at = subst (λ (xs : List Alias). IsAt xs c.args.alias.now c.in-Some.at) c.as_slice.ensures.value c.in-Some.ensures.1 in
    rw (← c.self.view_is) (λ i a.
    (ap (λ (is : List ℕ). acked_of c.self.inside.aliases.items is a)
    (with_items_is c.self.inside.indexes c.raise_at.new.indexes (c.raise_at.ensures.len ∙ c.as_mut_slice.ensures.len)
    ∙ c.raise_at.ensures.raised
    ∙ ap (λ (is : List ℕ). set is c.in-Some.at (max (get_or is c.in-Some.at 0) c.args.index)) c.as_mut_slice.ensures.value)
    ∙ acked-raised c.self.inside.aliases.items c.self.inside.indexes.items c.args.alias.now c.in-Some.at c.args.index a c.self.invariant at) i)

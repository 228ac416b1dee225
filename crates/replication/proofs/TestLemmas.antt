-- For the tests: an alias that one of the tablets has is among theirs.
use Rattle.std.proofs.Common.{◌≡◌, Bool, refl, ap, List, [], ◌∷◌, ◌||◌}
use Rattle.std.specs.List.{list_any}
use Rattle.shard_names.specs.declared.alias.Alias.{Alias}
use Rattle.shard_names.specs.declared.tablet.Tablet.{Tablet}
use Rattle.shard_names.specs.Tablets.{alias_eq, is_among}
use Rattle.replication.specs.Acks.{aliases_of}

pub among_aliases : (ts : List Tablet) (a : Alias) → is_among (aliases_of ts) a ≡ list_any (λ t. alias_eq a t.alias) ts
among_aliases [] a = refl
among_aliases (t ∷ ts) a = ap (λ (b : Bool). alias_eq a t.alias || b) (among_aliases ts a)

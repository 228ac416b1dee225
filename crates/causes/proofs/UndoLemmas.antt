-- The first tablet that a command intended.
use Rattle.std.proofs.Common.{◌≡◌, refl, List, [], ◌∷◌, find}
use Rattle.shard_names.specs.declared.alias.Alias.{Alias}
use Rattle.shard_calls.specs.declared.span.Deed.{Deed}
use Rattle.shard_calls.specs.declared.span.Deed.TheVariants as deeds
use Rattle.shard_calls.specs.Causes.{is_intended, intends_first}
use Rattle.causes.specs.Undoing.{intends}

pub intends_found : (a : Alias) (ds : List Deed) → intends_first a ds ≡ intends a (find is_intended ds)
intends_found a [] = refl
intends_found a (deeds.Took reply ∷ ds) = intends_found a ds
intends_found a (deeds.Read reply ∷ ds) = intends_found a ds
intends_found a (deeds.Intended b reply ∷ ds) = refl
intends_found a (deeds.Recorded b reply ∷ ds) = intends_found a ds
intends_found a (deeds.Drained b reply ∷ ds) = intends_found a ds
intends_found a (deeds.Asked x ∷ ds) = intends_found a ds
intends_found a (deeds.Wrote b reply ∷ ds) = intends_found a ds
intends_found a (deeds.Told committed ∷ ds) = intends_found a ds

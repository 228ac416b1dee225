-- The first tablet that a command intended.
use Rattle.std.specs.Prelude.{Bool, false, Option, Some}
use Rattle.shard_names.specs.declared.alias.Alias.{Alias}
use Rattle.shard_names.specs.Tablets.{alias_eq}
use Rattle.shard_calls.specs.declared.span.Deed.{Deed}
use Rattle.shard_calls.specs.declared.span.Deed.TheVariants as deeds

-- the deed intended this tablet
abbrev pub intends : Alias → Option Deed → Bool
intends a (Some (deeds.Intended b reply)) = alias_eq b a
intends a _ = false

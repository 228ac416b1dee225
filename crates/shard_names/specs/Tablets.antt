-- Lists of tablets: tests on aliases, and what makes a list of tablets one shard. Tablets and shards are those of the Vitess manual, and each
-- tablet's MySQL server has a server_uuid of its own (MySQL 8.0 manual).
use Rattle.std.specs.Prelude.{◌≡◌, Bool, ◌&&◌, nat_eq, true, List, [], ◌∷◌, Option, is_some, All, ⊤}
use Rattle.std.specs.List.{list_any, find}
use Rattle.std.specs.Str.{bytes_eq}
use Rattle.std.specs.Ordering.{ordering_then, nat_cmp}
use Rattle.std.specs.Cmp.Lexicographic.{slice_cmp}
use Rattle.std.specs.declared.cmp.Ordering.{Ordering}
use Rattle.std.specs.declared.cmp.Ordering.TheVariants.{Less}
use Rattle.shard_names.specs.declared.alias.Alias.{Alias}
use Rattle.shard_names.specs.declared.tablet.Tablet.{Tablet}

-- whether two aliases are one
abbrev pub alias_eq : Alias → Alias → Bool
alias_eq a b = bytes_eq a.cell b.cell && nat_eq a.uid b.uid

-- the order of aliases: by their cells' bytes, then by their numbers
abbrev pub alias_cmp : Alias → Alias → Ordering
alias_cmp a b = ordering_then (slice_cmp nat_cmp a.cell b.cell) (nat_cmp a.uid b.uid)

-- whether the alias is among these
abbrev pub is_among : List Alias → Alias → Bool
is_among aliases a = list_any (alias_eq a) aliases

-- the tablet of this alias
abbrev pub tablet_of : List Tablet → Alias → Option Tablet
tablet_of tablets a = find (λ t. alias_eq t.alias a) tablets

abbrev pub is_declared : List Tablet → Alias → Bool
is_declared tablets a = is_some (tablet_of tablets a)

-- each alias is above those before it
abbrev pub AliasesRise : List Tablet → Type 0
AliasesRise [] = ⊤
AliasesRise (t ∷ ts) = All (λ u. alias_cmp t.alias u.alias ≡ Less) ts × AliasesRise ts

-- no server has two tablets
abbrev pub ServersDiffer : List Tablet → Type 0
ServersDiffer [] = ⊤
ServersDiffer (t ∷ ts) = All (λ u. bytes_eq t.server u.server ≡ true → ⊥) ts × ServersDiffer ts

-- the tablets of one shard: in alias order, no alias and no server twice
pub record AreTablets (tablets : List Tablet) : Type 0 where
  pub in_order : AliasesRise tablets
  pub apart : ServersDiffer tablets

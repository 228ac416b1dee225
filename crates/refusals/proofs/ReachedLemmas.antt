-- The tablets that stopped, looked up among the deeds that stopped them.
use Rattle.std.proofs.Common.{◌≡◌, ◌∙◌, refl, sym, ap, Bool, true, false, ◌||◌, List, [], ◌∷◌, ◌++◌, Option, Some, None, find, cond}
use Rattle.std.proofs.Math.Bool.{or_assoc}
use Rattle.std.specs.List.{list_any, flat_map}
use Rattle.shard_names.specs.declared.alias.Alias.{Alias}
use Rattle.shard_names.specs.Tablets.{alias_eq, is_among}
use Rattle.gtid_sets.specs.declared.held.Held.{Held}
use Rattle.gtid_sets.specs.Position.{Position, covers, nothing}
use Rattle.shard_calls.specs.declared.span.Deed.{Deed}
use Rattle.shard_calls.specs.Rescuing.{helds, held_in, reached_by, position_of}
use Rattle.refusals.specs.Reached.{reaches, is_held_by, stops, covers_by, covers_found}

among_more : (a : Alias) (hs ks : List Held) → is_among (reached_by (hs ++ ks)) a ≡ (is_among (reached_by hs) a || is_among (reached_by ks) a)
among_more a [] ks = refl
among_more a (h ∷ hs) ks = rw (among_more a hs ks) (sym (or_assoc (alias_eq a h.alias) (is_among (reached_by hs) a) (is_among (reached_by ks) a)))

pub reached : (a : Alias) (ds : List Deed) → list_any (reaches a) ds ≡ is_among (reached_by (helds ds)) a
reached a [] = refl
reached a (d ∷ ds) = ap (λ (b : Bool). reaches a d || b) (reached a ds) ∙ sym (among_more a (held_in d) (helds ds))

position_more : (a : Alias) (hs ks : List Held) → position_of (hs ++ ks) a ≡ cond (list_any (is_held_by a) hs) (position_of hs a) (position_of ks a)
position_more a [] ks = refl
position_more a (h ∷ hs) ks =
    elim (alias_eq h.alias a) as (λ (b : Bool). cond b h.position (position_of (hs ++ ks) a) ≡ cond (b || list_any (is_held_by a) hs) (cond b h.position (position_of hs a)) (position_of ks a)) [
      | true ↦ refl
      | false ↦ position_more a hs ks
    ]

found_more : (a : Alias) (p : Position) (b : Bool) (d : Deed) (rest : Option Deed) (q : Position) → covers q p ≡ covers_found a p rest
    → covers (cond b (position_of (held_in d) a) q) p ≡ covers_found a p (cond b (Some d) rest)
found_more a p true d rest q e = refl
found_more a p false d rest q e = e

pub found : (a : Alias) (p : Position) (ds : List Deed) → covers (position_of (helds ds) a) p ≡ covers_found a p (find (stops a) ds)
found a p [] = refl
found a p (d ∷ ds) =
    ap (λ (q : Position). covers q p) (position_more a (held_in d) (helds ds))
    ∙ found_more a p (stops a d) d (find (stops a) ds) (position_of (helds ds) a) (found a p ds)

-- Tablets and their aliases, and a tablet that hears an acknowledgement.
use Rattle.std.proofs.Common.{◌≡◌, ℕ, zero, suc, Bool, true, false, ◌||◌, refl, ap, sym, subst, ◌∙◌, arith, List, [], ◌∷◌, cond, Some}
use Rattle.std.specs.List.{list_any, Contains}
use Rattle.std.proofs.lemmas.List.Elements.{All-contains}
use Rattle.std.specs.declared.cmp.Ordering.TheVariants.{Less}
use Rattle.shard_names.specs.declared.alias.Alias.{Alias}
use Rattle.shard_names.specs.declared.tablet.Tablet.{Tablet}
use Rattle.shard_names.specs.Tablets.{AliasesRise, alias_cmp, alias_eq, is_among, tablet_of}
use Rattle.shard_names.proofs.TabletLemmas.{alias_eq_is, alias_eq_itself}
use Rattle.replication.specs.Acks.{Acks, acked_in, aliases_of, raised}
use Rattle.replication.proofs.ToldLemmas.{above_differs}
use Rattle.shard_calls.specs.Stands.{is_primary_of}
use Rattle.shard_calls.specs.Tablets.{after_ack}
use Rattle.tablet_manager.specs.Managed.{Managed, state_of}

pub acked_state : (m : Managed) (more : Acks) (from : Alias) (term index : ℕ) → is_primary_of m.stand term ≡ true
    → acked_in more ≡ raised from index (acked_in m.acks) → state_of (record m { acks = more }) ≡ after_ack from term index (state_of m)
acked_state m more from term index primary e = rw primary (λ i. record (state_of m) { acked = e i })

pub among_map : (ts : List Tablet) (a : Alias) → is_among (aliases_of ts) a ≡ list_any (λ t. alias_eq a t.alias) ts
among_map [] a = refl
among_map (t ∷ ts) a = ap (λ (b : Bool). alias_eq a t.alias || b) (among_map ts a)

-- the tablet of an alias is the one in the list that has it
pub one_of : (ts : List Tablet) (me : Tablet) → AliasesRise ts → Contains ts me → tablet_of ts me.alias ≡ Some me
one_of [] me rise (k, within, here) = absurd (omega (arith, within))
one_of (t ∷ ts) me rise (zero, within, here) =
    let test : alias_eq t.alias me.alias ≡ true = subst (λ (u : Tablet). alias_eq u.alias me.alias ≡ true) (sym here) (alias_eq_itself me.alias) in
    ap (λ (b : Bool). cond b (Some t) (tablet_of ts me.alias)) test ∙ ap (λ (u : Tablet). Some u) here
one_of (t ∷ ts) me rise (suc k, within, here) =
    let later : Contains ts me = (k, omega (arith, within), here) in
    let test : alias_eq t.alias me.alias ≡ false = apart t.alias me.alias (All-contains (λ u. alias_cmp t.alias u.alias ≡ Less) ts me rise.0 later) in
    ap (λ (b : Bool). cond b (Some t) (tablet_of ts me.alias)) test ∙ one_of ts me rise.1 later
  where
    turned : (a b : Alias) (c : Bool) → alias_eq a b ≡ c → alias_eq b a ≡ false → c ≡ false
    turned a b false e other = refl
    turned a b true e other =
        absurd (let back : alias_eq b a ≡ true = subst (λ (x : Alias). alias_eq x a ≡ true) (alias_eq_is a b e) (alias_eq_itself a) in cc)

    apart : (a b : Alias) → alias_cmp a b ≡ Less → alias_eq a b ≡ false
    apart a b less = turned a b (alias_eq a b) refl (above_differs a b less)

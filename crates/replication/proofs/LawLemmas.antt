-- What is told grows with what is acknowledged, and depends on the ackers alone.
use Rattle.std.proofs.Common.{◌≡◌, ◌≢◌, ℕ, suc, ◌≤◌, ◌<◌, max, Bool, true, false, ◌&&◌, ◌||◌, refl, sym, ap, subst, arith, List, [], ◌∷◌, cond, length, nat_le, get_or, ◌↔◌}
use Rattle.std.specs.List.{filter, Contains}
use Rattle.std.proofs.lemmas.Bool.{false≢true}
use Rattle.std.proofs.lemmas.Bool.Decides.{nat_tests}
use Rattle.shard_names.specs.declared.alias.Alias.{Alias}
use Rattle.shard_names.specs.declared.tablet.Tablet.{Tablet}
use Rattle.shard_names.specs.Tablets.{alias_eq}
use Rattle.shard_names.proofs.TabletLemmas.{alias_eq_is, both_left, both_right}
use Rattle.durability.specs.Rules.{Rules, IsLawful}
use Rattle.durability.specs.Sets.{TabletSet, ackers_in}
use Rattle.replication.specs.Acks.{Acked, raised}
use Rattle.replication.specs.Told.{holders, Told}
use Rattle.replication.specs.Laws.{MoreStaysTold, AckStaysTold, LowerIsTold, NoneTellsAll, NoAckerChangesNothing, OwnAckChangesNothing, IsElsewhere, ToldIsElsewhere}
use Rattle.replication.proofs.AckLemmas.{not_equal}
use Rattle.replication.proofs.ToldLemmas.{filter_same, own_holds}

-- ---- more holders

fewer : (acker : Tablet → Bool) (a b : TabletSet) (ts : List Tablet) → ((x : Alias) → b x ≡ true → a x ≡ true)
    → length (filter (λ t. acker t && b t.alias) ts) ≤ length (filter (λ t. acker t && a t.alias) ts)
fewer acker a b [] has = omega arith
fewer acker a b (t ∷ ts) has = one_less (acker t) (a t.alias) (b t.alias) t _ _ (fewer acker a b ts has) (has t.alias) where
  one_less : (c p q : Bool) (t : Tablet) (m n : List Tablet) → length m ≤ length n → (q ≡ true → p ≡ true)
      → length (cond (c && q) (t ∷ m) m) ≤ length (cond (c && p) (t ∷ n) n)
  one_less c p true t m n le within = rw (within refl) (grind arith)
  one_less c p false t m n le within = grind arith

holds_on : (own : Bool) (low high before after : ℕ) → low ≤ high → before ≤ after → (own || nat_le high before) ≡ true → (own || nat_le low after) ≡ true
holds_on true low high before after down up h = refl
holds_on false low high before after down up h = grind (arith, nat_tests)

told_on : (rules : Rules) (ts : List Tablet) (primary : Tablet) (before after : Acked) (low high : ℕ)
    → low ≤ high → ((a : Alias) → before a ≤ after a) → Told rules ts primary before high → Told rules ts primary after low
told_on rules ts primary before after low high down up told = record {
  primary_in = own_holds after primary.alias low;
  enough = (
      let more = fewer (rules.is_acker primary) (holders after primary.alias low) (holders before primary.alias high) ts
      (λ x. holds_on (alias_eq x primary.alias) low high (before x) (after x) down (up x)) in
      let enough = told.enough in omega (arith, more, enough)
      );
}

pub more_stays : MoreStaysTold
more_stays rules ts primary before after index up told = told_on rules ts primary before after index index (omega arith) up told

raised_up : (b : Bool) (up_to i : ℕ) → i ≤ cond b (max up_to i) i
raised_up true up_to i = omega arith
raised_up false up_to i = omega arith

pub ack_stays : AckStaysTold
ack_stays rules ts primary acked from up_to index told =
    more_stays rules ts primary acked (raised from up_to acked) index (λ a. raised_up (alias_eq a from) up_to (acked a)) told

pub lower_told : LowerIsTold
lower_told rules ts primary acked low high down told = told_on rules ts primary acked acked low high down (λ a. omega arith) told

pub none_tells : NoneTellsAll
none_tells ts primary acked index = record { primary_in = own_holds acked primary.alias index; enough = omega arith }

-- ---- the same holders among the ackers

told_same : (rules : Rules) (ts : List Tablet) (primary : Tablet) (before after : Acked) (index : ℕ)
    → ackers_in rules ts primary (holders before primary.alias index) ≡ ackers_in rules ts primary (holders after primary.alias index)
    → Told rules ts primary before index → Told rules ts primary after index
told_same rules ts primary before after index same told = record {
  primary_in = own_holds after primary.alias index;
  enough = subst (λ (n : ℕ). rules.acks primary ≤ n) same told.enough;
}

told_both : (rules : Rules) (ts : List Tablet) (primary : Tablet) (before after : Acked) (index : ℕ)
    → ackers_in rules ts primary (holders before primary.alias index) ≡ ackers_in rules ts primary (holders after primary.alias index)
    → Told rules ts primary before index ↔ Told rules ts primary after index
told_both rules ts primary before after index same =
    (told_same rules ts primary before after index same, told_same rules ts primary after before index (sym same))

no_acker_same : (acker own is_from : Bool) (index up_to i : ℕ) → (acker ≡ true → is_from ≡ true → ⊥)
    → (acker && (own || nat_le index (cond is_from (max up_to i) i))) ≡ (acker && (own || nat_le index i))
no_acker_same true own true index up_to i apart = absurd (apart refl refl)
no_acker_same true own false index up_to i apart = refl
no_acker_same false own is_from index up_to i apart = refl

pub no_acker_changes : NoAckerChangesNothing
no_acker_changes rules ts primary acked from up_to index none =
    told_both rules ts primary (raised from up_to acked) acked index
    (ap (λ (us : List Tablet). length us) (filter_same _ _ ts (λ k d within.
    no_acker_same (rules.is_acker primary (get_or ts k d)) (alias_eq (get_or ts k d).alias primary.alias) (alias_eq (get_or ts k d).alias from) index up_to (acked (get_or ts k d).alias)
    (λ acker same. none k d within acker (alias_eq_is _ _ same)))))

own_same : (acker own : Bool) (index up_to i : ℕ) → (acker && (own || nat_le index (cond own (max up_to i) i))) ≡ (acker && (own || nat_le index i))
own_same acker true index up_to i = refl
own_same acker false index up_to i = refl

pub own_changes : OwnAckChangesNothing
own_changes rules ts primary acked up_to index =
    told_both rules ts primary (raised primary.alias up_to acked) acked index
    (ap (λ (us : List Tablet). length us) (filter_same _ _ ts (λ k d within.
    own_same (rules.is_acker primary (get_or ts k d)) (alias_eq (get_or ts k d).alias primary.alias) index up_to (acked (get_or ts k d).alias))))

-- ---- an acker that holds it

-- a tablet of the list that passes a test
record Passes (test : Tablet → Bool) (ts : List Tablet) : Type 0 where
  tablet : Tablet
  among : Contains ts tablet
  passes : test tablet ≡ true

some_passes : (test : Tablet → Bool) (ts : List Tablet) → 0 < length (filter test ts) → Passes test ts
some_passes test [] some = absurd (omega arith)
some_passes test (t ∷ ts) some =
    elim (test t) as (λ b. test t ≡ b → 0 < length (cond b (t ∷ filter test ts) (filter test ts)) → Passes test (t ∷ ts)) [
      | true ↦ λ e more. record { tablet = t; among = (0, omega arith, refl); passes = e }
      | false ↦ λ e more. let rest = some_passes test ts more in record {
        tablet = rest.tablet;
        among = (suc rest.among.0, omega (arith, rest.among.1), rest.among.2);
        passes = rest.passes;
      }
    ] refl some

holds_index : (own : Bool) (index i : ℕ) → own ≡ false → (own || nat_le index i) ≡ true → index ≤ i
holds_index true index i e h = absurd (false≢true (sym e))
holds_index false index i e h = grind (arith, nat_tests)

elsewhere : (rules : Rules) (ts : List Tablet) (primary : Tablet) (acked : Acked) (index : ℕ) → IsLawful rules
    → Passes (λ t. rules.is_acker primary t && holders acked primary.alias index t.alias) ts → IsElsewhere rules ts primary acked index
elsewhere rules ts primary acked index lawful p =
    let acker : rules.is_acker primary p.tablet ≡ true = both_left _ (holders acked primary.alias index p.tablet.alias) p.passes in
    let other : primary.alias ≢ p.tablet.alias = lawful.no_own_acker primary p.tablet acker in
    record {
      tablet = p.tablet;
      among = p.among;
      other = other;
      acker = acker;
      has = holds_index (alias_eq p.tablet.alias primary.alias) index (acked p.tablet.alias) (not_equal p.tablet.alias primary.alias (λ e. other (sym e)))
          (both_right (rules.is_acker primary p.tablet) _ p.passes);
    }

pub told_elsewhere : ToldIsElsewhere
told_elsewhere rules ts primary acked index lawful waits told =
    elsewhere rules ts primary acked index lawful (some_passes _ ts (let enough = told.enough in omega (arith, enough, waits)))

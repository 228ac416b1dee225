-- When an intent is refused because another stands.
use Rattle.std.proofs.Common.{◌≡◌, ◌≢◌, ℕ, Bool, true, false, cond, ◌==◌, ◌↔◌, List, [], ◌∷◌, Option, Some, None, Result, Ok, Err, refl, ◌∙◌, ap, arith}
use Rattle.std.specs.Bool.{Decides}
use Rattle.std.specs.List.{find}
use Rattle.std.proofs.lemmas.Bool.Decides.{nat_tests}
use Rattle.shard_names.specs.declared.alias.Alias.{Alias}
use Rattle.shard_names.specs.Tablets.{alias_eq}
use Rattle.shard_names.proofs.TabletLemmas.{alias_eq-Decides}
use Rattle.topo_lock.specs.declared.lock.TopoFault.{TopoFault}
use Rattle.topo_lock.specs.declared.lock.TopoFault.TheVariants.{LockLost, IntentStands}
use Rattle.topo_lock.specs.declared.intent.Intent.{Intent}
use Rattle.topo_lock.specs.Topology.{Topology, is_held_in, intent_of, admitted_by, answer_intend, IntendsAnother}

-- the intent that is found has the term
pub found_term : (u : ℕ) (is : List Intent) (i : Intent) → find (λ i. i.term == u) is ≡ Some i → i.term ≡ u
found_term u [] i found = absurd (cc)
found_term u (j ∷ is) i found = by_test (j.term == u) refl found (λ later. found_term u is i later)
  where
    by_test : (b : Bool) → (j.term == u) ≡ b → cond b (Some j) (find (λ i. i.term == u) is) ≡ Some i → (find (λ i. i.term == u) is ≡ Some i → i.term ≡ u) → i.term ≡ u
    by_test true is_it here further = let same : j ≡ i = cc in let its : j.term ≡ u = grind (arith, nat_tests) in rw (← same) its
    by_test false is_it later further = further later

-- a test fails where its fact does not hold
pub false_where_not : {P : Type 0} (b : Bool) → Decides b P → (P → ⊥) → b ≡ false
false_where_not true d no_fact = absurd (no_fact (d.0 refl))
false_where_not false d no_fact = refl

-- why an alias was answered to stand
record Standing (held : Bool) (o : Option Intent) (a other : Alias) : Type 0 where
  is_held : held ≡ true
  intent : Intent
  found : o ≡ Some intent
  names : intent.alias ≡ other
  differs : other ≢ a

why_it_stands : (held : Bool) (o : Option Intent) (n : ℕ) (a other : Alias) → cond held (admitted_by o a) (Err (LockLost n)) ≡ Err (IntentStands other) → Standing held o a other
why_it_stands false o n a other h = absurd (cc)
why_it_stands true None n a other h = absurd (cc)
why_it_stands true (Some i) n a other h = by_test (alias_eq i.alias a) refl h
  where
    by_test : (b : Bool) → alias_eq i.alias a ≡ b → ◌≡◌ {A = Result (Unit {0}) TopoFault} (cond b (Ok tt) (Err (IntentStands i.alias))) (Err (IntentStands other)) → Standing true (Some i) a other
    by_test true test h = absurd (cc)
    by_test false test h =
        let same : i.alias ≡ other = cc in
        record {
          is_held = refl;
          intent = i;
          found = refl;
          names = same;
          differs = λ e. let passes : alias_eq i.alias a ≡ true = (alias_eq-Decides i.alias a).1 (same ∙ e) in absurd (cc);
        }

another_intended : (t : Topology) (u : ℕ) (a other : Alias) → Standing (is_held_in t u) (intent_of t u) a other → IntendsAnother t u a other
another_intended t u a other s =
    let term : s.intent.term ≡ u = found_term u t.intents s.intent s.found in
    let whole : s.intent ≡ record { term = u; alias = other } = λ k. record { term = term k; alias = s.names k } in
    record { held = s.is_held; stands = s.found ∙ ap (λ (i : Intent). Some i) whole; differs = s.differs }

refused_by_another : (t : Topology) (u : ℕ) (a other : Alias) → IntendsAnother t u a other → answer_intend t u a ≡ Err (IntentStands other)
refused_by_another t u a other h =
    let test : alias_eq other a ≡ false = false_where_not (alias_eq other a) (alias_eq-Decides other a) h.differs in
    rw (h.held, h.stands, test) refl

-- another alias is answered to stand exactly where it is intended
pub stands_exactly : (t : Topology) (u : ℕ) (a other : Alias) → (answer_intend t u a ≡ Err (IntentStands other)) ↔ IntendsAnother t u a other
stands_exactly t u a other = (
  (λ refused. another_intended t u a other (why_it_stands (is_held_in t u) (intent_of t u) t.term a other refused)),
  (λ h. refused_by_another t u a other h),
)

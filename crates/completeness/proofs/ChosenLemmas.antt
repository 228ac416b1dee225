-- Who was chosen by what the tablets said is chosen still, where more is known. The choice is that of PlannedReparentShard (Vitess manual).
use Rattle.std.proofs.Common.{◌≡◌, refl, ap, sym, subst, ℕ, Bool, true, false, cond, List, ◌∷◌, Option, Some}
use Rattle.std.specs.List.{find, flat_map, list_any}
use Rattle.shard_names.specs.declared.alias.Alias.{Alias}
use Rattle.shard_names.specs.declared.tablet.Tablet.{Tablet}
use Rattle.shard_names.specs.Tablets.{alias_eq}
use Rattle.shard_calls.specs.declared.event.Seen.{Seen}
use Rattle.shard_calls.specs.declared.group.Group.{Group}
use Rattle.shard_calls.specs.declared.refusal.Reason.{Reason}
use Rattle.shard_calls.specs.declared.span.Asked.{Asked}
use Rattle.shard_calls.specs.declared.span.Deed.{Deed}
use Rattle.shard_calls.specs.declared.span.Deed.TheVariants as deeds
use Rattle.shard_calls.specs.declared.span.Outcome.{Outcome}
use Rattle.shard_calls.specs.Choosing.{best_of, chosen, follower, is_call_of, outcome_in, outcome_of, reason_among, reason_by, reason_to_follow, rejected, size_by, unless_barred}
use Rattle.shard_calls.specs.Refusals.{or_else}
use Rattle.courses.specs.Walks.{is_out}
use Rattle.completeness.proofs.LaterLemmas.{Later, Nothing, More, LaterDeed, Itself, Comes, or_false, settled_same}

-- what a tablet's call came to, where all are settled
outcome_same : (a : Alias) (ds es : List Deed) → Later ds es → list_any is_out ds ≡ false → outcome_of es a ≡ outcome_of ds a
outcome_same a _ _ Nothing h = refl
outcome_same a _ _ (More d e ds es one rest) h =
    let both = or_false (is_out d) (list_any is_out ds) h in of_deed d e one both.0 (outcome_same a ds es rest both.1)
  where
    of_test : (b : Bool) (x y : Asked) → y.outcome ≡ x.outcome → outcome_of es a ≡ outcome_of ds a
        → outcome_in (cond b (Some (deeds.Asked y)) (find (is_call_of a) es)) ≡ outcome_in (cond b (Some (deeds.Asked x)) (find (is_call_of a) ds))
    of_test true x y same more = same
    of_test false x y same more = more

    of_deed : (d e : Deed) → LaterDeed d e → is_out d ≡ false → outcome_of es a ≡ outcome_of ds a
        → outcome_in (find (is_call_of a) (e ∷ es)) ≡ outcome_in (find (is_call_of a) (d ∷ ds))
    of_deed _ _ (Itself d) out more = of_same (is_call_of a d)
      where
        of_same : (b : Bool) → outcome_in (cond b (Some d) (find (is_call_of a) es)) ≡ outcome_in (cond b (Some d) (find (is_call_of a) ds))
        of_same true = refl
        of_same false = more
    of_deed _ _ (Comes x y l) out more =
        subst (λ (b : Alias). outcome_in (cond (alias_eq b a) (Some (deeds.Asked y)) (find (is_call_of a) es))
        ≡ outcome_in (cond (alias_eq x.alias a) (Some (deeds.Asked x)) (find (is_call_of a) ds))) (sym l.alias)
        (of_test (alias_eq x.alias a) x y (settled_same x.outcome y.outcome l.outcome out) more)

outcomes_same : (ds es : List Deed) → Later ds es → list_any is_out ds ≡ false → outcome_of es ≡ outcome_of ds
outcomes_same ds es later settled = λ i a. outcome_same a ds es later settled i

-- the same tablet follows
pub follower_same : (g : Group) (allowed : Bool) (seen : Seen) (old : Alias) (ds es : List Deed) → Later ds es → list_any is_out ds ≡ false
    → follower g allowed seen old es ≡ follower g allowed seen old ds
unfolding reason_among
follower_same g allowed seen old ds es later settled =
    ap (λ (by : Alias → Option Outcome). chosen (best_of (number by) g.tablets) (flat_map (λ t. rejected t.alias (reason by t)) g.tablets)) (outcomes_same ds es later settled)
  where
    reason : (Alias → Option Outcome) → Tablet → Option Reason
    reason by t = or_else (reason_to_follow g allowed seen old t) (reason_by old (by t.alias))

    number : (Alias → Option Outcome) → Tablet → Option ℕ
    number by t = unless_barred (reason by t) (size_by (by t.alias))

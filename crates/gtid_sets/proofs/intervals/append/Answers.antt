use Rattle.std.proofs.Common.{◌≡◌, ◌<◌, ◌∙◌, ◌+◌, ◌-◌, ℕ, false, true, List, Some, set, get_or, length, ap, sym, subst, arith}
use Rattle.std.specs.List.{slice_get}
use Rattle.gtid_sets.specs.declared.interval.Interval.{Interval}
use Rattle.gtid_sets.specs.Intervals.{Ordered, StartsBy, within, start, joined, touches}
use Rattle.gtid_sets.proofs.LookLemmas.{got_some, got_none, any_default}
use Rattle.gtid_sets.proofs.AppendLemmas.{append_in, set_append, push_append, append_ordered, append_within, append_starts}
use Rattle.gtid_sets.proofs.intervals.append.Goals as goal
use Rattle.gtid_sets.proofs.intervals.append.Goals.{After-intervals-1, In_ok-push-in_default, in_default-via-in-Some+else-touches, in_default-via-in_default}

-- the last of a list
last_is : (ys xs : List Interval) (n : Interval) → ys ≡ xs → Some n ≡ slice_get ys (length ys - 1) → (length xs - 1 < length xs) × (get_or xs (length xs - 1) n ≡ n)
last_is ys xs n same e = subst (λ (zs : List Interval). (length zs - 1 < length zs) × (get_or zs (length zs - 1) n ≡ n)) same (got_some ys (length ys - 1) n e)

widens : (c : After-intervals-1) → set c.args.intervals.now.items (c.len-place.result - 1) c.joined.result ≡ append_in c.args.next.now c.args.intervals.now.items
widens c =
    let found = last_is c.deref.result.now c.args.intervals.now.items c.in-Some.last c.deref.ensures.value (c.in-Some.ensures ∙ c.last.ensures.value) in
    let place : c.len-place.result - 1 ≡ length c.args.intervals.now.items - 1 = omega (arith, c.len-place.ensures, c.args.intervals.now.ok.0) in
    let touched : touches (start c.args.next.now) c.in-Some.last ≡ true = sym (c.touches.ensures ∙ ap (λ g. touches g c.in-Some.last) c.start.ensures) ∙ c.if-touches.true in
    ap (λ x. set c.args.intervals.now.items (c.len-place.result - 1) x) c.joined.ensures
    ∙ ap (λ k. set c.args.intervals.now.items k (joined c.in-Some.last c.args.next.now)) place
    ∙ set_append c.args.next.now c.in-Some.last c.args.intervals.now.items (length c.args.intervals.now.items - 1) (omega (arith, found.0)) found.1 touched

none_touches : (n last : Interval) (xs : List Interval) → touches (start n) last ≡ false → (length xs - 1 < length xs) × (get_or xs (length xs - 1) last ≡ last) → (k : ℕ) (d : Interval) → k + 1 ≡ length xs → touches (start n) (get_or xs k d) ≡ false
none_touches n last xs apart found k d e =
    let place : k ≡ length xs - 1 = omega arith in
    ap (touches (start n)) (any_default xs k d last (omega arith) ∙ ap (λ i. get_or xs i last) place ∙ found.1) ∙ apart

pushes : (c : In_ok-push-in_default) → c.push.new.self.items ≡ append_in c.args.next.now c.args.intervals.now.items
pushes c =
    c.in_ok-push-in_default.ensures.items
    ∙ push_append c.args.next.now c.args.intervals.now.items
    (elim c.in_default.branch [
      | in_default-via-in-Some+else-touches w ↦
          none_touches c.args.next.now w.in-Some.last c.args.intervals.now.items (sym (w.touches.ensures ∙ ap (λ g. touches g w.in-Some.last) w.start.ensures) ∙ w.if-touches.false)
          (last_is c.deref.result.now c.args.intervals.now.items w.in-Some.last c.deref.ensures.value (w.in-Some.ensures ∙ c.last.ensures.value))
      | in_default-via-in_default w ↦
          λ k d e. absurd (omega (arith, ap length c.deref.ensures.value, got_none c.deref.result.now (length c.deref.result.now - 1) (w.in_default.ensures ∙ c.last.ensures.value)))
    ])

pub returns-in-Some-clause-in_order : goal.returns-in-Some-clause-in_order
returns-in-Some-clause-in_order c = subst Ordered (sym (widens c)) (append_ordered c.args.next.now c.args.intervals.now.items c.requires.some c.requires.behind c.requires.in_order)

pub returns-in-Some-clause-members : goal.returns-in-Some-clause-members
returns-in-Some-clause-members c = λ g. ap (λ xs. within xs g) (widens c) ∙ append_within c.args.next.now c.args.intervals.now.items g c.requires.some c.requires.behind c.requires.in_order

pub returns-in-Some-clause-behind : goal.returns-in-Some-clause-behind
returns-in-Some-clause-behind c = subst (StartsBy (start c.args.next.now)) (sym (widens c)) (append_starts c.args.next.now c.args.intervals.now.items c.requires.behind)

pub returns-in_ok-push-in_default-clause-in_order : goal.returns-in_ok-push-in_default-clause-in_order
returns-in_ok-push-in_default-clause-in_order c = subst Ordered (sym (pushes c)) (append_ordered c.args.next.now c.args.intervals.now.items c.requires.some c.requires.behind c.requires.in_order)

pub returns-in_ok-push-in_default-clause-behind : goal.returns-in_ok-push-in_default-clause-behind
returns-in_ok-push-in_default-clause-behind c = subst (StartsBy (start c.args.next.now)) (sym (pushes c)) (append_starts c.args.next.now c.args.intervals.now.items c.requires.behind)

-- The Stops of an EmergencyReparentShard that keeps its lock, and who is chosen by them (Vitess manual): none of them is stale, and what they showed they
-- show still.
use Rattle.std.proofs.Common.{◌≡◌, ◌⊎◌, inl, inr, refl, ap, sym, subst, ◌∙◌, append_assoc, arith, ℕ, ◌≤◌, Bool, true, false, ◌&&◌, nat_lt, cond, is_none, List, [], ◌∷◌, ◌++◌, Option, Some, None, Result, Ok, Err}
use Rattle.std.proofs.lemmas.Bool.{false≢true}
use Rattle.std.specs.List.{list_any}
use Rattle.shard_names.specs.declared.alias.Alias.{Alias}
use Rattle.shard_names.specs.declared.tablet.Tablet.{Tablet}
use Rattle.shard_names.specs.Tablets.{alias_eq}
use Rattle.shard_names.proofs.TabletLemmas.{alias_eq_is, both_left, both_right}
use Rattle.gtid_sets.specs.declared.held.Held.{Held}
use Rattle.gtid_sets.specs.Logs.{newest_row}
use Rattle.gtid_sets.specs.Logs as logs
use Rattle.gtid_sets.specs.Position.{Position, covers, nothing}
use Rattle.gtid_sets.proofs.PositionLemmas.{covers-further}
use Rattle.shard_calls.specs.declared.answer.Answer.{Answer}
use Rattle.shard_calls.specs.declared.answer.Answer.TheVariants as says
use Rattle.shard_calls.specs.declared.call.Call.{Call}
use Rattle.shard_calls.specs.declared.call.Call.TheVariants as calls
use Rattle.shard_calls.specs.declared.command.EmergencyOptions.{EmergencyOptions}
use Rattle.shard_calls.specs.declared.event.Seen.{Seen}
use Rattle.shard_calls.specs.declared.event.Step.{Step}
use Rattle.shard_calls.specs.declared.group.Group.{Group}
use Rattle.shard_calls.specs.declared.refusal.Refusal.{Refusal}
use Rattle.shard_calls.specs.declared.span.Asked.{Asked}
use Rattle.shard_calls.specs.declared.span.Deed.{Deed}
use Rattle.shard_calls.specs.declared.span.Deed.TheVariants as deeds
use Rattle.shard_calls.specs.declared.span.Kind.{Kind}
use Rattle.shard_calls.specs.declared.span.Kind.TheVariants as kinds
use Rattle.shard_calls.specs.declared.span.Outcome.{Outcome}
use Rattle.shard_calls.specs.declared.span.Outcome.TheVariants as outcomes
use Rattle.shard_calls.specs.Deliveries.{asks_status}
use Rattle.shard_calls.specs.Kinds.{kind_eq, kind_of}
use Rattle.shard_calls.specs.Refusals.{or_else}
use Rattle.shard_calls.specs.Rescuing.{first_by, fitness, held_by, helds, number_to_rescue, ok_unless, position_of, refusal_by_stale, refusal_of_given, rescuer, stale_in}
use Rattle.shard_calls.specs.Choosing.{best_from, unless_barred}
use Rattle.shard_calls.specs.Spans.{span_of}
use Rattle.shard_calls.specs.Table.{IsRun}
use Rattle.shard_calls.specs.Tablets.{TabletState, answer_to, stops}
use Rattle.shard_calls.specs.World.{Config, World}
use Rattle.shard_calls.specs.Promotions.{world_at}
use Rattle.shard_calls.proofs.LawLemmas.{chosen}
use Rattle.courses.specs.Sound.{AreCalled, IsIn, IsPart, are_calls}
use Rattle.courses.specs.Walks.{is_ask, is_out}
use Rattle.completeness.specs.Emergency.{RescuerIsLeft}
use Rattle.completeness.proofs.CallLemmas.{answered_at, call_of_deed}
use Rattle.completeness.proofs.KeptCalls.{kept_call, not_stale}
use Rattle.completeness.proofs.LaterLemmas.{Later, Nothing, More, Itself, Comes, later_ask}
use Rattle.completeness.proofs.MadeCalls.{Keeper, in_span, span_to}
use Rattle.completeness.proofs.PastLemmas.{has_still}
use Rattle.completeness.proofs.PlannedLemmas.{not_chosen, not_mapped, one_left}
use Rattle.completeness.proofs.ReparentPoints.{covers_nothing}
use Rattle.completeness.proofs.RescueStays.{fittest_same, given_alike}

-- ---- the calls of many

in_part : (span done : List Deed) (d : Deed) → IsPart span done → IsIn done d → IsIn span d
in_part span done d part is = record {
  before = part.before ++ is.before;
  after = is.after ++ part.after;
  split = part.split ∙ ap (λ (l : List Deed). part.before ++ (l ++ part.after)) is.split
      ∙ ap (λ (l : List Deed). part.before ++ l) (append_assoc is.before (d ∷ is.after) part.after) ∙ sym (append_assoc part.before is.before (d ∷ (is.after ++ part.after)));
}

first_in : (d : Deed) (ds : List Deed) → IsIn (d ∷ ds) d
first_in d ds = record { before = []; after = ds; split = refl }

later_in : (d e : Deed) (ds : List Deed) → IsIn ds e → IsIn (d ∷ ds) e
later_in d e ds is = record { before = d ∷ is.before; after = is.after; split = ap (λ (l : List Deed). d ∷ l) is.split }

-- each of them is a call of the kind
pub call_kind : (them : List Alias) (kind : Kind) (ds : List Deed) (x : Asked) → are_calls them kind ds ≡ true → (before after : List Deed)
    → ds ≡ before ++ deeds.Asked x ∷ after → kind_eq x.kind kind ≡ true
call_kind [] kind [] x are [] after split = absurd (let wrong : [] ≡ deeds.Asked x ∷ after = split in cc)
call_kind [] kind [] x are (b ∷ before) after split = absurd (let wrong : [] ≡ b ∷ (before ++ deeds.Asked x ∷ after) = split in cc)
call_kind [] kind (d ∷ ds) x are before after split = absurd (false≢true are)
call_kind (a ∷ more) kind [] x are before after split = absurd (false≢true are)
call_kind (a ∷ more) kind (deeds.Asked y ∷ ds) x are [] after split =
    let same : y ≡ x = (let both : deeds.Asked y ∷ ds ≡ deeds.Asked x ∷ after = split in cc) in
    ap (λ (v : Asked). kind_eq v.kind kind) (sym same) ∙ both_right (alias_eq y.alias a) (kind_eq y.kind kind) (both_left (is_ask a kind y) (are_calls more kind ds) are)
call_kind (a ∷ more) kind (deeds.Asked y ∷ ds) x are (b ∷ before) after split =
    call_kind more kind ds x (both_right (is_ask a kind y) (are_calls more kind ds) are) before after
    (let both : deeds.Asked y ∷ ds ≡ b ∷ (before ++ deeds.Asked x ∷ after) = split in cc)
call_kind (a ∷ more) kind (deeds.Took reply ∷ ds) x are before after split = absurd (false≢true are)
call_kind (a ∷ more) kind (deeds.Read reply ∷ ds) x are before after split = absurd (false≢true are)
call_kind (a ∷ more) kind (deeds.Intended b reply ∷ ds) x are before after split = absurd (false≢true are)
call_kind (a ∷ more) kind (deeds.Recorded b reply ∷ ds) x are before after split = absurd (false≢true are)
call_kind (a ∷ more) kind (deeds.Drained b reply ∷ ds) x are before after split = absurd (false≢true are)
call_kind (a ∷ more) kind (deeds.Wrote b reply ∷ ds) x are before after split = absurd (false≢true are)
call_kind (a ∷ more) kind (deeds.Told committed ∷ ds) x are before after split = absurd (false≢true are)

-- so they were earlier
both_so : (a b : Bool) → a ≡ true → b ≡ true → (a && b) ≡ true
both_so true b p q = q
both_so false b p q = absurd (false≢true p)

pub are_earlier : (them : List Alias) (kind : Kind) (es ds : List Deed) → Later es ds → are_calls them kind ds ≡ true → are_calls them kind es ≡ true
are_earlier them kind _ _ Nothing are = are
are_earlier [] kind _ _ (More d e es ds one rest) are = absurd (false≢true are)
are_earlier (a ∷ more) kind _ _ (More _ _ es ds (Comes x y l) rest) are =
    both_so (is_ask a kind x) (are_calls more kind es) (sym (later_ask a kind x y l) ∙ both_left (is_ask a kind y) (are_calls more kind ds) are)
    (are_earlier more kind es ds rest (both_right (is_ask a kind y) (are_calls more kind ds) are))
are_earlier (a ∷ more) kind _ _ (More _ _ es ds (Itself d) rest) are = of_deed d are (λ h. are_earlier more kind es ds rest h)
  where
    of_deed : (d : Deed) → are_calls (a ∷ more) kind (d ∷ ds) ≡ true → (are_calls more kind ds ≡ true → are_calls more kind es ≡ true) → are_calls (a ∷ more) kind (d ∷ es) ≡ true
    of_deed (deeds.Asked x) h further =
        both_so (is_ask a kind x) (are_calls more kind es) (both_left (is_ask a kind x) (are_calls more kind ds) h) (further (both_right (is_ask a kind x) (are_calls more kind ds) h))
    of_deed (deeds.Took reply) h further = absurd (false≢true h)
    of_deed (deeds.Read reply) h further = absurd (false≢true h)
    of_deed (deeds.Intended b reply) h further = absurd (false≢true h)
    of_deed (deeds.Recorded b reply) h further = absurd (false≢true h)
    of_deed (deeds.Drained b reply) h further = absurd (false≢true h)
    of_deed (deeds.Wrote b reply) h further = absurd (false≢true h)
    of_deed (deeds.Told committed) h further = absurd (false≢true h)

-- ---- none is stale

stop_is : (call : Call) → kind_eq (kind_of call) kinds.Stop ≡ true → call ≡ calls.Stop
stop_is calls.Stop h = refl
stop_is _ h = absurd (false≢true h)

abbrev NeverStale : List Deed → Type 0
NeverStale ds = (x : Asked) (t : ℕ) → IsIn ds (deeds.Asked x) → x.outcome ≡ Some (outcomes.Answered (says.StaleTerm t)) → ⊥

none_stale : (ds : List Deed) → NeverStale ds → first_by stale_in ds ≡ None
none_stale [] never = refl
none_stale (deeds.Asked x ∷ ds) never =
    ap (λ (o : Option Refusal). or_else o (first_by stale_in ds)) (of_outcome x.outcome refl) ∙ none_stale ds (λ y t is came. never y t (later_in (deeds.Asked x) (deeds.Asked y) ds is) came)
  where
    of_answer : (answer : Answer) → x.outcome ≡ Some (outcomes.Answered answer) → refusal_by_stale x.alias (Some (outcomes.Answered answer)) ≡ None
    of_answer (says.StaleTerm t) is = absurd (never x t (first_in (deeds.Asked x) ds) is)
    of_answer _ is = refl

    of_outcome : (o : Option Outcome) → x.outcome ≡ o → refusal_by_stale x.alias o ≡ None
    of_outcome None is = refl
    of_outcome (Some (outcomes.GivenUp why)) is = refl
    of_outcome (Some (outcomes.Answered answer)) is = of_answer answer is
none_stale (deeds.Took reply ∷ ds) never = none_stale ds (λ y t is came. never y t (later_in (deeds.Took reply) (deeds.Asked y) ds is) came)
none_stale (deeds.Read reply ∷ ds) never = none_stale ds (λ y t is came. never y t (later_in (deeds.Read reply) (deeds.Asked y) ds is) came)
none_stale (deeds.Intended b reply ∷ ds) never = none_stale ds (λ y t is came. never y t (later_in (deeds.Intended b reply) (deeds.Asked y) ds is) came)
none_stale (deeds.Recorded b reply ∷ ds) never = none_stale ds (λ y t is came. never y t (later_in (deeds.Recorded b reply) (deeds.Asked y) ds is) came)
none_stale (deeds.Drained b reply ∷ ds) never = none_stale ds (λ y t is came. never y t (later_in (deeds.Drained b reply) (deeds.Asked y) ds is) came)
none_stale (deeds.Wrote b reply ∷ ds) never = none_stale ds (λ y t is came. never y t (later_in (deeds.Wrote b reply) (deeds.Asked y) ds is) came)
none_stale (deeds.Told committed ∷ ds) never = none_stale ds (λ y t is came. never y t (later_in (deeds.Told committed) (deeds.Asked y) ds is) came)

pub no_stop_stale : (config : Config) (ss : List Step) (c j : ℕ) (keeper : Keeper config ss c j) (them : List Alias) (done : List Deed)
    → AreCalled (span_to config ss c j keeper) them kinds.Stop done → first_by stale_in done ≡ None
no_stop_stale config ss c j keeper them done called = none_stale done (λ x t is came. stale x t is came)
  where
    stale : (x : Asked) (t : ℕ) → IsIn done (deeds.Asked x) → x.outcome ≡ Some (outcomes.Answered (says.StaleTerm t)) → ⊥
    stale x t is came =
        let call = call_of_deed config ss j c x keeper.run
        (in_span config ss c j keeper (deeds.Asked x) (in_part (span_to config ss c j keeper) done (deeds.Asked x) called.part is)) in
        let stop : call.call ≡ calls.Stop =
        stop_is call.call (ap (λ (k : Kind). kind_eq k kinds.Stop) call.kind ∙ call_kind them kinds.Stop done x called.are is.before is.after is.split) in
        not_stale config ss c keeper.term keeper.taken j t x keeper.run keeper.kept
        (kept_call config ss c keeper.term keeper.taken j x (says.StaleTerm t) keeper.run keeper.kept call (ap (λ (f : Call). asks_status f) stop) came)

-- ---- who takes over

rescuer_left : (g : Group) (o : EmergencyOptions) (seen : Seen) (done : List Deed) (w : Held) (r : Refusal) → RescuerIsLeft g o seen done
    → rescuer g o seen done w None ≡ Err r → ⊥
rescuer_left g o seen done w r left h =
    let number : Tablet → Option ℕ = number_to_rescue g o seen done w in
    one_left number g.tablets left.0 (fitness g seen (helds done) w left.1.0) left.1.0 None left.1.1.0
    (ap (λ y. unless_barred y (fitness g seen (helds done) w left.1.0)) left.1.1.1)
    (not_mapped (λ (x : Alias × ℕ). x.0) (best_from number None g.tablets) (not_chosen _ _ r h))

-- one does
pub one_takes_over : (g : Group) (o : EmergencyOptions) (seen : Seen) (done : List Deed) (w : Held) (given : Option Alias) → o.new_primary ≡ given
    → ((a : Alias) → o.new_primary ≡ Some a → refusal_of_given g o seen done a ≡ None) → (o.new_primary ≡ None → RescuerIsLeft g o seen done)
    → (c : Alias) × (rescuer g o seen done w given ≡ Ok c)
one_takes_over g o seen done w (Some c) is given left = (c, ap (λ (q : Option Refusal). ok_unless q c) (given c is))
one_takes_over g o seen done w None is given left = of_choice (rescuer g o seen done w None) refl
  where
    of_choice : (r : Result Alias Refusal) → rescuer g o seen done w None ≡ r → (c : Alias) × (rescuer g o seen done w None ≡ Ok c)
    of_choice (Ok c) k = (c, k)
    of_choice (Err r) k = absurd (rescuer_left g o seen done w r (left is) k)

-- and did by what was known earlier, once the Stops were settled
pub took_over : (g : Group) (o : EmergencyOptions) (seen : Seen) (then done : List Deed) (w : Held) (c : Alias) (given : Option Alias) → Later then done
    → list_any is_out then ≡ false → rescuer g o seen done w given ≡ Ok c → rescuer g o seen then w given ≡ Ok c
took_over g o seen then done w c None later settled is = sym (fittest_same g o seen then done w (record { later = later; settled = settled })) ∙ is
took_over g o seen then done w c (Some a) later settled is =
    of_refusal (refusal_of_given g o seen done a) (refusal_of_given g o seen then a) (given_alike g o seen then done a (record { later = later; settled = settled })) is
  where
    of_refusal : (p q : Option Refusal) → is_none p ≡ is_none q → ok_unless p a ≡ Ok c → ok_unless q a ≡ Ok c
    of_refusal None None same k = k
    of_refusal None (Some r) same k = absurd (false≢true (sym same))
    of_refusal (Some r) q same k = absurd (let wrong : Err r ≡ Ok c = k in cc)

-- ---- what who stopped has

-- a tablet that says that it stopped tells what it has
stopped_position : (g : Group) (me : Tablet) (u newest : ℕ) (p : Position) (s : TabletState) → answer_to g me u calls.Stop s ≡ says.Stopped newest p
    → logs.position_of s.log ≡ p
stopped_position g me u newest p s h =
    chosen (λ v. v.says ≡ says.Stopped newest p → logs.position_of s.log ≡ p) (nat_lt u s.seen) _ (stops u (record s { seen = u }))
    (λ stale wrong. absurd (let bad : says.StaleTerm s.seen ≡ says.Stopped newest p = wrong in cc)) (λ fresh is. same (newest_row s.log) is) h
  where
    same : (n : ℕ) → says.Stopped n (logs.position_of s.log) ≡ says.Stopped newest p → logs.position_of s.log ≡ p
    same n k = cc

-- the Stop that shows a tablet's position among these; or they show none
record IsShown (ds : List Deed) (a : Alias) (p : Position) : Type 0 where
  call_of : Asked
  stands : IsIn ds (deeds.Asked call_of)
  alias : call_of.alias ≡ a
  newest : ℕ
  says : call_of.outcome ≡ Some (outcomes.Answered (says.Stopped newest p))

shown_later : (d : Deed) (ds : List Deed) (a : Alias) (p : Position) → IsShown ds a p → IsShown (d ∷ ds) a p
shown_later d ds a p is = record {
  call_of = is.call_of;
  stands = later_in d (deeds.Asked is.call_of) ds is.stands;
  alias = is.alias;
  newest = is.newest;
  says = is.says;
}

shown_behind : (d : Deed) (ds : List Deed) (a : Alias) → (position_of (helds ds) a ≡ nothing) ⊎ IsShown ds a (position_of (helds ds) a)
    → (position_of (helds ds) a ≡ nothing) ⊎ IsShown (d ∷ ds) a (position_of (helds ds) a)
shown_behind d ds a (inl none) = inl none
shown_behind d ds a (inr is) = inr (shown_later d ds a (position_of (helds ds) a) is)

shown_by : (ds : List Deed) (a : Alias) → (position_of (helds ds) a ≡ nothing) ⊎ IsShown ds a (position_of (helds ds) a)
shown_by [] a = inl refl
shown_by (deeds.Asked x ∷ ds) a = of_outcome x.outcome refl (shown_by ds a)
  where
    of_test : (b : Bool) (newest : ℕ) (p : Position) → alias_eq x.alias a ≡ b → x.outcome ≡ Some (outcomes.Answered (says.Stopped newest p))
        → (position_of (helds ds) a ≡ nothing) ⊎ IsShown ds a (position_of (helds ds) a)
        → (cond b p (position_of (helds ds) a) ≡ nothing) ⊎ IsShown (deeds.Asked x ∷ ds) a (cond b p (position_of (helds ds) a))
    of_test true newest p same is rest =
        inr (record { call_of = x; stands = first_in (deeds.Asked x) ds; alias = alias_eq_is x.alias a same; newest = newest; says = is })
    of_test false newest p other is rest = shown_behind (deeds.Asked x) ds a rest

    of_outcome : (out : Option Outcome) → x.outcome ≡ out → (position_of (helds ds) a ≡ nothing) ⊎ IsShown ds a (position_of (helds ds) a)
        → (position_of (held_by x.alias out ++ helds ds) a ≡ nothing) ⊎ IsShown (deeds.Asked x ∷ ds) a (position_of (held_by x.alias out ++ helds ds) a)
    of_outcome None is rest = shown_behind (deeds.Asked x) ds a rest
    of_outcome (Some (outcomes.GivenUp why)) is rest = shown_behind (deeds.Asked x) ds a rest
    of_outcome (Some (outcomes.Answered (says.Stopped newest p))) is rest = of_test (alias_eq x.alias a) newest p refl is rest
    of_outcome (Some (outcomes.Answered _)) is rest = shown_behind (deeds.Asked x) ds a rest
shown_by (deeds.Took reply ∷ ds) a = shown_behind (deeds.Took reply) ds a (shown_by ds a)
shown_by (deeds.Read reply ∷ ds) a = shown_behind (deeds.Read reply) ds a (shown_by ds a)
shown_by (deeds.Intended b reply ∷ ds) a = shown_behind (deeds.Intended b reply) ds a (shown_by ds a)
shown_by (deeds.Recorded b reply ∷ ds) a = shown_behind (deeds.Recorded b reply) ds a (shown_by ds a)
shown_by (deeds.Drained b reply ∷ ds) a = shown_behind (deeds.Drained b reply) ds a (shown_by ds a)
shown_by (deeds.Wrote b reply ∷ ds) a = shown_behind (deeds.Wrote b reply) ds a (shown_by ds a)
shown_by (deeds.Told committed ∷ ds) a = shown_behind (deeds.Told committed) ds a (shown_by ds a)

-- who stopped with all of this has it still
pub stopped_has : (config : Config) (ss : List Step) (c k m : ℕ) (them : List Alias) (done : List Deed) (a : Alias) (p : Position) → IsRun config ss → k ≤ m
    → are_calls them kinds.Stop done ≡ true → IsPart (span_of (world_at config ss k) c) done → covers (position_of (helds done) a) p ≡ true
    → covers (logs.position_of ((world_at config ss m).tablets a).log) p ≡ true
stopped_has config ss c k m them done a p run le are part covered = of_cases (shown_by done a)
  where
    of_cases : (position_of (helds done) a ≡ nothing) ⊎ IsShown done a (position_of (helds done) a) → covers (logs.position_of ((world_at config ss m).tablets a).log) p ≡ true
    of_cases (inl none) =
        covers-further (logs.position_of ((world_at config ss m).tablets a).log) nothing p (covers_nothing (logs.position_of ((world_at config ss m).tablets a).log))
        (ap (λ (q : Position). covers q p) (sym none) ∙ covered)
    of_cases (inr is) =
        let x : Asked = is.call_of in
        let stands = in_part (span_of (world_at config ss k) c) done (deeds.Asked x) part is.stands in
        let call = call_of_deed config ss k c x run stands in
        let at = answered_at config ss k c x (says.Stopped is.newest (position_of (helds done) a)) run call is.says in
        let w : World = world_at config ss at.place in
        let stop : call.call ≡ calls.Stop =
        stop_is call.call (ap (λ (k : Kind). kind_eq k kinds.Stop) call.kind ∙ call_kind them kinds.Stop done x are is.stands.before is.stands.after is.stands.split) in
        let same = stopped_position w.group at.me x.term is.newest (position_of (helds done) a) (w.tablets x.alias)
        (ap (λ (f : Call). answer_to w.group at.me x.term f (w.tablets x.alias)) (sym stop) ∙ at.answered) in
        let had : covers (logs.position_of (w.tablets a).log) p ≡ true =
        subst (λ (b : Alias). covers (logs.position_of (w.tablets b).log) p ≡ true) is.alias (ap (λ (q : Position). covers q p) same ∙ covered) in
        let earlier = at.earlier in
        has_still config ss at.place m a p run (omega (arith, earlier, le)) had

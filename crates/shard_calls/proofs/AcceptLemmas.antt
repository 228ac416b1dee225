-- That what is told is held by as many tablets as the policy asks for, and that what is not told is said late.
use Rattle.std.proofs.Common.{◌≡◌, ℕ, zero, suc, ◌≤◌, ◌<◌, Bool, true, false, not, ◌&&◌, ◌||◌, nat_lt, nat_le, refl, ap, sym, subst, ◌∙◌, arith, List, cond, Option, Some, None}
use Rattle.std.proofs.lemmas.Bool.{false≢true}
use Rattle.std.proofs.lemmas.Bool.Decides.{nat_tests}
use Rattle.shard_names.specs.declared.alias.Alias.{Alias}
use Rattle.shard_names.specs.declared.tablet.Tablet.{Tablet}
use Rattle.shard_names.specs.Tablets.{alias_eq, tablet_of}
use Rattle.shard_names.proofs.TabletLemmas.{both_right, alias_eq_is}
use Rattle.gtid_sets.specs.declared.entry.Entry.{Entry}
use Rattle.durability.specs.Policies.{rules_of}
use Rattle.durability.specs.Sets.{Accepted}
use Rattle.durability.proofs.CountingLemmas.{accepted_of, wider_accepted}
use Rattle.replication.specs.Told.{holders}
use Rattle.shard_calls.specs.declared.answer.Answer.TheVariants as says
use Rattle.shard_calls.specs.declared.call.Call.TheVariants as calls
use Rattle.shard_calls.specs.declared.event.Step.{Step}
use Rattle.shard_calls.specs.declared.post.Content.{Content}
use Rattle.shard_calls.specs.declared.post.Content.TheVariants as contents
use Rattle.shard_calls.specs.declared.post.Message.{Message}
use Rattle.shard_calls.specs.declared.stand.Stand.{Stand}
use Rattle.shard_calls.specs.declared.group.Group.{Group}
use Rattle.shard_calls.specs.Stands.{is_down, is_primary, is_primary_of}
use Rattle.gtid_sets.specs.Logs.{place_of_row}
use Rattle.shard_calls.specs.Tablets.{TabletState, is_told, is_row_told, answer_to}
use Rattle.shard_calls.specs.World.{Config, World, group_of, numbered}
use Rattle.shard_calls.specs.Messages.{passes, is_told_at, is_row_told_at, is_ready, is_received, may_arrive, is_cut, link_of}
use Rattle.shard_calls.specs.Table.{IsStep}
use Rattle.shard_calls.specs.Promotions.{world_at, TellsAt, ToWrite, ToWait}
use Rattle.shard_calls.specs.RunLaws.{OfEveryRun, OfEveryShard, IsIn, HasFirst, having, ToldIsAccepted, NotToldIsLate}
use Rattle.shard_calls.proofs.LawLemmas.{chosen}
use Rattle.shard_calls.proofs.EntryLemmas.{held_gtid}
use Rattle.shard_calls.proofs.ClosureLemmas.{in_front}
use Rattle.shard_calls.proofs.StepLemmas.{alias_found}
use Rattle.shard_calls.proofs.GroupLemmas.{group_at}
use Rattle.shard_calls.proofs.RunLemmas.{step_along, later_at, whole_at, told_by_tell, told_by_wait}

pub passed : {A : Type 0} (test : A → Bool) (o : Option A) → passes test o ≡ true → (x : A) × (o ≡ Some x) × (test x ≡ true)
passed test None h = absurd (false≢true h)
passed test (Some x) h = (x, refl, h)

-- ---- where an entry is told

-- a declared tablet that stands as the primary of the term, and the place in its log at which it tells the entry
record ToldHere (config : Config) (w : World) (e : Entry) (t : ℕ) : Type 0 where
  a : Alias
  me : Tablet
  index : ℕ
  found : tablet_of config.tablets a ≡ Some me
  stands : is_primary_of (w.tablets a).stand t ≡ true
  told : is_told (group_of config) me (w.tablets a) index ≡ true
  at : numbered (w.tablets a).log index ≡ Some e

pub row_told : (g : Group) (me : Tablet) (s : TabletState) (o : Option ℕ) (index : ℕ) → o ≡ Some index
    → (elim o as (λ _. Bool) [ Some i ↦ is_told g me s i | None ↦ false ]) ≡ true → is_told g me s index ≡ true
row_told g me s o index is told =
    subst (λ (p : Option ℕ). (elim p as (λ _. Bool) [ Some i ↦ is_told g me s i | None ↦ false ]) ≡ true) is told

told_here : (config : Config) (w : World) (s : Step) (e : Entry) (t : ℕ) → w.group ≡ group_of config → IsStep config w s → TellsAt config w s e t
    → ToldHere config w e t
told_here config w _ _ _ group step (ToWrite c s x e command wrote at) =
    let tells = told_by_tell config w c s x step command wrote in
    let there : is_told_at (record w { group = group_of config }) x.alias x.index ≡ true =
    subst (λ (g : Group). is_told_at (record w { group = g }) x.alias x.index ≡ true) group tells.1 in
    let who = passed (λ me. is_told (group_of config) me (w.tablets x.alias) x.index) (tablet_of config.tablets x.alias) there in
    record { a = x.alias; me = who.0; index = x.index; found = who.1; stands = tells.0; told = who.2; at = at }
told_here config w _ _ _ group step (ToWait k n c t until index a me m e here carries found told at_row at) =
    let tells = told_by_wait w.group me t until (w.tablets a) told in
    let row : is_told w.group me (w.tablets a) index ≡ true = row_told w.group me (w.tablets a) (place_of_row (w.tablets a).log t) index at_row tells.1 in
    record {
      a = a;
      me = me;
      index = index;
      found = found;
      stands = tells.0;
      told = subst (λ (g : Group). is_told g me (w.tablets a) index ≡ true) group row;
      at = at;
    }

-- ---- who holds it

has_entry : (log source : List Entry) (acked index : ℕ) (e : Entry) → HasFirst log source acked → nat_le index acked ≡ true → numbered source index ≡ Some e
    → IsIn log e
has_entry log source acked zero e first le at = absurd (let none : None ≡ Some e = at in cc)
has_entry log source acked (suc n) e first le at = first n e (let less : n < acked = grind (arith, nat_tests) in less) at

pub is_in : (log : List Entry) (index : ℕ) (e : Entry) → numbered log index ≡ Some e → IsIn log e
is_in log zero e at = absurd (let none : None ≡ Some e = at in cc)
is_in log (suc n) e at = (n, at)

-- who counts as a holder has the entry
holder_has : (w : World) (p x : Alias) (index : ℕ) (e : Entry) → ((r : Alias) → HasFirst (w.tablets r).log (w.tablets p).log ((w.tablets p).acked r))
    → numbered (w.tablets p).log index ≡ Some e → holders (w.tablets p).acked p index x ≡ true → IsIn (w.tablets x).log e
holder_has w p x index e noted at h = of_test (alias_eq x p) refl h
  where
    of_test : (b : Bool) → alias_eq x p ≡ b → (b || nat_le index ((w.tablets p).acked x)) ≡ true → IsIn (w.tablets x).log e
    of_test true same k = subst (λ (y : Alias). IsIn (w.tablets y).log e) (sym (alias_eq_is x p same)) (is_in (w.tablets p).log index e at)
    of_test false other k = has_entry _ (w.tablets p).log ((w.tablets p).acked x) index e (noted x) k at

pub told_is_accepted : OfEveryShard ToldIsAccepted
told_is_accepted config ss is run i e t q = record {
  primary = here.me;
  declared = subst (λ (b : Alias). tablet_of config.tablets b ≡ Some here.me) (sym own) here.found;
  stands = subst (λ (b : Alias). is_primary_of (w.tablets b).stand t ≡ true) (sym own) here.stands;
  accepted = λ j le. wider_accepted (rules_of config.policy) config.tablets here.me (holders (w.tablets here.a).acked here.me.alias here.index) (having config ss j e)
      (λ x held. kept j le x (subst (λ (b : Alias). holders (w.tablets here.a).acked b here.index x ≡ true) own held)) holding;
}
  where
    w : World
    w = world_at config ss i

    here : ToldHere config w e t
    here = told_here config w q.step e t (group_at config ss i) (step_along config _ ss i q.step run q.here) q.tells

    own : here.me.alias ≡ here.a
    own = alias_found config here.a here.me here.found

    holding : Accepted (rules_of config.policy) config.tablets here.me (holders (w.tablets here.a).acked here.me.alias here.index)
    holding = accepted_of (rules_of config.policy) config.tablets here.me _ (both_right (is_primary (w.tablets here.a).stand) _ here.told)

    noted : (r : Alias) → HasFirst (w.tablets r).log (w.tablets here.a).log ((w.tablets here.a).acked r)
    noted r = (((whole_at config ss i is run).closed.tablets here.a).noted r).first

    kept : (j : ℕ) → i ≤ j → (x : Alias) → holders (w.tablets here.a).acked here.a here.index x ≡ true → having config ss j e x ≡ true
    kept j le x held =
        let then : IsIn (w.tablets x).log e = holder_has w here.a x here.index e noted here.at held in
        let later = in_front _ _ e ((later_at config ss i j run le).logs x) then in
        held_gtid _ later.0 e later.1

-- ---- what is not told

not_told_in : (b c : Bool) (at : Stand) → cond b (cond c says.Told says.NotTold) (says.Kept at) ≡ says.NotTold → (b ≡ true) × (c ≡ false)
not_told_in true true at h = absurd (let no_answer : says.Told ≡ says.NotTold = h in cc)
not_told_in true false at h = (refl, refl)
not_told_in false c at h = absurd (let no_answer : says.Kept at ≡ says.NotTold = h in cc)

-- a tablet that says so has not seen a later term, is the primary, and has not told the row
not_told_by : (g : Group) (me : Tablet) (t until : ℕ) (s : TabletState) → answer_to g me t (calls.WaitTold until) s ≡ says.NotTold
    → (nat_lt t s.seen ≡ false) × (is_primary_of s.stand t ≡ true) × (is_row_told g me s t ≡ false)
not_told_by g me t until s =
    chosen (λ v. v.says ≡ says.NotTold → (nat_lt t s.seen ≡ false) × (is_primary_of s.stand t ≡ true) × (is_row_told g me s t ≡ false)) (nat_lt t s.seen) _ _
    (λ stale h. absurd (let no_answer : says.StaleTerm s.seen ≡ says.NotTold = h in cc))
    (λ fresh h. let is = not_told_in (is_primary_of s.stand t) (is_row_told g me s t) s.stand h in (fresh, is.0, is.1))

late : (a b c d : Bool) → (a || not b || c || d) ≡ true → a ≡ false → b ≡ true → c ≡ false → d ≡ true
late false true false d h p q r = h
late true b c d h p q r = absurd (false≢true (sym p))
late false false c d h p q r = absurd (false≢true q)
late false true true d h p q r = absurd (false≢true (sym r))

delivered : (w : World) (k : ℕ) (m : Message) (c t until : ℕ) (a : Alias) → numbered w.post k ≡ Some m → m.content ≡ contents.Asks c t a (calls.WaitTold until)
    → passes (may_arrive w) (numbered w.post k) ≡ true → is_ready w a t (calls.WaitTold until) ≡ true
delivered w k m c t until a at carries met =
    let arrives : may_arrive w m ≡ true = subst (λ (o : Option Message). passes (may_arrive w) o ≡ true) at met in
    let received : is_received w m.content ≡ true = both_right (not m.lost && not (is_cut w.cuts (link_of m.content))) (is_received w m.content) arrives in
    both_right (not (is_down (w.tablets a).stand)) _ (subst (λ (x : Content). is_received w x ≡ true) carries received)

pub not_told_is_late : OfEveryRun NotToldIsLate
not_told_is_late config ss run i t until me q says_so =
    let done : nat_le until w.clock ≡ true = late (nat_lt t (w.tablets me.alias).seen) (is_primary_of (w.tablets me.alias).stand t) (is_row_told_at w me.alias t) (nat_le until w.clock) ready is.0 is.1 not_there in
    let le : until ≤ w.clock = grind (arith, nat_tests) in le
  where
    w : World
    w = world_at config ss i

    ready : is_ready w me.alias t (calls.WaitTold until) ≡ true
    ready = delivered w q.message q.asks q.command t until me.alias q.at q.carries (step_along config _ ss i _ run q.here).met

    is : (nat_lt t (w.tablets me.alias).seen ≡ false) × (is_primary_of (w.tablets me.alias).stand t ≡ true) × (is_row_told w.group me (w.tablets me.alias) t ≡ false)
    is = not_told_by w.group me t until (w.tablets me.alias) says_so

    declared : tablet_of w.group.tablets me.alias ≡ Some me
    declared = subst (λ (g : Group). tablet_of g.tablets me.alias ≡ Some me) (sym (group_at config ss i)) q.declared

    not_there : is_row_told_at w me.alias t ≡ false
    not_there = ap (λ (o : Option Tablet). passes (λ x. is_row_told w.group x (w.tablets me.alias) t) o) declared ∙ is.2

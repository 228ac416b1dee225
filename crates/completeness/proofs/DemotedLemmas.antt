-- The Demote of a PlannedReparentShard that nothing hinders (Vitess manual): it is answered, and it refuses nothing.
use Rattle.std.proofs.Common.{◌≡◌, ℕ, Bool, true, false, nat_lt, arith, List, Some, None, refl, sym, ap, subst, ◌∙◌}
use Rattle.std.proofs.lemmas.Bool.{false≢true}
use Rattle.std.proofs.lemmas.Bool.Decides.{nat_tests}
use Rattle.shard_names.specs.declared.alias.Alias.{Alias}
use Rattle.std.specs.List.{slice_get}
use Rattle.shard_names.specs.Tablets.{alias_eq, tablet_of}
use Rattle.shard_names.proofs.TabletLemmas.{both_right}
use Rattle.shard_calls.proofs.StepLemmas.{alias_found}
use Rattle.topo_lock.specs.declared.intent.Intent.{Intent}
use Rattle.shard_calls.specs.declared.answer.Answer.{Answer}
use Rattle.shard_calls.specs.declared.answer.Answer.TheVariants as says
use Rattle.shard_calls.specs.declared.call.Call.{Call}
use Rattle.shard_calls.specs.declared.call.Call.TheVariants as calls
use Rattle.shard_calls.specs.declared.command.PlannedOptions.{PlannedOptions}
use Rattle.shard_calls.specs.declared.event.Event.TheVariants as events
use Rattle.shard_calls.specs.declared.event.Reply.TheVariants as replies
use Rattle.shard_calls.specs.declared.event.Seen.{Seen}
use Rattle.shard_calls.specs.declared.event.Step.{Step}
use Rattle.shard_calls.specs.declared.post.Content.TheVariants as contents
use Rattle.shard_calls.specs.declared.refusal.Refusal.{Refusal}
use Rattle.shard_calls.specs.declared.refusal.Refusal.TheVariants as refusals
use Rattle.shard_calls.specs.declared.span.Asked.{Asked}
use Rattle.shard_calls.specs.declared.span.Deed.TheVariants as deeds
use Rattle.shard_calls.specs.declared.span.Kind.TheVariants as kinds
use Rattle.shard_calls.specs.declared.span.Outcome.{Outcome}
use Rattle.shard_calls.specs.declared.span.Outcome.TheVariants as outcomes
use Rattle.shard_calls.specs.Deliveries.{asks_status}
use Rattle.shard_calls.specs.Kinds.{kind_of, kind_eq}
use Rattle.shard_calls.specs.Refusals.{refusal_after, refusal_by_demoted, refusal_to}
use Rattle.shard_calls.specs.Spans.{span_of}
use Rattle.shard_calls.specs.Table.{IsRun}
use Rattle.shard_calls.specs.Tablets.{answer_to}
use Rattle.shard_calls.specs.World.{Config}
use Rattle.shard_calls.specs.Promotions.{world_at}
use Rattle.shard_base.specs.Options.{only_if}
use Rattle.gtid_sets.specs.Position.{Position}
use Rattle.shard_laws.specs.TightMoves.{IsPosted}
use Rattle.courses.specs.Sound.{IsIn, IsRead, IsSaid, IsRefusedCall}
use Rattle.courses.specs.Walks.{is_ask}
use Rattle.completeness.specs.Planned.{NothingHinders, IsDemoted}
use Rattle.completeness.proofs.CallLemmas.{IsCall, call_of_deed, answered_at, call_term}
use Rattle.completeness.proofs.KeptLemmas as kept
use Rattle.completeness.proofs.ReadLemmas.{has_read}

demote_is : (call : Call) → kind_eq (kind_of call) kinds.Demote ≡ true → call ≡ calls.Demote
demote_is calls.Demote h = refl
demote_is _ h = absurd (false≢true h)

not_less : (n : ℕ) → nat_lt n n ≡ false
not_less n = grind (arith, nat_tests)

-- the call of this deed is a Demote
of_call : (config : Config) (ss : List Step) (j c : ℕ) (x : Asked) (a : Alias) → (call : IsCall config ss j c x) → is_ask a kinds.Demote x ≡ true → call.call ≡ calls.Demote
of_call config ss j c x a call is =
    demote_is call.call (ap (λ k. kind_eq k kinds.Demote) call.kind ∙ both_right (alias_eq x.alias a) (kind_eq x.kind kinds.Demote) is)

-- what it was answered is that the tablet is demoted
pub says_demoted : (config : Config) (ss : List Step) (c j : ℕ) (o : PlannedOptions) (seen : Seen) (i : Intent) (x : Asked) (answer : Answer) → IsRun config ss
    → (free : NothingHinders config ss c j o) → IsRead (span_of (world_at config ss free.freed) c) seen → seen.intent ≡ Some i
    → IsIn (span_of (world_at config ss free.freed) c) (deeds.Asked x) → is_ask i.alias kinds.Demote x ≡ true → x.outcome ≡ Some (outcomes.Answered answer)
    → (p : Position) × (answer ≡ says.Demoted i.term p)
says_demoted config ss c j o seen i x answer run free is intent deed asks came =
    let call = call_of_deed config ss free.freed c x run deed in
    let demote = of_call config ss free.freed c x i.alias call asks in
    let at = answered_at config ss free.freed c x answer run call came in
    let has = (kept.kept_lock_is_held config ss run c free.term free.taken free.freed free.kept).has free.freed free.kept.later (omega arith) in
    let term : x.term ≡ free.term = call_term config ss free.freed c free.term x run call (ap (λ (f : Call). asks_status f) demote) has.own in
    let alias : at.me.alias ≡ x.alias = alias_found config x.alias at.me at.found in
    let posted = subst (λ (f : Call). IsPosted (world_at config ss at.place).post x.message (contents.Asks c free.term at.me.alias f)) demote
    (subst (λ (a : Alias). IsPosted (world_at config ss at.place).post x.message (contents.Asks c free.term a call.call)) (sym alias)
    (subst (λ (n : ℕ). IsPosted (world_at config ss at.place).post x.message (contents.Asks c n x.alias call.call)) term at.posted)) in
    let said = free.demoted seen i at.place at.me (has_read config ss c free.freed seen run is) intent
    (record { message = x.message; reply = at.reply; here = at.here; posted = posted; declared = ap (λ (a : Alias). tablet_of config.tablets a) alias ∙ at.found }) in (
      said.0,
      sym at.answered ∙ ap (λ (n : ℕ). answer_to (world_at config ss at.place).group at.me n call.call ((world_at config ss at.place).tablets x.alias)) term
          ∙ ap (λ (f : Call). answer_to (world_at config ss at.place).group at.me free.term f ((world_at config ss at.place).tablets x.alias)) demote
          ∙ ap (λ (a : Alias). answer_to (world_at config ss at.place).group at.me free.term calls.Demote ((world_at config ss at.place).tablets a)) (sym alias) ∙ said.1,
    )

-- so no term is pending
pub not_pending : (config : Config) (ss : List Step) (c j : ℕ) (o : PlannedOptions) (seen : Seen) (i : Intent) (answer : Answer) (r : Refusal) → IsRun config ss
    → (free : NothingHinders config ss c j o) → IsRead (span_of (world_at config ss free.freed) c) seen → seen.intent ≡ Some i
    → IsSaid (span_of (world_at config ss free.freed) c) i.alias kinds.Demote answer → refusal_by_demoted i answer ≡ Some r → ⊥
not_pending config ss c j o seen i answer r run free is intent said refused =
    let so = says_demoted config ss c j o seen i said.call_of answer run free is intent said.deed said.is_call said.says in
    let none : None ≡ Some r =
    sym (ap (λ (b : Bool). only_if b (refusals.ReparentPending i.alias i.term)) (not_less i.term)) ∙ ap (λ (y : Answer). refusal_by_demoted i y) (sym so.1) ∙ refused in cc

-- and its Demote refuses nothing
pub not_by_demote : (config : Config) (ss : List Step) (c j : ℕ) (o : PlannedOptions) (seen : Seen) (i : Intent) (r : Refusal) → IsRun config ss
    → (free : NothingHinders config ss c j o) → IsRead (span_of (world_at config ss free.freed) c) seen → seen.intent ≡ Some i
    → IsRefusedCall (span_of (world_at config ss free.freed) c) i.alias kinds.Demote r → ⊥
not_by_demote config ss c j o seen i r run free is intent by = of_outcome by.outcome by.came by.refused
  where
    of_outcome : (y : Outcome) → by.call_of.outcome ≡ Some y → refusal_after by.call_of y ≡ Some r → ⊥
    of_outcome (outcomes.Answered answer) came refused =
        let so = says_demoted config ss c j o seen i by.call_of answer run free is intent by.deed by.is_call came in
        let none : None ≡ Some r = ap (λ (y : Answer). refusal_to by.call_of y) (sym so.1) ∙ refused in cc
    of_outcome (outcomes.GivenUp why) came refused =
        let call = call_of_deed config ss free.freed c by.call_of run by.deed in
        let demote = of_call config ss free.freed c by.call_of i.alias call by.is_call in
        free.settled by.call_of why by.deed
        (IsDemoted call.place by.call_of.message
        (subst (λ (f : Call). slice_get ss call.place ≡ Some (record { event = events.Send c by.call_of.alias f; reply = replies.Message by.call_of.message })) demote call.sent)) came

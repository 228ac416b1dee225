-- The calls of a command that keeps its lock, each as what it was demanded: the step that sent it, and what its tablet answered. Commands are those of
-- vtctldclient (Vitess manual).
use Rattle.std.proofs.Common.{◌≡◌, refl, ap, sym, subst, ◌∙◌, false, ℕ, List, Option, Some, None}
use Rattle.std.specs.List.{slice_get}
use Rattle.shard_names.specs.declared.alias.Alias.{Alias}
use Rattle.shard_calls.specs.declared.answer.Answer.{Answer}
use Rattle.shard_calls.specs.declared.answer.Answer.TheVariants as says
use Rattle.shard_calls.specs.declared.call.Call.{Call}
use Rattle.shard_calls.specs.declared.call.Call.TheVariants as calls
use Rattle.shard_calls.specs.declared.event.Event.{Event}
use Rattle.shard_calls.specs.declared.event.Event.TheVariants as events
use Rattle.shard_calls.specs.declared.event.Reply.{Reply}
use Rattle.shard_calls.specs.declared.event.Reply.TheVariants as replies
use Rattle.shard_calls.specs.declared.event.Step.{Step}
use Rattle.shard_calls.specs.declared.span.Asked.{Asked}
use Rattle.shard_calls.specs.declared.span.Deed.{Deed}
use Rattle.shard_calls.specs.declared.span.Deed.TheVariants as deeds
use Rattle.shard_calls.specs.declared.span.Outcome.TheVariants as outcomes
use Rattle.shard_calls.specs.declared.state.Act.{Act}
use Rattle.shard_calls.specs.declared.state.CommandState.{CommandState}
use Rattle.shard_calls.specs.declared.why.Why.{Why}
use Rattle.shard_calls.specs.Answered.{act_of}
use Rattle.shard_calls.specs.Deliveries.{asks_status}
use Rattle.shard_calls.specs.Kinds.{kind_of}
use Rattle.shard_calls.specs.Refusals.{refusal_to}
use Rattle.shard_calls.specs.Spans.{deed_of, span_at, span_in, span_of, term_wrote}
use Rattle.shard_calls.specs.Table.{answer, IsRun}
use Rattle.shard_calls.specs.World.{Config, World, numbered, opening}
use Rattle.shard_calls.specs.Promotions.{world_at}
use Rattle.shard_calls.proofs.RunLemmas.{step_along}
use Rattle.shard_laws.proofs.EndLemmas.{done_by, is_shown}
use Rattle.courses.specs.declared.want.Want.TheVariants as wants
use Rattle.courses.specs.Sound.{IsIn}
use Rattle.planned.specs.Course.{timed}
use Rattle.completeness.specs.Kept.{IsKept}
use Rattle.completeness.proofs.CallLemmas.{IsCall, call_posted, by_send, posted_call, sent_of}
use Rattle.completeness.proofs.GoingLemmas.{Doing}
use Rattle.completeness.proofs.GoingPoints.{IsGranted}
use Rattle.completeness.proofs.KeptCalls.{IsKeptCall, kept_call, not_stale}
use Rattle.completeness.proofs.MadeLemmas.{MadeAt}

-- ---- a command that keeps its lock up to step j

pub record Keeper (config : Config) (ss : List Step) (c j : ℕ) : Type 0 where
  pub run : IsRun config ss
  pub state : CommandState
  pub here : numbered (world_at config ss j).commands c ≡ Some state
  pub term : ℕ
  pub taken : ℕ
  pub kept : IsKept ss c term taken j

-- what it did up to there
abbrev pub span_to : (config : Config) (ss : List Step) (c j : ℕ) → Keeper config ss c j → List Deed
span_to config ss c j keeper = span_in (world_at config ss j).post keeper.state

abbrev pub Made : (config : Config) (ss : List Step) (c j : ℕ) → Keeper config ss c j → Doing
Made config ss c j keeper = MadeAt config ss c j keeper.state

pub span_is : (config : Config) (ss : List Step) (c j : ℕ) (keeper : Keeper config ss c j) → span_of (world_at config ss j) c ≡ span_to config ss c j keeper
span_is config ss c j keeper = ap (λ (o : Option CommandState). span_at (world_at config ss j).post o) keeper.here

pub in_span : (config : Config) (ss : List Step) (c j : ℕ) (keeper : Keeper config ss c j) (d : Deed) → IsIn (span_to config ss c j keeper) d
    → IsIn (span_of (world_at config ss j) c) d
in_span config ss c j keeper d is = subst (λ (l : List Deed). IsIn l d) (sym (span_is config ss c j keeper)) is

-- ---- a call that was made as this

pub record MadeCall (config : Config) (ss : List Step) (c j : ℕ) (x : Asked) (a : Alias) (call : Call) (place : ℕ) : Type 0 where
  pub is_call : IsCall config ss j c x
  pub place_is : is_call.place ≡ place
  pub alias : x.alias ≡ a
  pub call_is : is_call.call ≡ timed (world_at config ss place).clock call

same_send : (ss : List Step) (n c k : ℕ) (a b : Alias) (f g : Call) → slice_get ss n ≡ Some (record { event = events.Send c a f; reply = replies.Message k })
    → slice_get ss n ≡ Some (record { event = events.Send c b g; reply = replies.Message k }) → (a ≡ b) × (f ≡ g)
same_send ss n c k a b f g p q =
    let y : Step = record { event = events.Send c a f; reply = replies.Message k } in
    let z : Step = record { event = events.Send c b g; reply = replies.Message k } in
    let both : Some y ≡ Some z = sym p ∙ q in
    let steps : y ≡ z = cc in
    let sends : events.Send c a f ≡ events.Send c b g = ap (λ (v : Step). v.event) steps in
    (cc, cc)

pub step_so : (s : Step) (e : Event) (r : Reply) → s.event ≡ e → s.reply ≡ r → s ≡ record { event = e; reply = r }
step_so s e r p q =
    ap (λ (v : Event). let y : Step = record { event = v; reply = s.reply } in y) p ∙ ap (λ (v : Reply). let y : Step = record { event = e; reply = v } in y) q

pub made_call : (config : Config) (ss : List Step) (c j : ℕ) (s : CommandState) (x : Asked) (a : Alias) (call : Call) (past : List Deed) → IsRun config ss
    → (made : MadeAt config ss c j s (wants.Ask a call) (deeds.Asked x) past) → MadeCall config ss c j x a call made.place
unfolding call_posted
made_call config ss c j s x a call past run made =
    let w : World = world_at config ss made.place in
    let step = step_along config (opening config) ss made.place made.step run made.at in
    let sent = sent_of (world_at config ss j).post (term_wrote s.wrote) made.act x made.deed in
    let done = done_by config w c made.step.event made.act (ap (λ (r : Reply). act_of c made.step.event r) (sym step.answered) ∙ made.did)
    (ap (λ (y : Act). is_shown y) sent.1) in
    let by = by_send c sent.0 made.step.event (answer config w made.step.event) made.act done sent.1 in
    let posted = posted_call (world_at config ss j).post sent.0 x (numbered (world_at config ss j).post sent.0) refl
    (ap (λ (y : Act). deed_of (world_at config ss j).post (term_wrote s.wrote) y) (sym sent.1) ∙ made.deed) in
    let reply : made.step.reply ≡ replies.Message x.message = step.answered ∙ by.3 ∙ ap (λ (n : ℕ). replies.Message n) posted.1 in
    let here : slice_get ss made.place ≡ Some (record { event = events.Send c a (timed w.clock call); reply = replies.Message x.message }) =
    made.at ∙ ap (λ (y : Step). Some y) (step_so made.step (events.Send c a (timed w.clock call)) (replies.Message x.message) made.event reply) in
    let is_call : IsCall config ss j c x = call_posted config ss j c x run posted.0
    (record { place = made.place; earlier = made.earlier; alias = a; call = timed w.clock call; here = here }) in
    let same = same_send ss made.place c x.message x.alias a is_call.call (timed w.clock call) is_call.sent here in
    record { is_call = is_call; place_is = refl; alias = same.0; call_is = same.1 }

-- ---- when no call refuses the command

timed_kind : (now : ℕ) (call : Call) → kind_of (timed now call) ≡ kind_of call
timed_kind now calls.Status = refl
timed_kind now calls.Stop = refl
timed_kind now calls.Demote = refl
timed_kind now (calls.Promote p) = refl
timed_kind now (calls.SetSource source t p) = refl
timed_kind now calls.Feed = refl
timed_kind now (calls.WaitFor p timeout) = refl
timed_kind now (calls.WaitTold timeout) = refl

pub timed_status : (now : ℕ) (call : Call) → asks_status (timed now call) ≡ asks_status call
timed_status now calls.Status = refl
timed_status now calls.Stop = refl
timed_status now calls.Demote = refl
timed_status now (calls.Promote p) = refl
timed_status now (calls.SetSource source t p) = refl
timed_status now calls.Feed = refl
timed_status now (calls.WaitFor p timeout) = refl
timed_status now (calls.WaitTold timeout) = refl

-- A call that was made as this and was answered: sent in the term, while the lock was held, it came to its tablet, which said this.
pub record KeptCall (config : Config) (ss : List Step) (c j : ℕ) (keeper : Keeper config ss c j) (x : Asked) (a : Alias) (call : Call) (place : ℕ) (said : Answer) : Type 0 where
  pub is_kept : IsKeptCall config ss c keeper.term keeper.taken j x said
  pub place_is : is_kept.call.place ≡ place
  pub alias : x.alias ≡ a
  pub call_is : is_kept.call.call ≡ timed (world_at config ss place).clock call
  pub kind : x.kind ≡ kind_of call

pub kept_as : (config : Config) (ss : List Step) (c j : ℕ) (keeper : Keeper config ss c j) (x : Asked) (a : Alias) (call : Call) (past : List Deed) (said : Answer)
    → (made : Made config ss c j keeper (wants.Ask a call) (deeds.Asked x) past) → asks_status call ≡ false → x.outcome ≡ Some (outcomes.Answered said)
    → KeptCall config ss c j keeper x a call made.place said
unfolding kept_call
kept_as config ss c j keeper x a call past said made other came =
    let is = made_call config ss c j keeper.state x a call past keeper.run made in
    record {
      is_kept = kept_call config ss c keeper.term keeper.taken j x said keeper.run keeper.kept is.is_call
          (ap (λ (f : Call). asks_status f) is.call_is ∙ timed_status (world_at config ss made.place).clock call ∙ other) came;
      place_is = is.place_is;
      alias = is.alias;
      call_is = is.call_is;
      kind = sym is.is_call.kind ∙ ap (λ (f : Call). kind_of f) is.call_is ∙ timed_kind (world_at config ss made.place).clock call;
    }

-- nor is one stale
pub never_stale : (config : Config) (ss : List Step) (c j : ℕ) (keeper : Keeper config ss c j) (x : Asked) (a : Alias) (call : Call) (place : ℕ) (said : Answer) (t : ℕ)
    → KeptCall config ss c j keeper x a call place said → said ≡ says.StaleTerm t → ⊥
never_stale config ss c j keeper x a call place said t is stale =
    not_stale config ss c keeper.term keeper.taken j t x keeper.run keeper.kept
    (subst (λ (y : Answer). IsKeptCall config ss c keeper.term keeper.taken j x y) stale is.is_kept)

-- where it is not given up, and what it was answered refuses nothing
pub granted : (config : Config) (ss : List Step) (c j : ℕ) (keeper : Keeper config ss c j) (F : List Deed → Type 0) (a : Alias) (call : Call) → asks_status call ≡ false
    → ((x : Asked) (why : Why) (past : List Deed) → (made : Made config ss c j keeper (wants.Ask a call) (deeds.Asked x) past) → F past
    → x.outcome ≡ Some (outcomes.GivenUp why) → ⊥)
    → ((x : Asked) (said : Answer) (past : List Deed) → (made : Made config ss c j keeper (wants.Ask a call) (deeds.Asked x) past) → F past
    → KeptCall config ss c j keeper x a call made.place said → refusal_to x said ≡ None)
    → IsGranted (Made config ss c j keeper) F a call
granted config ss c j keeper F a call other settled unrefused x (outcomes.GivenUp why) past made fact ask came = absurd (settled x why past made fact came)
granted config ss c j keeper F a call other settled unrefused x (outcomes.Answered said) past made fact ask came =
    unrefused x said past made fact (kept_as config ss c j keeper x a call past said made other came)

-- A command that may do nothing waits.
use Rattle.std.proofs.Common.{◌≡◌, ℕ, List, [], ◌∷◌, Bool, true, false, Option, Some, None, Result, Ok, Err, cond, ◌||◌, is_none, is_some, filter_map, refl, ap, sym, ◌∙◌}
use Rattle.std.proofs.lemmas.Bool.{false≢true}
use Rattle.std.specs.List.{list_any, cons_option}
use Rattle.shard_base.specs.Options.{◌>>=◌}
use Rattle.shard_calls.specs.declared.event.Event.{Event}
use Rattle.shard_calls.specs.declared.event.Event.TheVariants as events
use Rattle.shard_calls.specs.declared.event.Reply.{Reply}
use Rattle.shard_calls.specs.declared.post.Content.{Content}
use Rattle.shard_calls.specs.declared.post.Content.TheVariants as contents
use Rattle.shard_calls.specs.declared.post.Message.{Message}
use Rattle.shard_calls.specs.declared.span.Deed.{Deed}
use Rattle.shard_calls.specs.declared.state.Act.{Act}
use Rattle.shard_calls.specs.declared.state.Act.TheVariants as acts
use Rattle.shard_calls.specs.declared.state.CommandState.{CommandState}
use Rattle.shard_calls.specs.declared.state.Wrote.{Wrote}
use Rattle.shard_calls.specs.Outcomes.{outcome_of, Sending, sending_by, sending_of, sendings}
use Rattle.shard_calls.specs.Spans.{asked_by, deed_if_asked, term_wrote, deed_of, span_in}
use Rattle.shard_calls.specs.Writes.{tell_of}
use Rattle.shard_calls.specs.World.{Config, World, group_of, numbered, open_command}
use Rattle.courses.specs.declared.demands.Demand.{Demand}
use Rattle.courses.specs.declared.demands.Demand.TheVariants as demands
use Rattle.courses.specs.declared.want.Want.{Want}
use Rattle.courses.specs.declared.want.Want.TheVariants as wants
use Rattle.courses.specs.Walks.{is_out}
use Rattle.planned.specs.Leaving.{leaving}
use Rattle.planned.specs.Course.{event_of, if_met, tells, does, may_by, demand_of, state_next, may}
use Rattle.planned.specs.Laws.{is_unsettled, Waits, ForCall, ToBeTold}
use Rattle.shard_core.proofs.KnownLemmas.{writes_it, CommandFits, IsReached, open_numbered}
use Rattle.planned.proofs.HaltLemmas.{is_written, HaltsTo}
use Rattle.planned.proofs.DemandLemmas.{WaitsFor, waits_for}

-- one event is something to do
one_goes : {P : Type 0} (e : Event) → ◌≡◌ {A = List Event} (e ∷ []) [] → P
one_goes {P} e h = absurd (let none : ◌≡◌ {A = List Event} (e ∷ []) [] = h in cc)

-- ---- a call that is out in the span is out in the post

same_first : (b x y : Bool) → (x ≡ true → y ≡ true) → (b || x) ≡ true → (b || y) ≡ true
same_first true x y rest h = refl
same_first false x y rest h = rest h

-- where the first passes, the second does
abbrev Passes : Option Deed → Option Sending → Type 0
Passes d s = (ds : List Deed) (ss : List Sending) → (list_any is_out ds ≡ true → list_any is_unsettled ss ≡ true)
    → list_any is_out (cons_option d ds) ≡ true → list_any is_unsettled (cons_option s ss) ≡ true

asked_out : (post : List Message) (k : ℕ) (m : Message) (content : Content)
    → Passes (deed_if_asked (asked_by post k m content)) (sending_by post m content)
asked_out post k m (contents.Asks command term to call) ds ss rest h =
    same_first (is_none (outcome_of post m)) (list_any is_out ds) (list_any is_unsettled ss) rest h
asked_out post k m (contents.Answers command asked from says) ds ss rest h = rest h
asked_out post k m (contents.Feeds from to term after index e) ds ss rest h = rest h
asked_out post k m (contents.Acks from to term index) ds ss rest h = rest h

sent_out : (post : List Message) (k : ℕ) (o : Option Message)
    → Passes (deed_if_asked (o >>= (λ m. asked_by post k m m.content))) (o >>= (λ m. sending_by post m m.content))
sent_out post k None ds ss rest h = rest h
sent_out post k (Some m) ds ss rest h = asked_out post k m m.content ds ss rest h

act_out : (post : List Message) (t : ℕ) (act : Act) → Passes (deed_of post t act) (sending_of post act)
act_out post t (acts.Took reply) ds ss rest h = rest h
act_out post t (acts.Read reply) ds ss rest h = rest h
act_out post t (acts.Intended a reply) ds ss rest h = rest h
act_out post t (acts.Recorded a reply) ds ss rest h = rest h
act_out post t (acts.Drained a reply) ds ss rest h = rest h
act_out post t (acts.Sent k) ds ss rest h = sent_out post k (numbered post k) ds ss rest h
act_out post t (acts.Wrote a reply) ds ss rest h = rest h
act_out post t (acts.Told committed) ds ss rest h = rest h

span_out : (post : List Message) (t : ℕ) (done : List Act) → list_any is_out (filter_map (deed_of post t) done) ≡ true
    → list_any is_unsettled (sendings post done) ≡ true
span_out post t [] h = absurd (false≢true h)
span_out post t (act ∷ later) h =
    act_out post t act (filter_map (deed_of post t) later) (sendings post later) (λ k. span_out post t later k) h

-- ---- what was written in the span was written by an act

abbrev WroteIf : Option Deed → Bool → Type 0
WroteIf d b = (ds : List Deed) (rest : Bool) → (list_any is_written ds ≡ true → rest ≡ true) → list_any is_written (cons_option d ds) ≡ true → (b || rest) ≡ true

asked_wrote : (post : List Message) (k : ℕ) (m : Message) (content : Content) → WroteIf (deed_if_asked (asked_by post k m content)) false
asked_wrote post k m (contents.Asks command term to call) ds rest on h = on h
asked_wrote post k m (contents.Answers command asked from says) ds rest on h = on h
asked_wrote post k m (contents.Feeds from to term after index e) ds rest on h = on h
asked_wrote post k m (contents.Acks from to term index) ds rest on h = on h

sent_wrote : (post : List Message) (k : ℕ) (o : Option Message) → WroteIf (deed_if_asked (o >>= (λ m. asked_by post k m m.content))) false
sent_wrote post k None ds rest on h = on h
sent_wrote post k (Some m) ds rest on h = asked_wrote post k m m.content ds rest on h

act_wrote : (post : List Message) (t : ℕ) (act : Act) → WroteIf (deed_of post t act) (writes_it act)
act_wrote post t (acts.Took reply) ds rest on h = on h
act_wrote post t (acts.Read reply) ds rest on h = on h
act_wrote post t (acts.Intended a reply) ds rest on h = on h
act_wrote post t (acts.Recorded a reply) ds rest on h = on h
act_wrote post t (acts.Drained a reply) ds rest on h = on h
act_wrote post t (acts.Sent k) ds rest on h = sent_wrote post k (numbered post k) ds rest on h
act_wrote post t (acts.Wrote a (Ok g)) ds rest on h = refl
act_wrote post t (acts.Wrote a (Err stand)) ds rest on h = on h
act_wrote post t (acts.Told committed) ds rest on h = on h

span_wrote : (post : List Message) (t : ℕ) (done : List Act) → list_any is_written (filter_map (deed_of post t) done) ≡ true → list_any writes_it done ≡ true
span_wrote post t [] h = absurd (false≢true h)
span_wrote post t (act ∷ later) h =
    act_wrote post t act (filter_map (deed_of post t) later) (list_any writes_it later) (λ k. span_wrote post t later k) h

-- ---- any command

some_wrote : (o : Option Wrote) → is_some o ≡ true → (x : Wrote) × (o ≡ Some x)
some_wrote None h = absurd (false≢true h)
some_wrote (Some x) h = (x, refl)

none_told : (o : Option Reply) → is_some o ≡ false → o ≡ None
none_told None h = refl
none_told (Some r) h = absurd (false≢true (sym h))

tells_waits : (w : World) (c : ℕ) (s : CommandState) (b : Bool) → is_some (tell_of w c) ≡ b → is_some s.wrote ≡ true
    → cond b (events.Tell c ∷ []) [] ≡ [] → Waits w c s
tells_waits w c s true is wrote h = one_goes (events.Tell c) h
tells_waits w c s false is wrote h = let x = some_wrote s.wrote wrote in ToBeTold x.0 x.1 (none_told (tell_of w c) is)

does_waits : (config : Config) (w : World) (c : ℕ) (s : CommandState) (want : Want) → CommandFits s → HaltsTo (span_in w.post s) want
    → does config w c s want ≡ [] → Waits w c s
does_waits config w c s wants.Take fits halts h = one_goes (if_met config w c s (event_of w c wants.Take)) h
does_waits config w c s wants.Read fits halts h = one_goes (if_met config w c s (event_of w c wants.Read)) h
does_waits config w c s (wants.Intend a) fits halts h = one_goes (if_met config w c s (event_of w c (wants.Intend a))) h
does_waits config w c s (wants.Record a) fits halts h = one_goes (if_met config w c s (event_of w c (wants.Record a))) h
does_waits config w c s (wants.Drain a) fits halts h = one_goes (if_met config w c s (event_of w c (wants.Drain a))) h
does_waits config w c s (wants.Ask a call) fits halts h = one_goes (if_met config w c s (event_of w c (wants.Ask a call))) h
does_waits config w c s (wants.Write a) fits halts h = one_goes (if_met config w c s (event_of w c (wants.Write a))) h
does_waits config w c s wants.Tell fits halts h =
    tells_waits w c s (is_some (tell_of w c)) refl (fits.wrote (span_wrote w.post (term_wrote s.wrote) s.acts halts)) h

demand_waits : (config : Config) (w : World) (c : ℕ) (s : CommandState) (demand : Demand) → CommandFits s → WaitsFor (span_in w.post s) demand
    → may_by config w c s demand ≡ [] → Waits w c s
demand_waits config w c s (demands.Does want) fits waits h = does_waits config w c s want fits waits h
demand_waits config w c s demands.Awaits fits waits h = ForCall (span_out w.post (term_wrote s.wrote) s.acts waits)
demand_waits config w c s (demands.Leaves x) fits waits h = one_goes (if_met config w c s (leaving c s x)) h

pub none_blocks_at : (config : Config) (w : World) (c : ℕ) (s : CommandState) → IsReached w → open_command w c ≡ Some s → may config w c ≡ [] → Waits w c s
none_blocks_at config w c s known found h =
    demand_waits config w c s (demand_of config w s) (known.commands c s (open_numbered (numbered w.commands c) s found))
    (waits_for (span_in w.post s) (group_of config) s.command s.opening)
    (ap (λ (o : Option CommandState). state_next config w c o) (sym found) ∙ h)

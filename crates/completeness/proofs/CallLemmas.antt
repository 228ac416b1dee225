-- A call of a command: the step that sent it, and the step at which its tablet gave the answer that it came to.
use Rattle.std.proofs.Common.{◌≡◌, inl, inr, ℕ, zero, suc, ◌+◌, ◌≤◌, ◌<◌, Bool, true, false, ◌||◌, ◌==◌, nat_le, refl, ap, sym, subst, ◌∙◌, arith, List, [], ◌∷◌, ◌++◌, take, length, Option, Some, None, Ok, Err, unwrap_or}
use Rattle.std.proofs.lemmas.Bool.{false≢true}
use Rattle.std.proofs.lemmas.Bool.Decides.{nat_tests}
use Rattle.std.specs.List.{slice_get, list_any, filter_map, cons_option}
use Rattle.shard_base.specs.Options.{◌>>=◌}
use Rattle.shard_names.specs.declared.alias.Alias.{Alias}
use Rattle.shard_names.specs.declared.tablet.Tablet.{Tablet}
use Rattle.shard_names.specs.Tablets.{tablet_of, is_declared}
use Rattle.shard_names.proofs.TabletLemmas.{both_right}
use Rattle.shard_calls.specs.declared.answer.Answer.{Answer}
use Rattle.shard_calls.specs.declared.call.Call.{Call}
use Rattle.shard_calls.specs.declared.event.Event.{Event}
use Rattle.shard_calls.specs.declared.event.Event.TheVariants as events
use Rattle.shard_calls.specs.declared.event.Reply.{Reply}
use Rattle.shard_calls.specs.declared.event.Reply.TheVariants as replies
use Rattle.shard_calls.specs.declared.event.Step.{Step}
use Rattle.shard_calls.specs.declared.post.Content.{Content}
use Rattle.shard_calls.specs.declared.post.Content.TheVariants as contents
use Rattle.shard_calls.specs.declared.post.Message.{Message}
use Rattle.shard_calls.specs.declared.span.Asked.{Asked}
use Rattle.shard_calls.specs.declared.span.Deed.{Deed}
use Rattle.shard_calls.specs.declared.span.Deed.TheVariants as deeds
use Rattle.shard_calls.specs.declared.span.Outcome.TheVariants.{Answered}
use Rattle.shard_calls.specs.declared.state.Act.{Act}
use Rattle.shard_calls.specs.declared.state.Act.TheVariants as acts
use Rattle.shard_calls.specs.declared.state.CommandState.{CommandState}
use Rattle.shard_calls.specs.Kinds.{kind_of}
use Rattle.shard_calls.specs.Outcomes.{outcome_of}
use Rattle.shard_calls.specs.Spans.{asked_by, deed_if_asked, deed_of, span_of, span_at, term_wrote, written_in}
use Rattle.shard_calls.specs.Tablets.{answer_to}
use Rattle.shard_calls.specs.World.{Config, World, opening, next_message, numbered, open_command, term_in, term_of}
use Rattle.shard_calls.specs.Locks.{by_term}
use Rattle.shard_calls.specs.Deliveries.{asks_status, may_ask_in, may_send}
use Rattle.shard_calls.specs.Answered.{act_of, acts_of}
use Rattle.shard_calls.specs.Table.{Met, answer, after, IsStep, IsRun, IsRunFrom}
use Rattle.shard_calls.specs.Promotions.{world_at}
use Rattle.shard_calls.proofs.ListLemmas.{at_end}
use Rattle.shard_calls.proofs.ActLemmas.{acts_are_steps}
use Rattle.shard_calls.proofs.RunLemmas.{step_along, next_world, truthful_at}
use Rattle.shard_laws.specs.TightMoves.{IsPosted}
use Rattle.shard_laws.proofs.TraceLemmas.{climb, one_content}
use Rattle.shard_laws.proofs.HeardLemmas.{AnswersTo, settled_by}
use Rattle.shard_laws.proofs.CommandLemmas.{NextIs, AtEnd, BySteps, next_is}
use Rattle.shard_laws.proofs.RowLemmas.{AnsweredAt, answers_sent, posted_later}
use Rattle.shard_laws.proofs.StatusLemmas.{sends_so}
use Rattle.shard_laws.proofs.EndLemmas.{is_shown, DoneBy, ByRead, ByRecord, ByDrain, BySend, ByTold, ByGone, ByEntry, ByRefusal, done_by, act_step}
use Rattle.courses.specs.Sound.{IsIn}
use Rattle.completeness.proofs.TermLemmas.{TermIs, TermCases, term_cases, term_numbered}

-- before step j the command sent the call of this deed
pub record IsCall (config : Config) (ss : List Step) (j c : ℕ) (x : Asked) : Type 0 where
  pub place : ℕ
  pub earlier : place < j
  pub call : Call
  pub sent : slice_get ss place ≡ Some (record { event = events.Send c x.alias call; reply = replies.Message x.message })
  pub kind : kind_of call ≡ x.kind
  pub term : unwrap_or (term_of (world_at config ss place) c) 0 ≡ x.term
  pub posted : IsPosted (world_at config ss j).post x.message (contents.Asks c x.term x.alias call)
  pub outcome : outcome_of (world_at config ss j).post posted.message ≡ x.outcome

-- before step j the call came to its tablet, after it was sent, and the tablet answered this
pub record IsAnswered (config : Config) (ss : List Step) (j c : ℕ) (x : Asked) (call : Call) (sent : ℕ) (said : Answer) : Type 0 where
  pub place : ℕ
  pub after_sent : sent < place
  pub earlier : place < j
  pub reply : ℕ
  pub here : slice_get ss place ≡ Some (record { event = events.Deliver x.message; reply = replies.Message reply })
  pub posted : IsPosted (world_at config ss place).post x.message (contents.Asks c x.term x.alias call)
  pub me : Tablet
  pub found : tablet_of config.tablets x.alias ≡ Some me
  pub answered : answer_to (world_at config ss place).group me x.term call ((world_at config ss place).tablets x.alias) ≡ said

-- ---- the act of a deed

pub sent_of : (post : List Message) (u : ℕ) (act : Act) (x : Asked) → deed_of post u act ≡ Some (deeds.Asked x) → (k : ℕ) × (act ≡ acts.Sent k)
sent_of post u (acts.Took reply) x h = absurd (let wrong : Some (deeds.Took reply) ≡ Some (deeds.Asked x) = h in cc)
sent_of post u (acts.Read reply) x h = absurd (let wrong : Some (deeds.Read reply) ≡ Some (deeds.Asked x) = h in cc)
sent_of post u (acts.Intended b reply) x h = absurd (let wrong : Some (deeds.Intended b reply) ≡ Some (deeds.Asked x) = h in cc)
sent_of post u (acts.Recorded b reply) x h = absurd (let wrong : Some (deeds.Recorded b reply) ≡ Some (deeds.Asked x) = h in cc)
sent_of post u (acts.Drained b reply) x h = absurd (let wrong : Some (deeds.Drained b reply) ≡ Some (deeds.Asked x) = h in cc)
sent_of post u (acts.Sent k) x h = (k, refl)
sent_of post u (acts.Wrote b reply) x h = absurd (let wrong : Some (deeds.Wrote b (written_in u reply)) ≡ Some (deeds.Asked x) = h in cc)
sent_of post u (acts.Told committed) x h = absurd (let wrong : Some (deeds.Told committed) ≡ Some (deeds.Asked x) = h in cc)

-- the act is among those that were done, and it is that of the deed
record Did (post : List Message) (u : ℕ) (done : List Act) (x : Asked) : Type 0 where
  number : ℕ
  sent : list_any (sends_so number) done ≡ true
  deed : deed_of post u (acts.Sent number) ≡ Some (deeds.Asked x)

itself : (k : ℕ) → (k == k) ≡ true
itself k = grind (arith, nat_tests)

more : (b c : Bool) → c ≡ true → (b || c) ≡ true
more true c h = refl
more false c h = h

did_later : (post : List Message) (u : ℕ) (act : Act) (done : List Act) (x : Asked) → Did post u done x → Did post u (act ∷ done) x
did_later post u act done x d = record { number = d.number; sent = more (sends_so d.number act) (list_any (sends_so d.number) done) d.sent; deed = d.deed }

did : (post : List Message) (u : ℕ) (done : List Act) (n : ℕ) (x : Asked) → slice_get (filter_map (deed_of post u) done) n ≡ Some (deeds.Asked x) → Did post u done x
did post u [] n x h = absurd (let none : None ≡ Some (deeds.Asked x) = h in cc)
did post u (act ∷ done) n x h = of_deed (deed_of post u act) n refl h (λ k at. did post u done k x at)
  where
    now : (d : Deed) → deed_of post u act ≡ Some d → d ≡ deeds.Asked x → Did post u (act ∷ done) x
    now d is same =
        let deed : deed_of post u act ≡ Some (deeds.Asked x) = is ∙ ap (λ (y : Deed). Some y) same in
        let sent = sent_of post u act x deed in
        record {
          number = sent.0;
          sent = ap (λ (y : Act). sends_so sent.0 y || list_any (sends_so sent.0) done) sent.1 ∙ ap (λ (b : Bool). b || list_any (sends_so sent.0) done) (itself sent.0);
          deed = subst (λ (y : Act). deed_of post u y ≡ Some (deeds.Asked x)) sent.1 deed;
        }

    of_deed : (o : Option Deed) (k : ℕ) → deed_of post u act ≡ o → slice_get (cons_option o (filter_map (deed_of post u) done)) k ≡ Some (deeds.Asked x)
        → ((i : ℕ) → slice_get (filter_map (deed_of post u) done) i ≡ Some (deeds.Asked x) → Did post u done x) → Did post u (act ∷ done) x
    of_deed None k is at rest = did_later post u act done x (rest k at)
    of_deed (Some d) zero is at rest = now d is (let same : Some d ≡ Some (deeds.Asked x) = at in cc)
    of_deed (Some d) (suc i) is at rest = did_later post u act done x (rest i at)

-- ---- the call in the post

pub record PostedCall (post : List Message) (x : Asked) : Type 0 where
  pub message : Message
  pub command : ℕ
  pub call : Call
  pub at : numbered post x.message ≡ Some message
  pub carries : message.content ≡ contents.Asks command x.term x.alias call
  pub kind : kind_of call ≡ x.kind
  pub outcome : outcome_of post message ≡ x.outcome

of_content : (post : List Message) (k : ℕ) (m : Message) (content : Content) (x : Asked) → numbered post k ≡ Some m → m.content ≡ content
    → deed_if_asked (asked_by post k m content) ≡ Some (deeds.Asked x) → PostedCall post x
of_content post k m (contents.Asks command term to call) x at is h =
    let mine : Asked = record { alias = to; kind = kind_of call; message = k; term = term; sent = m.sent; arrived = unwrap_or m.arrived 0; outcome = outcome_of post m } in
    let same : mine ≡ x = (let some : Some (deeds.Asked mine) ≡ Some (deeds.Asked x) = h in cc) in
    subst (λ (y : Asked). PostedCall post y) same (record { message = m; command = command; call = call; at = at; carries = is; kind = refl; outcome = refl })
of_content post k m (contents.Answers command asked from answer) x at is h = absurd (let none : None ≡ Some (deeds.Asked x) = h in cc)
of_content post k m (contents.Feeds from to term before index e) x at is h = absurd (let none : None ≡ Some (deeds.Asked x) = h in cc)
of_content post k m (contents.Acks from to term index) x at is h = absurd (let none : None ≡ Some (deeds.Asked x) = h in cc)

message_of : (post : List Message) (k : ℕ) (m : Message) (content : Content) (x : Asked) → deed_if_asked (asked_by post k m content) ≡ Some (deeds.Asked x) → k ≡ x.message
message_of post k m (contents.Asks command term to call) x h =
    let mine : Asked = record { alias = to; kind = kind_of call; message = k; term = term; sent = m.sent; arrived = unwrap_or m.arrived 0; outcome = outcome_of post m } in
    let same : mine ≡ x = (let some : Some (deeds.Asked mine) ≡ Some (deeds.Asked x) = h in cc) in
    ap (λ (y : Asked). y.message) same
message_of post k m (contents.Answers command asked from answer) x h = absurd (let none : None ≡ Some (deeds.Asked x) = h in cc)
message_of post k m (contents.Feeds from to term before index e) x h = absurd (let none : None ≡ Some (deeds.Asked x) = h in cc)
message_of post k m (contents.Acks from to term index) x h = absurd (let none : None ≡ Some (deeds.Asked x) = h in cc)

pub posted_call : (post : List Message) (k : ℕ) (x : Asked) (o : Option Message) → numbered post k ≡ o
    → deed_if_asked (o >>= (λ m. asked_by post k m m.content)) ≡ Some (deeds.Asked x) → PostedCall post x × (k ≡ x.message)
posted_call post k x None at h = absurd (let none : None ≡ Some (deeds.Asked x) = h in cc)
posted_call post k x (Some m) at h = (of_content post k m m.content x at refl h, message_of post k m m.content x h)

-- ---- the step that sent it

run_front : (config : Config) (w : World) (ss : List Step) (i : ℕ) → IsRunFrom config w ss → IsRunFrom config w (take i ss)
run_front config w [] zero run = tt
run_front config w [] (suc i) run = tt
run_front config w (s ∷ ss) zero run = tt
run_front config w (s ∷ ss) (suc i) run = (run.0, run_front config (after config w s.event) ss i run.1)

-- the acts of the command are those of the steps so far
pub acts_so_far : (config : Config) (ss : List Step) (i c : ℕ) (s : CommandState) → IsRun config ss → numbered (world_at config ss i).commands c ≡ Some s → s.acts ≡ acts_of c (take i ss)
acts_so_far config ss i c s run here = acts_are_steps config (take i ss) (run_front config (opening config) ss i run) c s here

sent_act : (k : ℕ) (act : Act) → sends_so k act ≡ true → (act ≡ acts.Sent k) × (is_shown act ≡ true)
sent_act k (acts.Took reply) h = absurd (false≢true h)
sent_act k (acts.Read reply) h = absurd (false≢true h)
sent_act k (acts.Intended b reply) h = absurd (false≢true h)
sent_act k (acts.Recorded b reply) h = absurd (false≢true h)
sent_act k (acts.Drained b reply) h = absurd (false≢true h)
sent_act k (acts.Sent n) h = (ap (λ (x : ℕ). acts.Sent x) (let same : n ≡ k = grind (arith, nat_tests) in same), refl)
sent_act k (acts.Wrote b reply) h = absurd (false≢true h)
sent_act k (acts.Told committed) h = absurd (false≢true h)

pub by_send : (c k : ℕ) (e : Event) (r : Reply) (act : Act) → DoneBy c e r act → act ≡ acts.Sent k
    → (a : Alias) × (call : Call) × (e ≡ events.Send c a call) × (r ≡ replies.Message k)
by_send c k _ _ _ (ByRead seen) is = absurd (let wrong : acts.Read (Ok seen) ≡ acts.Sent k = is in cc)
by_send c k _ _ _ (ByRecord b) is = absurd (let wrong : acts.Recorded b (Ok tt) ≡ acts.Sent k = is in cc)
by_send c k _ _ _ (ByDrain b) is = absurd (let wrong : acts.Drained b (Ok tt) ≡ acts.Sent k = is in cc)
by_send c k _ _ _ (BySend a call n) is =
    let same : n ≡ k = (let sent : acts.Sent n ≡ acts.Sent k = is in cc) in (a, call, refl, ap (λ (x : ℕ). replies.Message x) same)
by_send c k _ _ _ ByTold is = absurd (let wrong : acts.Told true ≡ acts.Sent k = is in cc)
by_send c k _ _ _ ByGone is = absurd (let wrong : acts.Told false ≡ acts.Sent k = is in cc)
by_send c k _ _ _ (ByEntry b g) is = absurd (let wrong : acts.Wrote b (Ok g) ≡ acts.Sent k = is in cc)
by_send c k _ _ _ (ByRefusal b at) is = absurd (let wrong : acts.Wrote b (Err at) ≡ acts.Sent k = is in cc)

step_is : (s : Step) (e : Event) (r : Reply) → s.event ≡ e → s.reply ≡ r → s ≡ record { event = e; reply = r }
step_is s e r p q =
    ap (λ (v : Event). let y : Step = record { event = v; reply = s.reply } in y) p ∙ ap (λ (v : Reply). let y : Step = record { event = e; reply = v } in y) q

pub record IsSent (ss : List Step) (j c k : ℕ) : Type 0 where
  pub place : ℕ
  pub earlier : place < j
  pub alias : Alias
  pub call : Call
  pub here : slice_get ss place ≡ Some (record { event = events.Send c alias call; reply = replies.Message k })

pub was_sent : (config : Config) (ss : List Step) (j c k : ℕ) (s : CommandState) → IsRun config ss → numbered (world_at config ss j).commands c ≡ Some s
    → list_any (sends_so k) s.acts ≡ true → IsSent ss j c k
was_sent config ss j c k s run here sent =
    let found = act_step c (sends_so k) ss j (ap (λ (l : List Act). list_any (sends_so k) l) (sym (acts_so_far config ss j c s run here)) ∙ sent) in
    let w : World = world_at config ss found.place in
    let step : IsStep config w found.step = step_along config (opening config) ss found.place found.step run found.here in
    let act = sent_act k found.act found.passes in
    let done : DoneBy c found.step.event (answer config w found.step.event) found.act =
    done_by config w c found.step.event found.act (ap (λ (r : Reply). act_of c found.step.event r) (sym step.answered) ∙ found.did) act.1 in
    let by = by_send c k found.step.event (answer config w found.step.event) found.act done act.0 in
    record {
      place = found.place;
      earlier = found.earlier;
      alias = by.0;
      call = by.1;
      here = found.here ∙ ap (λ (y : Step). Some y) (step_is found.step (events.Send c by.0 by.1) (replies.Message k) by.2 (step.answered ∙ by.3));
    }

numbered_end : (xs : List Message) (x : Message) → numbered (xs ++ x ∷ []) (length xs + 1) ≡ Some x
numbered_end xs x =
    let next : length xs + 1 ≡ suc (length xs) = omega arith in ap (λ (n : ℕ). numbered (xs ++ x ∷ []) n) next ∙ at_end xs x

-- what a Send sends is in the post behind it
pub send_posts : (config : Config) (ss : List Step) (i c k : ℕ) (a : Alias) (call : Call) → IsRun config ss
    → slice_get ss i ≡ Some (record { event = events.Send c a call; reply = replies.Message k })
    → (k ≡ next_message (world_at config ss i)) × IsPosted (world_at config ss (suc i)).post k (contents.Asks c (unwrap_or (term_of (world_at config ss i) c) 0) a call)
send_posts config ss i c k a call run here =
    let w : World = world_at config ss i in
    let step = step_along config (opening config) ss i _ run here in
    let number : k ≡ next_message w = (let same : replies.Message k ≡ replies.Message (next_message w) = step.answered in cc) in
    let content : Content = contents.Asks c (unwrap_or (term_of w c) 0) a call in
    let m : Message = record { content = content; sent = w.clock; arrived = None; lost = false; settled = None } in
    let now : IsPosted (after config w (events.Send c a call)).post (next_message w) content = record { message = m; at = numbered_end w.post m; carries = refl } in (
      number,
      subst (λ (v : World). IsPosted v.post k content) (sym (next_world config (opening config) ss i _ here))
          (subst (λ (n : ℕ). IsPosted (after config w (events.Send c a call)).post n content) (sym number) now),
    )

pub same_asks : (c u d t : ℕ) (a b : Alias) (f g : Call) → contents.Asks c u a f ≡ contents.Asks d t b g → (c ≡ d) × (u ≡ t) × (a ≡ b) × (f ≡ g)
same_asks c u d t a b f g h = (cc, cc, cc, cc)

unfoldable pub call_posted : (config : Config) (ss : List Step) (j c : ℕ) (x : Asked) → IsRun config ss → (p : PostedCall (world_at config ss j).post x) → (sent : IsSent ss j c x.message) → IsCall config ss j c x
call_posted config ss j c x run p sent =
    let v : World = world_at config ss sent.place in
    let u : ℕ = unwrap_or (term_of v c) 0 in
    let there = posted_later config ss x.message (contents.Asks c u sent.alias sent.call) (suc sent.place) j run (let less = sent.earlier in omega (arith, less))
    (send_posts config ss sent.place c x.message sent.alias sent.call run sent.here).1 in
    let one : contents.Asks c u sent.alias sent.call ≡ contents.Asks p.command x.term x.alias p.call =
    one_content (world_at config ss j).post x.message _ _ there (record { message = p.message; at = p.at; carries = p.carries }) in
    let same = same_asks c u p.command x.term sent.alias x.alias sent.call p.call one in
    record {
      place = sent.place;
      earlier = sent.earlier;
      call = p.call;
      sent = subst (λ (f : Call). slice_get ss sent.place ≡ Some (record { event = events.Send c x.alias f; reply = replies.Message x.message })) same.3
          (subst (λ (b : Alias). slice_get ss sent.place ≡ Some (record { event = events.Send c b sent.call; reply = replies.Message x.message })) same.2 sent.here);
      kind = p.kind;
      term = same.1;
      posted = record { message = p.message; at = p.at; carries = p.carries ∙ ap (λ (n : ℕ). contents.Asks n x.term x.alias p.call) (sym same.0) };
      outcome = p.outcome;
    }

at_middle : (before after : List Deed) (d : Deed) → slice_get (before ++ d ∷ after) (length before) ≡ Some d
at_middle [] after d = refl
at_middle (x ∷ before) after d = at_middle before after d

pub place_in : (span : List Deed) (d : Deed) → IsIn span d → (n : ℕ) × (slice_get span n ≡ Some d)
place_in span d is = (length is.before, ap (λ (l : List Deed). slice_get l (length is.before)) is.split ∙ at_middle is.before is.after d)

pub call_of_deed : (config : Config) (ss : List Step) (j c : ℕ) (x : Asked) → IsRun config ss → IsIn (span_of (world_at config ss j) c) (deeds.Asked x) → IsCall config ss j c x
call_of_deed config ss j c x run is = of_state (numbered (world_at config ss j).commands c) refl (place_in (span_of (world_at config ss j) c) (deeds.Asked x) is)
  where
    of_state : (o : Option CommandState) → numbered (world_at config ss j).commands c ≡ o
        → (n : ℕ) × (slice_get (span_at (world_at config ss j).post o) n ≡ Some (deeds.Asked x)) → IsCall config ss j c x
    of_state None here at = absurd (let none : None ≡ Some (deeds.Asked x) = at.1 in cc)
    of_state (Some s) here at =
        let d = did (world_at config ss j).post (term_wrote s.wrote) s.acts at.0 x at.1 in
        let p = posted_call (world_at config ss j).post d.number x (numbered (world_at config ss j).post d.number) refl d.deed in
        call_posted config ss j c x run p.0 (was_sent config ss j c x.message s run here (subst (λ (n : ℕ). list_any (sends_so n) s.acts ≡ true) p.1 d.sent))

-- ---- the step at which it was answered

none_yet : (xs : List Message) (m : Message) → numbered xs (length xs + 1) ≡ Some m → ⊥
none_yet xs m h = past xs (subst (λ (n : ℕ). numbered xs n ≡ Some m) (let next : length xs + 1 ≡ suc (length xs) = omega arith in next) h)
  where
    past : (ys : List Message) → slice_get ys (length ys) ≡ Some m → ⊥
    past [] k = let none : None ≡ Some m = k in cc
    past (y ∷ ys) k = past ys k

-- a message that is there was sent before
sent_before : (config : Config) (ss : List Step) (i d k : ℕ) (content : Content) → IsRun config ss → k ≡ next_message (world_at config ss i)
    → IsPosted (world_at config ss d).post k content → i < d
sent_before config ss i d k content run number posted = of_test (nat_le d i) refl
  where
    of_test : (b : Bool) → nat_le d i ≡ b → i < d
    of_test true e =
        let le : d ≤ i = grind (arith, nat_tests) in
        let there = posted_later config ss k content d i run le posted in
        absurd (none_yet (world_at config ss i).post there.message (subst (λ (n : ℕ). numbered (world_at config ss i).post n ≡ Some there.message) number there.at))
    of_test false e = let l : i < d = grind (arith, nat_tests) in l

pub answered_at : (config : Config) (ss : List Step) (j c : ℕ) (x : Asked) (said : Answer) → IsRun config ss → (call : IsCall config ss j c x) → x.outcome ≡ Some (Answered said)
    → IsAnswered config ss j c x call.call call.place said
answered_at config ss j c x said run call is =
    let w : World = world_at config ss j in
    let answers : AnswersTo w x.message x.alias said =
    settled_by w x.message c x.term x.alias call.call call.posted.message said call.posted.message.settled (truthful_at config ss j run).telling call.posted.at call.posted.carries refl
    (call.outcome ∙ is) in
    let at : AnsweredAt config ss j x.message x.alias said = answers_sent config ss j answers.number answers.command x.message x.alias said run answers.posted in
    let asked : Content = contents.Asks at.command at.term x.alias at.call in
    let le : at.place ≤ j = (let less = at.earlier in omega (arith, less)) in
    let then = posted_later config ss x.message asked at.place j run le (record { message = at.message; at = at.at; carries = at.carries }) in
    let one : asked ≡ contents.Asks c x.term x.alias call.call = one_content w.post x.message asked _ then call.posted in
    let same = same_asks at.command at.term c x.term x.alias x.alias at.call call.call one in
    let v : World = world_at config ss at.place in
    let posted : IsPosted v.post x.message (contents.Asks c x.term x.alias call.call) = record { message = at.message; at = at.at; carries = at.carries ∙ one } in
    record {
      place = at.place;
      after_sent = sent_before config ss call.place at.place x.message _ run (send_posts config ss call.place c x.message x.alias call.call run call.sent).0 posted;
      earlier = at.earlier;
      reply = at.reply;
      here = at.here;
      posted = posted;
      me = at.me;
      found = at.found;
      answered = subst (λ (f : Call). answer_to v.group at.me x.term f (v.tablets x.alias) ≡ said) same.3
          (subst (λ (n : ℕ). answer_to v.group at.me n at.call (v.tablets x.alias) ≡ said) same.1 at.answered);
    }

-- ---- the term of a call

-- a term that a command took stays its own
pub term_later : (config : Config) (ss : List Step) (c t i j : ℕ) → IsRun config ss → i ≤ j → TermIs (world_at config ss i) c t → TermIs (world_at config ss j) c t
term_later config ss c t i j run le =
    climb (world_at config ss) (λ w v. TermIs w c t → TermIs v c t) (λ w h. h) (λ k w rest h. next k (rest h)) i j le
  where
    of_cases : (w : World) (e : Event) → TermIs w c t → TermCases config w e c → TermIs (after config w e) c t
    of_cases w e h (inl same) = same ∙ h
    of_cases w e h (inr takes) = absurd (let none : None ≡ Some t = sym takes.1.before ∙ h in cc)

    next : (k : ℕ) → TermIs (world_at config ss k) c t → TermIs (world_at config ss (suc k)) c t
    next k h = of_next (world_at config ss (suc k)) (next_is config ss k run)
      where
        of_next : (v : World) → NextIs config ss k v → TermIs v c t
        of_next v (AtEnd is) = subst (λ (x : World). TermIs x c t) is h
        of_next v (BySteps e here step is) =
            subst (λ (x : World). TermIs x c t) is (of_cases (world_at config ss k) e.event h (term_cases config (world_at config ss k) e.event c step.met))

-- who sends another call than a Status has a term, which is that of the call
pub sends_in : (config : Config) (w : World) (c : ℕ) (a : Alias) (call : Call) → Met config w (events.Send c a call) → asks_status call ≡ false → TermIs w c (unwrap_or (term_of w c) 0)
sends_in config w c a call met other = of_open (open_command w c) refl (both_right (is_declared config.tablets a) (may_send config w c a call (open_command w c)) met)
  where
    of_term : (s : CommandState) (t : Option ℕ) → open_command w c ≡ Some s → s.term ≡ t → by_term t (asks_status call) (may_ask_in config w c a call) ≡ true
        → TermIs w c (unwrap_or (term_of w c) 0)
    of_term s None is took h = absurd (false≢true (sym other ∙ h))
    of_term s (Some t) is took h =
        let term : term_of w c ≡ Some t = ap (λ (o : Option CommandState). term_in o) is ∙ took in
        subst (λ (o : Option ℕ). TermIs w c (unwrap_or o 0)) (sym term) (term_numbered w c t term)

    of_open : (o : Option CommandState) → open_command w c ≡ o → may_send config w c a call o ≡ true → TermIs w c (unwrap_or (term_of w c) 0)
    of_open None is h = absurd (false≢true h)
    of_open (Some s) is h = of_term s s.term is refl h

pub call_term : (config : Config) (ss : List Step) (j c u : ℕ) (x : Asked) → IsRun config ss → (call : IsCall config ss j c x) → asks_status call.call ≡ false
    → TermIs (world_at config ss j) c u → x.term ≡ u
call_term config ss j c u x run call other own =
    let w : World = world_at config ss call.place in
    let step = step_along config (opening config) ss call.place _ run call.sent in
    let then = term_later config ss c (unwrap_or (term_of w c) 0) call.place j run (let less = call.earlier in omega (arith, less))
    (sends_in config w c x.alias call.call step.met other) in
    let same : unwrap_or (term_of w c) 0 ≡ u = (let some : Some (unwrap_or (term_of w c) 0) ≡ Some u = sym then ∙ own in cc) in
    sym call.term ∙ same

-- That the row of a reparent's term was told by a step: who answered that it is told was asked by a delivery, whose answer tells it.
use Rattle.std.proofs.Common.{◌≡◌, inl, inr, ◌≤◌, ◌<◌, ℕ, zero, suc, ◌+◌, Bool, true, false, ◌==◌, refl, ap, sym, subst, ◌∙◌, arith, List, [], ◌∷◌, Option, Some, None, option_map, length}
use Rattle.std.proofs.lemmas.Bool.{false≢true}
use Rattle.std.proofs.lemmas.Bool.Decides.{nat_tests}
use Rattle.std.proofs.lemmas.List.Quantifiers.{position-Some}
use Rattle.std.specs.List.{slice_get, position}
use Rattle.shard_base.specs.Options.{◌>>=◌, only_if}
use Rattle.shard_names.specs.declared.alias.Alias.{Alias}
use Rattle.shard_names.specs.declared.tablet.Tablet.{Tablet}
use Rattle.shard_names.specs.Tablets.{tablet_of}
use Rattle.gtid_sets.specs.declared.entry.Entry.{Entry}
use Rattle.gtid_sets.specs.declared.entry.Kind.TheVariants as kinds
use Rattle.gtid_sets.specs.Logs.{is_row_of, place_of_row}
use Rattle.topo_lock.specs.declared.intent.Intent.{Intent}
use Rattle.topo_lock.proofs.MoveLemmas.{intent_of_term_stays_over_steps}
use Rattle.shard_calls.specs.declared.answer.Answer.{Answer}
use Rattle.shard_calls.specs.declared.answer.Answer.TheVariants as says
use Rattle.shard_calls.specs.declared.call.Call.{Call}
use Rattle.shard_calls.specs.declared.call.Call.TheVariants as calls
use Rattle.shard_calls.specs.declared.event.Event.{Event}
use Rattle.shard_calls.specs.declared.event.Event.TheVariants as events
use Rattle.shard_calls.specs.declared.event.Reply.{Reply}
use Rattle.shard_calls.specs.declared.event.Reply.TheVariants as replies
use Rattle.shard_calls.specs.declared.event.Step.{Step}
use Rattle.shard_calls.specs.declared.post.Content.{Content}
use Rattle.shard_calls.specs.declared.post.Content.TheVariants as contents
use Rattle.shard_calls.specs.declared.post.Message.{Message}
use Rattle.shard_calls.specs.declared.stand.Stand.{Stand}
use Rattle.shard_calls.specs.declared.stand.Stand.TheVariants as stands
use Rattle.shard_calls.specs.declared.group.Group.{Group}
use Rattle.shard_calls.specs.declared.span.Outcome.{Outcome}
use Rattle.shard_calls.specs.declared.span.Outcome.TheVariants.{Answered, GivenUp}
use Rattle.shard_calls.specs.declared.span.Kind.TheVariants as call_kinds
use Rattle.shard_calls.specs.Kinds.{kind_of, kind_eq}
use Rattle.shard_calls.specs.Outcomes.{outcome_of}
use Rattle.shard_calls.specs.Spans.{span_in}
use Rattle.shard_calls.specs.declared.state.CommandState.{CommandState}
use Rattle.shard_calls.specs.Tablets.{TabletState, answer_to, is_told, is_row_told}
use Rattle.shard_calls.specs.World.{Config, World, numbered, next_message}
use Rattle.shard_calls.specs.Messages.{needed, may_feed, feed_of, offered_by}
use Rattle.shard_calls.specs.Causes.{outcome_passes, is_told_answer, any_said_in}
use Rattle.shard_calls.proofs.CauseLemmas.{WasSaid, was_said}
use Rattle.shard_calls.specs.Deliveries.{delivery_reply, arrival_reply}
use Rattle.shard_calls.specs.Table.{answer, IsStep, IsRun}
use Rattle.shard_calls.specs.Promotions.{world_at, ToWait}
use Rattle.shard_calls.proofs.WorldLemmas.{IsIntended}
use Rattle.shard_calls.proofs.PostLemmas.{Sent, Asked, Replied, Acked, Offered, PostCases, post_cases}
use Rattle.shard_calls.proofs.SettleLemmas.{post_stays}
use Rattle.shard_calls.proofs.ToldLemmas.{IsTellingWorld}
use Rattle.shard_calls.proofs.RunLemmas.{later_at, truthful_at, told_by_wait, row_kind}
use Rattle.shard_laws.specs.TightMoves.{IsPosted}
use Rattle.shard_laws.specs.Shown.{RowWasTold}
use Rattle.shard_laws.proofs.TraceLemmas.{climb, one_content}
use Rattle.shard_laws.proofs.LeaderLemmas.{place_passes}
use Rattle.shard_laws.proofs.GroundLemmas.{one_intent}
use Rattle.shard_laws.proofs.HeardLemmas.{bind_some, AnswersTo, settled_by}
use Rattle.shard_laws.proofs.CommandLemmas.{NextIs, AtEnd, BySteps, next_is}

-- ---- a tablet answers by a step

-- before step i the call came to the tablet, which answered so
pub record AnsweredAt (config : Config) (ss : List Step) (i k : ℕ) (a : Alias) (said : Answer) : Type 0 where
  pub place : ℕ
  pub earlier : place < i
  pub reply : ℕ
  pub here : slice_get ss place ≡ Some (record { event = events.Deliver k; reply = replies.Message reply })
  pub message : Message
  pub command : ℕ
  pub term : ℕ
  pub call : Call
  pub me : Tablet
  pub at : numbered (world_at config ss place).post k ≡ Some message
  pub carries : message.content ≡ contents.Asks command term a call
  pub found : tablet_of config.tablets a ≡ Some me
  pub answered : answer_to (world_at config ss place).group me term call ((world_at config ss place).tablets a) ≡ said

-- this event delivers the call, and the tablet answers so
record Replying (config : Config) (w : World) (e : Event) (k : ℕ) (a : Alias) (said : Answer) : Type 0 where
  event : e ≡ events.Deliver k
  message : Message
  command : ℕ
  term : ℕ
  call : Call
  me : Tablet
  at : numbered w.post k ≡ Some message
  carries : message.content ≡ contents.Asks command term a call
  found : tablet_of config.tablets a ≡ Some me
  answered : answer_to w.group me term call (w.tablets a) ≡ said

offers_no_answer : (w : World) (r : Alias) (at : Stand) (content : Content) (d k : ℕ) (a : Alias) (said : Answer) → offered_by w r at ≡ Some content
    → content ≡ contents.Answers d k a said → ⊥
offers_no_answer w r stands.Down content d k a said h is = let none : None ≡ Some content = h in cc
offers_no_answer w r stands.Stopped content d k a said h is = let none : None ≡ Some content = h in cc
offers_no_answer w r (stands.Primary t) content d k a said h is = let none : None ≡ Some content = h in cc
offers_no_answer w r (stands.Demoted t by) content d k a said h is = let none : None ≡ Some content = h in cc
offers_no_answer w r (stands.Feeder t) content d k a said h is = let none : None ≡ Some content = h in cc
offers_no_answer w r (stands.Replica s t n) content d k a said h is =
    let one = bind_some (only_if (may_feed w s r t n) n) (λ m. needed (w.tablets s) (w.tablets r) m >>= (λ x. Some (feed_of s r t n x))) content h in
    let two = bind_some (needed (w.tablets s) (w.tablets r) one.0) (λ x. Some (feed_of s r t n x)) content one.2 in
    let same : feed_of s r t n two.0 ≡ content = (let some : Some (feed_of s r t n two.0) ≡ Some content = two.2 in cc) in
    let wrong : contents.Feeds s r t n two.0.index two.0.entry ≡ contents.Answers d k a said = same ∙ is in cc

same_answer : (c k d asked : ℕ) (a from : Alias) (x said : Answer) → contents.Answers c k a x ≡ contents.Answers d asked from said → (k ≡ asked) × (a ≡ from) × (x ≡ said)
same_answer c k d asked a from x said h = (cc, cc, cc)

replying : (config : Config) (w : World) (e : Event) (content : Content) (d k : ℕ) (a : Alias) (said : Answer) → Sent config w e content
    → content ≡ contents.Answers d k a said → Replying config w e k a said
replying config w _ _ d k a said (Asked c b call) is = absurd (cc)
replying config w _ _ d k a said (Acked j term before index source to x m here carries taken) is = absurd (cc)
replying config w _ _ d k a said (Offered r content offered) is = absurd (offers_no_answer w r (w.tablets r).stand content d k a said offered is)
replying config w _ _ d k a said (Replied j c u b call me m here carries found) is =
    let same = same_answer c j d k b a (answer_to w.group me u call (w.tablets b)) said is in
    subst (λ (x : Answer). Replying config w (events.Deliver j) k a x) same.2
    (subst (λ (x : Alias). Replying config w (events.Deliver j) k x (answer_to w.group me u call (w.tablets b))) same.1
    (subst (λ (n : ℕ). Replying config w (events.Deliver j) n b (answer_to w.group me u call (w.tablets b))) same.0
    (record { event = refl; message = m; command = c; term = u; call = call; me = me; at = here; carries = carries; found = found; answered = refl })))

answered_now : (config : Config) (ss : List Step) (i k : ℕ) (a : Alias) (said : Answer) (e : Step) → slice_get ss i ≡ Some e → IsStep config (world_at config ss i) e
    → Replying config (world_at config ss i) e.event k a said → AnsweredAt config ss (suc i) k a said
answered_now config ss i k a said e here step r = record {
  place = i;
  earlier = omega arith;
  reply = next_message (world_at config ss i);
  here = here ∙ ap (λ (y : Step). Some y) (steps (world_at config ss i) e step r);
  message = r.message;
  command = r.command;
  term = r.term;
  call = r.call;
  me = r.me;
  at = r.at;
  carries = r.carries;
  found = r.found;
  answered = r.answered;
}
  where
    steps : (w : World) (s : Step) → IsStep config w s → Replying config w s.event k a said → s ≡ record { event = events.Deliver k; reply = replies.Message (next_message w) }
    steps w s met q =
        ap (λ (v : Event). let y : Step = record { event = v; reply = s.reply } in y) q.event
        ∙ ap (λ (v : Reply). let y : Step = record { event = events.Deliver k; reply = v } in y)
        (met.answered ∙ ap (λ (v : Event). answer config w v) q.event ∙ ap (λ (o : Option Message). delivery_reply w o) q.at ∙ ap (λ (x : Content). arrival_reply w x) q.carries)

later_answer : (config : Config) (ss : List Step) (i k : ℕ) (a : Alias) (said : Answer) → AnsweredAt config ss i k a said → AnsweredAt config ss (suc i) k a said
later_answer config ss i k a said h = record {
  place = h.place;
  earlier = (let less = h.earlier in omega (arith, less));
  reply = h.reply;
  here = h.here;
  message = h.message;
  command = h.command;
  term = h.term;
  call = h.call;
  me = h.me;
  at = h.at;
  carries = h.carries;
  found = h.found;
  answered = h.answered;
}

pub answers_sent : (config : Config) (ss : List Step) (i n d k : ℕ) (a : Alias) (said : Answer) → IsRun config ss
    → IsPosted (world_at config ss i).post n (contents.Answers d k a said) → AnsweredAt config ss i k a said
answers_sent config ss zero n d k a said run posted = absurd (nothing n posted.at)
  where
    nothing : (j : ℕ) → numbered [] j ≡ Some posted.message → ⊥
    nothing zero h = let none : None ≡ Some posted.message = h in cc
    nothing (suc j) h = let none : None ≡ Some posted.message = h in cc
answers_sent config ss (suc i) n d k a said run posted = of_next (world_at config ss (suc i)) (next_is config ss i run) posted (λ h. answers_sent config ss i n d k a said run h)
  where
    of_cases : (e : Step) (m : Message) → slice_get ss i ≡ Some e → IsStep config (world_at config ss i) e → m.content ≡ contents.Answers d k a said
        → PostCases config (world_at config ss i) e.event n m
        → (IsPosted (world_at config ss i).post n (contents.Answers d k a said) → AnsweredAt config ss i k a said) → AnsweredAt config ss (suc i) k a said
    of_cases e m here step carries (inl old) rest = later_answer config ss i k a said (rest (record { message = old.0; at = old.1; carries = sym old.2 ∙ carries }))
    of_cases e m here step carries (inr sent) rest = answered_now config ss i k a said e here step (replying config (world_at config ss i) e.event m.content d k a said sent carries)

    of_next : (v : World) → NextIs config ss i v → IsPosted v.post n (contents.Answers d k a said)
        → (IsPosted (world_at config ss i).post n (contents.Answers d k a said) → AnsweredAt config ss i k a said) → AnsweredAt config ss (suc i) k a said
    of_next v (AtEnd is) p rest =
        later_answer config ss i k a said (rest (subst (λ (u : World). IsPosted u.post n (contents.Answers d k a said)) (sym is) p))
    of_next v (BySteps e here step is) p rest =
        let q = subst (λ (u : World). IsPosted u.post n (contents.Answers d k a said)) (sym is) p in
        of_cases e q.message here step q.carries (post_cases config (world_at config ss i) e.event n q.message q.at) rest

-- what is posted is posted later
pub posted_later : (config : Config) (ss : List Step) (n : ℕ) (content : Content) (i j : ℕ) → IsRun config ss → i ≤ j → IsPosted (world_at config ss i).post n content
    → IsPosted (world_at config ss j).post n content
posted_later config ss n content i j run le =
    climb (world_at config ss) (λ w v. IsPosted w.post n content → IsPosted v.post n content) (λ w h. h) (λ k w rest h. next k (rest h)) i j le
  where
    next : (k : ℕ) → IsPosted (world_at config ss k).post n content → IsPosted (world_at config ss (suc k)).post n content
    next k h = of_next (world_at config ss (suc k)) (next_is config ss k run)
      where
        of_next : (v : World) → NextIs config ss k v → IsPosted v.post n content
        of_next v (AtEnd is) = subst (λ (u : World). IsPosted u.post n content) is h
        of_next v (BySteps e here step is) =
            let r = post_stays config (world_at config ss k) e.event n h.message h.at in
            subst (λ (u : World). IsPosted u.post n content) is (record { message = r.0; at = r.1; carries = r.2 ∙ h.carries })

-- ---- the row that a reparent was told

wait_call : (call : Call) → kind_eq (kind_of call) call_kinds.WaitTold ≡ true → (until : ℕ) × (call ≡ calls.WaitTold until)
wait_call calls.Status h = absurd (false≢true h)
wait_call calls.Stop h = absurd (false≢true h)
wait_call calls.Demote h = absurd (false≢true h)
wait_call (calls.Promote p) h = absurd (false≢true h)
wait_call (calls.SetSource source t p) h = absurd (false≢true h)
wait_call calls.Feed h = absurd (false≢true h)
wait_call (calls.WaitFor p until) h = absurd (false≢true h)
wait_call (calls.WaitTold until) h = (until, refl)

told_outcome : (o : Option Outcome) → outcome_passes is_told_answer o ≡ true → o ≡ Some (Answered says.Told)
told_outcome None h = absurd (false≢true h)
told_outcome (Some (GivenUp why)) h = absurd (false≢true h)
told_outcome (Some (Answered says.Told)) h = refl
told_outcome (Some (Answered (says.Status seen promised at newest position))) h = absurd (false≢true h)
told_outcome (Some (Answered (says.Stopped newest position))) h = absurd (false≢true h)
told_outcome (Some (Answered (says.Demoted newest position))) h = absurd (false≢true h)
told_outcome (Some (Answered (says.Promoted p))) h = absurd (false≢true h)
told_outcome (Some (Answered says.Joined)) h = absurd (false≢true h)
told_outcome (Some (Answered says.Feeding)) h = absurd (false≢true h)
told_outcome (Some (Answered says.Holds)) h = absurd (false≢true h)
told_outcome (Some (Answered says.NotTold)) h = absurd (false≢true h)
told_outcome (Some (Answered (says.Kept at))) h = absurd (false≢true h)
told_outcome (Some (Answered (says.StaleTerm seen))) h = absurd (false≢true h)
told_outcome (Some (Answered (says.PromisedAhead promised))) h = absurd (false≢true h)
told_outcome (Some (Answered (says.NotCaughtUp missing))) h = absurd (false≢true h)
told_outcome (Some (Answered (says.Errant extra))) h = absurd (false≢true h)
told_outcome (Some (Answered (says.NotStanding newest))) h = absurd (false≢true h)

same_number : (m n : ℕ) → (m == n) ≡ true → m ≡ n
same_number m n h = grind (arith, nat_tests)

-- a call of the term to the tablet, which waited for the row and was answered that it is told
pub record WaitTold (w : World) (a : Alias) (t : ℕ) : Type 0 where
  number : ℕ
  message : Message
  command : ℕ
  until : ℕ
  at : numbered w.post number ≡ Some message
  carries : message.content ≡ contents.Asks command t a (calls.WaitTold until)
  answers : AnswersTo w number a says.Told

told_by_said : (w : World) (a : Alias) (t : ℕ) → IsTellingWorld w → WasSaid w.post t call_kinds.WaitTold a is_told_answer → WaitTold w a t
told_by_said w a t telling said =
    let call = wait_call said.call said.of_kind in
    let carries : said.message.content ≡ contents.Asks said.command t a (calls.WaitTold call.0) =
    said.carries ∙ ap (λ (f : Call). contents.Asks said.command t a f) call.1 in
    record {
      number = said.number;
      message = said.message;
      command = said.command;
      until = call.0;
      at = said.at;
      carries = carries;
      answers = settled_by w said.number said.command t a (calls.WaitTold call.0) said.message says.Told said.message.settled telling said.at carries refl
          (told_outcome (outcome_of w.post said.message) said.passes);
    }

pub told_among : (w : World) (s : CommandState) (a : Alias) (t : ℕ) → IsTellingWorld w → any_said_in t call_kinds.WaitTold a is_told_answer (span_in w.post s) ≡ true
    → WaitTold w a t
told_among w s a t telling h = told_by_said w a t telling (was_said w.post s t call_kinds.WaitTold a is_told_answer h)

-- the row of the term, at its index
record RowAt (log : List Entry) (t : ℕ) : Type 0 where
  index : ℕ
  place : ℕ
  row : Entry
  names : Alias
  found : place_of_row log t ≡ Some index
  at : numbered log index ≡ Some row
  here : slice_get log place ≡ Some row
  kind : row.kind ≡ kinds.Row t names

there_is : {A : Type 0} (xs : List A) (n : ℕ) → n < length xs → (x : A) × (slice_get xs n ≡ Some x)
there_is [] n less = absurd (omega (arith, less))
there_is (x ∷ xs) zero less = (x, refl)
there_is (x ∷ xs) (suc n) less = there_is xs n (omega (arith, less))

row_at : (g : Group) (me : Tablet) (s : TabletState) (t : ℕ) → is_row_told g me s t ≡ true → RowAt s.log t
row_at g me s t told = of_place (position (is_row_of t) s.log) refl told
  where
    of_row : (n : ℕ) (e : Entry) → position (is_row_of t) s.log ≡ Some n → slice_get s.log n ≡ Some e → RowAt s.log t
    of_row n e is here =
        let found : place_of_row s.log t ≡ Some (n + 1) = ap (λ (o : Option ℕ). option_map (λ (k : ℕ). k + 1) o) is in
        let next : suc n ≡ n + 1 = omega arith in
        let at : numbered s.log (n + 1) ≡ Some e = subst (λ (m : ℕ). numbered s.log m ≡ Some e) next here in
        let kind = row_kind e.kind t (place_passes (is_row_of t) s.log (n + 1) e found at) in
        record { index = n + 1; place = n; row = e; names = kind.0; found = found; at = at; here = here; kind = kind.1 }

    of_place : (o : Option ℕ) → position (is_row_of t) s.log ≡ o
        → (elim (option_map (λ (k : ℕ). k + 1) o) as (λ _. Bool) [ Some index ↦ is_told g me s index | None ↦ false ]) ≡ true → RowAt s.log t
    of_place None is h = absurd (false≢true h)
    of_place (Some n) is h =
        let less = (position-Some (is_row_of t) s.log n (record { gtid = record { server = []; number = 0 }; kind = kinds.Local }) is).0 in
        let e = there_is s.log n less in of_row n e.0 is e.1

-- what a call asked, it always asked
pub same_call : (c u d t : ℕ) (a : Alias) (x y : Call) → contents.Asks c u a x ≡ contents.Asks d t a y → (u ≡ t) × (x ≡ y)
same_call c u d t a x y h = (cc, cc)

carries_so : (m : Message) (c u t : ℕ) (a : Alias) (f : Call) (until : ℕ) → m.content ≡ contents.Asks c u a f → u ≡ t → f ≡ calls.WaitTold until
    → m.content ≡ contents.Asks c t a (calls.WaitTold until)
carries_so m c u t a f until is term call = is ∙ ap (λ (n : ℕ). contents.Asks c n a f) term ∙ ap (λ (x : Call). contents.Asks c t a x) call

named_so : (row : Entry) (t : ℕ) (b a : Alias) → row.kind ≡ kinds.Row t b → b ≡ a → row.kind ≡ kinds.Row t a
named_so row t b a is named = is ∙ ap (λ (x : Alias). kinds.Row t x) named

pub row_was_told : (config : Config) (ss : List Step) (i : ℕ) (a : Alias) (t : ℕ) → IsRun config ss → IsIntended (world_at config ss i).topo t a
    → WaitTold (world_at config ss i) a t → RowWasTold config ss i a t
row_was_told config ss i a t run intended wait =
    let sent : AnsweredAt config ss i wait.number a says.Told = answers_sent config ss i wait.answers.number wait.answers.command wait.number a says.Told run wait.answers.posted in
    let v : World = world_at config ss sent.place in
    let le : sent.place ≤ i = (let less = sent.earlier in omega (arith, less)) in
    let asked : Content = contents.Asks sent.command sent.term a sent.call in
    let waits : Content = contents.Asks wait.command t a (calls.WaitTold wait.until) in
    let then : IsPosted (world_at config ss i).post wait.number asked =
    posted_later config ss wait.number asked sent.place i run le (record { message = sent.message; at = sent.at; carries = sent.carries }) in
    let one : asked ≡ waits =
    one_content (world_at config ss i).post wait.number asked waits then (record { message = wait.message; at = wait.at; carries = wait.carries }) in
    let same = same_call sent.command sent.term wait.command t a sent.call (calls.WaitTold wait.until) one in
    let told : answer_to v.group sent.me t (calls.WaitTold wait.until) (v.tablets a) ≡ says.Told =
    subst (λ (f : Call). answer_to v.group sent.me t f (v.tablets a) ≡ says.Told) same.1
    (subst (λ (u : ℕ). answer_to v.group sent.me u sent.call (v.tablets a) ≡ says.Told) same.0 sent.answered) in
    let carries : sent.message.content ≡ contents.Asks sent.command t a (calls.WaitTold wait.until) =
    carries_so sent.message sent.command sent.term t a sent.call wait.until sent.carries same.0 same.1 in
    let row : RowAt (v.tablets a).log t = row_at v.group sent.me (v.tablets a) t (told_by_wait v.group sent.me t wait.until (v.tablets a) told).1 in
    let first : IsIntended v.topo t row.names = ((truthful_at config ss sent.place run).sound.rows a row.place row.row t row.names row.here row.kind).intended in
    let intent : Intent = record { term = t; alias = row.names } in
    let later : IsIntended (world_at config ss i).topo t row.names =
    record { intent = intent_of_term_stays_over_steps v.topo (world_at config ss i).topo t intent (later_at config ss sent.place i run le).topo first.intent } in
    let named : row.names ≡ a = one_intent (world_at config ss i) t row.names a later intended in
    record {
      step = sent.place;
      before = sent.earlier;
      row = row.row;
      is_row = named_so row.row t row.names a row.kind named;
      told = record {
        step = record { event = events.Deliver wait.number; reply = replies.Message sent.reply };
        here = sent.here;
        tells = ToWait wait.number sent.reply sent.command t wait.until row.index a sent.me sent.message row.row sent.at carries sent.found told row.found row.at;
      };
    }

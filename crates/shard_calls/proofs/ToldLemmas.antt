-- What an answer tells is in the log of its tablet: an answer Promoted says that the row is there, and what a command wrote stands where it was written.
use Rattle.std.proofs.Common.{◌≡◌, inl, inr, ℕ, zero, suc, Bool, true, false, ◌&&◌, ◌||◌, ◌==◌, nat_lt, refl, ap, sym, subst, ◌∙◌, List, [], ◌∷◌, ◌++◌, cond, Option, Some, None}
use Rattle.std.proofs.lemmas.Bool.{false≢true}
use Rattle.shard_base.specs.Lists.{IsFront}
use Rattle.shard_base.specs.Options.{◌>>=◌, only_if}
use Rattle.shard_names.specs.declared.alias.Alias.{Alias}
use Rattle.shard_names.specs.declared.tablet.Tablet.{Tablet}
use Rattle.shard_names.specs.Tablets.{tablet_of}
use Rattle.shard_names.proofs.TabletLemmas.{alias_eq_itself}
use Rattle.gtid_sets.specs.declared.entry.Entry.{Entry}
use Rattle.gtid_sets.specs.Position.{Position, covers, minus}
use Rattle.shard_calls.specs.declared.answer.Answer.{Answer}
use Rattle.shard_calls.specs.declared.answer.Answer.TheVariants as answers
use Rattle.shard_calls.specs.declared.call.Call.{Call}
use Rattle.shard_calls.specs.declared.call.Call.TheVariants as calls
use Rattle.shard_calls.specs.declared.event.Event.{Event}
use Rattle.shard_calls.specs.declared.event.Event.TheVariants as events
use Rattle.shard_calls.specs.declared.post.Content.{Content}
use Rattle.shard_calls.specs.declared.post.Content.TheVariants as contents
use Rattle.shard_calls.specs.declared.post.Message.{Message}
use Rattle.shard_calls.specs.declared.post.Settled.{Settled}
use Rattle.shard_calls.specs.declared.post.Settled.TheVariants as settleds
use Rattle.shard_calls.specs.declared.stand.Stand.{Stand}
use Rattle.shard_calls.specs.declared.stand.Stand.TheVariants as stands
use Rattle.shard_calls.specs.Stands.{is_stopped, is_primary_of, is_replica_in, is_feeder_in}
use Rattle.gtid_sets.specs.Logs.{position_of, has_row, newest_row_names}
use Rattle.shard_calls.specs.declared.group.Group.{Group}
use Rattle.shard_calls.specs.Tablets.{TabletState, Verdict, is_row_told, in_term, stops, demotes, promotes, joins, feeds, waits_for_position, waits_told, after_call, answer_to}
use Rattle.shard_calls.specs.World.{Config, World, opening, on_message, arrives, numbered}
use Rattle.shard_calls.specs.Messages.{Indexed, needed, may_feed, feed_of, offered_by}
use Rattle.shard_calls.specs.Deliveries.{if_declared, asked, after_arrival, after_delivery}
use Rattle.shard_calls.specs.Table.{after}
use Rattle.shard_calls.proofs.LawLemmas.{chosen}
use Rattle.shard_calls.proofs.MoveLemmas.{own_row}
use Rattle.shard_calls.proofs.PostLemmas.{Sent, Asked, Replied, Acked, Offered, PostCases, post_cases}
use Rattle.shard_calls.proofs.WorldLemmas.{IsSoundWorld, IsLater}
use Rattle.shard_calls.proofs.StepLemmas.{is_later}
use Rattle.shard_calls.proofs.SettleLemmas.{settled_in, Settling, ByAnswer, ByGivingUp, SettledCases, settled_cases, Stay, post_stays}

-- ---- what is meant

-- where it says Promoted, the row of the term is in the log
abbrev pub RowIfPromoted : List Entry → ℕ → Answer → Type 0
RowIfPromoted log u (answers.Status seen promised at newest position) = Unit {0}
RowIfPromoted log u (answers.Stopped newest position) = Unit {0}
RowIfPromoted log u (answers.Demoted newest position) = Unit {0}
RowIfPromoted log u (answers.Promoted position) = has_row log u ≡ true
RowIfPromoted log u answers.Joined = Unit {0}
RowIfPromoted log u answers.Feeding = Unit {0}
RowIfPromoted log u answers.Holds = Unit {0}
RowIfPromoted log u answers.Told = Unit {0}
RowIfPromoted log u answers.NotTold = Unit {0}
RowIfPromoted log u (answers.Kept at) = Unit {0}
RowIfPromoted log u (answers.StaleTerm seen) = Unit {0}
RowIfPromoted log u (answers.PromisedAhead promised) = Unit {0}
RowIfPromoted log u (answers.NotCaughtUp missing) = Unit {0}
RowIfPromoted log u (answers.Errant extra) = Unit {0}
RowIfPromoted log u (answers.NotStanding newest) = Unit {0}

-- an answer is one to a call, and says the truth
pub record AnswerFits (w : World) (asked : ℕ) (from : Alias) (says : Answer) : Type 0 where
  pub there : Message
  pub command : ℕ
  pub term : ℕ
  pub call : Call
  pub at : numbered w.post asked ≡ Some there
  pub carries : there.content ≡ contents.Asks command term from call
  pub row : RowIfPromoted (w.tablets from).log term says

-- message n is an answer to call k
pub record Answering (w : World) (k n : ℕ) : Type 0 where
  pub message : Message
  pub command : ℕ
  pub from : Alias
  pub says : Answer
  pub at : numbered w.post n ≡ Some message
  pub carries : message.content ≡ contents.Answers command k from says

pub record IsTellingWorld (w : World) : Type 0 where
  pub answers : (n : ℕ) (m : Message) (c asked : ℕ) (from : Alias) (says : Answer) → numbered w.post n ≡ Some m
      → m.content ≡ contents.Answers c asked from says → AnswerFits w asked from says
  pub settled : (k n : ℕ) → settled_in (numbered w.post k) ≡ Some (settleds.Answered n) → Answering w k n

-- ---- what stays

pub row_longer : (xs ys : List Entry) (u : ℕ) → IsFront xs ys → has_row xs u ≡ true → has_row ys u ≡ true
row_longer xs ys u front h = subst (λ (l : List Entry). has_row l u ≡ true) (sym front.split) (grows xs h)
  where
    split : (b : Bool) (es : List Entry) → (b || has_row es u) ≡ true → (has_row es u ≡ true → has_row (es ++ front.rest) u ≡ true)
        → (b || has_row (es ++ front.rest) u) ≡ true
    split true es k rest = refl
    split false es k rest = rest k

    grows : (es : List Entry) → has_row es u ≡ true → has_row (es ++ front.rest) u ≡ true
    grows [] k = absurd (false≢true k)
    grows (e ∷ es) k = split _ es k (λ m. grows es m)

row_if_longer : (xs ys : List Entry) (u : ℕ) (says : Answer) → IsFront xs ys → RowIfPromoted xs u says → RowIfPromoted ys u says
row_if_longer xs ys u (answers.Status seen promised at newest position) front h = tt
row_if_longer xs ys u (answers.Stopped newest position) front h = tt
row_if_longer xs ys u (answers.Demoted newest position) front h = tt
row_if_longer xs ys u (answers.Promoted position) front h = row_longer xs ys u front h
row_if_longer xs ys u answers.Joined front h = tt
row_if_longer xs ys u answers.Feeding front h = tt
row_if_longer xs ys u answers.Holds front h = tt
row_if_longer xs ys u answers.Told front h = tt
row_if_longer xs ys u answers.NotTold front h = tt
row_if_longer xs ys u (answers.Kept at) front h = tt
row_if_longer xs ys u (answers.StaleTerm seen) front h = tt
row_if_longer xs ys u (answers.PromisedAhead promised) front h = tt
row_if_longer xs ys u (answers.NotCaughtUp missing) front h = tt
row_if_longer xs ys u (answers.Errant extra) front h = tt
row_if_longer xs ys u (answers.NotStanding newest) front h = tt

pub answer_stays : (w v : World) (asked : ℕ) (from : Alias) (says : Answer) → IsLater w v → Stay w.post v.post → AnswerFits w asked from says → AnswerFits v asked from says
answer_stays w v asked from says later stay h =
    let r = stay asked h.there h.at in
    record {
      there = r.0;
      command = h.command;
      term = h.term;
      call = h.call;
      at = r.1;
      carries = r.2 ∙ h.carries;
      row = row_if_longer (w.tablets from).log (v.tablets from).log h.term says (later.logs from) h.row;
    }

pub answering_stays : (w v : World) (k n : ℕ) → Stay w.post v.post → Answering w k n → Answering v k n
answering_stays w v k n stay h =
    let r = stay n h.message h.at in
    record { message = r.0; command = h.command; from = h.from; says = h.says; at = r.1; carries = r.2 ∙ h.carries }

-- ---- an answer says the truth

abbrev Truth : ℕ → Verdict Answer → Type 0
Truth u v = RowIfPromoted v.state.log u v.says

in_term_truth : (u : ℕ) (s : TabletState) (f : TabletState → Verdict Answer) → Truth u (f (record s { seen = u })) → Truth u (in_term u s f)
in_term_truth u s f h = chosen (Truth u) (nat_lt u s.seen) _ (f (record s { seen = u })) (λ stale. tt) (λ fresh. h)

kept_truth : (b : Bool) (log : List Entry) (u : ℕ) (p : Position) (at : Stand) → has_row log u ≡ true → RowIfPromoted log u (cond b (answers.Promoted p) (answers.Kept at))
kept_truth true log u p at h = h
kept_truth false log u p at h = tt

told_truth : (b c : Bool) (log : List Entry) (u : ℕ) (at : Stand) → RowIfPromoted log u (cond b (cond c answers.Told answers.NotTold) (answers.Kept at))
told_truth true true log u at = tt
told_truth true false log u at = tt
told_truth false c log u at = tt

held_truth : (b : Bool) (log : List Entry) (u : ℕ) (lacks : Position) → RowIfPromoted log u (cond b answers.Holds (answers.NotCaughtUp lacks))
held_truth true log u lacks = tt
held_truth false log u lacks = tt

pub call_truth : (g : Group) (me : Tablet) (u : ℕ) (call : Call) (s : TabletState) → RowIfPromoted (after_call g me u call s).log u (answer_to g me u call s)
call_truth g me u calls.Status s = tt
call_truth g me u calls.Stop s = in_term_truth u s (stops u) tt
call_truth g me u calls.Demote s =
    in_term_truth u s (demotes me u)
    (chosen (Truth u) (s.promised == u) _ _ (λ there. tt) (λ other. chosen (Truth u) (newest_row_names s.log me.alias) _ _ (λ own. tt) (λ no_own. tt)))
call_truth g me u (calls.Promote p) s =
    in_term_truth u s (promotes me u p)
    (chosen (Truth u) (has_row s.log u) _ _ (λ there. kept_truth (is_primary_of s.stand u) s.log u (position_of s.log) s.stand there)
    (λ none. chosen (Truth u) (covers (position_of s.log) p) _ _ (λ caught. own_row s.log _ u refl) (λ short. tt)))
call_truth g me u (calls.SetSource source t p) s =
    in_term_truth u s (joins source t p)
    (chosen (Truth u) (nat_lt t s.promised) _ _ (λ ahead. tt)
    (λ fresh. chosen (Truth u) (is_primary_of s.stand t || is_replica_in s.stand t) _ _ (λ stays. tt)
    (λ other. chosen (Truth u) (covers p (position_of s.log)) _ _ (λ inside. tt) (λ errant. tt))))
call_truth g me u calls.Feed s =
    in_term_truth u s (feeds u)
    (chosen (Truth u) (is_feeder_in s.stand u) _ _ (λ feeder. tt) (λ other. chosen (Truth u) (is_stopped s.stand && (s.promised == u)) _ _ (λ stopped. tt) (λ keeps. tt)))
call_truth g me u (calls.WaitFor p until) s =
    in_term_truth u s (waits_for_position p) (held_truth (covers (position_of s.log) p) s.log u (minus p (position_of s.log)))
call_truth g me u (calls.WaitTold until) s =
    in_term_truth u s (waits_told g me u) (told_truth (is_primary_of s.stand u) (is_row_told g me s u) s.log u s.stand)

-- the state that a call leaves
pub asked_state : (config : Config) (w : World) (k c u : ℕ) (a : Alias) (call : Call) (me : Tablet) (m : Message) → numbered w.post k ≡ Some m
    → m.content ≡ contents.Asks c u a call → tablet_of config.tablets a ≡ Some me
    → (after config w (events.Deliver k)).tablets a ≡ after_call w.group me u call (w.tablets a)
asked_state config w k c u a call me m here carries found =
    ap (λ (o : Option Message). (after_delivery config w k o).tablets a) here
    ∙ ap (λ (x : Content). (after_arrival config (on_message w k (arrives w.clock)) k x).tablets a) carries
    ∙ ap (λ (o : Option Tablet). (if_declared o (on_message w k (arrives w.clock)) (asked (on_message w k (arrives w.clock)) k c u a call)).tablets a) found
    ∙ ap (λ (b : Bool). cond b (after_call w.group me u call (w.tablets a)) (w.tablets a)) (alias_eq_itself a)

-- ---- what is offered is no answer

fed_is_none : (s r : Alias) (t n : ℕ) (content : Content) (c asked : ℕ) (from : Alias) (says : Answer) (o : Option Indexed)
    → (o >>= (λ x. Some (feed_of s r t n x))) ≡ Some content → content ≡ contents.Answers c asked from says → ⊥
fed_is_none s r t n content c asked from says None h is = let none : None ≡ Some content = h in cc
fed_is_none s r t n content c asked from says (Some x) h is =
    let same : feed_of s r t n x ≡ content = (let some : Some (feed_of s r t n x) ≡ Some content = h in cc) in
    let wrong : contents.Feeds s r t n x.index x.entry ≡ contents.Answers c asked from says = same ∙ is in cc

offer_is_none : (w : World) (r : Alias) (at : Stand) (content : Content) (c asked : ℕ) (from : Alias) (says : Answer) → offered_by w r at ≡ Some content
    → content ≡ contents.Answers c asked from says → ⊥
offer_is_none w r stands.Down content c asked from says h is = let none : None ≡ Some content = h in cc
offer_is_none w r stands.Stopped content c asked from says h is = let none : None ≡ Some content = h in cc
offer_is_none w r (stands.Primary t) content c asked from says h is = let none : None ≡ Some content = h in cc
offer_is_none w r (stands.Demoted t by) content c asked from says h is = let none : None ≡ Some content = h in cc
offer_is_none w r (stands.Feeder t) content c asked from says h is = let none : None ≡ Some content = h in cc
offer_is_none w r (stands.Replica s t n) content c asked from says h is = of_test (may_feed w s r t n) h
  where
    of_test : (b : Bool) → (only_if b n >>= (λ m. needed (w.tablets s) (w.tablets r) m >>= (λ x. Some (feed_of s r t n x)))) ≡ Some content → ⊥
    of_test true k = fed_is_none s r t n content c asked from says (needed (w.tablets s) (w.tablets r) n) k is
    of_test false k = let none : None ≡ Some content = k in cc

-- ---- one step

abbrev SameAnswer : ℕ → ℕ → Alias → Answer → ℕ → ℕ → Alias → Answer → Type 0
SameAnswer c k a x d asked from says = (k ≡ asked) × (a ≡ from) × (x ≡ says)

same_answer : (c k : ℕ) (a : Alias) (x : Answer) (d asked : ℕ) (from : Alias) (says : Answer) → contents.Answers c k a x ≡ contents.Answers d asked from says
    → SameAnswer c k a x d asked from says
same_answer c k a x d asked from says h = (cc, cc, cc)

replied_fits : (config : Config) (w : World) (k c u : ℕ) (a : Alias) (call : Call) (me : Tablet) (m : Message) → IsSoundWorld w → numbered w.post k ≡ Some m
    → m.content ≡ contents.Asks c u a call → tablet_of config.tablets a ≡ Some me
    → AnswerFits (after config w (events.Deliver k)) k a (answer_to w.group me u call (w.tablets a))
replied_fits config w k c u a call me m sound here carries found =
    let r = post_stays config w (events.Deliver k) k m here in
    record {
      there = r.0;
      command = c;
      term = u;
      call = call;
      at = r.1;
      carries = r.2 ∙ carries;
      row = subst (λ (s : TabletState). RowIfPromoted s.log u (answer_to w.group me u call (w.tablets a))) (sym (asked_state config w k c u a call me m here carries found))
          (call_truth w.group me u call (w.tablets a));
    }

sent_answer : (config : Config) (w : World) (e : Event) (content : Content) (d asked : ℕ) (from : Alias) (says : Answer) → IsSoundWorld w → Sent config w e content
    → content ≡ contents.Answers d asked from says → AnswerFits (after config w e) asked from says
sent_answer config w _ _ d asked from says sound (Asked c a call) is = absurd (cc)
sent_answer config w _ _ d asked from says sound (Replied k c u a call me m here carries found) is =
    let same = same_answer c k a (answer_to w.group me u call (w.tablets a)) d asked from says is in
    let fits = replied_fits config w k c u a call me m sound here carries found in
    subst (λ (x : Answer). AnswerFits (after config w (events.Deliver k)) asked from x) same.2
    (subst (λ (b : Alias). AnswerFits (after config w (events.Deliver k)) asked b (answer_to w.group me u call (w.tablets a))) same.1
    (subst (λ (n : ℕ). AnswerFits (after config w (events.Deliver k)) n a (answer_to w.group me u call (w.tablets a))) same.0 fits))
sent_answer config w _ _ d asked from says sound (Acked k term before index source to x m here carries taken) is = absurd (cc)
sent_answer config w _ _ d asked from says sound (Offered r content offered) is =
    absurd (offer_is_none w r (w.tablets r).stand content d asked from says offered is)

answers_fit : (config : Config) (w : World) (e : Event) (n : ℕ) (m : Message) (c asked : ℕ) (from : Alias) (says : Answer) → IsSoundWorld w → IsTellingWorld w
    → numbered (after config w e).post n ≡ Some m → m.content ≡ contents.Answers c asked from says → AnswerFits (after config w e) asked from says
answers_fit config w e n m c asked from says sound telling here is = of_cases (post_cases config w e n m here)
  where
    of_cases : PostCases config w e n m → AnswerFits (after config w e) asked from says
    of_cases (inl old) =
        answer_stays w (after config w e) asked from says (is_later config w e sound) (post_stays config w e)
        (telling.answers n old.0 c asked from says old.1 (sym old.2 ∙ is))
    of_cases (inr sent) = sent_answer config w e m.content c asked from says sound sent is

settling_is : (w v : World) (e : Event) (k n : ℕ) (o : Option Settled) → Stay w.post v.post → Settling w e k o → o ≡ Some (settleds.Answered n) → Answering v k n
settling_is w v _ _ n _ stay (ByAnswer j k c from says a here carries) is =
    let same : j ≡ n = (let some : Some (settleds.Answered j) ≡ Some (settleds.Answered n) = is in cc) in
    subst (λ (i : ℕ). Answering v k i) same
    (answering_stays w v k j stay (record { message = a; command = c; from = from; says = says; at = here; carries = carries }))
settling_is w v _ _ n _ stay (ByGivingUp c k why) is = absurd (let some : Some (settleds.GaveUp why) ≡ Some (settleds.Answered n) = is in cc)

settled_is : (config : Config) (w : World) (e : Event) (k n : ℕ) → IsTellingWorld w → settled_in (numbered (after config w e).post k) ≡ Some (settleds.Answered n)
    → Answering (after config w e) k n
settled_is config w e k n telling is = of_cases (settled_cases config w e k)
  where
    of_cases : SettledCases w (after config w e).post e k → Answering (after config w e) k n
    of_cases (inl same) = answering_stays w (after config w e) k n (post_stays config w e) (telling.settled k n (sym same ∙ is))
    of_cases (inr new) = settling_is w (after config w e) e k n _ (post_stays config w e) new is

pub telling_after : (config : Config) (w : World) (e : Event) → IsSoundWorld w → IsTellingWorld w → IsTellingWorld (after config w e)
telling_after config w e sound telling = record {
  answers = λ n m c asked from says here is. answers_fit config w e n m c asked from says sound telling here is;
  settled = λ k n is. settled_is config w e k n telling is;
}

pub telling_opening : (config : Config) → IsTellingWorld (opening config)
telling_opening config = record {
  answers = λ n m c asked from says here is. absurd (nothing_sent n m here);
  settled = λ k n is. absurd (nothing_settled k n is);
}
  where
    nothing_sent : (n : ℕ) (m : Message) → numbered [] n ≡ Some m → ⊥
    nothing_sent zero m here = let none : None ≡ Some m = here in cc
    nothing_sent (suc n) m here = let none : None ≡ Some m = here in cc

    nothing_settled : (k n : ℕ) → settled_in (numbered [] k) ≡ Some (settleds.Answered n) → ⊥
    nothing_settled zero n is = let none : None ≡ Some (settleds.Answered n) = is in cc
    nothing_settled (suc k) n is = let none : None ≡ Some (settleds.Answered n) = is in cc

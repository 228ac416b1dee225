-- What a vtorc knows of a tablet is what the tablet answered to a call of the command, and how it stood then.
use Rattle.std.proofs.Common.{◌≡◌, ◌≤◌, ◌<◌, ℕ, zero, suc, Bool, true, false, ◌||◌, ◌==◌, refl, ap, sym, subst, ◌∙◌, arith, cond, filter, List, [], ◌∷◌, Option, Some, None, unwrap_or}
use Rattle.std.proofs.lemmas.Bool.{false≢true}
use Rattle.std.proofs.lemmas.Bool.Decides.{nat_tests}
use Rattle.std.specs.List.{slice_get, list_any, filter_map, cons_option, find}
use Rattle.shard_base.specs.Options.{◌>>=◌}
use Rattle.shard_names.specs.declared.alias.Alias.{Alias}
use Rattle.shard_names.proofs.TabletLemmas.{alias_eq_is}
use Rattle.gtid_sets.specs.Logs.{newest_row, position_of}
use Rattle.shard_calls.specs.declared.analysis.Status.{Status}
use Rattle.shard_calls.specs.declared.answer.Answer.{Answer}
use Rattle.shard_calls.specs.declared.answer.Answer.TheVariants as says
use Rattle.shard_calls.specs.declared.call.Call.{Call}
use Rattle.shard_calls.specs.declared.call.Call.TheVariants as calls
use Rattle.shard_calls.specs.declared.event.Event.TheVariants as events
use Rattle.shard_calls.specs.declared.event.Reply.TheVariants as replies
use Rattle.shard_calls.specs.declared.event.Step.{Step}
use Rattle.shard_calls.specs.declared.post.Content.{Content}
use Rattle.shard_calls.specs.declared.post.Content.TheVariants as contents
use Rattle.shard_calls.specs.declared.post.Message.{Message}
use Rattle.shard_calls.specs.declared.span.Asked.{Asked}
use Rattle.shard_calls.specs.declared.span.Deed.{Deed}
use Rattle.shard_calls.specs.declared.span.Deed.TheVariants as deeds
use Rattle.shard_calls.specs.declared.span.Kind.{Kind}
use Rattle.shard_calls.specs.declared.span.Kind.TheVariants as kinds
use Rattle.shard_calls.specs.declared.span.Outcome.{Outcome}
use Rattle.shard_calls.specs.declared.span.Outcome.TheVariants.{Answered, GivenUp}
use Rattle.shard_calls.specs.declared.state.Act.{Act}
use Rattle.shard_calls.specs.declared.state.Act.TheVariants as acts
use Rattle.shard_calls.specs.declared.state.CommandState.{CommandState}
use Rattle.shard_calls.specs.Causes.{calls_of, is_call, status_in, statuses}
use Rattle.shard_calls.specs.Choosing.{is_call_of, outcome_in}
use Rattle.shard_calls.specs.Kinds.{kind_of, kind_eq}
use Rattle.shard_calls.specs.Outcomes.{outcome_of}
use Rattle.shard_calls.specs.Spans.{asked_by, deed_if_asked, deed_of, span_in, term_wrote, written_in}
use Rattle.shard_calls.specs.Tablets.{TabletState, answer_to}
use Rattle.shard_calls.specs.World.{Config, World, numbered}
use Rattle.shard_calls.specs.Table.{IsRun}
use Rattle.shard_calls.specs.Promotions.{world_at}
use Rattle.shard_calls.proofs.RunLemmas.{truthful_at}
use Rattle.shard_laws.specs.TightMoves.{IsPosted}
use Rattle.shard_laws.proofs.HeardLemmas.{AnswersTo, settled_by}
use Rattle.shard_laws.proofs.TraceLemmas.{one_content}
use Rattle.shard_laws.proofs.RowLemmas.{AnsweredAt, answers_sent, posted_later, same_call}

-- ---- members of lists

found_at : (p : Deed → Bool) (xs : List Deed) (x : Deed) → find p xs ≡ Some x → (n : ℕ) × (slice_get xs n ≡ Some x) × (p x ≡ true)
found_at p [] x h = absurd (let none : None ≡ Some x = h in cc)
found_at p (y ∷ xs) x h = of_test (p y) refl h (λ k. found_at p xs x k)
  where
    of_test : (b : Bool) → p y ≡ b → cond b (Some y) (find p xs) ≡ Some x → (find p xs ≡ Some x → (n : ℕ) × (slice_get xs n ≡ Some x) × (p x ≡ true))
        → (n : ℕ) × (slice_get (y ∷ xs) n ≡ Some x) × (p x ≡ true)
    of_test true is k rest = let same : y ≡ x = (let some : Some y ≡ Some x = k in cc) in (0, k, ap p (sym same) ∙ is)
    of_test false is k rest = let r = rest k in (suc r.0, r.1, r.2)

kept_at : (p : Deed → Bool) (xs : List Deed) (n : ℕ) (x : Deed) → slice_get (filter p xs) n ≡ Some x → (m : ℕ) × (slice_get xs m ≡ Some x) × (p x ≡ true)
kept_at p [] n x h = absurd (let none : None ≡ Some x = h in cc)
kept_at p (y ∷ xs) n x h = of_test (p y) n refl h (λ k j. kept_at p xs k x j)
  where
    of_test : (b : Bool) (k : ℕ) → p y ≡ b → slice_get (cond b (y ∷ filter p xs) (filter p xs)) k ≡ Some x
        → ((j : ℕ) → slice_get (filter p xs) j ≡ Some x → (m : ℕ) × (slice_get xs m ≡ Some x) × (p x ≡ true))
        → (m : ℕ) × (slice_get (y ∷ xs) m ≡ Some x) × (p x ≡ true)
    of_test true zero is k rest = let same : y ≡ x = (let some : Some y ≡ Some x = k in cc) in (0, k, ap p (sym same) ∙ is)
    of_test true (suc j) is k rest = let r = rest j k in (suc r.0, r.1, r.2)
    of_test false j is k rest = let r = rest j k in (suc r.0, r.1, r.2)

did_at : (f : Act → Option Deed) (done : List Act) (n : ℕ) (d : Deed) → slice_get (filter_map f done) n ≡ Some d
    → (act : Act) × (m : ℕ) × (slice_get done m ≡ Some act) × (f act ≡ Some d)
did_at f [] n d h = absurd (let none : None ≡ Some d = h in cc)
did_at f (act ∷ done) n d h = of_option (f act) n refl h (λ k j. did_at f done k d j)
  where
    of_option : (o : Option Deed) (k : ℕ) → f act ≡ o → slice_get (cons_option o (filter_map f done)) k ≡ Some d
        → ((j : ℕ) → slice_get (filter_map f done) j ≡ Some d → (other : Act) × (m : ℕ) × (slice_get done m ≡ Some other) × (f other ≡ Some d))
        → (other : Act) × (m : ℕ) × (slice_get (act ∷ done) m ≡ Some other) × (f other ≡ Some d)
    of_option None k is at rest = let r = rest k at in (r.0, suc r.1, r.2, r.3)
    of_option (Some x) zero is at rest = (act, 0, refl, is ∙ at)
    of_option (Some x) (suc j) is at rest = let r = rest j at in (r.0, suc r.1, r.2, r.3)

any_at : (p : Act → Bool) (xs : List Act) (n : ℕ) (x : Act) → slice_get xs n ≡ Some x → p x ≡ true → list_any p xs ≡ true
any_at p [] n x h is = absurd (let none : None ≡ Some x = h in cc)
any_at p (y ∷ xs) zero x h is =
    let same : y ≡ x = (let some : Some y ≡ Some x = h in cc) in ap (λ (b : Bool). b || list_any p xs) (ap p same ∙ is)
any_at p (y ∷ xs) (suc n) x h is = more (p y) (any_at p xs n x h is)
  where
    more : (b : Bool) → list_any p xs ≡ true → (b || list_any p xs) ≡ true
    more true k = refl
    more false k = k

-- ---- what a tablet said, among the deeds

says_status : (o : Option Outcome) (status : Status) → status_in o ≡ Some status
    → (seen : ℕ) × (promised : ℕ) × (newest : ℕ) × (o ≡ Some (Answered (says.Status seen promised status.stand newest status.position)))
says_status None status h = absurd (let none : None ≡ Some status = h in cc)
says_status (Some (GivenUp why)) status h = absurd (let none : None ≡ Some status = h in cc)
says_status (Some (Answered (says.Status seen promised stand newest p))) status h =
    let mine : Status = record { stand = stand; position = p } in
    let same : mine ≡ status = (let some : Some mine ≡ Some status = h in cc) in
    (seen, promised, newest, ap (λ (x : Status). Some (Answered (says.Status seen promised x.stand newest x.position))) same)
says_status (Some (Answered (says.Stopped newest p))) status h = absurd (let none : None ≡ Some status = h in cc)
says_status (Some (Answered (says.Demoted newest p))) status h = absurd (let none : None ≡ Some status = h in cc)
says_status (Some (Answered (says.Promoted p))) status h = absurd (let none : None ≡ Some status = h in cc)
says_status (Some (Answered says.Joined)) status h = absurd (let none : None ≡ Some status = h in cc)
says_status (Some (Answered says.Feeding)) status h = absurd (let none : None ≡ Some status = h in cc)
says_status (Some (Answered says.Holds)) status h = absurd (let none : None ≡ Some status = h in cc)
says_status (Some (Answered says.Told)) status h = absurd (let none : None ≡ Some status = h in cc)
says_status (Some (Answered says.NotTold)) status h = absurd (let none : None ≡ Some status = h in cc)
says_status (Some (Answered (says.Kept stand))) status h = absurd (let none : None ≡ Some status = h in cc)
says_status (Some (Answered (says.StaleTerm seen))) status h = absurd (let none : None ≡ Some status = h in cc)
says_status (Some (Answered (says.PromisedAhead promised))) status h = absurd (let none : None ≡ Some status = h in cc)
says_status (Some (Answered (says.NotCaughtUp missing))) status h = absurd (let none : None ≡ Some status = h in cc)
says_status (Some (Answered (says.Errant extra))) status h = absurd (let none : None ≡ Some status = h in cc)
says_status (Some (Answered (says.NotStanding newest))) status h = absurd (let none : None ≡ Some status = h in cc)

record SaidIn (done : List Deed) (a : Alias) (status : Status) : Type 0 where
  asked : Asked
  place : ℕ
  here : slice_get done place ≡ Some (deeds.Asked asked)
  alias : asked.alias ≡ a
  seen : ℕ
  promised : ℕ
  newest : ℕ
  outcome : asked.outcome ≡ Some (Answered (says.Status seen promised status.stand newest status.position))

said_among : (done : List Deed) (a : Alias) (status : Status) → statuses done a ≡ Some status → SaidIn done a status
said_among done a status h = of_found (find (is_call_of a) done) refl h
  where
    of_found : (o : Option Deed) → find (is_call_of a) done ≡ o → status_in (outcome_in o) ≡ Some status → SaidIn done a status
    of_found None is k = absurd (let none : None ≡ Some status = k in cc)
    of_found (Some (deeds.Asked x)) is k =
        let at = found_at (is_call_of a) done (deeds.Asked x) is in
        let said = says_status x.outcome status k in
        record {
          asked = x;
          place = at.0;
          here = at.1;
          alias = alias_eq_is x.alias a at.2;
          seen = said.0;
          promised = said.1;
          newest = said.2;
          outcome = said.3;
        }
    of_found (Some (deeds.Took reply)) is k = absurd (let none : None ≡ Some status = k in cc)
    of_found (Some (deeds.Read reply)) is k = absurd (let none : None ≡ Some status = k in cc)
    of_found (Some (deeds.Intended b reply)) is k = absurd (let none : None ≡ Some status = k in cc)
    of_found (Some (deeds.Recorded b reply)) is k = absurd (let none : None ≡ Some status = k in cc)
    of_found (Some (deeds.Drained b reply)) is k = absurd (let none : None ≡ Some status = k in cc)
    of_found (Some (deeds.Wrote b reply)) is k = absurd (let none : None ≡ Some status = k in cc)
    of_found (Some (deeds.Told committed)) is k = absurd (let none : None ≡ Some status = k in cc)

-- ---- the call in the post

-- the act sent this message
abbrev pub sends_so : ℕ → Act → Bool
sends_so n (acts.Took reply) = false
sends_so n (acts.Read reply) = false
sends_so n (acts.Intended b reply) = false
sends_so n (acts.Recorded b reply) = false
sends_so n (acts.Drained b reply) = false
sends_so n (acts.Sent k) = k == n
sends_so n (acts.Wrote b reply) = false
sends_so n (acts.Told committed) = false

record CallOf (post : List Message) (done : List Act) (x : Asked) : Type 0 where
  message : Message
  command : ℕ
  call : Call
  at : numbered post x.message ≡ Some message
  carries : message.content ≡ contents.Asks command x.term x.alias call
  kind : kind_of call ≡ x.kind
  outcome : outcome_of post message ≡ x.outcome
  sent : list_any (sends_so x.message) done ≡ true

asked_so : (post : List Message) (k : ℕ) (m : Message) (content : Content) (x : Asked) → m.content ≡ content
    → deed_if_asked (asked_by post k m content) ≡ Some (deeds.Asked x)
    → (command : ℕ) × (call : Call) × (m.content ≡ contents.Asks command x.term x.alias call) × (kind_of call ≡ x.kind) × (outcome_of post m ≡ x.outcome) × (k ≡ x.message)
asked_so post k m (contents.Asks command term to call) x is h =
    let mine : Asked = record { alias = to; kind = kind_of call; message = k; term = term; sent = m.sent; arrived = unwrap_or m.arrived 0; outcome = outcome_of post m } in
    let same : mine ≡ x = (let some : Some (deeds.Asked mine) ≡ Some (deeds.Asked x) = h in cc) in (
      command,
      call,
      is ∙ ap (λ (y : Asked). contents.Asks command y.term y.alias call) same,
      ap (λ (y : Asked). y.kind) same,
      ap (λ (y : Asked). y.outcome) same,
      ap (λ (y : Asked). y.message) same,
    )
asked_so post k m (contents.Answers command asked from answer) x is h = absurd (let none : None ≡ Some (deeds.Asked x) = h in cc)
asked_so post k m (contents.Feeds from to term before index e) x is h = absurd (let none : None ≡ Some (deeds.Asked x) = h in cc)
asked_so post k m (contents.Acks from to term index) x is h = absurd (let none : None ≡ Some (deeds.Asked x) = h in cc)

itself : (k : ℕ) → (k == k) ≡ true
itself k = grind (arith, nat_tests)

sent_call : (post : List Message) (done : List Act) (k n : ℕ) (x : Asked) (o : Option Message) → numbered post k ≡ o → slice_get done n ≡ Some (acts.Sent k)
    → deed_if_asked (o >>= (λ m. asked_by post k m m.content)) ≡ Some (deeds.Asked x) → CallOf post done x
sent_call post done k n x None at here h = absurd (let none : None ≡ Some (deeds.Asked x) = h in cc)
sent_call post done k n x (Some m) at here h =
    let r = asked_so post k m m.content x refl h in
    record {
      message = m;
      command = r.0;
      call = r.1;
      at = subst (λ (j : ℕ). numbered post j ≡ Some m) r.5 at;
      carries = r.2;
      kind = r.3;
      outcome = r.4;
      sent = subst (λ (j : ℕ). list_any (sends_so j) done ≡ true) r.5 (any_at (sends_so k) done n (acts.Sent k) here (itself k));
    }

call_of_deed : (post : List Message) (u : ℕ) (done : List Act) (act : Act) (n : ℕ) (x : Asked) → slice_get done n ≡ Some act → deed_of post u act ≡ Some (deeds.Asked x)
    → CallOf post done x
call_of_deed post u done (acts.Took reply) n x here h = absurd (let wrong : Some (deeds.Took reply) ≡ Some (deeds.Asked x) = h in cc)
call_of_deed post u done (acts.Read reply) n x here h = absurd (let wrong : Some (deeds.Read reply) ≡ Some (deeds.Asked x) = h in cc)
call_of_deed post u done (acts.Intended b reply) n x here h = absurd (let wrong : Some (deeds.Intended b reply) ≡ Some (deeds.Asked x) = h in cc)
call_of_deed post u done (acts.Recorded b reply) n x here h = absurd (let wrong : Some (deeds.Recorded b reply) ≡ Some (deeds.Asked x) = h in cc)
call_of_deed post u done (acts.Drained b reply) n x here h = absurd (let wrong : Some (deeds.Drained b reply) ≡ Some (deeds.Asked x) = h in cc)
call_of_deed post u done (acts.Wrote b reply) n x here h = absurd (let wrong : Some (deeds.Wrote b (written_in u reply)) ≡ Some (deeds.Asked x) = h in cc)
call_of_deed post u done (acts.Told committed) n x here h = absurd (let wrong : Some (deeds.Told committed) ≡ Some (deeds.Asked x) = h in cc)
call_of_deed post u done (acts.Sent k) n x here h = sent_call post done k n x (numbered post k) refl here h

status_call : (call : Call) → kind_eq (kind_of call) kinds.Status ≡ true → call ≡ calls.Status
status_call calls.Status h = refl
status_call calls.Stop h = absurd (false≢true h)
status_call calls.Demote h = absurd (false≢true h)
status_call (calls.Promote p) h = absurd (false≢true h)
status_call (calls.SetSource source t p) h = absurd (false≢true h)
status_call calls.Feed h = absurd (false≢true h)
status_call (calls.WaitFor p until) h = absurd (false≢true h)
status_call (calls.WaitTold until) h = absurd (false≢true h)

-- a call of the command that asked the tablet how it stands, and was answered so
pub record StatusCall (post : List Message) (s : CommandState) (a : Alias) (status : Status) : Type 0 where
  pub number : ℕ
  pub message : Message
  pub command : ℕ
  pub term : ℕ
  pub at : numbered post number ≡ Some message
  pub carries : message.content ≡ contents.Asks command term a calls.Status
  pub seen : ℕ
  pub promised : ℕ
  pub newest : ℕ
  pub outcome : outcome_of post message ≡ Some (Answered (says.Status seen promised status.stand newest status.position))
  pub sent : list_any (sends_so number) s.acts ≡ true

status_from : (post : List Message) (s : CommandState) (done : List Deed) (a : Alias) (status : Status) (said : SaidIn done a status) → CallOf post s.acts said.asked
    → is_call kinds.Status (deeds.Asked said.asked) ≡ true → StatusCall post s a status
status_from post s done a status said of asks =
    let one : of.call ≡ calls.Status = status_call of.call (ap (λ (k : Kind). kind_eq k kinds.Status) of.kind ∙ asks) in
    record {
      number = said.asked.message;
      message = of.message;
      command = of.command;
      term = said.asked.term;
      at = of.at;
      carries = of.carries ∙ ap (λ (b : Alias). contents.Asks of.command said.asked.term b of.call) said.alias
          ∙ ap (λ (f : Call). contents.Asks of.command said.asked.term a f) one;
      seen = said.seen;
      promised = said.promised;
      newest = said.newest;
      outcome = of.outcome ∙ said.outcome;
      sent = of.sent;
    }

pub status_called : (post : List Message) (s : CommandState) (a : Alias) (status : Status) → statuses (calls_of kinds.Status (span_in post s)) a ≡ Some status
    → StatusCall post s a status
status_called post s a status h =
    let said : SaidIn (calls_of kinds.Status (span_in post s)) a status = said_among (calls_of kinds.Status (span_in post s)) a status h in
    let kept = kept_at (is_call kinds.Status) (span_in post s) said.place (deeds.Asked said.asked) said.here in
    let did = did_at (deed_of post (term_wrote s.wrote)) s.acts kept.0 (deeds.Asked said.asked) kept.1 in
    status_from post s (calls_of kinds.Status (span_in post s)) a status said
    (call_of_deed post (term_wrote s.wrote) s.acts did.0 did.1 said.asked did.2 did.3) kept.2

-- ---- how the tablet stood

-- the call came to the tablet before step i, and it stood so then
pub record StoodSo (config : Config) (ss : List Step) (i k : ℕ) (a : Alias) (status : Status) : Type 0 where
  pub place : ℕ
  pub earlier : place < i
  pub reply : ℕ
  pub here : slice_get ss place ≡ Some (record { event = events.Deliver k; reply = replies.Message reply })
  pub stands : ((world_at config ss place).tablets a).stand ≡ status.stand
  pub position : position_of ((world_at config ss place).tablets a).log ≡ status.position

says_so : (s : TabletState) (status : Status) (seen promised newest : ℕ)
    → says.Status s.seen s.promised s.stand (newest_row s.log) (position_of s.log) ≡ says.Status seen promised status.stand newest status.position
    → (s.stand ≡ status.stand) × (position_of s.log ≡ status.position)
says_so s status seen promised newest h = (cc, cc)

pub stood_so : (config : Config) (ss : List Step) (i : ℕ) (s : CommandState) (a : Alias) (status : Status) → IsRun config ss
    → (call : StatusCall (world_at config ss i).post s a status) → StoodSo config ss i call.number a status
stood_so config ss i s a status run call =
    let w : World = world_at config ss i in
    let said : Answer = says.Status call.seen call.promised status.stand call.newest status.position in
    let answer : AnswersTo w call.number a said =
    settled_by w call.number call.command call.term a calls.Status call.message said call.message.settled (truthful_at config ss i run).telling call.at call.carries refl
    call.outcome in
    let sent : AnsweredAt config ss i call.number a said = answers_sent config ss i answer.number answer.command call.number a said run answer.posted in
    let v : World = world_at config ss sent.place in
    let le : sent.place ≤ i = (let less = sent.earlier in omega (arith, less)) in
    let asked : Content = contents.Asks sent.command sent.term a sent.call in
    let asks : Content = contents.Asks call.command call.term a calls.Status in
    let then : IsPosted w.post call.number asked =
    posted_later config ss call.number asked sent.place i run le (record { message = sent.message; at = sent.at; carries = sent.carries }) in
    let one : asked ≡ asks = one_content w.post call.number asked asks then (record { message = call.message; at = call.at; carries = call.carries }) in
    let same = same_call sent.command sent.term call.command call.term a sent.call calls.Status one in
    let told : answer_to v.group sent.me sent.term calls.Status (v.tablets a) ≡ said =
    subst (λ (f : Call). answer_to v.group sent.me sent.term f (v.tablets a) ≡ said) same.1 sent.answered in
    let stood = says_so (v.tablets a) status call.seen call.promised call.newest told in
    record { place = sent.place; earlier = sent.earlier; reply = sent.reply; here = sent.here; stands = stood.0; position = stood.1 }

-- What the cause of an answer says: that a write was written, and that a promotion put its row into the log.
use Rattle.std.proofs.Common.{◌≡◌, ℕ, Bool, true, false, ◌&&◌, ◌||◌, ◌==◌, refl, ap, sym, subst, ◌∙◌, arith, List, [], ◌∷◌, ◌++◌, map, cond, Option, Some, None, Result, Ok, Err}
use Rattle.std.proofs.lemmas.Bool.{false≢true}
use Rattle.std.proofs.lemmas.Bool.Decides.{nat_tests}
use Rattle.std.specs.List.{list_any, filter_map, flat_map, cons_option}
use Rattle.shard_base.specs.Options.{◌>>=◌}
use Rattle.shard_names.specs.declared.alias.Alias.{Alias}
use Rattle.shard_names.specs.Tablets.{alias_eq}
use Rattle.shard_names.proofs.TabletLemmas.{both_left, both_right, alias_eq_is}
use Rattle.gtid_sets.specs.declared.gtid.Gtid.{Gtid}
use Rattle.gtid_sets.specs.Gtid.{gtid_eq}
use Rattle.gtid_sets.specs.Position.{Position}
use Rattle.gtid_sets.proofs.GtidLemmas.{gtid_eq_is}
use Rattle.topo_lock.specs.declared.intent.Record.{Record}
use Rattle.shard_calls.specs.declared.answer.Answer.{Answer}
use Rattle.shard_calls.specs.declared.answer.Answer.TheVariants as says
use Rattle.shard_calls.specs.declared.call.Call.{Call}
use Rattle.shard_calls.specs.declared.call.Call.TheVariants as calls
use Rattle.shard_calls.specs.declared.command.Command.{Command}
use Rattle.shard_calls.specs.declared.command.Command.TheVariants as commands
use Rattle.shard_calls.specs.declared.ending.CommandAnswer.TheVariants as answers
use Rattle.shard_calls.specs.declared.analysis.Finding.{Finding}
use Rattle.shard_calls.specs.declared.ending.Left.{Left}
use Rattle.shard_calls.specs.declared.ending.NotJoined.{NotJoined}
use Rattle.shard_calls.specs.declared.ending.Rest.{Rest}
use Rattle.shard_calls.specs.declared.ending.Rest.TheVariants as lines
use Rattle.shard_calls.specs.declared.event.Seen.{Seen}
use Rattle.shard_calls.specs.declared.group.Group.{Group}
use Rattle.shard_calls.specs.declared.post.Content.{Content}
use Rattle.shard_calls.specs.declared.post.Content.TheVariants as contents
use Rattle.shard_calls.specs.declared.post.Message.{Message}
use Rattle.shard_calls.specs.declared.post.Settled.{Settled}
use Rattle.shard_calls.specs.declared.post.Settled.TheVariants as settleds
use Rattle.shard_calls.specs.declared.state.Act.{Act}
use Rattle.shard_calls.specs.declared.state.Act.TheVariants as acts
use Rattle.shard_calls.specs.declared.state.CommandState.{CommandState}
use Rattle.shard_calls.specs.declared.state.Wrote.{Wrote}
use Rattle.gtid_sets.specs.Logs.{has_row}
use Rattle.shard_calls.specs.declared.span.Deed.{Deed}
use Rattle.shard_calls.specs.declared.span.Deed.TheVariants as deeds
use Rattle.shard_calls.specs.declared.span.Kind.{Kind}
use Rattle.shard_calls.specs.declared.span.Kind.TheVariants as kinds
use Rattle.shard_calls.specs.declared.span.Outcome.{Outcome}
use Rattle.shard_calls.specs.declared.span.Outcome.TheVariants.{Answered, GivenUp}
use Rattle.shard_calls.specs.Analysis.{finds, is_orphaned, is_urgent, problems}
use Rattle.shard_calls.specs.Choosing.{are_settled}
use Rattle.shard_calls.specs.Kinds.{kind_of, kind_eq}
use Rattle.shard_calls.specs.Outcomes.{answer_in, outcome_by, outcome_of}
use Rattle.shard_calls.specs.Same.{findings_eq, lines_eq}
use Rattle.shard_calls.specs.Spans.{asked_by, deed_if_asked, deed_of, span_in, term_wrote}
use Rattle.shard_calls.specs.Causes.{is_some_of, outcome_passes, is_promoted_answer, is_told_answer, said_in, any_said_in, leaves_out, is_promoted, wrote_this, is_told_act, left_by, calls_of, is_set_source_kind, findings_of, joined_or_left, line_of_call, line_of, lines_beside, are_lines_of, is_watched, has_command_cause, has_cause}
use Rattle.shard_calls.specs.World.{Config, World, group_of, numbered}
use Rattle.shard_calls.proofs.WorldLemmas.{IsSoundWorld, IsIntended, Fits}
use Rattle.shard_calls.proofs.SettleLemmas.{settled_in}
use Rattle.shard_calls.proofs.ToldLemmas.{RowIfPromoted, AnswerFits, Answering, IsTellingWorld}

-- ---- a write

committed_by : (config : Config) (w : World) (s : CommandState) (command : Command) (g : Gtid) (a : Alias) (t : ℕ)
    → has_command_cause config w s command (answers.Committed g a t) ≡ true → wrote_this s.wrote g a t ≡ true
committed_by config w s (commands.Planned shard given avoid expected timeout allow_cross_cell) g a t h = absurd (false≢true h)
committed_by config w s (commands.External b) g a t h = absurd (false≢true h)
committed_by config w s commands.Vtorc g a t h = absurd (false≢true h)
committed_by config w s (commands.Write to) g a t h = both_left (wrote_this s.wrote g a t) (list_any is_told_act s.acts) h
committed_by config w s (commands.Show b) g a t h = absurd (false≢true h)
committed_by config w s (commands.Emergency shard given ignored expected timeout preventing) g a t h = absurd (false≢true h)
committed_by config w s (commands.GetShard shard) g a t h = absurd (false≢true h)
committed_by config w s (commands.GetTablets shard) g a t h = absurd (false≢true h)

-- what is said to be written was written
pub record IsWritten (o : Option CommandState) (g : Gtid) (a : Alias) (t : ℕ) : Type 0 where
  pub state : CommandState
  pub open_is : o ≡ Some state
  pub wrote : Wrote
  pub wrote_is : state.wrote ≡ Some wrote
  pub gtid : wrote.gtid ≡ g
  pub alias : wrote.alias ≡ a
  pub term : wrote.term ≡ t

same_term : (x : Wrote) (t : ℕ) → (x.term == t) ≡ true → x.term ≡ t
same_term x t h = grind (arith, nat_tests)

written_this : (s : CommandState) (o : Option Wrote) (g : Gtid) (a : Alias) (t : ℕ) → s.wrote ≡ o → wrote_this o g a t ≡ true → IsWritten (Some s) g a t
written_this s None g a t is h = absurd (false≢true h)
written_this s (Some x) g a t is h =
    let front : (gtid_eq x.gtid g && alias_eq x.alias a) ≡ true = both_left (gtid_eq x.gtid g && alias_eq x.alias a) (x.term == t) h in
    record {
      state = s;
      open_is = refl;
      wrote = x;
      wrote_is = is;
      gtid = gtid_eq_is x.gtid g (both_left (gtid_eq x.gtid g) (alias_eq x.alias a) front);
      alias = alias_eq_is x.alias a (both_right (gtid_eq x.gtid g) (alias_eq x.alias a) front);
      term = same_term x t (both_right (gtid_eq x.gtid g && alias_eq x.alias a) (x.term == t) h);
    }

pub committed_is_written : (config : Config) (w : World) (o : Option CommandState) (g : Gtid) (a : Alias) (t : ℕ) → has_cause config w o (answers.Committed g a t) ≡ true
    → IsWritten o g a t
committed_is_written config w None g a t h = absurd (false≢true h)
committed_is_written config w (Some s) g a t h = written_this s s.wrote g a t refl (committed_by config w s s.command g a t h)

-- ---- a promotion

-- its Promote of the term was answered so
promoted_so : (s : CommandState) (span : List Deed) (a : Alias) (t : ℕ) (left : List NotJoined) → is_promoted s span a t left ≡ true
    → any_said_in t kinds.Promote a is_promoted_answer span ≡ true
promoted_so s span a t left h =
    let first : Bool = is_some_of s.term t in
    let came : Bool = any_said_in t kinds.Promote a is_promoted_answer span in
    let told : Bool = any_said_in t kinds.WaitTold a is_told_answer span in
    both_right first came (both_left (first && came) told (both_left (first && came && told) (leaves_out a left span) h))

promoted_by : (config : Config) (w : World) (s : CommandState) (command : Command) (a : Alias) (t : ℕ) (left : List NotJoined)
    → has_command_cause config w s command (answers.Promoted a t left) ≡ true → any_said_in t kinds.Promote a is_promoted_answer (span_in w.post s) ≡ true
promoted_by config w s (commands.Write to) a t left h = absurd (false≢true h)
promoted_by config w s (commands.Show b) a t left h = absurd (false≢true h)
promoted_by config w s (commands.External b) a t left h = absurd (false≢true h)
promoted_by config w s commands.Vtorc a t left h = absurd (false≢true h)
promoted_by config w s (commands.GetShard shard) a t left h = absurd (false≢true h)
promoted_by config w s (commands.GetTablets shard) a t left h = absurd (false≢true h)
promoted_by config w s (commands.Planned shard given avoid expected timeout crossing) a t left h = promoted_so s (span_in w.post s) a t left h
promoted_by config w s (commands.Emergency shard given ignored expected timeout preventing) a t left h = promoted_so s (span_in w.post s) a t left h

-- ---- a promotion that a vtorc made

abbrev is_promotion : Rest → Bool
is_promotion (lines.Promoted a t left) = true
is_promotion _ = false

abbrev begins_with_promotion : List Rest → Bool
begins_with_promotion [] = false
begins_with_promotion (x ∷ xs) = is_promotion x

-- what equals one line of a promotion begins with a promotion
equal_begins : (a : Alias) (t : ℕ) (left : List NotJoined) (xs : List Rest) → lines_eq (lines.Promoted a t left ∷ []) xs ≡ true → begins_with_promotion xs ≡ true
equal_begins a t left [] h = absurd (false≢true h)
equal_begins a t left (lines.Promoted b u others ∷ xs) h = refl
equal_begins a t left (lines.Refused r tried ∷ xs) h = absurd (false≢true h)
equal_begins a t left (lines.Joined b p ∷ xs) h = absurd (false≢true h)
equal_begins a t left (lines.Left b why ∷ xs) h = absurd (false≢true h)
equal_begins a t left (lines.Drained b ∷ xs) h = absurd (false≢true h)

append_begins : (xs ys : List Rest) → begins_with_promotion xs ≡ false → begins_with_promotion ys ≡ false → begins_with_promotion (xs ++ ys) ≡ false
append_begins [] ys first then = then
append_begins (x ∷ xs) ys first then = first

call_begins : (p a : Alias) (o : Option Outcome) → begins_with_promotion (line_of_call p a o) ≡ false
call_begins p a None = refl
call_begins p a (Some o) = of_left (left_by o)
  where
    of_left : (x : Option Left) → is_promotion (joined_or_left p a x) ≡ false
    of_left None = refl
    of_left (Some left) = refl

line_begins : (p : Alias) (d : Deed) → begins_with_promotion (line_of p d) ≡ false
line_begins p (deeds.Took (Ok t)) = refl
line_begins p (deeds.Took (Err held)) = refl
line_begins p (deeds.Read reply) = refl
line_begins p (deeds.Intended a reply) = refl
line_begins p (deeds.Recorded a reply) = refl
line_begins p (deeds.Drained a (Ok x)) = refl
line_begins p (deeds.Drained a (Err t)) = refl
line_begins p (deeds.Asked x) = of_test (is_set_source_kind x.kind)
  where
    of_test : (b : Bool) → begins_with_promotion (cond b (line_of_call p x.alias x.outcome) []) ≡ false
    of_test true = call_begins p x.alias x.outcome
    of_test false = refl
line_begins p (deeds.Wrote a reply) = refl
line_begins p (deeds.Told committed) = refl

-- none of the lines of repairs is a promotion
repairs_begin : (p : Alias) (span : List Deed) → begins_with_promotion (flat_map (line_of p) span) ≡ false
repairs_begin p [] = refl
repairs_begin p (d ∷ span) = append_begins (line_of p d) (flat_map (line_of p) span) (line_begins p d) (repairs_begin p span)

beside_begins : (o : Option Record) (span : List Deed) → begins_with_promotion (lines_beside o span) ≡ false
beside_begins None span = refl
beside_begins (Some r) span = repairs_begin r.alias span

-- where a tablet was promoted, a reparent did it
lines_so : (g : Group) (seen : Seen) (s : CommandState) (span : List Deed) (found : List Finding) (a : Alias) (t : ℕ) (left : List NotJoined)
    → are_lines_of g seen s span found (lines.Promoted a t left ∷ []) ≡ true → is_promoted s span a t left ≡ true
lines_so g seen s span found a t left h = of_tests (finds is_orphaned found) (finds is_urgent found) h
  where
    of_tests : (b c : Bool)
        → cond b (is_promoted s span a t left)
        (cond c (is_promoted s span a t left) (lines_eq (lines.Promoted a t left ∷ []) (lines_beside seen.recorded span))) ≡ true
        → is_promoted s span a t left ≡ true
    of_tests true c k = k
    of_tests false true k = k
    of_tests false false k =
        absurd (false≢true (sym (beside_begins seen.recorded span) ∙ equal_begins a t left (lines_beside seen.recorded span) k))

watched_so : (g : Group) (s : CommandState) (span : List Deed) (findings : List Finding) (a : Alias) (t : ℕ) (left : List NotJoined)
    → is_watched g s span findings (lines.Promoted a t left ∷ []) ≡ true → is_promoted s span a t left ≡ true
watched_so g s span findings a t left h =
    let found : List Finding = findings_of g s.opening.seen (calls_of kinds.Status span) in
    lines_so g s.opening.seen s span found a t left
    (both_right (are_settled (map (λ x. x.alias) g.tablets) (calls_of kinds.Status span) && findings_eq findings (problems found))
    (are_lines_of g s.opening.seen s span found (lines.Promoted a t left ∷ [])) h)

watched_by : (config : Config) (w : World) (s : CommandState) (command : Command) (findings : List Finding) (a : Alias) (t : ℕ) (left : List NotJoined)
    → has_command_cause config w s command (answers.Vtorc findings (lines.Promoted a t left ∷ [])) ≡ true
    → any_said_in t kinds.Promote a is_promoted_answer (span_in w.post s) ≡ true
watched_by config w s (commands.Planned shard given avoid expected timeout crossing) findings a t left h = absurd (false≢true h)
watched_by config w s (commands.Emergency shard given ignored expected timeout preventing) findings a t left h = absurd (false≢true h)
watched_by config w s (commands.External b) findings a t left h = absurd (false≢true h)
watched_by config w s commands.Vtorc findings a t left h =
    promoted_so s (span_in w.post s) a t left (watched_so (group_of config) s (span_in w.post s) findings a t left h)
watched_by config w s (commands.Write to) findings a t left h = absurd (false≢true h)
watched_by config w s (commands.Show b) findings a t left h = absurd (false≢true h)
watched_by config w s (commands.GetShard shard) findings a t left h = absurd (false≢true h)
watched_by config w s (commands.GetTablets shard) findings a t left h = absurd (false≢true h)

-- ---- what was said is in the post

any_deed : (p : Deed → Bool) (f : Act → Option Deed) (done : List Act) → list_any p (filter_map f done) ≡ true
    → (act : Act) × (d : Deed) × (f act ≡ Some d) × (p d ≡ true)
any_deed p f [] h = absurd (false≢true h)
any_deed p f (act ∷ done) h = of_option (f act) refl h (λ k. any_deed p f done k)
  where
    of_test : (d : Deed) (b : Bool) → f act ≡ Some d → p d ≡ b → (b || list_any p (filter_map f done)) ≡ true
        → (list_any p (filter_map f done) ≡ true → (c : Act) × (y : Deed) × (f c ≡ Some y) × (p y ≡ true))
        → (c : Act) × (y : Deed) × (f c ≡ Some y) × (p y ≡ true)
    of_test d true is passes k rest = (act, d, is, passes)
    of_test d false is passes k rest = rest k

    of_option : (o : Option Deed) → f act ≡ o → list_any p (cons_option o (filter_map f done)) ≡ true
        → (list_any p (filter_map f done) ≡ true → (c : Act) × (y : Deed) × (f c ≡ Some y) × (p y ≡ true))
        → (c : Act) × (y : Deed) × (f c ≡ Some y) × (p y ≡ true)
    of_option None is k rest = rest k
    of_option (Some d) is k rest = of_test d (p d) is refl k rest

-- a call of this kind and term to the tablet, which was answered so, in the post
pub record WasSaid (post : List Message) (t : ℕ) (kind : Kind) (a : Alias) (test : Answer → Bool) : Type 0 where
  pub number : ℕ
  pub message : Message
  pub command : ℕ
  pub call : Call
  pub at : numbered post number ≡ Some message
  pub carries : message.content ≡ contents.Asks command t a call
  pub of_kind : kind_eq (kind_of call) kind ≡ true
  pub passes : outcome_passes test (outcome_of post message) ≡ true

same_number : (m n : ℕ) → (m == n) ≡ true → m ≡ n
same_number m n h = grind (arith, nat_tests)

said_by : (post : List Message) (k command term t : ℕ) (m : Message) (to a : Alias) (call : Call) (kind : Kind) (test : Answer → Bool) → numbered post k ≡ Some m
    → m.content ≡ contents.Asks command term to call
    → (kind_eq (kind_of call) kind && alias_eq to a && (term == t) && outcome_passes test (outcome_of post m)) ≡ true → WasSaid post t kind a test
said_by post k command term t m to a call kind test at carries h =
    let of_kind : Bool = kind_eq (kind_of call) kind in
    let passes : Bool = outcome_passes test (outcome_of post m) in
    let front : (of_kind && alias_eq to a && (term == t)) ≡ true = both_left (of_kind && alias_eq to a && (term == t)) passes h in
    let names : (of_kind && alias_eq to a) ≡ true = both_left (of_kind && alias_eq to a) (term == t) front in
    record {
      number = k;
      message = m;
      command = command;
      call = call;
      at = at;
      carries = carries
          ∙ ap (λ (b : Alias). contents.Asks command term b call) (alias_eq_is to a (both_right of_kind (alias_eq to a) names))
          ∙ ap (λ (u : ℕ). contents.Asks command u a call) (same_number term t (both_right (of_kind && alias_eq to a) (term == t) front));
      of_kind = both_left of_kind (alias_eq to a) names;
      passes = both_right (of_kind && alias_eq to a && (term == t)) passes h;
    }

abbrev said_if : ℕ → Kind → Alias → (Answer → Bool) → Option Deed → Bool
said_if t kind a test None = false
said_if t kind a test (Some d) = said_in t kind a test d

said_with : (post : List Message) (k t : ℕ) (m : Message) (content : Content) (kind : Kind) (a : Alias) (test : Answer → Bool) → numbered post k ≡ Some m → m.content ≡ content
    → said_if t kind a test (deed_if_asked (asked_by post k m content)) ≡ true → WasSaid post t kind a test
said_with post k t m (contents.Asks command term to call) kind a test at carries h = said_by post k command term t m to a call kind test at carries h
said_with post k t m (contents.Answers command asked from answer) kind a test at carries h = absurd (false≢true h)
said_with post k t m (contents.Feeds from to term before index e) kind a test at carries h = absurd (false≢true h)
said_with post k t m (contents.Acks from to term index) kind a test at carries h = absurd (false≢true h)

said_at : (post : List Message) (k t : ℕ) (o : Option Message) (kind : Kind) (a : Alias) (test : Answer → Bool) → numbered post k ≡ o
    → said_if t kind a test (deed_if_asked (o >>= (λ m. asked_by post k m m.content))) ≡ true → WasSaid post t kind a test
said_at post k t None kind a test at h = absurd (false≢true h)
said_at post k t (Some m) kind a test at h = said_with post k t m m.content kind a test at refl h

-- each call of a span is one of the post
said_of : (post : List Message) (u t : ℕ) (kind : Kind) (a : Alias) (test : Answer → Bool) (act : Act) → said_if t kind a test (deed_of post u act) ≡ true
    → WasSaid post t kind a test
said_of post u t kind a test (acts.Took reply) h = absurd (false≢true h)
said_of post u t kind a test (acts.Read reply) h = absurd (false≢true h)
said_of post u t kind a test (acts.Intended b reply) h = absurd (false≢true h)
said_of post u t kind a test (acts.Recorded b reply) h = absurd (false≢true h)
said_of post u t kind a test (acts.Drained b reply) h = absurd (false≢true h)
said_of post u t kind a test (acts.Sent k) h = said_at post k t (numbered post k) kind a test refl h
said_of post u t kind a test (acts.Wrote b reply) h = absurd (false≢true h)
said_of post u t kind a test (acts.Told committed) h = absurd (false≢true h)

pub was_said : (post : List Message) (s : CommandState) (t : ℕ) (kind : Kind) (a : Alias) (test : Answer → Bool) → any_said_in t kind a test (span_in post s) ≡ true
    → WasSaid post t kind a test
was_said post s t kind a test h =
    let f : Act → Option Deed = deed_of post (term_wrote s.wrote) in
    let r = any_deed (said_in t kind a test) f s.acts h in
    said_of post (term_wrote s.wrote) t kind a test r.0 (ap (λ (o : Option Deed). said_if t kind a test o) r.2 ∙ r.3)

-- an outcome that is an answer comes of a message
record IsAnswered (post : List Message) (o : Option Settled) (answer : Answer) : Type 0 where
  n : ℕ
  settled : o ≡ Some (settleds.Answered n)
  message : Message
  at : numbered post n ≡ Some message
  carries : answer_in message.content ≡ Some answer

answered_in : (post : List Message) (n : ℕ) (m : Message) (o : Option Answer) (answer : Answer) → numbered post n ≡ Some m → answer_in m.content ≡ o
    → (o >>= (λ x. Some (Answered x))) ≡ Some (Answered answer) → IsAnswered post (Some (settleds.Answered n)) answer
answered_in post n m None answer at carries h = absurd (let none : None ≡ Some (Answered answer) = h in cc)
answered_in post n m (Some x) answer at carries h =
    let same : x ≡ answer = (let some : Some (Answered x) ≡ Some (Answered answer) = h in cc) in
    record { n = n; settled = refl; message = m; at = at; carries = carries ∙ ap (λ (y : Answer). Some y) same }

answered_at : (post : List Message) (n : ℕ) (o : Option Message) (answer : Answer) → numbered post n ≡ o
    → (o >>= (λ m. answer_in m.content >>= (λ x. Some (Answered x)))) ≡ Some (Answered answer) → IsAnswered post (Some (settleds.Answered n)) answer
answered_at post n None answer at h = absurd (let none : None ≡ Some (Answered answer) = h in cc)
answered_at post n (Some m) answer at h = answered_in post n m (answer_in m.content) answer at refl h

answered_by : (post : List Message) (o : Option Settled) (answer : Answer) → (o >>= outcome_by post) ≡ Some (Answered answer) → IsAnswered post o answer
answered_by post None answer h = absurd (let none : None ≡ Some (Answered answer) = h in cc)
answered_by post (Some (settleds.Answered n)) answer h = answered_at post n (numbered post n) answer refl h
answered_by post (Some (settleds.GaveUp why)) answer h = absurd (let wrong : Some (GivenUp why) ≡ Some (Answered answer) = h in cc)

promoted_outcome : (o : Option Outcome) → outcome_passes is_promoted_answer o ≡ true → (p : Position) × (o ≡ Some (Answered (says.Promoted p)))
promoted_outcome None h = absurd (false≢true h)
promoted_outcome (Some (GivenUp why)) h = absurd (false≢true h)
promoted_outcome (Some (Answered (says.Promoted p))) h = (p, refl)
promoted_outcome (Some (Answered (says.Status seen promised at newest position))) h = absurd (false≢true h)
promoted_outcome (Some (Answered (says.Stopped newest position))) h = absurd (false≢true h)
promoted_outcome (Some (Answered (says.Demoted newest position))) h = absurd (false≢true h)
promoted_outcome (Some (Answered says.Joined)) h = absurd (false≢true h)
promoted_outcome (Some (Answered says.Feeding)) h = absurd (false≢true h)
promoted_outcome (Some (Answered says.Holds)) h = absurd (false≢true h)
promoted_outcome (Some (Answered says.Told)) h = absurd (false≢true h)
promoted_outcome (Some (Answered says.NotTold)) h = absurd (false≢true h)
promoted_outcome (Some (Answered (says.Kept at))) h = absurd (false≢true h)
promoted_outcome (Some (Answered (says.StaleTerm seen))) h = absurd (false≢true h)
promoted_outcome (Some (Answered (says.PromisedAhead promised))) h = absurd (false≢true h)
promoted_outcome (Some (Answered (says.NotCaughtUp missing))) h = absurd (false≢true h)
promoted_outcome (Some (Answered (says.Errant extra))) h = absurd (false≢true h)
promoted_outcome (Some (Answered (says.NotStanding newest))) h = absurd (false≢true h)

promote_call : (call : Call) → kind_eq (kind_of call) kinds.Promote ≡ true → (p : Position) × (call ≡ calls.Promote p)
promote_call calls.Status h = absurd (false≢true h)
promote_call calls.Stop h = absurd (false≢true h)
promote_call calls.Demote h = absurd (false≢true h)
promote_call (calls.Promote p) h = (p, refl)
promote_call (calls.SetSource source t p) h = absurd (false≢true h)
promote_call calls.Feed h = absurd (false≢true h)
promote_call (calls.WaitFor p until) h = absurd (false≢true h)
promote_call (calls.WaitTold until) h = absurd (false≢true h)

-- the tablet of the term has its row, and the term intends it
pub record IsRowThere (w : World) (a : Alias) (t : ℕ) : Type 0 where
  pub intended : IsIntended w.topo t a
  pub row : has_row (w.tablets a).log t ≡ true

same_message : (post : List Message) (n : ℕ) (x y : Message) → numbered post n ≡ Some x → numbered post n ≡ Some y → x ≡ y
same_message post n x y p q = let some : Some x ≡ Some y = sym p ∙ q in cc

same_answer : (x y : Answer) → Some x ≡ Some y → x ≡ y
same_answer x y h = cc

same_call : (c u : ℕ) (a : Alias) (f : Call) (d t : ℕ) (b : Alias) (g : Call) → contents.Asks c u a f ≡ contents.Asks d t b g → (u ≡ t) × (a ≡ b)
same_call c u a f d t b g h = (cc, cc)

settled_at : (post : List Message) (k : ℕ) (m : Message) (o : Option Settled) → numbered post k ≡ Some m → m.settled ≡ o → settled_in (numbered post k) ≡ o
settled_at post k m o at is = ap (λ (x : Option Message). settled_in x) at ∙ is

one_content : (x y : Message) (c d : Content) → x ≡ y → x.content ≡ c → y.content ≡ d → c ≡ d
one_content x y c d same p q = sym p ∙ ap (λ (m : Message). m.content) same ∙ q

row_of_both : (w : World) (b a : Alias) (u t : ℕ) → u ≡ t → b ≡ a → has_row (w.tablets b).log u ≡ true → has_row (w.tablets a).log t ≡ true
row_of_both w b a u t term alias row =
    subst (λ (x : Alias). has_row (w.tablets x).log t ≡ true) alias (subst (λ (n : ℕ). has_row (w.tablets b).log n ≡ true) term row)

said_row : (w : World) (a : Alias) (t : ℕ) → IsSoundWorld w → IsTellingWorld w → WasSaid w.post t kinds.Promote a is_promoted_answer → IsRowThere w a t
said_row w a t sound telling s =
    let call = promote_call s.call s.of_kind in
    let outcome = promoted_outcome (outcome_of w.post s.message) s.passes in
    let answered : IsAnswered w.post s.message.settled (says.Promoted outcome.0) = answered_by w.post s.message.settled (says.Promoted outcome.0) outcome.1 in
    let settled : settled_in (numbered w.post s.number) ≡ Some (settleds.Answered answered.n) =
    settled_at w.post s.number s.message (Some (settleds.Answered answered.n)) s.at answered.settled in
    let answering : Answering w s.number answered.n = telling.settled s.number answered.n settled in
    let one : answering.message ≡ answered.message = same_message w.post answered.n answering.message answered.message answering.at answered.at in
    let said : answering.says ≡ says.Promoted outcome.0 =
    same_answer _ _ (ap (λ (c : Content). answer_in c) (sym answering.carries) ∙ ap (λ (m : Message). answer_in m.content) one ∙ answered.carries) in
    let fits : AnswerFits w s.number answering.from answering.says =
    telling.answers answered.n answering.message answering.command s.number answering.from answering.says answering.at answering.carries in
    let two : fits.there ≡ s.message = same_message w.post s.number fits.there s.message fits.at s.at in
    let same = same_call fits.command fits.term answering.from fits.call s.command t a s.call
    (one_content fits.there s.message (contents.Asks fits.command fits.term answering.from fits.call) (contents.Asks s.command t a s.call) two fits.carries s.carries) in
    let row : has_row (w.tablets answering.from).log fits.term ≡ true =
    subst (λ (y : Answer). RowIfPromoted (w.tablets answering.from).log fits.term y) said fits.row in
    let asked : s.message.content ≡ contents.Asks s.command t a (calls.Promote call.0) =
    s.carries ∙ ap (λ (f : Call). contents.Asks s.command t a f) call.1 in
    record {
      intended = subst (λ (c : Content). Fits w c) asked (sound.post s.number s.message s.at);
      row = row_of_both w answering.from a fits.term t same.0 same.1 row;
    }

pub promoted_has_row : (config : Config) (w : World) (o : Option CommandState) (a : Alias) (t : ℕ) (left : List NotJoined) → IsSoundWorld w → IsTellingWorld w
    → has_cause config w o (answers.Promoted a t left) ≡ true → IsRowThere w a t
promoted_has_row config w None a t left sound telling h = absurd (false≢true h)
promoted_has_row config w (Some s) a t left sound telling h =
    said_row w a t sound telling (was_said w.post s t kinds.Promote a is_promoted_answer (promoted_by config w s s.command a t left h))

pub watched_has_row : (config : Config) (w : World) (o : Option CommandState) (findings : List Finding) (a : Alias) (t : ℕ) (left : List NotJoined) → IsSoundWorld w
    → IsTellingWorld w → has_cause config w o (answers.Vtorc findings (lines.Promoted a t left ∷ [])) ≡ true → IsRowThere w a t
watched_has_row config w None findings a t left sound telling h = absurd (false≢true h)
watched_has_row config w (Some s) findings a t left sound telling h =
    said_row w a t sound telling (was_said w.post s t kinds.Promote a is_promoted_answer (watched_by config w s s.command findings a t left h))

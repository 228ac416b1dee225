-- Which steps did what the answer of a command rests on.
use Rattle.std.proofs.Common.{◌≡◌, ℕ, zero, suc, Bool, true, false, ◌==◌, refl, ap, sym, subst, ◌∙◌, arith, cond, List, [], ◌∷◌, take, Some, None, Ok, Err, ◌+◌, ◌++◌, length, unwrap_or}
use Rattle.std.proofs.lemmas.Bool.{false≢true}
use Rattle.std.proofs.lemmas.Bool.Decides.{nat_tests}
use Rattle.std.specs.List.{list_any}
use Rattle.shard_names.specs.declared.alias.Alias.{Alias}
use Rattle.topo_lock.specs.declared.intent.Record.{Record}
use Rattle.shard_calls.specs.declared.analysis.Status.{Status}
use Rattle.shard_calls.specs.declared.call.Call.{Call}
use Rattle.shard_calls.specs.declared.call.Call.TheVariants as calls
use Rattle.shard_calls.specs.declared.event.Event.{Event}
use Rattle.shard_calls.specs.declared.event.Event.TheVariants as events
use Rattle.shard_calls.specs.declared.event.Reply.{Reply}
use Rattle.shard_calls.specs.declared.event.Reply.TheVariants as replies
use Rattle.shard_calls.specs.declared.event.Seen.{Seen}
use Rattle.shard_calls.specs.declared.event.Step.{Step}
use Rattle.shard_calls.specs.declared.post.Content.{Content}
use Rattle.shard_calls.specs.declared.post.Content.TheVariants as contents
use Rattle.shard_calls.specs.declared.post.Message.{Message}
use Rattle.shard_calls.specs.declared.span.Kind.TheVariants as kinds
use Rattle.shard_calls.specs.Spans.{span_in}
use Rattle.shard_calls.specs.declared.stand.Standing.{Standing}
use Rattle.shard_calls.specs.declared.state.Act.{Act}
use Rattle.shard_calls.specs.declared.state.Act.TheVariants as acts
use Rattle.shard_calls.specs.declared.state.CommandState.{CommandState}
use Rattle.shard_calls.specs.declared.state.Wrote.{Wrote}
use Rattle.shard_calls.specs.World.{Config, World, next_message, opening, numbered, open_command, term_in}
use Rattle.shard_calls.specs.Causes.{calls_of, statuses, is_told_act, says_not_primary, any_read, records_it}
use Rattle.shard_calls.specs.Table.{after, IsStep, IsRun, IsRunFrom}
use Rattle.shard_calls.specs.Answered.{act_of, acts_of}
use Rattle.shard_calls.specs.Promotions.{world_at}
use Rattle.shard_calls.proofs.ListLemmas.{at_end}
use Rattle.shard_calls.proofs.ActLemmas.{acts_are_steps}
use Rattle.shard_calls.proofs.RunLemmas.{step_along, next_world}
use Rattle.shard_laws.specs.Shown.{HadStep, HadStatus}
use Rattle.shard_laws.specs.TightMoves.{IsPosted}
use Rattle.shard_laws.proofs.TraceLemmas.{one_content}
use Rattle.shard_laws.proofs.RowLemmas.{posted_later}
use Rattle.shard_laws.proofs.StatusLemmas.{sends_so, StatusCall, status_called, StoodSo, stood_so}
use Rattle.shard_laws.proofs.ReadLemmas.{reads_so, records_so, drains_it, drains_so, read_among, recorded_among, drained_among, read_act, recorded_act, drained_act}
use Rattle.shard_laws.proofs.EndLemmas.{is_shown, DoneBy, ByRead, ByRecord, ByDrain, BySend, ByTold, ByGone, ByEntry, ByRefusal, done_by, told_act, refused_act, ActStep, act_step, step_act}

-- ---- acts are steps

-- the steps up to here are a run
run_front : (config : Config) (w : World) (ss : List Step) (i : ℕ) → IsRunFrom config w ss → IsRunFrom config w (take i ss)
run_front config w [] zero run = tt
run_front config w [] (suc i) run = tt
run_front config w (s ∷ ss) zero run = tt
run_front config w (s ∷ ss) (suc i) run = (run.0, run_front config (after config w s.event) ss i run.1)

-- the acts of the command are those of the steps so far
acts_so_far : (config : Config) (ss : List Step) (i c : ℕ) (s : CommandState) → IsRun config ss → numbered (world_at config ss i).commands c ≡ Some s → s.acts ≡ acts_of c (take i ss)
acts_so_far config ss i c s run here = acts_are_steps config (take i ss) (run_front config (opening config) ss i run) c s here

step_is : (s : Step) (e : Event) (r : Reply) → s.event ≡ e → s.reply ≡ r → s ≡ record { event = e; reply = r }
step_is s e r p q =
    ap (λ (v : Event). let y : Step = record { event = v; reply = s.reply } in y) p ∙ ap (λ (v : Reply). let y : Step = record { event = e; reply = v } in y) q

by_told : (c : ℕ) (e : Event) (r : Reply) (act : Act) → DoneBy c e r act → act ≡ acts.Told true → (e ≡ events.Tell c) × (r ≡ replies.Told)
by_told c _ _ _ (ByRead seen) is = absurd (let wrong : acts.Read (Ok seen) ≡ acts.Told true = is in cc)
by_told c _ _ _ (ByRecord a) is = absurd (let wrong : acts.Recorded a (Ok tt) ≡ acts.Told true = is in cc)
by_told c _ _ _ (ByDrain a) is = absurd (let wrong : acts.Drained a (Ok tt) ≡ acts.Told true = is in cc)
by_told c _ _ _ (BySend d call n) is = absurd (let wrong : acts.Sent n ≡ acts.Told true = is in cc)
by_told c _ _ _ ByTold is = (refl, refl)
by_told c _ _ _ ByGone is = absurd (let wrong : acts.Told false ≡ acts.Told true = is in cc)
by_told c _ _ _ (ByEntry a g) is = absurd (let wrong : acts.Wrote a (Ok g) ≡ acts.Told true = is in cc)
by_told c _ _ _ (ByRefusal a at) is = absurd (let wrong : acts.Wrote a (Err at) ≡ acts.Told true = is in cc)

by_refusal : (c : ℕ) (a : Alias) (at : Standing) (e : Event) (r : Reply) (act : Act) → DoneBy c e r act → act ≡ acts.Wrote a (Err at)
    → (e ≡ events.Write c a) × (r ≡ replies.NotPrimary at)
by_refusal c a at _ _ _ (ByRead seen) is = absurd (let wrong : acts.Read (Ok seen) ≡ acts.Wrote a (Err at) = is in cc)
by_refusal c a at _ _ _ (ByRecord b) is = absurd (let wrong : acts.Recorded b (Ok tt) ≡ acts.Wrote a (Err at) = is in cc)
by_refusal c a at _ _ _ (ByDrain b) is = absurd (let wrong : acts.Drained b (Ok tt) ≡ acts.Wrote a (Err at) = is in cc)
by_refusal c a at _ _ _ (BySend d call n) is = absurd (let wrong : acts.Sent n ≡ acts.Wrote a (Err at) = is in cc)
by_refusal c a at _ _ _ ByTold is = absurd (let wrong : acts.Told true ≡ acts.Wrote a (Err at) = is in cc)
by_refusal c a at _ _ _ ByGone is = absurd (let wrong : acts.Told false ≡ acts.Wrote a (Err at) = is in cc)
by_refusal c a at _ _ _ (ByEntry b g) is = absurd (let wrong : acts.Wrote b (Ok g) ≡ acts.Wrote a (Err at) = is in cc)
by_refusal c a at _ _ _ (ByRefusal b stand) is =
    let who : b ≡ a = (let same : acts.Wrote b (Err stand) ≡ acts.Wrote a (Err at) = is in cc) in
    let how : stand ≡ at = (let same : acts.Wrote b (Err stand) ≡ acts.Wrote a (Err at) = is in cc) in
    (ap (λ (x : Alias). events.Write c x) who, ap (λ (x : Standing). replies.NotPrimary x) how)

by_read : (c : ℕ) (seen : Seen) (e : Event) (r : Reply) (act : Act) → DoneBy c e r act → act ≡ acts.Read (Ok seen) → (e ≡ events.Read c) × (r ≡ replies.Read seen)
by_read c seen _ _ _ (ByRead other) is =
    let same : other ≡ seen = (let read : acts.Read (Ok other) ≡ acts.Read (Ok seen) = is in cc) in (refl, ap (λ (x : Seen). replies.Read x) same)
by_read c seen _ _ _ (ByRecord a) is = absurd (let wrong : acts.Recorded a (Ok tt) ≡ acts.Read (Ok seen) = is in cc)
by_read c seen _ _ _ (ByDrain a) is = absurd (let wrong : acts.Drained a (Ok tt) ≡ acts.Read (Ok seen) = is in cc)
by_read c seen _ _ _ (BySend d call n) is = absurd (let wrong : acts.Sent n ≡ acts.Read (Ok seen) = is in cc)
by_read c seen _ _ _ ByTold is = absurd (let wrong : acts.Told true ≡ acts.Read (Ok seen) = is in cc)
by_read c seen _ _ _ ByGone is = absurd (let wrong : acts.Told false ≡ acts.Read (Ok seen) = is in cc)
by_read c seen _ _ _ (ByEntry a g) is = absurd (let wrong : acts.Wrote a (Ok g) ≡ acts.Read (Ok seen) = is in cc)
by_read c seen _ _ _ (ByRefusal a at) is = absurd (let wrong : acts.Wrote a (Err at) ≡ acts.Read (Ok seen) = is in cc)

by_record : (c : ℕ) (a : Alias) (e : Event) (r : Reply) (act : Act) → DoneBy c e r act → act ≡ acts.Recorded a (Ok tt) → (e ≡ events.Record c a) × (r ≡ replies.Ok)
by_record c a _ _ _ (ByRead seen) is = absurd (let wrong : acts.Read (Ok seen) ≡ acts.Recorded a (Ok tt) = is in cc)
by_record c a _ _ _ (ByDrain b) is = absurd (let wrong : acts.Drained b (Ok tt) ≡ acts.Recorded a (Ok tt) = is in cc)
by_record c a _ _ _ (BySend d call n) is = absurd (let wrong : acts.Sent n ≡ acts.Recorded a (Ok tt) = is in cc)
by_record c a _ _ _ (ByRecord b) is =
    let same : b ≡ a = (let recorded : acts.Recorded b (Ok tt) ≡ acts.Recorded a (Ok tt) = is in cc) in (ap (λ (x : Alias). events.Record c x) same, refl)
by_record c a _ _ _ ByTold is = absurd (let wrong : acts.Told true ≡ acts.Recorded a (Ok tt) = is in cc)
by_record c a _ _ _ ByGone is = absurd (let wrong : acts.Told false ≡ acts.Recorded a (Ok tt) = is in cc)
by_record c a _ _ _ (ByEntry b g) is = absurd (let wrong : acts.Wrote b (Ok g) ≡ acts.Recorded a (Ok tt) = is in cc)
by_record c a _ _ _ (ByRefusal b at) is = absurd (let wrong : acts.Wrote b (Err at) ≡ acts.Recorded a (Ok tt) = is in cc)

by_drain : (c : ℕ) (a : Alias) (e : Event) (r : Reply) (act : Act) → DoneBy c e r act → act ≡ acts.Drained a (Ok tt) → (e ≡ events.Drain c a) × (r ≡ replies.Ok)
by_drain c a _ _ _ (ByRead seen) is = absurd (let wrong : acts.Read (Ok seen) ≡ acts.Drained a (Ok tt) = is in cc)
by_drain c a _ _ _ (BySend d call n) is = absurd (let wrong : acts.Sent n ≡ acts.Drained a (Ok tt) = is in cc)
by_drain c a _ _ _ (ByRecord b) is = absurd (let wrong : acts.Recorded b (Ok tt) ≡ acts.Drained a (Ok tt) = is in cc)
by_drain c a _ _ _ (ByDrain b) is =
    let same : b ≡ a = (let drained : acts.Drained b (Ok tt) ≡ acts.Drained a (Ok tt) = is in cc) in (ap (λ (x : Alias). events.Drain c x) same, refl)
by_drain c a _ _ _ ByTold is = absurd (let wrong : acts.Told true ≡ acts.Drained a (Ok tt) = is in cc)
by_drain c a _ _ _ ByGone is = absurd (let wrong : acts.Told false ≡ acts.Drained a (Ok tt) = is in cc)
by_drain c a _ _ _ (ByEntry b g) is = absurd (let wrong : acts.Wrote b (Ok g) ≡ acts.Drained a (Ok tt) = is in cc)
by_drain c a _ _ _ (ByRefusal b at) is = absurd (let wrong : acts.Wrote b (Err at) ≡ acts.Drained a (Ok tt) = is in cc)

sent_act : (k : ℕ) (act : Act) → sends_so k act ≡ true → (act ≡ acts.Sent k) × (is_shown act ≡ true)
sent_act k (acts.Took reply) h = absurd (false≢true h)
sent_act k (acts.Read reply) h = absurd (false≢true h)
sent_act k (acts.Intended b reply) h = absurd (false≢true h)
sent_act k (acts.Recorded b reply) h = absurd (false≢true h)
sent_act k (acts.Drained b reply) h = absurd (false≢true h)
sent_act k (acts.Sent n) h = (ap (λ (x : ℕ). acts.Sent x) (let same : n ≡ k = grind (arith, nat_tests) in same), refl)
sent_act k (acts.Wrote b reply) h = absurd (false≢true h)
sent_act k (acts.Told committed) h = absurd (false≢true h)

by_send : (c k : ℕ) (e : Event) (r : Reply) (act : Act) → DoneBy c e r act → act ≡ acts.Sent k
    → (a : Alias) × (call : Call) × (e ≡ events.Send c a call) × (r ≡ replies.Message k)
by_send c k _ _ _ (ByRead seen) is = absurd (let wrong : acts.Read (Ok seen) ≡ acts.Sent k = is in cc)
by_send c k _ _ _ (ByRecord b) is = absurd (let wrong : acts.Recorded b (Ok tt) ≡ acts.Sent k = is in cc)
by_send c k _ _ _ (ByDrain b) is = absurd (let wrong : acts.Drained b (Ok tt) ≡ acts.Sent k = is in cc)
by_send c k _ _ _ (BySend a call n) is =
    let same : n ≡ k = (let sent : acts.Sent n ≡ acts.Sent k = is in cc) in (a, call, refl, ap (λ (x : ℕ). replies.Message x) same)
by_send c k _ _ _ ByTold is = absurd (let wrong : acts.Told true ≡ acts.Sent k = is in cc)
by_send c k _ _ _ ByGone is = absurd (let wrong : acts.Told false ≡ acts.Sent k = is in cc)
by_send c k _ _ _ (ByEntry b g) is = absurd (let wrong : acts.Wrote b (Ok g) ≡ acts.Sent k = is in cc)
by_send c k _ _ _ (ByRefusal b at) is = absurd (let wrong : acts.Wrote b (Err at) ≡ acts.Sent k = is in cc)

-- the step that did an act on which an answer rests
did_it : (config : Config) (ss : List Step) (i c : ℕ) (p : Act → Bool) → IsRun config ss → (h : ActStep c p ss i) → is_shown h.act ≡ true
    → DoneBy c h.step.event h.step.reply h.act
did_it config ss i c p run h of_write =
    let w : World = world_at config ss h.place in
    let step : IsStep config w h.step = step_along config (opening config) ss h.place h.step run h.here in
    subst (λ (r : Reply). DoneBy c h.step.event r h.act) (sym step.answered)
    (done_by config w c h.step.event h.act (ap (λ (r : Reply). act_of c h.step.event r) (sym step.answered) ∙ h.did) of_write)

pub had_told : (config : Config) (ss : List Step) (i c : ℕ) (s : CommandState) → IsRun config ss → numbered (world_at config ss i).commands c ≡ Some s
    → list_any is_told_act s.acts ≡ true → HadStep ss i (events.Tell c) replies.Told
had_told config ss i c s run here h =
    let found = act_step c is_told_act ss i (ap (λ (l : List Act). list_any is_told_act l) (sym (acts_so_far config ss i c s run here)) ∙ h) in
    let told = told_act found.act found.passes in
    let by = by_told c found.step.event found.step.reply found.act (did_it config ss i c is_told_act run found told.1) told.0 in
    (found.place, found.earlier, found.here ∙ ap (λ (y : Step). Some y) (step_is found.step (events.Tell c) replies.Told by.0 by.1))

pub had_refused : (config : Config) (ss : List Step) (i c : ℕ) (s : CommandState) (a : Alias) (at : Standing) → IsRun config ss → numbered (world_at config ss i).commands c ≡ Some s
    → list_any (says_not_primary a at) s.acts ≡ true → HadStep ss i (events.Write c a) (replies.NotPrimary at)
had_refused config ss i c s a at run here h =
    let found = act_step c (says_not_primary a at) ss i (ap (λ (l : List Act). list_any (says_not_primary a at) l) (sym (acts_so_far config ss i c s run here)) ∙ h) in
    let told = refused_act a at found.act found.passes in
    let by = by_refusal c a at found.step.event found.step.reply found.act (did_it config ss i c (says_not_primary a at) run found told.1) told.0 in
    (found.place, found.earlier, found.here ∙ ap (λ (y : Step). Some y) (step_is found.step (events.Write c a) (replies.NotPrimary at) by.0 by.1))

pub had_read : (config : Config) (ss : List Step) (i c : ℕ) (s : CommandState) (test : Seen → Bool) → IsRun config ss → numbered (world_at config ss i).commands c ≡ Some s
    → any_read test (span_in (world_at config ss i).post s) ≡ true → (seen : Seen) × HadStep ss i (events.Read c) (replies.Read seen) × (test seen ≡ true)
had_read config ss i c s test run here h =
    let did : list_any (reads_so test) s.acts ≡ true = read_among (world_at config ss i).post s test h in
    let found = act_step c (reads_so test) ss i (ap (λ (l : List Act). list_any (reads_so test) l) (sym (acts_so_far config ss i c s run here)) ∙ did) in
    let read = read_act test found.act found.passes in
    let by = by_read c read.0 found.step.event found.step.reply found.act (did_it config ss i c (reads_so test) run found read.2) read.1 in
    (read.0, (found.place, found.earlier, found.here ∙ ap (λ (y : Step). Some y) (step_is found.step (events.Read c) (replies.Read read.0) by.0 by.1)), read.3)

pub had_recorded : (config : Config) (ss : List Step) (i c : ℕ) (s : CommandState) (a : Alias) → IsRun config ss → numbered (world_at config ss i).commands c ≡ Some s
    → list_any (records_it a) (span_in (world_at config ss i).post s) ≡ true → HadStep ss i (events.Record c a) replies.Ok
had_recorded config ss i c s a run here h =
    let did : list_any (records_so a) s.acts ≡ true = recorded_among (world_at config ss i).post s a h in
    let found = act_step c (records_so a) ss i (ap (λ (l : List Act). list_any (records_so a) l) (sym (acts_so_far config ss i c s run here)) ∙ did) in
    let recorded = recorded_act a found.act found.passes in
    let by = by_record c a found.step.event found.step.reply found.act (did_it config ss i c (records_so a) run found recorded.1) recorded.0 in
    (found.place, found.earlier, found.here ∙ ap (λ (y : Step). Some y) (step_is found.step (events.Record c a) replies.Ok by.0 by.1))

pub had_drained : (config : Config) (ss : List Step) (i c : ℕ) (s : CommandState) (a : Alias) → IsRun config ss → numbered (world_at config ss i).commands c ≡ Some s
    → list_any (drains_it a) (span_in (world_at config ss i).post s) ≡ true → HadStep ss i (events.Drain c a) replies.Ok
had_drained config ss i c s a run here h =
    let did : list_any (drains_so a) s.acts ≡ true = drained_among (world_at config ss i).post s a h in
    let found = act_step c (drains_so a) ss i (ap (λ (l : List Act). list_any (drains_so a) l) (sym (acts_so_far config ss i c s run here)) ∙ did) in
    let drained = drained_act a found.act found.passes in
    let by = by_drain c a found.step.event found.step.reply found.act (did_it config ss i c (drains_so a) run found drained.1) drained.0 in
    (found.place, found.earlier, found.here ∙ ap (λ (y : Step). Some y) (step_is found.step (events.Drain c a) replies.Ok by.0 by.1))

step_sent : (ss : List Step) (i c k : ℕ) (found : ActStep c (sends_so k) ss i) (a : Alias) (call : Call) → found.step.event ≡ events.Send c a call
    → found.step.reply ≡ replies.Message k → HadStep ss i (events.Send c a call) (replies.Message k)
step_sent ss i c k found a call event reply =
    (found.place, found.earlier, found.here ∙ ap (λ (y : Step). Some y) (step_is found.step (events.Send c a call) (replies.Message k) event reply))

had_sent : (config : Config) (ss : List Step) (i c : ℕ) (s : CommandState) (k : ℕ) → IsRun config ss → numbered (world_at config ss i).commands c ≡ Some s
    → list_any (sends_so k) s.acts ≡ true → (a : Alias) × (call : Call) × HadStep ss i (events.Send c a call) (replies.Message k)
had_sent config ss i c s k run here did =
    let found = act_step c (sends_so k) ss i (ap (λ (l : List Act). list_any (sends_so k) l) (sym (acts_so_far config ss i c s run here)) ∙ did) in
    let sent = sent_act k found.act found.passes in
    let by = by_send c k found.step.event found.step.reply found.act (did_it config ss i c (sends_so k) run found sent.1) sent.0 in
    (by.0, by.1, step_sent ss i c k found by.0 by.1 by.2 by.3)

numbered_end : (xs : List Message) (x : Message) → numbered (xs ++ x ∷ []) (length xs + 1) ≡ Some x
numbered_end xs x =
    let next : length xs + 1 ≡ suc (length xs) = omega arith in ap (λ (n : ℕ). numbered (xs ++ x ∷ []) n) next ∙ at_end xs x

-- what was sent is in the post
sent_posted : (config : Config) (ss : List Step) (i c k : ℕ) (a : Alias) (call : Call) → IsRun config ss → HadStep ss i (events.Send c a call) (replies.Message k)
    → (u : ℕ) × IsPosted (world_at config ss i).post k (contents.Asks c u a call)
sent_posted config ss i c k a call run sent =
    let w : World = world_at config ss sent.0 in
    let step : IsStep config w (record { event = events.Send c a call; reply = replies.Message k }) = step_along config (opening config) ss sent.0 _ run sent.2 in
    let number : k ≡ next_message w = (let same : replies.Message k ≡ replies.Message (next_message w) = step.answered in cc) in
    let u : ℕ = unwrap_or (term_in (open_command w c)) 0 in
    let content : Content = contents.Asks c u a call in
    let m : Message = record { content = content; sent = w.clock; arrived = None; lost = false; settled = None } in
    let now : IsPosted (after config w (events.Send c a call)).post (next_message w) content =
    record { message = m; at = numbered_end w.post m; carries = refl } in
    let there : IsPosted (world_at config ss (suc sent.0)).post k content =
    subst (λ (v : World). IsPosted v.post k content) (sym (next_world config (opening config) ss sent.0 _ sent.2))
    (subst (λ (n : ℕ). IsPosted (after config w (events.Send c a call)).post n content) (sym number) now) in
    (u, posted_later config ss k content (suc sent.0) i run (let less = sent.1 in omega (arith, less)) there)

same_asks : (c u d t : ℕ) (a b : Alias) (x y : Call) → contents.Asks c u a x ≡ contents.Asks d t b y → (a ≡ b) × (x ≡ y)
same_asks c u d t a b x y h = (cc, cc)

-- the command asked the tablet how it stands, and it stood so then
pub had_status : (config : Config) (ss : List Step) (i c : ℕ) (s : CommandState) (a : Alias) (status : Status) → IsRun config ss
    → numbered (world_at config ss i).commands c ≡ Some s
    → statuses (calls_of kinds.Status (span_in (world_at config ss i).post s)) a ≡ Some status → HadStatus config ss i c a status
had_status config ss i c s a status run here h =
    let w : World = world_at config ss i in
    let call : StatusCall w.post s a status = status_called w.post s a status h in
    let stood : StoodSo config ss i call.number a status = stood_so config ss i s a status run call in
    let sent = had_sent config ss i c s call.number run here call.sent in
    let posted = sent_posted config ss i c call.number sent.0 sent.1 run sent.2 in
    let asks : Content = contents.Asks call.command call.term a calls.Status in
    let one : contents.Asks c posted.0 sent.0 sent.1 ≡ asks =
    one_content w.post call.number (contents.Asks c posted.0 sent.0 sent.1) asks posted.1 (record { message = call.message; at = call.at; carries = call.carries }) in
    let same = same_asks c posted.0 call.command call.term sent.0 a sent.1 calls.Status one in
    record {
      number = call.number;
      sent = subst (λ (f : Call). HadStep ss i (events.Send c a f) (replies.Message call.number)) same.1
          (subst (λ (b : Alias). HadStep ss i (events.Send c b sent.1) (replies.Message call.number)) same.0 sent.2);
      step = stood.place;
      before = stood.earlier;
      reply = stood.reply;
      delivers = stood.here;
      stands = stood.stands;
      position = stood.position;
    }

-- a command that was told has this act
pub has_told : (config : Config) (ss : List Step) (i c : ℕ) (s : CommandState) → IsRun config ss → numbered (world_at config ss i).commands c ≡ Some s
    → HadStep ss i (events.Tell c) replies.Told → list_any is_told_act s.acts ≡ true
has_told config ss i c s run here h =
    let own : (c == c) ≡ true = grind (arith, nat_tests) in
    let did : act_of c (events.Tell c) replies.Told ≡ Some (acts.Told true) = ap (λ (b : Bool). cond b (Some (acts.Told true)) None) own in
    ap (λ (l : List Act). list_any is_told_act l) (acts_so_far config ss i c s run here)
    ∙ step_act c is_told_act ss i h.0 (record { event = events.Tell c; reply = replies.Told }) (acts.Told true) h.1 h.2 did refl

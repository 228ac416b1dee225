-- That a command's acts are those that its steps show.
use Rattle.std.proofs.Common.{not, append_assoc, ◌≡◌, ℕ, zero, suc, Bool, true, false, ◌==◌, refl, ap, sym, subst, ◌∙◌, arith, List, [], ◌∷◌, ◌++◌, cond, Option, Some, None, Result, Ok, Err, option_map, option_to_list, is_some, unwrap_or}
use Rattle.std.proofs.lemmas.Bool.{false≢true}
use Rattle.std.proofs.lemmas.Bool.Decides.{nat_tests}
use Rattle.std.proofs.lemmas.List.{append-nil}
use Rattle.std.specs.List.{slice_get, cons_option}
use Rattle.shard_base.specs.Options.{◌>>=◌, only_if}
use Rattle.shard_calls.specs.declared.event.Step.{Step}
use Rattle.shard_names.specs.declared.alias.Alias.{Alias}
use Rattle.shard_names.specs.declared.tablet.Tablet.{Tablet}
use Rattle.shard_names.specs.Tablets.{tablet_of, is_declared}
use Rattle.shard_names.proofs.TabletLemmas.{both_left, both_right}
use Rattle.topo_lock.specs.Topology.{Topology, is_held_in, answer_take, answer_intend, answer_record, answer_drain}
use Rattle.topo_lock.specs.declared.lock.LockTaken.{LockTaken}
use Rattle.topo_lock.specs.declared.lock.TopoFault.{TopoFault}
use Rattle.topo_lock.specs.declared.lock.TopoFault.TheVariants as faults
use Rattle.shard_calls.specs.declared.call.Call.{Call}
use Rattle.shard_calls.specs.declared.event.Event.{Event}
use Rattle.shard_calls.specs.declared.event.Event.TheVariants as events
use Rattle.shard_calls.specs.declared.event.Reply.{Reply}
use Rattle.shard_calls.specs.declared.event.Reply.TheVariants as replies
use Rattle.shard_calls.specs.declared.outcome.Accepted.{Accepted}
use Rattle.shard_calls.specs.declared.outcome.Accepted.TheVariants as accepteds
use Rattle.shard_calls.specs.declared.outcome.Written.{Written}
use Rattle.shard_calls.specs.declared.outcome.Written.TheVariants as writtens
use Rattle.shard_calls.specs.declared.post.Content.{Content}
use Rattle.shard_calls.specs.declared.post.Content.TheVariants as contents
use Rattle.shard_calls.specs.declared.post.Message.{Message}
use Rattle.shard_calls.specs.declared.state.Act.{Act}
use Rattle.shard_calls.specs.declared.state.Act.TheVariants as acts
use Rattle.shard_calls.specs.declared.state.CommandState.{CommandState}
use Rattle.shard_calls.specs.declared.why.Why.{Why}
use Rattle.shard_calls.specs.Tablets.{TabletState}
use Rattle.shard_calls.specs.World.{Config, World, opening, changed_at, numbered, on_message, arrives, with_act, if_open, open_command, term_in, term_of, is_eligible_alias}
use Rattle.shard_calls.specs.Messages.{why_given_up, offer_to}
use Rattle.shard_calls.specs.Begins.{ends_by}
use Rattle.shard_calls.specs.Locks.{seen_of, takes_by, took_nothing, taken_reply, with_taken, by_term, reads, read_reply, read_act, topo_reply, with_intended, intends_in, with_recorded, records_in, may_record, with_drained, drains_in, as_released, releases_in}
use Rattle.shard_calls.specs.Deliveries.{if_declared, asked, fed, feed_verdict, after_arrival, after_delivery, gives_up, offers, may_send}
use Rattle.shard_calls.specs.Writes.{write_reply, may_write, writes_in, writes_at, write_verdict, with_written, written_reply, tell_of, tells}
use Rattle.shard_calls.specs.Table.{Met, answer, after, world_after, IsRunFrom}
use Rattle.shard_calls.specs.RunLaws.{OfEveryRun}
use Rattle.shard_calls.specs.Answered.{taken_by_reply, read_by_reply, intended_by_reply, recorded_by_reply, drained_by_reply, written_by_reply, told_by_reply, if_own, act_of, acts_of, ActsAreSteps}
use Rattle.shard_calls.proofs.ListLemmas.{numbered_changed, numbered_other}

-- ---- one command among them

abbrev pub acts_in : Option CommandState → List Act
acts_in None = []
acts_in (Some s) = s.acts

-- what the acts become
abbrev Grow : List CommandState → List CommandState → ℕ → Option Act → Type 0
Grow old new c act = acts_in (numbered new c) ≡ acts_in (numbered old c) ++ option_to_list act

same_acts : (old : List CommandState) (c : ℕ) → Grow old old c None
same_acts old c = sym (append-nil (acts_in (numbered old c)))

-- a command that is there does something, or the acts of none change
one_acts : (xs : List CommandState) (d c : ℕ) (f : CommandState → CommandState) (s : CommandState) (act : Option Act) → numbered xs d ≡ Some s
    → (f s).acts ≡ s.acts ++ option_to_list act → Grow xs (changed_at xs d f) c (if_own d c act)
one_acts xs d c f s act here does = of_test (d == c) refl
  where
    own : Grow xs (changed_at xs d f) d act
    own = ap (λ (o : Option CommandState). acts_in o) (numbered_changed xs d f ∙ ap (λ (o : Option CommandState). option_map f o) here) ∙ does
        ∙ ap (λ (o : Option CommandState). acts_in o ++ option_to_list act) (sym here)

    of_test : (b : Bool) → (d == c) ≡ b → Grow xs (changed_at xs d f) c (cond b act None)
    of_test true e = let same : d ≡ c = grind (arith, nat_tests) in subst (λ (n : ℕ). Grow xs (changed_at xs d f) n act) same own
    of_test false e =
        ap (λ (o : Option CommandState). acts_in o) (numbered_other xs d c f e) ∙ sym (append-nil (acts_in (numbered xs c)))

-- a change that leaves the acts
keep_acts : (xs : List CommandState) (d c : ℕ) (f : CommandState → CommandState) → ((s : CommandState) → (f s).acts ≡ s.acts) → Grow xs (changed_at xs d f) c None
keep_acts xs d c f keeps = of_test (d == c) refl
  where
    mapped : (o : Option CommandState) → acts_in (option_map f o) ≡ acts_in o
    mapped None = refl
    mapped (Some s) = keeps s

    of_test : (b : Bool) → (d == c) ≡ b → Grow xs (changed_at xs d f) c None
    of_test true e =
        let same : d ≡ c = grind (arith, nat_tests) in
        subst (λ (n : ℕ). Grow xs (changed_at xs d f) n None) same
        (ap (λ (o : Option CommandState). acts_in o) (numbered_changed xs d f) ∙ mapped (numbered xs d) ∙ sym (append-nil (acts_in (numbered xs d))))
    of_test false e =
        ap (λ (o : Option CommandState). acts_in o) (numbered_other xs d c f e) ∙ sym (append-nil (acts_in (numbered xs c)))

get_push : (xs : List CommandState) (x : CommandState) (n : ℕ) → x.acts ≡ [] → acts_in (slice_get (xs ++ x ∷ []) n) ≡ acts_in (slice_get xs n)
get_push [] x zero none = none
get_push [] x (suc n) none = refl
get_push (y ∷ xs) x zero none = refl
get_push (y ∷ xs) x (suc n) none = get_push xs x n none

push_acts : (xs : List CommandState) (x : CommandState) (c : ℕ) → x.acts ≡ [] → Grow xs (xs ++ x ∷ []) c None
push_acts xs x zero none = refl
push_acts xs x (suc n) none = get_push xs x n none ∙ sym (append-nil (acts_in (slice_get xs n)))

-- ---- a command that is open, or has a term

pub if_open_is : (o : Option CommandState) (s : CommandState) → if_open o ≡ Some s → o ≡ Some s
if_open_is None s h = absurd (let none : None ≡ Some s = h in cc)
if_open_is (Some x) s h = of_test x.ended h
  where
    of_test : (b : Bool) → only_if (not b) x ≡ Some s → Some x ≡ Some s
    of_test true k = absurd (let none : None ≡ Some s = k in cc)
    of_test false k = k

term_is : (o : Option CommandState) (t : ℕ) → term_in (if_open o) ≡ Some t → (s : CommandState) × (o ≡ Some s)
term_is None t h = absurd (let none : None ≡ Some t = h in cc)
term_is (Some x) t h = (x, refl)

-- ---- the rows

take_acts : (w : World) (d c : ℕ) (o : Option CommandState) → open_command w d ≡ o → took_nothing o ≡ true
    → Grow w.commands (takes_by w d o).commands c (if_own d c (taken_by_reply (taken_reply (answer_take w.topo))))
take_acts w d c None begun met = absurd (false≢true met)
take_acts w d c (Some s) begun met = one_acts w.commands d c (with_taken (answer_take w.topo)) s _ (if_open_is (numbered w.commands d) s begun) (does (answer_take w.topo))
  where
    does : (r : Result ℕ LockTaken) → (with_taken r s).acts ≡ s.acts ++ option_to_list (taken_by_reply (taken_reply r))
    does (Ok t) = refl
    does (Err held) = refl

read_shows : (topo : Topology) (t : ℕ) → read_by_reply (read_reply topo t) ≡ Some (read_act topo t)
read_shows topo t = of_test (is_held_in topo t)
  where
    of_test : (b : Bool)
        → read_by_reply (cond b (replies.Read (seen_of topo)) (replies.Lost topo.term))
        ≡ Some (cond b (acts.Read (Ok (seen_of topo))) (acts.Read (Err topo.term)))
    of_test true = refl
    of_test false = refl

read_acts : (w : World) (d c : ℕ) (o : Option ℕ) → term_of w d ≡ o → is_some o ≡ true
    → Grow w.commands (by_term o w (reads w d)).commands c (if_own d c (read_by_reply (by_term o replies.Ok (read_reply w.topo))))
read_acts w d c None term met = absurd (false≢true met)
read_acts w d c (Some t) term met =
    let s = term_is (numbered w.commands d) t term in
    one_acts w.commands d c (with_act (read_act w.topo t)) s.0 _ s.1 (ap (λ (act : Option Act). s.0.acts ++ option_to_list act) (sym (read_shows w.topo t)))

intend_acts : (w : World) (d c : ℕ) (a : Alias) (o : Option ℕ) → term_of w d ≡ o → is_some o ≡ true
    → Grow w.commands (by_term o w (intends_in w d a)).commands c (if_own d c (intended_by_reply a (by_term o replies.Ok (λ t. topo_reply (answer_intend w.topo t a)))))
intend_acts w d c a None term met = absurd (false≢true met)
intend_acts w d c a (Some t) term met =
    let s = term_is (numbered w.commands d) t term in
    one_acts w.commands d c (with_intended a (answer_intend w.topo t a)) s.0 _ s.1 (does s.0 (answer_intend w.topo t a))
  where
    does : (s : CommandState) (r : Result (Unit {0}) TopoFault) → (with_intended a r s).acts ≡ s.acts ++ option_to_list (intended_by_reply a (topo_reply r))
    does s (Ok u) = refl
    does s (Err (faults.LockLost current)) = refl
    does s (Err (faults.IntentStands b)) = sym (append-nil s.acts)

record_acts : (w : World) (d c : ℕ) (a : Alias) (o : Option ℕ) → term_of w d ≡ o → by_term o false (may_record w.topo a) ≡ true
    → Grow w.commands (by_term o w (records_in w d a)).commands c (if_own d c (recorded_by_reply a (by_term o replies.Ok (λ t. topo_reply (answer_record w.topo t)))))
record_acts w d c a None term met = absurd (false≢true met)
record_acts w d c a (Some t) term met =
    let s = term_is (numbered w.commands d) t term in
    one_acts w.commands d c (with_recorded a (answer_record w.topo t)) s.0 _ s.1 (does s.0 (answer_record w.topo t))
  where
    does : (s : CommandState) (r : Result (Unit {0}) TopoFault) → (with_recorded a r s).acts ≡ s.acts ++ option_to_list (recorded_by_reply a (topo_reply r))
    does s (Ok u) = refl
    does s (Err (faults.LockLost current)) = refl
    does s (Err (faults.IntentStands b)) = sym (append-nil s.acts)

drain_acts : (w : World) (d c : ℕ) (a : Alias) (o : Option ℕ) → term_of w d ≡ o → is_some o ≡ true
    → Grow w.commands (by_term o w (drains_in w d a)).commands c (if_own d c (drained_by_reply a (by_term o replies.Ok (λ t. topo_reply (answer_drain w.topo t)))))
drain_acts w d c a None term met = absurd (false≢true met)
drain_acts w d c a (Some t) term met =
    let s = term_is (numbered w.commands d) t term in
    one_acts w.commands d c (with_drained a (answer_drain w.topo t)) s.0 _ s.1 (does s.0 (answer_drain w.topo t))
  where
    does : (s : CommandState) (r : Result (Unit {0}) TopoFault) → (with_drained a r s).acts ≡ s.acts ++ option_to_list (drained_by_reply a (topo_reply r))
    does s (Ok u) = refl
    does s (Err (faults.LockLost current)) = refl
    does s (Err (faults.IntentStands b)) = sym (append-nil s.acts)

release_acts : (w : World) (d c : ℕ) (o : Option ℕ) → Grow w.commands (by_term o w (releases_in w d)).commands c None
release_acts w d c None = same_acts w.commands c
release_acts w d c (Some t) = keep_acts w.commands d c as_released (λ s. refl)

send_acts : (config : Config) (w : World) (d c : ℕ) (a : Alias) (call : Call) (act : Act) (o : Option CommandState) → open_command w d ≡ o
    → may_send config w d a call o ≡ true → Grow w.commands (changed_at w.commands d (with_act act)) c (if_own d c (Some act))
send_acts config w d c a call act None begun met = absurd (false≢true met)
send_acts config w d c a call act (Some s) begun met = one_acts w.commands d c (with_act act) s (Some act) (if_open_is (numbered w.commands d) s begun) refl

none_own : (d c : ℕ) → if_own d c None ≡ None
none_own d c = of_test (d == c)
  where
    of_test : (b : Bool) → cond {A = Option Act} b None None ≡ None
    of_test true = refl
    of_test false = refl

same_none : (old : List CommandState) (d c : ℕ) → Grow old old c (if_own d c None)
same_none old d c = subst (λ (act : Option Act). Grow old old c act) (sym (none_own d c)) (same_acts old c)

written_acts : (w : World) (d c : ℕ) (a : Alias) (s : CommandState) (o : Option Tablet) → open_command w d ≡ Some s
    → Grow w.commands (if_declared o w (writes_at w d a s)).commands c
    (if_own d c (written_by_reply a (if_declared o replies.Ok (λ me. written_reply (write_verdict w a s me).says))))
written_acts w d c a s None begun = same_none w.commands d c
written_acts w d c a s (Some me) begun =
    one_acts w.commands d c (with_written a (w.tablets a) (write_verdict w a s me).says) s _ (if_open_is (numbered w.commands d) s begun) (does (write_verdict w a s me).says)
  where
    does : (r : Written) → (with_written a (w.tablets a) r s).acts ≡ s.acts ++ option_to_list (written_by_reply a (written_reply r))
    does (writtens.Entry g) = refl
    does (writtens.NotPrimary at) = refl

write_acts : (config : Config) (w : World) (d c : ℕ) (a : Alias) (o : Option CommandState) → open_command w d ≡ o → may_write o ≡ true
    → Grow w.commands (writes_in config w d a o).commands c (if_own d c (written_by_reply a (write_reply config w a o)))
write_acts config w d c a None begun met = absurd (false≢true met)
write_acts config w d c a (Some s) begun met = written_acts w d c a s (tablet_of config.tablets a) begun

-- who is told of what it wrote has begun
teller : (o : Option CommandState) (f : CommandState → Option Reply) (r : Reply) → (o >>= f) ≡ Some r → (s : CommandState) × (o ≡ Some s)
teller None f r h = absurd (let none : None ≡ Some r = h in cc)
teller (Some s) f r h = (s, refl)

tell_acts : (w : World) (d c : ℕ) (r : Option Reply) → tell_of w d ≡ r → is_some r ≡ true
    → Grow w.commands (tells w d r).commands c (if_own d c (told_by_reply (unwrap_or r replies.Ok)))
tell_acts w d c None is met = absurd (false≢true met)
tell_acts w d c (Some replies.Told) is met =
    let s = teller (numbered w.commands d) _ replies.Told is in one_acts w.commands d c (with_act (acts.Told true)) s.0 (Some (acts.Told true)) s.1 refl
tell_acts w d c (Some (replies.Begun command)) is met = same_none w.commands d c
tell_acts w d c (Some (replies.Term term)) is met = same_none w.commands d c
tell_acts w d c (Some (replies.Taken term by)) is met = same_none w.commands d c
tell_acts w d c (Some (replies.Read seen)) is met = same_none w.commands d c
tell_acts w d c (Some (replies.Lost term)) is met = same_none w.commands d c
tell_acts w d c (Some (replies.Stands a)) is met = same_none w.commands d c
tell_acts w d c (Some (replies.Message k)) is met = same_none w.commands d c
tell_acts w d c (Some (replies.GaveUp why)) is met = same_none w.commands d c
tell_acts w d c (Some (replies.Wrote g)) is met = same_none w.commands d c
tell_acts w d c (Some (replies.NotPrimary at)) is met = same_none w.commands d c
tell_acts w d c (Some replies.Gone) is met =
    let s = teller (numbered w.commands d) _ replies.Gone is in one_acts w.commands d c (with_act (acts.Told false)) s.0 (Some (acts.Told false)) s.1 refl
tell_acts w d c (Some replies.Ok) is met = same_none w.commands d c

end_acts : (w : World) (d c : ℕ) (o : Option CommandState) → Grow w.commands (ends_by w d o).commands c None
end_acts w d c None = same_acts w.commands c
end_acts w d c (Some s) = keep_acts w.commands d c (λ x. record x { ended = true }) (λ x. refl)

-- ---- rows that leave the commands

same_list : (old new : List CommandState) (c : ℕ) → new ≡ old → Grow old new c None
same_list old new c same = subst (λ (xs : List CommandState). Grow old xs c None) (sym same) (same_acts old c)

pub list_declared : (v : World) (f : Tablet → World) (o : Option Tablet) → ((me : Tablet) → (f me).commands ≡ v.commands) → (if_declared o v f).commands ≡ v.commands
list_declared v f None h = refl
list_declared v f (Some me) h = h me

list_fed : (w : World) (from to : Alias) (term index : ℕ) (s : TabletState) (says : Accepted) → (fed w from to term index s says).commands ≡ w.commands
list_fed w from to term index s accepteds.Taken = refl
list_fed w from to term index s accepteds.Ignored = refl

list_arrival : (config : Config) (w : World) (k : ℕ) (content : Content) → (after_arrival config w k content).commands ≡ w.commands
list_arrival config w k (contents.Asks c u a call) = list_declared w (asked w k c u a call) (tablet_of config.tablets a) (λ me. refl)
list_arrival config w k (contents.Answers c call a says) = refl
list_arrival config w k (contents.Feeds from to term before index e) = list_fed w from to term index _ (feed_verdict w from to term before index e).says
list_arrival config w k (contents.Acks from to term index) = refl

pub list_delivery : (config : Config) (w : World) (k : ℕ) (o : Option Message) → (after_delivery config w k o).commands ≡ w.commands
list_delivery config w k None = refl
list_delivery config w k (Some m) = list_arrival config (on_message w k (arrives w.clock)) k m.content

pub list_up : (w : World) (k : ℕ) (o : Option Why) → (gives_up w k o).commands ≡ w.commands
list_up w k None = refl
list_up w k (Some why) = refl

pub list_offer : (w : World) (o : Option Content) → (offers w o).commands ≡ w.commands
list_offer w None = refl
list_offer w (Some content) = refl

-- ---- each step

grows : (config : Config) (w : World) (e : Event) (c : ℕ) → Met config w e → Grow w.commands (after config w e).commands c (act_of c e (answer config w e))
grows config w (events.Begin name command) c met = push_acts w.commands _ c refl
grows config w (events.Take d) c met = take_acts w d c (open_command w d) refl met
grows config w (events.Read d) c met = read_acts w d c (term_of w d) refl met
grows config w (events.Intend d a) c met = intend_acts w d c a (term_of w d) refl (both_left (is_some (term_of w d)) (is_eligible_alias config a) met)
grows config w (events.Record d a) c met =
    record_acts w d c a (term_of w d) refl (both_right (is_declared config.tablets a) (by_term (term_of w d) false (may_record w.topo a)) met)
grows config w (events.Drain d a) c met =
    drain_acts w d c a (term_of w d) refl (both_right (is_declared config.tablets a) (is_some (term_of w d)) met)
grows config w (events.Release d) c met = release_acts w d c (term_of w d)
grows config w events.Lapse c met = same_acts w.commands c
grows config w (events.Send d a call) c met =
    send_acts config w d c a call _ (open_command w d) refl (both_right (is_declared config.tablets a) (may_send config w d a call (open_command w d)) met)
grows config w (events.Deliver k) c met = same_list w.commands _ c (list_delivery config w k (numbered w.post k))
grows config w (events.GiveUp d k) c met = same_list w.commands _ c (list_up w k (why_given_up w d k))
grows config w (events.Offer r) c met = same_list w.commands _ c (list_offer w (offer_to w r))
grows config w (events.Write d a) c met =
    write_acts config w d c a (open_command w d) refl (both_right (is_declared config.tablets a) (may_write (open_command w d)) met)
grows config w (events.Tell d) c met = tell_acts w d c (tell_of w d) refl met
grows config w (events.Local a) c met = same_list w.commands _ c (list_declared w _ (tablet_of config.tablets a) (λ me. refl))
grows config w (events.Crash a keep) c met = same_acts w.commands c
grows config w (events.Restart a) c met = same_acts w.commands c
grows config w (events.Cut x y) c met = same_acts w.commands c
grows config w (events.Mend x y) c met = same_acts w.commands c
grows config w (events.Lose k) c met = same_acts w.commands c
grows config w (events.Tick ms) c met = same_acts w.commands c
grows config w (events.End d x) c met = end_acts w d c (open_command w d)

-- ---- each history

acts_push : (c : ℕ) (past : List Step) (s : Step) → acts_of c (past ++ s ∷ []) ≡ acts_of c past ++ option_to_list (act_of c s.event s.reply)
acts_push c [] s = of_option (act_of c s.event s.reply)
  where
    of_option : (o : Option Act) → cons_option o [] ≡ option_to_list o
    of_option None = refl
    of_option (Some act) = refl
acts_push c (x ∷ past) s = of_option (act_of c x.event x.reply) (acts_push c past s)
  where
    of_option : (o : Option Act) → acts_of c (past ++ s ∷ []) ≡ acts_of c past ++ option_to_list (act_of c s.event s.reply)
        → cons_option o (acts_of c (past ++ s ∷ [])) ≡ cons_option o (acts_of c past) ++ option_to_list (act_of c s.event s.reply)
    of_option None rest = rest
    of_option (Some act) rest = ap (λ (l : List Act). act ∷ l) rest

acts_along : (config : Config) (w : World) (past ss : List Step) (c : ℕ) → IsRunFrom config w ss → acts_in (numbered w.commands c) ≡ acts_of c past
    → acts_in (numbered (world_after config w ss).commands c) ≡ acts_of c (past ++ ss)
acts_along config w past [] c run h = h ∙ ap (λ (l : List Step). acts_of c l) (sym (append-nil past))
acts_along config w past (s ∷ ss) c run h =
    let reply : act_of c s.event s.reply ≡ act_of c s.event (answer config w s.event) = ap (λ (r : Reply). act_of c s.event r) run.0.answered in
    let here : acts_in (numbered (after config w s.event).commands c) ≡ acts_of c (past ++ s ∷ []) =
    grows config w s.event c run.0.met
    ∙ ap (λ (l : List Act). l ++ option_to_list (act_of c s.event (answer config w s.event))) h
    ∙ ap (λ (o : Option Act). acts_of c past ++ option_to_list o) (sym reply)
    ∙ sym (acts_push c past s) in
    acts_along config (after config w s.event) (past ++ s ∷ []) ss c run.1 here ∙ ap (λ (l : List Step). acts_of c l) (append_assoc past (s ∷ []) ss)

none_begun : (c : ℕ) → acts_in (numbered [] c) ≡ []
none_begun zero = refl
none_begun (suc n) = refl

pub acts_are_steps : OfEveryRun ActsAreSteps
acts_are_steps config steps run c s here =
    ap (λ (o : Option CommandState). acts_in o) (sym here) ∙ acts_along config (opening config) [] steps c run (none_begun c)

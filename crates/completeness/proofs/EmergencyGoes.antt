-- The course of an EmergencyReparentShard that nothing hinders, point by point: nothing of it is refused (Vitess manual).
use Rattle.std.proofs.Common.{◌≡◌, ◌⊎◌, inl, inr, refl, ap, sym, subst, ◌∙◌, append_assoc, arith, ℕ, Bool, true, false, cond, List, [], ◌++◌, Option, Some, None, Result, Ok, Err}
use Rattle.std.specs.Prelude.{⊤}
use Rattle.std.specs.List.{slice_get}
use Rattle.shard_names.specs.declared.alias.Alias.{Alias}
use Rattle.shard_names.specs.declared.tablet.Tablet.{Tablet}
use Rattle.gtid_sets.specs.declared.held.Held.{Held}
use Rattle.gtid_sets.specs.Logs as logs
use Rattle.gtid_sets.specs.Position.{Position, covers}
use Rattle.gtid_sets.specs.Winner.{first_apart, leading, winner}
use Rattle.topo_lock.specs.declared.lock.LockTaken.{LockTaken}
use Rattle.shard_calls.specs.declared.answer.Answer.{Answer}
use Rattle.shard_calls.specs.declared.answer.Answer.TheVariants as says
use Rattle.shard_calls.specs.declared.call.Call.{Call}
use Rattle.shard_calls.specs.declared.call.Call.TheVariants as calls
use Rattle.shard_calls.specs.declared.command.EmergencyOptions.{EmergencyOptions}
use Rattle.shard_calls.specs.declared.ending.CommandAnswer.{CommandAnswer}
use Rattle.shard_calls.specs.declared.event.Event.TheVariants as events
use Rattle.shard_calls.specs.declared.event.Reply.TheVariants as replies
use Rattle.shard_calls.specs.declared.event.Seen.{Seen}
use Rattle.shard_calls.specs.declared.event.Step.{Step}
use Rattle.shard_calls.specs.declared.group.Group.{Group}
use Rattle.shard_calls.specs.declared.refusal.Refusal.{Refusal}
use Rattle.shard_calls.specs.declared.refusal.Refusal.TheVariants as refusals
use Rattle.shard_calls.specs.declared.span.Asked.{Asked}
use Rattle.shard_calls.specs.declared.span.Deed.{Deed}
use Rattle.shard_calls.specs.declared.span.Deed.TheVariants as deeds
use Rattle.shard_calls.specs.declared.span.Kind.TheVariants as kinds
use Rattle.shard_calls.specs.declared.span.Outcome.TheVariants as outcomes
use Rattle.shard_calls.specs.declared.state.CommandState.{CommandState}
use Rattle.shard_calls.specs.declared.why.Why.{Why}
use Rattle.shard_calls.specs.Refusals.{refusal_by_seen, refusal_of_emergency, refusal_to}
use Rattle.shard_calls.specs.Rescuing.{first_by, first_unrevoked, heeded, helds, position_of, reached_by, reasons_to_rescue, refusal_by_unrevoked, refusal_of_split, refusal_of_unrevoked, rescuer, stale_in, winner_or}
use Rattle.shard_calls.specs.Table.{IsRun}
use Rattle.shard_calls.specs.Tablets.{answer_to}
use Rattle.shard_calls.specs.World.{Config, World, group_of, numbered}
use Rattle.shard_calls.specs.Promotions.{world_at}
use Rattle.courses.specs.declared.want.Want.TheVariants as wants
use Rattle.courses.specs.Emergency.{emergency_course, has_all, is_fed, others_of, rescues, rescues_by, stops_all, takes_over}
use Rattle.courses.specs.Promoting.{reparents}
use Rattle.courses.specs.Sound.{AreCalled, IsIn, IsPart, IsRead, are_calls}
use Rattle.courses.specs.SoundLemmas.{calls_sound}
use Rattle.courses.specs.Walks.{Course, Walked, calls_all, gives, needs, reads, takes_lock, unless, unless_refused, ◌>>=◌, ◌>>◌}
use Rattle.planned.specs.Course.{timed}
use Rattle.completeness.specs.Emergency.{Feeds, HasSent, HasStopped, IsConcerned, IsFed, IsPromoted, NothingHinders}
use Rattle.completeness.specs.Planned.{CanJoin, ComesTo, Completes, HasRead}
use Rattle.completeness.proofs.AnswerLemmas.{feeds_unrefused}
use Rattle.completeness.proofs.GoingCalls.{SettledIn, calls_goes}
use Rattle.completeness.proofs.GoingLemmas.{Doing, Versions, Was, Going, Goes, IsFirst, Only, Same, Stays, bind_along, bind_goes, narrower_goes, none_earlier, append_none, pure_goes, weaker_goes}
use Rattle.completeness.proofs.GoingPoints.{Answers, AnsweredIn, IsGranted, WasAnswered, needs_goes, was_answered_stays}
use Rattle.completeness.proofs.LaterLemmas.{Later, first_same, helds_same}
use Rattle.completeness.proofs.MadeCalls.{Keeper, KeptCall, Made, granted, in_span, made_call, never_stale, span_is, span_to}
use Rattle.completeness.proofs.PastLemmas.{before, holder_has}
use Rattle.completeness.proofs.PromotingGoes.{Anyhow, HasAll, PromotesFreely, reparents_goes}
use Rattle.completeness.proofs.ReadLemmas.{has_read}
use Rattle.completeness.proofs.ReparentPoints.{CaughtUp, follows_goes, follows_on, joins_granted, reads_goes, takes_goes, unless_goes, waits_granted}
use Rattle.completeness.proofs.RescueLemmas.{are_earlier, no_stop_stale, one_takes_over, stopped_has, took_over}
use Rattle.completeness.proofs.RowLemmas.{row_came}
use Rattle.completeness.proofs.StaysPrimary.{stays_primary}

-- ---- where nothing hinders it

-- the command, and its state when it frees the lock
pub record Unhindered (config : Config) (ss : List Step) (c j : ℕ) (o : EmergencyOptions) : Type 0 where
  pub run : IsRun config ss
  pub free : NothingHinders config ss c j o
  pub state : CommandState
  pub here : numbered (world_at config ss free.freed).commands c ≡ Some state

abbrev pub keeper_of : (config : Config) (ss : List Step) (c j : ℕ) (o : EmergencyOptions) → (u : Unhindered config ss c j o) → Keeper config ss c u.free.freed
keeper_of config ss c j o u = record { run = u.run; state = u.state; here = u.here; term = u.free.term; taken = u.free.taken; kept = u.free.kept }

-- what it did, and as what
abbrev pub Doings : (config : Config) (ss : List Step) (c j : ℕ) (o : EmergencyOptions) → Unhindered config ss c j o → Doing
Doings config ss c j o u = Made config ss c u.free.freed (keeper_of config ss c j o u)

abbrev pub span_by : (config : Config) (ss : List Step) (c j : ℕ) (o : EmergencyOptions) → Unhindered config ss c j o → List Deed
span_by config ss c j o u = span_to config ss c u.free.freed (keeper_of config ss c j o u)

-- it goes well along what it did
abbrev pub GoesWell : {A : Type 0} (config : Config) (ss : List Step) (c j : ℕ) (o : EmergencyOptions) → Unhindered config ss c j o → (A → Type 0) → (A → A → List Deed → Type 0)
    → Versions A → Course A → Type 0
GoesWell config ss c j o u Q After M n = Goes (Doings config ss c j o u) (span_by config ss c j o u) Q After M n

-- a call that it made is settled by an answer, if its tablet is to feed, to be fed or to be promoted
answers_come : (config : Config) (ss : List Step) (c j : ℕ) (o : EmergencyOptions) → (u : Unhindered config ss c j o) → (x : Asked) (why : Why)
    → IsIn (span_by config ss c j o u) (deeds.Asked x) → IsConcerned ss c x.alias → x.outcome ≡ Some (outcomes.GivenUp why) → ⊥
answers_come config ss c j o u x why is concerned came =
    u.free.settled x why (in_span config ss c u.free.freed (keeper_of config ss c j o u) (deeds.Asked x) is) concerned came

promotes_freely : (config : Config) (ss : List Step) (c j : ℕ) (o : EmergencyOptions) → (u : Unhindered config ss c j o)
    → PromotesFreely config ss c u.free.freed (keeper_of config ss c j o u)
promotes_freely config ss c j o u = record {
  settled = λ x why is sent came. answers_come config ss c j o u x why is (IsPromoted sent.1.1.0 (sent.0, (sent.1.0, sent.1.1.1))) came;
  leads = λ a k me call sent intended comes me_is later earlier.
      stays_primary config ss c u.free.term u.free.taken u.free.freed a u.run u.free.kept
      (λ i keep s after within row at is.
      let came = row_came config ss c u.free.term u.free.taken u.free.freed i a u.run u.free.kept intended (omega (arith, within)) row in
      u.free.up i came.place keep s came.me (calls.Promote came.position) came.comes came.earlier within at
      (subst (λ (b : Alias). IsConcerned ss c b) (sym came.alias) (IsPromoted sent.1.1.0 (sent.0, (sent.1.0, sent.1.1.1))))
      (is ∙ ap (λ (b : Alias). events.Crash b keep) (sym came.alias)))
      intended k (omega (arith, later)) (omega (arith, earlier));
  in_time = u.free.in_time_told;
}

-- what was read of the topology was read with a step
read_with : (config : Config) (ss : List Step) (c j : ℕ) (o : EmergencyOptions) → (u : Unhindered config ss c j o) → (seen : Seen) → IsRead (span_by config ss c j o u) seen
    → HasRead ss c seen
read_with config ss c j o u seen is =
    has_read config ss c u.free.freed seen u.run (in_span config ss c u.free.freed (keeper_of config ss c j o u) (deeds.Read (Ok seen)) is)

-- the tablets that it stopped
abbrev StoppedBy : (config : Config) (ss : List Step) (c j : ℕ) (o : EmergencyOptions) → Unhindered config ss c j o → List Deed → Type 0
StoppedBy config ss c j o u done = AreCalled (span_by config ss c j o u) (heeded (group_of config) o.ignored) kinds.Stop done

stopped_with : (config : Config) (ss : List Step) (c j : ℕ) (o : EmergencyOptions) → (u : Unhindered config ss c j o) → (done : List Deed)
    → StoppedBy config ss c j o u done → HasStopped config ss u.free.freed c o done
stopped_with config ss c j o u done called =
    subst (λ (l : List Deed). AreCalled l (heeded (group_of config) o.ignored) kinds.Stop done) (sym (span_is config ss c u.free.freed (keeper_of config ss c j o u))) called

-- ---- the Stops

abbrev checks : Group → List Alias → List Deed → Course (List Deed)
checks g ignored done = unless (first_by stale_in done) >> unless (refusal_of_unrevoked g ignored done) >> gives done

checks_are : (g : Group) (ignored : List Alias) (done : List Deed) → first_by stale_in done ≡ None → refusal_of_unrevoked g ignored done ≡ None → checks g ignored done ≡ gives done
checks_are g ignored done stale unrevoked =
    ap (λ (q : Option Refusal). unless q >> unless (refusal_of_unrevoked g ignored done) >> gives done) stale
    ∙ ap (λ (q : Option Refusal). unless q >> gives done) unrevoked

-- what the Stops had come to by then
abbrev Checks : Group → List Alias → List Deed → Versions (List Deed)
Checks g ignored done m past = (then : List Deed) × ((m ≡ checks g ignored then) × SettledIn (λ b. ⊤) done then past)

unrevoked_none : (g : Group) (ignored : List Alias) (ds : List Deed) → first_unrevoked g (reached_by (helds ds)) ≡ None → refusal_of_unrevoked g ignored ds ≡ None
unrevoked_none g ignored ds none = ap (λ (t : Option Tablet). refusal_by_unrevoked g ignored ds t) none

checks_goes : (config : Config) (ss : List Step) (c j : ℕ) (o : EmergencyOptions) → (u : Unhindered config ss c j o) → (done : List Deed) → StoppedBy config ss c j o u done
    → GoesWell config ss c j o u (StoppedBy config ss c j o u) (SettledIn (λ b. ⊤)) (Checks (group_of config) o.ignored done) (checks (group_of config) o.ignored done)
checks_goes config ss c j o u done called rest end heeded_so =
    subst (λ (n : Course (List Deed)). Going (StoppedBy config ss c j o u) (SettledIn (λ b. ⊤)) (Checks g o.ignored done) (n rest).came rest (n rest).rest)
    (sym (checks_are g o.ignored done stale (unrevoked_none g o.ignored done unrevoked)))
    (record { used = []; split = refl; is = called; was = λ m b e more version later. was m b e more version later })
  where
    g : Group
    g = group_of config

    stale : first_by stale_in done ≡ None
    stale = no_stop_stale config ss c u.free.freed (keeper_of config ss c j o u) (heeded (group_of config) o.ignored) done called

    unrevoked : first_unrevoked (group_of config) (reached_by (helds done)) ≡ None
    unrevoked = u.free.revokes done (stopped_with config ss c j o u done called)

    was : (m : Course (List Deed)) (b e more : List Deed) → Checks (group_of config) o.ignored done m b → Later e []
        → Was (SettledIn (λ b. ⊤) done) (m (e ++ more)).came (m (e ++ more)).rest (b ++ e) more
    was m b e more version later =
        let then : List Deed = version.0 in
        let settled = version.1.1 in
        let nothing = none_earlier e later in
        let still : checks (group_of config) o.ignored then ≡ gives then =
        checks_are (group_of config) o.ignored then (sym (first_same then done settled.1 settled.2) ∙ stale)
        (unrevoked_none (group_of config) o.ignored then
        (ap (λ (hs : List Held). first_unrevoked (group_of config) (reached_by hs)) (sym (helds_same then done settled.1 settled.2)) ∙ unrevoked)) in
        let there : gives then more ≡ m (e ++ more) =
        sym (ap (λ (n : Course (List Deed)). n (e ++ more)) (version.1.0 ∙ still) ∙ ap (λ (l : List Deed). gives then (l ++ more)) nothing) in
        subst (λ (w : Walked (List Deed)). Was (SettledIn (λ b. ⊤) done) w.came w.rest (b ++ e) more) there
        (refl, subst (λ (l : List Deed). SettledIn (λ b. ⊤) done then l) (sym (ap (λ (l : List Deed). b ++ l) nothing ∙ append_none b)) settled)

stops_goes : (config : Config) (ss : List Step) (c j : ℕ) (o : EmergencyOptions) → (u : Unhindered config ss c j o)
    → GoesWell config ss c j o u (StoppedBy config ss c j o u) (SettledIn (λ b. ⊤)) (Only (λ b. ⊤) (stops_all (group_of config) o.ignored)) (stops_all (group_of config) o.ignored)
unfolding stops_all
stops_goes config ss c j o u rest end =
    bind_along (Doings config ss c j o u) (span_by config ss c j o u) (StoppedBy config ss c j o u) (SettledIn (λ b. ⊤)) (Only (λ b. ⊤) stops)
    (StoppedBy config ss c j o u) (SettledIn (λ b. ⊤)) (Checks g o.ignored) (Only (λ b. ⊤) (stops >>= checks g o.ignored)) stops (checks g o.ignored) rest
    (calls_goes (Doings config ss c j o u) (span_by config ss c j o u) (λ b. ⊤) g (heeded g o.ignored) calls.Stop (λ b e fact. tt)
    (calls_sound g (span_by config ss c j o u) (λ r. ⊤) (heeded g o.ignored) calls.Stop (λ b. tt)) rest end)
    (λ done called. checks_goes config ss c j o u done called)
    (λ m b version. record {
      first = stops;
      next = checks g o.ignored;
      version = (refl, tt);
      is = version.0;
      goes = λ x y past after. (y, (refl, after));
    }) end
  where
    g : Group
    g = group_of config

    stops : Course (List Deed)
    stops = calls_all (heeded (group_of config) o.ignored) calls.Stop

-- ---- the one that takes over is fed

-- a call that was made as this was sent as this, if it does not wait
sent_as : (config : Config) (ss : List Step) (c j : ℕ) (o : EmergencyOptions) → (u : Unhindered config ss c j o) → (x : Asked) (a : Alias) (call : Call) (past : List Deed)
    → (made : Doings config ss c j o u (wants.Ask a call) (deeds.Asked x) past) → timed (world_at config ss made.place).clock call ≡ call → HasSent ss c x.alias call
sent_as config ss c j o u x a call past made same =
    let is = made_call config ss c u.free.freed u.state x a call past u.run made in (
      is.is_call.place,
      (
        x.message,
        subst (λ (f : Call). slice_get ss is.is_call.place ≡ Some (record { event = events.Send c x.alias f; reply = replies.Message x.message })) (is.call_is ∙ same) is.is_call.sent,
      ),
    )

feed_granted : (config : Config) (ss : List Step) (c j : ℕ) (o : EmergencyOptions) → (u : Unhindered config ss c j o) → (F : List Deed → Type 0) (w : Alias)
    → IsGranted (Doings config ss c j o u) F w calls.Feed
feed_granted config ss c j o u F w =
    granted config ss c u.free.freed (keeper_of config ss c j o u) F w calls.Feed refl
    (λ x why past made fact came. answers_come config ss c j o u x why made.stands (Feeds (sent_as config ss c j o u x w calls.Feed past made refl)) came)
    (λ x said past made fact kept. unrefused x said past made kept)
  where
    unrefused : (x : Asked) (said : Answer) (past : List Deed) → (made : Doings config ss c j o u (wants.Ask w calls.Feed) (deeds.Asked x) past)
        → KeptCall config ss c u.free.freed (keeper_of config ss c j o u) x w calls.Feed made.place said → refusal_to x said ≡ None
    unrefused x said past made kept =
        let call = kept.is_kept in
        let at : World = world_at config ss call.answered.place in
        let me = call.answered.me in
        let answers : answer_to at.group me u.free.term calls.Feed (at.tablets me.alias) ≡ said =
        ap (λ (f : Call). answer_to at.group me u.free.term f (at.tablets me.alias)) (sym kept.call_is) ∙ call.says in
        subst (λ (y : Answer). refusal_to x y ≡ None) answers
        (feeds_unrefused x at.group me u.free.term (at.tablets me.alias) kept.kind
        (λ v stale. never_stale config ss c u.free.freed (keeper_of config ss c j o u) x w calls.Feed made.place said v kept (sym answers ∙ stale)))

fed_goes : (config : Config) (ss : List Step) (c j : ℕ) (o : EmergencyOptions) → (u : Unhindered config ss c j o) → (F : List Deed → Type 0) (t : ℕ) (done : List Deed)
    (w : Held) (a : Alias) → Stays F → t ≡ u.free.term → StoppedBy config ss c j o u done → winner (helds done) ≡ Some w
    → GoesWell config ss c j o u (λ (x : Unit {0}). ⊤) (Same (λ x b. CaughtUp (Doings config ss c j o u) F a w.position o.timeout b)) (Only F (is_fed o.timeout t w a))
    (is_fed o.timeout t w a)
unfolding is_fed
fed_goes config ss c j o u F t done w a stays term called wins =
    bind_goes made span F Sourced (AnsweredIn made F a source) (λ x. ⊤) (Same (λ x b. CaughtUp made F a w.position o.timeout b)) (needs w.alias calls.Feed >> needs a source)
    (follows_on o.timeout a w.position)
    (bind_goes made span F (Answers made w.alias calls.Feed) (AnsweredIn made F w.alias calls.Feed) Sourced (Same (AnsweredIn made F a source)) (needs w.alias calls.Feed) (λ x. needs a source)
    (needs_goes made span F w.alias calls.Feed stays (feed_granted config ss c j o u F w.alias))
    (λ x fed. weaker_goes made span (Answers made a source) Sourced (AnsweredIn made (AnsweredIn made F w.alias calls.Feed x) a source) (AnsweredIn made F a source)
    (Only (AnsweredIn made F w.alias calls.Feed x) (needs a source)) (needs a source) (λ y said. (said, feed_sent x fed)) (λ y b said fact. (fact.0.0, fact.1))
    (needs_goes made span (AnsweredIn made F w.alias calls.Feed x) a source
    (λ b e fact. (stays b e fact.0, was_answered_stays made w.alias calls.Feed x b e fact.1)) (source_granted (AnsweredIn made F w.alias calls.Feed x) (feed_sent x fed)))))
    (λ x said. follows_goes made span F (AnsweredIn made F a source x) a w.position o.timeout x stays (λ b fact. fact.0) (wait_granted x said))
  where
    made : Doing
    made = Doings config ss c j o u

    span : List Deed
    span = span_by config ss c j o u

    source : Call
    source = calls.SetSource w.alias t w.position

    Sourced : Answer → Type 0
    Sourced x = Answers (Doings config ss c j o u) a (calls.SetSource w.alias t w.position) x × HasSent ss c w.alias calls.Feed

    feed_sent : (x : Answer) → Answers (Doings config ss c j o u) w.alias calls.Feed x → HasSent ss c w.alias calls.Feed
    feed_sent x fed =
        subst (λ (b : Alias). HasSent ss c b calls.Feed) (made_call config ss c u.free.freed u.state fed.0 w.alias calls.Feed fed.1.past u.run fed.1.made).alias
        (sent_as config ss c j o u fed.0 w.alias calls.Feed fed.1.past fed.1.made refl)

    source_granted : (G : List Deed → Type 0) → HasSent ss c w.alias calls.Feed → IsGranted (Doings config ss c j o u) G a (calls.SetSource w.alias t w.position)
    source_granted G feeds =
        joins_granted config ss c u.free.freed (keeper_of config ss c j o u) G a w.alias t w.position
        (λ x why past asked came. answers_come config ss c j o u x why asked.stands
        (IsFed w.alias t w.position feeds (sent_as config ss c j o u x a (calls.SetSource w.alias t w.position) past asked refl)) came)
        (λ k me comes. subst (λ (n : ℕ). CanJoin (world_at config ss k) me.alias w.alias n w.position) (sym term)
        (u.free.joins done w k me (stopped_with config ss c j o u done called) wins
        (subst (λ (n : ℕ). ComesTo config ss c u.free.term k me (calls.SetSource w.alias n w.position)) term comes)))

    wait_granted : (x : Answer) → Answers (Doings config ss c j o u) a (calls.SetSource w.alias t w.position) x × HasSent ss c w.alias calls.Feed
        → IsGranted (Doings config ss c j o u) F a (calls.WaitFor w.position o.timeout)
    wait_granted x said =
        waits_granted config ss c u.free.freed (keeper_of config ss c j o u) F a w.position o.timeout
        (λ y why past asked came. answers_come config ss c j o u y why asked.stands
        (subst (λ (b : Alias). IsConcerned ss c b)
        ((made_call config ss c u.free.freed u.state said.0.0 a (calls.SetSource w.alias t w.position) said.0.1.past u.run said.0.1.made).alias
        ∙ sym (made_call config ss c u.free.freed u.state y a (calls.WaitFor w.position o.timeout) past u.run asked).alias)
        (IsFed w.alias t w.position said.1 (sent_as config ss c j o u said.0.0 a (calls.SetSource w.alias t w.position) said.0.1.past said.0.1.made refl))) came)
        (λ k until me comes. u.free.in_time_for k until me w.position comes)

-- ---- it takes over

-- by then the Stops had come to what they have come to
abbrev StoppedIn : Group → List Alias → List Deed → List Deed → Type 0
StoppedIn g ignored done past = (then : List Deed) × (IsPart past then × (helds then ≡ helds done) × (are_calls (heeded g ignored) kinds.Stop then ≡ true))

stopped_stays : (g : Group) (ignored : List Alias) (done : List Deed) → Stays (StoppedIn g ignored done)
stopped_stays g ignored done b e fact =
    let part = fact.1.0 in (
      fact.0,
      (record { before = part.before; after = part.after ++ e; split = longer b e fact.0 part.before part.after part.split }, fact.1.1, fact.1.2),
    )
  where
    longer : (b e then before after : List Deed) → b ≡ before ++ (then ++ after) → b ++ e ≡ before ++ (then ++ (after ++ e))
    longer b e then before after split =
        ap (λ (l : List Deed). l ++ e) split ∙ append_assoc before (then ++ after) e ∙ ap (λ (l : List Deed). before ++ l) (append_assoc then after e)

-- and the tablet had the position when it stopped, or said later that it holds it
abbrev HasIt : Doing → Group → List Alias → List Deed → Alias → Position → ℕ → List Deed → Type 0
HasIt made g ignored done a p timeout past =
    StoppedIn g ignored done past × ((covers (position_of (helds done) a) p ≡ true) ⊎ WasAnswered made a (calls.WaitFor p timeout) says.Holds past)

it_stays : (made : Doing) (g : Group) (ignored : List Alias) (done : List Deed) (a : Alias) (p : Position) (timeout : ℕ) → Stays (HasIt made g ignored done a p timeout)
it_stays made g ignored done a p timeout b e fact = (stopped_stays g ignored done b e fact.0, of_cases fact.1)
  where
    of_cases : (covers (position_of (helds done) a) p ≡ true) ⊎ WasAnswered made a (calls.WaitFor p timeout) says.Holds b
        → (covers (position_of (helds done) a) p ≡ true) ⊎ WasAnswered made a (calls.WaitFor p timeout) says.Holds (b ++ e)
    of_cases (inl covered) = inl covered
    of_cases (inr held) = inr (was_answered_stays made a (calls.WaitFor p timeout) says.Holds b e held)

has_all_goes : (config : Config) (ss : List Step) (c j : ℕ) (o : EmergencyOptions) → (u : Unhindered config ss c j o) → (t : ℕ) (done : List Deed)
    (w : Held) (a : Alias) → t ≡ u.free.term → StoppedBy config ss c j o u done → winner (helds done) ≡ Some w
    → GoesWell config ss c j o u (λ (x : Unit {0}). ⊤) (Same (λ x b. HasIt (Doings config ss c j o u) (group_of config) o.ignored done a w.position o.timeout b))
    (Only (StoppedIn (group_of config) o.ignored done) (has_all o.timeout t w a (position_of (helds done) a))) (has_all o.timeout t w a (position_of (helds done) a))
unfolding has_all
has_all_goes config ss c j o u t done w a term called wins = of_test (covers (position_of (helds done) a) w.position) refl
  where
    of_test : (b : Bool) → covers (position_of (helds done) a) w.position ≡ b
        → GoesWell config ss c j o u (λ (x : Unit {0}). ⊤) (Same (λ x b. HasIt (Doings config ss c j o u) (group_of config) o.ignored done a w.position o.timeout b))
        (Only (StoppedIn (group_of config) o.ignored done) (cond b (gives tt) (is_fed o.timeout t w a))) (cond b (gives tt) (is_fed o.timeout t w a))
    of_test true covered =
        weaker_goes (Doings config ss c j o u) (span_by config ss c j o u) (λ (x : Unit {0}). ⊤) (λ x. ⊤) (λ x b. StoppedIn (group_of config) o.ignored done b)
        (λ x b. HasIt (Doings config ss c j o u) (group_of config) o.ignored done a w.position o.timeout b) (Only (StoppedIn (group_of config) o.ignored done) (gives tt)) (gives tt)
        (λ x any. tt) (λ x b any fact. (fact, inl covered))
        (pure_goes (Doings config ss c j o u) (span_by config ss c j o u) (StoppedIn (group_of config) o.ignored done) (λ x. ⊤) (Ok tt) tt (λ x is. tt))
    of_test false short =
        weaker_goes (Doings config ss c j o u) (span_by config ss c j o u) (λ (x : Unit {0}). ⊤) (λ x. ⊤)
        (λ x b. CaughtUp (Doings config ss c j o u) (StoppedIn (group_of config) o.ignored done) a w.position o.timeout b)
        (λ x b. HasIt (Doings config ss c j o u) (group_of config) o.ignored done a w.position o.timeout b)
        (Only (StoppedIn (group_of config) o.ignored done) (is_fed o.timeout t w a)) (is_fed o.timeout t w a) (λ x any. tt) (λ x b any fact. (fact.0, inr fact.1))
        (fed_goes config ss c j o u (StoppedIn (group_of config) o.ignored done) t done w a (stopped_stays (group_of config) o.ignored done) term called wins)

takes_over_goes : (config : Config) (ss : List Step) (c j : ℕ) (o : EmergencyOptions) → (u : Unhindered config ss c j o) → (t : ℕ) (done : List Deed)
    (w : Held) (a : Alias) → t ≡ u.free.term → StoppedBy config ss c j o u done → winner (helds done) ≡ Some w
    → GoesWell config ss c j o u Completes Anyhow (Only (StoppedIn (group_of config) o.ignored done) (takes_over o.timeout t done w a)) (takes_over o.timeout t done w a)
unfolding takes_over
takes_over_goes config ss c j o u t done w a term called wins =
    bind_goes (Doings config ss c j o u) (span_by config ss c j o u) (StoppedIn g o.ignored done) (λ (x : Unit {0}). ⊤) (λ x b. HasIt (Doings config ss c j o u) g o.ignored done a w.position o.timeout b)
    Completes Anyhow (has_all o.timeout t w a (position_of (helds done) a)) (λ x. reparents o.timeout (others_of a (helds done)) t a w.position)
    (has_all_goes config ss c j o u t done w a term called wins)
    (λ x any. reparents_goes config ss c u.free.freed (keeper_of config ss c j o u) (promotes_freely config ss c j o u)
    (HasIt (Doings config ss c j o u) g o.ignored done a w.position o.timeout) g a w.position o.timeout t (others_of a (helds done))
    (it_stays (Doings config ss c j o u) g o.ignored done a w.position o.timeout) has)
  where
    g : Group
    g = group_of config

    has : HasAll config ss c u.free.freed (HasIt (Doings config ss c j o u) (group_of config) o.ignored done a w.position o.timeout) a w.position
    has past k m fact span less le = of_cases fact.1
      where
        of_cases : (covers (position_of (helds done) a) w.position ≡ true) ⊎ WasAnswered (Doings config ss c j o u) a (calls.WaitFor w.position o.timeout) says.Holds past
            → covers (logs.position_of ((world_at config ss m).tablets a).log) w.position ≡ true
        of_cases (inl covered) =
            stopped_has config ss c k m (heeded (group_of config) o.ignored) fact.0.0 a w.position u.run le fact.0.1.2
            (subst (λ (l : List Deed). IsPart l fact.0.0) (sym span) fact.0.1.0) (ap (λ (hs : List Held). covers (position_of hs a) w.position) fact.0.1.1 ∙ covered)
        of_cases (inr held) =
            holder_has config ss c u.free.term k m o.timeout a w.position u.run le
            (before config ss c u.free.freed k (keeper_of config ss c j o u) a (calls.WaitFor w.position o.timeout) says.Holds past less refl span held)

-- ---- who takes over

rescues_are : (g : Group) (o : EmergencyOptions) (t : ℕ) (seen : Seen) (ds : List Deed) (w : Held) (a : Alias) → winner (helds ds) ≡ Some w
    → rescuer g o seen ds w o.new_primary ≡ Ok a → rescues_by g o t seen ds ≡ takes_over o.timeout t ds w a
unfolding rescues_by
rescues_are g o t seen ds w a wins takes =
    ap (λ (r : Result Held Refusal). unless_refused r >>= λ v. unless_refused (rescuer g o seen ds v o.new_primary) >>= λ b. takes_over o.timeout t ds v b)
    (ap (λ (h : Option Held). winner_or h (refusal_of_split (first_apart (leading (helds ds)))) (refusals.NoCandidate (reasons_to_rescue g o seen ds))) wins)
    ∙ ap (λ (r : Result Alias Refusal). unless_refused r >>= λ b. takes_over o.timeout t ds w b) takes

same_rescue : (timeout t : ℕ) (then done : List Deed) (w : Held) (a : Alias) → helds then ≡ helds done → takes_over timeout t then w a ≡ takes_over timeout t done w a
unfolding takes_over
same_rescue timeout t then done w a same =
    ap (λ (hs : List Held). has_all timeout t w a (position_of hs a) >> reparents timeout (others_of a hs) t a w.position) same

abbrev Rescues : Group → EmergencyOptions → ℕ → Seen → List Deed → Versions CommandAnswer
Rescues g o t seen done m past = (then : List Deed) × ((m ≡ rescues_by g o t seen then) × SettledIn (λ b. ⊤) done then past)

rescues_by_goes : (config : Config) (ss : List Step) (c j : ℕ) (o : EmergencyOptions) → (u : Unhindered config ss c j o) → (t : ℕ) (seen : Seen) (done : List Deed)
    → t ≡ u.free.term → IsRead (span_by config ss c j o u) seen → StoppedBy config ss c j o u done
    → GoesWell config ss c j o u Completes Anyhow (Rescues (group_of config) o t seen done) (rescues_by (group_of config) o t seen done)
rescues_by_goes config ss c j o u t seen done term is called =
    subst (λ (n : Course CommandAnswer). GoesWell config ss c j o u Completes Anyhow (Rescues g o t seen done) n) (sym (rescues_are g o t seen done w.0 a.0 w.1 a.1))
    (narrower_goes (Doings config ss c j o u) (span_by config ss c j o u) Completes Anyhow (Rescues g o t seen done)
    (Only (StoppedIn g o.ignored done) (takes_over o.timeout t done w.0 a.0)) (takes_over o.timeout t done w.0 a.0) (λ m b version. fewer m b version)
    (takes_over_goes config ss c j o u t done w.0 a.0 term called w.1))
  where
    g : Group
    g = group_of config

    stopped : HasStopped config ss u.free.freed c o done
    stopped = stopped_with config ss c j o u done called

    w : (h : Held) × (winner (helds done) ≡ Some h)
    w = u.free.ahead done (stopped_with config ss c j o u done called)

    a : (b : Alias) × (rescuer (group_of config) o seen done (u.free.ahead done (stopped_with config ss c j o u done called)).0 o.new_primary ≡ Ok b)
    a =
        one_takes_over (group_of config) o seen done (u.free.ahead done (stopped_with config ss c j o u done called)).0 o.new_primary refl
        (λ b given. u.free.given seen done b (read_with config ss c j o u seen is) (stopped_with config ss c j o u done called) given)
        (λ none. u.free.left seen done (read_with config ss c j o u seen is) (stopped_with config ss c j o u done called) none)

    fewer : (m : Course CommandAnswer) (b : List Deed) → Rescues (group_of config) o t seen done m b
        → Only (StoppedIn (group_of config) o.ignored done) (takes_over o.timeout t done w.0 a.0) m b
    fewer m b version =
        let then : List Deed = version.0 in
        let settled = version.1.1 in
        let same : helds then ≡ helds done = sym (helds_same then done settled.1 settled.2) in
        let wins : winner (helds then) ≡ Some w.0 = ap (λ (hs : List Held). winner hs) same ∙ w.1 in
        let takes = took_over (group_of config) o seen then done w.0 a.0 o.new_primary settled.1 settled.2 a.1 in (
          version.1.0 ∙ rescues_are (group_of config) o t seen then w.0 a.0 wins takes ∙ same_rescue o.timeout t then done w.0 a.0 same,
          (then, (settled.3, same, are_earlier (heeded (group_of config) o.ignored) kinds.Stop then done settled.1 called.are)),
        )

rescues_goes : (config : Config) (ss : List Step) (c j : ℕ) (o : EmergencyOptions) → (u : Unhindered config ss c j o) → (t : ℕ) (seen : Seen)
    → t ≡ u.free.term → IsRead (span_by config ss c j o u) seen
    → GoesWell config ss c j o u Completes Anyhow (Only (λ b. ⊤) (rescues (group_of config) o t seen)) (rescues (group_of config) o t seen)
unfolding rescues
rescues_goes config ss c j o u t seen term is rest end =
    bind_along (Doings config ss c j o u) (span_by config ss c j o u) (StoppedBy config ss c j o u) (SettledIn (λ b. ⊤)) (Only (λ b. ⊤) (stops_all g o.ignored)) Completes Anyhow
    (Rescues g o t seen) (Only (λ b. ⊤) (stops_all g o.ignored >>= rescues_by g o t seen)) (stops_all g o.ignored) (rescues_by g o t seen) rest
    (stops_goes config ss c j o u rest end) (λ done called. rescues_by_goes config ss c j o u t seen done term is called)
    (λ m b version. record {
      first = stops_all g o.ignored;
      next = rescues_by g o t seen;
      version = (refl, tt);
      is = version.0;
      goes = λ x y past after. (y, (refl, after));
    }) end
  where
    g : Group
    g = group_of config

pub emergency_goes : (config : Config) (ss : List Step) (c j : ℕ) (o : EmergencyOptions) → (u : Unhindered config ss c j o)
    → ((held : LockTaken) → Doings config ss c j o u wants.Take (deeds.Took (Err held)) [] → ⊥)
    → GoesWell config ss c j o u Completes Anyhow (Only IsFirst (emergency_course (group_of config) o)) (emergency_course (group_of config) o)
unfolding emergency_course
emergency_goes config ss c j o u never =
    bind_goes made span IsFirst (λ t. t ≡ u.free.term) (λ t b. ⊤) Completes Anyhow (unless (refusal_of_emergency (group_of config) o) >> takes_lock)
    (λ t. reads >>= λ seen. unless (refusal_by_seen o.expected o.new_primary seen) >> rescues (group_of config) o t seen)
    (bind_goes made span IsFirst (λ (x : Unit {0}). ⊤) (λ x b. IsFirst b) (λ t. t ≡ u.free.term) (Same (λ t b. ⊤)) (unless (refusal_of_emergency (group_of config) o))
    (λ x. takes_lock) (unless_goes made span IsFirst (refusal_of_emergency (group_of config) o) u.free.options)
    (λ x any. takes_goes config ss c u.free.freed (keeper_of config ss c j o u) never))
    (λ t term. bind_goes made span (λ b. ⊤) (λ seen. IsRead span seen) (λ seen b. ⊤) Completes Anyhow reads
    (λ seen. unless (refusal_by_seen o.expected o.new_primary seen) >> rescues (group_of config) o t seen)
    (reads_goes config ss c u.free.freed (keeper_of config ss c j o u))
    (λ seen is. bind_goes made span (λ b. ⊤) (λ (x : Unit {0}). ⊤) (λ x b. ⊤) Completes Anyhow (unless (refusal_by_seen o.expected o.new_primary seen))
    (λ x. rescues (group_of config) o t seen)
    (unless_goes made span (λ b. ⊤) (refusal_by_seen o.expected o.new_primary seen) (u.free.seen seen (read_with config ss c j o u seen is)))
    (λ x some. rescues_goes config ss c j o u t seen term is)))
  where
    made : Doing
    made = Doings config ss c j o u

    span : List Deed
    span = span_by config ss c j o u

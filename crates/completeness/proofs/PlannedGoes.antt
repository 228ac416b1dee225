-- The course of a PlannedReparentShard that nothing hinders, point by point: nothing of it is refused, so it never has to undo anything (Vitess manual).
use Rattle.std.proofs.Common.{◌≡◌, refl, ap, sym, subst, ◌∙◌, arith, ℕ, ◌==◌, Bool, true, false, cond, List, [], ◌++◌, Option, Some, None, Result, Ok, Err}
use Rattle.std.specs.Prelude.{⊤}
use Rattle.std.specs.List.{list_any, slice_get}
use Rattle.shard_names.specs.declared.alias.Alias.{Alias}
use Rattle.shard_names.specs.Tablets.{alias_eq}
use Rattle.gtid_sets.specs.Logs.{position_of}
use Rattle.gtid_sets.specs.Position.{Position, covers, has, nothing}
use Rattle.topo_lock.specs.declared.intent.Intent.{Intent}
use Rattle.topo_lock.specs.declared.lock.LockTaken.{LockTaken}
use Rattle.shard_calls.specs.declared.answer.Answer.{Answer}
use Rattle.shard_calls.specs.declared.answer.Answer.TheVariants as says
use Rattle.shard_calls.specs.declared.call.Call.{Call}
use Rattle.shard_calls.specs.declared.call.Call.TheVariants as calls
use Rattle.shard_calls.specs.declared.command.PlannedOptions.{PlannedOptions}
use Rattle.shard_calls.specs.declared.ending.CommandAnswer.TheVariants as endings
use Rattle.shard_calls.specs.declared.event.Event.TheVariants as events
use Rattle.shard_calls.specs.declared.event.Reply.TheVariants as replies
use Rattle.shard_calls.specs.declared.event.Seen.{Seen}
use Rattle.shard_calls.specs.declared.event.Step.{Step}
use Rattle.shard_calls.specs.declared.group.Group.{Group}
use Rattle.shard_calls.specs.declared.refusal.Refusal.{Refusal}
use Rattle.shard_calls.specs.declared.span.Asked.{Asked}
use Rattle.shard_calls.specs.declared.span.Deed.{Deed}
use Rattle.shard_calls.specs.declared.span.Deed.TheVariants as deeds
use Rattle.shard_calls.specs.declared.span.Kind.TheVariants as kinds
use Rattle.shard_calls.specs.Causes.{is_idle}
use Rattle.shard_calls.specs.Choosing.{candidates, first_of, follower}
use Rattle.shard_calls.specs.Refusals.{refusal_after, refusal_by_demoted, refusal_by_seen, refusal_of_crossing, refusal_of_planned}
use Rattle.shard_calls.specs.declared.state.CommandState.{CommandState}
use Rattle.shard_calls.specs.Spans.{span_of}
use Rattle.shard_calls.specs.Table.{IsRun}
use Rattle.shard_calls.specs.World.{Config, group_of, numbered}
use Rattle.shard_calls.specs.Promotions.{world_at}
use Rattle.shard_names.proofs.TabletLemmas.{alias_eq_is}
use Rattle.courses.specs.declared.want.Exit.{Exit}
use Rattle.courses.specs.declared.want.Exit.TheVariants as exits
use Rattle.courses.specs.declared.want.Want.TheVariants as wants
use Rattle.courses.specs.Planned.{catches_up, demoted_position, demotes, first_primary, planned_course, reparents_all, reparents_by, reparents_from, replaced_by, replaces, successor}
use Rattle.courses.specs.Promoting.{others_than}
use Rattle.courses.specs.Sound.{AreCalled, IsRead}
use Rattle.courses.specs.SoundLemmas.{calls_sound}
use Rattle.courses.specs.Walks.{Course, Walked, walked, gives, needs, or_refusing, reads, takes_lock, tried, unless, unless_refused, calls_all, is_out, ◌>>=◌, ◌>>◌}
use Rattle.completeness.specs.Planned.{CatchesUp, Completes, HasNothingToDo, HasRead, IsConcerned, IsPromoted, NothingHinders}
use Rattle.completeness.proofs.ChosenLemmas.{follower_same}
use Rattle.completeness.proofs.DemotedLemmas.{not_by_demote, not_pending}
use Rattle.completeness.proofs.GoingCalls.{SettledIn, calls_goes}
use Rattle.completeness.proofs.GoingLemmas.{Doing, Versions, Was, Going, Goes, IsFirst, IsNoRefusal, Only, Same, Stays, bind_along, bind_goes, none_earlier, pure_goes, weaker_goes}
use Rattle.completeness.proofs.GoingPoints.{Answers, AnsweredIn, IsGranted, Tried, TriedIn, WasAnswered, needs_goes, tried_goes, was_answered_stays}
use Rattle.completeness.proofs.LaterLemmas.{Later}
use Rattle.completeness.proofs.MadeCalls.{Keeper, Made, in_span, made_call, span_is, span_to}
use Rattle.completeness.proofs.PastLemmas.{before, demoted_has, holder_has}
use Rattle.completeness.proofs.PlannedLemmas.{first_left, follower_left}
use Rattle.completeness.proofs.PromotingGoes.{Anyhow, HasAll, PromotesFreely, reparents_goes}
use Rattle.completeness.proofs.ReadLemmas.{has_read}
use Rattle.completeness.proofs.ReparentPoints.{CaughtUp, follows_goes, follows_on, joins_granted, waits_granted, anyhow_goes, covers_nothing, reads_goes, takes_goes, unless_goes}
use Rattle.completeness.proofs.StaysPrimary.{stays_primary}

-- ---- where nothing hinders it

-- the command, and its state when it frees the lock
pub record Unhindered (config : Config) (ss : List Step) (c j : ℕ) (o : PlannedOptions) : Type 0 where
  pub run : IsRun config ss
  pub free : NothingHinders config ss c j o
  pub state : CommandState
  pub here : numbered (world_at config ss free.freed).commands c ≡ Some state

abbrev pub keeper_of : (config : Config) (ss : List Step) (c j : ℕ) (o : PlannedOptions) → (u : Unhindered config ss c j o) → Keeper config ss c u.free.freed
keeper_of config ss c j o u = record { run = u.run; state = u.state; here = u.here; term = u.free.term; taken = u.free.taken; kept = u.free.kept }

-- what it did, and as what
abbrev pub Doings : (config : Config) (ss : List Step) (c j : ℕ) (o : PlannedOptions) → Unhindered config ss c j o → Doing
Doings config ss c j o u = Made config ss c u.free.freed (keeper_of config ss c j o u)

abbrev pub span_by : (config : Config) (ss : List Step) (c j : ℕ) (o : PlannedOptions) → Unhindered config ss c j o → List Deed
span_by config ss c j o u = span_to config ss c u.free.freed (keeper_of config ss c j o u)

-- it goes well along what it did
abbrev pub GoesWell : {A : Type 0} (config : Config) (ss : List Step) (c j : ℕ) (o : PlannedOptions) → Unhindered config ss c j o → (A → Type 0) → (A → A → List Deed → Type 0)
    → Versions A → Course A → Type 0
GoesWell config ss c j o u Q After M n = Goes (Doings config ss c j o u) (span_by config ss c j o u) Q After M n

promotes_freely : (config : Config) (ss : List Step) (c j : ℕ) (o : PlannedOptions) → (u : Unhindered config ss c j o)
    → PromotesFreely config ss c u.free.freed (keeper_of config ss c j o u)
promotes_freely config ss c j o u = record {
  settled = λ x why is sent came.
      u.free.settled x why (in_span config ss c u.free.freed (keeper_of config ss c j o u) (deeds.Asked x) is) (IsPromoted sent.0 sent.1.0 sent.1.1.0 sent.1.1.1) came;
  leads = λ a k me call sent intended comes me_is later earlier.
      stays_primary config ss c u.free.term u.free.taken u.free.freed a u.run u.free.kept
      (λ i keep s after within row at is. u.free.up i keep s a after within at (IsPromoted sent.0 sent.1.0 sent.1.1.0 sent.1.1.1) is) intended k (omega (arith, later)) (omega (arith, earlier));
  in_time = u.free.in_time_told;
}

-- ---- it reparents from here on

all_goes : (config : Config) (ss : List Step) (c j : ℕ) (o : PlannedOptions) → (u : Unhindered config ss c j o) → (F : List Deed → Type 0) (t : ℕ) (a : Alias) (p : Position)
    → Stays F → HasAll config ss c u.free.freed F a p
    → GoesWell config ss c j o u Completes Anyhow (Only F (reparents_all (group_of config) o.timeout t a p)) (reparents_all (group_of config) o.timeout t a p)
unfolding reparents_all
all_goes config ss c j o u F t a p stays has =
    reparents_goes config ss c u.free.freed (keeper_of config ss c j o u) (promotes_freely config ss c j o u) F (group_of config) a p o.timeout t
    (others_than (group_of config) a) stays has

-- ---- the first primary

first_chosen : (config : Config) (ss : List Step) (c j : ℕ) (o : PlannedOptions) → (u : Unhindered config ss c j o) → (seen : Seen) → IsRead (span_by config ss c j o u) seen
    → seen.intent ≡ None → (given : Option Alias) → o.new_primary ≡ given → IsNoRefusal (first_primary (group_of config) o seen given)
first_chosen config ss c j o u seen is none (Some a) given = tt
first_chosen config ss c j o u seen is none None given = of_choice (first_of (group_of config) seen o.avoid) refl
  where
    of_choice : (r : Result Alias Refusal) → first_of (group_of config) seen o.avoid ≡ r → IsNoRefusal (or_refusing r)
    of_choice (Ok a) k = tt
    of_choice (Err r) k =
        absurd (first_left (group_of config) o seen r
        (u.free.first seen (has_read config ss c u.free.freed seen u.run (in_span config ss c u.free.freed (keeper_of config ss c j o u) (deeds.Read (Ok seen)) is)) none given) k)

-- ---- who follows

-- what was read of the topology was read with a step
read_with : (config : Config) (ss : List Step) (c j : ℕ) (o : PlannedOptions) → (u : Unhindered config ss c j o) → (seen : Seen) → IsRead (span_by config ss c j o u) seen
    → HasRead ss c seen
read_with config ss c j o u seen is =
    has_read config ss c u.free.freed seen u.run (in_span config ss c u.free.freed (keeper_of config ss c j o u) (deeds.Read (Ok seen)) is)

called_with : (config : Config) (ss : List Step) (c j : ℕ) (o : PlannedOptions) → (u : Unhindered config ss c j o) → (them : List Alias) (done : List Deed)
    → AreCalled (span_by config ss c j o u) them kinds.Status done → AreCalled (span_of (world_at config ss u.free.freed) c) them kinds.Status done
called_with config ss c j o u them done called =
    subst (λ (l : List Deed). AreCalled l them kinds.Status done) (sym (span_is config ss c u.free.freed (keeper_of config ss c j o u))) called

-- the follower that the same calls give, with what they had come to by then
abbrev Followers : Group → Bool → Seen → Alias → List Deed → Versions Alias
Followers g allowed seen old done m past = (then : List Deed) × ((m ≡ unless_refused (follower g allowed seen old then)) × (Later then done × (list_any is_out then ≡ false)))

followed_was : (g : Group) (allowed : Bool) (seen : Seen) (old a : Alias) (done : List Deed) → follower g allowed seen old done ≡ Ok a
    → (m : Course Alias) (b e more : List Deed) → Followers g allowed seen old done m b → Later e []
    → Was (Same (λ x past. ⊤) a) (m (e ++ more)).came (m (e ++ more)).rest (b ++ e) more
followed_was g allowed seen old a done is m b e more version later =
    let same : or_refusing (follower g allowed seen old version.0) ≡ Ok a =
    ap (λ (r : Result Alias Refusal). or_refusing r) (sym (follower_same g allowed seen old version.0 done version.1.1.0 version.1.1.1) ∙ is) in
    let there : walked (Ok a) more ≡ m (e ++ more) =
    sym (ap (λ (n : Course Alias). n (e ++ more)) version.1.0 ∙ ap (λ (l : List Deed). unless_refused (follower g allowed seen old version.0) (l ++ more)) (none_earlier e later)
    ∙ ap (λ (r : Result Alias Exit). walked r more) same) in
    subst (λ (w : Walked Alias). Was (Same (λ x past. ⊤) a) w.came w.rest (b ++ e) more) there (refl, (refl, tt))

followed_goes : (made : Doing) (span : List Deed) (g : Group) (allowed : Bool) (seen : Seen) (old : Alias) (done : List Deed)
    → ((r : Refusal) → follower g allowed seen old done ≡ Err r → ⊥)
    → Goes made span (λ a. ⊤) (Same (λ x b. ⊤)) (Followers g allowed seen old done) (unless_refused (follower g allowed seen old done))
followed_goes made span g allowed seen old done never rest end heeded = of_choice (follower g allowed seen old done) refl
  where
    of_choice : (r : Result Alias Refusal) → follower g allowed seen old done ≡ r
        → Going (λ a. ⊤) (Same (λ x b. ⊤)) (Followers g allowed seen old done) (or_refusing r) rest rest
    of_choice (Ok a) is = record { used = []; split = refl; is = tt; was = λ m b e more version later. followed_was g allowed seen old a done is m b e more version later }
    of_choice (Err r) is = absurd (never r is)

successor_goes : (config : Config) (ss : List Step) (c j : ℕ) (o : PlannedOptions) → (u : Unhindered config ss c j o) → (seen : Seen) (i : Intent)
    → IsRead (span_by config ss c j o u) seen → seen.intent ≡ Some i → (given : Option Alias) → o.new_primary ≡ given
    → GoesWell config ss c j o u (λ a. ⊤) (Same (λ x b. ⊤)) (Only (λ b. ⊤) (successor (group_of config) o.allow_cross_cell seen i.alias given))
    (successor (group_of config) o.allow_cross_cell seen i.alias given)
unfolding successor
successor_goes config ss c j o u seen i is intent (Some a) given =
    bind_goes (Doings config ss c j o u) (span_by config ss c j o u) (λ b. ⊤) (λ (x : Unit {0}). ⊤) (λ x b. ⊤) (λ x. ⊤) (Same (λ x b. ⊤))
    (unless (refusal_of_crossing o.allow_cross_cell i.alias a)) (λ x. gives a)
    (unless_goes (Doings config ss c j o u) (span_by config ss c j o u) (λ b. ⊤) (refusal_of_crossing o.allow_cross_cell i.alias a)
    (u.free.crossing seen i a (read_with config ss c j o u seen is) intent given))
    (λ x any. pure_goes (Doings config ss c j o u) (span_by config ss c j o u) (λ b. ⊤) (λ y. ⊤) (Ok a) tt (λ y same. tt))
successor_goes config ss c j o u seen i is intent None given = λ rest end.
    bind_along (Doings config ss c j o u) (span_by config ss c j o u) (λ done. AreCalled (span_by config ss c j o u) them kinds.Status done) (SettledIn (λ b. ⊤))
    (Only (λ b. ⊤) (calls_all them calls.Status)) (λ x. ⊤) (Same (λ x b. ⊤)) (Followers g o.allow_cross_cell seen i.alias)
    (Only (λ b. ⊤) (calls_all them calls.Status >>= chooses)) (calls_all them calls.Status) chooses rest
    (calls_goes (Doings config ss c j o u) (span_by config ss c j o u) (λ b. ⊤) g them calls.Status (λ b e fact. tt)
    (calls_sound g (span_by config ss c j o u) (λ r. ⊤) them calls.Status (λ b. tt)) rest end)
    (λ done called. followed_goes (Doings config ss c j o u) (span_by config ss c j o u) g o.allow_cross_cell seen i.alias done
    (λ r refused. follower_left g o seen i.alias done r
    (u.free.follower seen i done (read_with config ss c j o u seen is) intent given (called_with config ss c j o u them done called)) refused))
    (λ m b version. record {
      first = calls_all them calls.Status;
      next = chooses;
      version = (refl, tt);
      is = version.0;
      goes = λ x y past after. (y, (refl, (after.1, after.2)));
    }) end
  where
    g : Group
    g = group_of config

    them : List Alias
    them = candidates (group_of config) o.allow_cross_cell seen i.alias

    chooses : List Deed → Course Alias
    chooses done = unless_refused (follower (group_of config) o.allow_cross_cell seen i.alias done)

-- ---- the old primary is demoted

-- it answered that it is demoted, with this position
abbrev pub WasDemoted : Doing → Alias → Position → List Deed → Type 0
WasDemoted made a p past = (newest : ℕ) × WasAnswered made a calls.Demote (says.Demoted newest p) past

demoted_stays : (made : Doing) (a : Alias) (p : Position) → Stays (WasDemoted made a p)
demoted_stays made a p b e was = (was.0, was_answered_stays made a calls.Demote (says.Demoted was.0 p) b e was.1)

demote_granted : (config : Config) (ss : List Step) (c j : ℕ) (o : PlannedOptions) → (u : Unhindered config ss c j o) → (seen : Seen) (i : Intent)
    → IsRead (span_by config ss c j o u) seen → seen.intent ≡ Some i → IsGranted (Doings config ss c j o u) (λ b. ⊤) i.alias calls.Demote
demote_granted config ss c j o u seen i is intent x out past made fact ask came = of_refusal (refusal_after x out) refl
  where
    of_refusal : (q : Option Refusal) → refusal_after x out ≡ q → q ≡ None
    of_refusal None k = refl
    of_refusal (Some r) k =
        absurd (not_by_demote config ss c j o seen i r u.run u.free
        (in_span config ss c u.free.freed (keeper_of config ss c j o u) (deeds.Read (Ok seen)) is) intent
        (record {
          call_of = x;
          deed = in_span config ss c u.free.freed (keeper_of config ss c j o u) (deeds.Asked x) made.stands;
          is_call = ask;
          outcome = out;
          came = came;
          refused = k;
        }))

-- nor is a term pending
not_pending_now : (config : Config) (ss : List Step) (c j : ℕ) (o : PlannedOptions) → (u : Unhindered config ss c j o) → (seen : Seen) (i : Intent)
    → IsRead (span_by config ss c j o u) seen → seen.intent ≡ Some i → (answer : Answer) → Answers (Doings config ss c j o u) i.alias calls.Demote answer
    → refusal_by_demoted i answer ≡ None
not_pending_now config ss c j o u seen i is intent answer said = of_refusal (refusal_by_demoted i answer) refl
  where
    of_refusal : (q : Option Refusal) → refusal_by_demoted i answer ≡ q → q ≡ None
    of_refusal None k = refl
    of_refusal (Some r) k =
        absurd (not_pending config ss c j o seen i answer r u.run u.free
        (in_span config ss c u.free.freed (keeper_of config ss c j o u) (deeds.Read (Ok seen)) is) intent
        (record {
          call_of = said.0;
          deed = in_span config ss c u.free.freed (keeper_of config ss c j o u) (deeds.Asked said.0) said.1.made.stands;
          is_call = said.1.is_call;
          says = said.1.says;
        }) k)

demoted_is : (i : Intent) (answer : Answer) (p : Position) → demoted_position i answer ≡ Ok p → (newest : ℕ) × (answer ≡ says.Demoted newest p)
demoted_is i (says.Demoted newest q) p h = of_test (newest == i.term) h
  where
    of_test : (b : Bool) → cond b (Ok q) (Err exits.Strays) ≡ Ok p → (n : ℕ) × (says.Demoted newest q ≡ says.Demoted n p)
    of_test true k = let same : q ≡ p = (let both : Ok q ≡ Ok p = k in cc) in (newest, ap (λ (v : Position). says.Demoted newest v) same)
    of_test false k = absurd (let wrong : Err exits.Strays ≡ Ok p = k in cc)
demoted_is i (says.Status seen promised at newest q) p h = absurd (let wrong : Err exits.Strays ≡ Ok p = h in cc)
demoted_is i (says.Stopped newest q) p h = absurd (let wrong : Err exits.Strays ≡ Ok p = h in cc)
demoted_is i (says.Promoted q) p h = absurd (let wrong : Err exits.Strays ≡ Ok p = h in cc)
demoted_is i says.Joined p h = absurd (let wrong : Err exits.Strays ≡ Ok p = h in cc)
demoted_is i says.Feeding p h = absurd (let wrong : Err exits.Strays ≡ Ok p = h in cc)
demoted_is i says.Holds p h = absurd (let wrong : Err exits.Strays ≡ Ok p = h in cc)
demoted_is i says.Told p h = absurd (let wrong : Err exits.Strays ≡ Ok p = h in cc)
demoted_is i says.NotTold p h = absurd (let wrong : Err exits.Strays ≡ Ok p = h in cc)
demoted_is i (says.Kept at) p h = absurd (let wrong : Err exits.Strays ≡ Ok p = h in cc)
demoted_is i (says.StaleTerm seen) p h = absurd (let wrong : Err exits.Strays ≡ Ok p = h in cc)
demoted_is i (says.PromisedAhead promised) p h = absurd (let wrong : Err exits.Strays ≡ Ok p = h in cc)
demoted_is i (says.NotCaughtUp missing) p h = absurd (let wrong : Err exits.Strays ≡ Ok p = h in cc)
demoted_is i (says.Errant extra) p h = absurd (let wrong : Err exits.Strays ≡ Ok p = h in cc)
demoted_is i (says.NotStanding newest) p h = absurd (let wrong : Err exits.Strays ≡ Ok p = h in cc)

demoted_so : (i : Intent) (answer : Answer) → IsNoRefusal (demoted_position i answer)
demoted_so i (says.Demoted newest p) = of_test (newest == i.term)
  where
    of_test : (b : Bool) → IsNoRefusal (cond b (Ok p) (Err exits.Strays))
    of_test true = tt
    of_test false = tt
demoted_so i _ = tt

demotes_goes : (config : Config) (ss : List Step) (c j : ℕ) (o : PlannedOptions) → (u : Unhindered config ss c j o) → (seen : Seen) (i : Intent)
    → IsRead (span_by config ss c j o u) seen → seen.intent ≡ Some i
    → GoesWell config ss c j o u (λ p. ⊤) (Same (WasDemoted (Doings config ss c j o u) i.alias)) (Only (λ b. ⊤) (demotes i)) (demotes i)
unfolding demotes
demotes_goes config ss c j o u seen i is intent =
    bind_goes made span (λ b. ⊤) (Answers made i.alias calls.Demote) (AnsweredIn made (λ b. ⊤) i.alias calls.Demote) (λ p. ⊤) (Same (WasDemoted made i.alias))
    (needs i.alias calls.Demote) (λ x. unless (refusal_by_demoted i x) >> walked (demoted_position i x))
    (needs_goes made span (λ b. ⊤) i.alias calls.Demote (λ b e fact. tt) (demote_granted config ss c j o u seen i is intent))
    (λ x said. bind_goes made span (AnsweredIn made (λ b. ⊤) i.alias calls.Demote x) (λ (y : Unit {0}). ⊤) (λ y b. AnsweredIn made (λ b. ⊤) i.alias calls.Demote x b) (λ p. ⊤)
    (Same (WasDemoted made i.alias)) (unless (refusal_by_demoted i x)) (λ y. walked (demoted_position i x))
    (unless_goes made span (AnsweredIn made (λ b. ⊤) i.alias calls.Demote x) (refusal_by_demoted i x) (not_pending_now config ss c j o u seen i is intent x said))
    (λ y any. weaker_goes made span (λ p. (newest : ℕ) × (x ≡ says.Demoted newest p)) (λ p. ⊤) (λ p b. AnsweredIn made (λ b. ⊤) i.alias calls.Demote x b)
    (WasDemoted made i.alias) (Only (AnsweredIn made (λ b. ⊤) i.alias calls.Demote x) (walked (demoted_position i x))) (walked (demoted_position i x)) (λ p so. tt)
    (λ p b so fact. (so.0, subst (λ (v : Answer). WasAnswered made i.alias calls.Demote v b) so.1 fact.1))
    (pure_goes made span (AnsweredIn made (λ b. ⊤) i.alias calls.Demote x) (λ p. (newest : ℕ) × (x ≡ says.Demoted newest p)) (demoted_position i x) (demoted_so i x)
    (λ p so. demoted_is i x p so))))
  where
    made : Doing
    made = Doings config ss c j o u

    span : List Deed
    span = span_by config ss c j o u

-- ---- who follows it catches up

-- the tablet was called to catch up with the old primary
caught_up_with : (config : Config) (ss : List Step) (c j : ℕ) (o : PlannedOptions) → (u : Unhindered config ss c j o) → (seen : Seen) (i : Intent) (a : Alias) (p : Position)
    (x : Asked) (past : List Deed) → IsRead (span_by config ss c j o u) seen → seen.intent ≡ Some i
    → Doings config ss c j o u (wants.Ask a (calls.SetSource i.alias i.term p)) (deeds.Asked x) past → IsConcerned ss c x.alias
caught_up_with config ss c j o u seen i a p x past is intent made =
    let call = made_call config ss c u.free.freed u.state x a (calls.SetSource i.alias i.term p) past u.run made in
    CatchesUp seen i call.is_call.place x.message p (read_with config ss c j o u seen is) intent
    (subst (λ (f : Call). slice_get ss call.is_call.place ≡ Some (record { event = events.Send c x.alias f; reply = replies.Message x.message })) call.call_is call.is_call.sent)

source_granted : (config : Config) (ss : List Step) (c j : ℕ) (o : PlannedOptions) → (u : Unhindered config ss c j o) → (F : List Deed → Type 0) (seen : Seen) (i : Intent)
    (a : Alias) (p : Position) → IsRead (span_by config ss c j o u) seen → seen.intent ≡ Some i
    → IsGranted (Doings config ss c j o u) F a (calls.SetSource i.alias i.term p)
source_granted config ss c j o u F seen i a p is intent =
    joins_granted config ss c u.free.freed (keeper_of config ss c j o u) F a i.alias i.term p
    (λ x why past made came. u.free.settled x why (in_span config ss c u.free.freed (keeper_of config ss c j o u) (deeds.Asked x) made.stands)
    (caught_up_with config ss c j o u seen i a p x past is intent made) came)
    (λ k me comes. u.free.joins seen i k me p (read_with config ss c j o u seen is) intent comes)

wait_granted : (config : Config) (ss : List Step) (c j : ℕ) (o : PlannedOptions) → (u : Unhindered config ss c j o) → (F : List Deed → Type 0)
    (a : Alias) (p : Position) → IsConcerned ss c a → IsGranted (Doings config ss c j o u) F a (calls.WaitFor p o.timeout)
wait_granted config ss c j o u F a p concerned =
    waits_granted config ss c u.free.freed (keeper_of config ss c j o u) F a p o.timeout
    (λ x why past made came. u.free.settled x why (in_span config ss c u.free.freed (keeper_of config ss c j o u) (deeds.Asked x) made.stands)
    (subst (λ (b : Alias). IsConcerned ss c b) (sym (made_call config ss c u.free.freed u.state x a (calls.WaitFor p o.timeout) past u.run made).alias) concerned) came)
    (λ k until me comes. u.free.in_time_for k until me p comes)

catches_goes : (config : Config) (ss : List Step) (c j : ℕ) (o : PlannedOptions) → (u : Unhindered config ss c j o) → (F : List Deed → Type 0) (seen : Seen) (i : Intent)
    (a : Alias) (p : Position) → Stays F → IsRead (span_by config ss c j o u) seen → seen.intent ≡ Some i
    → GoesWell config ss c j o u (λ (x : Unit {0}). ⊤) (Same (λ x b. CaughtUp (Doings config ss c j o u) F a p o.timeout b)) (Only F (catches_up o.timeout i a p))
    (catches_up o.timeout i a p)
unfolding catches_up
catches_goes config ss c j o u F seen i a p stays is intent =
    bind_goes made span F (Answers made a source) (AnsweredIn made F a source) (λ x. ⊤) (Same (λ x b. CaughtUp made F a p o.timeout b)) (needs a source)
    (follows_on o.timeout a p) (needs_goes made span F a source stays (source_granted config ss c j o u F seen i a p is intent))
    (λ x said. follows_goes made span F (AnsweredIn made F a source x) a p o.timeout x stays (λ b fact. fact.0) (wait_granted config ss c j o u F a p (concerned x said)))
  where
    made : Doing
    made = Doings config ss c j o u

    span : List Deed
    span = span_by config ss c j o u

    source : Call
    source = calls.SetSource i.alias i.term p

    concerned : (x : Answer) → Answers (Doings config ss c j o u) a (calls.SetSource i.alias i.term p) x → IsConcerned ss c a
    concerned x said =
        subst (λ (b : Alias). IsConcerned ss c b)
        (made_call config ss c u.free.freed u.state said.0 a (calls.SetSource i.alias i.term p) said.1.past u.run said.1.made).alias
        (caught_up_with config ss c j o u seen i a p said.0 said.1.past is intent said.1.made)

-- ---- the whole course

replaces_goes : (config : Config) (ss : List Step) (c j : ℕ) (o : PlannedOptions) → (u : Unhindered config ss c j o) → (seen : Seen) (i : Intent) (t : ℕ)
    (a : Alias) (p : Position) → IsRead (span_by config ss c j o u) seen → seen.intent ≡ Some i
    → GoesWell config ss c j o u Completes Anyhow (Only (WasDemoted (Doings config ss c j o u) i.alias p) (replaces (group_of config) o.timeout t i a p))
    (replaces (group_of config) o.timeout t i a p)
unfolding replaces replaced_by
replaces_goes config ss c j o u seen i t a p is intent = of_test (alias_eq a i.alias) refl
  where
    made : Doing
    made = Doings config ss c j o u

    F : List Deed → Type 0
    F = WasDemoted (Doings config ss c j o u) i.alias p

    old_has : a ≡ i.alias → HasAll config ss c u.free.freed (WasDemoted (Doings config ss c j o u) i.alias p) a p
    old_has same past k m was span less le =
        subst (λ (b : Alias). covers (position_of ((world_at config ss m).tablets b).log) p ≡ true) (sym same)
        (demoted_has config ss c u.free.term k m was.0 i.alias p u.run le
        (before config ss c u.free.freed k (keeper_of config ss c j o u) i.alias calls.Demote (says.Demoted was.0 p) past less refl span was.1))

    new_has : HasAll config ss c u.free.freed (λ b. CaughtUp (Doings config ss c j o u) (WasDemoted (Doings config ss c j o u) i.alias p) a p o.timeout b) a p
    new_has past k m was span less le =
        holder_has config ss c u.free.term k m o.timeout a p u.run le
        (before config ss c u.free.freed k (keeper_of config ss c j o u) a (calls.WaitFor p o.timeout) says.Holds past less refl span was.1)

    then : (x : Result (Unit {0}) Refusal) → Tried (λ (y : Unit {0}). ⊤) x
        → GoesWell config ss c j o u Completes Anyhow
        (Only (TriedIn (λ y b. CaughtUp (Doings config ss c j o u) (WasDemoted (Doings config ss c j o u) i.alias p) a p o.timeout b) x)
        (replaced_by (group_of config) o.timeout t i.alias a p x)) (replaced_by (group_of config) o.timeout t i.alias a p x)
    then (Ok x) any =
        all_goes config ss c j o u (λ b. CaughtUp (Doings config ss c j o u) (WasDemoted (Doings config ss c j o u) i.alias p) a p o.timeout b) t a p
        (λ b e fact. (
          demoted_stays (Doings config ss c j o u) i.alias p b e fact.0,
          was_answered_stays (Doings config ss c j o u) a (calls.WaitFor p o.timeout) says.Holds b e fact.1,
        )) new_has
    then (Err r) never = absurd never

    of_test : (b : Bool) → alias_eq a i.alias ≡ b
        → GoesWell config ss c j o u Completes Anyhow
        (Only (WasDemoted (Doings config ss c j o u) i.alias p) (cond b (reparents_all (group_of config) o.timeout t a p)
        (tried (catches_up o.timeout i a p) >>= replaced_by (group_of config) o.timeout t i.alias a p)))
        (cond b (reparents_all (group_of config) o.timeout t a p) (tried (catches_up o.timeout i a p) >>= replaced_by (group_of config) o.timeout t i.alias a p))
    of_test true same =
        all_goes config ss c j o u (WasDemoted (Doings config ss c j o u) i.alias p) t a p (demoted_stays (Doings config ss c j o u) i.alias p) (old_has (alias_eq_is a i.alias same))
    of_test false other =
        bind_goes (Doings config ss c j o u) (span_by config ss c j o u) (WasDemoted (Doings config ss c j o u) i.alias p) (Tried (λ (y : Unit {0}). ⊤))
        (TriedIn (λ y b. CaughtUp (Doings config ss c j o u) (WasDemoted (Doings config ss c j o u) i.alias p) a p o.timeout b)) Completes Anyhow (tried (catches_up o.timeout i a p))
        (replaced_by (group_of config) o.timeout t i.alias a p)
        (tried_goes (Doings config ss c j o u) (span_by config ss c j o u) (WasDemoted (Doings config ss c j o u) i.alias p) (λ (y : Unit {0}). ⊤)
        (λ y b. CaughtUp (Doings config ss c j o u) (WasDemoted (Doings config ss c j o u) i.alias p) a p o.timeout b) (catches_up o.timeout i a p)
        (catches_goes config ss c j o u (WasDemoted (Doings config ss c j o u) i.alias p) seen i a p (demoted_stays (Doings config ss c j o u) i.alias p) is intent))
        (λ x any. then x any)

from_goes : (config : Config) (ss : List Step) (c j : ℕ) (o : PlannedOptions) → (u : Unhindered config ss c j o) → (t : ℕ) (seen : Seen) (i : Intent)
    → IsRead (span_by config ss c j o u) seen → seen.intent ≡ Some i
    → GoesWell config ss c j o u Completes Anyhow (Only (λ b. ⊤) (reparents_from (group_of config) o t seen i)) (reparents_from (group_of config) o t seen i)
unfolding reparents_from
from_goes config ss c j o u t seen i is intent =
    bind_goes (Doings config ss c j o u) (span_by config ss c j o u) (λ b. ⊤) (λ a. ⊤) (λ a b. ⊤) Completes Anyhow
    (successor (group_of config) o.allow_cross_cell seen i.alias o.new_primary) (λ a. demotes i >>= λ p. replaces (group_of config) o.timeout t i a p)
    (successor_goes config ss c j o u seen i is intent o.new_primary refl)
    (λ a any. bind_goes (Doings config ss c j o u) (span_by config ss c j o u) (λ b. ⊤) (λ p. ⊤) (WasDemoted (Doings config ss c j o u) i.alias) Completes Anyhow (demotes i)
    (λ p. replaces (group_of config) o.timeout t i a p) (demotes_goes config ss c j o u seen i is intent)
    (λ p some. replaces_goes config ss c j o u seen i t a p is intent))

by_goes : (config : Config) (ss : List Step) (c j : ℕ) (o : PlannedOptions) → (u : Unhindered config ss c j o) → (t : ℕ) (seen : Seen) → IsRead (span_by config ss c j o u) seen
    → (intent : Option Intent) → seen.intent ≡ intent
    → GoesWell config ss c j o u Completes Anyhow (Only (λ b. ⊤) (reparents_by (group_of config) o t seen intent)) (reparents_by (group_of config) o t seen intent)
unfolding reparents_by
by_goes config ss c j o u t seen is None intent =
    bind_goes (Doings config ss c j o u) (span_by config ss c j o u) (λ b. ⊤) (λ a. ⊤) (λ a b. ⊤) Completes Anyhow
    (walked (first_primary (group_of config) o seen o.new_primary)) (λ a. reparents_all (group_of config) o.timeout t a nothing)
    (pure_goes (Doings config ss c j o u) (span_by config ss c j o u) (λ b. ⊤) (λ a. ⊤) (first_primary (group_of config) o seen o.new_primary)
    (first_chosen config ss c j o u seen is intent o.new_primary refl) (λ a some. tt))
    (λ a any. all_goes config ss c j o u (λ b. ⊤) t a nothing (λ b e fact. tt)
    (λ past k m fact span less le. covers_nothing (position_of ((world_at config ss m).tablets a).log)))
by_goes config ss c j o u t seen is (Some i) intent = of_test (is_idle o.avoid i.alias)
  where
    of_test : (b : Bool)
        → GoesWell config ss c j o u Completes Anyhow (Only (λ b. ⊤) (cond b (gives (endings.NothingToDo i.alias)) (reparents_from (group_of config) o t seen i)))
        (cond b (gives (endings.NothingToDo i.alias)) (reparents_from (group_of config) o t seen i))
    of_test true = anyhow_goes (Doings config ss c j o u) (span_by config ss c j o u) (λ b. ⊤) (endings.NothingToDo i.alias) (HasNothingToDo i.alias)
    of_test false = from_goes config ss c j o u t seen i is intent

pub planned_goes : (config : Config) (ss : List Step) (c j : ℕ) (o : PlannedOptions) → (u : Unhindered config ss c j o)
    → ((held : LockTaken) → Doings config ss c j o u wants.Take (deeds.Took (Err held)) [] → ⊥)
    → GoesWell config ss c j o u Completes Anyhow (Only IsFirst (planned_course (group_of config) o)) (planned_course (group_of config) o)
unfolding planned_course
planned_goes config ss c j o u never =
    bind_goes made span IsFirst (λ t. t ≡ u.free.term) (λ t b. ⊤) Completes Anyhow (unless (refusal_of_planned (group_of config) o) >> takes_lock)
    (λ t. reads >>= λ seen. unless (refusal_by_seen o.expected o.new_primary seen) >> reparents_by (group_of config) o t seen seen.intent)
    (bind_goes made span IsFirst (λ (x : Unit {0}). ⊤) (λ x b. IsFirst b) (λ t. t ≡ u.free.term) (Same (λ t b. ⊤)) (unless (refusal_of_planned (group_of config) o)) (λ x. takes_lock)
    (unless_goes made span IsFirst (refusal_of_planned (group_of config) o) u.free.options)
    (λ x any. takes_goes config ss c u.free.freed (keeper_of config ss c j o u) never))
    (λ t any. bind_goes made span (λ b. ⊤) (λ seen. IsRead span seen) (λ seen b. ⊤) Completes Anyhow reads
    (λ seen. unless (refusal_by_seen o.expected o.new_primary seen) >> reparents_by (group_of config) o t seen seen.intent)
    (reads_goes config ss c u.free.freed (keeper_of config ss c j o u))
    (λ seen is. bind_goes made span (λ b. ⊤) (λ (x : Unit {0}). ⊤) (λ x b. ⊤) Completes Anyhow (unless (refusal_by_seen o.expected o.new_primary seen))
    (λ x. reparents_by (group_of config) o t seen seen.intent)
    (unless_goes made span (λ b. ⊤) (refusal_by_seen o.expected o.new_primary seen) (u.free.seen seen (read_with config ss c j o u seen is)))
    (λ x some. by_goes config ss c j o u t seen is seen.intent refl)))
  where
    made : Doing
    made = Doings config ss c j o u

    span : List Deed
    span = span_by config ss c j o u

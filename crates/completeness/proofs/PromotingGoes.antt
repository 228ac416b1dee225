-- The points at the end of every reparent, of a command that keeps its lock: the tablet is intended, promoted and recorded, the others join it, and its
-- promotion counts as committed; nothing of it is refused. After PlannedReparentShard and EmergencyReparentShard (Vitess manual).
use Rattle.std.proofs.Common.{◌≡◌, refl, ap, sym, subst, ◌∙◌, arith, ℕ, ◌+◌, ◌<◌, ◌≤◌, ◌==◌, Bool, true, false, cond, List, [], ◌++◌, Option, Some, None, Result, Ok, Err}
use Rattle.std.specs.Prelude.{⊤}
use Rattle.std.proofs.lemmas.Bool.Decides.{nat_tests}
use Rattle.std.specs.List.{flat_map, slice_get}
use Rattle.shard_names.specs.declared.alias.Alias.{Alias}
use Rattle.shard_names.specs.declared.tablet.Tablet.{Tablet}
use Rattle.shard_names.specs.Tablets.{alias_eq}
use Rattle.shard_calls.proofs.StepLemmas.{alias_found}
use Rattle.gtid_sets.specs.Logs.{position_of}
use Rattle.gtid_sets.specs.Position.{Position, covers}
use Rattle.shard_calls.specs.declared.answer.Answer.{Answer}
use Rattle.shard_calls.specs.declared.answer.Answer.TheVariants as says
use Rattle.shard_calls.specs.declared.call.Call.{Call}
use Rattle.shard_calls.specs.declared.call.Call.TheVariants as calls
use Rattle.shard_calls.specs.declared.ending.CommandAnswer.{CommandAnswer}
use Rattle.shard_calls.specs.declared.ending.CommandAnswer.TheVariants as endings
use Rattle.shard_calls.specs.declared.event.Event.TheVariants as events
use Rattle.shard_calls.specs.declared.event.Reply.TheVariants as replies
use Rattle.shard_calls.specs.declared.event.Step.{Step}
use Rattle.shard_calls.specs.declared.group.Group.{Group}
use Rattle.shard_calls.specs.declared.post.Content.{Content}
use Rattle.shard_calls.specs.declared.post.Content.TheVariants as contents
use Rattle.shard_calls.specs.declared.span.Asked.{Asked}
use Rattle.shard_calls.specs.declared.span.Deed.{Deed}
use Rattle.shard_calls.specs.declared.span.Deed.TheVariants as deeds
use Rattle.shard_calls.specs.declared.span.Kind.TheVariants as kinds
use Rattle.shard_calls.specs.declared.span.Outcome.TheVariants as outcomes
use Rattle.shard_calls.specs.declared.state.CommandState.{CommandState}
use Rattle.shard_calls.specs.declared.stand.Stand.{Stand}
use Rattle.shard_calls.specs.declared.stand.Stand.TheVariants as stands
use Rattle.shard_calls.specs.declared.why.Why.{Why}
use Rattle.shard_calls.specs.Causes.{not_joined}
use Rattle.shard_calls.specs.Refusals.{refusal_to}
use Rattle.shard_calls.specs.Spans.{span_at, span_of}
use Rattle.shard_calls.specs.Stands.{is_primary_of}
use Rattle.shard_calls.specs.Tablets.{answer_to}
use Rattle.shard_calls.specs.World.{Config, World}
use Rattle.shard_calls.specs.Promotions.{world_at}
use Rattle.shard_calls.proofs.RunLemmas.{truthful_at}
use Rattle.shard_calls.proofs.WorldLemmas.{IsIntended, Fits}
use Rattle.courses.specs.declared.want.Exit.{Exit}
use Rattle.courses.specs.declared.want.Exit.TheVariants as exits
use Rattle.courses.specs.declared.want.Want.{Want}
use Rattle.courses.specs.declared.want.Want.TheVariants as wants
use Rattle.courses.specs.Promoting.{promoted_position, told_so, promotes, established, reparents}
use Rattle.courses.specs.Sound.{AreCalled, IsIn}
use Rattle.courses.specs.SoundLemmas.{calls_sound}
use Rattle.courses.specs.Walks.{Course, Walked, walked, gives, goes_on, ◌>>=◌, ◌>>◌, intends, intended, records, recorded, needs, calls_all}
use Rattle.completeness.specs.Planned.{ComesTo, Completes, Promotes}
use Rattle.completeness.proofs.AnswerLemmas.{promotes_unrefused, told_unrefused}
use Rattle.completeness.proofs.BarredLemmas.{no_lost_deed}
use Rattle.completeness.proofs.GoingCalls.{SettledIn, calls_goes}
use Rattle.completeness.proofs.GoingLemmas.{Doing, Versions, Was, Going, Goes, IsNoRefusal, Only, Same, Stays, bind_along, bind_goes, pure_goes, weaker_goes, none_earlier}
use Rattle.completeness.proofs.GoingPoints.{Answers, AnsweredIn, IsGranted, WasAnswered, needs_goes, point_goes, was_answered_stays}
use Rattle.completeness.proofs.KeptCalls.{IsKeptCall, not_told_late}
use Rattle.completeness.proofs.LaterLemmas.{Later}
use Rattle.completeness.proofs.MadeCalls.{Keeper, Made, KeptCall, granted, in_span, kept_as, made_call, never_stale, span_to}
use Rattle.completeness.proofs.MadeLemmas.{MadeAt}
use Rattle.completeness.proofs.PastLemmas.{before, promoted_has}
use Rattle.completeness.proofs.StaysPrimary.{Leads}

-- ---- what does not hinder a promotion

-- the command called the tablet to be promoted
abbrev pub WasPromoted : List Step → ℕ → Alias → Type 0
WasPromoted ss c a = (k : ℕ) × ((message : ℕ) × ((p : Position) × (slice_get ss k ≡ Some (record { event = events.Send c a (calls.Promote p); reply = replies.Message message }))))

pub record PromotesFreely (config : Config) (ss : List Step) (c j : ℕ) (keeper : Keeper config ss c j) : Type 0 where
  -- the calls to a tablet that was called to be promoted are answered
  pub settled : (x : Asked) (why : Why) → IsIn (span_to config ss c j keeper) (deeds.Asked x) → WasPromoted ss c x.alias → x.outcome ≡ Some (outcomes.GivenUp why) → ⊥
  -- and it leads in the term once it has its row, whenever a call comes to it
  pub leads : (a : Alias) (k : ℕ) (me : Tablet) (call : Call) → WasPromoted ss c a → IsIntended (world_at config ss j).topo keeper.term a
      → ComesTo config ss c keeper.term k me call → me.alias ≡ a → keeper.taken < k → k < j → Leads keeper.term ((world_at config ss k).tablets a)
  -- no WaitTold comes at its moment or later
  pub in_time : (k until : ℕ) (me : Tablet) → ComesTo config ss c keeper.term k me (calls.WaitTold until) → (world_at config ss k).clock < until

-- a tablet that is to be promoted with this position has it from now on, where this is so of what the command did
abbrev pub HasAll : (config : Config) (ss : List Step) (c j : ℕ) → (List Deed → Type 0) → Alias → Position → Type 0
HasAll config ss c j F a p = (past : List Deed) (k m : ℕ) → F past → span_of (world_at config ss k) c ≡ past → k < j → k ≤ m
    → covers (position_of ((world_at config ss m).tablets a).log) p ≡ true

-- ---- the topology loses no lock that is kept

intended_so : (config : Config) (ss : List Step) (c j : ℕ) (keeper : Keeper config ss c j) (a : Alias) (d : Deed) → IsIn (span_to config ss c j keeper) d → IsNoRefusal (intended a d)
intended_so config ss c j keeper a (deeds.Intended b (Ok x)) is = of_test (alias_eq b a)
  where
    of_test : (t : Bool) → IsNoRefusal {A = Unit {0}} (cond t (Ok x) (Err exits.Strays))
    of_test true = tt
    of_test false = tt
intended_so config ss c j keeper a (deeds.Intended b (Err t)) is =
    absurd (no_lost_deed config ss c keeper.term keeper.taken j (deeds.Intended b (Err t)) keeper.run keeper.kept (in_span config ss c j keeper (deeds.Intended b (Err t)) is) refl)
intended_so config ss c j keeper a (deeds.Took reply) is = tt
intended_so config ss c j keeper a (deeds.Read reply) is = tt
intended_so config ss c j keeper a (deeds.Recorded b reply) is = tt
intended_so config ss c j keeper a (deeds.Drained b reply) is = tt
intended_so config ss c j keeper a (deeds.Asked x) is = tt
intended_so config ss c j keeper a (deeds.Wrote b reply) is = tt
intended_so config ss c j keeper a (deeds.Told committed) is = tt

recorded_so : (config : Config) (ss : List Step) (c j : ℕ) (keeper : Keeper config ss c j) (a : Alias) (d : Deed) → IsIn (span_to config ss c j keeper) d → IsNoRefusal (recorded a d)
recorded_so config ss c j keeper a (deeds.Recorded b (Ok x)) is = of_test (alias_eq b a)
  where
    of_test : (t : Bool) → IsNoRefusal {A = Unit {0}} (cond t (Ok x) (Err exits.Strays))
    of_test true = tt
    of_test false = tt
recorded_so config ss c j keeper a (deeds.Recorded b (Err t)) is =
    absurd (no_lost_deed config ss c keeper.term keeper.taken j (deeds.Recorded b (Err t)) keeper.run keeper.kept (in_span config ss c j keeper (deeds.Recorded b (Err t)) is) refl)
recorded_so config ss c j keeper a (deeds.Took reply) is = tt
recorded_so config ss c j keeper a (deeds.Read reply) is = tt
recorded_so config ss c j keeper a (deeds.Intended b reply) is = tt
recorded_so config ss c j keeper a (deeds.Drained b reply) is = tt
recorded_so config ss c j keeper a (deeds.Asked x) is = tt
recorded_so config ss c j keeper a (deeds.Wrote b reply) is = tt
recorded_so config ss c j keeper a (deeds.Told committed) is = tt

pub intends_goes : (config : Config) (ss : List Step) (c j : ℕ) (keeper : Keeper config ss c j) (F : List Deed → Type 0) (a : Alias) → Stays F
    → Goes (Made config ss c j keeper) (span_to config ss c j keeper) (λ (x : Unit {0}). ⊤) (Same (λ x b. F b)) (Only F (intends a)) (intends a)
intends_goes config ss c j keeper F a stays =
    point_goes (Made config ss c j keeper) (span_to config ss c j keeper) F F (λ x. ⊤) (wants.Intend a) (intended a) (λ x y. refl) stays
    (λ d past made fact. intended_so config ss c j keeper a d made.stands) (λ d past x made is. tt)

pub records_goes : (config : Config) (ss : List Step) (c j : ℕ) (keeper : Keeper config ss c j) (F : List Deed → Type 0) (a : Alias) → Stays F
    → Goes (Made config ss c j keeper) (span_to config ss c j keeper) (λ (x : Unit {0}). ⊤) (Same (λ x b. F b)) (Only F (records a)) (records a)
records_goes config ss c j keeper F a stays =
    point_goes (Made config ss c j keeper) (span_to config ss c j keeper) F F (λ x. ⊤) (wants.Record a) (recorded a) (λ x y. refl) stays
    (λ d past made fact. recorded_so config ss c j keeper a d made.stands) (λ d past x made is. tt)

-- ---- the Promote

-- what the command had done when it did this
pub span_then : (config : Config) (ss : List Step) (c j : ℕ) (s : CommandState) (want : Want) (d : Deed) (past : List Deed) → (made : MadeAt config ss c j s want d past)
    → span_of (world_at config ss made.place) c ≡ past
span_then config ss c j s want d past made = ap (λ (o : Option CommandState). span_at (world_at config ss made.place).post o) made.here ∙ made.past_is

leads_so : (u : ℕ) (at : Stand) → at ≡ stands.Primary u → is_primary_of at u ≡ true
leads_so u at is = ap (λ (y : Stand). is_primary_of y u) is ∙ itself u
  where
    itself : (n : ℕ) → (n == n) ≡ true
    itself n = grind (arith, nat_tests)

promote_sent : (config : Config) (ss : List Step) (c j : ℕ) (keeper : Keeper config ss c j) (a : Alias) (p : Position) (x : Asked) (past : List Deed)
    → Made config ss c j keeper (wants.Ask a (calls.Promote p)) (deeds.Asked x) past → WasPromoted ss c x.alias
promote_sent config ss c j keeper a p x past made =
    let is = made_call config ss c j keeper.state x a (calls.Promote p) past keeper.run made in (
      is.is_call.place,
      (
        x.message,
        (
          p,
          subst (λ (f : Call). slice_get ss is.is_call.place ≡ Some (record { event = events.Send c x.alias f; reply = replies.Message x.message })) is.call_is is.is_call.sent,
        ),
      ),
    )

promote_intends : (config : Config) (ss : List Step) (c j : ℕ) (keeper : Keeper config ss c j) (x : Asked) (p : Position) (said : Answer)
    → (is : IsKeptCall config ss c keeper.term keeper.taken j x said) → is.call.call ≡ calls.Promote p → IsIntended (world_at config ss j).topo keeper.term x.alias
promote_intends config ss c j keeper x p said is call =
    let w : World = world_at config ss j in
    let fits : Fits w (contents.Asks c keeper.term x.alias (calls.Promote p)) =
    subst (λ (y : Content). Fits w y)
    (is.call.posted.carries ∙ ap (λ (n : ℕ). contents.Asks c n x.alias is.call.call) is.term ∙ ap (λ (f : Call). contents.Asks c keeper.term x.alias f) call)
    ((truthful_at config ss j keeper.run).sound.post x.message is.call.posted.message is.call.posted.at) in fits

promote_granted : (config : Config) (ss : List Step) (c j : ℕ) (keeper : Keeper config ss c j) → PromotesFreely config ss c j keeper → (F : List Deed → Type 0) (a : Alias)
    (p : Position) → HasAll config ss c j F a p → IsGranted (Made config ss c j keeper) F a (calls.Promote p)
promote_granted config ss c j keeper free F a p has =
    granted config ss c j keeper F a (calls.Promote p) refl
    (λ x why past made fact came. free.settled x why made.stands (promote_sent config ss c j keeper a p x past made) came)
    (λ x said past made fact kept. unrefused x said past made fact kept)
  where
    unrefused : (x : Asked) (said : Answer) (past : List Deed) → (made : Made config ss c j keeper (wants.Ask a (calls.Promote p)) (deeds.Asked x) past) → F past
        → KeptCall config ss c j keeper x a (calls.Promote p) made.place said → refusal_to x said ≡ None
    unrefused x said past made fact kept =
        let is = kept.is_kept in
        let at = is.answered.place in
        let sent = is.answered.after_sent in
        let place = kept.place_is in
        let later = is.later in
        let me_is : is.answered.me.alias ≡ a = alias_found config x.alias is.answered.me is.answered.found ∙ kept.alias in
        let caught = has past made.place at fact (span_then config ss c j keeper.state (wants.Ask a (calls.Promote p)) (deeds.Asked x) past made) made.earlier
        (omega (arith, sent, place)) in
        let intends = subst (λ (b : Alias). IsIntended (world_at config ss j).topo keeper.term b) kept.alias (promote_intends config ss c j keeper x p said is kept.call_is) in
        let leads = free.leads a at is.answered.me is.call.call (subst (λ (b : Alias). WasPromoted ss c b) kept.alias (promote_sent config ss c j keeper a p x past made)) intends
        is.comes me_is (omega (arith, later, sent)) is.answered.earlier in
        let answers : answer_to (world_at config ss at).group is.answered.me keeper.term (calls.Promote p) ((world_at config ss at).tablets a) ≡ said =
        ap (λ (b : Alias). answer_to (world_at config ss at).group is.answered.me keeper.term (calls.Promote p) ((world_at config ss at).tablets b)) (sym me_is)
        ∙ ap (λ (f : Call). answer_to (world_at config ss at).group is.answered.me keeper.term f ((world_at config ss at).tablets is.answered.me.alias)) (sym kept.call_is) ∙ is.says in
        subst (λ (y : Answer). refusal_to x y ≡ None) answers
        (promotes_unrefused x (world_at config ss at).group is.answered.me keeper.term p ((world_at config ss at).tablets a) caught
        (λ row. leads_so keeper.term ((world_at config ss at).tablets a).stand (leads row))
        (λ t stale. never_stale config ss c j keeper x a (calls.Promote p) made.place said t kept (sym answers ∙ stale)))

-- it was promoted with this position
abbrev pub PromotedIn : (config : Config) (ss : List Step) (c j : ℕ) (keeper : Keeper config ss c j) → (List Deed → Type 0) → Alias → Position → Position → List Deed → Type 0
PromotedIn config ss c j keeper F a p q past = F past × WasAnswered (Made config ss c j keeper) a (calls.Promote p) (says.Promoted q) past

promoted_is : (answer : Answer) (q : Position) → promoted_position answer ≡ Ok q → answer ≡ says.Promoted q
promoted_is (says.Promoted p) q is = let same : p ≡ q = (let both : Ok p ≡ Ok q = is in cc) in ap (λ (v : Position). says.Promoted v) same
promoted_is (says.Status seen promised at newest p) q is = absurd (let wrong : Err exits.Strays ≡ Ok q = is in cc)
promoted_is (says.Stopped newest p) q is = absurd (let wrong : Err exits.Strays ≡ Ok q = is in cc)
promoted_is (says.Demoted newest p) q is = absurd (let wrong : Err exits.Strays ≡ Ok q = is in cc)
promoted_is says.Joined q is = absurd (let wrong : Err exits.Strays ≡ Ok q = is in cc)
promoted_is says.Feeding q is = absurd (let wrong : Err exits.Strays ≡ Ok q = is in cc)
promoted_is says.Holds q is = absurd (let wrong : Err exits.Strays ≡ Ok q = is in cc)
promoted_is says.Told q is = absurd (let wrong : Err exits.Strays ≡ Ok q = is in cc)
promoted_is says.NotTold q is = absurd (let wrong : Err exits.Strays ≡ Ok q = is in cc)
promoted_is (says.Kept at) q is = absurd (let wrong : Err exits.Strays ≡ Ok q = is in cc)
promoted_is (says.StaleTerm seen) q is = absurd (let wrong : Err exits.Strays ≡ Ok q = is in cc)
promoted_is (says.PromisedAhead promised) q is = absurd (let wrong : Err exits.Strays ≡ Ok q = is in cc)
promoted_is (says.NotCaughtUp missing) q is = absurd (let wrong : Err exits.Strays ≡ Ok q = is in cc)
promoted_is (says.Errant extra) q is = absurd (let wrong : Err exits.Strays ≡ Ok q = is in cc)
promoted_is (says.NotStanding newest) q is = absurd (let wrong : Err exits.Strays ≡ Ok q = is in cc)

position_so : (answer : Answer) → IsNoRefusal (promoted_position answer)
position_so (says.Promoted p) = tt
position_so _ = tt

pub promotes_goes : (config : Config) (ss : List Step) (c j : ℕ) (keeper : Keeper config ss c j) → PromotesFreely config ss c j keeper → (F : List Deed → Type 0) (a : Alias)
    (p : Position) → Stays F → HasAll config ss c j F a p
    → Goes (Made config ss c j keeper) (span_to config ss c j keeper) (λ q. ⊤) (Same (PromotedIn config ss c j keeper F a p)) (Only F (promotes a p)) (promotes a p)
unfolding promotes
promotes_goes config ss c j keeper free F a p stays has =
    bind_goes made span F (Answers made a (calls.Promote p)) (AnsweredIn made F a (calls.Promote p)) (λ q. ⊤) (Same (PromotedIn config ss c j keeper F a p))
    (intends a >> needs a (calls.Promote p)) (λ x. walked (promoted_position x))
    (bind_goes made span F (λ (x : Unit {0}). ⊤) (λ x b. F b) (Answers made a (calls.Promote p)) (Same (AnsweredIn made F a (calls.Promote p))) (intends a) (λ x. needs a (calls.Promote p))
    (intends_goes config ss c j keeper F a stays)
    (λ x q. needs_goes made span F a (calls.Promote p) stays (promote_granted config ss c j keeper free F a p has)))
    (λ x answers. weaker_goes made span (λ q. x ≡ says.Promoted q) (λ q. ⊤) (λ q b. AnsweredIn made F a (calls.Promote p) x b) (PromotedIn config ss c j keeper F a p)
    (Only (AnsweredIn made F a (calls.Promote p) x) (walked (promoted_position x))) (walked (promoted_position x)) (λ q is. tt)
    (λ q b is fact. (fact.0, subst (λ (y : Answer). WasAnswered made a (calls.Promote p) y b) is fact.1))
    (pure_goes made span (AnsweredIn made F a (calls.Promote p) x) (λ q. x ≡ says.Promoted q) (promoted_position x) (position_so x) (λ q is. promoted_is x q is)))
  where
    made : Doing
    made = Made config ss c j keeper

    span : List Deed
    span = span_to config ss c j keeper

-- ---- the WaitTold

told_granted : (config : Config) (ss : List Step) (c j : ℕ) (keeper : Keeper config ss c j) → PromotesFreely config ss c j keeper → (F : List Deed → Type 0) (a : Alias)
    (p q : Position) (timeout : ℕ) → ((past : List Deed) → F past → WasAnswered (Made config ss c j keeper) a (calls.Promote p) (says.Promoted q) past)
    → IsGranted (Made config ss c j keeper) F a (calls.WaitTold timeout)
told_granted config ss c j keeper free F a p q timeout promoted =
    granted config ss c j keeper F a (calls.WaitTold timeout) refl
    (λ x why past made fact came. free.settled x why made.stands
    (subst (λ (b : Alias). WasPromoted ss c b)
    (sym (made_call config ss c j keeper.state x a (calls.WaitTold timeout) past keeper.run made).alias) (sent past (promoted past fact))) came)
    (λ x said past made fact kept. unrefused x said past made (promoted past fact) kept)
  where
    sent : (past : List Deed) → WasAnswered (Made config ss c j keeper) a (calls.Promote p) (says.Promoted q) past → WasPromoted ss c a
    sent past was =
        subst (λ (b : Alias). WasPromoted ss c b) (made_call config ss c j keeper.state was.call_of a (calls.Promote p) was.finally.past keeper.run was.finally.made).alias
        (promote_sent config ss c j keeper a p was.call_of was.finally.past was.finally.made)

    intends : (past : List Deed) → WasAnswered (Made config ss c j keeper) a (calls.Promote p) (says.Promoted q) past → IsIntended (world_at config ss j).topo keeper.term a
    intends past was =
        let kept = kept_as config ss c j keeper was.call_of a (calls.Promote p) was.finally.past (says.Promoted q) was.finally.made refl was.finally.says in
        subst (λ (b : Alias). IsIntended (world_at config ss j).topo keeper.term b) kept.alias
        (promote_intends config ss c j keeper was.call_of p (says.Promoted q) kept.is_kept kept.call_is)

    unrefused : (x : Asked) (said : Answer) (past : List Deed) → (made : Made config ss c j keeper (wants.Ask a (calls.WaitTold timeout)) (deeds.Asked x) past)
        → WasAnswered (Made config ss c j keeper) a (calls.Promote p) (says.Promoted q) past
        → KeptCall config ss c j keeper x a (calls.WaitTold timeout) made.place said → refusal_to x said ≡ None
    unrefused x said past made was kept =
        let is = kept.is_kept in
        let at = is.answered.place in
        let after = is.answered.after_sent in
        let place = kept.place_is in
        let later = is.later in
        let until : ℕ = (world_at config ss made.place).clock + timeout in
        let me_is : is.answered.me.alias ≡ a = alias_found config x.alias is.answered.me is.answered.found ∙ kept.alias in
        let row = promoted_has config ss c keeper.term made.place at a p q keeper.run (omega (arith, after, place))
        (before config ss c j made.place keeper a (calls.Promote p) (says.Promoted q) past made.earlier refl
        (span_then config ss c j keeper.state (wants.Ask a (calls.WaitTold timeout)) (deeds.Asked x) past made) was) in
        let leads = free.leads a at is.answered.me is.call.call (sent past was) (intends past was) is.comes me_is (omega (arith, later, after)) is.answered.earlier row in
        let comes : ComesTo config ss c keeper.term at is.answered.me (calls.WaitTold until) =
        subst (λ (f : Call). ComesTo config ss c keeper.term at is.answered.me f) kept.call_is is.comes in
        let answers : answer_to (world_at config ss at).group is.answered.me keeper.term (calls.WaitTold until) ((world_at config ss at).tablets a) ≡ said =
        ap (λ (b : Alias). answer_to (world_at config ss at).group is.answered.me keeper.term (calls.WaitTold until) ((world_at config ss at).tablets b)) (sym me_is)
        ∙ ap (λ (f : Call). answer_to (world_at config ss at).group is.answered.me keeper.term f ((world_at config ss at).tablets is.answered.me.alias)) (sym kept.call_is) ∙ is.says in
        subst (λ (y : Answer). refusal_to x y ≡ None) answers
        (told_unrefused x (world_at config ss at).group is.answered.me keeper.term until ((world_at config ss at).tablets a)
        (leads_so keeper.term ((world_at config ss at).tablets a).stand leads)
        (λ not_told. not_told_late config ss c keeper.term keeper.taken j until x keeper.run
        (subst (λ (y : Answer). IsKeptCall config ss c keeper.term keeper.taken j x y) (sym answers ∙ not_told) is) kept.call_is (free.in_time at until is.answered.me comes))
        (λ t stale. never_stale config ss c j keeper x a (calls.WaitTold timeout) made.place said t kept (sym answers ∙ stale)))

-- ---- from the record to the end

-- whatever came of it
abbrev pub Anyhow : {A : Type 0} → A → A → List Deed → Type 0
Anyhow x y past = ⊤

abbrev ending : ℕ → Alias → List Deed → Answer → Course CommandAnswer
ending u a done x = walked (told_so x) >> gives (endings.Promoted a u (flat_map not_joined done))

abbrev waiting : ℕ → ℕ → Alias → List Deed → Course CommandAnswer
waiting timeout u a done = needs a (calls.WaitTold timeout) >>= ending u a done

-- the same end, with what the others' calls had come to by then
abbrev Endings : ℕ → Alias → Answer → Versions CommandAnswer
Endings u a x m past = (done : List Deed) × (m ≡ ending u a done x)

abbrev Waitings : (List Deed → Type 0) → ℕ → ℕ → Alias → Versions CommandAnswer
Waitings F timeout u a m past = (done : List Deed) × ((m ≡ waiting timeout u a done) × F past)

ending_goes : (made : Doing) (span : List Deed) (u : ℕ) (a : Alias) (done : List Deed) (x : Answer) → Goes made span Completes Anyhow (Endings u a x) (ending u a done x)
ending_goes made span u a done x rest end heeded = of_told (told_so x) refl
  where
    told_was : (r : Result (Unit {0}) Exit) (y : CommandAnswer) (more past : List Deed) → r ≡ Ok tt
        → Was (Anyhow y) (goes_on r (λ v. gives y) more).came (goes_on r (λ v. gives y) more).rest past more
    told_was (Ok v) y more past is = (refl, tt)
    told_was (Err e) y more past is = absurd (let wrong : Err e ≡ Ok tt = is in cc)

    was : told_so x ≡ Ok tt → (m : Course CommandAnswer) (b e more : List Deed) → Endings u a x m b → Later e []
        → Was (Anyhow (endings.Promoted a u (flat_map not_joined done))) (m (e ++ more)).came (m (e ++ more)).rest (b ++ e) more
    was told m b e more version later =
        let nothing = none_earlier e later in
        let y : CommandAnswer = endings.Promoted a u (flat_map not_joined version.0) in
        let there : ending u a version.0 x more ≡ m (e ++ more) =
        sym (ap (λ (n : Course CommandAnswer). n (e ++ more)) version.1 ∙ ap (λ (l : List Deed). ending u a version.0 x (l ++ more)) nothing) in
        subst (λ (w : Walked CommandAnswer). Was (Anyhow (endings.Promoted a u (flat_map not_joined done))) w.came w.rest (b ++ e) more) there
        (told_was (told_so x) y more (b ++ e) told)

    of_told : (r : Result (Unit {0}) Exit) → told_so x ≡ r
        → Going Completes Anyhow (Endings u a x) (goes_on r (λ v. gives (endings.Promoted a u (flat_map not_joined done))) rest).came rest
        (goes_on r (λ v. gives (endings.Promoted a u (flat_map not_joined done))) rest).rest
    of_told (Ok v) is = record { used = []; split = refl; is = Promotes a u (flat_map not_joined done); was = was is }
    of_told (Err e) is = of_exit e is
      where
        of_exit : (e : Exit) → told_so x ≡ Err e → Going Completes Anyhow (Endings u a x) (Err e) rest rest
        of_exit (exits.Refused r) k = never x k
          where
            never : (y : Answer) → told_so y ≡ Err (exits.Refused r) → ⊥
            never says.Told h = let wrong : Ok tt ≡ Err (exits.Refused r) = h in cc
            never _ h = let wrong : Err exits.Strays ≡ Err (exits.Refused r) = h in cc
        of_exit (exits.Does want) k = tt
        of_exit exits.Waits k = tt
        of_exit exits.Strays k = tt
        of_exit exits.OutOfMemory k = tt

waiting_goes : (config : Config) (ss : List Step) (c j : ℕ) (keeper : Keeper config ss c j) → PromotesFreely config ss c j keeper → (F : List Deed → Type 0) (a : Alias)
    (p q : Position) (timeout u : ℕ) → Stays F → ((past : List Deed) → F past → WasAnswered (Made config ss c j keeper) a (calls.Promote p) (says.Promoted q) past)
    → (done : List Deed) → Goes (Made config ss c j keeper) (span_to config ss c j keeper) Completes Anyhow (Waitings F timeout u a) (waiting timeout u a done)
waiting_goes config ss c j keeper free F a p q timeout u stays promoted done rest end =
    bind_along made span (Answers made a (calls.WaitTold timeout)) (Same (AnsweredIn made F a (calls.WaitTold timeout))) (Only F (needs a (calls.WaitTold timeout)))
    Completes Anyhow (Endings u a) (Waitings F timeout u a) (needs a (calls.WaitTold timeout)) (ending u a done) rest
    (needs_goes made span F a (calls.WaitTold timeout) stays (told_granted config ss c j keeper free F a p q timeout promoted) rest end)
    (λ x answers. ending_goes made span u a done x)
    (λ m b is. record {
      first = needs a (calls.WaitTold timeout);
      next = ending u a is.0;
      version = (refl, is.1.1);
      is = is.1.0;
      goes = λ x y past after. (is.0, ap (λ (v : Answer). ending u a is.0 v) after.0);
    }) end
  where
    made : Doing
    made = Made config ss c j keeper

    span : List Deed
    span = span_to config ss c j keeper

pub established_goes : (config : Config) (ss : List Step) (c j : ℕ) (keeper : Keeper config ss c j) → PromotesFreely config ss c j keeper → (F : List Deed → Type 0)
    (g : Group) (a : Alias) (p q : Position) (timeout u : ℕ) (others : List Alias) → Stays F
    → ((past : List Deed) → F past → WasAnswered (Made config ss c j keeper) a (calls.Promote p) (says.Promoted q) past)
    → Goes (Made config ss c j keeper) (span_to config ss c j keeper) Completes Anyhow (Only F (established timeout others u a q)) (established timeout others u a q)
unfolding established
established_goes config ss c j keeper free F g a p q timeout u others stays promoted rest end =
    bind_along made span (λ done. AreCalled span others kinds.SetSource done) (SettledIn F) (Only F first) Completes Anyhow (λ x. Waitings F timeout u a)
    (Only F (first >>= waiting timeout u a)) first (waiting timeout u a) rest
    (bind_goes made span F (λ (x : Unit {0}). ⊤) (λ x b. F b) (λ done. AreCalled span others kinds.SetSource done) (SettledIn F) (records a) (λ x. calls_all others joins)
    (records_goes config ss c j keeper F a stays)
    (λ x any. calls_goes made span F g others joins stays (calls_sound g span (λ r. ⊤) others joins (λ b. tt))) rest end)
    (λ done called. waiting_goes config ss c j keeper free F a p q timeout u stays promoted done)
    (λ m b is. record {
      first = first;
      next = waiting timeout u a;
      version = (refl, is.1);
      is = is.0;
      goes = λ x y past after. (y, (refl, after.0));
    }) end
  where
    joins : Call
    joins = calls.SetSource a u q

    made : Doing
    made = Made config ss c j keeper

    span : List Deed
    span = span_to config ss c j keeper

    first : Course (List Deed)
    first = records a >> calls_all others (calls.SetSource a u q)

-- ---- all of it

pub reparents_goes : (config : Config) (ss : List Step) (c j : ℕ) (keeper : Keeper config ss c j) → PromotesFreely config ss c j keeper → (F : List Deed → Type 0)
    (g : Group) (a : Alias) (p : Position) (timeout u : ℕ) (others : List Alias) → Stays F → HasAll config ss c j F a p
    → Goes (Made config ss c j keeper) (span_to config ss c j keeper) Completes Anyhow (Only F (reparents timeout others u a p)) (reparents timeout others u a p)
unfolding reparents
reparents_goes config ss c j keeper free F g a p timeout u others stays has =
    bind_goes (Made config ss c j keeper) (span_to config ss c j keeper) F (λ q. ⊤) (PromotedIn config ss c j keeper F a p) Completes Anyhow (promotes a p)
    (λ q. established timeout others u a q) (promotes_goes config ss c j keeper free F a p stays has)
    (λ q any. established_goes config ss c j keeper free (PromotedIn config ss c j keeper F a p q) g a p q timeout u others
    (λ b e fact. (stays b e fact.0, was_answered_stays (Made config ss c j keeper) a (calls.Promote p) (says.Promoted q) b e fact.1)) (λ past fact. fact.1))

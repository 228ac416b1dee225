-- What the evidence of a Promote says of the worlds before it: which answers stood in the post, and what their tablets had.
use Rattle.std.proofs.Common.{◌≡◌, ◌⊎◌, inl, inr, ℕ, suc, ◌<◌, Bool, true, false, ◌&&◌, ◌||◌, ◌==◌, refl, ap, sym, subst, ◌∙◌, arith, List, Option, Some, None}
use Rattle.std.proofs.lemmas.Bool.{false≢true}
use Rattle.std.proofs.lemmas.Bool.Decides.{nat_tests}
use Rattle.std.specs.List.{find}
use Rattle.shard_base.specs.Options.{◌>>=◌}
use Rattle.shard_names.specs.declared.alias.Alias.{Alias}
use Rattle.shard_names.specs.Tablets.{alias_eq, tablet_of}
use Rattle.shard_names.proofs.TabletLemmas.{both_left, both_right, alias_eq_is}
use Rattle.durability.specs.Rules.{Rules}
use Rattle.gtid_sets.specs.Position.{Position, count}
use Rattle.gtid_sets.specs.StoredPosition.{position_eq}
use Rattle.gtid_sets.proofs.PositionLemmas.{position_eq-Decides}
use Rattle.topo_lock.specs.declared.intent.Intent.{Intent}
use Rattle.shard_calls.specs.declared.answer.Answer.{Answer}
use Rattle.shard_calls.specs.declared.answer.Answer.TheVariants as answers
use Rattle.shard_calls.specs.declared.call.Call.{Call}
use Rattle.shard_calls.specs.declared.post.Content.{Content}
use Rattle.shard_calls.specs.declared.post.Content.TheVariants as contents
use Rattle.shard_calls.specs.declared.post.Message.{Message}
use Rattle.shard_calls.specs.declared.post.Settled.{Settled}
use Rattle.shard_calls.specs.declared.post.Settled.TheVariants as settleds
use Rattle.shard_calls.specs.World.{Config, World, numbered}
use Rattle.shard_calls.specs.declared.state.Act.{Act}
use Rattle.shard_calls.specs.declared.state.Act.TheVariants as acts
use Rattle.shard_calls.specs.declared.span.Outcome.{Outcome}
use Rattle.shard_calls.specs.declared.span.Outcome.TheVariants.{Answered, GivenUp}
use Rattle.shard_calls.specs.Outcomes.{answer_in, outcome_by, outcome_of, Sending, sending_by, sending_of, sendings}
use Rattle.gtid_sets.specs.declared.held.Held.{Held}
use Rattle.gtid_sets.specs.Winner.{winner}
use Rattle.shard_calls.specs.Evidence.{is_first, intends}
use Rattle.shard_calls.specs.Grounds.{asks_stop, asks_demote, is_asked, first_outcome, if_stopped, if_demoted, if_answered, stopped_at, demoted_at, last_before, is_of_term, passes_held, gave_up, stopped_among, has_stopped, revokes_all, stopped_all, may_lead, has_any_ground, grounded}
use Rattle.shard_laws.specs.TightMoves.{IsPosted}
use Rattle.shard_calls.proofs.SettleLemmas.{settled_in}
use Rattle.shard_calls.proofs.ToldLemmas.{IsTellingWorld}
use Rattle.shard_laws.proofs.AmongLemmas.{find_among, map_among}
use Rattle.shard_laws.proofs.TraceLemmas.{Trace, SaysAll, SaysFor, is_answered}

-- ---- what the first call of a kind came to

pub bind_some : {A B : Type 0} (o : Option A) (f : A → Option B) (y : B) → (o >>= f) ≡ Some y → (x : A) × (o ≡ Some x) × (f x ≡ Some y)
bind_some None f y h = absurd (let none : None ≡ Some y = h in cc)
bind_some (Some x) f y h = (x, refl, h)

same_says : (x y : Answer) → Some (Answered x) ≡ Some (Answered y) → x ≡ y
same_says x y h = cc

same_asked : (c d u v : ℕ) (a b : Alias) (x y : Call) → contents.Asks c u a x ≡ contents.Asks d v b y → a ≡ b
same_asked c d u v a b x y h = cc

same_message : (x y : Message) → Some x ≡ Some y → x ≡ y
same_message x y h = cc

pub record AnswersTo (w : World) (k : ℕ) (a : Alias) (says : Answer) : Type 0 where
  pub number : ℕ
  pub command : ℕ
  pub posted : IsPosted w.post number (contents.Answers command k a says)

answered_by : (w : World) (k c u n : ℕ) (a : Alias) (call : Call) (m : Message) (says : Answer) → IsTellingWorld w → numbered w.post k ≡ Some m
    → m.content ≡ contents.Asks c u a call → m.settled ≡ Some (settleds.Answered n) → outcome_by w.post (settleds.Answered n) ≡ Some (Answered says)
    → AnswersTo w k a says
answered_by w k c u n a call m says telling here carries settled h =
    let is = telling.settled k n (ap (λ (o : Option Message). settled_in o) here ∙ settled) in
    let fits = telling.answers n is.message is.command k is.from is.says is.at is.carries in
    let came : outcome_by w.post (settleds.Answered n) ≡ Some (Answered is.says) =
    ap (λ (o : Option Message). o >>= (λ x. answer_in x.content >>= (λ y. Some (Answered y)))) is.at
    ∙ ap (λ (x : Content). answer_in x >>= (λ y. Some (Answered y))) is.carries in
    let one : is.says ≡ says = same_says is.says says (sym came ∙ h) in
    let there : fits.there ≡ m = same_message fits.there m (sym fits.at ∙ here) in
    let who : is.from ≡ a = same_asked fits.command c fits.term u is.from a fits.call call (sym fits.carries ∙ ap (λ (x : Message). x.content) there ∙ carries) in
    record {
      number = n;
      command = is.command;
      posted = record {
        message = is.message;
        at = is.at;
        carries = is.carries ∙ ap (λ (x : Alias). contents.Answers is.command k x is.says) who ∙ ap (λ (x : Answer). contents.Answers is.command k a x) one;
      };
    }

pub settled_by : (w : World) (k c u : ℕ) (a : Alias) (call : Call) (m : Message) (says : Answer) (o : Option Settled) → IsTellingWorld w → numbered w.post k ≡ Some m
    → m.content ≡ contents.Asks c u a call → m.settled ≡ o → (o >>= outcome_by w.post) ≡ Some (Answered says) → AnswersTo w k a says
settled_by w k c u a call m says None telling here carries settled h = absurd (let none : None ≡ Some (Answered says) = h in cc)
settled_by w k c u a call m says (Some (settleds.Answered n)) telling here carries settled h = answered_by w k c u n a call m says telling here carries settled h
settled_by w k c u a call m says (Some (settleds.GaveUp why)) telling here carries settled h =
    absurd (let wrong : Some (GivenUp why) ≡ Some (Answered says) = h in cc)

-- a call among those that a command sent
pub record IsAsked (w : World) (x : Sending) : Type 0 where
  pub number : ℕ
  pub message : Message
  pub command : ℕ
  pub at : numbered w.post number ≡ Some message
  pub carries : message.content ≡ contents.Asks command x.term x.to x.call
  pub outcome : x.outcome ≡ outcome_of w.post message

some_sending : (x y : Sending) → Some x ≡ Some y → x ≡ y
some_sending x y h = cc

asked_by : (w : World) (k : ℕ) (m : Message) (content : Content) (x : Sending) → numbered w.post k ≡ Some m → m.content ≡ content → sending_by w.post m content ≡ Some x
    → IsAsked w x
asked_by w k m (contents.Asks command term to call) x here carries h =
    let same = some_sending (record { term = term; to = to; call = call; sent = m.sent; arrived = m.arrived; outcome = outcome_of w.post m }) x h in
    subst (λ (y : Sending). IsAsked w y) same (record { number = k; message = m; command = command; at = here; carries = carries; outcome = refl })
asked_by w k m (contents.Answers command asked from says) x here carries h = absurd (let none : None ≡ Some x = h in cc)
asked_by w k m (contents.Feeds from to term after index e) x here carries h = absurd (let none : None ≡ Some x = h in cc)
asked_by w k m (contents.Acks from to term index) x here carries h = absurd (let none : None ≡ Some x = h in cc)

pub asked_in : (w : World) (act : Act) (x : Sending) → sending_of w.post act ≡ Some x → IsAsked w x
asked_in w (acts.Took reply) x h = absurd (let none : None ≡ Some x = h in cc)
asked_in w (acts.Read reply) x h = absurd (let none : None ≡ Some x = h in cc)
asked_in w (acts.Intended a reply) x h = absurd (let none : None ≡ Some x = h in cc)
asked_in w (acts.Recorded a reply) x h = absurd (let none : None ≡ Some x = h in cc)
asked_in w (acts.Drained a reply) x h = absurd (let none : None ≡ Some x = h in cc)
asked_in w (acts.Sent k) x h =
    let found = bind_some (numbered w.post k) (λ m. sending_by w.post m m.content) x h in asked_by w k found.0 found.0.content x found.1 refl found.2
asked_in w (acts.Wrote a reply) x h = absurd (let none : None ≡ Some x = h in cc)
asked_in w (acts.Told committed) x h = absurd (let none : None ≡ Some x = h in cc)

first_heard : (rules : Rules) (config : Config) (at : ℕ → World) → Trace rules config at → (i u : ℕ) (list : List Act) (a : Alias) (test : Call → Bool) (says : Answer)
    → first_outcome (sendings (at i).post list) u a test ≡ Some (Answered says) → (j : ℕ) × (j < i) × SaysFor says u ((at j).tablets a) ((at (suc j)).tablets a)
first_heard rules config at trace i u list a test says h =
    let found = bind_some (find (is_asked u a test) (sendings (at i).post list)) (λ s. s.outcome) (Answered says) h in
    let among = find_among (is_asked u a test) (sendings (at i).post list) found.0 found.1 in
    let act = map_among (sending_of (at i).post) list found.0 among.0 in
    let asked = asked_in (at i) act.0 found.0 act.2 in
    let two : ((found.0.term == u) && alias_eq found.0.to a) ≡ true = both_left ((found.0.term == u) && alias_eq found.0.to a) (test found.0.call) among.1 in
    let term : found.0.term ≡ u = (let one = both_left (found.0.term == u) (alias_eq found.0.to a) two in grind (arith, nat_tests)) in
    let who : found.0.to ≡ a = alias_eq_is found.0.to a (both_right (found.0.term == u) (alias_eq found.0.to a) two) in
    let carries : asked.message.content ≡ contents.Asks asked.command u a found.0.call =
    asked.carries ∙ ap (λ (n : ℕ). contents.Asks asked.command n found.0.to found.0.call) term ∙ ap (λ (b : Alias). contents.Asks asked.command u b found.0.call) who in
    let answer = settled_by (at i) asked.number asked.command u a found.0.call asked.message says asked.message.settled (trace.telling i) asked.at carries refl
    (sym asked.outcome ∙ found.2) in
    is_answered rules config at trace i answer.number asked.number answer.command asked.command u a found.0.call says
    (record { message = asked.message; at = asked.at; carries = carries }) answer.posted

-- ---- what a tablet had when it stopped or gave up its place

-- a tablet answered, in this term, that it had this, which it had at an earlier step
pub record IsHeard (at : ℕ → World) (i u : ℕ) (a : Alias) (h : Held) : Type 0 where
  pub step : ℕ
  pub earlier : step < i
  pub says : SaysAll u ((at step).tablets a) ((at (suc step)).tablets a) h.newest h.position

answered_in : (f : Answer → Option Held) (o : Outcome) (h : Held) → if_answered f o ≡ Some h → (says : Answer) × (o ≡ Answered says) × (f says ≡ Some h)
answered_in f (Answered says) h is = (says, refl, is)
answered_in f (GivenUp why) h is = absurd (let none : None ≡ Some h = is in cc)

abbrev Stopping : Held → Answer → Type 0
Stopping h says = says ≡ answers.Stopped h.newest h.position

some_held : (x h : Held) → Some x ≡ Some h → x ≡ h
some_held x h is = cc

stopping : (a : Alias) (says : Answer) (h : Held) → if_stopped a says ≡ Some h → (h.alias ≡ a) × (says ≡ answers.Stopped h.newest h.position)
stopping a (answers.Stopped newest position) h is =
    let same = some_held (record { alias = a; newest = newest; position = position }) h is in
    (ap (λ (x : Held). x.alias) (sym same), ap (λ (x : Held). answers.Stopped x.newest x.position) same)
stopping a (answers.Status seen promised at newest position) h is = absurd (let none : None ≡ Some h = is in cc)
stopping a (answers.Demoted newest position) h is = absurd (let none : None ≡ Some h = is in cc)
stopping a (answers.Promoted position) h is = absurd (let none : None ≡ Some h = is in cc)
stopping a answers.Joined h is = absurd (let none : None ≡ Some h = is in cc)
stopping a answers.Feeding h is = absurd (let none : None ≡ Some h = is in cc)
stopping a answers.Holds h is = absurd (let none : None ≡ Some h = is in cc)
stopping a answers.Told h is = absurd (let none : None ≡ Some h = is in cc)
stopping a answers.NotTold h is = absurd (let none : None ≡ Some h = is in cc)
stopping a (answers.Kept at) h is = absurd (let none : None ≡ Some h = is in cc)
stopping a (answers.StaleTerm seen) h is = absurd (let none : None ≡ Some h = is in cc)
stopping a (answers.PromisedAhead promised) h is = absurd (let none : None ≡ Some h = is in cc)
stopping a (answers.NotCaughtUp missing) h is = absurd (let none : None ≡ Some h = is in cc)
stopping a (answers.Errant extra) h is = absurd (let none : None ≡ Some h = is in cc)
stopping a (answers.NotStanding newest) h is = absurd (let none : None ≡ Some h = is in cc)

demoting : (a : Alias) (says : Answer) (h : Held) → if_demoted a says ≡ Some h → (h.alias ≡ a) × (says ≡ answers.Demoted h.newest h.position)
demoting a (answers.Demoted newest position) h is =
    let same = some_held (record { alias = a; newest = newest; position = position }) h is in
    (ap (λ (x : Held). x.alias) (sym same), ap (λ (x : Held). answers.Demoted x.newest x.position) same)
demoting a (answers.Status seen promised at newest position) h is = absurd (let none : None ≡ Some h = is in cc)
demoting a (answers.Stopped newest position) h is = absurd (let none : None ≡ Some h = is in cc)
demoting a (answers.Promoted position) h is = absurd (let none : None ≡ Some h = is in cc)
demoting a answers.Joined h is = absurd (let none : None ≡ Some h = is in cc)
demoting a answers.Feeding h is = absurd (let none : None ≡ Some h = is in cc)
demoting a answers.Holds h is = absurd (let none : None ≡ Some h = is in cc)
demoting a answers.Told h is = absurd (let none : None ≡ Some h = is in cc)
demoting a answers.NotTold h is = absurd (let none : None ≡ Some h = is in cc)
demoting a (answers.Kept at) h is = absurd (let none : None ≡ Some h = is in cc)
demoting a (answers.StaleTerm seen) h is = absurd (let none : None ≡ Some h = is in cc)
demoting a (answers.PromisedAhead promised) h is = absurd (let none : None ≡ Some h = is in cc)
demoting a (answers.NotCaughtUp missing) h is = absurd (let none : None ≡ Some h = is in cc)
demoting a (answers.Errant extra) h is = absurd (let none : None ≡ Some h = is in cc)
demoting a (answers.NotStanding newest) h is = absurd (let none : None ≡ Some h = is in cc)

pub stopped_heard : (rules : Rules) (config : Config) (at : ℕ → World) → Trace rules config at → (i : ℕ) (list : List Act) (u : ℕ) (a : Alias) (h : Held)
    → stopped_at (sendings (at i).post list) u a ≡ Some h → IsHeard at i u a h
stopped_heard rules config at trace i list u a h is =
    let came = bind_some (first_outcome (sendings (at i).post list) u a asks_stop) (if_answered (if_stopped a)) h is in
    let says = answered_in (if_stopped a) came.0 h came.2 in
    let held = stopping a says.0 h says.2 in
    let heard = first_heard rules config at trace i u list a asks_stop (answers.Stopped h.newest h.position)
    (came.1 ∙ ap (λ (o : Outcome). Some o) says.1 ∙ ap (λ (x : Answer). Some (Answered x)) held.1) in
    record { step = heard.0; earlier = heard.1; says = heard.2 }

pub demoted_heard : (rules : Rules) (config : Config) (at : ℕ → World) → Trace rules config at → (i : ℕ) (list : List Act) (u : ℕ) (a : Alias) (h : Held)
    → demoted_at (sendings (at i).post list) u a ≡ Some h → IsHeard at i u a h
demoted_heard rules config at trace i list u a h is =
    let came = bind_some (first_outcome (sendings (at i).post list) u a asks_demote) (if_answered (if_demoted a)) h is in
    let says = answered_in (if_demoted a) came.0 h came.2 in
    let held = demoting a says.0 h says.2 in
    let heard = first_heard rules config at trace i u list a asks_demote (answers.Demoted h.newest h.position)
    (came.1 ∙ ap (λ (o : Outcome). Some o) says.1 ∙ ap (λ (x : Answer). Some (Answered x)) held.1) in
    record { step = heard.0; earlier = heard.1; says = heard.2 }

-- ---- the three grounds

pub data IsGrounded (rules : Rules) (config : Config) (at : ℕ → World) (i u : ℕ) (p : Position) : Type 0 where
  ByFirst : is_first (at i).topo u ≡ true → IsGrounded rules config at i u p
  ByGivenUp : (x : Intent) (h : Held) → last_before (at i).topo u ≡ Some x → IsHeard at i u x.alias h → h.newest ≡ x.term → p ≡ h.position
      → IsGrounded rules config at i u p
  ByStopped : (list : List Act) (h : Held) → revokes_all rules config.tablets (has_stopped (sendings (at i).post list) u) ≡ true
      → winner (stopped_among config.tablets (sendings (at i).post list) u) ≡ Some h → p ≡ h.position → IsGrounded rules config at i u p

pub or_cases : (a b : Bool) → (a || b) ≡ true → (a ≡ true) ⊎ (b ≡ true)
or_cases true b h = inl refl
or_cases false b h = inr h

pub held_passes : (test : Held → Bool) (o : Option Held) → passes_held test o ≡ true → (h : Held) × (o ≡ Some h) × (test h ≡ true)
held_passes test None is = absurd (false≢true is)
held_passes test (Some h) is = (h, refl, is)

by_given_up : (rules : Rules) (config : Config) (at : ℕ → World) → Trace rules config at → (i : ℕ) (list : List Act) (u : ℕ) (p : Position) (o : Option Intent)
    → last_before (at i).topo u ≡ o → gave_up (sendings (at i).post list) u p o ≡ true → IsGrounded rules config at i u p
by_given_up rules config at trace i list u p None last is = absurd (false≢true is)
by_given_up rules config at trace i list u p (Some x) last is =
    let held = held_passes (is_of_term x.term p) (demoted_at (sendings (at i).post list) u x.alias) is in
    let term : held.0.newest ≡ x.term = (let one = both_left (held.0.newest == x.term) (position_eq p held.0.position) held.2 in grind (arith, nat_tests)) in
    let position : p ≡ held.0.position = (position_eq-Decides p held.0.position).0 (both_right (held.0.newest == x.term) (position_eq p held.0.position) held.2) in
    ByGivenUp x held.0 last (demoted_heard rules config at trace i list u x.alias held.0 held.1) term position

by_stopped : (rules : Rules) (config : Config) (at : ℕ → World) (i : ℕ) (list : List Act) (u : ℕ) (p : Position) → stopped_all rules config.tablets (sendings (at i).post list) u p ≡ true
    → IsGrounded rules config at i u p
by_stopped rules config at i list u p is =
    let revokes = both_left (revokes_all rules config.tablets (has_stopped (sendings (at i).post list) u)) (passes_held (λ h. position_eq p h.position) (winner (stopped_among config.tablets (sendings (at i).post list) u))) is in
    let wins = both_right (revokes_all rules config.tablets (has_stopped (sendings (at i).post list) u)) (passes_held (λ h. position_eq p h.position) (winner (stopped_among config.tablets (sendings (at i).post list) u))) is in
    let held = held_passes (λ h. position_eq p h.position) (winner (stopped_among config.tablets (sendings (at i).post list) u)) wins in
    ByStopped list held.0 revokes held.1 ((position_eq-Decides p held.0.position).0 held.2)

pub any_ground : (rules : Rules) (config : Config) (at : ℕ → World) → Trace rules config at → (i : ℕ) (list : List Act) (u : ℕ) (p : Position)
    → has_any_ground rules config.tablets (at i).topo (sendings (at i).post list) u p ≡ true → IsGrounded rules config at i u p
any_ground rules config at trace i list u p is = of_cases (or_cases (first || given) stopped is)
  where
    first : Bool
    first = is_first (at i).topo u && (count p == 0)

    given : Bool
    given = gave_up (sendings (at i).post list) u p (last_before (at i).topo u)

    stopped : Bool
    stopped = stopped_all rules config.tablets (sendings (at i).post list) u p

    of_two : (first ≡ true) ⊎ (given ≡ true) → IsGrounded rules config at i u p
    of_two (inl h) = ByFirst (both_left (is_first (at i).topo u) (count p == 0) h)
    of_two (inr h) = by_given_up rules config at trace i list u p (last_before (at i).topo u) refl h

    of_cases : ((first || given) ≡ true) ⊎ (stopped ≡ true) → IsGrounded rules config at i u p
    of_cases (inl h) = of_two (or_cases first given h)
    of_cases (inr h) = by_stopped rules config at i list u p h

-- what the sender of a Promote knew
pub record HasGround (rules : Rules) (config : Config) (at : ℕ → World) (i u : ℕ) (a : Alias) (p : Position) : Type 0 where
  pub eligible : may_lead rules (tablet_of config.tablets a) ≡ true
  pub intended : intends (at i).topo u a ≡ true
  pub ground : IsGrounded rules config at i u p

pub has_ground : (rules : Rules) (config : Config) (at : ℕ → World) → Trace rules config at → (i u : ℕ) (a : Alias) (p : Position)
    → (list : List Act) × (grounded rules config.tablets (at i).topo (sendings (at i).post list) u a p ≡ true) → HasGround rules config at i u a p
has_ground rules config at trace i u a p (list, is) =
    let eligible = may_lead rules (tablet_of config.tablets a) in
    let any = has_any_ground rules config.tablets (at i).topo (sendings (at i).post list) u p in
    let two = both_left (eligible && intends (at i).topo u a) any is in
    record {
      eligible = both_left eligible (intends (at i).topo u a) two;
      intended = both_right eligible (intends (at i).topo u a) two;
      ground = any_ground rules config at trace i list u p (both_right (eligible && intends (at i).topo u a) any is);
    }

-- That what settled a call, as the post keeps it, is what first settled it in the steps.
use Rattle.std.proofs.Common.{◌≡◌, ℕ, Bool, true, false, ◌==◌, refl, ap, sym, subst, ◌∙◌, arith, List, [], ◌∷◌, cond, Option, Some, None, option_map, unwrap_or}
use Rattle.std.proofs.lemmas.Bool.Decides.{nat_tests}
use Rattle.shard_base.specs.Options.{◌>>=◌}
use Rattle.shard_names.specs.Tablets.{tablet_of}
use Rattle.shard_calls.specs.declared.event.Event.{Event}
use Rattle.shard_calls.specs.declared.event.Event.TheVariants as events
use Rattle.shard_calls.specs.declared.event.Reply.{Reply}
use Rattle.shard_calls.specs.declared.event.Step.{Step}
use Rattle.shard_calls.specs.declared.post.Content.{Content}
use Rattle.shard_calls.specs.declared.post.Content.TheVariants as contents
use Rattle.shard_calls.specs.declared.post.Message.{Message}
use Rattle.shard_calls.specs.declared.post.Settled.{Settled}
use Rattle.shard_calls.specs.declared.post.Settled.TheVariants as settleds
use Rattle.shard_calls.specs.declared.state.CommandState.{CommandState}
use Rattle.shard_calls.specs.declared.why.Why.{Why}
use Rattle.shard_calls.specs.Tablets.{accepts}
use Rattle.shard_calls.specs.World.{Config, World, on_message, arrives, vanishes, settles, numbered, changed_at, open_command, term_of}
use Rattle.shard_calls.specs.Messages.{why_by, why_given_up, offer_to}
use Rattle.shard_calls.specs.Locks.{reads, intends_in, records_in, drains_in, releases_in}
use Rattle.shard_calls.specs.Deliveries.{after_arrival, after_delivery, gives_up, why_reply}
use Rattle.shard_calls.specs.Writes.{told_act, tell_of}
use Rattle.shard_calls.specs.Table.{after, answer, world_after, IsRunFrom}
use Rattle.shard_calls.specs.Answered.{if_call, settled_by_answer, given_up_by_reply, settles_call, first_of, first_settling}
use Rattle.shard_calls.proofs.ListLemmas.{numbered_changed, numbered_other}
use Rattle.shard_calls.proofs.PostLemmas.{post_take, post_by, post_declared, post_write, post_told, post_end}
use Rattle.shard_calls.proofs.WorldLemmas.{IsSoundWorld}
use Rattle.shard_calls.proofs.StepLemmas.{sound_after}
use Rattle.shard_calls.proofs.SettleLemmas.{settled_in, push_settled, change_settled, arrived_settled, arrived_stay, asked_settled, fed_settled, offer_settled}
use Rattle.shard_calls.proofs.ToldLemmas.{IsTellingWorld, telling_after}

-- ---- the first of two

first_none : (o : Option Settled) → first_of o None ≡ o
first_none None = refl
first_none (Some x) = refl

first_assoc : (o p q : Option Settled) → first_of (first_of o p) q ≡ first_of o (first_of p q)
first_assoc None p q = refl
first_assoc (Some x) p q = refl

-- what settled call k, after an event that settles it so
abbrev Exact : World → List Message → ℕ → Option Settled → Type 0
Exact w new k o = settled_in (numbered new k) ≡ first_of (settled_in (numbered w.post k)) o

nothing : (w : World) (new : List Message) (k : ℕ) → settled_in (numbered new k) ≡ settled_in (numbered w.post k) → Exact w new k None
nothing w new k same = same ∙ sym (first_none (settled_in (numbered w.post k)))

unchanged : (w : World) (new : List Message) (k : ℕ) → new ≡ w.post → Exact w new k None
unchanged w new k same = nothing w new k (ap (λ (xs : List Message). settled_in (numbered xs k)) same)

-- a call that is there is settled, unless it is already
settle_exact : (xs : List Message) (d k : ℕ) (x : Settled) (m : Message) → numbered xs d ≡ Some m
    → settled_in (numbered (changed_at xs d (settles x)) k) ≡ first_of (settled_in (numbered xs k)) (if_call d k x)
settle_exact xs d k x m here = of_test (d == k) refl
  where
    of_settled : (o : Option Settled) → Some (unwrap_or o x) ≡ first_of o (Some x)
    of_settled None = refl
    of_settled (Some y) = refl

    own : settled_in (numbered (changed_at xs d (settles x)) d) ≡ first_of (settled_in (numbered xs d)) (Some x)
    own = ap (λ (o : Option Message). settled_in o) (numbered_changed xs d (settles x) ∙ ap (λ (o : Option Message). option_map (settles x) o) here)
        ∙ of_settled m.settled ∙ ap (λ (o : Option Message). first_of (settled_in o) (Some x)) (sym here)

    of_test : (b : Bool) → (d == k) ≡ b
        → settled_in (numbered (changed_at xs d (settles x)) k) ≡ first_of (settled_in (numbered xs k)) (cond b (Some x) None)
    of_test true e =
        let same : d ≡ k = grind (arith, nat_tests) in
        subst (λ (n : ℕ). settled_in (numbered (changed_at xs d (settles x)) n) ≡ first_of (settled_in (numbered xs n)) (Some x)) same own
    of_test false e = ap (λ (o : Option Message). settled_in o) (numbered_other xs d k (settles x) e) ∙ sym (first_none (settled_in (numbered xs k)))

-- ---- delivery and giving up

answered_exact : (w : World) (j k c call : ℕ) (q : Message) → numbered w.post call ≡ Some q
    → Exact w (changed_at (changed_at w.post j (arrives w.clock)) call (settles (settleds.Answered j))) k (if_call call k (settleds.Answered j))
answered_exact w j k c call q there =
    let r = arrived_stay w j call q there in
    settle_exact (changed_at w.post j (arrives w.clock)) call k (settleds.Answered j) r.0 r.1
    ∙ ap (λ (o : Option Settled). first_of o (if_call call k (settleds.Answered j))) (arrived_settled w j k)

arrival_exact : (config : Config) (w : World) (j k : ℕ) (m : Message) (content : Content) → IsTellingWorld w → numbered w.post j ≡ Some m → m.content ≡ content
    → Exact w (after_arrival config (on_message w j (arrives w.clock)) j content).post k (settled_by_answer j k content)
arrival_exact config w j k m (contents.Asks c u a call) telling here carries = nothing w _ k (asked_settled w j k c u a call (tablet_of config.tablets a))
arrival_exact config w j k m (contents.Answers c call from says) telling here carries =
    let fits = telling.answers j m c call from says here carries in answered_exact w j k c call fits.there fits.at
arrival_exact config w j k m (contents.Feeds from to term before index x) telling here carries =
    nothing w _ k (fed_settled w j k term index from to _ (accepts from term before index x (w.tablets to)).says)
arrival_exact config w j k m (contents.Acks from to term index) telling here carries = nothing w _ k (arrived_settled w j k)

delivery_exact : (config : Config) (w : World) (j k : ℕ) (o : Option Message) → IsTellingWorld w → numbered w.post j ≡ o
    → Exact w (after_delivery config w j o).post k (o >>= (λ m. settled_by_answer j k m.content))
delivery_exact config w j k None telling here = nothing w _ k refl
delivery_exact config w j k (Some m) telling here = arrival_exact config w j k m m.content telling here refl

-- a call that is given up is there
given_there : (o : Option CommandState) (p : Option Message) (f : CommandState → Message → Option Why) (why : Why)
    → (o >>= (λ s. p >>= (λ m. f s m))) ≡ Some why → (m : Message) × (p ≡ Some m)
given_there None p f why h = absurd (let none : None ≡ Some why = h in cc)
given_there (Some s) None f why h = absurd (let none : None ≡ Some why = h in cc)
given_there (Some s) (Some m) f why h = (m, refl)

up_exact : (w : World) (c j k : ℕ) (o : Option Why) → why_given_up w c j ≡ o
    → Exact w (gives_up w j o).post k (given_up_by_reply (why_reply o) >>= (λ x. if_call j k x))
up_exact w c j k None is = nothing w _ k refl
up_exact w c j k (Some why) is =
    let there = given_there (open_command w c) (numbered w.post j) (λ s m. why_by w c j s m m.content) why is in
    settle_exact w.post j k (settleds.GaveUp why) there.0 there.1

-- ---- each step

exact : (config : Config) (w : World) (e : Event) (k : ℕ) → IsTellingWorld w → Exact w (after config w e).post k (settles_call w k e (answer config w e))
exact config w (events.Begin name command) k telling = unchanged w _ k refl
exact config w (events.Take c) k telling = unchanged w _ k (post_take w c (open_command w c))
exact config w (events.Read c) k telling = unchanged w _ k (post_by w (reads w c) (term_of w c) (λ t. refl))
exact config w (events.Intend c a) k telling = unchanged w _ k (post_by w (intends_in w c a) (term_of w c) (λ t. refl))
exact config w (events.Record c a) k telling = unchanged w _ k (post_by w (records_in w c a) (term_of w c) (λ t. refl))
exact config w (events.Drain c a) k telling = unchanged w _ k (post_by w (drains_in w c a) (term_of w c) (λ t. refl))
exact config w (events.Release c) k telling = unchanged w _ k (post_by w (releases_in w c) (term_of w c) (λ t. refl))
exact config w events.Lapse k telling = unchanged w _ k refl
exact config w (events.Send c a call) k telling = nothing w _ k (push_settled w.post _ k refl)
exact config w (events.Deliver j) k telling = delivery_exact config w j k (numbered w.post j) telling refl
exact config w (events.GiveUp c j) k telling = up_exact w c j k (why_given_up w c j) refl
exact config w (events.Offer r) k telling = nothing w _ k (offer_settled w k (offer_to w r))
exact config w (events.Write c a) k telling = unchanged w _ k (post_write config w c a (open_command w c))
exact config w (events.Tell c) k telling = unchanged w _ k (post_told w c (tell_of w c >>= told_act))
exact config w (events.Local a) k telling = unchanged w _ k (post_declared w _ (tablet_of config.tablets a) (λ me. refl))
exact config w (events.Crash a keep) k telling = unchanged w _ k refl
exact config w (events.Restart a) k telling = unchanged w _ k refl
exact config w (events.Cut x y) k telling = unchanged w _ k refl
exact config w (events.Mend x y) k telling = unchanged w _ k refl
exact config w (events.Lose j) k telling = nothing w _ k (change_settled w.post j k vanishes (λ m. refl))
exact config w (events.Tick ms) k telling = unchanged w _ k refl
exact config w (events.End c x) k telling = unchanged w _ k (post_end w c (open_command w c))

pub outcomes_along : (config : Config) (w : World) (ss : List Step) (k : ℕ) → IsRunFrom config w ss → IsSoundWorld w → IsTellingWorld w
    → settled_in (numbered (world_after config w ss).post k) ≡ first_of (settled_in (numbered w.post k)) (first_settling config w k ss)
outcomes_along config w [] k run sound telling = sym (first_none (settled_in (numbered w.post k)))
outcomes_along config w (s ∷ ss) k run sound telling =
    let here : settled_in (numbered (after config w s.event).post k) ≡ first_of (settled_in (numbered w.post k)) (settles_call w k s.event s.reply) =
    exact config w s.event k telling ∙ ap (λ (r : Reply). first_of (settled_in (numbered w.post k)) (settles_call w k s.event r)) (sym run.0.answered) in
    outcomes_along config (after config w s.event) ss k run.1 (sound_after config w s.event run.0.met sound) (telling_after config w s.event sound telling)
    ∙ ap (λ (o : Option Settled). first_of o (first_settling config (after config w s.event) k ss)) here
    ∙ first_assoc (settled_in (numbered w.post k)) (settles_call w k s.event s.reply) (first_settling config (after config w s.event) k ss)

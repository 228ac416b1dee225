-- What has become of a call stays: once it is settled it is settled so, and what its answer said stays.
use Rattle.std.proofs.Common.{◌≡◌, ◌⊎◌, inl, inr, refl, ap, sym, subst, ◌∙◌, arith, ℕ, Bool, true, false, ◌==◌, List, Option, Some, None, option_map, unwrap_or}
use Rattle.std.proofs.lemmas.Bool.{false≢true}
use Rattle.std.proofs.lemmas.Bool.Decides.{nat_tests}
use Rattle.shard_base.specs.Options.{◌>>=◌}
use Rattle.shard_calls.specs.declared.event.Event.{Event}
use Rattle.shard_calls.specs.declared.event.Event.TheVariants as events
use Rattle.shard_calls.specs.declared.post.Content.{Content}
use Rattle.shard_calls.specs.declared.post.Content.TheVariants as contents
use Rattle.shard_calls.specs.declared.post.Message.{Message}
use Rattle.shard_calls.specs.declared.post.Settled.{Settled}
use Rattle.shard_calls.specs.declared.post.Settled.TheVariants as settleds
use Rattle.shard_calls.specs.declared.span.Outcome.{Outcome}
use Rattle.shard_calls.specs.declared.span.Outcome.TheVariants as outcomes
use Rattle.shard_calls.specs.declared.why.Why.{Why}
use Rattle.shard_names.specs.Tablets.{tablet_of}
use Rattle.shard_calls.specs.Deliveries.{after_arrival, after_delivery, gives_up}
use Rattle.shard_calls.specs.Messages.{why_given_up}
use Rattle.shard_calls.specs.Outcomes.{answer_in, outcome_by, outcome_of, settled_in}
use Rattle.shard_calls.specs.Table.{after}
use Rattle.shard_calls.specs.Tablets.{accepts}
use Rattle.shard_calls.specs.World.{Config, World, on_message, arrives, settles, numbered, changed_at}
use Rattle.shard_calls.proofs.ListLemmas.{numbered_changed, numbered_other}
use Rattle.shard_calls.proofs.SettleLemmas.{Stay, Settling, ByAnswer, ByGivingUp, SettledCases, settled_cases, arrived_settled, asked_settled, fed_settled}

-- ---- what is settled stays so

abbrev pub Firm : List Message → List Message → Type 0
Firm old new = (k : ℕ) (x : Settled) → settled_in (numbered old k) ≡ Some x → settled_in (numbered new k) ≡ Some x

settles_firm : (xs : List Message) (d : ℕ) (y : Settled) → Firm xs (changed_at xs d (settles y))
settles_firm xs d y k x h = of_test (d == k) refl
  where
    mapped : (o : Option Message) → settled_in o ≡ Some x → settled_in (option_map (settles y) o) ≡ Some x
    mapped None is = absurd (let wrong : None ≡ Some x = is in cc)
    mapped (Some m) is = ap (λ (o : Option Settled). Some (unwrap_or o y)) is

    of_test : (b : Bool) → (d == k) ≡ b → settled_in (numbered (changed_at xs d (settles y)) k) ≡ Some x
    of_test true e =
        let same : d ≡ k = grind (arith, nat_tests) in
        subst (λ (n : ℕ). settled_in (numbered (changed_at xs d (settles y)) n) ≡ Some x) same
        (ap (λ (o : Option Message). settled_in o) (numbered_changed xs d (settles y))
        ∙ mapped (numbered xs d) (ap (λ (n : ℕ). settled_in (numbered xs n)) same ∙ h))
    of_test false e = ap (λ (o : Option Message). settled_in o) (numbered_other xs d k (settles y) e) ∙ h

arrival_firm : (config : Config) (w : World) (j : ℕ) (content : Content) → Firm w.post (after_arrival config (on_message w j (arrives w.clock)) j content).post
arrival_firm config w j (contents.Asks c u a call) k x h = asked_settled w j k c u a call (tablet_of config.tablets a) ∙ h
arrival_firm config w j (contents.Answers c call from says) k x h =
    settles_firm (changed_at w.post j (arrives w.clock)) call (settleds.Answered j) k x (arrived_settled w j k ∙ h)
arrival_firm config w j (contents.Feeds from to term before index e) k x h =
    fed_settled w j k term index from to _ (accepts from term before index e (w.tablets to)).says ∙ h
arrival_firm config w j (contents.Acks from to term index) k x h = arrived_settled w j k ∙ h

delivery_firm : (config : Config) (w : World) (j : ℕ) (o : Option Message) → Firm w.post (after_delivery config w j o).post
delivery_firm config w j None k x h = h
delivery_firm config w j (Some there) k x h = arrival_firm config w j there.content k x h

up_firm : (w : World) (j : ℕ) (o : Option Why) → Firm w.post (gives_up w j o).post
up_firm w j None k x h = h
up_firm w j (Some why) k x h = settles_firm w.post j (settleds.GaveUp why) k x h

abbrev may_settle : Event → Bool
may_settle (events.Deliver j) = true
may_settle (events.GiveUp c j) = true
may_settle _ = false

settling_may : (w : World) (e : Event) (k : ℕ) (o : Option Settled) → Settling w e k o → may_settle e ≡ true
settling_may w _ k _ (ByAnswer j n c from says a at carries) = refl
settling_may w _ k _ (ByGivingUp c n why) = refl

quiet_firm : (config : Config) (w : World) (e : Event) → may_settle e ≡ false → Firm w.post (after config w e).post
quiet_firm config w e quiet k x h = of_cases (settled_cases config w e k)
  where
    of_cases : SettledCases w (after config w e).post e k → settled_in (numbered (after config w e).post k) ≡ Some x
    of_cases (inl same) = same ∙ h
    of_cases (inr settling) = absurd (false≢true (sym quiet ∙ settling_may w e k _ settling))

pub post_firm : (config : Config) (w : World) (e : Event) → Firm w.post (after config w e).post
post_firm config w (events.Deliver j) = delivery_firm config w j (numbered w.post j)
post_firm config w (events.GiveUp c j) = up_firm w j (why_given_up w c j)
post_firm config w (events.Begin name command) = quiet_firm config w (events.Begin name command) refl
post_firm config w (events.Take c) = quiet_firm config w (events.Take c) refl
post_firm config w (events.Read c) = quiet_firm config w (events.Read c) refl
post_firm config w (events.Intend c a) = quiet_firm config w (events.Intend c a) refl
post_firm config w (events.Record c a) = quiet_firm config w (events.Record c a) refl
post_firm config w (events.Drain c a) = quiet_firm config w (events.Drain c a) refl
post_firm config w (events.Release c) = quiet_firm config w (events.Release c) refl
post_firm config w events.Lapse = quiet_firm config w events.Lapse refl
post_firm config w (events.Send c a call) = quiet_firm config w (events.Send c a call) refl
post_firm config w (events.Offer r) = quiet_firm config w (events.Offer r) refl
post_firm config w (events.Write c a) = quiet_firm config w (events.Write c a) refl
post_firm config w (events.Tell c) = quiet_firm config w (events.Tell c) refl
post_firm config w (events.Local a) = quiet_firm config w (events.Local a) refl
post_firm config w (events.Crash a keep) = quiet_firm config w (events.Crash a keep) refl
post_firm config w (events.Restart a) = quiet_firm config w (events.Restart a) refl
post_firm config w (events.Cut x y) = quiet_firm config w (events.Cut x y) refl
post_firm config w (events.Mend x y) = quiet_firm config w (events.Mend x y) refl
post_firm config w (events.Lose j) = quiet_firm config w (events.Lose j) refl
post_firm config w (events.Tick ms) = quiet_firm config w (events.Tick ms) refl
post_firm config w (events.End c x) = quiet_firm config w (events.End c x) refl

-- ---- what a call came to

answer_stays : (old new : List Message) (n : ℕ) → Stay old new → (outcome_by old (settleds.Answered n) ≡ None) ⊎ (outcome_by new (settleds.Answered n) ≡ outcome_by old (settleds.Answered n))
answer_stays old new n stay = of_option (numbered old n) refl
  where
    said : Content → Option Outcome
    said content = answer_in content >>= (λ x. Some (outcomes.Answered x))

    of_option : (o : Option Message) → numbered old n ≡ o
        → (outcome_by old (settleds.Answered n) ≡ None) ⊎ (outcome_by new (settleds.Answered n) ≡ outcome_by old (settleds.Answered n))
    of_option None is = inl (ap (λ (o : Option Message). o >>= (λ m. said m.content)) is)
    of_option (Some a) is =
        let there = stay n a is in
        inr (ap (λ (o : Option Message). o >>= (λ m. said m.content)) there.1 ∙ ap said there.2 ∙ sym (ap (λ (o : Option Message). o >>= (λ m. said m.content)) is))

pub outcome_stays : (old new : List Message) (m v : Message) → Stay old new → ((x : Settled) → m.settled ≡ Some x → v.settled ≡ Some x)
    → (outcome_of old m ≡ None) ⊎ (outcome_of new v ≡ outcome_of old m)
outcome_stays old new m v stay firm = of_settled m.settled refl
  where
    of_one : (x : Settled) → m.settled ≡ Some x → (outcome_of old m ≡ None) ⊎ (outcome_of new v ≡ outcome_of old m)
    of_one (settleds.GaveUp why) is =
        inr (ap (λ (o : Option Settled). o >>= outcome_by new) (firm (settleds.GaveUp why) is) ∙ sym (ap (λ (o : Option Settled). o >>= outcome_by old) is))
    of_one (settleds.Answered n) is = of_answer (answer_stays old new n stay)
      where
        of_answer : (outcome_by old (settleds.Answered n) ≡ None) ⊎ (outcome_by new (settleds.Answered n) ≡ outcome_by old (settleds.Answered n))
            → (outcome_of old m ≡ None) ⊎ (outcome_of new v ≡ outcome_of old m)
        of_answer (inl none) = inl (ap (λ (o : Option Settled). o >>= outcome_by old) is ∙ none)
        of_answer (inr same) =
            inr (ap (λ (o : Option Settled). o >>= outcome_by new) (firm (settleds.Answered n) is) ∙ same ∙ sym (ap (λ (o : Option Settled). o >>= outcome_by old) is))

    of_settled : (o : Option Settled) → m.settled ≡ o → (outcome_of old m ≡ None) ⊎ (outcome_of new v ≡ outcome_of old m)
    of_settled None is = inl (ap (λ (o : Option Settled). o >>= outcome_by old) is)
    of_settled (Some x) is = of_one x is

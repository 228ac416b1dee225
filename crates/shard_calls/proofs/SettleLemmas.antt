-- How a call is settled: by the delivery of an answer to it, or by giving it up; and that messages stay in the post.
use Rattle.std.proofs.Common.{◌≡◌, ◌⊎◌, inl, inr, ℕ, zero, suc, Bool, true, false, ◌==◌, refl, ap, sym, subst, ◌∙◌, arith, List, [], ◌∷◌, ◌++◌, Option, Some, None, option_map, unwrap_or}
use Rattle.std.proofs.lemmas.Bool.Decides.{nat_tests}
use Rattle.std.specs.List.{slice_get}
use Rattle.shard_names.specs.declared.alias.Alias.{Alias}
use Rattle.shard_names.specs.declared.tablet.Tablet.{Tablet}
use Rattle.shard_names.specs.Tablets.{tablet_of}
use Rattle.shard_calls.specs.declared.answer.Answer.{Answer}
use Rattle.shard_calls.specs.declared.call.Call.{Call}
use Rattle.shard_calls.specs.declared.event.Event.{Event}
use Rattle.shard_calls.specs.declared.event.Event.TheVariants as events
use Rattle.shard_calls.specs.declared.outcome.Accepted.{Accepted}
use Rattle.shard_calls.specs.declared.outcome.Accepted.TheVariants as accepteds
use Rattle.shard_calls.specs.declared.post.Content.{Content}
use Rattle.shard_calls.specs.declared.post.Content.TheVariants as contents
use Rattle.shard_calls.specs.declared.post.Message.{Message}
use Rattle.shard_calls.specs.declared.post.Settled.{Settled}
use Rattle.shard_calls.specs.declared.post.Settled.TheVariants as settleds
use Rattle.shard_calls.specs.declared.why.Why.{Why}
use Rattle.shard_calls.specs.Tablets.{TabletState, accepts}
use Rattle.shard_calls.specs.World.{Config, World, on_message, arrives, vanishes, settles, numbered, changed_at, open_command, term_of}
use Rattle.shard_calls.specs.Messages.{why_given_up, offer_to}
use Rattle.shard_calls.specs.Locks.{reads, intends_in, records_in, drains_in, releases_in}
use Rattle.shard_calls.specs.Deliveries.{if_declared, asked, fed, after_arrival, after_delivery, gives_up, offers}
use Rattle.shard_base.specs.Options.{◌>>=◌}
use Rattle.shard_calls.specs.Writes.{told_act, tell_of}
use Rattle.shard_calls.specs.Table.{after}
pub use Rattle.shard_calls.specs.Outcomes.{settled_in}
use Rattle.shard_calls.proofs.ListLemmas.{numbered_changed, numbered_other, slice_get-append}
use Rattle.shard_calls.proofs.PostLemmas.{post_take, post_by, post_declared, post_write, post_told, post_end}

pub data Settling (w : World) : Event → ℕ → Option Settled → Type 0 where
  ByAnswer : (j k c : ℕ) (from : Alias) (says : Answer) (a : Message) → numbered w.post j ≡ Some a → a.content ≡ contents.Answers c k from says
      → Settling w (events.Deliver j) k (Some (settleds.Answered j))
  ByGivingUp : (c k : ℕ) (why : Why) → Settling w (events.GiveUp c k) k (Some (settleds.GaveUp why))

abbrev pub SettledCases : World → List Message → Event → ℕ → Type 0
SettledCases w new e k = (settled_in (numbered new k) ≡ settled_in (numbered w.post k)) ⊎ Settling w e k (settled_in (numbered new k))

-- each message stays, with what it carries
abbrev pub Stay : List Message → List Message → Type 0
Stay old new = (k : ℕ) (q : Message) → numbered old k ≡ Some q → (r : Message) × (numbered new k ≡ Some r) × (r.content ≡ q.content)

-- ---- lists

get_push : (xs : List Message) (x : Message) (n : ℕ) → x.settled ≡ None → settled_in (slice_get (xs ++ x ∷ []) n) ≡ settled_in (slice_get xs n)
get_push [] x zero none = none
get_push [] x (suc n) none = refl
get_push (y ∷ xs) x zero none = refl
get_push (y ∷ xs) x (suc n) none = get_push xs x n none

pub push_settled : (xs : List Message) (x : Message) (k : ℕ) → x.settled ≡ None → settled_in (numbered (xs ++ x ∷ []) k) ≡ settled_in (numbered xs k)
push_settled xs x zero none = refl
push_settled xs x (suc n) none = get_push xs x n none

pub change_settled : (xs : List Message) (d k : ℕ) (f : Message → Message) → ((m : Message) → (f m).settled ≡ m.settled)
    → settled_in (numbered (changed_at xs d f) k) ≡ settled_in (numbered xs k)
change_settled xs d k f keeps = of_test (d == k) refl
  where
    mapped : (o : Option Message) → settled_in (option_map f o) ≡ settled_in o
    mapped None = refl
    mapped (Some m) = keeps m

    of_test : (b : Bool) → (d == k) ≡ b → settled_in (numbered (changed_at xs d f) k) ≡ settled_in (numbered xs k)
    of_test true e =
        let same : d ≡ k = grind (arith, nat_tests) in
        subst (λ (n : ℕ). settled_in (numbered (changed_at xs d f) n) ≡ settled_in (numbered xs n)) same
        (ap (λ (o : Option Message). settled_in o) (numbered_changed xs d f) ∙ mapped (numbered xs d))
    of_test false e = ap (λ (o : Option Message). settled_in o) (numbered_other xs d k f e)

-- a call is settled, unless it is settled already, or is none
settle_one : (xs : List Message) (d k : ℕ) (x : Settled) → (settled_in (numbered (changed_at xs d (settles x)) k) ≡ settled_in (numbered xs k))
    ⊎ ((d ≡ k) × (settled_in (numbered (changed_at xs d (settles x)) k) ≡ Some x))
settle_one xs d k x = of_test (d == k) refl
  where
    of_settled : (o : Option Settled) → (Some (unwrap_or o x) ≡ o) ⊎ (Some (unwrap_or o x) ≡ Some x)
    of_settled None = inr refl
    of_settled (Some y) = inl refl

    mapped : (o : Option Message) → (settled_in (option_map (settles x) o) ≡ settled_in o) ⊎ (settled_in (option_map (settles x) o) ≡ Some x)
    mapped None = inl refl
    mapped (Some m) = of_settled m.settled

    own : (settled_in (option_map (settles x) (numbered xs d)) ≡ settled_in (numbered xs d)) ⊎ (settled_in (option_map (settles x) (numbered xs d)) ≡ Some x)
        → (settled_in (numbered (changed_at xs d (settles x)) d) ≡ settled_in (numbered xs d))
        ⊎ (settled_in (numbered (changed_at xs d (settles x)) d) ≡ Some x)
    own (inl h) = inl (ap (λ (o : Option Message). settled_in o) (numbered_changed xs d (settles x)) ∙ h)
    own (inr h) = inr (ap (λ (o : Option Message). settled_in o) (numbered_changed xs d (settles x)) ∙ h)

    at_own : d ≡ k
        → (settled_in (numbered (changed_at xs d (settles x)) d) ≡ settled_in (numbered xs d))
        ⊎ (settled_in (numbered (changed_at xs d (settles x)) d) ≡ Some x)
        → (settled_in (numbered (changed_at xs d (settles x)) k) ≡ settled_in (numbered xs k))
        ⊎ ((d ≡ k) × (settled_in (numbered (changed_at xs d (settles x)) k) ≡ Some x))
    at_own same (inl h) = inl (subst (λ (n : ℕ). settled_in (numbered (changed_at xs d (settles x)) n) ≡ settled_in (numbered xs n)) same h)
    at_own same (inr h) = inr (same, subst (λ (n : ℕ). settled_in (numbered (changed_at xs d (settles x)) n) ≡ Some x) same h)

    of_test : (b : Bool) → (d == k) ≡ b → (settled_in (numbered (changed_at xs d (settles x)) k) ≡ settled_in (numbered xs k))
        ⊎ ((d ≡ k) × (settled_in (numbered (changed_at xs d (settles x)) k) ≡ Some x))
    of_test true e = at_own (let same : d ≡ k = grind (arith, nat_tests) in same) (own (mapped (numbered xs d)))
    of_test false e = inl (ap (λ (o : Option Message). settled_in o) (numbered_other xs d k (settles x) e))

stay_same : (xs : List Message) → Stay xs xs
stay_same xs k q h = (q, h, refl)

stay_equal : (xs ys : List Message) → ys ≡ xs → Stay xs ys
stay_equal xs ys same = subst (λ (l : List Message). Stay xs l) (sym same) (stay_same xs)

stay_push : (xs : List Message) (x : Message) → Stay xs (xs ++ x ∷ [])
stay_push xs x zero q h = absurd (let none : None ≡ Some q = h in cc)
stay_push xs x (suc n) q h = (q, slice_get-append xs (x ∷ []) n q h, refl)

stay_change : (xs : List Message) (d : ℕ) (f : Message → Message) → ((m : Message) → (f m).content ≡ m.content) → Stay xs (changed_at xs d f)
stay_change xs d f keeps k q h = of_test (d == k) refl
  where
    of_test : (b : Bool) → (d == k) ≡ b → (r : Message) × (numbered (changed_at xs d f) k ≡ Some r) × (r.content ≡ q.content)
    of_test true e =
        let same : d ≡ k = grind (arith, nat_tests) in
        (f q, subst (λ (n : ℕ). numbered (changed_at xs d f) n ≡ option_map f (numbered xs n)) same (numbered_changed xs d f) ∙ ap (λ (o : Option Message). option_map f o) h, keeps q)
    of_test false e = (q, numbered_other xs d k f e ∙ h, refl)

stay_then : (xs ys zs : List Message) → Stay xs ys → Stay ys zs → Stay xs zs
stay_then xs ys zs p q k m h = let r = p k m h in let s = q k r.0 r.1 in (s.0, s.1, s.2 ∙ r.2)

pub arrived_settled : (w : World) (j k : ℕ) → settled_in (numbered (changed_at w.post j (arrives w.clock)) k) ≡ settled_in (numbered w.post k)
arrived_settled w j k = change_settled w.post j k (arrives w.clock) (λ m. refl)

pub arrived_stay : (w : World) (j : ℕ) → Stay w.post (changed_at w.post j (arrives w.clock))
arrived_stay w j = stay_change w.post j (arrives w.clock) (λ m. refl)

-- ---- delivery

pub asked_settled : (w : World) (j k c u : ℕ) (a : Alias) (call : Call) (o : Option Tablet)
    → settled_in (numbered (if_declared o (on_message w j (arrives w.clock)) (asked (on_message w j (arrives w.clock)) j c u a call)).post k) ≡ settled_in (numbered w.post k)
asked_settled w j k c u a call None = arrived_settled w j k
asked_settled w j k c u a call (Some me) = push_settled (changed_at w.post j (arrives w.clock)) _ k refl ∙ arrived_settled w j k

asked_stay : (w : World) (j c u : ℕ) (a : Alias) (call : Call) (o : Option Tablet)
    → Stay w.post (if_declared o (on_message w j (arrives w.clock)) (asked (on_message w j (arrives w.clock)) j c u a call)).post
asked_stay w j c u a call None = arrived_stay w j
asked_stay w j c u a call (Some me) = stay_then _ _ _ (arrived_stay w j) (stay_push (changed_at w.post j (arrives w.clock)) _)

pub fed_settled : (w : World) (j k term index : ℕ) (from to : Alias) (s : TabletState) (says : Accepted)
    → settled_in (numbered (fed (on_message w j (arrives w.clock)) from to term index s says).post k) ≡ settled_in (numbered w.post k)
fed_settled w j k term index from to s accepteds.Ignored = arrived_settled w j k
fed_settled w j k term index from to s accepteds.Taken = push_settled (changed_at w.post j (arrives w.clock)) _ k refl ∙ arrived_settled w j k

fed_stay : (w : World) (j term index : ℕ) (from to : Alias) (s : TabletState) (says : Accepted)
    → Stay w.post (fed (on_message w j (arrives w.clock)) from to term index s says).post
fed_stay w j term index from to s accepteds.Ignored = arrived_stay w j
fed_stay w j term index from to s accepteds.Taken = stay_then _ _ _ (arrived_stay w j) (stay_push (changed_at w.post j (arrives w.clock)) _)

answered_settled : (w : World) (j k c call : ℕ) (from : Alias) (says : Answer) (there : Message) → numbered w.post j ≡ Some there
    → there.content ≡ contents.Answers c call from says
    → SettledCases w (changed_at (changed_at w.post j (arrives w.clock)) call (settles (settleds.Answered j))) (events.Deliver j) k
answered_settled w j k c call from says there is carries =
    of_cases (settle_one (changed_at w.post j (arrives w.clock)) call k (settleds.Answered j))
  where
    new : List Message
    new = changed_at (changed_at w.post j (arrives w.clock)) call (settles (settleds.Answered j))

    of_cases : (settled_in (numbered new k) ≡ settled_in (numbered (changed_at w.post j (arrives w.clock)) k))
        ⊎ ((call ≡ k) × (settled_in (numbered new k) ≡ Some (settleds.Answered j))) → SettledCases w new (events.Deliver j) k
    of_cases (inl h) = inl (h ∙ arrived_settled w j k)
    of_cases (inr h) =
        inr (subst (λ (o : Option Settled). Settling w (events.Deliver j) k o) (sym h.1)
        (ByAnswer j k c from says there is (carries ∙ ap (λ (n : ℕ). contents.Answers c n from says) h.0)))

arrival_settled : (config : Config) (w : World) (j k : ℕ) (there : Message) (content : Content) → numbered w.post j ≡ Some there → there.content ≡ content
    → SettledCases w (after_arrival config (on_message w j (arrives w.clock)) j content).post (events.Deliver j) k
arrival_settled config w j k there (contents.Asks c u a call) is carries = inl (asked_settled w j k c u a call (tablet_of config.tablets a))
arrival_settled config w j k there (contents.Answers c call from says) is carries = answered_settled w j k c call from says there is carries
arrival_settled config w j k there (contents.Feeds from to term before index x) is carries =
    inl (fed_settled w j k term index from to _ (accepts from term before index x (w.tablets to)).says)
arrival_settled config w j k there (contents.Acks from to term index) is carries = inl (arrived_settled w j k)

arrival_stay : (config : Config) (w : World) (j : ℕ) (content : Content) → Stay w.post (after_arrival config (on_message w j (arrives w.clock)) j content).post
arrival_stay config w j (contents.Asks c u a call) = asked_stay w j c u a call (tablet_of config.tablets a)
arrival_stay config w j (contents.Answers c call from says) =
    stay_then _ _ _ (arrived_stay w j) (stay_change (changed_at w.post j (arrives w.clock)) call (settles (settleds.Answered j)) (λ m. refl))
arrival_stay config w j (contents.Feeds from to term before index x) = fed_stay w j term index from to _ (accepts from term before index x (w.tablets to)).says
arrival_stay config w j (contents.Acks from to term index) = arrived_stay w j

delivery_settled : (config : Config) (w : World) (j k : ℕ) (o : Option Message) → numbered w.post j ≡ o
    → SettledCases w (after_delivery config w j o).post (events.Deliver j) k
delivery_settled config w j k None is = inl refl
delivery_settled config w j k (Some there) is = arrival_settled config w j k there there.content is refl

delivery_stay : (config : Config) (w : World) (j : ℕ) (o : Option Message) → Stay w.post (after_delivery config w j o).post
delivery_stay config w j None = stay_same w.post
delivery_stay config w j (Some there) = arrival_stay config w j there.content

-- ---- the other rows

up_settled : (w : World) (c j k : ℕ) (o : Option Why) → SettledCases w (gives_up w j o).post (events.GiveUp c j) k
up_settled w c j k None = inl refl
up_settled w c j k (Some why) = of_cases (settle_one w.post j k (settleds.GaveUp why))
  where
    of_cases : (settled_in (numbered (changed_at w.post j (settles (settleds.GaveUp why))) k) ≡ settled_in (numbered w.post k))
        ⊎ ((j ≡ k) × (settled_in (numbered (changed_at w.post j (settles (settleds.GaveUp why))) k) ≡ Some (settleds.GaveUp why)))
        → SettledCases w (changed_at w.post j (settles (settleds.GaveUp why))) (events.GiveUp c j) k
    of_cases (inl h) = inl h
    of_cases (inr h) =
        inr (subst (λ (o : Option Settled). Settling w (events.GiveUp c j) k o) (sym h.1)
        (subst (λ (n : ℕ). Settling w (events.GiveUp c n) k (Some (settleds.GaveUp why))) (sym h.0) (ByGivingUp c k why)))

up_stay : (w : World) (j : ℕ) (o : Option Why) → Stay w.post (gives_up w j o).post
up_stay w j None = stay_same w.post
up_stay w j (Some why) = stay_change w.post j (settles (settleds.GaveUp why)) (λ m. refl)

pub offer_settled : (w : World) (k : ℕ) (o : Option Content) → settled_in (numbered (offers w o).post k) ≡ settled_in (numbered w.post k)
offer_settled w k None = refl
offer_settled w k (Some content) = push_settled w.post _ k refl

offer_stay : (w : World) (o : Option Content) → Stay w.post (offers w o).post
offer_stay w None = stay_same w.post
offer_stay w (Some content) = stay_push w.post _

same_settled : (w : World) (e : Event) (post : List Message) (k : ℕ) → post ≡ w.post → SettledCases w post e k
same_settled w e post k same = inl (ap (λ (p : List Message). settled_in (numbered p k)) same)

pub settled_cases : (config : Config) (w : World) (e : Event) (k : ℕ) → SettledCases w (after config w e).post e k
settled_cases config w (events.Begin name command) k = inl refl
settled_cases config w (events.Take c) k = same_settled w (events.Take c) _ k (post_take w c (open_command w c))
settled_cases config w (events.Read c) k = same_settled w (events.Read c) _ k (post_by w (reads w c) (term_of w c) (λ t. refl))
settled_cases config w (events.Intend c a) k = same_settled w (events.Intend c a) _ k (post_by w (intends_in w c a) (term_of w c) (λ t. refl))
settled_cases config w (events.Record c a) k = same_settled w (events.Record c a) _ k (post_by w (records_in w c a) (term_of w c) (λ t. refl))
settled_cases config w (events.Drain c a) k = same_settled w (events.Drain c a) _ k (post_by w (drains_in w c a) (term_of w c) (λ t. refl))
settled_cases config w (events.Release c) k = same_settled w (events.Release c) _ k (post_by w (releases_in w c) (term_of w c) (λ t. refl))
settled_cases config w events.Lapse k = inl refl
settled_cases config w (events.Send c a call) k = inl (push_settled w.post _ k refl)
settled_cases config w (events.Deliver j) k = delivery_settled config w j k (numbered w.post j) refl
settled_cases config w (events.GiveUp c j) k = up_settled w c j k (why_given_up w c j)
settled_cases config w (events.Offer r) k = inl (offer_settled w k (offer_to w r))
settled_cases config w (events.Write c a) k = same_settled w (events.Write c a) _ k (post_write config w c a (open_command w c))
settled_cases config w (events.Tell c) k = same_settled w (events.Tell c) _ k (post_told w c (tell_of w c >>= told_act))
settled_cases config w (events.Local a) k = same_settled w (events.Local a) _ k (post_declared w _ (tablet_of config.tablets a) (λ me. refl))
settled_cases config w (events.Crash a keep) k = inl refl
settled_cases config w (events.Restart a) k = inl refl
settled_cases config w (events.Cut x y) k = inl refl
settled_cases config w (events.Mend x y) k = inl refl
settled_cases config w (events.Lose j) k = inl (change_settled w.post j k vanishes (λ m. refl))
settled_cases config w (events.Tick ms) k = inl refl
settled_cases config w (events.End c x) k = same_settled w (events.End c x) _ k (post_end w c (open_command w c))

pub post_stays : (config : Config) (w : World) (e : Event) → Stay w.post (after config w e).post
post_stays config w (events.Begin name command) = stay_same w.post
post_stays config w (events.Take c) = stay_equal w.post _ (post_take w c (open_command w c))
post_stays config w (events.Read c) = stay_equal w.post _ (post_by w (reads w c) (term_of w c) (λ t. refl))
post_stays config w (events.Intend c a) = stay_equal w.post _ (post_by w (intends_in w c a) (term_of w c) (λ t. refl))
post_stays config w (events.Record c a) = stay_equal w.post _ (post_by w (records_in w c a) (term_of w c) (λ t. refl))
post_stays config w (events.Drain c a) = stay_equal w.post _ (post_by w (drains_in w c a) (term_of w c) (λ t. refl))
post_stays config w (events.Release c) = stay_equal w.post _ (post_by w (releases_in w c) (term_of w c) (λ t. refl))
post_stays config w events.Lapse = stay_same w.post
post_stays config w (events.Send c a call) = stay_push w.post _
post_stays config w (events.Deliver j) = delivery_stay config w j (numbered w.post j)
post_stays config w (events.GiveUp c j) = up_stay w j (why_given_up w c j)
post_stays config w (events.Offer r) = offer_stay w (offer_to w r)
post_stays config w (events.Write c a) = stay_equal w.post _ (post_write config w c a (open_command w c))
post_stays config w (events.Tell c) = stay_equal w.post _ (post_told w c (tell_of w c >>= told_act))
post_stays config w (events.Local a) = stay_equal w.post _ (post_declared w _ (tablet_of config.tablets a) (λ me. refl))
post_stays config w (events.Crash a keep) = stay_same w.post
post_stays config w (events.Restart a) = stay_same w.post
post_stays config w (events.Cut x y) = stay_same w.post
post_stays config w (events.Mend x y) = stay_same w.post
post_stays config w (events.Lose j) = stay_change w.post j vanishes (λ m. refl)
post_stays config w (events.Tick ms) = stay_same w.post
post_stays config w (events.End c x) = stay_equal w.post _ (post_end w c (open_command w c))

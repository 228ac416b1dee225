-- What one step does to the post: its messages keep what they carry, and at most one is sent.
use Rattle.std.proofs.Common.{◌≡◌, ◌⊎◌, inl, inr, ℕ, ◌+◌, refl, ap, sym, subst, ◌∙◌, List, [], ◌∷◌, ◌++◌, Option, Some, None, length}
use Rattle.shard_base.specs.Options.{◌>>=◌}
use Rattle.shard_names.specs.declared.alias.Alias.{Alias}
use Rattle.shard_names.specs.declared.tablet.Tablet.{Tablet}
use Rattle.shard_names.specs.Tablets.{tablet_of}
use Rattle.gtid_sets.specs.declared.entry.Entry.{Entry}
use Rattle.shard_calls.specs.declared.call.Call.{Call}
use Rattle.shard_calls.specs.declared.event.Event.{Event}
use Rattle.shard_calls.specs.declared.event.Event.TheVariants as events
use Rattle.shard_calls.specs.declared.outcome.Accepted.{Accepted}
use Rattle.shard_calls.specs.declared.outcome.Accepted.TheVariants as accepteds
use Rattle.shard_calls.specs.declared.post.Content.{Content}
use Rattle.shard_calls.specs.declared.post.Content.TheVariants as contents
use Rattle.shard_calls.specs.declared.post.Message.{Message}
use Rattle.shard_calls.specs.declared.post.Settled.TheVariants as settleds
use Rattle.shard_calls.specs.declared.state.Act.{Act}
use Rattle.shard_calls.specs.declared.state.CommandState.{CommandState}
use Rattle.shard_calls.specs.declared.why.Why.{Why}
use Rattle.shard_calls.specs.Tablets.{answer_to, accepts}
use Rattle.shard_calls.specs.World.{Config, World, on_message, arrives, vanishes, settles, numbered, changed_at, open_command, term_of}
use Rattle.shard_calls.specs.Messages.{why_given_up, offer_to}
use Rattle.shard_calls.specs.Begins.{ends_by}
use Rattle.shard_calls.specs.Locks.{takes_by, by_term, reads, intends_in, records_in, drains_in, releases_in}
use Rattle.shard_calls.specs.Deliveries.{after_delivery, after_arrival, asked, fed, if_declared, gives_up, offers, call_of}
use Rattle.shard_calls.specs.Writes.{writes_in, writes_at, tell_of, told_act, with_told}
use Rattle.shard_calls.specs.Table.{after}
use Rattle.shard_calls.proofs.ListLemmas.{numbered-push_cases, changed_at_cases}

-- what an event sends
pub data Sent (config : Config) (w : World) : Event → Content → Type 0 where
  Asked : (c : ℕ) (a : Alias) (call : Call) → Sent config w (events.Send c a call) (call_of w c a call)
  Replied : (k c u : ℕ) (a : Alias) (call : Call) (me : Tablet) (m : Message) → numbered w.post k ≡ Some m → m.content ≡ contents.Asks c u a call
      → tablet_of config.tablets a ≡ Some me → Sent config w (events.Deliver k) (contents.Answers c k a (answer_to w.group me u call (w.tablets a)))
  Acked : (k term before index : ℕ) (from to : Alias) (x : Entry) (m : Message) → numbered w.post k ≡ Some m
      → m.content ≡ contents.Feeds from to term before index x → (accepts from term before index x (w.tablets to)).says ≡ accepteds.Taken
      → Sent config w (events.Deliver k) (contents.Acks to from term index)
  Offered : (r : Alias) (content : Content) → offer_to w r ≡ Some content → Sent config w (events.Offer r) content

-- the message was there before, and carried the same
abbrev pub WasThere : World → ℕ → Message → Type 0
WasThere w n m = (old : Message) × (numbered w.post n ≡ Some old) × (m.content ≡ old.content)

abbrev pub PostCases : Config → World → Event → ℕ → Message → Type 0
PostCases config w e n m = WasThere w n m ⊎ Sent config w e m.content

keeps : (w : World) (n : ℕ) (m : Message) → numbered w.post n ≡ Some m → WasThere w n m
keeps w n m here = (m, here, refl)

-- one message of which something else than its content changes
marked : (w : World) (k : ℕ) (f : Message → Message) (n : ℕ) (m : Message) → ((x : Message) → (f x).content ≡ x.content)
    → numbered (changed_at w.post k f) n ≡ Some m → WasThere w n m
marked w k f n m same here = of_cases (changed_at_cases w.post k f n m here)
  where
    of_cases : (numbered w.post n ≡ Some m) ⊎ ((k ≡ n) × ((x : Message) × (numbered w.post n ≡ Some x) × (f x ≡ m))) → WasThere w n m
    of_cases (inl h) = (m, h, refl)
    of_cases (inr h) = (h.1.0, h.1.1, ap (λ (x : Message). x.content) (sym h.1.2) ∙ same h.1.0)

-- ---- delivery

arrived : (config : Config) (w : World) (e : Event) (k : ℕ) (n : ℕ) (m : Message)
    → numbered (changed_at w.post k (arrives w.clock)) n ≡ Some m → PostCases config w e n m
arrived config w e k n m here = inl (marked w k (arrives w.clock) n m (λ x. refl) here)

-- it arrives, and this is sent
arrived_and : (config : Config) (w : World) (e : Event) (k : ℕ) (n : ℕ) (m new : Message) → Sent config w e new.content
    → numbered (changed_at w.post k (arrives w.clock) ++ new ∷ []) n ≡ Some m → PostCases config w e n m
arrived_and config w e k n m new sent here = of_cases (numbered-push_cases (changed_at w.post k (arrives w.clock)) new m n here)
  where
    of_cases : (numbered (changed_at w.post k (arrives w.clock)) n ≡ Some m) ⊎ ((n ≡ length (changed_at w.post k (arrives w.clock)) + 1) × (new ≡ m))
        → PostCases config w e n m
    of_cases (inl h) = arrived config w e k n m h
    of_cases (inr h) = inr (subst (λ (x : Message). Sent config w e x.content) h.1 sent)

asked_post : (config : Config) (w : World) (k c u : ℕ) (a : Alias) (call : Call) (o : Option Tablet) (there : Message) (n : ℕ) (m : Message)
    → numbered w.post k ≡ Some there → there.content ≡ contents.Asks c u a call → tablet_of config.tablets a ≡ o
    → numbered (if_declared o (on_message w k (arrives w.clock)) (asked (on_message w k (arrives w.clock)) k c u a call)).post n ≡ Some m
    → PostCases config w (events.Deliver k) n m
asked_post config w k c u a call None there n m is holds found here = arrived config w (events.Deliver k) k n m here
asked_post config w k c u a call (Some me) there n m is holds found here =
    arrived_and config w (events.Deliver k) k n m _ (Replied k c u a call me there is holds found) here

answered_post : (config : Config) (w : World) (k call n : ℕ) (m : Message)
    → numbered (changed_at (changed_at w.post k (arrives w.clock)) call (settles (settleds.Answered k))) n ≡ Some m → PostCases config w (events.Deliver k) n m
answered_post config w k call n m here = of_cases (marked (on_message w k (arrives w.clock)) call (settles (settleds.Answered k)) n m (λ x. refl) here)
  where
    of_cases : WasThere (on_message w k (arrives w.clock)) n m → PostCases config w (events.Deliver k) n m
    of_cases h = let old = marked w k (arrives w.clock) n h.0 (λ x. refl) h.1 in inl (old.0, old.1, h.2 ∙ old.2)

fed_post : (config : Config) (w : World) (k term before index : ℕ) (from to : Alias) (x : Entry) (says : Accepted) (there : Message) (n : ℕ) (m : Message)
    → numbered w.post k ≡ Some there → there.content ≡ contents.Feeds from to term before index x
    → (accepts from term before index x (w.tablets to)).says ≡ says
    → numbered (fed (on_message w k (arrives w.clock)) from to term index (accepts from term before index x (w.tablets to)).state says).post n ≡ Some m
    → PostCases config w (events.Deliver k) n m
fed_post config w k term before index from to x accepteds.Ignored there n m is holds taken here = arrived config w (events.Deliver k) k n m here
fed_post config w k term before index from to x accepteds.Taken there n m is holds taken here =
    arrived_and config w (events.Deliver k) k n m _ (Acked k term before index from to x there is holds taken) here

arrival_post : (config : Config) (w : World) (k : ℕ) (there : Message) (content : Content) (n : ℕ) (m : Message) → numbered w.post k ≡ Some there
    → there.content ≡ content → numbered (after_arrival config (on_message w k (arrives w.clock)) k content).post n ≡ Some m
    → PostCases config w (events.Deliver k) n m
arrival_post config w k there (contents.Asks c u a call) n m is holds here =
    asked_post config w k c u a call (tablet_of config.tablets a) there n m is holds refl here
arrival_post config w k there (contents.Answers c call a says) n m is holds here = answered_post config w k call n m here
arrival_post config w k there (contents.Feeds from to term before index x) n m is holds here =
    fed_post config w k term before index from to x (accepts from term before index x (w.tablets to)).says there n m is holds refl here
arrival_post config w k there (contents.Acks from to term index) n m is holds here = arrived config w (events.Deliver k) k n m here

delivery_post : (config : Config) (w : World) (k : ℕ) (o : Option Message) (n : ℕ) (m : Message) → numbered w.post k ≡ o
    → numbered (after_delivery config w k o).post n ≡ Some m → PostCases config w (events.Deliver k) n m
delivery_post config w k None n m is here = inl (keeps w n m here)
delivery_post config w k (Some there) n m is here = arrival_post config w k there there.content n m is refl here

-- ---- the other rows

sent_post : (config : Config) (w : World) (e : Event) (new : Message) (n : ℕ) (m : Message) → Sent config w e new.content
    → numbered (w.post ++ new ∷ []) n ≡ Some m → PostCases config w e n m
sent_post config w e new n m sent here = of_cases (numbered-push_cases w.post new m n here)
  where
    of_cases : (numbered w.post n ≡ Some m) ⊎ ((n ≡ length w.post + 1) × (new ≡ m)) → PostCases config w e n m
    of_cases (inl h) = inl (keeps w n m h)
    of_cases (inr h) = inr (subst (λ (x : Message). Sent config w e x.content) h.1 sent)

up_post : (config : Config) (w : World) (c k : ℕ) (o : Option Why) (n : ℕ) (m : Message) → numbered (gives_up w k o).post n ≡ Some m
    → PostCases config w (events.GiveUp c k) n m
up_post config w c k None n m here = inl (keeps w n m here)
up_post config w c k (Some why) n m here = inl (marked w k (settles (settleds.GaveUp why)) n m (λ x. refl) here)

offer_post : (config : Config) (w : World) (r : Alias) (o : Option Content) (n : ℕ) (m : Message) → offer_to w r ≡ o → numbered (offers w o).post n ≡ Some m
    → PostCases config w (events.Offer r) n m
offer_post config w r None n m is here = inl (keeps w n m here)
offer_post config w r (Some content) n m is here = sent_post config w (events.Offer r) _ n m (Offered r content is) here

-- the post stays
same_post : (config : Config) (w : World) (e : Event) (post : List Message) (n : ℕ) (m : Message) → post ≡ w.post → numbered post n ≡ Some m
    → PostCases config w e n m
same_post config w e post n m same here = inl (keeps w n m (subst (λ (p : List Message). numbered p n ≡ Some m) same here))

pub post_take : (w : World) (c : ℕ) (o : Option CommandState) → (takes_by w c o).post ≡ w.post
post_take w c None = refl
post_take w c (Some s) = refl

pub post_by : (w : World) (f : ℕ → World) (o : Option ℕ) → ((t : ℕ) → (f t).post ≡ w.post) → (by_term o w f).post ≡ w.post
post_by w f None h = refl
post_by w f (Some t) h = h t

pub post_declared : (w : World) (f : Tablet → World) (o : Option Tablet) → ((me : Tablet) → (f me).post ≡ w.post) → (if_declared o w f).post ≡ w.post
post_declared w f None h = refl
post_declared w f (Some me) h = h me

pub post_write : (config : Config) (w : World) (c : ℕ) (a : Alias) (o : Option CommandState) → (writes_in config w c a o).post ≡ w.post
post_write config w c a None = refl
post_write config w c a (Some s) = post_declared w (writes_at w c a s) (tablet_of config.tablets a) (λ me. refl)

pub post_told : (w : World) (c : ℕ) (o : Option Act) → (with_told w c o).post ≡ w.post
post_told w c None = refl
post_told w c (Some act) = refl

pub post_end : (w : World) (c : ℕ) (o : Option CommandState) → (ends_by w c o).post ≡ w.post
post_end w c None = refl
post_end w c (Some s) = refl

-- each message after a step was there before, or the step sent it
pub post_cases : (config : Config) (w : World) (e : Event) (n : ℕ) (m : Message) → numbered (after config w e).post n ≡ Some m → PostCases config w e n m
post_cases config w (events.Begin name command) n m here = inl (keeps w n m here)
post_cases config w (events.Take c) n m here = same_post config w (events.Take c) _ n m (post_take w c (open_command w c)) here
post_cases config w (events.Read c) n m here = same_post config w (events.Read c) _ n m (post_by w (reads w c) (term_of w c) (λ t. refl)) here
post_cases config w (events.Intend c a) n m here = same_post config w (events.Intend c a) _ n m (post_by w (intends_in w c a) (term_of w c) (λ t. refl)) here
post_cases config w (events.Record c a) n m here = same_post config w (events.Record c a) _ n m (post_by w (records_in w c a) (term_of w c) (λ t. refl)) here
post_cases config w (events.Drain c a) n m here = same_post config w (events.Drain c a) _ n m (post_by w (drains_in w c a) (term_of w c) (λ t. refl)) here
post_cases config w (events.Release c) n m here = same_post config w (events.Release c) _ n m (post_by w (releases_in w c) (term_of w c) (λ t. refl)) here
post_cases config w events.Lapse n m here = inl (keeps w n m here)
post_cases config w (events.Send c a call) n m here = sent_post config w (events.Send c a call) _ n m (Asked c a call) here
post_cases config w (events.Deliver k) n m here = delivery_post config w k (numbered w.post k) n m refl here
post_cases config w (events.GiveUp c k) n m here = up_post config w c k (why_given_up w c k) n m here
post_cases config w (events.Offer r) n m here = offer_post config w r (offer_to w r) n m refl here
post_cases config w (events.Write c a) n m here = same_post config w (events.Write c a) _ n m (post_write config w c a (open_command w c)) here
post_cases config w (events.Tell c) n m here = same_post config w (events.Tell c) _ n m (post_told w c (tell_of w c >>= told_act)) here
post_cases config w (events.Local a) n m here = same_post config w (events.Local a) _ n m (post_declared w _ (tablet_of config.tablets a) (λ me. refl)) here
post_cases config w (events.Crash a keep) n m here = inl (keeps w n m here)
post_cases config w (events.Restart a) n m here = inl (keeps w n m here)
post_cases config w (events.Cut x y) n m here = inl (keeps w n m here)
post_cases config w (events.Mend x y) n m here = inl (keeps w n m here)
post_cases config w (events.Lose k) n m here = inl (marked w k vanishes n m (λ x. refl) here)
post_cases config w (events.Tick ms) n m here = inl (keeps w n m here)
post_cases config w (events.End c x) n m here = same_post config w (events.End c x) _ n m (post_end w c (open_command w c)) here

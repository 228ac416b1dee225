-- No row looks at what is past.
use Rattle.std.proofs.Common.{◌≡◌, ℕ, List, Option, Some, None, refl}
use Rattle.shard_base.specs.Options.{◌>>=◌}
use Rattle.shard_names.specs.declared.alias.Alias.{Alias}
use Rattle.shard_names.specs.declared.tablet.Tablet.{Tablet}
use Rattle.shard_names.specs.Tablets.{tablet_of}
use Rattle.shard_calls.specs.declared.event.Event.{Event}
use Rattle.shard_calls.specs.declared.event.Event.TheVariants as events
use Rattle.shard_calls.specs.declared.event.Step.{Step}
use Rattle.shard_calls.specs.declared.outcome.Accepted.{Accepted}
use Rattle.shard_calls.specs.declared.outcome.Accepted.TheVariants as accepteds
use Rattle.shard_calls.specs.declared.post.Content.{Content}
use Rattle.shard_calls.specs.declared.post.Content.TheVariants as contents
use Rattle.shard_calls.specs.declared.post.Message.{Message}
use Rattle.shard_calls.specs.declared.state.Act.{Act}
use Rattle.shard_calls.specs.declared.state.CommandState.{CommandState}
use Rattle.shard_calls.specs.declared.why.Why.{Why}
use Rattle.shard_calls.specs.Tablets.{TabletState}
use Rattle.shard_calls.specs.World.{Config, World, numbered, on_message, arrives, open_command, term_of}
use Rattle.shard_calls.specs.Messages.{why_given_up, offer_to}
use Rattle.shard_calls.specs.Begins.{ends_by}
use Rattle.shard_calls.specs.Locks.{takes_by, by_term, reads, intends_in, records_in, drains_in, releases_in}
use Rattle.shard_calls.specs.Deliveries.{after_delivery, after_arrival, asked, fed, feed_verdict, if_declared, gives_up, offers}
use Rattle.shard_calls.specs.Writes.{writes_in, writes_at, tell_of, told_act, with_told}
use Rattle.shard_calls.specs.Table.{meets, answer, change}
use Rattle.changes.specs.Laws.{with_past, ReadsNoPast}

same_meets : (config : Config) (w : World) (ss : List Step) (e : Event) → meets config (with_past w ss) e ≡ meets config w e
same_meets config w ss (events.Begin name command) = refl
same_meets config w ss (events.Take c) = refl
same_meets config w ss (events.Read c) = refl
same_meets config w ss (events.Intend c a) = refl
same_meets config w ss (events.Record c a) = refl
same_meets config w ss (events.Drain c a) = refl
same_meets config w ss (events.Release c) = refl
same_meets config w ss events.Lapse = refl
same_meets config w ss (events.Send c a call) = refl
same_meets config w ss (events.Deliver k) = refl
same_meets config w ss (events.GiveUp c k) = refl
same_meets config w ss (events.Offer r) = refl
same_meets config w ss (events.Write c a) = refl
same_meets config w ss (events.Tell c) = refl
same_meets config w ss (events.Local a) = refl
same_meets config w ss (events.Crash a keep) = refl
same_meets config w ss (events.Restart a) = refl
same_meets config w ss (events.Cut x y) = refl
same_meets config w ss (events.Mend x y) = refl
same_meets config w ss (events.Lose k) = refl
same_meets config w ss (events.Tick ms) = refl
same_meets config w ss (events.End c x) = refl

same_answer : (config : Config) (w : World) (ss : List Step) (e : Event) → answer config (with_past w ss) e ≡ answer config w e
same_answer config w ss (events.Begin name command) = refl
same_answer config w ss (events.Take c) = refl
same_answer config w ss (events.Read c) = refl
same_answer config w ss (events.Intend c a) = refl
same_answer config w ss (events.Record c a) = refl
same_answer config w ss (events.Drain c a) = refl
same_answer config w ss (events.Release c) = refl
same_answer config w ss events.Lapse = refl
same_answer config w ss (events.Send c a call) = refl
same_answer config w ss (events.Deliver k) = refl
same_answer config w ss (events.GiveUp c k) = refl
same_answer config w ss (events.Offer r) = refl
same_answer config w ss (events.Write c a) = refl
same_answer config w ss (events.Tell c) = refl
same_answer config w ss (events.Local a) = refl
same_answer config w ss (events.Crash a keep) = refl
same_answer config w ss (events.Restart a) = refl
same_answer config w ss (events.Cut x y) = refl
same_answer config w ss (events.Mend x y) = refl
same_answer config w ss (events.Lose k) = refl
same_answer config w ss (events.Tick ms) = refl
same_answer config w ss (events.End c x) = refl

-- two worlds that differ in what is past alone
abbrev Alike : World → World → Type 0
Alike w v = (ts : List Step) → with_past w ts ≡ with_past v ts

past_take : (w : World) (ss : List Step) (c : ℕ) (o : Option CommandState) → Alike (takes_by (with_past w ss) c o) (takes_by w c o)
past_take w ss c None ts = refl
past_take w ss c (Some s) ts = refl

past_by : (w v : World) (f g : ℕ → World) (o : Option ℕ) → Alike w v → ((t : ℕ) → Alike (f t) (g t)) → Alike (by_term o w f) (by_term o v g)
past_by w v f g None none some = none
past_by w v f g (Some t) none some = some t

past_declared : (w v : World) (f g : Tablet → World) (o : Option Tablet) → Alike w v → ((t : Tablet) → Alike (f t) (g t)) → Alike (if_declared o w f) (if_declared o v g)
past_declared w v f g None none some = none
past_declared w v f g (Some t) none some = some t

past_fed : (w : World) (ss : List Step) (from to : Alias) (term index : ℕ) (s : TabletState) (a : Accepted) → Alike (fed (with_past w ss) from to term index s a) (fed w from to term index s a)
past_fed w ss from to term index s accepteds.Taken ts = refl
past_fed w ss from to term index s accepteds.Ignored ts = refl

past_arrival : (config : Config) (w : World) (ss : List Step) (k : ℕ) (c : Content) → Alike (after_arrival config (with_past w ss) k c) (after_arrival config w k c)
past_arrival config w ss k (contents.Asks c u a call) ts =
    past_declared (with_past w ss) w (asked (with_past w ss) k c u a call) (asked w k c u a call) (tablet_of config.tablets a) (λ xs. refl) (λ me xs. refl) ts
past_arrival config w ss k (contents.Answers c call a says) ts = refl
past_arrival config w ss k (contents.Feeds from to term before index x) ts =
    past_fed w ss from to term index (feed_verdict w from to term before index x).state (feed_verdict w from to term before index x).says ts
past_arrival config w ss k (contents.Acks from to term index) ts = refl

past_delivery : (config : Config) (w : World) (ss : List Step) (k : ℕ) (o : Option Message) → Alike (after_delivery config (with_past w ss) k o) (after_delivery config w k o)
past_delivery config w ss k None ts = refl
past_delivery config w ss k (Some m) ts = past_arrival config (on_message w k (arrives w.clock)) ss k m.content ts

past_up : (w : World) (ss : List Step) (k : ℕ) (o : Option Why) → Alike (gives_up (with_past w ss) k o) (gives_up w k o)
past_up w ss k None ts = refl
past_up w ss k (Some why) ts = refl

past_offer : (w : World) (ss : List Step) (o : Option Content) → Alike (offers (with_past w ss) o) (offers w o)
past_offer w ss None ts = refl
past_offer w ss (Some c) ts = refl

past_write : (config : Config) (w : World) (ss : List Step) (c : ℕ) (a : Alias) (o : Option CommandState) → Alike (writes_in config (with_past w ss) c a o) (writes_in config w c a o)
past_write config w ss c a None ts = refl
past_write config w ss c a (Some s) ts =
    past_declared (with_past w ss) w (writes_at (with_past w ss) c a s) (writes_at w c a s) (tablet_of config.tablets a) (λ xs. refl) (λ me xs. refl) ts

past_told : (w : World) (ss : List Step) (c : ℕ) (o : Option Act) → Alike (with_told (with_past w ss) c o) (with_told w c o)
past_told w ss c None ts = refl
past_told w ss c (Some act) ts = refl

past_end : (w : World) (ss : List Step) (c : ℕ) (o : Option CommandState) → Alike (ends_by (with_past w ss) c o) (ends_by w c o)
past_end w ss c None ts = refl
past_end w ss c (Some s) ts = refl

same_change : (config : Config) (w : World) (ss : List Step) (e : Event) → Alike (change config (with_past w ss) e) (change config w e)
same_change config w ss (events.Begin name command) ts = refl
same_change config w ss (events.Take c) ts = past_take w ss c (open_command w c) ts
same_change config w ss (events.Read c) ts = past_by (with_past w ss) w (reads (with_past w ss) c) (reads w c) (term_of w c) (λ xs. refl) (λ t xs. refl) ts
same_change config w ss (events.Intend c a) ts = past_by (with_past w ss) w (intends_in (with_past w ss) c a) (intends_in w c a) (term_of w c) (λ xs. refl) (λ t xs. refl) ts
same_change config w ss (events.Record c a) ts = past_by (with_past w ss) w (records_in (with_past w ss) c a) (records_in w c a) (term_of w c) (λ xs. refl) (λ t xs. refl) ts
same_change config w ss (events.Drain c a) ts = past_by (with_past w ss) w (drains_in (with_past w ss) c a) (drains_in w c a) (term_of w c) (λ xs. refl) (λ t xs. refl) ts
same_change config w ss (events.Release c) ts = past_by (with_past w ss) w (releases_in (with_past w ss) c) (releases_in w c) (term_of w c) (λ xs. refl) (λ t xs. refl) ts
same_change config w ss events.Lapse ts = refl
same_change config w ss (events.Send c a call) ts = refl
same_change config w ss (events.Deliver k) ts = past_delivery config w ss k (numbered w.post k) ts
same_change config w ss (events.GiveUp c k) ts = past_up w ss k (why_given_up w c k) ts
same_change config w ss (events.Offer r) ts = past_offer w ss (offer_to w r) ts
same_change config w ss (events.Write c a) ts = past_write config w ss c a (open_command w c) ts
same_change config w ss (events.Tell c) ts = past_told w ss c (tell_of w c >>= told_act) ts
same_change config w ss (events.Local a) ts = past_declared (with_past w ss) w _ _ (tablet_of config.tablets a) (λ xs. refl) (λ me xs. refl) ts
same_change config w ss (events.Crash a keep) ts = refl
same_change config w ss (events.Restart a) ts = refl
same_change config w ss (events.Cut x y) ts = refl
same_change config w ss (events.Mend x y) ts = refl
same_change config w ss (events.Lose k) ts = refl
same_change config w ss (events.Tick ms) ts = refl
same_change config w ss (events.End c x) ts = past_end w ss c (open_command w c) ts

pub reads_no_past : ReadsNoPast
reads_no_past = record {
  meets = same_meets;
  answer = same_answer;
  change = λ config w ss ts e. same_change config w ss e ts;
}

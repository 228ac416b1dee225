-- That the tablets and the policy never change.
use Rattle.std.proofs.Common.{◌≡◌, ℕ, zero, suc, refl, ◌∙◌, List, [], ◌∷◌, take, Option, Some, None}
use Rattle.shard_base.specs.Options.{◌>>=◌}
use Rattle.shard_names.specs.declared.alias.Alias.{Alias}
use Rattle.shard_names.specs.declared.tablet.Tablet.{Tablet}
use Rattle.shard_names.specs.Tablets.{tablet_of}
use Rattle.shard_calls.specs.declared.event.Event.{Event}
use Rattle.shard_calls.specs.declared.event.Event.TheVariants as events
use Rattle.shard_calls.specs.declared.event.Step.{Step}
use Rattle.shard_calls.specs.declared.outcome.Accepted.{Accepted}
use Rattle.shard_calls.specs.declared.outcome.Accepted.TheVariants as accepteds
use Rattle.shard_calls.specs.declared.post.Content.{Content}
use Rattle.shard_calls.specs.declared.post.Content.TheVariants as contents
use Rattle.shard_calls.specs.declared.post.Message.{Message}
use Rattle.shard_calls.specs.declared.state.Act.{Act}
use Rattle.shard_calls.specs.declared.state.CommandState.{CommandState}
use Rattle.shard_calls.specs.declared.why.Why.{Why}
use Rattle.shard_calls.specs.Tablets.{TabletState}
use Rattle.shard_calls.specs.World.{Config, World, group_of, opening, on_message, arrives, numbered, open_command, term_of}
use Rattle.shard_calls.specs.Messages.{why_given_up, offer_to}
use Rattle.shard_calls.specs.Begins.{ends_by}
use Rattle.shard_calls.specs.Locks.{takes_by, by_term, reads, intends_in, records_in, drains_in, releases_in}
use Rattle.shard_calls.specs.Deliveries.{after_delivery, after_arrival, asked, fed, feed_verdict, if_declared, gives_up, offers}
use Rattle.shard_calls.specs.Writes.{writes_in, writes_at, tell_of, told_act, with_told}
use Rattle.shard_calls.specs.Table.{after, world_after}
use Rattle.shard_calls.specs.Promotions.{world_at}

abbrev Same : World → World → Type 0
Same w v = v.group ≡ w.group

take_same : (w : World) (c : ℕ) (o : Option CommandState) → Same w (takes_by w c o)
take_same w c None = refl
take_same w c (Some s) = refl

by_same : (w : World) (f : ℕ → World) (o : Option ℕ) → ((t : ℕ) → Same w (f t)) → Same w (by_term o w f)
by_same w f None h = refl
by_same w f (Some t) h = h t

declared_same : (w : World) (f : Tablet → World) (o : Option Tablet) → ((me : Tablet) → Same w (f me)) → Same w (if_declared o w f)
declared_same w f None h = refl
declared_same w f (Some me) h = h me

fed_same : (w : World) (from to : Alias) (term index : ℕ) (s : TabletState) (says : Accepted) → Same w (fed w from to term index s says)
fed_same w from to term index s accepteds.Taken = refl
fed_same w from to term index s accepteds.Ignored = refl

arrival_same : (config : Config) (w : World) (k : ℕ) (content : Content) → Same w (after_arrival config w k content)
arrival_same config w k (contents.Asks c u a call) = declared_same w (asked w k c u a call) (tablet_of config.tablets a) (λ me. refl)
arrival_same config w k (contents.Answers c call a says) = refl
arrival_same config w k (contents.Feeds from to term before index e) = fed_same w from to term index _ (feed_verdict w from to term before index e).says
arrival_same config w k (contents.Acks from to term index) = refl

delivery_same : (config : Config) (w : World) (k : ℕ) (o : Option Message) → Same w (after_delivery config w k o)
delivery_same config w k None = refl
delivery_same config w k (Some m) = arrival_same config (on_message w k (arrives w.clock)) k m.content

up_same : (w : World) (k : ℕ) (o : Option Why) → Same w (gives_up w k o)
up_same w k None = refl
up_same w k (Some why) = refl

offer_same : (w : World) (o : Option Content) → Same w (offers w o)
offer_same w None = refl
offer_same w (Some content) = refl

told_same : (w : World) (c : ℕ) (o : Option Act) → Same w (with_told w c o)
told_same w c None = refl
told_same w c (Some act) = refl

end_same : (w : World) (c : ℕ) (o : Option CommandState) → Same w (ends_by w c o)
end_same w c None = refl
end_same w c (Some s) = refl

write_same : (config : Config) (w : World) (c : ℕ) (a : Alias) (o : Option CommandState) → Same w (writes_in config w c a o)
write_same config w c a None = refl
write_same config w c a (Some s) = declared_same w (writes_at w c a s) (tablet_of config.tablets a) (λ me. refl)

pub group_stays : (config : Config) (w : World) (e : Event) → (after config w e).group ≡ w.group
group_stays config w (events.Begin name command) = refl
group_stays config w (events.Take c) = take_same w c (open_command w c)
group_stays config w (events.Read c) = by_same w (reads w c) (term_of w c) (λ t. refl)
group_stays config w (events.Intend c a) = by_same w (intends_in w c a) (term_of w c) (λ t. refl)
group_stays config w (events.Record c a) = by_same w (records_in w c a) (term_of w c) (λ t. refl)
group_stays config w (events.Drain c a) = by_same w (drains_in w c a) (term_of w c) (λ t. refl)
group_stays config w (events.Release c) = by_same w (releases_in w c) (term_of w c) (λ t. refl)
group_stays config w events.Lapse = refl
group_stays config w (events.Send c a call) = refl
group_stays config w (events.Deliver k) = delivery_same config w k (numbered w.post k)
group_stays config w (events.GiveUp c k) = up_same w k (why_given_up w c k)
group_stays config w (events.Offer r) = offer_same w (offer_to w r)
group_stays config w (events.Write c a) = write_same config w c a (open_command w c)
group_stays config w (events.Tell c) = told_same w c (tell_of w c >>= told_act)
group_stays config w (events.Local a) = declared_same w _ (tablet_of config.tablets a) (λ me. refl)
group_stays config w (events.Crash a keep) = refl
group_stays config w (events.Restart a) = refl
group_stays config w (events.Cut x y) = refl
group_stays config w (events.Mend x y) = refl
group_stays config w (events.Lose k) = refl
group_stays config w (events.Tick ms) = refl
group_stays config w (events.End c x) = end_same w c (open_command w c)

along : (config : Config) (w : World) (ss : List Step) (i : ℕ) → (world_after config w (take i ss)).group ≡ w.group
along config w [] zero = refl
along config w [] (suc i) = refl
along config w (s ∷ ss) zero = refl
along config w (s ∷ ss) (suc i) = along config (after config w s.event) ss i ∙ group_stays config w s.event

-- in each world of a history it is that of the configuration
pub group_at : (config : Config) (steps : List Step) (i : ℕ) → (world_at config steps i).group ≡ group_of config
group_at config steps i = along config (opening config) steps i

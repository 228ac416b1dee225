-- The clock goes on by Tick alone.
use Rattle.std.proofs.Common.{◌≡◌, ℕ, ◌+◌, refl, ◌∙◌, Option, Some, None, arith}
use Rattle.shard_base.specs.Options.{◌>>=◌}
use Rattle.shard_names.specs.declared.alias.Alias.{Alias}
use Rattle.shard_names.specs.declared.tablet.Tablet.{Tablet}
use Rattle.shard_names.specs.Tablets.{tablet_of}
use Rattle.shard_calls.specs.declared.event.Event.{Event}
use Rattle.shard_calls.specs.declared.event.Event.TheVariants as events
use Rattle.shard_calls.specs.declared.outcome.Accepted.{Accepted}
use Rattle.shard_calls.specs.declared.outcome.Accepted.TheVariants as accepteds
use Rattle.shard_calls.specs.declared.post.Content.{Content}
use Rattle.shard_calls.specs.declared.post.Content.TheVariants as contents
use Rattle.shard_calls.specs.declared.post.Message.{Message}
use Rattle.shard_calls.specs.declared.state.Act.{Act}
use Rattle.shard_calls.specs.declared.state.CommandState.{CommandState}
use Rattle.shard_calls.specs.declared.why.Why.{Why}
use Rattle.shard_calls.specs.Tablets.{TabletState}
use Rattle.shard_calls.specs.World.{Config, World, on_message, arrives, numbered, open_command, term_of}
use Rattle.shard_calls.specs.Messages.{why_given_up, offer_to}
use Rattle.shard_calls.specs.Begins.{ends_by}
use Rattle.shard_calls.specs.Locks.{takes_by, by_term, reads, intends_in, records_in, drains_in, releases_in}
use Rattle.shard_calls.specs.Deliveries.{after_delivery, after_arrival, asked, fed, feed_verdict, if_declared, gives_up, offers}
use Rattle.shard_calls.specs.Writes.{writes_in, writes_at, tell_of, told_act, with_told}
use Rattle.shard_calls.specs.Table.{after}

-- by how much the clock goes on
abbrev pub goes_by : Event → ℕ
goes_by (events.Tick ms) = ms
goes_by _ = 0

abbrev Stays : World → World → Type 0
Stays w v = v.clock ≡ w.clock

take_stays : (w : World) (c : ℕ) (o : Option CommandState) → Stays w (takes_by w c o)
take_stays w c None = refl
take_stays w c (Some s) = refl

term_stays : (w : World) (f : ℕ → World) (o : Option ℕ) → ((t : ℕ) → Stays w (f t)) → Stays w (by_term o w f)
term_stays w f None h = refl
term_stays w f (Some t) h = h t

declared_stays : (w : World) (f : Tablet → World) (o : Option Tablet) → ((me : Tablet) → Stays w (f me)) → Stays w (if_declared o w f)
declared_stays w f None h = refl
declared_stays w f (Some me) h = h me

fed_stays : (w : World) (from to : Alias) (term index : ℕ) (s : TabletState) (says : Accepted) → Stays w (fed w from to term index s says)
fed_stays w from to term index s accepteds.Taken = refl
fed_stays w from to term index s accepteds.Ignored = refl

arrival_stays : (config : Config) (w : World) (k : ℕ) (content : Content) → Stays w (after_arrival config w k content)
arrival_stays config w k (contents.Asks c u a call) = declared_stays w (asked w k c u a call) (tablet_of config.tablets a) (λ me. refl)
arrival_stays config w k (contents.Answers c call a says) = refl
arrival_stays config w k (contents.Feeds from to term before index e) = fed_stays w from to term index _ (feed_verdict w from to term before index e).says
arrival_stays config w k (contents.Acks from to term index) = refl

delivery_stays : (config : Config) (w : World) (k : ℕ) (o : Option Message) → Stays w (after_delivery config w k o)
delivery_stays config w k None = refl
delivery_stays config w k (Some m) = arrival_stays config (on_message w k (arrives w.clock)) k m.content

up_stays : (w : World) (k : ℕ) (o : Option Why) → Stays w (gives_up w k o)
up_stays w k None = refl
up_stays w k (Some why) = refl

offer_stays : (w : World) (o : Option Content) → Stays w (offers w o)
offer_stays w None = refl
offer_stays w (Some content) = refl

told_stays : (w : World) (c : ℕ) (o : Option Act) → Stays w (with_told w c o)
told_stays w c None = refl
told_stays w c (Some act) = refl

end_stays : (w : World) (c : ℕ) (o : Option CommandState) → Stays w (ends_by w c o)
end_stays w c None = refl
end_stays w c (Some s) = refl

write_stays : (config : Config) (w : World) (c : ℕ) (a : Alias) (o : Option CommandState) → Stays w (writes_in config w c a o)
write_stays config w c a None = refl
write_stays config w c a (Some s) = declared_stays w (writes_at w c a s) (tablet_of config.tablets a) (λ me. refl)

no_more : (n : ℕ) → n ≡ n + 0
no_more n = omega arith

stays : (w v : World) → Stays w v → v.clock ≡ w.clock + 0
stays w v is = is ∙ no_more w.clock

pub clock_after : (config : Config) (w : World) (e : Event) → (after config w e).clock ≡ w.clock + goes_by e
clock_after config w (events.Begin name command) = stays w (after config w (events.Begin name command)) refl
clock_after config w (events.Take c) = stays w (after config w (events.Take c)) (take_stays w c (open_command w c))
clock_after config w (events.Read c) = stays w (after config w (events.Read c)) (term_stays w (reads w c) (term_of w c) (λ t. refl))
clock_after config w (events.Intend c a) = stays w (after config w (events.Intend c a)) (term_stays w (intends_in w c a) (term_of w c) (λ t. refl))
clock_after config w (events.Record c a) = stays w (after config w (events.Record c a)) (term_stays w (records_in w c a) (term_of w c) (λ t. refl))
clock_after config w (events.Drain c a) = stays w (after config w (events.Drain c a)) (term_stays w (drains_in w c a) (term_of w c) (λ t. refl))
clock_after config w (events.Release c) = stays w (after config w (events.Release c)) (term_stays w (releases_in w c) (term_of w c) (λ t. refl))
clock_after config w events.Lapse = stays w (after config w events.Lapse) refl
clock_after config w (events.Send c a call) = stays w (after config w (events.Send c a call)) refl
clock_after config w (events.Deliver k) = stays w (after config w (events.Deliver k)) (delivery_stays config w k (numbered w.post k))
clock_after config w (events.GiveUp c k) = stays w (after config w (events.GiveUp c k)) (up_stays w k (why_given_up w c k))
clock_after config w (events.Offer r) = stays w (after config w (events.Offer r)) (offer_stays w (offer_to w r))
clock_after config w (events.Write c a) = stays w (after config w (events.Write c a)) (write_stays config w c a (open_command w c))
clock_after config w (events.Tell c) = stays w (after config w (events.Tell c)) (told_stays w c (tell_of w c >>= told_act))
clock_after config w (events.Local a) = stays w (after config w (events.Local a)) (declared_stays w _ (tablet_of config.tablets a) (λ me. refl))
clock_after config w (events.Crash a keep) = stays w (after config w (events.Crash a keep)) refl
clock_after config w (events.Restart a) = stays w (after config w (events.Restart a)) refl
clock_after config w (events.Cut x y) = stays w (after config w (events.Cut x y)) refl
clock_after config w (events.Mend x y) = stays w (after config w (events.Mend x y)) refl
clock_after config w (events.Lose k) = stays w (after config w (events.Lose k)) refl
clock_after config w (events.Tick ms) = refl
clock_after config w (events.End c x) = stays w (after config w (events.End c x)) (end_stays w c (open_command w c))

-- What one step does to one tablet, to the topology, and to the post.
use Rattle.std.proofs.Common.{◌≡◌, ℕ, Bool, true, false, refl, sym, subst, cond, Option, Some, None}
use Rattle.shard_base.specs.Options.{◌>>=◌}
use Rattle.shard_names.specs.declared.alias.Alias.{Alias}
use Rattle.shard_names.specs.declared.tablet.Tablet.{Tablet}
use Rattle.shard_names.specs.Tablets.{alias_eq, tablet_of}
use Rattle.shard_names.proofs.TabletLemmas.{alias_eq_is}
use Rattle.gtid_sets.specs.declared.entry.Entry.{Entry}
use Rattle.topo_lock.specs.Topology.{Topology}
use Rattle.topo_lock.specs.Moves.{TopoMove, Takes, Intends, Records, Drains, Releases, Lapses, Stays}
use Rattle.shard_calls.specs.declared.call.Call.{Call}
use Rattle.shard_calls.specs.declared.event.Event.{Event}
use Rattle.shard_calls.specs.declared.event.Event.TheVariants as events
use Rattle.shard_calls.specs.declared.event.Reply.{Reply}
use Rattle.shard_calls.specs.declared.outcome.Accepted.{Accepted}
use Rattle.shard_calls.specs.declared.outcome.Accepted.TheVariants as accepteds
use Rattle.shard_calls.specs.declared.post.Content.{Content}
use Rattle.shard_calls.specs.declared.post.Content.TheVariants as contents
use Rattle.shard_calls.specs.declared.post.Message.{Message}
use Rattle.shard_calls.specs.declared.state.Act.{Act}
use Rattle.shard_calls.specs.declared.state.CommandState.{CommandState}
use Rattle.shard_calls.specs.declared.why.Why.{Why}
use Rattle.shard_calls.specs.Tablets.{TabletState, after_call, accepts, after_ack, writes, writes_local, after_crash, restarts}
use Rattle.shard_calls.specs.World.{Config, World, at_tablet, on_message, arrives, numbered, open_command, term_of}
use Rattle.shard_calls.specs.Messages.{why_given_up, offer_to}
use Rattle.shard_calls.specs.Begins.{ends_by}
use Rattle.shard_calls.specs.Locks.{takes_by, by_term, reads, intends_in, records_in, drains_in, releases_in}
use Rattle.shard_calls.specs.Deliveries.{after_delivery, after_arrival, asked, fed, feed_verdict, if_declared, gives_up, offers}
use Rattle.shard_calls.specs.Writes.{writes_in, writes_at, tells, tell_of, told_act, with_told}
use Rattle.shard_calls.specs.Table.{after}

-- ---- one tablet

pub data Touched (config : Config) (w : World) (a : Alias) : Event → TabletState → Type 0 where
  Untouched : {e : Event} → Touched config w a e (w.tablets a)
  Called : (k c u : ℕ) (call : Call) (me : Tablet) (m : Message) → numbered w.post k ≡ Some m → m.content ≡ contents.Asks c u a call
      → tablet_of config.tablets a ≡ Some me → Touched config w a (events.Deliver k) (after_call w.group me u call (w.tablets a))
  Fed : (k term before index : ℕ) (from : Alias) (x : Entry) (m : Message) → numbered w.post k ≡ Some m → m.content ≡ contents.Feeds from a term before index x
      → (accepts from term before index x (w.tablets a)).says ≡ accepteds.Taken
      → Touched config w a (events.Deliver k) (accepts from term before index x (w.tablets a)).state
  Heard : (k term index : ℕ) (from : Alias) (m : Message) → numbered w.post k ≡ Some m → m.content ≡ contents.Acks from a term index
      → Touched config w a (events.Deliver k) (after_ack from term index (w.tablets a))
  WrittenBy : (c : ℕ) (s : CommandState) (me : Tablet) → open_command w c ≡ Some s → tablet_of config.tablets a ≡ Some me
      → Touched config w a (events.Write c a) (writes me s.client s.number (w.tablets a)).state
  WrittenLocal : (me : Tablet) → tablet_of config.tablets a ≡ Some me → Touched config w a (events.Local a) (writes_local me (w.tablets a)).state
  Crashed : (keep : ℕ) → Touched config w a (events.Crash a keep) (after_crash (w.tablets a))
  Restarted : Touched config w a (events.Restart a) (restarts (w.tablets a)).state

-- one tablet in a new state: this one, or another
pub at_cases : (P : TabletState → Type 0) (states : Alias → TabletState) (b a : Alias) (s : TabletState) → (b ≡ a → P s) → P (states a)
    → P (at_tablet states b s a)
at_cases P states b a s here there = of_test (alias_eq b a) refl
  where
    of_test : (t : Bool) → alias_eq b a ≡ t → P (cond t s (states a))
    of_test true e = here (alias_eq_is b a e)
    of_test false e = there

asked_cases : (config : Config) (w : World) (k c u : ℕ) (b a : Alias) (call : Call) (m : Message) (o : Option Tablet) → numbered w.post k ≡ Some m
    → m.content ≡ contents.Asks c u b call → tablet_of config.tablets b ≡ o
    → Touched config w a (events.Deliver k) ((if_declared o (on_message w k (arrives w.clock)) (asked (on_message w k (arrives w.clock)) k c u b call)).tablets a)
asked_cases config w k c u b a call m None here holds found = Untouched
asked_cases config w k c u b a call m (Some me) here holds found =
    at_cases (Touched config w a (events.Deliver k)) w.tablets b a (after_call w.group me u call (w.tablets b))
    (λ e. subst (λ (x : Alias). m.content ≡ contents.Asks c u x call → tablet_of config.tablets x ≡ Some me
    → Touched config w a (events.Deliver k) (after_call w.group me u call (w.tablets x))) (sym e) (λ p q. Called k c u call me m here p q) holds found)
    Untouched

fed_cases : (config : Config) (w : World) (k term before index : ℕ) (from b a : Alias) (x : Entry) (m : Message) (says : Accepted) → numbered w.post k ≡ Some m
    → m.content ≡ contents.Feeds from b term before index x → (accepts from term before index x (w.tablets b)).says ≡ says
    → Touched config w a (events.Deliver k) ((fed (on_message w k (arrives w.clock)) from b term index (accepts from term before index x (w.tablets b)).state says).tablets a)
fed_cases config w k term before index from b a x m accepteds.Ignored here holds taken = Untouched
fed_cases config w k term before index from b a x m accepteds.Taken here holds taken =
    at_cases (Touched config w a (events.Deliver k)) w.tablets b a (accepts from term before index x (w.tablets b)).state
    (λ e. subst (λ (y : Alias). m.content ≡ contents.Feeds from y term before index x → (accepts from term before index x (w.tablets y)).says ≡ accepteds.Taken
    → Touched config w a (events.Deliver k) (accepts from term before index x (w.tablets y)).state) (sym e)
    (λ p q. Fed k term before index from x m here p q) holds taken)
    Untouched

heard_cases : (config : Config) (w : World) (k term index : ℕ) (from b a : Alias) (m : Message) → numbered w.post k ≡ Some m
    → m.content ≡ contents.Acks from b term index
    → Touched config w a (events.Deliver k) (at_tablet w.tablets b (after_ack from term index (w.tablets b)) a)
heard_cases config w k term index from b a m here holds =
    at_cases (Touched config w a (events.Deliver k)) w.tablets b a (after_ack from term index (w.tablets b))
    (λ e. subst (λ (y : Alias). m.content ≡ contents.Acks from y term index → Touched config w a (events.Deliver k) (after_ack from term index (w.tablets y)))
    (sym e) (λ p. Heard k term index from m here p) holds)
    Untouched

arrival_cases : (config : Config) (w : World) (k : ℕ) (a : Alias) (m : Message) (content : Content) → numbered w.post k ≡ Some m → m.content ≡ content
    → Touched config w a (events.Deliver k) ((after_arrival config (on_message w k (arrives w.clock)) k content).tablets a)
arrival_cases config w k a m (contents.Asks c u b call) here holds = asked_cases config w k c u b a call m (tablet_of config.tablets b) here holds refl
arrival_cases config w k a m (contents.Answers c call b says) here holds = Untouched
arrival_cases config w k a m (contents.Feeds from to term before index x) here holds =
    fed_cases config w k term before index from to a x m (accepts from term before index x (w.tablets to)).says here holds refl
arrival_cases config w k a m (contents.Acks from to term index) here holds = heard_cases config w k term index from to a m here holds

delivery_cases : (config : Config) (w : World) (k : ℕ) (a : Alias) (o : Option Message) → numbered w.post k ≡ o
    → Touched config w a (events.Deliver k) ((after_delivery config w k o).tablets a)
delivery_cases config w k a None here = Untouched
delivery_cases config w k a (Some m) here = arrival_cases config w k a m m.content here refl

same_up : (config : Config) (w : World) (k : ℕ) (a : Alias) (o : Option Why) → (gives_up w k o).tablets a ≡ w.tablets a
same_up config w k a None = refl
same_up config w k a (Some why) = refl

same_offer : (w : World) (a : Alias) (o : Option Content) → (offers w o).tablets a ≡ w.tablets a
same_offer w a None = refl
same_offer w a (Some content) = refl

same_tell : (w : World) (c : ℕ) (a : Alias) (r : Option Reply) → (tells w c r).tablets a ≡ w.tablets a
same_tell w c a r = of_act (r >>= told_act)
  where
    of_act : (o : Option Act) → (with_told w c o).tablets a ≡ w.tablets a
    of_act None = refl
    of_act (Some act) = refl

same_take : (w : World) (c : ℕ) (a : Alias) (o : Option CommandState) → (takes_by w c o).tablets a ≡ w.tablets a
same_take w c a None = refl
same_take w c a (Some s) = refl

same_end : (w : World) (c : ℕ) (a : Alias) (o : Option CommandState) → (ends_by w c o).tablets a ≡ w.tablets a
same_end w c a None = refl
same_end w c a (Some s) = refl

same_by : (w : World) (f : ℕ → World) (a : Alias) (o : Option ℕ) → ((t : ℕ) → (f t).tablets a ≡ w.tablets a) → (by_term o w f).tablets a ≡ w.tablets a
same_by w f a None h = refl
same_by w f a (Some t) h = h t

written_cases : (config : Config) (w : World) (c : ℕ) (b a : Alias) (s : CommandState) (o : Option Tablet) → open_command w c ≡ Some s
    → tablet_of config.tablets b ≡ o → Touched config w a (events.Write c b) ((if_declared o w (writes_at w c b s)).tablets a)
written_cases config w c b a s None begun found = Untouched
written_cases config w c b a s (Some me) begun found =
    at_cases (Touched config w a (events.Write c b)) w.tablets b a (writes me s.client s.number (w.tablets b)).state
    (λ e. subst (λ (y : Alias). tablet_of config.tablets y ≡ Some me → Touched config w a (events.Write c y) (writes me s.client s.number (w.tablets y)).state)
    (sym e) (λ q. WrittenBy c s me begun q) found)
    Untouched

write_cases : (config : Config) (w : World) (c : ℕ) (b a : Alias) (o : Option CommandState) → open_command w c ≡ o
    → Touched config w a (events.Write c b) ((writes_in config w c b o).tablets a)
write_cases config w c b a None begun = Untouched
write_cases config w c b a (Some s) begun = written_cases config w c b a s (tablet_of config.tablets b) begun refl

local_cases : (config : Config) (w : World) (b a : Alias) (o : Option Tablet) → tablet_of config.tablets b ≡ o
    → Touched config w a (events.Local b) ((if_declared o w (λ me. record w { tablets = at_tablet w.tablets b (writes_local me (w.tablets b)).state })).tablets a)
local_cases config w b a None found = Untouched
local_cases config w b a (Some me) found =
    at_cases (Touched config w a (events.Local b)) w.tablets b a (writes_local me (w.tablets b)).state
    (λ e. subst (λ (y : Alias). tablet_of config.tablets y ≡ Some me → Touched config w a (events.Local y) (writes_local me (w.tablets y)).state)
    (sym e) (λ q. WrittenLocal me q) found)
    Untouched

crash_cases : (config : Config) (w : World) (keep : ℕ) (b a : Alias)
    → Touched config w a (events.Crash b keep) (at_tablet w.tablets b (after_crash (w.tablets b)) a)
crash_cases config w keep b a =
    at_cases (Touched config w a (events.Crash b keep)) w.tablets b a (after_crash (w.tablets b))
    (λ e. subst (λ (y : Alias). Touched config w a (events.Crash y keep) (after_crash (w.tablets y))) (sym e) (Crashed keep)) Untouched

restart_cases : (config : Config) (w : World) (b a : Alias) → Touched config w a (events.Restart b) (at_tablet w.tablets b (restarts (w.tablets b)).state a)
restart_cases config w b a =
    at_cases (Touched config w a (events.Restart b)) w.tablets b a (restarts (w.tablets b)).state
    (λ e. subst (λ (y : Alias). Touched config w a (events.Restart y) (restarts (w.tablets y)).state) (sym e) Restarted) Untouched

untouched : (config : Config) (w : World) (a : Alias) (e : Event) (s : TabletState) → s ≡ w.tablets a → Touched config w a e s
untouched config w a e s same = subst (λ (t : TabletState). Touched config w a e t) (sym same) Untouched

pub touched : (config : Config) (w : World) (e : Event) (a : Alias) → Touched config w a e ((after config w e).tablets a)
touched config w (events.Begin name command) a = Untouched
touched config w (events.Take c) a = untouched config w a (events.Take c) _ (same_take w c a (open_command w c))
touched config w (events.Read c) a = untouched config w a (events.Read c) _ (same_by w (reads w c) a (term_of w c) (λ t. refl))
touched config w (events.Intend c b) a = untouched config w a (events.Intend c b) _ (same_by w (intends_in w c b) a (term_of w c) (λ t. refl))
touched config w (events.Record c b) a = untouched config w a (events.Record c b) _ (same_by w (records_in w c b) a (term_of w c) (λ t. refl))
touched config w (events.Drain c b) a = untouched config w a (events.Drain c b) _ (same_by w (drains_in w c b) a (term_of w c) (λ t. refl))
touched config w (events.Release c) a = untouched config w a (events.Release c) _ (same_by w (releases_in w c) a (term_of w c) (λ t. refl))
touched config w events.Lapse a = Untouched
touched config w (events.Send c b call) a = Untouched
touched config w (events.Deliver k) a = delivery_cases config w k a (numbered w.post k) refl
touched config w (events.GiveUp c k) a = untouched config w a (events.GiveUp c k) _ (same_up config w k a (why_given_up w c k))
touched config w (events.Offer r) a = untouched config w a (events.Offer r) _ (same_offer w a (offer_to w r))
touched config w (events.Write c b) a = write_cases config w c b a (open_command w c) refl
touched config w (events.Tell c) a = untouched config w a (events.Tell c) _ (same_tell w c a (tell_of w c))
touched config w (events.Local b) a = local_cases config w b a (tablet_of config.tablets b) refl
touched config w (events.Crash b keep) a = crash_cases config w keep b a
touched config w (events.Restart b) a = restart_cases config w b a
touched config w (events.Cut x y) a = Untouched
touched config w (events.Mend x y) a = Untouched
touched config w (events.Lose k) a = Untouched
touched config w (events.Tick ms) a = Untouched
touched config w (events.End c x) a = untouched config w a (events.End c x) _ (same_end w c a (open_command w c))

-- ---- the topology

same_topo : {s t : Topology} → t ≡ s → TopoMove s t
same_topo {s} e = subst (λ (t : Topology). TopoMove s t) (sym e) Stays

take_moves : (w : World) (c : ℕ) (o : Option CommandState) → TopoMove w.topo (takes_by w c o).topo
take_moves w c None = Stays
take_moves w c (Some s) = Takes _

by_moves : (w : World) (f : ℕ → World) (o : Option ℕ) → ((t : ℕ) → TopoMove w.topo (f t).topo) → TopoMove w.topo (by_term o w f).topo
by_moves w f None h = Stays
by_moves w f (Some t) h = h t

topo_declared : (v : World) (f : Tablet → World) (o : Option Tablet) → ((me : Tablet) → (f me).topo ≡ v.topo) → (if_declared o v f).topo ≡ v.topo
topo_declared v f None h = refl
topo_declared v f (Some me) h = h me

topo_fed : (w : World) (from to : Alias) (term index : ℕ) (s : TabletState) (says : Accepted) → (fed w from to term index s says).topo ≡ w.topo
topo_fed w from to term index s accepteds.Taken = refl
topo_fed w from to term index s accepteds.Ignored = refl

topo_arrival : (config : Config) (w : World) (k : ℕ) (content : Content) → (after_arrival config w k content).topo ≡ w.topo
topo_arrival config w k (contents.Asks c u a call) = topo_declared w (asked w k c u a call) (tablet_of config.tablets a) (λ me. refl)
topo_arrival config w k (contents.Answers c call a says) = refl
topo_arrival config w k (contents.Feeds from to term before index e) = topo_fed w from to term index _ (feed_verdict w from to term before index e).says
topo_arrival config w k (contents.Acks from to term index) = refl

topo_delivery : (config : Config) (w : World) (k : ℕ) (o : Option Message) → (after_delivery config w k o).topo ≡ w.topo
topo_delivery config w k None = refl
topo_delivery config w k (Some m) = topo_arrival config (on_message w k (arrives w.clock)) k m.content

topo_up : (w : World) (k : ℕ) (o : Option Why) → (gives_up w k o).topo ≡ w.topo
topo_up w k None = refl
topo_up w k (Some why) = refl

topo_offer : (w : World) (o : Option Content) → (offers w o).topo ≡ w.topo
topo_offer w None = refl
topo_offer w (Some content) = refl

topo_told : (w : World) (c : ℕ) (o : Option Act) → (with_told w c o).topo ≡ w.topo
topo_told w c None = refl
topo_told w c (Some act) = refl

topo_end : (w : World) (c : ℕ) (o : Option CommandState) → (ends_by w c o).topo ≡ w.topo
topo_end w c None = refl
topo_end w c (Some s) = refl

topo_write : (config : Config) (w : World) (c : ℕ) (a : Alias) (o : Option CommandState) → (writes_in config w c a o).topo ≡ w.topo
topo_write config w c a None = refl
topo_write config w c a (Some s) = topo_declared w (writes_at w c a s) (tablet_of config.tablets a) (λ me. refl)

pub topo_moves : (config : Config) (w : World) (e : Event) → TopoMove w.topo (after config w e).topo
topo_moves config w (events.Begin name command) = Stays
topo_moves config w (events.Take c) = take_moves w c (open_command w c)
topo_moves config w (events.Read c) = by_moves w (reads w c) (term_of w c) (λ t. Stays)
topo_moves config w (events.Intend c a) = by_moves w (intends_in w c a) (term_of w c) (λ t. Intends t a)
topo_moves config w (events.Record c a) = by_moves w (records_in w c a) (term_of w c) (λ t. Records t w.clock)
topo_moves config w (events.Drain c a) = by_moves w (drains_in w c a) (term_of w c) (λ t. Drains t a)
topo_moves config w (events.Release c) = by_moves w (releases_in w c) (term_of w c) (λ t. Releases t)
topo_moves config w events.Lapse = Lapses
topo_moves config w (events.Send c a call) = Stays
topo_moves config w (events.Deliver k) = same_topo (topo_delivery config w k (numbered w.post k))
topo_moves config w (events.GiveUp c k) = same_topo (topo_up w k (why_given_up w c k))
topo_moves config w (events.Offer r) = same_topo (topo_offer w (offer_to w r))
topo_moves config w (events.Write c a) = same_topo (topo_write config w c a (open_command w c))
topo_moves config w (events.Tell c) = same_topo (topo_told w c (tell_of w c >>= told_act))
topo_moves config w (events.Local a) = same_topo (topo_declared w _ (tablet_of config.tablets a) (λ me. refl))
topo_moves config w (events.Crash a keep) = Stays
topo_moves config w (events.Restart a) = Stays
topo_moves config w (events.Cut x y) = Stays
topo_moves config w (events.Mend x y) = Stays
topo_moves config w (events.Lose k) = Stays
topo_moves config w (events.Tick ms) = Stays
topo_moves config w (events.End c x) = same_topo (topo_end w c (open_command w c))

-- Marks of drained tablets stay in alias order, each of a declared tablet, and there is room for a mark of each.
use Rattle.std.proofs.Common.{◌≡◌, ◌<◌, ◌⊎◌, ℕ, List, Bool, true, false, Option, Some, None, length, refl, sym, subst}
use Rattle.std.specs.List.{list_all}
use Rattle.shard_base.specs.Options.{◌>>=◌}
use Rattle.shard_names.specs.declared.alias.Alias.{Alias}
use Rattle.shard_names.specs.declared.tablet.Tablet.{Tablet}
use Rattle.shard_names.specs.Tablets.{is_among, is_declared, tablet_of}
use Rattle.shard_names.proofs.TabletLemmas.{both_left}
use Rattle.topo_lock.specs.Topology.{Topology, is_held, is_held_in, adds_intent, marked, after_take, after_intend, after_record, after_drain, after_release}
use Rattle.topo_lock.specs.Laws.{MarksRise}
use Rattle.topo_lock.specs.declared.lock.Holder.{Holder}
use Rattle.topo_lock.proofs.MarkLemmas.{marked_all, marked_rises, mark_has_room}
use Rattle.shard_calls.specs.declared.event.Event.{Event}
use Rattle.shard_calls.specs.declared.event.Event.TheVariants as events
use Rattle.shard_calls.specs.declared.outcome.Accepted.{Accepted}
use Rattle.shard_calls.specs.declared.outcome.Accepted.TheVariants as accepteds
use Rattle.shard_calls.specs.declared.post.Content.{Content}
use Rattle.shard_calls.specs.declared.post.Content.TheVariants as contents
use Rattle.shard_calls.specs.declared.post.Message.{Message}
use Rattle.shard_calls.specs.declared.state.Act.{Act}
use Rattle.shard_calls.specs.declared.state.CommandState.{CommandState}
use Rattle.shard_calls.specs.declared.why.Why.{Why}
use Rattle.shard_calls.specs.Tablets.{TabletState}
use Rattle.shard_calls.specs.World.{Config, World, numbered, on_message, arrives, open_command, term_of}
use Rattle.shard_calls.specs.Messages.{why_given_up, offer_to}
use Rattle.shard_calls.specs.Begins.{ends_by}
use Rattle.shard_calls.specs.Locks.{takes_by, by_term, reads, intends_in, records_in, drains_in, releases_in}
use Rattle.shard_calls.specs.Deliveries.{after_delivery, after_arrival, asked, fed, feed_verdict, if_declared, gives_up, offers}
use Rattle.shard_calls.specs.Writes.{writes_in, writes_at, tell_of, told_act, with_told}
use Rattle.shard_calls.specs.Table.{Met, change}
use Rattle.shard_state.specs.State.{Data, config_in, seen, tablets_of}
use Rattle.changes.specs.Sound.{AreSound, Fits, HasRoomForMark}

-- marks in alias order, of declared tablets
pub record AreMarks (config : Config) (marks : List Alias) : Type 0 where
  pub declared : list_all (is_declared config.tablets) marks ≡ true
  pub rise : MarksRise marks

-- no other mark
abbrev SameMarks : World → World → Type 0
SameMarks w v = v.topo.drained ≡ w.topo.drained

-- ---- the topology

take_same : (t : Topology) (h : Holder) (b : Bool) → is_held t ≡ b → (after_take t h).drained ≡ t.drained
take_same t h true is = rw is refl
take_same t h false is = rw is refl

intend_same : (t : Topology) (u : ℕ) (a : Alias) (b : Bool) → adds_intent t u ≡ b → (after_intend t u a).drained ≡ t.drained
intend_same t u a true is = rw is refl
intend_same t u a false is = rw is refl

record_same : (t : Topology) (u moment : ℕ) (b : Bool) → is_held_in t u ≡ b → (after_record t u moment).drained ≡ t.drained
record_same t u moment true is = rw is refl
record_same t u moment false is = rw is refl

release_same : (t : Topology) (u : ℕ) (b : Bool) → is_held_in t u ≡ b → (after_release t u).drained ≡ t.drained
release_same t u true is = rw is refl
release_same t u false is = rw is refl

one_more : (config : Config) (ms : List Alias) (a : Alias) → is_declared config.tablets a ≡ true → AreMarks config ms → AreMarks config (marked ms a)
one_more config ms a here h = record { declared = marked_all (is_declared config.tablets) ms a here h.declared; rise = marked_rises ms a h.rise }

drain_marks : (config : Config) (t : Topology) (u : ℕ) (a : Alias) (b : Bool) → is_held_in t u ≡ b → is_declared config.tablets a ≡ true → AreMarks config t.drained
    → AreMarks config (after_drain t u a).drained
drain_marks config t u a true is here h = rw is (one_more config t.drained a here h)
drain_marks config t u a false is here h = rw is h

-- ---- by rows

same_take : (w : World) (c : ℕ) (o : Option CommandState) → SameMarks w (takes_by w c o)
same_take w c None = refl
same_take w c (Some s) = take_same w.topo (record { command = c; actor = s.actor }) _ refl

same_by : (w : World) (f : ℕ → World) (o : Option ℕ) → ((t : ℕ) → SameMarks w (f t)) → SameMarks w (by_term o w f)
same_by w f None h = refl
same_by w f (Some t) h = h t

same_declared : (w : World) (f : Tablet → World) (o : Option Tablet) → ((me : Tablet) → SameMarks w (f me)) → SameMarks w (if_declared o w f)
same_declared w f None h = refl
same_declared w f (Some me) h = h me

same_fed : (w : World) (from to : Alias) (term index : ℕ) (s : TabletState) (x : Accepted) → SameMarks w (fed w from to term index s x)
same_fed w from to term index s accepteds.Taken = refl
same_fed w from to term index s accepteds.Ignored = refl

same_arrival : (config : Config) (w : World) (k : ℕ) (content : Content) → SameMarks w (after_arrival config w k content)
same_arrival config w k (contents.Asks c u a call) = same_declared w (asked w k c u a call) (tablet_of config.tablets a) (λ me. refl)
same_arrival config w k (contents.Answers c call a says) = refl
same_arrival config w k (contents.Feeds from to term before index x) =
    same_fed w from to term index (feed_verdict w from to term before index x).state (feed_verdict w from to term before index x).says
same_arrival config w k (contents.Acks from to term index) = refl

same_delivery : (config : Config) (w : World) (k : ℕ) (o : Option Message) → SameMarks w (after_delivery config w k o)
same_delivery config w k None = refl
same_delivery config w k (Some m) = same_arrival config (on_message w k (arrives w.clock)) k m.content

same_up : (w : World) (k : ℕ) (o : Option Why) → SameMarks w (gives_up w k o)
same_up w k None = refl
same_up w k (Some why) = refl

same_offer : (w : World) (o : Option Content) → SameMarks w (offers w o)
same_offer w None = refl
same_offer w (Some content) = refl

same_write : (config : Config) (w : World) (c : ℕ) (a : Alias) (o : Option CommandState) → SameMarks w (writes_in config w c a o)
same_write config w c a None = refl
same_write config w c a (Some s) = same_declared w (writes_at w c a s) (tablet_of config.tablets a) (λ me. refl)

same_told : (w : World) (c : ℕ) (o : Option Act) → SameMarks w (with_told w c o)
same_told w c None = refl
same_told w c (Some act) = refl

same_end : (w : World) (c : ℕ) (o : Option CommandState) → SameMarks w (ends_by w c o)
same_end w c None = refl
same_end w c (Some s) = refl

stay : (config : Config) (ms ns : List Alias) → ns ≡ ms → AreMarks config ms → AreMarks config ns
stay config ms ns same h = subst (λ (xs : List Alias). AreMarks config xs) (sym same) h

drained : (config : Config) (w : World) (c : ℕ) (a : Alias) (o : Option ℕ) → is_declared config.tablets a ≡ true → AreMarks config w.topo.drained
    → AreMarks config (by_term o w (drains_in w c a)).topo.drained
drained config w c a None here h = h
drained config w c a (Some t) here h = drain_marks config w.topo t a _ refl here h

pub marks_after : (config : Config) (w : World) (e : Event) → Met config w e → AreMarks config w.topo.drained → AreMarks config (change config w e).topo.drained
marks_after config w (events.Begin name command) met h = h
marks_after config w (events.Take c) met h = stay config w.topo.drained _ (same_take w c (open_command w c)) h
marks_after config w (events.Read c) met h = stay config w.topo.drained _ (same_by w (reads w c) (term_of w c) (λ t. refl)) h
marks_after config w (events.Intend c a) met h = stay config w.topo.drained _ (same_by w (intends_in w c a) (term_of w c) (λ t. intend_same w.topo t a _ refl)) h
marks_after config w (events.Record c a) met h = stay config w.topo.drained _ (same_by w (records_in w c a) (term_of w c) (λ t. record_same w.topo t w.clock _ refl)) h
marks_after config w (events.Drain c a) met h = drained config w c a (term_of w c) (both_left (is_declared config.tablets a) _ met) h
marks_after config w (events.Release c) met h = stay config w.topo.drained _ (same_by w (releases_in w c) (term_of w c) (λ t. release_same w.topo t _ refl)) h
marks_after config w events.Lapse met h = h
marks_after config w (events.Send c a call) met h = h
marks_after config w (events.Deliver k) met h = stay config w.topo.drained _ (same_delivery config w k (numbered w.post k)) h
marks_after config w (events.GiveUp c k) met h = stay config w.topo.drained _ (same_up w k (why_given_up w c k)) h
marks_after config w (events.Offer r) met h = stay config w.topo.drained _ (same_offer w (offer_to w r)) h
marks_after config w (events.Write c a) met h = stay config w.topo.drained _ (same_write config w c a (open_command w c)) h
marks_after config w (events.Tell c) met h = stay config w.topo.drained _ (same_told w c (tell_of w c >>= told_act)) h
marks_after config w (events.Local a) met h = stay config w.topo.drained _ (same_declared w _ (tablet_of config.tablets a) (λ me. refl)) h
marks_after config w (events.Crash a keep) met h = h
marks_after config w (events.Restart a) met h = h
marks_after config w (events.Cut x y) met h = h
marks_after config w (events.Mend x y) met h = h
marks_after config w (events.Lose k) met h = h
marks_after config w (events.Tick ms) met h = h
marks_after config w (events.End c x) met h = stay config w.topo.drained _ (same_end w c (open_command w c)) h

-- ---- room

-- what is to be marked there is room for
pub has_room : (d : Data) (a : Alias) → is_declared (config_in d).tablets a ≡ true → AreSound (config_in d) (seen d) → Fits d → HasRoomForMark d a
has_room d a here sound fits =
    subst (λ (n : ℕ). (is_among d.topo.drained a ≡ true) ⊎ (length d.topo.drained < n)) (sym fits.marks)
    (mark_has_room d.topo.drained (tablets_of d.managers) a fits.order sound.rise sound.marks here)

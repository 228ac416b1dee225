-- Numbers grow by at most one a step.
use Rattle.std.proofs.Common.{◌≡◌, ℕ, zero, suc, ◌+◌, ◌<◌, ◌≤◌, ◌⊎◌, inl, inr, List, [], ◌∷◌, ◌++◌, Bool, true, false, Option, Some, None, length, refl, ap, sym, subst, arith, length-append}
use Rattle.std.specs.List.{slice_get}
use Rattle.shard_base.specs.Options.{◌>>=◌}
use Rattle.shard_names.specs.declared.alias.Alias.{Alias}
use Rattle.shard_names.specs.declared.tablet.Tablet.{Tablet}
use Rattle.shard_names.specs.Tablets.{tablet_of}
use Rattle.gtid_sets.specs.declared.entry.Entry.{Entry}
use Rattle.topo_lock.specs.Topology.{Topology, is_held, is_held_in, adds_intent, after_take, after_intend, after_record, after_drain, after_release}
use Rattle.topo_lock.specs.Moves.{TopoMove, Takes, Intends, Records, Drains, Releases, Lapses, Stays}
use Rattle.topo_lock.specs.declared.lock.Holder.{Holder}
use Rattle.shard_calls.specs.declared.command.Command.{Command}
use Rattle.shard_calls.specs.declared.command.Command.TheVariants as commands
use Rattle.shard_calls.specs.declared.event.Event.{Event}
use Rattle.shard_calls.specs.declared.event.Event.TheVariants as events
use Rattle.shard_calls.specs.declared.outcome.Accepted.{Accepted}
use Rattle.shard_calls.specs.declared.outcome.Accepted.TheVariants as accepteds
use Rattle.shard_calls.specs.declared.post.Content.{Content}
use Rattle.shard_calls.specs.declared.post.Content.TheVariants as contents
use Rattle.shard_calls.specs.declared.post.Message.{Message}
use Rattle.shard_calls.specs.declared.state.Act.{Act}
use Rattle.shard_calls.specs.declared.state.ActorState.{ActorState}
use Rattle.shard_calls.specs.declared.state.CommandState.{CommandState}
use Rattle.shard_calls.specs.declared.why.Why.{Why}
use Rattle.shard_calls.specs.Tablets.{TabletState}
use Rattle.shard_calls.specs.World.{Config, World, opening, changed, changed_at, idle_actor, numbered, on_message, arrives, open_command, place_of, term_of}
use Rattle.shard_calls.specs.Messages.{why_given_up, offer_to}
use Rattle.shard_calls.specs.Begins.{begins, begun_state, client_of, closes, joined_at, opens, with_actor, writes_by, ends_by}
use Rattle.shard_calls.specs.Locks.{takes_by, by_term, reads, intends_in, records_in, drains_in, releases_in}
use Rattle.shard_calls.specs.Deliveries.{after_delivery, after_arrival, asked, fed, feed_verdict, if_declared, gives_up, offers}
use Rattle.shard_calls.specs.Writes.{writes_in, writes_at, tell_of, told_act, with_told}
use Rattle.shard_calls.specs.Table.{change}
use Rattle.shard_calls.proofs.ListLemmas.{slice_get-push_cases}
use Rattle.shard_calls.proofs.LogChangeLemmas.{LogChange, SameLog, RowEnters, EntryComes, OwnEntry, log_changes}
use Rattle.shard_calls.proofs.PostLemmas.{Sent, Asked, Replied, Acked, Offered, PostCases, post_cases}
use Rattle.shard_calls.proofs.TouchLemmas.{touched, topo_moves}
use Rattle.changes.specs.Few.{HaveFewWrites, IsFewLog, IsFewContent, AreFew}
use Rattle.changes.specs.Sound.{AreSound}
use Rattle.changes.proofs.FewLemmas.{greatest_few}
use Rattle.changes.proofs.OfferLemmas.{offered}

length_changed : {A : Type 0} (xs : List A) (k : ℕ) (f : A → A) → length (changed xs k f) ≡ length xs
length_changed [] k f = refl
length_changed (x ∷ xs) zero f = refl
length_changed (x ∷ xs) (suc k) f = ap (λ (n : ℕ). suc n) (length_changed xs k f)

length_changed_at : {A : Type 0} (xs : List A) (c : ℕ) (f : A → A) → length (changed_at xs c f) ≡ length xs
length_changed_at xs zero f = refl
length_changed_at xs (suc k) f = length_changed xs k f

-- ---- writes

writes_more : (n m : ℕ) (us : List ActorState) → n ≤ m → HaveFewWrites n us → HaveFewWrites m us
writes_more n m [] le h = tt
writes_more n m (a ∷ us) le h = (omega (arith, h.0), writes_more n m us le h.1)

writes_one : (command : Command) → writes_by command ≤ 1
writes_one (commands.Planned shard new_primary avoid expected timeout allow_cross_cell) = omega arith
writes_one (commands.Emergency shard new_primary ignored expected timeout prevent_cross_cell) = omega arith
writes_one (commands.External a) = omega arith
writes_one commands.Vtorc = omega arith
writes_one (commands.Write to) = omega arith
writes_one (commands.Show a) = omega arith
writes_one (commands.GetShard shard) = omega arith
writes_one (commands.GetTablets shard) = omega arith

writes_opened : (n k number : ℕ) (command : Command) (us : List ActorState) → HaveFewWrites n us → HaveFewWrites (n + 1) (changed us k (opens number command))
writes_opened n k number command [] h = tt
writes_opened n zero number command (a ∷ us) h = (omega (arith, h.0, writes_one command), writes_more n (n + 1) us (omega arith) h.1)
writes_opened n (suc k) number command (a ∷ us) h = (omega (arith, h.0), writes_opened n k number command us h.1)

writes_closed : (n k : ℕ) (us : List ActorState) → HaveFewWrites n us → HaveFewWrites n (changed us k closes)
writes_closed n k [] h = tt
writes_closed n zero (a ∷ us) h = h
writes_closed n (suc k) (a ∷ us) h = (h.0, writes_closed n k us h.1)

writes_push : (n : ℕ) (name : List ℕ) (us : List ActorState) → HaveFewWrites n us → HaveFewWrites n (us ++ idle_actor name ∷ [])
writes_push n name [] h = (omega arith, tt)
writes_push n name (a ∷ us) h = (h.0, writes_push n name us h.1)

writes_joined : (n : ℕ) (name : List ℕ) (us : List ActorState) (k : Option ℕ) → HaveFewWrites n us → HaveFewWrites n (joined_at us name k)
writes_joined n name us None h = writes_push n name us h
writes_joined n name us (Some k) h = h

length_joined : (name : List ℕ) (us : List ActorState) (k : Option ℕ) → length (joined_at us name k) ≤ length us + 1
length_joined name us None = omega (arith, length-append us (idle_actor name ∷ []))
length_joined name us (Some k) = omega arith

-- ---- actors and commands

pub record ArePeople (n : ℕ) (w : World) : Type 0 where
  pub actors : length w.actors ≤ n + 1
  pub commands : length w.commands ≤ n
  pub writes : HaveFewWrites n w.actors

-- the same actors, and as many commands
abbrev SamePeople : World → World → Type 0
SamePeople w v = (v.actors ≡ w.actors) × (length v.commands ≡ length w.commands)

more_people : (n : ℕ) (w v : World) → ArePeople n w → SamePeople w v → ArePeople (n + 1) v
more_people n w v h same = record {
  actors = omega (arith, h.actors, ap (λ (xs : List ActorState). length xs) same.0);
  commands = omega (arith, h.commands, same.1);
  writes = subst (λ (xs : List ActorState). HaveFewWrites (n + 1) xs) (sym same.0) (writes_more n (n + 1) w.actors (omega arith) h.writes);
}

people_take : (w : World) (c : ℕ) (o : Option CommandState) → SamePeople w (takes_by w c o)
people_take w c None = (refl, refl)
people_take w c (Some s) = (refl, length_changed_at w.commands c _)

people_by : (w : World) (f : ℕ → World) (o : Option ℕ) → ((t : ℕ) → SamePeople w (f t)) → SamePeople w (by_term o w f)
people_by w f None h = (refl, refl)
people_by w f (Some t) h = h t

people_declared : (w v : World) (f : Tablet → World) (o : Option Tablet) → SamePeople w v → ((me : Tablet) → SamePeople w (f me)) → SamePeople w (if_declared o v f)
people_declared w v f None g h = g
people_declared w v f (Some me) g h = h me

people_fed : (w : World) (from to : Alias) (term index : ℕ) (s : TabletState) (x : Accepted) → SamePeople w (fed w from to term index s x)
people_fed w from to term index s accepteds.Taken = (refl, refl)
people_fed w from to term index s accepteds.Ignored = (refl, refl)

people_arrival : (config : Config) (w : World) (k : ℕ) (content : Content) → SamePeople w (after_arrival config w k content)
people_arrival config w k (contents.Asks c u a call) = people_declared w w (asked w k c u a call) (tablet_of config.tablets a) (refl, refl) (λ me. (refl, refl))
people_arrival config w k (contents.Answers c call a says) = (refl, refl)
people_arrival config w k (contents.Feeds from to term before index x) =
    people_fed w from to term index (feed_verdict w from to term before index x).state (feed_verdict w from to term before index x).says
people_arrival config w k (contents.Acks from to term index) = (refl, refl)

people_delivery : (config : Config) (w : World) (k : ℕ) (o : Option Message) → SamePeople w (after_delivery config w k o)
people_delivery config w k None = (refl, refl)
people_delivery config w k (Some m) = people_arrival config (on_message w k (arrives w.clock)) k m.content

people_up : (w : World) (k : ℕ) (o : Option Why) → SamePeople w (gives_up w k o)
people_up w k None = (refl, refl)
people_up w k (Some why) = (refl, refl)

people_offer : (w : World) (o : Option Content) → SamePeople w (offers w o)
people_offer w None = (refl, refl)
people_offer w (Some content) = (refl, refl)

people_write : (config : Config) (w : World) (c : ℕ) (a : Alias) (o : Option CommandState) → SamePeople w (writes_in config w c a o)
people_write config w c a None = (refl, refl)
people_write config w c a (Some s) = people_declared w w (writes_at w c a s) (tablet_of config.tablets a) (refl, refl) (λ me. (refl, length_changed_at w.commands c _))

people_told : (w : World) (c : ℕ) (o : Option Act) → SamePeople w (with_told w c o)
people_told w c None = (refl, refl)
people_told w c (Some act) = (refl, length_changed_at w.commands c _)

people_begin : (n : ℕ) (w : World) (name : List ℕ) (command : Command) → ArePeople n w → ArePeople (n + 1) (begins w name command)
people_begin n w name command h = record {
  actors = omega (arith, h.actors, length_joined name w.actors (place_of w.actors name), length_changed (with_actor w.actors name) (client_of w.actors name) (opens (length w.commands + 1) command));
  commands = omega (arith, h.commands, length-append w.commands (begun_state w name command ∷ []));
  writes = writes_opened n (client_of w.actors name) (length w.commands + 1) command (with_actor w.actors name) (writes_joined n name w.actors (place_of w.actors name) h.writes);
}

people_end : (n : ℕ) (w : World) (c : ℕ) (o : Option CommandState) → ArePeople n w → ArePeople (n + 1) (ends_by w c o)
people_end n w c None h = more_people n w w h (refl, refl)
people_end n w c (Some s) h = record {
  actors = omega (arith, h.actors, length_changed w.actors s.client closes);
  commands = omega (arith, h.commands, length_changed_at w.commands c ended);
  writes = writes_more n (n + 1) (changed w.actors s.client closes) (omega arith) (writes_closed n s.client w.actors h.writes);
}
  where
    ended : CommandState → CommandState
    ended x = record x { ended = true }

people_after : (n : ℕ) (config : Config) (w : World) (e : Event) → ArePeople n w → ArePeople (n + 1) (change config w e)
people_after n config w (events.Begin name command) h = people_begin n w name command h
people_after n config w (events.Take c) h = more_people n w _ h (people_take w c (open_command w c))
people_after n config w (events.Read c) h = more_people n w _ h (people_by w (reads w c) (term_of w c) (λ t. (refl, length_changed_at w.commands c _)))
people_after n config w (events.Intend c a) h = more_people n w _ h (people_by w (intends_in w c a) (term_of w c) (λ t. (refl, length_changed_at w.commands c _)))
people_after n config w (events.Record c a) h = more_people n w _ h (people_by w (records_in w c a) (term_of w c) (λ t. (refl, length_changed_at w.commands c _)))
people_after n config w (events.Drain c a) h = more_people n w _ h (people_by w (drains_in w c a) (term_of w c) (λ t. (refl, length_changed_at w.commands c _)))
people_after n config w (events.Release c) h = more_people n w _ h (people_by w (releases_in w c) (term_of w c) (λ t. (refl, length_changed_at w.commands c _)))
people_after n config w events.Lapse h = more_people n w _ h (refl, refl)
people_after n config w (events.Send c a call) h = more_people n w _ h (refl, length_changed_at w.commands c _)
people_after n config w (events.Deliver k) h = more_people n w _ h (people_delivery config w k (numbered w.post k))
people_after n config w (events.GiveUp c k) h = more_people n w _ h (people_up w k (why_given_up w c k))
people_after n config w (events.Offer r) h = more_people n w _ h (people_offer w (offer_to w r))
people_after n config w (events.Write c a) h = more_people n w _ h (people_write config w c a (open_command w c))
people_after n config w (events.Tell c) h = more_people n w _ h (people_told w c (tell_of w c >>= told_act))
people_after n config w (events.Local a) h = more_people n w _ h (people_declared w w _ (tablet_of config.tablets a) (refl, refl) (λ me. (refl, refl)))
people_after n config w (events.Crash a keep) h = more_people n w _ h (refl, refl)
people_after n config w (events.Restart a) h = more_people n w _ h (refl, refl)
people_after n config w (events.Cut x y) h = more_people n w _ h (refl, refl)
people_after n config w (events.Mend x y) h = more_people n w _ h (refl, refl)
people_after n config w (events.Lose k) h = more_people n w _ h (refl, refl)
people_after n config w (events.Tick ms) h = more_people n w _ h (refl, refl)
people_after n config w (events.End c x) h = people_end n w c (open_command w c) h

-- ---- terms

take_term : (t : Topology) (h : Holder) (b : Bool) → is_held t ≡ b → (after_take t h).term ≤ t.term + 1
take_term t h true is = rw is (omega arith)
take_term t h false is = rw is (omega arith)

intend_term : (t : Topology) (u : ℕ) (a : Alias) (b : Bool) → adds_intent t u ≡ b → (after_intend t u a).term ≤ t.term + 1
intend_term t u a true is = rw is (omega arith)
intend_term t u a false is = rw is (omega arith)

record_term : (t : Topology) (u moment : ℕ) (b : Bool) → is_held_in t u ≡ b → (after_record t u moment).term ≤ t.term + 1
record_term t u moment true is = rw is (omega arith)
record_term t u moment false is = rw is (omega arith)

drain_term : (t : Topology) (u : ℕ) (a : Alias) (b : Bool) → is_held_in t u ≡ b → (after_drain t u a).term ≤ t.term + 1
drain_term t u a true is = rw is (omega arith)
drain_term t u a false is = rw is (omega arith)

release_term : (t : Topology) (u : ℕ) (b : Bool) → is_held_in t u ≡ b → (after_release t u).term ≤ t.term + 1
release_term t u true is = rw is (omega arith)
release_term t u false is = rw is (omega arith)

move_term : (s t : Topology) → TopoMove s t → t.term ≤ s.term + 1
move_term s _ (Takes holder) = take_term s holder _ refl
move_term s _ (Intends term alias) = intend_term s term alias _ refl
move_term s _ (Records term moment) = record_term s term moment _ refl
move_term s _ (Drains term alias) = drain_term s term alias _ refl
move_term s _ (Releases term) = release_term s term _ refl
move_term s _ Lapses = omega arith
move_term s _ Stays = omega arith

-- ---- logs

few_push : (n : ℕ) (log : List Entry) (e : Entry) → IsFewLog n log → e.gtid.number ≤ n + 1 → IsFewLog (n + 1) (log ++ e ∷ [])
few_push n log e h le = record {
  entries = omega (arith, h.entries, length-append log (e ∷ []));
  numbers = λ k x at. of_cases k x (slice_get-push_cases log e x k at);
}
  where
    of_cases : (k : ℕ) (x : Entry) → (slice_get log k ≡ Some x) ⊎ ((k ≡ length log) × (e ≡ x)) → x.gtid.number ≤ n + 1
    of_cases k x (inl old) = omega (arith, h.numbers k x old)
    of_cases k x (inr new) = subst (λ (y : Entry). y.gtid.number ≤ n + 1) new.1 le

few_more : (n : ℕ) (log : List Entry) → IsFewLog n log → IsFewLog (n + 1) log
few_more n log h = record { entries = omega (arith, h.entries); numbers = λ k x at. omega (arith, h.numbers k x at) }

few_log : (n : ℕ) (config : Config) (w : World) (a : Alias) (e : Event) (log : List Entry) → AreFew n w → LogChange config w a e log → IsFewLog (n + 1) log
few_log n config w a _ _ h SameLog = few_more n (w.tablets a).log (h.logs a)
few_log n config w a _ _ h (RowEnters k c u p me m here carries found none caught) =
    few_push n (w.tablets a).log _ (h.logs a) (let low = greatest_few n me.server (w.tablets a).log (h.logs a).numbers in omega (arith, low))
few_log n config w a _ _ h (EntryComes k term before index from x m here carries takes fresh) =
    few_push n (w.tablets a).log x (h.logs a) (let low = (subst (λ (c : Content). IsFewContent n c) carries (h.contents k m here)).1 in omega (arith, low))
few_log n config w a _ _ h (OwnEntry me k none found) =
    few_push n (w.tablets a).log _ (h.logs a) (let low = greatest_few n me.server (w.tablets a).log (h.logs a).numbers in omega (arith, low))

-- ---- messages

content_more : (n : ℕ) (c : Content) → IsFewContent n c → IsFewContent (n + 1) c
content_more n (contents.Asks c u a call) h = tt
content_more n (contents.Answers c asked a says) h = tt
content_more n (contents.Feeds from to term before index x) h = (omega (arith, h.0), omega (arith, h.1))
content_more n (contents.Acks from to term index) h = omega (arith, h)

short : {A : Type 0} (xs : List A) (k : ℕ) (x : A) → slice_get xs k ≡ Some x → k < length xs
short [] k x h = absurd (let none : None ≡ Some x = h in cc)
short (y ∷ xs) zero x h = omega arith
short (y ∷ xs) (suc k) x h = omega (arith, short xs k x h)

held_few : (n : ℕ) (log : List Entry) (index : ℕ) (x : Entry) → IsFewLog n log → numbered log index ≡ Some x → (index ≤ n) × (x.gtid.number ≤ n)
held_few n log zero x h at = absurd (let none : None ≡ Some x = at in cc)
held_few n log (suc k) x h at = (omega (arith, short log k x at, h.entries), h.numbers k x at)

sent_few : (n : ℕ) (config : Config) (w : World) (e : Event) (content : Content) → AreSound config w → AreFew n w → Sent config w e content → IsFewContent n content
sent_few n config w _ _ sound h (Asked c a call) = tt
sent_few n config w _ _ sound h (Replied k c u a call me m here carries found) = tt
sent_few n config w _ _ sound h (Acked k term before index from to x m here carries taken) = (subst (λ (c : Content). IsFewContent n c) carries (h.contents k m here)).0
sent_few n config w _ _ sound h (Offered r content is) =
    let o = offered config w r content sound is in
    subst (λ (c : Content). IsFewContent n c) (sym o.content) (held_few n (w.tablets o.source).log o.index o.entry (h.logs o.source) o.held)

few_contents : (n : ℕ) (config : Config) (w : World) (e : Event) (k : ℕ) (m : Message) → AreSound config w → AreFew n w → PostCases config w e k m → IsFewContent (n + 1) m.content
few_contents n config w e k m sound h (inl old) =
    content_more n m.content (subst (λ (c : Content). IsFewContent n c) (sym old.2) (h.contents k old.0 old.1))
few_contents n config w e k m sound h (inr sent) = content_more n m.content (sent_few n config w e m.content sound h sent)

content_weaker : (n m : ℕ) (c : Content) → n ≤ m → IsFewContent n c → IsFewContent m c
content_weaker n m (contents.Asks c u a call) le h = tt
content_weaker n m (contents.Answers c asked a says) le h = tt
content_weaker n m (contents.Feeds from to term before index x) le h = (omega (arith, h.0), omega (arith, h.1))
content_weaker n m (contents.Acks from to term index) le h = omega (arith, h)

-- ---- all of them

pub few_weaker : (n m : ℕ) (w : World) → n ≤ m → AreFew n w → AreFew m w
few_weaker n m w le h = record {
  term = omega (arith, h.term);
  actors = omega (arith, h.actors);
  commands = omega (arith, h.commands);
  writes = writes_more n m w.actors le h.writes;
  logs = λ a. record { entries = omega (arith, (h.logs a).entries); numbers = λ k e at. omega (arith, (h.logs a).numbers k e at) };
  contents = λ k x here. content_weaker n m x.content le (h.contents k x here);
}

pub few_after : (n : ℕ) (config : Config) (w : World) (e : Event) → AreSound config w → AreFew n w → AreFew (n + 1) (change config w e)
few_after n config w e sound h =
    let people = people_after n config w e (record { actors = h.actors; commands = h.commands; writes = h.writes }) in
    let term = move_term w.topo _ (topo_moves config w e) in
    record {
      term = omega (arith, h.term, term);
      actors = people.actors;
      commands = people.commands;
      writes = people.writes;
      logs = λ a. few_log n config w a e _ h (log_changes config w a e _ (touched config w e a));
      contents = λ k m here. few_contents n config w e k m sound h (post_cases config w e k m here);
    }

pub few_opening : (config : Config) → AreFew 0 (opening config)
few_opening config = record {
  term = omega arith;
  actors = omega arith;
  commands = omega arith;
  writes = (omega arith, tt);
  logs = λ a. record { entries = omega arith; numbers = λ k e at. absurd (let none : None ≡ Some e = at in cc) };
  contents = none;
}
  where
    none : (k : ℕ) (m : Message) → numbered [] k ≡ Some m → IsFewContent 0 m.content
    none zero m at = absurd (let none : None ≡ Some m = at in cc)
    none (suc k) m at = absurd (let none : None ≡ Some m = at in cc)

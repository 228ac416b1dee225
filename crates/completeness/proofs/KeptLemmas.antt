-- A command that keeps the lock has it.
use Rattle.std.proofs.Common.{◌≡◌, inl, inr, ℕ, zero, suc, ◌+◌, ◌≤◌, ◌<◌, Bool, true, false, ◌&&◌, ◌||◌, ◌==◌, nat_lt, refl, ap, sym, subst, ◌∙◌, arith, List, cond, Option, Some, None, Result, Ok, Err, is_some}
use Rattle.std.proofs.lemmas.Bool.{false≢true}
use Rattle.std.proofs.lemmas.Bool.Decides.{nat_tests}
use Rattle.shard_base.specs.Options.{◌>>=◌}
use Rattle.shard_names.specs.declared.alias.Alias.{Alias}
use Rattle.shard_names.specs.declared.tablet.Tablet.{Tablet}
use Rattle.shard_names.specs.Tablets.{alias_eq, tablet_of}
use Rattle.gtid_sets.specs.Logs.{has_row, newest_row_names, position_of}
use Rattle.gtid_sets.specs.Position.{covers}
use Rattle.topo_lock.specs.Topology.{Topology, is_held, is_held_in, intent_of, adds_intent, answer_take, taken_by, admitted_by, answer_intend, held_or_lost, lock_lost, after_release}
use Rattle.topo_lock.specs.Laws.{TermsWithin}
use Rattle.topo_lock.specs.declared.intent.Intent.{Intent}
use Rattle.topo_lock.specs.declared.lock.Holder.{Holder}
use Rattle.topo_lock.specs.declared.lock.LockTaken.{LockTaken}
use Rattle.topo_lock.specs.declared.lock.TopoFault.TheVariants as faults
use Rattle.topo_lock.proofs.MoveLemmas.{intents_are_in_order}
use Rattle.shard_calls.specs.declared.answer.Answer.{Answer}
use Rattle.shard_calls.specs.declared.answer.Answer.TheVariants as says
use Rattle.shard_calls.specs.declared.call.Call.{Call}
use Rattle.shard_calls.specs.declared.call.Call.TheVariants as calls
use Rattle.shard_calls.specs.declared.event.Event.{Event}
use Rattle.shard_calls.specs.declared.event.Event.TheVariants as events
use Rattle.shard_calls.specs.declared.event.Reply.{Reply}
use Rattle.shard_calls.specs.declared.event.Reply.TheVariants as replies
use Rattle.shard_calls.specs.declared.event.Step.{Step}
use Rattle.shard_calls.specs.declared.group.Group.{Group}
use Rattle.shard_calls.specs.declared.outcome.Accepted.{Accepted}
use Rattle.shard_calls.specs.declared.outcome.Accepted.TheVariants as accepteds
use Rattle.shard_calls.specs.declared.post.Content.{Content}
use Rattle.shard_calls.specs.declared.post.Content.TheVariants as contents
use Rattle.shard_calls.specs.declared.post.Message.{Message}
use Rattle.shard_calls.specs.declared.state.Act.{Act}
use Rattle.shard_calls.specs.declared.state.CommandState.{CommandState}
use Rattle.shard_calls.specs.declared.why.Why.{Why}
use Rattle.shard_calls.specs.Stands.{is_stopped, is_primary_of, is_replica_in, is_feeder_in}
use Rattle.shard_calls.specs.Tablets.{TabletState, Verdict, in_term, stops, demotes, promotes, joins, feeds, waits_for_position, waits_told, is_row_told, answer_to}
use Rattle.shard_calls.specs.World.{Config, World, on_message, arrives, numbered, open_command, term_of}
use Rattle.shard_calls.specs.Messages.{why_given_up, offer_to}
use Rattle.shard_calls.specs.Begins.{ends_by}
use Rattle.shard_calls.specs.Locks.{seen_of, takes_by, taken_reply, by_term, read_reply, reads, topo_reply, intends_in, records_in, drains_in, releases_in}
use Rattle.shard_calls.specs.Deliveries.{if_declared, asked, fed, feed_verdict, after_arrival, after_delivery, gives_up, offers}
use Rattle.shard_calls.specs.Writes.{writes_in, writes_at, tell_of, told_act, with_told}
use Rattle.shard_calls.specs.Table.{Met, answer, after, IsRun}
use Rattle.shard_calls.specs.Promotions.{world_at}
use Rattle.shard_calls.specs.RunLaws.{OfEveryRun}
use Rattle.shard_calls.specs.World.{opening}
use Rattle.shard_calls.proofs.LawLemmas.{chosen}
use Rattle.shard_calls.proofs.WorldLemmas.{IsSoundWorld}
use Rattle.shard_calls.proofs.RunLemmas.{step_along, next_world, truthful_at}
use Rattle.shard_laws.proofs.CommandLemmas.{NextIs, AtEnd, BySteps, next_is}
use Rattle.completeness.specs.Kept.{TakesAt, frees, IsKept, HasLock, asks_topology, KeptLockIsHeld}
use Rattle.completeness.proofs.TermLemmas.{TermIs, takes_term, TermCases, term_cases, term_numbered, IsTermedWorld, termed_at}

-- ---- the lock itself

pub record Holds (w : World) (c u : ℕ) : Type 0 where
  pub term : w.topo.term ≡ u
  pub holder : Holder
  pub holder_is : w.topo.holder ≡ Some holder
  pub by : holder.command ≡ c
  pub own : TermIs w c u

-- who holds the lock, and in which term, stays
abbrev SameLock : Topology → Topology → Type 0
SameLock s t = (t.term ≡ s.term) × (t.holder ≡ s.holder)

same_topo : (s t : Topology) → t ≡ s → SameLock s t
same_topo s t is = (ap (λ (x : Topology). x.term) is, ap (λ (x : Topology). x.holder) is)

lock_either : (b : Bool) (s x y : Topology) → SameLock s x → SameLock s y → SameLock s (cond b x y)
lock_either true s x y p q = p
lock_either false s x y p q = q

by_lock : (w : World) (f : ℕ → World) (o : Option ℕ) → ((t : ℕ) → SameLock w.topo (f t).topo) → SameLock w.topo (by_term o w f).topo
by_lock w f None h = (refl, refl)
by_lock w f (Some t) h = h t

topo_declared : (v : World) (f : Tablet → World) (o : Option Tablet) → ((me : Tablet) → (f me).topo ≡ v.topo) → (if_declared o v f).topo ≡ v.topo
topo_declared v f None h = refl
topo_declared v f (Some me) h = h me

topo_fed : (w : World) (from to : Alias) (term index : ℕ) (s : TabletState) (said : Accepted) → (fed w from to term index s said).topo ≡ w.topo
topo_fed w from to term index s accepteds.Taken = refl
topo_fed w from to term index s accepteds.Ignored = refl

topo_arrival : (config : Config) (w : World) (k : ℕ) (content : Content) → (after_arrival config w k content).topo ≡ w.topo
topo_arrival config w k (contents.Asks c u a call) = topo_declared w (asked w k c u a call) (tablet_of config.tablets a) (λ me. refl)
topo_arrival config w k (contents.Answers c call a said) = refl
topo_arrival config w k (contents.Feeds from to term before index e) = topo_fed w from to term index _ (feed_verdict w from to term before index e).says
topo_arrival config w k (contents.Acks from to term index) = refl

topo_delivery : (config : Config) (w : World) (k : ℕ) (o : Option Message) → (after_delivery config w k o).topo ≡ w.topo
topo_delivery config w k None = refl
topo_delivery config w k (Some m) = topo_arrival config (on_message w k (arrives w.clock)) k m.content

topo_up : (w : World) (k : ℕ) (o : Option Why) → (gives_up w k o).topo ≡ w.topo
topo_up w k None = refl
topo_up w k (Some why) = refl

topo_offer : (w : World) (o : Option Content) → (offers w o).topo ≡ w.topo
topo_offer w None = refl
topo_offer w (Some content) = refl

topo_told : (w : World) (c : ℕ) (o : Option Act) → (with_told w c o).topo ≡ w.topo
topo_told w c None = refl
topo_told w c (Some act) = refl

topo_end : (w : World) (c : ℕ) (o : Option CommandState) → (ends_by w c o).topo ≡ w.topo
topo_end w c None = refl
topo_end w c (Some s) = refl

topo_write : (config : Config) (w : World) (c : ℕ) (a : Alias) (o : Option CommandState) → (writes_in config w c a o).topo ≡ w.topo
topo_write config w c a None = refl
topo_write config w c a (Some s) = topo_declared w (writes_at w c a s) (tablet_of config.tablets a) (λ me. refl)

-- a lock that is held is not taken
take_lock : (w : World) (d c u : ℕ) (o : Option CommandState) → Holds w c u → SameLock w.topo (takes_by w d o).topo
take_lock w d c u None holds = (refl, refl)
take_lock w d c u (Some s) holds =
    same_topo w.topo _
    (ap (λ (x : Option Holder). cond (is_some x) w.topo (record w.topo { term = w.topo.term + 1; holder = Some (record { command = d; actor = s.actor }) })) holds.holder_is)

same_number : (m n : ℕ) → (m == n) ≡ true → m ≡ n
same_number m n h = grind (arith, nat_tests)

itself : (n : ℕ) → (n == n) ≡ true
itself n = grind (arith, nat_tests)

-- another command frees nothing
release_lock : (w : World) (d c u : ℕ) (o : Option ℕ) → Holds w c u → IsTermedWorld w → term_of w d ≡ o → (d == c) ≡ false
    → SameLock w.topo (by_term o w (releases_in w d)).topo
release_lock w d c u None holds termed took other = (refl, refl)
release_lock w d c u (Some t) holds termed took other = of_test (w.topo.term == t) refl
  where
    of_test : (b : Bool) → (w.topo.term == t) ≡ b → SameLock w.topo (after_release w.topo t)
    of_test true is =
        let now = holds.term in
        let same : t ≡ u = (let one = same_number w.topo.term t is in omega (arith, one, now)) in
        let who : d ≡ c = termed.alone d c u (subst (λ (n : ℕ). TermIs w d n) same (term_numbered w d t took)) holds.own in
        absurd (false≢true (sym other ∙ ap (λ (n : ℕ). n == c) who ∙ itself c))
    of_test false is =
        same_topo w.topo (after_release w.topo t)
        (ap (λ (b : Bool). cond (is_held w.topo && b) (record w.topo { holder = None }) w.topo) is ∙ nobody (is_held w.topo))
      where
        nobody : (b : Bool) → cond (b && false) (record w.topo { holder = None }) w.topo ≡ w.topo
        nobody true = refl
        nobody false = refl

lock_stays : (config : Config) (w : World) (e : Event) (c u : ℕ) → Holds w c u → IsTermedWorld w → frees c e ≡ false → SameLock w.topo (after config w e).topo
lock_stays config w (events.Begin name command) c u holds termed keeps = (refl, refl)
lock_stays config w (events.Take d) c u holds termed keeps = take_lock w d c u (open_command w d) holds
lock_stays config w (events.Read d) c u holds termed keeps = by_lock w (reads w d) (term_of w d) (λ t. (refl, refl))
lock_stays config w (events.Intend d a) c u holds termed keeps =
    by_lock w (intends_in w d a) (term_of w d) (λ t. lock_either (adds_intent w.topo t) w.topo _ _ (refl, refl) (refl, refl))
lock_stays config w (events.Record d a) c u holds termed keeps =
    by_lock w (records_in w d a) (term_of w d) (λ t. lock_either (is_held_in w.topo t) w.topo _ _ (refl, refl) (refl, refl))
lock_stays config w (events.Drain d a) c u holds termed keeps =
    by_lock w (drains_in w d a) (term_of w d) (λ t. lock_either (is_held_in w.topo t) w.topo _ _ (refl, refl) (refl, refl))
lock_stays config w (events.Release d) c u holds termed keeps = release_lock w d c u (term_of w d) holds termed refl keeps
lock_stays config w events.Lapse c u holds termed keeps = absurd (false≢true (sym keeps))
lock_stays config w (events.Send d a call) c u holds termed keeps = (refl, refl)
lock_stays config w (events.Deliver k) c u holds termed keeps = same_topo w.topo _ (topo_delivery config w k (numbered w.post k))
lock_stays config w (events.GiveUp d k) c u holds termed keeps = same_topo w.topo _ (topo_up w k (why_given_up w d k))
lock_stays config w (events.Offer r) c u holds termed keeps = same_topo w.topo _ (topo_offer w (offer_to w r))
lock_stays config w (events.Write d a) c u holds termed keeps = same_topo w.topo _ (topo_write config w d a (open_command w d))
lock_stays config w (events.Tell d) c u holds termed keeps = same_topo w.topo _ (topo_told w d (tell_of w d >>= told_act))
lock_stays config w (events.Local a) c u holds termed keeps = same_topo w.topo _ (topo_declared w _ (tablet_of config.tablets a) (λ me. refl))
lock_stays config w (events.Crash a keep) c u holds termed keeps = (refl, refl)
lock_stays config w (events.Restart a) c u holds termed keeps = (refl, refl)
lock_stays config w (events.Cut x y) c u holds termed keeps = (refl, refl)
lock_stays config w (events.Mend x y) c u holds termed keeps = (refl, refl)
lock_stays config w (events.Lose k) c u holds termed keeps = (refl, refl)
lock_stays config w (events.Tick ms) c u holds termed keeps = (refl, refl)
lock_stays config w (events.End d x) c u holds termed keeps = same_topo w.topo _ (topo_end w d (open_command w d))

-- ---- while it is kept

holds_after : (config : Config) (w : World) (e : Event) (c u : ℕ) → Met config w e → IsTermedWorld w → frees c e ≡ false → Holds w c u → Holds (after config w e) c u
holds_after config w e c u met termed keeps holds =
    let same = lock_stays config w e c u holds termed keeps in
    record { term = same.0 ∙ holds.term; holder = holds.holder; holder_is = same.1 ∙ holds.holder_is; by = holds.by; own = of_cases (term_cases config w e c met) }
  where
    of_cases : TermCases config w e c → TermIs (after config w e) c u
    of_cases (inl same) = same ∙ holds.own
    of_cases (inr takes) = absurd (let none : None ≡ Some u = sym takes.1.before ∙ holds.own in cc)

pub taken_now : (r : Result ℕ LockTaken) (u : ℕ) → replies.Term u ≡ taken_reply r → r ≡ Ok u
taken_now (Ok t) u h = let same : t ≡ u = cc in ap (λ (n : ℕ). Ok n) same
taken_now (Err held) u h = absurd (cc)

holds_first : (config : Config) (ss : List Step) (c u i : ℕ) → IsRun config ss → TakesAt ss i c u → Holds (world_at config ss (suc i)) c u
holds_first config ss c u i run taken =
    let w : World = world_at config ss i in
    let step = step_along config (opening config) ss i _ run taken in
    let takes = takes_term config w c u step.met (taken_now (answer_take w.topo) u step.answered) in
    subst (λ (v : World). Holds v c u) (sym (next_world config (opening config) ss i _ taken))
    (record { term = takes.term; holder = takes.holder; holder_is = takes.holder_is; by = takes.by; own = takes.own })

pub holds_at : (config : Config) (ss : List Step) (c u i j : ℕ) → IsRun config ss → IsKept ss c u i j → (k : ℕ) → i < k → k ≤ j → Holds (world_at config ss k) c u
holds_at config ss c u i j run kept zero after_i within = absurd (omega (arith, after_i))
holds_at config ss c u i j run kept (suc k) after_i within = of_test (nat_lt i k) refl (λ l. holds_at config ss c u i j run kept k l (omega (arith, within)))
  where
    of_next : (v : World) → NextIs config ss k v → i < k → Holds (world_at config ss k) c u → Holds v c u
    of_next v (AtEnd is) l h = subst (λ (x : World). Holds x c u) is h
    of_next v (BySteps s here step is) l h =
        subst (λ (x : World). Holds x c u) is
        (holds_after config (world_at config ss k) s.event c u step.met (termed_at config ss k run) (kept.kept k s l (omega (arith, within)) here) h)

    of_test : (b : Bool) → nat_lt i k ≡ b → (i < k → Holds (world_at config ss k) c u) → Holds (world_at config ss (suc k)) c u
    of_test true e rest = let l : i < k = grind (arith, nat_tests) in of_next (world_at config ss (suc k)) (next_is config ss k run) l (rest l)
    of_test false e rest =
        let same : i ≡ k = (let l : k ≤ i = grind (arith, nat_tests) in omega (arith, l, after_i)) in
        subst (λ (n : ℕ). Holds (world_at config ss (suc n)) c u) same (holds_first config ss c u i run kept.taken)

-- ---- what it then has

held_so : (topo : Topology) (h : Holder) (u : ℕ) → topo.term ≡ u → topo.holder ≡ Some h → is_held_in topo u ≡ true
held_so topo h u term holder =
    ap (λ (o : Option Holder). is_some o && (topo.term == u)) holder ∙ ap (λ (n : ℕ). n == u) term ∙ itself u

pub lock_had : (w : World) (c u : ℕ) → IsTermedWorld w → IsSoundWorld w → Holds w c u → HasLock w c u
lock_had w c u termed sound holds = record {
  held = held_so w.topo holds.holder u holds.term holds.holder_is;
  holder = holds.holder;
  holder_is = holds.holder_is;
  by = holds.by;
  own = holds.own;
  alone = λ d one. termed.alone d c u one holds.own;
  last = λ d v one. within v (termed.within d v one);
  intents = subst (λ (n : ℕ). TermsWithin n w.topo.intents) holds.term (intents_are_in_order w.topo sound.topo).1;
  calls = λ k d v a call posted. within v (termed.calls k d v a call posted);
  seen = λ a. within (w.tablets a).seen (termed.seen a);
  promised = λ a. (let low = (sound.tablets a).seen in let top = within (w.tablets a).seen (termed.seen a) in omega (arith, low, top));
}
  where
    within : (n : ℕ) → n ≤ w.topo.term → n ≤ u
    within n low = let now = holds.term in omega (arith, low, now)

-- ---- what the topology answers

abbrev is_lost : Reply → Bool
is_lost (replies.Lost t) = true
is_lost _ = false

own_term : (w : World) (c u t : ℕ) → Holds w c u → term_of w c ≡ Some t → is_held_in w.topo t ≡ true
own_term w c u t holds took =
    let same : u ≡ t = (let some : Some u ≡ Some t = sym holds.own ∙ term_numbered w c t took in cc) in
    subst (λ (n : ℕ). is_held_in w.topo n ≡ true) same (held_so w.topo holds.holder u holds.term holds.holder_is)

read_found : (topo : Topology) (t : ℕ) (b : Bool) → b ≡ true → is_lost (cond b (replies.Read (seen_of topo)) (replies.Lost topo.term)) ≡ false
read_found topo t true is = refl
read_found topo t false is = absurd (false≢true is)

-- under the lock, the topology answers something else
kept_found : (topo : Topology) (b : Bool) → b ≡ true → is_lost (topo_reply (cond b (Ok tt) (lock_lost topo))) ≡ false
kept_found topo true is = refl
kept_found topo false is = absurd (false≢true is)

intent_found : (topo : Topology) (a : Alias) (o : Option Intent) (b : Bool) → b ≡ true → is_lost (topo_reply (cond b (admitted_by o a) (lock_lost topo))) ≡ false
intent_found topo a None true is = refl
intent_found topo a (Some i) true is = of_test (alias_eq i.alias a)
  where
    of_test : (b : Bool) → is_lost (topo_reply (cond b (Ok tt) (Err (faults.IntentStands i.alias)))) ≡ false
    of_test true = refl
    of_test false = refl
intent_found topo a o false is = absurd (false≢true is)

by_found : (w : World) (c u : ℕ) (f : ℕ → Reply) (o : Option ℕ) → Holds w c u → term_of w c ≡ o → ((t : ℕ) → is_held_in w.topo t ≡ true → is_lost (f t) ≡ false)
    → is_lost (by_term o replies.Ok f) ≡ false
by_found w c u f None holds took h = refl
by_found w c u f (Some t) holds took h = h t (own_term w c u t holds took)

found_in : (config : Config) (w : World) (c u : ℕ) (e : Event) → Holds w c u → asks_topology c e ≡ true → is_lost (answer config w e) ≡ false
found_in config w c u (events.Read d) holds own =
    subst (λ (n : ℕ). is_lost (answer config w (events.Read n)) ≡ false) (sym (same_number d c own))
    (by_found w c u (read_reply w.topo) (term_of w c) holds refl (λ t is. read_found w.topo t (is_held_in w.topo t) is))
found_in config w c u (events.Intend d a) holds own =
    subst (λ (n : ℕ). is_lost (answer config w (events.Intend n a)) ≡ false) (sym (same_number d c own))
    (by_found w c u (λ t. topo_reply (answer_intend w.topo t a)) (term_of w c) holds refl (λ t is. intent_found w.topo a (intent_of w.topo t) (is_held_in w.topo t) is))
found_in config w c u (events.Record d a) holds own =
    subst (λ (n : ℕ). is_lost (answer config w (events.Record n a)) ≡ false) (sym (same_number d c own))
    (by_found w c u (λ t. topo_reply (held_or_lost w.topo t)) (term_of w c) holds refl (λ t is. kept_found w.topo (is_held_in w.topo t) is))
found_in config w c u (events.Drain d a) holds own =
    subst (λ (n : ℕ). is_lost (answer config w (events.Drain n a)) ≡ false) (sym (same_number d c own))
    (by_found w c u (λ t. topo_reply (held_or_lost w.topo t)) (term_of w c) holds refl (λ t is. kept_found w.topo (is_held_in w.topo t) is))
found_in config w c u (events.Begin name command) holds own = absurd (false≢true own)
found_in config w c u (events.Take d) holds own = absurd (false≢true own)
found_in config w c u (events.Release d) holds own = absurd (false≢true own)
found_in config w c u events.Lapse holds own = absurd (false≢true own)
found_in config w c u (events.Send d a call) holds own = absurd (false≢true own)
found_in config w c u (events.Deliver k) holds own = absurd (false≢true own)
found_in config w c u (events.GiveUp d k) holds own = absurd (false≢true own)
found_in config w c u (events.Offer r) holds own = absurd (false≢true own)
found_in config w c u (events.Write d a) holds own = absurd (false≢true own)
found_in config w c u (events.Tell d) holds own = absurd (false≢true own)
found_in config w c u (events.Local a) holds own = absurd (false≢true own)
found_in config w c u (events.Crash a keep) holds own = absurd (false≢true own)
found_in config w c u (events.Restart a) holds own = absurd (false≢true own)
found_in config w c u (events.Cut x y) holds own = absurd (false≢true own)
found_in config w c u (events.Mend x y) holds own = absurd (false≢true own)
found_in config w c u (events.Lose k) holds own = absurd (false≢true own)
found_in config w c u (events.Tick ms) holds own = absurd (false≢true own)
found_in config w c u (events.End d x) holds own = absurd (false≢true own)

not_taken : (w : World) (c u v : ℕ) → Holds w c u → replies.Term v ≡ taken_reply (answer_take w.topo) → ⊥
not_taken w c u v holds h =
    let wrong : replies.Term v ≡ replies.Taken w.topo.term holds.holder.actor =
    h ∙ ap (λ (o : Option Holder). taken_reply (taken_by w.topo.term o)) holds.holder_is in cc

-- ---- what tablets answer

abbrev is_stale : Answer → Bool
is_stale (says.StaleTerm t) = true
is_stale _ = false

-- what a tablet has promised ahead, if it says so
abbrev ahead_in : Answer → ℕ
ahead_in (says.PromisedAhead t) = t
ahead_in _ = 0

-- an answer that is not stale, and in which nothing beyond u was promised
abbrev Agrees : ℕ → Verdict Answer → Type 0
Agrees u v = (is_stale v.says ≡ false) × (ahead_in v.says ≤ u)

agrees_in_term : (u : ℕ) (s : TabletState) (f : TabletState → Verdict Answer) → s.seen ≤ u → Agrees u (f (record s { seen = u })) → Agrees u (in_term u s f)
agrees_in_term u s f low h =
    chosen (Agrees u) (nat_lt u s.seen) _ (f (record s { seen = u })) (λ stale. absurd (let l : u < s.seen = grind (arith, nat_tests) in omega (arith, l, low))) (λ fresh. h)

plainly : (u : ℕ) → 0 ≤ u
plainly u = omega arith

kept_agrees : (b : Bool) (u : ℕ) (x y : Answer) → (is_stale x ≡ false) × (ahead_in x ≤ u) → (is_stale y ≡ false) × (ahead_in y ≤ u)
    → (is_stale (cond b x y) ≡ false) × (ahead_in (cond b x y) ≤ u)
kept_agrees true u x y p q = p
kept_agrees false u x y p q = q

agrees : (g : Group) (me : Tablet) (u : ℕ) (call : Call) (s : TabletState) → s.seen ≤ u → s.promised ≤ u → (is_stale (answer_to g me u call s) ≡ false) × (ahead_in (answer_to g me u call s) ≤ u)
agrees g me u calls.Status s low kept = (refl, plainly u)
agrees g me u calls.Stop s low kept = agrees_in_term u s (stops u) low (refl, plainly u)
agrees g me u calls.Demote s low kept =
    agrees_in_term u s (demotes me u) low
    (chosen (Agrees u) (s.promised == u) _ _ (λ there. (refl, plainly u))
    (λ other. chosen (Agrees u) (newest_row_names s.log me.alias) _ _ (λ own. (refl, plainly u)) (λ no_own. (refl, plainly u))))
agrees g me u (calls.Promote p) s low kept =
    agrees_in_term u s (promotes me u p) low
    (chosen (Agrees u) (has_row s.log u) _ _ (λ there. kept_agrees (is_primary_of s.stand u) u _ _ (refl, plainly u) (refl, plainly u))
    (λ none. chosen (Agrees u) (covers (position_of s.log) p) _ _ (λ caught. (refl, plainly u)) (λ short. (refl, plainly u))))
agrees g me u (calls.SetSource source t p) s low kept =
    agrees_in_term u s (joins source t p) low
    (chosen (Agrees u) (nat_lt t s.promised) _ _ (λ ahead. (refl, kept))
    (λ fresh. chosen (Agrees u) (is_primary_of s.stand t || is_replica_in s.stand t) _ _ (λ stays. (refl, plainly u))
    (λ other. chosen (Agrees u) (covers p (position_of s.log)) _ _ (λ inside. (refl, plainly u)) (λ errant. (refl, plainly u)))))
agrees g me u calls.Feed s low kept =
    agrees_in_term u s (feeds u) low
    (chosen (Agrees u) (is_feeder_in s.stand u) _ _ (λ feeder. (refl, plainly u))
    (λ other. chosen (Agrees u) (is_stopped s.stand && (s.promised == u)) _ _ (λ stopped. (refl, plainly u)) (λ keeps. (refl, plainly u))))
agrees g me u (calls.WaitFor p until) s low kept =
    agrees_in_term u s (waits_for_position p) low (kept_agrees (covers (position_of s.log) p) u _ _ (refl, plainly u) (refl, plainly u))
agrees g me u (calls.WaitTold until) s low kept =
    agrees_in_term u s (waits_told g me u) low
    (kept_agrees (is_primary_of s.stand u) u _ _ (kept_agrees (is_row_told g me s u) u _ _ (refl, plainly u) (refl, plainly u)) (refl, plainly u))

pub not_stale : (g : Group) (me : Tablet) (u t : ℕ) (call : Call) (s : TabletState) → s.seen ≤ u → s.promised ≤ u → answer_to g me u call s ≡ says.StaleTerm t → ⊥
not_stale g me u t call s low kept is = false≢true (sym (agrees g me u call s low kept).0 ∙ ap (λ (x : Answer). is_stale x) is)

pub not_ahead : (g : Group) (me : Tablet) (u t : ℕ) (call : Call) (s : TabletState) → s.seen ≤ u → s.promised ≤ u → answer_to g me u call s ≡ says.PromisedAhead t → t ≤ u
not_ahead g me u t call s low kept is =
    let top = (agrees g me u call s low kept).1 in
    let same : ahead_in (answer_to g me u call s) ≡ t = ap (λ (x : Answer). ahead_in x) is in
    omega (arith, top, same)

-- ---- the law

pub has_lock : (config : Config) (ss : List Step) (c u i j : ℕ) → IsRun config ss → IsKept ss c u i j → (k : ℕ) → i < k → k ≤ j → HasLock (world_at config ss k) c u
has_lock config ss c u i j run kept k after_i within =
    lock_had (world_at config ss k) c u (termed_at config ss k run) (truthful_at config ss k run).sound (holds_at config ss c u i j run kept k after_i within)

pub kept_lock_is_held : OfEveryRun KeptLockIsHeld
kept_lock_is_held config ss run c u i j kept = record {
  has = λ k after_i within. has_lock config ss c u i j run kept k after_i within;
  untaken = λ k d v after_i less taken.
      not_taken (world_at config ss k) c u v (holds_at config ss c u i j run kept k after_i (omega (arith, less)))
      (step_along config (opening config) ss k _ run taken).answered;
  unlost = λ k t e after_i less own here.
      lost_not config k t e (holds_at config ss c u i j run kept k after_i (omega (arith, less))) own (step_along config (opening config) ss k _ run here).answered;
  fresh = λ k t a g me call after_i within is.
      (let has = has_lock config ss c u i j run kept k after_i within in not_stale g me u t call ((world_at config ss k).tablets a) (has.seen a) (has.promised a) is);
  ahead = λ k t a g me call after_i within is.
      (let has = has_lock config ss c u i j run kept k after_i within in not_ahead g me u t call ((world_at config ss k).tablets a) (has.seen a) (has.promised a) is);
}
  where
    lost_not : (config : Config) (k t : ℕ) (e : Event) → Holds (world_at config ss k) c u → asks_topology c e ≡ true → replies.Lost t ≡ answer config (world_at config ss k) e → ⊥
    lost_not config k t e holds own is =
        false≢true (sym (found_in config (world_at config ss k) c u e holds own) ∙ ap (λ (r : Reply). is_lost r) (sym is))

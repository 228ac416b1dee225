-- Each row of the step table changes each tablet, the post and the topology by one move.
use Rattle.std.proofs.Common.{◌≡◌, ◌⊎◌, inl, inr, ℕ, ◌+◌, ◌≤◌, Bool, true, false, not, ◌&&◌, ◌||◌, ◌==◌, nat_lt, refl, ap, sym, subst, ◌∙◌, arith, List, [], ◌∷◌, ◌++◌, cond, Option, Some, None, unwrap_or}
use Rattle.std.proofs.lemmas.Bool.{false≢true}
use Rattle.std.proofs.lemmas.Bool.Decides.{nat_tests}
use Rattle.shard_names.specs.declared.alias.Alias.{Alias}
use Rattle.shard_names.specs.declared.tablet.Tablet.{Tablet}
use Rattle.shard_names.specs.Tablets.{tablet_of, is_declared}
use Rattle.shard_names.proofs.TabletLemmas.{both_left, both_right}
use Rattle.durability.specs.Policies.{rules_of}
use Rattle.gtid_sets.specs.declared.entry.Entry.{Entry}
use Rattle.gtid_sets.specs.declared.entry.Kind.TheVariants as kinds
use Rattle.gtid_sets.specs.Position.{Position, covers}
use Rattle.shard_base.specs.Options.{◌>>=◌, only_if}
use Rattle.shard_calls.specs.declared.answer.Answer.{Answer}
use Rattle.shard_calls.specs.declared.call.Call.{Call}
use Rattle.shard_calls.specs.declared.call.Call.TheVariants as calls
use Rattle.shard_calls.specs.declared.event.Event.{Event}
use Rattle.shard_calls.specs.declared.outcome.Written.{Written}
use Rattle.shard_calls.specs.declared.outcome.Written.TheVariants as written
use Rattle.shard_calls.specs.declared.post.Content.{Content}
use Rattle.shard_calls.specs.declared.post.Content.TheVariants as contents
use Rattle.shard_calls.specs.declared.post.Message.{Message}
use Rattle.shard_calls.specs.declared.stand.Stand.{Stand}
use Rattle.shard_calls.specs.declared.stand.Stand.TheVariants as stands
use Rattle.shard_calls.specs.declared.state.CommandState.{CommandState}
use Rattle.shard_calls.specs.Stands.{is_down, is_stopped, is_primary_of, is_replica_in, is_feeder_in, primary_term, takes_from, waits_for}
use Rattle.gtid_sets.specs.Logs.{position_of, holds, has_row, newest_row_names}
use Rattle.shard_calls.specs.Tablets.{TabletState, Verdict, only_says, in_term, stops, demotes, promotes, joins, feeds, waits_for_position, waits_told, after_call, accepts, writes_own}
use Rattle.shard_calls.specs.World.{Config, World, numbered, term_in, open_command}
use Rattle.shard_calls.specs.Messages.{Indexed, needed, feeds_term, may_feed, is_cut, is_under_way, link_between, feed_of, offered_by}
use Rattle.shard_calls.specs.Locks.{by_term}
use Rattle.shard_calls.specs.Grounds.{calls_at, grounded}
use Rattle.shard_calls.specs.Deliveries.{may_send, may_ask_in, asks_status}
use Rattle.shard_calls.specs.Table.{Met, after}
use Rattle.shard_laws.specs.TightMoves.{IsPosted, TightMove, Stays, Sees, Stops, Demotes, Joins, Serves, Enters, Takes, Skips, Writes, WritesLocal, Hears, GoesDown, ComesUp, Plainly, CallFits, Sends, Asks, Answers, Acks, Feeds, WorldMove}
use Rattle.shard_calls.proofs.LawLemmas.{chosen}
use Rattle.shard_calls.proofs.TouchLemmas.{Touched, Untouched, Called, Fed, Heard, WrittenBy, WrittenLocal, Crashed, Restarted, touched, topo_moves}
use Rattle.shard_calls.proofs.PostLemmas.{Sent, Asked, Replied, Acked, Offered, PostCases, post_cases}
use Rattle.shard_calls.specs.declared.post.Settled.{Settled}
use Rattle.shard_calls.specs.declared.post.Settled.TheVariants as settleds
use Rattle.shard_calls.specs.Outcomes.{settled_in}
use Rattle.shard_calls.proofs.SettleLemmas.{post_stays, Settling, ByAnswer, ByGivingUp, SettledCases, settled_cases}
use Rattle.shard_calls.proofs.ToldLemmas.{asked_state}
use Rattle.shard_calls.proofs.ClosedLemmas.{taken_stand, took, fed_state}

-- ---- stands by tests

pub primary_stand : (at : Stand) (t : ℕ) → is_primary_of at t ≡ true → at ≡ stands.Primary t
primary_stand stands.Down t is = absurd (false≢true is)
primary_stand stands.Stopped t is = absurd (false≢true is)
primary_stand (stands.Primary u) t is = let same : u ≡ t = grind (arith, nat_tests) in ap (λ (v : ℕ). stands.Primary v) same
primary_stand (stands.Demoted u by) t is = absurd (false≢true is)
primary_stand (stands.Replica source u next) t is = absurd (false≢true is)
primary_stand (stands.Feeder u) t is = absurd (false≢true is)

term_stand : (at : Stand) (t : ℕ) → primary_term at ≡ Some t → at ≡ stands.Primary t
term_stand stands.Down t is = absurd (let none : None ≡ Some t = is in cc)
term_stand stands.Stopped t is = absurd (let none : None ≡ Some t = is in cc)
term_stand (stands.Primary u) t is = let same : u ≡ t = (let some : Some u ≡ Some t = is in cc) in ap (λ (v : ℕ). stands.Primary v) same
term_stand (stands.Demoted u by) t is = absurd (let none : None ≡ Some t = is in cc)
term_stand (stands.Replica source u next) t is = absurd (let none : None ≡ Some t = is in cc)
term_stand (stands.Feeder u) t is = absurd (let none : None ≡ Some t = is in cc)

pub down_stand : (at : Stand) → is_down at ≡ true → at ≡ stands.Down
down_stand stands.Down is = refl
down_stand stands.Stopped is = absurd (false≢true is)
down_stand (stands.Primary u) is = absurd (false≢true is)
down_stand (stands.Demoted u by) is = absurd (false≢true is)
down_stand (stands.Replica source u next) is = absurd (false≢true is)
down_stand (stands.Feeder u) is = absurd (false≢true is)

stopped_stand : (at : Stand) → is_stopped at ≡ true → at ≡ stands.Stopped
stopped_stand stands.Down is = absurd (false≢true is)
stopped_stand stands.Stopped is = refl
stopped_stand (stands.Primary u) is = absurd (false≢true is)
stopped_stand (stands.Demoted u by) is = absurd (false≢true is)
stopped_stand (stands.Replica source u next) is = absurd (false≢true is)
stopped_stand (stands.Feeder u) is = absurd (false≢true is)

-- ---- tablets

abbrev Moved : Config → World → Alias → TabletState → Type 0
Moved config w a t = TightMove config.tablets w.post a (w.tablets a) t

abbrev MovedBy : {A : Type 0} → Config → World → Alias → Verdict A → Type 0
MovedBy config w a v = Moved config w a v.state

either_moved : (config : Config) (w : World) (a : Alias) (b : Bool) (s t : TabletState) → (b ≡ true → Moved config w a s) → (b ≡ false → Moved config w a t)
    → Moved config w a (cond b s t)
either_moved config w a true s t one other = one refl
either_moved config w a false s t one other = other refl

in_term_moved : (config : Config) (w : World) (a : Alias) (u : ℕ) (f : TabletState → Verdict Answer)
    → ((w.tablets a).seen ≤ u → MovedBy config w a (f (record (w.tablets a) { seen = u }))) → MovedBy config w a (in_term u (w.tablets a) f)
in_term_moved config w a u f h =
    chosen (MovedBy config w a) (nat_lt u (w.tablets a).seen) _ (f (record (w.tablets a) { seen = u })) (λ stale. Stays)
    (λ fresh. h (let le : (w.tablets a).seen ≤ u = grind (arith, nat_tests) in le))

fresh_promise : (t promised : ℕ) → nat_lt t promised ≡ false → promised ≤ t
fresh_promise t promised h = grind (arith, nat_tests)

same_number : (m n : ℕ) → (m == n) ≡ true → m ≡ n
same_number m n h = grind (arith, nat_tests)

call_moved : (config : Config) (w : World) (a : Alias) (k c u : ℕ) (call : Call) (me : Tablet) → IsPosted w.post k (contents.Asks c u a call)
    → tablet_of config.tablets a ≡ Some me → Moved config w a (after_call w.group me u call (w.tablets a))
call_moved config w a k c u calls.Status me posted found = Stays
call_moved config w a k c u calls.Stop me posted found =
    in_term_moved config w a u (stops u)
    (λ fresh. either_moved config w a ((w.tablets a).promised == u) _ _ (λ there. Sees u fresh) (λ other. Stops k c u posted fresh))
call_moved config w a k c u calls.Demote me posted found =
    in_term_moved config w a u (demotes me u)
    (λ fresh. chosen (MovedBy config w a) ((w.tablets a).promised == u) _ _ (λ there. Sees u fresh)
    (λ other. chosen (MovedBy config w a) (newest_row_names (w.tablets a).log me.alias) _ _ (λ own. Demotes k c u me posted found fresh own) (λ no_own. Sees u fresh)))
call_moved config w a k c u (calls.Promote p) me posted found =
    in_term_moved config w a u (promotes me u p)
    (λ fresh. chosen (MovedBy config w a) (has_row (w.tablets a).log u) _ _ (λ there. Sees u fresh)
    (λ none. chosen (MovedBy config w a) (covers (position_of (w.tablets a).log) p) _ _
    (λ caught. Enters k c u p me posted found fresh none caught) (λ short. Sees u fresh)))
call_moved config w a k c u (calls.SetSource source t p) me posted found =
    in_term_moved config w a u (joins source t p)
    (λ fresh. chosen (MovedBy config w a) (nat_lt t (w.tablets a).promised) _ _ (λ ahead. Sees u fresh)
    (λ new. chosen (MovedBy config w a) (is_primary_of (w.tablets a).stand t || is_replica_in (w.tablets a).stand t) _ _ (λ kept. Sees u fresh)
    (λ other. chosen (MovedBy config w a) (covers p (position_of (w.tablets a).log)) _ _
    (λ inside. Joins k c u t source p posted fresh (fresh_promise t (w.tablets a).promised new) inside) (λ errant. Sees u fresh))))
call_moved config w a k c u calls.Feed me posted found =
    in_term_moved config w a u (feeds u)
    (λ fresh. chosen (MovedBy config w a) (is_feeder_in (w.tablets a).stand u) _ _ (λ feeder. Sees u fresh)
    (λ other. chosen (MovedBy config w a) (is_stopped (w.tablets a).stand && ((w.tablets a).promised == u)) _ _
    (λ stopped. Serves k c u posted fresh (same_number (w.tablets a).promised u (both_right (is_stopped (w.tablets a).stand) ((w.tablets a).promised == u) stopped))
    (stopped_stand (w.tablets a).stand (both_left (is_stopped (w.tablets a).stand) ((w.tablets a).promised == u) stopped)))
    (λ keeps. Sees u fresh)))
call_moved config w a k c u (calls.WaitFor p until) me posted found = in_term_moved config w a u (waits_for_position p) (λ fresh. Sees u fresh)
call_moved config w a k c u (calls.WaitTold until) me posted found = in_term_moved config w a u (waits_told w.group me u) (λ fresh. Sees u fresh)

-- the state with another stand
with_stand : TabletState → List Entry → Stand → TabletState
with_stand s log at = record s { log = log; stand = at }

entry_moved : (config : Config) (w : World) (a : Alias) (k term before index : ℕ) (from : Alias) (x : Entry) (b : Bool)
    → IsPosted w.post k (contents.Feeds from a term before index x) → (w.tablets a).stand ≡ stands.Replica from term before
    → holds (w.tablets a).log x.gtid ≡ b
    → Moved config w a (record (w.tablets a) { log = cond b (w.tablets a).log ((w.tablets a).log ++ x ∷ []); stand = stands.Replica from term (index + 1) })
entry_moved config w a k term before index from x true posted at held = Skips k term before index from x posted at held
entry_moved config w a k term before index from x false posted at held = Takes k term before index from x posted at held

fed_moved : (config : Config) (w : World) (a : Alias) (k term before index : ℕ) (from : Alias) (x : Entry)
    → IsPosted w.post k (contents.Feeds from a term before index x) → Moved config w a (accepts from term before index x (w.tablets a)).state
fed_moved config w a k term before index from x posted =
    chosen (MovedBy config w a) (takes_from (w.tablets a).stand from term before) _ _ (λ takes.
    let at = taken_stand (w.tablets a).stand from term before takes in
    subst (λ (y : Stand). Moved config w a (record (w.tablets a) { log = cond (holds (w.tablets a).log x.gtid) (w.tablets a).log ((w.tablets a).log ++ x ∷ []); stand = waits_for y (index + 1) }))
    (sym at) (entry_moved config w a k term before index from x (holds (w.tablets a).log x.gtid) posted at refl)) (λ ignored. Stays)

write_moved : (config : Config) (w : World) (a : Alias) (o : Option ℕ) (me : Tablet) (client number : ℕ) → tablet_of config.tablets a ≡ Some me
    → primary_term (w.tablets a).stand ≡ o
    → Moved config w a (elim o as (λ _. Verdict Written) [ Some t ↦ writes_own me (kinds.Write t client number) (w.tablets a) | None ↦ only_says (w.tablets a) (written.NotPrimary (w.tablets a).stand) ]).state
write_moved config w a None me client number found at = Stays
write_moved config w a (Some t) me client number found at = Writes me t client number found (term_stand (w.tablets a).stand t at)

pub touched_moved : (config : Config) (w : World) (a : Alias) (e : Event) (t : TabletState) → Touched config w a e t → Moved config w a t
touched_moved config w a _ _ Untouched = Stays
touched_moved config w a _ _ (Called k c u call me m here carries found) =
    call_moved config w a k c u call me (record { message = m; at = here; carries = carries }) found
touched_moved config w a _ _ (Fed k term before index from x m here carries taken) =
    fed_moved config w a k term before index from x (record { message = m; at = here; carries = carries })
touched_moved config w a _ _ (Heard k term index from m here carries) =
    either_moved config w a (is_primary_of (w.tablets a).stand term) _ _
    (λ is. Hears k term index from (record { message = m; at = here; carries = carries }) (primary_stand (w.tablets a).stand term is)) (λ not_it. Stays)
touched_moved config w a _ _ (WrittenBy c s me begun found) = write_moved config w a (primary_term (w.tablets a).stand) me s.client s.number found refl
touched_moved config w a _ _ (WrittenLocal me found) =
    chosen (MovedBy config w a) (is_down (w.tablets a).stand) _ _ (λ down. Stays) (λ up. WritesLocal me found up)
touched_moved config w a _ _ (Crashed keep) = GoesDown
touched_moved config w a _ _ Restarted =
    chosen (MovedBy config w a) (is_down (w.tablets a).stand) _ _ (λ down. ComesUp (down_stand (w.tablets a).stand down)) (λ up. Stays)

-- ---- the post

-- the calls of the command are the evidence
promote_fits : (config : Config) (w : World) (u : ℕ) (a : Alias) (p : Position) (o : Option CommandState)
    → grounded (rules_of config.policy) config.tablets w.topo (calls_at w o) u a p ≡ true → CallFits (rules_of config.policy) config w u a (calls.Promote p)
promote_fits config w u a p None met = ([], met)
promote_fits config w u a p (Some s) met = (s.acts, met)

call_fits : (config : Config) (w : World) (c : ℕ) (a : Alias) (call : Call) (u : ℕ) → may_ask_in config w c a call u ≡ true
    → CallFits (rules_of config.policy) config w u a call
call_fits config w c a calls.Status u met = tt
call_fits config w c a calls.Stop u met = tt
call_fits config w c a calls.Demote u met = tt
call_fits config w c a (calls.Promote p) u met = promote_fits config w u a p (numbered w.commands c) met
call_fits config w c a (calls.SetSource source t p) u met = grind (arith, nat_tests)
call_fits config w c a calls.Feed u met = tt
call_fits config w c a (calls.WaitFor p until) u met = tt
call_fits config w c a (calls.WaitTold until) u met = tt

status_fits : (config : Config) (w : World) (c : ℕ) (a : Alias) (call : Call) → asks_status call ≡ true → CallFits (rules_of config.policy) config w 0 a call
status_fits config w c a calls.Status is = tt
status_fits config w c a calls.Stop is = absurd (false≢true is)
status_fits config w c a calls.Demote is = absurd (false≢true is)
status_fits config w c a (calls.Promote p) is = absurd (false≢true is)
status_fits config w c a (calls.SetSource source t p) is = absurd (false≢true is)
status_fits config w c a calls.Feed is = absurd (false≢true is)
status_fits config w c a (calls.WaitFor p until) is = absurd (false≢true is)
status_fits config w c a (calls.WaitTold until) is = absurd (false≢true is)

by_term_fits : (config : Config) (w : World) (c : ℕ) (a : Alias) (call : Call) (t : Option ℕ)
    → by_term t (asks_status call) (may_ask_in config w c a call) ≡ true → CallFits (rules_of config.policy) config w (unwrap_or t 0) a call
by_term_fits config w c a call None met = status_fits config w c a call met
by_term_fits config w c a call (Some u) met = call_fits config w c a call u met

send_fits : (config : Config) (w : World) (c : ℕ) (a : Alias) (call : Call) (o : Option CommandState) → may_send config w c a call o ≡ true
    → CallFits (rules_of config.policy) config w (unwrap_or (term_in o) 0) a call
send_fits config w c a call None met = absurd (false≢true met)
send_fits config w c a call (Some s) met = by_term_fits config w c a call s.term met

abbrev Sending : Config → World → Event → Content → Type 0
Sending config w e content = Sends (rules_of config.policy) config w (after config w e) content

some_of : {A : Type 0} (x y : A) → Some x ≡ Some y → x ≡ y
some_of x y h = cc

feed_sends : (config : Config) (w : World) (e : Event) (s r : Alias) (t n : ℕ) (content : Content) (o : Option Indexed) → (w.tablets r).stand ≡ stands.Replica s t n
    → feeds_term (w.tablets s).stand t ≡ true → needed (w.tablets s) (w.tablets r) n ≡ o → (o >>= (λ x. Some (feed_of s r t n x))) ≡ Some content
    → Sending config w e content
feed_sends config w e s r t n content None at feeds found h = absurd (let none : None ≡ Some content = h in cc)
feed_sends config w e s r t n content (Some x) at feeds found h =
    subst (λ (c : Content). Sending config w e c) (some_of (feed_of s r t n x) content h) (Feeds r s t n x at feeds found)

offer_sends : (config : Config) (w : World) (e : Event) (r : Alias) (at : Stand) (content : Content) → (w.tablets r).stand ≡ at → offered_by w r at ≡ Some content
    → Sending config w e content
offer_sends config w e r stands.Down content at h = absurd (let none : None ≡ Some content = h in cc)
offer_sends config w e r stands.Stopped content at h = absurd (let none : None ≡ Some content = h in cc)
offer_sends config w e r (stands.Primary t) content at h = absurd (let none : None ≡ Some content = h in cc)
offer_sends config w e r (stands.Demoted t by) content at h = absurd (let none : None ≡ Some content = h in cc)
offer_sends config w e r (stands.Feeder t) content at h = absurd (let none : None ≡ Some content = h in cc)
offer_sends config w e r (stands.Replica s t n) content at h = of_test (may_feed w s r t n) refl h
  where
    of_test : (b : Bool) → may_feed w s r t n ≡ b → (only_if b n >>= (λ m. needed (w.tablets s) (w.tablets r) m >>= (λ x. Some (feed_of s r t n x)))) ≡ Some content
        → Sending config w e content
    of_test true may k =
        let first = both_left (feeds_term (w.tablets s).stand t && not (is_cut w.cuts (link_between s r))) (not (is_under_way w r n)) may in
        feed_sends config w e s r t n content (needed (w.tablets s) (w.tablets r) n) at (both_left (feeds_term (w.tablets s).stand t) (not (is_cut w.cuts (link_between s r))) first) refl k
    of_test false may k = absurd (let none : None ≡ Some content = k in cc)

sends : (config : Config) (w : World) (e : Event) (content : Content) → Met config w e → Sent config w e content → Sending config w e content
sends config w _ _ met (Asked c a call) =
    Asks c (unwrap_or (term_in (open_command w c)) 0) a call
    (send_fits config w c a call (open_command w c) (both_right (is_declared config.tablets a) (may_send config w c a call (open_command w c)) met))
sends config w _ _ met (Replied k c u a call me m here carries found) =
    Answers k c u a call me (record { message = m; at = here; carries = carries }) found (asked_state config w k c u a call me m here carries found)
sends config w _ _ met (Acked k term before index from to x m here carries taken) =
    Acks k term before index from to x (record { message = m; at = here; carries = carries }) (took from term before index x (w.tablets to) taken)
    (fed_state config w k term before index from to x m here carries taken)
sends config w _ _ met (Offered r content is) = offer_sends config w _ r (w.tablets r).stand content refl is

stays : (config : Config) (w : World) (e : Event) (n : ℕ) (content : Content) → IsPosted w.post n content → IsPosted (after config w e).post n content
stays config w e n content h = let r = post_stays config w e n h.message h.at in record { message = r.0; at = r.1; carries = r.2 ∙ h.carries }

-- what is there after a step was there, or is new and was sent
sent_or_there : (config : Config) (w : World) (e : Event) (n : ℕ) (content : Content) (o : Option Message) → Met config w e → numbered w.post n ≡ o
    → IsPosted (after config w e).post n content
    → IsPosted w.post n content ⊎ (numbered w.post n ≡ None) × Sends (rules_of config.policy) config w (after config w e) content
sent_or_there config w e n content (Some old) met there h =
    let r = post_stays config w e n old there in
    inl (record { message = old; at = there; carries = sym r.2 ∙ ap (λ (x : Message). x.content) (some_of r.0 h.message (sym r.1 ∙ h.at)) ∙ h.carries })
sent_or_there config w e n content None met there h = of_cases (post_cases config w e n h.message h.at)
  where
    of_cases : PostCases config w e n h.message → IsPosted w.post n content ⊎ (numbered w.post n ≡ None) × Sends (rules_of config.policy) config w (after config w e) content
    of_cases (inl old) = absurd (let none : None ≡ Some old.0 = sym there ∙ old.1 in cc)
    of_cases (inr sent) = inr (there, subst (λ (c : Content). Sending config w e c) h.carries (sends config w e h.message.content met sent))

-- an answer that settles a call is one to it
settling : (w : World) (e : Event) (k n : ℕ) (o : Option Settled) → Settling w e k o → o ≡ Some (settleds.Answered n)
    → (c : ℕ) × (a : Alias) × (says : Answer) × IsPosted w.post n (contents.Answers c k a says)
settling w _ _ n _ (ByAnswer j k c from says a here carries) is =
    let same : j ≡ n = (let some : Some (settleds.Answered j) ≡ Some (settleds.Answered n) = is in cc) in
    (c, from, says, subst (λ (m : ℕ). IsPosted w.post m (contents.Answers c k from says)) same (record { message = a; at = here; carries = carries }))
settling w _ _ n _ (ByGivingUp c k why) is = absurd (let some : Some (settleds.GaveUp why) ≡ Some (settleds.Answered n) = is in cc)

settled : (config : Config) (w : World) (e : Event) (k n : ℕ) → settled_in (numbered (after config w e).post k) ≡ Some (settleds.Answered n)
    → (settled_in (numbered w.post k) ≡ Some (settleds.Answered n)) ⊎ ((c : ℕ) × (a : Alias) × (says : Answer) × IsPosted w.post n (contents.Answers c k a says))
settled config w e k n is = of_cases (settled_cases config w e k)
  where
    of_cases : SettledCases w (after config w e).post e k
        → (settled_in (numbered w.post k) ≡ Some (settleds.Answered n)) ⊎ ((c : ℕ) × (a : Alias) × (says : Answer) × IsPosted w.post n (contents.Answers c k a says))
    of_cases (inl same) = inl (sym same ∙ is)
    of_cases (inr new) = inr (settling w e k n _ new is)

-- ---- a step

pub step_moves : (config : Config) (w : World) (e : Event) → Met config w e → WorldMove (rules_of config.policy) config w (after config w e)
step_moves config w e met = record {
  tablets = λ a. Plainly (touched_moved config w a e _ (touched config w e a));
  topo = topo_moves config w e;
  post = record {
    sent = λ n content h. sent_or_there config w e n content (numbered w.post n) met refl h;
    stays = λ n content h. stays config w e n content h;
    settled = λ k n is. settled config w e k n is;
  };
}

-- What holds along any worlds of which each comes from the one before by one move: what only grows, when a message was sent and when an entry came,
-- and that an answer to a Stop or a Demote has all that its tablet had before it promised the term.
use Rattle.std.proofs.Common.{◌≡◌, ◌⊎◌, inl, inr, ℕ, zero, suc, ◌≤◌, ◌<◌, Bool, true, false, ◌&&◌, ◌||◌, ◌==◌, nat_lt, refl, ap, sym, subst, ◌∙◌, arith, List, [], ◌∷◌, ◌++◌, cond, Some, None, length}
use Rattle.std.proofs.lemmas.Bool.Decides.{nat_tests}
use Rattle.std.specs.List.{slice_get}
use Rattle.shard_base.specs.Lists.{IsFront}
use Rattle.shard_names.specs.declared.alias.Alias.{Alias}
use Rattle.shard_names.specs.declared.tablet.Tablet.{Tablet}
use Rattle.durability.specs.Rules.{Rules}
use Rattle.gtid_sets.specs.declared.entry.Entry.{Entry}
use Rattle.gtid_sets.specs.Position.{Position, covers, minus}
use Rattle.topo_lock.specs.Moves.{TopoMoves, Rests, Goes}
use Rattle.shard_calls.specs.declared.answer.Answer.{Answer}
use Rattle.shard_calls.specs.declared.answer.Answer.TheVariants as answers
use Rattle.shard_calls.specs.declared.call.Call.{Call}
use Rattle.shard_calls.specs.declared.call.Call.TheVariants as calls
use Rattle.shard_calls.specs.declared.post.Content.{Content}
use Rattle.shard_calls.specs.declared.post.Content.TheVariants as contents
use Rattle.shard_calls.specs.declared.post.Message.{Message}
use Rattle.shard_calls.specs.declared.stand.Stand.{Stand}
use Rattle.shard_calls.specs.declared.stand.Stand.TheVariants as stands
use Rattle.shard_calls.specs.Stands.{is_stopped, is_primary_of, is_replica_in, is_feeder_in}
use Rattle.shard_calls.specs.declared.group.Group.{Group}
use Rattle.gtid_sets.specs.Logs.{position_of, has_row, newest_row, newest_row_names}
use Rattle.shard_calls.specs.Tablets.{TabletState, Verdict, opened, is_row_told, in_term, stops, demotes, promotes, joins, feeds, waits_for_position, waits_told, after_call, answer_to}
use Rattle.shard_calls.specs.World.{Config, IsConfig, World, numbered}
use Rattle.shard_laws.specs.TightMoves.{IsPosted, TightMove, Stays, Sees, Stops, Demotes, Joins, Serves, Enters, Takes, Skips, Writes, WritesLocal, Hears, Promises, GoesDown, ComesUp, TabletStep, Plainly, Returning, Sends, Asks, Answers, Acks, Feeds, WorldMove}
use Rattle.shard_calls.proofs.LawLemmas.{chosen}
use Rattle.shard_calls.proofs.MoveLemmas.{whole, further, one_more}
use Rattle.shard_calls.proofs.ListLemmas.{slice_get-push_cases}
use Rattle.shard_calls.proofs.WorldLemmas.{IsSoundWorld}
use Rattle.shard_calls.proofs.EntryLemmas.{IsUniqueWorld}
use Rattle.shard_calls.proofs.ClosureLemmas.{IsClosedWorld}
use Rattle.shard_calls.proofs.ToldLemmas.{IsTellingWorld}

-- worlds, each by one move from the one before, with what is known of each
pub record Trace (rules : Rules) (config : Config) (at : ℕ → World) : Type 0 where
  pub is : IsConfig config
  pub blank : (a : Alias) → (at 0).tablets a ≡ opened
  pub unsent : (n : ℕ) (content : Content) → IsPosted (at 0).post n content → ⊥
  pub move : (i : ℕ) → WorldMove rules config (at i) (at (suc i))
  pub sound : (i : ℕ) → IsSoundWorld (at i)
  pub unique : (i : ℕ) → IsUniqueWorld config (at i)
  pub closed : (i : ℕ) → IsClosedWorld (at i)
  pub telling : (i : ℕ) → IsTellingWorld (at i)

-- ---- one move

abbrev pub LogStep : List Entry → List Entry → Type 0
LogStep old new = (new ≡ old) ⊎ ((e : Entry) × (new ≡ old ++ e ∷ []))

pub log_step : (ts : List Tablet) (post : List Message) (a : Alias) (s t : TabletState) → TightMove ts post a s t → LogStep s.log t.log
log_step ts post a s _ Stays = inl refl
log_step ts post a s _ (Sees u le) = inl refl
log_step ts post a s _ (Stops k c u posted le) = inl refl
log_step ts post a s _ (Demotes k c u me posted found le own) = inl refl
log_step ts post a s _ (Joins k c u t source p posted le new inside) = inl refl
log_step ts post a s _ (Serves k c u posted le promised stand) = inl refl
log_step ts post a s _ (Enters k c u p me posted found le none caught) = inr (_, refl)
log_step ts post a s _ (Takes k term before index source e posted stand fresh) = inr (e, refl)
log_step ts post a s _ (Skips k term before index source e posted stand held) = inl refl
log_step ts post a s _ (Writes me t client number found stand) = inr (_, refl)
log_step ts post a s _ (WritesLocal me found up) = inr (_, refl)
log_step ts post a s _ (Hears k term index source posted stand) = inl refl
log_step ts post a s _ (Promises u t le more within) = inl refl
log_step ts post a s _ GoesDown = inl refl
log_step ts post a s _ (ComesUp down) = inl refl

pub log_stepped : (ts : List Tablet) (post : List Message) (a : Alias) (s t : TabletState) → TabletStep ts post a s t → LogStep s.log t.log
log_stepped ts post a s _ (Plainly move) = log_step ts post a s _ move
log_stepped ts post a s _ (Returning move) = log_step ts post a s _ move

pub front_step : (old new : List Entry) → LogStep old new → IsFront old new
front_step old new (inl same) = subst (λ (l : List Entry). IsFront old l) (sym same) (whole old)
front_step old new (inr more) = subst (λ (l : List Entry). IsFront old l) (sym more.1) (one_more old more.0)

promise_step : (ts : List Tablet) (post : List Message) (a : Alias) (s t : TabletState) → s.promised ≤ s.seen → TightMove ts post a s t → s.promised ≤ t.promised
promise_step ts post a s _ low Stays = omega arith
promise_step ts post a s _ low (Sees u le) = omega arith
promise_step ts post a s _ low (Stops k c u posted le) = omega (arith, low, le)
promise_step ts post a s _ low (Demotes k c u me posted found le own) = omega (arith, low, le)
promise_step ts post a s _ low (Joins k c u t source p posted le new inside) = new
promise_step ts post a s _ low (Serves k c u posted le promised stand) = omega arith
promise_step ts post a s _ low (Enters k c u p me posted found le none caught) = omega (arith, low, le)
promise_step ts post a s _ low (Takes k term before index source e posted stand fresh) = omega arith
promise_step ts post a s _ low (Skips k term before index source e posted stand held) = omega arith
promise_step ts post a s _ low (Writes me t client number found stand) = omega arith
promise_step ts post a s _ low (WritesLocal me found up) = omega arith
promise_step ts post a s _ low (Hears k term index source posted stand) = omega arith
promise_step ts post a s _ low (Promises u t le more within) = more
promise_step ts post a s _ low GoesDown = omega arith
promise_step ts post a s _ low (ComesUp down) = omega arith

promise_stepped : (ts : List Tablet) (post : List Message) (a : Alias) (s t : TabletState) → s.promised ≤ s.seen → TabletStep ts post a s t → s.promised ≤ t.promised
promise_stepped ts post a s _ low (Plainly move) = promise_step ts post a s _ low move
promise_stepped ts post a s _ low (Returning move) = promise_step ts post a s _ low move

-- ---- any number of moves

-- what holds of a world and itself, and goes on over a move, holds of a world and each later one
pub climb : (at : ℕ → World) (R : World → World → Type 0) → ((w : World) → R w w) → ((i : ℕ) (w : World) → R w (at i) → R w (at (suc i)))
    → (i j : ℕ) → i ≤ j → R (at i) (at j)
climb at R same more i zero le = let is : i ≡ 0 = omega (arith, le) in subst (λ (k : ℕ). R (at k) (at 0)) (sym is) (same (at 0))
climb at R same more i (suc j) le = of_test (nat_lt j i) refl (λ l. climb at R same more i j l)
  where
    of_test : (b : Bool) → nat_lt j i ≡ b → (i ≤ j → R (at i) (at j)) → R (at i) (at (suc j))
    of_test true e rest =
        let is : i ≡ suc j = (let l : j < i = grind (arith, nat_tests) in omega (arith, l, le)) in subst (λ (k : ℕ). R (at k) (at (suc j))) (sym is) (same (at (suc j)))
    of_test false e rest = more j (at i) (rest (let l : i ≤ j = grind (arith, nat_tests) in l))

pub logs_later : (rules : Rules) (config : Config) (at : ℕ → World) → Trace rules config at → (a : Alias) (i j : ℕ) → i ≤ j
    → IsFront ((at i).tablets a).log ((at j).tablets a).log
logs_later rules config at trace a =
    climb at (λ w v. IsFront (w.tablets a).log (v.tablets a).log) (λ w. whole (w.tablets a).log)
    (λ i w h. further h (front_step _ _ (log_stepped config.tablets (at i).post a _ _ ((trace.move i).tablets a))))

pub promise_later : (rules : Rules) (config : Config) (at : ℕ → World) → Trace rules config at → (a : Alias) (i j : ℕ) → i ≤ j
    → ((at i).tablets a).promised ≤ ((at j).tablets a).promised
promise_later rules config at trace a =
    climb at (λ w v. (w.tablets a).promised ≤ (v.tablets a).promised) (λ w. omega arith)
    (λ i w h. let step = promise_stepped config.tablets (at i).post a _ _ ((trace.sound i).tablets a).seen ((trace.move i).tablets a) in omega (arith, h, step))

pub post_later : (rules : Rules) (config : Config) (at : ℕ → World) → Trace rules config at → (n : ℕ) (content : Content) (i j : ℕ) → i ≤ j
    → IsPosted (at i).post n content → IsPosted (at j).post n content
post_later rules config at trace n content =
    climb at (λ w v. IsPosted w.post n content → IsPosted v.post n content) (λ w h. h) (λ i w rest h. (trace.move i).post.stays n content (rest h))

pub topo_later : (rules : Rules) (config : Config) (at : ℕ → World) → Trace rules config at → (i j : ℕ) → i ≤ j → TopoMoves (at i).topo (at j).topo
topo_later rules config at trace = climb at (λ w v. TopoMoves w.topo v.topo) (λ w. Rests) (λ i w h. Goes h (trace.move i).topo)

-- ---- when a message was sent, and when an entry came

pub record WasSent (rules : Rules) (config : Config) (at : ℕ → World) (i n : ℕ) (content : Content) : Type 0 where
  pub step : ℕ
  pub earlier : step < i
  pub sends : Sends rules config (at step) (at (suc step)) content
  pub posted : IsPosted (at (suc step)).post n content
  pub new : numbered (at step).post n ≡ None

pub was_sent : (rules : Rules) (config : Config) (at : ℕ → World) → Trace rules config at → (i n : ℕ) (content : Content) → IsPosted (at i).post n content
    → WasSent rules config at i n content
was_sent rules config at trace zero n content h = absurd (trace.unsent n content h)
was_sent rules config at trace (suc i) n content h = of_cases ((trace.move i).post.sent n content h) (λ was. was_sent rules config at trace i n content was)
  where
    of_cases : IsPosted (at i).post n content ⊎ (numbered (at i).post n ≡ None) × Sends rules config (at i) (at (suc i)) content
        → (IsPosted (at i).post n content → WasSent rules config at i n content) → WasSent rules config at (suc i) n content
    of_cases (inl was) rest = let r = rest was in let low = r.earlier in record { step = r.step; earlier = omega (arith, low); sends = r.sends; posted = r.posted; new = r.new }
    of_cases (inr new) rest = record { step = i; earlier = omega arith; sends = new.1; posted = h; new = new.0 }

pub record WasAdded (at : ℕ → World) (i : ℕ) (a : Alias) (n : ℕ) (e : Entry) : Type 0 where
  pub step : ℕ
  pub earlier : step < i
  pub place : n ≡ length ((at step).tablets a).log
  pub added : ((at (suc step)).tablets a).log ≡ ((at step).tablets a).log ++ e ∷ []

pub was_added : (rules : Rules) (config : Config) (at : ℕ → World) → Trace rules config at → (i : ℕ) (a : Alias) (n : ℕ) (e : Entry)
    → slice_get ((at i).tablets a).log n ≡ Some e → WasAdded at i a n e
was_added rules config at trace zero a n e h =
    absurd (let none : None ≡ Some e = ap (λ (s : TabletState). slice_get s.log n) (sym (trace.blank a)) ∙ h in cc)
was_added rules config at trace (suc i) a n e h =
    of_step (log_stepped config.tablets (at i).post a _ _ ((trace.move i).tablets a)) (λ was. was_added rules config at trace i a n e was)
  where
    further_on : WasAdded at i a n e → WasAdded at (suc i) a n e
    further_on r = let low = r.earlier in record { step = r.step; earlier = omega (arith, low); place = r.place; added = r.added }

    of_push : (x : Entry) → ((at (suc i)).tablets a).log ≡ ((at i).tablets a).log ++ x ∷ []
        → (slice_get ((at i).tablets a).log n ≡ Some e) ⊎ ((n ≡ length ((at i).tablets a).log) × (x ≡ e))
        → (slice_get ((at i).tablets a).log n ≡ Some e → WasAdded at i a n e) → WasAdded at (suc i) a n e
    of_push x more (inl old) rest = further_on (rest old)
    of_push x more (inr new) rest =
        record { step = i; earlier = omega arith; place = new.0; added = subst (λ (y : Entry). ((at (suc i)).tablets a).log ≡ ((at i).tablets a).log ++ y ∷ []) new.1 more }

    of_step : LogStep ((at i).tablets a).log ((at (suc i)).tablets a).log → (slice_get ((at i).tablets a).log n ≡ Some e → WasAdded at i a n e) → WasAdded at (suc i) a n e
    of_step (inl same) rest = further_on (rest (subst (λ (l : List Entry). slice_get l n ≡ Some e) same h))
    of_step (inr more) rest =
        of_push more.0 more.1 (slice_get-push_cases ((at i).tablets a).log more.0 e n (subst (λ (l : List Entry). slice_get l n ≡ Some e) more.1 h)) rest

-- ---- what an answer to a Stop or a Demote says

-- the newest row and the position of the log, which stays, and the promise of the term
pub record SaysAll (u : ℕ) (s t : TabletState) (newest : ℕ) (position : Position) : Type 0 where
  pub newest_is : newest ≡ newest_row s.log
  pub position_is : position ≡ position_of s.log
  pub promised : t.promised ≡ u

-- a Stopped, and a Demoted
abbrev pub SaysFor : Answer → ℕ → TabletState → TabletState → Type 0
SaysFor (answers.Status seen promised at newest position) u s t = Unit {0}
SaysFor (answers.Stopped newest position) u s t = SaysAll u s t newest position
SaysFor (answers.Demoted newest position) u s t = SaysAll u s t newest position
SaysFor (answers.Promoted position) u s t = Unit {0}
SaysFor answers.Joined u s t = Unit {0}
SaysFor answers.Feeding u s t = Unit {0}
SaysFor answers.Holds u s t = Unit {0}
SaysFor answers.Told u s t = Unit {0}
SaysFor answers.NotTold u s t = Unit {0}
SaysFor (answers.Kept at) u s t = Unit {0}
SaysFor (answers.StaleTerm seen) u s t = Unit {0}
SaysFor (answers.PromisedAhead promised) u s t = Unit {0}
SaysFor (answers.NotCaughtUp missing) u s t = Unit {0}
SaysFor (answers.Errant extra) u s t = Unit {0}
SaysFor (answers.NotStanding newest) u s t = Unit {0}

abbrev SaysSo : ℕ → TabletState → Verdict Answer → Type 0
SaysSo u s v = SaysFor v.says u s v.state

in_term_says : (u : ℕ) (s : TabletState) (f : TabletState → Verdict Answer) → SaysSo u s (f (record s { seen = u })) → SaysSo u s (in_term u s f)
in_term_says u s f h = chosen (SaysSo u s) (nat_lt u s.seen) _ (f (record s { seen = u })) (λ stale. tt) (λ fresh. h)

stopped_promise : (u : ℕ) (s : TabletState) (b : Bool) → (s.promised == u) ≡ b → (cond b s (record s { promised = u; stand = stands.Stopped })).promised ≡ u
stopped_promise u s true is = grind (arith, nat_tests)
stopped_promise u s false is = refl

kept_says : (b : Bool) (u : ℕ) (s t : TabletState) (p : Position) (at : Stand) → SaysFor (cond b (answers.Promoted p) (answers.Kept at)) u s t
kept_says true u s t p at = tt
kept_says false u s t p at = tt

told_says : (b c : Bool) (u : ℕ) (s t : TabletState) (at : Stand) → SaysFor (cond b (cond c answers.Told answers.NotTold) (answers.Kept at)) u s t
told_says true true u s t at = tt
told_says true false u s t at = tt
told_says false c u s t at = tt

held_says : (b : Bool) (u : ℕ) (s t : TabletState) (lacks : Position) → SaysFor (cond b answers.Holds (answers.NotCaughtUp lacks)) u s t
held_says true u s t lacks = tt
held_says false u s t lacks = tt

pub call_says : (g : Group) (me : Tablet) (u : ℕ) (call : Call) (s : TabletState) → SaysFor (answer_to g me u call s) u s (after_call g me u call s)
call_says g me u calls.Status s = tt
call_says g me u calls.Stop s =
    in_term_says u s (stops u) (record { newest_is = refl; position_is = refl; promised = stopped_promise u (record s { seen = u }) (s.promised == u) refl })
call_says g me u calls.Demote s =
    in_term_says u s (demotes me u)
    (chosen (SaysSo u s) (s.promised == u) _ _
    (λ there. record { newest_is = refl; position_is = refl; promised = (let same : s.promised ≡ u = grind (arith, nat_tests) in same) })
    (λ other. chosen (SaysSo u s) (newest_row_names s.log me.alias) _ _ (λ own. record { newest_is = refl; position_is = refl; promised = refl }) (λ no_own. tt)))
call_says g me u (calls.Promote p) s =
    in_term_says u s (promotes me u p)
    (chosen (SaysSo u s) (has_row s.log u) _ _ (λ there. kept_says (is_primary_of s.stand u) u s (record s { seen = u }) (position_of s.log) s.stand)
    (λ none. chosen (SaysSo u s) (covers (position_of s.log) p) _ _ (λ caught. tt) (λ short. tt)))
call_says g me u (calls.SetSource source t p) s =
    in_term_says u s (joins source t p)
    (chosen (SaysSo u s) (nat_lt t s.promised) _ _ (λ ahead. tt)
    (λ fresh. chosen (SaysSo u s) (is_primary_of s.stand t || is_replica_in s.stand t) _ _ (λ stays. tt)
    (λ other. chosen (SaysSo u s) (covers p (position_of s.log)) _ _ (λ inside. tt) (λ errant. tt))))
call_says g me u calls.Feed s =
    in_term_says u s (feeds u)
    (chosen (SaysSo u s) (is_feeder_in s.stand u) _ _ (λ feeder. tt) (λ other. chosen (SaysSo u s) (is_stopped s.stand && (s.promised == u)) _ _ (λ stopped. tt) (λ keeps. tt)))
call_says g me u (calls.WaitFor p until) s =
    in_term_says u s (waits_for_position p) (held_says (covers (position_of s.log) p) u s (record s { seen = u }) (minus p (position_of s.log)))
call_says g me u (calls.WaitTold until) s =
    in_term_says u s (waits_told g me u) (told_says (is_primary_of s.stand u) (is_row_told g me s u) u s (record s { seen = u }) s.stand)

-- ---- votes are answered

-- An answer Stopped or Demoted of a term, with this newest row and position: those of the tablet's log at a step, at which the tablet promises the term.
pub record IsAnswered (at : ℕ → World) (i u : ℕ) (a : Alias) (newest : ℕ) (position : Position) : Type 0 where
  pub step : ℕ
  pub earlier : step < i
  pub newest_is : newest ≡ newest_row ((at step).tablets a).log
  pub position_is : position ≡ position_of ((at step).tablets a).log
  pub promised : ((at (suc step)).tablets a).promised ≡ u

pub same_ask : (c d u v : ℕ) (a b : Alias) (x y : Call) → contents.Asks c u a x ≡ contents.Asks d v b y → u ≡ v
same_ask c d u v a b x y h = cc

same_answer : (c d j k : ℕ) (a b : Alias) (x y : Answer) → contents.Answers c j a x ≡ contents.Answers d k b y → (j ≡ k) × (a ≡ b) × (x ≡ y)
same_answer c d j k a b x y h = (cc, cc, cc)

pub one_content : (post : List Message) (n : ℕ) (x y : Content) → IsPosted post n x → IsPosted post n y → x ≡ y
one_content post n x y p q =
    let same : p.message ≡ q.message = (let some : Some p.message ≡ Some q.message = sym p.at ∙ q.at in cc) in
    sym p.carries ∙ ap (λ (m : Message). m.content) same ∙ q.carries

answered_by : (rules : Rules) (config : Config) (at : ℕ → World) → Trace rules config at → (i j n k d c u : ℕ) (a : Alias) (call : Call) (says : Answer)
    (content : Content) → j < i → IsPosted (at i).post k (contents.Asks c u a call) → Sends rules config (at j) (at (suc j)) content
    → content ≡ contents.Answers d k a says → SaysFor says u ((at j).tablets a) ((at (suc j)).tablets a)
answered_by rules config at trace i j n k d c u a call says _ low asked (Asks e v b x fits) is = absurd (cc)
answered_by rules config at trace i j n k d c u a call says _ low asked (Answers l e v b x me posted found then) is =
    let same = same_answer e d l k b a (answer_to (at j).group me v x ((at j).tablets b)) says is in
    let here : IsPosted (at j).post k (contents.Asks e v b x) = subst (λ (y : ℕ). IsPosted (at j).post y (contents.Asks e v b x)) same.0 posted in
    let there : IsPosted (at i).post k (contents.Asks e v b x) = post_later rules config at trace k _ j i (omega (arith, low)) here in
    let terms : v ≡ u = same_ask e c v u b a x call (one_content (at i).post k _ _ there asked) in
    let true_says : SaysFor (answer_to (at j).group me v x ((at j).tablets b)) v ((at j).tablets b) ((at (suc j)).tablets b) =
    subst (λ (t : TabletState). SaysFor (answer_to (at j).group me v x ((at j).tablets b)) v ((at j).tablets b) t) (sym then) (call_says (at j).group me v x ((at j).tablets b)) in
    subst (λ (y : Answer). SaysFor y u ((at j).tablets a) ((at (suc j)).tablets a)) same.2
    (subst (λ (w : ℕ). SaysFor (answer_to (at j).group me v x ((at j).tablets b)) w ((at j).tablets a) ((at (suc j)).tablets a)) terms
    (subst (λ (y : Alias). SaysFor (answer_to (at j).group me v x ((at j).tablets b)) v ((at j).tablets y) ((at (suc j)).tablets y)) same.1 true_says))
answered_by rules config at trace i j n k d c u a call says _ low asked (Acks l term before index from to e posted takes then) is = absurd (cc)
answered_by rules config at trace i j n k d c u a call says _ low asked (Feeds r s t m x stand feeds needs) is = absurd (cc)

pub is_answered : (rules : Rules) (config : Config) (at : ℕ → World) → Trace rules config at → (i n k d c u : ℕ) (a : Alias) (call : Call) (says : Answer)
    → IsPosted (at i).post k (contents.Asks c u a call) → IsPosted (at i).post n (contents.Answers d k a says)
    → (j : ℕ) × (j < i) × SaysFor says u ((at j).tablets a) ((at (suc j)).tablets a)
is_answered rules config at trace i n k d c u a call says asked answered =
    let sent = was_sent rules config at trace i n (contents.Answers d k a says) answered in
    (sent.step, sent.earlier, answered_by rules config at trace i sent.step n k d c u a call says _ sent.earlier asked sent.sends refl)

-- whatever the log held while the promise was below the term is in the log that was answered
pub votes_answered : (rules : Rules) (config : Config) (at : ℕ → World) → Trace rules config at → (i j u : ℕ) (a : Alias)
    → ((at (suc j)).tablets a).promised ≡ u → ((at i).tablets a).promised < u → IsFront ((at i).tablets a).log ((at j).tablets a).log
votes_answered rules config at trace i j u a promised low = of_test (nat_lt j i) refl
  where
    of_test : (b : Bool) → nat_lt j i ≡ b → IsFront ((at i).tablets a).log ((at j).tablets a).log
    of_test true e =
        let rises = promise_later rules config at trace a (suc j) i (let l : suc j ≤ i = grind (arith, nat_tests) in l) in
        absurd (omega (arith, rises, promised, low))
    of_test false e = logs_later rules config at trace a i j (let l : i ≤ j = grind (arith, nat_tests) in l)

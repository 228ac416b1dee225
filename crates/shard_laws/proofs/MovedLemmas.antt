-- Moves keep all that is known of a world: that it is sound, that each transaction is one entry, closure, and that answers say the truth.
use Rattle.std.proofs.Common.{◌≡◌, ◌⊎◌, inl, inr, ℕ, ◌+◌, ◌≤◌, Bool, true, ◌&&◌, ◌==◌, refl, ap, sym, subst, ◌∙◌, arith, List, [], ◌∷◌, ◌++◌, cond, Some, None}
use Rattle.std.proofs.lemmas.Bool.{false≢true}
use Rattle.std.proofs.lemmas.Bool.Decides.{nat_tests}
use Rattle.shard_names.specs.declared.alias.Alias.{Alias}
use Rattle.shard_names.specs.Tablets.{alias_eq, tablet_of}
use Rattle.shard_names.proofs.TabletLemmas.{both_left, both_right, alias_eq_itself}
use Rattle.durability.specs.Rules.{Rules}
use Rattle.gtid_sets.specs.declared.entry.Entry.{Entry}
use Rattle.gtid_sets.specs.declared.entry.Kind.TheVariants as kinds
use Rattle.topo_lock.specs.Moves.{Goes}
use Rattle.shard_calls.specs.declared.answer.Answer.{Answer}
use Rattle.shard_calls.specs.declared.call.Call.{Call}
use Rattle.shard_calls.specs.declared.call.Call.TheVariants as calls
use Rattle.shard_calls.specs.declared.event.Event.{Event}
use Rattle.shard_calls.specs.declared.event.Event.TheVariants as events
use Rattle.shard_calls.specs.declared.post.Content.{Content}
use Rattle.shard_calls.specs.declared.post.Content.TheVariants as contents
use Rattle.shard_calls.specs.declared.post.Message.{Message}
use Rattle.shard_calls.specs.declared.post.Settled.TheVariants as settleds
use Rattle.shard_calls.specs.declared.stand.Stand.{Stand}
use Rattle.shard_calls.specs.declared.stand.Stand.TheVariants as stands
use Rattle.shard_calls.specs.Stands.{takes_from, waits_for}
use Rattle.gtid_sets.specs.Logs.{with_entry}
use Rattle.shard_calls.specs.Laws.{IsSound, WaitsForEntry}
use Rattle.shard_calls.specs.Moves as loose
use Rattle.shard_calls.specs.Tablets.{TabletState, answer_to, accepts}
use Rattle.shard_calls.specs.World.{Config, IsConfig, World, numbered}
use Rattle.shard_calls.specs.Messages.{feed_of}
use Rattle.shard_calls.specs.Outcomes.{sendings}
use Rattle.shard_calls.specs.Evidence.{intends}
use Rattle.shard_calls.specs.Grounds.{may_lead, has_any_ground}
use Rattle.shard_laws.specs.TightMoves.{IsPosted, TightMove, Stays, Sees, Stops, Demotes, Joins, Serves, Enters, Takes, Skips, Writes, WritesLocal, Hears, Promises, GoesDown, ComesUp, TabletStep, Plainly, Returning, CallFits, Sends, Asks, Answers, Acks, Feeds, WorldMove}
use Rattle.shard_calls.proofs.LawLemmas.{chosen}
use Rattle.shard_calls.proofs.MoveLemmas.{whole, one_more, keeps_sound_over_steps, log_only_grows_over_steps}
use Rattle.shard_calls.proofs.LogChangeLemmas.{LogChange, SameLog, RowEnters, EntryComes, OwnEntry}
use Rattle.shard_calls.proofs.WorldLemmas.{IsIntended, Held, AskFits, Fits, RowFits, IsSoundWorld, IsLater, fits_stays, row_stays, intended_stays, intended_by}
use Rattle.shard_calls.proofs.StepLemmas.{needed_held, row_numbered, feeds_within, RowIn, row_in}
use Rattle.shard_calls.proofs.EntryLemmas.{IsUniqueWorld, apart_change, home_in}
use Rattle.shard_calls.proofs.ClosureLemmas.{Says, StandSays, Follows, Holds, IsClosedWorld, Known, says_stays, follows_stays, stand_stays, noted_stays, none_noted}
use Rattle.shard_calls.proofs.ClosedLemmas.{taken_follows, taken_stand, kept, same_kept, quiet, joined, heard_one, needed_bridges, change_closed}
use Rattle.shard_calls.proofs.SettleLemmas.{settled_in, Stay}
use Rattle.shard_calls.proofs.ToldLemmas.{IsTellingWorld, Answering, AnswerFits, RowIfPromoted, answer_stays, answering_stays, call_truth}

-- ---- what is carried

carried_fits : (w : World) (k : ℕ) (content : Content) → IsSoundWorld w → IsPosted w.post k content → Fits w content
carried_fits w k content sound posted = subst (λ (c : Content). Fits w c) posted.carries (sound.post k posted.message posted.at)

carried_says : (w : World) (k : ℕ) (content : Content) → IsClosedWorld w → IsPosted w.post k content → Says w content
carried_says w k content closed posted = subst (λ (c : Content). Says w c) posted.carries (closed.post k posted.message posted.at)

takes_it : (at : Stand) (from : Alias) (term before : ℕ) → at ≡ stands.Replica from term before → takes_from at from term before ≡ true
takes_it at from term before is = subst (λ (x : Stand). takes_from x from term before ≡ true) (sym is) tests
  where
    tests : takes_from (stands.Replica from term before) from term before ≡ true
    tests =
        ap (λ (b : Bool). b && (term == term) && (before == before)) (alias_eq_itself from)
        ∙ (let one : (term == term) ≡ true = grind (arith, nat_tests) in ap (λ (b : Bool). true && b && (before == before)) one)
        ∙ (let one : (before == before) ≡ true = grind (arith, nat_tests) in ap (λ (b : Bool). true && true && b) one)

-- ---- a tight move is a loose one, and a change of the log

abbrev LooseTo : World → Alias → TabletState → Type 0
LooseTo w a t = loose.TabletMoves (w.tablets a) t

one : {s t : TabletState} → loose.TabletMove s t → loose.TabletMoves s t
one move = loose.Goes loose.Rests move

loosened : (config : Config) (w : World) (a : Alias) (t : TabletState) → IsSoundWorld w → TightMove config.tablets w.post a (w.tablets a) t → LooseTo w a t
loosened config w a _ sound Stays = one loose.Stays
loosened config w a _ sound (Sees u le) = one (loose.Sees u le)
loosened config w a _ sound (Stops k c u posted le) =
    let low = (sound.tablets a).seen in one (loose.Promises u u stands.Stopped le (omega (arith, low, le)) (omega arith) tt)
loosened config w a _ sound (Demotes k c u me posted found le own) =
    let low = (sound.tablets a).seen in one (loose.Promises u u (stands.Demoted _ u) le (omega (arith, low, le)) (omega arith) (refl, refl))
loosened config w a _ sound (Joins k c u t source p posted le new inside) =
    one (loose.Promises u t (stands.Replica source t 1) le new (carried_fits w k (contents.Asks c u a (calls.SetSource source t p)) sound posted) (refl, refl))
loosened config w a _ sound (Serves k c u posted le promised stand) =
    subst (λ (n : ℕ). LooseTo w a (record (w.tablets a) { seen = u; promised = n; stand = stands.Feeder u })) (sym promised)
    (one (loose.Promises u u (stands.Feeder u) le (omega (arith, promised)) (omega arith) refl))
loosened config w a _ sound (Enters k c u p me posted found le none caught) =
    let low = (sound.tablets a).seen in one (loose.Enters me u p le (omega (arith, low, le)) none caught)
loosened config w a _ sound (Takes k term before index source e posted stand fresh) =
    let fits = carried_fits w k (contents.Feeds source a term before index e) sound posted in
    subst (λ (l : List Entry). LooseTo w a (record (w.tablets a) { log = l; stand = stands.Replica source term (index + 1) }))
    (ap (λ (b : Bool). cond b (w.tablets a).log ((w.tablets a).log ++ e ∷ [])) fresh)
    (subst (λ (x : Stand). LooseTo w a (record (w.tablets a) { log = with_entry (w.tablets a).log e; stand = waits_for x (index + 1) })) stand
    (one (loose.Takes source term before index e stand fits.1)))
loosened config w a _ sound (Skips k term before index source e posted stand held) =
    let fits = carried_fits w k (contents.Feeds source a term before index e) sound posted in
    subst (λ (l : List Entry). LooseTo w a (record (w.tablets a) { log = l; stand = stands.Replica source term (index + 1) }))
    (ap (λ (b : Bool). cond b (w.tablets a).log ((w.tablets a).log ++ e ∷ [])) held)
    (subst (λ (x : Stand). LooseTo w a (record (w.tablets a) { log = with_entry (w.tablets a).log e; stand = waits_for x (index + 1) })) stand
    (one (loose.Takes source term before index e stand fits.1)))
loosened config w a _ sound (Writes me t client number found stand) = one (loose.Writes me (kinds.Write t client number) refl)
loosened config w a _ sound (WritesLocal me found up) = one (loose.Writes me kinds.Local refl)
loosened config w a _ sound (Hears k term index source posted stand) = one (loose.Hears _)
loosened config w a _ sound (Promises u t le more within) = one (loose.Promises u t stands.Stopped le more within tt)
loosened config w a _ sound GoesDown = one loose.GoesDown
loosened config w a _ sound (ComesUp down) = one loose.ComesUp

loosely : (config : Config) (w : World) (a : Alias) (t : TabletState) → IsSoundWorld w → TabletStep config.tablets w.post a (w.tablets a) t → LooseTo w a t
loosely config w a _ sound (Plainly move) = loosened config w a _ sound move
loosely config w a _ sound (Returning move) = loose.Goes (loose.Goes (loosened config w a _ sound move) loose.GoesDown) loose.ComesUp

-- of some event
abbrev Changes : Config → World → Alias → List Entry → Type 0
Changes config w a log = (e : Event) × LogChange config w a e log

changed_by : (config : Config) (w : World) (a : Alias) (t : TabletState) → TightMove config.tablets w.post a (w.tablets a) t → Changes config w a t.log
changed_by config w a _ Stays = (events.Lapse, SameLog)
changed_by config w a _ (Sees u le) = (events.Lapse, SameLog)
changed_by config w a _ (Stops k c u posted le) = (events.Lapse, SameLog)
changed_by config w a _ (Demotes k c u me posted found le own) = (events.Lapse, SameLog)
changed_by config w a _ (Joins k c u t source p posted le new inside) = (events.Lapse, SameLog)
changed_by config w a _ (Serves k c u posted le promised stand) = (events.Lapse, SameLog)
changed_by config w a _ (Enters k c u p me posted found le none caught) =
    (events.Deliver k, RowEnters k c u p me posted.message posted.at posted.carries found none caught)
changed_by config w a _ (Takes k term before index source e posted stand fresh) =
    (events.Deliver k, EntryComes k term before index source e posted.message posted.at posted.carries (takes_it (w.tablets a).stand source term before stand) fresh)
changed_by config w a _ (Skips k term before index source e posted stand held) = (events.Lapse, SameLog)
changed_by config w a _ (Writes me t client number found stand) = (events.Lapse, OwnEntry me (kinds.Write t client number) refl found)
changed_by config w a _ (WritesLocal me found up) = (events.Lapse, OwnEntry me kinds.Local refl found)
changed_by config w a _ (Hears k term index source posted stand) = (events.Lapse, SameLog)
changed_by config w a _ (Promises u t le more within) = (events.Lapse, SameLog)
changed_by config w a _ GoesDown = (events.Lapse, SameLog)
changed_by config w a _ (ComesUp down) = (events.Lapse, SameLog)

changes : (config : Config) (w : World) (a : Alias) (t : TabletState) → TabletStep config.tablets w.post a (w.tablets a) t → Changes config w a t.log
changes config w a _ (Plainly move) = changed_by config w a _ move
changes config w a _ (Returning move) = changed_by config w a _ move

-- ---- the world stays sound

moved_later : (rules : Rules) (config : Config) (w v : World) → WorldMove rules config w v → IsSoundWorld w → IsLater w v
moved_later rules config w v move sound = record {
  topo = move.topo;
  logs = λ a. log_only_grows_over_steps _ _ (loosely config w a (v.tablets a) sound (move.tablets a));
}

call_fits : (rules : Rules) (config : Config) (w : World) (u : ℕ) (a : Alias) (call : Call) → CallFits rules config w u a call → AskFits w.topo u a call
call_fits rules config w u a calls.Status fits = tt
call_fits rules config w u a calls.Stop fits = tt
call_fits rules config w u a calls.Demote fits = tt
call_fits rules config w u a (calls.Promote p) fits =
    let eligible = may_lead rules (tablet_of config.tablets a) in
    let ground = has_any_ground rules config.tablets w.topo (sendings w.post fits.0) u p in
    intended_by w.topo u a (both_right eligible (intends w.topo u a) (both_left (eligible && intends w.topo u a) ground fits.1))
call_fits rules config w u a (calls.SetSource source t p) fits = fits
call_fits rules config w u a calls.Feed fits = tt
call_fits rules config w u a (calls.WaitFor p until) fits = tt
call_fits rules config w u a (calls.WaitTold until) fits = tt

waits_one : (s : TabletState) (source : Alias) (t n : ℕ) → s.stand ≡ stands.Replica source t n → IsSound s → 1 ≤ n
waits_one s source t n stand sound = subst (λ (x : Stand). WaitsForEntry x) stand sound.waits

sends_fit : (rules : Rules) (config : Config) (w v : World) (content : Content) → IsSoundWorld w → Sends rules config w v content → Fits w content
sends_fit rules config w v _ sound (Asks c u a call fits) = call_fits rules config w u a call fits
sends_fit rules config w v _ sound (Answers k c u a call me posted found then) = tt
sends_fit rules config w v _ sound (Acks k term before index from to e posted takes then) = tt
sends_fit rules config w v _ sound (Feeds r s t n x stand feeds needs) =
    let there : numbered (w.tablets s).log x.index ≡ Some x.entry =
    needed_held (w.tablets s) (w.tablets r) n x (waits_one (w.tablets r) s t n stand (sound.tablets r)) needs in
    let below = row_numbered (w.tablets s).log x.index x.entry there in
    let within = feeds_within (w.tablets s) (w.tablets s).stand t refl feeds (sound.tablets s) in
    (there, omega (arith, below, within))

posted_as : (post : List Message) (n : ℕ) (m : Message) → numbered post n ≡ Some m → IsPosted post n m.content
posted_as post n m here = record { message = m; at = here; carries = refl }

moved_rows : (config : Config) (w v : World) (a : Alias) (e : Entry) (u : ℕ) (c : Alias) → IsLater w v → RowIn w a (v.tablets a).log e u c → RowFits v u c e
moved_rows config w v a e u c later h = home h.1 h.0
  where
    home : (Held (w.tablets c).log e) ⊎ ((c ≡ a) × Held (v.tablets a).log e) → IsIntended w.topo u c → RowFits v u c e
    home (inl held) intended = row_stays w v u c e later (record { intended = intended; at_home = held })
    home (inr held) intended = record {
      intended = intended_stays w.topo v.topo u c later.topo intended;
      at_home = subst (λ (b : Alias). Held (v.tablets b).log e) (sym held.0) held.1;
    }

moved_sound : (rules : Rules) (config : Config) (w v : World) → WorldMove rules config w v → IsSoundWorld w → IsSoundWorld v
moved_sound rules config w v move sound = record {
  tablets = λ a. keeps_sound_over_steps _ _ (loosely config w a (v.tablets a) sound (move.tablets a)) (sound.tablets a);
  topo = Goes sound.topo move.topo;
  post = λ n m here. of_sent m.content (move.post.sent n m.content (posted_as v.post n m here));
  rows = λ a n e u c at is.
      let change = changes config w a (v.tablets a) (move.tablets a) in
      moved_rows config w v a e u c later (row_in config w a change.0 (v.tablets a).log n e u c sound change.1 at is);
}
  where
    later : IsLater w v
    later = moved_later rules config w v move sound

    of_sent : {n : ℕ} (content : Content) → IsPosted w.post n content ⊎ (numbered w.post n ≡ None) × Sends rules config w v content → Fits v content
    of_sent {n} content (inl was) = fits_stays w v content later (carried_fits w n content sound was)
    of_sent content (inr new) = fits_stays w v content later (sends_fit rules config w v content sound new.1)

-- ---- each transaction is one entry

moved_unique : (rules : Rules) (config : Config) (w v : World) → WorldMove rules config w v → IsSoundWorld w → IsUniqueWorld config w → IsUniqueWorld config v
moved_unique rules config w v move sound unique = record {
  home = λ a n e at.
      let change = changes config w a (v.tablets a) (move.tablets a) in
      home_in config w v a change.0 (v.tablets a).log n e sound unique (moved_later rules config w v move sound) refl change.1 at;
  apart = λ a. let change = changes config w a (v.tablets a) (move.tablets a) in apart_change config w a change.0 (v.tablets a).log unique change.1;
}

-- ---- closure

taken_says : (config : Config) (w v : World) (a from : Alias) (k term before index : ℕ) (e : Entry) → Known config w v
    → IsPosted w.post k (contents.Feeds from a term before index e) → (w.tablets a).stand ≡ stands.Replica from term before
    → Follows (with_entry (w.tablets a).log e) (v.tablets from).log index
taken_says config w v a from k term before index e known posted stand =
    let bridge = carried_says w k (contents.Feeds from a term before index e) known.closed posted in
    let there = (carried_fits w k (contents.Feeds from a term before index e) known.sound posted).0 in
    let follows = taken_follows config w a from term before index e known.is known.sound known.unique known.closed bridge there stand in
    follows_stays _ _ _ _ index (whole (with_entry (w.tablets a).log e)) (known.later.logs from) follows

next_says : (v : World) (log : List Entry) (from : Alias) (term index : ℕ) → Follows log (v.tablets from).log index → StandSays v log (stands.Replica from term (index + 1))
next_says v log from term index follows n next =
    let same : index ≡ n = omega (arith, next) in subst (λ (k : ℕ). Follows log (v.tablets from).log k) same follows

moved_holds : (config : Config) (w v : World) (a : Alias) (t : TabletState) → Known config w v → TightMove config.tablets w.post a (w.tablets a) t → Holds v a t
moved_holds config w v a _ known Stays = same_kept config w v a _ known refl refl refl
moved_holds config w v a _ known (Sees u le) = same_kept config w v a _ known refl refl refl
moved_holds config w v a _ known (Stops k c u posted le) = quiet config w v a _ known tt refl
moved_holds config w v a _ known (Demotes k c u me posted found le own) = quiet config w v a _ known tt refl
moved_holds config w v a _ known (Joins k c u t source p posted le new inside) = quiet config w v a _ known (λ n is. joined v (w.tablets a).log source n is) refl
moved_holds config w v a _ known (Serves k c u posted le promised stand) = quiet config w v a _ known tt refl
moved_holds config w v a _ known (Enters k c u p me posted found le none caught) = record { stand = tt; noted = λ r. none_noted v a r }
moved_holds config w v a _ known (Takes k term before index source e posted stand fresh) = record {
  stand = next_says v ((w.tablets a).log ++ e ∷ []) source term index
      (subst (λ (b : Bool). Follows (cond b (w.tablets a).log ((w.tablets a).log ++ e ∷ [])) (v.tablets source).log index) fresh
      (taken_says config w v a source k term before index e known posted stand));
  noted = λ r. noted_stays config w v a known r;
}
moved_holds config w v a _ known (Skips k term before index source e posted stand held) = record {
  stand = next_says v (w.tablets a).log source term index
      (subst (λ (b : Bool). Follows (cond b (w.tablets a).log ((w.tablets a).log ++ e ∷ [])) (v.tablets source).log index) held
      (taken_says config w v a source k term before index e known posted stand));
  noted = λ r. noted_stays config w v a known r;
}
moved_holds config w v a _ known (Writes me t client number found stand) = kept config w v a _ known (one_more (w.tablets a).log _) refl refl
moved_holds config w v a _ known (WritesLocal me found up) = kept config w v a _ known (one_more (w.tablets a).log _) refl refl
moved_holds config w v a _ known (Hears k term index source posted stand) =
    let said = carried_says w k (contents.Acks source a term index) known.closed posted in
    let says : Follows (v.tablets source).log (v.tablets a).log index = follows_stays _ _ _ _ index (known.later.logs source) (known.later.logs a) said in
    record {
      stand = stand_stays w v _ _ (w.tablets a).stand known.later (whole (w.tablets a).log) (known.closed.tablets a).stand;
      noted = λ r. heard_one v a source r index ((w.tablets a).acked r) (alias_eq r source) refl says (noted_stays config w v a known r);
    }
moved_holds config w v a _ known (Promises u t le more within) = quiet config w v a _ known tt refl
moved_holds config w v a _ known GoesDown = quiet config w v a _ known tt refl
moved_holds config w v a _ known (ComesUp down) = record { stand = tt; noted = λ r. none_noted v a r }

stepped_holds : (config : Config) (w v : World) (a : Alias) (t : TabletState) → Known config w v → TabletStep config.tablets w.post a (w.tablets a) t → Holds v a t
stepped_holds config w v a _ known (Plainly move) = moved_holds config w v a _ known move
stepped_holds config w v a _ known (Returning move) = record { stand = tt; noted = λ r. none_noted v a r }

accepted_log : (from : Alias) (term before index : ℕ) (e : Entry) (s : TabletState) → takes_from s.stand from term before ≡ true
    → (accepts from term before index e s).state.log ≡ with_entry s.log e
accepted_log from term before index e s takes =
    chosen (λ v. takes_from s.stand from term before ≡ true → v.state.log ≡ with_entry s.log e) (takes_from s.stand from term before) _ _
    (λ it h. refl) (λ ignored h. absurd (false≢true (sym ignored ∙ h))) takes

sends_say : (rules : Rules) (config : Config) (w v : World) (content : Content) → Known config w v → Sends rules config w v content → Says v content
sends_say rules config w v _ known (Asks c u a call fits) = tt
sends_say rules config w v _ known (Answers k c u a call me posted found then) = tt
sends_say rules config w v _ known (Acks k term before index from to e posted takes then) =
    let stand = taken_stand (w.tablets to).stand from term before takes in
    let log : (v.tablets to).log ≡ with_entry (w.tablets to).log e =
    ap (λ (s : TabletState). s.log) then ∙ accepted_log from term before index e (w.tablets to) takes in
    subst (λ (l : List Entry). Follows l (v.tablets from).log index) (sym log) (taken_says config w v to from k term before index e known posted stand)
sends_say rules config w v _ known (Feeds r s t n x stand feeds needs) =
    says_stays w v (feed_of s r t n x) known.later
    (needed_bridges config w s r n x known.is known.unique (waits_one (w.tablets r) s t n stand (known.sound.tablets r)) needs)

moved_closed : (rules : Rules) (config : Config) (w v : World) → WorldMove rules config w v → Known config w v → IsClosedWorld v
moved_closed rules config w v move known = record {
  post = λ n m here. of_sent m.content (move.post.sent n m.content (posted_as v.post n m here));
  tablets = λ a. stepped_holds config w v a (v.tablets a) known (move.tablets a);
  closed = λ a c n k term row at kind here.
      let change = changes config w a (v.tablets a) (move.tablets a) in
      change_closed config w v a change.0 (v.tablets a).log c n k term row known refl change.1 at kind here;
}
  where
    of_sent : {n : ℕ} (content : Content) → IsPosted w.post n content ⊎ (numbered w.post n ≡ None) × Sends rules config w v content → Says v content
    of_sent {n} content (inl was) = says_stays w v content known.later (carried_says w n content known.closed was)
    of_sent content (inr new) = sends_say rules config w v content known new.1

-- ---- answers say the truth

abbrev SameAnswer : ℕ → ℕ → Alias → Answer → ℕ → ℕ → Alias → Answer → Type 0
SameAnswer c k a x d asked from says = (k ≡ asked) × (a ≡ from) × (x ≡ says)

same_answer : (c k : ℕ) (a : Alias) (x : Answer) (d asked : ℕ) (from : Alias) (says : Answer) → contents.Answers c k a x ≡ contents.Answers d asked from says
    → SameAnswer c k a x d asked from says
same_answer c k a x d asked from says h = (cc, cc, cc)

moved_stay : (rules : Rules) (config : Config) (w v : World) → WorldMove rules config w v → Stay w.post v.post
moved_stay rules config w v move n m here = let p = move.post.stays n m.content (posted_as w.post n m here) in (p.message, p.at, p.carries)

sends_answer : (rules : Rules) (config : Config) (w v : World) (content : Content) (d asked : ℕ) (from : Alias) (says : Answer) → WorldMove rules config w v
    → Sends rules config w v content → content ≡ contents.Answers d asked from says → AnswerFits v asked from says
sends_answer rules config w v _ d asked from says move (Asks c u a call fits) is = absurd (cc)
sends_answer rules config w v _ d asked from says move (Answers k c u a call me posted found then) is =
    let same = same_answer c k a (answer_to w.group me u call (w.tablets a)) d asked from says is in
    let stays = move.post.stays k (contents.Asks c u a call) posted in
    let fits : AnswerFits v k a (answer_to w.group me u call (w.tablets a)) = record {
      there = stays.message;
      command = c;
      term = u;
      call = call;
      at = stays.at;
      carries = stays.carries;
      row = subst (λ (s : TabletState). RowIfPromoted s.log u (answer_to w.group me u call (w.tablets a))) (sym then) (call_truth w.group me u call (w.tablets a));
    } in
    subst (λ (x : Answer). AnswerFits v asked from x) same.2
    (subst (λ (b : Alias). AnswerFits v asked b (answer_to w.group me u call (w.tablets a))) same.1
    (subst (λ (n : ℕ). AnswerFits v n a (answer_to w.group me u call (w.tablets a))) same.0 fits))
sends_answer rules config w v _ d asked from says move (Acks k term before index source to e posted takes then) is = absurd (cc)
sends_answer rules config w v _ d asked from says move (Feeds r s t n x stand feeds needs) is = absurd (cc)

moved_telling : (rules : Rules) (config : Config) (w v : World) → WorldMove rules config w v → IsLater w v → IsTellingWorld w → IsTellingWorld v
moved_telling rules config w v move later telling = record {
  answers = λ n m c asked from says here is. of_sent n m.content c asked from says is (move.post.sent n m.content (posted_as v.post n m here));
  settled = λ k n is. of_settled k n (move.post.settled k n is);
}
  where
    stay : Stay w.post v.post
    stay = moved_stay rules config w v move

    of_sent : (n : ℕ) (content : Content) (c asked : ℕ) (from : Alias) (says : Answer) → content ≡ contents.Answers c asked from says
        → IsPosted w.post n content ⊎ (numbered w.post n ≡ None) × Sends rules config w v content → AnswerFits v asked from says
    of_sent n content c asked from says is (inl was) =
        answer_stays w v asked from says later stay (telling.answers n was.message c asked from says was.at (was.carries ∙ is))
    of_sent n content c asked from says is (inr new) = sends_answer rules config w v content c asked from says move new.1 is

    of_settled : (k n : ℕ) → (settled_in (numbered w.post k) ≡ Some (settleds.Answered n)) ⊎ ((c : ℕ) × (from : Alias) × (says : Answer) × IsPosted w.post n (contents.Answers c k from says))
        → Answering v k n
    of_settled k n (inl was) = answering_stays w v k n stay (telling.settled k n was)
    of_settled k n (inr new) =
        answering_stays w v k n stay
        (record { message = new.3.message; command = new.0; from = new.1; says = new.2; at = new.3.at; carries = new.3.carries })

-- ---- all of it

-- what is known of each world
pub record IsKnownWorld (config : Config) (w : World) : Type 0 where
  pub sound : IsSoundWorld w
  pub unique : IsUniqueWorld config w
  pub closed : IsClosedWorld w
  pub telling : IsTellingWorld w

pub known_moved : (rules : Rules) (config : Config) (w v : World) → IsConfig config → WorldMove rules config w v → IsKnownWorld config w → IsKnownWorld config v
known_moved rules config w v is move h = record {
  sound = moved_sound rules config w v move h.sound;
  unique = unique_then;
  closed = moved_closed rules config w v move (record { is = is; sound = h.sound; unique = h.unique; closed = h.closed; later = later; unique_then = unique_then });
  telling = moved_telling rules config w v move later h.telling;
}
  where
    later : IsLater w v
    later = moved_later rules config w v move h.sound

    unique_then : IsUniqueWorld config v
    unique_then = moved_unique rules config w v move h.sound h.unique

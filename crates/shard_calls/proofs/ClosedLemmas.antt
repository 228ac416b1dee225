-- That each step keeps closure.
use Rattle.std.proofs.Common.{◌≡◌, ◌⊎◌, inl, inr, ℕ, zero, suc, ◌+◌, ◌-◌, ◌≤◌, ◌<◌, max, Bool, true, false, not, ◌&&◌, ◌||◌, ◌==◌, nat_lt, refl, ap, sym, subst, ◌∙◌, arith, List, [], ◌∷◌, ◌++◌, cond, take, drop, Option, Some, None, length}
use Rattle.std.proofs.lemmas.Bool.{false≢true}
use Rattle.std.proofs.lemmas.Bool.Decides.{nat_tests}
use Rattle.std.specs.List.{slice_get}
use Rattle.shard_base.specs.Lists.{IsFront}
use Rattle.shard_base.specs.Options.{◌>>=◌, only_if}
use Rattle.shard_names.specs.declared.alias.Alias.{Alias}
use Rattle.shard_names.specs.declared.tablet.Tablet.{Tablet}
use Rattle.shard_names.specs.Tablets.{alias_eq}
use Rattle.shard_names.proofs.TabletLemmas.{both_left, both_right, alias_eq_is, alias_eq_itself}
use Rattle.gtid_sets.specs.declared.entry.Entry.{Entry}
use Rattle.gtid_sets.specs.declared.entry.Kind.TheVariants as kinds
use Rattle.gtid_sets.specs.Position.{covers}
use Rattle.shard_calls.specs.declared.answer.Answer.{Answer}
use Rattle.shard_calls.specs.declared.call.Call.{Call}
use Rattle.shard_calls.specs.declared.call.Call.TheVariants as calls
use Rattle.shard_calls.specs.declared.event.Event.{Event}
use Rattle.shard_calls.specs.declared.event.Event.TheVariants as events
use Rattle.shard_calls.specs.declared.outcome.Accepted.{Accepted}
use Rattle.shard_calls.specs.declared.outcome.Accepted.TheVariants as accepteds
use Rattle.shard_calls.specs.declared.outcome.Written.{Written}
use Rattle.shard_calls.specs.declared.outcome.Written.TheVariants as written
use Rattle.shard_calls.specs.declared.post.Content.{Content}
use Rattle.shard_calls.specs.declared.post.Content.TheVariants as contents
use Rattle.shard_calls.specs.declared.post.Message.{Message}
use Rattle.shard_calls.specs.declared.stand.Stand.{Stand}
use Rattle.shard_calls.specs.declared.stand.Stand.TheVariants as stands
use Rattle.shard_calls.specs.Stands.{is_down, is_stopped, is_primary_of, is_replica_in, is_feeder_in, primary_term, takes_from, waits_for}
use Rattle.gtid_sets.specs.Logs.{position_of, has_row, holds, with_entry, with_own, newest_row_names, next_gtid}
use Rattle.shard_calls.specs.Tablets.{TabletState, Verdict, only_says, in_term, stops, demotes, promotes, joins, feeds, waits_for_position, waits_told, after_call, accepts, after_ack, writes_own}
use Rattle.shard_calls.specs.Laws.{WaitsForEntry}
use Rattle.shard_calls.specs.World.{Config, IsConfig, World, opening, numbered, on_message, arrives}
use Rattle.shard_calls.specs.Messages.{Indexed, needed_from, sends_all_from, needed, may_feed, feed_of, offered_by, has_come_to}
use Rattle.shard_calls.specs.Deliveries.{after_delivery, after_arrival, fed}
use Rattle.shard_calls.specs.Table.{after}
use Rattle.shard_calls.specs.RunLaws.{IsIn, HasFirst}
use Rattle.shard_calls.proofs.ListLemmas.{slice_get-push_cases, at_end}
use Rattle.shard_calls.proofs.LawLemmas.{chosen}
use Rattle.shard_calls.proofs.TouchLemmas.{Touched, Untouched, Called, Fed, Heard, WrittenBy, WrittenLocal, Crashed, Restarted, touched}
use Rattle.shard_calls.proofs.PostLemmas.{Sent, Asked, Replied, Acked, Offered, PostCases, post_cases}
use Rattle.shard_calls.proofs.LogChangeLemmas.{LogChange, SameLog, RowEnters, EntryComes, OwnEntry, log_changes, no_row}
use Rattle.shard_calls.proofs.WorldLemmas.{IsSoundWorld, Fits, get_front}
use Rattle.shard_calls.proofs.StepLemmas.{is_later, alias_found, needed_held}
use Rattle.shard_calls.proofs.EntryLemmas.{IsUniqueWorld, one_entry, holds_found, unique_after}
use Rattle.shard_calls.proofs.ClosureLemmas.{below_length, Follows, Bridges, Says, StandSays, Holds, IsClosedWorld, Known, follows_stays, says_stays, stand_stays, noted_stays, none_noted, nothing_first, get_back, in_front, take_within, take_whole, take_get, take_place, drop_get}
use Rattle.shard_calls.proofs.MoveLemmas.{whole, one_more, unless_held}

-- ---- an entry that is taken

-- what is taken comes from the source in its term, behind what the replica has
pub taken_stand : (at : Stand) (from : Alias) (term before : ℕ) → takes_from at from term before ≡ true → at ≡ stands.Replica from term before
taken_stand stands.Down from term before h = absurd (false≢true h)
taken_stand stands.Stopped from term before h = absurd (false≢true h)
taken_stand (stands.Primary t) from term before h = absurd (false≢true h)
taken_stand (stands.Demoted t by) from term before h = absurd (false≢true h)
taken_stand (stands.Replica source t next) from term before h =
    let front : (alias_eq source from && (t == term)) ≡ true = both_left (alias_eq source from && (t == term)) (next == before) h in
    let place : next ≡ before = (let test = both_right (alias_eq source from && (t == term)) (next == before) h in grind (arith, nat_tests)) in
    let terms : t ≡ term = (let test = both_right (alias_eq source from) (t == term) front in grind (arith, nat_tests)) in
    let names : source ≡ from = alias_eq_is source from (both_left (alias_eq source from) (t == term) front) in
    ap (λ (a : Alias). stands.Replica a t next) names ∙ ap (λ (u : ℕ). stands.Replica from u next) terms ∙ ap (λ (n : ℕ). stands.Replica from term n) place
taken_stand (stands.Feeder t) from term before h = absurd (false≢true h)

pub took : (from : Alias) (term before index : ℕ) (x : Entry) (s : TabletState) → (accepts from term before index x s).says ≡ accepteds.Taken
    → takes_from s.stand from term before ≡ true
took from term before index x s =
    chosen (λ v. v.says ≡ accepteds.Taken → takes_from s.stand from term before ≡ true) (takes_from s.stand from term before) _ _
    (λ takes h. takes) (λ ignored h. absurd (let no_way : accepteds.Ignored ≡ accepteds.Taken = h in cc))

-- the entry stands in the log afterwards
taken_is_in : (config : Config) (w : World) (a from : Alias) (i : ℕ) (x : Entry) (b : Bool) → IsConfig config → IsUniqueWorld config w
    → slice_get (w.tablets from).log i ≡ Some x → holds (w.tablets a).log x.gtid ≡ b → IsIn (cond b (w.tablets a).log ((w.tablets a).log ++ x ∷ [])) x
taken_is_in config w a from i x false is unique at held = (length (w.tablets a).log, at_end (w.tablets a).log x)
taken_is_in config w a from i x true is unique at held =
    let f = holds_found (w.tablets a).log x.gtid held in
    let same : f.0 ≡ x = one_entry config w is unique a from f.1.0 i f.0 x f.1.1 at f.2 in
    subst (λ (e : Entry). IsIn (w.tablets a).log e) same f.1

order : (before n i : ℕ) → before ≡ suc n → (i < n) ⊎ (before ≤ suc i)
order before n i is = of_test (nat_lt i n) refl
  where
    of_test : (b : Bool) → nat_lt i n ≡ b → (i < n) ⊎ (before ≤ suc i)
    of_test true e = inl (let less : i < n = grind (arith, nat_tests) in less)
    of_test false e = inr (let le : n ≤ i = grind (arith, nat_tests) in omega (arith, is, le))

last_or_before : (i n : ℕ) → i < suc n → (i < n) ⊎ (i ≡ n)
last_or_before i n less = of_test (nat_lt i n) refl
  where
    of_test : (b : Bool) → nat_lt i n ≡ b → (i < n) ⊎ (i ≡ n)
    of_test true e = inl (let l : i < n = grind (arith, nat_tests) in l)
    of_test false e = inr (let le : n ≤ i = grind (arith, nat_tests) in omega (arith, less, le))

-- before it takes entry i + 1, a replica has the first i
pub has_before : (w : World) (a from : Alias) (term before index : ℕ) (i : ℕ) → IsSoundWorld w → IsClosedWorld w
    → Bridges (w.tablets a).log (w.tablets from).log before index → index ≡ suc i → (w.tablets a).stand ≡ stands.Replica from term before
    → HasFirst (w.tablets a).log (w.tablets from).log i
has_before w a from term before index i sound closed bridge place at k e less there = of_order (order before (before - 1) k shape)
  where
    waits : 1 ≤ before
    waits = subst (λ (x : Stand). WaitsForEntry x) at (sound.tablets a).waits

    shape : before ≡ suc (before - 1)
    shape = let one = waits in omega (arith, one)

    follows : Follows (w.tablets a).log (w.tablets from).log (before - 1)
    follows = subst (λ (x : Stand). StandSays w (w.tablets a).log x) at (closed.tablets a).stand (before - 1) shape

    of_order : (k < before - 1) ⊎ (before ≤ suc k) → IsIn (w.tablets a).log e
    of_order (inl low) = follows.first k e low there
    of_order (inr high) = bridge.has k e high (omega (arith, less, place)) there

-- it has taken so many entries
pub taken_follows : (config : Config) (w : World) (a from : Alias) (term before index : ℕ) (x : Entry) → IsConfig config → IsSoundWorld w → IsUniqueWorld config w
    → IsClosedWorld w → Bridges (w.tablets a).log (w.tablets from).log before index → numbered (w.tablets from).log index ≡ Some x
    → (w.tablets a).stand ≡ stands.Replica from term before → Follows (with_entry (w.tablets a).log x) (w.tablets from).log index
taken_follows config w a from term before zero x is sound unique closed bridge at stand = absurd (let none : None ≡ Some x = at in cc)
taken_follows config w a from term before (suc i) x is sound unique closed bridge at stand = record {
  within = bridge.within;
  first = λ k e less there. of_order k e there (last_or_before k i less);
}
  where
    front : IsFront (w.tablets a).log (with_entry (w.tablets a).log x)
    front = unless_held (holds (w.tablets a).log x.gtid) (w.tablets a).log x

    of_order : (k : ℕ) (e : Entry) → slice_get (w.tablets from).log k ≡ Some e → (k < i) ⊎ (k ≡ i) → IsIn (with_entry (w.tablets a).log x) e
    of_order k e there (inl low) = in_front _ _ e front (has_before w a from term before (suc i) i sound closed bridge refl stand k e low there)
    of_order k e there (inr same) =
        let one : x ≡ e = (let some : Some x ≡ Some e = sym at ∙ ap (λ (n : ℕ). slice_get (w.tablets from).log n) (sym same) ∙ there in cc) in
        subst (λ (y : Entry). IsIn (with_entry (w.tablets a).log x) y) one (taken_is_in config w a from i x (holds (w.tablets a).log x.gtid) is unique at refl)

-- ---- what a tablet's state says

-- with the same stand and notes, and a longer log
pub kept : (config : Config) (w v : World) (a : Alias) (s : TabletState) → Known config w v → IsFront (w.tablets a).log s.log → s.stand ≡ (w.tablets a).stand
    → s.acked ≡ (w.tablets a).acked → Holds v a s
kept config w v a s known front stand acked = record {
  stand = subst (λ (x : Stand). StandSays v s.log x) (sym stand) (stand_stays w v _ _ (w.tablets a).stand known.later front (known.closed.tablets a).stand);
  noted = λ r. subst (λ (f : Alias → ℕ). Follows (v.tablets r).log (v.tablets a).log (f r)) (sym acked) (noted_stays config w v a known r);
}

pub same_kept : (config : Config) (w v : World) (a : Alias) (s : TabletState) → Known config w v → s.log ≡ (w.tablets a).log → s.stand ≡ (w.tablets a).stand
    → s.acked ≡ (w.tablets a).acked → Holds v a s
same_kept config w v a s known log stand acked =
    kept config w v a s known (subst (λ (l : List Entry). IsFront (w.tablets a).log l) (sym log) (whole (w.tablets a).log)) stand acked

-- a stand that says nothing
pub quiet : (config : Config) (w v : World) (a : Alias) (s : TabletState) → Known config w v → StandSays v s.log s.stand → s.acked ≡ (w.tablets a).acked → Holds v a s
quiet config w v a s known stand acked = record {
  stand = stand;
  noted = λ r. subst (λ (f : Alias → ℕ). Follows (v.tablets r).log (v.tablets a).log (f r)) (sym acked) (noted_stays config w v a known r);
}

either_holds : (v : World) (a : Alias) (b : Bool) (s t : TabletState) → Holds v a s → Holds v a t → Holds v a (cond b s t)
either_holds v a true s t p q = p
either_holds v a false s t p q = q

pub joined : (v : World) (log : List Entry) (source : Alias) (n : ℕ) → 1 ≡ suc n → Follows log (v.tablets source).log n
joined v log source n is = let none : 0 ≡ n = omega (arith, is) in subst (λ (k : ℕ). Follows log (v.tablets source).log k) none (nothing_first log (v.tablets source).log)

abbrev VerdictHolds : World → Alias → Verdict Answer → Type 0
VerdictHolds v a x = Holds v a x.state

in_term_holds : (config : Config) (w v : World) (a : Alias) (u : ℕ) (f : TabletState → Verdict Answer) → Known config w v
    → VerdictHolds v a (f (record (w.tablets a) { seen = u })) → VerdictHolds v a (in_term u (w.tablets a) f)
in_term_holds config w v a u f known h =
    chosen (VerdictHolds v a) (nat_lt u (w.tablets a).seen) _ (f (record (w.tablets a) { seen = u })) (λ stale. same_kept config w v a _ known refl refl refl) (λ fresh. h)

call_holds : (config : Config) (w v : World) (a : Alias) (u : ℕ) (call : Call) (me : Tablet) → Known config w v → Holds v a (after_call w.group me u call (w.tablets a))
call_holds config w v a u calls.Status me known = same_kept config w v a _ known refl refl refl
call_holds config w v a u calls.Stop me known =
    in_term_holds config w v a u (stops u) known
    (either_holds v a ((w.tablets a).promised == u) _ _ (same_kept config w v a _ known refl refl refl) (quiet config w v a _ known tt refl))
call_holds config w v a u calls.Demote me known =
    in_term_holds config w v a u (demotes me u) known
    (chosen (VerdictHolds v a) ((w.tablets a).promised == u) _ _ (λ there. same_kept config w v a _ known refl refl refl)
    (λ other. chosen (VerdictHolds v a) (newest_row_names (w.tablets a).log me.alias) _ _ (λ own. quiet config w v a _ known tt refl)
    (λ no_own. same_kept config w v a _ known refl refl refl)))
call_holds config w v a u (calls.Promote p) me known =
    in_term_holds config w v a u (promotes me u p) known
    (chosen (VerdictHolds v a) (has_row (w.tablets a).log u) _ _ (λ there. same_kept config w v a _ known refl refl refl)
    (λ none. chosen (VerdictHolds v a) (covers (position_of (w.tablets a).log) p) _ _ (λ caught. record { stand = tt; noted = λ r. none_noted v a r })
    (λ short. same_kept config w v a _ known refl refl refl)))
call_holds config w v a u (calls.SetSource source t p) me known =
    in_term_holds config w v a u (joins source t p) known
    (chosen (VerdictHolds v a) (nat_lt t (w.tablets a).promised) _ _ (λ ahead. same_kept config w v a _ known refl refl refl)
    (λ fresh. chosen (VerdictHolds v a) (is_primary_of (w.tablets a).stand t || is_replica_in (w.tablets a).stand t) _ _
    (λ stays. same_kept config w v a _ known refl refl refl)
    (λ other. chosen (VerdictHolds v a) (covers p (position_of (w.tablets a).log)) _ _
    (λ inside. quiet config w v a _ known (λ n is. joined v (w.tablets a).log source n is) refl) (λ errant. same_kept config w v a _ known refl refl refl))))
call_holds config w v a u calls.Feed me known =
    in_term_holds config w v a u (feeds u) known
    (chosen (VerdictHolds v a) (is_feeder_in (w.tablets a).stand u) _ _ (λ feeder. same_kept config w v a _ known refl refl refl)
    (λ other. chosen (VerdictHolds v a) (is_stopped (w.tablets a).stand && ((w.tablets a).promised == u)) _ _ (λ stopped. quiet config w v a _ known tt refl)
    (λ keeps. same_kept config w v a _ known refl refl refl)))
call_holds config w v a u (calls.WaitFor p until) me known = in_term_holds config w v a u (waits_for_position p) known (same_kept config w v a _ known refl refl refl)
call_holds config w v a u (calls.WaitTold until) me known = in_term_holds config w v a u (waits_told w.group me u) known (same_kept config w v a _ known refl refl refl)

written_holds : (config : Config) (w v : World) (a : Alias) (o : Option ℕ) (me : Tablet) (client number : ℕ) → Known config w v
    → Holds v a (elim o as (λ _. Verdict Written) [ Some t ↦ writes_own me (kinds.Write t client number) (w.tablets a) | None ↦ only_says (w.tablets a) (written.NotPrimary (w.tablets a).stand) ]).state
written_holds config w v a None me client number known = same_kept config w v a _ known refl refl refl
written_holds config w v a (Some t) me client number known = kept config w v a _ known (one_more (w.tablets a).log _) refl refl

-- the replica waits for the next entry now
waits_next : (v : World) (log : List Entry) (at : Stand) (from : Alias) (term before index : ℕ) → at ≡ stands.Replica from term before
    → Follows log (v.tablets from).log index → StandSays v log (waits_for at (index + 1))
waits_next v log at from term before index is follows =
    subst (λ (x : Stand). StandSays v log (waits_for x (index + 1))) (sym is)
    (λ n next. let same : index ≡ n = omega (arith, next) in subst (λ (k : ℕ). Follows log (v.tablets from).log k) same follows)

fed_holds : (config : Config) (w v : World) (a from : Alias) (k term before index : ℕ) (x : Entry) (m : Message) → Known config w v → numbered w.post k ≡ Some m
    → m.content ≡ contents.Feeds from a term before index x → (accepts from term before index x (w.tablets a)).says ≡ accepteds.Taken
    → Holds v a (accepts from term before index x (w.tablets a)).state
fed_holds config w v a from k term before index x m known here carries says =
    chosen (λ y. Holds v a y.state) (takes_from (w.tablets a).stand from term before) _ _
    (λ takes.
    let stand = taken_stand (w.tablets a).stand from term before takes in
    let bridge : Bridges (w.tablets a).log (w.tablets from).log before index = subst (λ (c : Content). Says w c) carries (known.closed.post k m here) in
    let there : numbered (w.tablets from).log index ≡ Some x = (subst (λ (c : Content). Fits w c) carries (known.sound.post k m here)).0 in
    let follows = taken_follows config w a from term before index x known.is known.sound known.unique known.closed bridge there stand in
    record {
      stand = waits_next v (with_entry (w.tablets a).log x) (w.tablets a).stand from term before index stand
          (follows_stays _ _ _ _ index (whole (with_entry (w.tablets a).log x)) (known.later.logs from) follows);
      noted = λ r. noted_stays config w v a known r;
    })
    (λ ignored. same_kept config w v a _ known refl refl refl)

-- a note of the greater of two
greater_noted : (log source : List Entry) (m n : ℕ) → Follows log source m → Follows log source n → Follows log source (max m n)
greater_noted log source m n p q = of_test (nat_lt m n) refl
  where
    of_test : (b : Bool) → nat_lt m n ≡ b → Follows log source (max m n)
    of_test true e = let same : n ≡ max m n = grind (arith, nat_tests) in subst (λ (k : ℕ). Follows log source k) same q
    of_test false e = let same : m ≡ max m n = grind (arith, nat_tests) in subst (λ (k : ℕ). Follows log source k) same p

pub heard_one : (v : World) (a from r : Alias) (index : ℕ) (old : ℕ) (b : Bool) → alias_eq r from ≡ b → Follows (v.tablets from).log (v.tablets a).log index
    → Follows (v.tablets r).log (v.tablets a).log old → Follows (v.tablets r).log (v.tablets a).log (cond b (max index old) old)
heard_one v a from r index old true is new before =
    greater_noted (v.tablets r).log (v.tablets a).log index old
    (subst (λ (x : Alias). Follows (v.tablets x).log (v.tablets a).log index) (sym (alias_eq_is r from is)) new) before
heard_one v a from r index old false is new before = before

heard_holds : (config : Config) (w v : World) (a from : Alias) (k term index : ℕ) (m : Message) → Known config w v → numbered w.post k ≡ Some m
    → m.content ≡ contents.Acks from a term index → Holds v a (after_ack from term index (w.tablets a))
heard_holds config w v a from k term index m known here carries =
    let said : Follows (w.tablets from).log (w.tablets a).log index = subst (λ (c : Content). Says w c) carries (known.closed.post k m here) in
    let says : Follows (v.tablets from).log (v.tablets a).log index = follows_stays _ _ _ _ index (known.later.logs from) (known.later.logs a) said in
    either_holds v a (is_primary_of (w.tablets a).stand term) _ _
    (record {
      stand = stand_stays w v _ _ (w.tablets a).stand known.later (whole (w.tablets a).log) (known.closed.tablets a).stand;
      noted = λ r. heard_one v a from r index ((w.tablets a).acked r) (alias_eq r from) refl says (noted_stays config w v a known r);
    })
    (same_kept config w v a _ known refl refl refl)

touched_holds : (config : Config) (w v : World) (a : Alias) (e : Event) (t : TabletState) → Known config w v → Touched config w a e t → Holds v a t
touched_holds config w v a _ _ known Untouched = same_kept config w v a _ known refl refl refl
touched_holds config w v a _ _ known (Called k c u call me m here carries found) = call_holds config w v a u call me known
touched_holds config w v a _ _ known (Fed k term before index from x m here carries taken) = fed_holds config w v a from k term before index x m known here carries taken
touched_holds config w v a _ _ known (Heard k term index from m here carries) = heard_holds config w v a from k term index m known here carries
touched_holds config w v a _ _ known (WrittenBy c s me begun found) = written_holds config w v a (primary_term (w.tablets a).stand) me s.client s.number known
touched_holds config w v a _ _ known (WrittenLocal me found) =
    chosen (λ x. Holds v a x.state) (is_down (w.tablets a).stand) _ _ (λ down. same_kept config w v a _ known refl refl refl)
    (λ up. kept config w v a _ known (one_more (w.tablets a).log _) refl refl)
touched_holds config w v a _ _ known (Crashed keep) = quiet config w v a _ known tt refl
touched_holds config w v a _ _ known Restarted =
    chosen (λ x. Holds v a x.state) (is_down (w.tablets a).stand) _ _ (λ down. record { stand = tt; noted = λ r. none_noted v a r })
    (λ up. same_kept config w v a _ known refl refl refl)

-- ---- what is sent says the truth

number_within : (xs : List Entry) (n : ℕ) (x : Entry) → numbered xs n ≡ Some x → n ≤ length xs
number_within xs zero x h = omega arith
number_within xs (suc n) x h = let less = below_length xs n x h in omega (arith, less)

-- what is passed over, the replica holds
needed_between : (from : ℕ) (row : Option ℕ) (held es : List Entry) (x : Indexed) → needed_from from row held es ≡ Some x → (d : ℕ) (e : Entry)
    → from + d < x.index → slice_get es d ≡ Some e → holds held e.gtid ≡ true
needed_between from row held [] x h d e less at = absurd (let none : None ≡ Some x = h in cc)
needed_between from row held (y ∷ es) x h d e less at = of_test (holds held y.gtid) (has_come_to row from) d refl h less at (λ k c m. needed_between (from + 1) row held es x k c e m)
  where
    of_test : (b c : Bool) (d : ℕ) → holds held y.gtid ≡ b
        → cond (not b || c) (Some (let i : Indexed = record { index = from; entry = y } in i)) (needed_from (from + 1) row held es) ≡ Some x → from + d < x.index
        → slice_get (y ∷ es) d ≡ Some e
        → (needed_from (from + 1) row held es ≡ Some x → (c : ℕ) → from + 1 + c < x.index → slice_get es c ≡ Some e → holds held e.gtid ≡ true)
        → holds held e.gtid ≡ true
    of_test true false zero is h less at rest =
        let same : y ≡ e = (let some : Some y ≡ Some e = at in cc) in subst (λ (z : Entry). holds held z.gtid ≡ true) same is
    of_test true false (suc d) is h less at rest = rest h d (omega (arith, less)) at
    of_test true true d is h less at rest =
        let same : (let i : Indexed = record { index = from; entry = y } in i) ≡ x =
        (let some : Some (let i : Indexed = record { index = from; entry = y } in i) ≡ Some x = h in cc) in
        let place = ap (λ (i : Indexed). i.index) same in absurd (omega (arith, less, place))
    of_test false c d is h less at rest =
        let same : (let i : Indexed = record { index = from; entry = y } in i) ≡ x =
        (let some : Some (let i : Indexed = record { index = from; entry = y } in i) ≡ Some x = h in cc) in
        let place = ap (λ (i : Indexed). i.index) same in absurd (omega (arith, less, place))

at_place : (log : List Entry) (i j : ℕ) (e : Entry) → i ≡ j → slice_get log i ≡ Some e → slice_get log j ≡ Some e
at_place log i j e same at = subst (λ (k : ℕ). slice_get log k ≡ Some e) same at

as_entry : (log : List Entry) (f e : Entry) → f ≡ e → IsIn log f → IsIn log e
as_entry log f e same h = subst (λ (y : Entry). IsIn log y) same h

pub needed_bridges : (config : Config) (w : World) (s r : Alias) (n : ℕ) (x : Indexed) → IsConfig config → IsUniqueWorld config w → 1 ≤ n
    → needed (w.tablets s) (w.tablets r) n ≡ Some x → Bridges (w.tablets r).log (w.tablets s).log n x.index
needed_bridges config w s r n x is unique first h = record {
  within = number_within (w.tablets s).log x.index x.entry (needed_held (w.tablets s) (w.tablets r) n x first h);
  has = λ i e from less at.
      let place : n - 1 + (suc i - n) ≡ i = omega (arith, from, first) in
      let there : slice_get (w.tablets s).log (n - 1 + (suc i - n)) ≡ Some e = at_place (w.tablets s).log _ _ e (sym place) at in
      let held : holds (w.tablets r).log e.gtid ≡ true =
      needed_between n (sends_all_from (w.tablets s)) (w.tablets r).log (drop (n - 1) (w.tablets s).log) x h (suc i - n) e
      (omega (arith, from, first, less)) (drop_get (n - 1) (w.tablets s).log (suc i - n) e there) in
      let f = holds_found (w.tablets r).log e.gtid held in
      let same : f.0 ≡ e = one_entry config w is unique r s f.1.0 i f.0 e f.1.1 at f.2 in
      as_entry (w.tablets r).log f.0 e same f.1;
}

feed_says : (config : Config) (w : World) (s r : Alias) (t n : ℕ) (content : Content) (o : Option Indexed) → IsConfig config → IsUniqueWorld config w → 1 ≤ n
    → needed (w.tablets s) (w.tablets r) n ≡ o → (o >>= (λ x. Some (feed_of s r t n x))) ≡ Some content → Says w content
feed_says config w s r t n content None is unique first found h = absurd (let none : None ≡ Some content = h in cc)
feed_says config w s r t n content (Some x) is unique first found h =
    let same : feed_of s r t n x ≡ content = (let some : Some (feed_of s r t n x) ≡ Some content = h in cc) in
    subst (λ (c : Content). Says w c) same (needed_bridges config w s r n x is unique first found)

may_feed_says : (config : Config) (w : World) (s r : Alias) (t n : ℕ) (content : Content) (b : Bool) → IsConfig config → IsUniqueWorld config w → 1 ≤ n
    → (only_if b n >>= (λ m. needed (w.tablets s) (w.tablets r) m >>= (λ x. Some (feed_of s r t n x)))) ≡ Some content → Says w content
may_feed_says config w s r t n content false is unique first h = absurd (let none : None ≡ Some content = h in cc)
may_feed_says config w s r t n content true is unique first h =
    feed_says config w s r t n content (needed (w.tablets s) (w.tablets r) n) is unique first refl h

offered_says : (config : Config) (w : World) (r : Alias) (at : Stand) (content : Content) → IsConfig config → IsSoundWorld w → IsUniqueWorld config w
    → (w.tablets r).stand ≡ at → offered_by w r at ≡ Some content → Says w content
offered_says config w r stands.Down content is sound unique at h = absurd (let none : None ≡ Some content = h in cc)
offered_says config w r stands.Stopped content is sound unique at h = absurd (let none : None ≡ Some content = h in cc)
offered_says config w r (stands.Primary t) content is sound unique at h = absurd (let none : None ≡ Some content = h in cc)
offered_says config w r (stands.Demoted t by) content is sound unique at h = absurd (let none : None ≡ Some content = h in cc)
offered_says config w r (stands.Feeder t) content is sound unique at h = absurd (let none : None ≡ Some content = h in cc)
offered_says config w r (stands.Replica s t n) content is sound unique at h =
    let first : 1 ≤ n = subst (λ (x : Stand). WaitsForEntry x) at (sound.tablets r).waits in
    may_feed_says config w s r t n content (may_feed w s r t n) is unique first h

-- the state that a taken entry leaves
pub fed_state : (config : Config) (w : World) (k term before index : ℕ) (from to : Alias) (x : Entry) (m : Message) → numbered w.post k ≡ Some m
    → m.content ≡ contents.Feeds from to term before index x → (accepts from term before index x (w.tablets to)).says ≡ accepteds.Taken
    → (after config w (events.Deliver k)).tablets to ≡ (accepts from term before index x (w.tablets to)).state
fed_state config w k term before index from to x m here carries taken =
    ap (λ (o : Option Message). (after_delivery config w k o).tablets to) here
    ∙ ap (λ (c : Content). (after_arrival config (on_message w k (arrives w.clock)) k c).tablets to) carries
    ∙ ap (λ (y : Accepted). (fed (on_message w k (arrives w.clock)) from to term index (accepts from term before index x (w.tablets to)).state y).tablets to) taken
    ∙ ap (λ (b : Bool). cond b (accepts from term before index x (w.tablets to)).state (w.tablets to)) (alias_eq_itself to)

taken_log : (from : Alias) (term before index : ℕ) (x : Entry) (s : TabletState) → (accepts from term before index x s).says ≡ accepteds.Taken
    → (accepts from term before index x s).state.log ≡ with_entry s.log x
taken_log from term before index x s =
    chosen (λ v. v.says ≡ accepteds.Taken → v.state.log ≡ with_entry s.log x) (takes_from s.stand from term before) _ _
    (λ takes h. refl) (λ ignored h. absurd (let no_way : accepteds.Ignored ≡ accepteds.Taken = h in cc))

ack_says : (config : Config) (w : World) (k term before index : ℕ) (from to : Alias) (x : Entry) (m : Message) → Known config w (after config w (events.Deliver k))
    → numbered w.post k ≡ Some m → m.content ≡ contents.Feeds from to term before index x
    → (accepts from term before index x (w.tablets to)).says ≡ accepteds.Taken → Says (after config w (events.Deliver k)) (contents.Acks to from term index)
ack_says config w k term before index from to x m known here carries taken =
    let stand = taken_stand (w.tablets to).stand from term before (took from term before index x (w.tablets to) taken) in
    let bridge : Bridges (w.tablets to).log (w.tablets from).log before index = subst (λ (c : Content). Says w c) carries (known.closed.post k m here) in
    let there : numbered (w.tablets from).log index ≡ Some x = (subst (λ (c : Content). Fits w c) carries (known.sound.post k m here)).0 in
    let follows = taken_follows config w to from term before index x known.is known.sound known.unique known.closed bridge there stand in
    let log : ((after config w (events.Deliver k)).tablets to).log ≡ with_entry (w.tablets to).log x =
    ap (λ (s : TabletState). s.log) (fed_state config w k term before index from to x m here carries taken) ∙ taken_log from term before index x (w.tablets to) taken in
    subst (λ (l : List Entry). Follows l ((after config w (events.Deliver k)).tablets from).log index) (sym log)
    (follows_stays _ _ _ _ index (whole (with_entry (w.tablets to).log x)) (known.later.logs from) follows)

sent_says : (config : Config) (w : World) (e : Event) (content : Content) → Known config w (after config w e) → Sent config w e content → Says (after config w e) content
sent_says config w _ _ known (Asked c a call) = tt
sent_says config w _ _ known (Replied k c u a call me m here carries found) = tt
sent_says config w _ _ known (Acked k term before index from to x m here carries taken) = ack_says config w k term before index from to x m known here carries taken
sent_says config w _ _ known (Offered r content is) =
    says_stays w _ content known.later (offered_says config w r (w.tablets r).stand content known.is known.sound known.unique refl is)

post_says : (config : Config) (w : World) (e : Event) (k : ℕ) (m : Message) → Known config w (after config w e) → numbered (after config w e).post k ≡ Some m
    → Says (after config w e) m.content
post_says config w e k m known here = of_cases (post_cases config w e k m here)
  where
    of_cases : PostCases config w e k m → Says (after config w e) m.content
    of_cases (inl old) =
        subst (λ (c : Content). Says (after config w e) c) (sym old.2) (says_stays w (after config w e) old.0.content known.later (known.closed.post k old.0 old.1))
    of_cases (inr sent) = sent_says config w e m.content known sent

-- ---- the logs stay closed

-- a row that was there
old_closed : (config : Config) (w v : World) (a : Alias) (log : List Entry) (c : Alias) (n k term : ℕ) (row : Entry) → Known config w v → IsFront (w.tablets a).log log
    → slice_get (w.tablets a).log n ≡ Some row → row.kind ≡ kinds.Row term c → slice_get (v.tablets c).log k ≡ Some row → HasFirst (take n log) (v.tablets c).log k
old_closed config w v a log c n k term row known front at is here i e less there =
    let home = (known.sound.rows a n row term c at is).at_home in
    let same : home.0 ≡ k = known.unique_then.apart c home.0 k row row (get_front _ _ home.0 row (known.later.logs c) home.1) here refl in
    let low : i < home.0 = omega (arith, less, same) in
    let size = below_length (w.tablets c).log home.0 row home.1 in
    let was : slice_get (w.tablets c).log i ≡ Some e = get_back _ _ i e (known.later.logs c) (omega (arith, low, size)) there in
    let base : IsIn (take n (w.tablets a).log) e = known.closed.closed a c n home.0 term row at is home.1 i e low was in
    let inside = below_length (w.tablets a).log n row at in
    let fronts : take n log ≡ take n (w.tablets a).log =
    ap (λ (l : List Entry). take n l) front.split ∙ take_within (w.tablets a).log front.rest n (omega (arith, inside)) in
    subst (λ (l : List Entry). IsIn l e) (sym fronts) base

-- the row of a promotion
new_closed : (config : Config) (w v : World) (a : Alias) (log : List Entry) (c : Alias) (n k : ℕ) (row : Entry) → Known config w v → (v.tablets a).log ≡ log → a ≡ c
    → slice_get log n ≡ Some row → slice_get (v.tablets c).log k ≡ Some row → HasFirst (take n log) (v.tablets c).log k
new_closed config w v a log c n k row known is home at here i e less there =
    let same : k ≡ n = known.unique_then.apart a k n row row (subst (λ (b : Alias). slice_get (v.tablets b).log k ≡ Some row) (sym home) here)
    (subst (λ (l : List Entry). slice_get l n ≡ Some row) (sym is) at) refl in
    let own : slice_get log i ≡ Some e =
    subst (λ (l : List Entry). slice_get l i ≡ Some e) is (subst (λ (b : Alias). slice_get (v.tablets b).log i ≡ Some e) (sym home) there) in
    (i, take_get log n i e (omega (arith, less, same)) own)

-- a row that comes from a source
fed_closed : (config : Config) (w v : World) (a from c : Alias) (index j n k term before : ℕ) (source_term : ℕ) (x row : Entry) → Known config w v
    → Bridges (w.tablets a).log (w.tablets from).log before index → (w.tablets a).stand ≡ stands.Replica from source_term before
    → numbered (w.tablets from).log index ≡ Some x → x ≡ row → n ≡ length (w.tablets a).log → row.kind ≡ kinds.Row term c → slice_get (v.tablets c).log k ≡ Some row
    → HasFirst (take n ((w.tablets a).log ++ x ∷ [])) (v.tablets c).log k
fed_closed config w v a from c zero j n k term before source_term x row known bridge stand at same place is here i e less there = absurd (let none : None ≡ Some x = at in cc)
fed_closed config w v a from c (suc p) j n k term before source_term x row known bridge stand at same place is here i e less there =
    let at_source : slice_get (w.tablets from).log p ≡ Some row = subst (λ (y : Entry). slice_get (w.tablets from).log p ≡ Some y) same at in
    let home = (known.sound.rows from p row term c at_source is).at_home in
    let one : home.0 ≡ k = known.unique_then.apart c home.0 k row row (get_front _ _ home.0 row (known.later.logs c) home.1) here refl in
    let low : i < home.0 = omega (arith, less, one) in
    let size = below_length (w.tablets c).log home.0 row home.1 in
    let was : slice_get (w.tablets c).log i ≡ Some e = get_back _ _ i e (known.later.logs c) (omega (arith, low, size)) there in
    let base : IsIn (take p (w.tablets from).log) e = known.closed.closed from c p home.0 term row at_source is home.1 i e low was in
    let inside = take_place (w.tablets from).log p base.0 e base.1 in
    let held : IsIn (w.tablets a).log e = has_before w a from source_term before (suc p) p known.sound known.closed bridge refl stand base.0 e inside.0 inside.1 in
    let front : take n ((w.tablets a).log ++ x ∷ []) ≡ (w.tablets a).log =
    ap (λ (m : ℕ). take m ((w.tablets a).log ++ x ∷ [])) place ∙ take_within (w.tablets a).log (x ∷ []) (length (w.tablets a).log) (omega arith)
    ∙ take_whole (w.tablets a).log in
    subst (λ (l : List Entry). IsIn l e) (sym front) held

abbrev Cases : List Entry → Entry → Entry → ℕ → Type 0
Cases log x e n = (slice_get log n ≡ Some e) ⊎ ((n ≡ length log) × (x ≡ e))

pub change_closed : (config : Config) (w v : World) (a : Alias) (ev : Event) (log : List Entry) (c : Alias) (n k term : ℕ) (row : Entry) → Known config w v
    → (v.tablets a).log ≡ log → LogChange config w a ev log → slice_get log n ≡ Some row → row.kind ≡ kinds.Row term c → slice_get (v.tablets c).log k ≡ Some row
    → HasFirst (take n log) (v.tablets c).log k
change_closed config w v a _ _ c n k term row known is SameLog at kind here =
    old_closed config w v a (w.tablets a).log c n k term row known (whole (w.tablets a).log) at kind here
change_closed config w v a _ _ c n k term row known is (RowEnters j d u p me m there carries found none caught) at kind here =
    of_cases (slice_get-push_cases (w.tablets a).log _ row n at)
  where
    same_row : kinds.Row u me.alias ≡ kinds.Row term c → me.alias ≡ c
    same_row h = cc

    of_cases : Cases (w.tablets a).log (record { gtid = next_gtid me.server (w.tablets a).log; kind = kinds.Row u me.alias }) row n
        → HasFirst (take n (with_own me (kinds.Row u me.alias) (w.tablets a).log)) (v.tablets c).log k
    of_cases (inl old) = old_closed config w v a _ c n k term row known (one_more (w.tablets a).log _) old kind here
    of_cases (inr new) =
        let home : a ≡ c = sym (alias_found config a me found) ∙ same_row (ap (λ (y : Entry). y.kind) new.1 ∙ kind) in
        new_closed config w v a _ c n k row known is home at here
change_closed config w v a _ _ c n k term row known is (EntryComes j t before index from x m there carries takes fresh) at kind here =
    of_cases (slice_get-push_cases (w.tablets a).log x row n at)
  where
    of_cases : Cases (w.tablets a).log x row n → HasFirst (take n ((w.tablets a).log ++ x ∷ [])) (v.tablets c).log k
    of_cases (inl old) = old_closed config w v a _ c n k term row known (one_more (w.tablets a).log x) old kind here
    of_cases (inr new) =
        fed_closed config w v a from c index j n k term before t x row known (subst (λ (y : Content). Says w y) carries (known.closed.post j m there))
        (taken_stand (w.tablets a).stand from t before takes) (subst (λ (y : Content). Fits w y) carries (known.sound.post j m there)).0 new.1 new.0 kind here
change_closed config w v a _ _ c n k term row known is (OwnEntry me kd none found) at kind here =
    of_cases (slice_get-push_cases (w.tablets a).log _ row n at)
  where
    of_cases : Cases (w.tablets a).log (record { gtid = next_gtid me.server (w.tablets a).log; kind = kd }) row n
        → HasFirst (take n (with_own me kd (w.tablets a).log)) (v.tablets c).log k
    of_cases (inl old) = old_closed config w v a _ c n k term row known (one_more (w.tablets a).log _) old kind here
    of_cases (inr new) = absurd (no_row kd term c none (ap (λ (y : Entry). y.kind) new.1 ∙ kind))

-- ---- the world stays closed

pub closed_after : (config : Config) (w : World) (e : Event) → IsConfig config → IsSoundWorld w → IsUniqueWorld config w → IsClosedWorld w
    → IsClosedWorld (after config w e)
closed_after config w e is sound unique closed = record {
  post = λ k m here. post_says config w e k m known here;
  tablets = λ a. touched_holds config w (after config w e) a e _ known (touched config w e a);
  closed = λ a c n k term row at kind here.
      change_closed config w (after config w e) a e _ c n k term row known refl (log_changes config w a e _ (touched config w e a)) at kind here;
}
  where
    known : Known config w (after config w e)
    known = record {
      is = is;
      sound = sound;
      unique = unique;
      closed = closed;
      later = is_later config w e sound;
      unique_then = unique_after config w e sound unique;
    }

pub closed_opening : (config : Config) → IsClosedWorld (opening config)
closed_opening config = record {
  post = λ k m here. absurd (nothing_sent k m here);
  tablets = λ a. record { stand = tt; noted = λ r. nothing_first [] [] };
  closed = λ a c n k term row at kind here. absurd (let none : None ≡ Some row = at in cc);
}
  where
    nothing_sent : (n : ℕ) (m : Message) → numbered [] n ≡ Some m → ⊥
    nothing_sent zero m here = let none : None ≡ Some m = here in cc
    nothing_sent (suc n) m here = let none : None ≡ Some m = here in cc

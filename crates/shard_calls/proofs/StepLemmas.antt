-- What a step keeps of a world in which all is sound.
use Rattle.std.proofs.Common.{◌≡◌, ◌⊎◌, inl, inr, ℕ, zero, suc, ◌+◌, ◌-◌, ◌≤◌, max, Bool, true, false, not, ◌&&◌, ◌||◌, refl, ap, sym, subst, ◌∙◌, arith, List, [], ◌∷◌, ◌++◌, cond, drop, Option, Some, None, length, unwrap_or, map}
use Rattle.std.proofs.lemmas.Bool.{false≢true}
use Rattle.std.proofs.lemmas.Bool.Decides.{nat_tests}
use Rattle.std.specs.List.{slice_get}
use Rattle.shard_base.specs.Options.{◌>>=◌, only_if}
use Rattle.shard_names.specs.declared.alias.Alias.{Alias}
use Rattle.shard_names.specs.declared.tablet.Tablet.{Tablet}
use Rattle.shard_names.specs.Tablets.{alias_eq, tablet_of, is_declared}
use Rattle.shard_names.proofs.TabletLemmas.{both_left, both_right, alias_eq_is}
use Rattle.gtid_sets.specs.declared.entry.Entry.{Entry}
use Rattle.gtid_sets.specs.declared.entry.Kind.{Kind}
use Rattle.gtid_sets.specs.declared.entry.Kind.TheVariants as kinds
use Rattle.gtid_sets.specs.Position.{Position, greatest}
use Rattle.durability.specs.Policies.{rules_of}
use Rattle.topo_lock.specs.Topology.{Topology}
use Rattle.topo_lock.specs.Moves.{Goes}
use Rattle.shard_calls.specs.declared.call.Call.{Call}
use Rattle.shard_calls.specs.declared.call.Call.TheVariants as calls
use Rattle.shard_calls.specs.declared.event.Event.{Event}
use Rattle.shard_calls.specs.declared.post.Content.{Content}
use Rattle.shard_calls.specs.declared.post.Content.TheVariants as contents
use Rattle.shard_calls.specs.declared.post.Message.{Message}
use Rattle.shard_calls.specs.declared.stand.Stand.{Stand}
use Rattle.shard_calls.specs.declared.stand.Stand.TheVariants as stands
use Rattle.shard_calls.specs.declared.state.CommandState.{CommandState}
use Rattle.gtid_sets.specs.Logs.{row_term, row_or_zero, newest_row, holds, with_own, next_gtid}
use Rattle.shard_calls.specs.Tablets.{TabletState}
use Rattle.shard_calls.specs.Moves.{TabletMove, Stays}
use Rattle.shard_calls.specs.Laws.{IsSound, IsPromised, RowsWithin, WaitsForEntry}
use Rattle.shard_calls.specs.World.{Config, World, numbered, open_command, term_in}
use Rattle.shard_calls.specs.Messages.{feeds_term, Indexed, needed_from, sends_all_from, needed, may_feed, is_cut, is_under_way, link_between, feed_of, offered_by, has_come_to}
use Rattle.shard_calls.specs.Evidence.{intends}
use Rattle.shard_calls.specs.Grounds.{calls_of, has_any_ground, may_lead}
use Rattle.shard_calls.specs.Locks.{by_term}
use Rattle.shard_calls.specs.Deliveries.{may_send, may_ask_in, asks_status}
use Rattle.shard_calls.specs.Table.{Met, after}
use Rattle.shard_calls.proofs.ListLemmas.{slice_get-push_cases}
use Rattle.shard_calls.proofs.LawLemmas.{are_moves}
use Rattle.shard_calls.proofs.MoveLemmas.{log_only_grows, keeps_sound}
use Rattle.shard_calls.proofs.TouchLemmas.{Touched, Untouched, Called, Fed, Heard, WrittenBy, WrittenLocal, Crashed, Restarted, touched, topo_moves}
use Rattle.shard_calls.proofs.PostLemmas.{Sent, Asked, Replied, Acked, Offered, PostCases, post_cases}
use Rattle.shard_calls.proofs.LogChangeLemmas.{LogChange, SameLog, RowEnters, EntryComes, OwnEntry, log_changes, no_row}
use Rattle.shard_calls.proofs.WorldLemmas.{IsIntended, Held, AskFits, Fits, RowFits, IsSoundWorld, IsLater, fits_stays, row_stays, ask_term, intended_by, intended_stays}

-- ---- each tablet moves

-- what a message of the post carries fits
carried : (w : World) (k : ℕ) (m : Message) (content : Content) → IsSoundWorld w → numbered w.post k ≡ Some m → m.content ≡ content → Fits w content
carried w k m content sound here carries = subst (λ (c : Content). Fits w c) carries (sound.post k m here)

pub touched_moves : (config : Config) (w : World) (a : Alias) (e : Event) (t : TabletState) → IsSoundWorld w → Touched config w a e t → TabletMove (w.tablets a) t
touched_moves config w a _ _ sound Untouched = Stays
touched_moves config w a _ _ sound (Called k c u call me m here carries found) =
    are_moves.a_call w.group me u call (w.tablets a) (ask_term w.topo u a call (carried w k m (contents.Asks c u a call) sound here carries)) (sound.tablets a).seen
touched_moves config w a _ _ sound (Fed k term before index from x m here carries taken) =
    are_moves.an_entry from term before index x (w.tablets a) (carried w k m (contents.Feeds from a term before index x) sound here carries).1
touched_moves config w a _ _ sound (Heard k term index from m here carries) = are_moves.an_ack from term index (w.tablets a)
touched_moves config w a _ _ sound (WrittenBy c s me begun found) = are_moves.a_write me s.client s.number (w.tablets a)
touched_moves config w a _ _ sound (WrittenLocal me found) = are_moves.a_local_write me (w.tablets a)
touched_moves config w a _ _ sound (Crashed keep) = are_moves.a_crash (w.tablets a)
touched_moves config w a _ _ sound Restarted = are_moves.a_restart (w.tablets a)

pub tablet_moves : (config : Config) (w : World) (e : Event) (a : Alias) → IsSoundWorld w → TabletMove (w.tablets a) ((after config w e).tablets a)
tablet_moves config w e a sound = touched_moves config w a e _ sound (touched config w e a)

pub is_later : (config : Config) (w : World) (e : Event) → IsSoundWorld w → IsLater w (after config w e)
is_later config w e sound = record {
  topo = topo_moves config w e;
  logs = λ a. log_only_grows _ _ (tablet_moves config w e a sound);
}

-- ---- what is sent fits

asked_in : (config : Config) (w : World) (c : ℕ) (a : Alias) (call : Call) (u : ℕ) → IsSoundWorld w → may_ask_in config w c a call u ≡ true → AskFits w.topo u a call
asked_in config w c a calls.Status u sound met = tt
asked_in config w c a calls.Stop u sound met = tt
asked_in config w c a calls.Demote u sound met = tt
asked_in config w c a (calls.Promote p) u sound met =
    let leads : Bool = may_lead (rules_of config.policy) (tablet_of config.tablets a) in
    let ground : Bool = has_any_ground (rules_of config.policy) config.tablets w.topo (calls_of w c) u p in
    intended_by w.topo u a (both_right leads (intends w.topo u a) (both_left (leads && intends w.topo u a) ground met))
asked_in config w c a (calls.SetSource source t p) u sound met = grind (arith, nat_tests)
asked_in config w c a calls.Feed u sound met = tt
asked_in config w c a (calls.WaitFor p until) u sound met = tt
asked_in config w c a (calls.WaitTold until) u sound met = tt

no_term : (topo : Topology) (a : Alias) (call : Call) → asks_status call ≡ true → AskFits topo 0 a call
no_term topo a calls.Status is = tt
no_term topo a calls.Stop is = absurd (false≢true is)
no_term topo a calls.Demote is = absurd (false≢true is)
no_term topo a (calls.Promote p) is = absurd (false≢true is)
no_term topo a (calls.SetSource source t p) is = absurd (false≢true is)
no_term topo a calls.Feed is = absurd (false≢true is)
no_term topo a (calls.WaitFor p until) is = absurd (false≢true is)
no_term topo a (calls.WaitTold until) is = absurd (false≢true is)

asked_term : (config : Config) (w : World) (c : ℕ) (a : Alias) (call : Call) (t : Option ℕ) → IsSoundWorld w
    → by_term t (asks_status call) (may_ask_in config w c a call) ≡ true → AskFits w.topo (unwrap_or t 0) a call
asked_term config w c a call None sound met = no_term w.topo a call met
asked_term config w c a call (Some u) sound met = asked_in config w c a call u sound met

asked_fits : (config : Config) (w : World) (c : ℕ) (a : Alias) (call : Call) (o : Option CommandState) → IsSoundWorld w → may_send config w c a call o ≡ true
    → AskFits w.topo (unwrap_or (term_in o) 0) a call
asked_fits config w c a call None sound met = absurd (false≢true met)
asked_fits config w c a call (Some s) sound met = asked_term config w c a call s.term sound met

get_drop : {A : Type 0} (n : ℕ) (xs : List A) (d : ℕ) (x : A) → slice_get (drop n xs) d ≡ Some x → slice_get xs (n + d) ≡ Some x
get_drop {A} zero xs d x h = let place : 0 + d ≡ d = omega arith in subst (λ (k : ℕ). slice_get xs k ≡ Some x) (sym place) h
get_drop (suc n) [] d x h = absurd (let none : None ≡ Some x = h in cc)
get_drop {A} (suc n) (y ∷ xs) d x h =
    let place : suc n + d ≡ suc (n + d) = omega arith in subst (λ (k : ℕ). slice_get (y ∷ xs) k ≡ Some x) (sym place) (get_drop n xs d x h)

-- what a replica needs stands behind so many entries
needed_is : (from : ℕ) (row : Option ℕ) (held es : List Entry) (x : Indexed) → needed_from from row held es ≡ Some x
    → (d : ℕ) × (x.index ≡ from + d) × (slice_get es d ≡ Some x.entry)
needed_is from row held [] x h = absurd (let none : None ≡ Some x = h in cc)
needed_is from row held (e ∷ es) x h = of_test (not (holds held e.gtid) || has_come_to row from) h (λ k. needed_is (from + 1) row held es x k)
  where
    of_test : (b : Bool) → cond b (Some (let y : Indexed = record { index = from; entry = e } in y)) (needed_from (from + 1) row held es) ≡ Some x
        → (needed_from (from + 1) row held es ≡ Some x → (d : ℕ) × (x.index ≡ from + 1 + d) × (slice_get es d ≡ Some x.entry))
        → (d : ℕ) × (x.index ≡ from + d) × (slice_get (e ∷ es) d ≡ Some x.entry)
    of_test true k rest =
        let same : (let y : Indexed = record { index = from; entry = e } in y) ≡ x = (let some : Some (let y : Indexed = record { index = from; entry = e } in y) ≡ Some x = k in cc) in
        (0, (let i = ap (λ (y : Indexed). y.index) same in omega (arith, i)), ap (λ (y : Indexed). Some y.entry) same)
    of_test false k rest = let r = rest k in (suc r.0, (let i = r.1 in omega (arith, i)), r.2)

pub needed_held : (source replica : TabletState) (n : ℕ) (x : Indexed) → 1 ≤ n → needed source replica n ≡ Some x → numbered source.log x.index ≡ Some x.entry
needed_held source replica n x first h =
    let r = needed_is n (sends_all_from source) replica.log (drop (n - 1) source.log) x h in
    let index = r.1 in
    let place : x.index ≡ suc (n - 1 + r.0) = omega (arith, index) in
    subst (λ (k : ℕ). numbered source.log k ≡ Some x.entry) (sym place) (get_drop (n - 1) source.log r.0 x.entry r.2)

-- no entry has more than the greatest
pub below_greatest : (f : Entry → ℕ) (log : List Entry) (n : ℕ) (e : Entry) → slice_get log n ≡ Some e → f e ≤ greatest (map f log)
below_greatest f [] n e h = absurd (let none : None ≡ Some e = h in cc)
below_greatest f (x ∷ log) zero e h =
    let same : x ≡ e = (let some : Some x ≡ Some e = h in cc) in
    subst (λ (y : Entry). f y ≤ max (f x) (greatest (map f log))) same (grind arith)
below_greatest f (x ∷ log) (suc n) e h = let below = below_greatest f log n e h in grind (arith, below)

-- no entry of a log is a later row than its newest
pub row_numbered : (log : List Entry) (i : ℕ) (e : Entry) → numbered log i ≡ Some e → row_or_zero e ≤ newest_row log
row_numbered log zero e h = absurd (let none : None ≡ Some e = h in cc)
row_numbered log (suc n) e h = below_greatest row_or_zero log n e h

-- what feeds the replicas of a term has no row of a later one
pub feeds_within : (s : TabletState) (at : Stand) (t : ℕ) → s.stand ≡ at → feeds_term at t ≡ true → IsSound s → newest_row s.log ≤ t
feeds_within s stands.Down t is feeds sound = absurd (false≢true feeds)
feeds_within s stands.Stopped t is feeds sound = absurd (false≢true feeds)
feeds_within s (stands.Primary u) t is feeds sound =
    let promised : u ≡ s.promised = subst (λ (x : Stand). IsPromised s.promised x) is sound.stands in
    let same : u ≡ t = grind (arith, nat_tests) in omega (arith, promised, same, sound.rows)
feeds_within s (stands.Demoted u by) t is feeds sound =
    let within : newest_row s.log ≤ u = subst (λ (x : Stand). RowsWithin s.log x) is sound.demoted in
    let same : u ≡ t = grind (arith, nat_tests) in omega (arith, within, same)
feeds_within s (stands.Replica source u next) t is feeds sound = absurd (false≢true feeds)
feeds_within s (stands.Feeder u) t is feeds sound =
    let promised : u ≡ s.promised = subst (λ (x : Stand). IsPromised s.promised x) is sound.stands in
    let same : u ≡ t = grind (arith, nat_tests) in omega (arith, promised, same, sound.rows)

fed_fits : (w : World) (s r : Alias) (t n : ℕ) (content : Content) (o : Option Indexed) → IsSoundWorld w → 1 ≤ n → feeds_term (w.tablets s).stand t ≡ true
    → needed (w.tablets s) (w.tablets r) n ≡ o → (o >>= (λ x. Some (feed_of s r t n x))) ≡ Some content → Fits w content
fed_fits w s r t n content None sound first feeds is h = absurd (let none : None ≡ Some content = h in cc)
fed_fits w s r t n content (Some x) sound first feeds is h =
    let same : feed_of s r t n x ≡ content = (let some : Some (feed_of s r t n x) ≡ Some content = h in cc) in
    let there : numbered (w.tablets s).log x.index ≡ Some x.entry = needed_held (w.tablets s) (w.tablets r) n x first is in
    let below = row_numbered (w.tablets s).log x.index x.entry there in
    let within = feeds_within (w.tablets s) (w.tablets s).stand t refl feeds (sound.tablets s) in
    subst (λ (c : Content). Fits w c) same (there, omega (arith, below, within))

may_feed_fits : (w : World) (s r : Alias) (t n : ℕ) (content : Content) (b : Bool) → IsSoundWorld w → 1 ≤ n → may_feed w s r t n ≡ b
    → (only_if b n >>= (λ m. needed (w.tablets s) (w.tablets r) m >>= (λ x. Some (feed_of s r t n x)))) ≡ Some content → Fits w content
may_feed_fits w s r t n content false sound first may h = absurd (let none : None ≡ Some content = h in cc)
may_feed_fits w s r t n content true sound first may h =
    let feeds = both_left (feeds_term (w.tablets s).stand t) (not (is_cut w.cuts (link_between s r)))
    (both_left (feeds_term (w.tablets s).stand t && not (is_cut w.cuts (link_between s r))) (not (is_under_way w r n)) may) in
    fed_fits w s r t n content (needed (w.tablets s) (w.tablets r) n) sound first feeds refl h

offered_fits : (w : World) (r : Alias) (at : Stand) (content : Content) → IsSoundWorld w → (w.tablets r).stand ≡ at → offered_by w r at ≡ Some content → Fits w content
offered_fits w r stands.Down content sound is h = absurd (let none : None ≡ Some content = h in cc)
offered_fits w r stands.Stopped content sound is h = absurd (let none : None ≡ Some content = h in cc)
offered_fits w r (stands.Primary t) content sound is h = absurd (let none : None ≡ Some content = h in cc)
offered_fits w r (stands.Demoted t by) content sound is h = absurd (let none : None ≡ Some content = h in cc)
offered_fits w r (stands.Feeder t) content sound is h = absurd (let none : None ≡ Some content = h in cc)
offered_fits w r (stands.Replica s t n) content sound is h =
    let first : 1 ≤ n = subst (λ (x : Stand). WaitsForEntry x) is (sound.tablets r).waits in
    may_feed_fits w s r t n content (may_feed w s r t n) sound first refl h

sent_fits : (config : Config) (w : World) (e : Event) (content : Content) → Met config w e → IsSoundWorld w → Sent config w e content → Fits w content
sent_fits config w _ _ met sound (Asked c a call) =
    asked_fits config w c a call (open_command w c) sound (both_right (is_declared config.tablets a) (may_send config w c a call (open_command w c)) met)
sent_fits config w _ _ met sound (Replied k c u a call me m here carries found) = tt
sent_fits config w _ _ met sound (Acked k term before index from to x m here carries taken) = tt
sent_fits config w _ _ met sound (Offered r content is) = offered_fits w r (w.tablets r).stand content sound refl is

pub post_fits : (config : Config) (w : World) (e : Event) (n : ℕ) (m : Message) → Met config w e → IsSoundWorld w → numbered (after config w e).post n ≡ Some m
    → Fits (after config w e) m.content
post_fits config w e n m met sound here = fits_stays w (after config w e) m.content (is_later config w e sound) (of_cases (post_cases config w e n m here))
  where
    of_cases : PostCases config w e n m → Fits w m.content
    of_cases (inl old) = subst (λ (c : Content). Fits w c) (sym old.2) (sound.post n old.0 old.1)
    of_cases (inr sent) = sent_fits config w e m.content met sound sent

-- ---- each row is at home

first_alias : (a : Alias) (me t : Tablet) (ts : List Tablet) (b : Bool) → alias_eq t.alias a ≡ b → cond b (Some t) (tablet_of ts a) ≡ Some me
    → (tablet_of ts a ≡ Some me → alias_eq me.alias a ≡ true) → alias_eq me.alias a ≡ true
first_alias a me t ts true e k rest = let same : t ≡ me = (let some : Some t ≡ Some me = k in cc) in subst (λ (x : Tablet). alias_eq x.alias a ≡ true) same e
first_alias a me t ts false e k rest = rest k

find_alias : (a : Alias) (me : Tablet) (ts : List Tablet) → tablet_of ts a ≡ Some me → alias_eq me.alias a ≡ true
find_alias a me [] h = absurd (let none : None ≡ Some me = h in cc)
find_alias a me (t ∷ ts) h = first_alias a me t ts (alias_eq t.alias a) refl h (λ k. find_alias a me ts k)

-- the tablet of an alias has this alias
pub alias_found : (config : Config) (a : Alias) (me : Tablet) → tablet_of config.tablets a ≡ Some me → me.alias ≡ a
alias_found config a me found = alias_eq_is me.alias a (find_alias a me config.tablets found)

abbrev pub RowIn : World → Alias → List Entry → Entry → ℕ → Alias → Type 0
RowIn w a log e u c = IsIntended w.topo u c × ((Held (w.tablets c).log e) ⊎ ((c ≡ a) × Held log e))

row_was : (w : World) (a : Alias) (log : List Entry) (n : ℕ) (e : Entry) (u : ℕ) (c : Alias) → IsSoundWorld w → slice_get (w.tablets a).log n ≡ Some e
    → e.kind ≡ kinds.Row u c → RowIn w a log e u c
row_was w a log n e u c sound here is = let fits = sound.rows a n e u c here is in (fits.intended, inl fits.at_home)

row_new : (config : Config) (w : World) (a : Alias) (k d v : ℕ) (p : Position) (me : Tablet) (m : Message) (n : ℕ) (e : Entry) (u : ℕ) (c : Alias) → IsSoundWorld w
    → numbered w.post k ≡ Some m → m.content ≡ contents.Asks d v a (calls.Promote p) → tablet_of config.tablets a ≡ Some me
    → slice_get (with_own me (kinds.Row v me.alias) (w.tablets a).log) n ≡ Some e → e.kind ≡ kinds.Row u c
    → RowIn w a (with_own me (kinds.Row v me.alias) (w.tablets a).log) e u c
row_new config w a k d v p me m n e u c sound here carries found at is =
    of_cases (slice_get-push_cases (w.tablets a).log (record { gtid = next_gtid me.server (w.tablets a).log; kind = kinds.Row v me.alias }) e n at)
  where
    same_row : kinds.Row v me.alias ≡ kinds.Row u c → (v ≡ u) × (me.alias ≡ c)
    same_row h = (cc, cc)

    of_cases : (slice_get (w.tablets a).log n ≡ Some e)
        ⊎ ((n ≡ length (w.tablets a).log) × ((let x : Entry = record { gtid = next_gtid me.server (w.tablets a).log; kind = kinds.Row v me.alias } in x) ≡ e))
        → RowIn w a (with_own me (kinds.Row v me.alias) (w.tablets a).log) e u c
    of_cases (inl old) = row_was w a _ n e u c sound old is
    of_cases (inr new) =
        let both = same_row (ap (λ (x : Entry). x.kind) new.1 ∙ is) in
        let home : a ≡ c = sym (alias_found config a me found) ∙ both.1 in
        let fits : IsIntended w.topo v a = carried w k m (contents.Asks d v a (calls.Promote p)) sound here carries in
        (subst (λ (b : Alias). IsIntended w.topo u b) home (subst (λ (t : ℕ). IsIntended w.topo t a) both.0 fits), inr (sym home, (n, at)))

row_fed : (w : World) (a from : Alias) (k term before index : ℕ) (x : Entry) (m : Message) (n : ℕ) (e : Entry) (u : ℕ) (c : Alias) → IsSoundWorld w
    → numbered w.post k ≡ Some m → m.content ≡ contents.Feeds from a term before index x → slice_get ((w.tablets a).log ++ x ∷ []) n ≡ Some e
    → e.kind ≡ kinds.Row u c → RowIn w a ((w.tablets a).log ++ x ∷ []) e u c
row_fed w a from k term before index x m n e u c sound here carries at is = of_cases (slice_get-push_cases (w.tablets a).log x e n at)
  where
    at_source : (i : ℕ) → numbered (w.tablets from).log i ≡ Some x → x ≡ e → RowIn w a ((w.tablets a).log ++ x ∷ []) e u c
    at_source zero h same = absurd (let none : None ≡ Some x = h in cc)
    at_source (suc i) h same =
        let fits = sound.rows from i e u c (subst (λ (y : Entry). slice_get (w.tablets from).log i ≡ Some y) same h) is in (fits.intended, inl fits.at_home)

    of_cases : (slice_get (w.tablets a).log n ≡ Some e) ⊎ ((n ≡ length (w.tablets a).log) × (x ≡ e)) → RowIn w a ((w.tablets a).log ++ x ∷ []) e u c
    of_cases (inl old) = row_was w a _ n e u c sound old is
    of_cases (inr new) = at_source index (carried w k m (contents.Feeds from a term before index x) sound here carries).0 new.1

row_own : (w : World) (a : Alias) (me : Tablet) (k : Kind) (n : ℕ) (e : Entry) (u : ℕ) (c : Alias) → IsSoundWorld w → row_term k ≡ None
    → slice_get (with_own me k (w.tablets a).log) n ≡ Some e → e.kind ≡ kinds.Row u c → RowIn w a (with_own me k (w.tablets a).log) e u c
row_own w a me k n e u c sound none at is =
    of_cases (slice_get-push_cases (w.tablets a).log (record { gtid = next_gtid me.server (w.tablets a).log; kind = k }) e n at)
  where
    of_cases : (slice_get (w.tablets a).log n ≡ Some e)
        ⊎ ((n ≡ length (w.tablets a).log) × ((let x : Entry = record { gtid = next_gtid me.server (w.tablets a).log; kind = k } in x) ≡ e))
        → RowIn w a (with_own me k (w.tablets a).log) e u c
    of_cases (inl old) = row_was w a _ n e u c sound old is
    of_cases (inr new) = absurd (no_row k u c none (ap (λ (x : Entry). x.kind) new.1 ∙ is))

pub row_in : (config : Config) (w : World) (a : Alias) (ev : Event) (log : List Entry) (n : ℕ) (e : Entry) (u : ℕ) (c : Alias) → IsSoundWorld w
    → LogChange config w a ev log → slice_get log n ≡ Some e → e.kind ≡ kinds.Row u c → RowIn w a log e u c
row_in config w a _ _ n e u c sound SameLog at is = row_was w a _ n e u c sound at is
row_in config w a _ _ n e u c sound (RowEnters k d v p me m here carries found none caught) at is =
    row_new config w a k d v p me m n e u c sound here carries found at is
row_in config w a _ _ n e u c sound (EntryComes k term before index from x m here carries takes new) at is =
    row_fed w a from k term before index x m n e u c sound here carries at is
row_in config w a _ _ n e u c sound (OwnEntry me k none found) at is = row_own w a me k n e u c sound none at is

pub rows_fit : (config : Config) (w : World) (ev : Event) (a : Alias) (n : ℕ) (e : Entry) (u : ℕ) (c : Alias) → IsSoundWorld w
    → slice_get ((after config w ev).tablets a).log n ≡ Some e → e.kind ≡ kinds.Row u c → RowFits (after config w ev) u c e
rows_fit config w ev a n e u c sound at is =
    of_cases (row_in config w a ev ((after config w ev).tablets a).log n e u c sound (log_changes config w a ev _ (touched config w ev a)) at is)
  where
    later : IsLater w (after config w ev)
    later = is_later config w ev sound

    home : (Held (w.tablets c).log e) ⊎ ((c ≡ a) × Held ((after config w ev).tablets a).log e) → IsIntended w.topo u c → RowFits (after config w ev) u c e
    home (inl held) intended = row_stays w (after config w ev) u c e later (record { intended = intended; at_home = held })
    home (inr held) intended = record {
      intended = intended_stays w.topo (after config w ev).topo u c later.topo intended;
      at_home = subst (λ (b : Alias). Held ((after config w ev).tablets b).log e) (sym held.0) held.1;
    }

    of_cases : RowIn w a ((after config w ev).tablets a).log e u c → RowFits (after config w ev) u c e
    of_cases h = home h.1 h.0

-- ---- the world stays sound

pub sound_after : (config : Config) (w : World) (e : Event) → Met config w e → IsSoundWorld w → IsSoundWorld (after config w e)
sound_after config w e met sound = record {
  tablets = λ a. keeps_sound _ _ (tablet_moves config w e a sound) (sound.tablets a);
  topo = Goes sound.topo (topo_moves config w e);
  post = λ n m here. post_fits config w e n m met sound here;
  rows = λ a n x u c at is. rows_fit config w e a n x u c sound at is;
}

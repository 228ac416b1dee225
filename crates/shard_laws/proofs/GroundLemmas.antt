-- The story of a trace, and its facts on rows and grounds: why a promoted tablet has all that can be told in an earlier term.
use Rattle.std.proofs.Common.{get_or, ◌≡◌, inl, inr, ℕ, zero, suc, ◌≤◌, ◌<◌, Bool, true, false, not, ◌||◌, ◌==◌, nat_lt, refl, ap, sym, subst, ◌∙◌, arith, List, [], ◌∷◌, ◌++◌, take, Option, Some, None, is_some, length, length-append}
use Rattle.std.proofs.lemmas.Bool.{false≢true}
use Rattle.std.proofs.lemmas.Bool.Decides.{nat_tests}
use Rattle.std.specs.List.{slice_get, filter, list_any, Contains}
use Rattle.shard_base.specs.Lists.{IsFront}
use Rattle.shard_names.specs.declared.alias.Alias.{Alias}
use Rattle.shard_names.specs.declared.tablet.Tablet.{Tablet}
use Rattle.durability.specs.Rules.{Rules, is_eligible}
use Rattle.durability.specs.Sets.{TabletSet, Revokes}
use Rattle.durability.specs.Counting.{is_revoked}
use Rattle.durability.proofs.CountingLemmas.{counting_revokes}
use Rattle.std.proofs.lemmas.List.Elements.{Contains-get_or}
use Rattle.gtid_sets.specs.declared.entry.Entry.{Entry}
use Rattle.gtid_sets.specs.declared.entry.Kind.{Kind}
use Rattle.gtid_sets.specs.declared.entry.Kind.TheVariants as kinds
use Rattle.gtid_sets.specs.Position.{Position, covers, has}
use Rattle.gtid_sets.proofs.PositionLemmas.{covers-has}
use Rattle.topo_lock.specs.Topology.{Topology}
use Rattle.topo_lock.specs.declared.intent.Intent.{Intent}
use Rattle.topo_lock.specs.Laws.{TermsRise}
use Rattle.topo_lock.proofs.MoveLemmas.{intents_are_in_order, intent_of_term_stays_over_steps, past_terms_are_settled_over_steps}
use Rattle.shard_calls.specs.declared.call.Call.{Call}
use Rattle.shard_calls.specs.declared.call.Call.TheVariants as calls
use Rattle.shard_calls.specs.declared.post.Content.{Content}
use Rattle.shard_calls.specs.declared.post.Content.TheVariants as contents
use Rattle.gtid_sets.specs.Logs.{position_of, holds, has_row, is_row_of, row_term, newest_row}
use Rattle.shard_calls.specs.Tablets.{TabletState}
use Rattle.shard_calls.specs.RunLaws.{IsIn}
use Rattle.shard_calls.specs.World.{Config, World, numbered}
use Rattle.shard_calls.specs.Evidence.{is_first}
use Rattle.shard_calls.specs.Grounds.{last_before, has_stopped, stopped_at, stopped_among, revokes_all}
use Rattle.shard_calls.specs.Outcomes.{sendings}
use Rattle.shard_calls.specs.declared.state.Act.{Act}
use Rattle.gtid_sets.specs.declared.held.Held.{Held}
use Rattle.gtid_sets.specs.Winner.{newest_of, leading, covers_all, winner}
use Rattle.shard_laws.specs.Traces.{IsToldIn}
use Rattle.shard_laws.specs.TightMoves.{TightMove, Stays, Sees, Stops, Demotes, Joins, Serves, Enters, Takes, Skips, Writes, WritesLocal, Hears, Promises, GoesDown, ComesUp, TabletStep, Plainly, Returning, CallFits, Sends, Asks, Answers, Acks, Feeds}
use Rattle.shard_calls.proofs.LogLemmas.{has-position}
use Rattle.shard_calls.proofs.LogChangeLemmas.{last_is}
use Rattle.shard_calls.proofs.WorldLemmas.{IsIntended, IsSoundWorld, Fits, get_front, intended_by}
use Rattle.shard_calls.proofs.EntryLemmas.{IsUniqueWorld, one_entry, held_gtid, holds_found}
use Rattle.shard_calls.proofs.ClosureLemmas.{in_front, below_length}
use Rattle.shard_laws.proofs.AmongLemmas.{Among, contains_among, among_filter, filter_among, among_map, map_among, find_among, all_among, any_among, greatest_among, last_among, recursion_among, last_greatest, find_rising}
use Rattle.shard_laws.proofs.TraceLemmas.{Trace, was_added, was_sent, logs_later, topo_later, votes_answered}
use Rattle.shard_laws.proofs.HeardLemmas.{IsHeard, IsGrounded, ByFirst, ByGivenUp, ByStopped, HasGround, has_ground, stopped_heard}
use Rattle.shard_laws.proofs.LeaderCore.{Story, Has, HasRow, Carries, IsBehind, Ground, First, Planned, Emergency, IsPromoted, newest_found, row_below}

-- ---- the story

-- at this step the tablet's log has the entry and the row of the term, which it promises
pub record Voted (at : ℕ → World) (a : Alias) (t : ℕ) (e : Entry) : Type 0 where
  pub step : ℕ
  pub held : IsIn ((at step).tablets a).log e
  pub row : HasRow ((at step).tablets a).log t
  pub promised : ((at step).tablets a).promised ≡ t

-- by this step the row of the term is added to the log of the tablet, which is this one
pub record Promoted (at : ℕ → World) (last u : ℕ) (c : Alias) (base : List Entry) : Type 0 where
  pub step : ℕ
  pub within : suc step ≤ last
  pub row : Entry
  pub base_is : base ≡ ((at step).tablets c).log
  pub added : ((at (suc step)).tablets c).log ≡ ((at step).tablets c).log ++ row ∷ []
  pub is_row : row.kind ≡ kinds.Row u c

pub record ToldBy (rules : Rules) (config : Config) (at : ℕ → World) (last : ℕ) (e : Entry) (t : ℕ) : Type 0 where
  pub step : ℕ
  pub within : step ≤ last
  pub tells : IsToldIn rules config (at step) e t

abbrev pub story_of : Rules → Config → (ℕ → World) → ℕ → Story
story_of rules config at last = record {
  rules = λ t. rules;
  tablets = config.tablets;
  logs = λ a. ((at last).tablets a).log;
  Intends = λ t c. IsIntended (at last).topo t c;
  Votes = λ a t e. Voted at a t e;
  Promotes = λ u c base. Promoted at last u c base;
  Tells = λ e t. ToldBy rules config at last e t;
}

-- ---- logs and rows

pub row_in_front : (xs ys : List Entry) (t : ℕ) → IsFront xs ys → HasRow xs t → HasRow ys t
row_in_front xs ys t front h =
    record { place = h.place; row = h.row; named = h.named; there = get_front xs ys h.place h.row front h.there; is_row = h.is_row }

at_place : (log : List Entry) (n : ℕ) (e : Entry) → slice_get log n ≡ Some e → Among log e
at_place [] n e h = absurd (let none : None ≡ Some e = h in cc)
at_place (x ∷ log) zero e h = inl (let some : Some x ≡ Some e = h in cc)
at_place (x ∷ log) (suc n) e h = inr (at_place log n e h)

pub row_tested : (log : List Entry) (t : ℕ) → HasRow log t → has_row log t ≡ true
row_tested log t h = any_among (is_row_of t) log h.row (at_place log h.place h.row h.there) of_row
  where
    of_row : is_row_of t h.row ≡ true
    of_row = subst (λ (k : Kind). (elim (row_term k) as (λ _. Bool) [ Some v ↦ v == t | None ↦ false ]) ≡ true) (sym h.is_row) (grind (arith, nat_tests))

newest_in_front : (xs ys : List Entry) → IsFront xs ys → newest_row xs ≤ newest_row ys
newest_in_front xs ys front = of_test (nat_lt 0 (newest_row xs)) refl
  where
    of_test : (b : Bool) → nat_lt 0 (newest_row xs) ≡ b → newest_row xs ≤ newest_row ys
    of_test true e =
        row_below ys (newest_row xs) (row_in_front xs ys (newest_row xs) front (newest_found xs (newest_row xs) refl (let l : 0 < newest_row xs = grind (arith, nat_tests) in l)))
    of_test false e = let l : newest_row xs ≤ 0 = grind (arith, nat_tests) in omega (arith, l)

-- a log whose position covers that of another one has its entries
covers_has : (config : Config) (w : World) (c o : Alias) (base front : List Entry) → (rules : Rules) (at : ℕ → World) (i : ℕ) → Trace rules config at → w ≡ at i
    → IsFront base (w.tablets c).log → IsFront front (w.tablets o).log → covers (position_of base) (position_of front) ≡ true → Has base front
covers_has config w c o base front rules at i trace is part_base part_front covering e there =
    let held : holds front e.gtid ≡ true = held_gtid front there.0 e there.1 in
    let has_it : has (position_of base) e.gtid ≡ true =
    covers-has (position_of base) (position_of front) e.gtid covering (has-position front e.gtid ∙ held) in
    let f = holds_found base e.gtid (sym (has-position base e.gtid) ∙ has_it) in
    let unique : IsUniqueWorld config w = subst (λ (v : World). IsUniqueWorld config v) (sym is) (trace.unique i) in
    let same : f.0 ≡ e = one_entry config w trace.is unique c o f.1.0 there.0 f.0 e (get_front _ _ f.1.0 f.0 part_base f.1.1) (get_front _ _ there.0 e part_front there.1) f.2 in
    subst (λ (x : Entry). IsIn base x) same f.1

-- ---- intents

some_intent : (x y : Intent) → Some x ≡ Some y → x ≡ y
some_intent x y h = cc

pub one_intent : (w : World) (t : ℕ) (c d : Alias) → IsIntended w.topo t c → IsIntended w.topo t d → c ≡ d
one_intent w t c d p q = ap (λ (i : Intent). i.alias) (some_intent (record { term = t; alias = c }) (record { term = t; alias = d }) (sym p.intent ∙ q.intent))

intended_among : (topo : Topology) (t : ℕ) (c : Alias) → IsIntended topo t c → Among topo.intents (let i : Intent = record { term = t; alias = c } in i)
intended_among topo t c h = (find_among (λ (i : Intent). i.term == t) topo.intents (record { term = t; alias = c }) h.intent).0

term_within : (w : World) (u : ℕ) (a : Alias) → IsSoundWorld w → IsIntended w.topo u a → u ≤ w.topo.term
term_within w u a sound h =
    recursion_among (λ (i : Intent). i.term ≤ w.topo.term) w.topo.intents (record { term = u; alias = a }) (intents_are_in_order w.topo sound.topo).1 (intended_among w.topo u a h)

-- an intent of an earlier term stood already when a later one did
settled_before : (rules : Rules) (config : Config) (at : ℕ → World) → Trace rules config at → (i last t u : ℕ) (a c : Alias) → i ≤ last → IsIntended (at i).topo u a
    → IsIntended (at last).topo t c → t < u → IsIntended (at i).topo t c
settled_before rules config at trace i last t u a c le later h less =
    let within = term_within (at i) u a (trace.sound i) later in
    record { intent = sym (past_terms_are_settled_over_steps (at i).topo (at last).topo t (topo_later rules config at trace i last le) (omega (arith, within, less))) ∙ h.intent }

pub intended_later : (rules : Rules) (config : Config) (at : ℕ → World) → Trace rules config at → (i last t : ℕ) (c : Alias) → i ≤ last → IsIntended (at i).topo t c
    → IsIntended (at last).topo t c
intended_later rules config at trace i last t c le h =
    record { intent = intent_of_term_stays_over_steps (at i).topo (at last).topo t (record { term = t; alias = c }) (topo_later rules config at trace i last le) h.intent }

-- ---- how the row of a term enters

pub record IsEntered (rules : Rules) (config : Config) (at : ℕ → World) (j u : ℕ) (c : Alias) : Type 0 where
  pub step : ℕ
  pub earlier : step < j
  pub position : Position
  pub ground : HasGround rules config at step u c position
  pub none : has_row ((at j).tablets c).log u ≡ false
  pub caught : covers (position_of ((at j).tablets c).log) position ≡ true

sent_ground : (rules : Rules) (config : Config) (at : ℕ → World) (i d u : ℕ) (c : Alias) (p : Position) (content : Content) → Trace rules config at
    → Sends rules config (at i) (at (suc i)) content → content ≡ contents.Asks d u c (calls.Promote p) → HasGround rules config at i u c p
sent_ground rules config at i d u c p _ trace (Asks e v b call fits) is =
    let call_is : call ≡ calls.Promote p = (let same : contents.Asks e v b call ≡ contents.Asks d u c (calls.Promote p) = is in cc) in
    let term : v ≡ u = (let same : contents.Asks e v b call ≡ contents.Asks d u c (calls.Promote p) = is in cc) in
    let who : b ≡ c = (let same : contents.Asks e v b call ≡ contents.Asks d u c (calls.Promote p) = is in cc) in
    has_ground rules config at trace i u c p
    (subst (λ (x : Alias). CallFits rules config (at i) u x (calls.Promote p)) who (subst (λ (n : ℕ). CallFits rules config (at i) n b (calls.Promote p)) term
    (subst (λ (x : Call). CallFits rules config (at i) v b x) call_is fits)))
sent_ground rules config at i d u c p _ trace (Answers l e v b x me posted found then) is = absurd (cc)
sent_ground rules config at i d u c p _ trace (Acks l term before index from to e posted takes then) is = absurd (cc)
sent_ground rules config at i d u c p _ trace (Feeds r s t m x stand feeds needs) is = absurd (cc)

-- a log that stays has no entry more
pub no_more : (log : List Entry) (row : Entry) → log ≡ log ++ row ∷ [] → ⊥
no_more log row h = let size = ap (λ (l : List Entry). length l) h in omega (arith, size, length-append log (row ∷ []))

pub the_last : (log : List Entry) (e row : Entry) → log ++ e ∷ [] ≡ log ++ row ∷ [] → row ≡ e
the_last log e row h = last_is log log [] e row h (omega arith)

pub home_held : (w : World) (from a : Alias) (index u : ℕ) (e : Entry) → IsSoundWorld w → numbered (w.tablets from).log index ≡ Some e → e.kind ≡ kinds.Row u a
    → holds (w.tablets a).log e.gtid ≡ true
home_held w from a zero u e sound here is = absurd (let none : None ≡ Some e = here in cc)
home_held w from a (suc n) u e sound here is =
    let home = (sound.rows from n e u a here is).at_home in held_gtid (w.tablets a).log home.0 e home.1

entered_by : (rules : Rules) (config : Config) (at : ℕ → World) (j u : ℕ) (c : Alias) (row : Entry) (t : TabletState) → Trace rules config at
    → TightMove config.tablets (at j).post c ((at j).tablets c) t → t.log ≡ ((at j).tablets c).log ++ row ∷ [] → row.kind ≡ kinds.Row u c
    → IsEntered rules config at j u c
entered_by rules config at j u c row _ trace Stays added is = absurd (no_more _ row added)
entered_by rules config at j u c row _ trace (Sees v le) added is = absurd (no_more _ row added)
entered_by rules config at j u c row _ trace (Stops k d v posted le) added is = absurd (no_more _ row added)
entered_by rules config at j u c row _ trace (Demotes k d v me posted found le own) added is = absurd (no_more _ row added)
entered_by rules config at j u c row _ trace (Joins k d v t source p posted le new inside) added is = absurd (no_more _ row added)
entered_by rules config at j u c row _ trace (Serves k d v posted le promised stand) added is = absurd (no_more _ row added)
entered_by rules config at j u c row _ trace (Enters k d v p me posted found le none caught) added is =
    let same = the_last ((at j).tablets c).log _ row added in
    let kinds_meet : kinds.Row v me.alias ≡ kinds.Row u c = sym (ap (λ (e : Entry). e.kind) same) ∙ is in
    let term : v ≡ u = cc in
    let sent = was_sent rules config at trace j k (contents.Asks d v c (calls.Promote p)) posted in
    subst (λ (n : ℕ). IsEntered rules config at j n c) term (record {
      step = sent.step;
      earlier = sent.earlier;
      position = p;
      ground = sent_ground rules config at sent.step d v c p _ trace sent.sends refl;
      none = none;
      caught = caught;
    })
entered_by rules config at j u c row _ trace (Takes k term before index source e posted stand fresh) added is =
    let same = the_last ((at j).tablets c).log e row added in
    let fed = subst (λ (x : Content). Fits (at j) x) posted.carries ((trace.sound j).post k posted.message posted.at) in
    absurd (false≢true (sym fresh ∙ home_held (at j) source c index u e (trace.sound j) fed.0 (subst (λ (x : Entry). x.kind ≡ kinds.Row u c) same is)))
entered_by rules config at j u c row _ trace (Skips k term before index source e posted stand held) added is = absurd (no_more _ row added)
entered_by rules config at j u c row _ trace (Writes me t client number found stand) added is =
    let same = the_last ((at j).tablets c).log _ row added in
    let wrong : kinds.Write t client number ≡ kinds.Row u c = sym (ap (λ (e : Entry). e.kind) same) ∙ is in
    absurd (cc)
entered_by rules config at j u c row _ trace (WritesLocal me found up) added is =
    let same = the_last ((at j).tablets c).log _ row added in
    let wrong : kinds.Local ≡ kinds.Row u c = sym (ap (λ (e : Entry). e.kind) same) ∙ is in
    absurd (cc)
entered_by rules config at j u c row _ trace (Hears k term index source posted stand) added is = absurd (no_more _ row added)
entered_by rules config at j u c row _ trace (Promises v t le more within) added is = absurd (no_more _ row added)
entered_by rules config at j u c row _ trace GoesDown added is = absurd (no_more _ row added)
entered_by rules config at j u c row _ trace (ComesUp down) added is = absurd (no_more _ row added)

entered_stepped : (rules : Rules) (config : Config) (at : ℕ → World) (j u : ℕ) (c : Alias) (row : Entry) (t : TabletState) → Trace rules config at
    → TabletStep config.tablets (at j).post c ((at j).tablets c) t → t.log ≡ ((at j).tablets c).log ++ row ∷ [] → row.kind ≡ kinds.Row u c
    → IsEntered rules config at j u c
entered_stepped rules config at j u c row _ trace (Plainly move) added is = entered_by rules config at j u c row _ trace move added is
entered_stepped rules config at j u c row _ trace (Returning move) added is = entered_by rules config at j u c row _ trace move added is

pub is_entered : (rules : Rules) (config : Config) (at : ℕ → World) → Trace rules config at → (last u : ℕ) (c : Alias) (base : List Entry) → (p : Promoted at last u c base)
    → IsEntered rules config at p.step u c
is_entered rules config at trace last u c base p =
    entered_stepped rules config at p.step u c p.row _ trace ((trace.move p.step).tablets c) p.added p.is_row

-- ---- rows are of promotions

pub row_promoted : (rules : Rules) (config : Config) (at : ℕ → World) → Trace rules config at → (last : ℕ) (a : Alias) (n t : ℕ) (row : Entry) (c : Alias)
    → slice_get ((at last).tablets a).log n ≡ Some row → row.kind ≡ kinds.Row t c
    → IsPromoted (story_of rules config at last) (take n ((at last).tablets a).log) t c
row_promoted rules config at trace last a n t row c here is =
    let fits = (trace.sound last).rows a n row t c here is in
    let home = fits.at_home in
    let came = was_added rules config at trace last c home.0 row home.1 in
    let low = came.earlier in
    record {
      intended = fits.intended;
      base = ((at came.step).tablets c).log;
      promotes = record { step = came.step; within = omega (arith, low); row = row; base_is = refl; added = came.added; is_row = is };
      closed = λ e there.
          let inside = below_length ((at came.step).tablets c).log there.0 e there.1 in
          let place = came.place in
          (trace.closed last).closed a c n home.0 t row here is home.1 there.0 e (omega (arith, inside, place))
          (get_front _ _ there.0 e (logs_later rules config at trace c came.step last (omega (arith, low))) there.1);
    }

-- ---- grounds

-- what was heard of a tablet carries its votes
carries_votes : (rules : Rules) (config : Config) (at : ℕ → World) → Trace rules config at → (last i u : ℕ) (a : Alias) (h : Held) → i ≤ last
    → (heard : IsHeard at i u a h) → Carries (story_of rules config at last) u a ((at heard.step).tablets a).log
carries_votes rules config at trace last i u a h le heard = record {
  part = let low = heard.earlier in logs_later rules config at trace a heard.step last (omega (arith, low, le));
  votes = λ t e vote less.
      let promised = vote.promised in
      let front = votes_answered rules config at trace vote.step heard.step u a heard.says.promised (omega (arith, promised, less)) in
      (in_front _ _ e front vote.held, row_in_front _ _ t front vote.row);
}

-- the promoted tablet has what was heard of another one
has_heard : (rules : Rules) (config : Config) (at : ℕ → World) → Trace rules config at → (last i j u : ℕ) (a c : Alias) (h : Held) (p : Position) → i ≤ last → j ≤ last
    → (heard : IsHeard at i u a h) → p ≡ h.position → covers (position_of ((at j).tablets c).log) p ≡ true
    → Has ((at j).tablets c).log ((at heard.step).tablets a).log
has_heard rules config at trace last i j u a c h p le within heard is caught =
    let low = heard.earlier in
    covers_has config (at last) c a ((at j).tablets c).log ((at heard.step).tablets a).log rules at last trace refl (logs_later rules config at trace c j last within)
    (logs_later rules config at trace a heard.step last (omega (arith, low, le)))
    (subst (λ (q : Position). covers (position_of ((at j).tablets c).log) q ≡ true) (is ∙ heard.says.position_is) caught)

first_ground : (rules : Rules) (config : Config) (at : ℕ → World) → Trace rules config at → (last i u : ℕ) (a : Alias) → i ≤ last → IsIntended (at i).topo u a
    → is_first (at i).topo u ≡ true → (t : ℕ) (c : Alias) → IsIntended (at last).topo t c → t < u → ⊥
first_ground rules config at trace last i u a le intended first t c h less =
    let before = settled_before rules config at trace i last t u a c le intended h less in
    let earlier : nat_lt t u ≡ true = grind (arith, nat_tests, less) in
    let some = any_among (λ (x : Intent). nat_lt x.term u) (at i).topo.intents (record { term = t; alias = c }) (intended_among (at i).topo t c before) earlier in
    not_both (list_any (λ (x : Intent). nat_lt x.term u) (at i).topo.intents) first some
  where
    not_both : (b : Bool) → not b ≡ true → b ≡ true → ⊥
    not_both true n h = absurd (false≢true n)
    not_both false n h = absurd (false≢true h)

planned_ground : (rules : Rules) (config : Config) (at : ℕ → World) → Trace rules config at → (last i j u : ℕ) (c : Alias) (p : Position) (x : Intent) (h : Held) → i ≤ last
    → j ≤ last → IsIntended (at i).topo u c → covers (position_of ((at j).tablets c).log) p ≡ true → last_before (at i).topo u ≡ Some x
    → IsHeard at i u x.alias h → h.newest ≡ x.term → p ≡ h.position → Ground (story_of rules config at last) u ((at j).tablets c).log
planned_ground rules config at trace last i j u c p x h le within intended caught last_is heard term position =
    Planned x.term x.alias ((at heard.step).tablets x.alias).log (intended_later rules config at trace i last x.term x.alias le named) earlier below
    (carries_votes rules config at trace last i u x.alias h le heard) (sym heard.says.newest_is ∙ term)
    (has_heard rules config at trace last i j u x.alias c h p le within heard position caught)
  where
    among : Among (at i).topo.intents x × (nat_lt x.term u ≡ true)
    among = filter_among (λ (y : Intent). nat_lt y.term u) (at i).topo.intents x (last_among (filter (λ (y : Intent). nat_lt y.term u) (at i).topo.intents) x last_is)

    rise : TermsRise (at i).topo.intents
    rise = (intents_are_in_order (at i).topo (trace.sound i).topo).0

    earlier : x.term < u
    earlier = let test = among.1 in grind (arith, nat_tests)

    named : IsIntended (at i).topo x.term x.alias
    named = record { intent = find_rising (at i).topo.intents x rise among.0 }

    below : (v : ℕ) (d : Alias) → IsIntended (at last).topo v d → v < u → v ≤ x.term
    below v d is less =
        let before = settled_before rules config at trace i last v u c d le intended is less in
        last_greatest (λ (y : Intent). nat_lt y.term u) (at i).topo.intents x (record { term = v; alias = d }) rise last_is (intended_among (at i).topo v d before)
        (grind (arith, nat_tests, less))

if_eligible : (e r : Bool) → (not e || r) ≡ true → e ≡ true → r ≡ true
if_eligible true r h is = h
if_eligible false r h is = absurd (false≢true is)

-- counting revokes
pub all_revoked : (rules : Rules) (tablets : List Tablet) (reached : TabletSet) → revokes_all rules tablets reached ≡ true → Revokes rules tablets reached
all_revoked rules tablets reached h k d within eligible =
    let declared : Contains tablets (get_or tablets k d) = Contains-get_or tablets k d within in
    let passes = all_among (λ (t : Tablet). not (is_eligible rules t) || is_revoked rules tablets reached t) tablets (get_or tablets k d) h (contains_among tablets (get_or tablets k d) declared) in
    (counting_revokes rules tablets reached (get_or tablets k d) declared).0
    (if_eligible (is_eligible rules (get_or tablets k d)) (is_revoked rules tablets reached (get_or tablets k d)) passes eligible)

pub held_some : (o : Option Held) → is_some o ≡ true → (h : Held) × (o ≡ Some h)
held_some None h = absurd (false≢true h)
held_some (Some x) h = (x, refl)

-- no answer of a term has a row of it that has not come yet
low_row : (rules : Rules) (config : Config) (at : ℕ → World) → Trace rules config at → (last i j u : ℕ) (a c : Alias) (h : Held) → i < j → IsIntended (at j).topo u c
    → has_row ((at j).tablets c).log u ≡ false → (heard : IsHeard at i u a h) → 0 < u → newest_row ((at heard.step).tablets a).log < u
low_row rules config at trace last i j u a c h less intended none heard some = of_test (nat_lt (newest_row ((at heard.step).tablets a).log) u) refl
  where
    log : List Entry
    log = ((at heard.step).tablets a).log

    rows : newest_row log ≤ u
    rows =
        let longer = newest_in_front log ((at (suc heard.step)).tablets a).log (logs_later rules config at trace a heard.step (suc heard.step) (omega arith)) in
        let within = ((trace.sound (suc heard.step)).tablets a).rows in
        let promised = heard.says.promised in
        omega (arith, longer, within, promised)

    there : newest_row log ≡ u → ⊥
    there same =
        let low = heard.earlier in
        let row = row_in_front log ((at j).tablets a).log u (logs_later rules config at trace a heard.step j (omega (arith, low, less))) (newest_found log u same some) in
        let fits = (trace.sound j).rows a row.place row.row u row.named row.there row.is_row in
        let home : row.named ≡ c = one_intent (at j) u row.named c fits.intended intended in
        let own : HasRow ((at j).tablets row.named).log u = record { place = fits.at_home.0; row = row.row; named = row.named; there = fits.at_home.1; is_row = row.is_row } in
        false≢true (sym none ∙ subst (λ (x : Alias). has_row ((at j).tablets x).log u ≡ true) home (row_tested ((at j).tablets row.named).log u own))

    of_test : (b : Bool) → nat_lt (newest_row log) u ≡ b → newest_row log < u
    of_test true e = let l : newest_row log < u = grind (arith, nat_tests) in l
    of_test false e = absurd (there (let high = rows in let l : u ≤ newest_row log = grind (arith, nat_tests) in omega (arith, high, l)))

emergency_ground : (rules : Rules) (config : Config) (at : ℕ → World) → Trace rules config at → (last i j u : ℕ) (acts : List Act) (c : Alias) (p : Position) (h : Held) → i < j → j ≤ last
    → IsIntended (at j).topo u c → has_row ((at j).tablets c).log u ≡ false → covers (position_of ((at j).tablets c).log) p ≡ true
    → revokes_all rules config.tablets (has_stopped (sendings (at i).post acts) u) ≡ true → winner (stopped_among config.tablets (sendings (at i).post acts) u) ≡ Some h → p ≡ h.position
    → Ground (story_of rules config at last) u ((at j).tablets c).log
emergency_ground rules config at trace last i j u acts c p h less within intended none caught revokes wins position =
    Emergency 0 (has_stopped (sendings (at i).post acts) u) best.0.alias ((at heard.step).tablets best.0.alias).log (inl refl)
    (λ v d intended from low. all_revoked rules config.tablets (has_stopped (sendings (at i).post acts) u) revokes)
    (carries_votes rules config at trace last i u best.0.alias h le heard).part
    (λ some. low_row rules config at trace last i j u best.0.alias c h less intended none heard some)
    (has_heard rules config at trace last i j u best.0.alias c h p le within heard position caught) behind
  where
    helds : List Held
    helds = stopped_among config.tablets (sendings (at i).post acts) u

    le : i ≤ last
    le = omega (arith, less, within)

    found : Among (leading helds) h × (covers_all (leading helds) h ≡ true)
    found = find_among (covers_all (leading helds)) (leading helds) h wins

    first : Among helds h × ((h.newest == newest_of helds) ≡ true)
    first = filter_among (λ (x : Held). x.newest == newest_of helds) helds h found.0

    best : (t : Tablet) × Among config.tablets t × (stopped_at (sendings (at i).post acts) u t.alias ≡ Some h)
    best = map_among (λ (t : Tablet). stopped_at (sendings (at i).post acts) u t.alias) config.tablets h first.0

    heard : IsHeard at i u best.0.alias h
    heard = stopped_heard rules config at trace i acts u best.0.alias h best.2

    greatest_is : h.newest ≡ newest_of helds
    greatest_is = let test = first.1 in grind (arith, nat_tests)

    of_held : (t : Tablet) (x : Held) → Among helds x → (other : IsHeard at i u t.alias x) → IsBehind (story_of rules config at last) u ((at heard.step).tablets best.0.alias).log t.alias
    of_held t x among other = record {
      front = ((at other.step).tablets t.alias).log;
      carries = carries_votes rules config at trace last i u t.alias x le other;
      below =
          let one = other.says.newest_is in
          let two = heard.says.newest_is in
          let three = greatest_among (λ (y : Held). y.newest) helds x among in
          let four = greatest_is in
          omega (arith, one, two, three, four);
      same = λ equal.
          let one = other.says.newest_is in
          let two = heard.says.newest_is in
          let four = greatest_is in
          let newest : x.newest ≡ newest_of helds = omega (arith, one, two, four, equal) in
          let leads = among_filter (λ (y : Held). y.newest == newest_of helds) helds x among (grind (arith, nat_tests, newest)) in
          let over : covers h.position x.position ≡ true = all_among (λ (y : Held). covers h.position y.position) (leading helds) x found.1 leads in
          let low = other.earlier in
          let low_too = heard.earlier in
          let limit = le in
          covers_has config (at last) best.0.alias t.alias ((at heard.step).tablets best.0.alias).log ((at other.step).tablets t.alias).log rules at last trace refl
          (logs_later rules config at trace best.0.alias heard.step last (omega (arith, low_too, limit)))
          (logs_later rules config at trace t.alias other.step last (omega (arith, low, limit)))
          (subst (λ (q : Position). covers q (position_of ((at other.step).tablets t.alias).log) ≡ true) heard.says.position_is
          (subst (λ (q : Position). covers h.position q ≡ true) other.says.position_is over));
    }

    behind : (t : Tablet) → Contains config.tablets t → has_stopped (sendings (at i).post acts) u t.alias ≡ true
        → IsBehind (story_of rules config at last) u ((at heard.step).tablets best.0.alias).log t.alias
    behind t declared reached =
        let held = held_some (stopped_at (sendings (at i).post acts) u t.alias) reached in
        of_held t held.0 (among_map (λ (y : Tablet). stopped_at (sendings (at i).post acts) u y.alias) config.tablets t held.0 (contains_among config.tablets t declared) held.1)
        (stopped_heard rules config at trace i acts u t.alias held.0 held.1)

grounded_by : (rules : Rules) (config : Config) (at : ℕ → World) → Trace rules config at → (last i j u : ℕ) (c : Alias) (p : Position) → i < j → j ≤ last
    → IsIntended (at i).topo u c → has_row ((at j).tablets c).log u ≡ false → covers (position_of ((at j).tablets c).log) p ≡ true → IsGrounded rules config at i u p
    → Ground (story_of rules config at last) u ((at j).tablets c).log
grounded_by rules config at trace last i j u c p less within intended none caught (ByFirst first) =
    First (first_ground rules config at trace last i u c (omega (arith, less, within)) intended first)
grounded_by rules config at trace last i j u c p less within intended none caught (ByGivenUp x h last_is heard term position) =
    planned_ground rules config at trace last i j u c p x h (omega (arith, less, within)) within intended caught last_is heard term position
grounded_by rules config at trace last i j u c p less within intended none caught (ByStopped acts h revokes wins position) =
    emergency_ground rules config at trace last i j u acts c p h less within (intended_later rules config at trace i j u c (omega (arith, less)) intended) none caught revokes wins position

pub promotion_ground : (rules : Rules) (config : Config) (at : ℕ → World) → Trace rules config at → (last u : ℕ) (c : Alias) (base : List Entry) → Promoted at last u c base
    → Ground (story_of rules config at last) u base
promotion_ground rules config at trace last u c base p =
    let entered = is_entered rules config at trace last u c base p in
    let within = p.within in
    subst (λ (l : List Entry). Ground (story_of rules config at last) u l) (sym p.base_is)
    (grounded_by rules config at trace last entered.step p.step u c entered.position entered.earlier (omega (arith, within))
    (intended_by (at entered.step).topo u c entered.ground.intended) entered.none entered.caught entered.ground.ground)

-- What is told is voted for: the primary has the entry while it promises the term, and each tablet that it counts had so many of its entries, and had
-- promised the term, when it acknowledged them.
use Rattle.std.proofs.Common.{◌≡◌, ◌⊎◌, inl, inr, ℕ, zero, suc, ◌≤◌, ◌<◌, max, Bool, true, false, ◌||◌, nat_lt, nat_le, refl, ap, sym, subst, ◌∙◌, arith, List, [], ◌∷◌, ◌++◌, cond, Option, Some, None, length}
use Rattle.std.proofs.lemmas.Bool.{false≢true}
use Rattle.std.proofs.lemmas.Bool.Decides.{nat_tests}
use Rattle.std.specs.List.{slice_get}
use Rattle.shard_base.specs.Lists.{IsFront}
use Rattle.shard_names.specs.declared.alias.Alias.{Alias}
use Rattle.shard_names.specs.declared.tablet.Tablet.{Tablet}
use Rattle.shard_names.specs.Tablets.{alias_eq, tablet_of}
use Rattle.shard_names.proofs.TabletLemmas.{alias_eq_is}
use Rattle.durability.specs.Rules.{Rules, is_eligible}
use Rattle.durability.proofs.SearchLemmas.{found_in}
use Rattle.replication.specs.Told.{holders}
use Rattle.gtid_sets.specs.declared.entry.Entry.{Entry}
use Rattle.gtid_sets.specs.declared.entry.Kind.{Kind}
use Rattle.gtid_sets.specs.declared.entry.Kind.TheVariants as kinds
use Rattle.shard_calls.specs.declared.post.Content.{Content}
use Rattle.shard_calls.specs.declared.post.Content.TheVariants as contents
use Rattle.shard_calls.specs.declared.post.Message.{Message}
use Rattle.shard_calls.specs.declared.stand.Stand.{Stand}
use Rattle.shard_calls.specs.declared.stand.Stand.TheVariants as stands
use Rattle.shard_calls.specs.Stands.{takes_from}
use Rattle.shard_calls.specs.Laws.{IsPromised, HasItsRow}
use Rattle.gtid_sets.specs.Logs.{has_row}
use Rattle.shard_calls.specs.Tablets.{TabletState, accepts}
use Rattle.shard_calls.specs.RunLaws.{IsIn}
use Rattle.shard_calls.specs.World.{Config, World, numbered}
use Rattle.shard_calls.specs.Grounds.{may_lead}
use Rattle.shard_laws.specs.TightMoves.{IsPosted, TightMove, Stays, Sees, Stops, Demotes, Joins, Serves, Enters, Takes, Skips, Writes, WritesLocal, Hears, Promises, GoesDown, ComesUp, TabletStep, Plainly, Returning, Sends, Asks, Answers, Acks, Feeds}
use Rattle.shard_calls.proofs.LawLemmas.{chosen}
use Rattle.shard_calls.proofs.ListLemmas.{slice_get-push_cases, at_end}
use Rattle.shard_calls.proofs.WorldLemmas.{IsSoundWorld, Fits, get_front}
use Rattle.shard_calls.proofs.ClosureLemmas.{IsClosedWorld, Says, Follows, Bridges, below_length, get_back}
use Rattle.shard_calls.proofs.ClosedLemmas.{has_before, taken_stand}
use Rattle.shard_calls.proofs.StepLemmas.{alias_found}
use Rattle.shard_calls.proofs.RunLemmas.{row_found, row_kind}
use Rattle.shard_laws.proofs.TightLemmas.{primary_stand}
use Rattle.shard_laws.proofs.TraceLemmas.{Trace, front_step, logs_later, was_sent, was_added}
use Rattle.shard_laws.specs.Traces.{AsPrimary, ByAck, IsVote, IsOfTerm, IsToldIn}
use Rattle.shard_calls.proofs.WorldLemmas.{IsIntended}
use Rattle.gtid_sets.specs.Logs.{next_gtid}
use Rattle.shard_laws.proofs.GroundLemmas.{ToldBy, story_of, is_entered, row_promoted, one_intent, intended_later, row_tested}
use Rattle.shard_laws.proofs.LeaderCore.{HasRow, IsVotedFor}

same_primary : (at : Stand) (t u : ℕ) → at ≡ stands.Primary t → at ≡ stands.Primary u → t ≡ u
same_primary at t u p q = let same : stands.Primary t ≡ stands.Primary u = sym p ∙ q in cc

-- ---- what a primary has noted was acknowledged in its term

abbrev Noted : World → Alias → TabletState → Type 0
Noted w a s = (t : ℕ) (r : Alias) (k : ℕ) → s.stand ≡ stands.Primary t → s.acked r ≡ suc k → (n : ℕ) × IsPosted w.post n (contents.Acks r a t (suc k))

noted_step : (rules : Rules) (config : Config) (at : ℕ → World) → Trace rules config at → (i : ℕ) (a : Alias) (s t : TabletState)
    → TightMove config.tablets (at i).post a s t → Noted (at i) a s → Noted (at (suc i)) a t
noted_step rules config at trace i a s _ Stays h u r k stand acked = let p = h u r k stand acked in (p.0, (trace.move i).post.stays p.0 _ p.1)
noted_step rules config at trace i a s _ (Sees v le) h u r k stand acked = let p = h u r k stand acked in (p.0, (trace.move i).post.stays p.0 _ p.1)
noted_step rules config at trace i a s _ (Stops l c v posted le) h u r k stand acked = absurd (let wrong : stands.Stopped ≡ stands.Primary u = stand in cc)
noted_step rules config at trace i a s _ (Demotes l c v me posted found le own) h u r k stand acked = absurd (cc)
noted_step rules config at trace i a s _ (Joins l c v t source p posted le new inside) h u r k stand acked = absurd (cc)
noted_step rules config at trace i a s _ (Serves l c v posted le promised was) h u r k stand acked = absurd (let wrong : stands.Feeder v ≡ stands.Primary u = stand in cc)
noted_step rules config at trace i a s _ (Enters l c v p me posted found le none caught) h u r k stand acked = absurd (let wrong : 0 ≡ suc k = acked in omega (arith, wrong))
noted_step rules config at trace i a s _ (Takes l term before index source e posted was fresh) h u r k stand acked = absurd (cc)
noted_step rules config at trace i a s _ (Skips l term before index source e posted was held) h u r k stand acked = absurd (cc)
noted_step rules config at trace i a s _ (Writes me t client number found was) h u r k stand acked = let p = h u r k stand acked in (p.0, (trace.move i).post.stays p.0 _ p.1)
noted_step rules config at trace i a s _ (WritesLocal me found up) h u r k stand acked = let p = h u r k stand acked in (p.0, (trace.move i).post.stays p.0 _ p.1)
noted_step rules config at trace i a s _ (Hears l term index source posted was) h u r k stand acked = of_test (alias_eq r source) refl acked
  where
    before : s.acked r ≡ suc k → (n : ℕ) × IsPosted (at (suc i)).post n (contents.Acks r a u (suc k))
    before is = let p = h u r k stand is in (p.0, (trace.move i).post.stays p.0 _ p.1)

    new : r ≡ source → index ≡ suc k → (n : ℕ) × IsPosted (at (suc i)).post n (contents.Acks r a u (suc k))
    new who is =
        let term_is : term ≡ u = same_primary s.stand term u was stand in (
          l,
          (trace.move i).post.stays l _ (subst (λ (x : Alias). IsPosted (at i).post l (contents.Acks x a u (suc k))) (sym who)
              (subst (λ (x : ℕ). IsPosted (at i).post l (contents.Acks source a x (suc k))) term_is
              (subst (λ (x : ℕ). IsPosted (at i).post l (contents.Acks source a term x)) is posted))),
        )

    of_max : (b : Bool) → nat_lt index (s.acked r) ≡ b → r ≡ source → max index (s.acked r) ≡ suc k → (n : ℕ) × IsPosted (at (suc i)).post n (contents.Acks r a u (suc k))
    of_max true less who is = before (let l : index < s.acked r = grind (arith, nat_tests) in grind (arith, is, l))
    of_max false less who is = new who (let l : s.acked r ≤ index = grind (arith, nat_tests) in grind (arith, is, l))

    of_test : (b : Bool) → alias_eq r source ≡ b → cond b (max index (s.acked r)) (s.acked r) ≡ suc k → (n : ℕ) × IsPosted (at (suc i)).post n (contents.Acks r a u (suc k))
    of_test true who is = of_max (nat_lt index (s.acked r)) refl (alias_eq_is r source who) is
    of_test false who is = before is
noted_step rules config at trace i a s _ (Promises v t le more within) h u r k stand acked = absurd (let wrong : stands.Stopped ≡ stands.Primary u = stand in cc)
noted_step rules config at trace i a s _ GoesDown h u r k stand acked = absurd (let wrong : stands.Down ≡ stands.Primary u = stand in cc)
noted_step rules config at trace i a s _ (ComesUp down) h u r k stand acked = absurd (let wrong : stands.Stopped ≡ stands.Primary u = stand in cc)

noted_stepped : (rules : Rules) (config : Config) (at : ℕ → World) → Trace rules config at → (i : ℕ) (a : Alias) (s t : TabletState)
    → TabletStep config.tablets (at i).post a s t → Noted (at i) a s → Noted (at (suc i)) a t
noted_stepped rules config at trace i a s _ (Plainly move) h = noted_step rules config at trace i a s _ move h
noted_stepped rules config at trace i a s _ (Returning move) h = λ u r k stand acked. absurd (let wrong : stands.Stopped ≡ stands.Primary u = stand in cc)

noted : (rules : Rules) (config : Config) (at : ℕ → World) → Trace rules config at → (i : ℕ) (a : Alias) → Noted (at i) a ((at i).tablets a)
noted rules config at trace zero a t r k stand acked =
    absurd (let wrong : stands.Stopped ≡ stands.Primary t = ap (λ (s : TabletState). s.stand) (sym (trace.blank a)) ∙ stand in cc)
noted rules config at trace (suc i) a t r k stand acked =
    noted_stepped rules config at trace i a ((at i).tablets a) ((at (suc i)).tablets a) ((trace.move i).tablets a) (noted rules config at trace i a) t r k stand acked

-- ---- a primary has its own row

abbrev OwnRow : Alias → TabletState → Type 0
OwnRow a s = (t : ℕ) → s.stand ≡ stands.Primary t → (n : ℕ) × (row : Entry) × (slice_get s.log n ≡ Some row) × (row.kind ≡ kinds.Row t a)

own_step : (config : Config) (post : List Message) (a : Alias) (s t : TabletState) → TightMove config.tablets post a s t → OwnRow a s → OwnRow a t
own_step config post a s _ Stays h u stand = h u stand
own_step config post a s _ (Sees v le) h u stand = h u stand
own_step config post a s _ (Stops l c v posted le) h u stand = absurd (let wrong : stands.Stopped ≡ stands.Primary u = stand in cc)
own_step config post a s _ (Demotes l c v me posted found le own) h u stand = absurd (cc)
own_step config post a s _ (Joins l c v t source p posted le new inside) h u stand = absurd (cc)
own_step config post a s _ (Serves l c v posted le promised was) h u stand = absurd (let wrong : stands.Feeder v ≡ stands.Primary u = stand in cc)
own_step config post a s _ (Enters l c v p me posted found le none caught) h u stand =
    let term : v ≡ u = (let same : stands.Primary v ≡ stands.Primary u = stand in cc) in
    (length s.log, _, at_end s.log _, ap (λ (x : ℕ). kinds.Row x me.alias) term ∙ ap (λ (x : Alias). kinds.Row u x) (alias_found config a me found))
own_step config post a s _ (Takes l term before index source e posted was fresh) h u stand = absurd (cc)
own_step config post a s _ (Skips l term before index source e posted was held) h u stand = absurd (cc)
own_step config post a s _ (Writes me t client number found was) h u stand = let r = h u stand in (r.0, r.1, get_front _ _ r.0 r.1 (front_step s.log _ (inr (_, refl))) r.2, r.3)
own_step config post a s _ (WritesLocal me found up) h u stand = let r = h u stand in (r.0, r.1, get_front _ _ r.0 r.1 (front_step s.log _ (inr (_, refl))) r.2, r.3)
own_step config post a s _ (Hears l term index source posted was) h u stand = h u stand
own_step config post a s _ (Promises v t le more within) h u stand = absurd (let wrong : stands.Stopped ≡ stands.Primary u = stand in cc)
own_step config post a s _ GoesDown h u stand = absurd (let wrong : stands.Down ≡ stands.Primary u = stand in cc)
own_step config post a s _ (ComesUp down) h u stand = absurd (let wrong : stands.Stopped ≡ stands.Primary u = stand in cc)

own_stepped : (config : Config) (post : List Message) (a : Alias) (s t : TabletState) → TabletStep config.tablets post a s t → OwnRow a s → OwnRow a t
own_stepped config post a s _ (Plainly move) h = own_step config post a s _ move h
own_stepped config post a s _ (Returning move) h = λ u stand. absurd (let wrong : stands.Stopped ≡ stands.Primary u = stand in cc)

own_rows : (rules : Rules) (config : Config) (at : ℕ → World) → Trace rules config at → (i : ℕ) (a : Alias) → OwnRow a ((at i).tablets a)
own_rows rules config at trace zero a t stand =
    absurd (let wrong : stands.Stopped ≡ stands.Primary t = ap (λ (s : TabletState). s.stand) (sym (trace.blank a)) ∙ stand in cc)
own_rows rules config at trace (suc i) a t stand =
    own_stepped config (at i).post a ((at i).tablets a) ((at (suc i)).tablets a) ((trace.move i).tablets a) (own_rows rules config at trace i a) t stand

-- ---- a write of a term stands behind the row of the term

pub record RowBefore (log : List Entry) (n t : ℕ) : Type 0 where
  pub place : ℕ
  pub row : Entry
  pub named : Alias
  pub less : place < n
  pub there : slice_get log place ≡ Some row
  pub is_row : row.kind ≡ kinds.Row t named

abbrev pub RowsFirst : List Entry → Type 0
RowsFirst log = (n t client number : ℕ) (e : Entry) → slice_get log n ≡ Some e → e.kind ≡ kinds.Write t client number → RowBefore log n t

before_in : (xs ys : List Entry) (n t : ℕ) → IsFront xs ys → RowBefore xs n t → RowBefore ys n t
before_in xs ys n t front h =
    record { place = h.place; row = h.row; named = h.named; less = h.less; there = get_front xs ys h.place h.row front h.there; is_row = h.is_row }

-- one entry more, which is a write only behind its row
more_first : (log : List Entry) (x : Entry) → RowsFirst log → ((t client number : ℕ) → x.kind ≡ kinds.Write t client number → HasRow log t) → RowsFirst (log ++ x ∷ [])
more_first log x h new n t client number e here is = of_cases (slice_get-push_cases log x e n here)
  where
    front : IsFront log (log ++ x ∷ [])
    front = front_step log (log ++ x ∷ []) (inr (x, refl))

    of_cases : (slice_get log n ≡ Some e) ⊎ ((n ≡ length log) × (x ≡ e)) → RowBefore (log ++ x ∷ []) n t
    of_cases (inl old) = before_in log (log ++ x ∷ []) n t front (h n t client number e old is)
    of_cases (inr last) =
        let row = new t client number (ap (λ (y : Entry). y.kind) last.1 ∙ is) in
        let inside = below_length log row.place row.row row.there in
        let place = last.0 in
        record { place = row.place; row = row.row; named = row.named; less = omega (arith, inside, place); there = get_front log (log ++ x ∷ []) row.place row.row front row.there; is_row = row.is_row }

row_of_primary : (s : TabletState) (t : ℕ) → s.stand ≡ stands.Primary t → HasItsRow s.log s.stand → HasRow s.log t
row_of_primary s t stand own =
    let has : has_row s.log t ≡ true = subst (λ (x : Stand). HasItsRow s.log x) stand own in
    let row = row_found s.log t has in
    let kind = row_kind row.1.kind t row.3 in
    record { place = row.0; row = row.1; named = kind.0; there = row.2; is_row = kind.1 }

-- what a source sends has its row before it, and the replica has that
row_of_fed : (w : World) (a from : Alias) (term before index t client number : ℕ) (e : Entry) → IsSoundWorld w → IsClosedWorld w
    → Bridges (w.tablets a).log (w.tablets from).log before index → (w.tablets a).stand ≡ stands.Replica from term before
    → numbered (w.tablets from).log index ≡ Some e → RowsFirst (w.tablets from).log → e.kind ≡ kinds.Write t client number → HasRow (w.tablets a).log t
row_of_fed w a from term before zero t client number e sound closed bridge stand at first is = absurd (let none : None ≡ Some e = at in cc)
row_of_fed w a from term before (suc p) t client number e sound closed bridge stand at first is =
    let row = first p t client number e at is in
    let held = has_before w a from term before (suc p) p sound closed bridge refl stand row.place row.row row.less row.there in
    record { place = held.0; row = row.row; named = row.named; there = held.1; is_row = row.is_row }

first_step : (rules : Rules) (config : Config) (at : ℕ → World) → Trace rules config at → (i : ℕ) (a : Alias) (t : TabletState)
    → TightMove config.tablets (at i).post a ((at i).tablets a) t → ((b : Alias) → RowsFirst ((at i).tablets b).log) → RowsFirst t.log
first_step rules config at trace i a _ Stays h = h a
first_step rules config at trace i a _ (Sees v le) h = h a
first_step rules config at trace i a _ (Stops l c v posted le) h = h a
first_step rules config at trace i a _ (Demotes l c v me posted found le own) h = h a
first_step rules config at trace i a _ (Joins l c v t source p posted le new inside) h = h a
first_step rules config at trace i a _ (Serves l c v posted le promised was) h = h a
first_step rules config at trace i a _ (Enters l c v p me posted found le none caught) h = more_first ((at i).tablets a).log _ (h a) (λ t client number wrong. absurd (cc))
first_step rules config at trace i a _ (Takes l term before index source e posted stand fresh) h =
    more_first ((at i).tablets a).log e (h a) (λ t client number is.
    row_of_fed (at i) a source term before index t client number e (trace.sound i) (trace.closed i)
    (subst (λ (x : Content). Says (at i) x) posted.carries ((trace.closed i).post l posted.message posted.at)) stand
    (subst (λ (x : Content). Fits (at i) x) posted.carries ((trace.sound i).post l posted.message posted.at)).0 (h source) is)
first_step rules config at trace i a _ (Skips l term before index source e posted stand held) h = h a
first_step rules config at trace i a _ (Writes me t client number found stand) h =
    more_first ((at i).tablets a).log _ (h a) (λ v c n is.
    let term : t ≡ v = (let same : kinds.Write t client number ≡ kinds.Write v c n = is in cc) in
    subst (λ (x : ℕ). HasRow ((at i).tablets a).log x) term (row_of_primary ((at i).tablets a) t stand ((trace.sound i).tablets a).own_row))
first_step rules config at trace i a _ (WritesLocal me found up) h = more_first ((at i).tablets a).log _ (h a) (λ t client number wrong. absurd (cc))
first_step rules config at trace i a _ (Hears l term index source posted stand) h = h a
first_step rules config at trace i a _ (Promises v t le more within) h = h a
first_step rules config at trace i a _ GoesDown h = h a
first_step rules config at trace i a _ (ComesUp down) h = h a

first_stepped : (rules : Rules) (config : Config) (at : ℕ → World) → Trace rules config at → (i : ℕ) (a : Alias) (t : TabletState)
    → TabletStep config.tablets (at i).post a ((at i).tablets a) t → ((b : Alias) → RowsFirst ((at i).tablets b).log) → RowsFirst t.log
first_stepped rules config at trace i a _ (Plainly move) h = first_step rules config at trace i a _ move h
first_stepped rules config at trace i a _ (Returning move) h = first_step rules config at trace i a _ move h

pub rows_first : (rules : Rules) (config : Config) (at : ℕ → World) → Trace rules config at → (i : ℕ) (a : Alias) → RowsFirst ((at i).tablets a).log
rows_first rules config at trace zero a n t client number e here is =
    absurd (let none : None ≡ Some e = ap (λ (s : TabletState). slice_get s.log n) (sym (trace.blank a)) ∙ here in cc)
rows_first rules config at trace (suc i) a n t client number e here is =
    first_stepped rules config at trace i a ((at (suc i)).tablets a) ((trace.move i).tablets a) (λ b. rows_first rules config at trace i b) n t client number e here is

-- ---- what a primary has of its term it has written as its primary

primary_intended : (rules : Rules) (config : Config) (at : ℕ → World) → Trace rules config at → (i : ℕ) (a : Alias) (t : ℕ) → ((at i).tablets a).stand ≡ stands.Primary t
    → IsIntended (at i).topo t a
primary_intended rules config at trace i a t stand =
    let own = own_rows rules config at trace i a t stand in ((trace.sound i).rows a own.0 own.1 t a own.2 own.3).intended

-- at an earlier step the entry came into the log of the tablet, which stood as the primary of the term then
pub record WroteIt (at : ℕ → World) (i : ℕ) (a : Alias) (t : ℕ) (e : Entry) : Type 0 where
  pub step : ℕ
  pub earlier : step < i
  pub added : ((at (suc step)).tablets a).log ≡ ((at step).tablets a).log ++ e ∷ []
  pub stands : ((at (suc step)).tablets a).stand ≡ stands.Primary t

abbrev Wrote : (ℕ → World) → ℕ → Alias → TabletState → Type 0
Wrote at i a s = (t n : ℕ) (e : Entry) → s.stand ≡ stands.Primary t → slice_get s.log n ≡ Some e → IsOfTerm t e.kind → WroteIt at i a t e

wrote_later : (at : ℕ → World) (i : ℕ) (a : Alias) (t : ℕ) (e : Entry) → WroteIt at i a t e → WroteIt at (suc i) a t e
wrote_later at i a t e h = let low = h.earlier in record { step = h.step; earlier = omega (arith, low); added = h.added; stands = h.stands }

-- the log has the row of the term of each of its entries of a term
row_of_entry : (log : List Entry) (n t : ℕ) (e : Entry) (k : Kind) → RowsFirst log → slice_get log n ≡ Some e → e.kind ≡ k → IsOfTerm t k → HasRow log t
row_of_entry log n t e (kinds.Write v client number) first here kind of_term =
    let before = first n v client number e here kind in
    record { place = before.place; row = before.row; named = before.named; there = before.there; is_row = before.is_row ∙ ap (λ (x : ℕ). kinds.Row x before.named) of_term }
row_of_entry log n t e (kinds.Row v c) first here kind of_term =
    record { place = n; row = e; named = c; there = here; is_row = kind ∙ ap (λ (x : ℕ). kinds.Row x c) of_term }
row_of_entry log n t e kinds.Local first here kind of_term = absurd of_term

primary_is : (t u : ℕ) → stands.Primary t ≡ stands.Primary u → t ≡ u
primary_is t u h = cc

wrote_step : (rules : Rules) (config : Config) (at : ℕ → World) → Trace rules config at → (i : ℕ) (a : Alias) (s : TabletState) → ((at (suc i)).tablets a) ≡ s
    → TightMove config.tablets (at i).post a ((at i).tablets a) s → Wrote at i a ((at i).tablets a) → Wrote at (suc i) a s
wrote_step rules config at trace i a _ then Stays h t n e stand here of_term = wrote_later at i a t e (h t n e stand here of_term)
wrote_step rules config at trace i a _ then (Sees v le) h t n e stand here of_term = wrote_later at i a t e (h t n e stand here of_term)
wrote_step rules config at trace i a _ then (Stops l c v posted le) h t n e stand here of_term = absurd (let wrong : stands.Stopped ≡ stands.Primary t = stand in cc)
wrote_step rules config at trace i a _ then (Demotes l c v me posted found le own) h t n e stand here of_term = absurd (cc)
wrote_step rules config at trace i a _ then (Joins l c v w source p posted le new inside) h t n e stand here of_term = absurd (cc)
wrote_step rules config at trace i a _ then (Serves l c v posted le promised was) h t n e stand here of_term = absurd (let wrong : stands.Feeder v ≡ stands.Primary t = stand in cc)
wrote_step rules config at trace i a _ then (Enters l c v p me posted found le none caught) h t n e stand here of_term =
    of_cases (slice_get-push_cases ((at i).tablets a).log (record { gtid = next_gtid me.server ((at i).tablets a).log; kind = kinds.Row v me.alias }) e n here)
  where
    term : v ≡ t
    term = primary_is v t stand

    of_cases : (slice_get ((at i).tablets a).log n ≡ Some e)
        ⊎ ((n ≡ length ((at i).tablets a).log) × ((let x : Entry = record { gtid = next_gtid me.server ((at i).tablets a).log; kind = kinds.Row v me.alias } in x) ≡ e)) → WroteIt at (suc i) a t e
    of_cases (inl old) =
        let row = row_of_entry ((at i).tablets a).log n t e e.kind (rows_first rules config at trace i a) old refl of_term in
        absurd (false≢true (sym none ∙ subst (λ (x : ℕ). has_row ((at i).tablets a).log x ≡ true) (sym term) (row_tested ((at i).tablets a).log t row)))
    of_cases (inr last) = record {
      step = i;
      earlier = omega arith;
      added = ap (λ (x : TabletState). x.log) then ∙ ap (λ (x : Entry). ((at i).tablets a).log ++ x ∷ []) last.1;
      stands = ap (λ (x : TabletState). x.stand) then ∙ stand;
    }
wrote_step rules config at trace i a _ then (Takes l term before index source x posted was fresh) h t n e stand here of_term = absurd (cc)
wrote_step rules config at trace i a _ then (Skips l term before index source x posted was held) h t n e stand here of_term = absurd (cc)
wrote_step rules config at trace i a _ then (Writes me v client number found was) h t n e stand here of_term =
    of_cases (slice_get-push_cases ((at i).tablets a).log (record { gtid = next_gtid me.server ((at i).tablets a).log; kind = kinds.Write v client number }) e n here)
  where
    of_cases : (slice_get ((at i).tablets a).log n ≡ Some e)
        ⊎ ((n ≡ length ((at i).tablets a).log) × ((let x : Entry = record { gtid = next_gtid me.server ((at i).tablets a).log; kind = kinds.Write v client number } in x) ≡ e)) → WroteIt at (suc i) a t e
    of_cases (inl old) = wrote_later at i a t e (h t n e stand old of_term)
    of_cases (inr last) = record {
      step = i;
      earlier = omega arith;
      added = ap (λ (x : TabletState). x.log) then ∙ ap (λ (x : Entry). ((at i).tablets a).log ++ x ∷ []) last.1;
      stands = ap (λ (x : TabletState). x.stand) then ∙ stand;
    }
wrote_step rules config at trace i a _ then (WritesLocal me found up) h t n e stand here of_term =
    of_cases (slice_get-push_cases ((at i).tablets a).log (record { gtid = next_gtid me.server ((at i).tablets a).log; kind = kinds.Local }) e n here)
  where
    of_cases : (slice_get ((at i).tablets a).log n ≡ Some e)
        ⊎ ((n ≡ length ((at i).tablets a).log) × ((let x : Entry = record { gtid = next_gtid me.server ((at i).tablets a).log; kind = kinds.Local } in x) ≡ e)) → WroteIt at (suc i) a t e
    of_cases (inl old) = wrote_later at i a t e (h t n e stand old of_term)
    of_cases (inr last) = absurd (subst (λ (x : Entry). IsOfTerm t x.kind) (sym last.1) of_term)
wrote_step rules config at trace i a _ then (Hears l term index source posted was) h t n e stand here of_term = wrote_later at i a t e (h t n e stand here of_term)
wrote_step rules config at trace i a _ then (Promises v w le more within) h t n e stand here of_term = absurd (let wrong : stands.Stopped ≡ stands.Primary t = stand in cc)
wrote_step rules config at trace i a _ then GoesDown h t n e stand here of_term = absurd (let wrong : stands.Down ≡ stands.Primary t = stand in cc)
wrote_step rules config at trace i a _ then (ComesUp down) h t n e stand here of_term = absurd (let wrong : stands.Stopped ≡ stands.Primary t = stand in cc)

wrote_stepped : (rules : Rules) (config : Config) (at : ℕ → World) → Trace rules config at → (i : ℕ) (a : Alias) (s : TabletState) → ((at (suc i)).tablets a) ≡ s
    → TabletStep config.tablets (at i).post a ((at i).tablets a) s → Wrote at i a ((at i).tablets a) → Wrote at (suc i) a s
wrote_stepped rules config at trace i a _ then (Plainly move) h = wrote_step rules config at trace i a _ then move h
wrote_stepped rules config at trace i a _ then (Returning move) h = λ t n e stand here of_term. absurd (let wrong : stands.Stopped ≡ stands.Primary t = stand in cc)

wrote_it : (rules : Rules) (config : Config) (at : ℕ → World) → Trace rules config at → (i : ℕ) (a : Alias) → Wrote at i a ((at i).tablets a)
wrote_it rules config at trace zero a t n e stand here of_term =
    absurd (let wrong : stands.Stopped ≡ stands.Primary t = ap (λ (s : TabletState). s.stand) (sym (trace.blank a)) ∙ stand in cc)
wrote_it rules config at trace (suc i) a t n e stand here of_term =
    wrote_stepped rules config at trace i a ((at (suc i)).tablets a) refl ((trace.move i).tablets a) (wrote_it rules config at trace i a) t n e stand here of_term

-- ---- an acknowledgement is a vote

accepted_promise : (from : Alias) (term before index : ℕ) (e : Entry) (s : TabletState) → (accepts from term before index e s).state.promised ≡ s.promised
accepted_promise from term before index e s =
    chosen (λ v. v.state.promised ≡ s.promised) (takes_from s.stand from term before) _ _ (λ takes. refl) (λ ignored. refl)

promise_of : (s : TabletState) (from : Alias) (term before : ℕ) → s.stand ≡ stands.Replica from term before → IsPromised s.promised s.stand → s.promised ≡ term
promise_of s from term before stand is = sym (subst (λ (x : Stand). IsPromised s.promised x) stand is)

ack_promise : (rules : Rules) (config : Config) (at : ℕ → World) (j : ℕ) (r p : Alias) (t k : ℕ) (content : Content) → Trace rules config at
    → Sends rules config (at j) (at (suc j)) content → content ≡ contents.Acks r p t k → ((at (suc j)).tablets r).promised ≡ t
ack_promise rules config at j r p t k _ trace (Asks c u a call fits) is = absurd (cc)
ack_promise rules config at j r p t k _ trace (Answers l c u a call me posted found then) is = absurd (cc)
ack_promise rules config at j r p t k _ trace (Acks l term before index from to e posted takes then) is =
    let who : to ≡ r = (let same : contents.Acks to from term index ≡ contents.Acks r p t k = is in cc) in
    let terms : term ≡ t = (let same : contents.Acks to from term index ≡ contents.Acks r p t k = is in cc) in
    let stand = taken_stand ((at j).tablets to).stand from term before takes in
    let promised : ((at (suc j)).tablets to).promised ≡ term =
    ap (λ (s : TabletState). s.promised) then ∙ accepted_promise from term before index e ((at j).tablets to)
    ∙ promise_of ((at j).tablets to) from term before stand ((trace.sound j).tablets to).stands in
    subst (λ (x : Alias). ((at (suc j)).tablets x).promised ≡ t) who (promised ∙ terms)
ack_promise rules config at j r p t k _ trace (Feeds x s v n y stand feeds needs) is = absurd (cc)

-- what stands at a number within what was acknowledged
acked_entry : (log then now : List Entry) (index k : ℕ) (e : Entry) → Follows log then k → IsFront then now → index ≤ k → numbered now index ≡ Some e → IsIn log e
acked_entry log then now zero k e follows front le at = absurd (let none : None ≡ Some e = at in cc)
acked_entry log then now (suc n) k e follows front le at =
    let within = follows.within in
    follows.first n e (omega (arith, le)) (get_back then now n e front (omega (arith, le, within)) at)

-- a vote, with the row of its term
pub record FullVote (at : ℕ → World) (i : ℕ) (a : Alias) (t : ℕ) (e : Entry) : Type 0 where
  pub step : ℕ
  pub earlier : step < i
  pub vote : IsVote at step a t e
  pub row : HasRow ((at (suc step)).tablets a).log t

-- what a log had at a step, in a log by its length
was_there : (then now : List Entry) (index k : ℕ) (e : Entry) → IsFront then now → index ≤ k → k ≤ length then → numbered now index ≡ Some e → numbered then index ≡ Some e
was_there then now zero k e front le within at = absurd (let none : None ≡ Some e = at in cc)
was_there then now (suc n) k e front le within at = get_back then now n e front (omega (arith, le, within)) at

ack_voted : (rules : Rules) (config : Config) (at : ℕ → World) → Trace rules config at → (i n : ℕ) (r p : Alias) (t k index row : ℕ) (e row_entry : Entry)
    → IsPosted (at i).post n (contents.Acks r p t k) → index ≤ k → row < index → numbered ((at i).tablets p).log index ≡ Some e
    → slice_get ((at i).tablets p).log row ≡ Some row_entry → row_entry.kind ≡ kinds.Row t p → FullVote at i r t e
ack_voted rules config at trace i n r p t k index row e row_entry posted le before at_entry at_row is =
    let sent = was_sent rules config at trace i n (contents.Acks r p t k) posted in
    let follows : Follows ((at (suc sent.step)).tablets r).log ((at (suc sent.step)).tablets p).log k =
    subst (λ (x : Content). Says (at (suc sent.step)) x) sent.posted.carries ((trace.closed (suc sent.step)).post n sent.posted.message sent.posted.at) in
    let low = sent.earlier in
    let front = logs_later rules config at trace p (suc sent.step) i (omega (arith, low)) in
    let within = follows.within in
    let row_then = get_back ((at (suc sent.step)).tablets p).log ((at i).tablets p).log row row_entry front (omega (arith, le, before, within)) at_row in
    let row_in = follows.first row row_entry (omega (arith, le, before)) row_then in
    record {
      step = sent.step;
      earlier = low;
      vote = record {
        votes = ByAck n k index row p row_entry sent.new sent.posted le (was_there _ _ index k e front le within at_entry) row_then is;
        held = acked_entry _ _ _ index k e follows front le at_entry;
        promised = ack_promise rules config at sent.step r p t k (contents.Acks r p t k) trace sent.sends refl;
      };
      row = record { place = row_in.0; row = row_entry; named = p; there = row_in.1; is_row = is };
    }

-- ---- what is told is voted for

in_log : (log : List Entry) (index : ℕ) (e : Entry) → numbered log index ≡ Some e → IsIn log e
in_log log zero e h = absurd (let none : None ≡ Some e = h in cc)
in_log log (suc n) e h = (n, h)

has_some : (o : ℕ) (index : ℕ) (log : List Entry) (e : Entry) → numbered log index ≡ Some e → index ≤ o → (k : ℕ) × (o ≡ suc k) × (index ≤ suc k)
has_some zero index log e at le =
    let none : index ≡ 0 = omega (arith, le) in absurd (let wrong : None ≡ Some e = ap (λ (n : ℕ). numbered log n) (sym none) ∙ at in cc)
has_some (suc k) index log e at le = (k, refl, le)

primary_promise : (s : TabletState) (t : ℕ) → s.stand ≡ stands.Primary t → IsPromised s.promised s.stand → s.promised ≡ t
primary_promise s t stand is = sym (subst (λ (x : Stand). IsPromised s.promised x) stand is)

eligible_of : (rules : Rules) (o : Option Tablet) (me : Tablet) → o ≡ Some me → may_lead rules o ≡ true → is_eligible rules me ≡ true
eligible_of rules o me is h = subst (λ (x : Option Tablet). may_lead rules x ≡ true) is h

-- of an entry of the term, the row stands there or before
row_at_or_before : (log : List Entry) (index t n : ℕ) (e row : Entry) (p : Alias) (k : Kind) → RowsFirst log → numbered log index ≡ Some e → e.kind ≡ k → IsOfTerm t k
    → slice_get log n ≡ Some row → row.kind ≡ kinds.Row t p
    → ((m : ℕ) (x : Entry) (c : Alias) → slice_get log m ≡ Some x → x.kind ≡ kinds.Row t c → m ≡ n) → n < index
row_at_or_before log zero t n e row p k first at kind of_term there is only = absurd (let none : None ≡ Some e = at in cc)
row_at_or_before log (suc i) t n e row p (kinds.Write v client number) first at kind of_term there is only =
    let before = first i v client number e at kind in
    let same = only before.place before.row before.named before.there (before.is_row ∙ ap (λ (x : ℕ). kinds.Row x before.named) of_term) in
    let low = before.less in
    omega (arith, same, low)
row_at_or_before log (suc i) t n e row p (kinds.Row v c) first at kind of_term there is only =
    let same = only i e c at (kind ∙ ap (λ (x : ℕ). kinds.Row x c) of_term) in omega (arith, same)
row_at_or_before log (suc i) t n e row p kinds.Local first at kind of_term there is only = absurd of_term

-- the log of the tablet that a term intends has one row of it
not_twice : (rules : Rules) (config : Config) (at : ℕ → World) → Trace rules config at → (i : ℕ) (a : Alias) (t k l : ℕ) (e f : Entry) (g h : Alias) → k < l
    → IsIntended (at i).topo t a → slice_get ((at i).tablets a).log k ≡ Some e → e.kind ≡ kinds.Row t g → slice_get ((at i).tablets a).log l ≡ Some f
    → f.kind ≡ kinds.Row t h → ⊥
not_twice rules config at trace i a t k l e f g h less intended at_e is_e at_f is_f =
    let named : h ≡ a = one_intent (at i) t h a ((trace.sound i).rows a l f t h at_f is_f).intended intended in
    let came = was_added rules config at trace i a l f at_f in
    let low = came.earlier in
    let place = came.place in
    let entered = is_entered rules config at trace i t a ((at came.step).tablets a).log
    (record { step = came.step; within = omega (arith, low); row = f; base_is = refl; added = came.added; is_row = is_f ∙ ap (λ (x : Alias). kinds.Row t x) named }) in
    let there = get_back ((at came.step).tablets a).log ((at i).tablets a).log k e (logs_later rules config at trace a came.step i (omega (arith, low)))
    (omega (arith, less, place)) at_e in
    false≢true (sym entered.none ∙ row_tested ((at came.step).tablets a).log t (record { place = k; row = e; named = g; there = there; is_row = is_e }))

one_row : (rules : Rules) (config : Config) (at : ℕ → World) → Trace rules config at → (i : ℕ) (a : Alias) (t n m : ℕ) (x y : Entry) (c d : Alias) → IsIntended (at i).topo t a
    → slice_get ((at i).tablets a).log n ≡ Some x → x.kind ≡ kinds.Row t c → slice_get ((at i).tablets a).log m ≡ Some y → y.kind ≡ kinds.Row t d → n ≡ m
one_row rules config at trace i a t n m x y c d intended at_x is_x at_y is_y = of_order (nat_lt n m) (nat_lt m n) refl refl
  where
    of_order : (b q : Bool) → nat_lt n m ≡ b → nat_lt m n ≡ q → n ≡ m
    of_order true q less other = absurd (not_twice rules config at trace i a t n m x y c d (let l : n < m = grind (arith, nat_tests) in l) intended at_x is_x at_y is_y)
    of_order false true less other = absurd (not_twice rules config at trace i a t m n y x d c (let l : m < n = grind (arith, nat_tests) in l) intended at_y is_y at_x is_x)
    of_order false false less other = let same : n ≡ m = grind (arith, nat_tests) in same

pub told_votes : (rules : Rules) (config : Config) (at : ℕ → World) → Trace rules config at → (i t : ℕ) (e : Entry) → (tells : IsToldIn rules config (at i) e t)
    → (r : Alias) → holders ((at i).tablets tells.me.alias).acked tells.me.alias tells.index r ≡ true → FullVote at i r t e
told_votes rules config at trace i t e tells r in_set = of_test (alias_eq r tells.me.alias) refl in_set
  where
    p : Alias
    p = tells.me.alias

    s : TabletState
    s = (at i).tablets tells.me.alias

    stand : s.stand ≡ stands.Primary t
    stand = primary_stand s.stand t tells.stands

    own : (n : ℕ) × (row : Entry) × (slice_get s.log n ≡ Some row) × (row.kind ≡ kinds.Row t p)
    own = own_rows rules config at trace i p t stand

    before : own.0 < tells.index
    before =
        row_at_or_before s.log tells.index t own.0 e own.1 p e.kind (rows_first rules config at trace i p) tells.entry refl tells.of_term own.2 own.3
        (λ m x c here is. one_row rules config at trace i p t m own.0 x own.1 c p (primary_intended rules config at trace i p t stand) here is own.2 own.3)

    by_itself : r ≡ p → FullVote at i r t e
    by_itself same =
        let place = in_log s.log tells.index e tells.entry in
        let came = wrote_it rules config at trace i p t place.0 e stand place.1 tells.of_term in
        let low = came.earlier in
        let as_primary = came.stands in
        let row = own_rows rules config at trace (suc came.step) p t as_primary in
        subst (λ (x : Alias). FullVote at i x t e) (sym same) (record {
          step = came.step;
          earlier = low;
          vote = record {
            votes = AsPrimary came.added as_primary;
            held = subst (λ (l : List Entry). IsIn l e) (sym came.added) (length ((at came.step).tablets p).log, at_end ((at came.step).tablets p).log e);
            promised = primary_promise ((at (suc came.step)).tablets p) t as_primary ((trace.sound (suc came.step)).tablets p).stands;
          };
          row = record { place = row.0; row = row.1; named = p; there = row.2; is_row = row.3 };
        })

    by_ack : tells.index ≤ s.acked r → FullVote at i r t e
    by_ack le =
        let some = has_some (s.acked r) tells.index s.log e tells.entry le in
        let posted = noted rules config at trace i p t r some.0 stand some.1 in
        ack_voted rules config at trace i posted.0 r p t (suc some.0) tells.index own.0 e own.1 posted.1 some.2 before tells.entry own.2 own.3

    of_test : (b : Bool) → alias_eq r p ≡ b → (b || nat_le tells.index (s.acked r)) ≡ true → FullVote at i r t e
    of_test true same h = by_itself (alias_eq_is r p same)
    of_test false other h = by_ack (let le : tells.index ≤ s.acked r = grind (arith, nat_tests) in le)

-- the primary of what is told may be promoted
pub told_eligible : (rules : Rules) (config : Config) (at : ℕ → World) → Trace rules config at → (i t : ℕ) (e : Entry) → (tells : IsToldIn rules config (at i) e t)
    → is_eligible rules tells.me ≡ true
told_eligible rules config at trace i t e tells =
    let stand = primary_stand ((at i).tablets tells.me.alias).stand t tells.stands in
    let own = own_rows rules config at trace i tells.me.alias t stand in
    let promoted = row_promoted rules config at trace i tells.me.alias own.0 t own.1 tells.me.alias own.2 own.3 in
    eligible_of rules (tablet_of config.tablets tells.me.alias) tells.me tells.found
    (is_entered rules config at trace i t tells.me.alias promoted.base promoted.promotes).ground.eligible

pub told_is_voted : (rules : Rules) (config : Config) (at : ℕ → World) → Trace rules config at → (last : ℕ) (e : Entry) (t : ℕ) → ToldBy rules config at last e t
    → IsVotedFor (story_of rules config at last) e t
told_is_voted rules config at trace last e t told = record {
  primary = told.tells.me;
  declared = found_in _ config.tablets told.tells.me told.tells.found;
  eligible = told_eligible rules config at trace told.step t e told.tells;
  intended = intended_later rules config at trace told.step last t told.tells.me.alias told.within
      (primary_intended rules config at trace told.step told.tells.me.alias t (primary_stand ((at told.step).tablets told.tells.me.alias).stand t told.tells.stands));
  set = holders ((at told.step).tablets told.tells.me.alias).acked told.tells.me.alias told.tells.index;
  accepted = told.tells.told;
  voted = λ r in_set.
      let full = told_votes rules config at trace told.step t e told.tells r in_set in
      record { step = suc full.step; held = full.vote.held; row = full.row; promised = full.vote.promised };
}

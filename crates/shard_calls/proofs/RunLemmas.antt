-- The laws of every history.
use Rattle.std.proofs.Common.{◌≡◌, ℕ, zero, suc, ◌≤◌, ◌<◌, Bool, true, false, ◌||◌, ◌==◌, nat_lt, refl, ap, sym, subst, ◌∙◌, arith, List, [], ◌∷◌, ◌++◌, cond, take, Option, Some, None, unwrap_or}
use Rattle.std.proofs.lemmas.Bool.{false≢true}
use Rattle.std.proofs.lemmas.Bool.Decides.{nat_tests}
use Rattle.std.specs.List.{slice_get}
use Rattle.shard_base.specs.Lists.{IsFront}
use Rattle.shard_base.specs.Options.{◌>>=◌, only_if}
use Rattle.shard_names.specs.declared.alias.Alias.{Alias}
use Rattle.shard_names.specs.declared.tablet.Tablet.{Tablet}
use Rattle.gtid_sets.specs.declared.entry.Entry.{Entry}
use Rattle.gtid_sets.specs.declared.entry.Kind.{Kind}
use Rattle.gtid_sets.specs.declared.entry.Kind.TheVariants as kinds
use Rattle.topo_lock.specs.declared.intent.Intent.{Intent}
use Rattle.topo_lock.specs.Topology.{Topology, fresh, intent_of}
use Rattle.topo_lock.specs.Moves.{TopoMove, TopoMoves, Rests, Goes}
use Rattle.topo_lock.proofs.MoveLemmas.{term_never_falls_over_steps, intent_of_term_stays_over_steps, one_intent_a_term}
use Rattle.shard_calls.specs.declared.answer.Answer.TheVariants as says
use Rattle.shard_calls.specs.declared.call.Call.TheVariants as calls
use Rattle.shard_calls.specs.declared.event.Event.{Event}
use Rattle.shard_calls.specs.declared.event.Event.TheVariants as events
use Rattle.shard_calls.specs.declared.event.Reply.{Reply}
use Rattle.shard_calls.specs.declared.event.Reply.TheVariants as replies
use Rattle.shard_calls.specs.declared.event.Step.{Step}
use Rattle.shard_calls.specs.declared.post.Content.TheVariants as contents
use Rattle.shard_calls.specs.declared.post.Message.{Message}
use Rattle.shard_calls.specs.declared.stand.Stand.{Stand}
use Rattle.shard_calls.specs.declared.state.CommandState.{CommandState}
use Rattle.shard_calls.specs.declared.state.Wrote.{Wrote}
use Rattle.shard_calls.specs.declared.stand.Stand.TheVariants as stands
use Rattle.shard_calls.specs.Stands.{is_primary_of}
use Rattle.gtid_sets.specs.Position.{Position, covers}
use Rattle.gtid_sets.specs.Logs.{position_of, row_term, is_row_of, has_row}
use Rattle.shard_calls.specs.declared.group.Group.{Group}
use Rattle.shard_calls.specs.Tablets.{TabletState, answer_to, is_row_told}
use Rattle.shard_calls.specs.Laws.{HasItsRow}
use Rattle.shard_calls.specs.World.{Config, IsConfig, World, opening, numbered, open_command}
use Rattle.shard_calls.specs.Messages.{is_told_at}
use Rattle.shard_calls.specs.Writes.{tell_of, tell_reply}
use Rattle.shard_calls.specs.Table.{after, IsStep, IsRunFrom, IsRun, world_after}
use Rattle.shard_calls.specs.Promotions.{world_at, IsNewIn, IsPromotion, OnePromotion, PromotesIntended, TellsAt, ToWrite, ToWait, IsWriteOf, IsToldBy, told_at, KeepsTold}
use Rattle.shard_calls.specs.Answered.{AnswersHaveCauses, first_of, first_settling, OutcomesAreSteps}
use Rattle.shard_calls.specs.RunLaws.{OfEveryShard, OneEntry, LogsAreClosed, AcksAreHeld, NotedIsHeld, OfEveryRun, TabletsMove, TopologyMoves, TabletsAreSound, TermNeverFalls, OneIntent, LogsOnlyGrow}
use Rattle.shard_calls.specs.declared.analysis.Finding.{Finding}
use Rattle.shard_calls.specs.declared.ending.CommandAnswer.{CommandAnswer}
use Rattle.shard_calls.specs.declared.ending.CommandAnswer.TheVariants as ends
use Rattle.shard_calls.specs.declared.ending.NotJoined.{NotJoined}
use Rattle.shard_calls.specs.declared.ending.Rest.{Rest}
use Rattle.shard_calls.specs.declared.ending.Rest.TheVariants as lines
use Rattle.gtid_sets.specs.declared.gtid.Gtid.{Gtid}
use Rattle.shard_calls.specs.Causes.{has_cause}
use Rattle.shard_calls.proofs.ActLemmas.{if_open_is}
use Rattle.shard_calls.proofs.CauseLemmas.{committed_is_written, IsRowThere, promoted_has_row, watched_has_row}
use Rattle.shard_calls.proofs.WroteLemmas.{wrote_in, WroteFits, AllWroteFits, wrote_after, wrote_opening}
use Rattle.shard_calls.proofs.ToldLemmas.{IsTellingWorld, telling_after, telling_opening, row_longer}
use Rattle.shard_calls.proofs.LawLemmas.{chosen}
use Rattle.shard_calls.proofs.TouchLemmas.{touched, topo_moves}
use Rattle.shard_calls.proofs.LogChangeLemmas.{LogChange, SameLog, RowEnters, EntryComes, OwnEntry, log_changes, stays, last_is, no_row}
use Rattle.shard_calls.proofs.WorldLemmas.{IsIntended, intends_it, Fits, IsSoundWorld, get_front}
use Rattle.shard_calls.proofs.EntryLemmas.{or_left, or_right, held_gtid, IsUniqueWorld, one_entry, unique_after, unique_opening}
use Rattle.shard_calls.proofs.ClosureLemmas.{Says, IsClosedWorld}
use Rattle.shard_calls.proofs.ClosedLemmas.{closed_after, closed_opening}
use Rattle.shard_calls.proofs.StepLemmas.{tablet_moves, is_later, sound_after}
use Rattle.shard_calls.proofs.MoveLemmas.{whole, further}
use Rattle.shard_calls.specs.declared.post.Settled.{Settled}
use Rattle.shard_calls.proofs.SettleLemmas.{settled_in}
use Rattle.shard_calls.proofs.OutcomeLemmas.{outcomes_along}

-- ---- runs, step by step

sound_opening : (config : Config) → IsSoundWorld (opening config)
sound_opening config = record {
  tablets = λ a. record { seen = omega arith; stands = tt; rows = omega arith; own_row = tt; demoted = tt; waits = tt };
  topo = Rests;
  post = λ n m here. absurd (nothing_sent n m here);
  rows = λ a n e u c at is. absurd (let none : None ≡ Some e = at in cc);
}
  where
    nothing_sent : (n : ℕ) (m : Message) → numbered [] n ≡ Some m → ⊥
    nothing_sent zero m here = let none : None ≡ Some m = here in cc
    nothing_sent (suc n) m here = let none : None ≡ Some m = here in cc

sound_along : (config : Config) (w : World) (ss : List Step) (i : ℕ) → IsRunFrom config w ss → IsSoundWorld w → IsSoundWorld (world_after config w (take i ss))
sound_along config w [] zero run sound = sound
sound_along config w [] (suc i) run sound = sound
sound_along config w (s ∷ ss) zero run sound = sound
sound_along config w (s ∷ ss) (suc i) run sound = sound_along config (after config w s.event) ss i run.1 (sound_after config w s.event run.0.met sound)

sound_whole : (config : Config) (w : World) (ss : List Step) → IsRunFrom config w ss → IsSoundWorld w → IsSoundWorld (world_after config w ss)
sound_whole config w [] run sound = sound
sound_whole config w (s ∷ ss) run sound = sound_whole config (after config w s.event) ss run.1 (sound_after config w s.event run.0.met sound)

pub step_along : (config : Config) (w : World) (ss : List Step) (i : ℕ) (s : Step) → IsRunFrom config w ss → slice_get ss i ≡ Some s
    → IsStep config (world_after config w (take i ss)) s
step_along config w [] i s run here = absurd (let none : None ≡ Some s = here in cc)
step_along config w (x ∷ ss) zero s run here =
    let same : x ≡ s = (let some : Some x ≡ Some s = here in cc) in subst (λ (y : Step). IsStep config w y) same run.0
step_along config w (x ∷ ss) (suc i) s run here = step_along config (after config w x.event) ss i s run.1 here

pub next_world : (config : Config) (w : World) (ss : List Step) (i : ℕ) (s : Step) → slice_get ss i ≡ Some s
    → world_after config w (take (suc i) ss) ≡ after config (world_after config w (take i ss)) s.event
next_world config w [] i s here = absurd (let none : None ≡ Some s = here in cc)
next_world config w (x ∷ ss) zero s here =
    let same : x ≡ s = (let some : Some x ≡ Some s = here in cc) in ap (λ (y : Step). after config w y.event) same
next_world config w (x ∷ ss) (suc i) s here = next_world config (after config w x.event) ss i s here

-- ---- what one world has, later ones have

pub record IsAfter (w v : World) : Type 0 where
  pub topo : TopoMoves w.topo v.topo
  pub logs : (a : Alias) → IsFront (w.tablets a).log (v.tablets a).log

itself : (w : World) → IsAfter w w
itself w = record { topo = Rests; logs = λ a. whole (w.tablets a).log }

-- one move before others
before_moves : {s t u : Topology} → TopoMove s t → TopoMoves t u → TopoMoves s u
before_moves m Rests = Goes Rests m
before_moves m (Goes ms last) = Goes (before_moves m ms) last

step_before : (config : Config) (w v : World) (e : Event) → IsSoundWorld w → IsAfter (after config w e) v → IsAfter w v
step_before config w v e sound h = record {
  topo = before_moves (topo_moves config w e) h.topo;
  logs = λ a. further ((is_later config w e sound).logs a) (h.logs a);
}

from_start : (config : Config) (w : World) (ss : List Step) (j : ℕ) → IsRunFrom config w ss → IsSoundWorld w → IsAfter w (world_after config w (take j ss))
from_start config w [] zero run sound = itself w
from_start config w [] (suc j) run sound = itself w
from_start config w (s ∷ ss) zero run sound = itself w
from_start config w (s ∷ ss) (suc j) run sound =
    step_before config w (world_after config (after config w s.event) (take j ss)) s.event sound
    (from_start config (after config w s.event) ss j run.1 (sound_after config w s.event run.0.met sound))

between : (config : Config) (w : World) (ss : List Step) (i j : ℕ) → IsRunFrom config w ss → IsSoundWorld w → i ≤ j
    → IsAfter (world_after config w (take i ss)) (world_after config w (take j ss))
between config w ss zero j run sound le = from_start config w ss j run sound
between config w ss (suc i) zero run sound le = absurd (omega arith)
between config w [] (suc i) (suc j) run sound le = itself w
between config w (s ∷ ss) (suc i) (suc j) run sound le =
    between config (after config w s.event) ss i j run.1 (sound_after config w s.event run.0.met sound) (omega arith)

sound_at : (config : Config) (ss : List Step) (i : ℕ) → IsRun config ss → IsSoundWorld (world_at config ss i)
sound_at config ss i run = sound_along config (opening config) ss i run (sound_opening config)

pub later_at : (config : Config) (ss : List Step) (i j : ℕ) → IsRun config ss → i ≤ j → IsAfter (world_at config ss i) (world_at config ss j)
later_at config ss i j run le = between config (opening config) ss i j run (sound_opening config) le

-- ---- tablets and topology

pub tablets_move : OfEveryRun TabletsMove
tablets_move config steps run i s a here = tablet_moves config (world_at config steps i) s.event a (sound_at config steps i run)

pub topology_moves : OfEveryRun TopologyMoves
topology_moves config steps run i s here = topo_moves config (world_at config steps i) s.event

pub tablets_are_sound : OfEveryRun TabletsAreSound
tablets_are_sound config steps run a = (sound_whole config (opening config) steps run (sound_opening config)).tablets a

pub term_never_falls : OfEveryRun TermNeverFalls
term_never_falls config steps run i j le = term_never_falls_over_steps _ _ (later_at config steps i j run le).topo

pub one_intent : OfEveryRun OneIntent
one_intent config steps run = one_intent_a_term _ (sound_whole config (opening config) steps run (sound_opening config)).topo

-- ---- promotions

-- the row of the term comes into the log of this tablet, as the term intends and a call asked for it
pub record RowComes (w : World) (a : Alias) (u : ℕ) : Type 0 where
  pub intended : IsIntended w.topo u a
  pub none : has_row (w.tablets a).log u ≡ false
  pub number : ℕ
  pub message : Message
  pub command : ℕ
  pub position : Position
  pub at : numbered w.post number ≡ Some message
  pub carries : message.content ≡ contents.Asks command u a (calls.Promote position)
  pub covered : covers (position_of (w.tablets a).log) position ≡ true

row_comes : (config : Config) (w : World) (a : Alias) (ev : Event) (log before : List Entry) (row : Entry) (u : ℕ) → IsSoundWorld w → LogChange config w a ev log
    → IsNewIn (w.tablets a).log log before row → row.kind ≡ kinds.Row u a → RowComes w a u
row_comes config w a _ _ before row u sound SameLog new is = absurd (stays (w.tablets a).log before row new)
row_comes config w a _ _ before row u sound (RowEnters k d v p me m here carries found none caught) new is =
    let last = last_is (w.tablets a).log before new.rest _ row new.split new.later in
    let kinds_meet : kinds.Row v me.alias ≡ kinds.Row u a = sym (ap (λ (e : Entry). e.kind) last) ∙ is in
    let same : v ≡ u = cc in
    let fits : IsIntended w.topo v a = subst (λ c. Fits w c) carries (sound.post k m here) in
    subst (λ (t : ℕ). RowComes w a t) same
    (record { intended = fits; none = none; number = k; message = m; command = d; position = p; at = here; carries = carries; covered = caught })
row_comes config w a _ _ before row u sound (EntryComes k term behind index from x m here carries takes fresh) new is =
    let last : row ≡ x = last_is (w.tablets a).log before new.rest x row new.split new.later in
    let fed : Fits w (contents.Feeds from a term behind index x) = subst (λ c. Fits w c) carries (sound.post k m here) in
    absurd (at_source index fed.0 (subst (λ (e : Entry). e.kind ≡ kinds.Row u a) last is))
  where
    at_source : (i : ℕ) → numbered (w.tablets from).log i ≡ Some x → x.kind ≡ kinds.Row u a → ⊥
    at_source zero h k = let none : None ≡ Some x = h in cc
    at_source (suc i) h k =
        let home = (sound.rows from i x u a h k).at_home in false≢true (sym fresh ∙ held_gtid (w.tablets a).log home.0 x home.1)
row_comes config w a _ _ before row u sound (OwnEntry me k none found) new is =
    let last = last_is (w.tablets a).log before new.rest _ row new.split new.later in
    absurd (no_row k u a none (sym (ap (λ (e : Entry). e.kind) last) ∙ is))

pub promotion_comes : (config : Config) (ss : List Step) (i u : ℕ) (a : Alias) (before : List Entry) → IsRun config ss → IsPromotion config ss i u a before
    → RowComes (world_at config ss i) a u
promotion_comes config ss i u a before run p =
    row_comes config (world_at config ss i) a p.step.event _ before p.row u (sound_at config ss i run)
    (log_changes config (world_at config ss i) a p.step.event _ (touched config (world_at config ss i) p.step.event a)) p.new p.is_row

pub promotes_intended : OfEveryRun PromotesIntended
promotes_intended config steps run i u a before p = intends_it _ u a (promotion_comes config steps i u a before run p).intended

-- ---- each term promotes once

-- the row that came new is in the log from then on
row_there : (old new before : List Entry) (row : Entry) (u : ℕ) (a : Alias) → IsNewIn old new before row → row.kind ≡ kinds.Row u a → has_row new u ≡ true
row_there old new before row u a h is = subst (λ (l : List Entry). has_row l u ≡ true) (sym h.split) (in_middle before)
  where
    of_row : is_row_of u row ≡ true
    of_row = subst (λ (k : Kind). (elim (row_term k) as (λ _. Bool) [ Some t ↦ t == u | None ↦ false ]) ≡ true) (sym is) (grind (arith, nat_tests))

    in_middle : (es : List Entry) → has_row (es ++ row ∷ h.rest) u ≡ true
    in_middle [] = or_left (is_row_of u row) (has_row h.rest u) of_row
    in_middle (e ∷ es) = or_right (is_row_of u e) (has_row (es ++ row ∷ h.rest) u) (in_middle es)

same_some : (x y : Intent) → Some x ≡ Some y → x ≡ y
same_some x y h = cc

same_intent : (u : ℕ) (a b : Alias) → Some (let x : Intent = record { term = u; alias = a } in x) ≡ Some (let x : Intent = record { term = u; alias = b } in x) → a ≡ b
same_intent u a b h = ap (λ (i : Intent). i.alias) (same_some _ _ h)

-- of two promotions of a term, none comes before the other
not_before : (config : Config) (ss : List Step) (i j u : ℕ) (a b : Alias) (before others : List Entry) → IsRun config ss → i < j
    → IsPromotion config ss i u a before → IsPromotion config ss j u b others → ⊥
not_before config ss i j u a b before others run less p q =
    let first = promotion_comes config ss i u a before run p in
    let second = promotion_comes config ss j u b others run q in
    let stands : intent_of (world_at config ss j).topo u ≡ Some (record { term = u; alias = a }) =
    intent_of_term_stays_over_steps _ _ u (record { term = u; alias = a }) (later_at config ss i j run (omega (arith, less))).topo first.intended.intent in
    let same : a ≡ b = same_intent u a b (sym stands ∙ second.intended.intent) in
    let there : has_row ((after config (world_at config ss i) p.step.event).tablets a).log u ≡ true = row_there _ _ before p.row u a p.new p.is_row in
    let then : has_row ((world_at config ss (suc i)).tablets a).log u ≡ true =
    subst (λ (v : World). has_row (v.tablets a).log u ≡ true) (sym (next_world config (opening config) ss i p.step p.here)) there in
    let still : has_row ((world_at config ss j).tablets a).log u ≡ true =
    row_longer _ _ u ((later_at config ss (suc i) j run (omega (arith, less))).logs a) then in
    let none : has_row ((world_at config ss j).tablets a).log u ≡ false =
    subst (λ (c : Alias). has_row ((world_at config ss j).tablets c).log u ≡ false) (sym same) second.none in
    false≢true (sym none ∙ still)

pub one_promotion : OfEveryRun OnePromotion
one_promotion config ss run i j u a b before others p q = of_order (nat_lt i j) (nat_lt j i) refl refl
  where
    of_order : (x y : Bool) → nat_lt i j ≡ x → nat_lt j i ≡ y → i ≡ j
    of_order true y less other = absurd (not_before config ss i j u a b before others run (let l : i < j = grind (arith, nat_tests) in l) p q)
    of_order false true less other = absurd (not_before config ss j i u b a others before run (let l : j < i = grind (arith, nat_tests) in l) q p)
    of_order false false less other = let same : i ≡ j = grind (arith, nat_tests) in same

-- ---- what is told

-- a row that passes the test
pub row_found : (log : List Entry) (t : ℕ) → has_row log t ≡ true → (n : ℕ) × (e : Entry) × (slice_get log n ≡ Some e) × (is_row_of t e ≡ true)
row_found [] t h = absurd (false≢true h)
row_found (x ∷ log) t h = of_test (is_row_of t x) refl h (λ k. row_found log t k)
  where
    of_test : (b : Bool) → is_row_of t x ≡ b → (b || has_row log t) ≡ true
        → (has_row log t ≡ true → (n : ℕ) × (e : Entry) × (slice_get log n ≡ Some e) × (is_row_of t e ≡ true))
        → (n : ℕ) × (e : Entry) × (slice_get (x ∷ log) n ≡ Some e) × (is_row_of t e ≡ true)
    of_test true is k rest = (0, x, refl, is)
    of_test false is k rest = let r = rest k in (suc r.0, r.1, r.2, r.3)

pub row_kind : (k : Kind) (t : ℕ) → (elim (row_term k) as (λ _. Bool) [ Some u ↦ u == t | None ↦ false ]) ≡ true → (c : Alias) × (k ≡ kinds.Row t c)
row_kind (kinds.Write term client number) t h = absurd (false≢true h)
row_kind (kinds.Row term a) t h = let same : term ≡ t = grind (arith, nat_tests) in (a, ap (λ (u : ℕ). kinds.Row u a) same)
row_kind kinds.Local t h = absurd (false≢true h)

pub own_row : (log : List Entry) (at : Stand) (t : ℕ) → is_primary_of at t ≡ true → HasItsRow log at → has_row log t ≡ true
own_row log stands.Down t is row = absurd (false≢true is)
own_row log stands.Stopped t is row = absurd (false≢true is)
own_row log (stands.Primary u) t is row = let same : u ≡ t = grind (arith, nat_tests) in subst (λ (v : ℕ). has_row log v ≡ true) same row
own_row log (stands.Demoted u by) t is row = absurd (false≢true is)
own_row log (stands.Replica source u next) t is row = absurd (false≢true is)
own_row log (stands.Feeder u) t is row = absurd (false≢true is)

-- where a tablet stands as the primary of a term, this term came first of all
primary_first : (w : World) (a : Alias) (t : ℕ) → IsSoundWorld w → is_primary_of (w.tablets a).stand t ≡ true → (c : Alias) × IsIntended w.topo t c
primary_first w a t sound is =
    let row = row_found (w.tablets a).log t (own_row (w.tablets a).log (w.tablets a).stand t is (sound.tablets a).own_row) in
    let kind = row_kind row.1.kind t row.3 in
    (kind.0, (sound.rows a row.0 row.1 t kind.0 row.2 kind.1).intended)

told_by_write : (b c : Bool) → unwrap_or (cond b (only_if c replies.Told) (Some replies.Gone)) replies.Ok ≡ replies.Told → (b ≡ true) × (c ≡ true)
told_by_write true true h = (refl, refl)
told_by_write true false h = absurd (let nothing : replies.Ok ≡ replies.Told = h in cc)
told_by_write false c h = absurd (let gone : replies.Gone ≡ replies.Told = h in cc)

told_in : (b c : Bool) (at : Stand) → cond b (cond c says.Told says.NotTold) (says.Kept at) ≡ says.Told → (b ≡ true) × (c ≡ true)
told_in true true at h = (refl, refl)
told_in true false at h = absurd (let no_answer : says.NotTold ≡ says.Told = h in cc)
told_in false c at h = absurd (let no_answer : says.Kept at ≡ says.Told = h in cc)

-- a tablet that tells the row of a term stands as the primary of the term, and the row is told there
pub told_by_wait : (g : Group) (me : Tablet) (t until : ℕ) (s : TabletState) → answer_to g me t (calls.WaitTold until) s ≡ says.Told
    → (is_primary_of s.stand t ≡ true) × (is_row_told g me s t ≡ true)
told_by_wait g me t until s =
    chosen (λ v. v.says ≡ says.Told → (is_primary_of s.stand t ≡ true) × (is_row_told g me s t ≡ true)) (nat_lt t s.seen) _ _
    (λ stale h. absurd (let no_answer : says.StaleTerm s.seen ≡ says.Told = h in cc))
    (λ fresh h. told_in (is_primary_of s.stand t) (is_row_told g me s t) s.stand h)

-- so does one that tells a write
pub told_by_tell : (config : Config) (w : World) (c : ℕ) (s : CommandState) (x : Wrote) → IsStep config w (record { event = events.Tell c; reply = replies.Told })
    → numbered w.commands c ≡ Some s → s.wrote ≡ Some x → (is_primary_of (w.tablets x.alias).stand x.term ≡ true) × (is_told_at w x.alias x.index ≡ true)
told_by_tell config w c s x step command wrote =
    let tells : tell_of w c ≡ tell_reply w x =
    ap (λ (o : Option CommandState). o >>= (λ y. y.wrote >>= (λ z. tell_reply w z))) command ∙ ap (λ (o : Option Wrote). o >>= (λ z. tell_reply w z)) wrote in
    let told : unwrap_or (tell_reply w x) replies.Ok ≡ replies.Told = ap (λ (o : Option Reply). unwrap_or o replies.Ok) (sym tells) ∙ sym step.answered in
    told_by_write (is_primary_of (w.tablets x.alias).stand x.term) (is_told_at w x.alias x.index) told

-- the tablet at which a step tells an entry stands as the primary of its term
told_first : (config : Config) (w : World) (s : Step) (e : Entry) (t : ℕ) → IsSoundWorld w → IsStep config w s → TellsAt config w s e t
    → (c : Alias) × IsIntended w.topo t c
told_first config w _ _ _ sound step (ToWrite c s x e command wrote at) =
    primary_first w x.alias x.term sound (told_by_tell config w c s x step command wrote).0
told_first config w _ _ _ sound step (ToWait k n c t until index a me m e here carries found told at_row at) =
    primary_first w a t sound (told_by_wait w.group me t until (w.tablets a) told).0

-- ---- the laws over the tablets of one shard

-- all that holds of a world of a run
pub record IsWhole (config : Config) (w : World) : Type 0 where
  pub sound : IsSoundWorld w
  pub unique : IsUniqueWorld config w
  pub closed : IsClosedWorld w

whole_after : (config : Config) (w : World) (s : Step) → IsConfig config → IsStep config w s → IsWhole config w → IsWhole config (after config w s.event)
whole_after config w s is step h = record {
  sound = sound_after config w s.event step.met h.sound;
  unique = unique_after config w s.event h.sound h.unique;
  closed = closed_after config w s.event is h.sound h.unique h.closed;
}

whole_opening : (config : Config) → IsWhole config (opening config)
whole_opening config = record { sound = sound_opening config; unique = unique_opening config; closed = closed_opening config }

whole_along : (config : Config) (w : World) (ss : List Step) → IsConfig config → IsRunFrom config w ss → IsWhole config w → IsWhole config (world_after config w ss)
whole_along config w [] is run h = h
whole_along config w (s ∷ ss) is run h = whole_along config (after config w s.event) ss is run.1 (whole_after config w s is run.0 h)

whole_run : (config : Config) (ss : List Step) → IsConfig config → IsRun config ss → IsWhole config (world_after config (opening config) ss)
whole_run config ss is run = whole_along config (opening config) ss is run (whole_opening config)

whole_among : (config : Config) (w : World) (ss : List Step) (i : ℕ) → IsConfig config → IsRunFrom config w ss → IsWhole config w
    → IsWhole config (world_after config w (take i ss))
whole_among config w [] zero is run h = h
whole_among config w [] (suc i) is run h = h
whole_among config w (s ∷ ss) zero is run h = h
whole_among config w (s ∷ ss) (suc i) is run h = whole_among config (after config w s.event) ss i is run.1 (whole_after config w s is run.0 h)

pub whole_at : (config : Config) (ss : List Step) (i : ℕ) → IsConfig config → IsRun config ss → IsWhole config (world_at config ss i)
whole_at config ss i is run = whole_among config (opening config) ss i is run (whole_opening config)

pub one_entry_each : OfEveryShard OneEntry
one_entry_each config ss is run = one_entry config (world_after config (opening config) ss) is (whole_run config ss is run).unique

pub logs_are_closed : OfEveryShard LogsAreClosed
logs_are_closed config ss is run = (whole_run config ss is run).closed.closed

pub acks_are_held : OfEveryShard AcksAreHeld
acks_are_held config ss is run k m from to term index here carries =
    (subst (λ c. Says (world_after config (opening config) ss) c) carries ((whole_run config ss is run).closed.post k m here)).first

pub noted_is_held : OfEveryShard NotedIsHeld
noted_is_held config ss is run primary a = (((whole_run config ss is run).closed.tablets primary).noted a).first

-- ---- logs and answers

pub logs_only_grow : OfEveryRun LogsOnlyGrow
logs_only_grow config steps run i j a le = (later_at config steps i j run le).logs a

-- each End is a step, whose condition is that the answer has its cause
pub answers_have_causes : OfEveryRun AnswersHaveCauses
answers_have_causes config ss run i c x here = (step_along config (opening config) ss i (record { event = events.End c x; reply = replies.Ok }) run here).met

-- what is known of what was said and written
pub record IsTruthful (w : World) : Type 0 where
  pub sound : IsSoundWorld w
  pub telling : IsTellingWorld w
  pub wrote : AllWroteFits w

truthful_along : (config : Config) (w : World) (ss : List Step) (i : ℕ) → IsRunFrom config w ss → IsTruthful w → IsTruthful (world_after config w (take i ss))
truthful_along config w [] zero run h = h
truthful_along config w [] (suc i) run h = h
truthful_along config w (s ∷ ss) zero run h = h
truthful_along config w (s ∷ ss) (suc i) run h = truthful_along config (after config w s.event) ss i run.1 (record {
  sound = sound_after config w s.event run.0.met h.sound;
  telling = telling_after config w s.event h.sound h.telling;
  wrote = wrote_after config w s.event h.sound h.wrote;
})

pub truthful_at : (config : Config) (ss : List Step) (i : ℕ) → IsRun config ss → IsTruthful (world_at config ss i)
truthful_at config ss i run =
    truthful_along config (opening config) ss i run
    (record { sound = sound_opening config; telling = telling_opening config; wrote = wrote_opening config })

-- the last world is a later one
to_end : (config : Config) (w : World) (ss : List Step) (i : ℕ) → IsRunFrom config w ss → IsSoundWorld w
    → IsAfter (world_after config w (take i ss)) (world_after config w ss)
to_end config w [] zero run sound = itself w
to_end config w [] (suc i) run sound = itself w
to_end config w (s ∷ ss) zero run sound =
    step_before config w (world_after config (after config w s.event) ss) s.event sound
    (to_end config (after config w s.event) ss 0 run.1 (sound_after config w s.event run.0.met sound))
to_end config w (s ∷ ss) (suc i) run sound = to_end config (after config w s.event) ss i run.1 (sound_after config w s.event run.0.met sound)

-- an entry that an answer tells, in a log
abbrev TellsIn : CommandAnswer → List Entry → Type 0
TellsIn x log = (n : ℕ) × (e : Entry) × IsToldBy x e × (slice_get log n ≡ Some e)

in_place : (x : CommandAnswer) (log : List Entry) (i : ℕ) (e : Entry) → IsToldBy x e → numbered log i ≡ Some e → TellsIn x log
in_place x log zero e told at = absurd (let none : None ≡ Some e = at in cc)
in_place x log (suc n) e told at = (n, e, told, at)

committed_in : (config : Config) (w : World) (c : ℕ) (g : Gtid) (a : Alias) (t : ℕ) → AllWroteFits w → has_cause config w (open_command w c) (ends.Committed g a t) ≡ true
    → TellsIn (ends.Committed g a t) (w.tablets a).log
committed_in config w c g a t fits h =
    let is = committed_is_written config w (open_command w c) g a t h in
    let here : wrote_in (numbered w.commands c) ≡ Some is.wrote =
    ap (λ (o : Option CommandState). wrote_in o) (if_open_is (numbered w.commands c) is.state is.open_is) ∙ is.wrote_is in
    let there : WroteFits w is.wrote = fits c is.wrote here in
    let told : IsToldBy (ends.Committed g a t) there.entry =
    (there.gtid ∙ is.gtid, subst (λ (u : ℕ). IsWriteOf u there.entry.kind) is.term there.write) in
    in_place (ends.Committed g a t) (w.tablets a).log is.wrote.index there.entry told
    (subst (λ (b : Alias). numbered (w.tablets b).log is.wrote.index ≡ Some there.entry) is.alias there.at)

-- the row that a promotion put into the log of its tablet
row_in : (w : World) (a : Alias) (t : ℕ) → IsSoundWorld w → IsRowThere w a t
    → (n : ℕ) × (e : Entry) × (e.kind ≡ kinds.Row t a) × (slice_get (w.tablets a).log n ≡ Some e)
row_in w a t sound is =
    let row = row_found (w.tablets a).log t is.row in
    let kind = row_kind row.1.kind t row.3 in
    let named : IsIntended w.topo t kind.0 = (sound.rows a row.0 row.1 t kind.0 row.2 kind.1).intended in
    let same : kind.0 ≡ a = same_intent t kind.0 a (sym named.intent ∙ is.intended.intent) in
    (row.0, row.1, kind.1 ∙ ap (λ (b : Alias). kinds.Row t b) same, row.2)

promoted_in : (config : Config) (w : World) (c : ℕ) (a : Alias) (t : ℕ) (left : List NotJoined) → IsSoundWorld w → IsTellingWorld w
    → has_cause config w (open_command w c) (ends.Promoted a t left) ≡ true → TellsIn (ends.Promoted a t left) (w.tablets a).log
promoted_in config w c a t left sound telling h = row_in w a t sound (promoted_has_row config w (open_command w c) a t left sound telling h)

-- of a vtorc whose one line is a promotion
watched_in : (config : Config) (w : World) (c : ℕ) (findings : List Finding) (rest : List Rest) (a : Alias) → IsTruthful w
    → has_cause config w (open_command w c) (ends.Vtorc findings rest) ≡ true → told_at (ends.Vtorc findings rest) ≡ Some a
    → TellsIn (ends.Vtorc findings rest) (w.tablets a).log
watched_in config w c findings [] a truth h is = absurd (let none : None ≡ Some a = is in cc)
watched_in config w c findings (lines.Promoted b t left ∷ []) a truth h is =
    let same : b ≡ a = (let some : Some b ≡ Some a = is in cc) in
    subst (λ (d : Alias). TellsIn (ends.Vtorc findings (lines.Promoted b t left ∷ [])) (w.tablets d).log) same
    (row_in w b t truth.sound (watched_has_row config w (open_command w c) findings b t left truth.sound truth.telling h))
watched_in config w c findings (lines.Promoted b t left ∷ x ∷ rest) a truth h is = absurd (let none : None ≡ Some a = is in cc)
watched_in config w c findings (lines.Refused r tried ∷ rest) a truth h is = absurd (let none : None ≡ Some a = is in cc)
watched_in config w c findings (lines.Joined b p ∷ rest) a truth h is = absurd (let none : None ≡ Some a = is in cc)
watched_in config w c findings (lines.Left b why ∷ rest) a truth h is = absurd (let none : None ≡ Some a = is in cc)
watched_in config w c findings (lines.Drained b ∷ rest) a truth h is = absurd (let none : None ≡ Some a = is in cc)

tells_in : (config : Config) (w : World) (c : ℕ) (x : CommandAnswer) (a : Alias) → IsTruthful w → has_cause config w (open_command w c) x ≡ true → told_at x ≡ Some a
    → TellsIn x (w.tablets a).log
tells_in config w c (ends.Promoted b t left) a truth h is =
    let same : b ≡ a = (let some : Some b ≡ Some a = is in cc) in
    subst (λ (d : Alias). TellsIn (ends.Promoted b t left) (w.tablets d).log) same (promoted_in config w c b t left truth.sound truth.telling h)
tells_in config w c (ends.NothingToDo b) a truth h is = absurd (let none : None ≡ Some a = is in cc)
tells_in config w c (ends.Recorded t) a truth h is = absurd (let none : None ≡ Some a = is in cc)
tells_in config w c (ends.Refused refusal tried) a truth h is = absurd (let none : None ≡ Some a = is in cc)
tells_in config w c (ends.Vtorc findings rest) a truth h is = watched_in config w c findings rest a truth h is
tells_in config w c (ends.Committed g b t) a truth h is =
    let same : b ≡ a = (let some : Some b ≡ Some a = is in cc) in
    subst (λ (d : Alias). TellsIn (ends.Committed g b t) (w.tablets d).log) same (committed_in config w c g b t truth.wrote h)
tells_in config w c (ends.NotPrimary b at) a truth h is = absurd (let none : None ≡ Some a = is in cc)
tells_in config w c ends.NoPrimaryRecorded a truth h is = absurd (let none : None ≡ Some a = is in cc)
tells_in config w c (ends.Unknown g b t) a truth h is = absurd (let none : None ≡ Some a = is in cc)
tells_in config w c (ends.Shown b at p) a truth h is = absurd (let none : None ≡ Some a = is in cc)
tells_in config w c (ends.Shard shard recorded) a truth h is = absurd (let none : None ≡ Some a = is in cc)
tells_in config w c (ends.Tablets rows) a truth h is = absurd (let none : None ≡ Some a = is in cc)

pub keeps_told : OfEveryRun KeepsTold
keeps_told config ss run i x a ended is =
    let cause = answers_have_causes config ss run i ended.0 x ended.1 in
    let there = tells_in config (world_at config ss i) ended.0 x a (truthful_at config ss i run) cause is in
    let front = (to_end config (opening config) ss i run (sound_opening config)).logs a in
    (there.0, there.1, there.2, get_front _ _ there.0 there.1 front there.3)

nothing_first : (k : ℕ) → settled_in (numbered [] k) ≡ None
nothing_first zero = refl
nothing_first (suc n) = refl

pub outcomes_are_steps : OfEveryRun OutcomesAreSteps
outcomes_are_steps config ss run k m here =
    ap (λ (o : Option Message). settled_in o) (sym here)
    ∙ outcomes_along config (opening config) ss k run (sound_opening config) (telling_opening config)
    ∙ ap (λ (o : Option Settled). first_of o (first_settling config (opening config) k ss)) (nothing_first k)

-- Messages stay such as their receivers can take.
use Rattle.std.proofs.Common.{◌≡◌, ℕ, zero, suc, ◌+◌, ◌≤◌, ◌==◌, inl, inr, List, [], Bool, true, false, not, ◌&&◌, ◌||◌, nat_lt, nat_le, cond, Option, Some, None, unwrap_or, map, length, refl, ap, sym, subst, ◌∙◌, arith}
use Rattle.std.specs.List.{AllByRecursion}
use Rattle.std.proofs.lemmas.Bool.{false≢true}
use Rattle.std.proofs.lemmas.Bool.Decides.{nat_tests}
use Rattle.shard_names.specs.declared.alias.Alias.{Alias}
use Rattle.shard_names.specs.declared.tablet.Tablet.{Tablet}
use Rattle.shard_names.specs.Tablets.{alias_eq, is_declared, AliasesRise}
use Rattle.shard_names.proofs.TabletLemmas.{both_left, both_right}
use Rattle.gtid_sets.specs.Position.{covers}
use Rattle.gtid_sets.specs.declared.entry.Kind.TheVariants as kinds
use Rattle.shard_calls.specs.declared.answer.Answer.{Answer}
use Rattle.shard_calls.specs.declared.call.Call.{Call}
use Rattle.shard_calls.specs.declared.call.Call.TheVariants as calls
use Rattle.shard_calls.specs.declared.event.Event.{Event}
use Rattle.shard_calls.specs.declared.event.Reply.{Reply}
use Rattle.shard_calls.specs.declared.outcome.Written.{Written}
use Rattle.shard_calls.specs.declared.outcome.Written.TheVariants as written
use Rattle.shard_calls.specs.declared.post.Content.{Content}
use Rattle.shard_calls.specs.declared.post.Content.TheVariants as contents
use Rattle.shard_calls.specs.declared.post.Message.{Message}
use Rattle.shard_calls.specs.declared.stand.Stand.{Stand}
use Rattle.shard_calls.specs.declared.stand.Stand.TheVariants as stands
use Rattle.shard_calls.specs.declared.state.CommandState.{CommandState}
use Rattle.shard_calls.specs.declared.group.Group.{Group}
use Rattle.gtid_sets.specs.Logs.{has_row, newest_row_names, position_of}
use Rattle.shard_calls.specs.Stands.{is_down, is_stopped, is_primary_of, is_replica_in, is_feeder_in, primary_term, takes_from, waits_for}
use Rattle.shard_calls.specs.Tablets.{TabletState, Verdict, after_call, in_term, only_says, stops, demotes, promotes, joins, feeds, waits_for_position, waits_told, writes_own}
use Rattle.shard_calls.specs.World.{Config, World, group_of, opening, numbered, open_command, term_in}
use Rattle.shard_calls.specs.Locks.{by_term}
use Rattle.shard_calls.specs.Deliveries.{may_send, may_ask_in, asks_status}
use Rattle.shard_calls.specs.Table.{Met, change}
use Rattle.shard_calls.proofs.LawLemmas.{chosen}
use Rattle.shard_calls.proofs.PostLemmas.{Sent, Asked, Replied, Acked, Offered, PostCases, post_cases}
use Rattle.shard_calls.proofs.TouchLemmas.{Touched, Untouched, Called, Fed, Heard, WrittenBy, WrittenLocal, Crashed, Restarted, touched}
use Rattle.shard_state.specs.State.{Data, group_in, groups_in, tablets_of}
use Rattle.changes.specs.Sound.{FitsCall, NamesSource, IsSoundContent, HasSource, AreSound, Fits}
use Rattle.changes.specs.Makes.{Makes}
use Rattle.changes.proofs.MarkLaws.{marks_after}
use Rattle.changes.proofs.OfferLemmas.{offered}

-- ---- what is sent

not_false : (b : Bool) → not b ≡ true → b ≡ false
not_false true h = absurd (false≢true h)
not_false false h = refl

asked_in : (config : Config) (w : World) (c : ℕ) (a : Alias) (call : Call) (u : ℕ) → may_ask_in config w c a call u ≡ true → FitsCall a u call × NamesSource config call
asked_in config w c a calls.Status u met = (tt, tt)
asked_in config w c a calls.Stop u met = (tt, tt)
asked_in config w c a calls.Demote u met = (tt, tt)
asked_in config w c a (calls.Promote p) u met = (tt, tt)
asked_in config w c a (calls.SetSource source t p) u met =
    let front : (is_declared config.tablets source && not (alias_eq source a)) ≡ true = both_left (is_declared config.tablets source && not (alias_eq source a)) (nat_le t u) met in
    let low : t ≤ u = (let test : nat_le t u ≡ true = both_right (is_declared config.tablets source && not (alias_eq source a)) (nat_le t u) met in grind (arith, nat_tests)) in
    ((not_false (alias_eq source a) (both_right (is_declared config.tablets source) (not (alias_eq source a)) front), low), both_left (is_declared config.tablets source) (not (alias_eq source a)) front)
asked_in config w c a calls.Feed u met = (tt, tt)
asked_in config w c a (calls.WaitFor p until) u met = (tt, tt)
asked_in config w c a (calls.WaitTold until) u met = (tt, tt)

no_term : (config : Config) (a : Alias) (call : Call) → asks_status call ≡ true → FitsCall a 0 call × NamesSource config call
no_term config a calls.Status is = (tt, tt)
no_term config a calls.Stop is = absurd (false≢true is)
no_term config a calls.Demote is = absurd (false≢true is)
no_term config a (calls.Promote p) is = absurd (false≢true is)
no_term config a (calls.SetSource source t p) is = absurd (false≢true is)
no_term config a calls.Feed is = absurd (false≢true is)
no_term config a (calls.WaitFor p until) is = absurd (false≢true is)
no_term config a (calls.WaitTold until) is = absurd (false≢true is)

asked_term : (config : Config) (w : World) (c : ℕ) (a : Alias) (call : Call) (t : Option ℕ) → by_term t (asks_status call) (may_ask_in config w c a call) ≡ true
    → FitsCall a (unwrap_or t 0) call × NamesSource config call
asked_term config w c a call None met = no_term config a call met
asked_term config w c a call (Some u) met = asked_in config w c a call u met

asked_fits : (config : Config) (w : World) (c : ℕ) (a : Alias) (call : Call) (o : Option CommandState) → may_send config w c a call o ≡ true
    → FitsCall a (unwrap_or (term_in o) 0) call × NamesSource config call
asked_fits config w c a call None met = absurd (false≢true met)
asked_fits config w c a call (Some s) met = asked_term config w c a call s.term met

carried : (config : Config) (w : World) (k : ℕ) (m : Message) (c : Content) → AreSound config w → numbered w.post k ≡ Some m → m.content ≡ c → IsSoundContent config c
carried config w k m c sound here carries = subst (λ (x : Content). IsSoundContent config x) carries (sound.post k m here)

sent_sound : (config : Config) (w : World) (e : Event) (content : Content) → Met config w e → AreSound config w → Sent config w e content → IsSoundContent config content
sent_sound config w _ _ met sound (Asked c a call) = (
  both_left (is_declared config.tablets a) (may_send config w c a call (open_command w c)) met,
  asked_fits config w c a call (open_command w c) (both_right (is_declared config.tablets a) (may_send config w c a call (open_command w c)) met),
)
sent_sound config w _ _ met sound (Replied k c u a call me m here carries found) = (carried config w k m (contents.Asks c u a call) sound here carries).0
sent_sound config w _ _ met sound (Acked k term before index from to x m here carries taken) =
    let fed = carried config w k m (contents.Feeds from to term before index x) sound here carries in (fed.1, fed.0)
sent_sound config w _ _ met sound (Offered r content is) =
    let o = offered config w r content sound is in
    let source = (subst (λ (x : Stand). HasSource config x) o.stand (sound.sources r)).0 in
    subst (λ (c : Content). IsSoundContent config c) (sym o.content) (source, both_left (is_declared config.tablets r) _ met)

sound_content : (config : Config) (w : World) (e : Event) (k : ℕ) (m : Message) → Met config w e → AreSound config w → PostCases config w e k m → IsSoundContent config m.content
sound_content config w e k m met sound (inl old) = subst (λ (c : Content). IsSoundContent config c) (sym old.2) (sound.post k old.0 old.1)
sound_content config w e k m met sound (inr sent) = sent_sound config w e m.content met sound sent

-- ---- the sources of replicas

either : (P : TabletState → Type 0) (b : Bool) (s t : TabletState) → P s → P t → P (cond b s t)
either P true s t p q = p
either P false s t p q = q

abbrev Stays : Config → Verdict Answer → Type 0
Stays config v = HasSource config v.state.stand

in_term_source : (config : Config) (u : ℕ) (s : TabletState) (f : TabletState → Verdict Answer) → HasSource config s.stand → Stays config (f (record s { seen = u }))
    → Stays config (in_term u s f)
in_term_source config u s f old new = chosen (Stays config) (nat_lt u s.seen) _ (f (record s { seen = u })) (λ stale. old) (λ fresh. new)

call_source : (config : Config) (g : Group) (me : Tablet) (u : ℕ) (call : Call) (s : TabletState) → NamesSource config call → HasSource config s.stand
    → HasSource config (after_call g me u call s).stand
call_source config g me u calls.Status s named old = old
call_source config g me u calls.Stop s named old =
    in_term_source config u s (stops u) old (either (λ t. HasSource config t.stand) (s.promised == u) (record s { seen = u }) _ old tt)
call_source config g me u calls.Demote s named old =
    in_term_source config u s (demotes me u) old
    (chosen (Stays config) (s.promised == u) _ _ (λ there. old)
    (λ other. chosen (Stays config) (newest_row_names s.log me.alias) _ _ (λ own. tt) (λ no_own. old)))
call_source config g me u (calls.Promote p) s named old =
    in_term_source config u s (promotes me u p) old
    (chosen (Stays config) (has_row s.log u) _ _ (λ there. old)
    (λ none. chosen (Stays config) (covers (position_of s.log) p) _ _ (λ caught. tt) (λ short. old)))
call_source config g me u (calls.SetSource source t p) s named old =
    in_term_source config u s (joins source t p) old
    (chosen (Stays config) (nat_lt t s.promised) _ _ (λ ahead. old)
    (λ fresh. chosen (Stays config) (is_primary_of s.stand t || is_replica_in s.stand t) _ _ (λ kept. old)
    (λ other. chosen (Stays config) (covers p (position_of s.log)) _ _ (λ inside. (named, omega arith)) (λ errant. old))))
call_source config g me u calls.Feed s named old =
    in_term_source config u s (feeds u) old
    (chosen (Stays config) (is_feeder_in s.stand u) _ _ (λ feeder. old)
    (λ other. chosen (Stays config) (is_stopped s.stand && (s.promised == u)) _ _ (λ stopped. tt) (λ kept. old)))
call_source config g me u (calls.WaitFor p until) s named old = in_term_source config u s (waits_for_position p) old old
call_source config g me u (calls.WaitTold until) s named old = in_term_source config u s (waits_told g me u) old old

waits_source : (config : Config) (at : Stand) (index : ℕ) → HasSource config at → HasSource config (waits_for at (index + 1))
waits_source config stands.Down index old = tt
waits_source config stands.Stopped index old = tt
waits_source config (stands.Primary t) index old = tt
waits_source config (stands.Demoted t by) index old = tt
waits_source config (stands.Replica source t next) index old = (old.0, omega arith)
waits_source config (stands.Feeder t) index old = tt

write_source : (config : Config) (o : Option ℕ) (me : Tablet) (client number : ℕ) (s : TabletState) → HasSource config s.stand
    → HasSource config (elim o as (λ _. Verdict Written) [ Some t ↦ writes_own me (kinds.Write t client number) s | None ↦ only_says s (written.NotPrimary s.stand) ]).state.stand
write_source config None me client number s old = old
write_source config (Some t) me client number s old = old

touched_source : (config : Config) (w : World) (a : Alias) (e : Event) (t : TabletState) → AreSound config w → Touched config w a e t → HasSource config t.stand
touched_source config w a _ _ sound Untouched = sound.sources a
touched_source config w a _ _ sound (Called k c u call me m here carries found) =
    call_source config w.group me u call (w.tablets a) (carried config w k m (contents.Asks c u a call) sound here carries).1.1 (sound.sources a)
touched_source config w a _ _ sound (Fed k term before index from x m here carries taken) =
    chosen (λ v. HasSource config v.state.stand) (takes_from (w.tablets a).stand from term before) _ _
    (λ takes. waits_source config (w.tablets a).stand index (sound.sources a)) (λ ignored. sound.sources a)
touched_source config w a _ _ sound (Heard k term index from m here carries) =
    either (λ t. HasSource config t.stand) (is_primary_of (w.tablets a).stand term) _ (w.tablets a) (sound.sources a) (sound.sources a)
touched_source config w a _ _ sound (WrittenBy c s me begun found) = write_source config (primary_term (w.tablets a).stand) me s.client s.number (w.tablets a) (sound.sources a)
touched_source config w a _ _ sound (WrittenLocal me found) =
    chosen (λ v. HasSource config v.state.stand) (is_down (w.tablets a).stand) _ _ (λ down. sound.sources a) (λ up. sound.sources a)
touched_source config w a _ _ sound (Crashed keep) = tt
touched_source config w a _ _ sound Restarted =
    chosen (λ v. HasSource config v.state.stand) (is_down (w.tablets a).stand) _ _ (λ down. tt) (λ up. sound.sources a)

-- ---- both

pub sound_after : (config : Config) (w : World) (e : Event) → Met config w e → AreSound config w → AreSound config (change config w e)
sound_after config w e met sound =
    let marks = marks_after config w e met (record { declared = sound.marks; rise = sound.rise }) in
    record {
      post = λ k m here. sound_content config w e k m met sound (post_cases config w e k m here);
      sources = λ a. touched_source config w a e _ sound (touched config w e a);
      marks = marks.declared;
      rise = marks.rise;
    }

pub sound_opening : (config : Config) → AreSound config (opening config)
sound_opening config = record { post = none; sources = λ a. tt; marks = refl; rise = tt }
  where
    none : (k : ℕ) (m : Message) → numbered [] k ≡ Some m → IsSoundContent config m.content
    none zero m at = absurd (let none : None ≡ Some m = at in cc)
    none (suc k) m at = absurd (let none : None ≡ Some m = at in cc)

-- ---- the post and the managers

pub fits_after : (old new : Data) (e : Event) (reply : Reply) → Makes old new e reply → Fits old → Fits new
fits_after old new e reply made fits =
    let tablets : tablets_of new.managers ≡ tablets_of old.managers = ap (λ (c : Config). c.tablets) made.config in
    record {
      aliases = made.aliases ∙ fits.aliases ∙ sym (ap (λ (ts : List Tablet). map (λ t. t.alias) ts) tablets);
      order = subst (λ (ts : List Tablet). AliasesRise ts) (sym tablets) fits.order;
      marks = made.marks ∙ fits.marks ∙ sym (ap (λ (ts : List Tablet). length ts) tablets);
      group = subst (λ (gs : List Group). AllByRecursion (λ g. g ≡ group_in new) gs) (sym made.groups)
          (subst (λ (c : Config). AllByRecursion (λ g. g ≡ group_of c) (groups_in old.managers)) (sym made.config) fits.group);
    }

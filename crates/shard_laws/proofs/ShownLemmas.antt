-- That answers are shown by the steps before them.
use Rattle.std.proofs.Common.{◌≡◌, ◌⊎◌, inl, inr, ◌≤◌, ◌<◌, ℕ, zero, suc, true, false, not, ◌&&◌, ◌==◌, refl, ap, sym, subst, ◌∙◌, arith, List, [], ◌∷◌, Option, Some, None, is_some, map}
use Rattle.std.proofs.lemmas.Bool.{false≢true}
use Rattle.std.proofs.lemmas.Bool.Decides.{nat_tests}
use Rattle.std.specs.List.{slice_get, list_any, AllByRecursion}
use Rattle.shard_base.specs.Options.{◌>>=◌}
use Rattle.shard_names.specs.declared.alias.Alias.{Alias}
use Rattle.shard_names.specs.Tablets.{alias_eq}
use Rattle.shard_names.specs.declared.shard_name.ShardName.{ShardName}
use Rattle.topo_lock.specs.declared.intent.Record.{Record}
use Rattle.shard_calls.specs.declared.ending.TabletRow.{TabletRow}
use Rattle.shard_names.proofs.TabletLemmas.{both_left, both_right, alias_eq_is}
use Rattle.gtid_sets.specs.declared.gtid.Gtid.{Gtid}
use Rattle.gtid_sets.specs.Gtid.{gtid_eq}
use Rattle.gtid_sets.specs.Position.{Position, covers}
use Rattle.gtid_sets.specs.Logs.{position_of}
use Rattle.gtid_sets.proofs.GtidLemmas.{gtid_eq_is}
use Rattle.gtid_sets.proofs.PositionLemmas.{covers-both}
use Rattle.shard_calls.specs.declared.analysis.Finding.{Finding}
use Rattle.shard_calls.specs.declared.analysis.Status.{Status}
use Rattle.shard_calls.specs.declared.command.Command.{Command}
use Rattle.shard_calls.specs.declared.command.Command.TheVariants as commands
use Rattle.shard_calls.specs.declared.ending.CommandAnswer.{CommandAnswer}
use Rattle.shard_calls.specs.declared.ending.CommandAnswer.TheVariants as ends
use Rattle.shard_calls.specs.declared.ending.NotJoined.{NotJoined}
use Rattle.shard_calls.specs.declared.ending.Rest.{Rest}
use Rattle.shard_calls.specs.declared.ending.Rest.TheVariants as lines
use Rattle.shard_calls.specs.declared.event.Event.{Event}
use Rattle.shard_calls.specs.declared.event.Event.TheVariants as events
use Rattle.shard_calls.specs.declared.event.Reply.{Reply}
use Rattle.shard_calls.specs.declared.event.Reply.TheVariants as replies
use Rattle.shard_calls.specs.declared.event.Step.{Step}
use Rattle.shard_calls.specs.declared.span.Deed.{Deed}
use Rattle.shard_calls.specs.declared.span.Kind.TheVariants as kinds
use Rattle.shard_calls.specs.Spans.{span_in}
use Rattle.shard_calls.specs.declared.stand.Standing.{Standing}
use Rattle.shard_calls.specs.declared.state.CommandState.{CommandState}
use Rattle.shard_calls.specs.declared.state.Opening.{Opening}
use Rattle.shard_calls.specs.declared.state.Shown.{Shown}
use Rattle.shard_calls.specs.declared.state.Wrote.{Wrote}
use Rattle.shard_calls.specs.Stands.{is_primary_of, standing_of}
use Rattle.shard_calls.specs.Tablets.{TabletState}
use Rattle.shard_calls.specs.World.{Config, World, group_of, opening, numbered, open_command}
use Rattle.shard_calls.specs.Analysis.{Statuses, analysed, problems}
use Rattle.shard_calls.specs.Causes.{calls_of, statuses, wrote_this, is_told_act, showed, row_of, any_answer, is_last_intended, stands_promoted, has_command_cause, has_cause}
use Rattle.shard_calls.specs.Same.{standing_eq, position_eq, findings_eq}
use Rattle.shard_calls.specs.Begins.{shown_of, shown_by}
use Rattle.shard_calls.specs.Locks.{seen_of}
use Rattle.shard_calls.specs.Writes.{tell_reply}
use Rattle.shard_calls.specs.Table.{after, answer, IsStep, IsRun}
use Rattle.shard_calls.specs.Promotions.{world_at, IsTold, ToWrite}
use Rattle.shard_calls.specs.RunLaws.{OfEveryRun}
use Rattle.shard_calls.proofs.WroteLemmas.{wrote_in, WroteFits}
use Rattle.shard_calls.proofs.CauseLemmas.{promoted_has_row, watched_has_row}
use Rattle.shard_calls.proofs.ActLemmas.{if_open_is}
use Rattle.shard_calls.proofs.RunLemmas.{step_along, next_world, truthful_at}
use Rattle.shard_laws.specs.Shown.{HadStep, RowWasTold, WriteWasTold, WasRecorded, BeganIn, StandsSo, WasFound, LineShownBy, ShownBy, ShownBySteps}
use Rattle.shard_laws.proofs.TraceLemmas.{climb}
use Rattle.shard_laws.proofs.CommandLemmas.{WritesNow, Goes, BegunBy, CameFrom, change_of, forward, backward, NextIs, AtEnd, BySteps, next_is}
use Rattle.shard_laws.proofs.RowLemmas.{told_among, row_was_told}
use Rattle.shard_laws.proofs.DidLemmas.{had_told, had_refused, had_read, had_recorded, had_drained, had_status, has_told}
use Rattle.shard_laws.proofs.ReadLemmas.{intended_last, promoted_intent, nothing_cause, recorded_cause}
use Rattle.shard_laws.proofs.RepairLemmas.{IsRepair, LinesOf, OfPromotion, OfRefusal, OfRepairs, Watched, watched_cause}
use Rattle.shard_laws.proofs.EndLemmas.{standing_is, ending, committed_cause, unknown_cause, not_primary_cause, no_primary_cause, shown_cause, shard_cause, tablets_cause, told_cause}

-- ---- what was before

-- how the command began
record Began (config : Config) (ss : List Step) (i c : ℕ) (s : CommandState) : Type 0 where
  place : ℕ
  earlier : place < i
  name : List ℕ
  here : slice_get ss place ≡ Some (record { event = events.Begin name s.command; reply = replies.Begun c })
  opened : s.opening ≡ record { seen = seen_of (world_at config ss place).topo; shown = shown_by (world_at config ss place) s.command }

abbrev BeganSo : Config → List Step → ℕ → ℕ → CommandState → Type 0
BeganSo config ss i c s = Began config ss i c s × ((x : Wrote) → s.wrote ≡ Some x → HadStep ss i (events.Write c x.alias) (replies.Wrote x.gtid))

later_began : (config : Config) (ss : List Step) (i c : ℕ) (s t : CommandState) → t.command ≡ s.command → t.opening ≡ s.opening → Began config ss i c s → Began config ss (suc i) c t
later_began config ss i c s t command start h = record {
  place = h.place;
  earlier = (let less = h.earlier in omega (arith, less));
  name = h.name;
  here = h.here ∙ ap (λ (x : Command). let y : Step = record { event = events.Begin h.name x; reply = replies.Begun c } in Some y) (sym command);
  opened = start ∙ h.opened
      ∙ ap (λ (x : Command). let o : Opening = record { seen = seen_of (world_at config ss h.place).topo; shown = shown_by (world_at config ss h.place) x } in o) (sym command);
}

later_step : (ss : List Step) (i : ℕ) (e : Event) (r : Reply) → HadStep ss i e r → HadStep ss (suc i) e r
later_step ss i e r h = (h.0, (let less = h.1 in omega (arith, less)), h.2)

went_on : (config : Config) (ss : List Step) (i c : ℕ) (e : Step) (s t : CommandState) → slice_get ss i ≡ Some e → IsStep config (world_at config ss i) e
    → Goes config (world_at config ss i) e.event c s t → BeganSo config ss i c s → BeganSo config ss (suc i) c t
went_on config ss i c e s t here step goes h =
    (later_began config ss i c s t goes.same_command goes.same_opening h.0, λ x is. of_cases x is goes.wrote)
  where
    now : (x : Wrote) → t.wrote ≡ Some x → WritesNow config (world_at config ss i) e.event c s t → HadStep ss (suc i) (events.Write c x.alias) (replies.Wrote x.gtid)
    now x is new =
        let same : new.wrote ≡ x = (let some : Some new.wrote ≡ Some x = sym new.later ∙ is in cc) in
        let steps : e ≡ record { event = events.Write c x.alias; reply = replies.Wrote x.gtid } =
        ap (λ (v : Event). let y : Step = record { event = v; reply = e.reply } in y) (new.event ∙ ap (λ (y : Wrote). events.Write c y.alias) same)
        ∙ ap (λ (v : Reply). let y : Step = record { event = events.Write c x.alias; reply = v } in y) (step.answered ∙ new.reply ∙ ap (λ (y : Wrote). replies.Wrote y.gtid) same) in
        (i, omega arith, here ∙ ap (λ (y : Step). Some y) steps)

    of_cases : (x : Wrote) → t.wrote ≡ Some x → (t.wrote ≡ s.wrote) ⊎ WritesNow config (world_at config ss i) e.event c s t
        → HadStep ss (suc i) (events.Write c x.alias) (replies.Wrote x.gtid)
    of_cases x is (inl kept) = later_step ss i _ _ (h.1 x (sym kept ∙ is))
    of_cases x is (inr new) = now x is new

begins_now : (config : Config) (ss : List Step) (i c : ℕ) (e : Step) (t : CommandState) → slice_get ss i ≡ Some e → IsStep config (world_at config ss i) e
    → BegunBy (world_at config ss i) e.event c t → BeganSo config ss (suc i) c t
begins_now config ss i c e t here step new =
    subst (λ (s : CommandState). BeganSo config ss (suc i) c s) new.state (
      record { place = i; earlier = omega arith; name = new.name; here = here ∙ ap (λ (y : Step). Some y) steps; opened = refl },
      λ x is. absurd (let none : None ≡ Some x = is in cc),
    )
  where
    reply : e.reply ≡ replies.Begun c
    reply = step.answered ∙ ap (λ (v : Event). answer config (world_at config ss i) v) new.event ∙ ap (λ (n : ℕ). replies.Begun n) (sym new.place)

    steps : e ≡ record { event = events.Begin new.name new.command; reply = replies.Begun c }
    steps = ap (λ (v : Event). let y : Step = record { event = v; reply = e.reply } in y) new.event
        ∙ ap (λ (v : Reply). let y : Step = record { event = events.Begin new.name new.command; reply = v } in y) reply

began_before : (config : Config) (ss : List Step) (i c : ℕ) (s : CommandState) → IsRun config ss → numbered (world_at config ss i).commands c ≡ Some s → BeganSo config ss i c s
began_before config ss zero c s run here = absurd (nothing c here)
  where
    nothing : (n : ℕ) → numbered [] n ≡ Some s → ⊥
    nothing zero h = let none : None ≡ Some s = h in cc
    nothing (suc n) h = let none : None ≡ Some s = h in cc
began_before config ss (suc i) c s run here = of_next (world_at config ss (suc i)) (next_is config ss i run) here (λ t h. began_before config ss i c t run h)
  where
    of_came : (e : Step) → slice_get ss i ≡ Some e → IsStep config (world_at config ss i) e → CameFrom config (world_at config ss i) e.event c s
        → ((t : CommandState) → numbered (world_at config ss i).commands c ≡ Some t → BeganSo config ss i c t) → BeganSo config ss (suc i) c s
    of_came e at step (inl new) rest = begins_now config ss i c e s at step new
    of_came e at step (inr old) rest = went_on config ss i c e old.0 s at step old.2 (rest old.0 old.1)

    of_next : (v : World) → NextIs config ss i v → numbered v.commands c ≡ Some s
        → ((t : CommandState) → numbered (world_at config ss i).commands c ≡ Some t → BeganSo config ss i c t) → BeganSo config ss (suc i) c s
    of_next v (AtEnd is) h rest =
        let old = rest s (subst (λ (u : World). numbered u.commands c ≡ Some s) (sym is) h) in
        (later_began config ss i c s s refl refl old.0, λ x wrote. later_step ss i _ _ (old.1 x wrote))
    of_next v (BySteps e at step is) h rest =
        of_came e at step
        (backward config (world_at config ss i) e.event _ c s (change_of config (world_at config ss i) e.event step.met)
        (subst (λ (u : World). numbered u.commands c ≡ Some s) (sym is) h)) rest

-- ---- what a command wrote, it wrote for good

abbrev HasWrote : ℕ → Wrote → World → Type 0
HasWrote c x w = (s : CommandState) × (numbered w.commands c ≡ Some s) × (s.wrote ≡ Some x)

wrote_goes : (config : Config) (w : World) (e : Event) (c : ℕ) (s t : CommandState) (x : Wrote) → Goes config w e c s t → s.wrote ≡ Some x → t.wrote ≡ Some x
wrote_goes config w e c s t x goes is = of_cases goes.wrote
  where
    of_cases : (t.wrote ≡ s.wrote) ⊎ WritesNow config w e c s t → t.wrote ≡ Some x
    of_cases (inl kept) = kept ∙ is
    of_cases (inr new) = absurd (let wrong : None ≡ Some x = sym new.before ∙ is in cc)

wrote_next : (config : Config) (ss : List Step) (c i : ℕ) (x : Wrote) → IsRun config ss → HasWrote c x (world_at config ss i) → HasWrote c x (world_at config ss (suc i))
wrote_next config ss c i x run h = of_next (world_at config ss (suc i)) (next_is config ss i run)
  where
    of_next : (v : World) → NextIs config ss i v → HasWrote c x v
    of_next v (AtEnd is) = subst (λ (u : World). HasWrote c x u) is h
    of_next v (BySteps e at step is) =
        let went = forward config (world_at config ss i) e.event _ c h.0 (change_of config (world_at config ss i) e.event step.met) h.1 in
        subst (λ (u : World). HasWrote c x u) is (went.0, went.1, wrote_goes config (world_at config ss i) e.event c h.0 went.0 x went.2 h.2)

wrote_later : (config : Config) (ss : List Step) (c i j : ℕ) (x : Wrote) → IsRun config ss → i ≤ j → HasWrote c x (world_at config ss i) → HasWrote c x (world_at config ss j)
wrote_later config ss c i j x run le =
    climb (world_at config ss) (λ w v. HasWrote c x w → HasWrote c x v) (λ w h. h) (λ k w rest h. wrote_next config ss c k x run (rest h)) i j le

-- ---- what a command wrote

record WroteThis (o : Option Wrote) (g : Gtid) (a : Alias) (t : ℕ) : Type 0 where
  wrote : Wrote
  is : o ≡ Some wrote
  gtid : wrote.gtid ≡ g
  alias : wrote.alias ≡ a
  term : wrote.term ≡ t

same_term : (x : Wrote) (t : ℕ) → (x.term == t) ≡ true → x.term ≡ t
same_term x t h = grind (arith, nat_tests)

wrote_so : (o : Option Wrote) (g : Gtid) (a : Alias) (t : ℕ) → wrote_this o g a t ≡ true → WroteThis o g a t
wrote_so None g a t h = absurd (false≢true h)
wrote_so (Some x) g a t h =
    let front : (gtid_eq x.gtid g && alias_eq x.alias a) ≡ true = both_left (gtid_eq x.gtid g && alias_eq x.alias a) (x.term == t) h in
    record {
      wrote = x;
      is = refl;
      gtid = gtid_eq_is x.gtid g (both_left (gtid_eq x.gtid g) (alias_eq x.alias a) front);
      alias = alias_eq_is x.alias a (both_right (gtid_eq x.gtid g) (alias_eq x.alias a) front);
      term = same_term x t (both_right (gtid_eq x.gtid g && alias_eq x.alias a) (x.term == t) h);
    }

-- the step that wrote it
had_written : (config : Config) (ss : List Step) (i c : ℕ) (s : CommandState) (g : Gtid) (a : Alias) (t : ℕ) → IsRun config ss
    → numbered (world_at config ss i).commands c ≡ Some s → WroteThis s.wrote g a t → HadStep ss i (events.Write c a) (replies.Wrote g)
had_written config ss i c s g a t run here h =
    let step = (began_before config ss i c s run here).1 h.wrote h.is in
    subst (λ (x : Gtid). HadStep ss i (events.Write c a) (replies.Wrote x)) h.gtid
    (subst (λ (b : Alias). HadStep ss i (events.Write c b) (replies.Wrote h.wrote.gtid)) h.alias step)

-- who is told of what it wrote has written
teller : (o : Option CommandState) (f : Wrote → Option Reply) → is_some (o >>= (λ s. s.wrote >>= f)) ≡ true
    → (s : CommandState) × (x : Wrote) × (o ≡ Some s) × (s.wrote ≡ Some x)
teller None f h = absurd (false≢true h)
teller (Some s) f h = of_wrote s.wrote refl h
  where
    of_wrote : (p : Option Wrote) → s.wrote ≡ p → is_some (p >>= f) ≡ true → (t : CommandState) × (x : Wrote) × (Some s ≡ Some t) × (t.wrote ≡ Some x)
    of_wrote None is k = absurd (false≢true k)
    of_wrote (Some x) is k = (s, x, refl, is)

same_state : (o : Option CommandState) (s t : CommandState) → o ≡ Some s → o ≡ Some t → s ≡ t
same_state o s t p q = let both : Some s ≡ Some t = sym p ∙ q in cc

same_wrote : (o : Option Wrote) (x y : Wrote) → o ≡ Some x → o ≡ Some y → x ≡ y
same_wrote o x y p q = let both : Some x ≡ Some y = sym p ∙ q in cc

write_was_told : (config : Config) (ss : List Step) (i c : ℕ) (s : CommandState) (g : Gtid) (a : Alias) (t : ℕ) → IsRun config ss
    → numbered (world_at config ss i).commands c ≡ Some s → WroteThis s.wrote g a t → HadStep ss i (events.Tell c) replies.Told → WriteWasTold config ss i c g a t
write_was_told config ss i c s g a t run here wrote tell =
    let v : World = world_at config ss tell.0 in
    let step : IsStep config v (record { event = events.Tell c; reply = replies.Told }) = step_along config (opening config) ss tell.0 _ run tell.2 in
    let who = teller (numbered v.commands c) (λ x. tell_reply v x) step.met in
    let later = wrote_later config ss c tell.0 i who.1 run (let less = tell.1 in omega (arith, less)) (who.0, who.2, who.3) in
    let one : later.0 ≡ s = same_state (numbered (world_at config ss i).commands c) later.0 s later.1 here in
    let same : who.1 ≡ wrote.wrote = same_wrote s.wrote who.1 wrote.wrote (ap (λ (x : CommandState). x.wrote) (sym one) ∙ later.2) wrote.is in
    let fits : WroteFits v who.1 = (truthful_at config ss tell.0 run).wrote c who.1 (ap (λ (o : Option CommandState). wrote_in o) who.2 ∙ who.3) in
    let term : who.1.term ≡ t = ap (λ (x : Wrote). x.term) same ∙ wrote.term in
    record {
      wrote = had_written config ss i c s g a t run here wrote;
      step = tell.0;
      before = tell.1;
      tells = tell.2;
      entry = fits.entry;
      is_entry = fits.gtid ∙ ap (λ (x : Wrote). x.gtid) same ∙ wrote.gtid;
      told = subst (λ (u : ℕ). IsTold config ss tell.0 fits.entry u) term
          (record { step = record { event = events.Tell c; reply = replies.Told }; here = tell.2; tells = ToWrite c who.0 who.1 fits.entry who.2 who.3 fits.at });
    }

-- ---- what a command saw when it began

began_in : (config : Config) (ss : List Step) (i c : ℕ) (s : CommandState) (command : Command) (Was : World → Type 0) → (h : Began config ss i c s) → s.command ≡ command
    → Was (after config (world_at config ss h.place) (events.Begin h.name command)) → BeganIn config ss i c command Was
began_in config ss i c s command Was h is was =
    let here : slice_get ss h.place ≡ Some (record { event = events.Begin h.name command; reply = replies.Begun c }) =
    h.here ∙ ap (λ (x : Command). let y : Step = record { event = events.Begin h.name x; reply = replies.Begun c } in Some y) is in
    record {
      step = h.place;
      before = h.earlier;
      name = h.name;
      begins = here;
      world = subst Was (sym (next_world config (opening config) ss h.place _ here)) was;
    }

saw_none : (config : Config) (ss : List Step) (i c : ℕ) (s : CommandState) → Began config ss i c s → s.command ≡ commands.Write None → s.opening.seen.recorded ≡ None
    → BeganIn config ss i c (commands.Write None) (λ w. w.topo.recorded ≡ None)
saw_none config ss i c s h is none =
    began_in config ss i c s (commands.Write None) (λ w. w.topo.recorded ≡ None) h is (ap (λ (o : Opening). o.seen.recorded) (sym h.opened) ∙ none)

stands_so : (a : Alias) (at : Standing) (p : Position) (s : TabletState) → showed (Some (shown_of s)) at p ≡ true → (standing_of s.stand ≡ at) × (position_of s.log ≡ p)
stands_so a at p s h =
    let places : position_eq (position_of s.log) p ≡ true = both_right (standing_eq (standing_of s.stand) at) (position_eq (position_of s.log) p) h in (
      standing_is (standing_of s.stand) at (both_left (standing_eq (standing_of s.stand) at) (position_eq (position_of s.log) p) h),
      covers-both (position_of s.log) p (both_left (covers (position_of s.log) p) (covers p (position_of s.log)) places)
          (both_right (covers (position_of s.log) p) (covers p (position_of s.log)) places),
    )

saw_tablet : (config : Config) (ss : List Step) (i c : ℕ) (s : CommandState) (a : Alias) (at : Standing) (p : Position) → Began config ss i c s → s.command ≡ commands.Show a
    → showed s.opening.shown at p ≡ true → BeganIn config ss i c (commands.Show a) (StandsSo a at p)
saw_tablet config ss i c s a at p h is shown =
    let w : World = world_at config ss h.place in
    let opened : s.opening.shown ≡ Some (shown_of (w.tablets a)) = ap (λ (o : Opening). o.shown) h.opened ∙ ap (λ (x : Command). shown_by w x) is in
    began_in config ss i c s (commands.Show a) (StandsSo a at p) h is
    (stands_so a at p (w.tablets a) (ap (λ (o : Option Shown). showed o at p) (sym opened) ∙ shown))

saw_record : (config : Config) (ss : List Step) (i c : ℕ) (s : CommandState) (shard : ShardName) (recorded : Option Record) → Began config ss i c s
    → s.command ≡ commands.GetShard shard → s.opening.seen.recorded ≡ recorded
    → BeganIn config ss i c (commands.GetShard shard) (λ w. w.topo.recorded ≡ recorded)
saw_record config ss i c s shard recorded h is saw =
    began_in config ss i c s (commands.GetShard shard) (λ w. w.topo.recorded ≡ recorded) h is (ap (λ (o : Opening). o.seen.recorded) (sym h.opened) ∙ saw)

saw_rows : (config : Config) (ss : List Step) (i c : ℕ) (s : CommandState) (shard : ShardName) (rows : List TabletRow) → Began config ss i c s
    → s.command ≡ commands.GetTablets shard → rows ≡ map (row_of s.opening.seen) config.tablets
    → BeganIn config ss i c (commands.GetTablets shard) (λ w. rows ≡ map (row_of (seen_of w.topo)) config.tablets)
saw_rows config ss i c s shard rows h is saw =
    began_in config ss i c s (commands.GetTablets shard) (λ w. rows ≡ map (row_of (seen_of w.topo)) config.tablets) h is
    (saw ∙ ap (λ (o : Opening). map (row_of o.seen) config.tablets) h.opened)

-- ---- each answer

row_told_by : (config : Config) (ss : List Step) (i c : ℕ) (s : CommandState) (a : Alias) (t : ℕ) (left : List NotJoined) → IsRun config ss
    → has_cause config (world_at config ss i) (open_command (world_at config ss i) c) (ends.Promoted a t left) ≡ true
    → has_command_cause config (world_at config ss i) s s.command (ends.Promoted a t left) ≡ true → RowWasTold config ss i a t
row_told_by config ss i c s a t left run caused cause =
    let w : World = world_at config ss i in
    let truth = truthful_at config ss i run in
    row_was_told config ss i a t run (promoted_has_row config w (open_command w c) a t left truth.sound truth.telling caused).intended
    (told_among w s a t truth.telling (told_cause config w s s.command a t left cause))

never_told : (config : Config) (ss : List Step) (i c : ℕ) (s : CommandState) → IsRun config ss → numbered (world_at config ss i).commands c ≡ Some s
    → not (list_any is_told_act s.acts) ≡ true → HadStep ss i (events.Tell c) replies.Told → ⊥
never_told config ss i c s run here never told = false≢true (ap not (sym (has_told config ss i c s run here told)) ∙ never)

was_recorded : (config : Config) (ss : List Step) (i c : ℕ) (s : CommandState) (t : ℕ) → IsRun config ss → numbered (world_at config ss i).commands c ≡ Some s
    → has_command_cause config (world_at config ss i) s s.command (ends.Recorded t) ≡ true → WasRecorded config ss i c t
was_recorded config ss i c s t run here cause =
    let span : List Deed = span_in (world_at config ss i).post s in
    let is = recorded_cause config (world_at config ss i) s s.command t cause in
    let read = had_read config ss i c s (λ seen. any_answer kinds.Status is.0 (stands_promoted is.0 seen.intent t) span) run here is.1 in
    let intent = promoted_intent is.0 read.0.intent t span read.2 in
    record {
      alias = is.0;
      began = began_in config ss i c s (commands.External is.0) (λ w. Unit {0}) (began_before config ss i c s run here).0 is.3 tt;
      intent = intent.0;
      of_term = intent.2;
      read = (read.0, read.1, intent.1);
      recorded = had_recorded config ss i c s is.0 run here is.2;
    }

-- of a vtorc each line
repair_shown : (config : Config) (ss : List Step) (i c : ℕ) (s : CommandState) (x : Rest) → IsRun config ss → numbered (world_at config ss i).commands c ≡ Some s
    → IsRepair (span_in (world_at config ss i).post s) x → LineShownBy config ss i c x
repair_shown config ss i c s (lines.Promoted a t left) run here h = absurd h
repair_shown config ss i c s (lines.Refused refusal again) run here h = tt
repair_shown config ss i c s (lines.Joined a p) run here h = tt
repair_shown config ss i c s (lines.Left a left) run here h = tt
repair_shown config ss i c s (lines.Drained a) run here h = had_drained config ss i c s a run here h

repairs_shown : (config : Config) (ss : List Step) (i c : ℕ) (s : CommandState) (rest : List Rest) → IsRun config ss → numbered (world_at config ss i).commands c ≡ Some s
    → AllByRecursion (IsRepair (span_in (world_at config ss i).post s)) rest → AllByRecursion (LineShownBy config ss i c) rest
repairs_shown config ss i c s [] run here all = tt
repairs_shown config ss i c s (x ∷ rest) run here all = (repair_shown config ss i c s x run here all.0, repairs_shown config ss i c s rest run here all.1)

lines_shown : (config : Config) (ss : List Step) (i c : ℕ) (s : CommandState) (findings : List Finding) (rest : List Rest) → IsRun config ss
    → numbered (world_at config ss i).commands c ≡ Some s
    → has_cause config (world_at config ss i) (open_command (world_at config ss i) c) (ends.Vtorc findings rest) ≡ true
    → LinesOf (span_in (world_at config ss i).post s) rest → AllByRecursion (LineShownBy config ss i c) rest
lines_shown config ss i c s findings _ run here caused (OfPromotion a t left told) =
    let w : World = world_at config ss i in
    let truth = truthful_at config ss i run in (
      row_was_told config ss i a t run (watched_has_row config w (open_command w c) findings a t left truth.sound truth.telling caused).intended
          (told_among w s a t truth.telling told),
      tt,
    )
lines_shown config ss i c s findings _ run here caused (OfRefusal refusal again) = (tt, tt)
lines_shown config ss i c s findings _ run here caused (OfRepairs rest all) = repairs_shown config ss i c s rest run here all

was_found : (config : Config) (ss : List Step) (i c : ℕ) (s : CommandState) (findings : List Finding) (rest : List Rest) → IsRun config ss
    → numbered (world_at config ss i).commands c ≡ Some s → s.command ≡ commands.Vtorc
    → Watched (group_of config) s (span_in (world_at config ss i).post s) findings rest → WasFound config ss i c findings
was_found config ss i c s findings rest run here is watched =
    let said : Statuses = statuses (calls_of kinds.Status (span_in (world_at config ss i).post s)) in
    let began = (began_before config ss i c s run here).0 in
    record {
      said = said;
      asked = λ a status h. had_status config ss i c s a status run here h;
      began = began_in config ss i c s commands.Vtorc
          (λ w. findings_eq findings (problems (analysed (group_of config) w.topo.recorded w.topo.drained said)) ≡ true) began is
          (ap (λ (o : Opening). findings_eq findings (problems (analysed (group_of config) o.seen.recorded o.seen.drained said))) (sym began.opened) ∙ watched.found);
    }

shown_answer : (config : Config) (ss : List Step) (i c : ℕ) (x : CommandAnswer) → IsRun config ss
    → has_cause config (world_at config ss i) (open_command (world_at config ss i) c) x ≡ true → (s : CommandState) → numbered (world_at config ss i).commands c ≡ Some s
    → has_command_cause config (world_at config ss i) s s.command x ≡ true → ShownBy config ss i c x
shown_answer config ss i c (ends.Promoted a t left) run caused s here cause = row_told_by config ss i c s a t left run caused cause
shown_answer config ss i c (ends.NothingToDo a) run caused s here cause =
    let read = had_read config ss i c s (λ seen. is_last_intended a seen.intent) run here (nothing_cause config (world_at config ss i) s s.command a cause) in
    let intent = intended_last a read.0.intent read.2 in
    (intent.0, (read.0, read.1, intent.1), intent.2)
shown_answer config ss i c (ends.Recorded t) run caused s here cause = was_recorded config ss i c s t run here cause
shown_answer config ss i c (ends.Refused refusal tried) run caused s here cause = tt
shown_answer config ss i c (ends.Vtorc findings rest) run caused s here cause =
    let is = watched_cause config (world_at config ss i) s s.command findings rest cause in
    (was_found config ss i c s findings rest run here is.0 is.1, lines_shown config ss i c s findings rest run here caused is.1.lines)
shown_answer config ss i c (ends.Committed g a t) run caused s here cause =
    let is = committed_cause config (world_at config ss i) s s.command g a t cause in
    write_was_told config ss i c s g a t run here (wrote_so s.wrote g a t (both_left (wrote_this s.wrote g a t) (list_any is_told_act s.acts) is))
    (had_told config ss i c s run here (both_right (wrote_this s.wrote g a t) (list_any is_told_act s.acts) is))
shown_answer config ss i c (ends.NotPrimary a at) run caused s here cause =
    had_refused config ss i c s a at run here (not_primary_cause config (world_at config ss i) s s.command a at cause)
shown_answer config ss i c ends.NoPrimaryRecorded run caused s here cause =
    let is = no_primary_cause config (world_at config ss i) s s.command cause in
    saw_none config ss i c s (began_before config ss i c s run here).0 is.0 is.1
shown_answer config ss i c (ends.Unknown g a t) run caused s here cause =
    let w : World = world_at config ss i in
    let is = unknown_cause config w s s.command g a t cause in
    let front : (wrote_this s.wrote g a t && not (list_any is_told_act s.acts)) ≡ true =
    both_left (wrote_this s.wrote g a t && not (list_any is_told_act s.acts)) (not (is_primary_of (w.tablets a).stand t)) is in (
      had_written config ss i c s g a t run here (wrote_so s.wrote g a t (both_left (wrote_this s.wrote g a t) (not (list_any is_told_act s.acts)) front)),
      never_told config ss i c s run here (both_right (wrote_this s.wrote g a t) (not (list_any is_told_act s.acts)) front),
    )
shown_answer config ss i c (ends.Shown a at p) run caused s here cause =
    let is = shown_cause config (world_at config ss i) s s.command a at p cause in
    saw_tablet config ss i c s a at p (began_before config ss i c s run here).0 is.0 is.1
shown_answer config ss i c (ends.Shard shard recorded) run caused s here cause =
    let is = shard_cause config (world_at config ss i) s s.command shard recorded cause in
    saw_record config ss i c s shard recorded (began_before config ss i c s run here).0 is.0 is.1
shown_answer config ss i c (ends.Tablets rows) run caused s here cause =
    let is = tablets_cause config (world_at config ss i) s s.command rows cause in
    (is.0, saw_rows config ss i c s is.0 rows (began_before config ss i c s run here).0 is.1 is.2)

pub shown_by_steps : OfEveryRun ShownBySteps
shown_by_steps config ss run i c x here =
    let w : World = world_at config ss i in
    let caused : has_cause config w (open_command w c) x ≡ true = (step_along config (opening config) ss i _ run here).met in
    let end = ending config w (open_command w c) x caused in
    shown_answer config ss i c x run caused end.state (if_open_is (numbered w.commands c) end.state end.is_open) end.cause

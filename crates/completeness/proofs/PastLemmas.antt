-- What a call shows that was answered before another step of its command: a tablet that was demoted, or that said that it holds a position, has that still,
-- and one that said that it is promoted has the row. The calls are those of Vitess's tablet manager (Vitess manual).
use Rattle.std.proofs.Common.{◌≡◌, refl, ap, sym, subst, ◌∙◌, arith, ℕ, ◌+◌, ◌<◌, ◌≤◌, Bool, true, false, ◌||◌, List, [], ◌∷◌, ◌++◌, Some}
use Rattle.std.proofs.lemmas.Bool.{false≢true}
use Rattle.shard_base.specs.Lists.{IsFront}
use Rattle.shard_names.specs.declared.alias.Alias.{Alias}
use Rattle.gtid_sets.specs.declared.entry.Entry.{Entry}
use Rattle.gtid_sets.specs.declared.gtid.Gtid.{Gtid}
use Rattle.gtid_sets.specs.Logs.{has_row, holds, position_of}
use Rattle.gtid_sets.specs.Position.{Position, covers}
use Rattle.gtid_sets.proofs.PositionLemmas.{covers-from_has, covers-further, covers-itself}
use Rattle.shard_calls.specs.declared.answer.Answer.{Answer}
use Rattle.shard_calls.specs.declared.answer.Answer.TheVariants as says
use Rattle.shard_calls.specs.declared.call.Call.{Call}
use Rattle.shard_calls.specs.declared.call.Call.TheVariants as calls
use Rattle.shard_calls.specs.declared.event.Step.{Step}
use Rattle.shard_calls.specs.declared.post.Content.TheVariants as contents
use Rattle.shard_calls.specs.declared.span.Asked.{Asked}
use Rattle.shard_calls.specs.declared.span.Deed.{Deed}
use Rattle.shard_calls.specs.declared.span.Deed.TheVariants as deeds
use Rattle.shard_calls.specs.declared.span.Outcome.TheVariants as outcomes
use Rattle.shard_calls.specs.Deliveries.{asks_status}
use Rattle.shard_calls.specs.Spans.{span_of}
use Rattle.shard_calls.specs.Table.{IsRun}
use Rattle.shard_calls.specs.Tablets.{answer_to}
use Rattle.shard_calls.specs.World.{Config, World}
use Rattle.shard_calls.specs.Promotions.{world_at}
use Rattle.shard_calls.proofs.LogLemmas.{has-position}
use Rattle.shard_calls.proofs.RunLemmas.{later_at, truthful_at}
use Rattle.shard_calls.proofs.ToldLemmas.{AnswerFits, row_longer}
use Rattle.shard_laws.specs.TightMoves.{IsPosted}
use Rattle.shard_laws.proofs.HeardLemmas.{AnswersTo, settled_by}
use Rattle.shard_laws.proofs.RowLemmas.{posted_later}
use Rattle.shard_laws.proofs.TraceLemmas.{one_content}
use Rattle.courses.specs.Sound.{IsIn}
use Rattle.planned.specs.Course.{timed}
use Rattle.completeness.proofs.AnswerLemmas.{demoted_position, held_position}
use Rattle.completeness.proofs.CallLemmas.{IsCall, IsAnswered, answered_at, call_of_deed, call_term, same_asks}
use Rattle.completeness.proofs.GoingPoints.{WasAnswered}
use Rattle.completeness.proofs.KeptLemmas as kept
use Rattle.completeness.proofs.MadeCalls.{Keeper, Made, made_call, timed_status}

-- ---- logs only grow

held_in_front : (xs rest : List Entry) (g : Gtid) → holds xs g ≡ true → holds (xs ++ rest) g ≡ true
held_in_front [] rest g h = absurd (false≢true h)
held_in_front (e ∷ xs) rest g h = of_test _ h (λ k. held_in_front xs rest g k)
  where
    of_test : (b : Bool) → (b || holds xs g) ≡ true → (holds xs g ≡ true → holds (xs ++ rest) g ≡ true) → (b || holds (xs ++ rest) g) ≡ true
    of_test true k more = refl
    of_test false k more = more k

front_covers : (xs ys : List Entry) → IsFront xs ys → covers (position_of ys) (position_of xs) ≡ true
front_covers xs ys front =
    covers-from_has (position_of ys) (position_of xs)
    (λ g has_it. has-position ys g ∙ ap (λ (l : List Entry). holds l g) front.split ∙ held_in_front xs front.rest g (sym (has-position xs g) ∙ has_it))

-- ---- a call that was answered before

-- Before step k the tablet gave this answer to this call of term u, which waits until a moment if it waits.
pub record AnsweredBefore (config : Config) (ss : List Step) (c u k : ℕ) (a : Alias) (call : Call) (said : Answer) : Type 0 where
  pub call_of : Asked
  pub term : call_of.term ≡ u
  pub is_call : IsCall config ss k c call_of
  pub alias : call_of.alias ≡ a
  pub now : ℕ
  pub call_is : is_call.call ≡ timed now call
  pub outcome : call_of.outcome ≡ Some (outcomes.Answered said)
  pub answered : IsAnswered config ss k c call_of is_call.call is_call.place said

pub before : (config : Config) (ss : List Step) (c j k : ℕ) (keeper : Keeper config ss c j) (a : Alias) (call : Call) (said : Answer) (past : List Deed) → k < j
    → asks_status call ≡ false → span_of (world_at config ss k) c ≡ past → WasAnswered (Made config ss c j keeper) a call said past
    → AnsweredBefore config ss c keeper.term k a call said
before config ss c j k keeper a call said past less other span was =
    let run : IsRun config ss = keeper.run in
    let is = call_of_deed config ss k c was.then run (subst (λ (l : List Deed). IsIn l (deeds.Asked was.then)) (sym span) was.stands) in
    let at = answered_at config ss k c was.then said run is was.says in
    let final = made_call config ss c j keeper.state was.call_of a call was.finally.past run was.finally.made in
    let later = posted_later config ss was.then.message (contents.Asks c was.then.term was.then.alias is.call) k j run (omega (arith, less)) is.posted in
    let there : IsPosted (world_at config ss j).post was.then.message (contents.Asks c was.call_of.term was.call_of.alias final.is_call.call) =
    subst (λ (n : ℕ). IsPosted (world_at config ss j).post n (contents.Asks c was.call_of.term was.call_of.alias final.is_call.call)) was.later.message final.is_call.posted in
    let same = same_asks c was.then.term c was.call_of.term was.then.alias was.call_of.alias is.call final.is_call.call
    (one_content (world_at config ss j).post was.then.message _ _ later there) in
    let has = (kept.kept_lock_is_held config ss run c keeper.term keeper.taken j keeper.kept).has j keeper.kept.later (omega arith) in
    record {
      call_of = was.then;
      term = same.1 ∙ call_term config ss j c keeper.term was.call_of run final.is_call
          (ap (λ (f : Call). asks_status f) final.call_is ∙ timed_status (world_at config ss was.finally.made.place).clock call ∙ other) has.own;
      is_call = is;
      alias = same.2 ∙ final.alias;
      now = (world_at config ss was.finally.made.place).clock;
      call_is = same.3 ∙ final.call_is;
      outcome = was.says;
      answered = at;
    }

-- what a tablet had it has
pub has_still : (config : Config) (ss : List Step) (i m : ℕ) (a : Alias) (p : Position) → IsRun config ss → i ≤ m
    → covers (position_of ((world_at config ss i).tablets a).log) p ≡ true → covers (position_of ((world_at config ss m).tablets a).log) p ≡ true
has_still config ss i m a p run le had =
    covers-further (position_of ((world_at config ss m).tablets a).log) (position_of ((world_at config ss i).tablets a).log) p
    (front_covers ((world_at config ss i).tablets a).log ((world_at config ss m).tablets a).log ((later_at config ss i m run le).logs a)) had

-- a tablet that said that it was demoted with this position has it
pub demoted_has : (config : Config) (ss : List Step) (c u k m newest : ℕ) (a : Alias) (p : Position) → IsRun config ss → k ≤ m
    → AnsweredBefore config ss c u k a calls.Demote (says.Demoted newest p) → covers (position_of ((world_at config ss m).tablets a).log) p ≡ true
demoted_has config ss c u k m newest a p run le is =
    let at = is.answered in
    let w : World = world_at config ss at.place in
    let same = demoted_position w.group at.me is.call_of.term newest p (w.tablets is.call_of.alias)
    (ap (λ (f : Call). answer_to w.group at.me is.call_of.term f (w.tablets is.call_of.alias)) (sym is.call_is) ∙ at.answered) in
    let had : covers (position_of (w.tablets a).log) p ≡ true =
    subst (λ (b : Alias). covers (position_of (w.tablets b).log) p ≡ true) is.alias
    (ap (λ (q : Position). covers q p) same ∙ covers-itself p) in
    let earlier = at.earlier in
    has_still config ss at.place m a p run (omega (arith, earlier, le)) had

-- one that said that it holds it, too
pub holder_has : (config : Config) (ss : List Step) (c u k m timeout : ℕ) (a : Alias) (p : Position) → IsRun config ss → k ≤ m
    → AnsweredBefore config ss c u k a (calls.WaitFor p timeout) says.Holds → covers (position_of ((world_at config ss m).tablets a).log) p ≡ true
holder_has config ss c u k m timeout a p run le is =
    let at = is.answered in
    let w : World = world_at config ss at.place in
    let had = held_position w.group at.me is.call_of.term (is.now + timeout) p (w.tablets is.call_of.alias)
    (ap (λ (f : Call). answer_to w.group at.me is.call_of.term f (w.tablets is.call_of.alias)) (sym is.call_is) ∙ at.answered) in
    let earlier = at.earlier in
    has_still config ss at.place m a p run (omega (arith, earlier, le)) (subst (λ (b : Alias). covers (position_of (w.tablets b).log) p ≡ true) is.alias had)

-- one that said that it is promoted has the row of the call's term
pub promoted_has : (config : Config) (ss : List Step) (c u k m : ℕ) (a : Alias) (p q : Position) → IsRun config ss → k ≤ m
    → AnsweredBefore config ss c u k a (calls.Promote p) (says.Promoted q) → has_row ((world_at config ss m).tablets a).log u ≡ true
promoted_has config ss c u k m a p q run le is =
    let w : World = world_at config ss k in
    let x : Asked = is.call_of in
    let posted = is.is_call.posted in
    let telling = (truthful_at config ss k run).telling in
    let to : AnswersTo w x.message x.alias (says.Promoted q) =
    settled_by w x.message c x.term x.alias is.is_call.call posted.message (says.Promoted q) posted.message.settled telling posted.at posted.carries refl
    (is.is_call.outcome ∙ is.outcome) in
    let fits : AnswerFits w x.message x.alias (says.Promoted q) =
    telling.answers to.number to.posted.message to.command x.message x.alias (says.Promoted q) to.posted.at to.posted.carries in
    let same = same_asks fits.command fits.term c x.term x.alias x.alias fits.call is.is_call.call
    (one_content w.post x.message _ _ (record { message = fits.there; at = fits.at; carries = fits.carries }) posted) in
    let row : has_row (w.tablets a).log x.term ≡ true =
    subst (λ (b : Alias). has_row (w.tablets b).log x.term ≡ true) is.alias (subst (λ (n : ℕ). has_row (w.tablets x.alias).log n ≡ true) same.1 fits.row) in
    subst (λ (n : ℕ). has_row ((world_at config ss m).tablets a).log n ≡ true) is.term
    (row_longer (w.tablets a).log ((world_at config ss m).tablets a).log x.term ((later_at config ss k m run le).logs a) row)

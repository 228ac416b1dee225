-- What the calls come to of a command that keeps the lock: each comes to its tablet while the lock is held, none is refused as stale, and none that
-- waits is answered that it waited in vain, unless it comes at its moment or later.
use Rattle.std.proofs.Common.{◌≡◌, ℕ, ◌<◌, ◌≤◌, Bool, true, false, nat_lt, refl, ap, sym, subst, ◌∙◌, arith, List, Some, unwrap_or}
use Rattle.std.proofs.lemmas.Bool.Decides.{nat_tests}
use Rattle.shard_names.specs.declared.alias.Alias.{Alias}
use Rattle.shard_names.specs.Tablets.{tablet_of}
use Rattle.topo_lock.specs.Topology.{answer_take}
use Rattle.shard_calls.specs.declared.answer.Answer.{Answer}
use Rattle.shard_calls.specs.declared.answer.Answer.TheVariants as says
use Rattle.shard_calls.specs.declared.call.Call.{Call}
use Rattle.shard_calls.specs.declared.call.Call.TheVariants as calls
use Rattle.shard_calls.specs.declared.event.Step.{Step}
use Rattle.shard_calls.specs.declared.post.Content.TheVariants as contents
use Rattle.shard_calls.specs.declared.span.Asked.{Asked}
use Rattle.shard_calls.specs.declared.span.Outcome.TheVariants as outcomes
use Rattle.shard_calls.specs.Deliveries.{asks_status}
use Rattle.shard_calls.specs.Table.{IsRun}
use Rattle.shard_calls.specs.Tablets.{answer_to}
use Rattle.shard_calls.specs.World.{Config, opening, numbered, term_in, term_of}
use Rattle.shard_calls.specs.Promotions.{world_at}
use Rattle.shard_calls.proofs.AcceptLemmas.{not_told_is_late}
use Rattle.shard_calls.proofs.RunLemmas.{step_along}
use Rattle.shard_calls.proofs.StepLemmas.{alias_found}
use Rattle.shard_laws.specs.TightMoves.{IsPosted}
use Rattle.completeness.specs.Kept.{IsKept}
use Rattle.completeness.specs.Planned.{ComesTo}
use Rattle.completeness.proofs.BarredLemmas.{took_ok, untermed}
use Rattle.completeness.proofs.CallLemmas.{IsCall, IsAnswered, answered_at, call_term, sends_in, term_later}
use Rattle.completeness.proofs.KeptLemmas as kept
use Rattle.completeness.proofs.TermLemmas.{takes_term}

-- step i takes the lock, which is kept up to step j; before step j the command made this call, which is no Status, and the tablet answered this
pub record IsKeptCall (config : Config) (ss : List Step) (c u i j : ℕ) (x : Asked) (said : Answer) : Type 0 where
  pub call : IsCall config ss j c x
  pub answered : IsAnswered config ss j c x call.call call.place said
  pub other : asks_status call.call ≡ false
  pub term : x.term ≡ u
  -- it was sent once the lock was taken
  pub later : i < call.place
  -- and comes to its tablet while it is kept
  pub comes : ComesTo config ss c u answered.place answered.me call.call
  pub says : answer_to (world_at config ss answered.place).group answered.me u call.call ((world_at config ss answered.place).tablets answered.me.alias) ≡ said

-- a call of a term was sent behind the Take that gave it
pub sent_later : (config : Config) (ss : List Step) (c u i j : ℕ) (x : Asked) → IsRun config ss → IsKept ss c u i j → (call : IsCall config ss j c x)
    → asks_status call.call ≡ false → i < call.place
sent_later config ss c u i j x run keeps call other = of_test (nat_lt i call.place) refl
  where
    of_test : (b : Bool) → nat_lt i call.place ≡ b → i < call.place
    of_test true e = let l : i < call.place = grind (arith, nat_tests) in l
    of_test false e =
        let le : call.place ≤ i = grind (arith, nat_tests) in
        let sends = step_along config (opening config) ss call.place _ run call.sent in
        let termed = sends_in config (world_at config ss call.place) c x.alias call.call sends.met other in
        let then = term_later config ss c (unwrap_or (term_of (world_at config ss call.place) c) 0) call.place i run le termed in
        let takes = step_along config (opening config) ss i _ run keeps.taken in
        let took = takes_term config (world_at config ss i) c u takes.met (took_ok (answer_take (world_at config ss i).topo) u takes.answered) in
        absurd (untermed (term_in (numbered (world_at config ss i).commands c)) (unwrap_or (term_of (world_at config ss call.place) c) 0) took.before then)

unfoldable pub kept_call : (config : Config) (ss : List Step) (c u i j : ℕ) (x : Asked) (said : Answer) → IsRun config ss → IsKept ss c u i j → (call : IsCall config ss j c x)
    → asks_status call.call ≡ false → x.outcome ≡ Some (outcomes.Answered said) → IsKeptCall config ss c u i j x said
kept_call config ss c u i j x said run keeps call other came =
    let at = answered_at config ss j c x said run call came in
    let has = (kept.kept_lock_is_held config ss run c u i j keeps).has j keeps.later (omega arith) in
    let term : x.term ≡ u = call_term config ss j c u x run call other has.own in
    let alias : at.me.alias ≡ x.alias = alias_found config x.alias at.me at.found in
    let posted = subst (λ (a : Alias). IsPosted (world_at config ss at.place).post x.message (contents.Asks c u a call.call)) (sym alias)
    (subst (λ (n : ℕ). IsPosted (world_at config ss at.place).post x.message (contents.Asks c n x.alias call.call)) term at.posted) in
    record {
      call = call;
      answered = at;
      other = other;
      term = term;
      later = sent_later config ss c u i j x run keeps call other;
      comes = record { message = x.message; reply = at.reply; here = at.here; posted = posted; declared = ap (λ (a : Alias). tablet_of config.tablets a) alias ∙ at.found };
      says = ap (λ (a : Alias). answer_to (world_at config ss at.place).group at.me u call.call ((world_at config ss at.place).tablets a)) alias
          ∙ ap (λ (n : ℕ). answer_to (world_at config ss at.place).group at.me n call.call ((world_at config ss at.place).tablets x.alias)) (sym term) ∙ at.answered;
    }

-- it is not refused as stale
pub not_stale : (config : Config) (ss : List Step) (c u i j t : ℕ) (x : Asked) → IsRun config ss → IsKept ss c u i j → IsKeptCall config ss c u i j x (says.StaleTerm t) → ⊥
not_stale config ss c u i j t x run keeps is =
    let sent = is.later in
    let after = is.answered.after_sent in
    let earlier = is.answered.earlier in
    (kept.kept_lock_is_held config ss run c u i j keeps).fresh is.answered.place t is.answered.me.alias (world_at config ss is.answered.place).group is.answered.me is.call.call
    (omega (arith, sent, after)) (omega (arith, earlier)) is.says

-- a WaitTold that comes before its moment is not answered that the row is not told
pub not_told_late : (config : Config) (ss : List Step) (c u i j until : ℕ) (x : Asked) → IsRun config ss → (is : IsKeptCall config ss c u i j x says.NotTold)
    → is.call.call ≡ calls.WaitTold until → (world_at config ss is.answered.place).clock < until → ⊥
not_told_late config ss c u i j until x run is waits before =
    let w = world_at config ss is.answered.place in
    let late = not_told_is_late config ss run is.answered.place u until is.answered.me
    (record {
      message = is.comes.message;
      reply = is.comes.reply;
      command = c;
      here = is.comes.here;
      asks = is.comes.posted.message;
      at = is.comes.posted.at;
      carries = is.comes.posted.carries ∙ ap (λ (f : Call). contents.Asks c u is.answered.me.alias f) waits;
      declared = is.comes.declared;
    })
    (ap (λ (f : Call). answer_to w.group is.answered.me u f (w.tablets is.answered.me.alias)) (sym waits) ∙ is.says) in
    omega (arith, late, before)

-- The row of a kept lock's term comes to a tablet by a Promote of the command that keeps the lock. The calls are those of Vitess's tablet manager (Vitess
-- manual).
use Rattle.std.proofs.Common.{◌≡◌, inl, inr, refl, ap, sym, subst, ◌∙◌, arith, ℕ, zero, suc, ◌≤◌, ◌<◌, ◌==◌, ◌||◌, Bool, true, false, nat_lt, List, [], Option, Some, None, unwrap_or}
use Rattle.std.proofs.lemmas.Bool.{false≢true}
use Rattle.std.proofs.lemmas.Bool.Decides.{nat_tests}
use Rattle.std.specs.List.{slice_get}
use Rattle.shard_names.specs.declared.alias.Alias.{Alias}
use Rattle.shard_names.specs.declared.tablet.Tablet.{Tablet}
use Rattle.shard_names.specs.Tablets.{tablet_of}
use Rattle.gtid_sets.specs.declared.entry.Entry.{Entry}
use Rattle.gtid_sets.specs.declared.entry.Kind.TheVariants as entry_kinds
use Rattle.gtid_sets.specs.Logs.{has_row, is_row_of, next_gtid, row_term}
use Rattle.gtid_sets.specs.Position.{Position}
use Rattle.shard_calls.specs.declared.call.Call.{Call}
use Rattle.shard_calls.specs.declared.call.Call.TheVariants as calls
use Rattle.shard_calls.specs.declared.event.Event.{Event}
use Rattle.shard_calls.specs.declared.event.Event.TheVariants as events
use Rattle.shard_calls.specs.declared.event.Reply.TheVariants as replies
use Rattle.shard_calls.specs.declared.event.Step.{Step}
use Rattle.shard_calls.specs.declared.post.Content.{Content}
use Rattle.shard_calls.specs.declared.post.Content.TheVariants as contents
use Rattle.shard_calls.specs.declared.post.Message.{Message}
use Rattle.shard_base.specs.Options.{◌>>=◌, only_if}
use Rattle.shard_calls.specs.declared.stand.Stand.{Stand}
use Rattle.shard_calls.specs.declared.stand.Stand.TheVariants as stands
use Rattle.shard_calls.specs.Messages.{feed_of, may_feed, needed, offered_by, Indexed}
use Rattle.shard_calls.specs.Deliveries.{arrival_reply, asks_status, delivery_reply}
use Rattle.shard_calls.specs.Table.{answer, IsRun, IsStep, Met}
use Rattle.shard_calls.specs.World.{Config, World, next_message, numbered, opening, term_of}
use Rattle.shard_calls.specs.Promotions.{world_at}
use Rattle.shard_calls.proofs.LogChangeLemmas.{LogChange, SameLog, RowEnters, EntryComes, OwnEntry, log_changes}
use Rattle.shard_calls.proofs.LogLemmas.{has_row-push}
use Rattle.shard_calls.proofs.PostLemmas.{Sent, Asked, Replied, Acked, Offered, PostCases, post_cases}
use Rattle.shard_calls.proofs.RunLemmas.{step_along, truthful_at}
use Rattle.shard_calls.proofs.StepLemmas.{alias_found}
use Rattle.shard_calls.proofs.TouchLemmas.{touched}
use Rattle.shard_calls.proofs.WorldLemmas.{Fits, IsIntended}
use Rattle.shard_laws.specs.TightMoves.{IsPosted}
use Rattle.shard_laws.proofs.CommandLemmas.{NextIs, AtEnd, BySteps, next_is}
use Rattle.shard_laws.proofs.RowLemmas.{posted_later}
use Rattle.completeness.specs.Kept.{IsKept}
use Rattle.completeness.specs.Planned.{ComesTo}
use Rattle.completeness.proofs.CallLemmas.{sends_in, term_later}
use Rattle.completeness.proofs.KeptLemmas.{has_lock, taken_now}
use Rattle.completeness.proofs.MadeCalls.{step_so}
use Rattle.completeness.proofs.StaysPrimary.{only_intended, row_at_home}
use Rattle.completeness.proofs.TermLemmas.{TermIs, takes_term, termed_at}

-- ---- a call is of its command's term

-- what is offered is an entry, and no call
no_call : (w : World) (r s : Alias) (t n d v : ℕ) (a : Alias) (call : Call) (content : Content) (b : Bool)
    → (only_if b n >>= (λ m. needed (w.tablets s) (w.tablets r) m >>= (λ x. Some (feed_of s r t n x)))) ≡ Some content → content ≡ contents.Asks d v a call → ⊥
no_call w r s t n d v a call content false h is = let none : None ≡ Some content = h in cc
no_call w r s t n d v a call content true h is = of_needed (needed (w.tablets s) (w.tablets r) n) h
  where
    of_needed : (o : Option Indexed) → (o >>= (λ x. Some (feed_of s r t n x))) ≡ Some content → ⊥
    of_needed None k = let none : None ≡ Some content = k in cc
    of_needed (Some x) k =
        let same : feed_of s r t n x ≡ content = (let some : Some (feed_of s r t n x) ≡ Some content = k in cc) in
        let wrong : contents.Feeds s r t n x.index x.entry ≡ contents.Asks d v a call = same ∙ is in cc

offers_no_call : (w : World) (r : Alias) (at : Stand) (d v : ℕ) (a : Alias) (call : Call) (content : Content) → offered_by w r at ≡ Some content
    → content ≡ contents.Asks d v a call → ⊥
offers_no_call w r (stands.Replica s t n) d v a call content h is = no_call w r s t n d v a call content (may_feed w s r t n) h is
offers_no_call w r stands.Down d v a call content h is = let none : None ≡ Some content = h in cc
offers_no_call w r stands.Stopped d v a call content h is = let none : None ≡ Some content = h in cc
offers_no_call w r (stands.Primary t) d v a call content h is = let none : None ≡ Some content = h in cc
offers_no_call w r (stands.Demoted t by) d v a call content h is = let none : None ≡ Some content = h in cc
offers_no_call w r (stands.Feeder t) d v a call content h is = let none : None ≡ Some content = h in cc

asked_term : (config : Config) (w : World) (e : Event) (content : Content) (d v : ℕ) (a : Alias) (call : Call) → Met config w e → Sent config w e content
    → content ≡ contents.Asks d v a call → asks_status call ≡ false → TermIs w d v
asked_term config w _ _ d v a call met (Asked c b sent) is other =
    let one : c ≡ d = cc in
    let term : unwrap_or (term_of w c) 0 ≡ v = cc in
    let same : sent ≡ call = cc in
    subst (λ (n : ℕ). TermIs w n v) one
    (subst (λ (n : ℕ). TermIs w c n) term (sends_in config w c b sent met (ap (λ (f : Call). asks_status f) same ∙ other)))
asked_term config w _ _ d v a call met (Replied k c u b sent me m at carries found) is other = absurd (let wrong : contents.Answers c k b _ ≡ contents.Asks d v a call = is in cc)
asked_term config w _ _ d v a call met (Acked k term before index from to x m at carries taken) is other =
    absurd (let wrong : contents.Acks to from term index ≡ contents.Asks d v a call = is in cc)
asked_term config w _ content d v a call met (Offered r _ offers) is other = absurd (offers_no_call w r (w.tablets r).stand d v a call content offers is)

pub posted_term : (config : Config) (ss : List Step) (k n d v : ℕ) (a : Alias) (call : Call) → IsRun config ss → asks_status call ≡ false
    → IsPosted (world_at config ss k).post n (contents.Asks d v a call) → TermIs (world_at config ss k) d v
posted_term config ss zero n d v a call run other posted = absurd (nothing n posted.at)
  where
    nothing : (j : ℕ) → numbered [] j ≡ Some posted.message → ⊥
    nothing zero h = let none : None ≡ Some posted.message = h in cc
    nothing (suc j) h = let none : None ≡ Some posted.message = h in cc
posted_term config ss (suc k) n d v a call run other posted =
    of_next (world_at config ss (suc k)) (next_is config ss k run) posted (λ p. posted_term config ss k n d v a call run other p)
  where
    later : TermIs (world_at config ss k) d v → TermIs (world_at config ss (suc k)) d v
    later is = term_later config ss d v k (suc k) run (omega arith) is

    of_cases : (e : Step) (m : Message) → IsStep config (world_at config ss k) e → m.content ≡ contents.Asks d v a call → PostCases config (world_at config ss k) e.event n m
        → (IsPosted (world_at config ss k).post n (contents.Asks d v a call) → TermIs (world_at config ss k) d v) → TermIs (world_at config ss (suc k)) d v
    of_cases e m step carries (inl old) rest = later (rest (record { message = old.0; at = old.1; carries = sym old.2 ∙ carries }))
    of_cases e m step carries (inr sent) rest = later (asked_term config (world_at config ss k) e.event m.content d v a call step.met sent carries other)

    of_next : (w : World) → NextIs config ss k w → IsPosted w.post n (contents.Asks d v a call)
        → (IsPosted (world_at config ss k).post n (contents.Asks d v a call) → TermIs (world_at config ss k) d v) → TermIs (world_at config ss (suc k)) d v
    of_next w (AtEnd is) p rest = later (rest (subst (λ (x : World). IsPosted x.post n (contents.Asks d v a call)) (sym is) p))
    of_next w (BySteps e here step is) p rest =
        let back = subst (λ (x : World). IsPosted x.post n (contents.Asks d v a call)) (sym is) p in
        of_cases e back.message step back.carries (post_cases config (world_at config ss k) e.event n back.message back.at) rest

-- ---- the row comes by a Promote of the command

-- before step k a Promote of the command came to the tablet
pub record CameBefore (config : Config) (ss : List Step) (c u k : ℕ) (a : Alias) : Type 0 where
  pub place : ℕ
  pub earlier : place < k
  pub me : Tablet
  pub alias : me.alias ≡ a
  pub position : Position
  pub comes : ComesTo config ss c u place me (calls.Promote position)

-- the lock is taken before a call of its term is there
taken_before : (config : Config) (ss : List Step) (c u i j k n d : ℕ) (a : Alias) (call : Call) → IsRun config ss → IsKept ss c u i j
    → IsPosted (world_at config ss k).post n (contents.Asks d u a call) → k ≤ i → ⊥
taken_before config ss c u i j k n d a call run kept posted le =
    let there = posted_later config ss n (contents.Asks d u a call) k i run le posted in
    let low = (termed_at config ss i run).calls n d u a call there in
    let step = step_along config (opening config) ss i _ run kept.taken in
    let takes = takes_term config (world_at config ss i) c u step.met (taken_now _ u step.answered) in
    let more = takes.more in
    omega (arith, low, more)

its_own : (config : Config) (ss : List Step) (c u i j k n d : ℕ) (a : Alias) (call : Call) → IsRun config ss → IsKept ss c u i j → k ≤ j → asks_status call ≡ false
    → IsPosted (world_at config ss k).post n (contents.Asks d u a call) → d ≡ c
its_own config ss c u i j k n d a call run kept within other posted = of_test (nat_lt i k) refl
  where
    of_test : (b : Bool) → nat_lt i k ≡ b → d ≡ c
    of_test true e =
        (has_lock config ss c u i j run kept k (let l : i < k = grind (arith, nat_tests) in l) within).alone d (posted_term config ss k n d u a call run other posted)
    of_test false e = absurd (taken_before config ss c u i j k n d a call run kept posted (let l : k ≤ i = grind (arith, nat_tests) in l))

-- a log to which a row of the term comes that it had not
new_row : (config : Config) (ss : List Step) (c u i j k : ℕ) (a : Alias) (s : Step) → IsRun config ss → IsKept ss c u i j → k < j → slice_get ss k ≡ Some s
    → IsStep config (world_at config ss k) s → IsIntended (world_at config ss j).topo u a → has_row ((world_at config ss k).tablets a).log u ≡ false
    → (e : Event) (log : List Entry) → s.event ≡ e → LogChange config (world_at config ss k) a e log → has_row log u ≡ true → CameBefore config ss c u (suc k) a
new_row config ss c u i j k a s run kept less here step intended none _ _ is SameLog row = absurd (false≢true (sym none ∙ row))
new_row config ss c u i j k a s run kept less here step intended none _ _ is (RowEnters n d v p me m at carries found no_row caught) row =
    of_test (v == u) refl
    (sym (has_row-push ((world_at config ss k).tablets a).log (record { gtid = next_gtid me.server ((world_at config ss k).tablets a).log; kind = entry_kinds.Row v me.alias }) u) ∙ row)
  where
    w : World
    w = world_at config ss k

    came : v ≡ u → CameBefore config ss c u (suc k) a
    came same =
        let alias : me.alias ≡ a = alias_found config a me found in
        let posted : IsPosted w.post n (contents.Asks d u a (calls.Promote p)) =
        record { message = m; at = at; carries = carries ∙ ap (λ (t : ℕ). contents.Asks d t a (calls.Promote p)) same } in
        let own : d ≡ c = its_own config ss c u i j k n d a (calls.Promote p) run kept (omega (arith, less)) refl posted in
        let reply : s.reply ≡ replies.Message (next_message w) =
        step.answered ∙ ap (λ (e : Event). answer config w e) is ∙ ap (λ (o : Option Message). delivery_reply w o) at ∙ ap (λ (y : Content). arrival_reply w y) carries in
        record {
          place = k;
          earlier = omega arith;
          me = me;
          alias = alias;
          position = p;
          comes = record {
            message = n;
            reply = next_message w;
            here = here ∙ ap (λ (y : Step). Some y) (step_so s (events.Deliver n) (replies.Message (next_message w)) is reply);
            posted = subst (λ (b : Alias). IsPosted w.post n (contents.Asks c u b (calls.Promote p))) (sym alias)
                (subst (λ (x : ℕ). IsPosted w.post n (contents.Asks x u a (calls.Promote p))) own posted);
            declared = ap (λ (b : Alias). tablet_of config.tablets b) alias ∙ found;
          };
        }

    of_test : (b : Bool) → (v == u) ≡ b → (b || has_row (w.tablets a).log u) ≡ true → CameBefore config ss c u (suc k) a
    of_test true same h = came (let one : v ≡ u = grind (arith, nat_tests) in one)
    of_test false same h = absurd (false≢true (sym none ∙ h))
new_row config ss c u i j k a s run kept less here step intended none _ _ is (EntryComes n term behind index from x m at carries takes fresh) row =
    of_test (is_row_of u x) refl (sym (has_row-push ((world_at config ss k).tablets a).log x u) ∙ row)
  where
    w : World
    w = world_at config ss k

    of_test : (b : Bool) → is_row_of u x ≡ b → (b || has_row (w.tablets a).log u) ≡ true → CameBefore config ss c u (suc k) a
    of_test true is_row h =
        let sound = (truthful_at config ss k run).sound in
        let fed : Fits w (contents.Feeds from a term behind index x) = subst (λ (y : Content). Fits w y) carries (sound.post n m at) in
        let there = row_at_home w u a from index x sound (only_intended config ss u j k a run (omega (arith, less)) intended) fed.0 is_row in
        absurd (false≢true (sym none ∙ there))
    of_test false is_row h = absurd (false≢true (sym none ∙ h))
new_row config ss c u i j k a s run kept less here step intended none _ _ is (OwnEntry me kind no_row found) row =
    absurd (false≢true (sym none ∙ plain (row_term kind) no_row
    (sym (has_row-push ((world_at config ss k).tablets a).log (record { gtid = next_gtid me.server ((world_at config ss k).tablets a).log; kind = kind }) u) ∙ row)))
  where
    plain : (o : Option ℕ) → o ≡ None → ((elim o as (λ _. Bool) [ Some t ↦ t == u | None ↦ false ]) || has_row ((world_at config ss k).tablets a).log u) ≡ true
        → has_row ((world_at config ss k).tablets a).log u ≡ true
    plain None none h = h
    plain (Some t) none h = absurd (let wrong : Some t ≡ None = none in cc)

-- so who has the row was called to be promoted before
pub row_came : (config : Config) (ss : List Step) (c u i j k : ℕ) (a : Alias) → IsRun config ss → IsKept ss c u i j → IsIntended (world_at config ss j).topo u a → k ≤ j
    → has_row ((world_at config ss k).tablets a).log u ≡ true → CameBefore config ss c u k a
row_came config ss c u i j zero a run kept intended within row = absurd (false≢true row)
row_came config ss c u i j (suc k) a run kept intended within row =
    of_test (has_row ((world_at config ss k).tablets a).log u) refl (λ h. later (row_came config ss c u i j k a run kept intended (omega (arith, within)) h))
  where
    later : CameBefore config ss c u k a → CameBefore config ss c u (suc k) a
    later came =
        let less = came.earlier in
        record { place = came.place; earlier = omega (arith, less); me = came.me; alias = came.alias; position = came.position; comes = came.comes }

    of_next : (v : World) → NextIs config ss k v → has_row (v.tablets a).log u ≡ true → has_row ((world_at config ss k).tablets a).log u ≡ false → CameBefore config ss c u (suc k) a
    of_next v (AtEnd is) h none = absurd (false≢true (sym none ∙ subst (λ (w : World). has_row (w.tablets a).log u ≡ true) (sym is) h))
    of_next v (BySteps s here step is) h none =
        new_row config ss c u i j k a s run kept (omega (arith, within)) here step intended none s.event _ refl
        (log_changes config (world_at config ss k) a s.event _ (touched config (world_at config ss k) s.event a))
        (subst (λ (w : World). has_row (w.tablets a).log u ≡ true) (sym is) h)

    of_test : (b : Bool) → has_row ((world_at config ss k).tablets a).log u ≡ b → (has_row ((world_at config ss k).tablets a).log u ≡ true → CameBefore config ss c u (suc k) a)
        → CameBefore config ss c u (suc k) a
    of_test true h rest = rest h
    of_test false none rest = of_next (world_at config ss (suc k)) (next_is config ss k run) row none

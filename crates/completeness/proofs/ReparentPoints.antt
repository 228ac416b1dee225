-- Points that the courses of reparents have in common, of a command that keeps its lock: none of them is refused (Vitess manual).
use Rattle.std.proofs.Common.{◌≡◌, ◌⊎◌, inl, inr, refl, ap, sym, subst, ◌∙◌, ◌+◌, Some, None, Option, arith, ℕ, ◌<◌, ◌≤◌, ◌||◌, ◌&&◌, Bool, true, false, not, nat_lt, nat_le, List, [], ◌++◌, Option, None, Result, Ok, Err}
use Rattle.std.specs.Prelude.{⊤}
use Rattle.std.proofs.lemmas.Bool.{false≢true}
use Rattle.std.proofs.lemmas.Bool.Decides.{nat_tests}
use Rattle.shard_names.specs.declared.alias.Alias.{Alias}
use Rattle.shard_names.specs.declared.tablet.Tablet.{Tablet}
use Rattle.gtid_sets.specs.Logs.{position_of}
use Rattle.gtid_sets.specs.Position.{Position, covers, nothing}
use Rattle.gtid_sets.proofs.PositionLemmas.{covers-from_has}
use Rattle.topo_lock.specs.declared.lock.LockTaken.{LockTaken}
use Rattle.shard_calls.specs.declared.answer.Answer.{Answer}
use Rattle.shard_calls.specs.declared.answer.Answer.TheVariants as says
use Rattle.shard_calls.specs.declared.call.Call.TheVariants as calls
use Rattle.shard_calls.specs.declared.ending.CommandAnswer.{CommandAnswer}
use Rattle.shard_calls.specs.declared.event.Seen.{Seen}
use Rattle.shard_calls.specs.declared.event.Step.{Step}
use Rattle.shard_calls.specs.declared.refusal.Refusal.{Refusal}
use Rattle.shard_calls.specs.declared.refusal.Refusal.TheVariants as refusals
use Rattle.completeness.proofs.TakeLemmas.{taken_term}
use Rattle.shard_calls.specs.declared.span.Asked.{Asked}
use Rattle.shard_calls.specs.declared.span.Deed.{Deed}
use Rattle.shard_calls.specs.declared.span.Outcome.TheVariants as outcomes
use Rattle.shard_calls.specs.declared.why.Why.{Why}
use Rattle.shard_calls.specs.declared.call.Call.{Call}
use Rattle.shard_calls.specs.declared.group.Group.{Group}
use Rattle.shard_calls.specs.Refusals.{refusal_to}
use Rattle.shard_calls.specs.Tablets.{TabletState, answer_to}
use Rattle.courses.specs.Walks.{Course, walked, needs, ◌>>=◌, ◌>>◌}
use Rattle.completeness.specs.Planned.{CanJoin}
use Rattle.completeness.proofs.AnswerLemmas.{IsFresh, holds_unrefused, joins_unrefused, stale_wait}
use Rattle.completeness.proofs.GoingLemmas.{Stays, bind_goes, weaker_goes}
use Rattle.completeness.proofs.GoingPoints.{Answers, AnsweredIn, IsGranted, needs_goes}
use Rattle.completeness.proofs.MadeCalls.{KeptCall, granted, never_stale}
use Rattle.shard_calls.specs.declared.span.Deed.TheVariants as deeds
use Rattle.shard_calls.specs.declared.post.Content.{Content}
use Rattle.shard_calls.specs.declared.post.Message.{Message}
use Rattle.shard_calls.specs.Messages.{is_cut, is_received, link_of, may_arrive, passes}
use Rattle.shard_calls.specs.Stands.{is_down}
use Rattle.shard_calls.specs.Table.{IsRun}
use Rattle.shard_calls.specs.World.{Config, World, opening}
use Rattle.shard_calls.specs.Promotions.{world_at}
use Rattle.shard_names.proofs.TabletLemmas.{both_right}
use Rattle.shard_calls.proofs.RunLemmas.{step_along}
use Rattle.courses.specs.declared.want.Exit.{Exit}
use Rattle.courses.specs.declared.want.Exit.TheVariants as exits
use Rattle.courses.specs.declared.want.Want.TheVariants as wants
use Rattle.courses.specs.Planned.{following, holding}
use Rattle.completeness.specs.Planned.{ComesTo, Completes}
use Rattle.courses.specs.Sound.{IsIn, IsRead}
use Rattle.courses.specs.Walks.{gives, read, reads, refusing, takes_lock, took, unless}
use Rattle.completeness.proofs.BarredLemmas.{no_lost_deed}
use Rattle.completeness.proofs.GoingLemmas.{Doing, Was, Goes, IsFirst, IsNoRefusal, Only, Same, pure_goes}
use Rattle.completeness.proofs.GoingPoints.{WasAnswered, point_goes}
use Rattle.completeness.proofs.MadeCalls.{Keeper, Made, in_span, span_to}
use Rattle.completeness.proofs.PromotingGoes.{Anyhow}

-- ---- small points

-- where there is no refusal
pub unless_goes : (made : Doing) (span : List Deed) (F : List Deed → Type 0) (refusal : Option Refusal) → refusal ≡ None
    → Goes made span (λ (x : Unit {0}). ⊤) (Same (λ x b. F b)) (Only F (unless refusal)) (unless refusal)
unless_goes made span F refusal none =
    pure_goes made span F (λ x. ⊤) (refusing refusal) (subst (λ (o : Option Refusal). IsNoRefusal (refusing o)) (sym none) tt) (λ x is. tt)

-- whatever versions gave
anyhow_was : {A : Type 0} (x : A) (G : A → List Deed → Type 0) (r : Result A Exit) (rest past more : List Deed) → Was (Same G x) r rest past more → Was (Anyhow x) r rest past more
anyhow_was x G (Ok y) rest past more was = (was.0, tt)
anyhow_was x G (Err (exits.Does want)) rest past more was = was
anyhow_was x G (Err (exits.Refused r)) rest past more was = was
anyhow_was x G (Err exits.Waits) rest past more was = was
anyhow_was x G (Err exits.Strays) rest past more was = was
anyhow_was x G (Err exits.OutOfMemory) rest past more was = was

pub anyhow_goes : (made : Doing) (span : List Deed) (F : List Deed → Type 0) (said : CommandAnswer) → Completes said
    → Goes made span Completes Anyhow (Only F (gives said)) (gives said)
anyhow_goes made span F said completes rest end heeded =
    let goes = pure_goes made span F Completes (Ok said) tt (λ x is. subst (λ (y : CommandAnswer). Completes y) (let same : said ≡ x = (let both : Ok said ≡ Ok x = is in cc) in same) completes) rest end heeded in
    record {
      used = goes.used;
      split = goes.split;
      is = goes.is;
      was = λ m b e more version later.
          anyhow_was said (λ x past. F past) (m (e ++ more)).came (m (e ++ more)).rest (b ++ e) more (goes.was m b e more version later);
    }

pub covers_nothing : (p : Position) → covers p nothing ≡ true
covers_nothing p = covers-from_has p nothing (λ g h. absurd (false≢true h))

read_so : (config : Config) (ss : List Step) (c j : ℕ) (keeper : Keeper config ss c j) (d : Deed) → IsIn (span_to config ss c j keeper) d → IsNoRefusal (read d)
read_so config ss c j keeper (deeds.Read (Ok seen)) is = tt
read_so config ss c j keeper (deeds.Read (Err t)) is =
    absurd (no_lost_deed config ss c keeper.term keeper.taken j (deeds.Read (Err t)) keeper.run keeper.kept (in_span config ss c j keeper (deeds.Read (Err t)) is) refl)
read_so config ss c j keeper (deeds.Took reply) is = tt
read_so config ss c j keeper (deeds.Intended b reply) is = tt
read_so config ss c j keeper (deeds.Recorded b reply) is = tt
read_so config ss c j keeper (deeds.Drained b reply) is = tt
read_so config ss c j keeper (deeds.Asked x) is = tt
read_so config ss c j keeper (deeds.Wrote b reply) is = tt
read_so config ss c j keeper (deeds.Told committed) is = tt

read_is : (d : Deed) (seen : Seen) → read d ≡ Ok seen → d ≡ deeds.Read (Ok seen)
read_is (deeds.Read (Ok other)) seen h = let same : other ≡ seen = (let both : Ok other ≡ Ok seen = h in cc) in ap (λ (s : Seen). deeds.Read (Ok s)) same
read_is (deeds.Read (Err t)) seen h = absurd (let wrong : Err (exits.Refused _) ≡ Ok seen = h in cc)
read_is (deeds.Took reply) seen h = absurd (let wrong : Err exits.Strays ≡ Ok seen = h in cc)
read_is (deeds.Intended b reply) seen h = absurd (let wrong : Err exits.Strays ≡ Ok seen = h in cc)
read_is (deeds.Recorded b reply) seen h = absurd (let wrong : Err exits.Strays ≡ Ok seen = h in cc)
read_is (deeds.Drained b reply) seen h = absurd (let wrong : Err exits.Strays ≡ Ok seen = h in cc)
read_is (deeds.Asked x) seen h = absurd (let wrong : Err exits.Strays ≡ Ok seen = h in cc)
read_is (deeds.Wrote b reply) seen h = absurd (let wrong : Err exits.Strays ≡ Ok seen = h in cc)
read_is (deeds.Told committed) seen h = absurd (let wrong : Err exits.Strays ≡ Ok seen = h in cc)

-- what it reads it has read, and is not told that the lock is lost
pub reads_goes : (config : Config) (ss : List Step) (c j : ℕ) (keeper : Keeper config ss c j)
    → Goes (Made config ss c j keeper) (span_to config ss c j keeper) (λ seen. IsRead (span_to config ss c j keeper) seen) (Same (λ x b. ⊤)) (Only (λ b. ⊤) reads) reads
reads_goes config ss c j keeper =
    point_goes (Made config ss c j keeper) (span_to config ss c j keeper) (λ b. ⊤) (λ b. ⊤) (λ seen. IsRead (span_to config ss c j keeper) seen) wants.Read read (λ x y. refl)
    (λ b e fact. tt) (λ d past made fact. read_so config ss c j keeper d made.stands)
    (λ d past seen made is. subst (λ (e : Deed). IsIn (span_to config ss c j keeper) e) (read_is d seen is) made.stands)

-- with a Take that is not refused
took_so : (d : Deed) → ((held : LockTaken) → d ≡ deeds.Took (Err held) → ⊥) → IsNoRefusal (took d)
took_so (deeds.Took (Ok t)) never = tt
took_so (deeds.Took (Err held)) never = absurd (never held refl)
took_so (deeds.Read reply) never = tt
took_so (deeds.Intended b reply) never = tt
took_so (deeds.Recorded b reply) never = tt
took_so (deeds.Drained b reply) never = tt
took_so (deeds.Asked x) never = tt
took_so (deeds.Wrote b reply) never = tt
took_so (deeds.Told committed) never = tt

took_is : (d : Deed) (t : ℕ) → took d ≡ Ok t → d ≡ deeds.Took (Ok t)
took_is (deeds.Took (Ok v)) t h = let same : v ≡ t = (let both : Ok v ≡ Ok t = h in cc) in ap (λ (n : ℕ). deeds.Took (Ok n)) same
took_is (deeds.Took (Err held)) t h = absurd (let wrong : Err (exits.Refused (refusals.LockTaken held.term held.actor)) ≡ Ok t = h in cc)
took_is (deeds.Read reply) t h = absurd (let wrong : Err exits.Strays ≡ Ok t = h in cc)
took_is (deeds.Intended b reply) t h = absurd (let wrong : Err exits.Strays ≡ Ok t = h in cc)
took_is (deeds.Recorded b reply) t h = absurd (let wrong : Err exits.Strays ≡ Ok t = h in cc)
took_is (deeds.Drained b reply) t h = absurd (let wrong : Err exits.Strays ≡ Ok t = h in cc)
took_is (deeds.Asked x) t h = absurd (let wrong : Err exits.Strays ≡ Ok t = h in cc)
took_is (deeds.Wrote b reply) t h = absurd (let wrong : Err exits.Strays ≡ Ok t = h in cc)
took_is (deeds.Told committed) t h = absurd (let wrong : Err exits.Strays ≡ Ok t = h in cc)

pub takes_goes : (config : Config) (ss : List Step) (c j : ℕ) (keeper : Keeper config ss c j)
    → ((held : LockTaken) → Made config ss c j keeper wants.Take (deeds.Took (Err held)) [] → ⊥)
    → Goes (Made config ss c j keeper) (span_to config ss c j keeper) (λ t. t ≡ keeper.term) (Same (λ x b. ⊤)) (Only IsFirst takes_lock) takes_lock
takes_goes config ss c j keeper never =
    point_goes (Made config ss c j keeper) (span_to config ss c j keeper) IsFirst (λ b. ⊤) (λ t. t ≡ keeper.term) wants.Take took (λ x y. refl) (λ b e fact. tt)
    (λ d past made first. took_so d (λ held is. never held
    (subst (λ (l : List Deed). Made config ss c j keeper wants.Take (deeds.Took (Err held)) l) first
    (subst (λ (e : Deed). Made config ss c j keeper wants.Take e past) is made))))
    (λ d past t made is. taken_term config ss c j keeper t past (subst (λ (e : Deed). Made config ss c j keeper wants.Take e past) (took_is d t is) made))

-- ---- a WaitFor

-- a WaitFor that comes before its moment finds what it waits for, or is stale
pub waits_until : (config : Config) (ss : List Step) (c t k until : ℕ) (me : Tablet) (p : Position) → IsRun config ss → ComesTo config ss c t k me (calls.WaitFor p until)
    → (world_at config ss k).clock < until
    → (nat_lt t ((world_at config ss k).tablets me.alias).seen ≡ true) ⊎ (covers (position_of ((world_at config ss k).tablets me.alias).log) p ≡ true)
waits_until config ss c t k until me p run comes in_time =
    of_ready (nat_lt t (w.tablets me.alias).seen) (covers (position_of (w.tablets me.alias).log) p) (nat_le until w.clock) refl refl refl ready
  where
    w : World
    w = world_at config ss k

    ready : (nat_lt t (w.tablets me.alias).seen || covers (position_of (w.tablets me.alias).log) p || nat_le until w.clock) ≡ true
    ready =
        let step = step_along config (opening config) ss k _ run comes.here in
        let m = comes.posted.message in
        let arrives : may_arrive w m ≡ true = subst (λ (y : Option Message). passes (may_arrive w) y ≡ true) comes.posted.at step.met in
        let received : is_received w m.content ≡ true = both_right (not m.lost && not (is_cut w.cuts (link_of m.content))) (is_received w m.content) arrives in
        both_right (not (is_down (w.tablets me.alias).stand)) _ (subst (λ (x : Content). is_received w x ≡ true) comes.posted.carries received)

    of_ready : (a b d : Bool) → nat_lt t (w.tablets me.alias).seen ≡ a → covers (position_of (w.tablets me.alias).log) p ≡ b → nat_le until w.clock ≡ d → (a || b || d) ≡ true
        → (nat_lt t (w.tablets me.alias).seen ≡ true) ⊎ (covers (position_of (w.tablets me.alias).log) p ≡ true)
    of_ready true b d e f g h = inl e
    of_ready false true d e f g h = inr f
    of_ready false false true e f g h = absurd (let late : until ≤ w.clock = grind (arith, nat_tests) in omega (arith, late, in_time))
    of_ready false false false e f g h = absurd (false≢true h)

-- what was so before, and that it holds the position
abbrev pub CaughtUp : Doing → (List Deed → Type 0) → Alias → Position → ℕ → List Deed → Type 0
CaughtUp made F a p timeout past = F past × WasAnswered made a (calls.WaitFor p timeout) says.Holds past

pub holds_is : (answer : Answer) (x : Unit {0}) → holding answer ≡ Ok x → answer ≡ says.Holds
holds_is says.Holds x h = refl
holds_is (says.Status seen promised at newest q) x h = absurd (let wrong : Err exits.Strays ≡ Ok x = h in cc)
holds_is (says.Stopped newest q) x h = absurd (let wrong : Err exits.Strays ≡ Ok x = h in cc)
holds_is (says.Demoted newest q) x h = absurd (let wrong : Err exits.Strays ≡ Ok x = h in cc)
holds_is (says.Promoted q) x h = absurd (let wrong : Err exits.Strays ≡ Ok x = h in cc)
holds_is says.Joined x h = absurd (let wrong : Err exits.Strays ≡ Ok x = h in cc)
holds_is says.Feeding x h = absurd (let wrong : Err exits.Strays ≡ Ok x = h in cc)
holds_is says.Told x h = absurd (let wrong : Err exits.Strays ≡ Ok x = h in cc)
holds_is says.NotTold x h = absurd (let wrong : Err exits.Strays ≡ Ok x = h in cc)
holds_is (says.Kept at) x h = absurd (let wrong : Err exits.Strays ≡ Ok x = h in cc)
holds_is (says.StaleTerm seen) x h = absurd (let wrong : Err exits.Strays ≡ Ok x = h in cc)
holds_is (says.PromisedAhead promised) x h = absurd (let wrong : Err exits.Strays ≡ Ok x = h in cc)
holds_is (says.NotCaughtUp missing) x h = absurd (let wrong : Err exits.Strays ≡ Ok x = h in cc)
holds_is (says.Errant extra) x h = absurd (let wrong : Err exits.Strays ≡ Ok x = h in cc)
holds_is (says.NotStanding newest) x h = absurd (let wrong : Err exits.Strays ≡ Ok x = h in cc)

pub following_so : (answer : Answer) → IsNoRefusal (following answer)
following_so says.Joined = tt
following_so (says.Kept at) = tt
following_so (says.PromisedAhead promised) = tt
following_so _ = tt

pub holding_so : (answer : Answer) → IsNoRefusal (holding answer)
holding_so says.Holds = tt
holding_so _ = tt

-- ---- a tablet that is to follow, and to catch up

pub joins_granted : (config : Config) (ss : List Step) (c j : ℕ) (keeper : Keeper config ss c j) (F : List Deed → Type 0) (a source : Alias) (t : ℕ) (p : Position)
    → ((x : Asked) (why : Why) (past : List Deed) → Made config ss c j keeper (wants.Ask a (calls.SetSource source t p)) (deeds.Asked x) past
    → x.outcome ≡ Some (outcomes.GivenUp why) → ⊥)
    → ((k : ℕ) (me : Tablet) → ComesTo config ss c keeper.term k me (calls.SetSource source t p) → CanJoin (world_at config ss k) me.alias source t p)
    → IsGranted (Made config ss c j keeper) F a (calls.SetSource source t p)
joins_granted config ss c j keeper F a source t p settled can =
    granted config ss c j keeper F a (calls.SetSource source t p) refl (λ x why past made fact came. settled x why past made came)
    (λ x said past made fact kept. unrefused x said past made kept)
  where
    unrefused : (x : Asked) (said : Answer) (past : List Deed) → (made : Made config ss c j keeper (wants.Ask a (calls.SetSource source t p)) (deeds.Asked x) past)
        → KeptCall config ss c j keeper x a (calls.SetSource source t p) made.place said → refusal_to x said ≡ None
    unrefused x said past made kept =
        let call = kept.is_kept in
        let at = call.answered.place in
        let me = call.answered.me in
        let w : World = world_at config ss at in
        let comes : ComesTo config ss c keeper.term at me (calls.SetSource source t p) =
        subst (λ (f : Call). ComesTo config ss c keeper.term at me f) kept.call_is call.comes in
        let answers : answer_to w.group me keeper.term (calls.SetSource source t p) (w.tablets me.alias) ≡ said =
        ap (λ (f : Call). answer_to w.group me keeper.term f (w.tablets me.alias)) (sym kept.call_is) ∙ call.says in
        subst (λ (y : Answer). refusal_to x y ≡ None) answers
        (joins_unrefused x w.group me keeper.term t source p (w.tablets me.alias) kept.kind (can at me comes)
        (λ v stale. never_stale config ss c j keeper x a (calls.SetSource source t p) made.place said v kept (sym answers ∙ stale)))

pub waits_granted : (config : Config) (ss : List Step) (c j : ℕ) (keeper : Keeper config ss c j) (F : List Deed → Type 0) (a : Alias) (p : Position) (timeout : ℕ)
    → ((x : Asked) (why : Why) (past : List Deed) → Made config ss c j keeper (wants.Ask a (calls.WaitFor p timeout)) (deeds.Asked x) past
    → x.outcome ≡ Some (outcomes.GivenUp why) → ⊥)
    → ((k until : ℕ) (me : Tablet) → ComesTo config ss c keeper.term k me (calls.WaitFor p until) → (world_at config ss k).clock < until)
    → IsGranted (Made config ss c j keeper) F a (calls.WaitFor p timeout)
waits_granted config ss c j keeper F a p timeout settled in_time =
    granted config ss c j keeper F a (calls.WaitFor p timeout) refl (λ x why past made fact came. settled x why past made came)
    (λ x said past made fact kept. unrefused x said past made kept)
  where
    of_cases : (x : Asked) (g : Group) (me : Tablet) (until : ℕ) (s : TabletState) → (nat_lt keeper.term s.seen ≡ true) ⊎ (covers (position_of s.log) p ≡ true)
        → IsFresh (answer_to g me keeper.term (calls.WaitFor p until) s) → refusal_to x (answer_to g me keeper.term (calls.WaitFor p until) s) ≡ None
    of_cases x g me until s (inl seen) fresh = absurd (stale_wait g me keeper.term until p s seen fresh)
    of_cases x g me until s (inr holds) fresh = holds_unrefused x g me keeper.term until p s holds fresh

    unrefused : (x : Asked) (said : Answer) (past : List Deed) → (made : Made config ss c j keeper (wants.Ask a (calls.WaitFor p timeout)) (deeds.Asked x) past)
        → KeptCall config ss c j keeper x a (calls.WaitFor p timeout) made.place said → refusal_to x said ≡ None
    unrefused x said past made kept =
        let call = kept.is_kept in
        let at = call.answered.place in
        let me = call.answered.me in
        let w : World = world_at config ss at in
        let until : ℕ = (world_at config ss made.place).clock + timeout in
        let comes : ComesTo config ss c keeper.term at me (calls.WaitFor p until) = subst (λ (f : Call). ComesTo config ss c keeper.term at me f) kept.call_is call.comes in
        let answers : answer_to w.group me keeper.term (calls.WaitFor p until) (w.tablets me.alias) ≡ said =
        ap (λ (f : Call). answer_to w.group me keeper.term f (w.tablets me.alias)) (sym kept.call_is) ∙ call.says in
        let fresh : IsFresh (answer_to w.group me keeper.term (calls.WaitFor p until) (w.tablets me.alias)) =
        λ v stale. never_stale config ss c j keeper x a (calls.WaitFor p timeout) made.place said v kept (sym answers ∙ stale) in
        subst (λ (y : Answer). refusal_to x y ≡ None) answers
        (of_cases x w.group me until (w.tablets me.alias) (waits_until config ss c keeper.term at until me p keeper.run comes (in_time at until me comes)) fresh)

-- it follows, and comes to hold the position
abbrev pub follows_on : ℕ → Alias → Position → Answer → Course (Unit {0})
follows_on timeout a p x = walked (following x) >> needs a (calls.WaitFor p timeout) >>= λ y. walked (holding y)

pub follows_goes : (made : Doing) (span : List Deed) (F H : List Deed → Type 0) (a : Alias) (p : Position) (timeout : ℕ) (x : Answer) → Stays F
    → ((b : List Deed) → H b → F b) → IsGranted made F a (calls.WaitFor p timeout)
    → Goes made span (λ (y : Unit {0}). ⊤) (Same (λ y b. CaughtUp made F a p timeout b)) (Only H (follows_on timeout a p x)) (follows_on timeout a p x)
follows_goes made span F H a p timeout x stays less grants =
    bind_goes made span H (Answers made a waits) (AnsweredIn made F a waits) (λ y. ⊤) (Same (λ y b. CaughtUp made F a p timeout b))
    (walked (following x) >> needs a waits) (λ y. walked (holding y))
    (bind_goes made span H (λ (y : Unit {0}). ⊤) (λ y b. F b) (Answers made a waits) (Same (AnsweredIn made F a waits)) (walked (following x)) (λ y. needs a waits)
    (weaker_goes made span (λ (y : Unit {0}). ⊤) (λ y. ⊤) (λ y b. H b) (λ y b. F b) (Only H (walked (following x))) (walked (following x)) (λ y any. tt)
    (λ y b any fact. less b fact) (pure_goes made span H (λ y. ⊤) (following x) (following_so x) (λ y any. tt)))
    (λ y any. needs_goes made span F a waits stays grants))
    (λ y held. weaker_goes made span (λ z. y ≡ says.Holds) (λ z. ⊤) (λ z b. AnsweredIn made F a waits y b) (λ z b. CaughtUp made F a p timeout b)
    (Only (AnsweredIn made F a waits y) (walked (holding y))) (walked (holding y)) (λ z so. tt)
    (λ z b so fact. (fact.0, subst (λ (v : Answer). WasAnswered made a waits v b) so fact.1))
    (pure_goes made span (AnsweredIn made F a waits y) (λ z. y ≡ says.Holds) (holding y) (holding_so y) (λ z so. holds_is y z so)))
  where
    waits : Call
    waits = calls.WaitFor p timeout

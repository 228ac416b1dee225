-- What a tablet answers to a call that is not stale, and when that refuses the command nothing. The calls are those of Vitess's tablet manager (Vitess
-- manual).
use Rattle.std.proofs.Common.{◌≡◌, ◌⊎◌, inl, inr, refl, ap, sym, ◌∙◌, arith, ℕ, Bool, true, false, ◌||◌, ◌&&◌, ◌==◌, nat_lt, cond, None}
use Rattle.std.proofs.lemmas.Bool.{false≢true}
use Rattle.std.proofs.lemmas.Bool.Decides.{nat_tests}
use Rattle.shard_base.specs.Options.{only_if}
use Rattle.shard_names.specs.declared.alias.Alias.{Alias}
use Rattle.shard_names.specs.declared.tablet.Tablet.{Tablet}
use Rattle.gtid_sets.specs.Logs.{has_row, newest_row, newest_row_names, position_of}
use Rattle.gtid_sets.specs.Position.{Position, covers, minus}
use Rattle.shard_calls.specs.declared.answer.Answer.{Answer}
use Rattle.shard_calls.specs.declared.answer.Answer.TheVariants as says
use Rattle.shard_calls.specs.declared.call.Call.TheVariants as calls
use Rattle.shard_calls.specs.declared.group.Group.{Group}
use Rattle.shard_calls.specs.declared.refusal.Refusal.TheVariants as refusals
use Rattle.shard_calls.specs.declared.refusal.Unacked.TheVariants as unackeds
use Rattle.shard_calls.specs.declared.span.Asked.{Asked}
use Rattle.shard_calls.specs.declared.span.Kind.{Kind}
use Rattle.shard_calls.specs.declared.span.Kind.TheVariants as kinds
use Rattle.shard_calls.specs.declared.stand.Stand.{Stand}
use Rattle.shard_calls.specs.declared.stand.Stand.TheVariants as stands
use Rattle.shard_calls.specs.Refusals.{is_of_promotion, refusal_to}
use Rattle.shard_calls.specs.Stands.{is_feeder_in, is_primary_of, is_stopped, is_replica_in, standing_of}
use Rattle.shard_calls.specs.Tablets.{TabletState, Verdict, answer_to, demotes, in_term, is_row_told, joins, promotes, waits_for_position, waits_told, feeds}
use Rattle.shard_calls.proofs.LawLemmas.{chosen}

-- no answer to it is that it is stale
abbrev pub IsFresh : Answer → Type 0
IsFresh said = (t : ℕ) → said ≡ says.StaleTerm t → ⊥

-- an answer, if it is fresh, refuses nothing
abbrev Unrefused : Asked → Verdict Answer → Type 0
Unrefused x v = IsFresh v.says → refusal_to x v.says ≡ None

fresh_only : (x : Asked) (u : ℕ) (s : TabletState) (f : TabletState → Verdict Answer) → refusal_to x (f (record s { seen = u })).says ≡ None → Unrefused x (in_term u s f)
fresh_only x u s f h = chosen (Unrefused x) (nat_lt u s.seen) _ (f (record s { seen = u })) (λ stale fresh. absurd (fresh s.seen refl)) (λ not_stale fresh. h)

kept_unrefused : (x : Asked) (stand : Stand) → is_of_promotion x.kind ≡ false → refusal_to x (says.Kept stand) ≡ None
kept_unrefused x stand h = ap (λ (b : Bool). only_if b (refusals.NotAcknowledged x.alias (unackeds.Kept (standing_of stand)))) h

itself : (n : ℕ) → (n == n) ≡ true
itself n = grind (arith, nat_tests)

or_right : (a b : Bool) → b ≡ true → (a || b) ≡ true
or_right true b h = refl
or_right false b h = h

-- a SetSource, of a tablet that can join
pub joins_unrefused : (x : Asked) (g : Group) (me : Tablet) (u t : ℕ) (source : Alias) (p : Position) (s : TabletState) → x.kind ≡ kinds.SetSource
    → (covers p (position_of s.log) ≡ true) ⊎ ((next : ℕ) × (s.stand ≡ stands.Replica source t next)) → IsFresh (answer_to g me u (calls.SetSource source t p) s)
    → refusal_to x (answer_to g me u (calls.SetSource source t p) s) ≡ None
joins_unrefused x g me u t source p s kind can =
    fresh_only x u s (joins source t p)
    (chosen (λ v. refusal_to x v.says ≡ None) (nat_lt t s.promised) _ _ (λ ahead. refl)
    (λ not_ahead. chosen (λ v. refusal_to x v.says ≡ None) (is_primary_of s.stand t || is_replica_in s.stand t) _ _
    (λ kept. kept_unrefused x s.stand (ap (λ (k : Kind). is_of_promotion k) kind))
    (λ other. chosen (λ v. refusal_to x v.says ≡ None) (covers p (position_of s.log)) _ _ (λ inside. refl) (λ errant. absurd (no_errant can other errant)))))
  where
    no_errant : (covers p (position_of s.log) ≡ true) ⊎ ((next : ℕ) × (s.stand ≡ stands.Replica source t next)) → (is_primary_of s.stand t || is_replica_in s.stand t) ≡ false
        → covers p (position_of s.log) ≡ false → ⊥
    no_errant (inl inside) other errant = false≢true (sym errant ∙ inside)
    no_errant (inr replica) other errant =
        false≢true (sym other ∙ or_right (is_primary_of s.stand t) (is_replica_in s.stand t) (ap (λ (y : Stand). is_replica_in y t) replica.1 ∙ itself t))

-- a Feed
pub feeds_unrefused : (x : Asked) (g : Group) (me : Tablet) (u : ℕ) (s : TabletState) → x.kind ≡ kinds.Feed → IsFresh (answer_to g me u calls.Feed s)
    → refusal_to x (answer_to g me u calls.Feed s) ≡ None
feeds_unrefused x g me u s kind =
    fresh_only x u s (feeds u)
    (chosen (λ v. refusal_to x v.says ≡ None) (is_feeder_in s.stand u) _ _ (λ feeder. refl)
    (λ other. chosen (λ v. refusal_to x v.says ≡ None) (is_stopped s.stand && (s.promised == u)) _ _ (λ stopped. refl)
    (λ kept. kept_unrefused x s.stand (ap (λ (k : Kind). is_of_promotion k) kind))))

-- a WaitFor, of a tablet that has it
pub holds_unrefused : (x : Asked) (g : Group) (me : Tablet) (u until : ℕ) (p : Position) (s : TabletState) → covers (position_of s.log) p ≡ true
    → IsFresh (answer_to g me u (calls.WaitFor p until) s) → refusal_to x (answer_to g me u (calls.WaitFor p until) s) ≡ None
holds_unrefused x g me u until p s holds =
    fresh_only x u s (waits_for_position p)
    (ap (λ (b : Bool). refusal_to x (cond b says.Holds (says.NotCaughtUp (minus p (position_of s.log))))) holds)

-- a WaitFor of a term that the tablet has left behind is stale
pub stale_wait : (g : Group) (me : Tablet) (u until : ℕ) (p : Position) (s : TabletState) → nat_lt u s.seen ≡ true → IsFresh (answer_to g me u (calls.WaitFor p until) s) → ⊥
stale_wait g me u until p s seen fresh =
    chosen (λ v. IsFresh v.says → ⊥) (nat_lt u s.seen) _ (waits_for_position p (record s { seen = u })) (λ stale never. never s.seen refl)
    (λ not_stale never. false≢true (sym not_stale ∙ seen)) fresh

-- a Promote, of a tablet that has caught up and leads once it has the row
pub promotes_unrefused : (x : Asked) (g : Group) (me : Tablet) (u : ℕ) (p : Position) (s : TabletState) → covers (position_of s.log) p ≡ true
    → (has_row s.log u ≡ true → is_primary_of s.stand u ≡ true) → IsFresh (answer_to g me u (calls.Promote p) s) → refusal_to x (answer_to g me u (calls.Promote p) s) ≡ None
promotes_unrefused x g me u p s caught leads =
    fresh_only x u s (promotes me u p)
    (chosen (λ v. refusal_to x v.says ≡ None) (has_row s.log u) _ _
    (λ row. ap (λ (b : Bool). refusal_to x (cond b (says.Promoted (position_of s.log)) (says.Kept s.stand))) (leads row))
    (λ no_row. chosen (λ v. refusal_to x v.says ≡ None) (covers (position_of s.log) p) _ _ (λ enough. refl) (λ short. absurd (false≢true (sym short ∙ caught)))))

-- a WaitTold, of the primary of the term, which does not say that the row is not told
pub told_unrefused : (x : Asked) (g : Group) (me : Tablet) (u until : ℕ) (s : TabletState) → is_primary_of s.stand u ≡ true
    → (answer_to g me u (calls.WaitTold until) s ≡ says.NotTold → ⊥) → IsFresh (answer_to g me u (calls.WaitTold until) s)
    → refusal_to x (answer_to g me u (calls.WaitTold until) s) ≡ None
told_unrefused x g me u until s leads never fresh =
    chosen (λ v. (v.says ≡ says.NotTold → ⊥) → IsFresh v.says → refusal_to x v.says ≡ None) (nat_lt u s.seen) _ (waits_told g me u (record s { seen = u }))
    (λ stale never fresh. absurd (fresh s.seen refl))
    (λ not_stale never fresh. of_test (is_primary_of s.stand u) (is_row_told g me (record s { seen = u }) u) leads never) never fresh
  where
    of_test : (b d : Bool) → b ≡ true → (cond b (cond d says.Told says.NotTold) (says.Kept s.stand) ≡ says.NotTold → ⊥)
        → refusal_to x (cond b (cond d says.Told says.NotTold) (says.Kept s.stand)) ≡ None
    of_test true true is never = refl
    of_test true false is never = absurd (never refl)
    of_test false d is never = absurd (false≢true is)

-- ---- what an answer shows

-- an answer that the tablet is demoted tells what it has
pub demoted_position : (g : Group) (me : Tablet) (u newest : ℕ) (p : Position) (s : TabletState) → answer_to g me u calls.Demote s ≡ says.Demoted newest p
    → position_of s.log ≡ p
demoted_position g me u newest p s h =
    chosen (λ v. v.says ≡ says.Demoted newest p → position_of s.log ≡ p) (nat_lt u s.seen) _ (demotes me u (record s { seen = u }))
    (λ stale wrong. absurd (let bad : says.StaleTerm s.seen ≡ says.Demoted newest p = wrong in cc))
    (λ fresh. chosen (λ v. v.says ≡ says.Demoted newest p → position_of s.log ≡ p) (s.promised == u) _ _ (λ there is. same (newest_row s.log) is)
    (λ other. chosen (λ v. v.says ≡ says.Demoted newest p → position_of s.log ≡ p) (newest_row_names s.log me.alias) _ _ (λ own is. same (newest_row s.log) is)
    (λ no_own wrong. absurd (let bad : says.NotStanding (newest_row s.log) ≡ says.Demoted newest p = wrong in cc)))) h
  where
    same : (n : ℕ) → says.Demoted n (position_of s.log) ≡ says.Demoted newest p → position_of s.log ≡ p
    same n k = cc

-- one that it holds a position, that it does
pub held_position : (g : Group) (me : Tablet) (u until : ℕ) (p : Position) (s : TabletState) → answer_to g me u (calls.WaitFor p until) s ≡ says.Holds
    → covers (position_of s.log) p ≡ true
held_position g me u until p s h =
    chosen (λ v. v.says ≡ says.Holds → covers (position_of s.log) p ≡ true) (nat_lt u s.seen) _ (waits_for_position p (record s { seen = u }))
    (λ stale wrong. absurd (let bad : says.StaleTerm s.seen ≡ says.Holds = wrong in cc)) (λ fresh k. of_test (covers (position_of s.log) p) k) h
  where
    of_test : (b : Bool) → cond b says.Holds (says.NotCaughtUp (minus p (position_of s.log))) ≡ says.Holds → b ≡ true
    of_test true k = refl
    of_test false k = absurd (let bad : says.NotCaughtUp (minus p (position_of s.log)) ≡ says.Holds = k in cc)

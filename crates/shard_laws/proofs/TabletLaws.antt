-- That the definitions of one tablet and of the lock have what is said of them.
use Rattle.std.proofs.Common.{◌≡◌, ◌≤◌, ℕ, true, false, ◌||◌, nat_lt, refl, ap, sym, subst, ◌∙◌, arith}
use Rattle.std.proofs.lemmas.Bool.{false≢true}
use Rattle.std.proofs.lemmas.Bool.Decides.{nat_tests}
use Rattle.shard_names.specs.declared.alias.Alias.{Alias}
use Rattle.shard_names.specs.declared.tablet.Tablet.{Tablet}
use Rattle.gtid_sets.specs.Position.{Position, covers}
use Rattle.gtid_sets.proofs.PositionLemmas.{covers-has, covers-from_has}
use Rattle.gtid_sets.specs.Logs.{position_of, has_row}
use Rattle.shard_calls.specs.declared.answer.Answer.{Answer}
use Rattle.shard_calls.specs.declared.call.Call.TheVariants as calls
use Rattle.shard_calls.specs.declared.stand.Stand.{Stand}
use Rattle.shard_calls.specs.declared.stand.Stand.TheVariants as stands
use Rattle.shard_calls.specs.declared.group.Group.{Group}
use Rattle.shard_calls.specs.Stands.{is_down, is_primary_of, is_replica_in}
use Rattle.shard_calls.specs.Tablets.{TabletState, Verdict, in_term, promotes, joins, verdict, restarts}
use Rattle.shard_calls.proofs.LawLemmas.{chosen}
use Rattle.shard_laws.specs.OneTablet.{Promotes, Leads, Lacks, PromotionCovers, SetSourceAgain, NothingAcked, NoAcksAfter, LapsedIsFree}

-- a call of a term that is not older than the one seen
fresh : (P : Verdict Answer → Type 0) (u : ℕ) (s : TabletState) (f : TabletState → Verdict Answer) → s.seen ≤ u → P (f (record s { seen = u })) → P (in_term u s f)
fresh P u s f le h = chosen P (nat_lt u s.seen) _ (f (record s { seen = u })) (λ stale. absurd (grind (arith, nat_tests))) (λ new. h)

-- ---- promotion

pub promotion_covers : PromotionCovers
promotion_covers g me u p s none le =
    fresh (Promotes me s u p) u s (promotes me u p) le
    (chosen (Promotes me s u p) (has_row s.log u) _ _ (λ there. absurd (false≢true (sym none ∙ there)))
    (λ new. chosen (Promotes me s u p) (covers (position_of s.log) p) _ _
    (λ caught. Leads _ (λ gtid h. covers-has (position_of s.log) p gtid caught h) refl refl refl refl)
    (λ short. Lacks (λ all. false≢true (sym short ∙ covers-from_has (position_of s.log) p all)) refl refl)))

abbrev FreeOfAcks : ℕ → Verdict Answer → Type 0
FreeOfAcks u v = has_row v.state.log u ≡ true → NothingAcked v.state

promotion_acks : (g : Group) (me : Tablet) (u : ℕ) (p : Position) (s : TabletState) → has_row s.log u ≡ false → FreeOfAcks u (verdict g me u (calls.Promote p) s)
promotion_acks g me u p s none =
    chosen (FreeOfAcks u) (nat_lt u s.seen) _ _ (λ stale there. absurd (false≢true (sym none ∙ there)))
    (λ new. chosen (FreeOfAcks u) (has_row s.log u) _ _ (λ there row. absurd (false≢true (sym none ∙ there)))
    (λ no_row. chosen (FreeOfAcks u) (covers (position_of s.log) p) _ _ (λ caught row a. refl) (λ short row. absurd (false≢true (sym none ∙ row)))))

restart_acks : (s : TabletState) → s.stand ≡ stands.Down → NothingAcked (restarts s).state
restart_acks s down =
    chosen (λ v. NothingAcked v.state) (is_down s.stand) _ _ (λ is a. refl) (λ up. absurd (false≢true (sym up ∙ ap (λ (at : Stand). is_down at) down)))

pub no_acks_after : NoAcksAfter
no_acks_after = record { promotion = promotion_acks; restart = restart_acks }

-- ---- a source that it has already

kept_stand : (at : Stand) (from : Alias) (t next : ℕ) → at ≡ stands.Replica from t next → (is_primary_of at t || is_replica_in at t) ≡ true
kept_stand at from t next is = subst (λ (x : Stand). (is_primary_of x t || is_replica_in x t) ≡ true) (sym is) (grind (arith, nat_tests))

pub set_source_again : SetSourceAgain
set_source_again g me u t next from source p s is le =
    fresh (λ v. v.state ≡ record s { seen = u }) u s (joins source t p) le
    (chosen (λ v. v.state ≡ record s { seen = u }) (nat_lt t s.promised) _ _ (λ ahead. refl)
    (λ new. chosen (λ v. v.state ≡ record s { seen = u }) (is_primary_of s.stand t || is_replica_in s.stand t) _ _ (λ kept. refl)
    (λ other. absurd (false≢true (sym other ∙ kept_stand s.stand from t next is)))))

-- ---- the lock

pub lapsed_is_free : LapsedIsFree
lapsed_is_free topo = refl

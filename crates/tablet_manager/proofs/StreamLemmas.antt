-- That a stream takes what a replica waits for.
use Rattle.std.proofs.Common.{◌≡◌, refl, sym, ℕ, Bool, true, false, ◌&&◌, ◌==◌, IsTrue, ◌↔◌}
use Rattle.std.proofs.lemmas.Bool.Decides.{Decides-eqb}
use Rattle.shard_names.specs.declared.alias.Alias.{Alias}
use Rattle.shard_names.specs.Tablets.{alias_eq}
use Rattle.shard_names.proofs.TabletLemmas.{alias_eq-Decides, both, both_left, both_right}
use Rattle.replication.specs.declared.stream.Stream.{Stream}
use Rattle.replication.specs.Streams.{IsAwaited}

same_tests : (a b : Bool) → (a ≡ true → b ≡ true) → (b ≡ true → a ≡ true) → a ≡ b
same_tests true b there back = sym (there refl)
same_tests false true there back = back refl
same_tests false false there back = refl

tested : (s : Stream) (from : Alias) (term after : ℕ) → IsAwaited s from term after
    → (alias_eq s.source from && ((s.term == term) && (s.next == after))) ≡ true
tested s from term after awaited =
    both (alias_eq s.source from) ((s.term == term) && (s.next == after)) ((alias_eq-Decides s.source from).1 (sym awaited.of_source))
    (both (s.term == term) (s.next == after) ((Decides-eqb s.term term).1 (sym awaited.in_term)) ((Decides-eqb s.next after).1 (sym awaited.in_place)))

awaited_of : (s : Stream) (from : Alias) (term after : ℕ)
    → (alias_eq s.source from && ((s.term == term) && (s.next == after))) ≡ true → IsAwaited s from term after
awaited_of s from term after h =
    let rest = both_right (alias_eq s.source from) ((s.term == term) && (s.next == after)) h in
    record {
      of_source = sym ((alias_eq-Decides s.source from).0 (both_left (alias_eq s.source from) ((s.term == term) && (s.next == after)) h));
      in_term = sym ((Decides-eqb s.term term).0 (both_left (s.term == term) (s.next == after) rest));
      in_place = sym ((Decides-eqb s.next after).0 (both_right (s.term == term) (s.next == after) rest));
    }

-- the test of what is awaited
pub taken_is_awaited : (s : Stream) (from : Alias) (term after : ℕ) (taken : Bool) → IsTrue taken ↔ IsAwaited s from term after
    → taken ≡ (alias_eq s.source from && ((s.term == term) && (s.next == after)))
taken_is_awaited s from term after taken is = same_tests taken _ (λ h. tested s from term after (is.0 h)) (λ h. is.1 (awaited_of s from term after h))

-- The text of a set, read back.
use Rattle.std.proofs.Common.{◌≡◌, ℕ, ◌==◌, true, refl, sym, ap, ◌∙◌, arith, List, [], ◌∷◌, length}
use Rattle.std.specs.Prelude.{codes, Result, Ok, Err, All}
use Rattle.std.proofs.lemmas.Bool.Decides.{nat_tests}
use Rattle.gtid_sets.specs.Position.{Position, nothing, count}
use Rattle.gtid_sets.specs.Intervals.{Ordered, position_of}
use Rattle.gtid_sets.specs.SetText.{set_text}
use Rattle.gtid_sets.specs.Reading.{set_reading, reading_from, text_says, part_says, white_before, less_white_behind, is_white, server_of}
use Rattle.gtid_sets.specs.ReadingLaws.{IsWritable}
use Rattle.gtid_sets.specs.declared.gtid.Gtid.{Gtid}
use Rattle.gtid_sets.specs.declared.interval.Interval.{Interval}
use Rattle.gtid_sets.specs.declared.reading.SetFault.{SetFault}
use Rattle.gtid_sets.proofs.BackLemmas.{set_reads_back}
use Rattle.gtid_sets.specs.StoredPosition.{same_position}
use Rattle.history_text.specs.Events.{shown_set}
use Rattle.history_text.specs.Told.{IsSet}
use Rattle.history_text.proofs.LineLemmas.{chosen}

-- the set that a text spells, and none for the dash, which spells no set
abbrev pub set_of : List ℕ → Position
set_of word = elim (set_reading word) [ Ok p ↦ p | Err fault ↦ nothing ]

dash_is_none : set_of (codes "-") ≡ nothing
unfolding reading_from text_says part_says white_before less_white_behind is_white server_of
dash_is_none = refl

no_members : (gtids : List Gtid) → (length gtids == 0) ≡ true → [] ≡ gtids
no_members [] h = refl
no_members (g ∷ gs) h = absurd (grind (arith, nat_tests))

pub written_back : (intervals : List Interval) → Ordered intervals → All IsWritable intervals → set_of (set_text (position_of intervals)) ≡ position_of intervals
written_back intervals in_order writable =
    ap (λ (r : Result Position SetFault). elim r as (λ s. Position) [ Ok q ↦ q | Err fault ↦ nothing ]) (set_reads_back intervals in_order writable)

pub set_back : (p : Position) → IsSet p → set_of (shown_set p) ≡ p
set_back p h =
    chosen (λ (word : List ℕ). set_of word ≡ p) (count p == 0) (codes "-") (set_text p)
    (λ none. dash_is_none ∙ same_position nothing p (no_members p.gtids none))
    (λ some. ap (λ (q : Position). set_of (set_text q)) (sym h.same) ∙ written_back h.intervals h.in_order h.writable ∙ h.same)

-- Notes in order of place: those of one place stand in a row, behind those of the places before it.
use Rattle.std.proofs.Common.{◌≡◌, ℕ, suc, ◌+◌, ◌-◌, ◌<◌, ◌≤◌, Bool, true, false, cond, nat_lt, List, [], ◌∷◌, ◌++◌, length, take, drop, get_or, refl, sym, ap, subst, ◌∙◌, arith}
use Rattle.std.specs.Prelude.{◌==◌, filter, All}
use Rattle.std.specs.List.{flat_map, prefix_len, enumerate_from}
use Rattle.std.specs.List.Sorted.{IsNonDecreasingBy}
use Rattle.std.proofs.lemmas.Bool.Decides.{nat_tests}
use Rattle.std.proofs.lemmas.List.{append-nil, append_assoc, drop-drop, drop_all, take-append-drop, take_rest, take_more, flat_map_more, length-append}
use Rattle.std.proofs.lemmas.List.Elements.{All-head, All-tail, All-push}
use Rattle.std.proofs.lemmas.List.FromFn.{length-enumerate_from, get_or-enumerate_from}
use Rattle.std.proofs.lemmas.List.Sorted.{IsNonDecreasingBy-push}
use Rattle.shard_calls.specs.declared.event.Step.{Step}
use Rattle.vtctld_text.specs.declared.begun.Begun.{Begun}
use Rattle.shard_calls.specs.declared.event.Note.{Note}
use Rattle.vtctld_text.specs.Texts.{commands_of, event_text}
use Rattle.vtctld_text.specs.Notes.{notes_at, note_lines, noted_text, count_before, AreInPlace, WithoutNotesIsTextOf, EachNoteIsPrintedOnce}

abbrev pub NeverFall : List Note → Type 0
NeverFall notes = IsNonDecreasingBy (λ n. n.place) notes

-- how many of the notes, from the front on, have this place
abbrev pub run_length : List Note → ℕ → ℕ
run_length notes k = prefix_len (λ n. n.place == k) notes

rest_never_falls : (x : Note) (xs : List Note) → NeverFall (x ∷ xs) → NeverFall xs
rest_never_falls x xs s = λ i j d le lt. s (suc i) (suc j) d (omega arith) (omega arith)

all_from : (k : ℕ) (x : Note) (xs : List Note) → k ≤ x.place → NeverFall (x ∷ xs) → All (λ n. k ≤ n.place) (x ∷ xs)
all_from k x xs le s = λ i d lt. let least = s 0 i d (omega arith) lt in omega arith

none_before : (k : ℕ) (notes : List Note) → All (λ n. k ≤ n.place) notes → count_before notes k ≡ 0
none_before k [] all = refl
none_before k (x ∷ xs) all =
    let le = All-head (λ n. k ≤ n.place) x xs all in
    let not_before : nat_lt x.place k ≡ false = grind (arith, nat_tests) in
    let F = filter (λ n. nat_lt n.place k) xs in
    ap (λ b. length (cond b (x ∷ F) F)) not_before ∙ none_before k xs (All-tail (λ n. k ≤ n.place) x xs all)

all_before : (k : ℕ) (notes : List Note) → All (λ n. n.place < k) notes → count_before notes k ≡ length notes
all_before k [] all = refl
all_before k (x ∷ xs) all =
    let lt = All-head (λ n. n.place < k) x xs all in
    let before : nat_lt x.place k ≡ true = grind (arith, nat_tests) in
    let F = filter (λ n. nat_lt n.place k) xs in
    ap (λ b. length (cond b (x ∷ F) F)) before ∙ ap suc (all_before k xs (All-tail (λ n. n.place < k) x xs all))

none_at : (k : ℕ) (notes : List Note) → All (λ n. k + 1 ≤ n.place) notes → notes_at notes k ≡ []
none_at k [] all = refl
none_at k (x ∷ xs) all =
    let le = All-head (λ n. k + 1 ≤ n.place) x xs all in
    let not_here : x.place == k ≡ false = grind (arith, nat_tests) in
    ap (λ b. cond b (x ∷ notes_at xs k) (notes_at xs k)) not_here ∙ none_at k xs (All-tail (λ n. k + 1 ≤ n.place) x xs all)

pub count_within : (k : ℕ) (notes : List Note) → count_before notes k ≤ length notes
count_within k [] = omega arith
count_within k (x ∷ xs) = one (nat_lt x.place k) (count_within k xs)
  where
    F : List Note
    F = filter (λ n. nat_lt n.place k) xs

    one : (b : Bool) → length F ≤ length xs → length (cond b (x ∷ F) F) ≤ suc (length xs)
    one true le = omega arith
    one false le = omega arith

-- behind the first d notes stand those of place k, and so many stand before the next place
pub record RunAt (k : ℕ) (notes : List Note) (d : ℕ) : Type 0 where
  pub run : take (run_length (drop d notes) k) (drop d notes) ≡ notes_at notes k
  pub count : d + run_length (drop d notes) k ≡ count_before notes (k + 1)

-- where none stands before k
run_first_cons : (k : ℕ) (x : Note) (xs : List Note) (b : Bool) → x.place == k ≡ b → k ≤ x.place → NeverFall (x ∷ xs) → RunAt k xs 0 → RunAt k (x ∷ xs) 0
run_first_cons k x xs true here le s h =
    let next : nat_lt x.place (k + 1) ≡ true = grind (arith, nat_tests) in
    let r = run_length xs k in let F = notes_at xs k in let G = filter (λ n. nat_lt n.place (k + 1)) xs in
    let more : 1 + r ≡ suc r = omega arith in
    let sums : 0 + (1 + r) ≡ suc (length G) = omega (arith, h.count) in
    record {
      run = ap (λ b. take (cond b (1 + r) 0) (x ∷ xs)) here ∙ ap (λ n. take n (x ∷ xs)) more ∙ ap (λ (l : List Note). x ∷ l) h.run ∙ sym (ap (λ b. cond b (x ∷ F) F) here);
      count = ap (λ b. 0 + cond b (1 + r) 0) here ∙ sums ∙ sym (ap (λ b. length (cond b (x ∷ G) G)) next);
    }
run_first_cons k x xs false here le s h =
    let above : k + 1 ≤ x.place = grind (arith, nat_tests) in
    let all = all_from (k + 1) x xs above s in
    let r = run_length xs k in
    record {
      run = ap (λ b. take (cond b (1 + r) 0) (x ∷ xs)) here ∙ sym (none_at k (x ∷ xs) all);
      count = ap (λ b. 0 + cond b (1 + r) 0) here ∙ sym (none_before (k + 1) (x ∷ xs) all);
    }

run_first : (k : ℕ) (notes : List Note) → NeverFall notes → All (λ n. k ≤ n.place) notes → RunAt k notes 0
run_first k [] s all = record { run = refl; count = refl }
run_first k (x ∷ xs) s all =
    run_first_cons k x xs (x.place == k) refl (All-head (λ n. k ≤ n.place) x xs all) s
    (run_first k xs (rest_never_falls x xs s) (All-tail (λ n. k ≤ n.place) x xs all))

run_at_cons : (k : ℕ) (x : Note) (xs : List Note) (b : Bool) → nat_lt x.place k ≡ b → NeverFall (x ∷ xs) → RunAt k xs (count_before xs k)
    → RunAt k (x ∷ xs) (length (cond b (x ∷ filter (λ n. nat_lt n.place k) xs) (filter (λ n. nat_lt n.place k) xs)))
run_at_cons k x xs true before s h =
    let not_here : x.place == k ≡ false = grind (arith, nat_tests) in
    let next : nat_lt x.place (k + 1) ≡ true = grind (arith, nat_tests) in
    let d = count_before xs k in let r = run_length (drop d xs) k in
    let F = notes_at xs k in let G = filter (λ n. nat_lt n.place (k + 1)) xs in
    let sums : suc d + r ≡ suc (length G) = omega (arith, h.count) in
    record {
      run = h.run ∙ sym (ap (λ b. cond b (x ∷ F) F) not_here);
      count = sums ∙ sym (ap (λ b. length (cond b (x ∷ G) G)) next);
    }
run_at_cons k x xs false before s h =
    let le : k ≤ x.place = grind (arith, nat_tests) in
    let all = all_from k x xs le s in
    subst (RunAt k (x ∷ xs)) (sym (none_before k xs (All-tail (λ n. k ≤ n.place) x xs all))) (run_first k (x ∷ xs) s all)

pub run_at : (k : ℕ) (notes : List Note) → NeverFall notes → RunAt k notes (count_before notes k)
run_at k [] s = record { run = refl; count = refl }
run_at k (x ∷ xs) s = run_at_cons k x xs (nat_lt x.place k) refl s (run_at k xs (rest_never_falls x xs s))

pub done_within : (k d : ℕ) (notes : List Note) → d ≡ count_before notes k → d ≤ length notes
done_within k d notes is = omega (arith, count_within k notes)

-- the notes of place k as the code cuts them out, where d stand before it
pub run_from : (k d r : ℕ) (notes : List Note) → NeverFall notes → d ≡ count_before notes k → r ≡ run_length (take (length notes - d) (drop d notes)) k
    → (d + r ≤ length notes) × (take (d + r - d) (drop d notes) ≡ notes_at notes k) × (d + r ≡ count_before notes (k + 1))
run_from k d r notes s is is_run =
    let h : RunAt k notes d = subst (RunAt k notes) (sym is) (run_at k notes s) in
    let same : r ≡ run_length (drop d notes) k = is_run ∙ ap (λ (l : List Note). run_length l k) (take_rest notes d) in
    let next : d + r ≡ count_before notes (k + 1) = omega (arith, h.count) in
    let long : d + r - d ≡ r = omega arith in
    (omega (arith, count_within (k + 1) notes), ap (λ n. take n (drop d notes)) (long ∙ same) ∙ h.run, next)

pub none_before_first : (notes : List Note) → count_before notes 0 ≡ 0
none_before_first notes = none_before 0 notes (λ i d lt. omega arith)

-- ---- one more step of a text with notes

pub one_more : (commands : List Begun) (notes : List Note) (steps : List Step) (i : ℕ) (s : Step) (first old mid new : List ℕ)
    → i < length steps → s ≡ get_or steps i s → old ≡ first ++ flat_map (noted_text commands notes) (take i (enumerate_from 1 steps))
    → mid ≡ old ++ event_text commands s.event → new ≡ mid ++ note_lines (notes_at notes (i + 1))
    → new ≡ first ++ flat_map (noted_text commands notes) (take (i + 1) (enumerate_from 1 steps))
one_more commands notes steps i s first old mid new lt read is_old is_mid is_new =
    let f = noted_text commands notes in
    let xs = enumerate_from 1 steps in
    let d : ℕ × Step = (0, s) in
    let on : 1 + i ≡ i + 1 = omega arith in
    let item : get_or xs i d ≡ (i + 1, s) =
    get_or-enumerate_from 1 steps i d lt ∙ ap {B = ℕ × Step} (λ n. (n, get_or steps i s)) on ∙ ap {B = ℕ × Step} (λ y. (i + 1, y)) (sym read) in
    let longer : take (i + 1) xs ≡ take i xs ++ (i + 1, s) ∷ [] =
    take_more xs i d (omega (arith, length-enumerate_from 1 steps)) ∙ ap (λ (x : ℕ × Step). take i xs ++ x ∷ []) item in
    let text = event_text commands s.event in
    let lines = note_lines (notes_at notes (i + 1)) in
    is_new ∙ ap (λ (x : List ℕ). x ++ lines) is_mid ∙ append_assoc old text lines ∙ ap (λ (x : List ℕ). x ++ (text ++ lines)) is_old
    ∙ flat_map_more f first (take i xs) (i + 1, s) ∙ ap (λ (l : List (ℕ × Step)). first ++ flat_map f l) (sym longer)

-- ---- laws

without_notes : (commands : List Begun) (k : ℕ) (steps : List Step)
    → flat_map (noted_text commands []) (enumerate_from k steps) ≡ flat_map (λ s. event_text commands s.event) steps
without_notes commands k [] = refl
without_notes commands k (s ∷ steps) =
    let text = event_text commands s.event in
    ap (λ (x : List ℕ). x ++ flat_map (noted_text commands []) (enumerate_from (k + 1) steps)) (append-nil text)
    ∙ ap (λ (x : List ℕ). text ++ x) (without_notes commands (k + 1) steps)

pub without_notes_is_text_of : WithoutNotesIsTextOf
without_notes_is_text_of steps = without_notes (commands_of steps) 1 steps

-- the notes of a place, and those of later places
then_later : (k : ℕ) (notes : List Note) → NeverFall notes → notes_at notes k ++ drop (count_before notes (k + 1)) notes ≡ drop (count_before notes k) notes
then_later k notes s =
    let h = run_at k notes s in
    let d = count_before notes k in let r = run_length (drop d notes) k in
    ap (λ (l : List Note). l ++ drop (count_before notes (k + 1)) notes) (sym h.run)
    ∙ ap (λ n. take r (drop d notes) ++ drop n notes) (sym h.count)
    ∙ ap (λ (l : List Note). take r (drop d notes) ++ l) (sym (drop-drop r d notes))
    ∙ take-append-drop r (drop d notes)

all_from_place : (k : ℕ) (steps : List Step) (notes : List Note) → NeverFall notes → All (λ n. n.place < k + length steps) notes
    → flat_map (λ p. notes_at notes p.0) (enumerate_from k steps) ≡ drop (count_before notes k) notes
all_from_place k [] notes s within =
    let all = all_before k notes (λ i d lt. omega (arith, within i d lt)) in
    sym (drop_all (count_before notes k) notes (omega arith))
all_from_place k (x ∷ steps) notes s within =
    ap (λ (l : List Note). notes_at notes k ++ l) (all_from_place (k + 1) steps notes s (λ i d lt. omega (arith, within i d lt)))
    ∙ then_later k notes s

pub each_note_is_printed_once : EachNoteIsPrintedOnce
each_note_is_printed_once steps notes h =
    ap (λ (l : List Note). notes_at notes 0 ++ l) (all_from_place 1 steps notes h.never_fall (λ i d lt. omega (arith, h.within i d lt)))
    ∙ then_later 0 notes h.never_fall ∙ ap (λ n. drop n notes) (none_before_first notes)

-- ---- how notes come to be in place

pub no_notes_are_in_place : (steps : List Step) → AreInPlace steps []
no_notes_are_in_place steps = record { never_fall = λ i j d le lt. absurd (omega arith); within = λ i d lt. absurd (omega arith) }

-- one more step
pub in_place_with_step : (steps : List Step) (s : Step) (notes : List Note) → AreInPlace steps notes → AreInPlace (steps ++ s ∷ []) notes
in_place_with_step steps s notes h =
    record { never_fall = h.never_fall; within = λ i d lt. omega (arith, h.within i d lt, length-append steps (s ∷ [])) }

-- one more note, behind all steps
pub in_place_with_note : (steps : List Step) (notes : List Note) (n : Note) → AreInPlace steps notes → n.place ≡ length steps → AreInPlace steps (notes ++ n ∷ [])
in_place_with_note steps notes n h at_end =
    let least : (d : Note) → 0 < length notes → (get_or notes (length notes - 1) d).place ≤ n.place =
    λ d some. let le = h.within (length notes - 1) d (omega arith) in omega arith in
    record {
      never_fall = IsNonDecreasingBy-push (λ x. x.place) notes n h.never_fall least;
      within = All-push (λ x. x.place ≤ length steps) notes n h.within (omega arith);
    }

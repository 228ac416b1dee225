-- The text of a set, byte by byte and part by part.
use Rattle.std.proofs.Common.{◌≡◌, ℕ, suc, ◌+◌, ◌-◌, ◌*◌, ◌<◌, ◌≤◌, List, [], ◌∷◌, ◌++◌, Bool, true, false, not, ◌&&◌, cond, eqb, Option, Some, None, Result, Ok, Err, length, take, drop, get_or, refl, sym, ap, subst, ◌∙◌, arith, length-take, append_assoc, IfOk, ◌↔◌}
use Rattle.std.specs.Prelude.{min, nat_le, nat_lt}
use Rattle.std.specs.Char.{is_ascii_digit, digit_value}
use Rattle.std.specs.List.{list_all, slice_split, position_or_len, prefix_len}
use Rattle.std.specs.Str.Parse.{digits_value}
use Rattle.std.proofs.lemmas.Bool.Decides.{nat_tests}
use Rattle.std.proofs.lemmas.List.{take_more, take_all}
use Rattle.std.proofs.lemmas.List.Folds.{list_all_at}
use Rattle.std.proofs.lemmas.List.Sums.{fails_before_first}
use Rattle.std.proofs.lemmas.List.Splits.{slice_split_first, slice_split_none, length-slice_split}
use Rattle.std.specs.Result.{result_ok, IsOk, IsErr, IsErrAnd}
use Rattle.std.proofs.lemmas.Bool.{false≢true}
use Rattle.uuid.specs.Text.{parsed}
use Rattle.gtid_sets.specs.declared.interval.Interval.{Interval}
use Rattle.gtid_sets.specs.declared.reading.SetFault.{SetFault}
use Rattle.gtid_sets.specs.declared.reading.SetFault.TheVariants.{BadUuid, BadInterval}
use Rattle.gtid_sets.specs.declared.reading.ReadFault.{ReadFault}
use Rattle.gtid_sets.specs.declared.reading.ReadFault.TheVariants as faults
use Rattle.gtid_sets.specs.Reading.{Claim, number_of, with_digit, server_of, item_says, items_say, behind_uuid, behind_at, named_says, is_white, solid_length, part_says, parts_say, onto, all_or_first, set_of_all, text_says, reading_from, Gives, Reads}
use Rattle.gtid_sets.specs.Position.{Position}
use Rattle.gtid_sets.specs.Intervals.{position_of}

-- ---- numbers
only_if_some : {A : Type 0} (b : Bool) (y x : A) → cond b (Some y) None ≡ Some x → (b ≡ true) × (y ≡ x)
only_if_some true y x h = (refl, (cc))
only_if_some false y x h = absurd (cc)

digit_is : (b : ℕ) → is_ascii_digit b ≡ true → digit_value b ≡ b - 48
digit_is b h = grind (arith, nat_tests)

-- the number with one more digit
pub digit_read : (v b w : ℕ) → with_digit v b ≡ Some w → (is_ascii_digit b ≡ true) × (w ≡ min (v * 10 + digit_value b) 9223372036854775807)
unfolding with_digit
digit_read v b w h =
    let p = only_if_some (is_ascii_digit b) (min (v * 10 + (b - 48)) 9223372036854775807) w h in
    (p.0, sym p.1 ∙ ap (λ (n : ℕ). min (v * 10 + n) 9223372036854775807) (sym (digit_is b p.0)))

-- a number above the greatest stays there
pub capped : (n d : ℕ) → min (min n 9223372036854775807 * 10 + d) 9223372036854775807 ≡ min (n * 10 + d) 9223372036854775807
capped n d = grind (arith, nat_tests)

pub number_is : (text : List ℕ) → 0 < length text → list_all is_ascii_digit text ≡ true → Some (min (digits_value 10 text) 9223372036854775807) ≡ number_of text
unfolding number_of
number_is text some digits =
    let one : nat_le 1 (length text) ≡ true = grind (arith, nat_tests) in
    rw (one, digits) refl

pub number_of_none : (text : List ℕ) → length text ≡ 0 → number_of text ≡ None
unfolding number_of
number_of_none text none =
    let one : nat_le 1 (length text) ≡ false = grind (arith, nat_tests) in
    rw one refl

no_digit : (a b : Bool) (n : ℕ) → b ≡ false → cond (a && b) (Some n) None ≡ None
no_digit true true n h = absurd (cc)
no_digit true false n h = refl
no_digit false b n h = refl

not_some : (b : Bool) (n : ℕ) → cond b (Some n) None ≡ None → b ≡ false
not_some true n h = absurd (cc)
not_some false n h = refl

pub number_fails : (text : List ℕ) (i v : ℕ) → i < length text → with_digit v (get_or text i 0) ≡ None → number_of text ≡ None
unfolding with_digit number_of
number_fails text i v here none =
    no_digit (nat_le 1 (length text)) (list_all is_ascii_digit text) (min (digits_value 10 text) 9223372036854775807)
    (list_all_at is_ascii_digit text i 0 here (not_some (is_ascii_digit (get_or text i 0)) (min (v * 10 + (get_or text i 0 - 48)) 9223372036854775807) none))

-- ---- UUIDs
-- a reader that is Ok exactly where an option is Some, and then with its value
pub ok_is_option : {T E : Type 0} (r : Result T E) (o : Option T) → (IsOk r ↔ ((u : T) × (o ≡ Some u))) → IfOk r (λ u. Some u ≡ o) → result_ok r ≡ o
ok_is_option (Ok x) o iff is = is
ok_is_option (Err e) None iff is = refl
ok_is_option (Err e) (Some u) iff is = absurd (false≢true (iff.1 (u, refl)))

pub server_is : (text : List ℕ) (r : Option (List ℕ)) → length text ≡ 36 → r ≡ parsed text → r ≡ server_of text
unfolding server_of
server_is text r at is = is ∙ sym (ap (λ (n : ℕ). cond (eqb n 36) (parsed text) None) at)

pub server_is_none : (text : List ℕ) → (length text ≡ 36 → ⊥) → None ≡ server_of text
unfolding server_of
server_is_none text not_at = let e : eqb (length text) 36 ≡ false = grind (arith, nat_tests) in sym (ap (λ (b : Bool). cond b (parsed text) None) e)

-- ---- white space
-- one more byte at the end
solid_push : (xs : List ℕ) (b : ℕ) → solid_length (xs ++ b ∷ []) ≡ cond (not (is_white b)) (length xs + 1) (solid_length xs)
solid_push [] b = by_test (is_white b)
  where
    by_test : (t : Bool) → ◌≡◌ {A = ℕ} (cond t 0 1) (cond (not t) 1 0)
    by_test true = refl
    by_test false = refl
solid_push (x ∷ xs) b = rw (solid_push xs b) (by_test (is_white b))
  where
    some : (n : ℕ) (w : Bool) → ◌≡◌ {A = ℕ} (cond ((eqb (n + 1) 0) && w) 0 (n + 1 + 1)) (suc n + 1)
    some n w =
        let not_zero : eqb (n + 1) 0 ≡ false = grind (arith, nat_tests) in
        let more : n + 1 + 1 ≡ suc n + 1 = omega arith in
        rw not_zero more

    by_test : (t : Bool) → ◌≡◌ {A = ℕ} (cond ((eqb (cond (not t) (length xs + 1) (solid_length xs)) 0) && is_white x) 0 (cond (not t) (length xs + 1) (solid_length xs) + 1)) (cond (not t) (suc (length xs) + 1) (solid_length (x ∷ xs)))
    by_test true = refl
    by_test false = some (length xs) (is_white x)

-- one more byte of the front
pub solid_more : (text : List ℕ) (i : ℕ) → i < length text → solid_length (take (i + 1) text) ≡ cond (not (is_white (get_or text i 0))) (i + 1) (solid_length (take i text))
solid_more text i h =
    let size : length (take i text) ≡ i = simp length-take (omega arith) in
    ap solid_length (take_more text i 0 h) ∙ solid_push (take i text) (get_or text i 0)
    ∙ ap (λ (n : ℕ). cond (not (is_white (get_or text i 0))) (n + 1) (solid_length (take i text))) size

-- ---- parts
module _ (p : ℕ → Bool) where
  pub prefix_within : (text : List ℕ) → prefix_len p text ≤ length text
  prefix_within [] = omega arith
  prefix_within (b ∷ bs) = by_test (p b) (prefix_within bs)
    where
      by_test : (t : Bool) → prefix_len p bs ≤ length bs → cond t (1 + prefix_len p bs) 0 ≤ suc (length bs)
      by_test true h = omega (arith, h)
      by_test false h = omega arith

  -- where no byte parts it, a text is its only part
  pub split_last : (text : List ℕ) → position_or_len p text ≡ length text → slice_split p text ≡ text ∷ []
  split_last text e = slice_split_none p text (λ k d m. fails_before_first p text k d (omega (arith, e, m)))

  pub split_some : (text : List ℕ) → 0 < length (slice_split p text)
  split_some text = omega (arith, length-slice_split p text)

  pub split_next : (text : List ℕ) (end : ℕ) → end ≡ position_or_len p text → end < length text → slice_split p text ≡ take end text ∷ slice_split p (drop (end + 1) text)
  split_next text end e lt =
      subst (λ (n : ℕ). slice_split p text ≡ take n text ∷ slice_split p (drop (n + 1) text)) (sym e)
      (slice_split_first p text 0 (subst (λ (n : ℕ). n < length text) e lt))

-- ---- what has been read, and what is left
onto_nil : (r : Result (List Interval) SetFault) → onto [] r ≡ r
onto_nil (Ok xs) = refl
onto_nil (Err f) = refl

onto_onto : (xs ys : List Interval) (r : Result (List Interval) SetFault) → onto xs (onto ys r) ≡ onto (xs ++ ys) r
onto_onto xs ys (Ok zs) = ap (λ (l : List Interval). let r : Result (List Interval) SetFault = Ok l in r) (sym (append_assoc xs ys zs))
onto_onto xs ys (Err f) = refl

abbrev joined : Result (List Interval) SetFault → List Claim → Result (List Interval) SetFault
joined (Ok xs) rest = onto xs (all_or_first rest)
joined (Err f) rest = Err f

all_append : (cs rest : List Claim) → all_or_first (cs ++ rest) ≡ joined (all_or_first cs) rest
all_append [] rest = sym (onto_nil (all_or_first rest))
all_append (Err f ∷ cs) rest = refl
all_append (Ok x ∷ cs) rest = ap (onto (x ∷ [])) (all_append cs rest) ∙ by_result (all_or_first cs)
  where
    by_result : (r : Result (List Interval) SetFault) → onto (x ∷ []) (joined r rest) ≡ joined (onto (x ∷ []) r) rest
    by_result (Ok ys) = onto_onto (x ∷ []) ys (all_or_first rest)
    by_result (Err f) = refl

-- reading on behind what has been read
pub read_on : (old new : List Interval) (cs rest : List Claim) → onto old (all_or_first cs) ≡ Ok new → onto new (all_or_first rest) ≡ onto old (all_or_first (cs ++ rest))
read_on old new cs rest h = by_result (all_or_first cs) refl h ∙ ap (onto old) (sym (all_append cs rest))
  where
    by_result : (r : Result (List Interval) SetFault) → all_or_first cs ≡ r → onto old r ≡ Ok new → onto new (all_or_first rest) ≡ onto old (joined (all_or_first cs) rest)
    by_result (Ok xs) is e =
        let same : old ++ xs ≡ new = cc in
        ap (λ (l : List Interval). onto l (all_or_first rest)) (sym same) ∙ sym (onto_onto old xs (all_or_first rest)) ∙ ap (λ r. onto old (joined r rest)) (sym is)
    by_result (Err f) is e = absurd (cc)

-- the first fault stays the first
pub fault_on : (old : List Interval) (cs rest : List Claim) (f : SetFault) → onto old (all_or_first cs) ≡ Err f → onto old (all_or_first (cs ++ rest)) ≡ Err f
fault_on old cs rest f h = ap (onto old) (all_append cs rest) ∙ by_result (all_or_first cs) h
  where
    by_result : (r : Result (List Interval) SetFault) → onto old r ≡ Err f → onto old (joined r rest) ≡ Err f
    by_result (Ok xs) e = absurd (cc)
    by_result (Err g) e = e

-- a fault of a part is that of the whole
pub gives_fault : (X Y : Type 0) {B D : Type 0} (e : ReadFault) (b : B) (d : D) (r : Result B SetFault) (s : Result D SetFault) → ((f : SetFault) → r ≡ Err f → s ≡ Err f)
    → (let from : Result X ReadFault = Err e in Gives from b r) → (let to : Result Y ReadFault = Err e in Gives to d s)
gives_fault X Y (faults.Text f) b d r s on h = on f h
gives_fault X Y faults.OutOfMemory b d r s on h = h

-- a refusal that is passed on as it is
pub err_is : {T E : Type 0} (r : Result T E) (e : E) → IsErr r × IsErrAnd r (λ x. x ≡ e) → r ≡ Err e
err_is (Ok x) e h = absurd (false≢true h.0)
err_is {T} {E} (Err x) e h = ap (λ (y : E). let r : Result T E = Err y in r) h.1

-- ---- the set
pub reads_fault : (X : Type 0) (e : ReadFault) (new old : List Interval) (at : ℕ) (text : List ℕ) → old ≡ []
    → (let from : Result X ReadFault = Err e in Gives from new (onto old (all_or_first (text_says at text)))) → (let to : Result Position ReadFault = Err e in Reads to (reading_from at text))
unfolding reading_from
reads_fault X (faults.Text f) new old at text none h =
    ap set_of_all (sym (onto_nil (all_or_first (text_says at text))) ∙ ap (λ xs. onto xs (all_or_first (text_says at text))) (sym none) ∙ h)
reads_fault X faults.OutOfMemory new old at text none h = h

pub reads_ok : (new old : List Interval) (at : ℕ) (text : List ℕ) (set : Position) → old ≡ [] → onto old (all_or_first (text_says at text)) ≡ Ok new → set ≡ position_of new → reading_from at text ≡ Ok set
unfolding reading_from
reads_ok new old at text set none h is =
    ap set_of_all (sym (onto_nil (all_or_first (text_says at text))) ∙ ap (λ xs. onto xs (all_or_first (text_says at text))) (sym none) ∙ h)
    ∙ ap (λ (p : Position). let r : Result Position SetFault = Ok p in r) (sym is)

-- ---- items
abbrev pub colons : List ℕ → List (List ℕ)
colons text = slice_split (λ b. eqb b 58) text

pub items_next : (server : List ℕ) (at end : ℕ) (items : List ℕ) (r : Claim) → end ≡ position_or_len (λ b. eqb b 58) items → end < length items → r ≡ item_says server at (take end items)
    → items_say server at (colons items) ≡ r ∷ items_say server (at + (end + 1)) (colons (drop (end + 1) items))
items_next server at end items r e lt is =
    let size : length (take end items) ≡ end = simp length-take (omega (arith, lt)) in
    let place : at + length (take end items) + 1 ≡ at + (end + 1) = omega (arith, size) in
    ap (items_say server at) (split_next (λ b. eqb b 58) items end e lt)
    ∙ ap (λ (n : ℕ). item_says server at (take end items) ∷ items_say server n (colons (drop (end + 1) items))) place
    ∙ ap (λ (c : Claim). c ∷ items_say server (at + (end + 1)) (colons (drop (end + 1) items))) (sym is)

pub items_last : (server : List ℕ) (at end : ℕ) (items : List ℕ) (r : Claim) → end ≡ position_or_len (λ b. eqb b 58) items → length items ≤ end → r ≡ item_says server at items → items_say server at (colons items) ≡ r ∷ []
items_last server at end items r e past is =
    let within : position_or_len (λ b. eqb b 58) items ≤ length items = prefix_within (λ b. not (eqb b 58)) items in
    let here : position_or_len (λ b. eqb b 58) items ≡ length items = omega (arith, e, past, within) in
    ap (items_say server at) (split_last (λ b. eqb b 58) items here) ∙ ap (λ (c : Claim). c ∷ []) (sym is)

-- ---- a UUID and its items
abbrev pub named_by : ℕ → ℕ → List ℕ → List (List ℕ) → Option (List ℕ) → List Claim
named_by start at uuid items server = elim server [
  | None ↦ Err (BadUuid (cond (eqb (length uuid) 0) start at)) ∷ []
  | Some s ↦ behind_uuid s (at + length uuid) items
]

pub named_none : (start at end : ℕ) (part : List ℕ) → end ≡ position_or_len (λ b. eqb b 58) part → end ≤ length part → server_of (take end part) ≡ None
    → named_says start at (colons part) ≡ Err (BadUuid (cond (eqb end 0) start at)) ∷ []
named_none start at end part e le none = by_end (nat_le (length part) end) refl
  where
    size : length (take end part) ≡ end
    size = simp length-take (omega (arith, le))

    from : (items : List (List ℕ)) → named_says start at (take end part ∷ items) ≡ Err (BadUuid (cond (eqb end 0) start at)) ∷ []
    from items =
        ap (named_by start at (take end part) items) none
        ∙ ap (λ (n : ℕ). let cs : List Claim = Err (BadUuid (cond (eqb n 0) start at)) ∷ [] in cs) size

    by_end : (b : Bool) → nat_le (length part) end ≡ b → named_says start at (colons part) ≡ Err (BadUuid (cond (eqb end 0) start at)) ∷ []
    by_end true test =
        let all : length part ≤ end = grind (arith, nat_tests) in
        let here : end ≡ length part = omega (arith, all, le) in
        let whole : take end part ≡ part = take_all end part all in
        ap (named_says start at) (split_last (λ b. eqb b 58) part (sym e ∙ here)) ∙ subst (λ (t : List ℕ). named_says start at (t ∷ []) ≡ Err (BadUuid (cond (eqb end 0) start at)) ∷ []) whole (from [])
    by_end false test =
        let some : end < length part = grind (arith, nat_tests) in
        ap (named_says start at) (split_next (λ b. eqb b 58) part end e some) ∙ from (colons (drop (end + 1) part))

behind_some : (server : List ℕ) (end : ℕ) (items : List (List ℕ)) → 0 < length items → behind_uuid server end items ≡ items_say server (end + 1) items
behind_some server end [] h = absurd (omega arith)
behind_some server end (i ∷ is) h = refl

pub named_some : (start at end : ℕ) (part server : List ℕ) → end ≡ position_or_len (λ b. eqb b 58) part → end ≤ length part → server_of (take end part) ≡ Some server
    → named_says start at (colons part) ≡ behind_at server (at + end) part end
named_some start at end part server e le some = by_end (nat_lt end (length part)) refl
  where
    size : length (take end part) ≡ end
    size = simp length-take (omega (arith, le))

    by_end : (b : Bool) → nat_lt end (length part) ≡ b → named_says start at (colons part) ≡ cond b (items_say server (at + end + 1) (colons (drop (end + 1) part))) (Err (BadInterval (at + end)) ∷ [])
    by_end true test =
        let lt : end < length part = grind (arith, nat_tests) in
        ap (named_says start at) (split_next (λ b. eqb b 58) part end e lt)
        ∙ ap (named_by start at (take end part) (colons (drop (end + 1) part))) some
        ∙ behind_some server (at + length (take end part)) (colons (drop (end + 1) part)) (split_some (λ b. eqb b 58) (drop (end + 1) part))
        ∙ ap (λ (n : ℕ). items_say server (at + n + 1) (colons (drop (end + 1) part))) size
    by_end false test =
        let here : end ≡ length part = grind (arith, nat_tests) in
        let whole : take end part ≡ part = take_all end part (omega (arith, here)) in
        ap (named_says start at) (split_last (λ b. eqb b 58) part (sym e ∙ here))
        ∙ ap (named_by start at part []) (subst (λ (t : List ℕ). server_of t ≡ Some server) whole some)
        ∙ ap (λ (n : ℕ). let cs : List Claim = Err (BadInterval (at + n)) ∷ [] in cs) (sym here)

pub behind_more : (server : List ℕ) (place end : ℕ) (part : List ℕ) → end < length part → behind_at server place part end ≡ items_say server (place + 1) (colons (drop (end + 1) part))
behind_more server place end part lt =
    let test : nat_lt end (length part) ≡ true = grind (arith, nat_tests) in
    ap (λ (b : Bool). cond b (items_say server (place + 1) (colons (drop (end + 1) part))) (Err (BadInterval place) ∷ [])) test

-- ---- parts between commas
pub parts_more : (behind : Bool) (at : ℕ) (part : List ℕ) (parts : List (List ℕ)) → 0 < length parts → parts_say behind at (part ∷ parts) ≡ part_says behind true at part ++ parts_say true (at + length part + 1) parts
parts_more behind at part [] h = absurd (omega arith)
parts_more behind at part (p ∷ ps) h = refl

abbrev pub commas : List ℕ → List (List ℕ)
commas text = slice_split (λ b. eqb b 44) text

pub parts_next : (behind : Bool) (at end : ℕ) (text part : List ℕ) → end ≡ position_or_len (λ b. eqb b 44) text → end < length text → part ≡ take end text
    → parts_say behind at (commas text) ≡ part_says behind true at part ++ parts_say true (at + (end + 1)) (commas (drop (end + 1) text))
parts_next behind at end text part e lt is =
    let size : length (take end text) ≡ end = simp length-take (omega (arith, lt)) in
    let place : at + length (take end text) + 1 ≡ at + (end + 1) = omega (arith, size) in
    ap (parts_say behind at) (split_next (λ b. eqb b 44) text end e lt)
    ∙ parts_more behind at (take end text) (commas (drop (end + 1) text)) (split_some (λ b. eqb b 44) (drop (end + 1) text))
    ∙ ap (λ (n : ℕ). part_says behind true at (take end text) ++ parts_say true n (commas (drop (end + 1) text))) place
    ∙ ap (λ (t : List ℕ). part_says behind true at t ++ parts_say true (at + (end + 1)) (commas (drop (end + 1) text))) (sym is)

pub parts_last : (behind : Bool) (at end : ℕ) (text : List ℕ) → end ≡ position_or_len (λ b. eqb b 44) text → length text ≤ end → parts_say behind at (commas text) ≡ part_says behind false at text
parts_last behind at end text e past =
    let within : position_or_len (λ b. eqb b 44) text ≤ length text = prefix_within (λ b. not (eqb b 44)) text in
    ap (parts_say behind at) (split_last (λ b. eqb b 44) text (omega (arith, e, past, within)))

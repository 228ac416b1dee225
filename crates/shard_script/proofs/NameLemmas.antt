-- Names, and lists of those that actions start.
use Rattle.std.proofs.Common.{◌≡◌, ◌≢◌, ℕ, ◌≤◌, List, [], ◌∷◌, ◌++◌, Bool, true, false, not, cond, ◌&&◌, ◌||◌, Some, None, length, refl, sym, ap, subst, ◌∙◌, arith}
use Rattle.std.specs.Prelude.{All, codes, nat_le}
use Rattle.std.specs.List.{list_all, Contains}
use Rattle.std.specs.Str.{bytes_eq}
use Rattle.std.proofs.lemmas.Bool.{false≢true}
use Rattle.std.proofs.lemmas.Bool.Decides.{nat_tests}
use Rattle.std.proofs.lemmas.List.{append_assoc, append-nil}
use Rattle.std.proofs.lemmas.List.Elements.{All-nil, All-cons, All-head, All-tail, All-append}
use Rattle.std.proofs.lemmas.Map.Made.{is_member-Decides}
use Rattle.std.proofs.lemmas.Slice.Eq.{bytes_eq-Decides}
use Rattle.shard_script.specs.declared.script.Action.{Action}
use Rattle.shard_script.specs.Names.{has_name, started_by, started, NamesDiffer, IsKnown, AreKnown}
use Rattle.script_commands.specs.Words.{IsName, is_name_byte, begins_with_letter, is_taken, name_reading}
use Rattle.script_commands.proofs.OptionLemmas.{only_if_some, and_both, not_true}
use Rattle.shard_script.proofs.TabletsInOrder.{or_false}

-- ---- one name

pub not_same : (b : Bool) → (b ≡ true → ⊥) → b ≡ false
not_same true h = absurd (h refl)
not_same false h = refl

pub or_none : (a b : Bool) → a ≡ false → b ≡ false → (a || b) ≡ false
or_none a b p q = rw (p, q) refl

other_name : (a b : List ℕ) → bytes_eq a b ≡ false → a ≢ b
other_name a b test same = false≢true (sym test ∙ (bytes_eq-Decides a b).1 same)

names_apart : (a b : List ℕ) → a ≢ b → bytes_eq a b ≡ false
names_apart a b other = not_same (bytes_eq a b) (λ same. other ((bytes_eq-Decides a b).0 same))

pub name_of : (text name : List ℕ) → name_reading text ≡ Some name → (text ≡ name) × IsName name
unfolding name_reading
name_of text name h =
    let p = only_if_some (begins_with_letter text && nat_le (length text) 16 && list_all is_name_byte text && not (is_taken text)) text name h in
    let p1 = and_both (begins_with_letter text && nat_le (length text) 16 && list_all is_name_byte text) (not (is_taken text)) p.0 in
    let p2 = and_both (begins_with_letter text && nat_le (length text) 16) (list_all is_name_byte text) p1.0 in
    let p3 = and_both (begins_with_letter text) (nat_le (length text) 16) p2.0 in
    let few : nat_le (length text) 16 ≡ true = p3.1 in
    let free = or_false (bytes_eq text (codes "main")) (bytes_eq text (codes "control")) (not_true (is_taken text) p1.1) in (
      p.1,
      subst (λ (n : List ℕ). IsName n) p.1 (record {
        first_letter = p3.0;
        few_bytes = grind (arith, nat_tests);
        bytes = p2.1;
        not_main = other_name text (codes "main") free.0;
        not_control = other_name text (codes "control") free.1;
      }),
    )

pub name_reads : (name : List ℕ) → IsName name → name_reading name ≡ Some name
unfolding name_reading
name_reads name h =
    let few : nat_le (length name) 16 ≡ true = (let size : length name ≤ 16 = h.few_bytes in grind (arith, nat_tests)) in
    let free : is_taken name ≡ false = or_none (bytes_eq name (codes "main")) (bytes_eq name (codes "control")) (names_apart name (codes "main") h.not_main) (names_apart name (codes "control") h.not_control) in
    all_hold (begins_with_letter name) (nat_le (length name) 16) (list_all is_name_byte name) (is_taken name) h.first_letter few h.bytes free
  where
    all_hold : (a b c d : Bool) → a ≡ true → b ≡ true → c ≡ true → d ≡ false → cond (a && b && c && not d) (Some name) None ≡ Some name
    all_hold true true true false p q r s = refl
    all_hold true true true true p q r s = absurd (false≢true (sym s))
    all_hold true true false d p q r s = absurd (false≢true r)
    all_hold true false c d p q r s = absurd (false≢true q)
    all_hold false b c d p q r s = absurd (false≢true p)

-- ---- names that are known

pub known_is : (names : List (List ℕ)) (name : List ℕ) → has_name names name ≡ true → Contains names name
known_is names name h = (is_member-Decides bytes_eq-Decides names name).0 h

pub is_known : (names : List (List ℕ)) (name : List ℕ) → Contains names name → has_name names name ≡ true
is_known names name h = (is_member-Decides bytes_eq-Decides names name).1 h

-- ---- one more

pub started_more : (xs : List Action) (x : Action) → started (xs ++ x ∷ []) ≡ started xs ++ started_by x
started_more [] x = append-nil (started_by x)
started_more (y ∷ ys) x = ap (λ (ns : List (List ℕ)). started_by y ++ ns) (started_more ys x) ∙ sym (append_assoc (started_by y) (started ys) (started_by x))

pub known_more : (names : List (List ℕ)) (xs : List Action) (x : Action) → AreKnown names xs → IsKnown (names ++ started xs) x → AreKnown names (xs ++ x ∷ [])
known_more names [] x h one = (subst (λ (ns : List (List ℕ)). IsKnown ns x) (append-nil names) one, tt)
known_more names (y ∷ ys) x h one = (h.0, known_more (names ++ started_by y) ys x h.1 (subst (λ (ns : List (List ℕ)). IsKnown ns x) (sym (append_assoc names (started_by y) (started ys))) one))

pub differ_more : (ns : List (List ℕ)) (n : List ℕ) → NamesDiffer ns → has_name ns n ≡ false → NamesDiffer (ns ++ n ∷ [])
differ_more [] n h new = (All-nil (λ k. n ≢ k), tt)
differ_more (m ∷ ms) n h new =
    let tests = or_false (bytes_eq n m) (has_name ms n) new in
    let other : m ≢ n = λ same. other_name n m tests.0 (sym same) in
    (All-append (λ k. m ≢ k) ms (n ∷ []) h.0 (All-cons (λ k. m ≢ k) n [] other (All-nil (λ k. m ≢ k))), differ_more ms n h.1 tests.1)

-- what holds of all holds of one in the middle
All-middle : (P : List ℕ → Type 0) (ms : List (List ℕ)) (n : List ℕ) (ns : List (List ℕ)) → All P (ms ++ n ∷ ns) → P n
All-middle P [] n ns h = All-head P n ns h
All-middle P (m ∷ ms) n ns h = All-middle P ms n ns (All-tail P m (ms ++ n ∷ ns) h)

pub not_before : (ms : List (List ℕ)) (n : List ℕ) (ns : List (List ℕ)) → NamesDiffer (ms ++ n ∷ ns) → has_name ms n ≡ false
not_before [] n ns h = refl
not_before (m ∷ ms) n ns h =
    let other : m ≢ n = All-middle (λ k. m ≢ k) ms n ns h.0 in
    or_none (bytes_eq n m) (has_name ms n) (names_apart n m (λ same. other (sym same))) (not_before ms n ns h.1)

-- Lines that say nothing may stand anywhere among the others.
use Rattle.std.proofs.Common.{◌≡◌, ℕ, suc, ◌+◌, ◌≤◌, List, [], ◌∷◌, ◌++◌, Bool, true, false, cond, ltb, not, Option, Some, None, Result, Ok, Err, length, refl, sym, ap, subst, ◌∙◌, arith}
use Rattle.std.specs.Prelude.{All}
use Rattle.std.proofs.lemmas.Bool.Decides.{nat_tests}
use Rattle.std.proofs.lemmas.List.Elements.{All-nil, All-cons, All-head, All-tail}
use borrow.Author.Tests.{ltb-false}
use Rattle.shard_script.specs.declared.script.Script.{Script}
use Rattle.shard_script.specs.Lines.{words_of, say_nothing}
use Rattle.shard_script.specs.Script.{read_on, with_bytes, with_words}
use Rattle.shard_script.specs.Grammar.{told_lines, HasScriptBytes}
use Rattle.shard_script.proofs.ScriptLemmas.{bytes_of_added, same_with}

-- the line says something
abbrev pub Tells : List ℕ → Type 0
Tells l = say_nothing (words_of l) ≡ false

pub record Step (place : ℕ) (s t : Script) (l : List ℕ) (ls : List (List ℕ)) : Type 0 where
  pub next : Script
  pub added : with_bytes s l ≡ Some next
  pub room : place ≤ 20000
  pub rest : read_on (place + 1) next ls ≡ Ok t

step_by : (place : ℕ) (s t : Script) (l : List ℕ) (ls : List (List ℕ)) (b : Bool) (o : Option Script) → ltb 20000 place ≡ b → with_bytes s l ≡ o → (cond b (Err place) (elim o [ None ↦ Err place | Some u ↦ read_on (place + 1) u ls ])) ≡ Ok t → Step place s t l ls
step_by place s t l ls true o past with got = absurd (cc)
step_by place s t l ls false None past with got = absurd (cc)
step_by place s t l ls false (Some u) past with got = record { next = u; added = with; room = omega (arith, ltb-false 20000 place past); rest = got }

pub step_of : (place : ℕ) (s t : Script) (l : List ℕ) (ls : List (List ℕ)) → read_on place s (l ∷ ls) ≡ Ok t → Step place s t l ls
step_of place s t l ls got = step_by place s t l ls (ltb 20000 place) (with_bytes s l) refl refl got

pub step_on : (place : ℕ) (s u : Script) (l : List ℕ) (ls : List (List ℕ)) → place ≤ 20000 → with_bytes s l ≡ Some u → read_on place s (l ∷ ls) ≡ read_on (place + 1) u ls
step_on place s u l ls le added =
    let room : ltb 20000 place ≡ false = grind (arith, nat_tests) in
    ap (λ (b : Bool). let r : Result Script ℕ = cond b (Err place) (elim (with_bytes s l) [ None ↦ Err place | Some t ↦ read_on (place + 1) t ls ]) in r) room
    ∙ ap (λ (o : Option Script). let r : Result Script ℕ = elim o [ None ↦ Err place | Some t ↦ read_on (place + 1) t ls ] in r) added

-- ---- lists of lines

pub All-split : {A : Type 0} (P : A → Type 0) (xs ys : List A) → All P (xs ++ ys) → All P xs × All P ys
All-split P [] ys all = (All-nil P, all)
All-split P (x ∷ xs) ys all =
    let rest = All-split P xs ys (All-tail P x (xs ++ ys) all) in
    (All-cons P x xs (All-head P x (xs ++ ys) all) rest.0, rest.1)

pub all_tell : (ls : List (List ℕ)) → All Tells (told_lines ls)
all_tell [] = All-nil Tells
all_tell (l ∷ ls) = by_test (say_nothing (words_of l)) refl (all_tell ls)
  where
    by_test : (b : Bool) → say_nothing (words_of l) ≡ b → All Tells (told_lines ls) → All Tells (cond (not b) (l ∷ told_lines ls) (told_lines ls))
    by_test true is rest = rest
    by_test false is rest = All-cons Tells l (told_lines ls) is rest

pub fewer_told : (ls : List (List ℕ)) → length (told_lines ls) ≤ length ls
fewer_told [] = omega arith
fewer_told (l ∷ ls) = one (say_nothing (words_of l)) (fewer_told ls)
  where
    one : (b : Bool) → length (told_lines ls) ≤ length ls → length (cond (not b) (l ∷ told_lines ls) (told_lines ls)) ≤ suc (length ls)
    one true le = omega arith
    one false le = omega arith

pub bytes_on : (place : ℕ) (s t : Script) (ls : List (List ℕ)) → read_on place s ls ≡ Ok t → All HasScriptBytes ls
bytes_on place s t [] got = All-nil HasScriptBytes
bytes_on place s t (l ∷ ls) got =
    let step = step_of place s t l ls got in
    All-cons HasScriptBytes l ls (bytes_of_added s step.next l step.added) (bytes_on (place + 1) step.next t ls step.rest)

-- ---- what is read of all lines is what is read of those that say something

by_told : (s t : Script) (l : List ℕ) (ls : List (List ℕ)) (b : Bool) (q : ℕ) → say_nothing (words_of l) ≡ b → with_bytes s l ≡ Some t → q ≤ 20000 → (u : Script) → ((p : ℕ) → p ≤ q + 1 → read_on p t (told_lines ls) ≡ Ok u) → read_on q s (cond (not b) (l ∷ told_lines ls) (told_lines ls)) ≡ Ok u
by_told s t l ls true q is added room u rest = subst (λ (x : Script). read_on q x (told_lines ls) ≡ Ok u) (sym (same_with s t l is added)) (rest q (omega arith))
by_told s t l ls false q is added room u rest = step_on q s t l (told_lines ls) room added ∙ rest (q + 1) (omega arith)

pub told_on : (place q : ℕ) (s t : Script) (ls : List (List ℕ)) → q ≤ place → read_on place s ls ≡ Ok t → read_on q s (told_lines ls) ≡ Ok t
told_on place q s t [] le got = got
told_on place q s t (l ∷ ls) le got =
    let step = step_of place s t l ls got in
    by_told s step.next l ls (say_nothing (words_of l)) q refl step.added (omega (arith, step.room)) t
    (λ p less. told_on (place + 1) p step.next t ls (omega arith) step.rest)

-- a line that says nothing is read wherever it stands
passed_over : (s : Script) (l : List ℕ) → say_nothing (words_of l) ≡ true → HasScriptBytes l → with_bytes s l ≡ Some s
unfolding with_bytes
passed_over s l is bytes =
    ap (λ (b : Bool). let r : Option Script = cond (not b) None (cond (say_nothing (words_of l)) (Some s) (with_words s (words_of l))) in r) bytes
    ∙ ap (λ (b : Bool). cond b (Some s) (with_words s (words_of l))) is

by_all : (place q : ℕ) (s u : Script) (l : List ℕ) (ls : List (List ℕ)) (b : Bool) → say_nothing (words_of l) ≡ b → HasScriptBytes l → place ≤ 20000
    → read_on q s (cond (not b) (l ∷ told_lines ls) (told_lines ls)) ≡ Ok u
    → ((p : ℕ) (t : Script) → read_on p t (told_lines ls) ≡ Ok u → read_on (place + 1) t ls ≡ Ok u) → read_on place s (l ∷ ls) ≡ Ok u
by_all place q s u l ls true is bytes room got rest = step_on place s s l ls room (passed_over s l is bytes) ∙ rest q s got
by_all place q s u l ls false is bytes room got rest =
    let step = step_of q s u l (told_lines ls) got in
    step_on place s step.next l ls room step.added ∙ rest (q + 1) step.next step.rest

pub all_on : (place q : ℕ) (s u : Script) (ls : List (List ℕ)) → place + length ls ≤ 20001 → All HasScriptBytes ls → read_on q s (told_lines ls) ≡ Ok u → read_on place s ls ≡ Ok u
all_on place q s u [] few bytes got = got
all_on place q s u (l ∷ ls) few bytes got =
    by_all place q s u l ls (say_nothing (words_of l)) refl (All-head HasScriptBytes l ls bytes) (omega arith) got
    (λ p t more. all_on (place + 1) p t u ls (omega arith) (All-tail HasScriptBytes l ls bytes) more)

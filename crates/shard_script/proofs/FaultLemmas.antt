-- The first fault is on the first line with which the lines make no script.
use Rattle.std.proofs.Common.{◌≡◌, ℕ, zero, suc, ◌+◌, ◌-◌, ◌<◌, ◌≤◌, List, [], ◌∷◌, Bool, true, false, cond, ltb, Option, Some, None, Result, Ok, Err, length, take, refl, sym, ap, subst, ◌∙◌, arith}
use Rattle.std.specs.Prelude.{nat_le}
use Rattle.std.proofs.lemmas.Bool.Decides.{nat_tests}
use Rattle.std.proofs.lemmas.List.{take-take}
use Rattle.shard_script.specs.declared.script.Script.{Script}
use Rattle.shard_script.specs.Script.{read_on, read_lines, with_bytes, empty_script, reading, lines_of, ended_lines, first_bytes, fault_behind}
use Rattle.shard_script.specs.Grammar.{Spell, IsFirstFault, HasFault, FaultsAsSpelled}
use Rattle.shard_script.specs.Grammar.HasFault.{in_short, in_long, too_long}
use Rattle.shard_script.proofs.GrammarLemmas.{spell_of}
use Rattle.shard_script.proofs.SpellLemmas.{read_of}
use Rattle.shard_script.proofs.ToldLemmas.{step_of, step_on}

-- where a reading came to its fault
record Faulted (place : ℕ) (s : Script) (ls : List (List ℕ)) (at : ℕ) : Type 0 where
  done : ℕ
  at_is : at ≡ place + done
  within : done < length ls
  so_far : Script
  before : read_on place s (take done ls) ≡ Ok so_far
  here : read_on place s (take (suc done) ls) ≡ Err at

ends_here : (place : ℕ) (s : Script) (l : List ℕ) (ls : List (List ℕ)) (at : ℕ) → ((ks : List (List ℕ)) → read_on place s (l ∷ ks) ≡ Err place) → read_on place s (l ∷ ls) ≡ Err at → Faulted place s (l ∷ ls) at
ends_here place s l ls at fault got =
    let same : place ≡ at = (let e : Err place ≡ Err at = sym (fault ls) ∙ got in cc) in
    record {
      done = 0;
      at_is = omega (arith, same);
      within = omega arith;
      so_far = s;
      before = refl;
      here = fault [] ∙ ap (λ (n : ℕ). let r : Result Script ℕ = Err n in r) same;
    }

goes_on : (place : ℕ) (s u : Script) (l : List ℕ) (ls : List (List ℕ)) (at : ℕ) → place ≤ 20000 → with_bytes s l ≡ Some u → Faulted (place + 1) u ls at → Faulted place s (l ∷ ls) at
goes_on place s u l ls at room added f = record {
  done = suc f.done;
  at_is = omega (arith, f.at_is);
  within = omega (arith, f.within);
  so_far = f.so_far;
  before = step_on place s u l (take f.done ls) room added ∙ f.before;
  here = step_on place s u l (take (suc f.done) ls) room added ∙ f.here;
}

past_fault : (place : ℕ) (s : Script) (l : List ℕ) → ltb 20000 place ≡ true → (ks : List (List ℕ)) → read_on place s (l ∷ ks) ≡ Err place
past_fault place s l past ks = ap (λ (b : Bool). let r : Result Script ℕ = cond b (Err place) (elim (with_bytes s l) [ None ↦ Err place | Some t ↦ read_on (place + 1) t ks ]) in r) past

line_fault : (place : ℕ) (s : Script) (l : List ℕ) → ltb 20000 place ≡ false → with_bytes s l ≡ None → (ks : List (List ℕ)) → read_on place s (l ∷ ks) ≡ Err place
line_fault place s l room none ks =
    ap (λ (b : Bool). let r : Result Script ℕ = cond b (Err place) (elim (with_bytes s l) [ None ↦ Err place | Some t ↦ read_on (place + 1) t ks ]) in r) room
    ∙ ap (λ (o : Option Script). let r : Result Script ℕ = elim o [ None ↦ Err place | Some t ↦ read_on (place + 1) t ks ] in r) none

fault_by : (place : ℕ) (s : Script) (l : List ℕ) (ls : List (List ℕ)) (at : ℕ) (b : Bool) (o : Option Script) → ltb 20000 place ≡ b → with_bytes s l ≡ o → read_on place s (l ∷ ls) ≡ Err at → ((u : Script) → read_on (place + 1) u ls ≡ Err at → Faulted (place + 1) u ls at) → Faulted place s (l ∷ ls) at
fault_by place s l ls at true o past with got rest = ends_here place s l ls at (past_fault place s l past) got
fault_by place s l ls at false None past with got rest = ends_here place s l ls at (line_fault place s l past with) got
fault_by place s l ls at false (Some u) past with got rest =
    let room : place ≤ 20000 = grind (arith, nat_tests) in
    goes_on place s u l ls at room with (rest u (sym (step_on place s u l ls room with) ∙ got))

faulted : (place : ℕ) (s : Script) (ls : List (List ℕ)) (at : ℕ) → read_on place s ls ≡ Err at → Faulted place s ls at
faulted place s [] at got = absurd (let e : Ok s ≡ Err at = got in cc)
faulted place s (l ∷ ls) at got = fault_by place s l ls at (ltb 20000 place) (with_bytes s l) refl refl got (λ u h. faulted (place + 1) u ls at h)

-- a front of what is read is read
front_read : (place : ℕ) (s t : Script) (ls : List (List ℕ)) (n : ℕ) → read_on place s ls ≡ Ok t → (u : Script) × (read_on place s (take n ls) ≡ Ok u)
front_read place s t ls zero got = (s, refl)
front_read place s t [] (suc n) got = (s, refl)
front_read place s t (l ∷ ls) (suc n) got =
    let step = step_of place s t l ls got in
    let rest = front_read (place + 1) step.next t ls n step.rest in
    (rest.0, step_on place s step.next l (take n ls) step.room step.added ∙ rest.1)

first_fault : (lines : List (List ℕ)) (at : ℕ) → read_lines lines ≡ Err at → IsFirstFault lines at
first_fault lines at got =
    let f = faulted 1 empty_script lines at got in
    let last : f.done ≡ at - 1 = omega (arith, f.at_is) in
    let all : suc f.done ≡ at = omega (arith, f.at_is) in
    record {
      counted = omega (arith, f.at_is);
      within = omega (arith, f.at_is, f.within);
      so_far = f.so_far;
      before = subst (λ (n : ℕ). Spell (take n lines) f.so_far) last (spell_of (take f.done lines) f.so_far f.before);
      here = λ s spelled. refused s (subst (λ (n : ℕ). read_lines (take n lines) ≡ Err at) all f.here) (read_of (take at lines) s spelled);
    }
  where
    refused : (s : Script) → read_lines (take at lines) ≡ Err at → read_lines (take at lines) ≡ Ok s → ⊥
    refused s fault read = let e : Err at ≡ Ok s = sym fault ∙ read in cc

-- what is read has no first fault
not_read : (lines : List (List ℕ)) (at : ℕ) (t : Script) → IsFirstFault lines at → read_lines lines ≡ Ok t → ⊥
not_read lines at t f got =
    let front = front_read 1 empty_script t lines at got in
    f.here front.0 (spell_of (take at lines) front.0 front.1)

not_earlier : (lines : List (List ℕ)) (a b : ℕ) → IsFirstFault lines a → IsFirstFault lines b → a < b → ⊥
not_earlier lines a b f g less =
    let front = front_read 1 empty_script g.so_far (take (b - 1) lines) a (read_of (take (b - 1) lines) g.so_far g.before) in
    let same : take a (take (b - 1) lines) ≡ take a lines = take-take a (b - 1) lines (omega arith) in
    f.here front.0 (spell_of (take a lines) front.0 (subst (λ (ls : List (List ℕ)). read_lines ls ≡ Ok front.0) same front.1))

one_fault : (lines : List (List ℕ)) (a b : ℕ) → IsFirstFault lines a → IsFirstFault lines b → a ≡ b
one_fault lines a b f g =
    let p = not_earlier lines a b f g in
    let q = not_earlier lines b a g f in
    omega (arith, p, q)

fault_of : (lines : List (List ℕ)) (at : ℕ) → IsFirstFault lines at → read_lines lines ≡ Err at
fault_of lines at f = by_result (read_lines lines) refl
  where
    by_result : (r : Result Script ℕ) → read_lines lines ≡ r → read_lines lines ≡ Err at
    by_result (Ok t) got = absurd (not_read lines at t f got)
    by_result (Err b) got = got ∙ ap (λ (n : ℕ). let r : Result Script ℕ = Err n in r) (one_fault lines b at (first_fault lines b got) f)

-- ---- the whole text

long_fault : (text : List ℕ) (at : ℕ) → 1048576 < length text → fault_behind (ended_lines (first_bytes text)) (read_lines (ended_lines (first_bytes text))) ≡ Err at → HasFault text at
long_fault text at long got = by_result (read_lines (ended_lines (first_bytes text))) refl got
  where
    by_result : (r : Result Script ℕ) → read_lines (ended_lines (first_bytes text)) ≡ r → fault_behind (ended_lines (first_bytes text)) r ≡ Err at → HasFault text at
    by_result (Ok s) is h = too_long s long (spell_of (ended_lines (first_bytes text)) s is) (let e : Err (length (ended_lines (first_bytes text)) + 1) ≡ Err at = h in cc)
    by_result (Err b) is h = in_long long (first_fault (ended_lines (first_bytes text)) at (is ∙ h))

pub faults_as_spelled : FaultsAsSpelled
unfolding reading
faults_as_spelled text at = ((λ got. has text at (nat_le (length text) 1048576) refl got), (λ h. is text at h))
  where
    has : (text : List ℕ) (at : ℕ) (b : Bool) → nat_le (length text) 1048576 ≡ b → cond b (read_lines (lines_of text)) (fault_behind (ended_lines (first_bytes text)) (read_lines (ended_lines (first_bytes text)))) ≡ Err at → HasFault text at
    has text at true test got = in_short (grind (arith, nat_tests)) (first_fault (lines_of text) at got)
    has text at false test got = long_fault text at (grind (arith, nat_tests)) got

    by : (text : List ℕ) (b : Bool) → nat_le (length text) 1048576 ≡ b → cond (nat_le (length text) 1048576) (read_lines (lines_of text)) (fault_behind (ended_lines (first_bytes text)) (read_lines (ended_lines (first_bytes text)))) ≡ cond b (read_lines (lines_of text)) (fault_behind (ended_lines (first_bytes text)) (read_lines (ended_lines (first_bytes text))))
    by text b test = ap (λ (c : Bool). cond c (read_lines (lines_of text)) (fault_behind (ended_lines (first_bytes text)) (read_lines (ended_lines (first_bytes text))))) test

    short_is : (text : List ℕ) → length text ≤ 1048576 → nat_le (length text) 1048576 ≡ true
    short_is text h = grind (arith, nat_tests)

    long_is : (text : List ℕ) → 1048576 < length text → nat_le (length text) 1048576 ≡ false
    long_is text h = grind (arith, nat_tests)

    is : (text : List ℕ) (at : ℕ) → HasFault text at → cond (nat_le (length text) 1048576) (read_lines (lines_of text)) (fault_behind (ended_lines (first_bytes text)) (read_lines (ended_lines (first_bytes text)))) ≡ Err at
    is text at (in_short short f) = by text true (short_is text short) ∙ fault_of (lines_of text) at f
    is text at (in_long long f) = by text false (long_is text long) ∙ ap (λ (r : Result Script ℕ). fault_behind (ended_lines (first_bytes text)) r) (fault_of (ended_lines (first_bytes text)) at f)
    is text at (too_long s long spelled last) =
        by text false (long_is text long) ∙ ap (λ (r : Result Script ℕ). fault_behind (ended_lines (first_bytes text)) r) (read_of (ended_lines (first_bytes text)) s spelled)
        ∙ ap (λ (n : ℕ). let r : Result Script ℕ = Err n in r) (sym last)

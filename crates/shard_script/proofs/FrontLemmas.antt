-- The first bytes of a text decide how it is read.
use Rattle.std.proofs.Common.{◌≡◌, ℕ, ◌<◌, ◌≤◌, List, Bool, true, false, cond, Result, length, take, min, refl, sym, ap, ◌∙◌, arith}
use Rattle.std.specs.Prelude.{nat_le}
use Rattle.std.proofs.lemmas.Bool.Decides.{nat_tests}
use Rattle.std.proofs.lemmas.List.{take-take, take_all, length-take}
use Rattle.shard_script.specs.declared.script.Script.{Script}
use Rattle.shard_script.specs.Faults.{fault_in, first_fault, FrontDecidesFault}
use Rattle.shard_script.specs.Script.{front, reading, read_lines, lines_of, ended_lines, first_bytes, fault_behind, FrontDecides}

-- one reading up to a length, and another by as many bytes of a longer text
read_by : {A : Type 0} → (ℕ → List ℕ → A) → (List ℕ → A) → ℕ → List ℕ → A
read_by long short most text = cond (nat_le (length text) most) (short text) (long most (take most text))

by_front : {A : Type 0} (long : ℕ → List ℕ → A) (short : List ℕ → A) (most more : ℕ) (text : List ℕ) → most < more → read_by long short most text ≡ read_by long short most (take more text)
unfolding read_by
by_front long short most more text less = by_test (nat_le (length text) most) refl
  where
    by_test : (b : Bool) → nat_le (length text) most ≡ b → cond (nat_le (length text) most) (short text) (long most (take most text)) ≡ cond (nat_le (length (take more text)) most) (short (take more text)) (long most (take most (take more text)))
    by_test true is =
        let few : length text ≤ most = grind (arith, nat_tests) in
        let whole : text ≡ take more text = sym (take_all more text (omega arith)) in
        ap (λ (t : List ℕ). cond (nat_le (length t) most) (short t) (long most (take most t))) whole
    by_test false is =
        let many : most < length text = grind (arith, nat_tests) in
        let size : length (take more text) ≡ min more (length text) = length-take more text in
        let still : nat_le (length (take more text)) most ≡ false = grind (arith, nat_tests) in
        let same : take most (take more text) ≡ take most text = take-take most more text (omega arith) in
        ap (λ (b : Bool). cond b (short text) (long most (take most text))) is
        ∙ ap (λ (t : List ℕ). long most t) (sym same)
        ∙ ap (λ (b : Bool). cond b (short (take more text)) (long most (take most (take more text)))) (sym still)

pub front_decides : FrontDecides
unfolding reading first_bytes front read_by
front_decides text =
    by_front (λ n t. fault_behind (ended_lines t) (read_lines (ended_lines t))) (λ t. read_lines (lines_of t)) 1048576 1048577 text (omega arith)

pub front_decides_fault : FrontDecidesFault
unfolding first_fault first_bytes front read_by
front_decides_fault text = by_front (λ n t. fault_in (ended_lines t)) (λ t. fault_in (lines_of t)) 1048576 1048577 text (omega arith)

-- A server is read from 36 bytes.
use Rattle.std.proofs.Common.{ℕ, List, length, Bool, false, cond, eqb, arith, ◌≡◌, Option, None, sym, ap, ◌∙◌}
use Rattle.std.proofs.lemmas.Bool.Decides.{nat_tests}
use Rattle.uuid.specs.Text.{parsed}
use Rattle.script_commands.specs.Words.{server_reading}

pub server_is : (text : List ℕ) (r : Option (List ℕ)) → length text ≡ 36 → r ≡ parsed text → r ≡ server_reading text
unfolding server_reading
server_is text r at is = is ∙ sym (ap (λ (n : ℕ). cond (eqb n 36) (parsed text) None) at)

pub server_is_none : (text : List ℕ) → (length text ≡ 36 → ⊥) → None ≡ server_reading text
unfolding server_reading
server_is_none text not_at = let e : eqb (length text) 36 ≡ false = grind (arith, nat_tests) in sym (ap (λ (b : Bool). cond b (parsed text) None) e)

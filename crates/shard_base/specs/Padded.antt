-- A text in an array of fixed length, with zeros past its end.
use Rattle.std.specs.Prelude.{◌≡◌, ◌≤◌, ◌-◌, ◌++◌, ℕ, List, length, take, replicate}
use Rattle.std.proofs.Common.{◌∙◌, ap, sym, arith, length-take-le}

-- the first bytes are the text, and the others are 0
pub record IsPadded (n : ℕ) (bytes : List ℕ) (len : ℕ) : Type 0 where
  pub within : len ≤ n
  pub size : length bytes ≡ n
  pub rest : bytes ≡ take len bytes ++ replicate (n - len) 0

pub length_again : (n : ℕ) (bytes : List ℕ) (len : ℕ) → IsPadded n bytes len → length (take len bytes) ≡ len
length_again n bytes len h = length-take-le len bytes (omega (arith, h.within, h.size))

-- the text and its zeros are the array
pub padded_again : (n : ℕ) (bytes : List ℕ) (len : ℕ) → IsPadded n bytes len → take len bytes ++ replicate (n - length (take len bytes)) 0 ≡ bytes
padded_again n bytes len h =
    ap (λ (k : ℕ). take len bytes ++ (let zeros : List ℕ = replicate (n - k) 0 in zeros)) (length_again n bytes len h) ∙ sym h.rest

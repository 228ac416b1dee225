-- Pieces of text, one behind the other.
use Rattle.std.proofs.Common.{◌≡◌, ℕ, List, ◌++◌, Result, Ok, Err, OnOk, ap, ◌∙◌}
use Rattle.std.proofs.lemmas.List.{append_assoc}

on_ok_map : {T E : Type 0} {P Q : Type 0} (r : Result T E) → (P → Q) → OnOk r P → OnOk r Q
on_ok_map (Ok x) f h = f h
on_ok_map (Err e) f h = tt

-- a piece behind a piece
pub piece_behind : {T E : Type 0} (r : Result T E) (a b c t d : List ℕ) → b ≡ a ++ t → OnOk r (c ≡ b ++ d) → OnOk r (c ≡ a ++ (t ++ d))
piece_behind r a b c t d is h = on_ok_map r (λ e. e ∙ ap (λ (x : List ℕ). x ++ d) is ∙ append_assoc a t d) h

pub three_pieces : (a b c d p q r : List ℕ) → b ≡ a ++ p → c ≡ b ++ q → d ≡ c ++ r → d ≡ a ++ (p ++ q ++ r)
three_pieces a b c d p q r one two three =
    three ∙ ap (λ (x : List ℕ). x ++ r) two ∙ ap (λ (x : List ℕ). (x ++ q) ++ r) one ∙ ap (λ (x : List ℕ). x ++ r) (append_assoc a p q) ∙ append_assoc a (p ++ q) r

-- pieces behind a piece
pub pieces_behind : (a b c d e p q r s : List ℕ) → b ≡ a ++ p → c ≡ b ++ q → d ≡ c ++ r → e ≡ d ++ s → e ≡ a ++ (p ++ q ++ r ++ s)
pieces_behind a b c d e p q r s one two three four =
    four ∙ ap (λ (x : List ℕ). x ++ s) three ∙ ap (λ (x : List ℕ). (x ++ r) ++ s) two ∙ ap (λ (x : List ℕ). ((x ++ q) ++ r) ++ s) one
    ∙ ap (λ (x : List ℕ). (x ++ r) ++ s) (append_assoc a p q) ∙ ap (λ (x : List ℕ). x ++ s) (append_assoc a (p ++ q) r) ∙ append_assoc a (p ++ q ++ r) s

-- a piece behind three
pub four_pieces : {T E : Type 0} (r : Result T E) (a b c d e p q s t : List ℕ) → b ≡ a ++ p → c ≡ b ++ q → d ≡ c ++ s → OnOk r (e ≡ d ++ t) → OnOk r (e ≡ a ++ (p ++ q ++ s ++ t))
four_pieces r a b c d e p q s t one two three h =
    on_ok_map r (λ four. pieces_behind a b c d e p q s t one two three four) h

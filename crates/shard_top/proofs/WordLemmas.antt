-- What words ask.
use Rattle.std.proofs.Common.{◌≡◌, ℕ, ◌≤◌, ◌<◌, List, [], ◌∷◌, Bool, true, false, Some, None, Result, Ok, Err, Vec, Global, arith, cond, length, map, codes, refl, sym, ap, subst, ◌∙◌}
use Rattle.std.specs.Str.{bytes_eq}
use Rattle.std.specs.Prelude.{IsSome}
use Rattle.std.proofs.lemmas.Bool.{false≢true}
use Rattle.script_commands.specs.Numbers.{number_within}
use Rattle.script_commands.proofs.NumberLemmas.{within_of}
use Rattle.shard_top.specs.declared.words.Asked.{Asked}
use Rattle.shard_top.specs.declared.words.Asked.TheVariants as asks
use Rattle.shard_top.specs.Words.{without_dashes, second_word, words_reading, fault_in, usage_fault, takes_script, reads_source}

pub few_rounds : (word : List ℕ) (n : ℕ) → number_within 1 1000 word ≡ Some n → (1 ≤ n) × (n ≤ 1000)
few_rounds word n is = let within = within_of 1 1000 word n is in (within.from_least, within.to_most)

pub not_at_fault : (words : List (List ℕ)) (asked : Asked) → words_reading words ≡ Ok asked → IsSome (usage_fault words) → ⊥
not_at_fault words asked is fault = false≢true (subst (λ (r : Result Asked (List ℕ)). IsSome (fault_in r)) is fault)

pub step_reads : (words : List (List ℕ)) → words_reading words ≡ Ok asks.Step → reads_source words ≡ false → ⊥
step_reads words is h = false≢true (sym h ∙ ap (λ (r : Result Asked (List ℕ)). takes_script r) is)

pub history_reads : (words : List (List ℕ)) → words_reading words ≡ Ok asks.History → reads_source words ≡ false → ⊥
history_reads words is h = false≢true (sym h ∙ ap (λ (r : Result Asked (List ℕ)). takes_script r) is)

pub gen_reads_nothing : (words : List (List ℕ)) (rounds : ℕ) → words_reading words ≡ Ok (asks.Gen rounds) → reads_source words ≡ true → ⊥
gen_reads_nothing words rounds is h = false≢true (sym (ap (λ (r : Result Asked (List ℕ)). takes_script r) is) ∙ h)

pub fault_reads_nothing : (words : List (List ℕ)) (word : List ℕ) → words_reading words ≡ Err word → reads_source words ≡ true → ⊥
fault_reads_nothing words word is h = false≢true (sym (ap (λ (r : Result Asked (List ℕ)). takes_script r) is) ∙ h)

second_of_one : (b : Bool) (w : List ℕ) → None ≡ second_word (cond b [] (w ∷ []))
second_of_one true w = refl
second_of_one false w = refl

-- one word has no second
pub no_second : (ws : List (Vec ℕ Global)) → length ws < 2 → None ≡ second_word (without_dashes (map (λ (w : Vec ℕ Global). w.items) ws))
no_second [] few = refl
no_second (w ∷ []) few = second_of_one (bytes_eq w.items (codes "--")) w.items
no_second (w ∷ v ∷ vs) few = absurd (omega arith)

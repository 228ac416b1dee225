-- The words of the program, without its name.
use Rattle.std.specs.Prelude.{ℕ, ◌≤◌, List, [], ◌∷◌, Bool, true, false, Option, Some, None, Result, Ok, Err, if◌then◌else◌, codes, ⊤}
use Rattle.std.specs.Str.{bytes_eq}
use Rattle.script_commands.specs.Numbers.{number_within}
use Rattle.shard_top.specs.declared.words.Asked.{Asked}
use Rattle.shard_top.specs.declared.words.Asked.TheVariants.{Step, History, Gen}

-- the words without the first that is `--`
abbrev pub without_dashes : List (List ℕ) → List (List ℕ)
without_dashes [] = []
without_dashes (w ∷ ws) = if bytes_eq w (codes "--") then ws else w ∷ without_dashes ws

abbrev pub first_word : List (List ℕ) → Option (List ℕ)
first_word [] = None
first_word (w ∷ ws) = Some w

abbrev pub second_word : List (List ℕ) → Option (List ℕ)
second_word [] = None
second_word (w ∷ ws) = first_word ws

-- this is asked, if no further word stands there
abbrev pub alone : Asked → Option (List ℕ) → Result Asked (List ℕ)
alone asked None = Ok asked
alone asked (Some word) = Err word

-- so many rounds, if the word is their number, from 1 to 1,000, and no further word stands there
abbrev pub rounds_by : List ℕ → Option (List ℕ) → Result Asked (List ℕ)
rounds_by word further = elim (number_within 1 1000 word) [ None ↦ Err word | Some n ↦ alone (Gen n) further ]

-- what the words behind `gen` ask
unfoldable pub gen_reading : List (List ℕ) → Result Asked (List ℕ)
gen_reading words = elim (first_word words) [ None ↦ Err (codes "incomplete") | Some word ↦ rounds_by word (second_word words) ]

-- what a first word behind `step` and the words behind that ask: `--history` may stand there, but not behind `--`
abbrev pub step_by : List ℕ → List (List ℕ) → Result Asked (List ℕ)
step_by first words =
    if bytes_eq first (codes "--history") then alone History (first_word (without_dashes words))
    else if bytes_eq first (codes "--") then alone Step (first_word words)
    else Err first

-- what the words behind `step` ask
unfoldable pub step_reading : List (List ℕ) → Result Asked (List ℕ)
step_reading [] = Ok Step
step_reading (first ∷ words) = step_by first words

-- what a first word and the words behind it ask
abbrev pub asked_by : List ℕ → List (List ℕ) → Result Asked (List ℕ)
asked_by first words =
    if bytes_eq first (codes "step") then step_reading words else if bytes_eq first (codes "gen") then gen_reading (without_dashes words) else Err first

-- What words ask: `step`, also with `--history`, or `gen` with a number of rounds; one `--` behind the first word says nothing. Or the first word that fits no reading, or
-- `incomplete` where a word is lacking.
unfoldable pub words_reading : List (List ℕ) → Result Asked (List ℕ)
words_reading [] = Err (codes "incomplete")
words_reading (first ∷ words) = asked_by first words

-- the word at fault, if there is one
abbrev pub fault_in : Result Asked (List ℕ) → Option (List ℕ)
fault_in (Ok asked) = None
fault_in (Err word) = Some word

-- the first word that fits no reading, or `incomplete`, if the words have no reading
abbrev pub usage_fault : List (List ℕ) → Option (List ℕ)
usage_fault words = fault_in (words_reading words)

-- whether it is done with a script that the source gives
abbrev pub takes_script : Result Asked (List ℕ) → Bool
takes_script (Ok Step) = true
takes_script (Ok History) = true
takes_script (Ok (Gen n)) = false
takes_script (Err word) = false

abbrev pub reads_source : List (List ℕ) → Bool
reads_source words = takes_script (words_reading words)

-- a rehearsal has from 1 to 1,000 rounds
abbrev pub HasFewRounds : Asked → Type 0
HasFewRounds Step = ⊤
HasFewRounds History = ⊤
HasFewRounds (Gen n) = (1 ≤ n) × (n ≤ 1000)

-- The options of a reparent, as vtctldclient (Vitess manual) has them: words that stand in any order round the shard's name. They are taken one word after
-- another, each option at most once.
use Rattle.std.specs.Prelude.{ℕ, ◌+◌, List, [], ◌∷◌, ◌++◌, ◌==◌, Bool, true, false, ◌||◌, not, Option, Some, None, is_some, if◌then◌else◌, length, take, drop, position, codes}
use Rattle.std.specs.List.{slice_split}
use Rattle.std.specs.Result.{result_ok}
use Rattle.std.specs.Str.{bytes_eq}
use Rattle.shard_base.specs.Options.{◌>>=◌}
use Rattle.shard_names.specs.Alias.{alias_reading}
use Rattle.shard_names.specs.ShardName.{shard_name_reading}
use Rattle.shard_names.specs.declared.alias.Alias.{Alias}
use Rattle.script_commands.specs.declared.options.Key.{Key}
use Rattle.script_commands.specs.declared.options.Key.TheVariants.{NewPrimary, Avoid, Ignored, Expected, Timeout}
use Rattle.script_commands.specs.declared.options.Options.{Options}
use Rattle.script_commands.specs.Numbers.{duration_reading}

-- the parts between separators
abbrev pub parts_of : ℕ → List ℕ → List (List ℕ)
parts_of separator bytes = slice_split (λ b. b == separator) bytes

-- nothing is taken yet
abbrev pub no_options : Options
no_options = record {
  pending = None;
  ended = false;
  shard = None;
  new_primary = None;
  avoid = None;
  ignored = [];
  expected = None;
  timeout = None;
  allow_cross_cell = false;
  prevent_cross_cell = false;
}

-- ---- values

-- an alias, where there is none yet
unfoldable pub alias_once : Option Alias → List ℕ → Option Alias
alias_once known text = if is_some known then None else result_ok (alias_reading text)

-- a duration, where there is none yet
unfoldable pub duration_once : Option ℕ → List ℕ → Option ℕ
duration_once known text = if is_some known then None else duration_reading text

-- these aliases, and the one that the part is
unfoldable pub with_alias : List Alias → List ℕ → Option (List Alias)
with_alias aliases part = result_ok (alias_reading part) >>= (λ a. Some (aliases ++ a ∷ []))

-- these aliases, and those that the parts are
abbrev pub aliases_on : List Alias → List (List ℕ) → Option (List Alias)
aliases_on aliases [] = Some aliases
aliases_on aliases (part ∷ parts) = with_alias aliases part >>= (λ more. aliases_on more parts)

-- aliases with commas between them, where there are none yet
unfoldable pub aliases_once : List Alias → List ℕ → Option (List Alias)
aliases_once known text = if length known == 0 then aliases_on [] (parts_of 44 text) else None

unfoldable pub with_new_primary : Options → List ℕ → Option Options
with_new_primary o text = alias_once o.new_primary text >>= (λ a. Some (record o { new_primary = Some a }))

unfoldable pub with_avoid : Options → List ℕ → Option Options
with_avoid o text = alias_once o.avoid text >>= (λ a. Some (record o { avoid = Some a }))

unfoldable pub with_ignored : Options → List ℕ → Option Options
with_ignored o text = aliases_once o.ignored text >>= (λ aliases. Some (record o { ignored = aliases }))

unfoldable pub with_expected : Options → List ℕ → Option Options
with_expected o text = alias_once o.expected text >>= (λ a. Some (record o { expected = Some a }))

unfoldable pub with_timeout : Options → List ℕ → Option Options
with_timeout o text = duration_once o.timeout text >>= (λ n. Some (record o { timeout = Some n }))

abbrev pub with_value : Options → Key → List ℕ → Option Options
with_value o NewPrimary text = with_new_primary o text
with_value o Avoid text = with_avoid o text
with_value o Ignored text = with_ignored o text
with_value o Expected text = with_expected o text
with_value o Timeout text = with_timeout o text

abbrev pub begins_dash : List ℕ → Bool
begins_dash [] = false
begins_dash (b ∷ bs) = b == 45

-- a value does not begin with a dash
unfoldable pub with_given : Options → Key → List ℕ → Option Options
with_given o key text = if begins_dash text then None else with_value o key text

-- ---- words

abbrev pub key_reading : List ℕ → Option Key
key_reading text =
    if bytes_eq text (codes "--new-primary") then Some NewPrimary
    else if bytes_eq text (codes "--avoid-primary") then Some Avoid
    else if bytes_eq text (codes "--ignore-replicas") then Some Ignored
    else if bytes_eq text (codes "--expected-primary") then Some Expected
    else if bytes_eq text (codes "--wait-replicas-timeout") then Some Timeout
    else None

abbrev pub with_pending : Options → Key → Options
with_pending o key = record o { pending = Some key }

-- an option whose value is the next word
unfoldable pub with_key : Options → List ℕ → Option Options
with_key o word = key_reading word >>= (λ key. Some (with_pending o key))

abbrev pub with_allowed : Options → Option Options
with_allowed o = if o.allow_cross_cell then None else Some (record o { allow_cross_cell = true })

abbrev pub with_prevented : Options → Option Options
with_prevented o = if o.prevent_cross_cell then None else Some (record o { prevent_cross_cell = true })

-- an option without `=`: one that has no value, or one whose value is the next word
abbrev pub with_name : Options → List ℕ → Option Options
with_name o word =
    if bytes_eq word (codes "--allow-cross-cell-promotion") then with_allowed o
    else if bytes_eq word (codes "--prevent-cross-cell-promotion") then with_prevented o
    else with_key o word

-- the place of the first `=`
abbrev pub equals_place : List ℕ → Option ℕ
equals_place word = position (λ b. b == 61) word

-- `--x=v`, of which this is the place of the `=`
unfoldable pub with_pair : Options → List ℕ → ℕ → Option Options
with_pair o word place = key_reading (take place word) >>= (λ key. with_given o key (drop (place + 1) word))

abbrev pub with_option_at : Options → List ℕ → Option ℕ → Option Options
with_option_at o word None = with_name o word
with_option_at o word (Some place) = with_pair o word place

-- what stands behind `-i`: nothing, `=` and the value, or the value
abbrev pub with_short : Options → List ℕ → Option Options
with_short o [] = Some (with_pending o Ignored)
with_short o (b ∷ bs) = if b == 61 then with_given o Ignored bs else with_given o Ignored (b ∷ bs)

abbrev pub begins_short : List ℕ → Bool
begins_short word = bytes_eq (take 2 word) (codes "-i")

-- `--`, behind which no word is an option, or an option
unfoldable pub with_option : Options → List ℕ → Option Options
with_option o word =
    if bytes_eq word (codes "--") then Some (record o { ended = true })
    else if begins_short word then with_short o (drop 2 word)
    else with_option_at o word (equals_place word)

-- the shard's name
unfoldable pub with_shard : Options → List ℕ → Option Options
with_shard o word = if is_some o.shard then None else shard_name_reading word >>= (λ n. Some (record o { shard = Some n }))

-- a word that is no value
abbrev pub with_free_word : Options → List ℕ → Option Options
with_free_word o word = if o.ended || not (begins_dash word) then with_shard o word else with_option o word

-- the value of this option, if one waits for it
abbrev pub with_word_for : Options → List ℕ → Option Key → Option Options
with_word_for o word None = with_free_word o word
with_word_for o word (Some key) = with_given (record o { pending = None }) key word

unfoldable pub with_word : Options → List ℕ → Option Options
with_word o word = with_word_for o word o.pending

abbrev pub with_words : Options → List (List ℕ) → Option Options
with_words o [] = Some o
with_words o (word ∷ words) = with_word o word >>= (λ p. with_words p words)

-- the options that words are
unfoldable pub options_of : List (List ℕ) → Option Options
options_of words = with_words no_options words

-- The words of a command, read back.
use Rattle.std.proofs.Common.{◌≡◌, ℕ, ◌-◌, Bool, true, false, cond, refl, ap, ◌∙◌, arith, List, [], ◌∷◌, ◌++◌, length, take, drop, get_or, Option, Some, None}
use Rattle.std.specs.Prelude.{codes, if◌then◌else◌}
use Rattle.std.specs.Fmt.{decimal}
use Rattle.std.specs.Str.{bytes_eq}
use Rattle.std.proofs.lemmas.Slice.Eq.{bytes_eq-Decides}
use Rattle.std.proofs.lemmas.List.{append_assoc, length-append}
use Rattle.std.proofs.Math.Seq.{take-append_seam}
use Rattle.shard_names.specs.Alias.{alias_text}
use Rattle.shard_names.specs.ShardName.{shard_name_text}
use Rattle.shard_names.specs.declared.alias.Alias.{Alias}
use Rattle.shard_names.specs.declared.shard_name.ShardName.{ShardName}
use Rattle.shard_calls.specs.declared.command.Command.{Command}
use Rattle.shard_calls.specs.declared.command.Command.TheVariants as commands
use Rattle.vtctld_text.specs.Texts.{planned_text, emergency_text, get_shard_text, get_tablets_text, external_text, show_text, command_text}
use Rattle.std.specs.List.{list_all}
use Rattle.history_text.specs.Laws.{is_other, Without}
use Rattle.history_text.specs.Orders.{further_alias, further_aliases, aliases_text, with_alias, with_flag, timeout_text, with_timeout, ignored_text, with_ignored, planned_options_text, emergency_options_text, write_options_text, options_text, order_text}
use Rattle.history_text.specs.Told.{IsAlias, IsOption, AreAliases, IsShard, IsTime, IsCommand}
use Rattle.history_text.proofs.LineLemmas.{◌⊹◌, onto, decimal_without, alias_without, shard_without}
use Rattle.history_text.proofs.WordLemmas.{HasWords, AddsWords, said, one, ◌▹◌, adds_none, adds, ◌▸◌, followed}
use Rattle.history_text.proofs.PartLemmas.{number_of, number_back, alias_of, alias_back, shard_of, shard_back, aliases_of, aliases_back}

-- ---- options

abbrev pub Words : Type 0
Words = List (List ℕ)

-- whether this is the first word
abbrev pub begins : List ℕ → Words → Bool
begins name words = bytes_eq (get_or words 0 []) name

itself : (name : List ℕ) → bytes_eq name name ≡ true
itself name = (bytes_eq-Decides name name).1 refl

-- what an option leaves of the words
abbrev pub past : List ℕ → Words → Words
past name words = if begins name words then drop 2 words else words

abbrev pub with_words : List ℕ → Option (List ℕ) → Words
with_words name None = []
with_words name (Some value) = name ∷ value ∷ []

past_is : (name : List ℕ) (value : Option (List ℕ)) (rest : Words) → begins name rest ≡ false → past name (with_words name value ++ rest) ≡ rest
past_is name None rest h = ap (λ (t : Bool). cond t (drop 2 rest) rest) h
past_is name (Some value) rest h = ap (λ (t : Bool). cond t rest (name ∷ value ∷ rest)) (itself name)

-- the words behind an option with another name do not begin with it
apart : (name other : List ℕ) (value : Option (List ℕ)) (rest : Words) → bytes_eq other name ≡ false → begins name rest ≡ false → begins name (with_words other value ++ rest) ≡ false
apart name other None rest h more = more
apart name other (Some value) rest h more = h

abbrev pub value_of : List ℕ → Words → Option (List ℕ)
value_of name words = if begins name words then Some (get_or words 1 []) else None

value_is : (name : List ℕ) (value : Option (List ℕ)) (rest : Words) → begins name rest ≡ false → value_of name (with_words name value ++ rest) ≡ value
value_is name None rest h = ap (λ (t : Bool). cond t (Some (get_or rest 1 [])) None) h
value_is name (Some value) rest h = ap (λ (t : Bool). cond t (Some value) None) (itself name)

-- ---- values

abbrev pub alias_word : Option Alias → Option (List ℕ)
alias_word None = None
alias_word (Some a) = Some (alias_text a)

abbrev pub alias_in : Option (List ℕ) → Option Alias
alias_in None = None
alias_in (Some word) = Some (alias_of word)

alias_in_back : (o : Option Alias) → IsOption o → alias_in (alias_word o) ≡ o
alias_in_back None h = refl
alias_in_back (Some a) h = ap (λ (x : Alias). Some x) (alias_back a h)

abbrev pub time_word : Option ℕ → Option (List ℕ)
time_word None = None
time_word (Some ms) = Some (decimal ms ++ codes "ms")

abbrev pub time_in : Option (List ℕ) → Option ℕ
time_in None = None
time_in (Some word) = Some (number_of (take (length word - 2) word))

time_in_back : (o : Option ℕ) → IsTime o → time_in (time_word o) ≡ o
time_in_back None h = refl
time_in_back (Some ms) h =
    let long = length-append (decimal ms) (codes "ms") in
    let at : length (decimal ms ++ codes "ms") - 2 ≡ length (decimal ms) = omega (arith, long) in
    ap (λ (k : ℕ). Some (number_of (take k (decimal ms ++ codes "ms")))) at
    ∙ ap (λ (t : List ℕ). Some (number_of t)) (take-append_seam (decimal ms) (codes "ms")) ∙ ap (λ (n : ℕ). Some n) (number_back ms h)

abbrev pub ignored_word : List Alias → Option (List ℕ)
ignored_word [] = None
ignored_word (a ∷ aliases) = Some (aliases_text (a ∷ aliases))

abbrev pub ignored_in : Option (List ℕ) → List Alias
ignored_in None = []
ignored_in (Some word) = aliases_of word

ignored_in_back : (aliases : List Alias) → AreAliases aliases → ignored_in (ignored_word aliases) ≡ aliases
ignored_in_back [] h = refl
ignored_in_back (a ∷ aliases) h = aliases_back a aliases h.0 h.1

abbrev pub flag_words : List ℕ → Bool → Words
flag_words name given = if given then name ∷ [] else []

-- ---- words of options

pub alias_word_is : (a : Alias) → IsAlias a → Without 32 (alias_text a)
alias_word_is a h = alias_without a (omega arith) h.cell.no_blank

alias_adds : (name : List ℕ) (o : Option Alias) → Without 32 name → IsOption o → AddsWords (with_alias (32 ∷ name ++ codes " ") o) (with_words name (alias_word o))
alias_adds name None h is = adds_none
alias_adds name (Some a) h is = adds (one h ▹ one (alias_word_is a is))

time_adds : (o : Option ℕ) → IsTime o → AddsWords (with_timeout o) (with_words (codes "--wait-replicas-timeout") (time_word o))
unfolding timeout_text
time_adds None h = adds_none
time_adds (Some ms) h = adds (said (codes "--wait-replicas-timeout") refl ▹ one (decimal_without ms (omega arith) ⊹ letters))
  where
    letters : Without 32 (codes "ms")
    letters = record { all_other = refl }

pub further_is : (aliases : List Alias) → AreAliases aliases → Without 32 (further_aliases aliases)
unfolding further_alias
further_is [] h = record { all_other = refl }
further_is (a ∷ aliases) h = onto 44 refl (alias_word_is a h.0) ⊹ further_is aliases h.1

ignored_adds : (aliases : List Alias) → AreAliases aliases → AddsWords (with_ignored aliases) (with_words (codes "--ignore-replicas") (ignored_word aliases))
unfolding ignored_text
ignored_adds [] h = adds_none
ignored_adds (a ∷ aliases) h = adds (said (codes "--ignore-replicas") refl ▹ one (alias_word_is a h.0 ⊹ further_is aliases h.1))

flag_adds : (name : List ℕ) (given : Bool) → Without 32 name → AddsWords (with_flag (32 ∷ name) given) (flag_words name given)
flag_adds name true h = adds (one h)
flag_adds name false h = adds_none

-- ---- reparents

regrouped : (a b c d e : Words) → a ++ b ++ c ++ d ++ e ≡ a ++ (b ++ (c ++ (d ++ e)))
regrouped a b c d e = append_assoc (a ++ b ++ c) d e ∙ append_assoc (a ++ b) c (d ++ e) ∙ append_assoc a b (c ++ (d ++ e))

flag_apart : (name other : List ℕ) (given : Bool) (rest : Words) → bytes_eq other name ≡ false → begins name rest ≡ false → begins name (flag_words other given ++ rest) ≡ false
flag_apart name other true rest h more = h
flag_apart name other false rest h more = more

flag_is : (name : List ℕ) (given : Bool) (rest : Words) → begins name rest ≡ false → begins name (flag_words name given ++ rest) ≡ given
flag_is name true rest more = itself name
flag_is name false rest more = more

-- what stands behind an event
abbrev pub answered : Words → Words
answered rest = codes "=" ∷ rest

abbrev new_primary : List ℕ
new_primary = codes "--new-primary"

abbrev avoid_primary : List ℕ
avoid_primary = codes "--avoid-primary"

abbrev expected_primary : List ℕ
expected_primary = codes "--expected-primary"

abbrev ignore_replicas : List ℕ
ignore_replicas = codes "--ignore-replicas"

abbrev wait_timeout : List ℕ
wait_timeout = codes "--wait-replicas-timeout"

abbrev allow_cross : List ℕ
allow_cross = codes "--allow-cross-cell-promotion"

abbrev prevent_cross : List ℕ
prevent_cross = codes "--prevent-cross-cell-promotion"

-- the words of an option that may be missing, and what stands behind it
record Read (name : List ℕ) (value : Option (List ℕ)) (words rest : Words) : Type 0 where
  value_is : value_of name words ≡ value
  rest_is : past name words ≡ rest

read : (name : List ℕ) (value : Option (List ℕ)) (words rest : Words) → words ≡ with_words name value ++ rest → begins name rest ≡ false → Read name value words rest
read name value words rest e h =
    record { value_is = ap (value_of name) e ∙ value_is name value rest h; rest_is = ap (past name) e ∙ past_is name value rest h }

planned_same : (s : ShardName) {n n' a a' e e' : Option Alias} {t t' : Option ℕ} {g g' : Bool} → n ≡ n' → a ≡ a' → e ≡ e' → t ≡ t' → g ≡ g'
    → commands.Planned s n a e t g ≡ commands.Planned s n' a' e' t' g'
planned_same s one two three four five = rw (one, two, three, four, five) refl

emergency_same : (s : ShardName) {n n' e e' : Option Alias} {i i' : List Alias} {t t' : Option ℕ} {g g' : Bool} → n ≡ n' → i ≡ i' → e ≡ e' → t ≡ t' → g ≡ g'
    → commands.Emergency s n i e t g ≡ commands.Emergency s n' i' e' t' g'
emergency_same s one two three four five = rw (one, two, three, four, five) refl

abbrev planned_of : ShardName → Words → Command
planned_of shard words =
    commands.Planned shard (alias_in (value_of new_primary words)) (alias_in (value_of avoid_primary (past new_primary words)))
    (alias_in (value_of expected_primary (past avoid_primary (past new_primary words))))
    (time_in (value_of wait_timeout (past expected_primary (past avoid_primary (past new_primary words)))))
    (begins allow_cross (past wait_timeout (past expected_primary (past avoid_primary (past new_primary words)))))

abbrev planned_words : Option Alias → Option Alias → Option Alias → Option ℕ → Bool → Words
planned_words n a e t given =
    with_words new_primary (alias_word n) ++ with_words avoid_primary (alias_word a) ++ with_words expected_primary (alias_word e)
    ++ with_words wait_timeout (time_word t) ++ flag_words allow_cross given

planned_back : (s : ShardName) (n a e : Option Alias) (t : Option ℕ) (given : Bool) → IsOption n → IsOption a → IsOption e → IsTime t
    → (rest : Words) → planned_of s (planned_words n a e t given ++ answered rest) ≡ commands.Planned s n a e t given
planned_back s n a e t given hn ha he ht rest =
    let F = flag_words allow_cross given in
    let G = F ++ answered rest in
    let T = with_words wait_timeout (time_word t) in
    let E = with_words expected_primary (alias_word e) in
    let A = with_words avoid_primary (alias_word a) in
    let N = with_words new_primary (alias_word n) in
    let r1 = read new_primary (alias_word n) (planned_words n a e t given ++ answered rest) (A ++ (E ++ (T ++ G)))
    (append_assoc (N ++ A ++ E ++ T) F (answered rest) ∙ regrouped N A E T G)
    (apart new_primary avoid_primary (alias_word a) (E ++ (T ++ G)) refl (apart new_primary expected_primary (alias_word e) (T ++ G) refl
    (apart new_primary wait_timeout (time_word t) G refl (flag_apart new_primary allow_cross given (answered rest) refl refl)))) in
    let r2 = read avoid_primary (alias_word a) _ (E ++ (T ++ G)) r1.rest_is
    (apart avoid_primary expected_primary (alias_word e) (T ++ G) refl
    (apart avoid_primary wait_timeout (time_word t) G refl (flag_apart avoid_primary allow_cross given (answered rest) refl refl))) in
    let r3 = read expected_primary (alias_word e) _ (T ++ G) r2.rest_is
    (apart expected_primary wait_timeout (time_word t) G refl (flag_apart expected_primary allow_cross given (answered rest) refl refl)) in
    let r4 = read wait_timeout (time_word t) _ G r3.rest_is (flag_apart wait_timeout allow_cross given (answered rest) refl refl) in
    planned_same s (ap alias_in r1.value_is ∙ alias_in_back n hn) (ap alias_in r2.value_is ∙ alias_in_back a ha) (ap alias_in r3.value_is ∙ alias_in_back e he)
    (ap time_in r4.value_is ∙ time_in_back t ht) (ap (begins allow_cross) r4.rest_is ∙ flag_is allow_cross given (answered rest) refl)

abbrev emergency_of : ShardName → Words → Command
emergency_of shard words =
    commands.Emergency shard (alias_in (value_of new_primary words)) (ignored_in (value_of ignore_replicas (past new_primary words)))
    (alias_in (value_of expected_primary (past ignore_replicas (past new_primary words))))
    (time_in (value_of wait_timeout (past expected_primary (past ignore_replicas (past new_primary words)))))
    (begins prevent_cross (past wait_timeout (past expected_primary (past ignore_replicas (past new_primary words)))))

abbrev emergency_words : Option Alias → List Alias → Option Alias → Option ℕ → Bool → Words
emergency_words n i e t given =
    with_words new_primary (alias_word n) ++ with_words ignore_replicas (ignored_word i) ++ with_words expected_primary (alias_word e)
    ++ with_words wait_timeout (time_word t) ++ flag_words prevent_cross given

emergency_back : (s : ShardName) (n : Option Alias) (i : List Alias) (e : Option Alias) (t : Option ℕ) (given : Bool) → IsOption n → AreAliases i → IsOption e → IsTime t
    → (rest : Words) → emergency_of s (emergency_words n i e t given ++ answered rest) ≡ commands.Emergency s n i e t given
emergency_back s n i e t given hn hi he ht rest =
    let F = flag_words prevent_cross given in
    let G = F ++ answered rest in
    let T = with_words wait_timeout (time_word t) in
    let E = with_words expected_primary (alias_word e) in
    let I = with_words ignore_replicas (ignored_word i) in
    let N = with_words new_primary (alias_word n) in
    let r1 = read new_primary (alias_word n) (emergency_words n i e t given ++ answered rest) (I ++ (E ++ (T ++ G)))
    (append_assoc (N ++ I ++ E ++ T) F (answered rest) ∙ regrouped N I E T G)
    (apart new_primary ignore_replicas (ignored_word i) (E ++ (T ++ G)) refl (apart new_primary expected_primary (alias_word e) (T ++ G) refl
    (apart new_primary wait_timeout (time_word t) G refl (flag_apart new_primary prevent_cross given (answered rest) refl refl)))) in
    let r2 = read ignore_replicas (ignored_word i) _ (E ++ (T ++ G)) r1.rest_is
    (apart ignore_replicas expected_primary (alias_word e) (T ++ G) refl
    (apart ignore_replicas wait_timeout (time_word t) G refl (flag_apart ignore_replicas prevent_cross given (answered rest) refl refl))) in
    let r3 = read expected_primary (alias_word e) _ (T ++ G) r2.rest_is
    (apart expected_primary wait_timeout (time_word t) G refl (flag_apart expected_primary prevent_cross given (answered rest) refl refl)) in
    let r4 = read wait_timeout (time_word t) _ G r3.rest_is (flag_apart wait_timeout prevent_cross given (answered rest) refl refl) in
    emergency_same s (ap alias_in r1.value_is ∙ alias_in_back n hn) (ap ignored_in r2.value_is ∙ ignored_in_back i hi) (ap alias_in r3.value_is ∙ alias_in_back e he)
    (ap time_in r4.value_is ∙ time_in_back t ht) (ap (begins prevent_cross) r4.rest_is ∙ flag_is prevent_cross given (answered rest) refl)

-- ---- commands

abbrev head_words : Command → Words
head_words (commands.Planned shard n a e t given) = codes "PlannedReparentShard" ∷ shard_name_text shard ∷ []
head_words (commands.Emergency shard n i e t given) = codes "EmergencyReparentShard" ∷ shard_name_text shard ∷ []
head_words (commands.External a) = codes "TabletExternallyReparented" ∷ alias_text a ∷ []
head_words commands.Vtorc = codes "vtorc" ∷ []
head_words (commands.Write to) = codes "write" ∷ []
head_words (commands.Show a) = codes "show" ∷ alias_text a ∷ []
head_words (commands.GetShard shard) = codes "GetShard" ∷ shard_name_text shard ∷ []
head_words (commands.GetTablets shard) = codes "GetTablets" ∷ shard_name_text shard ∷ []

abbrev option_words : Command → Words
option_words (commands.Planned shard n a e t given) = planned_words n a e t given
option_words (commands.Emergency shard n i e t given) = emergency_words n i e t given
option_words (commands.External a) = []
option_words commands.Vtorc = []
option_words (commands.Write to) = codes "1" ∷ with_words (codes "to") (alias_word to)
option_words (commands.Show a) = []
option_words (commands.GetShard shard) = []
option_words (commands.GetTablets shard) = []

abbrev pub order_words : Command → Words
order_words command = head_words command ++ option_words command

shard_has : (n : ShardName) → IsShard n → HasWords (shard_name_text n) (shard_name_text n ∷ [])
shard_has n h = one (shard_without n (omega arith) h.0.no_blank h.1.no_blank)

pub alias_has : (a : Alias) → IsAlias a → HasWords (alias_text a) (alias_text a ∷ [])
alias_has a h = one (alias_word_is a h)

head_has : (command : Command) → IsCommand command → HasWords (command_text command) (head_words command)
unfolding planned_text emergency_text get_shard_text get_tablets_text external_text show_text
head_has (commands.Planned shard n a e t given) h = said (codes "PlannedReparentShard") refl ▹ shard_has shard h.0
head_has (commands.Emergency shard n i e t given) h = said (codes "EmergencyReparentShard") refl ▹ shard_has shard h.0
head_has (commands.External a) h = said (codes "TabletExternallyReparented") refl ▹ alias_has a h
head_has commands.Vtorc h = said (codes "vtorc") refl
head_has (commands.Write to) h = said (codes "write") refl
head_has (commands.Show a) h = said (codes "show") refl ▹ alias_has a h
head_has (commands.GetShard shard) h = said (codes "GetShard") refl ▹ shard_has shard h
head_has (commands.GetTablets shard) h = said (codes "GetTablets") refl ▹ shard_has shard h

plain : (text : List ℕ) → list_all (is_other 32) text ≡ true → Without 32 text
plain text h = record { all_other = h }

planned_adds : (n a e : Option Alias) (t : Option ℕ) (given : Bool) → IsOption n → IsOption a → IsOption e → IsTime t
    → AddsWords (planned_options_text n a e t given) (planned_words n a e t given)
unfolding planned_options_text
planned_adds n a e t given hn ha he ht =
    alias_adds new_primary n (plain new_primary refl) hn ▸ alias_adds avoid_primary a (plain avoid_primary refl) ha
    ▸ alias_adds expected_primary e (plain expected_primary refl) he ▸ time_adds t ht ▸ flag_adds allow_cross given (plain allow_cross refl)

emergency_adds : (n : Option Alias) (i : List Alias) (e : Option Alias) (t : Option ℕ) (given : Bool) → IsOption n → AreAliases i → IsOption e → IsTime t
    → AddsWords (emergency_options_text n i e t given) (emergency_words n i e t given)
unfolding emergency_options_text
emergency_adds n i e t given hn hi he ht =
    alias_adds new_primary n (plain new_primary refl) hn ▸ ignored_adds i hi
    ▸ alias_adds expected_primary e (plain expected_primary refl) he ▸ time_adds t ht ▸ flag_adds prevent_cross given (plain prevent_cross refl)

write_adds : (to : Option Alias) → IsOption to → AddsWords (write_options_text to) (codes "1" ∷ with_words (codes "to") (alias_word to))
unfolding write_options_text
write_adds to h = adds (said (codes "1") refl) ▸ alias_adds (codes "to") to (plain (codes "to") refl) h

options_add : (command : Command) → IsCommand command → AddsWords (options_text command) (option_words command)
options_add (commands.Planned shard n a e t given) h = planned_adds n a e t given h.1 h.2 h.3 h.4
options_add (commands.Emergency shard n i e t given) h = emergency_adds n i e t given h.1 h.2 h.3 h.4
options_add (commands.External a) h = adds_none
options_add commands.Vtorc h = adds_none
options_add (commands.Write to) h = write_adds to h
options_add (commands.Show a) h = adds_none
options_add (commands.GetShard shard) h = adds_none
options_add (commands.GetTablets shard) h = adds_none

pub order_has : (command : Command) → IsCommand command → HasWords (order_text command) (order_words command)
unfolding order_text
order_has command h = followed (head_has command h) (options_add command h)

abbrev pub command_of : Words → Command
command_of words =
    if begins (codes "PlannedReparentShard") words then planned_of (shard_of (get_or words 1 [])) (drop 2 words)
    else if begins (codes "EmergencyReparentShard") words then emergency_of (shard_of (get_or words 1 [])) (drop 2 words)
    else if begins (codes "TabletExternallyReparented") words then commands.External (alias_of (get_or words 1 []))
    else if begins (codes "vtorc") words then commands.Vtorc
    else if begins (codes "write") words then commands.Write (alias_in (value_of (codes "to") (drop 2 words)))
    else if begins (codes "show") words then commands.Show (alias_of (get_or words 1 []))
    else if begins (codes "GetShard") words then commands.GetShard (shard_of (get_or words 1 []))
    else commands.GetTablets (shard_of (get_or words 1 []))

write_back : (to : Option Alias) → IsOption to → (rest : Words) → alias_in (value_of (codes "to") (with_words (codes "to") (alias_word to) ++ answered rest)) ≡ to
write_back to h rest = ap alias_in (value_is (codes "to") (alias_word to) (answered rest) refl) ∙ alias_in_back to h

pub command_back : (command : Command) → IsCommand command → (rest : Words) → command_of (order_words command ++ answered rest) ≡ command
command_back (commands.Planned shard n a e t given) h rest =
    ap (λ (s : ShardName). planned_of s (planned_words n a e t given ++ answered rest)) (shard_back shard h.0) ∙ planned_back shard n a e t given h.1 h.2 h.3 h.4 rest
command_back (commands.Emergency shard n i e t given) h rest =
    ap (λ (s : ShardName). emergency_of s (emergency_words n i e t given ++ answered rest)) (shard_back shard h.0) ∙ emergency_back shard n i e t given h.1 h.2 h.3 h.4 rest
command_back (commands.External a) h rest = ap commands.External (alias_back a h)
command_back commands.Vtorc h rest = refl
command_back (commands.Write to) h rest = ap commands.Write (write_back to h rest)
command_back (commands.Show a) h rest = ap commands.Show (alias_back a h)
command_back (commands.GetShard shard) h rest = ap commands.GetShard (shard_back shard h)
command_back (commands.GetTablets shard) h rest = ap commands.GetTablets (shard_back shard h)

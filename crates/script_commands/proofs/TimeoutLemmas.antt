-- A timeout that is read is at most a day.
use Rattle.std.proofs.Common.{◌≡◌, ℕ, ◌+◌, ◌≤◌, List, [], ◌∷◌, Bool, true, false, cond, ◌||◌, not, Option, Some, None, take, drop, refl, sym, ap, subst, ◌∙◌, arith}
use Rattle.std.specs.Prelude.{codes, option_and_then, is_some, nat_le, unwrap_or, ◌==◌, ⊤}
use Rattle.std.specs.Str.{bytes_eq}
use Rattle.std.proofs.lemmas.Bool.Decides.{nat_tests}
use Rattle.shard_base.specs.Options.{◌>>=◌}
use Rattle.shard_names.specs.ShardName.{shard_name_reading}
use Rattle.shard_calls.specs.declared.command.Command.{Command}
use Rattle.shard_calls.specs.declared.command.Command.TheVariants as commands
use Rattle.shard_calls.specs.Begins.{is_in_time}
use Rattle.script_commands.specs.declared.options.Key.{Key}
use Rattle.script_commands.specs.declared.options.Key.TheVariants.{NewPrimary, Avoid, Ignored, Expected, Timeout}
use Rattle.script_commands.specs.declared.options.Options.{Options}
use Rattle.script_commands.specs.Options.{no_options, alias_once, duration_once, aliases_once, with_new_primary, with_avoid, with_ignored, with_expected, with_timeout, with_value, begins_dash, with_given, key_reading, with_pending, with_key, with_allowed, with_prevented, with_name, equals_place, with_pair, with_option_at, with_short, begins_short, with_option, with_shard, with_word_for, with_word, with_words, options_of}
use Rattle.script_commands.specs.Commands.{fit_planned, fit_emergency, planned_of, emergency_of}
use Rattle.script_commands.proofs.OptionLemmas.{bind_some, cond_some}
use Rattle.script_commands.proofs.DurationLemmas.{duration_of}

-- at most a day, if there is one
abbrev pub IsDay : Option ℕ → Type 0
IsDay None = ⊤
IsDay (Some n) = n ≤ 86400000

-- what comes of options keeps their timeout within a day
abbrev Kept : Options → Option Options → Type 0
Kept o r = (p : Options) → r ≡ Some p → IsDay o.timeout → IsDay p.timeout

same : (o q : Options) → q.timeout ≡ o.timeout → Kept o (Some q)
same o q is p h day = let e : q ≡ p = (cc) in subst IsDay (sym is ∙ ap (λ (x : Options). x.timeout) e) day

nothing : (o : Options) → Kept o None
nothing o p h day = absurd (cc)

either : (o : Options) (b : Bool) (x y : Option Options) → Kept o x → Kept o y → Kept o (cond b x y)
either o true x y f g = f
either o false x y f g = g

behind : {A : Type 0} (o : Options) (x : Option A) (f : A → Option Options) → ((a : A) → Kept o (f a)) → Kept o (option_and_then f x)
behind o None f k = nothing o
behind o (Some a) f k = k a

new_primary_kept : (o : Options) (text : List ℕ) → Kept o (with_new_primary o text)
unfolding with_new_primary
new_primary_kept o text = behind o (alias_once o.new_primary text) (λ a. Some (record o { new_primary = Some a })) (λ a. same o (record o { new_primary = Some a }) refl)

avoid_kept : (o : Options) (text : List ℕ) → Kept o (with_avoid o text)
unfolding with_avoid
avoid_kept o text = behind o (alias_once o.avoid text) (λ a. Some (record o { avoid = Some a })) (λ a. same o (record o { avoid = Some a }) refl)

ignored_kept : (o : Options) (text : List ℕ) → Kept o (with_ignored o text)
unfolding with_ignored
ignored_kept o text = behind o (aliases_once o.ignored text) (λ xs. Some (record o { ignored = xs })) (λ xs. same o (record o { ignored = xs }) refl)

expected_kept : (o : Options) (text : List ℕ) → Kept o (with_expected o text)
unfolding with_expected
expected_kept o text = behind o (alias_once o.expected text) (λ a. Some (record o { expected = Some a })) (λ a. same o (record o { expected = Some a }) refl)

day_of : (known : Option ℕ) (text : List ℕ) (n : ℕ) → duration_once known text ≡ Some n → n ≤ 86400000
unfolding duration_once
day_of None text n h = (duration_of text n h).to_a_day
day_of (Some m) text n h = absurd (cc)

timeout_kept : (o : Options) (text : List ℕ) → Kept o (with_timeout o text)
unfolding with_timeout
timeout_kept o text p h day =
    let q = bind_some (duration_once o.timeout text) (λ n. Some (record o { timeout = Some n })) p h in
    let e : record o { timeout = Some q.0 } ≡ p = (let f : Some (record o { timeout = Some q.0 }) ≡ Some p = q.2 in cc) in
    subst IsDay (ap (λ (x : Options). x.timeout) e) (day_of o.timeout text q.0 q.1)

value_kept : (o : Options) (key : Key) (text : List ℕ) → Kept o (with_value o key text)
value_kept o NewPrimary text = new_primary_kept o text
value_kept o Avoid text = avoid_kept o text
value_kept o Ignored text = ignored_kept o text
value_kept o Expected text = expected_kept o text
value_kept o Timeout text = timeout_kept o text

given_kept : (o : Options) (key : Key) (text : List ℕ) → Kept o (with_given o key text)
unfolding with_given
given_kept o key text = either o (begins_dash text) None (with_value o key text) (nothing o) (value_kept o key text)

pair_kept : (o : Options) (word : List ℕ) (place : ℕ) → Kept o (with_pair o word place)
unfolding with_pair
pair_kept o word place =
    behind o (key_reading (take place word)) (λ key. with_given o key (drop (place + 1) word)) (λ key. given_kept o key (drop (place + 1) word))

key_kept : (o : Options) (word : List ℕ) → Kept o (with_key o word)
unfolding with_key
key_kept o word = behind o (key_reading word) (λ key. Some (with_pending o key)) (λ key. same o (with_pending o key) refl)

allowed_kept : (o : Options) → Kept o (with_allowed o)
allowed_kept o = either o o.allow_cross_cell None (Some (record o { allow_cross_cell = true })) (nothing o) (same o (record o { allow_cross_cell = true }) refl)

prevented_kept : (o : Options) → Kept o (with_prevented o)
prevented_kept o = either o o.prevent_cross_cell None (Some (record o { prevent_cross_cell = true })) (nothing o) (same o (record o { prevent_cross_cell = true }) refl)

name_kept : (o : Options) (word : List ℕ) → Kept o (with_name o word)
name_kept o word =
    let prevented : Option Options = cond (bytes_eq word (codes "--prevent-cross-cell-promotion")) (with_prevented o) (with_key o word) in
    either o (bytes_eq word (codes "--allow-cross-cell-promotion")) (with_allowed o) prevented (allowed_kept o)
    (either o (bytes_eq word (codes "--prevent-cross-cell-promotion")) (with_prevented o) (with_key o word) (prevented_kept o) (key_kept o word))

option_at_kept : (o : Options) (word : List ℕ) (place : Option ℕ) → Kept o (with_option_at o word place)
option_at_kept o word None = name_kept o word
option_at_kept o word (Some place) = pair_kept o word place

short_kept : (o : Options) (text : List ℕ) → Kept o (with_short o text)
short_kept o [] = same o (with_pending o Ignored) refl
short_kept o (b ∷ bs) = either o (b == 61) (with_given o Ignored bs) (with_given o Ignored (b ∷ bs)) (given_kept o Ignored bs) (given_kept o Ignored (b ∷ bs))

option_kept : (o : Options) (word : List ℕ) → Kept o (with_option o word)
unfolding with_option
option_kept o word =
    let others : Option Options = cond (begins_short word) (with_short o (drop 2 word)) (with_option_at o word (equals_place word)) in
    either o (bytes_eq word (codes "--")) (Some (record o { ended = true })) others (same o (record o { ended = true }) refl)
    (either o (begins_short word) (with_short o (drop 2 word)) (with_option_at o word (equals_place word)) (short_kept o (drop 2 word)) (option_at_kept o word (equals_place word)))

shard_kept : (o : Options) (word : List ℕ) → Kept o (with_shard o word)
unfolding with_shard
shard_kept o word =
    let named : Option Options = shard_name_reading word >>= (λ n. Some (record o { shard = Some n })) in
    either o (is_some o.shard) None named (nothing o)
    (behind o (shard_name_reading word) (λ n. Some (record o { shard = Some n })) (λ n. same o (record o { shard = Some n }) refl))

word_for_kept : (o : Options) (word : List ℕ) (pending : Option Key) → Kept o (with_word_for o word pending)
word_for_kept o word None = either o (o.ended || not (begins_dash word)) (with_shard o word) (with_option o word) (shard_kept o word) (option_kept o word)
word_for_kept o word (Some key) = given_kept (record o { pending = None }) key word

word_kept : (o : Options) (word : List ℕ) → Kept o (with_word o word)
unfolding with_word
word_kept o word = word_for_kept o word o.pending

words_kept : (o : Options) (words : List (List ℕ)) → Kept o (with_words o words)
words_kept o [] = same o o refl
words_kept o (w ∷ ws) = λ p h day.
    let q = bind_some (with_word o w) (λ r. with_words r ws) p h in
    words_kept q.0 ws p q.2 (word_kept o w q.0 q.1 day)

options_day : (words : List (List ℕ)) (p : Options) → options_of words ≡ Some p → IsDay p.timeout
unfolding options_of
options_day words p h = words_kept no_options words p h tt

day_in_time : (timeout : Option ℕ) → IsDay timeout → nat_le (unwrap_or timeout 15000) 86400000 ≡ true
day_in_time None day = refl
day_in_time (Some n) day = grind (arith, nat_tests)

pub planned_in_time : (words : List (List ℕ)) (o : Options) (command : Command) → options_of words ≡ Some o → planned_of o ≡ Some command → is_in_time command ≡ true
unfolding planned_of
planned_in_time words o command read made =
    let p = cond_some (fit_planned o) (o.shard >>= (λ n. Some (commands.Planned n o.new_primary o.avoid o.expected o.timeout o.allow_cross_cell))) command made in
    let q = bind_some o.shard (λ n. Some (commands.Planned n o.new_primary o.avoid o.expected o.timeout o.allow_cross_cell)) command p.1 in
    let is : commands.Planned q.0 o.new_primary o.avoid o.expected o.timeout o.allow_cross_cell ≡ command =
    (let e : Some (commands.Planned q.0 o.new_primary o.avoid o.expected o.timeout o.allow_cross_cell) ≡ Some command = q.2 in cc) in
    ap (λ (c : Command). is_in_time c) (sym is) ∙ day_in_time o.timeout (options_day words o read)

pub emergency_in_time : (words : List (List ℕ)) (o : Options) (command : Command) → options_of words ≡ Some o → emergency_of o ≡ Some command → is_in_time command ≡ true
unfolding emergency_of
emergency_in_time words o command read made =
    let p = cond_some (fit_emergency o) (o.shard >>= (λ n. Some (commands.Emergency n o.new_primary o.ignored o.expected o.timeout o.prevent_cross_cell))) command made in
    let q = bind_some o.shard (λ n. Some (commands.Emergency n o.new_primary o.ignored o.expected o.timeout o.prevent_cross_cell)) command p.1 in
    let is : commands.Emergency q.0 o.new_primary o.ignored o.expected o.timeout o.prevent_cross_cell ≡ command =
    (let e : Some (commands.Emergency q.0 o.new_primary o.ignored o.expected o.timeout o.prevent_cross_cell) ≡ Some command = q.2 in cc) in
    ap (λ (c : Command). is_in_time c) (sym is) ∙ day_in_time o.timeout (options_day words o read)

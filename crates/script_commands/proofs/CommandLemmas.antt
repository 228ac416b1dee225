-- A command is read exactly as the grammar has it.
use Rattle.std.proofs.Common.{◌≡◌, ℕ, List, [], ◌∷◌, true, false, cond, eqb, Option, Some, None, Result, length, refl, sym, ap, subst, ◌∙◌, arith}
use Rattle.std.specs.Prelude.{codes, option_and_then}
use Rattle.std.specs.Result.{result_ok}
use Rattle.std.specs.Str.{bytes_eq}
use Rattle.std.proofs.lemmas.Bool.Decides.{nat_tests}
use Rattle.shard_base.specs.Options.{◌>>=◌}
use Rattle.shard_names.specs.Alias.{alias_reading}
use Rattle.shard_names.specs.ShardName.{shard_name_reading}
use Rattle.shard_names.specs.declared.alias.Alias.{Alias}
use Rattle.shard_names.specs.declared.alias.NameFault.{NameFault}
use Rattle.shard_names.specs.declared.shard_name.ShardName.{ShardName}
use Rattle.shard_calls.specs.declared.command.Command.{Command}
use Rattle.shard_calls.specs.declared.command.Command.TheVariants as commands
use Rattle.shard_calls.specs.Begins.{is_in_time}
use Rattle.script_commands.specs.declared.command.Given.{Given}
use Rattle.script_commands.specs.declared.options.Options.{Options}
use Rattle.script_commands.specs.Numbers.{number_within}
use Rattle.script_commands.specs.Options.{options_of}
use Rattle.script_commands.specs.Commands.{once, fit_planned, fit_emergency, planned_of, emergency_of, planned_command, emergency_command, write_command, write_to_command, show_command, external_command, get_shard_command, get_tablets_command, command_of_one, command_of_two, command_of_four, short_command, command_of}
use Rattle.script_commands.specs.Grammar.{IsReparent, IsWrite, IsWriteTo, IsOfTablet, IsOfName, IsCommand, CommandsAsSpelled}
use Rattle.script_commands.proofs.OptionLemmas.{cond_some, bind_some, ok_some, same_bytes, choose}
use Rattle.script_commands.proofs.NumberLemmas.{within_of, within_reads}
use Rattle.script_commands.proofs.TimeoutLemmas.{planned_in_time, emergency_in_time}

-- the words say what is given
abbrev pub IsGiven : List (List ℕ) → Given → Type 0
IsGiven words g = IsCommand words g.command g.count

-- ---- from what is read to what is said

made_planned : (words further : List (List ℕ)) (o : Options) (c : Command) → words ≡ codes "PlannedReparentShard" ∷ further → options_of further ≡ Some o → planned_of o ≡ Some c → IsGiven words (once c)
unfolding planned_of
made_planned words further o c split read made =
    let p = cond_some (fit_planned o) (o.shard >>= (λ n. Some (commands.Planned n o.new_primary o.avoid o.expected o.timeout o.allow_cross_cell))) c made in
    let q = bind_some o.shard (λ n. Some (commands.Planned n o.new_primary o.avoid o.expected o.timeout o.allow_cross_cell)) c p.1 in
    let command : Command = commands.Planned q.0 o.new_primary o.avoid o.expected o.timeout o.allow_cross_cell in
    let is : command ≡ c = (let e : Some command ≡ Some c = q.2 in cc) in
    subst (λ (x : Command). IsGiven words (once x)) is (record { further = further; options = o; words_are = split; options_are = read; command_is = made ∙ sym (ap (λ (x : Command). let r : Option Command = Some x in r) is) }, refl)

made_emergency : (words further : List (List ℕ)) (o : Options) (c : Command) → words ≡ codes "EmergencyReparentShard" ∷ further → options_of further ≡ Some o → emergency_of o ≡ Some c → IsGiven words (once c)
unfolding emergency_of
made_emergency words further o c split read made =
    let p = cond_some (fit_emergency o) (o.shard >>= (λ n. Some (commands.Emergency n o.new_primary o.ignored o.expected o.timeout o.prevent_cross_cell))) c made in
    let q = bind_some o.shard (λ n. Some (commands.Emergency n o.new_primary o.ignored o.expected o.timeout o.prevent_cross_cell)) c p.1 in
    let command : Command = commands.Emergency q.0 o.new_primary o.ignored o.expected o.timeout o.prevent_cross_cell in
    let is : command ≡ c = (let e : Some command ≡ Some c = q.2 in cc) in
    subst (λ (x : Command). IsGiven words (once x)) is (record { further = further; options = o; words_are = split; options_are = read; command_is = made ∙ sym (ap (λ (x : Command). let r : Option Command = Some x in r) is) }, refl)

planned_given : (words : List (List ℕ)) (g : Given) → planned_command words ≡ Some g → IsGiven (codes "PlannedReparentShard" ∷ words) g
unfolding planned_command
planned_given words g h =
    let p = bind_some (options_of words) (λ o. planned_of o >>= (λ c. Some (once c))) g h in
    let q = bind_some (planned_of p.0) (λ c. Some (once c)) g p.2 in
    let is : once q.0 ≡ g = (let e : Some (once q.0) ≡ Some g = q.2 in cc) in
    subst (λ (f : Given). IsGiven (codes "PlannedReparentShard" ∷ words) f) is (made_planned (codes "PlannedReparentShard" ∷ words) words p.0 q.0 refl p.1 q.1)

emergency_given : (words : List (List ℕ)) (g : Given) → emergency_command words ≡ Some g → IsGiven (codes "EmergencyReparentShard" ∷ words) g
unfolding emergency_command
emergency_given words g h =
    let p = bind_some (options_of words) (λ o. emergency_of o >>= (λ c. Some (once c))) g h in
    let q = bind_some (emergency_of p.0) (λ c. Some (once c)) g p.2 in
    let is : once q.0 ≡ g = (let e : Some (once q.0) ≡ Some g = q.2 in cc) in
    subst (λ (f : Given). IsGiven (codes "EmergencyReparentShard" ∷ words) f) is (made_emergency (codes "EmergencyReparentShard" ∷ words) words p.0 q.0 refl p.1 q.1)

write_of : (count : List ℕ) (g : Given) → write_command count ≡ Some g → IsGiven (codes "write" ∷ count ∷ []) g
unfolding write_command
write_of count g h =
    let p = bind_some (number_within 1 10000 count) (λ n. Some (record { command = commands.Write None; count = n })) g h in
    let within = within_of 1 10000 count p.0 p.1 in
    let made : Given = record { command = commands.Write None; count = p.0 } in
    let is : made ≡ g = (let e : Some made ≡ Some g = p.2 in cc) in
    subst (λ (f : Given). IsGiven (codes "write" ∷ count ∷ []) f) is (record { digits = count; words_are = refl; number = within.number; from_one = within.from_least; to_ten_thousand = within.to_most })

write_to_of : (count to alias : List ℕ) (g : Given) → write_to_command count to alias ≡ Some g → IsGiven (codes "write" ∷ count ∷ to ∷ alias ∷ []) g
unfolding write_to_command
write_to_of count to alias g h =
    let p = cond_some (bytes_eq to (codes "to")) (number_within 1 10000 count >>= (λ n. result_ok (alias_reading alias) >>= (λ a. Some (record { command = commands.Write (Some a); count = n })))) g h in
    let q = bind_some (number_within 1 10000 count) (λ n. result_ok (alias_reading alias) >>= (λ a. Some (record { command = commands.Write (Some a); count = n }))) g p.1 in
    let r = bind_some (result_ok (alias_reading alias)) (λ a. Some (record { command = commands.Write (Some a); count = q.0 })) g q.2 in
    let within = within_of 1 10000 count q.0 q.1 in
    let made : Given = record { command = commands.Write (Some r.0); count = q.0 } in
    let is : made ≡ g = (let e : Some made ≡ Some g = r.2 in cc) in
    let word : to ≡ codes "to" = same_bytes to (codes "to") p.0 in
    subst (λ (f : Given). IsGiven (codes "write" ∷ count ∷ to ∷ alias ∷ []) f) is (record {
      digits = count;
      alias_text = alias;
      words_are = ap (λ (t : List ℕ). codes "write" ∷ count ∷ t ∷ alias ∷ []) word;
      number = within.number;
      from_one = within.from_least;
      to_ten_thousand = within.to_most;
      alias_is = ok_some (alias_reading alias) r.0 r.1;
    })

-- a command of one tablet
of_tablet : (head alias : List ℕ) (make : Alias → Command) (g : Given) → ((a : Alias) → IsOfTablet head (head ∷ alias ∷ []) a → IsGiven (head ∷ alias ∷ []) (once (make a))) → (result_ok (alias_reading alias) >>= (λ a. Some (once (make a)))) ≡ Some g → IsGiven (head ∷ alias ∷ []) g
of_tablet head alias make g says h =
    let p = bind_some (result_ok (alias_reading alias)) (λ a. Some (once (make a))) g h in
    let is : once (make p.0) ≡ g = (let e : Some (once (make p.0)) ≡ Some g = p.2 in cc) in
    subst (λ (f : Given). IsGiven (head ∷ alias ∷ []) f) is (says p.0 (record { alias_text = alias; words_are = refl; alias_is = ok_some (alias_reading alias) p.0 p.1 }))

show_of : (alias : List ℕ) (g : Given) → show_command alias ≡ Some g → IsGiven (codes "show" ∷ alias ∷ []) g
unfolding show_command
show_of alias g h = of_tablet (codes "show") alias (λ a. commands.Show a) g (λ a is. (is, refl)) h

external_of : (alias : List ℕ) (g : Given) → external_command alias ≡ Some g → IsGiven (codes "TabletExternallyReparented" ∷ alias ∷ []) g
unfolding external_command
external_of alias g h = of_tablet (codes "TabletExternallyReparented") alias (λ a. commands.External a) g (λ a is. (is, refl)) h

-- a command of a shard
of_name : (head name : List ℕ) (make : ShardName → Command) (g : Given) → ((n : ShardName) → IsOfName head (head ∷ name ∷ []) n → IsGiven (head ∷ name ∷ []) (once (make n))) → (shard_name_reading name >>= (λ n. Some (once (make n)))) ≡ Some g → IsGiven (head ∷ name ∷ []) g
of_name head name make g says h =
    let p = bind_some (shard_name_reading name) (λ n. Some (once (make n))) g h in
    let is : once (make p.0) ≡ g = (let e : Some (once (make p.0)) ≡ Some g = p.2 in cc) in
    subst (λ (f : Given). IsGiven (head ∷ name ∷ []) f) is (says p.0 (record { name_text = name; words_are = refl; name_is = p.1 }))

get_shard_of : (name : List ℕ) (g : Given) → get_shard_command name ≡ Some g → IsGiven (codes "GetShard" ∷ name ∷ []) g
unfolding get_shard_command
get_shard_of name g h = of_name (codes "GetShard") name (λ n. commands.GetShard n) g (λ n is. (is, refl)) h

get_tablets_of : (name : List ℕ) (g : Given) → get_tablets_command name ≡ Some g → IsGiven (codes "GetTablets" ∷ name ∷ []) g
unfolding get_tablets_command
get_tablets_of name g h = of_name (codes "GetTablets") name (λ n. commands.GetTablets n) g (λ n is. (is, refl)) h

-- the first word is this one
with_first : (a b : List ℕ) (rest : List (List ℕ)) (g : Given) → bytes_eq a b ≡ true → IsGiven (b ∷ rest) g → IsGiven (a ∷ rest) g
with_first a b rest g is h = subst (λ (t : List ℕ). IsGiven (t ∷ rest) g) (sym (same_bytes a b is)) h

one_of : (a : List ℕ) (g : Given) → command_of_one a ≡ Some g → IsGiven (a ∷ []) g
one_of a g h =
    let p = cond_some (bytes_eq a (codes "vtorc")) (Some (once commands.Vtorc)) g h in
    let is : once commands.Vtorc ≡ g = (let e : Some (once commands.Vtorc) ≡ Some g = p.1 in cc) in
    with_first a (codes "vtorc") [] g p.0 (subst (λ (f : Given). IsGiven (codes "vtorc" ∷ []) f) is (refl, refl))

two_of : (a b : List ℕ) (g : Given) → command_of_two a b ≡ Some g → IsGiven (a ∷ b ∷ []) g
two_of a b g h =
    let if_tablets : Option Given = cond (bytes_eq a (codes "GetTablets")) (get_tablets_command b) None in
    let if_shard : Option Given = cond (bytes_eq a (codes "GetShard")) (get_shard_command b) if_tablets in
    let if_external : Option Given = cond (bytes_eq a (codes "TabletExternallyReparented")) (external_command b) if_shard in
    choose (IsGiven (a ∷ b ∷ []) g) (bytes_eq a (codes "write")) (write_command b) (cond (bytes_eq a (codes "show")) (show_command b) if_external) g h
    (λ is got. with_first a (codes "write") (b ∷ []) g is (write_of b g got))
    (λ behind_write. choose (IsGiven (a ∷ b ∷ []) g) (bytes_eq a (codes "show")) (show_command b) if_external g behind_write
    (λ is got. with_first a (codes "show") (b ∷ []) g is (show_of b g got))
    (λ behind_show. choose (IsGiven (a ∷ b ∷ []) g) (bytes_eq a (codes "TabletExternallyReparented")) (external_command b) if_shard g behind_show
    (λ is got. with_first a (codes "TabletExternallyReparented") (b ∷ []) g is (external_of b g got))
    (λ behind_external. choose (IsGiven (a ∷ b ∷ []) g) (bytes_eq a (codes "GetShard")) (get_shard_command b) if_tablets g behind_external
    (λ is got. with_first a (codes "GetShard") (b ∷ []) g is (get_shard_of b g got))
    (λ last. let p = cond_some (bytes_eq a (codes "GetTablets")) (get_tablets_command b) g last in with_first a (codes "GetTablets") (b ∷ []) g p.0 (get_tablets_of b g p.1)))))

four_of : (a b c d : List ℕ) (g : Given) → command_of_four a b c d ≡ Some g → IsGiven (a ∷ b ∷ c ∷ d ∷ []) g
four_of a b c d g h =
    let p = cond_some (bytes_eq a (codes "write")) (write_to_command b c d) g h in
    with_first a (codes "write") (b ∷ c ∷ d ∷ []) g p.0 (write_to_of b c d g p.1)

too_many : (a b c d e : List ℕ) (ws : List (List ℕ)) → short_command a (b ∷ c ∷ d ∷ e ∷ ws) ≡ None
too_many a b c d e ws =
    let none : eqb (length (b ∷ c ∷ d ∷ e ∷ ws)) 0 ≡ false = grind (arith, nat_tests) in
    let one : eqb (length (b ∷ c ∷ d ∷ e ∷ ws)) 1 ≡ false = grind (arith, nat_tests) in
    let three : eqb (length (b ∷ c ∷ d ∷ e ∷ ws)) 3 ≡ false = grind (arith, nat_tests) in
    rw (none, one, three) refl

short_of : (head : List ℕ) (words : List (List ℕ)) (g : Given) → short_command head words ≡ Some g → IsGiven (head ∷ words) g
short_of head [] g h = one_of head g h
short_of head (a ∷ []) g h = two_of head a g h
short_of head (a ∷ b ∷ []) g h = absurd (cc)
short_of head (a ∷ b ∷ c ∷ []) g h = four_of head a b c g h
short_of head (a ∷ b ∷ c ∷ d ∷ ws) g h = absurd (let none : None ≡ Some g = sym (too_many head a b c d ws) ∙ h in cc)

pub given_of : (words : List (List ℕ)) (g : Given) → command_of words ≡ Some g → IsGiven words g
given_of [] g h = absurd (cc)
given_of (head ∷ words) g h =
    let if_emergency : Option Given = cond (bytes_eq head (codes "EmergencyReparentShard")) (emergency_command words) (short_command head words) in
    choose (IsGiven (head ∷ words) g) (bytes_eq head (codes "PlannedReparentShard")) (planned_command words) if_emergency g h
    (λ is got. with_first head (codes "PlannedReparentShard") words g is (planned_given words g got))
    (λ behind_planned. choose (IsGiven (head ∷ words) g) (bytes_eq head (codes "EmergencyReparentShard")) (emergency_command words) (short_command head words) g behind_planned
    (λ is got. with_first head (codes "EmergencyReparentShard") words g is (emergency_given words g got))
    (λ last. short_of head words g last))

-- ---- from what is said to what is read

planned_is : (words : List (List ℕ)) (c : Command) (h : IsReparent (codes "PlannedReparentShard") planned_of words c) → planned_command h.further ≡ Some (once c)
unfolding planned_command
planned_is words c h =
    ap (λ (r : Option Options). let x : Option Given = option_and_then (λ o. planned_of o >>= (λ d. Some (once d))) r in x) h.options_are
    ∙ ap (λ (r : Option Command). let x : Option Given = option_and_then (λ d. Some (once d)) r in x) h.command_is

emergency_is : (words : List (List ℕ)) (c : Command) (h : IsReparent (codes "EmergencyReparentShard") emergency_of words c) → emergency_command h.further ≡ Some (once c)
unfolding emergency_command
emergency_is words c h =
    ap (λ (r : Option Options). let x : Option Given = option_and_then (λ o. emergency_of o >>= (λ d. Some (once d))) r in x) h.options_are
    ∙ ap (λ (r : Option Command). let x : Option Given = option_and_then (λ d. Some (once d)) r in x) h.command_is

write_is : (words : List (List ℕ)) (n : ℕ) (h : IsWrite words n) → write_command h.digits ≡ Some (record { command = commands.Write None; count = n })
unfolding write_command
write_is words n h =
    ap (λ (o : Option ℕ). let r : Option Given = option_and_then (λ k. Some (record { command = commands.Write None; count = k })) o in r) (within_reads 1 10000 h.digits n h.number h.from_one h.to_ten_thousand (omega arith))

write_to_is : (words : List (List ℕ)) (a : Alias) (n : ℕ) (h : IsWriteTo words a n) → write_to_command h.digits (codes "to") h.alias_text ≡ Some (record { command = commands.Write (Some a); count = n })
unfolding write_to_command
write_to_is words a n h =
    ap (λ (o : Option ℕ). let r : Option Given = option_and_then (λ k. result_ok (alias_reading h.alias_text) >>= (λ b. Some (record { command = commands.Write (Some b); count = k }))) o in r) (within_reads 1 10000 h.digits n h.number h.from_one h.to_ten_thousand (omega arith))
    ∙ ap (λ (r : Result Alias NameFault). let o : Option Given = option_and_then (λ b. Some (record { command = commands.Write (Some b); count = n })) (result_ok r) in o) h.alias_is

show_is : (words : List (List ℕ)) (a : Alias) (h : IsOfTablet (codes "show") words a) → show_command h.alias_text ≡ Some (once (commands.Show a))
unfolding show_command
show_is words a h = ap (λ (r : Result Alias NameFault). let o : Option Given = option_and_then (λ b. Some (once (commands.Show b))) (result_ok r) in o) h.alias_is

external_is : (words : List (List ℕ)) (a : Alias) (h : IsOfTablet (codes "TabletExternallyReparented") words a) → external_command h.alias_text ≡ Some (once (commands.External a))
unfolding external_command
external_is words a h = ap (λ (r : Result Alias NameFault). let o : Option Given = option_and_then (λ b. Some (once (commands.External b))) (result_ok r) in o) h.alias_is

get_shard_is : (words : List (List ℕ)) (name : ShardName) (h : IsOfName (codes "GetShard") words name) → get_shard_command h.name_text ≡ Some (once (commands.GetShard name))
unfolding get_shard_command
get_shard_is words name h = ap (λ (o : Option ShardName). let r : Option Given = option_and_then (λ n. Some (once (commands.GetShard n))) o in r) h.name_is

get_tablets_is : (words : List (List ℕ)) (name : ShardName) (h : IsOfName (codes "GetTablets") words name) → get_tablets_command h.name_text ≡ Some (once (commands.GetTablets name))
unfolding get_tablets_command
get_tablets_is words name h = ap (λ (o : Option ShardName). let r : Option Given = option_and_then (λ n. Some (once (commands.GetTablets n))) o in r) h.name_is

-- it is given once
counted : (words : List (List ℕ)) (c : Command) (n : ℕ) → n ≡ 1 → command_of words ≡ Some (once c) → command_of words ≡ Some (record { command = c; count = n })
counted words c n is h = h ∙ ap (λ (k : ℕ). let r : Option Given = Some (record { command = c; count = k }) in r) (sym is)

pub command_is : (words : List (List ℕ)) (c : Command) (n : ℕ) → IsCommand words c n → command_of words ≡ Some (record { command = c; count = n })
command_is words (commands.Planned name given avoid expected timeout allow_cross_cell) n h =
    let c = commands.Planned name given avoid expected timeout allow_cross_cell in
    counted words c n h.1 (ap (λ (ws : List (List ℕ)). command_of ws) h.0.words_are ∙ planned_is words c h.0)
command_is words (commands.Emergency name given ignored expected timeout prevent_cross_cell) n h =
    let c = commands.Emergency name given ignored expected timeout prevent_cross_cell in
    counted words c n h.1 (ap (λ (ws : List (List ℕ)). command_of ws) h.0.words_are ∙ emergency_is words c h.0)
command_is words (commands.External a) n h =
    counted words (commands.External a) n h.1 (ap (λ (ws : List (List ℕ)). command_of ws) h.0.words_are ∙ external_is words a h.0)
command_is words commands.Vtorc n h = counted words commands.Vtorc n h.1 (ap (λ (ws : List (List ℕ)). command_of ws) h.0)
command_is words (commands.Write None) n h = ap (λ (ws : List (List ℕ)). command_of ws) h.words_are ∙ write_is words n h
command_is words (commands.Write (Some a)) n h = ap (λ (ws : List (List ℕ)). command_of ws) h.words_are ∙ write_to_is words a n h
command_is words (commands.Show a) n h =
    counted words (commands.Show a) n h.1 (ap (λ (ws : List (List ℕ)). command_of ws) h.0.words_are ∙ show_is words a h.0)
command_is words (commands.GetShard name) n h =
    counted words (commands.GetShard name) n h.1 (ap (λ (ws : List (List ℕ)). command_of ws) h.0.words_are ∙ get_shard_is words name h.0)
command_is words (commands.GetTablets name) n h =
    counted words (commands.GetTablets name) n h.1 (ap (λ (ws : List (List ℕ)). command_of ws) h.0.words_are ∙ get_tablets_is words name h.0)

pub commands_as_spelled : CommandsAsSpelled
commands_as_spelled words g = ((λ got. given_of words g got), (λ says. command_is words g.command g.count says))

-- a command that words give waits a day for an answer at most
pub in_time : (words : List (List ℕ)) (command : Command) (n : ℕ) → IsCommand words command n → is_in_time command ≡ true
in_time words (commands.Planned name given avoid expected timeout allow_cross_cell) n h =
    planned_in_time h.0.further h.0.options (commands.Planned name given avoid expected timeout allow_cross_cell) h.0.options_are h.0.command_is
in_time words (commands.Emergency name given ignored expected timeout prevent_cross_cell) n h =
    emergency_in_time h.0.further h.0.options (commands.Emergency name given ignored expected timeout prevent_cross_cell) h.0.options_are h.0.command_is
in_time words (commands.External a) n h = refl
in_time words commands.Vtorc n h = refl
in_time words (commands.Write to) n h = refl
in_time words (commands.Show a) n h = refl
in_time words (commands.GetShard name) n h = refl
in_time words (commands.GetTablets name) n h = refl

-- What the grammar spells is read, and faults stand where it has none.
use Rattle.std.proofs.Common.{◌≡◌, ◌≢◌, ◌⊎◌, inl, inr, ℕ, suc, ◌+◌, ◌<◌, ◌≤◌, List, [], ◌∷◌, ◌++◌, Bool, true, false, cond, not, ◌&&◌, Option, Some, None, Ok, length, refl, sym, ap, subst, ◌∙◌, arith}
use Rattle.std.specs.Prelude.{All, is_some, is_none, ◌==◌, nat_lt, nat_le}
use Rattle.std.specs.List.{AllZip}
use Rattle.std.specs.Str.{bytes_eq}
use Rattle.std.proofs.lemmas.Bool.Decides.{nat_tests}
use Rattle.std.proofs.lemmas.List.{append_assoc, append-nil, length-append}
use Rattle.std.proofs.lemmas.List.Elements.{All-head, All-tail, All-filter}
use Rattle.std.proofs.lemmas.List.Sorted.{IsPermutation-sym, All-permutation}
use Rattle.std.proofs.lemmas.Slice.Eq.{bytes_eq-Decides}
use Rattle.shard_names.specs.declared.shard_name.ShardName.{ShardName}
use Rattle.shard_names.specs.declared.tablet.Tablet.{Tablet as TabletData}
use Rattle.shard_names.specs.Tablets.{alias_eq, AliasesRise, ServersDiffer}
use Rattle.shard_names.proofs.TabletLemmas.{alias_eq-Decides, both}
use Rattle.shard_calls.specs.declared.command.Command.{Command}
use Rattle.shard_calls.specs.declared.command.Command.TheVariants.{Planned, Emergency, External, Vtorc, Write, Show, GetShard, GetTablets}
use Rattle.shard_script.specs.declared.line.Line.{Line}
use Rattle.shard_script.specs.declared.line.Line.TheVariants.{Shard, Tablet, Clock, Act}
use Rattle.shard_script.specs.declared.script.Action.{Action}
use Rattle.shard_script.specs.declared.script.Action.TheVariants as actions
use Rattle.shard_script.specs.declared.script.Script.{Script}
use Rattle.shard_script.specs.Names.{has_name, started_by, started, NamesDiffer, IsKnown, AreKnown}
use Rattle.shard_script.specs.Aliases.{NamesDeclared}
use Rattle.shard_script.specs.Lines.{words_of, say_nothing}
use Rattle.shard_script.specs.Script.{read_on, read_lines, with_bytes, with_words, admits, admits_command, admits_name, admits_action, all_declared, with_line, has_alias, has_server, is_shard, shard_eq, in_place, empty_script, reading, lines_of, ended_lines, first_bytes, fault_behind}
use Rattle.script_commands.specs.Grammar.{IsCommand}
use Rattle.shard_script.specs.Grammar.{IsTabletLine, IsClockLine, IsActionLine, Says, AliasesDiffer, IsCommandOf, IsOfShard, AreDeclarations, IsShardScript, IsScript, told_lines, HasScriptBytes, Spell, Spells, ReadsAsSpelled}
use Rattle.shard_script.specs.Grammar.IsScript.{is_empty, is_shard_script}
use Rattle.shard_script.proofs.NameLemmas.{not_same, or_none, not_before, is_known}
use Rattle.shard_script.proofs.LineReads.{of_says}
use Rattle.shard_script.proofs.TabletsInOrder.{any-in_place, rises_once, length-in_place}
use Rattle.shard_script.proofs.DeclaredLemmas.{are_declared}
use Rattle.shard_script.proofs.ScriptLemmas.{fits_lines, lines_read}
use Rattle.shard_script.proofs.GrammarLemmas.{clock_by, clock_alone, placed, IsNew, permuted_all, spell_of}
use Rattle.shard_script.proofs.ToldLemmas.{Tells, step_on, all_on, fewer_told, All-split}

-- ---- one line

-- a line that says its part is no comment
command_tells : (words : List (List ℕ)) (command : Command) (n : ℕ) → IsCommand words command n → say_nothing words ≡ false
command_tells words (Planned name given avoid expected timeout allow_cross_cell) n h = ap (λ (ws : List (List ℕ)). say_nothing ws) h.0.words_are
command_tells words (Emergency name given ignored expected timeout prevent_cross_cell) n h = ap (λ (ws : List (List ℕ)). say_nothing ws) h.0.words_are
command_tells words (External a) n h = ap (λ (ws : List (List ℕ)). say_nothing ws) h.0.words_are
command_tells words Vtorc n h = ap (λ (ws : List (List ℕ)). say_nothing ws) h.0
command_tells words (Write None) n h = ap (λ (ws : List (List ℕ)). say_nothing ws) h.words_are
command_tells words (Write (Some a)) n h = ap (λ (ws : List (List ℕ)). say_nothing ws) h.words_are
command_tells words (Show a) n h = ap (λ (ws : List (List ℕ)). say_nothing ws) h.0.words_are
command_tells words (GetShard name) n h = ap (λ (ws : List (List ℕ)). say_nothing ws) h.0.words_are
command_tells words (GetTablets name) n h = ap (λ (ws : List (List ℕ)). say_nothing ws) h.0.words_are

action_tells : (l : List ℕ) (x : Action) → IsActionLine l x → Tells l
action_tells l (actions.Play command n) h = command_tells (words_of l) command n h
action_tells l (actions.Start name command) h = ap (λ (ws : List (List ℕ)). say_nothing ws) h.words
action_tells l (actions.Turn name pumps) h = ap (λ (ws : List (List ℕ)). say_nothing ws) h.words
action_tells l (actions.Finish name) h = ap (λ (ws : List (List ℕ)). say_nothing ws) h.words
action_tells l actions.Settle h = ap (λ (ws : List (List ℕ)). say_nothing ws) h
action_tells l (actions.Local a) h = ap (λ (ws : List (List ℕ)). say_nothing ws) h.words_are
action_tells l (actions.Crash a keep) h = ap (λ (ws : List (List ℕ)). say_nothing ws) h.words
action_tells l (actions.Restart a) h = ap (λ (ws : List (List ℕ)). say_nothing ws) h.words_are
action_tells l (actions.Cut x y) h = ap (λ (ws : List (List ℕ)). say_nothing ws) h.words
action_tells l (actions.Mend x y) h = ap (λ (ws : List (List ℕ)). say_nothing ws) h.words
action_tells l (actions.Lose message) h = ap (λ (ws : List (List ℕ)). say_nothing ws) h.words
action_tells l (actions.Repeat message) h = ap (λ (ws : List (List ℕ)). say_nothing ws) h.words
action_tells l actions.Lapse h = ap (λ (ws : List (List ℕ)). say_nothing ws) h
action_tells l (actions.Tick ms) h = ap (λ (ws : List (List ℕ)). say_nothing ws) h.words

says_tells : (l : List ℕ) (line : Line) → Says l line → Tells l
says_tells l (Shard name policy) h = ap (λ (ws : List (List ℕ)). say_nothing ws) h.words
says_tells l (Tablet t) h = ap (λ (ws : List (List ℕ)). say_nothing ws) h.words
says_tells l (Clock moment) h = ap (λ (ws : List (List ℕ)). say_nothing ws) h.words
says_tells l (Act x) h = action_tells l x h

with_words_is : (s : Script) (l : List ℕ) (line : Line) → Says l line → admits s line ≡ true → with_words s (words_of l) ≡ Some (with_line s line)
unfolding with_words
with_words_is s l line says ok =
    ap (λ (o : Option Line). let r : Option Script = elim o [ None ↦ None | Some x ↦ cond (admits s x) (Some (with_line s x)) None ] in r) (of_says l line says)
    ∙ ap (λ (b : Bool). cond b (Some (with_line s line)) None) ok

added_is : (s : Script) (l : List ℕ) (line : Line) → HasScriptBytes l → Says l line → admits s line ≡ true → with_bytes s l ≡ Some (with_line s line)
unfolding with_bytes
added_is s l line bytes says ok =
    ap (λ (b : Bool). let r : Option Script = cond (not b) None (cond (say_nothing (words_of l)) (Some s) (with_words s (words_of l))) in r) bytes
    ∙ ap (λ (b : Bool). cond b (Some s) (with_words s (words_of l))) (says_tells l line says)
    ∙ with_words_is s l line says ok

-- ---- the tablets' lines

new_after : (d : TabletData) (ts : List TabletData) (e : TabletData) → IsNew ts e → d.alias ≢ e.alias → (bytes_eq d.server e.server ≡ true → ⊥) → IsNew (in_place d ts) e
new_after d ts e h other apart = record {
  alias = any-in_place (λ t. alias_eq t.alias e.alias) d ts ∙ or_none (alias_eq d.alias e.alias) (has_alias ts e.alias) (not_same (alias_eq d.alias e.alias) (λ same. other ((alias_eq-Decides d.alias e.alias).0 same))) h.alias;
  server = any-in_place (λ t. bytes_eq t.server e.server) d ts ∙ or_none (bytes_eq d.server e.server) (has_server ts e.server) (not_same (bytes_eq d.server e.server) apart) h.server;
}

tablet_admitted : (s : Script) (name : ShardName) (t : TabletData) → s.shard ≡ Some name → s.actions ≡ [] → length s.tablets < 32 → IsNew s.tablets t → admits s (Tablet t) ≡ true
tablet_admitted s name t named none few new =
    let room : nat_lt (length s.tablets) 32 ≡ true = grind (arith, nat_tests) in
    both (is_some s.shard && (length s.actions == 0) && nat_lt (length s.tablets) 32 && not (has_alias s.tablets t.alias)) (not (has_server s.tablets t.server))
    (both (is_some s.shard && (length s.actions == 0) && nat_lt (length s.tablets) 32) (not (has_alias s.tablets t.alias))
    (both (is_some s.shard && (length s.actions == 0)) (nat_lt (length s.tablets) 32)
    (both (is_some s.shard) (length s.actions == 0) (ap (λ (o : Option ShardName). is_some o) named) (ap (λ (xs : List Action). length xs == 0) none))
    room)
    (ap (λ (b : Bool). not b) new.alias))
    (ap (λ (b : Bool). not b) new.server)

-- how a script stands behind declarations
abbrev declared_on : Script → List TabletData → Option ℕ → Script
declared_on s ds clock = record s { tablets = placed s.tablets ds; clock = clock_by s.clock clock }

-- what has to hold before declarations are read
record Ready (place : ℕ) (s : Script) (name : ShardName) (dl : List (List ℕ)) (ds : List TabletData) (clock : Option ℕ) : Type 0 where
  bytes : All HasScriptBytes dl
  named : s.shard ≡ Some name
  none : s.actions ≡ []
  few : length s.tablets + length ds ≤ 32
  new : All (IsNew s.tablets) ds
  aliases : AliasesDiffer ds
  servers : ServersDiffer ds
  once : (m : ℕ) → clock ≡ Some m → s.clock ≡ None
  lines : place + length dl ≤ 20001

-- the reading of the lines behind declarations
abbrev OnDeclared : Type 0
OnDeclared = (place : ℕ) (s : Script) (name : ShardName) (dl al : List (List ℕ)) (ds : List TabletData) (clock : Option ℕ) → AreDeclarations dl ds clock → Ready place s name dl ds clock
    → read_on place s (dl ++ al) ≡ read_on (place + length dl) (declared_on s ds clock) al

none_declared : (place : ℕ) (s : Script) (al : List (List ℕ)) (ds : List TabletData) (clock : Option ℕ) → ds ≡ [] → clock ≡ None → read_on place s al ≡ read_on (place + 0) (declared_on s ds clock) al
none_declared place s al ds clock none no_clock =
    let e : place ≡ place + 0 = omega arith in
    let same : s ≡ declared_on s ds clock = λ i. record s { tablets = placed s.tablets (sym none i); clock = clock_by s.clock (sym no_clock i) } in
    λ i. read_on (e i) (same i) al

tablet_declared : (place : ℕ) (s : Script) (name : ShardName) (l : List ℕ) (dl al : List (List ℕ)) (d : TabletData) (ds : List TabletData) (clock : Option ℕ) → IsTabletLine l d → Ready place s name (l ∷ dl) (d ∷ ds) clock
    → (Ready (place + 1) (with_line s (Tablet d)) name dl ds clock → read_on (place + 1) (with_line s (Tablet d)) (dl ++ al) ≡ read_on ((place + 1) + length dl) (declared_on (with_line s (Tablet d)) ds clock) al)
    → read_on place s (l ∷ (dl ++ al)) ≡ read_on (place + suc (length dl)) (declared_on s (d ∷ ds) clock) al
tablet_declared place s name l dl al d ds clock says r rest =
    let u : Script = with_line s (Tablet d) in
    let few = r.few in
    let lines = r.lines in
    let ok : admits s (Tablet d) ≡ true = tablet_admitted s name d r.named r.none (omega arith) (All-head (IsNew s.tablets) d ds r.new) in
    let others : All (IsNew s.tablets) ds = All-tail (IsNew s.tablets) d ds r.new in
    let count : (place + 1) + length dl ≡ place + suc (length dl) = omega arith in
    step_on place s u l (dl ++ al) (omega arith) (added_is s l (Tablet d) (All-head HasScriptBytes l dl r.bytes) says ok)
    ∙ rest (record {
      bytes = All-tail HasScriptBytes l dl r.bytes;
      named = r.named;
      none = r.none;
      few = omega (arith, few, length-in_place d s.tablets);
      new = λ k x lt. new_after d s.tablets _ (others k x lt) (r.aliases.0 k x lt) (r.servers.0 k x lt);
      aliases = r.aliases.1;
      servers = r.servers.1;
      once = r.once;
      lines = omega arith;
    })
    ∙ ap (λ (n : ℕ). read_on n (declared_on s (d ∷ ds) clock) al) count

clock_admitted : (s : Script) (name : ShardName) (m : ℕ) → s.shard ≡ Some name → s.actions ≡ [] → s.clock ≡ None → admits s (Clock m) ≡ true
clock_admitted s name m named none once =
    both (is_some s.shard && (length s.actions == 0)) (is_none s.clock)
    (both (is_some s.shard) (length s.actions == 0) (ap (λ (o : Option ShardName). is_some o) named) (ap (λ (xs : List Action). length xs == 0) none))
    (ap (λ (o : Option ℕ). is_none o) once)

clock_declared : (place : ℕ) (s : Script) (name : ShardName) (l : List ℕ) (dl al : List (List ℕ)) (ds : List TabletData) (m : ℕ) → IsClockLine l m → Ready place s name (l ∷ dl) ds (Some m)
    → (Ready (place + 1) (with_line s (Clock m)) name dl ds None → read_on (place + 1) (with_line s (Clock m)) (dl ++ al) ≡ read_on ((place + 1) + length dl) (declared_on (with_line s (Clock m)) ds None) al)
    → read_on place s (l ∷ (dl ++ al)) ≡ read_on (place + suc (length dl)) (declared_on s ds (Some m)) al
clock_declared place s name l dl al ds m says r rest =
    let u : Script = with_line s (Clock m) in
    let lines = r.lines in
    let ok : admits s (Clock m) ≡ true = clock_admitted s name m r.named r.none (r.once m refl) in
    let count : (place + 1) + length dl ≡ place + suc (length dl) = omega arith in
    step_on place s u l (dl ++ al) (omega arith) (added_is s l (Clock m) (All-head HasScriptBytes l dl r.bytes) says ok)
    ∙ rest (record {
      bytes = All-tail HasScriptBytes l dl r.bytes;
      named = r.named;
      none = r.none;
      few = r.few;
      new = r.new;
      aliases = r.aliases;
      servers = r.servers;
      once = λ k is. absurd (cc);
      lines = omega arith;
    })
    ∙ ap (λ (n : ℕ). read_on n (declared_on s ds (Some m)) al) count

declarations_on : OnDeclared
declarations_on place s name [] al ds clock (none, no_clock) r = none_declared place s al ds clock none no_clock
declarations_on place s name (l ∷ dl) al ds clock (inl t) r =
    let whole : Ready place s name (l ∷ dl) (t.tablet ∷ t.others) clock = subst (λ (xs : List TabletData). Ready place s name (l ∷ dl) xs clock) t.tablets_are r in
    tablet_declared place s name l dl al t.tablet t.others clock t.says whole (λ k. declarations_on (place + 1) (with_line s (Tablet t.tablet)) name dl al t.others clock t.behind k)
    ∙ ap (λ (xs : List TabletData). read_on (place + suc (length dl)) (declared_on s xs clock) al) (sym t.tablets_are)
declarations_on place s name (l ∷ dl) al ds clock (inr c) r =
    let whole : Ready place s name (l ∷ dl) ds (Some c.moment) = subst (λ (o : Option ℕ). Ready place s name (l ∷ dl) ds o) c.clock_is r in
    clock_declared place s name l dl al ds c.moment c.says whole (λ k. declarations_on (place + 1) (with_line s (Clock c.moment)) name dl al ds None c.behind k)
    ∙ ap (λ (o : Option ℕ). read_on (place + suc (length dl)) (declared_on s ds o) al) (sym c.clock_is)

-- ---- the actions' lines

same_shard : (name : ShardName) → shard_eq name name ≡ true
same_shard name = both (bytes_eq name.keyspace name.keyspace) (bytes_eq name.shard name.shard) ((bytes_eq-Decides name.keyspace name.keyspace).1 refl) ((bytes_eq-Decides name.shard name.shard).1 refl)

shard_admitted : (s : Script) (name m : ShardName) → s.shard ≡ Some name → m ≡ name → is_shard s.shard m ≡ true
shard_admitted s name m named of = ap (λ (o : Option ShardName). is_shard o m) named ∙ ap (λ (k : ShardName). shard_eq name k) of ∙ same_shard name

command_admitted : (s : Script) (name : ShardName) (c : Command) → s.shard ≡ Some name → IsCommandOf name c → admits_command s c ≡ true
command_admitted s name (Planned m given avoid expected timeout allow_cross_cell) named of = shard_admitted s name m named of
command_admitted s name (Emergency m given ignored expected timeout prevent_cross_cell) named of = shard_admitted s name m named of
command_admitted s name (External a) named of = refl
command_admitted s name Vtorc named of = refl
command_admitted s name (Write to) named of = refl
command_admitted s name (Show a) named of = refl
command_admitted s name (GetShard m) named of = shard_admitted s name m named of
command_admitted s name (GetTablets m) named of = shard_admitted s name m named of

-- a name that differs from those before it, where there is room
name_admitted : (s : Script) (n : List ℕ) (ns : List (List ℕ)) → NamesDiffer (s.names ++ n ∷ ns) → length (s.names ++ n ∷ ns) ≤ 16 → admits_name s n ≡ true
name_admitted s n ns differ few =
    let size : length (s.names ++ n ∷ ns) ≡ length s.names + length (n ∷ ns) = length-append s.names (n ∷ ns) in
    let room : nat_lt (length s.names) 16 ≡ true = grind (arith, nat_tests) in
    both (nat_lt (length s.names) 16) (not (has_name s.names n)) room (ap (λ (b : Bool). not b) (not_before s.names n ns differ))

action_allowed : (s : Script) (name : ShardName) (x : Action) (ns : List (List ℕ)) → s.shard ≡ Some name → IsOfShard name x → IsKnown s.names x → NamesDiffer (s.names ++ (started_by x ++ ns)) → length (s.names ++ (started_by x ++ ns)) ≤ 16 → admits_action s x ≡ true
action_allowed s name (actions.Play c n) ns named of known differ few = command_admitted s name c named of
action_allowed s name (actions.Start n c) ns named of known differ few = both (admits_command s c) (admits_name s n) (command_admitted s name c named of) (name_admitted s n ns differ few)
action_allowed s name (actions.Turn n pumps) ns named of known differ few = is_known s.names n known
action_allowed s name (actions.Finish n) ns named of known differ few = is_known s.names n known
action_allowed s name actions.Settle ns named of known differ few = refl
action_allowed s name (actions.Local a) ns named of known differ few = refl
action_allowed s name (actions.Crash a keep) ns named of known differ few = refl
action_allowed s name (actions.Restart a) ns named of known differ few = refl
action_allowed s name (actions.Cut x y) ns named of known differ few = refl
action_allowed s name (actions.Mend x y) ns named of known differ few = refl
action_allowed s name (actions.Lose message) ns named of known differ few = refl
action_allowed s name (actions.Repeat message) ns named of known differ few = refl
action_allowed s name actions.Lapse ns named of known differ few = refl
action_allowed s name (actions.Tick ms) ns named of known differ few = refl

actions_on : (place : ℕ) (s : Script) (name : ShardName) (al : List (List ℕ)) (xs : List Action) → AllZip IsActionLine al xs → All HasScriptBytes al → s.shard ≡ Some name → All (IsOfShard name) xs → All (NamesDeclared s.tablets) xs → AreKnown s.names xs → NamesDiffer (s.names ++ started xs) → length (s.names ++ started xs) ≤ 16 → place + length al ≤ 20001 → read_on place s al ≡ Ok (record s { names = s.names ++ started xs; actions = s.actions ++ xs })
actions_on place s name [] [] said bytes named of declared known differ few lines =
    let names : s.names ≡ s.names ++ [] = sym (append-nil s.names) in
    let done : s.actions ≡ s.actions ++ [] = sym (append-nil s.actions) in
    λ i. Ok (record s { names = names i; actions = done i })
actions_on place s name [] (x ∷ xs) said bytes named of declared known differ few lines = absurd said
actions_on place s name (l ∷ al) [] said bytes named of declared known differ few lines = absurd said
actions_on place s name (l ∷ al) (x ∷ xs) said bytes named of declared known differ few lines =
    let u : Script = with_line s (Act x) in
    let allowed : (is_some s.shard && admits_action s x) ≡ true = both (is_some s.shard) (admits_action s x) (ap (λ (o : Option ShardName). is_some o) named) (action_allowed s name x (started xs) named (All-head (IsOfShard name) x xs of) known.0 differ few) in
    let ok : admits s (Act x) ≡ true = both (is_some s.shard && admits_action s x) (all_declared s.tablets x) allowed (are_declared s.tablets x (All-head (NamesDeclared s.tablets) x xs declared)) in
    let names : (s.names ++ started_by x) ++ started xs ≡ s.names ++ (started_by x ++ started xs) = append_assoc s.names (started_by x) (started xs) in
    let join : (s.actions ++ x ∷ []) ++ xs ≡ s.actions ++ x ∷ xs = append_assoc s.actions (x ∷ []) xs in
    let whole : Ok (record s { names = (s.names ++ started_by x) ++ started xs; actions = (s.actions ++ x ∷ []) ++ xs }) ≡ Ok (record s { names = s.names ++ (started_by x ++ started xs); actions = s.actions ++ x ∷ xs }) = λ i. Ok (record s { names = names i; actions = join i }) in
    step_on place s u l al (omega arith) (added_is s l (Act x) (All-head HasScriptBytes l al bytes) said.0 ok)
    ∙ actions_on (place + 1) u name al xs said.1 (All-tail HasScriptBytes l al bytes) named (All-tail (IsOfShard name) x xs of) (All-tail (NamesDeclared s.tablets) x xs declared) known.1 (subst NamesDiffer (sym names) differ) (subst (λ (ns : List (List ℕ)). length ns ≤ 16) (sym names) few) (omega arith)
    ∙ whole

-- ---- all lines

shard_read : (lines : List (List ℕ)) (s : Script) → length lines ≤ 20000 → All HasScriptBytes lines → IsShardScript lines s → read_lines lines ≡ Ok s
shard_read lines s few bytes g =
    let all_bytes : All HasScriptBytes (g.first ∷ (g.declaration_lines ++ g.action_lines)) = subst (λ (ls : List (List ℕ)). All HasScriptBytes ls) g.split bytes in
    let rest_bytes = All-split HasScriptBytes g.declaration_lines g.action_lines (All-tail HasScriptBytes g.first (g.declaration_lines ++ g.action_lines) all_bytes) in
    let named : Script = with_line empty_script (Shard g.name s.policy) in
    let size : length (g.declaration_lines ++ g.action_lines) ≡ length g.declaration_lines + length g.action_lines = length-append g.declaration_lines g.action_lines in
    let all_lines : length lines ≡ suc (length (g.declaration_lines ++ g.action_lines)) = ap (λ (ls : List (List ℕ)). length ls) g.split in
    let begun : Script = declared_on named g.declared s.clock in
    let declared : (al : List (List ℕ)) → read_lines (g.first ∷ (g.declaration_lines ++ al)) ≡ read_on (2 + length g.declaration_lines) begun al = λ al.
    step_on 1 empty_script named g.first (g.declaration_lines ++ al) (omega arith) (added_is empty_script g.first (Shard g.name s.policy) (All-head HasScriptBytes g.first (g.declaration_lines ++ g.action_lines) all_bytes) g.says_shard refl)
    ∙ declarations_on 2 named g.name g.declaration_lines al g.declared s.clock g.are_declarations (record {
      bytes = rest_bytes.0;
      named = refl;
      none = refl;
      few = omega (arith, g.few_tablets);
      new = λ k d lt. record { alias = refl; server = refl };
      aliases = g.aliases_differ;
      servers = g.servers_differ;
      once = λ m is. refl;
      lines = omega (arith, few, size, all_lines);
    }) in
    let rise : AliasesRise (placed [] g.declared) = (fits_lines (g.first ∷ (g.declaration_lines ++ [])) begun (declared [])).tablets.in_order in
    let here = permuted_all g.declared in
    let same : placed [] g.declared ≡ s.tablets = rises_once (placed [] g.declared) s.tablets rise g.in_order
    (λ P h. All-permutation P g.declared s.tablets g.tablets (All-permutation P (placed [] g.declared) g.declared (IsPermutation-sym g.declared (placed [] g.declared) here) h))
    (λ P h. All-permutation P g.declared (placed [] g.declared) here (All-permutation P s.tablets g.declared (IsPermutation-sym g.declared s.tablets g.tablets) h)) in
    let got : read_lines lines ≡ Ok (record { shard = Some g.name; policy = s.policy; clock = clock_by None s.clock; tablets = placed [] g.declared; names = started s.actions; actions = s.actions }) =
    ap (λ (ls : List (List ℕ)). read_lines ls) g.split
    ∙ declared g.action_lines
    ∙ actions_on (2 + length g.declaration_lines) begun g.name g.action_lines s.actions g.say_actions rest_bytes.1 refl g.of_shard (subst (λ (ts : List TabletData). All (NamesDeclared ts) s.actions) (sym same) g.are_declared) g.known (subst NamesDiffer g.names g.names_differ) (subst (λ (ns : List (List ℕ)). length ns ≤ 16) g.names g.few_names) (omega (arith, few, size, all_lines)) in
    let shard : Some g.name ≡ s.shard = sym g.shard in
    let names : started s.actions ≡ s.names = sym g.names in
    let clock : clock_by None s.clock ≡ s.clock = clock_alone s.clock in
    let whole : record { shard = Some g.name; policy = s.policy; clock = clock_by None s.clock; tablets = placed [] g.declared; names = started s.actions; actions = s.actions } ≡ s = λ i. record { shard = shard i; policy = s.policy; clock = clock i; tablets = same i; names = names i; actions = s.actions } in
    got ∙ ap (λ (t : Script). Ok t) whole

script_read : (lines : List (List ℕ)) (s : Script) → length lines ≤ 20000 → All HasScriptBytes lines → IsScript lines s → read_lines lines ≡ Ok s
script_read lines s few bytes (is_empty none is) = ap (λ (ls : List (List ℕ)). read_lines ls) none ∙ ap (λ (t : Script). Ok t) (sym is)
script_read lines s few bytes (is_shard_script g) = shard_read lines s few bytes g

pub read_of : (lines : List (List ℕ)) (s : Script) → Spell lines s → read_lines lines ≡ Ok s
read_of lines s h =
    let short = fewer_told lines in
    let bytes : All HasScriptBytes (told_lines lines) = All-filter (λ l. not (say_nothing (words_of l))) HasScriptBytes lines h.script_bytes in
    all_on 1 1 empty_script s lines (omega (arith, h.few_lines)) h.script_bytes (script_read (told_lines lines) s (omega (arith, short, h.few_lines)) bytes h.script)

pub reads_as_spelled : ReadsAsSpelled
unfolding reading
reads_as_spelled text s = (
  (λ got. let r = lines_read text s got in record { few_bytes = r.0; lines = spell_of (lines_of text) s r.1 }),
  (λ h. short_is text s h),
)
  where
    short_is : (text : List ℕ) (s : Script) → Spells text s → cond (nat_le (length text) 1048576) (read_lines (lines_of text)) (fault_behind (ended_lines (first_bytes text)) (read_lines (ended_lines (first_bytes text)))) ≡ Ok s
    short_is text s h =
        let short : nat_le (length text) 1048576 ≡ true = (let few : length text ≤ 1048576 = h.few_bytes in grind (arith, nat_tests)) in
        ap (λ (b : Bool). cond b (read_lines (lines_of text)) (fault_behind (ended_lines (first_bytes text)) (read_lines (ended_lines (first_bytes text))))) short ∙ read_of (lines_of text) s h.lines

-- Lines read one after another.
use Rattle.std.proofs.Common.{◌≡◌, ℕ, ◌+◌, ◌<◌, ◌≤◌, List, [], ◌∷◌, ◌++◌, Bool, true, false, Option, Some, None, Result, Ok, Err, IfOk, cond, ltb, not, ◌&&◌, length, length-append, append-nil, subst, refl, sym, ap, ◌∙◌, arith}
use Rattle.std.specs.Prelude.{All, is_some, is_none, ◌==◌, nat_lt, nat_le, ⊤}
use Rattle.std.specs.List.{list_all}
use Rattle.std.specs.Str.{bytes_eq}
use Rattle.std.proofs.lemmas.Bool.{false≢true, eqb-true}
use Rattle.std.proofs.lemmas.Bool.Decides.{nat_tests}
use Rattle.std.proofs.lemmas.List.{nil_from_length}
use Rattle.std.proofs.lemmas.List.Elements.{All-nil, All-cons, All-append}
use Rattle.std.proofs.lemmas.Slice.Eq.{bytes_eq-Decides}
use borrow.Author.Tests.{ltb-false}
use Rattle.shard_names.specs.declared.shard_name.ShardName.{ShardName}
use Rattle.shard_names.specs.declared.tablet.Tablet.{Tablet as TabletData}
use Rattle.shard_names.specs.Tablets.{AreTablets}
use Rattle.durability.specs.declared.policy.Durability.{Durability}
use Rattle.durability.specs.declared.policy.Durability.TheVariants as policies
use Rattle.shard_calls.specs.declared.command.Command.{Command}
use Rattle.shard_calls.specs.declared.command.Command.TheVariants.{Planned, Emergency, External, Vtorc, Write, Show, GetShard, GetTablets}
use Rattle.shard_script.specs.declared.line.Line.{Line}
use Rattle.shard_script.specs.declared.line.Line.TheVariants.{Shard, Tablet, Clock, Act}
use Rattle.shard_script.specs.declared.script.Action.{Action}
use Rattle.shard_script.specs.declared.script.Action.TheVariants as actions
use Rattle.shard_script.specs.declared.script.Script.{Script}
use Rattle.shard_script.specs.declared.script.ScriptFault.{ScriptFault}
use Rattle.shard_script.specs.Names.{has_name, started_by, started, NamesDiffer, IsKnown, AreKnown}
use Rattle.shard_script.specs.Aliases.{NamesDeclared, are_ends}
use Rattle.shard_script.specs.Lines.{words_of, is_plain, say_nothing, line_of}
use Rattle.script_commands.specs.Words.{IsName}
use Rattle.script_commands.specs.Grammar.{IsCommand}
use Rattle.shard_script.specs.Grammar.{IsActionLine, Says, HasScriptBytes}
use Rattle.shard_script.specs.Script.{Fits, FitsShard, IsInTime, read_on, read_lines, with_bytes, with_words, reading, admits, admits_command, admits_name, admits_action, with_line, has_alias, has_server, all_declared, in_place, is_shard, empty_script, fault_behind, lines_of, ended_lines, first_bytes}
use Rattle.script_commands.proofs.OptionLemmas.{and_both, not_true}
use Rattle.shard_script.proofs.NameLemmas.{started_more, known_more, differ_more, known_is}
use Rattle.script_faults.specs.declared.fault.Fault.{Fault}
use Rattle.shard_script.specs.Faults.{Gives}
use Rattle.script_commands.proofs.CommandLemmas.{in_time}
use Rattle.script_commands.proofs.MomentLemmas.{moment_bound}
use Rattle.shard_script.proofs.LineLemmas.{says_of}
use Rattle.shard_script.proofs.DeclaredLemmas.{names_declared}
use Rattle.shard_script.proofs.TabletsInOrder.{length-in_place, rises-in_place, apart-in_place}

-- a line past the most that there may be
pub past_most : (place : ℕ) (s : Script) (ls : List (List ℕ)) → 20000 < place → 0 < length ls → read_on place s ls ≡ Err place
past_most place s [] far some = absurd (omega arith)
past_most place s (l ∷ ls) far some = let e : ltb 20000 place ≡ true = grind (arith, nat_tests) in rw e refl

-- ---- what has been read so far fits

record SoFar (place : ℕ) (s : Script) : Type 0 where
  tablets : AreTablets s.tablets
  few_tablets : length s.tablets ≤ 32
  named : s.shard ≡ None → (s.tablets ≡ []) × (s.actions ≡ [])
  unnamed : s.shard ≡ None → s.policy ≡ policies.None
  clock : (m : ℕ) → s.clock ≡ Some m → m < 221876928000000
  actions : All (FitsShard s.shard) s.actions
  in_time : All IsInTime s.actions
  few : length s.actions < place
  declared : All (NamesDeclared s.tablets) s.actions
  starts : s.names ≡ started s.actions
  are_names : All IsName s.names
  few_names : length s.names ≤ 16
  names_differ : NamesDiffer s.names
  known : AreKnown [] s.actions

-- what an action's line says of its numbers and its name
CountedAction : Action → Type 0
CountedAction (actions.Play (Planned name given avoid expected timeout allow_cross_cell) n) = n ≡ 1
CountedAction (actions.Play (Emergency name given ignored expected timeout prevent_cross_cell) n) = n ≡ 1
CountedAction (actions.Play (External a) n) = n ≡ 1
CountedAction (actions.Play Vtorc n) = n ≡ 1
CountedAction (actions.Play (Write to) n) = (1 ≤ n) × (n ≤ 10000)
CountedAction (actions.Play (Show a) n) = n ≡ 1
CountedAction (actions.Play (GetShard name) n) = n ≡ 1
CountedAction (actions.Play (GetTablets name) n) = n ≡ 1
CountedAction (actions.Start name command) = IsName name
CountedAction (actions.Turn name pumps) = (1 ≤ pumps) × (pumps ≤ 1000000)
CountedAction (actions.Finish name) = ⊤
CountedAction actions.Settle = ⊤
CountedAction (actions.Local a) = ⊤
CountedAction (actions.Crash a keep) = ⊤
CountedAction (actions.Restart a) = ⊤
CountedAction (actions.Cut x y) = are_ends x y ≡ true
CountedAction (actions.Mend x y) = are_ends x y ≡ true
CountedAction (actions.Lose message) = ⊤
CountedAction (actions.Repeat message) = ⊤
CountedAction actions.Lapse = ⊤
CountedAction (actions.Tick ms) = ms ≤ 86400000

Counted : Line → Type 0
Counted (Shard name policy) = ⊤
Counted (Tablet t) = ⊤
Counted (Clock moment) = moment < 221876928000000
Counted (Act x) = CountedAction x × IsInTime x

counted_action : (line : List ℕ) (x : Action) → IsActionLine line x → CountedAction x
unfolding CountedAction
counted_action line (actions.Play (Planned name given avoid expected timeout allow_cross_cell) n) h = h.1
counted_action line (actions.Play (Emergency name given ignored expected timeout prevent_cross_cell) n) h = h.1
counted_action line (actions.Play (External a) n) h = h.1
counted_action line (actions.Play Vtorc n) h = h.1
counted_action line (actions.Play (Write None) n) h = (h.from_one, h.to_ten_thousand)
counted_action line (actions.Play (Write (Some a)) n) h = (h.from_one, h.to_ten_thousand)
counted_action line (actions.Play (Show a) n) h = h.1
counted_action line (actions.Play (GetShard name) n) h = h.1
counted_action line (actions.Play (GetTablets name) n) h = h.1
counted_action line (actions.Start name command) h = h.is_name
counted_action line (actions.Turn name pumps) h = (h.from_one, h.to_million)
counted_action line (actions.Finish name) h = tt
counted_action line actions.Settle h = tt
counted_action line (actions.Local a) h = tt
counted_action line (actions.Crash a keep) h = tt
counted_action line (actions.Restart a) h = tt
counted_action line (actions.Cut x y) h = h.ends
counted_action line (actions.Mend x y) h = h.ends
counted_action line (actions.Lose message) h = tt
counted_action line (actions.Repeat message) h = tt
counted_action line actions.Lapse h = tt
counted_action line (actions.Tick ms) h = h.to_a_day

action_in_time : (line : List ℕ) (x : Action) → IsActionLine line x → IsInTime x
action_in_time line (actions.Play command n) h = in_time (words_of line) command n h
action_in_time line (actions.Start name command) h = in_time h.command_words command 1 h.once
action_in_time line (actions.Turn name pumps) h = tt
action_in_time line (actions.Finish name) h = tt
action_in_time line actions.Settle h = tt
action_in_time line (actions.Local a) h = tt
action_in_time line (actions.Crash a keep) h = tt
action_in_time line (actions.Restart a) h = tt
action_in_time line (actions.Cut x y) h = tt
action_in_time line (actions.Mend x y) h = tt
action_in_time line (actions.Lose message) h = tt
action_in_time line (actions.Repeat message) h = tt
action_in_time line actions.Lapse h = tt
action_in_time line (actions.Tick ms) h = tt

counted : (line : List ℕ) (x : Line) → Says line x → Counted x
unfolding Counted
counted line (Shard name policy) h = tt
counted line (Tablet t) h = tt
counted line (Clock moment) h = moment_bound h.moment_text moment h.moment_is
counted line (Act x) h = (counted_action line x h, action_in_time line x h)

pub none_is : {A : Type 0} (o : Option A) → is_none o ≡ true → o ≡ None
none_is None h = refl
none_is (Some x) h = absurd (false≢true h)

pub some_not : {A : Type 0} (o : Option A) → is_some o ≡ true → o ≡ None → ⊥
some_not None h e = false≢true h
some_not (Some x) h e = absurd (cc)

pub shard_is : (o : Option ShardName) (name : ShardName) → is_shard o name ≡ true → o ≡ Some name
shard_is None name h = absurd (false≢true h)
shard_is (Some s) name h =
    let tests = and_both (bytes_eq s.keyspace name.keyspace) (bytes_eq s.shard name.shard) h in
    let keyspace : s.keyspace ≡ name.keyspace = (bytes_eq-Decides s.keyspace name.keyspace).0 tests.0 in
    let shard : s.shard ≡ name.shard = (bytes_eq-Decides s.shard name.shard).0 tests.1 in
    λ i. Some (record { keyspace = keyspace i; shard = shard i })

one_shard : (place : ℕ) (s : Script) (name : ShardName) (policy : Durability) → SoFar place s → is_none s.shard ≡ true → SoFar (place + 1) (with_line s (Shard name policy))
one_shard place s name policy h ok =
    let empty = h.named (none_is s.shard ok) in
    record {
      tablets = h.tablets;
      few_tablets = h.few_tablets;
      named = λ none. absurd (cc);
      unnamed = λ none. absurd (cc);
      clock = h.clock;
      actions = subst (λ (xs : List Action). All (FitsShard (Some name)) xs) (sym empty.1) (All-nil (FitsShard (Some name)));
      in_time = h.in_time;
      few = omega (arith, h.few);
      declared = h.declared;
      starts = h.starts;
      are_names = h.are_names;
      few_names = h.few_names;
      names_differ = h.names_differ;
      known = h.known;
    }

one_clock : (place : ℕ) (s : Script) (moment : ℕ) → moment < 221876928000000 → SoFar place s → admits s (Clock moment) ≡ true → SoFar (place + 1) (with_line s (Clock moment))
one_clock place s moment within h ok = record {
  tablets = h.tablets;
  few_tablets = h.few_tablets;
  named = h.named;
  unnamed = h.unnamed;
  clock = λ m is. subst (λ (k : ℕ). k < 221876928000000) (let e : Some moment ≡ Some m = is in cc) within;
  actions = h.actions;
  in_time = h.in_time;
  few = omega (arith, h.few);
  declared = h.declared;
  starts = h.starts;
  are_names = h.are_names;
  few_names = h.few_names;
  names_differ = h.names_differ;
  known = h.known;
}

one_tablet : (place : ℕ) (s : Script) (t : TabletData) → SoFar place s → admits s (Tablet t) ≡ true → SoFar (place + 1) (with_line s (Tablet t))
one_tablet place s t h ok =
    let p1 = and_both (is_some s.shard && (length s.actions == 0) && nat_lt (length s.tablets) 32 && not (has_alias s.tablets t.alias)) (not (has_server s.tablets t.server)) ok in
    let p2 = and_both (is_some s.shard && (length s.actions == 0) && nat_lt (length s.tablets) 32) (not (has_alias s.tablets t.alias)) p1.0 in
    let p3 = and_both (is_some s.shard && (length s.actions == 0)) (nat_lt (length s.tablets) 32) p2.0 in
    let p4 = and_both (is_some s.shard) (length s.actions == 0) p3.0 in
    let room : ltb (length s.tablets) 32 ≡ true = p3.1 in
    let few : length s.tablets < 32 = grind (arith, nat_tests) in
    let none : s.actions ≡ [] = nil_from_length s.actions (eqb-true (length s.actions) 0 p4.1) in
    record {
      tablets = record {
        in_order = rises-in_place t s.tablets h.tablets.in_order (not_true (has_alias s.tablets t.alias) p2.1);
        apart = apart-in_place t s.tablets h.tablets.apart (not_true (has_server s.tablets t.server) p1.1);
      };
      few_tablets = omega (arith, few, length-in_place t s.tablets);
      named = λ none. absurd (some_not s.shard p4.0 none);
      unnamed = h.unnamed;
      clock = h.clock;
      actions = h.actions;
      in_time = h.in_time;
      few = omega (arith, h.few);
      declared = subst (λ (xs : List Action). All (NamesDeclared (in_place t s.tablets)) xs) (sym none) (All-nil (NamesDeclared (in_place t s.tablets)));
      starts = h.starts;
      are_names = h.are_names;
      few_names = h.few_names;
      names_differ = h.names_differ;
      known = h.known;
    }

fits_one : (s : Script) (x : Action) → CountedAction x → admits_action s x ≡ true → FitsShard s.shard x
unfolding CountedAction
fits_one s (actions.Play (External a) n) once ok = once
fits_one s (actions.Play (Emergency name given ignored expected timeout prevent_cross_cell) n) once ok = (shard_is s.shard name ok, once)
fits_one s (actions.Play (Planned name given avoid expected timeout allow_cross_cell) n) once ok = (shard_is s.shard name ok, once)
fits_one s (actions.Play Vtorc n) once ok = once
fits_one s (actions.Play (Write to) n) range ok = range
fits_one s (actions.Play (Show a) n) once ok = once
fits_one s (actions.Play (GetShard name) n) once ok = (shard_is s.shard name ok, once)
fits_one s (actions.Play (GetTablets name) n) once ok = (shard_is s.shard name ok, once)
fits_one s (actions.Start name (External a)) named ok = tt
fits_one s (actions.Start name (Emergency shard given ignored expected timeout prevent_cross_cell)) named ok = shard_is s.shard shard (and_both (is_shard s.shard shard) (admits_name s name) ok).0
fits_one s (actions.Start name (Planned shard given avoid expected timeout allow_cross_cell)) named ok = shard_is s.shard shard (and_both (is_shard s.shard shard) (admits_name s name) ok).0
fits_one s (actions.Start name Vtorc) named ok = tt
fits_one s (actions.Start name (Write to)) named ok = tt
fits_one s (actions.Start name (Show a)) named ok = tt
fits_one s (actions.Start name (GetShard shard)) named ok = shard_is s.shard shard (and_both (is_shard s.shard shard) (admits_name s name) ok).0
fits_one s (actions.Start name (GetTablets shard)) named ok = shard_is s.shard shard (and_both (is_shard s.shard shard) (admits_name s name) ok).0
fits_one s (actions.Turn name pumps) range ok = range
fits_one s (actions.Finish name) counts ok = tt
fits_one s actions.Settle counts ok = tt
fits_one s (actions.Local a) counts ok = tt
fits_one s (actions.Crash a keep) counts ok = tt
fits_one s (actions.Restart a) counts ok = tt
fits_one s (actions.Cut x y) counts ok = counts
fits_one s (actions.Mend x y) counts ok = counts
fits_one s (actions.Lose message) counts ok = tt
fits_one s (actions.Repeat message) counts ok = tt
fits_one s actions.Lapse counts ok = tt
fits_one s (actions.Tick ms) day ok = day

-- ---- the names with the one that an action starts

names_of : (x : Action) → CountedAction x → All IsName (started_by x)
unfolding CountedAction
names_of (actions.Play command n) h = All-nil IsName
names_of (actions.Start name command) h = All-cons IsName name [] h (All-nil IsName)
names_of (actions.Turn name pumps) h = All-nil IsName
names_of (actions.Finish name) h = All-nil IsName
names_of actions.Settle h = All-nil IsName
names_of (actions.Local a) h = All-nil IsName
names_of (actions.Crash a keep) h = All-nil IsName
names_of (actions.Restart a) h = All-nil IsName
names_of (actions.Cut x y) h = All-nil IsName
names_of (actions.Mend x y) h = All-nil IsName
names_of (actions.Lose message) h = All-nil IsName
names_of (actions.Repeat message) h = All-nil IsName
names_of actions.Lapse h = All-nil IsName
names_of (actions.Tick ms) h = All-nil IsName

-- names that keep to P do so with the one that an action starts
with_names : (P : List (List ℕ) → Type 0) (s : Script) (x : Action) → P s.names → ((name : List ℕ) → admits_name s name ≡ true → P (s.names ++ name ∷ [])) → admits_action s x ≡ true → P (s.names ++ started_by x)
with_names P s (actions.Play command n) h more ok = subst P (sym (append-nil s.names)) h
with_names P s (actions.Start name command) h more ok = more name (and_both (admits_command s command) (admits_name s name) ok).1
with_names P s (actions.Turn name pumps) h more ok = subst P (sym (append-nil s.names)) h
with_names P s (actions.Finish name) h more ok = subst P (sym (append-nil s.names)) h
with_names P s actions.Settle h more ok = subst P (sym (append-nil s.names)) h
with_names P s (actions.Local a) h more ok = subst P (sym (append-nil s.names)) h
with_names P s (actions.Crash a keep) h more ok = subst P (sym (append-nil s.names)) h
with_names P s (actions.Restart a) h more ok = subst P (sym (append-nil s.names)) h
with_names P s (actions.Cut x y) h more ok = subst P (sym (append-nil s.names)) h
with_names P s (actions.Mend x y) h more ok = subst P (sym (append-nil s.names)) h
with_names P s (actions.Lose message) h more ok = subst P (sym (append-nil s.names)) h
with_names P s (actions.Repeat message) h more ok = subst P (sym (append-nil s.names)) h
with_names P s actions.Lapse h more ok = subst P (sym (append-nil s.names)) h
with_names P s (actions.Tick ms) h more ok = subst P (sym (append-nil s.names)) h

few_with : (s : Script) (name : List ℕ) → admits_name s name ≡ true → length (s.names ++ name ∷ []) ≤ 16
few_with s name ok =
    let tests = and_both (nat_lt (length s.names) 16) (not (has_name s.names name)) ok in
    let room : ltb (length s.names) 16 ≡ true = tests.0 in
    let few : length s.names < 16 = grind (arith, nat_tests) in
    omega (arith, few, length-append s.names (name ∷ []))

differ_with : (s : Script) (name : List ℕ) → NamesDiffer s.names → admits_name s name ≡ true → NamesDiffer (s.names ++ name ∷ [])
differ_with s name h ok =
    let tests = and_both (nat_lt (length s.names) 16) (not (has_name s.names name)) ok in
    differ_more s.names name h (not_true (has_name s.names name) tests.1)

known_one : (s : Script) (x : Action) → admits_action s x ≡ true → IsKnown s.names x
known_one s (actions.Play command n) ok = tt
known_one s (actions.Start name command) ok = tt
known_one s (actions.Turn name pumps) ok = known_is s.names name ok
known_one s (actions.Finish name) ok = known_is s.names name ok
known_one s actions.Settle ok = tt
known_one s (actions.Local a) ok = tt
known_one s (actions.Crash a keep) ok = tt
known_one s (actions.Restart a) ok = tt
known_one s (actions.Cut x y) ok = tt
known_one s (actions.Mend x y) ok = tt
known_one s (actions.Lose message) ok = tt
known_one s (actions.Repeat message) ok = tt
known_one s actions.Lapse ok = tt
known_one s (actions.Tick ms) ok = tt

one_action : (place : ℕ) (s : Script) (x : Action) → CountedAction x → IsInTime x → SoFar place s → admits s (Act x) ≡ true → SoFar (place + 1) (with_line s (Act x))
one_action place s x count time h ok =
    let declared = and_both (is_some s.shard && admits_action s x) (all_declared s.tablets x) ok in
    let tests = and_both (is_some s.shard) (admits_action s x) declared.0 in
    record {
      tablets = h.tablets;
      few_tablets = h.few_tablets;
      named = λ none. absurd (some_not s.shard tests.0 none);
      unnamed = h.unnamed;
      clock = h.clock;
      actions = All-append (FitsShard s.shard) s.actions (x ∷ []) h.actions (All-cons (FitsShard s.shard) x [] (fits_one s x count tests.1) (All-nil (FitsShard s.shard)));
      in_time = All-append IsInTime s.actions (x ∷ []) h.in_time (All-cons IsInTime x [] time (All-nil IsInTime));
      few = omega (arith, h.few, length-append s.actions (x ∷ []));
      declared = All-append (NamesDeclared s.tablets) s.actions (x ∷ []) h.declared (All-cons (NamesDeclared s.tablets) x [] (names_declared s.tablets x declared.1) (All-nil (NamesDeclared s.tablets)));
      starts = ap (λ (ns : List (List ℕ)). ns ++ started_by x) h.starts ∙ sym (started_more s.actions x);
      are_names = All-append IsName s.names (started_by x) h.are_names (names_of x count);
      few_names = with_names (λ ns. length ns ≤ 16) s x h.few_names (λ name free. few_with s name free) tests.1;
      names_differ = with_names NamesDiffer s x h.names_differ (λ name free. differ_with s name h.names_differ free) tests.1;
      known = known_more [] s.actions x h.known (subst (λ (ns : List (List ℕ)). IsKnown ns x) h.starts (known_one s x tests.1));
    }

one_line : (place : ℕ) (s : Script) (line : Line) → Counted line → SoFar place s → admits s line ≡ true → SoFar (place + 1) (with_line s line)
unfolding Counted
one_line place s (Shard name policy) count h ok = one_shard place s name policy h ok
one_line place s (Tablet t) count h ok = one_tablet place s t h ok
one_line place s (Clock moment) count h ok = one_clock place s moment count h ok
one_line place s (Act x) count h ok = one_action place s x count.0 count.1 h ok

-- a line that was added may stand there
pub admitted : (s t : Script) (line : Line) (b : Bool) → cond b (Some (with_line s line)) None ≡ Some t → (b ≡ true) × (with_line s line ≡ t)
admitted s t line true got = (refl, (cc))
admitted s t line false got = absurd (cc)

pub with_line_of : (s t : Script) (o : Option Line) → (elim o [ None ↦ None | Some line ↦ cond (admits s line) (Some (with_line s line)) None ]) ≡ Some t → (line : Line) × (o ≡ Some line) × (admits s line ≡ true) × (with_line s line ≡ t)
with_line_of s t None got = absurd (cc)
with_line_of s t (Some line) got = let e = admitted s t line (admits s line) got in (line, refl, e.0, e.1)

-- what a line was that was added: its bytes are a script's, and it says nothing or is one that may stand there
added_by : (s t : Script) (b c : Bool) (o : Option Script) → cond (not b) None (cond c (Some s) o) ≡ Some t → (b ≡ true) × ((c ≡ true → s ≡ t) × (c ≡ false → o ≡ Some t))
added_by s t true true o got = (refl, ((λ is. let e : Some s ≡ Some t = got in cc), (λ is. absurd (false≢true (sym is)))))
added_by s t true false o got = (refl, ((λ is. absurd (false≢true is)), (λ is. got)))
added_by s t false c o got = absurd (cc)

added : (s t : Script) (bytes : List ℕ) → with_bytes s bytes ≡ Some t → (is_plain bytes ≡ true) × ((say_nothing (words_of bytes) ≡ true → s ≡ t) × (say_nothing (words_of bytes) ≡ false → with_words s (words_of bytes) ≡ Some t))
unfolding with_bytes
added s t bytes got = added_by s t (is_plain bytes) (say_nothing (words_of bytes)) (with_words s (words_of bytes)) got

pub bytes_of_added : (s t : Script) (bytes : List ℕ) → with_bytes s bytes ≡ Some t → HasScriptBytes bytes
bytes_of_added s t bytes got = (added s t bytes got).0

pub same_with : (s t : Script) (bytes : List ℕ) → say_nothing (words_of bytes) ≡ true → with_bytes s bytes ≡ Some t → s ≡ t
same_with s t bytes nothing got = (added s t bytes got).1.0 nothing

-- the bytes of a line that says something spell one that may stand there
pub line_with_bytes : (s t : Script) (bytes : List ℕ) → say_nothing (words_of bytes) ≡ false → with_bytes s bytes ≡ Some t → (line : Line) × (line_of bytes ≡ Some line) × (admits s line ≡ true) × (with_line s line ≡ t)
unfolding with_words
line_with_bytes s t bytes tells got = with_line_of s t (line_of bytes) ((added s t bytes got).1.1 tells)

-- a line that says nothing
passed : (place : ℕ) (s : Script) → SoFar place s → SoFar (place + 1) s
passed place s h = record {
  tablets = h.tablets;
  few_tablets = h.few_tablets;
  named = h.named;
  unnamed = h.unnamed;
  clock = h.clock;
  actions = h.actions;
  in_time = h.in_time;
  few = omega (arith, h.few);
  declared = h.declared;
  starts = h.starts;
  are_names = h.are_names;
  few_names = h.few_names;
  names_differ = h.names_differ;
  known = h.known;
}

one_more : (place : ℕ) (s t : Script) (bytes : List ℕ) → SoFar place s → with_bytes s bytes ≡ Some t → SoFar (place + 1) t
one_more place s t bytes h got = by_test (say_nothing (words_of bytes)) refl
  where
    by_test : (b : Bool) → say_nothing (words_of bytes) ≡ b → SoFar (place + 1) t
    by_test true is = subst (λ (x : Script). SoFar (place + 1) x) (same_with s t bytes is got) (passed place s h)
    by_test false is =
        let e = line_with_bytes s t bytes is got in
        subst (λ (x : Script). SoFar (place + 1) x) e.3 (one_line place s e.0 (counted bytes e.0 (says_of bytes e.0 e.1)) h e.2)

on_more : (place : ℕ) (s t : Script) (l : List ℕ) (ls : List (List ℕ)) (b : Bool) (o : Option Script) → ltb 20000 place ≡ b → with_bytes s l ≡ o → SoFar place s → (cond b (Err place) (elim o [ None ↦ Err place | Some u ↦ read_on (place + 1) u ls ])) ≡ Ok t → ((u : Script) → SoFar (place + 1) u → place + 1 ≤ 20001 → read_on (place + 1) u ls ≡ Ok t → Fits t) → Fits t
on_more place s t l ls true o past with h got rest = absurd (cc)
on_more place s t l ls false None past with h got rest = absurd (cc)
on_more place s t l ls false (Some u) past with h got rest = rest u (one_more place s u l h with) (omega (arith, ltb-false 20000 place past)) got

fits_on : (place : ℕ) (s t : Script) (ls : List (List ℕ)) → SoFar place s → place ≤ 20001 → read_on place s ls ≡ Ok t → Fits t
fits_on place s t [] h le got =
    let same : s ≡ t = (let e : Ok s ≡ Ok t = got in cc) in
    subst (λ (x : Script). Fits x) same (record { tablets = h.tablets; few_tablets = h.few_tablets; named = h.named; unnamed = h.unnamed; clock = h.clock; actions = h.actions; in_time = h.in_time; few_actions = omega (arith, h.few); declared = h.declared; starts = h.starts; are_names = h.are_names; few_names = h.few_names; names_differ = h.names_differ; known = h.known })
fits_on place s t (l ∷ ls) h le got = on_more place s t l ls (ltb 20000 place) (with_bytes s l) refl refl h got (λ u k less more. fits_on (place + 1) u t ls k less more)

opening : SoFar 1 empty_script
opening = record {
  tablets = record { in_order = tt; apart = tt };
  few_tablets = omega arith;
  named = λ none. (refl, refl);
  unnamed = λ none. refl;
  clock = λ m is. absurd (cc);
  actions = All-nil (FitsShard None);
  in_time = All-nil IsInTime;
  few = omega arith;
  declared = All-nil (NamesDeclared []);
  starts = refl;
  are_names = All-nil IsName;
  few_names = omega arith;
  names_differ = tt;
  known = tt;
}

pub fits_lines : (ls : List (List ℕ)) (s : Script) → read_lines ls ≡ Ok s → Fits s
fits_lines ls s is = fits_on 1 empty_script s ls opening (omega arith) is

-- ---- the whole text

fault_is : (lines : List (List ℕ)) (r : Result Script ℕ) (t : Script) → fault_behind lines r ≡ Ok t → ⊥
fault_is lines (Ok s) t h = absurd (cc)
fault_is lines (Err place) t h = absurd (cc)

pub lines_read : (text : List ℕ) (s : Script) → reading text ≡ Ok s → (length text ≤ 1048576) × (read_lines (lines_of text) ≡ Ok s)
unfolding reading
lines_read text s h = by_test (nat_le (length text) 1048576) refl h
  where
    by_test : (b : Bool) → nat_le (length text) 1048576 ≡ b → cond b (read_lines (lines_of text)) (fault_behind (ended_lines (first_bytes text)) (read_lines (ended_lines (first_bytes text)))) ≡ Ok s → (length text ≤ 1048576) × (read_lines (lines_of text) ≡ Ok s)
    by_test true is got = (grind (arith, nat_tests), got)
    by_test false is got = absurd (fault_is (ended_lines (first_bytes text)) (read_lines (ended_lines (first_bytes text))) s got)

pub fits_from : (text : List ℕ) (s : Script) → reading text ≡ Ok s → Fits s
fits_from text s is = fits_lines (lines_of text) s (lines_read text s is).1

pub gives_fits : (text : List ℕ) (fault : Fault) (r : Result Script ScriptFault) → Gives r (reading text) fault → IfOk r Fits
gives_fits text fault (Ok s) h = fits_from text s h
gives_fits text fault (Err e) h = tt

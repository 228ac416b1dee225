-- What is read is what the grammar spells.
use Rattle.std.proofs.Common.{◌≡◌, ◌≢◌, ℕ, ◌+◌, ◌≤◌, List, [], ◌∷◌, ◌++◌, ◌⊎◌, inl, inr, true, false, not, ◌&&◌, Option, Some, None, Ok, length, refl, sym, ap, subst, ◌∙◌, arith}
use Rattle.std.specs.Prelude.{All, is_some, is_none, ◌==◌, nat_lt}
use Rattle.std.specs.List.{AllZip}
use Rattle.std.specs.List.Sorted.{IsPermutation}
use Rattle.std.specs.Str.{bytes_eq}
use Rattle.std.proofs.lemmas.Bool.{false≢true, eqb-true}
use Rattle.std.proofs.lemmas.List.{append_assoc, append-nil, nil_from_length}
use Rattle.std.proofs.lemmas.List.Elements.{All-nil, All-cons, All-head, All-tail}
use Rattle.std.proofs.lemmas.List.Sorted.{IsPermutation-refl, IsPermutation-sym, IsPermutation-trans, IsPermutation-append_right, IsPermutation-middle, length_permutation}
use Rattle.shard_names.specs.declared.shard_name.ShardName.{ShardName}
use Rattle.shard_names.specs.declared.tablet.Tablet.{Tablet as TabletData}
use Rattle.shard_names.specs.Tablets.{alias_eq, ServersDiffer}
use Rattle.shard_names.proofs.TabletLemmas.{alias_eq-Decides}
use Rattle.durability.specs.declared.policy.Durability.{Durability}
use Rattle.shard_calls.specs.declared.command.Command.TheVariants.{Planned, Emergency, External, Vtorc, Write, Show, GetShard, GetTablets}
use Rattle.shard_script.specs.declared.line.Line.{Line}
use Rattle.shard_script.specs.declared.line.Line.TheVariants.{Shard, Tablet, Clock, Act}
use Rattle.shard_script.specs.declared.script.Action.{Action}
use Rattle.shard_script.specs.declared.script.Action.TheVariants as actions
use Rattle.shard_script.specs.declared.script.Script.{Script}
use Rattle.shard_script.specs.Script.{FitsShard, read_on, read_lines, admits, with_line, has_alias, has_server, in_place, empty_script}
use Rattle.shard_script.specs.Grammar.{IsShardLine, IsTabletLine, IsActionLine, AreDeclarations, Says, AliasesDiffer, IsOfShard, IsShardScript, IsScript, Spell, told_lines}
use Rattle.shard_script.specs.Grammar.IsScript.{is_empty, is_shard_script}
use Rattle.script_commands.proofs.OptionLemmas.{and_both, not_true}
use Rattle.shard_script.proofs.LineLemmas.{says_of}
use Rattle.shard_script.proofs.TabletsInOrder.{or_false, any-in_place, permuted-in_place, All-map}
use Rattle.shard_script.proofs.ScriptLemmas.{none_is, line_with_bytes, fits_lines}
use Rattle.shard_script.proofs.ToldLemmas.{Tells, all_tell, step_of, bytes_on, told_on}

-- one tablet after another in its place
abbrev pub placed : List TabletData → List TabletData → List TabletData
placed ts [] = ts
placed ts (d ∷ ds) = placed (in_place d ts) ds

-- no tablet has this one's alias or server
pub record IsNew (ts : List TabletData) (e : TabletData) : Type 0 where
  pub alias : has_alias ts e.alias ≡ false
  pub server : has_server ts e.server ≡ false

-- ---- from what is read to the grammar

-- the clock that is declared, or else the one before
abbrev pub clock_by : Option ℕ → Option ℕ → Option ℕ
clock_by known None = known
clock_by known (Some m) = Some m

pub clock_alone : (o : Option ℕ) → clock_by None o ≡ o
clock_alone None = refl
clock_alone (Some m) = refl

-- lines that were read behind the shard
record Rest (s t : Script) (ls : List (List ℕ)) : Type 0 where
  declaration_lines : List (List ℕ)
  action_lines : List (List ℕ)
  declared : List TabletData
  clock : Option ℕ
  done : List Action
  split : ls ≡ declaration_lines ++ action_lines
  are_declarations : AreDeclarations declaration_lines declared clock
  say_actions : AllZip IsActionLine action_lines done
  shard : t.shard ≡ s.shard
  policy : t.policy ≡ s.policy
  tablets : t.tablets ≡ placed s.tablets declared
  clock_is : t.clock ≡ clock_by s.clock clock
  once : (m : ℕ) → s.clock ≡ Some m → clock ≡ None
  actions : t.actions ≡ s.actions ++ done
  none_after : (s.actions ≡ [] → ⊥) → (declaration_lines ≡ []) × (declared ≡ []) × (clock ≡ None)
  are_new : All (IsNew s.tablets) declared
  aliases_differ : AliasesDiffer declared
  servers_differ : ServersDiffer declared

shard_kept : (s : Script) (name : ShardName) (line : Line) → s.shard ≡ Some name → admits s line ≡ true → (with_line s line).shard ≡ Some name
shard_kept s name (Shard n p) named ok = absurd (false≢true (ap (λ (o : Option ShardName). is_none o) (sym named) ∙ ok))
shard_kept s name (Tablet t) named ok = named
shard_kept s name (Clock m) named ok = named
shard_kept s name (Act x) named ok = named

new_before : (d : TabletData) (ts : List TabletData) (e : TabletData) → IsNew (in_place d ts) e → IsNew ts e
new_before d ts e h = record {
  alias = (or_false (alias_eq d.alias e.alias) (has_alias ts e.alias) (sym (any-in_place (λ t. alias_eq t.alias e.alias) d ts) ∙ h.alias)).1;
  server = (or_false (bytes_eq d.server e.server) (has_server ts e.server) (sym (any-in_place (λ t. bytes_eq t.server e.server) d ts) ∙ h.server)).1;
}

other_alias : (d : TabletData) (ts : List TabletData) (e : TabletData) → IsNew (in_place d ts) e → d.alias ≢ e.alias
other_alias d ts e h same =
    let test = or_false (alias_eq d.alias e.alias) (has_alias ts e.alias) (sym (any-in_place (λ t. alias_eq t.alias e.alias) d ts) ∙ h.alias) in
    false≢true (sym test.0 ∙ (alias_eq-Decides d.alias e.alias).1 same)

other_server : (d : TabletData) (ts : List TabletData) (e : TabletData) → IsNew (in_place d ts) e → bytes_eq d.server e.server ≡ true → ⊥
other_server d ts e h same =
    let test = or_false (bytes_eq d.server e.server) (has_server ts e.server) (sym (any-in_place (λ t. bytes_eq t.server e.server) d ts) ∙ h.server) in
    false≢true (sym test.0 ∙ same)

push_some : (xs : List Action) (x : Action) → xs ++ x ∷ [] ≡ [] → ⊥
push_some [] x h = cc
push_some (y ∷ ys) x h = cc

tablet_tests : (s : Script) (t : TabletData) → admits s (Tablet t) ≡ true → (s.actions ≡ []) × IsNew s.tablets t
tablet_tests s t ok =
    let p1 = and_both (is_some s.shard && (length s.actions == 0) && nat_lt (length s.tablets) 32 && not (has_alias s.tablets t.alias)) (not (has_server s.tablets t.server)) ok in
    let p2 = and_both (is_some s.shard && (length s.actions == 0) && nat_lt (length s.tablets) 32) (not (has_alias s.tablets t.alias)) p1.0 in
    let p3 = and_both (is_some s.shard && (length s.actions == 0)) (nat_lt (length s.tablets) 32) p2.0 in
    let p4 = and_both (is_some s.shard) (length s.actions == 0) p3.0 in
    (nil_from_length s.actions (eqb-true (length s.actions) 0 p4.1), record { alias = not_true (has_alias s.tablets t.alias) p2.1; server = not_true (has_server s.tablets t.server) p1.1 })

clock_tests : (s : Script) (m : ℕ) → admits s (Clock m) ≡ true → (s.actions ≡ []) × (s.clock ≡ None)
clock_tests s m ok =
    let p = and_both (is_some s.shard && (length s.actions == 0)) (is_none s.clock) ok in
    let q = and_both (is_some s.shard) (length s.actions == 0) p.0 in
    (nil_from_length s.actions (eqb-true (length s.actions) 0 q.1), none_is s.clock p.1)

rest_with : (s t : Script) (name : ShardName) (l : List ℕ) (ls : List (List ℕ)) (line : Line) → s.shard ≡ Some name → Says l line → admits s line ≡ true → Rest (with_line s line) t ls → Rest s t (l ∷ ls)
rest_with s t name l ls (Shard n p) named says ok r = absurd (false≢true (ap (λ (o : Option ShardName). is_none o) (sym named) ∙ ok))
rest_with s t name l ls (Tablet d) named says ok r =
    let tests = tablet_tests s d ok in
    record {
      declaration_lines = l ∷ r.declaration_lines;
      action_lines = r.action_lines;
      declared = d ∷ r.declared;
      clock = r.clock;
      done = r.done;
      split = ap (λ (x : List (List ℕ)). l ∷ x) r.split;
      are_declarations = inl (record { tablet = d; others = r.declared; tablets_are = refl; says = says; behind = r.are_declarations });
      say_actions = r.say_actions;
      shard = r.shard;
      policy = r.policy;
      tablets = r.tablets;
      clock_is = r.clock_is;
      once = r.once;
      actions = r.actions;
      none_after = λ some. absurd (some tests.0);
      are_new = All-cons (IsNew s.tablets) d r.declared tests.1 (All-map (IsNew (in_place d s.tablets)) (IsNew s.tablets) r.declared (λ e h. new_before d s.tablets e h) r.are_new);
      aliases_differ = (All-map (IsNew (in_place d s.tablets)) (λ e. d.alias ≢ e.alias) r.declared (λ e h. other_alias d s.tablets e h) r.are_new, r.aliases_differ);
      servers_differ = (All-map (IsNew (in_place d s.tablets)) (λ e. bytes_eq d.server e.server ≡ true → ⊥) r.declared (λ e h. other_server d s.tablets e h) r.are_new, r.servers_differ);
    }
rest_with s t name l ls (Clock m) named says ok r =
    let tests = clock_tests s m ok in
    let last = r.once m refl in
    record {
      declaration_lines = l ∷ r.declaration_lines;
      action_lines = r.action_lines;
      declared = r.declared;
      clock = Some m;
      done = r.done;
      split = ap (λ (x : List (List ℕ)). l ∷ x) r.split;
      are_declarations = inr (record { moment = m; clock_is = refl; says = says; behind = subst (λ (o : Option ℕ). AreDeclarations r.declaration_lines r.declared o) last r.are_declarations });
      say_actions = r.say_actions;
      shard = r.shard;
      policy = r.policy;
      tablets = r.tablets;
      clock_is = r.clock_is ∙ ap (λ (o : Option ℕ). clock_by (Some m) o) last;
      once = λ k is. absurd (let e : None ≡ Some k = sym tests.1 ∙ is in cc);
      actions = r.actions;
      none_after = λ some. absurd (some tests.0);
      are_new = r.are_new;
      aliases_differ = r.aliases_differ;
      servers_differ = r.servers_differ;
    }
rest_with s t name l ls (Act x) named says ok r =
    let nothing = r.none_after (push_some s.actions x) in
    record {
      declaration_lines = [];
      action_lines = l ∷ r.action_lines;
      declared = [];
      clock = None;
      done = x ∷ r.done;
      split = ap (λ (y : List (List ℕ)). l ∷ y) (r.split ∙ ap (λ (y : List (List ℕ)). y ++ r.action_lines) nothing.0);
      are_declarations = (refl, refl);
      say_actions = (says, r.say_actions);
      shard = r.shard;
      policy = r.policy;
      tablets = r.tablets ∙ ap (λ (y : List TabletData). placed s.tablets y) nothing.1;
      clock_is = r.clock_is ∙ ap (λ (o : Option ℕ). clock_by s.clock o) nothing.2;
      once = λ m is. refl;
      actions = r.actions ∙ append_assoc s.actions (x ∷ []) r.done;
      none_after = λ some. (refl, refl, refl);
      are_new = All-nil (IsNew s.tablets);
      aliases_differ = tt;
      servers_differ = tt;
    }

rest_of : (place : ℕ) (s t : Script) (name : ShardName) (ls : List (List ℕ)) → All Tells ls → s.shard ≡ Some name → read_on place s ls ≡ Ok t → Rest s t ls
rest_of place s t name [] tell named got =
    let same : s ≡ t = (let e : Ok s ≡ Ok t = got in cc) in
    subst (λ (x : Script). Rest s x []) same (record {
      declaration_lines = [];
      action_lines = [];
      declared = [];
      clock = None;
      done = [];
      split = refl;
      are_declarations = (refl, refl);
      say_actions = tt;
      shard = refl;
      policy = refl;
      tablets = refl;
      clock_is = refl;
      once = λ m is. refl;
      actions = sym (append-nil s.actions);
      none_after = λ some. (refl, refl, refl);
      are_new = All-nil (IsNew s.tablets);
      aliases_differ = tt;
      servers_differ = tt;
    })
rest_of place s t name (l ∷ ls) tell named got =
    let step = step_of place s t l ls got in
    let e = line_with_bytes s step.next l (All-head Tells l ls tell) step.added in
    let after : step.next.shard ≡ Some name = subst (λ (x : Script). x.shard ≡ Some name) e.3 (shard_kept s name e.0 named e.2) in
    let r : Rest step.next t ls = rest_of (place + 1) step.next t name ls (All-tail Tells l ls tell) after step.rest in
    rest_with s t name l ls e.0 named (says_of l e.0 e.1) e.2 (subst (λ (x : Script). Rest x t ls) (sym e.3) r)

permuted : (ts ds : List TabletData) → IsPermutation (ds ++ ts) (placed ts ds)
permuted ts [] = IsPermutation-refl ts
permuted ts (d ∷ ds) =
    IsPermutation-trans (d ∷ (ds ++ ts)) (ds ++ in_place d ts) (placed (in_place d ts) ds)
    (IsPermutation-trans (d ∷ (ds ++ ts)) (ds ++ d ∷ ts) (ds ++ in_place d ts)
    (IsPermutation-sym (ds ++ d ∷ ts) (d ∷ (ds ++ ts)) (IsPermutation-middle ds d ts))
    (IsPermutation-append_right ds (d ∷ ts) (in_place d ts) (permuted-in_place d ts)))
    (permuted (in_place d ts) ds)

pub permuted_all : (ds : List TabletData) → IsPermutation ds (placed [] ds)
permuted_all ds = subst (λ (xs : List TabletData). IsPermutation xs (placed [] ds)) (append-nil ds) (permuted [] ds)

of_this : (o : Option ShardName) (name : ShardName) → o ≡ Some name → (x : Action) → FitsShard o x → IsOfShard name x
of_this o name is (actions.Play (Planned n given avoid expected timeout allow_cross_cell) k) h = let e : Some n ≡ Some name = sym h.0 ∙ is in cc
of_this o name is (actions.Play (Emergency n given ignored expected timeout prevent_cross_cell) k) h = let e : Some n ≡ Some name = sym h.0 ∙ is in cc
of_this o name is (actions.Play (External a) k) h = tt
of_this o name is (actions.Play Vtorc k) h = tt
of_this o name is (actions.Play (Write to) k) h = tt
of_this o name is (actions.Play (Show a) k) h = tt
of_this o name is (actions.Play (GetShard n) k) h = let e : Some n ≡ Some name = sym h.0 ∙ is in cc
of_this o name is (actions.Play (GetTablets n) k) h = let e : Some n ≡ Some name = sym h.0 ∙ is in cc
of_this o name is (actions.Start starter (Planned n given avoid expected timeout allow_cross_cell)) h = let e : Some n ≡ Some name = sym h ∙ is in cc
of_this o name is (actions.Start starter (Emergency n given ignored expected timeout prevent_cross_cell)) h = let e : Some n ≡ Some name = sym h ∙ is in cc
of_this o name is (actions.Start starter (External a)) h = tt
of_this o name is (actions.Start starter Vtorc) h = tt
of_this o name is (actions.Start starter (Write to)) h = tt
of_this o name is (actions.Start starter (Show a)) h = tt
of_this o name is (actions.Start starter (GetShard n)) h = let e : Some n ≡ Some name = sym h ∙ is in cc
of_this o name is (actions.Start starter (GetTablets n)) h = let e : Some n ≡ Some name = sym h ∙ is in cc
of_this o name is (actions.Turn starter pumps) h = tt
of_this o name is (actions.Finish starter) h = tt
of_this o name is actions.Settle h = tt
of_this o name is (actions.Local a) h = tt
of_this o name is (actions.Crash a keep) h = tt
of_this o name is (actions.Restart a) h = tt
of_this o name is (actions.Cut x y) h = tt
of_this o name is (actions.Mend x y) h = tt
of_this o name is (actions.Lose message) h = tt
of_this o name is (actions.Repeat message) h = tt
of_this o name is actions.Lapse h = tt
of_this o name is (actions.Tick ms) h = tt

first_line : (line : Line) → admits empty_script line ≡ true → (name : ShardName) × (policy : Durability) × (line ≡ Shard name policy)
first_line (Shard name policy) ok = (name, policy, refl)
first_line (Tablet t) ok = absurd (false≢true ok)
first_line (Clock m) ok = absurd (false≢true ok)
first_line (Act x) ok = absurd (false≢true ok)

shard_script : (l : List ℕ) (ls : List (List ℕ)) (t : Script) → All Tells (l ∷ ls) → read_lines (l ∷ ls) ≡ Ok t → IsShardScript (l ∷ ls) t
shard_script l ls t tell got =
    let fits = fits_lines (l ∷ ls) t got in
    let step = step_of 1 empty_script t l ls got in
    let e = line_with_bytes empty_script step.next l (All-head Tells l ls tell) step.added in
    let first = first_line e.0 e.2 in
    let says : IsShardLine l first.0 first.1 = subst (λ (x : Line). Says l x) first.2 (says_of l e.0 e.1) in
    let next : with_line empty_script (Shard first.0 first.1) ≡ step.next = subst (λ (x : Line). with_line empty_script x ≡ step.next) first.2 e.3 in
    let got_rest : read_on 2 (with_line empty_script (Shard first.0 first.1)) ls ≡ Ok t = subst (λ (x : Script). read_on 2 x ls ≡ Ok t) (sym next) step.rest in
    let r = rest_of 2 (with_line empty_script (Shard first.0 first.1)) t first.0 ls (All-tail Tells l ls tell) refl got_rest in
    let tablets : IsPermutation r.declared t.tablets = subst (λ (xs : List TabletData). IsPermutation r.declared xs) (sym r.tablets) (permuted_all r.declared) in
    record {
      first = l;
      declaration_lines = r.declaration_lines;
      action_lines = r.action_lines;
      split = ap (λ (x : List (List ℕ)). l ∷ x) r.split;
      name = first.0;
      declared = r.declared;
      says_shard = subst (λ (p : Durability). IsShardLine l first.0 p) (sym r.policy) says;
      are_declarations = subst (λ (o : Option ℕ). AreDeclarations r.declaration_lines r.declared o) (sym (r.clock_is ∙ clock_alone r.clock)) r.are_declarations;
      say_actions = subst (λ (xs : List Action). AllZip IsActionLine r.action_lines xs) (sym r.actions) r.say_actions;
      shard = r.shard;
      tablets = tablets;
      in_order = fits.tablets.in_order;
      few_tablets = omega (arith, fits.few_tablets, length_permutation r.declared t.tablets tablets);
      aliases_differ = r.aliases_differ;
      servers_differ = r.servers_differ;
      of_shard = All-map (FitsShard t.shard) (IsOfShard first.0) t.actions (of_this t.shard first.0 r.shard) fits.actions;
      are_declared = fits.declared;
      names = fits.starts;
      few_names = fits.few_names;
      names_differ = fits.names_differ;
      known = fits.known;
    }

few_on : (place : ℕ) (s t : Script) (ls : List (List ℕ)) → place ≤ 20001 → read_on place s ls ≡ Ok t → place + length ls ≤ 20001
few_on place s t [] le got = omega arith
few_on place s t (l ∷ ls) le got =
    let step = step_of place s t l ls got in
    omega (arith, few_on (place + 1) step.next t ls (omega (arith, step.room)) step.rest)

script_of : (ls : List (List ℕ)) (t : Script) → All Tells ls → read_lines ls ≡ Ok t → IsScript ls t
script_of [] t tell got = is_empty refl (let e : Ok empty_script ≡ Ok t = got in cc)
script_of (l ∷ ls) t tell got = is_shard_script (shard_script l ls t tell got)

pub spell_of : (ls : List (List ℕ)) (t : Script) → read_lines ls ≡ Ok t → Spell ls t
spell_of ls t got = record {
  few_lines = omega (arith, few_on 1 empty_script t ls (omega arith) got);
  script_bytes = bytes_on 1 empty_script t ls got;
  script = script_of (told_lines ls) t (all_tell ls) (told_on 1 1 empty_script t ls (omega arith) got);
}

-- A generated script fits.
use Rattle.std.proofs.Common.{◌≡◌, ℕ, suc, zero, ◌+◌, ◌*◌, ◌/◌, ◌%◌, ◌≤◌, List, [], ◌∷◌, ◌++◌, Bool, true, false, cond, Some, None, length, length-append, refl, sym, ap, subst, ◌∙◌, arith}
use Rattle.std.specs.Prelude.{All, codes, nat_lt, ◌==◌}
use Rattle.std.proofs.lemmas.List.{append_assoc, append-nil}
use Rattle.std.proofs.lemmas.List.Elements.{All-nil, All-cons}
use Rattle.shard_names.specs.declared.alias.Alias.{Alias}
use Rattle.shard_names.specs.declared.tablet.Tablet.{Tablet as TabletData}
use Rattle.shard_names.specs.Tablets.{AreTablets}
use Rattle.shard_calls.specs.declared.command.Command.TheVariants.{Vtorc, Write}
use Rattle.shard_script.specs.declared.script.Action.{Action}
use Rattle.shard_script.specs.declared.script.Action.TheVariants as actions
use Rattle.shard_script.specs.Names.{started_by, started, NamesDiffer, IsKnown, AreKnown}
use Rattle.script_commands.specs.Words.{IsName}
use Rattle.shard_script.specs.Aliases.{NamesDeclared}
use Rattle.shard_script.specs.Script.{Fits, FitsShard, IsInTime, all_declared, has_alias, has_server, in_place}
use Rattle.shard_script.specs.Generator.{generated_name, alias_in, replica_in, generated_tablets, drawn_alias, drawn_kind, drawn_tablet, next_seed, once, promotes, rescues, quiet_lines, crash_lines, round_lines, round_of, rounds, first_line, generated}
use Rattle.shard_script.proofs.DeclaredLemmas.{names_declared}
use Rattle.shard_script.proofs.TabletsInOrder.{rises-in_place, apart-in_place}

-- ---- the tablets

one_more : (t : TabletData) (ts us : List TabletData) → in_place t ts ≡ us → has_alias ts t.alias ≡ false → has_server ts t.server ≡ false → AreTablets ts → AreTablets us
one_more t ts us is alias server h =
    subst (λ (vs : List TabletData). AreTablets vs) is (record {
      in_order = rises-in_place t ts h.in_order alias;
      apart = apart-in_place t ts h.apart server;
    })

abbrev near : ℕ → TabletData
near uid = replica_in (codes "zone1") uid

abbrev far : ℕ → TabletData
far uid = replica_in (codes "zone2") uid

are_tablets : AreTablets generated_tablets
are_tablets =
    one_more (near 100) (near 101 ∷ near 102 ∷ far 200 ∷ far 201 ∷ []) generated_tablets refl refl refl
    (one_more (near 101) (near 102 ∷ far 200 ∷ far 201 ∷ []) (near 101 ∷ near 102 ∷ far 200 ∷ far 201 ∷ []) refl refl refl
    (one_more (near 102) (far 200 ∷ far 201 ∷ []) (near 102 ∷ far 200 ∷ far 201 ∷ []) refl refl refl
    (one_more (far 200) (far 201 ∷ []) (far 200 ∷ far 201 ∷ []) refl refl refl (one_more (far 201) [] (far 201 ∷ []) refl refl refl (record { in_order = tt; apart = tt })))))

-- whichever is drawn, it is declared
drawn_declared : (place : ℕ) → NamesDeclared generated_tablets (actions.Restart (drawn_alias place))
drawn_declared place = names_declared generated_tablets (actions.Restart (drawn_alias place)) (by_tests (place == 0) (place == 1) (place == 2) (place == 3))
  where
    by_tests : (p q r s : Bool) → all_declared generated_tablets (actions.Restart (cond p (alias_in (codes "zone1") 100) (cond q (alias_in (codes "zone1") 101) (cond r (alias_in (codes "zone1") 102) (cond s (alias_in (codes "zone2") 200) (alias_in (codes "zone2") 201)))))) ≡ true
    by_tests true q r s = refl
    by_tests false true r s = refl
    by_tests false false true s = refl
    by_tests false false false true = refl
    by_tests false false false false = refl

-- ---- the lines

-- what is said of the lines of a script that starts no name
record AreSound (xs : List Action) : Type 0 where
  fit : All (FitsShard (Some generated_name)) xs
  in_time : All IsInTime xs
  declared : All (NamesDeclared generated_tablets) xs
  starts : started xs ≡ []
  known : AreKnown [] xs

no_lines : AreSound []
no_lines = record {
  fit = All-nil (FitsShard (Some generated_name));
  in_time = All-nil IsInTime;
  declared = All-nil (NamesDeclared generated_tablets);
  starts = refl;
  known = tt;
}

-- one line before others
onto : (x : Action) (xs : List Action) → FitsShard (Some generated_name) x → IsInTime x → NamesDeclared generated_tablets x → started_by x ≡ [] → IsKnown [] x → AreSound xs → AreSound (x ∷ xs)
onto x xs fits in_time declared starts known h = record {
  fit = All-cons (FitsShard (Some generated_name)) x xs fits h.fit;
  in_time = All-cons IsInTime x xs in_time h.in_time;
  declared = All-cons (NamesDeclared generated_tablets) x xs declared h.declared;
  starts = ap (λ (ns : List (List ℕ)). ns ++ started xs) starts ∙ h.starts;
  known = (known, subst (λ (ns : List (List ℕ)). AreKnown ns xs) (sym starts) h.known);
}

watch_onto : (xs : List Action) → AreSound xs → AreSound (once Vtorc ∷ xs)
watch_onto xs h = onto (once Vtorc) xs refl refl (names_declared generated_tablets (once Vtorc) refl) refl tt h

writes_onto : (xs : List Action) → AreSound xs → AreSound (actions.Play (Write None) 5 ∷ xs)
writes_onto xs h = onto (actions.Play (Write None) 5) xs (omega arith, omega arith) refl (names_declared generated_tablets (actions.Play (Write None) 5) refl) refl tt h

promotes_onto : (a : Alias) (xs : List Action) → AreSound xs → AreSound (once (promotes a) ∷ xs)
promotes_onto a xs h = onto (once (promotes a)) xs (refl, refl) refl (names_declared generated_tablets (once (promotes a)) refl) refl tt h

crash_onto : (a : Alias) (xs : List Action) → NamesDeclared generated_tablets (actions.Restart a) → AreSound xs → AreSound (crash_lines a ++ xs)
crash_onto a xs named h =
    onto (actions.Crash a 0) (once rescues ∷ actions.Restart a ∷ once Vtorc ∷ xs) tt tt named refl tt
    (onto (once rescues) (actions.Restart a ∷ once Vtorc ∷ xs) (refl, refl) refl (names_declared generated_tablets (once rescues) refl) refl tt
    (onto (actions.Restart a) (once Vtorc ∷ xs) tt tt named refl tt (watch_onto xs h)))

quiet_onto : (xs : List Action) → AreSound xs → AreSound (quiet_lines ++ xs)
quiet_onto xs h =
    onto (actions.Tick 1000) (actions.Settle ∷ xs) (omega arith) tt (names_declared generated_tablets (actions.Tick 1000) refl) refl tt
    (onto actions.Settle xs tt tt (names_declared generated_tablets actions.Settle refl) refl tt h)

round_onto : (kind : ℕ) (a : Alias) (xs : List Action) → NamesDeclared generated_tablets (actions.Restart a) → AreSound xs → AreSound (round_lines kind a ++ xs)
unfolding round_lines
round_onto kind a xs named h = by_tests (nat_lt kind 4) (kind == 4) (kind == 5) (kind == 6)
  where
    by_tests : (p q r s : Bool) → AreSound (cond p (actions.Play (Write None) 5 ∷ []) (cond q (once (promotes a) ∷ []) (cond r (crash_lines a) (cond s (once Vtorc ∷ []) quiet_lines))) ++ xs)
    by_tests true q r s = writes_onto xs h
    by_tests false true r s = promotes_onto a xs h
    by_tests false false true s = crash_onto a xs named h
    by_tests false false false true = watch_onto xs h
    by_tests false false false false = quiet_onto xs h

rounds_sound : (n x : ℕ) → AreSound (rounds n x)
rounds_sound zero x = no_lines
rounds_sound (suc n) x = round_onto (drawn_kind (next_seed x)) (drawn_tablet (next_seed x)) (rounds n (next_seed x)) (drawn_declared (next_seed x / 1048576 % 5)) (rounds_sound n (next_seed x))

all_sound : (n : ℕ) → AreSound (first_line ∷ rounds n 1)
all_sound n = onto first_line (rounds n 1) (refl, refl) refl (names_declared generated_tablets first_line refl) refl tt (rounds_sound n 1)

-- ---- their number

few_lines : (kind : ℕ) (a : Alias) → length (round_lines kind a) ≤ 4
unfolding round_lines
few_lines kind a = by_tests (nat_lt kind 4) (kind == 4) (kind == 5) (kind == 6)
  where
    by_tests : (p q r s : Bool) → length (cond p (actions.Play (Write None) 5 ∷ []) (cond q (once (promotes a) ∷ []) (cond r (crash_lines a) (cond s (once Vtorc ∷ []) quiet_lines)))) ≤ 4
    by_tests true q r s = omega arith
    by_tests false true r s = omega arith
    by_tests false false true s = omega arith
    by_tests false false false true = omega arith
    by_tests false false false false = omega arith

few_rounds : (n x : ℕ) → length (rounds n x) ≤ 4 * n
few_rounds zero x = omega arith
few_rounds (suc n) x =
    let here : length (round_of (next_seed x)) ≤ 4 = few_lines (drawn_kind (next_seed x)) (drawn_tablet (next_seed x)) in
    let rest : length (rounds n (next_seed x)) ≤ 4 * n = few_rounds n (next_seed x) in
    omega (arith, length-append (round_of (next_seed x)) (rounds n (next_seed x)))

-- ---- the script

pub generated_fits : (n : ℕ) → n ≤ 1000 → Fits (generated n)
generated_fits n few = let h = all_sound n in record {
  tablets = are_tablets;
  few_tablets = omega arith;
  named = λ e. absurd (cc);
  unnamed = λ e. absurd (cc);
  clock = λ m e. absurd (cc);
  actions = h.fit;
  in_time = h.in_time;
  few_actions = (let most : length (rounds n 1) ≤ 4 * n = few_rounds n 1 in omega arith);
  declared = h.declared;
  starts = sym h.starts;
  are_names = All-nil IsName;
  few_names = omega arith;
  names_differ = tt;
  known = h.known;
}

-- ---- the loop

-- the actions with the rounds that are left are all of them
abbrev pub Goes : ℕ → ℕ → ℕ → List Action → Type 0
Goes n done seed xs = (k : ℕ) → k + done ≡ n → xs ++ rounds k seed ≡ first_line ∷ rounds n 1

pub goes_on : (n done seed next : ℕ) (xs ys : List Action) → Goes n done seed xs → next ≡ next_seed seed → ys ≡ xs ++ round_of next → Goes n (done + 1) next ys
goes_on n done seed next xs ys h is more k all =
    let left : suc k + done ≡ n = omega (arith, all) in
    ap (λ (zs : List Action). zs ++ rounds k next) more
    ∙ append_assoc xs (round_of next) (rounds k next)
    ∙ ap (λ (m : ℕ). xs ++ (round_of m ++ rounds k m)) is
    ∙ h (suc k) left

pub goes_all : (n done seed : ℕ) (xs : List Action) → done ≡ n → Goes n done seed xs → xs ≡ first_line ∷ rounds n 1
goes_all n done seed xs is h = sym (append-nil xs) ∙ h 0 (omega (arith, is))

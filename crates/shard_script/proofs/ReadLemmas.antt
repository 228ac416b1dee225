-- One line after another, and the fault of the first that may not stand there.
use Rattle.std.proofs.Common.{◌≡◌, ℕ, zero, suc, ◌+◌, ◌<◌, Bor, map, drop, get_or, arith, List, [], ◌∷◌, Bool, true, false, cond, ltb, Option, Some, None, Result, Ok, Err, length, refl, sym, ap, ◌∙◌}
use Rattle.script_faults.specs.declared.fault.Fault.{Fault}
use Rattle.script_faults.specs.declared.fault.Fault.TheVariants.{Limit}
use Rattle.shard_script.specs.declared.script.Script.{Script}
use Rattle.shard_script.specs.declared.script.ScriptFault.{ScriptFault}
use Rattle.shard_script.specs.declared.script.ScriptFault.TheVariants as faults
use Rattle.shard_script.specs.Script.{read_on, read_lines, empty_script, with_bytes, fault_behind}
use Rattle.shard_script.specs.Faults.{fault_of, fault_on, fault_in, line_reading, line_fault, Gives}

-- what comes of the lines behind one that was read
abbrev pub GoesOn : ℕ → Script → List ℕ → List (List ℕ) → Script → Type 0
GoesOn place s l ls t = (read_on place s (l ∷ ls) ≡ read_on (place + 1) t ls) × (fault_on place s (l ∷ ls) ≡ fault_on (place + 1) t ls)

goes_by : (place : ℕ) (s t : Script) (l : List ℕ) (ls : List (List ℕ)) (b : Bool) (o : Option Script) → cond b (Err place) (elim o [ None ↦ Err place | Some u ↦ Ok u ]) ≡ Ok t
    → (cond b (Err place) (elim o [ None ↦ Err place | Some u ↦ read_on (place + 1) u ls ]) ≡ read_on (place + 1) t ls)
    × (cond b Limit (elim o [ None ↦ fault_of s l | Some u ↦ fault_on (place + 1) u ls ]) ≡ fault_on (place + 1) t ls)
goes_by place s t l ls true o h = absurd (cc)
goes_by place s t l ls false None h = absurd (cc)
goes_by place s t l ls false (Some u) h =
    let e : u ≡ t = (let f : Ok u ≡ Ok t = h in cc) in
    (ap (λ (x : Script). read_on (place + 1) x ls) e, ap (λ (x : Script). fault_on (place + 1) x ls) e)

pub goes_on : (place : ℕ) (s t : Script) (l : List ℕ) (ls : List (List ℕ)) → line_reading place s l ≡ Ok t → GoesOn place s l ls t
goes_on place s t l ls h = goes_by place s t l ls (ltb 20000 place) (with_bytes s l) h

next_lines : (lines : List (Bor (List ℕ))) (i : ℕ) (d : Bor (List ℕ)) → i < length lines → map (λ (b : Bor (List ℕ)). b.now) (drop i lines) ≡ (get_or lines i d).now ∷ map (λ (b : Bor (List ℕ)). b.now) (drop (suc i) lines)
next_lines [] i d h = absurd (omega arith)
next_lines (x ∷ xs) zero d h = refl
next_lines (x ∷ xs) (suc i) d h = next_lines xs i d (omega arith)

-- the line at a place is read, and those behind it are left
pub goes_at : (lines : List (Bor (List ℕ))) (i : ℕ) (d : Bor (List ℕ)) (s t : Script) → i < length lines → line_reading (i + 1) s (get_or lines i d).now ≡ Ok t
    → (read_on (i + 1) s (map (λ (b : Bor (List ℕ)). b.now) (drop i lines)) ≡ read_on ((i + 1) + 1) t (map (λ (b : Bor (List ℕ)). b.now) (drop (i + 1) lines)))
    × (fault_on (i + 1) s (map (λ (b : Bor (List ℕ)). b.now) (drop i lines)) ≡ fault_on ((i + 1) + 1) t (map (λ (b : Bor (List ℕ)). b.now) (drop (i + 1) lines)))
goes_at lines i d s t less h =
    let rest : List (List ℕ) = map (λ (b : Bor (List ℕ)). b.now) (drop (suc i) lines) in
    let is = next_lines lines i d less in
    let more = goes_on (i + 1) s t (get_or lines i d).now rest h in
    let at : suc i ≡ i + 1 = omega arith in (
      ap (λ (ls : List (List ℕ)). read_on (i + 1) s ls) is ∙ more.0 ∙ ap (λ (n : ℕ). read_on ((i + 1) + 1) t (map (λ (b : Bor (List ℕ)). b.now) (drop n lines))) at,
      ap (λ (ls : List (List ℕ)). fault_on (i + 1) s ls) is ∙ more.1 ∙ ap (λ (n : ℕ). fault_on ((i + 1) + 1) t (map (λ (b : Bor (List ℕ)). b.now) (drop n lines))) at,
    )

stops_by : (e : ScriptFault) (place : ℕ) (s : Script) (l : List ℕ) (ls : List (List ℕ)) (b : Bool) (o : Option Script)
    → Gives (Err e) (cond b (Err place) (elim o [ None ↦ Err place | Some u ↦ Ok u ])) (cond b Limit (fault_of s l))
    → Gives (Err e) (cond b (Err place) (elim o [ None ↦ Err place | Some u ↦ read_on (place + 1) u ls ])) (cond b Limit (elim o [ None ↦ fault_of s l | Some u ↦ fault_on (place + 1) u ls ]))
stops_by (faults.Line p f) place s l ls true o h = h
stops_by (faults.Line p f) place s l ls false None h = h
stops_by (faults.Line p f) place s l ls false (Some u) h = absurd (let e : Ok u ≡ Err p = h.0 in cc)
stops_by faults.OutOfMemory place s l ls b o h = tt

-- what stops at a line stops the lines
pub stops : (e : ScriptFault) (place : ℕ) (s : Script) (l : List ℕ) (ls : List (List ℕ)) → Gives (Err e) (line_reading place s l) (line_fault place s l) → Gives (Err e) (read_on place s (l ∷ ls)) (fault_on place s (l ∷ ls))
stops e place s l ls h = stops_by e place s l ls (ltb 20000 place) (with_bytes s l) h

all_by : (place : ℕ) (s t : Script) (l : List ℕ) (ls : List (List ℕ)) (b : Bool) (o : Option Script) → cond b (Err place) (elim o [ None ↦ Err place | Some u ↦ read_on (place + 1) u ls ]) ≡ Ok t
    → ((u : Script) → read_on (place + 1) u ls ≡ Ok t → fault_on (place + 1) u ls ≡ Limit)
    → cond b Limit (elim o [ None ↦ fault_of s l | Some u ↦ fault_on (place + 1) u ls ]) ≡ Limit
all_by place s t l ls true o h rest = refl
all_by place s t l ls false None h rest = absurd (cc)
all_by place s t l ls false (Some u) h rest = rest u h

-- behind lines that are all read the text is too long
pub all_read : (place : ℕ) (s t : Script) (ls : List (List ℕ)) → read_on place s ls ≡ Ok t → fault_on place s ls ≡ Limit
all_read place s t [] h = refl
all_read place s t (l ∷ ls) h = all_by place s t l ls (ltb 20000 place) (with_bytes s l) h (λ u more. all_read (place + 1) u t ls more)

-- the fault is on the line behind them
pub cut_fault : (lines : List (List ℕ)) (s : Script) (n : ℕ) → read_lines lines ≡ Ok s → n ≡ length lines → (fault_behind lines (read_lines lines) ≡ Err (n + 1)) × (Limit ≡ fault_in lines)
cut_fault lines s n h count = (
  ap (λ (r : Result Script ℕ). fault_behind lines r) h ∙ ap (λ (k : ℕ). let r : Result Script ℕ = Err (k + 1) in r) (sym count),
  sym (all_read 1 empty_script s lines h),
)

-- a fault of the lines comes before one behind them
pub behind : (e : ScriptFault) (lines : List (List ℕ)) (r : Result Script ℕ) (f : Fault) → Gives (Err e) r f → Gives (Err e) (fault_behind lines r) f
behind (faults.Line p g) lines (Ok s) f h = absurd (let e : Ok s ≡ Err p = h.0 in cc)
behind (faults.Line p g) lines (Err q) f h = h
behind faults.OutOfMemory lines r f h = tt

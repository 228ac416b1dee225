-- The numbers of a log that are few.
use Rattle.std.proofs.Common.{◌≡◌, ℕ, suc, ◌≤◌, List, [], ◌∷◌, Bool, true, false, Some, cond, refl, arith}
use Rattle.std.specs.List.{slice_get}
use Rattle.std.specs.Str.{bytes_eq}
use Rattle.shard_names.specs.declared.alias.Alias.{Alias}
use Rattle.gtid_sets.specs.declared.entry.Entry.{Entry}
use Rattle.gtid_sets.specs.Logs.{own_number, greatest_number}
use Rattle.shard_calls.specs.World.{World}
use Rattle.changes.specs.Few.{AreFew}

own_few : (n m : ℕ) (own : Bool) → m ≤ n → cond own m 0 ≤ n
own_few n m true le = le
own_few n m false le = omega arith

pub greatest_few : (n : ℕ) (server : List ℕ) (log : List Entry) → ((k : ℕ) (e : Entry) → slice_get log k ≡ Some e → e.gtid.number ≤ n) → greatest_number server log ≤ n
greatest_few n server [] few = omega arith
greatest_few n server (e ∷ log) few =
    let first : own_number server e ≤ n = own_few n e.gtid.number (bytes_eq e.gtid.server server) (few 0 e refl) in
    let rest : greatest_number server log ≤ n = greatest_few n server log (λ k x at. few (suc k) x at) in
    omega (arith, first, rest)

pub few_numbers : (n : ℕ) (w : World) (a : Alias) → AreFew n w → (server : List ℕ) → greatest_number server (w.tablets a).log ≤ n
few_numbers n w a few server = greatest_few n server (w.tablets a).log (few.logs a).numbers

-- What a source gives and a sink takes, and when they may fail: the calls of `std::io::Read` and `std::io::Write`, with counts of faults.
use Rattle.std.specs.Prelude.{◌≡◌, ◌<◌, ◌≤◌, ℕ, ◌+◌, ◌-◌, ◌^◌, min, List, ◌++◌, take, length, Contains, Option, Some, None, Result, Ok, Err, ⊤}
use Rattle.std.specs.Io.KnownBytes.{Appends, Consumes, IsAtEnd}
use Rattle.shard_base.specs.Faults.{Rose}
use Rattle.shard_script.specs.Script.{front}
use Rattle.shard_top.specs.declared.telling.PutFault.{PutFault}
use Rattle.shard_top.specs.declared.telling.PutFault.TheVariants as faults

-- the bytes that were left, or the first 1,048,577 of them
abbrev pub WasRead : Option (List ℕ) → List ℕ → Type 0
WasRead None text = ⊤
WasRead (Some bytes) text = text ≡ front bytes

-- n bytes were read behind the text: none only at the end
pub record Reads (old new : Option (List ℕ)) (before after : List ℕ) (n : ℕ) : Type 0 where
  pub count : length after ≡ length before + n
  pub within : length after ≤ 1048577
  pub bytes : (bs : List ℕ) × (after ≡ before ++ bs) × Consumes old new bs
  pub end : n ≡ 0 → IsAtEnd new

-- a front of what was left is gone
abbrev pub ConsumesFront : Option (List ℕ) → Option (List ℕ) → Type 0
ConsumesFront old new = (bs : List ℕ) × Consumes old new bs

-- a front of the bytes was put
abbrev pub AppendsFront : Option (List ℕ) → Option (List ℕ) → List ℕ → Type 0
AppendsFront old new bytes = (n : ℕ) × (n ≤ length bytes) × Appends old new (take n bytes)

-- what a source in memory has left, the most that a call gives, the calls that fail, and how many calls and faults there were
pub record SourceState : Type 0 where
  pub left : List ℕ
  pub piece : ℕ
  pub fails : List ℕ
  pub calls : ℕ
  pub faults : ℕ

-- what a sink in memory has taken, the most that it takes in all and in a call, the calls that fail, and how many calls and faults there were
pub record SinkState : Type 0 where
  pub taken : List ℕ
  pub room : ℕ
  pub piece : ℕ
  pub fails : List ℕ
  pub calls : ℕ
  pub faults : ℕ

-- The list names the call after this many. Calls are counted up to the last number of 64 bits, and from then on none is named.
pub record IsNamed (fails : List ℕ) (calls : ℕ) : Type 0 where
  pub counted : calls < 2 ^ 64 - 1
  pub named : Contains fails (calls + 1)

-- one more, up to the last number of 64 bits
abbrev pub next_count : ℕ → ℕ
next_count n = min (n + 1) (2 ^ 64 - 1)

-- there is a byte to take, and no room for it
pub record IsFull (sink : SinkState) (bytes : ℕ) : Type 0 where
  pub asked : 0 < bytes
  pub full : sink.room ≤ length sink.taken

-- How bytes were put: all of them, or a front where the sink failed or memory ran out. The count of faults rises only where the sink failed.
abbrev pub IsPut : {T : Type 0} → Result T PutFault → Option (List ℕ) → Option (List ℕ) → ℕ → ℕ → List ℕ → Type 0
IsPut (Ok x) old new before now bytes = Appends old new bytes × (now ≡ before)
IsPut (Err faults.Sink) old new before now bytes = AppendsFront old new bytes × ((before ≤ now) × Rose before now)
IsPut (Err faults.OutOfMemory) old new before now bytes = AppendsFront old new bytes × (now ≡ before)

-- the status of a run that is told so: 5 where the sink failed, 6 for want of memory
abbrev pub put_status : {T : Type 0} → Result T PutFault → ℕ → ℕ
put_status (Ok x) status = status
put_status (Err faults.Sink) status = 5
put_status (Err faults.OutOfMemory) status = 6

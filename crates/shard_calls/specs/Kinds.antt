-- The kinds of calls that commands make of tablets (Vitess's tablet manager).
use Rattle.std.specs.Prelude.{Bool, true, false}
use Rattle.shard_calls.specs.declared.call.Call.{Call}
use Rattle.shard_calls.specs.declared.call.Call.TheVariants as calls
use Rattle.shard_calls.specs.declared.span.Kind.{Kind}
use Rattle.shard_calls.specs.declared.span.Kind.TheVariants as kinds

abbrev pub kind_of : Call → Kind
kind_of calls.Status = kinds.Status
kind_of calls.Stop = kinds.Stop
kind_of calls.Demote = kinds.Demote
kind_of (calls.Promote p) = kinds.Promote
kind_of (calls.SetSource s t p) = kinds.SetSource
kind_of calls.Feed = kinds.Feed
kind_of (calls.WaitFor p d) = kinds.WaitFor
kind_of (calls.WaitTold d) = kinds.WaitTold

-- whether two calls are of one kind
abbrev pub kind_eq : Kind → Kind → Bool
kind_eq kinds.Status kinds.Status = true
kind_eq kinds.Stop kinds.Stop = true
kind_eq kinds.Demote kinds.Demote = true
kind_eq kinds.Promote kinds.Promote = true
kind_eq kinds.SetSource kinds.SetSource = true
kind_eq kinds.Feed kinds.Feed = true
kind_eq kinds.WaitFor kinds.WaitFor = true
kind_eq kinds.WaitTold kinds.WaitTold = true
kind_eq x y = false

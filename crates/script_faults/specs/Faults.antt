-- The faults of a script's line. Their order and their numbers are vtshard's own.
use Rattle.std.specs.Prelude.{ℕ, Bool, true, false, nat_le, Option, Some, None, if◌then◌else◌}
use Rattle.script_faults.specs.declared.fault.Fault.{Fault}
use Rattle.script_faults.specs.declared.fault.Fault.TheVariants.{Limit, Unknown, OtherMode, Late, Malformed, BadAlias, UnknownPolicy, BadServer, BadTime, Twice, Undeclared}

-- the number that is printed
abbrev pub code : Fault → ℕ
code Unknown = 1
code BadAlias = 2
code BadServer = 3
code UnknownPolicy = 4
code Twice = 5
code Undeclared = 6
code Malformed = 7
code Limit = 8
code BadTime = 9
code Late = 10
code OtherMode = 11

-- the place in the order in which faults are answered
abbrev pub rank : Fault → ℕ
rank Limit = 0
rank Unknown = 1
rank OtherMode = 2
rank Late = 3
rank Malformed = 4
rank BadAlias = 5
rank UnknownPolicy = 6
rank BadServer = 7
rank BadTime = 8
rank Twice = 9
rank Undeclared = 10

-- of two faults the first in that order
abbrev pub earlier : Option Fault → Option Fault → Option Fault
earlier None other = other
earlier (Some f) None = Some f
earlier (Some f) (Some g) = if nat_le (rank f) (rank g) then Some f else Some g

-- the fault, where what should hold does not
abbrev pub unless : Bool → Fault → Option Fault
unless true fault = None
unless false fault = Some fault

-- A large rehearsal from a number: rounds of writes, reparents, crashes, emergencies and watches over five tablets in two cells. Which round comes is
-- drawn from numbers that only seem to be random: each is made of the one before (a linear congruential generator with the constants of the C standard's
-- example of `rand`). The commands are those of vtctldclient and VTOrc (Vitess manual).
use Rattle.std.specs.Prelude.{ℕ, zero, suc, ◌+◌, ◌*◌, ◌/◌, ◌%◌, ◌==◌, nat_lt, List, [], ◌∷◌, ◌++◌, false, true, Some, None, if◌then◌else◌, codes}
use Rattle.shard_names.specs.declared.alias.Alias.{Alias}
use Rattle.shard_names.specs.declared.shard_name.ShardName.{ShardName}
use Rattle.shard_names.specs.declared.tablet.Tablet.{Tablet}
use Rattle.shard_names.specs.declared.tablet.TabletType.TheVariants.{Replica}
use Rattle.durability.specs.declared.policy.Durability.TheVariants.{SemiSync}
use Rattle.shard_calls.specs.declared.command.Command.{Command}
use Rattle.shard_calls.specs.declared.command.Command.TheVariants as commands
use Rattle.shard_script.specs.declared.script.Action.{Action}
use Rattle.shard_script.specs.declared.script.Action.TheVariants as actions
use Rattle.shard_script.specs.declared.script.Script.{Script}

-- ---- the shard

abbrev pub generated_name : ShardName
generated_name = record { keyspace = codes "gen"; shard = codes "0" }

abbrev pub alias_in : List ℕ → ℕ → Alias
alias_in cell uid = record { cell = cell; uid = uid }

-- the server of a tablet: the UUID 00000000-0000-4000-8000-000000000 and the three digits of the tablet's number, the last two of which are below 10
abbrev pub server_of : ℕ → List ℕ
server_of uid = 0 ∷ 0 ∷ 0 ∷ 0 ∷ 0 ∷ 0 ∷ 64 ∷ 0 ∷ 128 ∷ 0 ∷ 0 ∷ 0 ∷ 0 ∷ 0 ∷ uid / 100 ∷ uid % 100 ∷ []

abbrev pub replica_in : List ℕ → ℕ → Tablet
replica_in cell uid = record { alias = alias_in cell uid; server = server_of uid; kind = Replica }

abbrev pub generated_tablets : List Tablet
generated_tablets =
    replica_in (codes "zone1") 100 ∷ replica_in (codes "zone1") 101 ∷ replica_in (codes "zone1") 102
    ∷ replica_in (codes "zone2") 200 ∷ replica_in (codes "zone2") 201 ∷ []

-- the tablet at this place of the list
abbrev pub drawn_alias : ℕ → Alias
drawn_alias place =
    if place == 0 then alias_in (codes "zone1") 100
    else if place == 1 then alias_in (codes "zone1") 101
    else if place == 2 then alias_in (codes "zone1") 102
    else if place == 3 then alias_in (codes "zone2") 200
    else alias_in (codes "zone2") 201

-- ---- what is drawn

abbrev pub next_seed : ℕ → ℕ
next_seed x = (x * 1103515245 + 12345) % 2147483648

-- what a round does, from 0 to 7
abbrev pub drawn_kind : ℕ → ℕ
drawn_kind x = x / 65536 % 8

-- the tablet that it does it to
abbrev pub drawn_tablet : ℕ → Alias
drawn_tablet x = drawn_alias (x / 1048576 % 5)

-- ---- the lines

abbrev pub once : Command → Action
once command = actions.Play command 1

abbrev pub promotes : Alias → Command
promotes a = commands.Planned generated_name (Some a) None None None true

abbrev pub rescues : Command
rescues = commands.Emergency generated_name None [] None None false

-- a second goes by, and all comes that is under way
abbrev pub quiet_lines : List Action
quiet_lines = actions.Tick 1000 ∷ actions.Settle ∷ []

-- the tablet crashes, the shard is rescued, and the tablet comes back and is looked after
abbrev pub crash_lines : Alias → List Action
crash_lines a = actions.Crash a 0 ∷ once rescues ∷ actions.Restart a ∷ once commands.Vtorc ∷ []

unfoldable pub round_lines : ℕ → Alias → List Action
round_lines kind a =
    if nat_lt kind 4 then actions.Play (commands.Write None) 5 ∷ []
    else if kind == 4 then once (promotes a) ∷ []
    else if kind == 5 then crash_lines a
    else if kind == 6 then once commands.Vtorc ∷ []
    else quiet_lines

abbrev pub round_of : ℕ → List Action
round_of x = round_lines (drawn_kind x) (drawn_tablet x)

-- so many rounds behind the number x
abbrev pub rounds : ℕ → ℕ → List Action
rounds zero x = []
rounds (suc n) x = round_of (next_seed x) ++ rounds n (next_seed x)

abbrev pub first_line : Action
first_line = once (commands.Planned generated_name (Some (alias_in (codes "zone1") 100)) None None None false)

-- the script of so many rounds
abbrev pub generated : ℕ → Script
generated n = record {
  shard = Some generated_name;
  policy = SemiSync;
  clock = None;
  tablets = generated_tablets;
  names = [];
  actions = first_line ∷ rounds n 1;
}

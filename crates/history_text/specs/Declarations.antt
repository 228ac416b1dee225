-- What a script declares of its shard, before what happens to it: the shard and its durability policy, the tablets by type and server, and the
-- clock. Policies and types of tablets go by the names of the Vitess manual, a server by the UUID of its MySQL server (MySQL 8.0 manual).
use Rattle.std.specs.Prelude.{ℕ, List, [], ◌++◌, Option, Some, None, codes}
use Rattle.std.specs.List.{flat_map}
use Rattle.uuid.specs.Text.{hyphenated_text, lower}
use Rattle.durability.specs.Policies.{policy_name}
use Rattle.durability.specs.declared.policy.Durability.{Durability}
use Rattle.shard_names.specs.Alias.{alias_text}
use Rattle.shard_names.specs.ShardName.{shard_name_text}
use Rattle.shard_names.specs.declared.shard_name.ShardName.{ShardName}
use Rattle.shard_names.specs.declared.tablet.Tablet.{Tablet}
use Rattle.shard_names.specs.declared.tablet.TabletType.{TabletType}
use Rattle.shard_names.specs.declared.tablet.TabletType.TheVariants.{Replica, Rdonly, Spare}
use Rattle.tablet_text.specs.Moments.{moment_text}
use Rattle.tablet_text.specs.Stands.{line}

unfoldable pub shard_line : ShardName → Durability → List ℕ
shard_line shard policy = line (codes "shard " ++ shard_name_text shard ++ codes " " ++ policy_name policy)

abbrev pub type_text : TabletType → List ℕ
type_text Replica = codes "replica"
type_text Rdonly = codes "rdonly"
type_text Spare = codes "spare"

unfoldable pub tablet_text : Tablet → List ℕ
tablet_text t = codes "tablet " ++ alias_text t.alias ++ codes " " ++ type_text t.kind ++ codes " " ++ hyphenated_text lower t.server

abbrev pub tablet_lines : List Tablet → List ℕ
tablet_lines tablets = flat_map (λ t. line (tablet_text t)) tablets

unfoldable pub clock_line : ℕ → List ℕ
clock_line moment = line (codes "clock " ++ moment_text moment)

-- the lines of a shard, its tablets as they are listed, and the clock with which it begins
unfoldable pub shard_lines : ShardName → Durability → List Tablet → ℕ → List ℕ
shard_lines shard policy tablets moment = shard_line shard policy ++ tablet_lines tablets ++ clock_line moment

-- a script without a shard declares nothing
abbrev pub declarations_text : Option ShardName → Durability → List Tablet → ℕ → List ℕ
declarations_text None policy tablets moment = []
declarations_text (Some shard) policy tablets moment = shard_lines shard policy tablets moment

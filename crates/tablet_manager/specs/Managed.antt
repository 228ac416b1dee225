-- A tablet as its manager has it (Vitess manual, tablet manager).
use Rattle.std.specs.Prelude.{◌≡◌, ℕ, Bool, ◌&&◌, ◌||◌, ◌==◌, nat_lt, List, if◌then◌else◌}
use Rattle.shard_names.specs.declared.alias.Alias.{Alias}
use Rattle.shard_names.specs.declared.tablet.Tablet.{Tablet}
use Rattle.shard_names.specs.Tablets.{alias_eq}
use Rattle.gtid_sets.specs.declared.entry.Entry.{Entry}
use Rattle.gtid_sets.specs.declared.entry.Kind.{Kind}
use Rattle.gtid_sets.specs.declared.entry.Kind.TheVariants as kind
use Rattle.replication.specs.Acks.{Acks, acked_in, aliases_of}
use Rattle.shard_calls.specs.declared.stand.Stand.{Stand}
use Rattle.shard_calls.specs.declared.group.Group.{Group}
use Rattle.shard_calls.specs.Tablets.{TabletState}
use Rattle.tablet_manager.specs.LogState.{LogState}

-- the tablet, what it knows of its shard, its log and terms, what it does, and what others acknowledged to it
pub record Managed : Type 0 where
  pub me : Tablet
  pub group : Group
  pub log : LogState
  pub stand : Stand
  pub acks : Acks

abbrev pub state_of : Managed → TabletState
state_of m = record { log = m.log.entries; seen = m.log.seen; promised = m.log.promised; stand = m.stand; acked = acked_in m.acks }

abbrev pub with_log : Managed → List Entry → Managed
with_log m entries = record m { log = record m.log { entries = entries } }

-- the tablets that may acknowledge to it
abbrev pub ackers_of : Managed → List Alias
ackers_of m = aliases_of m.group.tablets

-- it is the same tablet of the same shard
abbrev pub SameTablet : Managed → Managed → Type 0
SameTablet old new = (new.me ≡ old.me) × (new.group ≡ old.group)

-- whether the newest row names the alias, where one more entry comes behind a newest row that did so or did not
abbrev pub names_after : ℕ → Bool → Alias → Kind → Bool
names_after newest names a (kind.Write term client number) = names
names_after newest names a (kind.Row term alias) =
    if nat_lt newest term then alias_eq alias a else (nat_lt 0 term && (term == newest) && alias_eq alias a) || names
names_after newest names a kind.Local = names

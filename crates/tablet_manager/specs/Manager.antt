-- What a manager keeps beside a tablet's log: whether the newest row is its own, and the greatest number of its own server. It is one of the tablets of
-- its shard, and has a place for what each of them acknowledges.
use Rattle.std.specs.Prelude.{◌≡◌, Some}
use Rattle.shard_names.specs.Tablets.{AreTablets, tablet_of}
use Rattle.replication.specs.Acks.{aliases_of}
use Rattle.gtid_sets.specs.Logs.{greatest_number, newest_row_names}
use Rattle.tablet_manager.specs.Managed.{Managed}
use Rattle.tablet_manager.specs.declared.manager.Manager.TheInside.{Inside}

abbrev pub managed_of : Inside → Managed
managed_of a = record { me = a.me; group = record { tablets = a.tablets.items; policy = a.policy }; log = a.log; stand = a.stand; acks = a.acks }

pub record IsKept (a : Inside) : Type 0 where
  pub shard : AreTablets a.tablets.items
  pub declared : tablet_of a.tablets.items a.me.alias ≡ Some a.me
  pub aliases : a.acks.aliases ≡ aliases_of a.tablets.items
  pub newest : a.newest_is_own ≡ newest_row_names a.log.entries a.me.alias
  pub number : a.greatest ≡ greatest_number a.me.server a.log.entries

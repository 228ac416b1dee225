-- A tablet's log (MySQL 8.0 manual, "The Binary Log") and the terms that it has seen and promised (Sougoumarane, "Consensus algorithms at scale").
use Rattle.std.specs.Prelude.{ℕ, List}
use Rattle.gtid_sets.specs.declared.entry.Entry.{Entry}

pub record LogState : Type 0 where
  pub entries : List Entry
  pub seen : ℕ
  pub promised : ℕ

-- What a term intends. After Sougoumarane's "Consensus algorithms at scale": a term says whom it promotes before it does.
use Rattle.std.specs.Prelude.{ℕ, Bool, false, not, nat_lt, Option, Some, None}
use Rattle.std.specs.List.{list_any}
use Rattle.shard_names.specs.declared.alias.Alias.{Alias}
use Rattle.shard_names.specs.Tablets.{alias_eq}
use Rattle.topo_lock.specs.Topology.{Topology, intent_of}
use Rattle.topo_lock.specs.declared.intent.Intent.{Intent}

abbrev pub is_alias_of : Option Intent → Alias → Bool
is_alias_of None a = false
is_alias_of (Some i) a = alias_eq i.alias a

-- the term intends this tablet, which only the command that took this term can have said
abbrev pub intends : Topology → ℕ → Alias → Bool
intends topo u a = is_alias_of (intent_of topo u) a

-- no earlier term intends anything, so nothing can have been told in one
abbrev pub is_first : Topology → ℕ → Bool
is_first topo u = not (list_any (λ i. nat_lt i.term u) topo.intents)

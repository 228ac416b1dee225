pub mod AliasLemmas
pub mod TabletLemmas

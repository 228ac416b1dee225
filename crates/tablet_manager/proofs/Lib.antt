pub mod RowLemmas
pub mod ManagedLemmas
pub mod PlaceLemmas
pub mod StreamLemmas

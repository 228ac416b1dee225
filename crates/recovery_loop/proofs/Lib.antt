pub mod WalkLemmas
pub mod WatchExampleProofs
pub mod DecidedLemmas

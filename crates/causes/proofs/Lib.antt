pub mod RowLemmas
pub mod UndoLemmas
pub mod WritingLemmas
pub mod EmergencyLemmas
pub mod WatchLemmas

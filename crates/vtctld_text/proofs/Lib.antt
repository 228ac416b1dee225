pub mod NoteLemmas
pub mod SummaryLemmas

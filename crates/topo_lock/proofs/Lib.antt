pub mod IntentLemmas
pub mod BackLemmas
pub mod MarkLemmas
pub mod MoveLemmas
pub mod AnswerLemmas

pub mod TurnLemmas
pub mod LookLemmas

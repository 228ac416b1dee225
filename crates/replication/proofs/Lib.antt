pub mod AckLemmas
pub mod GreatestLemmas
pub mod ToldLemmas
pub mod LawLemmas
pub mod TestLemmas

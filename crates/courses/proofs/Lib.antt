pub mod WalkLemmas
pub mod ExampleProofs

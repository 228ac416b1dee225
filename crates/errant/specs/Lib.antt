pub mod Split
pub mod Errant

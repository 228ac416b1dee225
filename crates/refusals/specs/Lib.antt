pub mod Opened
pub mod Reached
pub mod Entries

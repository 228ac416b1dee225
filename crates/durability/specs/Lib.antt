pub mod Rules
pub mod Policies
pub mod Lawful
pub mod Sets
pub mod Counting

pub mod Kept
pub mod Refused
pub mod Following
pub mod Planned
pub mod Emergency

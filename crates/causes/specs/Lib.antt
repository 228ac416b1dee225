pub mod Undoing
pub mod Writing
pub mod Emergency
pub mod Watching

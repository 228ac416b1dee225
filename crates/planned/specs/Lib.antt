pub mod Leaving
pub mod Course
pub mod Late
pub mod Laws
pub mod Follows

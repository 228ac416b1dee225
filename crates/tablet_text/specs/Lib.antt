pub mod Moments
pub mod Stands
pub mod Refusals
pub mod Json

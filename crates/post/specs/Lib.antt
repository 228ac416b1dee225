pub mod Directions
pub mod Waiting
pub mod Posted
pub mod Kept
pub mod Laws

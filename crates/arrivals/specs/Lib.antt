pub mod Addressed
pub mod Arrivals
pub mod Feeding
pub mod Ways
pub mod Receivers
pub mod GivingUp
pub mod Laws
pub mod Offers

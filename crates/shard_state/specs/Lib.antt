pub mod State
pub mod Managers
pub mod InPlace

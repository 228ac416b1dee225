pub mod Padded
pub mod Options
pub mod Lists
pub mod Faults

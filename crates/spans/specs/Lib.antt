pub mod Lists
pub mod Needed
pub mod Copies

pub mod Names
pub mod Aliases
pub mod Lines
pub mod Script
pub mod Faults
pub mod Grammar
pub mod Generator

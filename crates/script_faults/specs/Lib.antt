pub mod Faults
pub mod Slots
pub mod Options
pub mod Lines

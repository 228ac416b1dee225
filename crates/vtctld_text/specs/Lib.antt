pub mod Findings
pub mod Texts
pub mod Notes
pub mod Summary

pub mod LogState
pub mod PlainLog
pub mod Managed
pub mod Manager
pub mod Rows

pub mod Orders
pub mod Events
pub mod Replies
pub mod Declarations
pub mod Histories
pub mod Laws
pub mod Names
pub mod Told

pub mod Alias
pub mod ShardName
pub mod Tablets

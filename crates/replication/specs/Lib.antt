pub mod Acks
pub mod Places
pub mod Told
pub mod Streams
pub mod Laws

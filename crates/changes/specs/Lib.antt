pub mod Few
pub mod Sound
pub mod Places
pub mod Makes
pub mod Laws

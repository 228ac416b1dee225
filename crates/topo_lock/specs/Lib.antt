pub mod Topology
pub mod State
pub mod Topo
pub mod Moves
pub mod Laws

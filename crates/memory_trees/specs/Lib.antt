pub mod Nodes
pub mod Paths
pub mod Maps
pub mod Codes

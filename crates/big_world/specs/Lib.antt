pub mod Numbers
pub mod Pieces
pub mod Topology
pub mod World
pub mod Feed

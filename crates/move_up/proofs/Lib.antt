pub mod Above
pub mod InTrees
pub mod Listing
pub mod Moving

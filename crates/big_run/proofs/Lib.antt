pub mod Taken
pub mod Counted
pub mod Asked
pub mod World
pub mod Whole

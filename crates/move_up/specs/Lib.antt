pub mod Asked
pub mod Moved

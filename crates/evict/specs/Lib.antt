pub mod Evictions
pub mod Putting
pub mod Standing

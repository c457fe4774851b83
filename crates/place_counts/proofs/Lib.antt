pub mod Counts
pub mod Best

pub mod Runs
pub mod Work
pub mod Spreading
pub mod Turning
pub mod Bars

pub mod Fresh
pub mod Ran

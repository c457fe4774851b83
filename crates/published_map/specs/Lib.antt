pub mod Shared
pub mod Version
pub mod Rows
pub mod Changes
pub mod Between
pub mod Kept
pub mod Gathered

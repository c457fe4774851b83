pub mod Cutting
pub mod Rolling

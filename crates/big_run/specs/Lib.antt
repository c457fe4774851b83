pub mod Summary
pub mod Replies
pub mod Publishing
pub mod Working
pub mod Runs
pub mod Putting

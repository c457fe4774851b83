pub mod Replies
pub mod Turns
pub mod Stream
pub mod Calls
pub mod Steps
pub mod Moments

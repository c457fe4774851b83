pub mod Tellings
pub mod Courses
pub mod Chains
pub mod Together
mod Followed
pub mod Counted
pub mod Fresh
pub mod Nexts
pub mod Opened
pub mod Agree
pub mod Marks
pub mod Merging
pub mod Giving
pub mod Several
mod Taking

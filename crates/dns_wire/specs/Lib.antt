pub mod Room
pub mod Edns
pub mod Wire
pub mod Message
pub mod Steps
pub mod View
pub mod Spelling

pub mod Wire
pub mod Names

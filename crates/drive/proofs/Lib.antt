mod Told
pub mod Joined
pub mod Together
mod Served
pub mod Holding
pub mod Noted
pub mod Finished
mod StreamFinished
pub mod Growing
mod Several
pub mod Events
pub mod Ends

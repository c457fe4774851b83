pub mod Prefixes
pub mod Going
pub mod Runs
pub mod Calls
pub mod Machines
pub mod Keeps
pub mod Minded
mod Rows
pub mod Stated
pub mod Noted

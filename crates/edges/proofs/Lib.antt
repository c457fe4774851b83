pub mod LimitsAre
mod Loaded
pub mod Ports
pub mod Puts
pub mod Leasts
pub mod Found
pub mod Told
pub mod Going
pub mod Turns
pub mod Ordered
pub mod Rows
pub mod Ways

pub mod Lanes
pub mod Worlds
pub mod Events
pub mod Takings
pub mod Minded

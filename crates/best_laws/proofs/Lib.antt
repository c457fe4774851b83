pub mod Sums
pub mod Offers
pub mod Tops
pub mod Laminar
pub mod Refused
pub mod Wants
pub mod Step
pub mod Ended

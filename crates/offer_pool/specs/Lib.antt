pub mod Holdings
pub mod Seats
pub mod Table
pub mod Filed

pub mod Marks
pub mod Repaired
pub mod Resumed
pub mod Determined
pub mod Laws
pub mod Ways

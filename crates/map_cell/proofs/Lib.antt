pub mod Fronts
pub mod Adding
pub mod Steps
pub mod Shown
pub mod Counts
pub mod Given

pub mod Lessening
pub mod Sameness
pub mod Removing
pub mod Turning

pub mod Marking
pub mod Middle
pub mod Spread
pub mod Back
pub mod Below
pub mod Agree
pub mod Ways

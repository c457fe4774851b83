pub mod Split
pub mod Fronts
pub mod Laws

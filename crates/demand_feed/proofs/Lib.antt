mod LimitsAre
mod Digits
mod Spaces
mod FileLines
pub mod Fronts
pub mod Tasks
pub mod Tellings
pub mod Worked
pub mod Ends
pub mod Ledgers
pub mod Octets
pub mod Chains
pub mod FileLaws
pub mod FileRows

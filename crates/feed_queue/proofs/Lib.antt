pub mod Lists
pub mod Rules
pub mod Markets
pub mod Sendings
pub mod Wholes

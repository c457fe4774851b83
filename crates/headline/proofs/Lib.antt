pub mod Lists
pub mod Trees
mod Rows
pub mod Good
pub mod Best
pub mod Repaired
pub mod Events
pub mod Order
pub mod Minding
pub mod Serving
pub mod Changes
pub mod Streams
pub mod Texts
pub mod Held
pub mod Twice
pub mod Both

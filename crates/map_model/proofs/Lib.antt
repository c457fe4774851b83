pub mod Markets
pub mod Paths
pub mod Keys
pub mod Units
pub mod MapForm
pub mod RowTests
pub mod Decide
mod Rows
pub mod Trees
pub mod Shapes
pub mod Batches
pub mod NameForm
pub mod Rising
pub mod Turns
pub mod Roots
pub mod Refused
mod StateRows
mod TreeRows

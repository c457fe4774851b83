pub mod Histories
pub mod Ends
pub mod Rules
pub mod Tags
pub mod Additions
pub mod Cell
pub mod Rows
pub mod Doors

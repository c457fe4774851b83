pub mod Items
pub mod Rule
pub mod Ends
pub mod Feeder
pub mod Sending
pub mod Whole

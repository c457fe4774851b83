pub mod Market
pub mod Allocation
pub mod Progress
pub mod Batch
pub mod Rows
pub mod Holding

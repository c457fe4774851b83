pub mod LimitsAre
pub mod Splits
pub mod Batches
pub mod Rows

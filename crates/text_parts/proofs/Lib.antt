pub mod Splits
pub mod Lines
pub mod Digits

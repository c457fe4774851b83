pub mod Numbers
pub mod Groups
pub mod Addresses
pub mod Written

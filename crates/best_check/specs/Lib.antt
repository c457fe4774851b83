pub mod Fullness
pub mod Tables
pub mod Leads
pub mod Open

pub mod Tables
pub mod Nexts
pub mod Above
pub mod Fullness
pub mod Leading
pub mod Pushed
pub mod Open
pub mod Barred

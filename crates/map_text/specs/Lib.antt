pub mod Texts
pub mod Words
pub mod Lines
pub mod Reading
pub mod Reader
pub mod Writing
pub mod Named
pub mod Cutting

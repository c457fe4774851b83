pub mod Below
pub mod Circles
pub mod Nearest
pub mod Laws

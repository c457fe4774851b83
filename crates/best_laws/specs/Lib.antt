pub mod Ahead
pub mod Tops

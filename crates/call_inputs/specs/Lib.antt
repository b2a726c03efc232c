pub mod Inputs
pub mod Tops

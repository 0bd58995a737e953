pub mod Masks
pub mod Layers

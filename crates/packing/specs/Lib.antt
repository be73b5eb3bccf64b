pub mod Packing
pub mod Meets

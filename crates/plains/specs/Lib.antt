pub mod Plains
pub mod Meets

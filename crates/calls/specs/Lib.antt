pub mod Ones
pub mod Meets

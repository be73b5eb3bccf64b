pub mod Letters
pub mod Meets

pub mod Walks
pub mod Paces
pub mod Meets

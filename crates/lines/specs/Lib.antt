pub mod Lines
pub mod Ranks
pub mod Mine
pub mod Known
pub mod Meets

pub mod Finding
pub mod Spots
pub mod Pacing
pub mod Stepping
pub mod Checking

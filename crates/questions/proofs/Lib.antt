pub mod Comparing
pub mod Dipping

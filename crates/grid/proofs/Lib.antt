pub mod Paired
pub mod Sums
pub mod Turns
pub mod Spanning

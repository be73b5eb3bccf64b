pub mod Blocks
pub mod Makes
pub mod Standing
pub mod Sorts
pub mod Puts
pub mod Says

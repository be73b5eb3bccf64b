pub mod Routes
pub mod Fitting
pub mod Bits
pub mod Ones

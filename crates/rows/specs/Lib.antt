pub mod Calls
pub mod Plains
pub mod Rows
pub mod Strings
pub mod Meets

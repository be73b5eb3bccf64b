pub mod Ends
pub mod Overs
pub mod Rows

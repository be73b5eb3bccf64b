pub mod Layouts
pub mod Listed
pub mod Wholes
pub mod Searches
pub mod Knowing
pub mod Reading

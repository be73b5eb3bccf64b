pub mod Seen
pub mod ResultWords
pub mod Meets

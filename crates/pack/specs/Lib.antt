pub mod Layout
pub mod Whole
pub mod Parts
pub mod Replies
pub mod Meets

pub mod Made
pub mod Replies
pub mod Stands
pub mod Parts
pub mod Meets

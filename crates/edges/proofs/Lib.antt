pub mod Shows
pub mod Words

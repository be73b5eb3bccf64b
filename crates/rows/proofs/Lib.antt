pub mod Plains
pub mod Along
pub mod PlainRows

pub mod One
pub mod Settled
pub mod Carried
pub mod Exported
pub mod Packs
pub mod Whole

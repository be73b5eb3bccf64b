pub mod Pastes
pub mod Wholes

pub mod Lining
pub mod Cutting
pub mod Ranking
pub mod Mines
pub mod Knowing

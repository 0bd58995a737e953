pub mod Ranking
pub mod Lines

pub mod News
pub mod Counting
mod Derivations
mod Joins
mod Verdicts
mod Steps
pub mod Worked
